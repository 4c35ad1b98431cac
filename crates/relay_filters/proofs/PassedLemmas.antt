-- What passes of a request, by its calls.
--
--   passed_few       no more tasks pass than there are calls
--   told_is_last     a call that was told the end of the request is the last one
--   told_in_front    the calls in front of another were told no end
use Rattle.std.proofs.Common.{◌≡◌, ◌≤◌, ◌+◌, Bool, true, false, ◌||◌, if◌then◌else◌, List, [], ◌∷◌, ◌++◌, length, length-append, Option, Some, None, is_some, option_to_list, arith, refl}
use Rattle.std.specs.List.{list_any}
use Rattle.relay_tasks.specs.declared.log.Item.{Item}
use Rattle.relay_tasks.specs.declared.log.Item.TheVariants as item
use Rattle.relay_tasks.specs.declared.log.LogEntry.{LogEntry}
use Rattle.relay_tasks.specs.declared.task.HttpTask.{HttpTask}
use Rattle.relay_core.specs.Piece.{task_put_of}
use Rattle.relay_filters.specs.Request.{ToldLast, has_piece, is_end_by, is_told_end, passed, passes, piece_of, put_in_item}

-- one at most
one_at_most : (o : Option HttpTask) → length (option_to_list o) ≤ 1
one_at_most None = omega arith
one_at_most (Some task) = omega arith

-- what was left puts one task at most
put_one : (given : Bool) (left : Item) → length (put_in_item given left) ≤ 1
put_one given (item.Piece left end) =
    one_at_most (task_put_of false (piece_of false end end given left))
put_one given other = omega arith

-- and so does a call
passes_one : (ended : Bool) (e : LogEntry) → length (passes ended e) ≤ 1
passes_one ended e = by_flag (ended || is_some e.error)
  where
    by_flag : (b : Bool)
        → length (if b then [] else put_in_item (has_piece e.input) e.output) ≤ 1
    by_flag true = omega arith
    by_flag false = put_one (has_piece e.input) e.output

-- no more tasks pass than there are calls
pub passed_few : (ended : Bool) (es : List LogEntry) → length (passed ended es) ≤ length es
passed_few ended [] = omega arith
passed_few ended (e ∷ es) =
    let one : length (passes ended e) ≤ 1 = passes_one ended e in
    let few : length (passed (ended || is_end_by e) es) ≤ length es =
    passed_few (ended || is_end_by e) es in
    let both : length (passed ended (e ∷ es))
    ≡ length (passes ended e) + length (passed (ended || is_end_by e) es) =
    length-append (passes ended e) (passed (ended || is_end_by e) es) in
    let more : length (e ∷ es) ≡ length es + 1 = omega arith in
    omega (arith, one, few, both, more)

-- a call that was told the end is the last one
pub told_is_last : (before after : List LogEntry) (e : LogEntry) → ToldLast (before ++ e ∷ after)
    → is_told_end e ≡ true → after ≡ []
told_is_last [] after e last told = last.0 told
told_is_last (x ∷ before) after e last told = told_is_last before after e last.1 told

-- the calls in front of another were told no end
pub told_in_front : (before after : List LogEntry) (e : LogEntry) → ToldLast (before ++ e ∷ after)
    → list_any is_told_end before ≡ false
told_in_front [] after e last = refl
told_in_front (x ∷ before) after e last =
    by_told (is_told_end x) refl (told_in_front before after e last.1)
  where
    none_behind : (before : List LogEntry) → before ++ e ∷ after ≡ [] → ⊥
    none_behind [] none = cc
    none_behind (y ∷ before) none = cc

    by_told : (b : Bool) → is_told_end x ≡ b → list_any is_told_end before ≡ false
        → (is_told_end x || list_any is_told_end before) ≡ false
    by_told true told rest = absurd (none_behind before (last.0 told))
    by_told false told rest = rw told rest
