-- The end of a request that the filter let pass: an end is among its pieces where it has ended.
--
--   passed_ends   an end is among what calls let pass exactly where one of them ended the request
use Rattle.std.proofs.Common.{◌≡◌, Bool, true, false, not, List, [], ◌∷◌, Option, Some, None, refl, sym, ap, ◌∙◌, if◌then◌else◌}
use Rattle.std.specs.Prelude.{◌||◌, ◌&&◌, is_none, is_some, option_to_list}
use Rattle.std.specs.List.{list_any}
use Rattle.std.proofs.lemmas.List.Folds.{list_any-append}
use Rattle.relay_tasks.specs.declared.error.Error.{Error}
use Rattle.relay_tasks.specs.declared.log.Item.{Item}
use Rattle.relay_tasks.specs.declared.log.Item.TheVariants as item
use Rattle.relay_tasks.specs.declared.log.LogEntry.{LogEntry}
use Rattle.relay_tasks.specs.declared.task.HttpTask.{HttpTask}
use Rattle.relay_tasks.specs.declared.task.HttpTask.TheVariants as task
use Rattle.relay_tasks.specs.Task.{is_end}
use Rattle.relay_core.specs.Piece.{is_empty}
use Rattle.relay_filters.specs.Request.{ended_by, has_piece, is_end_by, is_end_in, passed, passes, put_in_item}

-- a request that has ended stays so
ended_stays : (es : List LogEntry) → ended_by true es ≡ true
ended_stays [] = refl
ended_stays (e ∷ es) = ended_stays es

-- a piece that is an end is put, whether or not it has bytes
put_end : (none end : Bool) (t : HttpTask) → is_end t ≡ end
    → list_any is_end (option_to_list (if none && not end then None else Some t)) ≡ end
put_end true true t is = ap (λ (b : Bool). b || false) is
put_end true false t is = refl
put_end false true t is = ap (λ (b : Bool). b || false) is
put_end false false t is = ap (λ (b : Bool). b || false) is

-- what was left puts an end where it ends the request
item_end : (given : Bool) (left : Item)
    → list_any is_end (put_in_item given left) ≡ is_end_in given left
item_end given (item.Piece left end) = put_end (is_empty left) _ (task.Body left _) refl
item_end given (item.Request head) = refl
item_end given (item.Response head end) = refl
item_end given (item.Trailers fields) = refl
item_end given item.Nothing = refl
item_end given (item.Message bytes end) = refl
item_end given (item.Answer says) = refl
item_end given (item.Addressed peer reused) = refl
item_end given (item.Failure error) = refl
item_end given (item.Code code reused) = refl
item_end given (item.Status purged) = refl
item_end given (item.Action action) = refl
item_end given (item.Text text) = refl
item_end given (item.Kept kept) = refl
item_end given (item.Injected injected) = refl

-- a call lets an end pass where it ended the request
call_end : (e : LogEntry) → list_any is_end (passes false e) ≡ is_end_by e
call_end e = on e.error
  where
    on : (error : Option Error)
        → list_any is_end
        (if false || is_some error then [] else put_in_item (has_piece e.input) e.output)
        ≡ (is_none error && is_end_in (has_piece e.input) e.output)
    on None = item_end (has_piece e.input) e.output
    on (Some error) = refl

-- an end is among what the calls let pass exactly where one of them ended the request
pub passed_ends : (es : List LogEntry) → list_any is_end (passed false es) ≡ ended_by false es
passed_ends [] = refl
passed_ends (e ∷ es) =
    list_any-append is_end (passes false e) (passed (is_end_by e) es)
    ∙ ap (λ (b : Bool). b || list_any is_end (passed (is_end_by e) es)) (call_end e)
    ∙ on (is_end_by e) (passed_ends es)
  where
    on : (b : Bool) → list_any is_end (passed false es) ≡ ended_by false es
        → (b || list_any is_end (passed b es)) ≡ ended_by b es
    on true rest = sym (ended_stays es)
    on false rest = rest
