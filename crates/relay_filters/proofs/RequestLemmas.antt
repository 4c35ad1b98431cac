-- The request by its calls, with one call more behind.
use Rattle.std.proofs.Common.{◌≡◌, ℕ, ◌≤◌, ◌+◌, Bool, true, false, not, ◌&&◌, ◌||◌, ◌==◌, if◌then◌else◌, List, [], ◌∷◌, ◌++◌, Option, Some, None, is_some, is_none, unwrap_or, option_to_list, length, length-append, arith, eqb-true, refl, sym, ap, ◌∙◌, append-nil, append_assoc, subst}
use Rattle.std.specs.List.{list_any}
use Rattle.std.proofs.lemmas.List.Elements.{All-push}
use Rattle.std.proofs.lemmas.List.Folds.{list_any-append}
use Rattle.relay_tasks.specs.Task.{is_end}
use Rattle.relay_tasks.specs.declared.error.Error.{Error}
use Rattle.relay_tasks.specs.declared.log.Item.{Item}
use Rattle.relay_tasks.specs.declared.log.Item.TheVariants as item
use Rattle.relay_tasks.specs.declared.log.LogEntry.{LogEntry}
use Rattle.relay_tasks.specs.declared.task.HttpTask.{HttpTask}
use Rattle.relay_tasks.specs.declared.task.HttpTask.TheVariants as task
use Rattle.relay_core.specs.Moves.{EndsLast}
use Rattle.relay_core.specs.Piece.{is_empty, put_of, task_put_of}
use Rattle.relay_core.specs.declared.piece.Piece.{Piece}
use Rattle.relay_filters.specs.Request.{PassesRequest, PieceCall, ToldLast, body_of, bytes_in, bytes_of, end_in, ended_by, given_to, is_end_by, is_end_in, is_told_end, passed, passes, has_piece, piece_of, put_in_item, takes_away}

-- ---- lists

-- the bytes that tasks bring, of two lists
body_append : (xs ys : List HttpTask) → body_of (xs ++ ys) ≡ body_of xs ++ body_of ys
body_append [] ys = refl
body_append (x ∷ xs) ys =
    ap (λ (b : List ℕ). bytes_of x ++ b) (body_append xs ys)
    ∙ sym (append_assoc (bytes_of x) (body_of xs) (body_of ys))

-- what the calls were given, with one more
given_push : (es : List LogEntry) (e : LogEntry)
    → given_to (es ++ e ∷ []) ≡ given_to es ++ bytes_in e.input
given_push [] e = append-nil (bytes_in e.input)
given_push (x ∷ es) e =
    ap (λ (b : List ℕ). bytes_in x.input ++ b) (given_push es e)
    ∙ sym (append_assoc (bytes_in x.input) (given_to es) (bytes_in e.input))

-- what passes by the calls, with one more
passed_push : (ended : Bool) (es : List LogEntry) (e : LogEntry)
    → passed ended (es ++ e ∷ []) ≡ passed ended es ++ passes (ended_by ended es) e
passed_push ended [] e = append-nil (passes ended e)
passed_push ended (x ∷ es) e =
    ap (λ (xs : List HttpTask). passes ended x ++ xs) (passed_push (ended || is_end_by x) es e)
    ∙ sym (append_assoc (passes ended x) (passed (ended || is_end_by x) es)
    (passes (ended_by (ended || is_end_by x) es) e))

-- whether the request has ended behind the calls, with one more
ended_push : (ended : Bool) (es : List LogEntry) (e : LogEntry)
    → ended_by ended (es ++ e ∷ []) ≡ (ended_by ended es || is_end_by e)
ended_push ended [] e = refl
ended_push ended (x ∷ es) e = ended_push (ended || is_end_by x) es e

-- ---- a piece

and_left : (a b : Bool) → (a && b) ≡ true → a ≡ true
and_left true b h = refl
and_left false b h = cc

-- an optional task brings the bytes, or there are none
bytes_if : (b : Bool) (t : HttpTask) (bytes : List ℕ) → bytes_of t ≡ bytes → (b ≡ true → bytes ≡ [])
    → body_of (option_to_list (if b then None else Some t)) ≡ bytes
bytes_if true t bytes is none = sym (none refl)
bytes_if false t bytes is none = append-nil (bytes_of t) ∙ is

-- an empty piece has no bytes
none_there : (bytes : Option (List ℕ)) (end : Bool) → (is_empty bytes && not end) ≡ true
    → unwrap_or bytes [] ≡ []
none_there None end isnt = refl
none_there (Some []) end isnt = refl
none_there (Some (b ∷ bytes)) end isnt = absurd (some_bytes b bytes end isnt)
  where
    some_bytes : (b : ℕ) (bytes : List ℕ) (end : Bool)
        → ((length (b ∷ bytes) == 0) && not end) ≡ true → ⊥
    some_bytes b bytes end isnt =
        let e : length (b ∷ bytes) ≡ 0 = eqb-true (length (b ∷ bytes)) 0
        (and_left (length (b ∷ bytes) == 0) (not end) isnt) in omega arith

-- the bytes that a piece puts are its own
bytes_put : (u : Bool) (piece : Piece) → body_of (put_of u piece) ≡ unwrap_or piece.bytes []
bytes_put true piece =
    bytes_if (is_empty piece.bytes && not piece.upstream_end)
    (task.UpgradedBody piece.bytes piece.upstream_end) (unwrap_or piece.bytes []) refl
    (none_there piece.bytes piece.upstream_end)
bytes_put false piece =
    bytes_if (is_empty piece.bytes && not piece.upstream_end)
    (task.Body piece.bytes piece.upstream_end) (unwrap_or piece.bytes []) refl
    (none_there piece.bytes piece.upstream_end)

-- ---- how many calls

-- no more than came
few_still : (came came' : List HttpTask) (es : List LogEntry) → came' ≡ came
    → length es ≤ length came → length es ≤ length came'
few_still came came' es is few = rw is few

-- a task that there is is one
one_there : (o : Option HttpTask) → is_some o ≡ true → length (option_to_list o) ≡ 1
one_there None some = cc
one_there (Some task) some = refl

-- one call more, with a piece that puts a task
few_push : (u : Bool) (piece : Piece) (came came' : List HttpTask) (es : List LogEntry)
    (e : LogEntry) → came' ≡ came ++ put_of u piece → is_some (task_put_of u piece) ≡ true
    → length es ≤ length came → length (es ++ e ∷ []) ≤ length came'
few_push u piece came came' es e is puts few =
    let one : length (put_of u piece) ≡ 1 = one_there (task_put_of u piece) puts in
    let more : length came' ≡ length came + length (put_of u piece) =
    ap (λ (l : List HttpTask). length l) is ∙ length-append came (put_of u piece) in
    let longer : length (es ++ e ∷ []) ≡ length es + 1 = length-append es (e ∷ []) in
    omega (arith, few, one, more, longer)

-- a piece more, and no call
few_more : (came came' more : List HttpTask) (es : List LogEntry) → came' ≡ came ++ more
    → length es ≤ length came → length es ≤ length came'
few_more came came' more es is few =
    let longer : length came' ≡ length came + length more =
    ap (λ (l : List HttpTask). length l) is ∙ length-append came more in
    omega (arith, few, longer)

-- ---- the end of what came

-- an end is the last of tasks with one more, where none of those before was one
pub ends_one : (xs : List HttpTask) (o : Option HttpTask) → (list_any is_end xs ≡ true → ⊥)
    → EndsLast (xs ++ option_to_list o)
ends_one xs o none [] behind is ends = absurd (cc)
ends_one [] None none (f ∷ fs) behind is ends = absurd (cc)
ends_one [] (Some t) none (f ∷ fs) behind is ends = none_behind fs behind (one_tail is)
  where
    one_tail : t ∷ [] ≡ f ∷ (fs ++ behind) → fs ++ behind ≡ []
    one_tail same = cc

    none_behind : (fs behind : List HttpTask) → fs ++ behind ≡ [] → behind ≡ []
    none_behind [] behind same = same
    none_behind (y ∷ ys) behind same = absurd (cc)
ends_one (x ∷ xs) o none (f ∷ fs) behind is ends =
    ends_one xs o
    (λ more. none (behind_it (is_end x) (list_any is_end xs) more)) fs behind (same_tail is)
    (not_first (is_end f) (list_any is_end fs)
    (λ first. none (in_front (is_end x) (list_any is_end xs)
    (ap is_end (same_first is) ∙ first))) ends)
  where
    same_first : x ∷ (xs ++ option_to_list o) ≡ f ∷ (fs ++ behind) → x ≡ f
    same_first same = cc

    same_tail : x ∷ (xs ++ option_to_list o) ≡ f ∷ (fs ++ behind)
        → xs ++ option_to_list o ≡ fs ++ behind
    same_tail same = cc

    in_front : (a b : Bool) → a ≡ true → (a || b) ≡ true
    in_front true b is = refl
    in_front false b is = absurd (cc)

    behind_it : (a b : Bool) → b ≡ true → (a || b) ≡ true
    behind_it true b is = refl
    behind_it false b is = is

    not_first : (a b : Bool) → (a ≡ true → ⊥) → (a || b) ≡ true → b ≡ true
    not_first true b isnt either = absurd (isnt refl)
    not_first false b isnt either = either

-- so it is of what came with one piece more
ends_push : (u : Bool) (piece : Piece) (came came' : List HttpTask)
    → came' ≡ came ++ put_of u piece → (list_any is_end came ≡ true → ⊥) → EndsLast came'
ends_push u piece came came' is first =
    subst (λ (l : List HttpTask). EndsLast l) (sym is)
    (ends_one came (task_put_of u piece) first)

-- ---- the request

-- what came of the request is the same
pub same_request : (a ended : Bool) (es : List LogEntry) (on : Type 0)
    (came came' put put' : List HttpTask) → came' ≡ came → put' ≡ put
    → PassesRequest a ended es on came put → PassesRequest a ended es on came' put'
same_request a ended es on came came' put put' is is' r =
    record {
      each = r.each;
      few = few_still came came' es is r.few;
      ends_last = subst (λ (l : List HttpTask). EndsLast l) (sym is) r.ends_last;
      rest = r.rest;
      read = ap body_of is ∙ r.read;
      all = r.all;
      told = λ t. ap (list_any is_end) is ∙ r.told t;
      told_last = r.told_last;
      told_whole = r.told_whole;
      left = is' ∙ r.left;
      is_ended = r.is_ended;
    }

-- what a call was given, joined with what the calls before it were
module _ (u : Bool) (piece : Piece) (end : Bool) (came came' : List HttpTask) (es : List LogEntry)
    (e : LogEntry) (rest : List ℕ) (read : body_of came ≡ given_to es ++ rest) (none : rest ≡ [])
    (is : came' ≡ came ++ put_of u piece) (was : e.input ≡ item.Piece piece.bytes end)
  where
    read_on : body_of came' ≡ given_to (es ++ e ∷ []) ++ []
    read_on =
        ap body_of is ∙ body_append came (put_of u piece)
        ∙ ap (λ (b : List ℕ). b ++ body_of (put_of u piece))
        (read ∙ ap (λ (b : List ℕ). given_to es ++ b) none ∙ append-nil (given_to es))
        ∙ ap (λ (b : List ℕ). given_to es ++ b)
        (bytes_put u piece ∙ sym (ap bytes_in was))
        ∙ sym (append-nil (given_to (es ++ e ∷ [])) ∙ given_push es e)

-- one of two
or_first : (a b : Bool) → a ≡ true → (a || b) ≡ true
or_first true b is = refl
or_first false b is = cc

-- an end that came stays
end_stays : (came came' more : List HttpTask) → came' ≡ came ++ more
    → list_any is_end came ≡ true → list_any is_end came' ≡ true
end_stays came came' more is ends =
    ap (list_any is_end) is ∙ list_any-append is_end came more
    ∙ or_first (list_any is_end came) (list_any is_end more) ends

-- the calls were told the end only where it came, with one more
told_push : (es : List LogEntry) (e : LogEntry) (came came' more : List HttpTask)
    (bytes : Option (List ℕ)) (end : Bool) → came' ≡ came ++ more
    → (list_any is_told_end es ≡ true → list_any is_end came ≡ true)
    → (end ≡ true → list_any is_end came' ≡ true) → e.input ≡ item.Piece bytes end
    → list_any is_told_end (es ++ e ∷ []) ≡ true → list_any is_end came' ≡ true
told_push es e came came' more bytes end is told ends was so =
    by_last (list_any is_told_end es) refl
    (sym (list_any-append is_told_end es (e ∷ [])) ∙ so)
  where
    only : (a : Bool) → (a || false) ≡ true → a ≡ true
    only true is = refl
    only false is = cc

    by_last : (before : Bool) → list_any is_told_end es ≡ before
        → (before || (is_told_end e || false)) ≡ true → list_any is_end came' ≡ true
    by_last true was_told so = end_stays came came' more is (told was_told)
    by_last false none so = ends (sym (ap end_in was) ∙ only (is_told_end e) so)

-- one of two
or_last : (a b : Bool) → b ≡ true → (a || b) ≡ true
or_last true b is = refl
or_last false b is = is

-- a call behind calls that were told no end
last_push : (es : List LogEntry) (e : LogEntry) → (list_any is_told_end es ≡ true → ⊥)
    → ToldLast (es ++ e ∷ [])
last_push [] e none = (λ t. refl, tt)
last_push (x ∷ es) e none = (
  λ t. absurd (none (or_first (is_told_end x) (list_any is_told_end es) t)),
  last_push es e (λ t. none (or_last (is_told_end x) (list_any is_told_end es) t)),
)

-- what was left of a piece ends the request by the call that left it
ends_of : (error : Option Error) (input output : Item) (bytes left : Option (List ℕ)) (end : Bool)
    → error ≡ None → input ≡ item.Piece bytes end → output ≡ item.Piece left end
    → (is_none error && is_end_in (has_piece input) output)
    ≡ (end || takes_away (is_some bytes) left)
ends_of error input output bytes left end ok was became =
    ap (λ (x : Option Error). is_none x && is_end_in (has_piece input) output) ok
    ∙ ap (λ (i : Item). is_end_in (has_piece i) output) was
    ∙ ap (λ (i : Item). is_end_in (is_some bytes) i) became

-- a call that failed ends nothing
fails_no_end : (e : LogEntry) → is_some e.error ≡ true → is_end_by e ≡ false
fails_no_end e bad = by_error e.error (is_end_in (has_piece e.input) e.output) bad
  where
    by_error : (error : Option Error) (b : Bool) → is_some error ≡ true
        → (is_none error && b) ≡ false
    by_error None b bad = cc
    by_error (Some x) b bad = refl

-- a piece was filtered
pub one_piece : (a ended end client_end u : Bool) (es : List LogEntry) (on : Type 0)
    (came came' put put' : List HttpTask) (piece : Piece) (left : Option (List ℕ)) (e : LogEntry)
    → on → PassesRequest a ended es on came put → PieceCall e → came' ≡ came ++ put_of u piece
    → is_some (task_put_of u piece) ≡ true → (list_any is_end came ≡ true → ⊥)
    → (end ≡ true → list_any is_end came' ≡ true)
    → put' ≡ put ++ put_of false (piece_of ended end client_end (is_some piece.bytes) left)
    → e.input ≡ item.Piece piece.bytes end → e.output ≡ item.Piece left end → e.error ≡ None
    → PassesRequest a
    (ended || (piece_of ended end client_end (is_some piece.bytes) left).upstream_end)
    (es ++ e ∷ []) on
    came' put'
one_piece a ended end client_end u es on came came' put put' piece left e is_on r call is puts first
    ends is' was became ok =
    record {
      each = All-push PieceCall es e r.each call;
      few = few_push u piece came came' es e is puts r.few;
      ends_last = ends_push u piece came came' is first;
      rest = [];
      read = read_on u piece end came came' es e r.rest r.read (r.all is_on) is was;
      all = λ so. refl;
      told = told_push es e came came' (put_of u piece) piece.bytes end is r.told ends was;
      told_last = last_push es e (λ t. first (r.told t));
      told_whole = λ t. refl;
      left = is' ∙ ap (λ (xs : List HttpTask).
          xs ++ put_of false (piece_of ended end client_end (is_some piece.bytes) left))
          r.left
          ∙ ap (λ (xs : List HttpTask). passed a es ++ xs)
          (puts_left ended ∙ ap (λ (b : Bool). passes b e) r.is_ended)
          ∙ sym (passed_push a es e);
      is_ended = ends_left ended ∙ ap (λ (b : Bool). b || is_end_by e) r.is_ended
          ∙ sym (ended_push a es e);
    }
  where
    plain : (b : Bool) → is_some e.error ≡ false
        → (if b || is_some e.error then [] else put_in_item (has_piece e.input) e.output)
        ≡ (if b then [] else put_in_item (has_piece e.input) e.output)
    plain true isnt = refl
    plain false isnt =
        ap (λ (x : Bool). if x then [] else put_in_item (has_piece e.input) e.output) isnt

    puts_left : (b : Bool)
        → put_of false (piece_of b end client_end (is_some piece.bytes) left) ≡ passes b e
    puts_left true = refl
    puts_left false =
        sym (plain false (ap is_some ok)
        ∙ ap (λ (i : Item). put_in_item (has_piece i) e.output) was
        ∙ ap (λ (i : Item). put_in_item (is_some piece.bytes) i) became)

    ends_left : (b : Bool)
        → (b || (piece_of b end client_end (is_some piece.bytes) left).upstream_end)
        ≡ (b || is_end_by e)
    ends_left true = refl
    ends_left false = sym (ends_of e.error e.input e.output piece.bytes left end ok was became)

-- the filter refused a piece
pub one_refused : (a ended end u : Bool) (es : List LogEntry) (on on' : Type 0)
    (came came' put put' : List HttpTask) (piece : Piece) (e : LogEntry)
    → on → PassesRequest a ended es on came put → PieceCall e → came' ≡ came ++ put_of u piece
    → is_some (task_put_of u piece) ≡ true → (list_any is_end came ≡ true → ⊥)
    → (end ≡ true → list_any is_end came' ≡ true) → put' ≡ put
    → e.input ≡ item.Piece piece.bytes end → is_some e.error ≡ true
    → PassesRequest a ended (es ++ e ∷ []) on' came' put'
one_refused a ended end u es on on' came came' put put' piece e is_on r call is puts first ends is'
    was bad = record {
      each = All-push PieceCall es e r.each call;
      few = few_push u piece came came' es e is puts r.few;
      ends_last = ends_push u piece came came' is first;
      rest = [];
      read = read_on u piece end came came' es e r.rest r.read (r.all is_on) is was;
      all = λ so. refl;
      told = told_push es e came came' (put_of u piece) piece.bytes end is r.told ends was;
      told_last = last_push es e (λ t. first (r.told t));
      told_whole = λ t. refl;
      left = is' ∙ r.left ∙ sym (append-nil (passed a es))
          ∙ ap (λ (xs : List HttpTask). passed a es ++ xs) (sym (none_passes (ended_by a es)))
          ∙ sym (passed_push a es e);
      is_ended = r.is_ended ∙ sym (ended_push a es e ∙ no_end (ended_by a es));
    }
  where
    none_passes : (b : Bool) → passes b e ≡ []
    none_passes true = refl
    none_passes false =
        ap (λ (x : Bool). if x then [] else put_in_item (has_piece e.input) e.output) bad

    no_end : (b : Bool) → (b || is_end_by e) ≡ b
    no_end true = refl
    no_end false = fails_no_end e bad

-- memory was wanted for a piece
pub one_lost : (a ended u : Bool) (es : List LogEntry) (on on' : Type 0)
    (came came' put put' : List HttpTask) (piece : Piece) → (on' → ⊥)
    → PassesRequest a ended es on came put → came' ≡ came ++ put_of u piece
    → (list_any is_end came ≡ true → ⊥) → put' ≡ put → PassesRequest a ended es on' came' put'
one_lost a ended u es on on' came came' put put' piece off r is first is' = record {
  each = r.each;
  few = few_more came came' (put_of u piece) es is r.few;
  ends_last = ends_push u piece came came' is first;
  rest = r.rest ++ body_of (put_of u piece);
  read = ap body_of is ∙ body_append came (put_of u piece)
      ∙ ap (λ (b : List ℕ). b ++ body_of (put_of u piece)) r.read
      ∙ append_assoc (given_to es) r.rest (body_of (put_of u piece));
  all = λ so. absurd (off so);
  told = λ t. end_stays came came' (put_of u piece) is (r.told t);
  told_last = r.told_last;
  told_whole = λ t. absurd (first (r.told t));
  left = is' ∙ r.left;
  is_ended = r.is_ended;
}
