-- An end of what such filters let pass of a request is the client's, behind its whole body.
--
--   whole_pieces   pieces with an end among them are the body that the client's bytes say
use Rattle.std.proofs.Common.{◌≡◌, ℕ, Bool, true, false, List, [], ◌∷◌, ◌++◌, drop, refl, sym, ap, subst, ◌∙◌, append-nil, Option, Some, None}
use Rattle.std.specs.Prelude.{All, ◌||◌, ◌&&◌, is_none, is_some}
use Rattle.std.specs.List.{list_any}
use Rattle.std.proofs.lemmas.List.Elements.{All-head, All-tail}
use Rattle.relay_tasks.specs.Task.{is_end}
use Rattle.relay_tasks.specs.declared.error.Error.{Error}
use Rattle.relay_tasks.specs.declared.log.Item.{Item}
use Rattle.relay_tasks.specs.declared.log.Item.TheVariants as item
use Rattle.relay_tasks.specs.declared.log.LogEntry.{LogEntry}
use Rattle.relay_tasks.specs.declared.task.HttpTask.{HttpTask}
use Rattle.relay_h1.specs.Body.{ended_text}
use Rattle.relay_peer.specs.Body.{IsFrontOf, body_of}
use Rattle.relay_core.specs.Past.{Origin}
use Rattle.relay_sides.proofs.ClientPast.{body_of-append}
use Rattle.relay_filters.specs.Request.{ToldLast, PieceCall, bytes_in, end_in, ended_by, given_to, has_piece, is_end_by, is_end_in, is_told_end, passed, passes, pieces_in}
use Rattle.relay_filters.proofs.PassedLemmas.{told_is_last}
use Rattle.relay_attempt.specs.Order.{ArePieces}
use Rattle.relay_attempt.specs.Passed.{Passed, asked}
use Rattle.relay_hooked.specs.Calls.{Filtering}
use Rattle.relay_hooked.specs.Neutral.{AreNeutral, LeavesIt}
use Rattle.relay_hooked.specs.Order.{IsInOrderWith}
use Rattle.relay_hooked.proofs.HalfLemmas.{body_same}
use Rattle.relay_hooked.proofs.NeutralLemmas.{call_bytes, passed_none, pieces_neutral}
use Rattle.relay_hooked.proofs.PassedLemmas.{passed_ends}

-- ---- one call

-- a piece that was left is not taken away
none_taken : (end : Bool) (given : Option (List ℕ))
    → (end || (is_some given && is_none given)) ≡ true → end ≡ true
none_taken true given is = refl
none_taken false None is = is
none_taken false (Some bytes) is = is

-- a call that ended the request was told its end
told_end : (e : LogEntry) → PieceCall e → LeavesIt e → is_end_by e ≡ true → is_told_end e ≡ true
told_end e call n ends =
    let left : is_end_in (has_piece e.input) e.output ≡ true =
    sym (ap (λ (o : Option Error). is_none o && is_end_in (has_piece e.input) e.output) n.ok) ∙ ends
    in
    let given : is_end_in (has_piece e.input) e.input ≡ true =
    sym (ap (λ (i : Item). is_end_in (has_piece e.input) i) n.same) ∙ left in
    let was = item.Piece call.given call.end in
    let own : is_end_in (has_piece was) was ≡ true =
    sym (ap (λ (i : Item). is_end_in (has_piece i) i) call.was) ∙ given in
    ap end_in call.was ∙ none_taken call.end call.given own

-- ---- the calls

-- a call was told the end, and what passed are the bytes that the calls up to it were given
record Last (es : List LogEntry) (put : List ℕ) : Type 0 where
  pub front : List LogEntry
  pub behind : List LogEntry
  pub e : LogEntry
  pub are : es ≡ front ++ e ∷ behind
  pub told : is_told_end e ≡ true
  pub all : put ≡ given_to (front ++ e ∷ [])

-- it is so with one call in front
one_more : (e : LogEntry) (es : List LogEntry) → PieceCall e → LeavesIt e
    → (is_end_by e ≡ false → Last es (body_of (passed false es)))
    → Last (e ∷ es) (body_of (passed false (e ∷ es)))
one_more e es call n later = on (is_end_by e) refl
  where
    parts : body_of (passed false (e ∷ es)) ≡ body_of (passes false e)
        ++ body_of (passed (is_end_by e) es)
    parts = body_of-append (passes false e) (passed (is_end_by e) es)

    on : (b : Bool) → is_end_by e ≡ b → Last (e ∷ es) (body_of (passed false (e ∷ es)))
    on true is = record {
      front = [];
      behind = es;
      e = e;
      are = refl;
      told = told_end e call n is;
      all = parts
          ∙ ap (λ (b : Bool). body_of (passes false e) ++ body_of (passed b es)) is
          ∙ ap (λ (l : List HttpTask). body_of (passes false e) ++ body_of l) (passed_none es)
          ∙ ap (λ (l : List ℕ). l ++ []) (call_bytes e n);
    }
    on false is =
        let more = later is in
        record {
          front = e ∷ more.front;
          behind = more.behind;
          e = more.e;
          are = ap (λ (l : List LogEntry). e ∷ l) more.are;
          told = more.told;
          all = parts
              ∙ ap (λ (b : Bool). body_of (passes false e) ++ body_of (passed b es)) is
              ∙ ap (λ (l : List ℕ). l ++ body_of (passed false es)) (call_bytes e n)
              ∙ ap (λ (l : List ℕ). bytes_in e.input ++ l) more.all;
        }

-- so it is where an end passed
last_of : (es : List LogEntry) → AreNeutral es → All PieceCall es
    → list_any is_end (passed false es) ≡ true → Last es (body_of (passed false es))
last_of [] n each ends = absurd (cc)
last_of (e ∷ es) n each ends =
    one_more e es (All-head PieceCall e es each) n.0
    (λ open_still. last_of es n.1 (All-tail PieceCall e es each)
    (passed_ends es ∙ sym (ap (λ (b : Bool). ended_by b es) open_still)
    ∙ sym (passed_ends (e ∷ es)) ∙ ends))

-- whether or not it had ended before
last_behind : (a : Bool) (es : List LogEntry) → AreNeutral es → All PieceCall es
    → list_any is_end (passed a es) ≡ true → Last es (body_of (passed a es))
last_behind true es n each ends =
    let wrong : false ≡ true = sym (ap (list_any is_end) (passed_none es)) ∙ ends in absurd (cc)
last_behind false es n each ends = last_of es n each ends

-- ---- the pieces

-- a call that was told the end is among them
told_among : (front behind : List LogEntry) (e : LogEntry) → is_told_end e ≡ true
    → list_any is_told_end (front ++ e ∷ behind) ≡ true
told_among [] behind e told = ap (λ (b : Bool). b || list_any is_told_end behind) told
told_among (first ∷ front) behind e told =
    behind_it (is_told_end first) _ (told_among front behind e told)
  where
    behind_it : (a b : Bool) → b ≡ true → (a || b) ≡ true
    behind_it true b is = refl
    behind_it false b is = is

-- pieces with an end among them are the body that the client's bytes say
pub whole_pieces : (f : Filtering) (s : Origin) (p : Passed) (closed : Bool)
    (refused : Option Error) (o : IsInOrderWith refused f s p closed) → AreNeutral f.calls
    → list_any is_end o.pieces ≡ true
    → ArePieces o.asks.framing (drop o.asks.len (asked s p)) o.pieces
whole_pieces f s p closed refused o n ends =
    let es = pieces_in f.calls in
    let last = last_behind f.at_first es
    (pieces_neutral f.calls (f.stopped ≡ None) o.chains n) o.passed.each
    (sym (ap (list_any is_end) o.passed.left) ∙ ends) in
    let none = told_is_last last.front last.behind last.e
    (subst (λ (l : List LogEntry). ToldLast l) last.are o.passed.told_last) last.told in
    let all : es ≡ last.front ++ last.e ∷ [] =
    last.are ∙ ap (λ (l : List LogEntry). last.front ++ last.e ∷ l) none in
    let told : list_any is_told_end es ≡ true =
    ap (list_any is_told_end) last.are ∙ told_among last.front last.behind last.e last.told in
    let joined : body_of o.pieces ≡ body_of o.came =
    ap body_of o.passed.left ∙ last.all ∙ ap given_to (sym all)
    ∙ sym (append-nil (given_to es))
    ∙ ap (λ (l : List ℕ). given_to es ++ l) (sym (o.passed.told_whole told))
    ∙ sym o.passed.read ∙ body_same o.came in
    let whole = o.are_came.whole (o.passed.told told) in
    record {
      text = o.are_came.text;
      says = o.are_came.says;
      front = subst (λ (l : List ℕ). IsFrontOf l o.are_came.text.bytes) (sym joined)
          o.are_came.front;
      ends_last = o.ends_last;
      whole = λ found. (
        whole.0,
        whole.1 ∙ ap (λ (l : List ℕ). ended_text l whole.0) (sym joined),
      );
      headed = λ none. ends;
    }
