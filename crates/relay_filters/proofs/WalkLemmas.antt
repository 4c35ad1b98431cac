-- How the log goes on by a call of a side: by the calls of hooks that it led to, while between them
-- the client's own session moves on.
use Rattle.std.proofs.Common.{◌≡◌, ℕ, ◌+◌, Bool, true, false, ◌||◌, if◌then◌else◌, List, [], ◌∷◌, ◌++◌, Option, Some, None, is_some, Err, append-nil, arith, inl, inr, length, length-append, refl, sym, ap, subst, true≢false, ◌∙◌, IsSome, unwrap_or}
use Rattle.std.proofs.lemmas.List.Elements.{All-nil}
use Rattle.relay_tasks.specs.Head.{RequestHead, new_request}
use Rattle.relay_tasks.specs.declared.error.Error.{Error}
use Rattle.relay_tasks.specs.declared.error.Fail.{Fail}
use Rattle.relay_tasks.specs.declared.error.Fail.TheVariants as fail
use Rattle.relay_tasks.specs.declared.log.LogEntry.{LogEntry}
use Rattle.relay_tasks.specs.declared.task.HttpTask.{HttpTask}
use Rattle.relay_session.specs.Reading.{head_of}
use Rattle.relay_session.specs.declared.session.HttpSession.{HttpSession}
use Rattle.relay_core.specs.declared.piece.Piece.{Piece}
use Rattle.relay_modules.specs.declared.seen.Seen.{Seen}
use Rattle.relay_hooks.specs.Session.{moment}
use Rattle.relay_hooks.specs.Standing.{Standing, standing}
use Rattle.relay_calls.specs.Log.{Views, Walk, requests_in}
use Rattle.relay_calls.proofs.LogLemmas.{Walk-append, Walk-behind, requests_in-append}
use Rattle.relay_sides.specs.Client.{IsLasting}
use Rattle.relay_filters.specs.Chain.{Refuses}
use Rattle.relay_filters.specs.Request.{Came, Filtered, Filters, LetsOn, OfPiece, PieceChain, is_last}
use Rattle.relay_filters.specs.Response.{Adds, BatchPasses, BatchStops, IsFilterCall, Outcome}
use Rattle.relay_filters.specs.Hooked.{Lasts, LedTo, Stays, Walks, WalksTo, is_lost, refused_at_once, seen_by, stood_head}
use Rattle.relay_filters.proofs.LentSide.{takes_head}
use Rattle.relay_filters.proofs.PieceLemmas.{lost_parts, piece_parts}
use Rattle.relay_filters.proofs.SideLemmas.{some_none}

-- ---- what stays

-- a flag that another stands for, or not
either_way : (lost b : Bool) → (lost ≡ false → b ≡ true) → (lost || b) ≡ true
either_way true b has = refl
either_way false b has = has refl

-- a head that stood stays, unless the session is lost
head_stays : (lost lost' : Bool) (c c' : HttpSession) → IsSome (head_of c.reading)
    → (lost' ≡ false → IsSome (head_of c'.reading)) → stood_head lost' c' ≡ stood_head lost c
head_stays lost lost' c c' has has' =
    ap (λ (b : Bool). if b then Some (new_request [] []) else None)
    (either_way lost' _ has' ∙ sym (either_way lost _ (λ kept. has)))

-- what no call of a side changes
abbrev stays_with : {A : Type 0} → A → Bool → Bool → Option RequestHead → Stays A
stays_with app at_first of_head head = record {
  app = app;
  at_first = at_first;
  of_head = of_head;
  head = head;
}

-- the same, by the client's session
abbrev stays_at : {A : Type 0} → A → Bool → Bool → Bool → HttpSession → Stays A
stays_at app at_first of_head lost c = stays_with app at_first of_head (stood_head lost c)

-- ---- the inner side alone

-- where no call is made the client's own session moves on
views_on : (seen : Seen) (c c' : HttpSession) (mark : ℕ) → IsLasting c c'
    → Views (standing None false (moment (seen_by seen c) mark))
    (standing None false (moment (seen_by seen c') mark))
views_on seen c c' mark lasts = record {
  mark = refl;
  head = ap (λ (o : Option RequestHead). unwrap_or o (new_request [] [])) lasts.head;
  keepalive = refl;
  final_head = lasts.answered;
  upgraded = λ up. up;
}

-- no call is made, whether the side is lost or not
walks_side : (allows : Standing → LogEntry → Type 0) (lost : Bool) (seen : Seen)
    (c c' : HttpSession) (mark : ℕ) → IsLasting c c'
    → Walks allows lost lost (seen_by seen c) mark (seen_by seen c') mark
walks_side allows false seen c c' mark lasts = record {
  es = [];
  log = sym (append-nil seen.log);
  walk = views_on seen c c' mark lasts;
  plain = All-nil IsFilterCall;
}
walks_side allows true seen c c' mark lasts = refl

-- the inner side's call alone
pub lasts_side : {A : Type 0} (app : A) (allows : Standing → LogEntry → Type 0) (a oh lost : Bool)
    (seen : Seen) (c c' : HttpSession) (mark : ℕ) → IsLasting c c'
    → Lasts allows (stays_at app a oh lost c) (stays_at app a oh lost c') lost lost
    (seen_by seen c) mark (seen_by seen c') mark
lasts_side app allows a oh lost seen c c' mark lasts = record {
  stays = ap (λ (o : Option RequestHead). stays_with app a oh
      (if lost || is_some o then Some (new_request [] []) else None)) lasts.head;
  walks = walks_side allows lost seen c c' mark lasts;
}

-- not even that was called
pub lasts_same : {A : Type 0} (app : A) (allows : Standing → LogEntry → Type 0) (a oh lost : Bool)
    (seen : Seen) (c : HttpSession) (mark : ℕ)
    → Lasts allows (stays_at app a oh lost c) (stays_at app a oh lost c) lost lost
    (seen_by seen c) mark (seen_by seen c) mark
lasts_same app allows a oh lost seen c mark =
    lasts_side app allows a oh lost seen c c mark (record { head = refl; answered = λ has. has })

-- ---- a piece

-- the calls of its filters, behind what the inner side did
walks_calls : (allows : Standing → LogEntry → Type 0) (seen : Seen) (c c' : HttpSession) (mark : ℕ)
    (new : Seen) (mark' : ℕ) (es : List LogEntry) → IsLasting c c'
    → Adds allows (seen_by seen c') mark new mark' es → WalksTo allows (seen_by seen c) mark new mark'
walks_calls allows seen c c' mark new mark' es lasts adds = record {
  es = es;
  log = adds.log;
  walk = Walk-behind allows es (standing None false (moment (seen_by seen c) mark))
      (standing None false (moment (seen_by seen c') mark))
      (standing None false (moment new mark')) (views_on seen c c' mark lasts) adds.walk;
  plain = adds.plain;
}

-- it passed
pub lasts_piece : {A : Type 0} (it : A) (allows : Standing → LogEntry → Type 0) (a oh : Bool)
    (st : Option Fail) (seen : Seen) (c c' lent : HttpSession) (mark : ℕ) (stand ended : Bool)
    (piece made : Piece) (seen' : Seen) (mark' : ℕ) → st ≡ None → IsSome (head_of c.reading)
    → IsLasting c c'
    → Filtered allows stand ended piece made (seen_by seen c') mark (seen_by seen' lent) mark'
    → Lasts allows (stays_at it a oh (is_lost st) c) (stays_at it a oh (is_lost st) lent)
    (is_lost st) (is_lost st) (seen_by seen c) mark (seen_by seen' lent) mark'
lasts_piece it allows a oh (Some why) seen c c' lent mark stand ended piece made seen' mark' on head
    lasts f = some_none why on
lasts_piece it allows a oh None seen c c' lent mark stand ended piece made seen' mark' on head lasts
    f = record {
      stays = ap (λ (o : Option RequestHead). stays_with it a oh o)
          (head_stays false false c lent head (λ kept. f.came.adds.head));
      walks = walks_calls allows seen c c' mark (seen_by seen' lent) mark' f.came.es lasts
          f.came.adds;
    }

-- it was refused, or memory was wanted
pub lasts_refused : {A : Type 0} (it : A) (allows : Standing → LogEntry → Type 0) (a oh : Bool)
    (st : Option Fail) (why : Fail) (seen : Seen) (c c' lent : HttpSession) (mark : ℕ)
    (stand ended : Bool) (piece : Piece) (seen' : Seen) (mark' : ℕ) → st ≡ None
    → IsSome (head_of c.reading) → IsLasting c c'
    → Filters allows stand ended piece (Err why) (seen_by seen c') mark (seen_by seen' lent) mark'
    → Lasts allows (stays_at it a oh (is_lost st) c)
    (stays_at it a oh (is_lost (Some why)) lent) (is_lost st) (is_lost (Some why)) (seen_by seen c)
    mark (seen_by seen' lent) mark'
lasts_refused it allows a oh (Some before) why seen c c' lent mark stand ended piece seen' mark' on
    head lasts f = some_none before on
lasts_refused it allows a oh None (fail.Error error) seen c c' lent mark stand ended piece seen'
    mark' on head lasts f = record {
      stays = ap (λ (o : Option RequestHead). stays_with it a oh o)
          (head_stays false false c lent head (λ kept. f.came.adds.head));
      walks = walks_calls allows seen c c' mark (seen_by seen' lent) mark' f.came.es lasts
          f.came.adds;
    }
lasts_refused it allows a oh None fail.OutOfMemory seen c c' lent mark stand ended piece seen' mark'
    on head lasts f = record {
      stays = ap (λ (o : Option RequestHead). stays_with it a oh o)
          (head_stays false true c lent head (λ kept. absurd (true≢false kept)));
      walks = record {
        es = f.es;
        to = f.adds.to;
        log = f.adds.log;
        walk = Walk-behind allows f.es (standing None false (moment (seen_by seen c) mark))
            (standing None false (moment (seen_by seen c') mark)) f.adds.to
            (views_on seen c c' mark lasts) f.adds.walk;
        plain = f.adds.plain;
      };
    }

-- ---- which calls of the request

-- none
pub led_none : (stand : Bool) (old new : Seen) → new.log ≡ old.log → LedTo stand old new
led_none stand old new same = record {
  es = [];
  log = same ∙ sym (append-nil old.log);
  piece = OfPiece.none refl;
}

-- those of a piece, whether it passed or was refused
pub led_came : (allows : Standing → LogEntry → Type 0) (stand : Bool)
    (bytes left : Option (List ℕ)) (end : Bool) (error : Option Error) (seen : Seen)
    (c : HttpSession) (mark : ℕ) (seen' : Seen) (c' : HttpSession) (mark' : ℕ)
    → Came allows stand bytes left end error (seen_by seen c) mark (seen_by seen' c') mark'
    → LedTo stand seen seen'
led_came allows stand bytes left end error seen c mark seen' c' mark' f = record {
  es = f.es;
  log = f.adds.log;
  piece = OfPiece.whole f.call
      (subst (λ (l : List LogEntry). PieceChain stand l f.call)
      (sym (piece_parts stand f.es f.call f.chain).requests) f.chain);
}

-- and where memory was wanted
pub led_refused : (allows : Standing → LogEntry → Type 0) (stand ended : Bool) (piece : Piece)
    (why : Fail) (seen : Seen) (c : HttpSession) (mark : ℕ) (seen' : Seen) (c' : HttpSession)
    (mark' : ℕ)
    → Filters allows stand ended piece (Err why) (seen_by seen c) mark (seen_by seen' c') mark'
    → LedTo stand seen seen'
led_refused allows stand ended piece (fail.Error e) seen c mark seen' c' mark' f =
    led_came allows stand piece.bytes f.left (is_last piece) (Some e) seen c mark seen' c' mark'
    f.came
led_refused allows stand ended piece fail.OutOfMemory seen c mark seen' c' mark' f = record {
  es = f.es;
  log = f.adds.log;
  piece = elim f.are [
    | inl none ↦ OfPiece.none (ap requests_in none)
    | inr lets ↦ OfPiece.lost lets.0
        (subst LetsOn (sym (lost_parts f.es (inr lets.1)).requests) lets.1)
  ];
}

-- ---- a batch

-- the inner side took what the filters made of it, or refused that
pub lasts_batch : {A : Type 0} (it : A) (allows : Standing → LogEntry → Type 0) (a oh : Bool)
    (st : Option Fail) (rf : Bool) (tasks : List HttpTask) (seen : Seen)
    (c lent took : HttpSession) (mark : ℕ) (seen' : Seen) (mark' : ℕ) (es : List LogEntry)
    → refused_at_once st rf (is_some (head_of c.reading)) tasks ≡ None
    → IsLasting lent took → Adds allows (seen_by seen c) mark (seen_by seen' lent) mark' es
    → Lasts allows (stays_at it a oh (is_lost st) c) (stays_at it a oh (is_lost st) took)
    (is_lost st) (is_lost st) (seen_by seen c) mark (seen_by seen' took) mark'
lasts_batch it allows a oh (Some why) rf tasks seen c lent took mark seen' mark' es on lasts adds =
    some_none _ on
lasts_batch it allows a oh None rf tasks seen c lent took mark seen' mark' es on lasts
    adds =
    let behind = standing None false (moment (seen_by seen' took) mark') in
    record {
      stays = ap (λ (o : Option RequestHead). stays_with it a oh o)
          (head_stays false false c took (takes_head None rf _ tasks on)
          (λ kept. subst (λ (o : Option RequestHead). IsSome o) (sym lasts.head) adds.head));
      walks = record {
        es = es;
        log = adds.log;
        walk = subst (λ (l : List LogEntry). Walk allows
            (standing None false (moment (seen_by seen c) mark)) l behind) (append-nil es)
            (Walk-append allows es [] (standing None false (moment (seen_by seen c) mark))
            (standing None false (moment (seen_by seen' lent) mark')) behind adds.walk
            (views_on seen' lent took mark' lasts));
        plain = adds.plain;
      };
    }

-- a filter refused it, or memory was wanted
pub lasts_stopped : {A : Type 0} (it : A) (allows : Standing → LogEntry → Type 0) (a oh : Bool)
    (st : Option Fail) (why : Fail) (rf stand : Bool) (tasks : List HttpTask)
    (seen : Seen) (c lent : HttpSession) (mark : ℕ) (seen' : Seen) (mark' : ℕ)
    → refused_at_once st rf (is_some (head_of c.reading)) tasks ≡ None
    → Outcome {Y = List HttpTask} allows (λ es out. BatchPasses oh stand tasks es out)
    (BatchStops oh stand tasks) (Refuses oh) (Err why) (seen_by seen c) mark (seen_by seen' lent)
    mark'
    → Lasts allows (stays_at it a oh (is_lost st) c) (stays_at it a oh (is_lost (Some why)) lent)
    (is_lost st) (is_lost (Some why)) (seen_by seen c) mark (seen_by seen' lent) mark'
lasts_stopped it allows a oh (Some before) why rf stand tasks seen c lent mark seen' mark' on out =
    some_none _ on
lasts_stopped it allows a oh None (fail.Error error) rf stand tasks seen c lent mark seen' mark'
    on (es, adds, fed, refused) = record {
      stays = ap (λ (o : Option RequestHead). stays_with it a oh o)
          (head_stays false false c lent (takes_head None rf _ tasks on)
          (λ kept. adds.head));
      walks = record { es = es; log = adds.log; walk = adds.walk; plain = adds.plain };
    }
lasts_stopped it allows a oh None fail.OutOfMemory rf stand tasks seen c lent mark seen' mark'
    on (es, adds, fed) = record {
      stays = ap (λ (o : Option RequestHead). stays_with it a oh o)
          (head_stays false true c lent (takes_head None rf _ tasks on)
          (λ kept. absurd (true≢false kept)));
      walks = record {
        es = es;
        to = adds.to;
        log = adds.log;
        walk = adds.walk;
        plain = adds.plain;
      };
    }

-- ---- which calls of the request a batch led to

-- none
pub led_batch : (stand : Bool) (old new : Seen) (es : List LogEntry) → new.log ≡ old.log ++ es
    → requests_in new.log ≡ requests_in old.log → LedTo stand old new
led_batch stand old new es log same = record {
  es = es;
  log = log;
  piece = OfPiece.none (none_more (requests_in old.log) (requests_in es)
      (sym (requests_in-append old.log es) ∙ sym (ap requests_in log) ∙ same));
}
  where
    none_more : (a b : List LogEntry) → a ++ b ≡ a → b ≡ []
    none_more a [] is = refl
    none_more a (x ∷ b) is =
        let longer : length (a ++ x ∷ b) ≡ length a + length (x ∷ b) = length-append a (x ∷ b) in
        let same : length (a ++ x ∷ b) ≡ length a = ap (λ (l : List LogEntry). length l) is in
        let one : length (x ∷ b) ≡ length b + 1 = omega arith in
        absurd (omega (arith, longer, same, one))

-- where it did not pass
pub led_stopped : (allows : Standing → LogEntry → Type 0) (oh stand stands : Bool)
    (tasks : List HttpTask) (why : Fail) (seen : Seen) (c : HttpSession) (mark : ℕ) (seen' : Seen)
    (c' : HttpSession) (mark' : ℕ)
    → Outcome {Y = List HttpTask} allows (λ es out. BatchPasses oh stand tasks es out)
    (BatchStops oh stand tasks) (Refuses oh) (Err why) (seen_by seen c) mark (seen_by seen' c')
    mark'
    → requests_in seen'.log ≡ requests_in seen.log → LedTo stands seen seen'
led_stopped allows oh stand stands tasks (fail.Error error) seen c mark seen' c' mark'
    (es, adds, fed, refused) same = led_batch stands seen seen' es adds.log same
led_stopped allows oh stand stands tasks fail.OutOfMemory seen c mark seen' c' mark'
    (es, adds, fed) same = led_batch stands seen seen' es adds.log same
