-- What a turn makes of an exchange behind filters, by what it makes of one over any two sides.
--
--   at_log         what holds by one log holds by the same
--   stays_first    what no call changes
--   from_settled   an answer that is no failure is the duplex's
--   asks_settled   how a turn asked both links, by its answer
--   unstopped      a side that goes on
--   under_way      an exchange that is under way between both sides is, over all that passed
--   turned         what a turn between both sides is, over all that passed
use Rattle.std.proofs.Common.{◌≡◌, ℕ, Bool, true, false, ◌⊎◌, List, Option, None, Some, inl, inr, refl, sym, ap, subst, ◌∙◌}
use Rattle.std.specs.Prelude.{◌&&◌}
use Rattle.relay_tasks.specs.declared.error.Error.{Error}
use Rattle.relay_tasks.specs.declared.error.Fail.{Fail}
use Rattle.relay_tasks.specs.declared.error.Fail.TheVariants as fail
use Rattle.relay_tasks.specs.declared.log.LogEntry.{LogEntry}
use Rattle.relay_tasks.specs.declared.took.Pause.TheVariants as pause
use Rattle.relay_links.specs.Count.{up}
use Rattle.relay_links.specs.Link.{LinkState, LinkStart}
use Rattle.relay_peer.specs.H1Client.{may_keep_client}
use Rattle.relay_core.specs.Causes.{says_failed}
use Rattle.relay_core.specs.Moves.{Finishes}
use Rattle.relay_core.specs.Past.{Origin, DownPast, UpPast}
use Rattle.relay_core.specs.Table.{State}
use Rattle.relay_core.specs.Uses.{Asks}
use Rattle.relay_core.specs.declared.step.Step.{Step}
use Rattle.relay_core.specs.declared.step.Step.TheVariants as step
use Rattle.relay_core.proofs.BoolLemmas.{decide}
use Rattle.relay_exchange.specs.Exchange.{may_keep_at}
use Rattle.relay_exchange.specs.Exchange as over
use Rattle.relay_exchange.specs.declared.exchange.Stage.{Stage}
use Rattle.relay_exchange.specs.declared.exchange.Stage.TheVariants as stage
use Rattle.relay_sides.specs.Filtered.{stops_for_error}
use Rattle.relay_filters.specs.Hooked.{Stays, inside, is_lost}
use Rattle.relay_attempt.proofs.OrderLemmas.{answers_own}
use Rattle.relay_hooked.specs.Exchange.{ComesTo, IsBetween, IsFinished, IsOverEarly, IsUnderWay, SideBlames, SideCannotEnd, SideRefuses, Turns, TurnsBetween}
use Rattle.relay_hooked.specs.Head.{behind, core_in, filtering_of, link_of, may_keep}
use Rattle.relay_hooked.specs.Laws.{GoesSoFar, passed_by}
use Rattle.relay_hooked.specs.Order.{IsInOrder, Keeps, Leaves}
use Rattle.relay_hooked.specs.Sides.{PeerSideBlames, TellsAlone, filtering, keeps_link}
use Rattle.relay_hooked.specs.declared.exchange.HookedExchange.{HookedExchange}
use Rattle.relay_hooked.proofs.FailLemmas.{fails_here}
use Rattle.relay_hooked.proofs.FinishLemmas.{finishes_so}
use Rattle.relay_hooked.proofs.OrderLemmas.{untold_passes}
use Rattle.relay_hooked.proofs.SideLemmas.{alive_finishes, alive_reason, alive_so_far, order_at, order_one, told_at}

-- ---- the log

-- what holds by one log holds by the same
pub at_log : {log log' : List LogEntry} (holds : List LogEntry → Type 0) → log ≡ log' → holds log'
    → holds log
at_log holds same is = subst holds (sym same) is

-- ---- what stays

-- whether the request had ended before the first call is among what no call changes
pub stays_first : {A : Type 0} (old new : Stays A) → new ≡ old → new.at_first ≡ old.at_first
stays_first old new same = ap (λ (k : Stays _). k.at_first) same

-- ---- an answer

-- an answer that is no failure is the duplex's
pub from_settled : (result answer wanted : Step)
    → (result ≡ answer) ⊎ (result ≡ step.Failed fail.OutOfMemory) → says_failed wanted ≡ false
    → result ≡ wanted → answer ≡ wanted
from_settled result answer wanted (inl same) unfailed is = sym same ∙ is
from_settled result answer wanted (inr lost) unfailed is =
    let wrong : true ≡ false = ap says_failed (sym lost ∙ is) ∙ unfailed in absurd (cc)

-- a turn that ends out of memory asked as it did
asked_before : (answer : Step) (client client' upstream upstream' : LinkState)
    → Asks answer client client' upstream upstream'
    → Asks (step.Failed fail.OutOfMemory) client client' upstream upstream'
asked_before step.Moved client client' upstream upstream' asks = asks
asked_before (step.Waited pause.NotReady) client client' upstream upstream' asks = inl asks
asked_before (step.Waited pause.Silent) client client' upstream upstream' asks = inr asks
asked_before step.Finished client client' upstream upstream' asks = inr asks
asked_before (step.Failed why) client client' upstream upstream' asks = asks

-- how a turn asked both links, by its answer
pub asks_settled : (result answer : Step) (client client' upstream upstream' : LinkState)
    → (result ≡ answer) ⊎ (result ≡ step.Failed fail.OutOfMemory)
    → Asks answer client client' upstream upstream'
    → Asks result client client' upstream upstream'
asks_settled result answer client client' upstream upstream' (inl same) asks =
    subst (λ (r : Step). Asks r client client' upstream upstream') (sym same) asks
asks_settled result answer client client' upstream upstream' (inr lost) asks =
    subst (λ (r : Step). Asks r client client' upstream upstream') (sym lost)
    (asked_before answer client client' upstream upstream' asks)

-- a side that no filter stopped, and that is not lost, goes on
pub unstopped : (stopped : Option Fail) → is_lost stopped ≡ false
    → stops_for_error stopped ≡ false → stopped ≡ None
unstopped None alive still = refl
unstopped (Some fail.OutOfMemory) alive still = cc
unstopped (Some (fail.Error error)) alive still = cc

-- ---- a turn

module _ {L : Type 0} (state : L → LinkState) (start_at : L → LinkStart) (s : Origin)
    (link : LinkState) (ahead : List ℕ) (log : List LogEntry) (stand : Bool) (x : HookedExchange L)
  where
    -- one that is under way is, over all that passed
    abbrev pub under_way : (p : DownPast) (q : UpPast)
        → IsBetween state start_at s link ahead log x p q
        → is_lost x.down.stopped ≡ false → x.down.told.errors ≡ 0
        → IsUnderWay state start_at s (passed_by p q) link ahead log x
    under_way p q under alive untold = record {
      order = order_at state start_at s link ahead log x.down x.exchange.up
          x.exchange.duplex p q under.so_far untold;
      alive = alive;
      untold = untold;
      down = p;
      up = q;
      came = refl;
      written = refl;
      got = refl;
      sent = refl;
      holds = under;
    }

    -- a link that is kept by the duplex and the peer's client is one that may be kept, where the
    -- bodies flow
    keeps_same : x.exchange.stage ≡ stage.Bodies
        → keeps_link x.exchange.duplex x.exchange.up ≡ may_keep x
    keeps_same flows =
        ap (λ (at : Stage).
        may_keep_at at x.exchange.duplex && may_keep_client x.exchange.up.client) (sym flows)

    -- what a turn between both sides is, over all that passed
    module _
        (before : DownPast) (up_before : UpPast) (was : State) (answer result : Step)
        (bodies : answer ≡ step.Finished → x.exchange.stage ≡ stage.Bodies)
        (went : TurnsBetween state start_at s link ahead log stand x before up_before was answer)
        (untold : was.down.told.errors ≡ 0)
        (tells : over.TellsOn was.down.told x.down.told answer)
      where
        -- a turn that goes on
        on : over.GoesOn x.exchange.duplex → x.down.told.errors ≡ was.down.told.errors
            → is_lost x.down.stopped ≡ false
            → IsUnderWay state start_at s (passed_by went.p went.q) link ahead log x
        on goes_on same alive =
            under_way went.p went.q (record { so_far = went.so_far; goes_on = goes_on }) alive
            (same ∙ untold)

        -- in order, where the side told no error
        in_order : x.down.told.errors ≡ was.down.told.errors
            → IsInOrder (filtering_of s log x.down) s (passed_by went.p went.q)
            (state (link_of x)).ended
        in_order same =
            order_at state start_at s link ahead log x.down x.exchange.up
            x.exchange.duplex went.p went.q went.so_far (same ∙ untold)

        -- as the laws speak of it, where no hook wanted memory
        so_far : is_lost x.down.stopped ≡ false
            → GoesSoFar state start_at link ahead s (behind log stand x.down)
            x.exchange.up x.exchange.duplex went.p went.q
        so_far alive =
            alive_so_far state start_at s link ahead log x.down x.exchange.up
            x.exchange.duplex went.p went.q went.so_far stand alive

        -- one that finishes
        finished : is_lost x.down.stopped ≡ false → x.exchange.stage ≡ stage.Bodies
            → x.down.told.errors ≡ 0
            → Finishes (core_in log x) went.p went.q
            → IsFinished state start_at s (passed_by went.p went.q) ahead log x
            ⊎ IsOverEarly state start_at s (passed_by went.p went.q) ahead log x
        finished alive flows quiet finishes =
            let side = x.down in
            let session = side.inner.session in
            let b = behind log stand side in
            let link_state = state (link_of x) in
            let start = start_at (link_of x) in
            let g = so_far alive in
            let passed = passed_by went.p went.q in
            let answers = answers_own s (inside went.p g.down.passed.came g.down.passed.queued) link
            ahead session g.down.passed.holds.passed.client in
            let goes_on = unstopped side.stopped alive (went.so_far.down.quiet.none quiet).1 in
            elim (finishes_so state start_at link ahead s b x.exchange.up x.exchange.duplex
            went.p went.q g
            (untold_passes state start_at link ahead s b x.exchange.up x.exchange.duplex
            went.p went.q g quiet)
            (alive_finishes state start_at s link ahead log side x.exchange.up
            x.exchange.duplex went.p went.q went.so_far stand alive finishes)) [
              | inl r ↦ inl (record {
                relayed = r.0;
                answers = answers;
                goes_on = goes_on;
                leaves =
                    subst (λ (keeps : Bool).
                    Leaves (filtering s b) s passed link_state start r.0.order ahead session keeps)
                    (keeps_same flows) r.1;
                keeps = λ fresh.
                    subst (λ (keeps : Bool). Keeps link_state start r.0.order keeps)
                    (keeps_same flows) (r.2 fresh);
              })
              | inr r ↦ inr (record {
                early = r.0;
                answers = answers;
                goes_on = goes_on;
                leaves =
                    subst (λ (keeps : Bool).
                    Leaves (filtering s b) s passed link_state start r.0.order ahead session keeps)
                    (keeps_same flows) r.1;
                keeps = λ fresh ends.
                    subst (λ (keeps : Bool). Keeps link_state start r.0.order keeps)
                    (keeps_same flows) (r.2 fresh ends);
              })
            ]

        -- one that fails with an error tells that one alone
        alone : (e : Error) → (x.down.told.errors ≡ was.down.told.errors)
            ⊎ ((x.down.told.errors ≡ up was.down.told.errors)
            × (x.down.told.last ≡ Some e))
            → TellsAlone (behind log stand x.down) e
        alone e (inl same) = inl (same ∙ untold)
        alone e (inr more) = inr (more.0 ∙ ap up untold, more.1)

        -- out of memory it is in order, or up to the task that is refused
        free : (answer : Step) → over.TellsOn was.down.told x.down.told answer
            → ComesTo state start_at s (passed_by went.p went.q) link ahead log x
            (step.Failed fail.OutOfMemory)
        free step.Moved same = inl (in_order same)
        free (step.Waited pause) same = inl (in_order same)
        free step.Finished same = inl (in_order same)
        free (step.Failed fail.OutOfMemory) same = inl (in_order same)
        free (step.Failed (fail.Error e)) (inl same) = inl (in_order same)
        free (step.Failed (fail.Error e)) (inr more) =
            order_one state start_at s link ahead log x.down x.exchange.up
            x.exchange.duplex went.p went.q went.so_far e (more.0 ∙ ap up untold) more.1

        -- what it came to, where no hook wanted memory, by its answer
        comes : is_lost x.down.stopped ≡ false → (answer : Step)
            → (answer ≡ step.Finished → x.exchange.stage ≡ stage.Bodies)
            → over.ComesTo (SideBlames link ahead log s x.down)
            (SideRefuses link ahead log stand s x.down)
            (SideCannotEnd link ahead log s x.down)
            (PeerSideBlames state start_at s x.exchange.up)
            (core_in log x) went.p went.q answer
            → over.TellsOn was.down.told x.down.told answer
            → ComesTo state start_at s (passed_by went.p went.q) link ahead log x answer
        comes alive step.Moved flows goes_on same = on goes_on same alive
        comes alive (step.Waited pause) flows goes_on same = on goes_on same alive
        comes alive step.Finished flows finishes same =
            finished alive (flows refl) (same ∙ untold) (finishes refl)
        comes alive (step.Failed (fail.Error e)) flows why tells =
            fails_here state start_at link ahead s (behind log stand x.down)
            x.exchange.up x.exchange.duplex went.p went.q e (so_far alive) (alone e tells)
            (alive_reason state start_at s link ahead log x.down x.exchange.up
            x.exchange.duplex went.p went.q went.so_far stand e alive why)
        comes alive (step.Failed fail.OutOfMemory) flows unsaid same = inl (in_order same)

        -- what the turn is, over all that passed
        pub turned : (is_lost x.down.stopped ≡ true
            → result ≡ step.Failed fail.OutOfMemory)
            → (is_lost x.down.stopped ≡ false → result ≡ answer)
            → Turns state start_at s link ahead log x result
        turned lost alive = record {
          passed = passed_by went.p went.q;
          told = told_at state start_at s link ahead log x.down x.exchange.up
              x.exchange.duplex went.p went.q went.so_far;
          comes_to = elim (decide (is_lost x.down.stopped)) [
            | inl gone ↦ subst
                (λ (r : Step).
                ComesTo state start_at s (passed_by went.p went.q) link ahead log x r)
                (sym (lost gone)) (free answer tells)
            | inr kept ↦ subst
                (λ (r : Step).
                ComesTo state start_at s (passed_by went.p went.q) link ahead log x r)
                (sym (alive kept)) (comes kept answer bodies went.comes_to tells)
          ];
          calls = went.so_far.down.calls;
          lost = lost;
        }
