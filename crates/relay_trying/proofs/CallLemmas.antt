-- Each call is one turn, which leads on by its answer.
use Rattle.std.proofs.Common.{◌≡◌, ℕ, Bool, true, false, List, [], Option, Some, None, is_some, Result, Ok, Err, refl, sym, ap, subst, ◌∙◌, true≢false}
use Rattle.std.specs.Prelude.{IfOk, IsOkUnless, OnErr, not, if◌then◌else◌}
use Rattle.relay_tasks.specs.Head.{RequestHead}
use Rattle.relay_tasks.specs.declared.error.Error.{Error}
use Rattle.relay_tasks.specs.declared.error.Fail.{Fail}
use Rattle.relay_tasks.specs.declared.error.Fail.TheVariants as fail
use Rattle.relay_tasks.specs.declared.hook.Hook.{Hook}
use Rattle.relay_tasks.specs.declared.hook.Hook.TheVariants as hook
use Rattle.relay_tasks.specs.declared.log.Item.{Item}
use Rattle.relay_tasks.specs.declared.log.Item.TheVariants as item
use Rattle.relay_tasks.specs.declared.log.LogEntry.{LogEntry}
use Rattle.relay_tasks.specs.declared.peer.Peer.{Peer}
use Rattle.relay_session.specs.Reading.{head_of}
use Rattle.relay_modules.specs.Module.{ModuleCall}
use Rattle.relay_modules.specs.declared.seen.Seen.{Seen}
use Rattle.relay_hooks.specs.Call.{Left, answered, changed, failed, only}
use Rattle.relay_hooks.specs.Session.{Leaves, moment, request_head}
use Rattle.relay_hooks.specs.Standing.{Standing}
use Rattle.relay_calls.specs.Calls.{Calls, CallsOf, Enters}
use Rattle.relay_calls.specs.Entry.{cleared}
use Rattle.relay_calls.specs.Log.{IsAllowed, is_module}
use Rattle.relay_phases.specs.Looks.{Looks}
use Rattle.relay_phases.specs.Order.{Station}
use Rattle.relay_phases.specs.Order.{Station as station}
use Rattle.relay_phases.specs.Turns.{QueuesNothing}
use Rattle.relay_phases.proofs.EnterLemmas.{Looks-calls}
use Rattle.relay_phases.proofs.TurnLemmas.{Leads, leaves_turn}
use Rattle.relay_trying.specs.Trying.{CallsHook, FiltersHead, LooksOnce, NamesPeer, Summarizes, TellsConnected, Treats, Warns, may_break, may_follow, may_go_on, treated_at}
use Rattle.relay_trying.proofs.WithinLemmas.{AllowsBy-own, Turns-wider}

-- no call of the modules
abbrev pub none : ModuleCall → Type 0
none call = ⊥

module _ (app : Standing → LogEntry → Type 0) (which : Hook) (is_app : is_module which ≡ false)
    (peer : Option Peer) (reused : Bool) (told : Item) (old : Seen) (before : ℕ) (new : Seen)
    (behind : ℕ) where
  -- what is allowed beside no call of the modules is allowed by the application
  pub own : (st : Standing) (e : LogEntry) → e.hook ≡ which → IsAllowed app none st e → app st e
  own st e is allowed =
      AllowsBy-own (is_module e.hook) app none st e (ap is_module is ∙ is_app) allowed

  -- the call of a hook that queues nothing is one turn
  unfoldable pub calls_hook : (left : Left) (from to : Station)
      → Leads which told (moment (cleared old) before) left from to
      → CallsOf peer reused Leaves app which told old before new behind left
      → CallsHook app which peer reused from to told left old before new behind
  unfolding leaves_turn Turns-wider
  calls_hook left from to leads call =
      record {
        turn =
            Turns-wider (IsAllowed app none) app which own from to QueuesNothing old before new
            behind
            (leaves_turn app none which is_app told old before new behind Leaves left from to
            (λ r h. h) leads call);
        allowed = call.allowed;
        input = refl;
        output = refl;
        error = refl;
        view = refl;
      }

-- ---- on the way to the peer

module _ (app : Standing → LogEntry → Type 0) (old : Seen) (before : ℕ) (new : Seen)
    (behind : ℕ) where
  -- the peer is named, or the error is final
  pub names_peer : (answer : Result Peer Fail)
      → Enters (answered (λ peer. item.Addressed peer false) answer)
      (Calls app hook.UpstreamPeer (item.Request (request_head old)) old before new behind) old new
      → NamesPeer app old before new behind answer
  names_peer (Ok peer) call =
      calls_hook app hook.UpstreamPeer refl None false (item.Request (request_head old)) old
      before new behind (only (item.Addressed peer false)) station.trying station.named
      (λ at. refl) call
  names_peer (Err (fail.Error error)) call =
      calls_hook app hook.UpstreamPeer refl None false (item.Request (request_head old)) old
      before new behind (failed item.Nothing error) station.trying station.failing (λ at. refl)
      call
  names_peer (Err fail.OutOfMemory) same = same

  -- the application was told of the link, or failed
  pub tells_connected : (peer : Peer) (reused : Bool) (answer : Result Unit Fail)
      → Enters (changed item.Nothing answer)
      (CallsOf (Some peer) reused Leaves app hook.ConnectedToUpstream (item.Addressed peer reused)
      old before new behind) old new
      → TellsConnected app peer reused old before new behind answer
  tells_connected peer reused (Ok done) call =
      calls_hook app hook.ConnectedToUpstream refl (Some peer) reused (item.Addressed peer reused)
      old before new behind (only item.Nothing) station.named station.linked (λ at. refl) call
  tells_connected peer reused (Err (fail.Error error)) call =
      calls_hook app hook.ConnectedToUpstream refl (Some peer) reused (item.Addressed peer reused)
      old before new behind (failed item.Nothing error) station.named station.broken (λ at. refl)
      call
  tells_connected peer reused (Err fail.OutOfMemory) same = same

  -- the head was filtered
  pub filters_head : (head filtered : RequestHead)
      → Calls app hook.UpstreamRequestFilter (item.Request head) old before new behind
      (only (item.Request filtered))
      → FiltersHead app head old before new behind (Ok filtered)
  filters_head head filtered call =
      calls_hook app hook.UpstreamRequestFilter refl None false (item.Request head) old before new
      behind (only (item.Request filtered)) station.linked station.sent (λ at. refl) call

  -- or its filter failed
  pub breaks_head : (head left : RequestHead) (why : Fail)
      → Enters (changed {T = Unit} (item.Request left) (Err why))
      (Calls app hook.UpstreamRequestFilter (item.Request head) old before new behind) old new
      → FiltersHead app head old before new behind (Err why)
  breaks_head head left (fail.Error error) call =
      record {
        left = left;
        call =
            calls_hook app hook.UpstreamRequestFilter refl None false (item.Request head) old
            before new behind (failed (item.Request left) error) station.linked station.broken
            (λ at. refl) call;
      }
  breaks_head head left fail.OutOfMemory same = same

-- ---- behind an error

-- where an error leads that was treated, by whether another attempt may follow
treated_next : (again : Bool)
    → (if again then Some station.repeatable
    else (if not again then Some station.failing else None)) ≡ Some (treated_at again)
treated_next true = refl
treated_next false = refl

module _ (app : Standing → LogEntry → Type 0) (peer : Peer) (reused : Bool) (error : Error)
    (old : Seen) (before : ℕ) (new : Seen) (behind : ℕ) where
  -- the call of a hook that treats an error
  treats : (which : Hook) → is_module which ≡ false → (from : Station) (treated : Error)
      → Leads which (item.Failure error) (moment (cleared old) before)
      (only (item.Failure treated)) from (treated_at (may_follow treated old))
      → CallsOf (Some peer) reused Leaves app which (item.Failure error) old before new behind
      (only (item.Failure treated))
      → Treats app which peer reused from error old before new behind treated
  unfolding calls_hook
  treats which is_app from treated leads call =
      record {
        call =
            calls_hook app which is_app (Some peer) reused (item.Failure error) old before new
            behind (only (item.Failure treated)) from (treated_at (may_follow treated old)) leads
            call;
        marked = refl;
      }

  -- where its attempt had its link it may come
  fails_at : (from : Station) → may_break from ≡ true → (treated : Error)
      → Leads hook.ErrorWhileProxy (item.Failure error) (moment (cleared old) before)
      (only (item.Failure treated)) from (treated_at (may_follow treated old))
  fails_at station.linked h treated = λ at. treated_next (may_follow treated old)
  fails_at station.sent h treated = λ at. treated_next (may_follow treated old)
  fails_at station.relaying h treated = λ at. treated_next (may_follow treated old)
  fails_at station.at_head h treated = λ at. treated_next (may_follow treated old)
  fails_at station.at_trailers h treated = λ at. treated_next (may_follow treated old)
  fails_at station.broken h treated = λ at. treated_next (may_follow treated old)
  fails_at other h treated = absurd (true≢false (sym h))

  -- the error was treated
  pub treats_failure : (from : Station) → may_break from ≡ true → (answer : Result Error Fail)
      → Enters (answered item.Failure answer)
      (CallsOf (Some peer) reused Leaves app hook.ErrorWhileProxy (item.Failure error) old before
      new behind) old new
      → IfOk answer (λ treated. Treats app hook.ErrorWhileProxy peer reused from error old before
      new behind treated)
  treats_failure from may (Ok treated) call =
      treats hook.ErrorWhileProxy refl from treated (fails_at from may treated) call
  treats_failure from may (Err why) call = tt

-- the same where it did not reach its peer
pub treats_refusal : (app : Standing → LogEntry → Type 0) (peer : Peer) (error : Error)
    (old : Seen) (before : ℕ) (new : Seen) (behind : ℕ) (answer : Result Error Fail)
    → Enters (answered item.Failure answer)
    (CallsOf (Some peer) false Leaves app hook.FailToConnect (item.Failure error) old before new
    behind) old new
    → IfOk answer (λ treated. Treats app hook.FailToConnect peer false station.named error old
    before new behind treated)
treats_refusal app peer error old before new behind (Ok treated) call =
    treats app peer false error old before new behind hook.FailToConnect refl station.named treated
    (λ at. treated_next (may_follow treated old)) call
treats_refusal app peer error old before new behind (Err why) call = tt

-- ---- hooks that only look

module _ (app : Standing → LogEntry → Type 0) (old : Seen) (mark : ℕ) (new : Seen) where
  -- the call of a hook that only looks is one turn, and leaves the rest
  looks_once : (which : Hook) → is_module which ≡ false → (told : Item) (left : Left)
      (from to : Station) → Leads which told (moment (cleared old) mark) left from to
      → Looks app which told mark old new left
      → LooksOnce app which from to told left old mark new
  looks_once which is_app told left from to leads looks =
      record {
        call =
            calls_hook app which is_app None false told old mark new mark left from to leads
            (Looks-calls app which told mark old new left looks);
        stays =
            looks.rest
            ∙ ap (λ (s : Seen). record s { log = new.log; wrote = [] }) looks.lawful;
      }

  -- it is asked whether the error is hidden
  pub warns : (error : Error) (answer : Result Bool Fail)
      → Enters (answered item.Answer answer)
      (Looks app hook.SuppressProxyWarnLog (item.Failure error) mark old new) old new
      → IfOk answer (λ say. Warns app error old mark new say)
  warns error (Ok true) looks =
      looks_once hook.SuppressProxyWarnLog refl (item.Failure error) (only (item.Answer true))
      station.repeatable station.trying (λ at. refl) looks
  warns error (Ok false) looks =
      looks_once hook.SuppressProxyWarnLog refl (item.Failure error) (only (item.Answer false))
      station.repeatable station.warning (λ at. refl) looks
  warns error (Err why) looks = tt

  -- and for the line of the warning
  pub summarizes : (answer : Result (List ℕ) Fail)
      → Enters (answered item.Text answer)
      (Looks app hook.RequestSummary (item.Request (request_head old)) mark old new) old new
      → IfOk answer (λ summary. Summarizes app old mark new summary)
  summarizes (Ok summary) looks =
      looks_once hook.RequestSummary refl (item.Request (request_head old))
      (only (item.Text summary)) station.warning station.trying (λ at. refl) looks
  summarizes (Err why) looks = tt

-- ---- a hook may be called again

module _ (app : Standing → LogEntry → Type 0) (which : Hook) (peer : Option Peer) (reused : Bool)
    (told : Item) (old : Seen) (before : ℕ) (new : Seen) (behind : ℕ)
    (read : is_some (head_of old.downstream.reading) ≡ true) where
  -- a call leaves the head of the request read
  reads_on : (left : Left) → CallsOf peer reused Leaves app which told old before new behind left
      → is_some (head_of new.downstream.reading) ≡ true
  reads_on left call =
      subst (λ (s : Seen). is_some (head_of s.downstream.reading) ≡ true) (sym call.rest)
      (call.lawful.request.head read)

  -- so a hook may be called behind one that answers a value
  pub ready_answered : {T : Type 0} (says : T → Item) (answer : Result T Fail)
      → Enters (answered says answer)
      (CallsOf peer reused Leaves app which told old before new behind) old new
      → may_go_on answer new ≡ true
  ready_answered says (Ok value) call = reads_on (only (says value)) call
  ready_answered says (Err (fail.Error error)) call = reads_on (failed item.Nothing error) call
  ready_answered says (Err fail.OutOfMemory) same = refl

  -- and behind one that changes what it is told
  pub ready_changed : {T : Type 0} (left : Item) (answer : Result T Fail)
      → Enters (changed left answer)
      (CallsOf peer reused Leaves app which told old before new behind) old new
      → may_go_on answer new ≡ true
  ready_changed left (Ok value) call = reads_on (only left) call
  ready_changed left (Err (fail.Error error)) call = reads_on (failed left error) call
  ready_changed left (Err fail.OutOfMemory) same = refl

-- a hook that only looks does too
pub ready_looks : {T : Type 0} (app : Standing → LogEntry → Type 0) (which : Hook) (told : Item)
    (old : Seen) (mark : ℕ) (new : Seen) → is_some (head_of old.downstream.reading) ≡ true
    → (says : T → Item) (answer : Result T Fail)
    → Enters (answered says answer) (Looks app which told mark old new) old new
    → may_go_on answer new ≡ true
ready_looks app which told old mark new read says (Ok value) looks =
    reads_on app which None false told old mark new mark read (only (says value))
    (Looks-calls app which told mark old new (only (says value)) looks)
ready_looks app which told old mark new read says (Err (fail.Error error)) looks =
    reads_on app which None false told old mark new mark read (failed item.Nothing error)
    (Looks-calls app which told mark old new (failed item.Nothing error) looks)
ready_looks app which told old mark new read says (Err fail.OutOfMemory) same = refl

-- ---- out of memory

-- an error is not out of memory
abbrev is_error : Fail → Bool
is_error (fail.Error error) = true
is_error fail.OutOfMemory = false

-- a call that fails out of memory alone leaves the log where it fails
pub lost : {T : Type 0} (says : T → Item) (called : Left → Type 0) (old new : Seen)
    (answer : Result T Fail) → IsOkUnless answer fail.OutOfMemory
    → Enters (answered says answer) called old new → OnErr answer (new.log ≡ old.log)
lost says called old new (Ok value) memory call = tt
lost says called old new (Err (fail.Error error)) memory call =
    absurd (true≢false (ap is_error memory))
lost says called old new (Err fail.OutOfMemory) memory same = same
