-- Where no rule stands for a hook, its call does what the default does.
use Rattle.std.proofs.Common.{◌≡◌, ℕ, true, false, List, [], ◌∷◌, refl, ap, ◌∙◌, inl, inr}
use Rattle.std.specs.Prelude.{Bool, not, Option, None, is_some}
use Rattle.relay_tasks.specs.declared.error.Error.{Error}
use Rattle.relay_tasks.specs.declared.hook.Hook.{Hook}
use Rattle.relay_tasks.specs.declared.hook.Hook.TheVariants as hook
use Rattle.relay_tasks.specs.declared.log.Item.{Item}
use Rattle.relay_tasks.specs.declared.log.Item.TheVariants as item
use Rattle.relay_tasks.specs.declared.message.Injected.{Injected}
use Rattle.relay_tasks.specs.declared.peer.Peer.{Peer}
use Rattle.relay_tasks.specs.declared.task.HttpTask.{HttpTask}
use Rattle.relay_hooks.specs.DefaultLaw.{IsDefaultWrote, default_output, marked, purge_answer}
use Rattle.relay_hooks.specs.Standing.{Standing}
use Rattle.relay_script.specs.Actions.{on_error, on_failure, on_injected, on_kept, on_piece, on_request, on_response, on_said}
use Rattle.relay_script.specs.Fold.{Outcome, apply_rules, goes_on, run_rules}
use Rattle.relay_tasks.specs.Hooks.{same_hook}
use Rattle.relay_script.specs.declared.rule.Action.{Action}
use Rattle.relay_script.specs.declared.rule.Rule.{Rule}
use Rattle.relay_script.proofs.FoldLemmas.{both_true}
use Rattle.relay_scripted.specs.Decision.{failure_of, on_reply, reply_of}
use Rattle.relay_scripted.specs.NoRules.{DoesDefault, is_free}
use Rattle.relay_scripted.specs.Scripted.{Does, MayReply, MayTell, answered_unless, filtered, forwarded, no_messages, says}
use Rattle.relay_scripted.specs.declared.decision.Reply.TheVariants as reply

-- ---- the folds

-- what is not true is false
not_true : (b : Bool) → not b ≡ true → b ≡ false
not_true true none = absurd cc
not_true false none = refl

-- rules of other hooks change nothing
run_free : {X : Type 0} (act : Action → X → Outcome X) (on : Hook) (rules : List Rule) (x : X)
    → is_free on rules ≡ true → run_rules act on rules x ≡ goes_on x
run_free act on [] x free = refl
run_free act on (rule ∷ rules) x free =
    let parts = both_true (not (same_hook rule.hook on)) (is_free on rules) free in
    rw (not_true _ parts.0) (run_free act on rules x parts.1)

-- nor what is answered
apply_free : {X : Type 0} (act : Action → X → X) (on : Hook) (rules : List Rule) (x : X)
    → is_free on rules ≡ true → apply_rules act on rules x ≡ x
apply_free act on [] x free = refl
apply_free act on (rule ∷ rules) x free =
    let parts = both_true (not (same_hook rule.hook on)) (is_free on rules) free in
    rw (not_true _ parts.0) (apply_free act on rules x parts.1)

-- ---- what a hook comes to

-- a filter leaves what it is given
filtered_free : (rules : List Rule) (on : Hook) (input : Item) → is_free on rules ≡ true
    → filtered rules on input ≡ goes_on input
filtered_free rules on item.Nothing free = refl
filtered_free rules on (item.Request head) free = rw (run_free on_request on rules head free)
filtered_free rules on (item.Response head end) free = rw (run_free on_response on rules head free)
filtered_free rules on (item.Piece bytes end) free = rw (run_free on_piece on rules bytes free)
filtered_free rules on (item.Trailers fields) free = rw (apply_free on_failure on rules None free)
filtered_free rules on (item.Message bytes hop) free = refl
filtered_free rules on (item.Answer say) free = refl
filtered_free rules on (item.Addressed peer reused) free = refl
filtered_free rules on (item.Failure error) free = rw (apply_free on_error on rules error free)
filtered_free rules on (item.Code code reuse) free = refl
filtered_free rules on (item.Status answer) free = refl
filtered_free rules on (item.Action action) free = refl
filtered_free rules on (item.Text bytes) free = refl
filtered_free rules on (item.Kept some) free = refl
filtered_free rules on (item.Injected lists) free = refl

-- a hook answers what it answers by default
answered_free : (rules : List Rule) (on : Hook) (output : Item) → is_free on rules ≡ true
    → answered_unless (failure_of rules on) output ≡ goes_on output
answered_free rules on output free = rw (apply_free on_failure on rules None free)

-- a hook says what it says by default
says_free : (rules : List Rule) (on : Hook) (by_default : Bool) → is_free on rules ≡ true
    → says rules on by_default ≡ goes_on (item.Answer by_default)
says_free rules on by_default free = rw (apply_free on_said on rules by_default free)

-- no rule answers the client
reply_free : (rules : List Rule) (on : Hook) (say : Bool) (other did : Outcome Item)
    (wrote : List HttpTask) → is_free on rules ≡ true
    → MayReply (reply_of rules on) say other did wrote → (did ≡ other) × (wrote ≡ [])
reply_free rules on say other did wrote free does =
    rw (apply_free on_reply on rules reply.Nothing free) at does

-- modules are made without an error
told_free : (rules : List Rule) (on : Hook) (by_default : Bool) (did : Outcome Item)
    → is_free on rules ≡ true → is_free hook.InitDownstreamModules rules ≡ true
    → MayTell (failure_of rules hook.InitDownstreamModules) (says rules on by_default) did
    → did ≡ goes_on (item.Answer by_default)
told_free rules on by_default did free making (inl same) = same ∙ says_free rules on by_default free
told_free rules on by_default did free making (inr same) =
    same
    ∙ ap (λ (error : Option Error). record (says rules on by_default) { error = error })
    (apply_free on_failure hook.InitDownstreamModules rules None making)
    ∙ says_free rules on by_default free

-- ---- each hook

-- where no rule stands for a hook, a call did and wrote what it does by default
did_default : (rules : List Rule) (peer : Peer) (st : Standing) (on : Hook) (input : Item)
    (did : Outcome Item) (wrote : List HttpTask) → is_free on rules ≡ true
    → is_free hook.InitDownstreamModules rules ≡ true → Does rules peer st on input did wrote
    → (did ≡ goes_on (default_output peer st on input)) × IsDefaultWrote st on input wrote
did_default rules peer st hook.NewCtx input did wrote free making does = does
did_default rules peer st hook.UpstreamPeer input did wrote free making does =
    (does.0 ∙ answered_free rules hook.UpstreamPeer (item.Addressed peer false) free, does.1)
did_default rules peer st hook.InitDownstreamModules input did wrote free making does = does
did_default rules peer st hook.EarlyRequestFilter input did wrote free making does =
    (does.0 ∙ answered_free rules hook.EarlyRequestFilter item.Nothing free, does.1)
did_default rules peer st hook.AllowSpawningSubrequest input did wrote free making does =
    (told_free rules hook.AllowSpawningSubrequest false did free making does.0, does.1)
did_default rules peer st hook.RequestFilter input did wrote free making does =
    let alone = reply_free rules hook.RequestFilter true _ did wrote free does in
    (alone.0 ∙ answered_free rules hook.RequestFilter (item.Answer false) free, alone.1)
did_default rules peer st hook.RequestBodyFilter input did wrote free making does =
    (does.0 ∙ filtered_free rules hook.RequestBodyFilter input free, does.1)
did_default rules peer st hook.ProxyUpstreamFilter input did wrote free making does =
    let alone = reply_free rules hook.ProxyUpstreamFilter false _ did wrote free does in (
      alone.0
          ∙ answered_free rules hook.ProxyUpstreamFilter _ free
          ∙ says_free rules hook.ProxyUpstreamFilter true free,
      alone.1,
    )
did_default rules peer st hook.UpstreamRequestFilter input did wrote free making does =
    (does.0 ∙ filtered_free rules hook.UpstreamRequestFilter input free, does.1)
did_default rules peer st hook.UpstreamResponseFilter input did wrote free making does =
    (does.0 ∙ filtered_free rules hook.UpstreamResponseFilter input free, does.1)
did_default rules peer st hook.ResponseFilter input did wrote free making does =
    (does.0 ∙ filtered_free rules hook.ResponseFilter input free, does.1)
did_default rules peer st hook.CustomForwarding input did wrote free making does = (
  does.0 ∙ ap (λ (sent : Outcome Injected). forwarded sent)
      (run_free on_injected hook.CustomForwarding rules no_messages free),
  does.1,
)
did_default rules peer st hook.DownstreamCustomMessageProxyFilter input did wrote free making does =
    (does.0 ∙ answered_free rules hook.DownstreamCustomMessageProxyFilter input free, does.1)
did_default rules peer st hook.UpstreamCustomMessageProxyFilter input did wrote free making does =
    (does.0 ∙ answered_free rules hook.UpstreamCustomMessageProxyFilter input free, does.1)
did_default rules peer st hook.UpstreamResponseBodyFilter input did wrote free making does =
    (does.0 ∙ filtered_free rules hook.UpstreamResponseBodyFilter input free, does.1)
did_default rules peer st hook.UpstreamResponseTrailerFilter input did wrote free making does =
    (does.0 ∙ filtered_free rules hook.UpstreamResponseTrailerFilter input free, does.1)
did_default rules peer st hook.ResponseBodyFilter input did wrote free making does =
    (does.0 ∙ filtered_free rules hook.ResponseBodyFilter input free, does.1)
did_default rules peer st hook.ResponseTrailerFilter input did wrote free making does =
    (does.0 ∙ filtered_free rules hook.ResponseTrailerFilter input free, does.1)
did_default rules peer st hook.Logging input did wrote free making does = does
did_default rules peer st hook.PersistConnectionContext input did wrote free making does = (
  does.0
      ∙ ap (λ (kept : Option ℕ). goes_on (item.Kept (is_some kept)))
      (apply_free on_kept hook.PersistConnectionContext rules None free),
  does.1,
)
did_default rules peer st hook.OnConnectionReuse input did wrote free making does = does
did_default rules peer st hook.SuppressErrorLog input did wrote free making does =
    (does.0 ∙ says_free rules hook.SuppressErrorLog false free, does.1)
did_default rules peer st hook.SuppressProxyWarnLog input did wrote free making does =
    (does.0 ∙ says_free rules hook.SuppressProxyWarnLog false free, does.1)
did_default rules peer st hook.ErrorWhileProxy input did wrote free making does =
    (does.0 ∙ filtered_free rules hook.ErrorWhileProxy (marked st input) free, does.1)
did_default rules peer st hook.FailToConnect input did wrote free making does =
    (does.0 ∙ filtered_free rules hook.FailToConnect input free, does.1)
did_default rules peer st hook.FailToProxy input did wrote free making does = does
did_default rules peer st hook.ConnectedToUpstream input did wrote free making does =
    (does.0 ∙ answered_free rules hook.ConnectedToUpstream item.Nothing free, does.1)
did_default rules peer st hook.RequestSummary input did wrote free making does = does
did_default rules peer st hook.IsPurge input did wrote free making does =
    (does.0 ∙ says_free rules hook.IsPurge false free, does.1)
did_default rules peer st hook.PurgeAction input did wrote free making does = does
did_default rules peer st hook.PurgeResponseFilter input did wrote free making does =
    (does.0 ∙ filtered_free rules hook.PurgeResponseFilter (purge_answer input) free, does.1)
did_default rules peer st hook.ModuleRequestHeader input did wrote free making does = does
did_default rules peer st hook.ModuleRequestBody input did wrote free making does = does
did_default rules peer st hook.ModuleResponseHeader input did wrote free making does = does
did_default rules peer st hook.ModuleResponseBody input did wrote free making does = does
did_default rules peer st hook.ModuleResponseTrailer input did wrote free making does = does
did_default rules peer st hook.ModuleResponseDone input did wrote free making does = does

-- the entry is that of the default
pub does_default : (rules : List Rule) (peer : Peer) → DoesDefault rules peer
does_default rules peer =
    λ st e free making allowed.
    let did = did_default rules peer st e.hook e.input _ e.wrote free making allowed.does in
    record {
      before = allowed.before;
      after = refl;
      output = ap (λ (o : Outcome Item). o.left) did.0;
      wrote = did.1;
      error = ap (λ (o : Outcome Item). o.error) did.0;
      head = allowed.head;
      keepalive = allowed.keepalive;
      delay = allowed.delay;
    }
