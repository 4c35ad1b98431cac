-- The default hooks change nothing: none of their calls ends a request, and the filter of the head
-- that is sent leaves what it is given, as do those of the body and of the response.
use Rattle.std.proofs.Common.{◌≡◌, Bool, true, false, ◌&&◌, ◌||◌, refl, sym, ap, ◌∙◌, true≢false}
use Rattle.relay_tasks.specs.Hooks.{same_hook}
use Rattle.relay_tasks.specs.Head.{RequestHead}
use Rattle.relay_tasks.specs.declared.hook.Hook.{Hook}
use Rattle.relay_tasks.specs.declared.hook.Hook.TheVariants as hook
use Rattle.relay_tasks.specs.declared.log.Item.{Item}
use Rattle.relay_tasks.specs.declared.log.LogEntry.{LogEntry}
use Rattle.relay_tasks.specs.declared.peer.Peer.{Peer}
use Rattle.relay_hooks.specs.DefaultLaw.{IsDefault, default_output}
use Rattle.relay_hooks.specs.Standing.{Standing}
use Rattle.relay_phases.specs.Order.{is_answer}
use Rattle.relay_request.proofs.FilterLemmas.{filters}
use Rattle.relay_neutral.specs.Neutral.{IsNeutral}

-- a call of that hook with that answer ends a request before its attempts
abbrev ends_by : Hook → Item → Bool
ends_by h said =
    (same_hook hook.RequestFilter h && is_answer true said)
    || ((same_hook hook.IsPurge h && is_answer true said)
    || (same_hook hook.ProxyUpstreamFilter h && is_answer false said))

-- no default answer does
goes_on : (peer : Peer) (st : Standing) (h : Hook) (input : Item)
    → ends_by h (default_output peer st h input) ≡ false
goes_on peer st hook.NewCtx input = refl
goes_on peer st hook.UpstreamPeer input = refl
goes_on peer st hook.InitDownstreamModules input = refl
goes_on peer st hook.EarlyRequestFilter input = refl
goes_on peer st hook.AllowSpawningSubrequest input = refl
goes_on peer st hook.RequestFilter input = refl
goes_on peer st hook.RequestBodyFilter input = refl
goes_on peer st hook.ProxyUpstreamFilter input = refl
goes_on peer st hook.UpstreamRequestFilter input = refl
goes_on peer st hook.UpstreamResponseFilter input = refl
goes_on peer st hook.ResponseFilter input = refl
goes_on peer st hook.CustomForwarding input = refl
goes_on peer st hook.DownstreamCustomMessageProxyFilter input = refl
goes_on peer st hook.UpstreamCustomMessageProxyFilter input = refl
goes_on peer st hook.UpstreamResponseBodyFilter input = refl
goes_on peer st hook.UpstreamResponseTrailerFilter input = refl
goes_on peer st hook.ResponseBodyFilter input = refl
goes_on peer st hook.ResponseTrailerFilter input = refl
goes_on peer st hook.Logging input = refl
goes_on peer st hook.PersistConnectionContext input = refl
goes_on peer st hook.OnConnectionReuse input = refl
goes_on peer st hook.SuppressErrorLog input = refl
goes_on peer st hook.SuppressProxyWarnLog input = refl
goes_on peer st hook.ErrorWhileProxy input = refl
goes_on peer st hook.FailToConnect input = refl
goes_on peer st hook.FailToProxy input = refl
goes_on peer st hook.ConnectedToUpstream input = refl
goes_on peer st hook.RequestSummary input = refl
goes_on peer st hook.IsPurge input = refl
goes_on peer st hook.PurgeAction input = refl
goes_on peer st hook.PurgeResponseFilter input = refl
goes_on peer st hook.ModuleRequestHeader input = refl
goes_on peer st hook.ModuleRequestBody input = refl
goes_on peer st hook.ModuleResponseHeader input = refl
goes_on peer st hook.ModuleResponseBody input = refl
goes_on peer st hook.ModuleResponseTrailer input = refl
goes_on peer st hook.ModuleResponseDone input = refl

-- what a default filter of the request's body or of the response leaves is what it is given
leaves_it : (peer : Peer) (st : Standing) (h : Hook) (input : Item) → filters h ≡ true
    → default_output peer st h input ≡ input
leaves_it peer st hook.NewCtx input is = absurd (true≢false (sym is))
leaves_it peer st hook.UpstreamPeer input is = absurd (true≢false (sym is))
leaves_it peer st hook.InitDownstreamModules input is = absurd (true≢false (sym is))
leaves_it peer st hook.EarlyRequestFilter input is = absurd (true≢false (sym is))
leaves_it peer st hook.AllowSpawningSubrequest input is = absurd (true≢false (sym is))
leaves_it peer st hook.RequestFilter input is = absurd (true≢false (sym is))
leaves_it peer st hook.RequestBodyFilter input is = refl
leaves_it peer st hook.ProxyUpstreamFilter input is = absurd (true≢false (sym is))
leaves_it peer st hook.UpstreamRequestFilter input is = absurd (true≢false (sym is))
leaves_it peer st hook.UpstreamResponseFilter input is = refl
leaves_it peer st hook.ResponseFilter input is = refl
leaves_it peer st hook.CustomForwarding input is = absurd (true≢false (sym is))
leaves_it peer st hook.DownstreamCustomMessageProxyFilter input is = absurd (true≢false (sym is))
leaves_it peer st hook.UpstreamCustomMessageProxyFilter input is = absurd (true≢false (sym is))
leaves_it peer st hook.UpstreamResponseBodyFilter input is = refl
leaves_it peer st hook.UpstreamResponseTrailerFilter input is = refl
leaves_it peer st hook.ResponseBodyFilter input is = refl
leaves_it peer st hook.ResponseTrailerFilter input is = refl
leaves_it peer st hook.Logging input is = absurd (true≢false (sym is))
leaves_it peer st hook.PersistConnectionContext input is = absurd (true≢false (sym is))
leaves_it peer st hook.OnConnectionReuse input is = absurd (true≢false (sym is))
leaves_it peer st hook.SuppressErrorLog input is = absurd (true≢false (sym is))
leaves_it peer st hook.SuppressProxyWarnLog input is = absurd (true≢false (sym is))
leaves_it peer st hook.ErrorWhileProxy input is = absurd (true≢false (sym is))
leaves_it peer st hook.FailToConnect input is = absurd (true≢false (sym is))
leaves_it peer st hook.FailToProxy input is = absurd (true≢false (sym is))
leaves_it peer st hook.ConnectedToUpstream input is = absurd (true≢false (sym is))
leaves_it peer st hook.RequestSummary input is = absurd (true≢false (sym is))
leaves_it peer st hook.IsPurge input is = absurd (true≢false (sym is))
leaves_it peer st hook.PurgeAction input is = absurd (true≢false (sym is))
leaves_it peer st hook.PurgeResponseFilter input is = absurd (true≢false (sym is))
leaves_it peer st hook.ModuleRequestHeader input is = absurd (true≢false (sym is))
leaves_it peer st hook.ModuleRequestBody input is = refl
leaves_it peer st hook.ModuleResponseHeader input is = refl
leaves_it peer st hook.ModuleResponseBody input is = refl
leaves_it peer st hook.ModuleResponseTrailer input is = refl
leaves_it peer st hook.ModuleResponseDone input is = refl

-- so each call of a default hook changes nothing
pub default_neutral : (peer : Peer) (head : RequestHead) (st : Standing) (e : LogEntry)
    → IsDefault peer st e → IsNeutral head e
default_neutral peer head st e d = record {
  passes = d.error;
  leaves = rw d.head refl;
  goes_on = ap (λ (said : Item). ends_by e.hook said) d.output ∙ goes_on peer st e.hook e.input;
  sends = λ is. d.output ∙ ap (λ (h : Hook). default_output peer st h e.input) is;
  filters = λ is. d.output ∙ leaves_it peer st e.hook e.input is;
}
