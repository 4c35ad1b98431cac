-- A log goes on past calls of filters: they end no request, name no peer, and treat no error.
--
--   filter_other   the hook of a filter is none that is no filter
--   unended_past   the end of the request has not begun behind them
--   walks_past     a log that walks on past calls
--   order_past     calls that come in order behind others
use Rattle.std.proofs.Common.{◌≡◌, ℕ, Bool, true, false, ◌||◌, List, [], ◌∷◌, ◌++◌, refl, sym, ap, subst, ◌∙◌, true≢false}
use Rattle.std.specs.Prelude.{All, ◌==◌}
use Rattle.std.proofs.lemmas.Bool.{eqb-true}
use Rattle.std.proofs.lemmas.List.Elements.{All-head, All-tail}
use Rattle.std.proofs.lemmas.List.Folds.{list_any-append}
use Rattle.std.specs.List.{list_any}
use Rattle.relay_tasks.specs.Hooks.{number_of, same_hook}
use Rattle.relay_tasks.specs.declared.hook.Hook.{Hook}
use Rattle.relay_tasks.specs.declared.hook.Hook.TheVariants as hook
use Rattle.relay_tasks.specs.declared.log.LogEntry.{LogEntry}
use Rattle.relay_hooks.specs.Standing.{Standing}
use Rattle.relay_calls.specs.Log.{Walk, filters_request, filters_response, is_module_response}
use Rattle.relay_calls.proofs.LogLemmas.{Walk-append}
use Rattle.relay_phases.specs.Order.{Accepts, Station, accepted}
use Rattle.relay_phases.proofs.OrderLemmas.{Accepts-append}
use Rattle.relay_filters.specs.Response.{IsFilterCall}
use Rattle.relay_request.specs.Calls.{IsUnended}
use Rattle.relay_request.specs.Passed.{begins_end}

-- it is the hook of a filter of the request's body or of the response
abbrev pub filters : Hook → Bool
filters h = filters_request h || (filters_response h || is_module_response h)

-- the same by its place among the hooks
abbrev filters_at : ℕ → Bool
filters_at n =
    (n == 6) || ((n == 9) || ((n == 10) || ((n == 14) || ((n == 15) || ((n == 16) || ((n == 17)
    || ((n == 32) || ((n == 33) || ((n == 34) || ((n == 35) || (n == 36)))))))))))

-- both are the same
filters_is : (h : Hook) → filters h ≡ filters_at (number_of h)
filters_is hook.NewCtx = refl
filters_is hook.UpstreamPeer = refl
filters_is hook.InitDownstreamModules = refl
filters_is hook.EarlyRequestFilter = refl
filters_is hook.AllowSpawningSubrequest = refl
filters_is hook.RequestFilter = refl
filters_is hook.RequestBodyFilter = refl
filters_is hook.ProxyUpstreamFilter = refl
filters_is hook.UpstreamRequestFilter = refl
filters_is hook.UpstreamResponseFilter = refl
filters_is hook.ResponseFilter = refl
filters_is hook.CustomForwarding = refl
filters_is hook.DownstreamCustomMessageProxyFilter = refl
filters_is hook.UpstreamCustomMessageProxyFilter = refl
filters_is hook.UpstreamResponseBodyFilter = refl
filters_is hook.UpstreamResponseTrailerFilter = refl
filters_is hook.ResponseBodyFilter = refl
filters_is hook.ResponseTrailerFilter = refl
filters_is hook.Logging = refl
filters_is hook.PersistConnectionContext = refl
filters_is hook.OnConnectionReuse = refl
filters_is hook.SuppressErrorLog = refl
filters_is hook.SuppressProxyWarnLog = refl
filters_is hook.ErrorWhileProxy = refl
filters_is hook.FailToConnect = refl
filters_is hook.FailToProxy = refl
filters_is hook.ConnectedToUpstream = refl
filters_is hook.RequestSummary = refl
filters_is hook.IsPurge = refl
filters_is hook.PurgeAction = refl
filters_is hook.PurgeResponseFilter = refl
filters_is hook.ModuleRequestHeader = refl
filters_is hook.ModuleRequestBody = refl
filters_is hook.ModuleResponseHeader = refl
filters_is hook.ModuleResponseBody = refl
filters_is hook.ModuleResponseTrailer = refl
filters_is hook.ModuleResponseDone = refl

-- the hook of a filter is none that is no filter
pub filter_other : (which h : Hook) → filters h ≡ true → filters which ≡ false
    → same_hook which h ≡ false
filter_other which h is isnt = by (same_hook which h) refl
  where
    by : (b : Bool) → same_hook which h ≡ b → same_hook which h ≡ false
    by false other = other
    by true same =
        let at = eqb-true (number_of which) (number_of h) same in
        absurd (true≢false (sym is ∙ filters_is h ∙ ap filters_at (sym at)
        ∙ sym (filters_is which) ∙ isnt))

-- so it begins no end of a request
filter_no_end : (h : Hook) → filters h ≡ true → begins_end h ≡ false
filter_no_end h is =
    ap (λ (b : Bool). b || same_hook hook.Logging h) (filter_other hook.FailToProxy h is refl)
    ∙ filter_other hook.Logging h is refl

-- calls of filters begin no end
pub none_end : (es : List LogEntry) → All IsFilterCall es
    → list_any (λ e. begins_end e.hook) es ≡ false
none_end [] plain = refl
none_end (e ∷ es) plain =
    ap (λ (b : Bool). b || list_any (λ x. begins_end x.hook) es)
    (filter_no_end e.hook (All-head IsFilterCall e es plain).is_filter)
    ∙ none_end es (All-tail IsFilterCall e es plain)

-- behind them the end of the request has not begun
pub unended_past : (log es log' : List LogEntry) → log' ≡ log ++ es → IsUnended log
    → All IsFilterCall es → IsUnended log'
unended_past log es log' more open_to plain =
    ap (list_any (λ e. begins_end e.hook)) more
    ∙ list_any-append (λ e. begins_end e.hook) log es
    ∙ ap (λ (b : Bool). b || list_any (λ e. begins_end e.hook) es) open_to ∙ none_end es plain

-- a log that walks goes on past calls that walk
pub walks_past : (allows : Standing → LogEntry → Type 0) (from : Standing)
    (log es log' : List LogEntry) (mid to : Standing) → log' ≡ log ++ es → Walk allows from log mid
    → Walk allows mid es to → Walk allows from log' to
walks_past allows from log es log' mid to more first then =
    subst (λ (l : List LogEntry). Walk allows from l to) (sym more)
    (Walk-append allows log es from mid to first then)

-- calls that come in order go on in order
pub order_past : (log es log' : List LogEntry) (mid to : Station) → log' ≡ log ++ es
    → Accepts accepted log mid → Accepts mid es to → Accepts accepted log' to
order_past log es log' mid to more first then =
    subst (λ (l : List LogEntry). Accepts accepted l to) (sym more)
    (Accepts-append accepted mid to log es first then)
