-- Logs that walk one behind the other, and the parts of two logs.
use Rattle.std.proofs.Common.{◌≡◌, List, [], ◌∷◌, ◌++◌, refl, ◌∙◌}
use Rattle.std.proofs.lemmas.List.Elements.{filter-append}
use Rattle.relay_tasks.specs.declared.log.LogEntry.{LogEntry}
use Rattle.relay_hooks.specs.Standing.{Standing}
use Rattle.relay_calls.specs.Log.{Views, Walk, after, requests_in, responses_in, modules_in, filters_request, filters_response, is_module_response}

-- where no call is made nothing need change
pub Views-same : (at : Standing) → Views at at
Views-same at =
    record {
      mark = refl;
      head = refl;
      keepalive = refl;
      final_head = λ h. h;
      upgraded = λ h. h;
    }

-- two stretches without a call are one
pub Views-append : (from mid to : Standing) → Views from mid → Views mid to → Views from to
Views-append from mid to v w =
    record {
      mark = w.mark ∙ v.mark;
      head = w.head ∙ v.head;
      keepalive = w.keepalive ∙ v.keepalive;
      final_head = λ h. w.final_head (v.final_head h);
      upgraded = λ h. w.upgraded (v.upgraded h);
    }

-- a stretch without a call may stand before a log
pub Walk-behind : (allows : Standing → LogEntry → Type 0) (es : List LogEntry)
    (from mid to : Standing) → Views from mid → Walk allows mid es to → Walk allows from es to
Walk-behind allows [] from mid to v w = Views-append from mid to v w
Walk-behind allows (e ∷ es) from mid to v (st, views, fits, allowed, rest) =
    (st, Views-append from mid st v views, fits, allowed, rest)

-- two logs that walk one behind the other are one that walks
pub Walk-append : (allows : Standing → LogEntry → Type 0) (es fs : List LogEntry)
    (from mid to : Standing) → Walk allows from es mid → Walk allows mid fs to
    → Walk allows from (es ++ fs) to
Walk-append allows [] fs from mid to v w = Walk-behind allows fs from mid to v w
Walk-append allows (e ∷ es) fs from mid to (st, views, fits, allowed, rest) w =
    (st, views, fits, allowed, Walk-append allows es fs (after st e) mid to rest w)

-- the filters of the request's body, of two logs
pub requests_in-append : (es fs : List LogEntry)
    → requests_in (es ++ fs) ≡ requests_in es ++ requests_in fs
requests_in-append es fs = filter-append {X = LogEntry} (λ e. filters_request e.hook) es fs

-- the application's filters of the response, of two logs
pub responses_in-append : (es fs : List LogEntry)
    → responses_in (es ++ fs) ≡ responses_in es ++ responses_in fs
responses_in-append es fs = filter-append {X = LogEntry} (λ e. filters_response e.hook) es fs

-- the modules' filters of the response, of two logs
pub modules_in-append : (es fs : List LogEntry)
    → modules_in (es ++ fs) ≡ modules_in es ++ modules_in fs
modules_in-append es fs = filter-append {X = LogEntry} (λ e. is_module_response e.hook) es fs
