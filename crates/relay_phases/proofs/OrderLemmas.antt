-- Logs in order, one behind the other.
use Rattle.std.proofs.Common.{◌≡◌, List, [], ◌∷◌, ◌++◌, Option, Some, None, refl, ap, ◌∙◌}
use Rattle.relay_tasks.specs.declared.log.LogEntry.{LogEntry}
use Rattle.relay_phases.specs.Order.{Station, Accepts, next, next_behind}

-- two logs lead where the second leads from where the first does
pub next_behind-append : (at : Option Station) (es fs : List LogEntry)
    → next_behind at (es ++ fs) ≡ next_behind (next_behind at es) fs
next_behind-append at [] fs = refl
next_behind-append None (e ∷ es) [] = refl
next_behind-append None (e ∷ es) (f ∷ fs) = refl
next_behind-append (Some at) (e ∷ es) fs = next_behind-append (next at e) es fs

-- two logs in order, of which the second begins where the first leads, are one in order
pub Accepts-append : (from mid to : Station) (es fs : List LogEntry)
    → Accepts from es mid → Accepts mid fs to → Accepts from (es ++ fs) to
Accepts-append from mid to es fs first second =
    next_behind-append (Some from) es fs
    ∙ (ap (λ at. next_behind at fs) first ∙ second)

-- a call that may come where a log leads may stand at its end
pub Accepts-one : (from mid to : Station) (es : List LogEntry) (e : LogEntry)
    → Accepts from es mid → next mid e ≡ Some to → Accepts from (es ++ e ∷ []) to
Accepts-one from mid to es e first step = Accepts-append from mid to es (e ∷ []) first step
