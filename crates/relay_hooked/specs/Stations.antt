-- Where the calls of a side lead in the order of the calls of a request.
use Rattle.std.specs.Prelude.{◌≡◌, Bool, ◌⊎◌, List, Option, Some, None}
use Rattle.relay_tasks.specs.declared.error.Fail.{Fail}
use Rattle.relay_tasks.specs.declared.error.Fail.TheVariants as fail
use Rattle.relay_tasks.specs.declared.log.LogEntry.{LogEntry}
use Rattle.relay_phases.specs.Order.{Accepts, Station}
use Rattle.relay_phases.specs.Order.{Station as station}
use Rattle.relay_filters.specs.Segments.{InSegments}

-- messages are relayed there, and no task is between two filters: the head that is sent was
-- filtered, a call of the relaying came out well, or trailer fields were filtered, for which there
-- is no second filter
abbrev pub Relays : Station → Type 0
Relays at =
    (at ≡ station.sent) ⊎ ((at ≡ station.relaying) ⊎ (at ≡ station.at_trailers))

-- an error of the attempt may be told there: a call failed; or a head was filtered as it came from
-- the upstream, and is refused; or messages are relayed
abbrev pub MayFail : Station → Type 0
MayFail at = (at ≡ station.broken) ⊎ ((at ≡ station.at_head) ⊎ Relays at)

-- where a side leads, by why it stopped; where a hook wanted memory nothing follows
abbrev pub Lands : Option Fail → Station → Type 0
Lands None at = Relays at
Lands (Some (fail.Error error)) at = MayFail at
Lands (Some fail.OutOfMemory) at = Unit {0}

-- calls come in order behind that station
pub record Leads (from : Station) (es : List LogEntry) (stopped : Option Fail) : Type 0 where
  pub to : Station
  pub order : Accepts from es to
  pub lands : Lands stopped to

-- the calls of a side come in order, behind each station at which messages are relayed
abbrev pub ComeInOrder : Type 0
ComeInOrder = (of_head : Bool) (stopped : Option Fail) (es : List LogEntry) (from : Station)
    → Relays from → InSegments of_head stopped es → Leads from es stopped
