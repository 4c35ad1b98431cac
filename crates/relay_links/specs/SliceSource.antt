-- A source over a slice.
use Rattle.std.specs.Prelude.{ℕ, ◌-◌, min, cond, nat_le, length, take, drop, Some}
use Rattle.relay_links.specs.declared.source.Read.{Read}
use Rattle.relay_links.specs.declared.source.Read.TheVariants.{Bytes, End, Failed}
use Rattle.relay_links.specs.declared.slice_source.SliceSource.{SliceSource}
use Rattle.relay_links.specs.declared.failing_calls.FailingCalls.{FailingCalls}
use Rattle.relay_links.specs.FailingCalls.{next_fails}
use Rattle.relay_links.specs.Source.{SourceState}

-- the source's state: it tells what it gave and what is left
abbrev pub source_state : SliceSource → SourceState
source_state source = record {
  given = Some (take source.at source.bytes.now);
  left = Some (drop source.at source.bytes.now);
  ended = source.ended;
  faults = source.faults;
}

-- its calls, of which the listed ones fail
abbrev pub source_calls : SliceSource → FailingCalls
source_calls source = source.calls

-- its answer to a room of that length: the end stays; else a listed call fails; else as much is
-- given as is left and fits
abbrev pub source_answer : SliceSource → ℕ → Read
source_answer source room =
    cond source.ended End
    (cond (next_fails source.calls) Failed
    (cond (nat_le (length source.bytes.now) source.at) End
    (Bytes (min (length source.bytes.now - source.at) room))))
