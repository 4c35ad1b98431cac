-- A sink into a vector.
use Rattle.std.specs.Prelude.{◌≡◌, ◌⊎◌, ℕ, cond, Some}
use Rattle.relay_links.specs.declared.sink.Wrote.{Wrote}
use Rattle.relay_links.specs.declared.sink.Wrote.TheVariants.{Took, Failed, OutOfMemory}
use Rattle.relay_links.specs.declared.vec_sink.VecSink.{VecSink}
use Rattle.relay_links.specs.declared.failing_calls.FailingCalls.{FailingCalls}
use Rattle.relay_links.specs.FailingCalls.{next_fails}
use Rattle.relay_links.specs.Sink.{SinkState}

-- the sink's state: it tells what it took
abbrev pub sink_state : VecSink → SinkState
sink_state sink = record { taken = Some sink.bytes.items; faults = sink.faults }

-- its calls, of which the listed ones fail
abbrev pub sink_calls : VecSink → FailingCalls
sink_calls sink = sink.calls

-- a listed call fails, and else all of the part is taken, but when out of memory
abbrev pub IsSinkAnswer : VecSink → ℕ → Wrote → Type 0
IsSinkAnswer sink part answer =
    (answer ≡ cond (next_fails sink.calls) Failed (Took part)) ⊎ (answer ≡ OutOfMemory)
