-- A sink into a writer.
use Rattle.std.specs.Prelude.{None}
use Rattle.relay_links.specs.declared.std_sink.StdSink.{StdSink}
use Rattle.relay_links.specs.Sink.{SinkState}

-- the sink's state: it tells no content
abbrev pub writer_state : {W : Type 0} → StdSink W → SinkState
writer_state sink = record { taken = None; faults = sink.faults }
