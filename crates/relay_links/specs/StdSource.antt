-- A source over a reader.
use Rattle.std.specs.Prelude.{None}
use Rattle.relay_links.specs.declared.std_source.StdSource.{StdSource}
use Rattle.relay_links.specs.Source.{SourceState}

-- the source's state: it tells no content
abbrev pub reader_state : {R : Type 0} → StdSource R → SourceState
reader_state source = record {
  given = None;
  left = None;
  ended = source.ended;
  faults = source.faults;
}
