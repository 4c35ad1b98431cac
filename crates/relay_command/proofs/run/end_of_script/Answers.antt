-- What a run of the bytes ends with, where they are all that the source gave.
use Rattle.std.proofs.Common.{ℕ, List, inl, inr, subst}
use Rattle.relay_links.specs.Sink.{SinkState}
use Rattle.relay_links.specs.Source.{SourceState}
use Rattle.relay_command.specs.Run.{EndsBytes, EndsScript}
use Rattle.relay_command.specs.Transfer.{GivesAll}
use Rattle.relay_command.specs.declared.run.Status.{Status}
use Rattle.relay_command.specs.declared.run.Status.TheVariants as status
use Rattle.relay_command.proofs.run.end_of_script.Goals as goal

-- why it ends so, where the source gave all these bytes
ended : (bytes : List ℕ) (source source' : SourceState) (sink sink' : SinkState) (end : Status)
    → GivesAll source source' bytes → EndsBytes bytes sink sink' end
    → EndsScript source source' sink sink' end
ended bytes source source' sink sink' status.Reported gives ends =
    record { bytes = bytes; gives = gives; report = ends }
ended bytes source source' sink sink' status.ScriptRefused gives ends = record {
  cause = inl (record { bytes = bytes; gives = gives; none = ends.0 });
  written = ends.1;
}
ended bytes source source' sink sink' status.SourceFailed gives ends = absurd ends
ended bytes source source' sink sink' status.SinkFailed gives ends = record {
  text = ends.text;
  due = inl (record { bytes = bytes; gives = gives; due = ends.due });
  fails = ends.fails;
}
ended bytes source source' sink sink' status.OutOfMemory gives (inl same) =
    (record { bytes = bytes; gives = gives.gives }, inl same)
ended bytes source source' sink sink' status.OutOfMemory gives (inr short) = (
  record { bytes = bytes; gives = gives.gives },
  inr (record {
    text = short.text;
    due = inl (record { bytes = bytes; gives = gives; due = short.due });
    stops = short.stops;
  }),
)
ended bytes source source' sink sink' status.WordsRefused gives ends = absurd ends

pub returns-in-Whole : goal.returns-in-Whole
returns-in-Whole g c =
    let before = g.T.Sink.state c.args.sink.now in
    let after = g.T.Sink.state c.answer_bytes.new.sink in
    let ends = subst (λ bytes. EndsBytes bytes before after c.answer_bytes.result)
    c.deref.ensures.value c.answer_bytes.ensures in
    ended c.in-Whole.bytes.items (g.S.Source.state c.args.source.now)
    (g.S.Source.state c.read_all.new.source) before after c.answer_bytes.result c.in-Whole.ensures
    ends
