-- The report of the script that the bytes spell was written, or a write failed.
use Rattle.std.proofs.Common.{◌≡◌, ℕ, List, None, inl, inr, refl, subst, sym}
use Rattle.relay_links.specs.Sink.{SinkState}
use Rattle.relay_command.specs.Run.{IsReportOf, EndsBytes, refused_text, status_after}
use Rattle.relay_json.specs.Script.{reads_script}
use Rattle.relay_command.specs.Transfer.{WritesOut}
use Rattle.relay_command.specs.declared.run.Status.TheVariants as status
use Rattle.relay_command.specs.declared.transfer.Output.{Output}
use Rattle.relay_command.specs.declared.transfer.Output.TheVariants as output
use Rattle.relay_command.proofs.run.answer_bytes.Goals as goal

-- why it ends so behind the write of a report
reported : (bytes text : List ℕ) (before after : SinkState) (out : Output) → IsReportOf bytes text
    → WritesOut before after text out
    → EndsBytes bytes before after (status_after out status.Reported)
reported bytes text before after output.Done is takes =
    record { text = text; report = is; written = takes }
reported bytes text before after output.Failed is fails =
    record { text = text; due = inl is; fails = fails }
reported bytes text before after output.OutOfMemory is stops =
    inr (record { text = text; due = inl is; stops = stops })

-- why it ends so behind the write of the line that refuses
refused : (bytes : List ℕ) (before after : SinkState) (out : Output) → reads_script bytes ≡ None
    → WritesOut before after refused_text out
    → EndsBytes bytes before after (status_after out status.ScriptRefused)
refused bytes before after output.Done none takes = (none, takes)
refused bytes before after output.Failed none fails =
    record { text = refused_text; due = inr (none, refl); fails = fails }
refused bytes before after output.OutOfMemory none stops =
    inr (record { text = refused_text; due = inr (none, refl); stops = stops })

pub returns-in-Ok : goal.returns-in-Ok
returns-in-Ok g c =
    let before = g.T.Sink.state c.args.sink.now in
    let after = g.T.Sink.state c.write_text.new.sink in
    let is = subst (λ text. IsReportOf c.args.bytes.now text) (sym c.deref.ensures.value)
    c.in-Ok.ensures in
    subst (λ s. EndsBytes c.args.bytes.now before after s) (sym c.write_text.ensures.2)
    (reported c.args.bytes.now c.deref.result.now before after c.write_text.ensures.0 is
    c.write_text.ensures.1)

pub returns-in-Err-Refused : goal.returns-in-Err-Refused
returns-in-Err-Refused g c =
    let before = g.T.Sink.state c.args.sink.now in
    let after = g.T.Sink.state c.write_text-in-Err-Refused.new.sink in
    let none = rw c.in-Err-Refused.field-0-is at c.in-Err-Refused.ensures in
    let ends = c.write_text-in-Err-Refused.ensures in
    subst (λ s. EndsBytes c.args.bytes.now before after s) (sym ends.2)
    (refused c.args.bytes.now before after ends.0 none ends.1)

pub returns-in-Err-HookNotCalled : goal.returns-in-Err-HookNotCalled
returns-in-Err-HookNotCalled g c =
    let before = g.T.Sink.state c.args.sink.now in
    let after = g.T.Sink.state c.write_text-in-Err-HookNotCalled.new.sink in
    let none = rw c.in-Err-HookNotCalled.field-0-is at c.in-Err-HookNotCalled.ensures in
    let ends = c.write_text-in-Err-HookNotCalled.ensures in
    subst (λ s. EndsBytes c.args.bytes.now before after s) (sym ends.2)
    (refused c.args.bytes.now before after ends.0 none ends.1)
