-- Bytes spell the value of the text that they are.
use Rattle.std.proofs.Common.{sym, ◌∙◌, true≢false}
use Rattle.relay_json.proofs.ScriptLemmas.{reads_value-none, reads_value-text}
use Rattle.relay_json.proofs.script.parse.Goals as goal

pub returns-in-Ok : goal.returns-in-Ok
returns-in-Ok c = reads_value-text c.args.bytes.now _ c.in-Ok.ensures.ok.0 c.in-Ok.ensures.ok.1

pub returns-else-is_memory : goal.returns-else-is_memory
returns-else-is_memory c =
    reads_value-none c.args.bytes.now
    (c.in-Err.ensures.err
    (λ memory. true≢false (sym (c.is_memory.ensures.1 memory) ∙ c.if-is_memory.false)))
