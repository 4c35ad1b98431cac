use Rattle.std.proofs.Common.{[]}
use Rattle.relay_session.specs.TaskWire.{piece_sent, piece_refusal}
use Rattle.relay_session.proofs.WireSteps.{pushed_behind}
use Rattle.relay_session.proofs.task_text.push_framed.Goals as goal

pub returns-in-Ok-clause-ok : goal.returns-in-Ok-clause-ok
returns-in-Ok-clause-ok c =
    pushed_behind c.in-Ok.pushed c.args.head.now c.args.framing c.ends_connection.result
    (piece_sent c.args.framing [] c.args.ends) (piece_refusal c.args.framing [] c.args.ends)
    c.args.out.now c.push_response_head.new.self c.push_empty.new.out c.ends_connection.ensures
    c.in_ok-push_response_head.ensures.ok c.in-Ok.ensures.ok
