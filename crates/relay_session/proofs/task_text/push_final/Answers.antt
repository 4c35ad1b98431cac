use Rattle.relay_session.specs.TaskWire.{framing_of, shown}
use Rattle.relay_session.proofs.WireSteps.{pushed_final}
use Rattle.relay_session.proofs.task_text.push_final.Goals as goal

pub returns-in-Ok-clause-ok : goal.returns-in-Ok-clause-ok
returns-in-Ok-clause-ok c =
    pushed_final c.push_framed.result (framing_of c.args.request.now c.args.head) c.in-Ok.framing
    (shown c.args.request.now c.args.head) c.frame.new.head c.args.ends c.args.out.now
    c.push_framed.new.out c.in-Ok.ensures.framing c.in-Ok.ensures.head
    c.push_framed.ensures.ok
