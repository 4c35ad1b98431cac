-- Where the answer could not be queued nothing has changed.
use Rattle.std.proofs.Common.{◌≡◌, false, arith}
use Rattle.relay_session.specs.Generated.{answer_tasks}
use Rattle.relay_hooks.specs.Session.{is_answered}
use Rattle.relay_opening.proofs.TurnLemmas.{stuck_behind}
use Rattle.relay_opening.proofs.turn.refuse.Goals as goal

pub returns-in-Err : goal.returns-in-Err
returns-in-Err g c =
    let no_head : is_answered c.args.session.now.seen ≡ false =
    grind (arith, c.response_written.ensures, c.if-response_written.false) in
    stuck_behind (answer_tasks c.args.session.now.seen.downstream.writing.place 502) c.in-Err.why
    c.args.session.now.seen c.respond_error.new.self.seen no_head
    c.in-Err.ensures.answers
