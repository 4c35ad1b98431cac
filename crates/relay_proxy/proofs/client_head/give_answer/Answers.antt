-- The answer is the generated one, whole.
use Rattle.std.proofs.Common.{◌∙◌, ap}
use Rattle.relay_session.specs.declared.session.HttpSession.{HttpSession}
use Rattle.relay_turns.proofs.HeadSteps.{turned_down, begun_answer, unread_sent}
use Rattle.relay_proxy.proofs.client_head.give_answer.Goals as goal

-- a head that is turned down is given the generated answer
pub returns-clause-run : goal.returns-clause-run
returns-clause-run g c = λ s p w run why.
    let begun = c.new_http1-session.ensures in
    turned_down g.L.ByteLink.state g.L.ByteLink.start s p w c.args.status _ _ _ why
    (ap (λ (k : HttpSession). k.writing.output) c.in-Ok-new.ensures.ok
    ∙ begun_answer c.args.status _ _ begun.response c.in-Ok.ensures.ok c.in-Ok.ensures.text
    (unread_sent c.args.status _ _ begun.head begun.answers))
    c.new-2.ensures run
