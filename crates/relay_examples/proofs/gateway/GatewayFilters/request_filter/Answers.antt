-- The answer to a request without an authorisation is a whole final one.
use Rattle.std.proofs.Common.{Ok, refl}
use Rattle.relay_scripted.specs.Reply.{Answers}
use Rattle.relay_scripted.proofs.ReplyLemmas.{answers_with}
use Rattle.relay_examples.proofs.gateway.GatewayFilters.request_filter.Goals as goal

-- no final head was queued, so the answer is
pub returns : goal.returns
returns c =
    let answered : Answers 403 c.args.session.now.seen c.respond_error.new.self.seen =
    answers_with 403 (Ok tt) c.args.session.now.seen c.respond_error.new.self.seen refl c.requires
    c.in_ok-respond_error.ensures.answers in
    (answered.queues, answered.whole)
