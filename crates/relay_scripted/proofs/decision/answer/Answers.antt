use Rattle.relay_scripted.proofs.ReplyLemmas.{answers_with, final_status}
use Rattle.relay_scripted.proofs.decision.answer.Goals as goal

-- the code of a final head is a status
pub respond_error-requires : goal.respond_error-requires
respond_error-requires g c = final_status c.args.code c.requires.code

-- no final head was queued, so the answer is
pub returns : goal.returns
returns g c =
    record {
      answers =
          answers_with c.args.code _ c.args.session.now.seen _ c.requires.code c.requires.owed
          c.respond_error.ensures.answers;
    }
