use Rattle.std.proofs.Common.{sym, subst}
use Rattle.relay_script.proofs.LawLemmas.{lawful_codes}
use Rattle.relay_scripted.specs.Reply.{IsFinalReply}
use Rattle.relay_scripted.specs.declared.decision.Reply.{Reply}
use Rattle.relay_scripted.specs.declared.decision.Reply.TheVariants as reply
use Rattle.relay_scripted.proofs.ReplyLemmas.{reply_final}
use Rattle.relay_scripted.proofs.decision.reply_of.Goals as goal

-- the codes of checked rules are those of final heads
pub returns-clause-lawful : goal.returns-clause-lawful
returns-clause-lawful c =
    subst (λ (given : Reply). IsFinalReply given) (sym c.apply_rules.ensures)
    (reply_final c.args.hook _ reply.Nothing
    (rw c.as_slice.ensures.value (lawful_codes c.args.rules.now c.as_slice.ensures.lawful)) tt)
