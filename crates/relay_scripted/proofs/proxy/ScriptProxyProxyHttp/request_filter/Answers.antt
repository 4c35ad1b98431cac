use Rattle.std.proofs.Common.{true, refl, sym}
use Rattle.relay_scripted.proofs.EntryLemmas.{replied}
use Rattle.relay_scripted.proofs.proxy.ScriptProxyProxyHttp.request_filter.Goals as goal

-- the answer of the rule was queued
pub returns-in_ok-answer-in-Status-clause-allowed :
    goal.returns-in_ok-answer-in-Status-clause-allowed
returns-in_ok-answer-in-Status-clause-allowed c =
    let answered = c.in_ok-answer-in-Status.ensures.answers in
    record {
      before = refl;
      after = c.count.ensures;
      does = replied _ true _ c.in-Status.code _ (sym c.in-Status.ensures.value) answered.wrote;
      head = rw answered.untouched refl;
      keepalive = answered.keepalive;
      delay = refl;
    }
