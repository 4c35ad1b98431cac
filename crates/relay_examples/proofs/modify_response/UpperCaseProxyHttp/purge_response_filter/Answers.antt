-- The answer is left as the relay made it.
use Rattle.std.proofs.Common.{sym, subst}
use Rattle.relay_hooks.specs.Laws.{IsBodiless}
use Rattle.relay_hooks.proofs.PurgeLemmas.{purge_head-bodiless}
use Rattle.relay_examples.proofs.modify_response.UpperCaseProxyHttp.purge_response_filter.Goals as goal

pub returns-clause-bodiless : goal.returns-clause-bodiless
returns-clause-bodiless c =
    subst IsBodiless (sym c.requires.answer) (purge_head-bodiless c.args._status.now)
