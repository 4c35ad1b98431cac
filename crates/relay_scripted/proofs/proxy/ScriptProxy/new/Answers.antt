use Rattle.relay_scripted.proofs.NoRulesLemmas.{does_default}
use Rattle.relay_scripted.proofs.proxy.ScriptProxy.new.Goals as goal

-- a law of the relation
pub returns-clause-default : goal.returns-clause-default
returns-clause-default c = does_default c.args.rules c.args.peer
