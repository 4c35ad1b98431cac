use Rattle.std.proofs.Common.{rules, arith, vec_len}
use Rattle.relay_connector.proofs.ToldLemmas.{told_once}
use Rattle.relay_connector.proofs.script_connector.ScriptConnectorConnector.get.Goals as goal

-- the fault of an entry is told, for the faults before it are all those of entries
pub returns-in-Ok-clause-refused : goal.returns-in-Ok-clause-refused
returns-in-Ok-clause-refused c =
    told_once c.args.self.now.refused.items c.push.new.self.items
    (vec_len c.args.self.now.refused) (vec_len c.push.new.self) c.args.self.now.faults
    c.saturating_add-self-in-Some-refusal.result c.in-Some-refusal.fault
    (c.args.self.now.in_order (omega (arith, c.in-Some.ensures.cases))) c.in-Ok.ensures.items c.in-Ok.ensures.len
    c.saturating_add-self-in-Some-refusal.ensures
