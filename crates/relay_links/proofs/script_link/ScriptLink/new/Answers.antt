use Rattle.std.proofs.Common.{refl}
use Rattle.relay_links.proofs.ScriptLinkLemmas.{fresh, none_counted}
use Rattle.relay_links.proofs.script_link.ScriptLink.new.Goals as goal

pub invariant_of-result-clause-counted : goal.invariant_of-result-clause-counted
invariant_of-result-clause-counted c = none_counted c.new.result c.new-2.result c.args.read c.args.write
    c.new.ensures c.new-2.ensures

pub returns : goal.returns
returns c = fresh _ c.args.read c.args.write
    c.new.ensures c.new-2.ensures c.new-3.ensures.items c.new-3.ensures.len refl refl refl refl
