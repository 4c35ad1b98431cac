use Rattle.relay_links.proofs.ReadScriptLemmas.{passes_one, settled_here, settled_past}
use Rattle.relay_links.proofs.read_script.ReadScript.settle.Goals as goal

pub returns-then-not-is_passed-clause-settled : goal.returns-then-not-is_passed-clause-settled
returns-then-not-is_passed-clause-settled c =
    settled_here c.loop-self.self c.args.taken c.len.result c.index.result.now c.len.ensures
    c.loop-self-test.true c.index.ensures (cc)

pub loop-self-preserved : goal.loop-self-preserved
loop-self-preserved c =
    passes_one c.args.self.now c.loop-self.self c.args.taken c.len.result c.index.result.now
    c.loop-self.invariant c.len.ensures c.loop-self-test.true c.index.ensures (cc)

pub returns-clause-settled : goal.returns-clause-settled
returns-clause-settled c =
    settled_past c.loop-self.self c.args.taken c.len.result c.len.ensures c.loop-self-test.false
