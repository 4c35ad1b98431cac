use Rattle.relay_links.proofs.BranchLemmas.{bit_test}
use Rattle.relay_links.proofs.branch_set.BranchSet.contains.Goals as goal

pub returns : goal.returns
returns c =
    bit_test c.self.inside.bits c.place.result c.args.self.now c.args.branch c.self.view_is
    c.place.ensures
