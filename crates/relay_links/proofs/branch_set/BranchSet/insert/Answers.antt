use Rattle.relay_links.proofs.BranchLemmas.{set_bit, has-set_bit}
use Rattle.relay_links.proofs.branch_set.BranchSet.insert.Goals as goal

pub returns-clause-members : goal.returns-clause-members
returns-clause-members c =
    set_bit c.self.inside.bits c.place.result c.args.self.now c.args.branch c.self.view_is
    c.place.ensures

pub returns-clause-has : goal.returns-clause-has
returns-clause-has c =
    λ b. has-set_bit c.self.inside.bits c.place.result c.args.self.now c.args.branch b
    c.self.view_is c.place.ensures
