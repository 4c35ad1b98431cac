use Rattle.relay_links.proofs.BranchLemmas.{branches_of-zero}
use Rattle.relay_links.proofs.branch_set.BranchSet.new.Goals as goal

pub returns : goal.returns
returns c = branches_of-zero
