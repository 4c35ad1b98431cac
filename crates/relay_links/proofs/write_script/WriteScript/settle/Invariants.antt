use Rattle.std.proofs.Common.{◌-◌, vec_len}
use Rattle.relay_links.specs.WriteScript.{Passes}
use Rattle.relay_links.proofs.write_script.WriteScript.settle.Given as goal

abbrev pub invariant-loop-self : goal.invariant-loop-self
invariant-loop-self l = Passes l.fn.self l.self

abbrev pub decreases-loop-self : goal.decreases-loop-self
decreases-loop-self l = vec_len l.self.items - l.self.at
