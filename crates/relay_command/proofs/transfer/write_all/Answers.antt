-- A write goes on where the last one stopped.
use Rattle.std.proofs.Common.{◌≤◌, ◌-◌, length, drop, arith}
use Rattle.std.proofs.lemmas.List.{length-take}
use Rattle.relay_command.proofs.TransferLemmas.{Takes-more}
use Rattle.relay_command.proofs.transfer.write_all.Goals as goal

pub loop-done-preserved : goal.loop-done-preserved
loop-done-preserved g c =
    let text = c.args.text.now in
    let done = c.loop-done.done in
    let fits : c.in-Took.count ≤ length text - done =
    omega (arith, c.in-Took.ensures.fits, length-take (length text - done) (drop done text)) in
    record {
      within = omega arith;
      taken = Takes-more _ _ _ text done c.in-Took.count c.loop-done.invariant.within fits
          c.loop-done.invariant.taken c.in-Took.ensures;
    }
