-- The law is a lemma.
use Rattle.relay_hooked.proofs.FinishLemmas.{finishes_so}
use Rattle.relay_hooked.proofs.OrderLemmas.{untold_passes}
use Rattle.relay_hooked.proofs.finish_relayed.Goals as goal

-- whether the end of the response passed the filters decides
pub returns : goal.returns
returns g c = λ link ahead s b up duplex p q so_far none finishes.
    finishes_so g.L.ByteLink.state g.L.ByteLink.start link ahead s b up duplex p q so_far
    (untold_passes g.L.ByteLink.state g.L.ByteLink.start link ahead s b up duplex p q so_far none)
    finishes
