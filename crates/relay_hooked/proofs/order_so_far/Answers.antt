-- The law is a lemma.
use Rattle.relay_hooked.proofs.OrderLemmas.{order_so_far, untold_passes}
use Rattle.relay_hooked.proofs.order_so_far.Goals as goal

-- the halves of the attempt are in order
pub returns : goal.returns
returns g c = λ link ahead s b up duplex p q h none.
    order_so_far g.L.ByteLink.state g.L.ByteLink.start link ahead s b up duplex p q h
    (untold_passes g.L.ByteLink.state g.L.ByteLink.start link ahead s b up duplex p q h none)
