-- The upstream's side of an exchange, lent to be changed: what the exchange ends as.
use Rattle.std.specs.Borrow.{Lends, Fml, RattleType, MutBor}
use Rattle.relay_exchange.specs.contracts.exchange.Exchange.{the_row}
use Rattle.relay_exchange.specs.declared.exchange.Exchange.{Exchange}

module _ (U : RattleType) where
  -- the exchange ends with the side that was last written
  abbrev pub LendsUp : MutBor (Exchange U.Denot) → MutBor U.Denot → Fml
  LendsUp s r = Lends (the_row U) U s r (λ up. record s.now { up = up })
