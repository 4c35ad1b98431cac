-- A port is a number, and not 0.
use Rattle.std.proofs.Common.{◌∙◌, arith, sym}
use Rattle.std.proofs.lemmas.Fmt.{decimal_injective}
use Rattle.relay_command.proofs.words.parse_port.Goals as goal

pub returns-then-port-eq0 : goal.returns-then-port-eq0
returns-then-port-eq0 c = λ port spells.
    let read = c.in_ok-port.ensures in
    let same = decimal_injective port c.in_ok-port.port (omega (arith, spells.fits))
    (omega (arith, read.fits)) (sym spells.spelled ∙ read.spelled) in
    omega (arith, same, spells.some, c.if-port-eq0.true)
