-- The bytes from a place to the end are those behind it.
use Rattle.std.proofs.Common.{sym}
use Rattle.std.proofs.Math.ListN.{drop_of_length-le}
use Rattle.relay_command.proofs.ExchangeLemmas.{range_end}
use Rattle.relay_command.proofs.exchange.bytes_behind.Goals as goal

pub returns-then-count-bytes : goal.returns-then-count-bytes
returns-then-count-bytes c = range_end c.args.bytes.now c.args.count

pub returns-else-count-bytes : goal.returns-else-count-bytes
returns-else-count-bytes c = sym (drop_of_length-le c.args.bytes.now c.if-count-bytes.false)
