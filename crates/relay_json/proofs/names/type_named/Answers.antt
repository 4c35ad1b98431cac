-- The second of the types with a number, or no type.
use Rattle.std.proofs.Common.{None, Some, sym}
use Rattle.relay_json.proofs.NameLemmas.{third_type}
use Rattle.relay_json.proofs.names.type_named.Goals as goal

pub returns-in-Some-number_behind-2 : goal.returns-in-Some-number_behind-2
returns-in-Some-number_behind-2 c =
    sym (third_type c.args.text.now (Some c.in-Some-number_behind-2.code) (sym c.in_default.ensures)
    (sym c.in_default-number_behind.ensures) (sym c.in-Some-number_behind-2.ensures))

pub returns-in-None : goal.returns-in-None
returns-in-None c =
    sym (third_type c.args.text.now None (sym c.in_default.ensures)
    (sym c.in_default-number_behind.ensures) (sym c.in-None.ensures))
