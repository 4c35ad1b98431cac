-- The parts that a target was cut into.
use Rattle.relay_authority.specs.Target.{Parts}
use Rattle.relay_authority.specs.declared.reconcile.CutTarget.{CutTarget}

-- what the parts are
abbrev pub parts_of : CutTarget → Parts
parts_of cut = record
    { scheme = cut.scheme.now; authority = cut.authority.now; rest = cut.rest.now }
