use Rattle.std.proofs.Common.{sym, refl}
use Rattle.relay_authority.proofs.HostLemmas.{none_of_first}
use Rattle.relay_authority.proofs.heads.has_no_host.Goals as goal

-- there is no first Host, so there is none
pub returns-in-None : goal.returns-in-None
returns-in-None c = (λ _. none_of_first _ (sym c.in-None.ensures), λ _. refl)
