use Rattle.relay_script.proofs.RoomLemmas.{set_answers}
use Rattle.relay_script.proofs.filtered.RequestHeaderFiltered.change.Goals as goal

-- the field is set where there is room for it
pub returns-in_ok-clone-in-Set-2-clause-answers : goal.returns-in_ok-clone-in-Set-2-clause-answers
returns-in_ok-clone-in-Set-2-clause-answers c =
    let did = c.insert_header-in-Set.ensures in
    rw (
      c.in-Set.is,
      ← c.in_ok-clone-in-Set.ensures.cases,
      ← c.in_ok-clone-in-Set-2.ensures.cases,
    ) (set_answers _ _ _ _ _ _ did.ok did.full did.causes did.err)
