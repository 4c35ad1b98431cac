-- The links of a connector: those that came back, and the one that a request holds, as they were
-- handed out; and those that it took of what the connector has.
use Rattle.std.specs.Prelude.{◌≡◌, List, [], ◌∷◌, ◌++◌, map, Option, option_map}
use Rattle.relay_connector.specs.Connector.{GetResult, Handed, Offer, Takes, handed, links_of}
use Rattle.relay_links.specs.Link.{LinkStart}
use Rattle.relay_connector.specs.declared.Returned.{Returned}
use Rattle.relay_hooked.specs.Head.{link_of}
use Rattle.relay_request.specs.declared.machine.Phase.{Phase}
use Rattle.relay_request.specs.declared.machine.Phase.TheVariants.{ReadHead, Connect, Unlinked, Prepare, Relay, Broken, Again, Fail, Close, Answer, Ended}

-- the link that a phase holds, as it was handed out
abbrev pub items_held : {L C : Type 0} → (L → LinkStart) → Phase L C → List Handed
items_held start ReadHead = []
items_held start (Connect context session tries) = []
items_held start (Unlinked context session attempts error) = []
items_held start (Prepare context session link lease) = handed (start link) ∷ []
items_held start (Relay a) = handed (start (link_of a.value.exchange)) ∷ []
items_held start (Broken context session link lease keep error) = handed (start link) ∷ []
items_held start (Again context session link lease keep error) = handed (start link) ∷ []
items_held start (Fail link lease keep session error) = handed (start link) ∷ []
items_held start (Close link lease keep outcome) = handed (start link) ∷ []
items_held start (Answer session owed attempts) = []
items_held start (Ended outcome attempts) = []

-- the links that came back, as they were handed out
abbrev pub items_back : {L : Type 0} → (L → LinkStart) → List (Returned L) → List Handed
items_back start back = map (λ r. handed (start r.link)) back

-- the links that came back and the one that is held, in order; where the connector tells them
abbrev pub all_links : {L : Type 0} → (L → LinkStart) → Option (List (Returned L))
    → List Handed → Option (List Handed)
all_links start back held = option_map (λ links. items_back start links ++ held) back

-- from one such moment to the next: links of these offers were taken, in order, and came behind
-- those that were back or held; none was lost, and none is left in between
pub record Stocks {L : Type 0} (start : L → LinkStart)
    (back now : Option (List (Returned L))) (held holds : List Handed)
    (had has : Option (List Offer)) : Type 0 where
  pub taken : List GetResult
  pub takes : Takes had taken has
  pub links : all_links start now holds
      ≡ option_map (λ links. links ++ links_of taken) (all_links start back held)
