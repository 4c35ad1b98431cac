-- The links of a connector over the turns of a request: those that it took come behind those that
-- were there.
use Rattle.std.proofs.Common.{◌≡◌, List, [], ◌∷◌, ◌++◌, drop, length, map, Option, Some, None, Ok, Err, option_map, refl, sym, ap, subst, ◌∙◌, append_assoc}
use Rattle.relay_tasks.specs.declared.Fault.{Fault}
use Rattle.relay_connector.specs.Connector.{GetResult, Handed, Offer, Takes, links_of}
use Rattle.relay_connector.specs.declared.Returned.{Returned}
use Rattle.relay_links.specs.Link.{LinkStart}
use Rattle.relay_request.specs.Refusals.{faults_before}
use Rattle.relay_request.specs.Stock.{Stocks, all_links, items_back, items_held}
use Rattle.relay_request.specs.Taken.{TakesAfter, offers_before}
use Rattle.relay_request.specs.declared.machine.Phase.{Phase}

-- the links behind faults
links_behind : (faults : List Fault) (held : List Handed)
    → links_of (map Err faults ++ map Ok held) ≡ held
links_behind [] [] = refl
links_behind [] (link ∷ held) = ap (λ (links : List Handed). link ∷ links) (links_behind [] held)
links_behind (fault ∷ faults) held = links_behind faults held

-- and behind those that were told before
links_dropped : (had faults : List Fault) (held : List Handed)
    → links_of (drop (length had) (map Err (had ++ faults) ++ map Ok held)) ≡ held
links_dropped [] faults held = links_behind faults held
links_dropped (fault ∷ had) faults held = links_dropped had faults held

-- what a turn takes that asks for a link is the link that is held behind it
pub links_asked : {L C : Type 0} (start : L → LinkStart) (had : List Fault) (next : Phase L C)
    (told_before told_after : Option (List Fault)) (before after : Option (List Offer))
    → TakesAfter had (faults_before [] next) (items_held start next) told_before told_after before
    after
    → links_of (drop (length had) (offers_before start [] next)) ≡ items_held start next
links_asked start had next told_before told_after before after asks =
    subst (λ (fs : List Fault).
    links_of (drop (length had) (map Err fs ++ map Ok (items_held start next)))
    ≡ items_held start next) asks.are (links_dropped had asks.faults (items_held start next))

-- links that were taken came behind those that were back or held
pub stocks_by : {L : Type 0} (start : L → LinkStart) (back now : Option (List (Returned L)))
    (held holds : List Handed) (had has : Option (List Offer)) (taken : List GetResult)
    → Takes had taken has
    → all_links start now holds ≡ all_links start back (held ++ links_of taken)
    → Stocks start back now held holds had has
stocks_by start back now held holds had has taken takes links = record {
  taken = taken;
  takes = takes;
  links = links ∙ split back;
}
  where
    -- those that were there, and then those that were taken
    split : (bs : Option (List (Returned _)))
        → all_links start bs (held ++ links_of taken)
        ≡ option_map (λ links. links ++ links_of taken) (all_links start bs held)
    split None = refl
    split (Some bs) = ap Some (sym (append_assoc (items_back start bs) held (links_of taken)))
