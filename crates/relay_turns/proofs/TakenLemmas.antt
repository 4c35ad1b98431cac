-- What is taken of the offers of a connector adds up.
use Rattle.std.proofs.Common.{◌≡◌, List, [], ◌∷◌, ◌++◌, drop, length, map, append_assoc, Option, Some, None, Ok, Err, option_map, refl, sym, ap, subst, ◌∙◌, append-nil}
use Rattle.relay_tasks.specs.declared.Fault.{Fault}
use Rattle.relay_connector.specs.Connector.{AreNext, GetResult, Handed, Offer, Takes, links_of}
use Rattle.relay_links.specs.Link.{LinkStart}
use Rattle.relay_links.specs.Told.{Gains}
use Rattle.relay_links.proofs.GainsLemmas.{Gains-nothing}
use Rattle.relay_connector.specs.declared.Returned.{Returned}
use Rattle.relay_request.specs.Taken.{TakesAfter, offers_before}
use Rattle.relay_request.specs.Refusals.{faults_before}
use Rattle.relay_request.specs.Stock.{Stocks, all_links, items_held}
use Rattle.relay_request.specs.declared.machine.Phase.{Phase}

-- where the connector was not asked nothing is taken
pub takes_none : (before after : Option (List Offer)) → after ≡ before → Takes before [] after
takes_none None after same = same
takes_none (Some offers) None same = cc
takes_none (Some offers) (Some left) same = cc

-- what is taken is none of the offers
pub takes_nothing : (taken : List GetResult) (before after : Option (List Offer)) → taken ≡ []
    → after ≡ before → Takes before taken after
takes_nothing taken before after none same =
    subst (λ (xs : List GetResult). Takes before xs after) (sym none) (takes_none before after same)

-- the next, and then those behind them
next_append : (xs ys : List GetResult) (offers mid left : List Offer) → AreNext xs offers mid
    → AreNext ys mid left → AreNext (xs ++ ys) offers left
next_append [] ys offers mid left first then =
    subst (λ (os : List Offer). AreNext ys os left) (sym first) then
next_append (Ok link ∷ xs) ys [] mid left first then = absurd first
next_append (Err fault ∷ xs) ys [] mid left first then = next_append xs ys [] mid left first then
next_append (Ok link ∷ xs) ys (offer ∷ offers) mid left first then =
    (first.0, next_append xs ys offers mid left first.1 then)
next_append (Err fault ∷ xs) ys (offer ∷ offers) mid left first then =
    (first.0, next_append xs ys offers mid left first.1 then)

-- what is taken twice is taken
pub takes_twice : (before mid after : Option (List Offer)) (xs ys : List GetResult)
    → Takes before xs mid → Takes mid ys after → Takes before (xs ++ ys) after
takes_twice None mid after xs ys first then =
    let from : Takes None ys after =
    subst (λ (m : Option (List Offer)). Takes m ys after) first then in from
takes_twice (Some offers) None after xs ys first then = absurd first
takes_twice (Some offers) (Some mid) None xs ys first then = absurd then
takes_twice (Some offers) (Some mid) (Some left) xs ys first then =
    next_append xs ys offers mid left first then

-- the connector was not asked
pub none_asked : (had all : List Fault) (held : List Handed)
    (told_before told_after : Option (List Fault)) (before after : Option (List Offer))
    → all ≡ had → held ≡ [] → told_after ≡ told_before → after ≡ before
    → TakesAfter had all held told_before told_after before after
none_asked had all held told_before told_after before after same none calm kept = record {
  faults = [];
  are = append-nil had ∙ sym same;
  gained = Gains-nothing told_before told_after calm;
  takes = subst (λ (hs : List Handed). Takes before (map Ok hs) after) (sym none)
      (takes_none before after kept);
}

-- it gave a link, which was to the next of the offers
pub took_link : (had all : List Fault) (held : List Handed) (link : Handed)
    (told_before told_after : Option (List Fault)) (before after : Option (List Offer))
    → all ≡ had → held ≡ link ∷ [] → told_after ≡ told_before → Takes before (Ok link ∷ []) after
    → TakesAfter had all held told_before told_after before after
took_link had all held link told_before told_after before after same has calm first = record {
  faults = [];
  are = append-nil had ∙ sym same;
  gained = Gains-nothing told_before told_after calm;
  takes = subst (λ (hs : List Handed). Takes before (map Ok hs) after) (sym has)
      first;
}

-- it refused one, with a fault that was to the next of them or came behind the last
pub took_fault : (had all : List Fault) (held : List Handed) (fault : Fault)
    (told_before told_after : Option (List Fault)) (before after : Option (List Offer))
    → all ≡ had ++ fault ∷ [] → held ≡ [] → Gains told_before (fault ∷ []) told_after
    → Takes before (Err fault ∷ []) after
    → TakesAfter had all held told_before told_after before after
took_fault had all held fault told_before told_after before after same none told foretold = record {
  faults = fault ∷ [];
  are = sym same;
  gained = told;
  takes = subst (λ (hs : List Handed). Takes before (Err fault ∷ map Ok hs) after)
      (sym none) foretold;
}

-- ---- the links of a connector, from one moment to another

-- the links among answers, some behind others
links_append : (xs ys : List GetResult) → links_of (xs ++ ys) ≡ links_of xs ++ links_of ys
links_append [] ys = refl
links_append (Ok link ∷ xs) ys = ap (λ (ls : List Handed). link ∷ ls) (links_append xs ys)
links_append (Err fault ∷ xs) ys = links_append xs ys

-- no link came behind them
none_behind : (links : Option (List Handed)) → links ≡ option_map (λ ls. ls ++ []) links
none_behind None = refl
none_behind (Some ls) = ap (λ (xs : List Handed). Some xs) (sym (append-nil ls))

-- some came behind them, and then others
two_behind : (links : Option (List Handed)) (first then : List Handed)
    → option_map (λ ls. ls ++ then) (option_map (λ ls. ls ++ first) links)
    ≡ option_map (λ ls. ls ++ (first ++ then)) links
two_behind None first then = refl
two_behind (Some ls) first then =
    ap (λ (xs : List Handed). Some xs) (append_assoc ls first then)

-- where it was not asked, the links are those that were there
pub stocks_kept : {L : Type 0} (start : L → LinkStart) (back now : Option (List (Returned L)))
    (held holds : List Handed) (before after : Option (List Offer))
    → all_links start now holds ≡ all_links start back held → after ≡ before
    → Stocks start back now held holds before after
stocks_kept start back now held holds before after same kept = record {
  taken = [];
  takes = takes_none before after kept;
  links = same ∙ none_behind (all_links start back held);
}

-- from one moment to the next, and from that to a later one
pub stocks_twice : {L : Type 0} (start : L → LinkStart)
    (back mid now : Option (List (Returned L))) (held between holds : List Handed)
    (had has left : Option (List Offer)) → Stocks start back mid held between had has
    → Stocks start mid now between holds has left → Stocks start back now held holds had left
stocks_twice start back mid now held between holds had has left first then = record {
  taken = first.taken ++ then.taken;
  takes = takes_twice had has left first.taken then.taken first.takes then.takes;
  links = then.links
      ∙ ap (λ (o : Option (List Handed)). option_map (λ ls. ls ++ links_of then.taken) o)
      first.links
      ∙ two_behind (all_links start back held) (links_of first.taken) (links_of then.taken)
      ∙ ap (λ (xs : List Handed). option_map (λ ls. ls ++ xs) (all_links start back held))
      (sym (links_append first.taken then.taken));
}

-- what was taken before a phase, by its faults and by its links
pub offers_are : {L C : Type 0} (start : L → LinkStart) (phase : Phase L C) (told : List Fault)
    (held : List Handed) → faults_before [] phase ≡ told
    → items_held start phase ≡ held
    → offers_before start [] phase ≡ map Err told ++ map Ok held
offers_are start phase told held is has = rw (is, has) refl

-- the offers behind those that were taken before are the others
other_offers : (had faults : List Fault) (rest : List GetResult)
    → drop (length had) (map Err (had ++ faults) ++ rest) ≡ map Err faults ++ rest
other_offers [] faults rest = refl
other_offers (fault ∷ had) faults rest = other_offers had faults rest

-- and both together are all
all_offers : (had faults : List Fault) (rest : List GetResult)
    → (map Err had ++ []) ++ drop (length had) (map Err (had ++ faults) ++ rest)
    ≡ map Err (had ++ faults) ++ rest
all_offers [] faults rest = refl
all_offers (fault ∷ had) faults rest =
    ap (λ (os : List GetResult). Err fault ∷ os) (all_offers had faults rest)

-- what a turn takes that asks for a link
pub takes_more : {L C : Type 0} (start : L → LinkStart) (had : List Fault) (next : Phase L C)
    (told_before told_after : Option (List Fault)) (before after : Option (List Offer))
    → TakesAfter had (faults_before [] next) (items_held start next) told_before told_after before
    after
    → Takes before (drop (length had) (offers_before start [] next)) after
takes_more start had next told_before told_after before after asks =
    subst (λ (os : List GetResult). Takes before os after)
    (sym (ap (λ (fs : List Fault). drop (length had) (map Err fs ++ map Ok (items_held start next)))
    (sym asks.are) ∙ other_offers had asks.faults (map Ok (items_held start next)))) asks.takes

-- and what was taken then
pub took_more : {L C : Type 0} (start : L → LinkStart) (had : List Fault) (next : Phase L C)
    (told_before told_after : Option (List Fault)) (before after : Option (List Offer))
    → TakesAfter had (faults_before [] next) (items_held start next) told_before told_after before
    after
    → (map Err had ++ []) ++ drop (length had) (offers_before start [] next)
    ≡ offers_before start [] next
took_more start had next told_before told_after before after asks =
    subst (λ (fs : List Fault). (map Err had ++ [])
    ++ drop (length had) (map Err fs ++ map Ok (items_held start next))
    ≡ map Err fs ++ map Ok (items_held start next)) asks.are
    (all_offers had asks.faults (map Ok (items_held start next)))

-- a request that holds no link, and was refused none, took nothing
pub no_offers : {L C : Type 0} (start : L → LinkStart) (phase : Phase L C)
    → items_held start phase ≡ [] → faults_before [] phase ≡ []
    → offers_before start [] phase ≡ []
no_offers start phase held none = rw (held, none) refl
