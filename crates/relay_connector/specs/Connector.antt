-- What a connector answers, and what it will answer, where it tells that.
use Rattle.std.specs.Prelude.{◌≡◌, ◌≢◌, Bool, true, false, List, [], ◌∷◌, Option, Some, None, Result, Ok, Err}
use Rattle.relay_tasks.specs.declared.error.RetryType.{RetryType}
use Rattle.relay_tasks.specs.declared.error.RetryType.TheVariants.{Decided}
use Rattle.relay_tasks.specs.declared.fault.Fault.{Fault}
use Rattle.relay_tasks.specs.declared.fault.FaultKind.TheVariants as kind
use Rattle.relay_links.specs.Link.{LinkItems, LinkStart}

-- a fault of a connector
abbrev pub IsConnectFault : Fault → Type 0
IsConnectFault fault = fault.kind ≡ kind.Connect

-- the fault of a connector, with that mark
abbrev pub connect_fault : RetryType → Fault
connect_fault retry = record { kind = kind.Connect; retry = retry }

-- the fault of a connector that has nothing for a call: it is not to be retried
abbrev pub nothing_left : Fault
nothing_left = connect_fault (Decided false)

-- what a connector has for one call: a new link, or one in place of a link that came back to be
-- kept, each by the items by which it answers where it has such; or a fault in place of a link
pub data Offer : Type 0 where
  New : Option LinkItems → Offer
  Again : Option LinkItems → Offer
  Refusal : Fault → Offer

-- a link as a call handed it out: the items by which it answers, where it has such, and whether it
-- had been used before
pub record Handed : Type 0 where
  pub items : Option LinkItems
  pub reused : Bool

-- a link that was handed out so
abbrev pub handed : LinkStart → Handed
handed start = record { items = start.items; reused = start.reused }

-- what one call answered
abbrev pub GetResult : Type 0
GetResult = Result Handed Fault

-- the answer is one to that offer: where no link that came back is there to be used again, it is a
-- fault
abbrev pub IsAnswer : Offer → GetResult → Type 0
IsAnswer (New items) (Ok link) = link ≡ record { items = items; reused = false }
IsAnswer (New items) (Err fault) = ⊥
IsAnswer (Again items) (Ok link) = link ≡ record { items = items; reused = true }
IsAnswer (Again items) (Err fault) = fault ≡ nothing_left
IsAnswer (Refusal next) (Ok link) = ⊥
IsAnswer (Refusal next) (Err fault) = fault ≡ next

-- these answers were to the next of the offers, in order, and those are left; past the last of them
-- there are faults alone
abbrev pub AreNext : List GetResult → List Offer → List Offer → Type 0
AreNext [] offers left = offers ≡ left
AreNext (Ok link ∷ answers) [] left = ⊥
AreNext (Err fault ∷ answers) [] left = AreNext answers [] left
AreNext (Ok link ∷ answers) (offer ∷ offers) left =
    IsAnswer offer (Ok link) × AreNext answers offers left
AreNext (Err fault ∷ answers) (offer ∷ offers) left =
    IsAnswer offer (Err fault) × AreNext answers offers left

-- the same, where the connector tells what it has
abbrev pub Takes : Option (List Offer) → List GetResult → Option (List Offer) → Type 0
Takes None answers after = after ≡ None
Takes (Some offers) answers None = ⊥
Takes (Some offers) answers (Some left) = AreNext answers offers left

-- the links among these answers, in order
abbrev pub links_of : List GetResult → List Handed
links_of [] = []
links_of (Ok link ∷ answers) = link ∷ links_of answers
links_of (Err fault ∷ answers) = links_of answers
