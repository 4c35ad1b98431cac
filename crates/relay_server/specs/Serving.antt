-- Many requests over one proxy: those under way, and those that came to an end.
use Rattle.std.specs.Prelude.{◌≡◌, ℕ, ◌+◌, ◌≤◌, Bool, true, false, List, [], ◌∷◌, ◌++◌, map, Option}
use Rattle.std.specs.List.Sorted.{IsPermutation}
use Rattle.relay_tasks.specs.declared.log.LogEntry.{LogEntry}
use Rattle.relay_h1.specs.declared.Connection.{Connection}
use Rattle.relay_links.specs.Count.{last_count}
use Rattle.relay_links.specs.Link.{LinkState, LinkStart}
use Rattle.relay_links.specs.Told.{more}
use Rattle.relay_connector.specs.declared.Returned.{Returned}
use Rattle.relay_modules.specs.Module.{ModuleCall}
use Rattle.relay_hooks.specs.Standing.{Standing}
use Rattle.relay_phases.specs.Order.{Station}
use Rattle.relay_attempt.specs.Passed.{Passed}
use Rattle.relay_request.specs.Calls.{CallsSoFar, IsLogged, allowed_by, kept_at, log_of}
use Rattle.relay_request.specs.Endings.{IsEnded}
use Rattle.relay_request.specs.Legs.{AreLegs, Leg, behind}
use Rattle.relay_request.specs.Passed.{World, Start, called_to}
use Rattle.relay_request.specs.Phases.{RunSoFar}
use Rattle.relay_request.specs.ClosingHooks.{Gives}
use Rattle.relay_request.specs.Request.{ended_after, is_done}
use Rattle.relay_request.specs.Turn.{world_of, links_held}
use Rattle.relay_request.specs.declared.calls.At.{At}
use Rattle.relay_request.specs.declared.calls.At.TheVariants.{Kept}
use Rattle.relay_request.specs.declared.calls.Calls.{Calls}
use Rattle.relay_request.specs.declared.machine.Phase.{Phase}
use Rattle.relay_request.specs.declared.outcome.Outcome.{Outcome}
use Rattle.relay_request.specs.declared.outcome.Outcome.TheVariants.{NoRequest, Refused, Served, TurnLimit, OutOfMemory}
use Rattle.relay_proxy.specs.declared.proxy.HttpProxy.{HttpProxy}
use Rattle.relay_request.specs.declared.record.AttemptRecord.{AttemptRecord}
use Rattle.relay_server.specs.declared.open_connection.AfterRequest.{AfterRequest}
use Rattle.relay_server.specs.declared.open_connection.AfterRequest.TheVariants.{Goes, Ends}

-- what a proxy and its connector tell of the requests so far: how many ended, the links that were
-- handed back, and how many calls of the connector failed
pub record Books (L : Type 0) : Type 0 where
  pub requests_ended : ℕ
  pub returned : Option (List (Returned L))
  pub faults : ℕ
  pub most : ℕ

-- the books of a proxy
abbrev pub books : {SV K P L : Type 0} → (K → Option (List (Returned L))) → (K → ℕ)
    → HttpProxy SV K P → Books L
books returned faults proxy = record {
  requests_ended = proxy.requests_ended;
  returned = returned proxy.connector;
  faults = faults proxy.connector;
  most = proxy.conf.max_retries;
}

-- the count does not fall, and stays one
abbrev pub CountRises : ℕ → ℕ → Type 0
CountRises before after = before ≤ last_count → (before ≤ after) × (after ≤ last_count)

-- a client's connection, where the request on it stands, and the calls of hooks for it; and how
-- many calls of the client's link had failed as it began
pub record Visit (D U L C M : Type 0) : Type 0 where
  pub client : Connection D U
  pub phase : Phase L C
  pub calls : Calls M U C
  pub first : ℕ

-- the client's connection is kept for another request
abbrev pub is_reused : Outcome → Bool
is_reused NoRequest = false
is_reused (Refused error) = false
is_reused (Served error reuse) = reuse
is_reused TurnLimit = false
is_reused OutOfMemory = false

module _ {L : Type 0} (state : L → LinkState) (start_at : L → LinkStart)
    (allows : Standing → LogEntry → Type 0) where
  -- a request that came to its end, and that might make so many attempts: each call of a hook for
  -- it was allowed where it stood, and they came in order. Attempts of it failed over their links,
  -- each of which was followed by another; what passed in the last one is told by the links, in
  -- order, and what it came to has its cause, by those calls. The outcome is that, `logging` having
  -- been told of its error, and once; or turns or memory ran out in the hooks of its end
  pub record EndedRequest (most : ℕ) (own : List (Returned L)) (outcome : Outcome) : Type 0 where
    pub start : Start
    pub limit : start.most ≡ most
    pub log : List LogEntry
    pub station : Station
    pub logged : IsLogged allows log station
    pub legs : List (Leg L)
    pub are_legs : AreLegs state start_at (called_to start log) legs
    pub passed : Passed
    pub world : World
    pub last : List (Returned L)
    pub own_are : own ≡ map (λ leg. leg.back) legs ++ last
    pub attempts : List AttemptRecord
    pub came : Outcome
    pub ended : IsEnded state start_at (called_to (behind start legs) log) passed world last
        attempts came
    pub given : Gives log came outcome

  -- requests came to their ends, one after the other: each that was served or refused is counted
  -- once, and these are the links that they handed back
  pub data AreEnded (most before : ℕ) : ℕ → List (Returned L) → Type 0 where
    none : AreEnded most before before []
    one_more : (count : ℕ) (links : List (Returned L)) → AreEnded most before count links
        → (own : List (Returned L)) (outcome : Outcome) → EndedRequest most own outcome
        → AreEnded most before (ended_after count outcome) (links ++ own)

  -- the same, from these books on: the links that were handed back since then are theirs and those
  -- others, in some order, since a link may go back before its request ends
  pub record HaveEnded (before : Books L) (count : ℕ) (returned : Option (List (Returned L)))
      (others : List (Returned L)) : Type 0 where
    pub links : List (Returned L)
    pub gained : List (Returned L)
    pub ended : AreEnded before.most before.requests_ended count links
    pub joined : IsPermutation (links ++ others) gained
    pub told : returned ≡ more before.returned gained

module _ {L : Type 0} (state : L → LinkState) (start_at : L → LinkStart) where
  -- how many links the requests hold
  abbrev pub all_held : {D U C M : Type 0} → List (Visit D U L C M) → ℕ
  all_held [] = 0
  all_held (visit ∷ rest) = links_held state start_at visit.phase + all_held rest

-- these links are those of one and those of others, in some order
pub record Divides {L : Type 0} (one others : List (Returned L) → Type 0)
    (links : List (Returned L)) : Type 0 where
  pub own : List (Returned L)
  pub rest : List (Returned L)
  pub of_one : one own
  pub of_others : others rest
  pub joined : IsPermutation (own ++ rest) links

module _ {L C D U M : Type 0}
    (state : L → LinkState) (start_at : L → LinkStart) (client_state : D → LinkState)
    (allows : Standing → LogEntry → Type 0) (mark_of : C → ℕ) where
  -- the request is under way since some start, by the calls of hooks so far, behind attempts that
  -- failed over their links, and handed these links back
  pub record IsUnderWay (most faults : ℕ) (visit : Visit D U L C M) (own : List (Returned L))
      : Type 0 where
    pub start : Start
    pub limit : start.most ≡ most
    pub first : start.first ≡ visit.first
    pub calls : CallsSoFar allows mark_of visit.calls visit.phase
    pub legs : List (Leg L)
    pub are_legs : AreLegs state start_at (called_to start (log_of visit.calls)) legs
    pub passed : Passed
    pub last : List (Returned L)
    pub own_are : own ≡ map (λ leg. leg.back) legs ++ last
    pub run : RunSoFar state start_at (called_to (behind start legs) (log_of visit.calls)) passed
        (world_of client_state visit.client faults) last visit.phase
    pub going : is_done visit.phase visit.calls.at ≡ false

  -- all requests are under way, and handed these links back
  abbrev pub AreUnderWay : ℕ → ℕ → List (Visit D U L C M) → List (Returned L) → Type 0
  AreUnderWay most faults [] links = links ≡ []
  AreUnderWay most faults (visit ∷ rest) links =
      Divides (IsUnderWay most faults visit) (AreUnderWay most faults rest) links

  -- a server that began with the books `before`: requests have ended, and others are under way
  pub record Serves (before now : Books L) (visits : List (Visit D U L C M)) : Type 0 where
    pub links : List (Returned L)
    pub ended : HaveEnded state start_at allows before now.requests_ended now.returned links
    pub under_way : AreUnderWay now.most now.faults visits links
    -- the proxy is the one with which it began
    pub same_most : now.most ≡ before.most

  -- the same, where one request has come to its end and was not counted yet
  pub record EndsOne (before now : Books L) (visit : Visit D U L C M)
      (rest : List (Visit D U L C M))
      : Type 0 where
    pub own : List (Returned L)
    pub links : List (Returned L)
    pub ended : HaveEnded state start_at allows before now.requests_ended now.returned
        (own ++ links)
    pub start : Start
    pub calls : CallsSoFar allows mark_of visit.calls visit.phase
    pub legs : List (Leg L)
    pub are_legs : AreLegs state start_at (called_to start (log_of visit.calls)) legs
    pub passed : Passed
    pub last : List (Returned L)
    pub own_are : own ≡ map (λ leg. leg.back) legs ++ last
    pub run : RunSoFar state start_at (called_to (behind start legs) (log_of visit.calls)) passed
        (world_of client_state visit.client now.faults) last visit.phase
    pub limit : start.most ≡ before.most
    pub over : is_done visit.phase visit.calls.at ≡ true
    pub under_way : AreUnderWay now.most now.faults rest links
    pub same_most : now.most ≡ before.most

-- the requests that are open behind one that was ended: its connection's next one, or none
abbrev pub with_next : {D U L C M : Type 0} → AfterRequest (Visit D U L C M) D
    → List (Visit D U L C M) → List (Visit D U L C M)
with_next (Goes visit) rest = visit ∷ rest
with_next (Ends link) rest = rest

-- the next request of a connection is handed the value that the one before kept for it, by where
-- the hooks of its end stood
abbrev pub IsHanded : {D U L C M : Type 0} → At U C → AfterRequest (Visit D U L C M) D → Type 0
IsHanded here (Goes visit) = visit.calls.at ≡ Kept (kept_at here)
IsHanded here (Ends link) = Unit {0}

-- a server goes on: whatever it began with, it serves on, no count falls, and the links that are
-- out are those that its requests hold; its application allows what it allowed
pub record ServesOn {SV K P L C D U M : Type 0}
    (state : L → LinkState) (start_at : L → LinkStart) (client_state : D → LinkState)
    (allows : SV → Standing → LogEntry → Type 0) (modules : M → ModuleCall → Type 0)
    (mark_of : SV → C → ℕ)
    (returned : K → Option (List (Returned L))) (out faults : K → ℕ)
    (p q : HttpProxy SV K P) (here there : List (Visit D U L C M)) : Type 0 where
  pub serves : (before : Books L)
      → Serves state start_at client_state (allowed_by (allows p.inner) modules) (mark_of p.inner)
      before (books returned faults p) here
      → Serves state start_at client_state (allowed_by (allows q.inner) modules) (mark_of q.inner)
      before (books returned faults q) there
  pub held : out q.connector + all_held state start_at here
      ≡ out p.connector + all_held state start_at there
  pub counted : CountRises p.requests_ended q.requests_ended
  pub same : q ≡ record p {
    connector = q.connector;
    purger = q.purger;
    requests_ended = q.requests_ended;
  }
