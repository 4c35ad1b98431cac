-- Which faults a link answered: a peer's since it was handed out, a client's since its request
-- began.
use Rattle.std.specs.Prelude.{◌≡◌, ℕ, List, [], ◌∷◌, ◌++◌, Option}
use Rattle.relay_tasks.specs.declared.fault.Fault.{Fault}
use Rattle.relay_links.specs.Link.{LinkState, LinkStart, IsReadFault, IsWriteFault, FailsWrite}
use Rattle.relay_links.specs.Told.{Since}

-- the link answered that fault on a read or on a write: it is of a kind that such a call answers,
-- and where the link tells the faults of those calls, it is among them
pub data HasAnswered (start : LinkStart) (link : LinkState) (fault : Fault) : Type 0 where
  on_read : IsReadFault fault → (before behind : List Fault)
      → Since [] start.read_faults link.read_faults (before ++ fault ∷ behind)
      → HasAnswered start link fault
  on_write : IsWriteFault fault → (before behind : List Fault)
      → Since [] start.write_faults link.write_faults (before ++ fault ∷ behind)
      → HasAnswered start link fault

-- one call of the link failed since it was handed out, and that was a write, with that fault: the
-- count of faults stood till then, and it has stood since
pub record FailsOnce (start : LinkStart) (link : LinkState) (fault : Fault) : Type 0 where
  pub before : LinkState
  pub after : LinkState
  pub calm : before.faults ≡ start.faults
  pub fails : FailsWrite before fault after
  pub since : link.faults ≡ after.faults

-- the faults of reads and of writes, in order, where the link tells them
pub record TellsFaults (start : LinkStart) (link : LinkState) : Type 0 where
  pub reads : List Fault
  pub read : Since [] start.read_faults link.read_faults reads
  pub writes : List Fault
  pub written : Since [] start.write_faults link.write_faults writes

-- the same since these places in the two lists
pub record TellsSince (reads_from writes_from : ℕ) (link : LinkState) : Type 0 where
  pub reads : List Fault
  pub read : Since [] reads_from link.read_faults reads
  pub writes : List Fault
  pub written : Since [] writes_from link.write_faults writes

-- the fault is among those that a list gained since that place, where the list is told
abbrev pub IsAmong : ℕ → Option (List Fault) → Fault → Type 0
IsAmong place told fault =
    (before : List Fault) × (behind : List Fault) × Since [] place told (before ++ fault ∷ behind)

-- the fault is the last of those
abbrev pub IsLast : ℕ → Option (List Fault) → Fault → Type 0
IsLast place told fault = (before : List Fault) × Since [] place told (before ++ fault ∷ [])
