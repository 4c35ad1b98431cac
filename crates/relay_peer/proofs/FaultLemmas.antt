-- The faults that a link tells: how their lists grow, and that what was answered stays answered.
use Rattle.std.proofs.Common.{◌≡◌, ℕ, Bool, List, [], ◌∷◌, ◌++◌, Option, Some, None, refl, sym, ◌∙◌, ap, subst, append-nil, append_assoc}
use Rattle.relay_tasks.specs.declared.fault.Fault.{Fault}
use Rattle.relay_links.specs.Link.{LinkState, LinkStart, IsReadFault, IsWriteFault, IsHandedOut}
use Rattle.relay_links.specs.Told.{more, told_length, Since}
use Rattle.relay_links.proofs.SinceLemmas.{Since-start, Since-grows}
use Rattle.relay_peer.specs.Faults.{HasAnswered, TellsFaults, TellsSince, IsAmong, IsLast}
use Rattle.relay_peer.specs.Faults as faults

-- these faults were added to the lists that a link tells
pub record Grew (before after : LinkState) : Type 0 where
  pub reads : List Fault
  pub read : after.read_faults ≡ more before.read_faults reads
  pub writes : List Fault
  pub written : after.write_faults ≡ more before.write_faults writes

-- a list that gains nothing
pub more_none : (told : Option (List Fault)) → told ≡ more told []
more_none None = refl
more_none (Some xs) = ap Some (sym (append-nil xs))

-- none was added
pub grew_none : (before after : LinkState) → after.read_faults ≡ before.read_faults
    → after.write_faults ≡ before.write_faults → Grew before after
grew_none before after read written = record {
  reads = [];
  read = read ∙ more_none before.read_faults;
  writes = [];
  written = written ∙ more_none before.write_faults;
}

-- the link did not change
pub grew_same : (before after : LinkState) → after ≡ before → Grew before after
grew_same before after same =
    grew_none before after (ap (λ (l : LinkState). l.read_faults) same)
    (ap (λ (l : LinkState). l.write_faults) same)

-- what the link tells goes on
pub tells_on : (start : LinkStart) (before after : LinkState) → Grew before after
    → TellsFaults start before → TellsFaults start after
tells_on start before after grew tells = record {
  reads = tells.reads ++ grew.reads;
  read = Since-grows [] start.read_faults before.read_faults after.read_faults tells.reads
      grew.reads grew.read tells.read;
  writes = tells.writes ++ grew.writes;
  written = Since-grows [] start.write_faults before.write_faults after.write_faults tells.writes
      grew.writes grew.written tells.written;
}

-- a fault among others, with more behind them
pub among_on : (place : ℕ) (told now : Option (List Fault)) (front behind new : List Fault)
    (fault : Fault) → now ≡ more told new → Since [] place told (front ++ fault ∷ behind)
    → Since [] place now (front ++ fault ∷ (behind ++ new))
among_on place told now front behind new fault grown since =
    subst (λ (xs : List Fault). Since [] place now xs)
    (append_assoc front (fault ∷ behind) new)
    (Since-grows [] place told now (front ++ fault ∷ behind) new grown since)

-- a fault that was answered has been answered since
pub answered_on : (start : LinkStart) (before after : LinkState) (fault : Fault)
    → Grew before after → HasAnswered start before fault → HasAnswered start after fault
answered_on start before after fault grew (faults.HasAnswered.on_read kind front behind since) =
    faults.HasAnswered.on_read kind front (behind ++ grew.reads)
    (among_on start.read_faults before.read_faults after.read_faults front behind grew.reads fault
    grew.read since)
answered_on start before after fault grew (faults.HasAnswered.on_write kind front behind since) =
    faults.HasAnswered.on_write kind front (behind ++ grew.writes)
    (among_on start.write_faults before.write_faults after.write_faults front behind grew.writes
    fault grew.written since)

-- a read answered it
pub answered_read : (start : LinkStart) (before after : LinkState) (fault : Fault)
    → IsReadFault fault → after.read_faults ≡ more before.read_faults (fault ∷ [])
    → TellsFaults start before → HasAnswered start after fault
answered_read start before after fault kind added tells =
    faults.HasAnswered.on_read kind tells.reads []
    (Since-grows [] start.read_faults before.read_faults after.read_faults tells.reads (fault ∷ [])
    added tells.read)

-- a write answered it
pub answered_write : (start : LinkStart) (before after : LinkState) (fault : Fault)
    → IsWriteFault fault → after.write_faults ≡ more before.write_faults (fault ∷ [])
    → TellsFaults start before → HasAnswered start after fault
answered_write start before after fault kind added tells =
    faults.HasAnswered.on_write kind tells.writes []
    (Since-grows [] start.write_faults before.write_faults after.write_faults tells.writes
    (fault ∷ []) added tells.written)

-- a link that was handed out has told none since
pub tells_none : (start : LinkStart) (link : LinkState) (reused : Bool)
    → IsHandedOut link start reused → TellsFaults start link
tells_none start link reused out = record {
  reads = [];
  read = subst (λ (n : ℕ). Since [] n link.read_faults []) (sym out.read_faults)
      (Since-start [] link.read_faults);
  writes = [];
  written = subst (λ (n : ℕ). Since [] n link.write_faults []) (sym out.write_faults)
      (Since-start [] link.write_faults);
}

-- ---- since two places

-- what the link tells since two places goes on
pub since_on : (reads writes : ℕ) (before after : LinkState) → Grew before after
    → TellsSince reads writes before → TellsSince reads writes after
since_on reads writes before after grew tells = record {
  reads = tells.reads ++ grew.reads;
  read = Since-grows [] reads before.read_faults after.read_faults tells.reads grew.reads grew.read
      tells.read;
  writes = tells.writes ++ grew.writes;
  written = Since-grows [] writes before.write_faults after.write_faults tells.writes grew.writes
      grew.written tells.written;
}

-- at its places, a link has told none since
pub since_none : (link : LinkState)
    → TellsSince (told_length link.read_faults) (told_length link.write_faults) link
since_none link = record {
  reads = [];
  read = Since-start [] link.read_faults;
  writes = [];
  written = Since-start [] link.write_faults;
}

-- a fault among others is still among them
pub among_still : (place : ℕ) (told now : Option (List Fault)) (new : List Fault) (fault : Fault)
    → now ≡ more told new → IsAmong place told fault → IsAmong place now fault
among_still place told now new fault grown was = (
  was.0,
  was.1 ++ new,
  among_on place told now was.0 was.1 new fault grown was.2,
)

-- a fault that was added is the last
pub added_last : (place : ℕ) (told now : Option (List Fault)) (earlier : List Fault) (fault : Fault)
    → now ≡ more told (fault ∷ []) → Since [] place told earlier → IsLast place now fault
added_last place told now earlier fault added since =
    (earlier, Since-grows [] place told now earlier (fault ∷ []) added since)

-- and so it is among them
pub added_among : (place : ℕ) (told now : Option (List Fault)) (earlier : List Fault)
    (fault : Fault)
    → now ≡ more told (fault ∷ []) → Since [] place told earlier → IsAmong place now fault
added_among place told now earlier fault added since =
    (earlier, [], Since-grows [] place told now earlier (fault ∷ []) added since)
