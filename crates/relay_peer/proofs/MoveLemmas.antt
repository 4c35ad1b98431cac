-- What a call on a link leaves of what the link tells, and which errors stay blamed.
use Rattle.std.proofs.Common.{◌≡◌, ℕ, ◌≤◌, Bool, true, false, List, [], ◌∷◌, ◌++◌, take, sym, ap, subst, ◌∙◌, append-nil, arith, Option, Some, None, refl}
use Rattle.relay_tasks.specs.Head.{RequestHead}
use Rattle.relay_tasks.specs.declared.error.Error.{Error}
use Rattle.relay_tasks.specs.declared.error.ErrorSource.TheVariants.{Upstream}
use Rattle.relay_tasks.specs.declared.fault.Fault.{Fault}
use Rattle.relay_links.specs.Count.{last_count, Rose}
use Rattle.relay_links.specs.Link.{LinkState, LinkStart, IsSound, Writes}
use Rattle.relay_links.specs.Told.{Since}
use Rattle.relay_links.specs.declared.link.Got.{Got}
use Rattle.relay_links.specs.declared.link.Got.TheVariants as got
use Rattle.relay_links.specs.declared.link.Put.{Put}
use Rattle.relay_links.specs.declared.link.Put.TheVariants as put
use Rattle.relay_links.proofs.SinceLemmas.{Since-kept, Since-grows}
use Rattle.relay_h1.specs.Move.{taken}
use Rattle.relay_h1.specs.Tasks.{Tasks, cut_off}
use Rattle.relay_peer.specs.H1Client.{is_fault}
use Rattle.relay_peer.specs.ResponseReading.{Asks, says, cut_off_error, fault_error}
use Rattle.relay_core.specs.Past.{UpPast, error_of_put}
use Rattle.relay_peer.specs.Body.{IsFrontOf}
use Rattle.relay_peer.specs.Peer.{PeerBlames}
use Rattle.relay_peer.specs.Peer as peer
use Rattle.relay_peer.specs.Faults.{HasAnswered, TellsFaults}
use Rattle.relay_peer.proofs.FaultLemmas.{Grew, more_none, grew_none, grew_same, answered_on, answered_read, answered_write}
use Rattle.relay_peer.proofs.FrontLemmas.{front_then}

-- ---- what stays blamed

-- a past that goes on from another: bytes came unless the link had ended, pieces were taken, and
-- no fault is forgotten
pub record GoesOn (start : LinkStart) (before after : LinkState) (q p : UpPast) : Type 0 where
  pub more : List ℕ
  pub got : p.got ≡ q.got ++ more
  pub still : before.ended ≡ true → (after.ended ≡ true) × (more ≡ [])
  pub taken : IsFrontOf q.taken p.taken
  pub rises : Rose start.faults before.faults → Rose start.faults after.faults
  pub grew : Grew before after

-- what was blamed before it stays blamed
pub blames_keep : (start : LinkStart) (before after : LinkState) (head : RequestHead)
    (upgrade : Bool) (q p : UpPast) (e : Error) → GoesOn start before after q p
    → PeerBlames start before head upgrade q e → PeerBlames start after head upgrade p e
blames_keep start before after head upgrade q p e go (peer.PeerBlames.link_failed fault is rose was)
    =
    peer.PeerBlames.link_failed fault is (go.rises rose)
    (answered_on start before after fault go.grew was)
blames_keep start before after head upgrade q p e go (peer.PeerBlames.is_cut_off told over is said)
    =
    let still = go.still over in
    let same = go.got ∙ ap (λ (m : List ℕ). q.got ++ m) still.1 ∙ append-nil q.got in
    peer.PeerBlames.is_cut_off told still.0
    (is ∙ ap (λ (g : List ℕ). cut_off_error g) (sym same))
    (subst (λ (g : List ℕ). Tasks head.method upgrade g true (says told cut_off)) (sym same) said)
blames_keep start before after head upgrade q p e go
    (peer.PeerBlames.is_broken why closed came told is front said breaks) =
    peer.PeerBlames.is_broken why closed came told is
    (front_then came q.got p.got front (record { rest = go.more; joined = sym go.got })) said
    breaks
blames_keep start before after head upgrade q p e go
    (peer.PeerBlames.is_short_request front pieces within ends joined short is) =
    peer.PeerBlames.is_short_request front pieces
    (front_then front q.taken p.taken within go.taken) ends joined short is

-- ---- a read

-- what a read leaves, and the bytes that came
pub record ReadMoves (start : LinkStart) (before after : LinkState) (had came : List ℕ)
    (asked : Option Got) : Type 0 where
  pub given : Since [] start.given after.given (had ++ came)
  pub taken : after.taken ≡ before.taken
  pub faults : start.faults ≤ after.faults
  pub sound : IsSound after
  pub still : before.ended ≡ true → (after.ended ≡ true) × (came ≡ [])
  pub rises : Rose start.faults before.faults → Rose start.faults after.faults
  pub grew : Grew before after
  pub failed : (fault : Fault) → asked ≡ Some (got.Failed fault)
      → Rose start.faults after.faults × HasAnswered start after fault
  pub calm : ((fault : Fault) → asked ≡ Some (got.Failed fault) → ⊥)
      → after.faults ≡ before.faults
  pub over : asked ≡ Some got.End → after.ended ≡ true

-- a test does not both hold and fail
clash : {A : Type 0} (b : Bool) → b ≡ true → b ≡ false → A
clash b passes fails = cc

-- nothing came
since_none : (start : LinkStart) (after : LinkState) (had came : List ℕ) → came ≡ []
    → Since [] start.given after.given had → Since [] start.given after.given (had ++ came)
since_none start after had came none since =
    subst (λ (xs : List ℕ). Since [] start.given after.given xs)
    (sym (ap (λ (m : List ℕ). had ++ m) none ∙ append-nil had)) since

-- a count that rose is no lower
rose_le : (first before after : ℕ) → first ≤ before → before ≤ last_count → Rose before after
    → first ≤ after
rose_le first before after least fits rose = grind arith

-- a count that rose from one that was no lower
pub rose_from : (first before after : ℕ) → first ≤ before → Rose before after → Rose first after
rose_from first before after least rose = λ below. omega (arith, least, rose below)

-- a read answers one fault
same_fault : (a b : Fault) → Some (got.Failed a) ≡ Some (got.Failed b) → a ≡ b
same_fault a b same = cc

-- what a read of the peer's link moves
pub read_moves : (start : LinkStart) (before after : LinkState) (had came : List ℕ)
    (asked : Option Got) → Asks before after came asked
    → Since [] start.given before.given had → start.faults ≤ before.faults
    → TellsFaults start before → IsSound before → ReadMoves start before after had came asked
read_moves start before after had came None (same, none) since faults tells sound = record {
  given = since_none start after had came none
      (Since-kept [] start.given before.given after.given had
      (ap (λ (l : LinkState). l.given) same) since);
  taken = ap (λ (l : LinkState). l.taken) same;
  faults = subst (λ (l : LinkState). start.faults ≤ l.faults) (sym same) faults;
  sound = subst (λ (l : LinkState). IsSound l) (sym same) sound;
  still = λ over. (ap (λ (l : LinkState). l.ended) same ∙ over, none);
  rises = λ rose. subst (λ (l : LinkState). Rose start.faults l.faults) (sym same) rose;
  grew = grew_same before after same;
  failed = λ fault is. absurd (cc);
  over = λ is. absurd (cc);
  calm = λ none. ap (λ (l : LinkState). l.faults) same;
}
read_moves start before after had came (Some (got.Bytes n)) grows since faults tells sound =
    record {
      given = subst (λ (xs : List ℕ). Since [] start.given after.given (had ++ xs))
          (sym grows.grown)
          (Since-grows [] start.given before.given after.given had (take n grows.room)
          grows.gives.given since);
      taken = grows.gives.taken;
      faults = subst (λ (n : ℕ). start.faults ≤ n) (sym grows.gives.faults) faults;
      sound = grows.gives.sound;
      still = λ over. clash before.ended over grows.gives.was_open;
      rises = λ rose. subst (λ (n : ℕ). Rose start.faults n) (sym grows.gives.faults) rose;
      grew = grew_none before after grows.gives.read_faults grows.gives.write_faults;
      failed = λ fault is. absurd (cc);
      over = λ is. absurd (cc);
      calm = λ none. grows.gives.faults;
    }
read_moves start before after had came (Some got.NotReady) (waits, none) since faults tells sound =
    record {
      given = since_none start after had came none
          (Since-kept [] start.given before.given after.given had waits.given since);
      taken = waits.taken;
      faults = subst (λ (n : ℕ). start.faults ≤ n) (sym waits.faults) faults;
      sound = waits.sound;
      still = λ over. clash before.ended over waits.was_open;
      rises = λ rose. subst (λ (n : ℕ). Rose start.faults n) (sym waits.faults) rose;
      grew = grew_none before after waits.read_faults waits.write_faults;
      failed = λ fault is. absurd (cc);
      over = λ is. absurd (cc);
      calm = λ none. waits.faults;
    }
read_moves start before after had came (Some got.Silent) (silent, none) since faults tells sound =
    record {
      given = since_none start after had came none
          (Since-kept [] start.given before.given after.given had
          (ap (λ (l : LinkState). l.given) silent.same) since);
      taken = ap (λ (l : LinkState). l.taken) silent.same;
      faults = subst (λ (l : LinkState). start.faults ≤ l.faults) (sym silent.same) faults;
      sound = subst (λ (l : LinkState). IsSound l) (sym silent.same) sound;
      still = λ over. clash before.ended over silent.was_open;
      rises = λ rose.
          subst (λ (l : LinkState). Rose start.faults l.faults) (sym silent.same) rose;
      grew = grew_same before after silent.same;
      failed = λ fault is. absurd (cc);
      over = λ is. absurd (cc);
      calm = λ none. ap (λ (l : LinkState). l.faults) silent.same;
    }
read_moves start before after had came (Some got.End) (ends, none) since faults tells sound =
    record {
      given = since_none start after had came none
          (Since-kept [] start.given before.given after.given had ends.given since);
      taken = ends.taken;
      faults = subst (λ (n : ℕ). start.faults ≤ n) (sym ends.faults) faults;
      sound = ends.sound;
      still = λ over. (ends.ended, none);
      rises = λ rose. subst (λ (n : ℕ). Rose start.faults n) (sym ends.faults) rose;
      grew = grew_none before after ends.read_faults ends.write_faults;
      failed = λ fault is. absurd (cc);
      over = λ is. ends.ended;
      calm = λ none. ends.faults;
    }
read_moves start before after had came (Some (got.Failed fault)) (fails, none) since faults tells
    sound =
    record {
      given = since_none start after had came none
          (Since-kept [] start.given before.given after.given had fails.given since);
      taken = fails.taken;
      faults = rose_le start.faults before.faults after.faults faults sound.faults_fit fails.faults;
      sound = fails.sound;
      still = λ over. clash before.ended over fails.was_open;
      rises = λ rose. rose_from start.faults before.faults after.faults faults fails.faults;
      grew = record {
        reads = fault ∷ [];
        read = fails.read_faults;
        writes = [];
        written = fails.write_faults ∙ more_none before.write_faults;
      };
      failed = λ told is. (
        rose_from start.faults before.faults after.faults faults fails.faults,
        subst (λ (f : Fault). HasAnswered start after f) (same_fault fault told is)
            (answered_read start before after fault fails.kind fails.read_faults tells),
      );
      over = λ is. absurd (cc);
      calm = λ none. absurd (none fault refl);
    }

-- ---- a write

-- what a write leaves, and the bytes that it took
pub record WriteMoves (start : LinkStart) (before after : LinkState) (had part : List ℕ)
    (answer : Put) : Type 0 where
  pub sent : Since [] start.taken after.taken (had ++ take (taken answer) part)
  pub given : after.given ≡ before.given
  pub ended : after.ended ≡ before.ended
  pub faults : start.faults ≤ after.faults
  pub sound : IsSound after
  pub rises : Rose start.faults before.faults → Rose start.faults after.faults
  pub grew : Grew before after
  pub failed : (e : Error) → error_of_put Upstream answer ≡ Some e
      → (fault : Fault) × (e ≡ fault_error fault) × Rose start.faults after.faults
      × HasAnswered start after fault
  pub calm : is_fault answer ≡ false → after.faults ≡ before.faults

-- nothing was taken
taken_none : (start : LinkStart) (before after : LinkState) (had : List ℕ)
    → after.taken ≡ before.taken → Since [] start.taken before.taken had
    → Since [] start.taken after.taken (had ++ [])
taken_none start before after had same since =
    subst (λ (xs : List ℕ). Since [] start.taken after.taken xs) (sym (append-nil had))
    (Since-kept [] start.taken before.taken after.taken had same since)

-- one error is answered
pub some_error : (a b : Error) → Some a ≡ Some b → a ≡ b
some_error a b same = cc

-- what a write to the peer's link moves
pub write_moves : (start : LinkStart) (before after : LinkState) (had part : List ℕ)
    (answer : Put) → Writes before part after answer
    → Since [] start.taken before.taken had → start.faults ≤ before.faults
    → TellsFaults start before → IsSound before → WriteMoves start before after had part answer
write_moves start before after had part (put.Took n) takes since faults tells sound = record {
  sent = Since-grows [] start.taken before.taken after.taken had (take n part) takes.taken since;
  given = takes.given;
  ended = takes.ended;
  faults = subst (λ (n : ℕ). start.faults ≤ n) (sym takes.faults) faults;
  sound = takes.sound;
  rises = λ rose. subst (λ (n : ℕ). Rose start.faults n) (sym takes.faults) rose;
  grew = grew_none before after takes.read_faults takes.write_faults;
  failed = λ e is. absurd (cc);
  calm = λ none. takes.faults;
}
write_moves start before after had part put.NotReady waits since faults tells sound = record {
  sent = taken_none start before after had waits.taken since;
  given = waits.given;
  ended = waits.ended;
  faults = subst (λ (n : ℕ). start.faults ≤ n) (sym waits.faults) faults;
  sound = waits.sound;
  rises = λ rose. subst (λ (n : ℕ). Rose start.faults n) (sym waits.faults) rose;
  grew = grew_none before after waits.read_faults waits.write_faults;
  failed = λ e is. absurd (cc);
  calm = λ none. waits.faults;
}
write_moves start before after had part put.Silent silent since faults tells sound = record {
  sent = taken_none start before after had (ap (λ (l : LinkState). l.taken) silent.same) since;
  given = ap (λ (l : LinkState). l.given) silent.same;
  ended = ap (λ (l : LinkState). l.ended) silent.same;
  faults = subst (λ (l : LinkState). start.faults ≤ l.faults) (sym silent.same) faults;
  sound = subst (λ (l : LinkState). IsSound l) (sym silent.same) sound;
  rises = λ rose. subst (λ (l : LinkState). Rose start.faults l.faults) (sym silent.same) rose;
  grew = grew_same before after silent.same;
  failed = λ e is. absurd (cc);
  calm = λ none. ap (λ (l : LinkState). l.faults) silent.same;
}
write_moves start before after had part (put.Failed fault) fails since faults tells sound = record {
  sent = taken_none start before after had fails.taken since;
  given = fails.given;
  ended = fails.ended;
  faults = rose_le start.faults before.faults after.faults faults sound.faults_fit fails.faults;
  sound = fails.sound;
  rises = λ rose. rose_from start.faults before.faults after.faults faults fails.faults;
  grew = record {
    reads = [];
    read = fails.read_faults ∙ more_none before.read_faults;
    writes = fault ∷ [];
    written = fails.write_faults;
  };
  failed = λ e is. (
    fault,
    some_error e (fault_error fault) (sym is),
    rose_from start.faults before.faults after.faults faults fails.faults,
    answered_write start before after fault fails.kind fails.write_faults tells,
  );
  calm = λ none. absurd (cc);
}
write_moves start before after had part put.OutOfMemory wants since faults tells sound = record {
  sent = taken_none start before after had (ap (λ (l : LinkState). l.taken) wants.same) since;
  given = ap (λ (l : LinkState). l.given) wants.same;
  ended = ap (λ (l : LinkState). l.ended) wants.same;
  faults = subst (λ (n : ℕ). start.faults ≤ n)
      (sym (ap (λ (l : LinkState). l.faults) wants.same)) faults;
  sound = wants.sound;
  rises = λ rose.
      subst (λ (n : ℕ). Rose start.faults n) (sym (ap (λ (l : LinkState). l.faults) wants.same))
      rose;
  grew = grew_none before after (ap (λ (l : LinkState). l.read_faults) wants.same)
      (ap (λ (l : LinkState). l.write_faults) wants.same);
  failed = λ e is. absurd (cc);
  calm = λ none. ap (λ (l : LinkState). l.faults) wants.same;
}
