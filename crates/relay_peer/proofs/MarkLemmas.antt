-- What the marks of the peer's side tell of its link goes on with each of its calls.
use Rattle.std.proofs.Common.{◌≡◌, ℕ, ◌≤◌, Bool, true, false, ◌||◌, List, [], ◌∷◌, Option, Some, None, refl, sym, ap, subst, ◌∙◌, inl, inr}
use Rattle.std.specs.Prelude.{◌&&◌, is_none}
use Rattle.relay_tasks.specs.declared.error.Error.{Error}
use Rattle.relay_tasks.specs.declared.error.Fail.{Fail}
use Rattle.relay_tasks.specs.declared.error.Fail.TheVariants as fail
use Rattle.relay_tasks.specs.declared.fault.Fault.{Fault}
use Rattle.relay_tasks.specs.declared.task.HttpTask.{HttpTask}
use Rattle.relay_tasks.specs.declared.took.Took.{Took}
use Rattle.relay_tasks.specs.declared.took.Took.TheVariants as took
use Rattle.relay_links.specs.Count.{Rose}
use Rattle.relay_links.specs.Link.{LinkState, LinkStart, IsHandedOut, Writes}
use Rattle.relay_links.specs.Told.{Since}
use Rattle.relay_links.specs.declared.link.Got.{Got}
use Rattle.relay_links.specs.declared.link.Got.TheVariants as got
use Rattle.relay_links.specs.declared.link.Put.{Put}
use Rattle.relay_links.specs.declared.link.Put.TheVariants as put
use Rattle.relay_links.proofs.SinceLemmas.{Since-start, Since-kept, Since-grows}
use Rattle.relay_peer.specs.H1Client.{is_fault}
use Rattle.relay_peer.specs.RequestWriting.{Sent, short_request}
use Rattle.relay_peer.specs.ResponseReading.{Asks, ReadsTask, is_error, fault_error}
use Rattle.relay_peer.specs.declared.request_writing.RequestWriting.{RequestWriting}
use Rattle.relay_peer.specs.declared.response_reading.ResponseReading.{ResponseReading}
use Rattle.relay_core.specs.Up as up
use Rattle.relay_core.proofs.BoolLemmas.{clash, or_left, or_right, or_false}
use Rattle.relay_peer.specs.Peer.{AreMarked, CannotSend, Loses, put_error}
use Rattle.relay_peer.specs.Peer as peer
use Rattle.relay_peer.proofs.MoveLemmas.{rose_from, some_error}

-- ---- a call that meets no fault

-- a call left the faults that the link tells, and their count
record LeavesFaults (before after : LinkState) : Type 0 where
  reads : after.read_faults ≡ before.read_faults
  writes : after.write_faults ≡ before.write_faults
  faults : after.faults ≡ before.faults

-- one that left the link
leaves_same : (before after : LinkState) → after ≡ before → LeavesFaults before after
leaves_same before after same = record {
  reads = ap (λ (l : LinkState). l.read_faults) same;
  writes = ap (λ (l : LinkState). l.write_faults) same;
  faults = ap (λ (l : LinkState). l.faults) same;
}

-- an error with which nothing could be sent stays one
cannot_on : (start : LinkStart) (before after : LinkState) (was is : Bool) (e : Error)
    → (Rose start.faults before.faults → Rose start.faults after.faults)
    → after.write_faults ≡ before.write_faults
    → (is ≡ false → (was ≡ false) × (after.faults ≡ before.faults))
    → CannotSend start before was e → CannotSend start after is e
cannot_on start before after was is e rises writes calm (inl w) =
    inl (record {
      fault = w.fault;
      is = w.is;
      kind = w.kind;
      rose = rises w.rose;
      told = Since-kept [] start.write_faults before.write_faults after.write_faults (w.fault ∷ [])
          writes w.told;
      once = λ none.
          let still = calm none in
          let one = w.once still.0 in
          record {
            before = one.before;
            after = one.after;
            calm = one.calm;
            fails = one.fails;
            since = still.1 ∙ one.since;
          };
    })
cannot_on start before after was is e rises writes calm (inr short) = inr short

-- the marks of the side still tell of the link
marked_leaves : (start : LinkStart) (before after : LinkState) (failed reads : Bool)
    (sends : Option Error) (lost : Option Fail) → LeavesFaults before after
    → AreMarked start before failed reads sends lost
    → AreMarked start after failed reads sends lost
marked_leaves start before after failed reads sends lost leaves m = record {
  reads = λ none. Since-kept [] start.read_faults before.read_faults after.read_faults []
      leaves.reads (m.reads none);
  writes = λ none. Since-kept [] start.write_faults before.write_faults after.write_faults []
      leaves.writes (m.writes none);
  calm = m.calm;
  named = λ e is. cannot_on start before after reads reads e
      (λ rose. subst (λ (n : ℕ). Rose start.faults n) (sym leaves.faults) rose) leaves.writes
      (λ none. (none, leaves.faults)) (m.named e is);
  short = m.short;
}

-- the same link, after a call that changed nothing of it
pub marked_same : (start : LinkStart) (before after : LinkState) (failed fails reads : Bool)
    (sends : Option Error) (lost : Option Fail) → after ≡ before → fails ≡ failed
    → AreMarked start before failed reads sends lost → AreMarked start after fails reads sends lost
marked_same start before after failed fails reads sends lost same stays m =
    subst (λ (b : Bool). AreMarked start after b reads sends lost) (sym stays)
    (marked_leaves start before after failed reads sends lost (leaves_same before after same) m)

-- a read that answers an error, or not: where the client's call failed it does
pub marked_more : (start : LinkStart) (link : LinkState) (failed fails was also is : Bool)
    (sends : Option Error) (lost : Option Fail) → is ≡ was || also
    → (failed ≡ false → also ≡ false → fails ≡ false)
    → AreMarked start link failed was sends lost → AreMarked start link fails is sends lost
marked_more start link failed fails was also is sends lost same still m = record {
  reads = λ none. m.reads (or_left was also (sym same ∙ none));
  writes = m.writes;
  calm = λ none unsent. still (m.calm (or_left was also (sym same ∙ none)) unsent)
      (or_right was also (sym same ∙ none));
  named = λ e named. cannot_on start link link was is e (λ rose. rose) refl
      (λ none. (or_left was also (sym same ∙ none), refl)) (m.named e named);
  short = m.short;
}

-- ---- a read

-- no call failed where none had, and this one answers no error
calm_by : (failed fails also : Bool) → fails ≡ failed || also → failed ≡ false → also ≡ false
    → fails ≡ false
calm_by failed fails also same calm none = same ∙ or_false failed also calm none

-- a read that left what the link tells of its faults
marked_left : (start : LinkStart) (before after : LinkState) (answer : Took HttpTask)
    (failed fails was is : Bool) (sends : Option Error) (lost : Option Fail)
    → LeavesFaults before after → fails ≡ failed || is_error answer → is ≡ was || is_error answer
    → AreMarked start before failed was sends lost → AreMarked start after fails is sends lost
marked_left start before after answer failed fails was is sends lost leaves stays same m =
    marked_more start after failed fails was (is_error answer) is sends lost same
    (calm_by failed fails (is_error answer) stays)
    (marked_leaves start before after failed was sends lost leaves m)

-- a read of the link: a fault of it was answered
pub marked_read : (start : LinkStart) (before after : LinkState) (came : List ℕ)
    (asked : Option Got) (answer : Took HttpTask) (failed fails was is : Bool)
    (sends : Option Error) (lost : Option Fail) → Asks before after came asked
    → ((fault : Fault) → asked ≡ Some (got.Failed fault)
    → answer ≡ took.Failed (fail.Error (fault_error fault)))
    → fails ≡ failed || is_error answer → is ≡ was || is_error answer
    → start.faults ≤ before.faults → AreMarked start before failed was sends lost
    → AreMarked start after fails is sends lost
marked_read start before after came None answer failed fails was is sends lost asks
    tells stays same least m =
    marked_left start before after answer failed fails was is sends lost
    (leaves_same before after asks.0) stays same m
marked_read start before after came (Some (got.Bytes n)) answer failed fails was is sends lost asks
    tells stays same least m =
    marked_left start before after answer failed fails was is sends lost
    (record {
      reads = asks.gives.read_faults;
      writes = asks.gives.write_faults;
      faults = asks.gives.faults;
    }) stays same m
marked_read start before after came (Some got.NotReady) answer failed fails was is sends lost asks
    tells stays same least m =
    marked_left start before after answer failed fails was is sends lost
    (record {
      reads = asks.0.read_faults;
      writes = asks.0.write_faults;
      faults = asks.0.faults;
    }) stays same m
marked_read start before after came (Some got.Silent) answer failed fails was is sends lost asks
    tells stays same least m =
    marked_left start before after answer failed fails was is sends lost
    (leaves_same before after asks.0.same) stays same m
marked_read start before after came (Some got.End) answer failed fails was is sends lost asks
    tells stays same least m =
    marked_left start before after answer failed fails was is sends lost
    (record {
      reads = asks.0.read_faults;
      writes = asks.0.write_faults;
      faults = asks.0.faults;
    }) stays same m
marked_read start before after came (Some (got.Failed fault)) answer failed fails was is sends lost
    asks tells stays same least m =
    let f = asks.0 in
    let never : is ≡ false → ⊥ = λ none.
    clash (is_error answer) (ap is_error (tells fault refl))
    (or_right was (is_error answer) (sym same ∙ none)) in
    record {
      reads = λ none. absurd (never none);
      writes = λ none. Since-kept [] start.write_faults before.write_faults after.write_faults []
          f.write_faults (m.writes none);
      calm = λ none unsent. absurd (never none);
      named = λ e named. cannot_on start before after was is e
          (λ rose. rose_from start.faults before.faults after.faults least f.faults)
          f.write_faults (λ none. absurd (never none)) (m.named e named);
      short = m.short;
    }

-- the same, as a call of the reading that answered so
pub marked_task : (method : List ℕ) (upgrade : Bool) (start : LinkStart) (before after : LinkState)
    (old new : ResponseReading) (answer : Took HttpTask) (failed fails was is : Bool)
    (sends : Option Error) (lost : Option Fail)
    → ReadsTask method upgrade before after old new answer
    → fails ≡ failed || is_error answer → is ≡ was || is_error answer
    → start.faults ≤ before.faults → AreMarked start before failed was sends lost
    → AreMarked start after fails is sends lost
marked_task method upgrade start before after old new answer failed fails was is sends lost reads
    stays same
    least m =
    marked_read start before after reads.came reads.asked answer failed fails was is sends lost
    reads.asks reads.fails stays same least m

-- the answer is an error where its failure is one
pub same_error : (why : Fail) → is_error (took.Failed why) ≡ up.is_error why
same_error fail.OutOfMemory = refl
same_error (fail.Error e) = refl

-- ---- a write

-- where something is pending, nothing kept the side from sending
pub unsent_here : (waits : Bool) (sends : Option Error) → waits && is_none sends ≡ true
    → sends ≡ None
unsent_here true None some = refl
unsent_here true (Some e) some = absurd (cc)
unsent_here false sends some = absurd (cc)

-- a write that answered no fault
no_fault : (start : LinkStart) (link : LinkState) (failed fails reads : Bool)
    (sends : Option Error) (lost : Option Fail) → fails ≡ failed || false
    → AreMarked start link failed reads sends lost → AreMarked start link fails reads sends lost
no_fault start link failed fails reads sends lost stays m =
    marked_more start link failed fails reads false reads sends lost (or_none reads)
    (λ calm none. calm_by failed fails false stays calm none) m
  where
    or_none : (b : Bool) → b ≡ (b || false)
    or_none true = refl
    or_none false = refl

-- a write to the link, no other having failed: a fault of it is kept
pub marked_write : (start : LinkStart) (before after : LinkState) (part : List ℕ)
    (answer : Put) (failed fails reads : Bool) (sends : Option Error) (lost : Option Fail)
    → Writes before part after answer → fails ≡ failed || is_fault answer
    → start.faults ≤ before.faults → sends ≡ None
    → (failed ≡ false → before.faults ≡ start.faults)
    → AreMarked start before failed reads sends lost
    → AreMarked start after fails reads (put_error answer sends) lost
marked_write start before after part (put.Took n) failed fails reads sends lost w stays least
    unsent stood m =
    no_fault start after failed fails reads sends lost stays
    (marked_leaves start before after failed reads sends lost
    (record { reads = w.read_faults; writes = w.write_faults; faults = w.faults }) m)
marked_write start before after part put.NotReady failed fails reads sends lost w stays least
    unsent stood m =
    no_fault start after failed fails reads sends lost stays
    (marked_leaves start before after failed reads sends lost
    (record { reads = w.read_faults; writes = w.write_faults; faults = w.faults }) m)
marked_write start before after part put.Silent failed fails reads sends lost w stays least
    unsent stood m =
    no_fault start after failed fails reads sends lost stays
    (marked_same start before after failed failed reads sends lost w.same refl m)
marked_write start before after part (put.Failed fault) failed fails reads sends lost w stays least
    unsent stood m = record {
      reads = λ none. Since-kept [] start.read_faults before.read_faults after.read_faults []
          w.read_faults (m.reads none);
      writes = λ none. absurd (cc);
      calm = λ unread sent. absurd (cc);
      named = λ e is. inl (record {
        fault = fault;
        is = some_error e (fault_error fault) (sym is);
        kind = w.kind;
        rose = rose_from start.faults before.faults after.faults least w.faults;
        told = Since-grows [] start.write_faults before.write_faults after.write_faults []
            (fault ∷ []) w.write_faults (m.writes unsent);
        once = λ unread. record {
          before = before;
          after = after;
          calm = stood (m.calm unread unsent);
          fails = w;
          since = refl;
        };
      });
      short = m.short;
    }
marked_write start before after part put.OutOfMemory failed fails reads sends lost w stays least
    unsent stood m =
    no_fault start after failed fails reads sends lost stays
    (marked_leaves start before after failed reads sends lost
    (record {
      reads = ap (λ (l : LinkState). l.read_faults) w.same;
      writes = ap (λ (l : LinkState). l.write_faults) w.same;
      faults = ap (λ (l : LinkState). l.faults) w.same;
    }) m)

-- ---- a piece

-- a piece that was lost, for that reason
pub marked_loses : (start : LinkStart) (link : LinkState) (failed reads : Bool)
    (sends : Option Error) (lost : Option Fail) (why : Fail)
    → ((e : Error) → why ≡ fail.Error e → e ≡ short_request)
    → AreMarked start link failed reads sends lost
    → AreMarked start link failed reads (up.error_or why sends) (Some why)
marked_loses start link failed reads sends lost fail.OutOfMemory short m = record {
  reads = m.reads;
  writes = m.writes;
  calm = m.calm;
  named = m.named;
  short = λ e is. absurd (cc);
}
marked_loses start link failed reads sends lost (fail.Error error) short m = record {
  reads = m.reads;
  writes = λ none. absurd (cc);
  calm = λ unread unsent. absurd (cc);
  named = λ e is. inr (sym (some_error error e is) ∙ short error refl);
  short = λ e is. short e (some_fail (fail.Error error) (fail.Error e) is);
}
  where
    some_fail : (a b : Fail) → Some a ≡ Some b → a ≡ b
    some_fail a b same = cc

-- a piece that is lost behind another
pub marked_still : (start : LinkStart) (link : LinkState) (failed reads : Bool)
    (sends : Option Error) (lost : Option Fail) (why : Fail) → lost ≡ Some why
    → AreMarked start link failed reads sends lost
    → AreMarked start link failed reads (up.error_or why sends) lost
marked_still start link failed reads sends lost why is m =
    subst (λ (l : Option Fail). AreMarked start link failed reads (up.error_or why sends) l)
    (sym is)
    (marked_loses start link failed reads sends lost why (λ e so. m.short e (is ∙ ap Some so)) m)

-- a piece is lost with no other error than that of a short request
pub loses_short : (sent : Sent) (had : List ℕ) (piece : HttpTask) (at : RequestWriting)
    (why : Fail) → Loses sent had piece at why → (e : Error) → why ≡ fail.Error e
    → e ≡ short_request
loses_short sent had piece at _ (peer.Loses.unwritten so_far) e is = absurd (cc)
loses_short sent had piece at _ (peer.Loses.unended ends so_far) e is = absurd (cc)
loses_short sent had piece at _ (peer.Loses.is_short ends so_far short) e is = same is
  where
    same : {a b : Error} → fail.Error a ≡ fail.Error b → b ≡ a
    same so = cc

-- ---- the beginning

-- a link that was handed out met no fault, and nothing is marked
pub marked_new : (start : LinkStart) (link : LinkState) (reused failed reads : Bool)
    (sends : Option Error) (lost : Option Fail) → IsHandedOut link start reused → failed ≡ false
    → sends ≡ None → lost ≡ None → AreMarked start link failed reads sends lost
marked_new start link reused failed reads sends lost out calm unsent takes =
    record {
      reads = λ none. subst (λ (n : ℕ). Since [] n link.read_faults []) (sym out.read_faults)
          (Since-start [] link.read_faults);
      writes = λ none. subst (λ (n : ℕ). Since [] n link.write_faults []) (sym out.write_faults)
          (Since-start [] link.write_faults);
      calm = λ unread none. calm;
      named = λ e is. absurd (apart e (sym is ∙ unsent));
      short = λ e is. absurd (other e (sym is ∙ takes));
    }
  where
    apart : (e : Error) → Some e ≡ None → ⊥
    apart e same = cc

    other : (e : Error) → Some (fail.Error e) ≡ None → ⊥
    other e same = cc
