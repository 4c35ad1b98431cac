-- A write to the client: what it says of the state, and how what passed goes on with it.
use Rattle.std.proofs.Common.{◌≡◌, ℕ, ◌≤◌, Bool, true, false, List, [], ◌∷◌, ◌++◌, length, take, drop, Option, Some, None, refl, sym, ◌∙◌, ap, subst, append-nil, le_refl, inl, inr, arith, ◌<◌}
use Rattle.std.specs.Prelude.{not, ◌==◌, ◌||◌, is_some}
use Rattle.relay_tasks.specs.declared.error.Error.{Error}
use Rattle.relay_tasks.specs.declared.error.ErrorSource.TheVariants.{Downstream}
use Rattle.relay_tasks.specs.declared.fault.Fault.{Fault}
use Rattle.std.proofs.lemmas.Bool.{cases_lt}
use Rattle.relay_links.specs.Count.{Rose, last_count, up}
use Rattle.relay_links.specs.Link as link
use Rattle.relay_links.specs.Link.{LinkState, IsWriteFault}
use Rattle.relay_links.specs.Told.{more}
use Rattle.relay_links.specs.declared.link.Put.{Put}
use Rattle.relay_links.specs.declared.link.Put.TheVariants as put
use Rattle.relay_links.proofs.SinceLemmas.{Since-kept, Since-grows}
use Rattle.relay_h1.specs.Move.{taken}
use Rattle.relay_session.specs.Response.{Holds, MayWrite, WritesPending, LeavesOpen, IsOpen, pending}
use Rattle.relay_session.specs.declared.session.HttpSession.{HttpSession}
use Rattle.relay_session.specs.declared.writing.Outgoing.{Outgoing}
use Rattle.relay_session.specs.declared.writing.Outgoing.TheVariants as outgoing
use Rattle.relay_session.specs.declared.writing.Writing.{Writing}
use Rattle.relay_core.specs.declared.told.Told.{Told}
use Rattle.relay_core.specs.Down.{Writes}
use Rattle.relay_core.specs.Past.{Origin, DownPast, DownGoes, error_of_put}
use Rattle.relay_core.specs.Told.{written, fault_of}
use Rattle.relay_sides.specs.Client.{IsClient, HasPassed, FailsWrite, ClientBlames, fault_in, state_of}
use Rattle.relay_peer.specs.Faults.{TellsSince}
use Rattle.relay_sides.specs.Client as client
use Rattle.relay_sides.proofs.ClientPast.{rose_from, open_is_whole}
use Rattle.relay_peer.proofs.FaultLemmas.{Grew, grew_none, grew_same, more_none, since_on, added_among}

-- a write is due where something waits
pub may_write : (output : Outgoing) → not (length (pending output) == 0) ≡ true → MayWrite output
may_write (outgoing.Open queue) some = grind (arith, some)
may_write (outgoing.Broken fault) some = tt

-- what a write leaves of the link
record Wrote (before after : LinkState) (queue : List ℕ) (answer : Put) : Type 0 where
  given : after.given ≡ before.given
  taken : after.taken ≡ more before.taken (take (taken answer) queue)
  faults : before.faults ≤ after.faults
  failed : (fault : Fault) → answer ≡ put.Failed fault → Rose before.faults after.faults
  kind : (fault : Fault) → answer ≡ put.Failed fault → IsWriteFault fault
  grew : Grew before after
  added : (fault : Fault) → answer ≡ put.Failed fault
      → after.write_faults ≡ more before.write_faults (fault ∷ [])

-- a list of which nothing is taken gains nothing
gains_nothing : (before after : LinkState) (queue : List ℕ) → after.taken ≡ before.taken
    → after.taken ≡ more before.taken (take 0 queue)
gains_nothing before after queue same = by_told before.taken same
  where
    by_told : (told : Option (List ℕ)) → after.taken ≡ told → after.taken ≡ more told (take 0 queue)
    by_told None is = is
    by_told (Some xs) is = is ∙ ap Some (sym (append-nil xs))

-- a count that rose has not fallen
pub not_fallen : (before after : ℕ) → before ≤ last_count → Rose before after → before ≤ after
not_fallen before after fits rose =
    elim (cases_lt after last_count) [
      | inl below ↦ omega (arith, rose below)
      | inr last ↦ omega (arith, fits, last)
    ]

-- a write answers one fault
same_fault : (a b : Fault) → put.Failed a ≡ put.Failed b → a ≡ b
same_fault a b is = cc

-- what the client took of the queue
wrote : (before after : LinkState) (queue : List ℕ) (answer : Put)
    → link.Writes before queue after answer → Wrote before after queue answer
wrote before after queue (put.Took n) w = record {
  given = w.given;
  taken = w.taken;
  faults = rw w.faults (le_refl before.faults);
  failed = λ fault is. cc;
  kind = λ fault is. cc;
  grew = grew_none before after w.read_faults w.write_faults;
  added = λ fault is. cc;
}
wrote before after queue put.NotReady w = record {
  given = w.given;
  taken = gains_nothing before after queue w.taken;
  faults = rw w.faults (le_refl before.faults);
  failed = λ fault is. cc;
  kind = λ fault is. cc;
  grew = grew_none before after w.read_faults w.write_faults;
  added = λ fault is. cc;
}
wrote before after queue put.Silent w = rw w.same (record {
  given = refl;
  taken = gains_nothing before before queue refl;
  faults = le_refl before.faults;
  failed = λ fault is. cc;
  kind = λ fault is. cc;
  grew = grew_same before before refl;
  added = λ fault is. cc;
})
wrote before after queue (put.Failed why) w = record {
  given = w.given;
  taken = gains_nothing before after queue w.taken;
  faults = not_fallen before.faults after.faults w.sound_before.faults_fit w.faults;
  failed = λ fault is. w.faults;
  kind = λ fault is. subst IsWriteFault (same_fault why fault is) w.kind;
  grew = record {
    reads = [];
    read = w.read_faults ∙ more_none before.read_faults;
    writes = why ∷ [];
    written = w.write_faults;
  };
  added = λ fault is.
      subst (λ (f : Fault). after.write_faults ≡ more before.write_faults (f ∷ []))
      (same_fault why fault is) w.write_faults;
}
wrote before after queue put.OutOfMemory w = record {
  given = ap (λ (l : LinkState). l.given) w.same;
  taken = gains_nothing before after queue (ap (λ (l : LinkState). l.taken) w.same);
  faults = rw (ap (λ (l : LinkState). l.faults) w.same) (le_refl before.faults);
  failed = λ fault is. cc;
  kind = λ fault is. cc;
  grew = grew_none before after (ap (λ (l : LinkState). l.read_faults) w.same)
      (ap (λ (l : LinkState). l.write_faults) w.same);
  added = λ fault is. cc;
}

-- a write that failed now has failed since the request began
failed_now : (s : Origin) (before after : LinkState) (queue : List ℕ) (answer : Put)
    (fault : Fault)
    → s.faults ≤ before.faults → TellsSince s.read_faults s.write_faults before
    → Wrote before after queue answer → answer ≡ put.Failed fault → FailsWrite s after fault
failed_now s before after queue answer fault earlier tells w is = (
  rose_from s.faults before.faults after.faults earlier (w.failed fault is),
  record {
    kind = w.kind fault is;
    among = added_among s.write_faults before.write_faults after.write_faults tells.writes fault
        (w.added fault is) tells.written;
  },
)

-- what is broken where something waits
nothing_waits : (fault : Fault) → ¬ (not (length (pending (outgoing.Broken fault)) == 0) ≡ true)
nothing_waits fault some = cc

-- a fault is kept only where the write failed
kept_fault : (rest : List ℕ) (answer : Put) (left : Outgoing) (fault : Fault)
    → LeavesOpen rest answer left → left ≡ outgoing.Broken fault → answer ≡ put.Failed fault
kept_fault rest (put.Took n) left fault leaves is =
    absurd (open_is_whole left rest fault leaves is)
kept_fault rest put.NotReady left fault leaves is =
    absurd (open_is_whole left rest fault leaves is)
kept_fault rest put.Silent left fault leaves is =
    absurd (open_is_whole left rest fault leaves is)
kept_fault rest put.OutOfMemory left fault leaves is =
    absurd (open_is_whole left rest fault leaves is)
kept_fault rest (put.Failed why) left fault leaves is = let both = sym leaves ∙ is in cc

-- without a fault the session is open still
still_open : (rest : List ℕ) (answer : Put) (left : Outgoing) → LeavesOpen rest answer left
    → fault_in answer ≡ None → IsOpen left
still_open rest (put.Took n) left leaves none = (rest, leaves)
still_open rest put.NotReady left leaves none = (rest, leaves)
still_open rest put.Silent left leaves none = (rest, leaves)
still_open rest put.OutOfMemory left leaves none = (rest, leaves)
still_open rest (put.Failed why) left leaves none = absurd (cc)

-- a fault in an answer is that of a write that failed
found_fault : (answer : Put) (fault : Fault) → fault_in answer ≡ Some fault
    → answer ≡ put.Failed fault
found_fault (put.Took n) fault is = absurd (cc)
found_fault put.NotReady fault is = absurd (cc)
found_fault put.Silent fault is = absurd (cc)
found_fault put.OutOfMemory fault is = absurd (cc)
found_fault (put.Failed why) fault is = cc

-- what waits where no fault is kept
pub waits_open : (waits : Bool) (broken : Option Fault) → broken ≡ None
    → waits || is_some broken ≡ true → waits ≡ true
waits_open true broken none some = refl
waits_open false broken none some = let wrong = rw none at some in absurd (cc)

-- the past behind a write of these bytes
abbrev past_written : DownPast → List ℕ → DownPast
past_written p bytes = record {
  came = p.came;
  written = p.written ++ bytes;
  put = p.put;
  batched = p.batched;
  closing = p.closing;
}

-- what a write told
failed_put : (answer : Put) (e : Error) → error_of_put Downstream answer ≡ Some e
    → (fault : Fault) × (answer ≡ put.Failed fault) × (e ≡ fault_of Downstream fault)
failed_put (put.Took n) e is = absurd (cc)
failed_put put.NotReady e is = absurd (cc)
failed_put put.Silent e is = absurd (cc)
failed_put (put.Failed fault) e is = (fault, refl, cc)
failed_put put.OutOfMemory e is = absurd (cc)

-- a write to the client
pub writes_on : (s : Origin) (p : DownPast) (before after : LinkState) (ahead left : List ℕ)
    (old new : HttpSession) (done finished : Bool) (broken : Option Fault) (answer : Put)
    (output : Outgoing) → HasPassed s p before ahead old done finished broken
    → old.writing.output ≡ output → not (length (pending output) == 0) ≡ true
    → WritesPending output before after answer new.writing.output
    → Holds new.writing (client.queued p) (p.written ++ take (taken answer) (pending output))
    → left ≡ ahead → new.writing ≡ record old.writing { output = new.writing.output }
    → new.reading ≡ old.reading
    → DownGoes (λ q. HasPassed s q after left new done finished (fault_in answer))
    (λ q e. ClientBlames s q after e) p.put p.batched p.closing (error_of_put Downstream answer)
writes_on s p before after ahead left old new done finished broken answer (outgoing.Broken fault) h
    is some writes holds kept rest reading =
    absurd (nothing_waits fault some)
writes_on s p before after ahead left old new done finished broken answer (outgoing.Open queue) h
    is some writes holds kept rest reading =
    let w = wrote before after queue answer writes.writes.writes in
    record {
      past = past_written p (take (taken answer) queue);
      stands = record {
        client = record {
          came = Since-kept [] s.given before.given after.given p.came w.given h.client.came;
          written = Since-grows [] s.taken before.taken after.taken p.written
              (take (taken answer) queue) w.taken h.client.written;
          faults = omega (arith, h.client.faults, w.faults);
          head = h.client.head;
          own = h.client.own;
          framing = h.client.framing;
          len = h.client.len;
          has = h.client.has;
          has_head = rw reading h.client.has_head;
          answers = ap (λ (r : Writing). r.request) rest ∙ h.client.answers;
          body = h.client.body;
          request = rw (reading, kept) h.client.request;
          joined = h.client.joined;
          some = h.client.some;
          ended = rw reading h.client.ended;
          whole = rw reading h.client.whole;
          headed = rw reading h.client.headed;
          told_whole = rw (reading, kept) h.client.told_whole;
          response = holds;
          broken = λ fault of.
              failed_now s before after queue answer fault h.client.faults h.client.tells w
              (kept_fault writes.rest answer new.writing.output fault writes.leaves of);
          tells = since_on s.read_faults s.write_faults before after w.grew h.client.tells;
        };
        over = rw (ap (λ (r : Writing). r.request) rest) h.over;
        plain = h.plain;
        plain_end = h.plain_end;
        place_over = rw (ap (λ (r : Writing). r.place) rest) h.place_over;
        said = rw (ap (λ (r : Writing). r.place) rest) h.said;
        unasked = h.unasked;
        asked = h.asked;
        closed = rw (ap (λ (r : Writing). r.place) rest) h.closed;
        unbroken = still_open writes.rest answer new.writing.output writes.leaves;
        fault = λ f is.
            failed_now s before after queue answer f h.client.faults h.client.tells w
            (found_fault answer f is);
      };
      is_put = refl;
      is_batched = refl;
      is_closing = refl;
      blamed = λ e of.
          let f = failed_put answer e of in
          let fails =
          failed_now s before after queue answer f.0 h.client.faults h.client.tells w f.1 in
          client.ClientBlames.link_failed f.0 f.2 fails.0 (inl fails.1);
    }

-- the answer of a write that failed before
pub fails_again : (s : Origin) (p : DownPast) (link : LinkState) (ahead : List ℕ)
    (session : HttpSession) (done finished : Bool) (broken : Option Fault) (fault : Fault)
    → broken ≡ Some fault → HasPassed s p link ahead session done finished broken
    → DownGoes (λ q. HasPassed s q link ahead session done finished broken)
    (λ q e. ClientBlames s q link e) p.put p.batched p.closing
    (error_of_put Downstream (put.Failed fault))
fails_again s p link ahead session done finished broken fault is h = record {
  past = p;
  stands = h;
  is_put = refl;
  is_batched = refl;
  is_closing = refl;
  blamed = λ e of.
      let f = failed_put (put.Failed fault) e of in
      client.ClientBlames.link_failed f.0 f.2
      (h.fault f.0 (is ∙ ap fault_in f.1)).0 (inl (h.fault f.0 (is ∙ ap fault_in f.1)).1);
}

-- what waits where nothing was taken
waits_still : (queue rest : List ℕ) (left : Outgoing) → rest ≡ drop 0 queue
    → left ≡ outgoing.Open rest → pending left ≡ queue
waits_still queue rest left same leaves = rw leaves same

-- the state of a side where only what waits changed
state_written : (old new : HttpSession) (told : Told) (done finished : Bool)
    (was now : Option Fault) → new.reading ≡ old.reading
    → state_of new told done finished now ≡ record (state_of old told done finished was) {
      pending = not (length (pending new.writing.output) == 0) || is_some now;
    }
state_written old new told done finished was now reading = rw reading refl

-- and where not even that did
state_waits : (old new : HttpSession) (told : Told) (done finished : Bool) (queue : List ℕ)
    → new.reading ≡ old.reading → old.writing.output ≡ outgoing.Open queue
    → pending new.writing.output ≡ queue
    → state_of new told done finished None ≡ state_of old told done finished None
state_waits old new told done finished queue reading was now = rw (reading, now, was) refl

-- a write says this of the state
pub writes_state : (before after : LinkState) (old new : HttpSession) (told : Told)
    (done finished : Bool) (answer : Put) (output : Outgoing)
    → old.writing.output ≡ output → not (length (pending output) == 0) ≡ true
    → WritesPending output before after answer new.writing.output
    → new.reading ≡ old.reading
    → Writes (state_of old told done finished None)
    (state_of new (written Downstream answer told) done finished (fault_in answer)) answer
writes_state before after old new told done finished answer (outgoing.Broken fault) is some writes
    reading =
    absurd (nothing_waits fault some)
writes_state before after old new told done finished (put.Took n) (outgoing.Open queue) is some
    writes reading =
    state_written old new told done finished None None reading
writes_state before after old new told done finished put.NotReady (outgoing.Open queue) is some
    writes reading =
    state_waits old new _ done finished queue reading is
    (waits_still queue writes.rest new.writing.output writes.writes.left writes.leaves)
writes_state before after old new told done finished put.Silent (outgoing.Open queue) is some
    writes reading =
    state_waits old new _ done finished queue reading is
    (waits_still queue writes.rest new.writing.output writes.writes.left writes.leaves)
writes_state before after old new told done finished (put.Failed fault) (outgoing.Open queue) is
    some writes reading =
    state_written old new _ done finished None (Some fault) reading
writes_state before after old new told done finished put.OutOfMemory (outgoing.Open queue) is some
    writes reading =
    state_waits old new _ done finished queue reading is
    (waits_still queue writes.rest new.writing.output writes.writes.left writes.leaves)

-- a link that the side waits for in silence is silent, and stays as it was
pub writes_silent : (before after : LinkState) (output left : Outgoing) (answer : Put)
    → not (length (pending output) == 0) ≡ true → WritesPending output before after answer left
    → answer ≡ put.Silent → (after ≡ before) × (after.silent_on_write ≡ true)
writes_silent before after (outgoing.Broken fault) left answer some writes is =
    absurd (nothing_waits fault some)
writes_silent before after (outgoing.Open queue) left (put.Took n) some writes is = cc
writes_silent before after (outgoing.Open queue) left put.NotReady some writes is = cc
writes_silent before after (outgoing.Open queue) left put.Silent some writes is =
    (writes.writes.writes.same, rw writes.writes.writes.same writes.writes.writes.silent)
writes_silent before after (outgoing.Open queue) left (put.Failed fault) some writes is = cc
writes_silent before after (outgoing.Open queue) left put.OutOfMemory some writes is = cc

-- a link that the side waits for was counted to have to be waited for
pub writes_waits : (before after : LinkState) (output left : Outgoing) (answer : Put)
    → not (length (pending output) == 0) ≡ true → WritesPending output before after answer left
    → answer ≡ put.NotReady → after.waits ≡ up before.waits
writes_waits before after (outgoing.Broken fault) left answer some writes is =
    absurd (nothing_waits fault some)
writes_waits before after (outgoing.Open queue) left (put.Took n) some writes is = cc
writes_waits before after (outgoing.Open queue) left put.NotReady some writes is =
    writes.writes.writes.waits
writes_waits before after (outgoing.Open queue) left put.Silent some writes is = cc
writes_waits before after (outgoing.Open queue) left (put.Failed fault) some writes is = cc
writes_waits before after (outgoing.Open queue) left put.OutOfMemory some writes is = cc

-- a write that took bytes took one at least
pub writes_some : (before after : LinkState) (output left : Outgoing) (answer : Put) (n : ℕ)
    → not (length (pending output) == 0) ≡ true → WritesPending output before after answer left
    → answer ≡ put.Took n → 0 < n
writes_some before after (outgoing.Broken fault) left answer n some writes is =
    absurd (nothing_waits fault some)
writes_some before after (outgoing.Open queue) left (put.Took m) n some writes is =
    let same : m ≡ n = cc in omega (arith, writes.writes.writes.some, same)
writes_some before after (outgoing.Open queue) left put.NotReady n some writes is = cc
writes_some before after (outgoing.Open queue) left put.Silent n some writes is = cc
writes_some before after (outgoing.Open queue) left (put.Failed fault) n some writes is = cc
writes_some before after (outgoing.Open queue) left put.OutOfMemory n some writes is = cc
