-- What a call for the body leaves of its client's link, and whether the body has ended then.
use Rattle.std.proofs.Common.{◌≡◌, ℕ, ◌+◌, ◌≤◌, Bool, true, false, List, [], ◌++◌, length, refl, sym, ◌∙◌, ap, le_refl, arith, inl, inr}
use Rattle.std.proofs.lemmas.Bool.{cases_Bool, cases_lt}
use Rattle.relay_tasks.specs.declared.error.Error.{Error}
use Rattle.relay_tasks.specs.declared.error.Fail.TheVariants as fail
use Rattle.relay_tasks.specs.declared.fault.Fault.{Fault}
use Rattle.relay_tasks.specs.declared.took.Pause.{Pause}
use Rattle.relay_tasks.specs.declared.took.Pause.TheVariants.{NotReady, Silent}
use Rattle.relay_tasks.specs.declared.took.Took.{Took}
use Rattle.relay_tasks.specs.declared.took.Took.TheVariants as took
use Rattle.relay_links.specs.Count.{last_count, Rose}
use Rattle.relay_links.specs.Link.{LinkState, WaitsOnRead, IsSilentOnRead, EndsRead, FailsRead}
use Rattle.relay_h1.specs.declared.body_reader.State.{State}
use Rattle.relay_h1.specs.declared.body_reader.State.TheVariants as state
use Rattle.relay_h1.specs.Body as text
use Rattle.relay_h1.specs.Body.{BodyMark, BodyText, open_text, ended_text, broken_text, of_length}
use Rattle.relay_h1.specs.BodyReader.{Reads, Takes, is_done}
use Rattle.relay_h1.proofs.BodyLemmas.{Chunked-unique}
use Rattle.relay_h1.proofs.BodyReaderLemmas.{Takes-reads, done_reads}
use Rattle.relay_session.specs.Front as front
use Rattle.relay_session.specs.Front.{Gave, Comes, ReadsPiece, Watches, link_fault}
use Rattle.relay_session.specs.Reading.{ReadsLink, EndsBy}
use Rattle.relay_session.specs.Reading as says
use Rattle.relay_session.proofs.ReadingLemmas.{plain}

-- ---- the link

-- an answer that waits for nothing
abbrev Speaks : Took (List ℕ) → Type 0
Speaks answer = (why : Pause) → answer ≡ took.Waited why → ⊥

-- the link stays as it was
link_stays : (before after : LinkState) (answer : Took (List ℕ)) → Speaks answer → after ≡ before
    → ReadsLink before after answer
link_stays before after answer speaks same = rw same (record {
  asks = inr refl;
  used = λ is. absurd (speaks NotReady is);
  taken = refl;
  faults = le_refl before.faults;
  calm = λ none. refl;
  sound = λ sound. sound;
  waits = λ is. absurd (speaks NotReady is);
  silent = λ is. absurd (speaks Silent is);
  read_faults = says.AddsFault.none_came refl;
  write_faults = refl;
})

-- a read gave bytes
link_gave : (before after : LinkState) (came : List ℕ) (answer : Took (List ℕ)) → Speaks answer
    → Gave before after came → ReadsLink before after answer
link_gave before after came answer speaks gave = record {
  asks = inl gave.gives.used;
  used = λ is. absurd (speaks NotReady is);
  taken = gave.gives.taken;
  faults = rw gave.gives.faults (le_refl before.faults);
  calm = λ none. gave.gives.faults;
  sound = λ sound. gave.gives.sound;
  waits = λ is. absurd (speaks NotReady is);
  silent = λ is. absurd (speaks Silent is);
  read_faults = says.AddsFault.none_came gave.gives.read_faults;
  write_faults = gave.gives.write_faults;
}

-- the link was asked or not
link_comes : (still_open : Type 0) (before after : LinkState) (came : List ℕ)
    (answer : Took (List ℕ)) → Speaks answer → Comes still_open before after came
    → ReadsLink before after answer
link_comes still_open before after came answer speaks (front.Comes.unasked same) =
    link_stays before after answer speaks same
link_comes still_open before after came answer speaks (front.Comes.one_read _ was gave) =
    link_gave before after came answer speaks gave

-- a read gave nothing, and a later one may
link_waits : (before after : LinkState) → WaitsOnRead before after
    → ReadsLink before after (took.Waited NotReady)
link_waits before after waits = record {
  asks = inl waits.used;
  used = λ is. waits.used;
  taken = waits.taken;
  faults = rw waits.faults (le_refl before.faults);
  calm = λ none. waits.faults;
  sound = λ sound. waits.sound;
  waits = λ is. waits.waits;
  silent = λ is. cc;
  read_faults = says.AddsFault.none_came waits.read_faults;
  write_faults = waits.write_faults;
}

-- no read gives anything until a write
link_silent : (before after : LinkState) → IsSilentOnRead before after
    → ReadsLink before after (took.Waited Silent)
link_silent before after silent = rw silent.same (record {
  asks = inr refl;
  used = λ is. cc;
  taken = refl;
  faults = le_refl before.faults;
  calm = λ none. refl;
  sound = λ sound. sound;
  waits = λ is. cc;
  silent = λ is. (refl, silent.silent);
  read_faults = says.AddsFault.none_came refl;
  write_faults = refl;
})

-- the client ended
link_ends : (before after : LinkState) (answer : Took (List ℕ)) → Speaks answer
    → EndsRead before after → ReadsLink before after answer
link_ends before after answer speaks ends = record {
  asks = inl ends.used;
  used = λ is. absurd (speaks NotReady is);
  taken = ends.taken;
  faults = rw ends.faults (le_refl before.faults);
  calm = λ none. ends.faults;
  sound = λ sound. ends.sound;
  waits = λ is. absurd (speaks NotReady is);
  silent = λ is. absurd (speaks Silent is);
  read_faults = says.AddsFault.none_came ends.read_faults;
  write_faults = ends.write_faults;
}

-- a count that rose has not fallen
not_fallen : (before after : ℕ) → before ≤ last_count → Rose before after → before ≤ after
not_fallen before after fits rose =
    elim (cases_lt after last_count) [
      | inl below ↦ omega (arith, rose below)
      | inr last ↦ omega (arith, fits, last)
    ]

-- a failure waits for nothing
fails_speaking : (error : Error) → Speaks (took.Failed (fail.Error error))
fails_speaking error why is = cc

-- a read failed
link_fails : (before after : LinkState) (fault : Fault) (error : Error)
    → FailsRead before fault after → error ≡ link_fault fault
    → ReadsLink before after (took.Failed (fail.Error error))
link_fails before after fault error fails is = record {
  asks = inl fails.used;
  used = λ waits. absurd (fails_speaking error NotReady waits);
  taken = fails.taken;
  faults = not_fallen before.faults after.faults fails.sound_before.faults_fit fails.faults;
  calm = λ none. absurd (none error refl);
  sound = λ sound. fails.sound;
  waits = λ waits. absurd (fails_speaking error NotReady waits);
  silent = λ waits. absurd (fails_speaking error Silent waits);
  read_faults = says.AddsFault.one_came fault fails.read_faults
      (ap (λ (e : Error). took.Failed (fail.Error e)) is);
  write_faults = fails.write_faults;
}

module _ (before after : LinkState) (old new : State) (ahead left : List ℕ) where
  -- what a call for a piece leaves of the link
  piece_link : (answer : Took (List ℕ × Bool))
      → ReadsPiece before after old new ahead left answer
      → ReadsLink before after (plain answer)
  piece_link (took.Item item) gives =
      link_comes _ before after gives.came (took.Item item.0) (λ why is. cc) gives.comes
  piece_link took.More leaves =
      link_gave before after leaves.came took.More (λ why is. cc) leaves.gave
  piece_link (took.Waited NotReady) stays = link_waits before after stays.1
  piece_link (took.Waited Silent) stays = link_silent before after stays.1
  piece_link took.End (front.EndsBody.is_whole came n comes takes reads size done) =
      link_comes _ before after came took.End (λ why is. cc) comes
  piece_link took.End (front.EndsBody.client_ended at stays ends may is) =
      link_ends before after took.End (λ why is. cc) ends
  piece_link (took.Failed fail.OutOfMemory) kept =
      link_comes _ before after kept.came (took.Failed fail.OutOfMemory) (λ why is. cc) kept.comes
  piece_link (took.Failed (fail.Error error))
      (front.RefusesBody.is_broken came comes takes reads is) =
      link_comes _ before after came (took.Failed (fail.Error error)) (fails_speaking error) comes
  piece_link (took.Failed (fail.Error error)) (front.RefusesBody.ends_inside stays ends may is) =
      link_ends before after (took.Failed (fail.Error error)) (fails_speaking error) ends
  piece_link (took.Failed (fail.Error error)) (front.RefusesBody.link_failed fault stays fails is) =
      link_fails before after fault error fails is

  -- what one look at a client that is to be still leaves of it
  watch_link : (answer : Took (List ℕ × Bool)) → Watches before after ahead left answer
      → ReadsLink before after (plain answer)
  watch_link (took.Item item) watches = absurd watches
  watch_link took.More watches = absurd watches
  watch_link (took.Waited NotReady) watches = link_waits before after watches.1
  watch_link (took.Waited Silent) watches = link_silent before after watches.1
  watch_link took.End watches = absurd watches
  watch_link (took.Failed fail.OutOfMemory) watches =
      link_stays before after (took.Failed fail.OutOfMemory) (λ why is. cc) watches.1
  watch_link (took.Failed (fail.Error error)) (front.Stirs.had_sent some same kept is) =
      link_stays before after (took.Failed (fail.Error error)) (fails_speaking error) same
  watch_link (took.Failed (fail.Error error)) (front.Stirs.sends came none gave kept is) =
      link_gave before after came (took.Failed (fail.Error error)) (fails_speaking error) gave
  watch_link (took.Failed (fail.Error error)) (front.Stirs.ends none ends kept is) =
      link_ends before after (took.Failed (fail.Error error)) (fails_speaking error) ends
  watch_link (took.Failed (fail.Error error)) (front.Stirs.link_failed fault none fails kept is) =
      link_fails before after fault error fails is

  -- a call in either mode
  pub either_link : (answer : Took (List ℕ × Bool)) (still : Bool)
      → (still ≡ false → ReadsPiece before after old new ahead left answer)
      → (still ≡ true → Watches before after ahead left answer)
      → ReadsLink before after (plain answer)
  either_link answer still reads watches =
      elim (cases_Bool still) [
        | inl is ↦ watch_link answer (watches is)
        | inr is ↦ piece_link answer (reads is)
      ]

  -- one look is the same without the mark of a piece
  pub watches_plain : (answer : Took (List ℕ × Bool)) → Watches before after ahead left answer
      → Watches before after ahead left (plain answer)
  watches_plain (took.Item item) watches = watches
  watches_plain took.More watches = watches
  watches_plain (took.Waited NotReady) watches = watches
  watches_plain (took.Waited Silent) watches = watches
  watches_plain took.End watches = watches
  watches_plain (took.Failed fail.OutOfMemory) watches = watches
  watches_plain (took.Failed (fail.Error error)) watches = watches

-- ---- the end of the body

-- what bytes say from a place on is one text
one_text : (at : State) (bytes : List ℕ) (a b : BodyText) → Reads at bytes a → Reads at bytes b
    → a ≡ b
one_text state.ChunkLine bytes a b x y = Chunked-unique text.ChunkedPlace.at_line bytes a b x y
one_text (state.Chunk left) bytes a b x y =
    Chunked-unique (text.ChunkedPlace.in_chunk left) bytes a b x y
one_text state.ChunkEnd bytes a b x y = Chunked-unique text.ChunkedPlace.behind_chunk bytes a b x y
one_text state.Trailer bytes a b x y = Chunked-unique text.ChunkedPlace.in_trailer bytes a b x y
one_text (state.Length left) bytes a b x y = x ∙ sym y
one_text state.UntilClose bytes a b x y = x ∙ sym y
one_text state.Tunnel bytes a b x y = x ∙ sym y
one_text state.Done bytes a b x y = x ∙ sym y

-- behind framing, the body has not ended where its text tells no end
not_ended : (old new : State) (ahead left : List ℕ) (said : BodyText)
    → Takes old ahead [] new left → Reads old ahead said
    → ((n : ℕ) → ¬ (said.mark ≡ BodyMark.ended n)) → is_done new ≡ false
not_ended old new ahead left said takes reads no_end = by_value (is_done new) refl
  where
    by_value : (done : Bool) → is_done new ≡ done → is_done new ≡ false
    by_value false is = is
    by_value true is =
        let ends =
        Takes-reads old new ahead [] left (ended_text [] 0) takes (done_reads new left is) in
        absurd (no_end (length takes.taken + 0)
        (ap (λ (t : BodyText). t.mark) (one_text old ahead said _ reads ends)))

-- whether the body has ended behind a call for a piece
pub piece_ends : (before after : LinkState) (old new : State) (ahead left : List ℕ)
    (answer : Took (List ℕ × Bool))
    → ReadsPiece before after old new ahead left answer → EndsBy (plain answer) (is_done new)
piece_ends before after old new ahead left (took.Item item) gives = tt
piece_ends before after old new ahead left took.More leaves =
    not_ended old new (ahead ++ leaves.came) left (open_text []) leaves.takes leaves.says
    (λ n is. cc)
piece_ends before after old new ahead left (took.Waited NotReady) stays =
    not_ended old new ahead left (open_text []) stays.0.takes stays.0.was_open (λ n is. cc)
piece_ends before after old new ahead left (took.Waited Silent) stays =
    not_ended old new ahead left (open_text []) stays.0.takes stays.0.was_open (λ n is. cc)
piece_ends before after old new ahead left took.End
    (front.EndsBody.is_whole came n comes takes reads size done) =
    done
piece_ends before after old new ahead left took.End
    (front.EndsBody.client_ended at stays ends may is) =
    ap (λ (s : State). is_done s) is
piece_ends before after old new ahead left (took.Failed fail.OutOfMemory) kept = kept.inside
piece_ends before after old new ahead left (took.Failed (fail.Error error))
    (front.RefusesBody.is_broken came comes takes reads is) =
    not_ended old new (ahead ++ came) left broken_text takes reads (λ n is. cc)
piece_ends before after old new ahead left (took.Failed (fail.Error error))
    (front.RefusesBody.ends_inside stays ends may is) =
    not_ended old new ahead left (open_text []) stays.takes stays.was_open (λ n is. cc)
piece_ends before after old new ahead left (took.Failed (fail.Error error))
    (front.RefusesBody.link_failed fault stays fails is) =
    not_ended old new ahead left (open_text []) stays.takes stays.was_open (λ n is. cc)
