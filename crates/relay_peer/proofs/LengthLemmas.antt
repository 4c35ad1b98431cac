-- The end of a body comes alone only where no bytes of a length are missing.
use Rattle.std.proofs.Common.{◌≡◌, ℕ, ◌+◌, ◌==◌, Bool, true, false, not, ◌||◌, List, [], length, take, refl, sym, ap, ◌∙◌, arith, inl, inr, length-take, nat_le, if◌then◌else◌}
use Rattle.std.proofs.lemmas.Bool.{cases_Bool}
use Rattle.std.proofs.lemmas.Bool.Decides.{nat_tests}
use Rattle.relay_h1.specs.declared.framing.Framing.{Framing}
use Rattle.relay_h1.specs.declared.framing.Framing.TheVariants as framing
use Rattle.relay_h1.specs.declared.body_reader.State.{State}
use Rattle.relay_h1.specs.declared.body_reader.State.TheVariants as state
use Rattle.relay_h1.specs.Body.{BodyMark, BodyText, ended_text, of_length}
use Rattle.relay_h1.specs.BodyReader.{Reads, Takes, is_of, is_done, may_end}
use Rattle.relay_h1.proofs.BodyReaderLemmas.{Takes-reads, done_reads}
use Rattle.relay_peer.specs.ResponseReading.{is_in_length}

-- the mark of a body whose length has not come
never_ended : (fits : Bool) (left n : ℕ) → fits ≡ false
    → BodyMark.ended n ≡ (if fits then BodyMark.ended left else BodyMark.still_open) → ⊥
never_ended true left n short same = cc
never_ended false left n short same = cc

-- a body of a length ends without one byte more only where none is missing
none_missing : (left n : ℕ) (bytes : List ℕ) (text : BodyText) → text ≡ of_length left bytes
    → text.bytes ≡ [] → text.mark ≡ BodyMark.ended n → (left == 0) ≡ true
none_missing left n bytes text is none ends =
    elim (cases_Bool (nat_le left (length bytes))) [
      | inl fits ↦
          let taken : length (take left bytes) ≡ 0 =
          ap (λ (xs : List ℕ). length xs) (sym (ap (λ (t : BodyText). t.bytes) is) ∙ none) in
          grind (arith, nat_tests, length-take left bytes)
      | inr short ↦
          absurd (never_ended (nat_le left (length bytes)) left n short
          (sym ends ∙ ap (λ (t : BodyText). t.mark) is))
    ]

-- no bytes of a length are missing where the bytes end the body
pub ends_out : (at : State) (bytes : List ℕ) (n : ℕ) → Reads at bytes (ended_text [] n)
    → is_in_length at ≡ false
ends_out state.ChunkLine bytes n reads = refl
ends_out (state.Chunk left) bytes n reads = refl
ends_out state.ChunkEnd bytes n reads = refl
ends_out state.Trailer bytes n reads = refl
ends_out (state.Length left) bytes n reads =
    ap not (none_missing left n bytes (ended_text [] n) reads refl refl)
ends_out state.UntilClose bytes n reads = refl
ends_out state.Tunnel bytes n reads = refl
ends_out state.Done bytes n reads = refl

-- nor where the body may end with its stream
pub stream_out : (at : State)
    → ((framing : Framing) → is_of framing at ≡ true → (may_end framing || is_done at) ≡ true)
    → is_in_length at ≡ false
stream_out state.ChunkLine may = refl
stream_out (state.Chunk left) may = refl
stream_out state.ChunkEnd may = refl
stream_out state.Trailer may = refl
stream_out (state.Length left) may = ap not (may (framing.Length 0) refl)
stream_out state.UntilClose may = refl
stream_out state.Tunnel may = refl
stream_out state.Done may = refl

not_false : (b : Bool) → not b ≡ false → b ≡ true
not_false true is = refl
not_false false is = cc

-- a body of a length of which no bytes are missing has ended
out_done : (at : State) → is_of (framing.Length 0) at ≡ true → is_in_length at ≡ false
    → is_done at ≡ true
out_done state.ChunkLine of out = cc
out_done (state.Chunk left) of out = cc
out_done state.ChunkEnd of out = cc
out_done state.Trailer of out = cc
out_done (state.Length left) of out = not_false (left == 0) out
out_done state.UntilClose of out = cc
out_done state.Tunnel of out = cc
out_done state.Done of out = refl

-- where no byte of the body was taken, bytes of a length are missing as before
pub out_of_length : (old mid : State) (bytes between : List ℕ) → Takes old bytes [] mid between
    → is_in_length mid ≡ false → is_in_length old ≡ false
out_of_length state.ChunkLine mid bytes between passes out = refl
out_of_length (state.Chunk left) mid bytes between passes out = refl
out_of_length state.ChunkEnd mid bytes between passes out = refl
out_of_length state.Trailer mid bytes between passes out = refl
out_of_length (state.Length left) mid bytes between passes out =
    let done = out_done mid (passes.over.of_framing (framing.Length 0) refl) out in
    ap not
    (none_missing left (length passes.taken + 0) bytes _
    (Takes-reads (state.Length left) mid bytes [] between (ended_text [] 0) passes
    (done_reads mid between done)) refl refl)
out_of_length state.UntilClose mid bytes between passes out = refl
out_of_length state.Tunnel mid bytes between passes out = refl
out_of_length state.Done mid bytes between passes out = refl
