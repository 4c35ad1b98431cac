-- Where the text of what was handed on is over, the end of the response was handed on: a body of
-- which no byte is missing is read to its end.
use Rattle.std.proofs.Common.{◌≡◌, ℕ, ◌+◌, ◌≤◌, ◌<◌, nat_le, Bool, true, false, ◌⊎◌, inl, inr, List, [], ◌∷◌, ◌++◌, length, drop, refl, sym, ap, subst, ◌∙◌, arith, append-nil, length-take, Some, None}
use Rattle.std.specs.List.{list_any}
use Rattle.std.proofs.Math.Seq.{take-nil}
use Rattle.std.proofs.lemmas.Bool.{cases_Bool, leb-false}
use Rattle.std.proofs.lemmas.Bool.Decides.{nat_tests}
use Rattle.relay_tasks.specs.declared.task.HttpTask.{HttpTask}
use Rattle.relay_tasks.specs.declared.task.HttpTask.TheVariants as task
use Rattle.relay_tasks.specs.Head.{ResponseHead}
use Rattle.relay_tasks.specs.Task.{is_end}
use Rattle.relay_h1.specs.declared.framing.Framing.{Framing}
use Rattle.relay_h1.specs.declared.framing.Framing.TheVariants as framing
use Rattle.relay_h1.specs.declared.body_reader.State.{State}
use Rattle.relay_h1.specs.declared.body_reader.State.TheVariants as state
use Rattle.relay_h1.specs.Body.{BodyText, of_length}
use Rattle.relay_h1.specs.Body as body
use Rattle.relay_h1.specs.BodyReader.{SoFar, is_done, is_of}
use Rattle.relay_h1.specs.Tasks.{HasFinal}
use Rattle.relay_h1.proofs.TasksLemmas.{HasFinal-unique}
use Rattle.relay_peer.specs.ResponseReading.{ToldResponse, IsHead, ReadAt, untold, with_task, is_over}
use Rattle.relay_peer.specs.declared.response_reading.ResponsePlace.{ResponsePlace}
use Rattle.relay_peer.specs.declared.response_reading.ResponsePlace.TheVariants as place
use Rattle.relay_peer.specs.declared.response_reading.ResponseReading.{ResponseReading}
use Rattle.relay_core.proofs.BoolLemmas.{clash}
use Rattle.relay_sides.specs.Filtered.{AreHeads}
use Rattle.relay_peer.specs.Peer.{AreTasks, Follow, told_behind, told_of}

-- the body takes no more bytes, of those that were told
abbrev pub IsFull : Framing → List ℕ → Type 0
IsFull f bytes = (f ≡ framing.Empty) ⊎ ((k : ℕ) × (f ≡ framing.Length k) × (k ≤ length bytes))

-- ---- inside a body

-- no place in a body without bytes is open
empty_done : (at : State) → is_of framing.Empty at ≡ true → is_done at ≡ false → ⊥
empty_done state.ChunkLine of goes_on = absurd (cc)
empty_done (state.Chunk left) of goes_on = absurd (cc)
empty_done state.ChunkEnd of goes_on = absurd (cc)
empty_done state.Trailer of goes_on = absurd (cc)
empty_done (state.Length left) of goes_on = absurd (cc)
empty_done state.UntilClose of goes_on = absurd (cc)
empty_done state.Tunnel of goes_on = absurd (cc)
empty_done state.Done of goes_on = absurd (cc)

-- the text of a length is open only where bytes are missing
open_short : (k : ℕ) (bytes told : List ℕ)
    → record { bytes = told; mark = body.BodyMark.still_open } ≡ of_length k bytes
    → length told < k
open_short k bytes told is =
    elim (cases_Bool (nat_le k (length bytes))) [
      | inl enough ↦
          let mark : (of_length k bytes).mark ≡ body.BodyMark.ended k = rw enough refl in
          absurd (apart (ap (λ (t : BodyText). t.mark) is ∙ mark))
      | inr few ↦
          omega (
            arith,
            ap (λ (t : BodyText). length t.bytes) is,
            length-take k bytes,
            leb-false k (length bytes) few,
          )
    ]
  where
    apart : body.BodyMark.still_open ≡ body.BodyMark.ended k → ⊥
    apart same = cc

-- a body of some length that goes on has not come whole
length_short : (k : ℕ) (given told ahead : List ℕ) (at : State)
    → SoFar (framing.Length k) given told at ahead → is_done at ≡ false → length told < k
length_short k given told ahead state.ChunkLine so_far goes_on =
    clash false so_far.of_framing refl
length_short k given told ahead (state.Chunk left) so_far goes_on =
    clash false so_far.of_framing refl
length_short k given told ahead state.ChunkEnd so_far goes_on =
    clash false so_far.of_framing refl
length_short k given told ahead state.Trailer so_far goes_on =
    clash false so_far.of_framing refl
length_short k given told ahead (state.Length left) so_far goes_on =
    let few : nat_le left 0 ≡ false = grind (arith, nat_tests) in
    let none : of_length left [] ≡ record { bytes = []; mark = body.BodyMark.still_open } =
    rw (take-nil left, few) refl in
    let said = so_far.says [] (record { bytes = []; mark = body.BodyMark.still_open }) (sym none) in
    open_short k (so_far.consumed ++ []) told
    (ap (λ (xs : List ℕ). record { bytes = xs; mark = body.BodyMark.still_open })
    (sym (append-nil told)) ∙ said)
length_short k given told ahead state.UntilClose so_far goes_on =
    clash false so_far.of_framing refl
length_short k given told ahead state.Tunnel so_far goes_on =
    clash false so_far.of_framing refl
length_short k given told ahead state.Done so_far goes_on = clash true refl goes_on

-- a body that takes no more bytes is not read on
full_ends : (f : Framing) (given told ahead : List ℕ) (at : State) → SoFar f given told at ahead
    → is_done at ≡ false → IsFull f told → ⊥
full_ends f given told ahead at so_far goes_on (inl none) =
    empty_done at
    (subst (λ (x : Framing). is_of x at ≡ true) none so_far.of_framing) goes_on
full_ends f given told ahead at so_far goes_on (inr (k, is, enough)) =
    let short = length_short k given told ahead at
    (subst (λ (x : Framing). SoFar x given told at ahead) is so_far) goes_on in
    absurd (omega (arith, short, enough))

-- ---- the tasks

-- no final head was told where another head follows
follow_head : (told : ToldResponse) (given : List HttpTask) (one : HttpTask)
    (rest : List HttpTask) → Follow told (given ++ one ∷ rest) → IsHead one
    → (told_behind told given).final ≡ None
follow_head told [] (task.Header head end) rest follow is = follow.0
follow_head told [] (task.Body piece end) rest follow is = absurd is
follow_head told [] (task.UpgradedBody piece end) rest follow is = absurd is
follow_head told [] (task.Trailer fields) rest follow is = absurd is
follow_head told [] task.Done rest follow is = absurd is
follow_head told [] (task.Failed error) rest follow is = absurd is
follow_head told (first ∷ given) one rest follow is =
    follow_head (with_task told first) given one rest follow.2 is

-- behind a final head that was handed on none is withheld
pub none_withheld : (given withheld : List HttpTask) (final : ResponseHead)
    → Follow untold (given ++ withheld) → AreHeads withheld → (told_of given).final ≡ Some final
    → withheld ≡ []
none_withheld given [] final follow heads told = refl
none_withheld given (one ∷ rest) final follow heads told =
    let none = follow_head untold given one rest follow heads.0 in
    absurd (apart (sym none ∙ told))
  where
    apart : None ≡ Some final → ⊥
    apart same = cc

-- a reading that has told a final head, and a body that takes no more bytes, has ended
full_over : (method : List ℕ) (upgrade closed : Bool) (got : List ℕ) (told : ToldResponse)
    (at : ResponsePlace) (ahead : List ℕ) (final : ResponseHead) (f : Framing) (len : ℕ)
    → ReadAt method upgrade closed got told at ahead → told.final ≡ Some final
    → HasFinal method upgrade got told.informed final f len → IsFull f told.body
    → is_over at ≡ true
full_over method upgrade closed got told place.NoHead ahead final f len at is has full =
    absurd (apart (sym at.0.no_final ∙ is))
  where
    apart : None ≡ Some final → ⊥
    apart same = cc
full_over method upgrade closed got told place.Informed ahead final f len at is has full =
    absurd (apart (sym at.0.no_final ∙ is))
  where
    apart : None ≡ Some final → ⊥
    apart same = cc
full_over method upgrade closed got told (place.InBody body) ahead final f len at is has full =
    let same = HasFinal-unique method upgrade got told.informed told.informed at.head final
    at.framing
    f (at.n + at.len) len
    (record {
      place = at.n;
      own = at.len;
      informs = at.informs;
      has = at.has;
      final = at.is_final;
      ends = refl;
    }) has in
    absurd (full_ends at.framing (drop (at.n + at.len) got) told.body ahead body.reader at.so_far
    at.goes_on
    (subst (λ (x : Framing). IsFull x told.body) (sym same.framing) full))
full_over method upgrade closed got told (place.Ended keeps) ahead final f len at is has full = refl

-- the end of a response was handed on whose body takes no more bytes
pub full_has_end : (method : List ℕ) (upgrade closed : Bool) (got : List ℕ)
    (given withheld : List HttpTask)
    (client : ResponseReading) (final : ResponseHead) (f : Framing) (len : ℕ)
    → AreTasks method upgrade closed got (given ++ withheld) client → AreHeads withheld
    → (told_of given).final ≡ Some final
    → HasFinal method upgrade got (told_of given).informed final f len
    → IsFull f (told_of given).body → list_any is_end given ≡ true
full_has_end method upgrade closed got given withheld client final f len tasks heads is has full =
    let none = none_withheld given withheld final tasks.follow heads is in
    let own = subst (λ (ts : List HttpTask). AreTasks method upgrade closed got ts client)
    (ap (λ (w : List HttpTask). given ++ w) none ∙ append-nil given) tasks in
    own.ended
    ∙ full_over method upgrade closed got (told_of given) client.place client.ahead final f len
    own.so_far.at is has full
