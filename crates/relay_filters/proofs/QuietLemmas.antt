-- What a side tells of errors, beside what its inner side told of them.
use Rattle.std.proofs.Common.{◌≡◌, ℕ, Bool, false, List, drop, length, Option, Some, None, arith, refl, sym, ap, subst, true≢false, ◌∙◌, inl, inr}
use Rattle.relay_tasks.specs.declared.error.Error.{Error}
use Rattle.relay_tasks.specs.declared.error.ErrorSource.TheVariants.{Downstream}
use Rattle.relay_tasks.specs.declared.error.Fail.{Fail}
use Rattle.relay_tasks.specs.declared.error.Fail.TheVariants as fail
use Rattle.relay_tasks.specs.declared.took.Pause.{Pause}
use Rattle.relay_tasks.specs.declared.took.Pause.TheVariants.{NotReady, Silent}
use Rattle.relay_tasks.specs.declared.task.HttpTask.{HttpTask}
use Rattle.relay_links.specs.Count.{up}
use Rattle.relay_links.specs.declared.link.Put.{Put}
use Rattle.relay_links.specs.declared.link.Put.TheVariants as put
use Rattle.relay_core.specs.Down.{DownState, GivesPiece, Writes}
use Rattle.relay_core.specs.Past.{BatchRefused, DownGoes, DownPast, error_of_fail}
use Rattle.relay_core.specs.Told.{failed, paused, written}
use Rattle.relay_core.specs.declared.piece.Piece.{Piece}
use Rattle.relay_core.specs.declared.told.Told.{Told}
use Rattle.relay_sides.specs.Filtered.{stops_for_error}
use Rattle.relay_sides.specs.declared.client_side.ClientSide.{ClientSide}
use Rattle.relay_session.specs.declared.session.HttpSession.{HttpSession}
use Rattle.relay_tasks.specs.declared.log.LogEntry.{LogEntry}
use Rattle.relay_filters.specs.Hooked.{HadStopped, HookedPast, IsHooked, IsQuiet, state_of_side}
use Rattle.relay_filters.specs.Segments.{InSegments}
use Rattle.relay_filters.proofs.LentSide.{Swapped, goes_so, refused_so}
use Rattle.relay_filters.proofs.SideLemmas.{fail_is}

-- ---- counts

-- a count that was raised is not 0
never_none : (n : ℕ) → up n ≡ 0 → ⊥
never_none n none = absurd (omega (arith, none))

-- it is 1 where it was 0
first_one : (n : ℕ) → up n ≡ 1 → n ≡ 0
first_one n one = omega (arith, one)

one_first : (n : ℕ) → n ≡ 0 → up n ≡ 1
one_first n none = omega (arith, none)

-- a side that begins tells what its inner one told
pub quiet_begins : (told : Told) → IsQuiet None told told
quiet_begins told = record {
  none = λ none. (none, refl);
  one = λ one. inr (one, refl, refl);
}

-- ---- an answer more

-- nothing was told
pub quiet_by : (st : Option Fail) (told told' inner inner' : Told) → told' ≡ told → inner' ≡ inner
    → IsQuiet st told inner → IsQuiet st told' inner'
quiet_by st told told' inner inner' is is' q =
    subst (λ (t : Told). IsQuiet st t inner') (sym is)
    (subst (λ (t : Told). IsQuiet st told t) (sym is') q)

-- a filter stopped the side, which tells of it alone
pub quiet_stops : (why : Fail) (st : Option Fail) (told inner : Told) → IsQuiet st told inner
    → IsQuiet (Some why) (failed why told) inner
quiet_stops fail.OutOfMemory st told inner q = record {
  none = λ none. ((q.none none).0, refl);
  one = λ one. elim (q.one one) [
    | inl none ↦ inl none
    | inr alone ↦ inr (alone.0, alone.1, refl)
  ];
}
quiet_stops (fail.Error e) st told inner q = record {
  none = λ none. absurd (never_none told.errors none);
  one = λ one. inl ((q.none (first_one told.errors one)).0);
}

-- the side answers alone
pub quiet_alone : (why : Fail) (st : Option Fail) (told inner : Told) → IsQuiet st told inner
    → IsQuiet st (failed why told) inner
quiet_alone fail.OutOfMemory st told inner q = q
quiet_alone (fail.Error e) st told inner q = record {
  none = λ none. absurd (never_none told.errors none);
  one = λ one. inl ((q.none (first_one told.errors one)).0);
}

-- a side that had stopped for an error tells of one more: it is not the only one
pub told_again : (why : Fail) (st : Option Fail) (told told' inner : Told) (e : Error)
    → told' ≡ failed why told → IsQuiet st told inner → st ≡ Some (fail.Error e)
    → why ≡ fail.Error e → told'.errors ≡ 1 → ⊥
told_again fail.OutOfMemory st told told' inner e more q is same one = cc
told_again (fail.Error x) st told told' inner e more q is same one =
    let raised : up told.errors ≡ 1 = sym (ap (λ (t : Told). t.errors) more) ∙ one in
    let before : stops_for_error st ≡ false = (q.none (first_one told.errors raised)).1 in
    true≢false (sym (ap (λ (o : Option Fail). stops_for_error o) is) ∙ before)

-- so it answers why it had stopped
pub stopped_before : (why : Fail) (st : Option Fail) (told told' inner : Told) (e : Error)
    → told' ≡ failed why told → IsQuiet st told inner → st ≡ Some why
    → error_of_fail why ≡ Some e → HadStopped st told' e
stopped_before why st told told' inner e more q is says =
    let same : why ≡ fail.Error e = fail_is why e says in
    let stopped : st ≡ Some (fail.Error e) = is ∙ ap (λ (f : Fail). Some f) same in
    (stopped, told_again why st told told' inner e more q stopped same)

-- both sides failed
pub quiet_failed : (why : Fail) (st : Option Fail) (told inner : Told) → IsQuiet st told inner
    → IsQuiet st (failed why told) (failed why inner)
quiet_failed fail.OutOfMemory st told inner q = q
quiet_failed (fail.Error e) st told inner q = record {
  none = λ none. absurd (never_none told.errors none);
  one = λ one.
      let before = q.none (first_one told.errors one) in
      inr (one_first inner.errors before.0, refl, before.1);
}

-- both have to wait
pub quiet_paused : (pause : Pause) (st : Option Fail) (told inner : Told) → IsQuiet st told inner
    → IsQuiet st (paused pause told) (paused pause inner)
quiet_paused NotReady st told inner q = record { none = q.none; one = q.one }
quiet_paused Silent st told inner q = record { none = q.none; one = q.one }

-- both tell of a write
pub quiet_written : (answer : Put) (st : Option Fail) (told inner : Told) → IsQuiet st told inner
    → IsQuiet st (written Downstream answer told) (written Downstream answer inner)
quiet_written (put.Took n) st told inner q = q
quiet_written put.NotReady st told inner q = quiet_paused NotReady st told inner q
quiet_written put.Silent st told inner q = quiet_paused Silent st told inner q
quiet_written (put.Failed fault) st told inner q = quiet_failed (fail.Error _) st told inner q
quiet_written put.OutOfMemory st told inner q = q

-- what the inner side tells of a write
pub told_written : (before after : DownState) (answer : Put) → Writes before after answer
    → after.told ≡ written Downstream answer before.told
told_written before after (put.Took n) writes = ap (λ (x : DownState). x.told) writes
told_written before after put.NotReady writes = ap (λ (x : DownState). x.told) writes
told_written before after put.Silent writes = ap (λ (x : DownState). x.told) writes
told_written before after (put.Failed fault) writes = ap (λ (x : DownState). x.told) writes
told_written before after put.OutOfMemory writes = ap (λ (x : DownState). x.told) writes

-- what it tells is left where hooks were lent its session
pub told_lent : (side lent : ClientSide) → Swapped side lent → lent.told ≡ side.told
told_lent side lent rest = ap (λ (x : ClientSide). x.told) rest

-- and so it is behind a piece
pub told_given : (side given lent : ClientSide) (piece : Piece)
    → GivesPiece (state_of_side side) (state_of_side given) piece → Swapped given lent
    → lent.told ≡ side.told
told_given side given lent piece gives rest =
    told_lent given lent rest ∙ ap (λ (x : DownState). x.told) gives.exact

-- ---- the past of the side

-- what passed goes on, and so does what is said of errors and calls
pub past_goes : {inner : DownPast → Type 0} {method : List ℕ} {c : HttpSession}
    {called log : List LogEntry} {oh a ended u rf stood : Bool}
    {st : Option Fail} {told inner_told : Told} {blames : DownPast → Error → Type 0}
    {put batched closing : List HttpTask} {error : Option Error}
    → IsQuiet st told inner_told → InSegments oh st (drop (length called) log)
    → DownGoes (IsHooked inner method c called log oh a ended u rf stood st) blames put
    batched closing error
    → DownGoes
    (HookedPast inner method c called log oh a ended u rf stood st told inner_told) blames
    put batched closing error
past_goes {inner} {method} {c} {called} {log} {oh} {a} {ended} {u} {rf} {stood} {st}
    {told} {inner_told} {blames} {put} {batched} {closing} {error} quiet calls g =
    goes_so (IsHooked inner method c called log oh a ended u rf stood st)
    (HookedPast inner method c called log oh a ended u rf stood st told inner_told) blames
    put batched closing error
    (λ q stands. record { passed = stands; quiet = quiet; calls = calls }) g

-- the same behind a batch that was refused
pub past_refused : {inner : DownPast → Type 0} {method : List ℕ} {c : HttpSession}
    {called log : List LogEntry} {oh a ended u rf stood : Bool}
    {st : Option Fail} {told inner_told : Told}
    {refuses : DownPast → List HttpTask → Error → Type 0} {p : DownPast} {tasks : List HttpTask}
    {why : Fail}
    → IsQuiet st told inner_told → InSegments oh st (drop (length called) log)
    → BatchRefused (IsHooked inner method c called log oh a ended u rf stood st) refuses p
    tasks why
    → BatchRefused
    (HookedPast inner method c called log oh a ended u rf stood st told inner_told)
    refuses p tasks why
past_refused {inner} {method} {c} {called} {log} {oh} {a} {ended} {u} {rf} {stood} {st}
    {told} {inner_told} {refuses} {p} {tasks} {why} quiet calls g =
    refused_so (IsHooked inner method c called log oh a ended u rf stood st)
    (HookedPast inner method c called log oh a ended u rf stood st told inner_told)
    refuses p tasks why (λ q stands. record { passed = stands; quiet = quiet; calls = calls }) g
