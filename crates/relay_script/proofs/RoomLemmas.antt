-- Whether a field list has room is a test, and a head that is lent a field answers by it.
use Rattle.std.proofs.Common.{◌≡◌, ℕ, ◌+◌, ◌≤◌, ◌^◌, true, false, List, length, refl, inl, inr, arith}
use Rattle.std.proofs.lemmas.Bool.{cases_Bool}
use Rattle.std.proofs.lemmas.Bool.Decides.{nat_tests}
use Rattle.std.specs.Prelude.{◌↔◌, ◌⊎◌, ◌&&◌, nat_lt, if◌then◌else◌, Option, Some, None, MatchOption, Result, Ok, Err, OnOk, OnErr, IfErr, IsErrOf}
use Rattle.http_header.specs.HeaderMap.{RefusesInsert, index_of, value_count}
use Rattle.http_header.specs.Places.{IsAt, IsAbsent}
use Rattle.http_header.proofs.PlacesLemmas.{index_of_cases}
use Rattle.relay_tasks.specs.Error.{IsMemoryOr, refused}
use Rattle.relay_tasks.specs.Head.{Fields}
use Rattle.relay_tasks.specs.declared.context.Context.TheVariants as about
use Rattle.relay_tasks.specs.declared.error.Fail.{Fail}
use Rattle.relay_tasks.specs.declared.error.Fail.TheVariants as fail
use Rattle.relay_script.specs.Actions.{has_room}
use Rattle.relay_script.specs.Fold.{Answers, goes_on, stops}

-- a number of names and of values leaves room for one more, or is full
room_of_counts : (names values : ℕ)
    → (((nat_lt names 24576 && nat_lt (values + 1) (2 ^ 64)) ≡ true)
    × ¬ ((24576 ≤ names) ⊎ (2 ^ 64 ≤ values + 1)))
    ⊎ (((nat_lt names 24576 && nat_lt (values + 1) (2 ^ 64)) ≡ false)
    × ((24576 ≤ names) ⊎ (2 ^ 64 ≤ values + 1)))
room_of_counts names values =
    elim (cases_Bool (nat_lt names 24576)) [
      | inr many ↦ inr (rw many, inl (grind (arith, nat_tests)))
      | inl few ↦ elim (cases_Bool (nat_lt (values + 1) (2 ^ 64))) [
        | inl fit ↦ inl (
          rw (few, fit),
          λ full.
              elim full [ inl m ↦ grind (arith, nat_tests) | inr m ↦ grind (arith, nat_tests) ],
        )
        | inr full ↦ inr (rw (few, full), inr (grind (arith, nat_tests)))
      ]
    ]

-- a name that is not there has room exactly where one more fits
room_of_absent : (fields : Fields) (name : List ℕ) → index_of fields name ≡ None
    → IsAbsent fields name
    → ((has_room fields name ≡ true) × ¬ (RefusesInsert fields name))
    ⊎ ((has_room fields name ≡ false) × RefusesInsert fields name)
room_of_absent fields name none absent =
    elim (room_of_counts (length fields) (value_count fields)) [
      | inl room ↦ inl (rw (none, room.0), λ refused. room.1 refused.1)
      | inr full ↦ inr (rw (none, full.0), (absent.absent, full.1))
    ]

-- the test says that there is room, or the field is refused
pub room_tells : (fields : Fields) (name : List ℕ)
    → ((has_room fields name ≡ true) × ¬ (RefusesInsert fields name))
    ⊎ ((has_room fields name ≡ false) × RefusesInsert fields name)
room_tells fields name = by (index_of fields name) refl (index_of_cases fields name)
  where
    by : (place : Option ℕ) → index_of fields name ≡ place
        → MatchOption place (IsAbsent fields name) (IsAt fields name)
        → ((has_room fields name ≡ true) × ¬ (RefusesInsert fields name))
        ⊎ ((has_room fields name ≡ false) × RefusesInsert fields name)
    by None none absent = room_of_absent fields name none absent
    by (Some i) is at = inl (rw is, λ refused. refused.0 at.contains)

-- a call that sets a field answers by that test
pub set_answers : {X : Type 0} (fields : Fields) (name : List ℕ) (r : Result Unit Fail)
    (old new inserted : X)
    → OnOk r (new ≡ inserted)
    → (IsErrOf r (fail.Error (refused about.HeadTooLong)) ↔ RefusesInsert fields name)
    → IfErr r (IsMemoryOr (refused about.HeadTooLong)) → OnErr r (new ≡ old)
    → Answers r new
    (if has_room fields name then goes_on inserted else stops old (refused about.HeadTooLong))
set_answers fields name (Ok done) old new inserted ok full causes err =
    elim (room_tells fields name) [
      | inl room ↦ rw (room.0, ok)
      | inr lacks ↦ absurd (let e = full.1 lacks.1 in cc)
    ]
set_answers fields name (Err fail.OutOfMemory) old new inserted ok full causes err = tt
set_answers fields name (Err (fail.Error e)) old new inserted ok full causes err =
    elim (room_tells fields name) [
      | inl room ↦ absurd (room.1 (full.0 (rw causes)))
      | inr lacks ↦ rw (lacks.0, causes, err)
    ]
