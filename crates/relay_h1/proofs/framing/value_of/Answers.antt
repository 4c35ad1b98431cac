-- No number grows when digits are cut off its end, so one that passes 2^64 on the way passes it
-- whole.
use Rattle.std.proofs.Common.{◌≡◌, ℕ, ◌+◌, ◌*◌, ◌^◌, ◌<◌, ◌≤◌, List, length, get_or, take, Some, None, if◌then◌else◌, nat_lt, sym, ◌∙◌, ap, arith, lit≤}
use Rattle.std.specs.Char.{digit_value}
use Rattle.std.specs.Str.Parse.{digits_value}
use Rattle.std.proofs.lemmas.Bool.{le-ltb, lt-ltb, cond-true, cond-false}
use Rattle.std.proofs.lemmas.Int.Digits.{digits_value_more}
use Rattle.std.proofs.lemmas.List.{take_all}
use Rattle.std.proofs.lemmas.Str.Parse.{digits_value-take-le}
use Rattle.relay_h1.proofs.framing.value_of.Goals as goal

-- the number up to a digit is no larger than the whole
whole_is_larger : (ds : List ℕ) (i : ℕ) → i < length ds
    → digits_value 10 (take i ds) * 10 + digit_value (get_or ds i 0) ≤ digits_value 10 ds
whole_is_larger ds i inside =
    omega (arith, digits_value_more 10 ds i inside, digits_value-take-le 10 ds (i + 1) (lit≤ tt))

-- a number that does not fit is none
too_large : (n : ℕ) → 2 ^ 64 ≤ n → None ≡ (if nat_lt n (2 ^ 64) then Some n else None)
too_large n large = sym (cond-false _ _ _ (le-ltb n (2 ^ 64) large))

pub returns-in_err-checked_mul : goal.returns-in_err-checked_mul
returns-in_err-checked_mul c =
    let larger =
    whole_is_larger c.args.digits.now c.loop-digit.digit-index c.loop-digit-test.true in
    let so_far = c.loop-digit.invariant.so_far in
    c.from_residual.ensures ∙ too_large _
    (omega (arith, c.in_err-checked_mul.ensures, larger, so_far))

pub returns-in_err-value : goal.returns-in_err-value
returns-in_err-value c =
    let larger =
    whole_is_larger c.args.digits.now c.loop-digit.digit-index c.loop-digit-test.true in
    let so_far = c.loop-digit.invariant.so_far in
    c.from_residual-in_err-value.ensures
    ∙ too_large _
    (omega (
      arith,
      c.in_err-value.ensures,
      c.digit_value.ensures,
      c.in_ok-checked_mul.ensures.1,
      larger,
      so_far,
    ))

pub loop-digit-preserved : goal.loop-digit-preserved
loop-digit-preserved c =
    let more = digits_value_more 10 c.args.digits.now _ c.loop-digit-test.true in
    let added = c.in_ok-value.ensures in
    record {
      so_far =
          omega (
            arith,
            more,
            added.1,
            c.digit_value.ensures,
            c.in_ok-checked_mul.ensures.1,
            c.loop-digit.invariant.so_far,
          );
      fits = omega (arith, added.0, added.1);
    }

pub returns : goal.returns
returns c =
    let ds = c.args.digits.now in
    let whole : c.loop-digit.value ≡ digits_value 10 ds =
    c.loop-digit.invariant.so_far ∙ ap (digits_value 10)
    (take_all c.loop-digit.digit-index ds c.loop-digit-test.false) in
    ap Some whole ∙ sym (cond-true _ _ _ (lt-ltb (digits_value 10 ds) (2 ^ 64) (omega arith)))
