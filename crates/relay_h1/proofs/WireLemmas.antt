-- What is appended leaves what stood before.
use Rattle.std.proofs.Common.{◌≡◌, ℕ, List, ◌++◌, ap, Option, [], unwrap_or}
use Rattle.std.proofs.Math.Seq.{take-append_seam, take-length}
use Rattle.relay_h1.specs.Wire.{KeepsFront, reason}
use Rattle.http.specs.StatusCode.{reason_phrase}

-- nothing was done
pub KeepsFront-same : (xs : List ℕ) → KeepsFront xs xs
KeepsFront-same xs = record { front = take-length xs }

-- something was appended
pub KeepsFront-append : (old new more : List ℕ) → new ≡ old ++ more → KeepsFront old new
KeepsFront-append old new more grown = record { front = rw grown (take-append_seam old more) }

-- the phrase that the status has, if any
pub reason_is : (phrase : Option (List ℕ)) (status : ℕ) → phrase ≡ reason_phrase status
    → unwrap_or phrase [] ≡ reason status
unfolding reason
reason_is phrase status same = ap (λ p. unwrap_or p []) same
