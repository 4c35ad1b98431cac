-- A response that is broken is broken for one reason, whatever was told of it.
use Rattle.std.proofs.Common.{◌≡◌, ℕ, ◌≤◌, Bool, List, take, drop, sym, ◌∙◌, subst, arith, Some}
use Rattle.relay_tasks.specs.declared.context.Context.{Context}
use Rattle.relay_h1.specs.Head.{most_bytes}
use Rattle.relay_h1.specs.HeadEnd.{head_end}
use Rattle.relay_h1.specs.Verdict.{IsTooLong, IsRefusedAnswer, IsRefusedResponse}
use Rattle.relay_h1.specs.Verdict as verdict
use Rattle.relay_h1.proofs.TasksLemmas.{Informs-unique, Stops-refused, HasFinal-IsRefusedBehind}
use Rattle.relay_peer.specs.ResponseReading.{ToldResponse, BreaksFor}
use Rattle.relay_peer.specs.ResponseReading as reading

one_end : (bytes : List ℕ) (a b : ℕ) → head_end bytes ≡ Some a → head_end bytes ≡ Some b → a ≡ b
one_end bytes a b x y = cc

-- a head that ends within the limit is not too long
never_long : (bytes : List ℕ) (len : ℕ) → IsTooLong bytes → head_end bytes ≡ Some len
    → len ≤ most_bytes → ⊥
never_long bytes len (verdict.IsTooLong.never_ends none long) ends short = cc
never_long bytes len (verdict.IsTooLong.ends_late other late_end late) ends short =
    omega (arith, one_end bytes other len late_end ends, late, short)

-- a text is refused for one reason
one_reason : (method : List ℕ) (upgrade : Bool) (text : List ℕ) (a b : Context)
    → IsRefusedAnswer method upgrade text a
    → IsRefusedAnswer method upgrade text b → a ≡ b
one_reason method upgrade text a b (verdict.IsRefusedAnswer.is_no_head none x)
    (verdict.IsRefusedAnswer.is_no_head none_too y) = x ∙ sym y
one_reason method upgrade text a b (verdict.IsRefusedAnswer.is_no_head none x)
    (verdict.IsRefusedAnswer.has_no_framing head reads lacks y) = absurd (none head reads)
one_reason method upgrade text a b (verdict.IsRefusedAnswer.has_no_framing head reads lacks x)
    (verdict.IsRefusedAnswer.is_no_head none y) = absurd (none head reads)
one_reason method upgrade text a b (verdict.IsRefusedAnswer.has_no_framing head reads lacks x)
    (verdict.IsRefusedAnswer.has_no_framing other reads_too lacks_too y) = x ∙ sym y

-- so are bytes
one_refusal : (method : List ℕ) (upgrade : Bool) (bytes : List ℕ) (a b : Context)
    → IsRefusedResponse method upgrade bytes a
    → IsRefusedResponse method upgrade bytes b → a ≡ b
one_refusal method upgrade bytes a b (verdict.IsRefusedResponse.is_too_long long x)
    (verdict.IsRefusedResponse.is_too_long long_too y) = x ∙ sym y
one_refusal method upgrade bytes a b (verdict.IsRefusedResponse.is_too_long long x)
    (verdict.IsRefusedResponse.has_bad_text len ends short text) =
    absurd (never_long bytes len long ends short)
one_refusal method upgrade bytes a b (verdict.IsRefusedResponse.has_bad_text len ends short text)
    (verdict.IsRefusedResponse.is_too_long long y) = absurd (never_long bytes len long ends short)
one_refusal method upgrade bytes a b (verdict.IsRefusedResponse.has_bad_text len ends short text)
    (verdict.IsRefusedResponse.has_bad_text other ends_too short_too text_too) =
    one_reason method upgrade (take other bytes) a b
    (subst (λ (n : ℕ). IsRefusedAnswer method upgrade (take n bytes) a)
    (one_end bytes len other ends ends_too) text) text_too

-- the bytes of a response are broken for one reason
pub BreaksFor-unique : (method : List ℕ) (upgrade : Bool) (given : List ℕ)
    (told other : ToldResponse) (a b : Context)
    → BreaksFor method upgrade given told a → BreaksFor method upgrade given other b → a ≡ b
BreaksFor-unique method upgrade given told other a b (reading.BreaksFor.in_head x none empty)
    (reading.BreaksFor.in_head y none_too empty_too) =
    let places = Informs-unique method upgrade given told.informed other.informed x.place y.place
    x.informs (Stops-refused method upgrade (drop x.place given) a x.refused) y.informs
    (Stops-refused method upgrade (drop y.place given) b y.refused) in
    one_refusal method upgrade (drop y.place given) a b
    (subst (λ (n : ℕ). IsRefusedResponse method upgrade (drop n given) a) places.1 x.refused)
    y.refused
BreaksFor-unique method upgrade given told other a b (reading.BreaksFor.in_head x none empty)
    (reading.BreaksFor.in_body head framing len has final says is) =
    absurd (HasFinal-IsRefusedBehind method upgrade given other.informed told.informed head framing
    len a has x)
BreaksFor-unique method upgrade given told other a b
    (reading.BreaksFor.in_body head framing len has final says is)
    (reading.BreaksFor.in_head y none empty) =
    absurd (HasFinal-IsRefusedBehind method upgrade given told.informed other.informed head framing
    len b has y)
BreaksFor-unique method upgrade given told other a b
    (reading.BreaksFor.in_body head framing len has final says is)
    (reading.BreaksFor.in_body last framed long has_too final_too says_too is_too) =
    is ∙ sym is_too
