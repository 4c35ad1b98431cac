-- The verdict on the bytes that were read so far: there is one, and it stays once it stands.
use Rattle.std.proofs.Common.{◌≡◌, ℕ, ◌≤◌, Bool, List, ◌++◌, take, refl, sym, ◌∙◌, ap, subst, arith, Option, Some, None, inl, inr}
use Rattle.std.specs.Prelude.{◌⊎◌}
use Rattle.std.proofs.lemmas.List.{length-append, length-take-le, take-append-le}
use Rattle.relay_tasks.specs.declared.context.Context.{Context}
use Rattle.relay_tasks.specs.Head.{RequestHead, ResponseHead}
use Rattle.relay_h1.specs.declared.framing.Framing.{Framing}
use Rattle.relay_h1.specs.Head.{most_bytes, ReadsRequest, ReadsResponse}
use Rattle.relay_h1.specs.HeadEnd.{head_end}
use Rattle.relay_h1.specs.Framing.{request_framing, response_framing}
use Rattle.relay_h1.specs.Verdict.{IsOpen, IsTooLong, StartsWithRequest, HasRequest, IsRefusedText, IsRefusedRequest, StartsWithResponse, HasResponse, IsRefusedAnswer, IsRefusedResponse, settled}
use Rattle.relay_h1.specs.Verdict as verdict
use Rattle.relay_h1.proofs.HeadEndLemmas.{head_end-within, head_end-append, head_end-later}
use Rattle.relay_h1.proofs.HeadLemmas.{request_head_unique, response_head_unique}

-- an end has one place
one_end : (bytes : List ℕ) (a b : ℕ) → head_end bytes ≡ Some a → head_end bytes ≡ Some b → a ≡ b
one_end bytes a b x y = cc

-- a framing that stands is one
same_framing : {f g : Framing} → Some f ≡ Some g → f ≡ g
same_framing same = cc

-- an end stands somewhere or nowhere
some_end : (place : Option ℕ) → (place ≡ None) ⊎ ((len : ℕ) × (place ≡ Some len))
some_end None = inl refl
some_end (Some len) = inr (len, refl)

-- the bytes that follow leave the head's text as it is
text-append : (bytes more : List ℕ) (len : ℕ) → head_end bytes ≡ Some len
    → take len (bytes ++ more) ≡ take len bytes
text-append bytes more len ends = take-append-le len bytes more (head_end-within bytes len ends).1

-- ---- requests

-- bytes that hold a head are not open
pub HasRequest-IsOpen : (bytes : List ℕ) (head : RequestHead) (framing : Framing) (len : ℕ)
    → HasRequest bytes head framing len → ¬ (IsOpen bytes)
HasRequest-IsOpen bytes head framing len has open_still =
    let ends = has.starts.ends in
    let none = open_still.no_end in
    cc

-- bytes that are refused are not open
pub IsRefusedRequest-IsOpen : (bytes : List ℕ) (why : Context) → IsRefusedRequest bytes why
    → ¬ (IsOpen bytes)
IsRefusedRequest-IsOpen bytes why
    (verdict.IsRefusedRequest.is_too_long (verdict.IsTooLong.never_ends none long) is) open_still =
    omega (arith, long, open_still.may_end)
IsRefusedRequest-IsOpen bytes why
    (verdict.IsRefusedRequest.is_too_long (verdict.IsTooLong.ends_late len ends late) is)
    open_still =
    let none = open_still.no_end in cc
IsRefusedRequest-IsOpen bytes why (verdict.IsRefusedRequest.has_bad_text len ends short text)
    open_still =
    let none = open_still.no_end in cc

-- a text that is framed is not refused
admitted_or_refused : (text : List ℕ) (head : RequestHead) (framing : Framing) (why : Context)
    → ReadsRequest text head → request_framing head ≡ Some framing → ¬ (IsRefusedText text why)
admitted_or_refused text head framing why reads framed (verdict.IsRefusedText.is_no_head none is) =
    none head reads
admitted_or_refused text head framing why reads framed
    (verdict.IsRefusedText.has_no_framing other other_reads none is) =
    let same = ap request_framing (request_head_unique text other head other_reads reads) in cc

-- a head that stands at the front keeps the limit
pub StartsWithRequest-short : (bytes : List ℕ) (head : RequestHead) (len : ℕ)
    → StartsWithRequest bytes head len
    → len ≤ most_bytes
StartsWithRequest-short bytes head len starts =
    omega (
      arith,
      starts.reads.is_text.short,
      length-take-le len bytes
          (head_end-within bytes len starts.ends).1,
    )

-- bytes that hold a head are not refused
pub HasRequest-IsRefusedRequest : (bytes : List ℕ) (head : RequestHead) (framing : Framing)
    (len : ℕ) (why : Context)
    → HasRequest bytes head framing len → ¬ (IsRefusedRequest bytes why)
HasRequest-IsRefusedRequest bytes head framing len why has
    (verdict.IsRefusedRequest.is_too_long (verdict.IsTooLong.never_ends none long) is) =
    let ends = has.starts.ends in cc
HasRequest-IsRefusedRequest bytes head framing len why has
    (verdict.IsRefusedRequest.is_too_long (verdict.IsTooLong.ends_late other ends late) is) =
    let same = one_end bytes other len ends has.starts.ends in
    omega (arith, same, late, StartsWithRequest-short bytes head len has.starts)
HasRequest-IsRefusedRequest bytes head framing len why has
    (verdict.IsRefusedRequest.has_bad_text other ends short text) =
    let same = one_end bytes other len ends has.starts.ends in
    admitted_or_refused (take len bytes) head framing why has.starts.reads has.framed
    (subst (λ n. IsRefusedText (take n bytes) why) same text)

-- bytes hold one head at most
pub HasRequest-unique : (bytes : List ℕ) (a b : RequestHead) (f g : Framing) (n m : ℕ)
    → HasRequest bytes a f n → HasRequest bytes b g m → (a ≡ b) × (f ≡ g) × (n ≡ m)
HasRequest-unique bytes a b f g n m x y =
    let same = one_end bytes n m x.starts.ends y.starts.ends in
    let there = subst (λ k. ReadsRequest (take k bytes) a) same x.starts.reads in
    let heads = request_head_unique (take m bytes) a b there y.starts.reads in
    (heads, same_framing (sym x.framed ∙ ap request_framing heads ∙ y.framed), same)

-- a head that stands at the front still does once more has come
pub StartsWithRequest-append : (bytes more : List ℕ) (head : RequestHead) (len : ℕ)
    → StartsWithRequest bytes head len → StartsWithRequest (bytes ++ more) head len
StartsWithRequest-append bytes more head len starts =
    record {
      ends = head_end-append bytes more len starts.ends;
      reads = rw (text-append bytes more len starts.ends) starts.reads;
    }

-- a head that was framed still is once more has come
pub HasRequest-append : (bytes more : List ℕ) (head : RequestHead) (framing : Framing) (len : ℕ)
    → HasRequest bytes head framing len → HasRequest (bytes ++ more) head framing len
HasRequest-append bytes more head framing len has =
    record {
      starts = StartsWithRequest-append bytes more head len has.starts;
      framed = has.framed;
    }

-- what was too long still is once more has come
pub IsTooLong-append : (bytes more : List ℕ) → IsTooLong bytes → IsTooLong (bytes ++ more)
IsTooLong-append bytes more (verdict.IsTooLong.never_ends none long) =
    elim (some_end (head_end (bytes ++ more))) [
      | inl still_none ↦ verdict.IsTooLong.never_ends still_none
          (omega (arith, long, length-append bytes more))
      | inr end ↦
          verdict.IsTooLong.ends_late end.0 end.1
          (omega (arith, long, head_end-later bytes more end.0 none end.1))
    ]
IsTooLong-append bytes more (verdict.IsTooLong.ends_late len ends late) =
    verdict.IsTooLong.ends_late len (head_end-append bytes more len ends) late

-- what was refused still is once more has come, for the same reason
pub IsRefusedRequest-append : (bytes more : List ℕ) (why : Context) → IsRefusedRequest bytes why
    → IsRefusedRequest (bytes ++ more) why
IsRefusedRequest-append bytes more why (verdict.IsRefusedRequest.is_too_long long is) =
    verdict.IsRefusedRequest.is_too_long (IsTooLong-append bytes more long) is
IsRefusedRequest-append bytes more why (verdict.IsRefusedRequest.has_bad_text len ends short text) =
    verdict.IsRefusedRequest.has_bad_text len (head_end-append bytes more len ends) short
    (rw (text-append bytes more len ends) text)

-- open bytes were open from the start
pub IsOpen-front : (bytes more : List ℕ) → IsOpen (bytes ++ more) → IsOpen bytes
IsOpen-front bytes more open_still =
    record {
      no_end =
          elim (some_end (head_end bytes)) [
            | inl none ↦ none
            | inr end ↦
                let ends = head_end-append bytes more end.0 end.1 in
                let none = open_still.no_end in
                cc
          ];
      may_end = omega (arith, open_still.may_end, length-append bytes more);
    }

-- ---- responses

-- bytes that hold a response are not open
pub HasResponse-IsOpen : (method : List ℕ) (asked : Bool) (bytes : List ℕ) (head : ResponseHead)
    (framing : Framing) (len : ℕ)
    → HasResponse method asked bytes head framing len → ¬ (IsOpen bytes)
HasResponse-IsOpen method asked bytes head framing len has open_still =
    let ends = has.starts.ends in
    let none = open_still.no_end in
    cc

-- bytes that are refused are not open
pub IsRefusedResponse-IsOpen : (method : List ℕ) (asked : Bool) (bytes : List ℕ) (why : Context)
    → IsRefusedResponse method asked bytes why → ¬ (IsOpen bytes)
IsRefusedResponse-IsOpen method asked bytes why
    (verdict.IsRefusedResponse.is_too_long (verdict.IsTooLong.never_ends none long) is) open_still =
    omega (arith, long, open_still.may_end)
IsRefusedResponse-IsOpen method asked bytes why
    (verdict.IsRefusedResponse.is_too_long (verdict.IsTooLong.ends_late len ends late) is)
    open_still =
    let none = open_still.no_end in cc
IsRefusedResponse-IsOpen method asked bytes why
    (verdict.IsRefusedResponse.has_bad_text len ends short text) open_still =
    let none = open_still.no_end in cc

-- a response that stands at the front keeps the limit
pub StartsWithResponse-short : (bytes : List ℕ) (head : ResponseHead) (len : ℕ)
    → StartsWithResponse bytes head len
    → len ≤ most_bytes
StartsWithResponse-short bytes head len starts =
    omega (
      arith,
      starts.reads.is_text.short,
      length-take-le len bytes
          (head_end-within bytes len starts.ends).1,
    )

-- a text that is framed is not refused
framed_or_refused : (method : List ℕ) (asked : Bool) (text : List ℕ) (head : ResponseHead)
    (framing : Framing) (why : Context)
    → ReadsResponse text head → response_framing method asked head ≡ Some framing
    → ¬ (IsRefusedAnswer method asked text why)
framed_or_refused method asked text head framing why reads framed
    (verdict.IsRefusedAnswer.is_no_head none is) = none head reads
framed_or_refused method asked text head framing why reads framed
    (verdict.IsRefusedAnswer.has_no_framing other other_reads none is) =
    let same =
    ap (response_framing method asked) (response_head_unique text other head other_reads reads)
    in
    cc

-- bytes that hold a response are not refused
pub HasResponse-IsRefusedResponse : (method : List ℕ) (asked : Bool) (bytes : List ℕ)
    (head : ResponseHead) (framing : Framing)
    (len : ℕ) (why : Context) → HasResponse method asked bytes head framing len
    → ¬ (IsRefusedResponse method asked bytes why)
HasResponse-IsRefusedResponse method asked bytes head framing len why has
    (verdict.IsRefusedResponse.is_too_long (verdict.IsTooLong.never_ends none long) is) =
    let ends = has.starts.ends in cc
HasResponse-IsRefusedResponse method asked bytes head framing len why has
    (verdict.IsRefusedResponse.is_too_long (verdict.IsTooLong.ends_late other ends late) is) =
    let same = one_end bytes other len ends has.starts.ends in
    omega (arith, same, late, StartsWithResponse-short bytes has.given len has.starts)
HasResponse-IsRefusedResponse method asked bytes head framing len why has
    (verdict.IsRefusedResponse.has_bad_text other ends short text) =
    let same = one_end bytes other len ends has.starts.ends in
    framed_or_refused method asked (take len bytes) has.given framing why has.starts.reads
    has.framed
    (subst (λ n. IsRefusedAnswer method asked (take n bytes) why) same text)

-- bytes hold one response at most
pub HasResponse-unique : (method : List ℕ) (asked : Bool) (bytes : List ℕ) (a b : ResponseHead)
    (f g : Framing) (n m : ℕ)
    → HasResponse method asked bytes a f n → HasResponse method asked bytes b g m
    → (a ≡ b) × (f ≡ g) × (n ≡ m)
HasResponse-unique method asked bytes a b f g n m x y =
    let same = one_end bytes n m x.starts.ends y.starts.ends in
    let there = subst (λ k. ReadsResponse (take k bytes) x.given) same x.starts.reads in
    let heads = response_head_unique (take m bytes) x.given y.given there y.starts.reads in
    let framings =
    same_framing (sym x.framed ∙ ap (response_framing method asked) heads ∙ y.framed) in
    (x.is ∙ (λ i. settled (framings i) (heads i)) ∙ sym y.is, framings, same)

-- a response that stands at the front still does once more has come
pub StartsWithResponse-append : (bytes more : List ℕ) (head : ResponseHead) (len : ℕ)
    → StartsWithResponse bytes head len → StartsWithResponse (bytes ++ more) head len
StartsWithResponse-append bytes more head len starts =
    record {
      ends = head_end-append bytes more len starts.ends;
      reads = rw (text-append bytes more len starts.ends) starts.reads;
    }

-- a response that was read still is once more has come
pub HasResponse-append : (method : List ℕ) (asked : Bool) (bytes more : List ℕ)
    (head : ResponseHead) (framing : Framing) (len : ℕ)
    → HasResponse method asked bytes head framing len
    → HasResponse method asked (bytes ++ more) head framing len
HasResponse-append method asked bytes more head framing len has =
    record {
      given = has.given;
      starts = StartsWithResponse-append bytes more has.given len has.starts;
      framed = has.framed;
      is = has.is;
    }

-- what was refused still is once more has come, for the same reason
pub IsRefusedResponse-append : (method : List ℕ) (asked : Bool) (bytes more : List ℕ)
    (why : Context)
    → IsRefusedResponse method asked bytes why → IsRefusedResponse method asked (bytes ++ more) why
IsRefusedResponse-append method asked bytes more why
    (verdict.IsRefusedResponse.is_too_long long is) =
    verdict.IsRefusedResponse.is_too_long (IsTooLong-append bytes more long) is
IsRefusedResponse-append method asked bytes more why
    (verdict.IsRefusedResponse.has_bad_text len ends short text) =
    verdict.IsRefusedResponse.has_bad_text len (head_end-append bytes more len ends) short
    (rw (text-append bytes more len ends) text)
