-- From the answer on a text to the verdict on the bytes.
use Rattle.std.proofs.Common.{◌≡◌, ℕ, ◌≤◌, Bool, List, length, take, refl, sym, ◌∙◌, ap, Option, Some, None}
use Rattle.std.specs.Prelude.{Result, Ok, Err, IsErrOf, IsErrAnd}
use Rattle.std.proofs.lemmas.Bool.{le-ltb, cond-false}
use Rattle.std.proofs.lemmas.List.{length-take-le}
use Rattle.relay_tasks.specs.declared.context.Context.TheVariants.{HeadGrammar, BadFraming}
use Rattle.relay_tasks.specs.declared.error.Error.{Error}
use Rattle.relay_tasks.specs.declared.error.ErrorSource.TheVariants.{Upstream, Downstream}
use Rattle.relay_tasks.specs.declared.error.Fail.{Fail}
use Rattle.relay_tasks.specs.declared.error.Fail.TheVariants as fail
use Rattle.relay_tasks.specs.Error.{refused, IsMemoryOr}
use Rattle.relay_tasks.specs.Head.{RequestHead, ResponseHead}
use Rattle.relay_h1.specs.declared.verdict.RequestRead.{RequestRead}
use Rattle.relay_h1.specs.declared.verdict.ResponseRead.{ResponseRead}
use Rattle.relay_h1.specs.Head.{most_bytes, head_refusal, ReadsRequest, ReadsResponse, RefusesRequest, RefusesResponse}
use Rattle.relay_h1.specs.HeadEnd.{head_end}
use Rattle.relay_h1.specs.Verdict.{JudgesRequest, JudgesResponse, AdmitsRequest, AdmitsResponse, HasRequest, HasResponse, IsTooLong, IsRefusedText, IsRefusedAnswer, IsRefusedRequest, IsRefusedResponse, fail_from, refused_from}
use Rattle.relay_h1.specs.Verdict as verdict
use Rattle.relay_h1.specs.Framing.{IsFramedBy}
use Rattle.relay_h1.specs.declared.framing.Framing.{Framing}
use Rattle.relay_h1.proofs.HeadEndLemmas.{head_end-within}

-- an error that stands is all there is
pub err_is : {T : Type 0} (result : Result T Fail) (failure : Fail)
    → IsErrAnd result (λ e. e ≡ failure)
    → result ≡ Err failure
err_is (Ok x) failure is = absurd is
err_is (Err e) failure is = ap Err is

-- a text that is short enough is refused for its grammar
short_refusal : (text : List ℕ) → length text ≤ most_bytes → head_refusal text ≡ refused HeadGrammar
short_refusal text short = cond-false _ _ _ (le-ltb most_bytes (length text) short)

-- what reading a request refuses
pub admits_refusal : (text : List ℕ) (failure : Fail) → length text ≤ most_bytes
    → IsMemoryOr (head_refusal text) failure
    → (IsErrOf {T = RequestHead} (Err failure) (fail.Error (head_refusal text))
    → RefusesRequest text)
    → (IsErrOf {T = RequestHead} (Err failure) fail.OutOfMemory
    → (head : RequestHead) × ReadsRequest text head)
    → AdmitsRequest text (Err failure)
admits_refusal text fail.OutOfMemory short causes refuses memory = memory refl
admits_refusal text (fail.Error error) short causes refuses memory = (
  HeadGrammar,
  causes ∙ short_refusal text short,
  verdict.IsRefusedText.is_no_head
      (refuses (ap (λ e. Err (fail.Error e)) causes)) refl,
)

-- a head that was framed has that framing
pub framed_is : (framing : Framing) (table : Option Framing) → IsFramedBy (Ok framing) table
    → table ≡ Some framing
framed_is framing (Some given) is = cc
framed_is framing None is = cc

-- a head that was not framed has none
pub not_framed : (error : Error) (table : Option Framing) → IsFramedBy (Err error) table
    → (table ≡ None) × (error ≡ refused BadFraming)
not_framed error (Some given) is = cc
not_framed error None is = (refl, cc)

-- what reading a response refuses
pub admits_no_answer : (method : List ℕ) (asked : Bool) (text : List ℕ) (failure : Fail)
    → length text ≤ most_bytes
    → IsMemoryOr (head_refusal text) failure
    → (IsErrOf {T = ResponseHead} (Err failure) (fail.Error (head_refusal text))
    → RefusesResponse text)
    → (IsErrOf {T = ResponseHead} (Err failure) fail.OutOfMemory
    → (head : ResponseHead) × ReadsResponse text head)
    → AdmitsResponse method asked text (Err failure)
admits_no_answer method asked text fail.OutOfMemory short causes refuses memory = memory refl
admits_no_answer method asked text (fail.Error error) short causes refuses memory = (
  HeadGrammar,
  causes ∙ short_refusal text short,
  verdict.IsRefusedAnswer.is_no_head
      (refuses (ap (λ e. Err (fail.Error e)) causes)) refl,
)

-- a request that was admitted stands at the front
pub judges_request : (bytes : List ℕ) (len : ℕ) (read : RequestRead) → head_end bytes ≡ Some len
    → AdmitsRequest (take len bytes) (Ok read) → HasRequest bytes read.head read.framing read.len
judges_request bytes len read ends admits =
    let size = length-take-le len bytes (head_end-within bytes len ends).1 in
    let same : read.len ≡ len = admits.2 ∙ size in
    record {
      starts = record {
        ends = ends ∙ ap Some (sym same);
        reads = rw same admits.0;
      };
      framed = admits.1;
    }

-- a failure on the text is one on the bytes
pub judges_no_request : (bytes : List ℕ) (len : ℕ) (failure : Fail) → head_end bytes ≡ Some len
    → len ≤ most_bytes
    → AdmitsRequest (take len bytes) (Err failure) → JudgesRequest bytes
    (Err (fail_from failure Downstream))
judges_no_request bytes len fail.OutOfMemory ends short admits =
    (admits.0, len, record { ends = ends; reads = admits.1 })
judges_no_request bytes len (fail.Error error) ends short admits = (
  admits.0,
  ap {A = Error} (λ e. record e { esource = Downstream }) admits.1,
  verdict.IsRefusedRequest.has_bad_text len ends short admits.2,
)

-- a response that was admitted stands at the front
pub judges_response : (method : List ℕ) (asked : Bool) (bytes : List ℕ) (len : ℕ)
    (read : ResponseRead)
    → head_end bytes ≡ Some len → AdmitsResponse method asked (take len bytes) (Ok read)
    → HasResponse method asked bytes read.head read.framing read.len
judges_response method asked bytes len read ends admits =
    let size = length-take-le len bytes (head_end-within bytes len ends).1 in
    let same : read.len ≡ len = admits.4 ∙ size in
    record {
      given = admits.0;
      starts = record {
        ends = ends ∙ ap Some (sym same);
        reads = rw same admits.1;
      };
      framed = admits.2;
      is = admits.3;
    }

-- a failure on the text is one on the bytes
pub judges_no_response : (method : List ℕ) (asked : Bool) (bytes : List ℕ) (len : ℕ)
    (failure : Fail)
    → head_end bytes ≡ Some len → len ≤ most_bytes → AdmitsResponse method asked (take len bytes)
    (Err failure)
    → JudgesResponse method asked bytes (Err (fail_from failure Upstream))
judges_no_response method asked bytes len fail.OutOfMemory ends short admits =
    (admits.0, len, record { ends = ends; reads = admits.1 })
judges_no_response method asked bytes len (fail.Error error) ends short admits = (
  admits.0,
  ap {A = Error} (λ e. record e { esource = Upstream }) admits.1,
  verdict.IsRefusedResponse.has_bad_text len ends short admits.2,
)
