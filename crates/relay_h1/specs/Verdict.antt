-- What the bytes that were read so far are: not yet a head, a head, or refused for good
-- (RFC 9112, sections 2 and 6).
use Rattle.std.specs.Prelude.{◌≡◌, ℕ, ◌<◌, ◌≤◌, Bool, List, length, take, codes, Option, Some, None, Result, Ok, Err}
use Rattle.http_header.specs.HeaderMap.{remove}
use Rattle.relay_tasks.specs.declared.context.Context.{Context}
use Rattle.relay_tasks.specs.declared.context.Context.TheVariants.{HeadGrammar, HeadTooLong, BadFraming}
use Rattle.relay_tasks.specs.declared.error.Error.{Error}
use Rattle.relay_tasks.specs.declared.error.ErrorSource.{ErrorSource}
use Rattle.relay_tasks.specs.declared.error.ErrorSource.TheVariants.{Upstream, Downstream}
use Rattle.relay_tasks.specs.declared.error.Fail.{Fail}
use Rattle.relay_tasks.specs.declared.error.Fail.TheVariants as fail
use Rattle.relay_tasks.specs.Error.{refused}
use Rattle.relay_tasks.specs.Head.{RequestHead, ResponseHead}
use Rattle.relay_h1.specs.declared.framing.Framing.{Framing}
use Rattle.relay_h1.specs.declared.framing.Framing.TheVariants as framing
use Rattle.relay_h1.specs.declared.verdict.RequestRead.{RequestRead}
use Rattle.relay_h1.specs.declared.verdict.ResponseRead.{ResponseRead}
use Rattle.relay_h1.specs.HeadEnd.{head_end}
use Rattle.relay_h1.specs.Head.{most_bytes, ReadsRequest, ReadsResponse, RefusesRequest, RefusesResponse}
use Rattle.relay_h1.specs.Framing.{request_framing, response_framing}

-- no head ends yet, and one still may
pub record IsOpen (bytes : List ℕ) : Type 0 where
  pub no_end : head_end bytes ≡ None
  pub may_end : length bytes < most_bytes

-- no head ends in the bytes that one may have
pub data IsTooLong (bytes : List ℕ) : Type 0 where
  never_ends : head_end bytes ≡ None → most_bytes ≤ length bytes → IsTooLong bytes
  ends_late : (len : ℕ) → head_end bytes ≡ Some len → most_bytes < len → IsTooLong bytes

-- where the head at the front ends, if it does
abbrev pub LocatesHead : List ℕ → Result (Option ℕ) Error → Type 0
LocatesHead bytes (Ok None) = IsOpen bytes
LocatesHead bytes (Ok (Some len)) = (head_end bytes ≡ Some len) × (len ≤ most_bytes)
LocatesHead bytes (Err error) = (error ≡ refused HeadTooLong) × IsTooLong bytes

-- the failure, as one of that side
abbrev pub fail_from : Fail → ErrorSource → Fail
fail_from fail.OutOfMemory side = fail.OutOfMemory
fail_from (fail.Error error) side = fail.Error (record error { esource = side })

-- the first `len` bytes are the text of that request head
pub record StartsWithRequest (bytes : List ℕ) (head : RequestHead) (len : ℕ) : Type 0 where
  pub ends : head_end bytes ≡ Some len
  pub reads : ReadsRequest (take len bytes) head

-- the first `len` bytes are a request head with that framing
pub record HasRequest
    (bytes : List ℕ) (head : RequestHead) (framing : Framing) (len : ℕ) : Type 0 where
  pub starts : StartsWithRequest bytes head len
  pub framed : request_framing head ≡ Some framing

-- the text is no request head that can be framed
pub data IsRefusedText (text : List ℕ) (why : Context) : Type 0 where
  is_no_head : RefusesRequest text → why ≡ HeadGrammar → IsRefusedText text why
  has_no_framing : (head : RequestHead) → ReadsRequest text head → request_framing head ≡ None
      → why ≡ BadFraming → IsRefusedText text why

-- the bytes begin with no request head that can be framed, whatever follows them
pub data IsRefusedRequest (bytes : List ℕ) (why : Context) : Type 0 where
  is_too_long : IsTooLong bytes → why ≡ HeadTooLong → IsRefusedRequest bytes why
  has_bad_text : (len : ℕ) → head_end bytes ≡ Some len → len ≤ most_bytes
      → IsRefusedText (take len bytes) why → IsRefusedRequest bytes why

-- the refusal of the head that came from that side
abbrev pub refused_from : ErrorSource → Context → Error
refused_from side why = record (refused why) { esource = side }

-- the answer on the text of a request head
abbrev pub AdmitsRequest : List ℕ → Result RequestRead Fail → Type 0
AdmitsRequest text (Ok read) =
    ReadsRequest text read.head × (request_framing read.head ≡ Some read.framing)
    × (read.len ≡ length text)
AdmitsRequest text (Err fail.OutOfMemory) = (head : RequestHead) × ReadsRequest text head
AdmitsRequest text (Err (fail.Error error)) =
    (why : Context) × (error ≡ refused why) × IsRefusedText text why

-- the answer is the verdict on the bytes; memory is wanted only where a head stands
abbrev pub JudgesRequest : List ℕ → Result (Option RequestRead) Fail → Type 0
JudgesRequest bytes (Ok None) = IsOpen bytes
JudgesRequest bytes (Ok (Some read)) = HasRequest bytes read.head read.framing read.len
JudgesRequest bytes (Err fail.OutOfMemory) =
    (head : RequestHead) × (len : ℕ) × StartsWithRequest bytes head len
JudgesRequest bytes (Err (fail.Error error)) =
    (why : Context) × (error ≡ refused_from Downstream why) × IsRefusedRequest bytes why

-- the first `len` bytes are the text of that response head
pub record StartsWithResponse (bytes : List ℕ) (head : ResponseHead) (len : ℕ) : Type 0 where
  pub ends : head_end bytes ≡ Some len
  pub reads : ReadsResponse (take len bytes) head

-- a chunked response keeps no Content-Length
abbrev pub settled : Framing → ResponseHead → ResponseHead
settled framing.Empty head = head
settled (framing.Length n) head = head
settled framing.Chunked head = record head { fields = remove head.fields (codes "content-length") }
settled framing.UntilClose head = head
settled framing.Tunnel head = head

-- the first `len` bytes are a response head to that method, with its framing settled
pub record HasResponse
    (method : List ℕ) (asked : Bool) (bytes : List ℕ)
    (head : ResponseHead) (framing : Framing) (len : ℕ) : Type 0 where
  pub given : ResponseHead
  pub starts : StartsWithResponse bytes given len
  pub framed : response_framing method asked given ≡ Some framing
  pub is : head ≡ settled framing given

-- the text is no response head to that method that can be framed
pub data IsRefusedAnswer
    (method : List ℕ) (asked : Bool) (text : List ℕ) (why : Context) : Type 0 where
  is_no_head : RefusesResponse text → why ≡ HeadGrammar → IsRefusedAnswer method asked text why
  has_no_framing : (head : ResponseHead) → ReadsResponse text head
      → response_framing method asked head ≡ None → why ≡ BadFraming
      → IsRefusedAnswer method asked text why

-- the bytes begin with no response head, whatever follows them
pub data IsRefusedResponse
    (method : List ℕ) (asked : Bool) (bytes : List ℕ) (why : Context) : Type 0 where
  is_too_long : IsTooLong bytes → why ≡ HeadTooLong → IsRefusedResponse method asked bytes why
  has_bad_text : (len : ℕ) → head_end bytes ≡ Some len → len ≤ most_bytes
      → IsRefusedAnswer method asked (take len bytes) why → IsRefusedResponse method asked bytes why

-- the answer on the text of a response head
abbrev pub AdmitsResponse : List ℕ → Bool → List ℕ → Result ResponseRead Fail → Type 0
AdmitsResponse method asked text (Ok read) =
    (given : ResponseHead) × ReadsResponse text given
    × (response_framing method asked given ≡ Some read.framing)
    × (read.head ≡ settled read.framing given) × (read.len ≡ length text)
AdmitsResponse method asked text (Err fail.OutOfMemory) =
    (head : ResponseHead) × ReadsResponse text head
AdmitsResponse method asked text (Err (fail.Error error)) =
    (why : Context) × (error ≡ refused why) × IsRefusedAnswer method asked text why

-- the answer is the verdict on the bytes; memory is wanted only where a head stands
abbrev pub JudgesResponse : List ℕ → Bool → List ℕ → Result (Option ResponseRead) Fail → Type 0
JudgesResponse method asked bytes (Ok None) = IsOpen bytes
JudgesResponse method asked bytes (Ok (Some read)) =
    HasResponse method asked bytes read.head read.framing read.len
JudgesResponse method asked bytes (Err fail.OutOfMemory) =
    (head : ResponseHead) × (len : ℕ) × StartsWithResponse bytes head len
JudgesResponse method asked bytes (Err (fail.Error error)) =
    (why : Context) × (error ≡ refused_from Upstream why) × IsRefusedResponse method asked bytes why
