-- What the bytes of a response say: the informational heads, the final head, and its body
-- (RFC 9110, section 15.2; RFC 9112, sections 4 to 8).
use Rattle.std.specs.Prelude.{◌≡◌, ℕ, ◌+◌, Bool, true, false, List, [], ◌∷◌, length, drop, Option, Some, None, if◌then◌else◌}
use Rattle.relay_tasks.specs.Head.{ResponseHead}
use Rattle.relay_tasks.specs.declared.context.Context.{Context}
use Rattle.relay_h1.specs.declared.framing.Framing.{Framing}
use Rattle.relay_h1.specs.Body.{BodyMark, BodyText, Body}
use Rattle.relay_h1.specs.Body as body
use Rattle.relay_h1.specs.BodyReader.{may_end}
use Rattle.relay_h1.specs.ClientHead.{is_informational}
use Rattle.relay_h1.specs.Verdict.{IsOpen, HasResponse, IsRefusedResponse}

-- the first n bytes are these heads, in order, each of which only informs
pub data Informs (method : List ℕ) (asked : Bool) : List ℕ → List ResponseHead → ℕ → Type 0 where
  none_came : (bytes : List ℕ) → Informs method asked bytes [] 0
  one_came : (bytes : List ℕ) (head : ResponseHead) (framing : Framing) (len : ℕ)
      (heads : List ResponseHead) (n : ℕ)
      → HasResponse method asked bytes head framing len → is_informational head.status ≡ true
      → Informs method asked (drop len bytes) heads n
      → Informs method asked bytes (head ∷ heads) (len + n)

-- whether a response has ended: not yet, with the first so many bytes of its text, not at all since
-- the text is broken, or not at all since the link ended inside it
pub data ResponseMark : Type 0 where
  still_open : ResponseMark
  ended : ℕ → ResponseMark
  broken : ResponseMark
  cut_off : ResponseMark

-- what a text says of a response: its informational heads, its final head, the bytes of its
-- body, and its mark
pub record ResponseText : Type 0 where
  pub informed : List ResponseHead
  pub final : Option ResponseHead
  pub body : List ℕ
  pub mark : ResponseMark

-- a response that has not come whole: its link has ended, or more may come
abbrev pub open_mark : Bool → ResponseMark
open_mark closed = if closed then cut_off else still_open

-- the mark of a response whose body begins behind so many of these bytes, by the mark of its body:
-- the end of the link ends a body that lasts until then
abbrev pub mark_of : Framing → ℕ → ℕ → Bool → BodyMark → ResponseMark
mark_of framing begins all closed body.BodyMark.still_open =
    if may_end framing then (if closed then ended all else still_open) else open_mark closed
mark_of framing begins all closed (body.BodyMark.ended n) = ended (begins + n)
mark_of framing begins all closed body.BodyMark.broken = broken

-- what the bytes that a link gave say of the response to that method; `asked` is whether the
-- request asked for an upgrade, `closed` whether the link has ended
pub data Tasks (method : List ℕ) (asked : Bool) (bytes : List ℕ) (closed : Bool)
    : ResponseText → Type 0 where
  head_open : (heads : List ResponseHead) (n : ℕ) → Informs method asked bytes heads n
      → IsOpen (drop n bytes)
      → Tasks method asked bytes closed
      (record { informed = heads; final = None; body = []; mark = open_mark closed })
  head_refused : (heads : List ResponseHead) (n : ℕ) (why : Context)
      → Informs method asked bytes heads n → IsRefusedResponse method asked (drop n bytes) why
      → Tasks method asked bytes closed
      (record { informed = heads; final = None; body = []; mark = broken })
  has_final : (heads : List ResponseHead) (n : ℕ) (head : ResponseHead) (framing : Framing)
      (len : ℕ) (text : BodyText) → Informs method asked bytes heads n
      → HasResponse method asked (drop n bytes) head framing len
      → is_informational head.status ≡ false → Body framing (drop (n + len) bytes) text
      → Tasks method asked bytes closed
      (record {
        informed = heads;
        final = Some head;
        body = text.bytes;
        mark = mark_of framing (n + len) (length bytes) closed text.mark;
      })

-- behind informational heads stands this final head, which ends with the first `len` bytes
pub record HasFinal (method : List ℕ) (asked : Bool) (bytes : List ℕ)
    (informed : List ResponseHead) (head : ResponseHead) (framing : Framing) (len : ℕ)
    : Type 0 where
  pub place : ℕ
  pub own : ℕ
  pub informs : Informs method asked bytes informed place
  pub has : HasResponse method asked (drop place bytes) head framing own
  pub final : is_informational head.status ≡ false
  pub ends : len ≡ place + own

-- behind informational heads no further head ends yet, and one still may
pub record IsOpenBehind (method : List ℕ) (asked : Bool) (bytes : List ℕ)
    (informed : List ResponseHead) : Type 0 where
  pub place : ℕ
  pub informs : Informs method asked bytes informed place
  pub is_open : IsOpen (drop place bytes)

-- behind informational heads stands what is no head, for that reason
pub record IsRefusedBehind (method : List ℕ) (asked : Bool) (bytes : List ℕ)
    (informed : List ResponseHead) (why : Context) : Type 0 where
  pub place : ℕ
  pub informs : Informs method asked bytes informed place
  pub refused : IsRefusedResponse method asked (drop place bytes) why
