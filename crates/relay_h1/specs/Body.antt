-- What the bytes behind a head say: the body, as far as it has come, and whether it has ended
-- (RFC 9112, sections 6.3 and 7.1).
use Rattle.std.specs.Prelude.{◌≡◌, ℕ, suc, ◌+◌, ◌<◌, ◌≤◌, Bool, true, false, List, [], ◌∷◌, ◌++◌, length, take, drop, bytes_eq, nat_le, if◌then◌else◌, Option, Some, None, option_map}
use Rattle.httparse.specs.Grammar.{ChunkLine, ReadsChunkLine, chunk_size}
use Rattle.relay_h1.specs.declared.framing.Framing.{Framing}
use Rattle.relay_h1.specs.declared.framing.Framing.TheVariants as framing
use Rattle.relay_h1.specs.HeadEnd.{head_end}
use Rattle.relay_h1.specs.Wire.{crlf}

-- whether a body has ended: not yet, with the first so many bytes of the text, or not at all,
-- since the text is broken at some place behind the bytes that it says
pub data BodyMark : Type 0 where
  still_open : BodyMark
  ended : ℕ → BodyMark
  broken : BodyMark

-- the bytes of a body that a text says, and its mark
pub record BodyText : Type 0 where
  pub bytes : List ℕ
  pub mark : BodyMark

-- these bytes so far
abbrev pub open_text : List ℕ → BodyText
open_text bytes = record { bytes = bytes; mark = still_open }

-- these bytes, whole, with the first n bytes of the text
abbrev pub ended_text : List ℕ → ℕ → BodyText
ended_text bytes n = record { bytes = bytes; mark = ended n }

-- no byte of a body, and no text of one
abbrev pub broken_text : BodyText
broken_text = record { bytes = []; mark = broken }

-- a mark, counted from n bytes earlier
abbrev pub counted_from : ℕ → BodyMark → BodyMark
counted_from n still_open = still_open
counted_from n (ended k) = ended (n + k)
counted_from n broken = broken

-- what a text says where n bytes stand before it that say a piece of the body
abbrev pub behind : ℕ → List ℕ → BodyText → BodyText
behind n piece text = record { bytes = piece ++ text.bytes; mark = counted_from n text.mark }

-- ---- chunk lines

-- how many bytes a chunk line may have with its CR LF
abbrev pub most_line : ℕ
most_line = 1024

-- whether the bytes begin with CR LF
abbrev pub begins_with_crlf : List ℕ → Bool
begins_with_crlf bytes = bytes_eq (take 2 bytes) crlf

-- the place after the first CR LF
abbrev pub crlf_end : List ℕ → Option ℕ
crlf_end [] = None
crlf_end (b ∷ bytes) =
    if begins_with_crlf (b ∷ bytes) then Some 2 else option_map suc (crlf_end bytes)

-- where the chunk line at the front ends: at its first CR LF, if that keeps the limit
abbrev pub line_end : List ℕ → Option ℕ
line_end bytes = crlf_end (take most_line bytes)

-- the text, whole, is a chunk line that gives that size
pub record IsLineOf (text : List ℕ) (size : ℕ) : Type 0 where
  pub line : ChunkLine
  pub reads : ReadsChunkLine text line []
  pub sized : size ≡ chunk_size line

-- the first len bytes are a chunk line that gives that size
pub record StartsWithLine (bytes : List ℕ) (len size : ℕ) : Type 0 where
  pub ends : line_end bytes ≡ Some len
  pub is_line : IsLineOf (take len bytes) size

-- the line at the front has not ended, and still may
pub record IsLineOpen (bytes : List ℕ) : Type 0 where
  pub no_end : line_end bytes ≡ None
  pub may_end : length bytes < most_line

-- the line at the front is too long, or is no chunk line
pub data IsLineBroken (bytes : List ℕ) : Type 0 where
  too_long : line_end bytes ≡ None → most_line ≤ length bytes → IsLineBroken bytes
  no_line : (len : ℕ) → line_end bytes ≡ Some len
      → ((size : ℕ) → ¬ (IsLineOf (take len bytes) size)) → IsLineBroken bytes

-- ---- the trailer section

-- how many bytes the trailer lines may have, without the empty line behind them
abbrev pub most_trailer : ℕ
most_trailer = 65536

-- the place after the trailer section: an empty line at once, or the first one behind a line
abbrev pub trailer_end : List ℕ → Option ℕ
trailer_end bytes = if begins_with_crlf bytes then Some 2 else head_end bytes

-- the trailer section has not ended, and still may
pub record IsTrailerOpen (bytes : List ℕ) : Type 0 where
  pub no_end : trailer_end bytes ≡ None
  pub may_end : length bytes < most_trailer + 2

-- the trailer lines are too long
pub data IsTrailerTooLong (bytes : List ℕ) : Type 0 where
  never_ends : trailer_end bytes ≡ None → most_trailer + 2 ≤ length bytes → IsTrailerTooLong bytes
  ends_late : (len : ℕ) → trailer_end bytes ≡ Some len → most_trailer + 2 < len
      → IsTrailerTooLong bytes

-- the first len bytes are the trailer section with its empty line
pub record EndsTrailer (bytes : List ℕ) (len : ℕ) : Type 0 where
  pub ends : trailer_end bytes ≡ Some len
  pub short : len ≤ most_trailer + 2

-- ---- chunked bodies

-- a place in a chunked body: before a chunk line, inside a chunk with so many bytes to come, behind
-- a chunk's bytes, and behind the line of the last chunk
pub data ChunkedPlace : Type 0 where
  at_line : ChunkedPlace
  in_chunk : ℕ → ChunkedPlace
  behind_chunk : ChunkedPlace
  in_trailer : ChunkedPlace

-- what the bytes say from a place on. The lines of the trailer section are not looked at
pub data Chunked : ChunkedPlace → List ℕ → BodyText → Type 0 where
  line_open : (bytes : List ℕ) → IsLineOpen bytes → Chunked at_line bytes (open_text [])
  line_broken : (bytes : List ℕ) → IsLineBroken bytes → Chunked at_line bytes broken_text
  chunk : (bytes : List ℕ) (len size : ℕ) (text : BodyText) → StartsWithLine bytes len size
      → 0 < size → Chunked (in_chunk size) (drop len bytes) text
      → Chunked at_line bytes (behind len [] text)
  last_chunk : (bytes : List ℕ) (len : ℕ) (text : BodyText) → StartsWithLine bytes len 0
      → Chunked in_trailer (drop len bytes) text → Chunked at_line bytes (behind len [] text)
  chunk_open : (bytes : List ℕ) (left : ℕ) → length bytes < left
      → Chunked (in_chunk left) bytes (open_text bytes)
  chunk_whole : (bytes : List ℕ) (left : ℕ) (text : BodyText) → left ≤ length bytes
      → Chunked behind_chunk (drop left bytes) text
      → Chunked (in_chunk left) bytes (behind left (take left bytes) text)
  crlf_open : (bytes : List ℕ) → length bytes < 2 → Chunked behind_chunk bytes (open_text [])
  crlf_broken : (bytes : List ℕ) → 2 ≤ length bytes → begins_with_crlf bytes ≡ false
      → Chunked behind_chunk bytes broken_text
  crlf_whole : (bytes : List ℕ) (text : BodyText) → begins_with_crlf bytes ≡ true
      → Chunked at_line (drop 2 bytes) text → Chunked behind_chunk bytes (behind 2 [] text)
  trailer_open : (bytes : List ℕ) → IsTrailerOpen bytes → Chunked in_trailer bytes (open_text [])
  trailer_broken : (bytes : List ℕ) → IsTrailerTooLong bytes → Chunked in_trailer bytes broken_text
  trailer_ended : (bytes : List ℕ) (len : ℕ) → EndsTrailer bytes len
      → Chunked in_trailer bytes (ended_text [] len)

-- ---- bodies

-- the first n bytes, once they are there, or what there is of them
abbrev pub of_length : ℕ → List ℕ → BodyText
of_length n bytes =
    record {
      bytes = take n bytes;
      mark = if nat_le n (length bytes) then ended n else still_open;
    }

-- what the bytes behind a head with that framing say
abbrev pub Body : Framing → List ℕ → BodyText → Type 0
Body framing.Empty bytes text = text ≡ ended_text [] 0
Body (framing.Length n) bytes text = text ≡ of_length n bytes
Body framing.Chunked bytes text = Chunked at_line bytes text
Body framing.UntilClose bytes text = text ≡ open_text bytes
Body framing.Tunnel bytes text = text ≡ open_text bytes
