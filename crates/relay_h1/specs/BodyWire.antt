-- The text that a body is sent as (RFC 9112, sections 6 and 7).
use Rattle.std.specs.Prelude.{◌≡◌, ℕ, ◌-◌, ◌^◌, ◌<◌, ◌==◌, All, Bool, true, false, not, List, [], ◌∷◌, ◌++◌, length, take, codes, Option, Some, None, if◌then◌else◌}
use Rattle.std.specs.Fmt.{digits}
use Rattle.std.specs.List.{concat}
use Rattle.relay_tasks.specs.declared.context.Context.TheVariants.{BodyShort}
use Rattle.relay_tasks.specs.declared.error.Error.{Error}
use Rattle.relay_tasks.specs.declared.error.ErrorType.TheVariants.{PrematureBodyEnd}
use Rattle.relay_tasks.specs.Error.{explained}
use Rattle.relay_h1.specs.Wire.{crlf}
use Rattle.relay_h1.specs.Body.{BodyText, Body}
use Rattle.relay_h1.specs.Body.BodyMark.{ended, still_open}
use Rattle.relay_h1.specs.declared.framing.Framing.{Framing}
use Rattle.relay_h1.specs.declared.framing.Framing.TheVariants.{Empty, Length, Chunked, UntilClose, Tunnel}

-- the line in front of a chunk: its size in upper-case hexadecimal (RFC 9112, section 7.1)
abbrev pub size_line : ℕ → List ℕ
size_line size = digits 16 true size ++ crlf

-- a chunk of these bytes
abbrev pub chunk : List ℕ → List ℕ
chunk bytes = size_line (length bytes) ++ bytes ++ crlf

-- a piece as one chunk; an empty one would end the body, so it writes nothing
abbrev pub chunk_text : List ℕ → List ℕ
chunk_text [] = []
chunk_text (b ∷ bytes) = chunk (b ∷ bytes)

-- the bytes of a piece that belong to a body whose rest is framed so: none past its length
abbrev pub body_part : Framing → List ℕ → List ℕ
body_part Empty piece = []
body_part (Length left) piece = take left piece
body_part Chunked piece = piece
body_part UntilClose piece = piece
body_part Tunnel piece = piece

-- the text of a piece of a body whose rest is framed so
abbrev pub piece_text : Framing → List ℕ → List ℕ
piece_text Empty piece = []
piece_text (Length left) piece = take left piece
piece_text Chunked piece = chunk_text piece
piece_text UntilClose piece = piece
piece_text Tunnel piece = piece

-- how what is left is framed once the piece was written
abbrev pub after_piece : Framing → List ℕ → Framing
after_piece Empty piece = Empty
after_piece (Length left) piece = Length (left - length piece)
after_piece Chunked piece = Chunked
after_piece UntilClose piece = UntilClose
after_piece Tunnel piece = Tunnel

-- the text of the end: the last chunk, with no trailer (RFC 9112, section 7.1)
abbrev pub end_text : Framing → List ℕ
end_text Empty = []
end_text (Length left) = []
end_text Chunked = codes "0" ++ crlf ++ crlf
end_text UntilClose = []
end_text Tunnel = []

-- no byte of the body is left to come
abbrev pub is_full : Framing → Bool
is_full Empty = true
is_full (Length left) = left == 0
is_full Chunked = false
is_full UntilClose = false
is_full Tunnel = false

-- the text of a piece is the piece itself, as far as it belongs to the body
abbrev pub is_raw : Framing → Bool
is_raw Empty = true
is_raw (Length left) = true
is_raw Chunked = false
is_raw UntilClose = true
is_raw Tunnel = true

-- the body may not end here: bytes of its length are missing
abbrev pub is_short : Framing → Bool
is_short Empty = false
is_short (Length left) = not (left == 0)
is_short Chunked = false
is_short UntilClose = false
is_short Tunnel = false

-- how many body bytes a piece counts for, and none where the body is full
abbrev pub count_of : Framing → List ℕ → Option ℕ
count_of rest piece = if is_full rest then None else Some (length (body_part rest piece))

-- how what is left is framed once these pieces were written
abbrev pub after_pieces : Framing → List (List ℕ) → Framing
after_pieces rest [] = rest
after_pieces rest (piece ∷ pieces) = after_pieces (after_piece rest piece) pieces

-- the text of these pieces
abbrev pub pieces_text : Framing → List (List ℕ) → List ℕ
pieces_text rest [] = []
pieces_text rest (piece ∷ pieces) =
    piece_text rest piece ++ pieces_text (after_piece rest piece) pieces

-- the text of a whole body that came in these pieces
abbrev pub body_text : Framing → List (List ℕ) → List ℕ
body_text framing pieces =
    pieces_text framing pieces ++ end_text (after_pieces framing pieces)

-- bytes of the body's length are missing at its end
abbrev pub short_body : Error
short_body = explained PrematureBodyEnd BodyShort

-- ---- what was written since a body began

-- these pieces were written as this text, and what is left of the body is framed so
pub record HasWritten
    (framing : Framing) (pieces : List (List ℕ)) (text : List ℕ) (rest : Framing) : Type 0 where
  pub fit : All (λ piece. length piece < 2 ^ 64) pieces
  pub is_text : text ≡ pieces_text framing pieces
  pub is_rest : rest ≡ after_pieces framing pieces

-- the text of a body says where it ends; else the close of the connection does
abbrev pub says_end : Framing → Bool
says_end Empty = true
says_end (Length left) = true
says_end Chunked = true
says_end UntilClose = false
says_end Tunnel = false

-- what these pieces are as a body: their bytes, ended with the text or still open
abbrev pub body_so_far : Framing → List (List ℕ) → Bool → List ℕ → BodyText
body_so_far framing pieces at_end text =
    record {
      bytes = body_part framing (concat pieces);
      mark = if at_end then ended (length text) else still_open;
    }

-- read back, the text of a body so far is that of its pieces: it has ended where none is left
abbrev pub ReadsBackOpen : Framing → List (List ℕ) → List ℕ → Framing → Type 0
ReadsBackOpen framing pieces text rest =
    Body framing text (body_so_far framing pieces (is_full rest) text)

-- read back, the text of a whole body is that of its pieces: it has ended where the text says so
abbrev pub ReadsBackWhole : Framing → List (List ℕ) → List ℕ → Type 0
ReadsBackWhole framing pieces text =
    Body framing text (body_so_far framing pieces (says_end framing) text)
