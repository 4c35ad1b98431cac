-- The options of a connection, which the field Connection lists (RFC 9110, section 7.6.1).
use Rattle.std.specs.Prelude.{ℕ, ◌-◌, ◌==◌, Bool, List, length, take, drop, codes, bytes_eq}
use Rattle.std.specs.Char.{is_ascii_whitespace}
use Rattle.std.specs.List.{list_any, prefix_len, suffix_len, slice_split}
use Rattle.http_header.specs.HeaderMap.{get_all}
use Rattle.http_header.specs.Token.{lowercase}
use Rattle.relay_tasks.specs.Head.{Fields}

-- the bytes without the blanks before them
abbrev pub without_front : List ℕ → List ℕ
without_front bytes = drop (prefix_len is_ascii_whitespace bytes) bytes

-- the bytes without the blanks around them; a value holds no white space but space and tab
abbrev pub trimmed : List ℕ → List ℕ
trimmed bytes =
    take (length (without_front bytes) - suffix_len is_ascii_whitespace (without_front bytes))
    (without_front bytes)

-- the one option that is known, in any case
abbrev pub is_close : List ℕ → Bool
is_close option = bytes_eq (lowercase option) (codes "close")

-- a member of the list is the option `close`
abbrev pub says_close : List ℕ → Bool
says_close member = is_close (trimmed member)

-- the value's members stand between its commas, and one of them says `close`
abbrev pub lists_close : List ℕ → Bool
lists_close value = list_any says_close (slice_split (λ b. b == 44) value)

-- the connection is to be closed: a Connection field has the option `close`
abbrev pub closes : Fields → Bool
closes fields = list_any (λ value. lists_close value.bytes) (get_all fields (codes "connection"))
