-- Where a head ends in the bytes of a message (RFC 9112, section 2.1).
use Rattle.std.specs.Prelude.{◌≡◌, ℕ, suc, ◌+◌, ◌<◌, Bool, false, List, [], ◌∷◌, take, drop, bytes_eq, if◌then◌else◌, Option, Some, None, option_map}

-- CR LF CR LF: the end of the last line, and the empty line
abbrev pub end_mark : List ℕ
end_mark = 13 ∷ 10 ∷ 13 ∷ 10 ∷ []

-- whether the bytes begin with CR LF CR LF
abbrev pub begins_with_mark : List ℕ → Bool
begins_with_mark bytes = bytes_eq (take 4 bytes) end_mark

-- the place after the first CR LF CR LF
abbrev pub head_end : List ℕ → Option ℕ
head_end [] = None
head_end (b ∷ bytes) =
    if begins_with_mark (b ∷ bytes) then Some 4 else option_map suc (head_end bytes)

-- a place in the rest of a list, counted from the list's start
abbrev pub shifted : ℕ → Option ℕ → Option ℕ
shifted n place = option_map (λ k. k + n) place

-- no CR LF CR LF begins before the place
abbrev pub NoMarkBefore : ℕ → List ℕ → Type 0
NoMarkBefore place bytes = (k : ℕ) → k < place → begins_with_mark (drop k bytes) ≡ false
