-- The authority that a raw request target names (RFC 9112, section 3.2; RFC 3986, section 3).
use Rattle.std.specs.Prelude.{◌≡◌, ℕ, ◌==◌, ◌&&◌, ◌||◌, Bool, true, false, not, List, length, take, drop, map, slice_index, codes, bytes_eq, nat_eq, Option, Some, None, if◌then◌else◌}
use Rattle.std.specs.List.{prefix_len, starts_with, list_any}
use Rattle.std.specs.Char.{is_ascii_alphabetic, is_ascii_alphanumeric, to_ascii_lowercase}
use Rattle.relay_authority.specs.declared.target.RawTargetAuthority.{RawTargetAuthority}
use Rattle.relay_authority.specs.declared.target.RawTargetAuthority.TheVariants as raw

-- the text in lower case
abbrev pub lower : List ℕ → List ℕ
lower text = map to_ascii_lowercase text

-- a byte of a scheme behind its first letter
abbrev pub is_scheme_byte : ℕ → Bool
is_scheme_byte b = is_ascii_alphanumeric b || (b == 43) || (b == 45) || (b == 46)

-- how many bytes could be a scheme
abbrev pub scheme_len : List ℕ → ℕ
scheme_len target = prefix_len is_scheme_byte target

-- what those bytes are
abbrev pub scheme_of : List ℕ → List ℕ
scheme_of target = take (scheme_len target) target

-- what follows them
abbrev pub behind_scheme : List ℕ → List ℕ
behind_scheme target = drop (scheme_len target) target

-- the target starts with a scheme and `:`. One that starts with `/`, or is `*`, does not
abbrev pub has_scheme : List ℕ → Bool
has_scheme target = is_ascii_alphabetic (slice_index target 0) &&
    (slice_index (behind_scheme target) 0 == 58)

-- behind the scheme comes `://`
abbrev pub has_slashes : List ℕ → Bool
has_slashes target = starts_with nat_eq (behind_scheme target) (codes "://")

-- a byte before which an authority ends: `/` or `?`
abbrev pub ends_authority : ℕ → Bool
ends_authority b = (b == 47) || (b == 63)

-- how long the authority is in front of such a byte, or of the end
abbrev pub authority_len : List ℕ → ℕ
authority_len text = prefix_len (λ b. not (ends_authority b)) text

-- what follows `://`
abbrev pub behind_slashes : List ℕ → List ℕ
behind_slashes target = drop 3 (behind_scheme target)

-- the authority behind `://`
abbrev pub authority_of : List ℕ → List ℕ
authority_of target = take (authority_len (behind_slashes target)) (behind_slashes target)

-- the path and query behind that authority, which may be empty
abbrev pub rest_of : List ℕ → List ℕ
rest_of target = drop (authority_len (behind_slashes target)) (behind_slashes target)

-- not empty, and with no `\`, which some read as `/`
abbrev pub is_plain : List ℕ → Bool
is_plain authority = not (length authority == 0) && not (list_any (λ b. b == 92) authority)

-- the scheme of the web, in any case
abbrev pub is_web : List ℕ → Bool
is_web scheme = bytes_eq (lower scheme) (codes "http") || bytes_eq (lower scheme) (codes "https")

-- the target names an authority in the absolute form
abbrev pub is_absolute : List ℕ → Bool
is_absolute target = has_scheme target && has_slashes target && is_plain (authority_of target)

-- readers would disagree on the authority, or on whether there is one
abbrev pub is_ambiguous : List ℕ → Bool
is_ambiguous target =
    has_scheme target && (if has_slashes target then not
    (is_plain (authority_of target)) else is_web (scheme_of target))

-- the parts of the absolute form
pub record Parts : Type 0 where
  pub scheme : List ℕ
  pub authority : List ℕ
  pub rest : List ℕ

-- the parts of the target, if it has the absolute form
abbrev pub absolute_parts : List ℕ → Option Parts
absolute_parts target =
    if is_absolute target
    then Some (record {
      scheme = scheme_of target;
      authority = authority_of target;
      rest =
          rest_of target;
    })
    else None

-- what was answered is what the target says
abbrev pub Tells : List ℕ → RawTargetAuthority → Type 0
Tells target raw.None = (absolute_parts target ≡ None) × (is_ambiguous target ≡ false)
Tells target raw.AmbiguousAuthority = (absolute_parts target ≡ None) × (is_ambiguous target ≡ true)
Tells target (raw.Absolute scheme authority rest) =
    (absolute_parts target ≡ Some
    (record { scheme = scheme.now; authority = authority.now; rest = rest.now }))
    × (is_ambiguous target ≡ false)

-- the authority that was answered, if one was
abbrev pub told_authority : RawTargetAuthority → Option (List ℕ)
told_authority raw.None = None
told_authority raw.AmbiguousAuthority = None
told_authority (raw.Absolute scheme authority rest) = Some authority.now
