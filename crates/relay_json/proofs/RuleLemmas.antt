-- The names and the values of fields that rules may have.
use Rattle.std.proofs.Common.{◌≡◌, ℕ, List, length, Bool, true, false, Some, None, if◌then◌else◌, refl, sym, ◌∙◌, true≢false}
use Rattle.std.specs.List.{list_all}
use Rattle.std.proofs.lemmas.Bool.{lt-ltb, le-leb}
use Rattle.std.proofs.lemmas.List.Sums.{AllPass-from_list_all, list_all-from_AllPass}
use Rattle.http_header.specs.FieldName.{is_field_name, IsFieldName}
use Rattle.http_header.specs.FieldValue.{IsFieldValue, plain_value}
use Rattle.http_header.specs.Token.{is_token_byte, token_test, is_value_byte, lowercase}
use Rattle.http_header.proofs.TokenLemmas.{IsFieldName-from_test}
use Rattle.relay_json.specs.Rules.{field_name, field_value}

-- a name passes the test for names
name_passes : (text : List ℕ) → IsFieldName text → is_field_name text ≡ true
unfolding is_token_byte
name_passes text is =
    rw (
      lt-ltb 0 (length text) is.0.0,
      list_all-from_AllPass token_test text is.0.1,
      le-leb (length text) 65535 is.1,
    ) refl

name_at : (passes : Bool) (text : List ℕ) → is_field_name text ≡ passes
    → ¬ (¬ (IsFieldName text))
    → (if passes then Some (lowercase text) else None) ≡ Some (lowercase text)
name_at true text is some = refl
name_at false text is some =
    absurd (some (λ name. true≢false (sym (name_passes text name) ∙ is)))

-- what is not refused as a name is one
pub name_read : (text : List ℕ) → ¬ (¬ (IsFieldName text))
    → field_name text ≡ Some (lowercase text)
name_read text some = name_at (is_field_name text) text refl some

no_name_at : (passes : Bool) (text : List ℕ) → is_field_name text ≡ passes → ¬ (IsFieldName text)
    → (if passes then Some (lowercase text) else None) ≡ None
no_name_at true text is none = absurd (none (IsFieldName-from_test text is))
no_name_at false text is none = refl

-- what is refused is none
pub name_none : (text : List ℕ) → ¬ (IsFieldName text) → field_name text ≡ None
name_none text none = no_name_at (is_field_name text) text refl none

value_at : (passes : Bool) (text : List ℕ) → list_all is_value_byte text ≡ passes
    → ¬ (¬ (IsFieldValue text))
    → (if passes then Some (plain_value text) else None) ≡ Some (plain_value text)
value_at true text is some = refl
value_at false text is some =
    absurd (some (λ value.
    true≢false (sym (list_all-from_AllPass is_value_byte text value) ∙ is)))

-- what is not refused as a value is one
pub value_read : (text : List ℕ) → ¬ (¬ (IsFieldValue text))
    → field_value text ≡ Some (plain_value text)
value_read text some = value_at (list_all is_value_byte text) text refl some

no_value_at : (passes : Bool) (text : List ℕ) → list_all is_value_byte text ≡ passes
    → ¬ (IsFieldValue text) → (if passes then Some (plain_value text) else None) ≡ None
no_value_at true text is none = absurd (none (AllPass-from_list_all is_value_byte text is))
no_value_at false text is none = refl

-- what is refused is none
pub value_none : (text : List ℕ) → ¬ (IsFieldValue text) → field_value text ≡ None
value_none text none = no_value_at (list_all is_value_byte text) text refl none
