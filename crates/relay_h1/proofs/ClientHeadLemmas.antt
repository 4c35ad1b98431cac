-- By the rule for responses a client finds the framing of its head in that head.
use Rattle.std.proofs.Common.{◌≡◌, ℕ, Bool, true, false, List, [], length, codes, refl, sym, ◌∙◌, ap, eqb-true, Option, Some, if◌then◌else◌, inl, inr, arith, not, ◌&&◌, is_none, ◌∷◌, slice_get, ◌||◌, ◌==◌, bytes_eq}
use Rattle.std.proofs.lemmas.Bool.{cases_Bool}
use Rattle.http_header.specs.FieldValue.{FieldValue, plain_value}
use Rattle.http_header.specs.HeaderMap.{get, get_all, IsUnique}
use Rattle.http_header.proofs.HeaderMapLemmas.{get_all-remove_same, get_all-remove_other, get_all-insert_same, get_all-insert_other}
use Rattle.relay_tasks.specs.Head.{ResponseHead}
use Rattle.relay_h1.specs.declared.framing.Framing.{Framing}
use Rattle.relay_h1.specs.declared.framing.Framing.TheVariants as framing
use Rattle.relay_h1.specs.declared.framing.LengthField.{LengthField}
use Rattle.relay_h1.specs.declared.framing.LengthField.TheVariants as length_field
use Rattle.relay_h1.specs.declared.framing.CodingField.{CodingField}
use Rattle.relay_h1.specs.declared.framing.CodingField.TheVariants as coding_field
use Rattle.relay_h1.specs.Framing.{length_said, coding_said, response_table, opens_tunnel, has_no_body, response_framing}
use Rattle.relay_h1.specs.Verdict.{settled}
use Rattle.relay_h1.specs.ClientHead.{framing_for, head_for, lacks_framing, chunked_head}

-- the names of the two framing fields
length_name : List ℕ
length_name = codes "content-length"

coding_name : List ℕ
coding_name = codes "transfer-encoding"

-- what Content-Length says in the head of a client
length_for : Framing → LengthField → LengthField
length_for framing.Empty length = length
length_for (framing.Length n) length = length
length_for framing.Chunked length = length_field.Absent
length_for framing.UntilClose length = length
length_for framing.Tunnel length = length

-- what Transfer-Encoding says there
coding_for : Bool → CodingField → CodingField
coding_for true coding = coding_field.Absent
coding_for false coding = coding

-- the table gives the framing of the client
table_for : (old : Bool) (length : LengthField) (coding : CodingField) (given : Framing)
    → response_table length coding ≡ Some given
    → response_table (length_for given length) (coding_for old coding)
    ≡ Some (framing_for old given)
unfolding length_for coding_for
table_for true length_field.Absent coding_field.Absent given is =
    let same : framing.UntilClose ≡ given = cc in rw (← same) refl
table_for false length_field.Absent coding_field.Absent given is =
    let same : framing.UntilClose ≡ given = cc in rw (← same) refl
table_for true length_field.Absent coding_field.Chunked given is =
    let same : framing.Chunked ≡ given = cc in rw (← same) refl
table_for false length_field.Absent coding_field.Chunked given is =
    let same : framing.Chunked ≡ given = cc in rw (← same) refl
table_for old length_field.Absent coding_field.Other given is = cc
table_for true (length_field.Value n) coding_field.Absent given is =
    let same : framing.Length n ≡ given = cc in rw (← same) refl
table_for false (length_field.Value n) coding_field.Absent given is =
    let same : framing.Length n ≡ given = cc in rw (← same) refl
table_for true (length_field.Value n) coding_field.Chunked given is =
    let same : framing.Chunked ≡ given = cc in rw (← same) refl
table_for false (length_field.Value n) coding_field.Chunked given is =
    let same : framing.Chunked ≡ given = cc in rw (← same) refl
table_for old (length_field.Value n) coding_field.Other given is = cc
table_for old length_field.Malformed coding_field.Absent given is = cc
table_for old length_field.Malformed coding_field.Chunked given is = cc
table_for old length_field.Malformed coding_field.Other given is = cc

-- the rule for responses, of what a head says
by_rule : Bool → Bool → LengthField → CodingField → Option Framing
by_rule tunnel none length coding =
    if tunnel then Some framing.Tunnel
    else (if none then Some framing.Empty else response_table length coding)

-- it gives the framing of the client
rule_for : (old tunnel none : Bool) (length : LengthField) (coding : CodingField) (given : Framing)
    → by_rule tunnel none length coding ≡ Some given
    → by_rule tunnel none (length_for given length) (coding_for old coding)
    ≡ Some (framing_for old given)
unfolding by_rule
rule_for old true none length coding given is =
    let same : framing.Tunnel ≡ given = cc in rw (← same) refl
rule_for old false true length coding given is =
    let same : framing.Empty ≡ given = cc in rw (← same) refl
rule_for old false false length coding given is = table_for old length coding given is

-- the status of the head stays
status_of : (old : Bool) (given : Framing) (head : ResponseHead)
    → (head_for old given head).status ≡ head.status
status_of true framing.Empty head = refl
status_of true (framing.Length n) head = refl
status_of true framing.Chunked head = refl
status_of true framing.UntilClose head = refl
status_of true framing.Tunnel head = refl
status_of false framing.Empty head = refl
status_of false (framing.Length n) head = refl
status_of false framing.Chunked head = refl
status_of false framing.UntilClose head = refl
status_of false framing.Tunnel head = refl

-- the two names differ
names_differ : length_name ≡ coding_name → ⊥
unfolding length_name coding_name
names_differ same =
    let sizes : length length_name ≡ length coding_name = ap length same in omega (arith, sizes)

-- settling a head leaves its codings
coding_settled : (given : Framing) (head : ResponseHead) → IsUnique head.fields
    → get_all (settled given head).fields coding_name ≡ get_all head.fields coding_name
unfolding length_name
coding_settled framing.Empty head unique = refl
coding_settled (framing.Length n) head unique = refl
coding_settled framing.Chunked head unique =
    get_all-remove_other head.fields length_name coding_name unique names_differ
coding_settled framing.UntilClose head unique = refl
coding_settled framing.Tunnel head unique = refl

-- and takes the lengths away beside chunked
length_settled : (given : Framing) (head : ResponseHead) → IsUnique head.fields
    → length_said (get_all (settled given head).fields length_name)
    ≡ length_for given (length_said (get_all head.fields length_name))
unfolding length_for length_name
length_settled framing.Empty head unique = refl
length_settled (framing.Length n) head unique = refl
length_settled framing.Chunked head unique =
    ap length_said (get_all-remove_same head.fields length_name unique)
length_settled framing.UntilClose head unique = refl
length_settled framing.Tunnel head unique = refl

-- a head for HTTP/1.0 has no coding
pub uncoded_has_none : (given : Framing) (head : ResponseHead)
    → IsUnique (settled given head).fields
    → get_all (head_for true given head).fields (codes "transfer-encoding") ≡ []
uncoded_has_none given head unique =
    get_all-remove_same (settled given head).fields (codes "transfer-encoding") unique

-- what Transfer-Encoding says in the head of the client
coding_of : (old : Bool) (given : Framing) (head : ResponseHead) → IsUnique head.fields
    → IsUnique (settled given head).fields
    → coding_said (get_all (head_for old given head).fields coding_name)
    ≡ coding_for old (coding_said (get_all head.fields coding_name))
unfolding coding_for coding_name
coding_of true given head unique still =
    ap coding_said (get_all-remove_same (settled given head).fields coding_name still)
coding_of false given head unique still = ap coding_said (coding_settled given head unique)

-- what Content-Length says there
length_of : (old : Bool) (given : Framing) (head : ResponseHead) → IsUnique head.fields
    → IsUnique (settled given head).fields
    → length_said (get_all (head_for old given head).fields length_name)
    ≡ length_for given (length_said (get_all head.fields length_name))
unfolding coding_name
length_of true given head unique still =
    ap length_said
    (get_all-remove_other (settled given head).fields coding_name length_name still
    (λ same. names_differ (sym same)))
    ∙ length_settled given head unique
length_of false given head unique still = length_settled given head unique

-- the rule finds the framing of the client in the head of the client
pub finds_framing : (method : List ℕ) (asked old : Bool) (head : ResponseHead) (given : Framing)
    → response_framing method asked head ≡ Some given → IsUnique head.fields
    → IsUnique (settled given head).fields
    → response_framing method asked (head_for old given head) ≡ Some (framing_for old given)
unfolding response_framing length_name coding_name by_rule
finds_framing method asked old head given is unique still =
    rw (
      status_of old given head,
      length_of old given head unique still,
      coding_of old given head unique still,
    )
    (rule_for old (opens_tunnel asked head.status) (has_no_body method head.status) _ _ given is)

-- a field that stands nowhere has no values
none_of : (values : List FieldValue) → is_none (slice_get values 0) ≡ true → values ≡ []
none_of [] none = refl
none_of (value ∷ values) none = cc

-- what lacks a framing may have a body, and has neither field
lacks_all : (ends none length coding : Bool) → (not ends && not none && length && coding) ≡ true
    → (none ≡ false) × (length ≡ true) × (coding ≡ true)
lacks_all true none length coding is = cc
lacks_all false true length coding is = cc
lacks_all false false false coding is = cc
lacks_all false false true false is = cc
lacks_all false false true true is = (refl, refl, refl)

-- a test that fails makes a conjunction fail
and-false : (a b : Bool) → b ≡ false → (a && b) ≡ false
and-false true b is = is
and-false false b is = refl

-- a test that passes makes a disjunction pass
or-true : (a : Bool) → (a || true) ≡ true
or-true true = refl
or-true false = refl

-- what may have a body is no 101
no_tunnel : (method : List ℕ) (asked : Bool) (status : ℕ) → has_no_body method status ≡ false
    → opens_tunnel asked status ≡ false
no_tunnel method asked status is =
    elim (cases_Bool (status == 101)) [
      | inl switches ↦
          let same : status ≡ 101 = eqb-true status 101 switches in
          let none : has_no_body method 101 ≡ true = or-true (bytes_eq method (codes "HEAD")) in
          let here : has_no_body method 101 ≡ false = rw same at is in
          cc
      | inr other ↦ and-false asked (status == 101) other
    ]

-- a head to which chunked was added, since it lacked a framing, is chunked
pub added_is_chunked : (method : List ℕ) (asked ends : Bool) (head : ResponseHead)
    → lacks_framing method ends head ≡ true
    → response_framing method asked (chunked_head head) ≡ Some framing.Chunked
unfolding response_framing lacks_framing length_name coding_name
added_is_chunked method asked ends head lacks =
    let all = lacks_all ends (has_no_body method head.status)
    (is_none (get head.fields (codes "content-length")))
    (is_none (get head.fields (codes "transfer-encoding"))) lacks in
    let none = none_of (get_all head.fields (codes "content-length")) all.1 in
    let length =
    get_all-insert_other head.fields (codes "transfer-encoding") (codes "content-length")
    (plain_value (codes "chunked")) (λ same. names_differ (sym same)) ∙ none in
    let coding =
    get_all-insert_same head.fields (codes "transfer-encoding") (plain_value (codes "chunked")) in
    rw (no_tunnel method asked head.status all.0, all.0, length, coding) refl
