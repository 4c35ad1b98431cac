-- What the grammar and the limits of a head allow, no other check refuses.
use Rattle.std.proofs.Common.{◌≡◌, ℕ, ◌+◌, ◌<◌, ◌≤◌, true, false, ltb, leb, List, [], ◌∷◌, ◌++◌, length, map, take, get_or, refl, sym, ◌∙◌, ap, subst, arith, inl, inr, lit≤, cond, bytes_eq}
use Rattle.std.specs.List.{All}
use Rattle.std.specs.Prelude.{flat_map, Result, Ok, Err, IsOkUnless, IsErrOf}
use Rattle.std.proofs.lemmas.Bool.{cases_lt, lt-ltb, le-ltb, le-leb, lt-leb}
use Rattle.std.proofs.lemmas.List.{length-append, length-map, length-take-le, drop_all, get_or-map}
use Rattle.std.proofs.lemmas.Simd.{map-map}
use Rattle.std.proofs.lemmas.List.Folds.{length-flat_map-take}
use Rattle.std.proofs.lemmas.List.Sums.{fold_push, sum_by-cons}
use Rattle.http_header.specs.FieldName.{IsFieldName}
use Rattle.http_header.specs.FieldValue.{FieldValue, IsFieldValue, plain_value}
use Rattle.http_header.specs.HeaderMap.{Entries, append, append_all, value_count, RefusesAppend}
use Rattle.http_header.specs.Token.{lowercase, IsToken}
use Rattle.http_header.specs.Token as kept
use Rattle.httparse.specs.Grammar as grammar
use Rattle.httparse.specs.Spans.{header_bytes, name_and_value, AreFieldsAt, IsHeaderWithin, IsRequestWithin, IsRequestAt}
use Rattle.httparse.specs.declared.spans.HeaderSpan.{HeaderSpan}
use Rattle.httparse.specs.declared.spans.RequestSpans.{RequestSpans}
use Rattle.httparse.specs.declared.spans.ResponseSpans.{ResponseSpans}
use Rattle.httparse.proofs.GrammarLemmas.{print_request-append, print_response-append, request_unique, response_unique}
use Rattle.httparse.proofs.TrimLemmas.{AllPass-trim_ows}
use Rattle.relay_tasks.specs.declared.error.Error.{Error}
use Rattle.relay_tasks.specs.declared.error.Fail.{Fail}
use Rattle.relay_tasks.specs.declared.error.Fail.TheVariants as fail
use Rattle.relay_tasks.specs.Error.{IsMemoryOr}
use Rattle.relay_tasks.specs.Head.{Fields, RequestHead, ResponseHead, IsRawTarget, new_request, new_response}
use Rattle.relay_h1.specs.Head.{IsOneHead, most_fields, most_bytes, kept_fields, version_of, request_of, response_of, ReadsRequest, ReadsResponse}
use Rattle.relay_h1.specs.HeadSpans.{kept_at, kept_fields_at, IsFieldAt, IsRequestFound, IsResponseFound}

-- above a blank is from the first visible byte on
above_blank : (b : ℕ) → ltb 32 b ≡ leb 33 b
above_blank b =
    elim (cases_lt 32 b) [
      | inl above ↦ lt-ltb 32 b above ∙ sym (le-leb 33 b (omega arith))
      | inr not_above ↦ le-ltb 32 b not_above ∙ sym (lt-leb 33 b (omega arith))
    ]

-- a request head is longer than its target, by two bytes at least
longer_than_target : (h : grammar.RequestHead) → grammar.IsRequestHead h
    → length h.target + 2 ≤ length (grammar.print_request h ++ [])
longer_than_target h is =
    let size = simp length-append at (ap length (print_request-append h [])) in
    rw length-append (omega (arith, size, is.method.0))

-- a target that the grammar reads can be sent
pub raw_target : (text : List ℕ) (form : grammar.RequestHead) → grammar.ReadsRequest text form []
    → length text ≤ most_bytes → IsRawTarget form.target
raw_target text form reads short =
    record {
      filled = reads.0.target.0;
      fits = omega (arith, longer_than_target form reads.0, ap length reads.1);
      visible =
          λ k d inside. rw (← above_blank (get_or form.target k d)) (reads.0.target.1 k d inside);
    }

-- as many fields as spans that cover them
count_of_fields : (text : List ℕ) (spans : List HeaderSpan) (count : ℕ)
    (fields : List grammar.Field)
    → AreFieldsAt text spans count fields → count ≤ length spans → length fields ≡ count
count_of_fields text spans count fields are fits =
    sym (length-map fields name_and_value) ∙ sym (ap length are)
    ∙ length-map (take count spans) (header_bytes text)
    ∙ length-take-le count spans fits

-- a head that the parser found, and that fills the text
pub request_found : (text : List ℕ) (spans : List HeaderSpan) (found : RequestSpans)
    (form : grammar.RequestHead)
    → IsRequestWithin text spans found → IsRequestAt text spans found form → found.len ≡ length text
    → length text ≤ most_bytes → length spans ≤ most_fields → IsOneHead text
    → IsRequestFound text spans found
request_found text spans found form within at whole short few ends =
    let fits = within.section.count_fits in
    let count = count_of_fields text spans found.headers form.fields at.fields fits in
    let reads : grammar.ReadsRequest text form [] = (
      at.reads.0,
      at.reads.1 ∙ ap (λ rest. grammar.print_request form ++ rest)
          (drop_all found.len text (omega arith)),
    )
    in
    record {
      form = form;
      within = within;
      at = at;
      is_text = record {
        reads = reads;
        few_fields = omega arith;
        target = raw_target text form reads short;
        short = short;
        ends = ends;
      };
    }

-- a token of the grammar is one for names and methods
pub token_is_kept : (name : List ℕ) → grammar.IsToken name → IsToken name
unfolding grammar.is_token_byte kept.is_token_byte
token_is_kept name token = token

-- a field line is longer than its name
longer_than_name : (f : grammar.Field) → length f.name + 1 ≤ length (grammar.print_field f)
longer_than_name f = rw length-append (omega (arith, length-append f.name (58 ∷ f.raw)))

-- some field, where an index asks for one
abbrev no_field : grammar.Field
no_field = record { name = []; raw = []; end = grammar.lf }

-- a name in a section is shorter than the section
name_in_section : (fields : List grammar.Field) (last : grammar.LineEnd) (k : ℕ) → k < length fields
    → length (get_or fields k no_field).name + 1 ≤ length (grammar.print_section fields last)
name_in_section fields last k inside =
    let some = length-flat_map-take grammar.print_field fields k no_field inside in
    rw length-append (omega (arith, some, longer_than_name (get_or fields k no_field)))

-- the spans of a section lie in the text, and what they cover can be kept
pub fields_at : (text : List ℕ) (spans : List HeaderSpan) (count : ℕ) (fields : List grammar.Field)
    → AreFieldsAt text spans count fields → count ≤ length spans → All grammar.IsField fields
    → All (IsHeaderWithin (length text)) (take count spans)
    → ((k : ℕ) → k < length fields → length (get_or fields k no_field).name ≤ 65535)
    → All (IsFieldAt text) (take count spans)
fields_at text spans count fields are fits valid within short = λ k d inside.
    let span = get_or (take count spans) k d in
    let field = get_or fields k no_field in
    let here : k < length fields =
    omega (
      arith,
      inside,
      length-take-le count spans fits,
      count_of_fields text spans count fields
          are fits,
    )
    in
    let same : header_bytes text span ≡ name_and_value field =
    sym (get_or-map (header_bytes text) (take count spans) k d ([], []) inside)
    ∙ ap (λ l. get_or l k ([], [])) are
    ∙ get_or-map name_and_value fields k no_field ([], []) here
    in
    let is = valid k no_field here in
    record {
      within = within k d inside;
      name =
          subst IsFieldName (sym (ap (λ p. p.0) same))
          (token_is_kept field.name is.name, short k here);
      value =
          subst IsFieldValue (sym (ap (λ p. p.1) same))
          (AllPass-trim_ows grammar.is_value_byte field.raw is.raw);
    }

-- what lies in the head lies in the text
IsHeaderWithin-more : (span : HeaderSpan) (n m : ℕ) → n ≤ m → IsHeaderWithin n span
    → IsHeaderWithin m span
IsHeaderWithin-more span n m more within = ((within.0.0, omega arith), (within.1.0, omega arith))

-- the section of a request head is no longer than the head
section_in_request : (h : grammar.RequestHead)
    → length (grammar.print_section h.fields h.last) ≤ length (grammar.print_request h ++ [])
section_in_request h =
    let size = simp length-append at (ap length (print_request-append h [])) in
    omega (
      arith,
      size,
      length-append (flat_map grammar.print_field h.fields)
          (grammar.print_end h.last),
      length-append (grammar.print_request h) [],
    )

-- the section of a response head is no longer than the head
section_in_response : (h : grammar.ResponseHead)
    → length (grammar.print_section h.fields h.last) ≤ length (grammar.print_response h ++ [])
section_in_response h =
    let size = simp length-append at (ap length (print_response-append h [])) in
    omega (
      arith,
      size,
      length-append (flat_map grammar.print_field h.fields)
          (grammar.print_end h.last),
      length-append (grammar.print_response h) [],
    )

-- the fields of a request that was found can be kept
pub request_fields_at : (text : List ℕ) (spans : List HeaderSpan) (found : RequestSpans)
    → IsRequestFound text spans found → All (IsFieldAt text) (take found.headers spans)
request_fields_at text spans found is =
    let section = is.within.section in
    let whole = ap length is.at.reads.1 in
    fields_at text spans found.headers is.form.fields is.at.fields section.count_fits
    is.is_text.reads.0.fields
    (λ k d inside. IsHeaderWithin-more (get_or (take found.headers spans) k d) found.len
    (length text) section.len_fits (section.headers_fit k d inside))
    (λ k inside.
    omega (
      arith,
      name_in_section is.form.fields is.form.last k inside,
      section_in_request is.form,
      ap length is.is_text.reads.1,
      is.is_text.short,
    ))

-- the fields of a response that was found can be kept
pub response_fields_at : (text : List ℕ) (spans : List HeaderSpan) (found : ResponseSpans)
    → IsResponseFound text spans found → All (IsFieldAt text) (take found.headers spans)
response_fields_at text spans found is =
    let section = is.within.section in
    fields_at text spans found.headers is.form.fields is.at.fields section.count_fits
    is.is_text.reads.0.fields
    (λ k d inside. IsHeaderWithin-more (get_or (take found.headers spans) k d) found.len
    (length text) section.len_fits (section.headers_fit k d inside))
    (λ k inside.
    omega (
      arith,
      name_in_section is.form.fields is.form.last k inside,
      section_in_response is.form,
      ap length is.is_text.reads.1,
      is.is_text.short,
    ))

-- a name and a value, as they are kept
abbrev kept_pair : List ℕ × List ℕ → List ℕ × FieldValue
kept_pair p = (lowercase p.0, plain_value p.1)

-- what the spans cover is what the grammar says
pub kept_same : (text : List ℕ) (spans : List HeaderSpan) (count : ℕ) (fields : List grammar.Field)
    → AreFieldsAt text spans count fields → kept_fields_at text (take count spans) ≡ kept_fields
    fields
kept_same text spans count fields are =
    ap (append_all []) (sym (map-map kept_pair (header_bytes text) (take count spans))
    ∙ ap (map kept_pair) are
    ∙ map-map kept_pair name_and_value fields)

-- one field more
pub append_all-push : (items : List (List ℕ × FieldValue)) (item : List ℕ × FieldValue)
    → append_all [] (items ++ item ∷ []) ≡ append (append_all [] items) item.0 item.1
append_all-push items item = fold_push (λ n i. append n i.0 i.1) [] items item

-- the values of the first name, and of the others
count_cons : (e : List ℕ × List FieldValue) (m : Entries FieldValue)
    → value_count (e ∷ m) ≡ length e.1 + value_count m
count_cons e m = sum_by-cons (λ e. length e.1) e m

-- one value more, and one name more at most
append_grows : (m : Entries FieldValue) (name : List ℕ) (value : FieldValue)
    → (length (append m name value) ≤ length m + 1) ×
    (value_count (append m name value) ≡ value_count m + 1)
append_grows [] name value = (lit≤ tt, refl)
append_grows (e ∷ m) name value =
    let more = append_grows m name value in
    let old = count_cons e m in
    elim (bytes_eq e.0 name) as (λ t.
    (length (cond t ((e.0, e.1 ++ value ∷ []) ∷ m) (e ∷ append m name value)) ≤ length (e ∷ m) + 1)
    × (value_count (cond t ((e.0, e.1 ++ value ∷ []) ∷ m) (e ∷ append m name value)) ≡ value_count
    (e ∷ m) + 1)) [
      | true ↦ (
        omega arith,
        omega (arith, count_cons (e.0, e.1 ++ value ∷ []) m, old, length-append e.1 (value ∷ [])),
      )
      | false ↦
          (omega (arith, more.0), omega (arith, count_cons e (append m name value), old, more.1))
    ]

-- a list holds no more than was put into it
append_all_grows : (items : List (List ℕ × FieldValue)) (m : Entries FieldValue)
    → (length (append_all m items) ≤ length m + length items)
    × (value_count (append_all m items) ≡ value_count m + length items)
append_all_grows [] m = (omega arith, omega arith)
append_all_grows (item ∷ items) m =
    let one = append_grows m item.0 item.1 in
    let others = append_all_grows items (append m item.0 item.1) in
    (omega (arith, one.0, others.0), omega (arith, one.1, others.1))

-- a list of few fields takes one more
pub takes_one_more : (items : List (List ℕ × FieldValue)) (name : List ℕ)
    → length items ≤ most_fields
    → ¬ (RefusesAppend (append_all [] items) name)
takes_one_more items name few refuses =
    let sizes = append_all_grows items [] in
    elim refuses [
      | inl full ↦ omega (arith, sizes.1, full)
      | inr no_room ↦ elim (no_room.1)
          [ inl names ↦ omega (arith, sizes.0, names) | inr full ↦ omega (arith, sizes.1, full) ]
    ]

-- a list of few kept fields takes one more
pub takes_one_more_kept : (text : List ℕ) (spans : List HeaderSpan) (fields : Entries FieldValue)
    (count : ℕ) (name : List ℕ)
    → length spans ≤ most_fields → count ≤ length spans
    → fields ≡ kept_fields_at text (take count spans)
    → ¬ (RefusesAppend fields name)
takes_one_more_kept text spans fields count name few inside are refuses =
    let items = map (kept_at text) (take count spans) in
    let size : length items ≤ most_fields =
    omega (arith, length-map (take count spans) (kept_at text), length-take-le count spans inside)
    in
    takes_one_more items name size (rw are at refuses)

-- what is not that error is out of memory
pub memory_alone : (error : Error) (failure : Fail) → IsMemoryOr error failure
    → ¬ (failure ≡ fail.Error error)
    → failure ≡ fail.OutOfMemory
memory_alone error fail.OutOfMemory either other = refl
memory_alone error (fail.Error given) either other = absurd (other (ap fail.Error either))

-- the head that was made says what the form says
pub made_request : (form : grammar.RequestHead) (method target : List ℕ) (minor : ℕ)
    (fields : Fields)
    (built versioned made : RequestHead)
    → built ≡ new_request method target → versioned ≡ record built { version = version_of minor }
    → made ≡ record versioned { fields = fields } → method ≡ form.method → target ≡ form.target
    → minor ≡ form.minor → fields ≡ kept_fields form.fields → made ≡ request_of form
made_request form method target minor fields built versioned made b v m method_is target_is
    minor_is fields_are =
    rw (m, v, b, method_is, target_is, minor_is, fields_are) refl

-- the same for a response
pub made_response : (form : grammar.ResponseHead) (status minor : ℕ) (fields : Fields)
    (built versioned made : ResponseHead)
    → built ≡ new_response status → versioned ≡ record built { version = version_of minor }
    → made ≡ record versioned { fields = fields } → status ≡ grammar.status_code form
    → minor ≡ form.minor → fields ≡ kept_fields form.fields → made ≡ response_of form
made_response form status minor fields built versioned made b v m status_is minor_is fields_are =
    rw (m, v, b, status_is, minor_is, fields_are) refl

-- where only memory is wanted, nothing is refused
pub never_refused : {T : Type 0} (result : Result T Fail) (error : Error)
    → IsOkUnless result fail.OutOfMemory
    → ¬ (IsErrOf result (fail.Error error))
never_refused (Ok x) error memory is = cc
never_refused (Err failure) error memory is = cc

-- a request that was found is not refused
pub found_is_read : (text : List ℕ) (spans : List HeaderSpan) (found : RequestSpans)
    → IsRequestFound text spans found
    → (head : RequestHead) × ReadsRequest text head
found_is_read text spans found is =
    (request_of is.form, record { form = is.form; is_text = is.is_text; is = refl })

-- a response that was found is not refused
pub found_is_answer : (text : List ℕ) (spans : List HeaderSpan) (found : ResponseSpans)
    → IsResponseFound text spans found
    → (head : ResponseHead) × ReadsResponse text head
found_is_answer text spans found is =
    (response_of is.form, record { form = is.form; is_text = is.is_text; is = refl })

-- a text says one head at most
pub request_head_unique : (text : List ℕ) (a b : RequestHead) → ReadsRequest text a
    → ReadsRequest text b → a ≡ b
request_head_unique text a b x y =
    x.is ∙ ap request_of
    (request_unique text x.form y.form [] [] x.is_text.reads y.is_text.reads).0 ∙ sym y.is

-- a text says one response head at most
pub response_head_unique : (text : List ℕ) (a b : ResponseHead) → ReadsResponse text a
    → ReadsResponse text b → a ≡ b
response_head_unique text a b x y =
    x.is ∙ ap response_of
    (response_unique text x.form y.form [] [] x.is_text.reads y.is_text.reads).0 ∙ sym y.is
