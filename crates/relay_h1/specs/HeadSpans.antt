-- A head as the parser found it: offsets into its text.
use Rattle.std.specs.Prelude.{ℕ, List, [], length, map}
use Rattle.http_header.specs.FieldName.{IsFieldName}
use Rattle.http_header.specs.FieldValue.{FieldValue, IsFieldValue, plain_value}
use Rattle.http_header.specs.HeaderMap.{append_all}
use Rattle.http_header.specs.Token.{lowercase}
use Rattle.httparse.specs.Grammar as grammar
use Rattle.httparse.specs.Spans.{span_bytes, IsHeaderWithin, IsRequestWithin, IsResponseWithin, IsRequestAt, IsResponseAt}
use Rattle.httparse.specs.declared.spans.HeaderSpan.{HeaderSpan}
use Rattle.httparse.specs.declared.spans.RequestSpans.{RequestSpans}
use Rattle.httparse.specs.declared.spans.ResponseSpans.{ResponseSpans}
use Rattle.relay_tasks.specs.Head.{Fields}
use Rattle.relay_h1.specs.Head.{IsRequestText, IsResponseText}

-- the field under the spans, as it is kept
abbrev pub kept_at : List ℕ → HeaderSpan → List ℕ × FieldValue
kept_at text span =
    (lowercase (span_bytes text span.name), plain_value (span_bytes text span.value))

-- the fields under the spans, in their order, those of one name together
abbrev pub kept_fields_at : List ℕ → List HeaderSpan → Fields
kept_fields_at text spans = append_all [] (map (kept_at text) spans)

-- the spans lie in the text, and what they cover can be kept
pub record IsFieldAt (text : List ℕ) (span : HeaderSpan) : Type 0 where
  pub within : IsHeaderWithin (length text) span
  pub name : IsFieldName (span_bytes text span.name)
  pub value : IsFieldValue (span_bytes text span.value)

-- the text, whole, is a request head, and the spans cover its parts
pub record IsRequestFound
    (text : List ℕ) (spans : List HeaderSpan) (found : RequestSpans) : Type 0 where
  pub form : grammar.RequestHead
  pub within : IsRequestWithin text spans found
  pub at : IsRequestAt text spans found form
  pub is_text : IsRequestText text form

-- the same for a response
pub record IsResponseFound
    (text : List ℕ) (spans : List HeaderSpan) (found : ResponseSpans) : Type 0 where
  pub form : grammar.ResponseHead
  pub within : IsResponseWithin text spans found
  pub at : IsResponseAt text spans found form
  pub is_text : IsResponseText text form
