-- What the text of a message head says (RFC 9112, sections 2 to 5).
use Rattle.std.specs.Prelude.{◌≡◌, ℕ, ◌≤◌, List, [], length, map, if◌then◌else◌, ◌==◌, nat_lt, Some, None, true}
use Rattle.http.specs.declared.Version.{Version}
use Rattle.http.specs.declared.version.TheConstants.Version.{HTTP_10, HTTP_11}
use Rattle.http_header.specs.FieldValue.{FieldValue, plain_value}
use Rattle.http_header.specs.HeaderMap.{append_all}
use Rattle.http_header.specs.Token.{lowercase}
use Rattle.httparse.specs.Grammar as grammar
use Rattle.relay_tasks.specs.declared.context.Context.TheVariants.{HeadGrammar, HeadTooLong}
use Rattle.relay_tasks.specs.declared.error.Error.{Error}
use Rattle.relay_tasks.specs.Error.{refused}
use Rattle.relay_tasks.specs.Head.{Fields, RequestHead, ResponseHead, IsRawTarget, IsStatus}
use Rattle.relay_h1.specs.HeadEnd.{head_end}

-- how many fields a head may have
abbrev pub most_fields : ℕ
most_fields = 256

-- how many bytes a head may have
abbrev pub most_bytes : ℕ
most_bytes = 65536

-- a field as it is kept: its name in lower case, its value without the blanks around it
abbrev pub kept_field : grammar.Field → List ℕ × FieldValue
kept_field f = (lowercase f.name, plain_value (grammar.field_value f))

-- the fields in the order of their lines, those of one name together
abbrev pub kept_fields : List grammar.Field → Fields
kept_fields fields = append_all [] (map kept_field fields)

-- HTTP/1.0 or HTTP/1.1
abbrev pub version_of : ℕ → Version
version_of minor = if minor == 0 then HTTP_10 else HTTP_11

-- the request head that a form of the grammar says
abbrev pub request_of : grammar.RequestHead → RequestHead
request_of form =
    record {
      method = form.method;
      version = version_of form.minor;
      target = form.target;
      uri = None;
      fields = kept_fields form.fields;
      ends = true;
    }

-- the response head that a form of the grammar says
abbrev pub response_of : grammar.ResponseHead → ResponseHead
response_of form =
    record {
      status = grammar.status_code form;
      version = version_of form.minor;
      fields = kept_fields form.fields;
    }

-- the text is one head: it ends at its first CR LF CR LF, and nowhere else
abbrev pub IsOneHead : List ℕ → Type 0
IsOneHead text = head_end text ≡ Some (length text)

-- the text, whole, is that form of a request head, which keeps the limits
pub record IsRequestText (text : List ℕ) (form : grammar.RequestHead) : Type 0 where
  pub reads : grammar.ReadsRequest text form []
  pub few_fields : length form.fields ≤ most_fields
  pub target : IsRawTarget form.target
  pub short : length text ≤ most_bytes
  pub ends : IsOneHead text

-- the text, whole, is that form of a response head, which keeps the limits
pub record IsResponseText (text : List ℕ) (form : grammar.ResponseHead) : Type 0 where
  pub reads : grammar.ReadsResponse text form []
  pub few_fields : length form.fields ≤ most_fields
  pub status : IsStatus (grammar.status_code form)
  pub short : length text ≤ most_bytes
  pub ends : IsOneHead text

-- the text is a request head that says `head`
pub record ReadsRequest (text : List ℕ) (head : RequestHead) : Type 0 where
  pub form : grammar.RequestHead
  pub is_text : IsRequestText text form
  pub is : head ≡ request_of form

-- the text is a response head that says `head`
pub record ReadsResponse (text : List ℕ) (head : ResponseHead) : Type 0 where
  pub form : grammar.ResponseHead
  pub is_text : IsResponseText text form
  pub is : head ≡ response_of form

-- the text is no request head
abbrev pub RefusesRequest : List ℕ → Type 0
RefusesRequest text = (head : RequestHead) → ¬ (ReadsRequest text head)

-- the text is no response head
abbrev pub RefusesResponse : List ℕ → Type 0
RefusesResponse text = (head : ResponseHead) → ¬ (ReadsResponse text head)

-- why a text is no head: it is too long, or the grammar does not read it
abbrev pub head_refusal : List ℕ → Error
head_refusal text =
    if nat_lt most_bytes (length text) then refused HeadTooLong else refused HeadGrammar
