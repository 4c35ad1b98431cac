-- The relation of an application that writes texts in upper case: which entry of the log each call
-- of a hook makes.
use Rattle.std.specs.Prelude.{◌≡◌, ℕ, Bool, true, false, ◌==◌, nat_eq, if◌then◌else◌, List, map, codes, Option, Some, None}
use Rattle.std.specs.Char.{to_ascii_uppercase}
use Rattle.std.specs.List.{starts_with}
use Rattle.http_header.specs.FieldValue.{FieldValue, plain_value}
use Rattle.http_header.specs.HeaderMap.{RefusesInsert, get, insert}
use Rattle.relay_tasks.specs.Error.{refused}
use Rattle.relay_tasks.specs.Head.{ResponseHead}
use Rattle.relay_tasks.specs.declared.context.Context.TheVariants as about
use Rattle.relay_tasks.specs.declared.error.Error.{Error}
use Rattle.relay_tasks.specs.declared.hook.Hook.{Hook}
use Rattle.relay_tasks.specs.declared.hook.Hook.TheVariants as hook
use Rattle.relay_tasks.specs.declared.log.Item.{Item}
use Rattle.relay_tasks.specs.declared.log.Item.TheVariants as item
use Rattle.relay_tasks.specs.declared.log.LogEntry.{LogEntry}
use Rattle.relay_tasks.specs.declared.peer.Peer.{Peer}
use Rattle.relay_hooks.specs.DefaultLaw.{IsDefaultWrote, default_output}
use Rattle.relay_hooks.specs.Standing.{Standing}

-- ---- a text

-- by its Content-Type and its Content-Encoding: a text that is not coded
abbrev pub is_text_of : Option FieldValue → Option FieldValue → Bool
is_text_of None coding = false
is_text_of (Some media_type) None = starts_with nat_eq media_type.bytes (codes "text/")
is_text_of (Some media_type) (Some coding) = false

-- the body behind the head is a text that is not coded
abbrev pub is_text : ResponseHead → Bool
is_text head =
    is_text_of (get head.fields (codes "content-type")) (get head.fields (codes "content-encoding"))

-- the mark of the context: whether the head that passed last is that of a text
abbrev pub text_mark : Bool → ℕ
text_mark true = 1
text_mark false = 0

-- ---- what is made of it

-- the head of a text says that its body is in upper case; another one stays
abbrev pub told : ResponseHead → ResponseHead
told head =
    if is_text head
    then record head { fields = insert head.fields (codes "x-case") (plain_value (codes "upper")) }
    else head

-- the ASCII letters of a piece in upper case
abbrev pub upper : Option (List ℕ) → Option (List ℕ)
upper None = None
upper (Some bytes) = Some (map to_ascii_uppercase bytes)

-- a piece behind a head of that mark: in upper case where that is of a text
abbrev pub passed : ℕ → Option (List ℕ) → Option (List ℕ)
passed mark piece = if mark == 0 then piece else upper piece

-- ---- the entries

-- the head of a text has no room for the field: that is the error
pub record IsFull (head : ResponseHead) (error : Error) : Type 0 where
  pub text : is_text head ≡ true
  pub full : RefusesInsert head.fields (codes "x-case")
  pub says : error ≡ refused about.HeadTooLong

-- the head is told; or there is no room for the field, and it stays
abbrev pub TellsHead : Item → Item → Option Error → Type 0
TellsHead (item.Response head end) output None = output ≡ item.Response (told head) end
TellsHead (item.Response head end) output (Some error) =
    (output ≡ item.Response head end) × IsFull head error
TellsHead other output error = (output ≡ other) × (error ≡ None)

-- the piece is passed
abbrev pub passed_item : ℕ → Item → Item
passed_item mark (item.Piece bytes end) = item.Piece (passed mark bytes) end
passed_item mark other = other

-- what a hook leaves or answers, and its error
abbrev pub Does : Peer → Standing → Hook → Item → Item → Option Error → Type 0
Does peer st hook.ResponseFilter input output error = TellsHead input output error
Does peer st hook.ResponseBodyFilter input output error =
    (output ≡ passed_item st.mark input) × (error ≡ None)
Does peer st other input output error =
    (output ≡ default_output peer st other input) × (error ≡ None)

-- the mark behind a head
abbrev pub mark_of_head : Item → ℕ → ℕ
mark_of_head (item.Response head end) mark = text_mark (is_text head)
mark_of_head other mark = mark

-- the mark behind a call: a head sets it, and all else leaves it
abbrev pub next_mark : Hook → Item → ℕ → ℕ
next_mark hook.ResponseFilter input mark = mark_of_head input mark
next_mark other input mark = mark

-- the entry of a call: heads of texts are told, their pieces are in upper case, and all else is as
-- by default
pub record IsUpperCase (peer : Peer) (st : Standing) (e : LogEntry) : Type 0 where
  pub before : e.mark_before ≡ st.mark
  pub after : e.mark_after ≡ next_mark e.hook e.input st.mark
  pub does : Does peer st e.hook e.input e.output e.error
  pub wrote : IsDefaultWrote st e.hook e.input e.wrote
  pub head : e.head ≡ None
  pub keepalive : e.keepalive ≡ st.keepalive
  pub delay : e.delay ≡ None
