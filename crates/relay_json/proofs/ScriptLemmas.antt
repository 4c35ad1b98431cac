-- Items read one after another.
use Rattle.std.proofs.Common.{◌≡◌, ℕ, suc, ◌+◌, ◌<◌, ◌≤◌, nat_le, List, [], ◌∷◌, ◌++◌, length, get_or, drop, Option, Some, None, option_map, Bool, true, false, if◌then◌else◌, refl, sym, ap, ◌∙◌, arith, append_assoc, add-one, drop-cons}
use Rattle.std.specs.Str.{IsUtf8, is_utf8}
use Rattle.std.proofs.lemmas.Bool.{lt-leb, le-leb}
use Rattle.std.proofs.lemmas.Str.{IsUtf8-from_is_utf8, is_utf8-from_IsUtf8}
use Rattle.serde_json.specs.Data.{Data}
use Rattle.serde_json.specs.Events.{items_len}
use Rattle.serde_json.specs.Read.{read}
use Rattle.serde_json.specs.View.{view, items_view}
use Rattle.serde_json.specs.declared.value.Value.{Value}
use Rattle.relay_json.specs.Script.{list_limit, peer_of, peers_in, reads_value}
use Rattle.relay_json.specs.Values.{each_of}

-- what was read before, and then what is read
abbrev pub with_front : {X : Type 0} → List X → Option (List X) → Option (List X)
with_front front read = option_map (λ rest. front ++ rest) read

-- nothing was read before
pub with_front-nil : {X : Type 0} (read : Option (List X)) → with_front [] read ≡ read
with_front-nil None = refl
with_front-nil (Some items) = refl

-- one more item at the front
with_front-more : {X : Type 0} (front : List X) (x : X) (read : Option (List X))
    → with_front (front ++ x ∷ []) read ≡ with_front front (option_map (λ rest. x ∷ rest) read)
with_front-more front x None = refl
with_front-more front x (Some items) = ap Some (append_assoc front (x ∷ []) items)

-- an item was read at a place: the rest follows it
pub item_more : {X : Type 0} (reads : Data → Option X) (values : List Value) (i : ℕ) (value : Value)
    (front : List X) (x : X)
    → i < length values → value ≡ get_or values i value → reads (view value) ≡ Some x
    → with_front (front ++ x ∷ []) (each_of reads (items_view (drop (i + 1) values)))
    ≡ with_front front (each_of reads (items_view (drop i values)))
item_more reads values i value front x within is read =
    let here : drop i values ≡ value ∷ drop (i + 1) values =
    rw add-one (drop-cons values i value within ∙ ap (λ v. v ∷ drop (suc i) values) (sym is)) in
    with_front-more front x _ ∙ rw (here, read)

-- no item was read at a place: no list is read
pub item_none : {X : Type 0} (reads : Data → Option X) (values : List Value) (i : ℕ) (value : Value)
    (front : List X)
    → i < length values → value ≡ get_or values i value → reads (view value) ≡ None
    → with_front front (each_of reads (items_view (drop i values))) ≡ None
item_none reads values i value front within is read =
    let here : drop i values ≡ value ∷ drop (i + 1) values =
    rw add-one (drop-cons values i value within ∙ ap (λ v. v ∷ drop (suc i) values) (sym is)) in
    rw (here, read)

-- a list has as many values as it is seen to have
view_len : (values : List Value) → items_len (items_view values) ≡ length values
view_len [] = refl
view_len (value ∷ values) = ap suc (view_len values)

-- by whether a list has few enough values
peers_at : (few : Bool) (values : List Value)
    → nat_le (items_len (items_view values)) list_limit ≡ few
    → peers_in (items_view values)
    ≡ (if few then each_of peer_of (items_view values) else None)
peers_at few values is = rw is

-- a list of too many values is no list of peers
pub peers_many : (values : List Value) → 1024 < length values → peers_in (items_view values) ≡ None
peers_many values many =
    peers_at false values (lt-leb (items_len (items_view values)) list_limit
    (omega (arith, many, view_len values)))

-- one of few enough is that of the peers that they are
pub peers_few : (values : List Value) → length values ≤ 1024
    → peers_in (items_view values) ≡ each_of peer_of (items_view values)
peers_few values few =
    peers_at true values (le-leb (items_len (items_view values)) list_limit
    (omega (arith, few, view_len values)))

none_at : (utf8 : Bool) (bytes : List ℕ) → is_utf8 bytes ≡ utf8 → (IsUtf8 bytes → read bytes ≡ None)
    → (if utf8 then read bytes else None) ≡ None
none_at true bytes is refused = refused (IsUtf8-from_is_utf8 bytes is)
none_at false bytes is refused = refl

-- a text that is refused, or no text, spells no value
pub reads_value-none : (bytes : List ℕ) → (IsUtf8 bytes → read bytes ≡ None)
    → reads_value bytes ≡ None
reads_value-none bytes refused = none_at (is_utf8 bytes) bytes refl refused

-- a text spells what it is read as
pub reads_value-text : (bytes : List ℕ) (value : Data) → IsUtf8 bytes → read bytes ≡ Some value
    → reads_value bytes ≡ Some value
reads_value-text bytes value text is = rw (is_utf8-from_IsUtf8 bytes text) is
