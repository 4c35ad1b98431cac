-- Values: what each kind of JSON value that a script is made of is read as, and what is at the keys
-- of an object.
use Rattle.std.specs.Prelude.{◌≡◌, ℕ, ◌^◌, nat_lt, List, [], ◌∷◌, Bool, if◌then◌else◌, Option, Some, None, option_map, is_some, unwrap_or, Result, Ok, Err, codes}
use Rattle.std.specs.Str.{bytes_eq}
use Rattle.serde_json.specs.Data.{Data, number, string, boolean, array, unsigned, Items, no_items, item}
use Rattle.serde_json.specs.Events.{members_len}
use Rattle.serde_json.specs.Find.{get, as_object}
use Rattle.relay_tasks.specs.declared.error.RetryType.{RetryType}
use Rattle.relay_tasks.specs.declared.error.RetryType.TheVariants.{Decided, ReusedOnly}
use Rattle.relay_json.specs.declared.script.ScriptError.{ScriptError}
use Rattle.relay_json.specs.declared.script.ScriptError.TheVariants as error

-- what is read, and then what is read of it
infixl 10 ◌>>=◌
abbrev pub ◌>>=◌ : {A B : Type 0} → Option A → (A → Option B) → Option B
None >>= f = None
(Some x) >>= f = f x

-- how many keys an object has, each counted once
abbrev pub key_count : Data → ℕ
key_count value = unwrap_or (option_map members_len (as_object value)) 0

-- 1 where the object has the key, and else 0
abbrev pub has : List ℕ → Data → ℕ
has key value = if is_some (get key value) then 1 else 0

-- what is at a key decides, where there is such a key
abbrev pub where_there : {X : Type 0} → Option Data → (Data → Option X) → Option X → Option X
where_there None read other = other
where_there (Some value) read other = read value

-- any text
abbrev pub text_of : Data → Option (List ℕ)
text_of (string text) = Some text
text_of _ = None

-- yes or no
abbrev pub flag_of : Data → Option Bool
flag_of (boolean on) = Some on
flag_of _ = None

-- a number: whole and below 2^32
abbrev pub count_of : Data → Option ℕ
count_of (number (unsigned n)) = if nat_lt n (2 ^ 32) then Some n else None
count_of _ = None

-- a retry mark: decided, or only where the link had been used before
abbrev pub retry_of : Data → Option RetryType
retry_of (boolean on) = Some (Decided on)
retry_of (string word) = if bytes_eq word (codes "reused") then Some ReusedOnly else None
retry_of _ = None

-- what each of a list is, where each is something
abbrev pub each_of : {X : Type 0} → (Data → Option X) → Items → Option (List X)
each_of read no_items = Some []
each_of read (item value values) =
    read value >>= (λ first. option_map (λ rest. first ∷ rest) (each_of read values))

-- a list of items
abbrev pub list_of : {X : Type 0} → (Data → Option X) → Data → Option (List X)
list_of read (array values) = each_of read values
list_of read _ = None

-- what a reader returned, seen by a view, is what the grammar reads, unless memory ran out
abbrev pub Reads : {X Y : Type 0} → (X → Y) → Result X ScriptError → Option Y → Type 0
Reads view (Ok x) read = read ≡ Some (view x)
Reads view (Err error.Refused) read = read ≡ None
Reads view (Err error.HookNotCalled) read = read ≡ None
Reads view (Err error.OutOfMemory) read = Unit {0}
