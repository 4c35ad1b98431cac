-- Informational heads: there is one list of them, and more bytes leave it as it is.
use Rattle.std.proofs.Common.{◌≡◌, ℕ, zero, suc, ◌+◌, ◌<◌, ◌≤◌, Bool, true, false, cond, Some, List, [], ◌∷◌, ◌++◌, length, drop, refl, sym, ap, subst, ◌∙◌, arith, length-append, length-drop}
use Rattle.std.proofs.lemmas.List.{drop-append-le, drop-drop}
use Rattle.relay_tasks.specs.Head.{ResponseHead}
use Rattle.relay_tasks.specs.declared.context.Context.{Context}
use Rattle.relay_h1.specs.declared.framing.Framing.{Framing}
use Rattle.relay_h1.specs.declared.framing.Framing.TheVariants as framing
use Rattle.relay_h1.specs.declared.framing.LengthField.{LengthField}
use Rattle.relay_h1.specs.declared.framing.LengthField.TheVariants as length_field
use Rattle.relay_h1.specs.declared.framing.CodingField.{CodingField}
use Rattle.relay_h1.specs.declared.framing.CodingField.TheVariants as coding_field
use Rattle.relay_h1.specs.Framing.{response_table, has_no_body, response_framing}
use Rattle.relay_h1.specs.ClientHead.{is_informational}
use Rattle.relay_h1.specs.Verdict.{IsOpen, HasResponse, IsRefusedResponse}
use Rattle.relay_h1.specs.Tasks as tasks
use Rattle.relay_h1.specs.Tasks.{Informs, HasFinal, IsOpenBehind, IsRefusedBehind}
use Rattle.relay_h1.proofs.HeadEndLemmas.{head_end-within}
use Rattle.relay_h1.proofs.VerdictLemmas.{HasResponse-unique, HasResponse-append, HasResponse-IsOpen, HasResponse-IsRefusedResponse, IsRefusedResponse-IsOpen, IsRefusedResponse-append}

-- the head at the front ends within the bytes
within_of : (method : List ℕ) (asked : Bool) (bytes : List ℕ) (head : ResponseHead)
    (framing : Framing) (len : ℕ) → HasResponse method asked bytes head framing len
    → len ≤ length bytes
within_of method asked bytes head framing len has =
    (head_end-within bytes len has.starts.ends).1

-- such heads stand within the bytes
pub Informs-within : (method : List ℕ) (asked : Bool) (bytes : List ℕ)
    (heads : List ResponseHead) (n : ℕ) → Informs method asked bytes heads n → n ≤ length bytes
Informs-within method asked bytes heads n (tasks.Informs.none_came _) = omega arith
Informs-within method asked bytes heads n
    (tasks.Informs.one_came _ head framing len rest k has inform informs) =
    omega (
      arith,
      within_of method asked bytes head framing len has,
      Informs-within method asked (drop len bytes) rest k informs,
      length-drop len bytes,
    )

-- and stay when more bytes come
pub Informs-append : (method : List ℕ) (asked : Bool) (bytes more : List ℕ)
    (heads : List ResponseHead) (n : ℕ) → Informs method asked bytes heads n
    → Informs method asked (bytes ++ more) heads n
Informs-append method asked bytes more heads n (tasks.Informs.none_came _) =
    tasks.Informs.none_came (bytes ++ more)
Informs-append method asked bytes more heads n
    (tasks.Informs.one_came _ head framing len rest k has inform informs) =
    tasks.Informs.one_came (bytes ++ more) head framing len rest k
    (HasResponse-append method asked bytes more head framing len has) inform
    (subst (λ (xs : List ℕ). Informs method asked xs rest k)
    (sym (drop-append-le len bytes more (within_of method asked bytes head framing len has)))
    (Informs-append method asked (drop len bytes) more rest k informs))

-- one more head behind them
pub Informs-more : (method : List ℕ) (asked : Bool) (bytes : List ℕ) (heads : List ResponseHead)
    (n : ℕ) (head : ResponseHead) (framing : Framing) (len : ℕ)
    → Informs method asked bytes heads n
    → HasResponse method asked (drop n bytes) head framing len
    → is_informational head.status ≡ true
    → Informs method asked bytes (heads ++ head ∷ []) (n + len)
Informs-more method asked bytes heads n head framing len (tasks.Informs.none_came _) has inform =
    subst (λ (k : ℕ). Informs method asked bytes (head ∷ []) k) (plus_zero len)
    (tasks.Informs.one_came bytes head framing len [] 0 has inform (tasks.Informs.none_came _))
  where
    plus_zero : (k : ℕ) → k + 0 ≡ 0 + k
    plus_zero k = omega arith
Informs-more method asked bytes heads n head framing len
    (tasks.Informs.one_came _ first f m rest k had informed informs) has inform =
    subst (λ (j : ℕ). Informs method asked bytes (first ∷ rest ++ head ∷ []) j) (regroup m k len)
    (tasks.Informs.one_came bytes first f m (rest ++ head ∷ []) (k + len) had informed
    (Informs-more method asked (drop m bytes) rest k head framing len informs
    (subst (λ (xs : List ℕ). HasResponse method asked xs head framing len)
    (sym (drop-drop k m bytes)) has) inform))
  where
    regroup : (a b c : ℕ) → a + (b + c) ≡ (a + b) + c
    regroup a b c = omega arith

-- no informational head stands at the front
pub record Stops (method : List ℕ) (asked : Bool) (bytes : List ℕ) : Type 0 where
  pub none : (head : ResponseHead) (framing : Framing) (len : ℕ)
      → HasResponse method asked bytes head framing len → is_informational head.status ≡ true → ⊥

-- an open head is none
pub Stops-open : (method : List ℕ) (asked : Bool) (bytes : List ℕ) → IsOpen bytes
    → Stops method asked bytes
Stops-open method asked bytes still = record {
  none = λ head framing len has inform.
      HasResponse-IsOpen method asked bytes head framing len has still;
}

-- nor is what is refused
pub Stops-refused : (method : List ℕ) (asked : Bool) (bytes : List ℕ) (why : Context)
    → IsRefusedResponse method asked bytes why → Stops method asked bytes
Stops-refused method asked bytes why refused = record {
  none = λ head framing len has inform.
      HasResponse-IsRefusedResponse method asked bytes head framing len why has refused;
}

-- nor is a final head
pub Stops-final : (method : List ℕ) (asked : Bool) (bytes : List ℕ) (head : ResponseHead)
    (framing : Framing) (len : ℕ) → HasResponse method asked bytes head framing len
    → is_informational head.status ≡ false → Stops method asked bytes
Stops-final method asked bytes head framing len has final = record {
  none = λ other f m had inform.
      apart (sym inform
      ∙ ap (λ (h : ResponseHead). is_informational h.status)
      (HasResponse-unique method asked bytes other head f framing m len had has).0
      ∙ final);
}
  where
    apart : true ≡ false → ⊥
    apart same = cc

-- two lists of such heads, where none follows either, are one
pub Informs-unique : (method : List ℕ) (asked : Bool) (bytes : List ℕ)
    (a b : List ResponseHead) (n m : ℕ) → Informs method asked bytes a n
    → Stops method asked (drop n bytes) → Informs method asked bytes b m
    → Stops method asked (drop m bytes) → (a ≡ b) × (n ≡ m)
Informs-unique method asked bytes a b n m (tasks.Informs.none_came _) stop
    (tasks.Informs.none_came _) halt = (refl, refl)
Informs-unique method asked bytes a b n m (tasks.Informs.none_came _) stop
    (tasks.Informs.one_came _ head framing len rest k has inform informs) halt =
    absurd (stop.none head framing len has inform)
Informs-unique method asked bytes a b n m
    (tasks.Informs.one_came _ head framing len rest k has inform informs) stop
    (tasks.Informs.none_came _) halt = absurd (halt.none head framing len has inform)
Informs-unique method asked bytes a b n m
    (tasks.Informs.one_came _ head framing len rest k has inform informs) stop
    (tasks.Informs.one_came _ other f l more j had informed follows) halt =
    let same = HasResponse-unique method asked bytes head other framing f len l has had in
    let tails = Informs-unique method asked (drop len bytes) rest more k j informs
    (subst (λ (xs : List ℕ). Stops method asked xs) (sym (drop-drop k len bytes)) stop)
    (subst (λ (i : ℕ). Informs method asked (drop i bytes) more j) (sym same.2) follows)
    (subst (λ (xs : List ℕ). Stops method asked xs)
    (sym (drop-drop j l bytes) ∙ ap (λ (i : ℕ). drop j (drop i bytes)) (sym same.2)) halt) in (
      ap (λ (h : ResponseHead). h ∷ rest) same.0
          ∙ ap (λ (hs : List ResponseHead). other ∷ hs) tails.0,
      omega (arith, same.2, tails.1),
    )

-- such heads, where none follows them, begin with any others
pub Informs-front : (method : List ℕ) (asked : Bool) (bytes : List ℕ)
    (a b : List ResponseHead) (n m : ℕ) → Informs method asked bytes a n
    → Informs method asked bytes b m → Stops method asked (drop m bytes)
    → (rest : List ResponseHead) × (b ≡ a ++ rest)
Informs-front method asked bytes a b n m (tasks.Informs.none_came _) follows halt = (b, refl)
Informs-front method asked bytes a b n m
    (tasks.Informs.one_came _ head framing len rest k has inform informs)
    (tasks.Informs.none_came _) halt = absurd (halt.none head framing len has inform)
Informs-front method asked bytes a b n m
    (tasks.Informs.one_came _ head framing len rest k has inform informs)
    (tasks.Informs.one_came _ other f l more j had informed follows) halt =
    let same = HasResponse-unique method asked bytes head other framing f len l has had in
    let tails = Informs-front method asked (drop len bytes) rest more k j informs
    (subst (λ (i : ℕ). Informs method asked (drop i bytes) more j) (sym same.2) follows)
    (subst (λ (xs : List ℕ). Stops method asked xs)
    (sym (drop-drop j l bytes) ∙ ap (λ (i : ℕ). drop j (drop i bytes)) (sym same.2)) halt) in (
      tails.0,
      ap (λ (h : ResponseHead). h ∷ more) (sym same.0)
          ∙ ap (λ (hs : List ResponseHead). head ∷ hs) tails.1,
    )

-- ---- final heads

pub HasFinal-stops : (method : List ℕ) (asked : Bool) (bytes : List ℕ)
    (informed : List ResponseHead) (head : ResponseHead) (framing : Framing) (len : ℕ)
    (f : HasFinal method asked bytes informed head framing len)
    → Stops method asked (drop f.place bytes)
HasFinal-stops method asked bytes informed head framing len f =
    Stops-final method asked (drop f.place bytes) head framing f.own f.has f.final

-- a final head ends within the bytes, and has some
pub HasFinal-within : (method : List ℕ) (asked : Bool) (bytes : List ℕ)
    (informed : List ResponseHead) (head : ResponseHead) (framing : Framing) (len : ℕ)
    → HasFinal method asked bytes informed head framing len → (4 ≤ len) × (len ≤ length bytes)
HasFinal-within method asked bytes informed head framing len f =
    let ends = head_end-within (drop f.place bytes) f.own f.has.starts.ends in
    let inside = Informs-within method asked bytes informed f.place f.informs in (
      omega (arith, ends.0, f.ends),
      omega (arith, ends.1, f.ends, inside, length-drop f.place bytes),
    )

-- a final head stays when more bytes come
pub HasFinal-append : (method : List ℕ) (asked : Bool) (bytes more : List ℕ)
    (informed : List ResponseHead) (head : ResponseHead) (framing : Framing) (len : ℕ)
    → HasFinal method asked bytes informed head framing len
    → HasFinal method asked (bytes ++ more) informed head framing len
HasFinal-append method asked bytes more informed head framing len f = record {
  place = f.place;
  own = f.own;
  informs = Informs-append method asked bytes more informed f.place f.informs;
  has = subst (λ (xs : List ℕ). HasResponse method asked xs head framing f.own)
      (sym (drop-append-le f.place bytes more
      (Informs-within method asked bytes informed f.place f.informs)))
      (HasResponse-append method asked (drop f.place bytes) more head framing f.own f.has);
  final = f.final;
  ends = f.ends;
}

-- what two final heads of the same bytes share: all
pub record SameFinal (a b : List ResponseHead) (x y : ResponseHead) (f g : Framing) (n m : ℕ)
    : Type 0 where
  pub informed : a ≡ b
  pub head : x ≡ y
  pub framing : f ≡ g
  pub len : n ≡ m

-- there is one final head
pub HasFinal-unique : (method : List ℕ) (asked : Bool) (bytes : List ℕ)
    (a b : List ResponseHead) (head other : ResponseHead) (framing f : Framing) (len l : ℕ)
    → HasFinal method asked bytes a head framing len → HasFinal method asked bytes b other f l
    → SameFinal a b head other framing f len l
HasFinal-unique method asked bytes a b head other framing f len l x y =
    let places = Informs-unique method asked bytes a b x.place y.place x.informs
    (HasFinal-stops method asked bytes a head framing len x) y.informs
    (HasFinal-stops method asked bytes b other f l y) in
    let same = HasResponse-unique method asked (drop x.place bytes) head other framing f x.own y.own
    x.has (subst (λ (n : ℕ). HasResponse method asked (drop n bytes) other f y.own)
    (sym places.1) y.has) in
    record {
      informed = places.0;
      head = same.0;
      framing = same.1;
      len = omega (arith, x.ends, y.ends, places.1, same.2);
    }

-- a final head is not open
pub HasFinal-IsOpenBehind : (method : List ℕ) (asked : Bool) (bytes : List ℕ)
    (a b : List ResponseHead) (head : ResponseHead) (framing : Framing) (len : ℕ)
    → HasFinal method asked bytes a head framing len → IsOpenBehind method asked bytes b → ⊥
HasFinal-IsOpenBehind method asked bytes a b head framing len x y =
    let places = Informs-unique method asked bytes a b x.place y.place x.informs
    (HasFinal-stops method asked bytes a head framing len x) y.informs
    (Stops-open method asked (drop y.place bytes) y.is_open) in
    HasResponse-IsOpen method asked (drop x.place bytes) head framing x.own x.has
    (subst (λ (n : ℕ). IsOpen (drop n bytes)) (sym places.1) y.is_open)

-- nor refused
pub HasFinal-IsRefusedBehind : (method : List ℕ) (asked : Bool) (bytes : List ℕ)
    (a b : List ResponseHead) (head : ResponseHead) (framing : Framing) (len : ℕ) (why : Context)
    → HasFinal method asked bytes a head framing len
    → IsRefusedBehind method asked bytes b why → ⊥
HasFinal-IsRefusedBehind method asked bytes a b head framing len why x y =
    let places = Informs-unique method asked bytes a b x.place y.place x.informs
    (HasFinal-stops method asked bytes a head framing len x) y.informs
    (Stops-refused method asked (drop y.place bytes) why y.refused) in
    HasResponse-IsRefusedResponse method asked (drop x.place bytes) head framing x.own why x.has
    (subst (λ (n : ℕ). IsRefusedResponse method asked (drop n bytes) why) (sym places.1) y.refused)

-- what is refused is not open
pub IsRefusedBehind-IsOpenBehind : (method : List ℕ) (asked : Bool) (bytes : List ℕ)
    (a b : List ResponseHead) (why : Context) → IsRefusedBehind method asked bytes a why
    → IsOpenBehind method asked bytes b → ⊥
IsRefusedBehind-IsOpenBehind method asked bytes a b why x y =
    let places = Informs-unique method asked bytes a b x.place y.place x.informs
    (Stops-refused method asked (drop x.place bytes) why x.refused) y.informs
    (Stops-open method asked (drop y.place bytes) y.is_open) in
    IsRefusedResponse-IsOpen method asked (drop x.place bytes) why x.refused
    (subst (λ (n : ℕ). IsOpen (drop n bytes)) (sym places.1) y.is_open)

-- a refusal stays when more bytes come
pub IsRefusedBehind-append : (method : List ℕ) (asked : Bool) (bytes more : List ℕ)
    (informed : List ResponseHead) (why : Context)
    → IsRefusedBehind method asked bytes informed why
    → IsRefusedBehind method asked (bytes ++ more) informed why
IsRefusedBehind-append method asked bytes more informed why f = record {
  place = f.place;
  informs = Informs-append method asked bytes more informed f.place f.informs;
  refused = subst (λ (xs : List ℕ). IsRefusedResponse method asked xs why)
      (sym (drop-append-le f.place bytes more
      (Informs-within method asked bytes informed f.place f.informs)))
      (IsRefusedResponse-append method asked (drop f.place bytes) more why f.refused);
}

-- ---- tunnels

-- no field of a response opens a tunnel
table_opens_none : (length : LengthField) (coding : CodingField)
    → response_table length coding ≡ Some framing.Tunnel → ⊥
table_opens_none length_field.Absent coding_field.Absent is = cc
table_opens_none length_field.Absent coding_field.Chunked is = cc
table_opens_none length_field.Absent coding_field.Other is = cc
table_opens_none (length_field.Value n) coding_field.Absent is = cc
table_opens_none (length_field.Value n) coding_field.Chunked is = cc
table_opens_none (length_field.Value n) coding_field.Other is = cc
table_opens_none length_field.Malformed coding_field.Absent is = cc
table_opens_none length_field.Malformed coding_field.Chunked is = cc
table_opens_none length_field.Malformed coding_field.Other is = cc

-- a response to a request that asked for no upgrade opens none
pub unasked_tunnel : (method : List ℕ) (head : ResponseHead)
    → response_framing method false head ≡ Some framing.Tunnel → ⊥
unfolding response_framing
unasked_tunnel method head is = on (has_no_body method head.status) _ _ is
  where
    on : (none : Bool) (length : LengthField) (coding : CodingField)
        → cond none (Some framing.Empty) (response_table length coding) ≡ Some framing.Tunnel → ⊥
    on true length coding is = cc
    on false length coding is = table_opens_none length coding is
