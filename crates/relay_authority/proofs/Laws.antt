-- What a caller may rely on after an edit that was accepted: Host, URI and target say one
-- authority.
use Rattle.std.proofs.Common.{◌≡◌, ℕ, ◌<◌, List, [], ◌∷◌, ◌++◌, length, take, drop, get_or, true, false, inl, inr, refl, sym, ap, ◌∙◌, arith, length-take-le, length-drop, get_or-take, get_or-drop, add-zero}
use Rattle.std.proofs.lemmas.Bool.{cases_Bool}
use Rattle.std.proofs.lemmas.Bool.Decides.{nat_tests}
use Rattle.std.proofs.lemmas.List.{get_or_append_left}
use Rattle.std.proofs.lemmas.Slice.Eq.{bytes_eq-Decides}
use Rattle.std.proofs.lemmas.List.Elements.{All-from_get_or}
use Rattle.std.proofs.lemmas.List.Folds.{list_any_none}
use Rattle.std.proofs.lemmas.List.Sums.{prefix_len-le-length}
use Rattle.std.proofs.Math.Seq.{take-append_seam, drop-append_seam}
use Rattle.std.specs.Char.{is_ascii_alphabetic}
use Rattle.std.specs.List.{list_any}
use Rattle.std.specs.Prelude.{IsUtf8, slice_get, Bool, not, ◌&&◌, Option, Some, None, option_map, Result, Ok, Err, OnOk, IfSome, MatchOption, map, ◌==◌, slice_index, bytes_eq}
use Rattle.http_header.specs.FieldValue.{FieldValue, plain_value}
use Rattle.http_header.specs.HeaderMap.{insert}
use Rattle.http_header.proofs.HeaderMapLemmas.{get_all-insert_same}
use Rattle.http_uri.proofs.RunLemmas.{PassBelow, run_passes, run_stops, run_at_least, run-append}
use Rattle.http_uri.specs.ByteClasses.{is_authority_byte}
use Rattle.http_uri.specs.Grammar.{IsAuthority}
use Rattle.relay_tasks.specs.Head.{Fields, RequestHead, target_of}
use Rattle.relay_tasks.specs.declared.Context.{Context}
use Rattle.relay_tasks.specs.declared.Fail.{Fail}
use Rattle.relay_authority.specs.Heads.{host_name, hosts, first_host, head_authority, uri_authority_of}
use Rattle.relay_authority.specs.Sent.{FollowsHost, KeepsHost, Reconciles, ReconcilesRaw, ReconcilesTarget, ReconcilesUri, ReconcilesWith, SetsHost, TakesHost, moved_target}
use Rattle.relay_authority.specs.Table.{Outcome, Settles, Refuses, Leaves}
use Rattle.relay_authority.specs.Target.{Parts, absolute_parts, authority_len, authority_of, behind_scheme, behind_slashes, ends_authority, has_scheme, has_slashes, is_absolute, is_plain, is_scheme_byte, rest_of, scheme_len, scheme_of}

-- what was done was not refused
done : (head new : RequestHead) (why : Context)
    → Refuses head why (record { refusal = None; head = new }) → ⊥
done head new why same = let clash : None ≡ Some why = ap (λ (o : Outcome). o.refusal) same in cc

-- an edit that takes the authority as Host leaves that one Host
taken : (head new : RequestHead) (authority : List ℕ)
    → TakesHost head authority (record { refusal = None; head = new })
    → hosts new.fields ≡ authority ∷ []
taken head new authority (inl bad) = absurd (done head new _ bad.1)
taken head new authority (inr (bare, inl bad)) = absurd (done head new _ bad.1)
taken head new authority (inr (bare, inr (valid, inl same))) =
    let left : new ≡ head = ap (λ (o : Outcome). o.head) same.1 in rw left same.0
taken head new authority (inr (bare, inr (valid, inr (differ, inl bad)))) =
    absurd (done head new _ bad.1)
taken head new authority (inr (bare, inr (valid, inr (differ, inr put)))) =
    let left : new.fields ≡ insert head.fields host_name (plain_value authority) =
    ap (λ (o : Outcome). o.head.fields) put.1 in
    rw left (ap (map (λ (v : FieldValue). v.bytes))
    (get_all-insert_same head.fields host_name (plain_value authority)))

-- with an authority, an accepted head has that one Host
pub one_host : (head new : RequestHead) (result : Result (Unit {0}) Fail)
    → Settles (SetsHost head) head new result
    → OnOk result (IfSome (head_authority head) (λ authority. hosts new.fields ≡ authority ∷ []))
one_host head new (Err fail) table = tt
one_host head new (Ok ended) table = by (head_authority head) table
  where
    by : (authority : Option (List ℕ))
        → MatchOption authority (KeepsHost head (record { refusal = None; head = new }))
        (λ a. TakesHost head a (record { refusal = None; head = new }))
        → IfSome authority (λ a. hosts new.fields ≡ a ∷ [])
    by None t = tt
    by (Some a) t = taken head new a t

-- a byte of an authority ends none, and is no `\`
plain_byte : (b : ℕ) → is_authority_byte b ≡ true
    → (not (ends_authority b) ≡ true) × ((b == 92) ≡ false)
plain_byte b h = grind (arith, nat_tests)

-- an authority is plain
plain : (host : List ℕ) → IsAuthority host → is_plain host ≡ true
plain host valid =
    let none : list_any (λ b. b == 92) host ≡ false =
    list_any_none (λ b. b == 92) host
    (All-from_get_or (λ b. (b == 92) ≡ false) host 0
    (λ k lt. (plain_byte (get_or host k 0) (valid.bytes k lt).byte).1)) in
    let full : (length host == 0) ≡ false = grind (arith, nat_tests, valid.nonempty) in
    rw (none, full) refl

-- an authority in front of what follows one is cut off there
cut : (host rest : List ℕ) → IsAuthority host
    → (0 < length rest → not (ends_authority (get_or rest 0 0)) ≡ false)
    → authority_len (host ++ rest) ≡ length host
cut host rest valid ends =
    run-append (λ b. not (ends_authority b)) host rest
    (λ k lt. (plain_byte (get_or host k 0) (valid.bytes k lt).byte).0) ends

-- a target of these parts reads as these parts
module _ (scheme host rest : List ℕ) (first : is_ascii_alphabetic (get_or scheme 0 0) ≡ true)
    (named : PassBelow is_scheme_byte scheme (length scheme)) (filled : 0 < length scheme)
    (valid : IsAuthority host)
    (ends : 0 < length rest → not (ends_authority (get_or rest 0 0)) ≡ false) where
  -- the target of these parts
  abbrev whole : List ℕ
  whole = scheme ++ (58 ∷ 47 ∷ 47 ∷ (host ++ rest))

  -- the bytes of its scheme end where the scheme ends
  scheme_ends : scheme_len whole ≡ length scheme
  scheme_ends = run-append is_scheme_byte scheme (58 ∷ 47 ∷ 47 ∷ (host ++ rest)) named (λ _. refl)

  -- its scheme
  scheme_is : scheme_of whole ≡ scheme
  scheme_is = ap (λ n. take n whole) scheme_ends
      ∙ take-append_seam scheme (58 ∷ 47 ∷ 47 ∷ (host ++ rest))

  -- what stands behind its scheme
  behind_is : behind_scheme whole ≡ 58 ∷ 47 ∷ 47 ∷ (host ++ rest)
  behind_is = ap (λ n. drop n whole) scheme_ends
      ∙ drop-append_seam scheme (58 ∷ 47 ∷ 47 ∷ (host ++ rest))

  -- what stands behind its slashes
  after_is : behind_slashes whole ≡ host ++ rest
  after_is = ap (drop 3) behind_is

  -- its authority
  host_is : authority_of whole ≡ host
  host_is =
      ap (λ text. take (authority_len text) text) after_is
      ∙ ap (λ n. take n (host ++ rest)) (cut host rest valid ends)
      ∙ take-append_seam host rest

  -- what stands behind its authority
  rest_is : rest_of whole ≡ rest
  rest_is =
      ap (λ text. drop (authority_len text) text) after_is
      ∙ ap (λ n. drop n (host ++ rest)) (cut host rest valid ends)
      ∙ drop-append_seam host rest

  -- it has a scheme and two slashes
  has_both : (has_scheme whole ≡ true) × (has_slashes whole ≡ true)
  has_both =
      let letter : get_or whole 0 0 ≡ get_or scheme 0 0 =
      get_or_append_left scheme (58 ∷ 47 ∷ 47 ∷ (host ++ rest)) 0 0 filled in
      (rw (letter, behind_is, first) refl, rw behind_is refl)

  -- it is absolute
  absolute_is : is_absolute whole ≡ true
  absolute_is = rw (has_both.0, has_both.1, host_is, plain host valid) refl

  -- it reads as its parts
  reads_as : absolute_parts whole ≡ Some (record { scheme = scheme; authority = host; rest = rest })
  reads_as = rw (absolute_is, scheme_is, host_is, rest_is) refl

-- a letter may begin a scheme
letter_byte : (b : ℕ) → is_ascii_alphabetic b ≡ true → is_scheme_byte b ≡ true
letter_byte b h = grind (arith, nat_tests)

-- a text that begins with a letter has a byte
letter_first : (text : List ℕ) → is_ascii_alphabetic (get_or text 0 0) ≡ true → 0 < length text
letter_first [] h = absurd cc
letter_first (b ∷ text) h = omega arith

-- a test of two parts that holds, holds in its first part
first_part : (a b : Bool) → (a && b) ≡ true → a ≡ true
first_part true b h = refl
first_part false b h = absurd cc

-- an absolute target has the parts that it was cut into
record IsCut (target : List ℕ) (parts : Parts) : Type 0 where
  scheme : parts.scheme ≡ scheme_of target
  rest : parts.rest ≡ rest_of target
  letter : is_ascii_alphabetic (get_or target 0 0) ≡ true

-- the parts of an absolute target are those that it is cut into
cut_into : (target : List ℕ) (parts : Parts) → absolute_parts target ≡ Some parts
    → IsCut target parts
cut_into target parts absolute =
    elim (cases_Bool (is_absolute target)) [
      | inl holds ↦
          let same : Some (record
          { scheme = scheme_of target; authority = authority_of target; rest = rest_of target })
          ≡ Some parts =
          rw holds at absolute in
          let schemed : has_scheme target ≡ true =
          first_part (has_scheme target) (has_slashes target)
          (first_part (has_scheme target && has_slashes target)
          (is_plain (authority_of target)) holds) in
          let letter = first_part (is_ascii_alphabetic (get_or target 0 0))
          (slice_index (behind_scheme target) 0 == 58) schemed in
          record { scheme = cc; rest = cc; letter = letter }
      | inr fails ↦ absurd (let clash : None ≡ Some parts = rw fails at absolute in cc)
    ]

-- what follows an authority begins with what ends it
rest_ends : (text : List ℕ) → 0 < length (drop (authority_len text) text)
    → not (ends_authority (get_or (drop (authority_len text) text) 0 0)) ≡ false
rest_ends text more =
    let n = authority_len text in
    let within : n < length text = omega (arith, length-drop n text) in
    rw (get_or-drop n text 0 0, add-zero) (run_stops (λ b. not (ends_authority b)) text within)

-- a target that moves reads as one at the other authority
pub moved_reads : (target host : List ℕ) (parts : Parts) → absolute_parts target ≡ Some parts
    → IsAuthority host
    → absolute_parts (moved_target parts host) ≡ Some (record parts { authority = host })
moved_reads target host parts absolute valid =
    let is = cut_into target parts absolute in
    let n = scheme_len target in
    let long = prefix_len-le-length is_scheme_byte target in
    let full = letter_first target is.letter in
    let some : 0 < n =
    run_at_least is_scheme_byte target 1 (omega arith)
    (λ k lt. let first : k ≡ 0 = omega arith in
    rw first (letter_byte (get_or target 0 0) is.letter)) in
    let size : length parts.scheme ≡ n = ap length is.scheme ∙ length-take-le n target long in
    let letter : is_ascii_alphabetic (get_or parts.scheme 0 0) ≡ true =
    rw (is.scheme, get_or-take n target 0 0 some) is.letter in
    let named : PassBelow is_scheme_byte parts.scheme (length parts.scheme) = λ k lt.
    let below : k < n = omega arith in
    rw (is.scheme, get_or-take n target k 0 below) (run_passes is_scheme_byte target k below) in
    let ends : 0 < length parts.rest → not (ends_authority (get_or parts.rest 0 0)) ≡ false =
    rw is.rest (rest_ends (behind_slashes target)) in
    reads_as parts.scheme host parts.rest letter named (omega arith) valid ends

-- what cannot be otherwise is so, for texts
stable : (text : Option (List ℕ)) (host : List ℕ) → ¬ (¬ (text ≡ Some host)) → text ≡ Some host
stable None host h = absurd (h (λ same. cc))
stable (Some text) host h =
    elim (cases_Bool (bytes_eq text host)) [
      | inl same ↦ ap Some ((bytes_eq-Decides text host).0 same)
      | inr other ↦
          absurd (h (λ same.
          let equal : text ≡ host = cc in
          let on = (bytes_eq-Decides text host).1 equal in let clash = sym on ∙ other in cc))
    ]

-- a fact that needs no value holds of whatever is there
whatever : {A : Type 0} (o : Option A) (P : Type 0) → P → IfSome o (λ _. P)
whatever None P h = tt
whatever (Some x) P h = h

-- the head's authority is that of its URI
stated : (head : RequestHead) (authority : List ℕ) → uri_authority_of head ≡ Some authority
    → head_authority head ≡ Some authority
stated head authority some = rw some refl

-- or else that of its target
stated_raw : (head : RequestHead) (parts : Parts) → uri_authority_of head ≡ None
    → absolute_parts head.target ≡ Some parts
    → head_authority head ≡ Some parts.authority
stated_raw head parts none absolute = rw (none, absolute) refl

-- a head whose absolute target followed its Host
by_parts : (head new : RequestHead) (host : List ℕ) (parts : Parts) → uri_authority_of head ≡ None
    → absolute_parts head.target ≡ Some parts
    → ReconcilesTarget head parts host (record { refusal = None; head = new })
    → head_authority new ≡ Some host
by_parts head new host parts none absolute (inl same) =
    let left : new ≡ head = ap (λ (o : Outcome). o.head) same.1 in
    rw left (stated_raw head parts none absolute ∙ ap Some (sym same.0))
by_parts head new host parts none absolute (inr (differ, inl bad)) = absurd (done head new _ bad.1)
by_parts head new host parts none absolute (inr (differ, inr (valid, inl bad))) =
    absurd (done head new _ bad.1)
by_parts head new host parts none absolute (inr (differ, inr (valid, inr (short, moved)))) =
    let left : new ≡ record head { target = moved_target parts host; uri = None } =
    ap (λ (o : Outcome). o.head) moved in
    stable _ host (λ other. valid (λ authority.
    other (rw left (stated_raw (record head { target = moved_target parts host; uri = None }) _ refl
    (moved_reads head.target host parts absolute authority)))))

-- a head whose target followed its Host
by_raw : (head new : RequestHead) (host : List ℕ) → uri_authority_of head ≡ None
    → ReconcilesRaw head host (record { refusal = None; head = new })
    → IfSome (head_authority head) (λ _. head_authority new ≡ Some host)
by_raw head new host none table = by (absolute_parts head.target) refl table
  where
    by : (parts : Option Parts) → absolute_parts head.target ≡ parts
        → MatchOption parts (Leaves head (record { refusal = None; head = new }))
        (λ found. ReconcilesTarget head found host (record { refusal = None; head = new }))
        → IfSome (head_authority head) (λ _. head_authority new ≡ Some host)
    by None absent t = let nothing : head_authority head ≡ None = rw (none, absent) refl in
        rw nothing tt
    by (Some parts) absolute t = whatever _ _ (by_parts head new host parts none absolute t)

-- a head whose URI followed its Host
by_uri : (head new : RequestHead) (host : List ℕ)
    → ReconcilesUri head host (record { refusal = None; head = new })
    → head_authority new ≡ Some host
by_uri head new host (inl bad) = absurd (done head new _ bad.1)
by_uri head new host (inr (utf8, inl same)) =
    let left : new ≡ head = ap (λ (o : Outcome). o.head) same.1 in rw left (stated head host same.0)
by_uri head new host (inr (utf8, inr (differ, inl bad))) = absurd (done head new _ bad.1)
by_uri head new host (inr (utf8, inr (differ, inr (valid, (moved, is_moved, text, set))))) =
    let left : new ≡ record head { target = target_of moved; uri = Some moved } =
    ap (λ (o : Outcome). o.head) set in
    rw left (stated (record head { target = target_of moved; uri = Some moved }) host is_moved.2.1)

-- what followed a Host names it
followed : (head new : RequestHead) (host : List ℕ)
    → FollowsHost head host (record { refusal = None; head = new })
    → IfSome (head_authority head) (λ _. head_authority new ≡ Some host)
followed head new host (inl bad) = absurd (done head new _ bad.1)
followed head new host (inr (bare, table)) = by (uri_authority_of head) refl table
  where
    by : (authority : Option (List ℕ)) → uri_authority_of head ≡ authority
        → MatchOption authority (ReconcilesRaw head host (record { refusal = None; head = new }))
        (λ _. ReconcilesUri head host (record { refusal = None; head = new }))
        → IfSome (head_authority head) (λ _. head_authority new ≡ Some host)
    by None none t = by_raw head new host none t
    by (Some authority) some t = whatever _ _ (by_uri head new host t)

-- with a Host and an authority, an accepted head's authority is Host
pub agrees : (head new : RequestHead) (result : Result (Unit {0}) Fail)
    → Settles (Reconciles head) head new result
    → OnOk result (IfSome (first_host head)
    (λ host. IfSome (head_authority head) (λ _. head_authority new ≡ Some host)))
agrees head new (Err fail) table = tt
agrees head new (Ok ended) table = by (first_host head) table
  where
    by : (found : Option (List ℕ))
        → MatchOption found (Leaves head (record { refusal = None; head = new }))
        (λ host. FollowsHost head host (record { refusal = None; head = new }))
        → IfSome found (λ host. IfSome (head_authority head) (λ _. head_authority new ≡ Some host))
    by None t = tt
    by (Some host) t = followed head new host t

-- what an edit that was done leaves, as its outcome
abbrev Left : RequestHead → Outcome
Left head = record { refusal = None; head = head }

-- with the URI at Host, nothing is left to follow
rests_by_uri : (head : RequestHead) (host : List ℕ) → uri_authority_of head ≡ Some host
    → ¬ (¬ (IsUtf8 head.target)) → ReconcilesWith head host (Left head)
rests_by_uri head host some utf8 = rw some (inr (utf8, inl (refl, refl)))

-- nor with the target at Host
rests_by_target : (head : RequestHead) (host : List ℕ) → uri_authority_of head ≡ None
    → ¬ (¬ (option_map (λ (parts : Parts). parts.authority)
    (absolute_parts head.target) ≡ Some host)) → ReconcilesWith head host (Left head)
rests_by_target head host none named =
    by (absolute_parts head.target) refl
    (stable (option_map (λ (parts : Parts). parts.authority) (absolute_parts head.target)) host
    named)
  where
    by : (parts : Option Parts) → absolute_parts head.target ≡ parts
        → option_map (λ (found : Parts). found.authority) parts ≡ Some host
        → ReconcilesWith head host (Left head)
    by None absent same = absurd (let clash : None ≡ Some host = same in cc)
    by (Some parts) absolute same =
        let named_host : host ≡ parts.authority = cc in
        rw (none, absolute) (inl (named_host, refl))

-- what followed Host rests
record Rests (head new : RequestHead) (host : List ℕ) : Type 0 where
  fields : new.fields ≡ head.fields
  with_host : ReconcilesWith new host (Left new)

-- a head that was left as it was rests
same_rests : (head new : RequestHead) (host : List ℕ) → new ≡ head
    → ReconcilesWith head host (Left head) → Rests head new host
same_rests head new host left rests = rw left record { fields = refl; with_host = rests }

-- an absolute target that followed Host rests
parts_rest : (head new : RequestHead) (host : List ℕ) (parts : Parts) → uri_authority_of head ≡ None
    → absolute_parts head.target ≡ Some parts → ReconcilesTarget head parts host (Left new)
    → Rests head new host
parts_rest head new host parts none absolute (inl same) =
    same_rests head new host (ap (λ (o : Outcome). o.head) same.1)
    (rw (none, absolute) (inl (same.0, refl)))
parts_rest head new host parts none absolute (inr (differ, inl bad)) =
    absurd (done head new _ bad.1)
parts_rest head new host parts none absolute (inr (differ, inr (valid, inl bad))) =
    absurd (done head new _ bad.1)
parts_rest head new host parts none absolute (inr (differ, inr (valid, inr (short, moved)))) =
    let left : new ≡ record head { target = moved_target parts host; uri = None } =
    ap (λ (o : Outcome). o.head) moved in
    rw left record {
      fields = refl;
      with_host =
          rests_by_target (record head { target = moved_target parts host; uri = None }) host refl
          (λ other. valid (λ authority.
          other (ap (option_map (λ (found : Parts). found.authority))
          (moved_reads head.target host parts absolute authority))));
    }

-- a head without the authority of a URI that followed Host rests
raw_rests : (head new : RequestHead) (host : List ℕ) → uri_authority_of head ≡ None
    → ReconcilesRaw head host (Left new) → Rests head new host
raw_rests head new host none table = by (absolute_parts head.target) refl table
  where
    by : (parts : Option Parts) → absolute_parts head.target ≡ parts
        → MatchOption parts (Leaves head (Left new))
        (λ found. ReconcilesTarget head found host (Left new)) → Rests head new host
    by None absent t = same_rests head new host (ap (λ (o : Outcome). o.head) t)
        (rw (none, absent) refl)
    by (Some parts) absolute t = parts_rest head new host parts none absolute t

-- a head with the authority of a URI that followed Host rests
uri_rests : (head new : RequestHead) (host : List ℕ) → ReconcilesUri head host (Left new)
    → Rests head new host
uri_rests head new host (inl bad) = absurd (done head new _ bad.1)
uri_rests head new host (inr (was, inl same)) =
    let left : new ≡ head = ap (λ (o : Outcome). o.head) same.1 in
    same_rests head new host left (rests_by_uri head host same.0 was)
uri_rests head new host (inr (was, inr (differ, inl bad))) = absurd (done head new _ bad.1)
uri_rests head new host (inr (was, inr (differ, inr (valid, (moved, is_moved, text, set))))) =
    let left : new ≡ record head { target = target_of moved; uri = Some moved } =
    ap (λ (o : Outcome). o.head) set in
    rw left record {
      fields = refl;
      with_host =
          rests_by_uri (record head { target = target_of moved; uri = Some moved }) host
          is_moved.2.1 (λ no. no text);
    }

-- a head that followed Host rests, with a URI or without
with_rests : (head new : RequestHead) (host : List ℕ) → ReconcilesWith head host (Left new)
    → Rests head new host
with_rests head new host table = by (uri_authority_of head) refl table
  where
    by : (authority : Option (List ℕ)) → uri_authority_of head ≡ authority
        → MatchOption authority (ReconcilesRaw head host (Left new))
        (λ _. ReconcilesUri head host (Left new))
        → Rests head new host
    by None none t = raw_rests head new host none t
    by (Some authority) some t = uri_rests head new host t

-- an accepted head stays as it is when it is reconciled once more
pub rests : (head new : RequestHead) (result : Result (Unit {0}) Fail)
    → Settles (Reconciles head) head new result
    → OnOk result (Reconciles new (record { refusal = None; head = new }))
rests head new (Err fail) table = tt
rests head new (Ok ended) table = by (first_host head) refl table
  where
    by : (found : Option (List ℕ)) → first_host head ≡ found
        → MatchOption found (Leaves head (Left new)) (λ host. FollowsHost head host (Left new))
        → Reconciles new (Left new)
    by None absent t =
        let left : new ≡ head = ap (λ (o : Outcome). o.head) t in
        rw left (rw absent refl)
    by (Some host) there (inl bad) = absurd (done head new _ bad.1)
    by (Some host) there (inr (bare, t)) =
        let again = with_rests head new host t in
        let kept : first_host new ≡ Some host =
        ap (λ (fields : Fields). slice_get (hosts fields) 0) again.fields ∙ there in
        rw kept (inr (bare, again.with_host))
