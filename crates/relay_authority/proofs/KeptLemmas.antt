-- A head that is sent over HTTP/1 is the filtered one but for target and Host, where that says how
-- its body is framed.
use Rattle.std.proofs.Common.{◌≡◌, ◌≢◌, ℕ, List, [], ◌∷◌, inl, inr, refl, sym, ap, ◌∙◌, true, false}
use Rattle.std.specs.Prelude.{Bool, Option, Some, None, Result, Ok, MatchOption, IsTrue, is_some, Err, IfOk}
use Rattle.http.specs.declared.version.TheConstants.Version.{HTTP_11}
use Rattle.http_header.specs.FieldValue.{FieldValue, plain_value}
use Rattle.http_header.specs.HeaderMap.{ContainsKey, get_all, index_of, insert}
use Rattle.http_header.specs.Places.{IsAbsent, IsAt}
use Rattle.http_header.proofs.HeaderMapLemmas.{get_all-insert_other}
use Rattle.http_header.proofs.PlacesLemmas.{ContainsKey-from_entry, index_of_cases}
use Rattle.relay_tasks.specs.Head.{Fields, RequestHead}
use Rattle.relay_tasks.specs.declared.Context.{Context}
use Rattle.relay_authority.specs.Attempt.{ReadiesH1, SetsHostWhere, SettlesH1, Then, Validates}
use Rattle.relay_authority.specs.Framing.{content_length, transfer_encoding, IsFramed}
use Rattle.relay_authority.specs.Heads.{host_name, first_host, head_authority, uri_authority_of}
use Rattle.relay_authority.specs.Kept.{KeepsFields, SaysFraming}
use Rattle.relay_authority.specs.Sent.{FollowsHost, KeepsHost, PutsField, Reconciles, ReconcilesRaw, ReconcilesTarget, ReconcilesUri, ReconcilesWith, SetsHost, TakesHost}
use Rattle.relay_authority.specs.Stage.{Makes, Step}
use Rattle.relay_authority.specs.Table.{Leaves, Outcome, Refuses}
use Rattle.relay_authority.specs.Target.{Parts, absolute_parts}
use Rattle.relay_authority.specs.Upstream.{FramesBody, ReadyHead, SentH1, SentHead}
use Rattle.relay_tasks.specs.declared.Error.{Error}
use Rattle.relay_tasks.specs.declared.Fail.{Fail}
use Rattle.relay_authority.specs.declared.upstream.Upstream.{Upstream}
use Rattle.relay_authority.specs.declared.upstream.Client.{Client}
use Rattle.relay_authority.specs.declared.upstream.Upstream.TheVariants as over

-- what an edit that was done comes to
abbrev Done : RequestHead → Outcome
Done head = record { refusal = None; head = head }

-- what was done was not refused
not_refused : (head new : RequestHead) (why : Context) → Refuses head why (Done new) → ⊥
not_refused head new why same =
    let clash : None ≡ Some why = ap (λ (o : Outcome). o.refusal) same in cc

-- the head that an edit left
left_is : (head new : RequestHead) → Leaves head (Done new) → new ≡ head
left_is head new same = ap (λ (o : Outcome). o.head) same

-- a head keeps itself
kept_same : (head new : RequestHead) → Leaves head (Done new) → KeepsFields head new
kept_same head new same =
    rw (left_is head new same) record { method = refl; version = refl; fields = λ name other. refl }

-- two edits one after the other keep what both keep
kept_both : (head middle new : RequestHead) → KeepsFields head middle → KeepsFields middle new
    → KeepsFields head new
kept_both head middle new first second = record {
  method = second.method ∙ first.method;
  version = second.version ∙ first.version;
  fields = λ name other. second.fields name other ∙ first.fields name other;
}

-- a Host that is put leaves the other fields
host_put : (head new : RequestHead) (value : FieldValue)
    → PutsField head host_name value (Done new) → KeepsFields head new
host_put head new value (inl full) = absurd (not_refused head new _ full.1)
host_put head new value (inr (room, put)) =
    rw (left_is _ new put) record {
      method = refl;
      version = refl;
      fields = λ name other. get_all-insert_other head.fields host_name name value other;
    }

-- so does an authority that is taken as Host
host_taken : (head new : RequestHead) (authority : List ℕ) → TakesHost head authority (Done new)
    → KeepsFields head new
host_taken head new authority (inl bad) = absurd (not_refused head new _ bad.1)
host_taken head new authority (inr (bare, inl bad)) = absurd (not_refused head new _ bad.1)
host_taken head new authority (inr (bare, inr (valid, inl same))) = kept_same head new same.1
host_taken head new authority (inr (bare, inr (valid, inr (differ, put)))) =
    host_put head new (plain_value authority) put

-- Host, where it is made to say the authority
host_set : (head new : RequestHead) → SetsHost head (Done new) → KeepsFields head new
host_set head new table = by (head_authority head) table
  where
    without : (found : Option (List ℕ))
        → MatchOption found (PutsField head host_name (plain_value []) (Done new))
        (λ _. Leaves head (Done new))
        → KeepsFields head new
    without None put = host_put head new (plain_value []) put
    without (Some host) same = kept_same head new same

    by : (authority : Option (List ℕ))
        → MatchOption authority (KeepsHost head (Done new)) (λ a. TakesHost head a (Done new))
        → KeepsFields head new
    by None t = without (first_host head) t
    by (Some authority) t = host_taken head new authority t

-- the same, where it is to be done
host_set_where : (had_host : Bool) (head new : RequestHead)
    → SetsHostWhere had_host head (Done new) → KeepsFields head new
host_set_where had_host head new (inl set) = host_set head new set.1
host_set_where had_host head new (inr (nowhere, same)) = kept_same head new same

-- a URI that follows Host leaves the fields
uri_follows : (head new : RequestHead) (host : List ℕ) → ReconcilesUri head host (Done new)
    → KeepsFields head new
uri_follows head new host (inl bad) = absurd (not_refused head new _ bad.1)
uri_follows head new host (inr (utf8, inl same)) = kept_same head new same.1
uri_follows head new host (inr (utf8, inr (differ, inl bad))) =
    absurd (not_refused head new _ bad.1)
uri_follows head new host (inr (utf8, inr (differ, inr (valid, (moved, is, text, set))))) =
    rw (left_is _ new set) record { method = refl; version = refl; fields = λ name other. refl }

-- so does an absolute target
target_follows : (head new : RequestHead) (parts : Parts) (host : List ℕ)
    → ReconcilesTarget head parts host (Done new) → KeepsFields head new
target_follows head new parts host (inl same) = kept_same head new same.1
target_follows head new parts host (inr (differ, inl bad)) =
    absurd (not_refused head new _ bad.1)
target_follows head new parts host (inr (differ, inr (valid, inl bad))) =
    absurd (not_refused head new _ bad.1)
target_follows head new parts host (inr (differ, inr (valid, inr (short, moved)))) =
    rw (left_is _ new moved) record { method = refl; version = refl; fields = λ name other. refl }

-- a head that is reconciled keeps its fields
reconciled : (head new : RequestHead) → Reconciles head (Done new) → KeepsFields head new
reconciled head new table = by (first_host head) table
  where
    raw : (host : List ℕ) (parts : Option Parts)
        → MatchOption parts (Leaves head (Done new))
        (λ found. ReconcilesTarget head found host (Done new))
        → KeepsFields head new
    raw host None same = kept_same head new same
    raw host (Some parts) t = target_follows head new parts host t

    with_uri : (host : List ℕ) (authority : Option (List ℕ))
        → MatchOption authority (ReconcilesRaw head host (Done new))
        (λ _. ReconcilesUri head host (Done new))
        → KeepsFields head new
    with_uri host None t = raw host (absolute_parts head.target) t
    with_uri host (Some authority) t = uri_follows head new host t

    follows : (host : List ℕ) → FollowsHost head host (Done new) → KeepsFields head new
    follows host (inl bad) = absurd (not_refused head new _ bad.1)
    follows host (inr (bare, t)) = with_uri host (uri_authority_of head) t

    by : (found : Option (List ℕ))
        → MatchOption found (Leaves head (Done new)) (λ host. FollowsHost head host (Done new))
        → KeepsFields head new
    by None same = kept_same head new same
    by (Some host) t = follows host t

-- two steps that keep the fields keep them one after the other
then_kept : (first second : Step) (head new : RequestHead)
    → ((a b : RequestHead) → first a (Done b) → KeepsFields a b)
    → ((a b : RequestHead) → second a (Done b) → KeepsFields a b)
    → Then first second head (Done new) → KeepsFields head new
then_kept first second head new one two (inl (some, refused)) =
    absurd (let clash : false ≡ true = some in cc)
then_kept first second head new one two (inr (middle, a, b)) =
    kept_both head middle new (one head middle a) (two middle new b)

-- a head that is settled keeps its fields
settled : (had_host : Bool) (head new : RequestHead) → SettlesH1 had_host head (Done new)
    → KeepsFields head new
settled had_host head new done =
    then_kept Reconciles (Then (SetsHostWhere had_host) Validates) head new reconciled
    (λ a b. then_kept (SetsHostWhere had_host) Validates a b (host_set_where had_host)
    (λ x y valid. kept_same x y (ap Done valid.1))) done

-- a name that has a value stands in the fields
names : (fields : Fields) (name : List ℕ) → get_all fields name ≢ [] → ContainsKey fields name
names fields name some = by (index_of fields name) (index_of_cases fields name)
  where
    by : (found : Option ℕ) → MatchOption found (IsAbsent fields name) (IsAt fields name)
        → ContainsKey fields name
    by None absent = absurd (some absent.values)
    by (Some i) at = ContainsKey-from_entry fields name i at.within at.key

-- a head that says its framing is framed
says_framed : (head : RequestHead) → SaysFraming head → IsFramed head
says_framed head (inl length) = inl (names head.fields content_length length)
says_framed head (inr coding) = inr (names head.fields transfer_encoding coding)

-- a head says its framing where the head of which it keeps the fields does
says_still : (head new : RequestHead) → KeepsFields head new → SaysFraming head → SaysFraming new
says_still head new keeps (inl length) =
    inl (λ none. length (sym (keeps.fields content_length (λ same. cc)) ∙ none))
says_still head new keeps (inr coding) =
    inr (λ none. coding (sym (keeps.fields transfer_encoding (λ same. cc)) ∙ none))

-- a head that says its framing where it has a body is not framed anew
framed_same : (has_body : Bool) (head new : RequestHead)
    → (has_body ≡ true → SaysFraming head) → FramesBody has_body head (Done new) → new ≡ head
framed_same has_body head new says (inl framed) =
    absurd (framed.0.1 (says_framed head (says framed.0.0)))
framed_same has_body head new says (inr (no_need, same)) = left_is head new same

-- the head of a client that is not custom, made ready, is the client's but for its version
pub readied : (head ready : RequestHead) → ReadyHead over.H1 false head (Ok ready)
    → ready ≡ record head { version = HTTP_11 }
readied head ready (inl spoke) = absurd (let clash : false ≡ true = spoke.0.0 in cc)
readied head ready (inr (other, same)) = left_is _ ready same

-- one answer makes one head
same_made : (a b : RequestHead) (answer : Result RequestHead Error) → answer ≡ Ok a → answer ≡ Ok b
    → a ≡ b
same_made a b answer is_a is_b = cc

-- the head that is sent is the filtered head but for target and Host, where that says how its body
-- is framed
h1_kept : (client : Client) (had_host : Bool) (head sent : RequestHead)
    → (client.has_body ≡ true → SaysFraming head) → SentH1 client had_host head (Ok sent)
    → KeepsFields head sent
h1_kept client had_host head sent says sends = by sends
  where
    framed : (middle : RequestHead) → KeepsFields head middle
        → FramesBody client.has_body middle (Done sent) → KeepsFields head sent
    framed middle keeps frames =
        rw (framed_same client.has_body middle sent
        (λ some. says_still head middle keeps (says some)) frames) keeps

    by : SentH1 client had_host head (Ok sent) → KeepsFields head sent
    by (inl (error, failed, same)) = absurd (let clash : Ok sent ≡ Err error = same in cc)
    by (inr (middle, inl (custom, same), frames)) =
        framed middle
        (kept_same head middle (ap Done (same_made middle head (Ok middle) refl same))) frames
    by (inr (middle, inr (standard, done), frames)) =
        framed middle (settled had_host head middle done) frames

-- the same of the head that is sent over HTTP/1, by the whole table
pub sent_kept : (client : Client) (asked head sent : RequestHead)
    → (client.has_body ≡ true → SaysFraming head) → SentHead over.H1 client asked head (Ok sent)
    → KeepsFields head sent
sent_kept client asked head sent says sends =
    h1_kept client (is_some (first_host asked)) head sent says sends

-- and of the answer of a call that makes it
pub made_kept : (client : Client) (had_host : Bool) (head : RequestHead) (upstream : Upstream)
    (result : Result RequestHead Fail) → Makes (SentH1 client had_host head) result
    → IfOk result (λ sent. upstream ≡ over.H1 → (IsTrue client.has_body → SaysFraming head)
    → KeepsFields head sent)
made_kept client had_host head upstream (Ok sent) made = λ is says.
    h1_kept client had_host head sent says made
made_kept client had_host head upstream (Err failure) made = tt
