-- The peers that the attempts of a request asked, by what it took of its connector's offers.
--
--   HaveAsked        attempts asked the first of these peers, one each
--   request_asked    so did those of a request, and it left the others
use Rattle.std.proofs.Common.{◌≡◌, inl, inr, Bool, true, false, Option, Some, None, Ok, Err, subst, suc, List, [], ◌∷◌, ◌++◌, map, drop, length, refl, sym, ap, ◌∙◌, append_assoc, append-nil}
use Rattle.std.specs.List.{All}
use Rattle.std.proofs.Math.Seq.{drop-nil}
use Rattle.std.proofs.lemmas.List.Elements.{All-append, All-cons, All-head, All-nil, All-tail}
use Rattle.relay_tasks.specs.declared.error.Error.{Error}
use Rattle.relay_tasks.specs.declared.ErrorSource.TheVariants.{Upstream}
use Rattle.relay_tasks.specs.declared.error.RetryType.{RetryType}
use Rattle.relay_tasks.specs.declared.fault.Fault.{Fault}
use Rattle.relay_connector.specs.Connector.{AreNext, GetResult, Handed, IsAnswer, Offer, handed}
use Rattle.relay_connector.specs.ScriptConnector.{AnyScript, any_state, any_start}
use Rattle.relay_connector.specs.declared.connector.Returned.{Returned}
use Rattle.relay_attempt.specs.Passed.{Passed}
use Rattle.relay_request.specs.Endings.{EndsWith, AttemptsFailed, AttemptsUnfinished, AttemptsUnlinked, MadeAhead, MadeNone}
use Rattle.relay_request.specs.Legs.{AreLegs, BeginsAt, IsLeg, Leg, behind, rebased, taken_by, taken_in}
use Rattle.relay_request.specs.Passed.{World, Start}
use Rattle.relay_request.specs.Refusals.{fault_told, faults_told}
use Rattle.relay_request.specs.Taken.{offers_for}
use Rattle.relay_request.specs.Tries.{AreTries, EndsTrying, LosesTry, Refusal, fault_error, fault_of, record_of, refusals_since, tries_of, unlinked_record}
use Rattle.relay_request.specs.declared.outcome.Outcome.{Outcome}
use Rattle.relay_request.specs.declared.outcome.Outcome.TheVariants as ended
use Rattle.relay_request.specs.declared.record.AttemptRecord.{AttemptRecord}
use Rattle.relay_turns.proofs.TryLemmas.{tries_before}
use Rattle.relay_command.specs.Exchange.{AreLinksOf, GetsNext, IsRefusal, left_by, links_back, offers_of, peer_items, peer_offer}
use Rattle.relay_json.specs.Script.{PeerSpec}

-- attempts asked the first of these peers, one each: those are their links, and those offers are
-- left
pub record HaveAsked (peers : List PeerSpec) (attempts : List AttemptRecord)
    (links : List (Returned AnyScript)) (left : List Offer) : Type 0 where
  pub are_links : AreLinksOf peers attempts links
  pub are_left : left ≡ offers_of (drop (length attempts) peers)

-- the faults of attempts, and of those behind them
told_append : (tries attempts : List AttemptRecord)
    → faults_told (tries ++ attempts) ≡ faults_told tries ++ faults_told attempts
told_append [] attempts = refl
told_append (a ∷ tries) attempts =
    ap (λ (fs : List Fault). fault_told a.fault ++ fs) (told_append tries attempts)
    ∙ sym (append_assoc (fault_told a.fault) (faults_told tries) (faults_told attempts))

-- ---- one attempt more

-- no attempt asked for anything
none_asked : (peers : List PeerSpec) (left : List Offer) → AreNext [] (offers_of peers) left
    → HaveAsked peers [] [] left
none_asked peers left next = record { are_links = refl; are_left = sym next }

-- a peer that answers a fault in place of its link refuses it so
refused_at : (connect : Option RetryType) (again : Bool) (peer : PeerSpec) (fault : Fault)
    → IsAnswer (peer_offer connect again peer) (Err fault) → IsRefusal connect again fault
refused_at (Some retry) again peer fault is = is
refused_at None false peer fault is = absurd is
refused_at None true peer fault is = is

-- one that was refused a link, before others
one_refused : (peers : List PeerSpec) (a : AttemptRecord) (fault : Fault)
    (attempts : List AttemptRecord) (links : List (Returned AnyScript)) (rest : List GetResult)
    (left : List Offer)
    → a.fault ≡ Some fault → AreNext (Err fault ∷ rest) (offers_of peers) left
    → (AreNext rest (offers_of (drop 1 peers)) left → HaveAsked (drop 1 peers) attempts links left)
    → HaveAsked peers (a ∷ attempts) links left
one_refused [] a fault attempts links rest left is next goes =
    let others = goes next in
    record {
      are_links = subst (λ (o : Option Fault).
          GetsNext o [] links × AreLinksOf [] attempts (left_by o links)) (sym is)
          (tt, others.are_links);
      are_left = others.are_left
          ∙ ap (λ (ps : List PeerSpec). offers_of ps)
          (drop-nil (length attempts) ∙ sym (drop-nil (suc (length attempts))));
    }
one_refused (peer ∷ peers) a fault attempts links rest left is next goes =
    let others = goes next.1 in
    record {
      are_links = subst (λ (o : Option Fault).
          GetsNext o (peer ∷ peers) links × AreLinksOf peers attempts (left_by o links)) (sym is)
          (refused_at peer.connect peer.again peer fault next.0, others.are_links);
      are_left = others.are_left;
    }

-- a peer that answers its link has no mark; the link answers by its items, and was handed out as
-- the peer says
link_at : (connect : Option RetryType) (again : Bool) (peer : PeerSpec) (link : AnyScript)
    → IsAnswer (peer_offer connect again peer) (Ok (handed (any_start link)))
    → (connect ≡ None) × ((any_start link).items ≡ Some (peer_items peer))
    × ((any_start link).reused ≡ again)
link_at None false peer link is =
    (refl, ap (λ (h : Handed). h.items) is, ap (λ (h : Handed). h.reused) is)
link_at None true peer link is =
    (refl, ap (λ (h : Handed). h.items) is, ap (λ (h : Handed). h.reused) is)
link_at (Some retry) again peer link is = absurd is

-- one that had that link, before others
one_linked : (peers : List PeerSpec) (a : AttemptRecord) (r : Returned AnyScript)
    (attempts : List AttemptRecord) (links : List (Returned AnyScript)) (rest : List GetResult)
    (left : List Offer)
    → a.fault ≡ None → AreNext (Ok (handed (any_start r.link)) ∷ rest) (offers_of peers) left
    → (AreNext rest (offers_of (drop 1 peers)) left → HaveAsked (drop 1 peers) attempts links left)
    → HaveAsked peers (a ∷ attempts) (r ∷ links) left
one_linked [] a r attempts links rest left none next goes = absurd next
one_linked (peer ∷ peers) a r attempts links rest left none next goes =
    let others = goes next.1 in
    let had = link_at peer.connect peer.again peer r.link next.0 in
    record {
      are_links = subst (λ (o : Option Fault).
          GetsNext o (peer ∷ peers) (r ∷ links)
          × AreLinksOf peers attempts (left_by o (r ∷ links))) (sym none)
          (record { unmarked = had.0; items = had.1; reused = had.2 }, others.are_links);
      are_left = others.are_left;
    }

-- ---- attempts that were refused a link

-- the record of an attempt that was given no link has the connector's fault
abbrev pub HasFault : AttemptRecord → Type 0
HasFault a = (fault : Fault) × (a.fault ≡ Some fault)

-- that is the first of the faults that attempts tell, and those of others follow
one_told : (told : Option Fault) (fault : Fault) (faults : List Fault)
    (rest : List GetResult) (offers left : List Offer) → told ≡ Some fault
    → AreNext (map Err (fault_told told ++ faults) ++ rest) offers left
    → AreNext (Err fault ∷ (map Err faults ++ rest)) offers left
one_told told fault faults rest offers left is next =
    subst (λ (o : Option Fault). AreNext (map Err (fault_told o ++ faults) ++ rest) offers left) is
    next

-- attempts that were refused links, before others
many_refused : (peers : List PeerSpec) (tries attempts : List AttemptRecord)
    (links : List (Returned AnyScript)) (rest : List GetResult) (left : List Offer)
    → All HasFault tries
    → AreNext (map Err (faults_told tries) ++ rest) (offers_of peers) left
    → ((ps : List PeerSpec) → AreNext rest (offers_of ps) left → HaveAsked ps attempts links left)
    → HaveAsked peers (tries ++ attempts) links left
many_refused peers [] attempts links rest left failed next goes = goes peers next
many_refused peers (a ∷ tries) attempts links rest left failed next goes =
    let one = All-head HasFault a tries failed in
    one_refused peers a one.0 (tries ++ attempts) links (map Err (faults_told tries) ++ rest) left
    one.1
    (one_told a.fault one.0 (faults_told tries) rest (offers_of peers) left one.1 next)
    (λ more. many_refused (drop 1 peers) tries attempts links rest left
    (All-tail HasFault a tries failed) more goes)

-- those of which calls tell were
told_failed : (refusals : List Refusal) → All HasFault (map record_of refusals)
told_failed [] = All-nil HasFault
told_failed (r ∷ refusals) =
    All-cons HasFault (record_of r) (map record_of refusals) (fault_of r.raised, refl)
    (told_failed refusals)

-- the answers behind those that were given before are the others
other_offers : (had faults : List Fault) (rest : List GetResult)
    → drop (length had) (map Err (had ++ faults) ++ rest) ≡ map Err faults ++ rest
other_offers [] faults rest = refl
other_offers (fault ∷ had) faults rest = other_offers had faults rest

-- so they are those of the attempts behind those that were made before
offers_behind : (had others attempts : List AttemptRecord) (rest : List GetResult)
    → attempts ≡ had ++ others
    → drop (length (faults_told had)) (map Err (faults_told attempts) ++ rest)
    ≡ map Err (faults_told others) ++ rest
offers_behind had others attempts rest are =
    ap (λ (fs : List Fault). drop (length (faults_told had)) (map Err fs ++ rest))
    (ap (λ (xs : List AttemptRecord). faults_told xs) are ∙ told_append had others)
    ∙ other_offers (faults_told had) (faults_told others) rest

-- ---- the last part of a request

-- behind those up to there, attempts were made that were refused links
record MadeRefused (s : Start) (attempts : List AttemptRecord) : Type 0 where
  others : List AttemptRecord
  are : attempts ≡ s.tried ++ others
  failed : All HasFault others

-- none were made
none_made : (s : Start) (attempts : List AttemptRecord) → MadeNone s attempts
    → MadeRefused s attempts
none_made s attempts none = record {
  others = [];
  are = none.0 ∙ sym (append-nil s.tried ∙ none.1);
  failed = All-nil HasFault;
}

-- attempts behind which another followed
tries_made : (s : Start) (tries : List AttemptRecord) → AreTries s tries → MadeRefused s tries
tries_made s tries are = record {
  others = map record_of (refusals_since s);
  are = are.told;
  failed = told_failed (refusals_since s);
}

-- all that ended without a link
ends_made : (s : Start) (attempts : List AttemptRecord) (e : Error) → EndsTrying s attempts e
    → MadeRefused s attempts
ends_made s attempts e ends = record {
  others = map record_of (refusals_since s);
  are = ends.told;
  failed = told_failed (refusals_since s);
}

-- those of which the last was not told
loses_made : (s : Start) (attempts : List AttemptRecord) → LosesTry s attempts
    → MadeRefused s attempts
loses_made s attempts loses =
    let last = unlinked_record loses.peer loses.fault (fault_error Upstream loses.fault) in
    let before = tries_made s loses.tries loses.are_tries in
    record {
      others = before.others ++ last ∷ [];
      are = loses.attempts_are
          ∙ ap (λ (xs : List AttemptRecord). xs ++ last ∷ []) before.are
          ∙ append_assoc s.tried before.others (last ∷ []);
      failed = All-append HasFault before.others (last ∷ []) before.failed
          (All-cons HasFault last [] (loses.fault, refl) (All-nil HasFault));
    }

-- those of a request that hooks ended
ahead_made : (s : Start) (why : Option Error) (attempts : List AttemptRecord)
    → MadeAhead s why attempts → MadeRefused s attempts
ahead_made s None attempts made = none_made s attempts made
ahead_made s (Some e) attempts made = tries_made s attempts made

-- those of one that was not brought to an end
unfinished_made : (s : Start) (p : Passed) (w : World) (attempts : List AttemptRecord)
    → AttemptsUnfinished s p w attempts → MadeRefused s attempts
unfinished_made s p w attempts (inl none) = none_made s attempts none.0
unfinished_made s p w attempts (inr (inl between)) = tries_made s attempts between.0
unfinished_made s p w attempts (inr (inr (inl ahead))) = ahead_made s ahead.why attempts ahead.made
unfinished_made s p w attempts (inr (inr (inr half))) = ends_made s attempts half.e half.made

-- and all others that had no link
unlinked_made : (s : Start) (p : Passed) (w : World) (attempts : List AttemptRecord)
    (outcome : Outcome) → AttemptsUnlinked s p w attempts outcome → MadeRefused s attempts
unlinked_made s p w attempts ended.NoRequest none = none_made s attempts none
unlinked_made s p w attempts (ended.Refused error) none = none_made s attempts none
unlinked_made s p w attempts (ended.Served None reuse) none = none_made s attempts none
unlinked_made s p w attempts (ended.Served (Some e) reuse) (AttemptsFailed.unlinked made) =
    ends_made s attempts e made
unlinked_made s p w attempts (ended.Served (Some e) reuse) (AttemptsFailed.ahead ends made) =
    ahead_made s ends.why attempts made
unlinked_made s p w attempts ended.TurnLimit made = unfinished_made s p w attempts made
unlinked_made s p w attempts ended.OutOfMemory (inl made) = unfinished_made s p w attempts made
unlinked_made s p w attempts ended.OutOfMemory (inr lost) = loses_made s attempts lost.0

-- the attempts of the last part asked the next peers, wherever those before left off
record EndAsked (s : Start) (own : List (Returned AnyScript)) (attempts : List AttemptRecord)
    : Type 0 where
  others : List AttemptRecord
  are : attempts ≡ s.tried ++ others
  asked : (peers : List PeerSpec) (left : List Offer)
      → AreNext (drop (length (faults_told s.tried)) (offers_for any_start own attempts))
      (offers_of peers) left
      → HaveAsked peers others own left

-- so it is where none of them had a link
unlinked_asked : (s : Start) (attempts : List AttemptRecord) → MadeRefused s attempts
    → EndAsked s [] attempts
unlinked_asked s attempts made = record {
  others = made.others;
  are = made.are;
  asked = λ peers left next.
      subst (λ (xs : List AttemptRecord). HaveAsked peers xs [] left) (append-nil made.others)
      (many_refused peers made.others [] [] [] left made.failed
      (subst (λ (os : List GetResult). AreNext os (offers_of peers) left)
      (offers_behind s.tried made.others attempts [] made.are) next)
      (λ ps more. none_asked ps left more));
}

-- and where the last one had
linked_asked : (s : Start) (r : Returned AnyScript) (tries attempts : List AttemptRecord)
    (a : AttemptRecord) → attempts ≡ tries ++ a ∷ [] → AreTries s tries → a.fault ≡ None
    → EndAsked s (r ∷ []) attempts
linked_asked s r tries attempts a all are none =
    let before = tries_made s tries are in
    let link = handed (any_start r.link) in
    record {
      others = before.others ++ a ∷ [];
      are = all ∙ ap (λ (xs : List AttemptRecord). xs ++ a ∷ []) before.are
          ∙ append_assoc s.tried before.others (a ∷ []);
      asked = λ peers left next.
          many_refused peers before.others (a ∷ []) (r ∷ []) (Ok link ∷ []) left before.failed
          (subst (λ (os : List GetResult). AreNext os (offers_of peers) left)
          (offers_behind s.tried before.others (tries_of attempts) (Ok link ∷ [])
          (tries_before tries attempts a all ∙ before.are)) next)
          (λ ps more. one_linked ps a r [] [] [] left none more
          (λ rest. none_asked (drop 1 ps) left rest));
    }

ends_asked : (s : Start) (p : Passed) (w : World) (own : List (Returned AnyScript))
    (attempts : List AttemptRecord) (outcome : Outcome)
    → EndsWith any_state any_start s p w own attempts outcome → EndAsked s own attempts
ends_asked s p w [] attempts outcome ends =
    unlinked_asked s attempts (unlinked_made s p w attempts outcome ends.1)
ends_asked s p w (r ∷ []) attempts outcome ends =
    linked_asked s r ends.tries attempts ends.attempt ends.attempts_are ends.are_tries
    ends.is_record.unfaulted
ends_asked s p w (r ∷ q ∷ rest) attempts outcome ends = absurd ends

-- ---- the attempts that were tried again

-- those before the link of one of them
abbrev refused_in : Leg AnyScript → List AttemptRecord
refused_in leg = map record_of (refusals_since leg.start)

-- all that were made in them
abbrev made_in : List (Leg AnyScript) → List AttemptRecord
made_in [] = []
made_in (leg ∷ legs) = refused_in leg ++ leg.attempt ∷ made_in legs

-- the attempts up to one of them are those before, and then its own
tries_are : (s : Start) (leg : Leg AnyScript) → IsLeg any_state any_start leg
    → BeginsAt s leg → leg.tries ≡ s.tried ++ refused_in leg
tries_are s leg is begins =
    is.are_tries.told
    ∙ ap (λ (xs : List AttemptRecord). xs ++ refused_in leg)
    (ap (λ (x : Start). x.tried) begins.is_start)

-- the attempts up to the last of them are those that were made in them
legs_made : (s : Start) (legs : List (Leg AnyScript)) → AreLegs any_state any_start s legs
    → (behind s legs).tried ≡ s.tried ++ made_in legs
legs_made s [] are = sym (append-nil s.tried)
legs_made s (leg ∷ legs) are =
    legs_made (rebased s leg) legs are.2
    ∙ append_assoc leg.tries (leg.attempt ∷ []) (made_in legs)
    ∙ ap (λ (xs : List AttemptRecord). xs ++ leg.attempt ∷ made_in legs)
    (tries_are s leg are.0 are.1)
    ∙ append_assoc s.tried (refused_in leg) (leg.attempt ∷ made_in legs)

-- what was taken in one of them: its refusals, and its link
taken_are : (leg : Leg AnyScript) → IsLeg any_state any_start leg
    → taken_in any_start leg
    ≡ map Err (faults_told (refused_in leg)) ++ Ok (handed (any_start leg.back.link)) ∷ []
taken_are leg is =
    offers_behind leg.start.tried (refused_in leg) leg.tries
    (Ok (handed (any_start leg.back.link)) ∷ []) is.are_tries.told

-- and all that follows
taken_then : (leg : Leg AnyScript) (rest last : List GetResult) → IsLeg any_state any_start leg
    → (taken_in any_start leg ++ rest) ++ last
    ≡ map Err (faults_told (refused_in leg))
    ++ Ok (handed (any_start leg.back.link)) ∷ (rest ++ last)
taken_then leg rest last is =
    let faults : List GetResult = map Err (faults_told (refused_in leg)) in
    let link : List GetResult = Ok (handed (any_start leg.back.link)) ∷ [] in
    append_assoc (taken_in any_start leg) rest last
    ∙ ap (λ (os : List GetResult). os ++ (rest ++ last)) (taken_are leg is)
    ∙ append_assoc faults link (rest ++ last)

-- they asked the next peers, and those behind them the ones behind
legs_asked : (s : Start) (legs : List (Leg AnyScript)) (attempts : List AttemptRecord)
    (own : List (Returned AnyScript)) (last : List GetResult) (left : List Offer)
    (peers : List PeerSpec)
    → AreLegs any_state any_start s legs
    → AreNext (taken_by any_start legs ++ last) (offers_of peers) left
    → ((ps : List PeerSpec) → AreNext last (offers_of ps) left → HaveAsked ps attempts own left)
    → HaveAsked peers (made_in legs ++ attempts) (links_back legs own) left
legs_asked s [] attempts own last left peers are next goes = goes peers next
legs_asked s (leg ∷ legs) attempts own last left peers are next goes =
    let rest = taken_by any_start legs in
    let more = made_in legs ++ attempts in
    let link = handed (any_start leg.back.link) in
    subst (λ (xs : List AttemptRecord).
    HaveAsked peers xs (leg.back ∷ links_back legs own) left)
    (sym (append_assoc (refused_in leg) (leg.attempt ∷ made_in legs) attempts))
    (many_refused peers (refused_in leg) (leg.attempt ∷ more) (leg.back ∷ links_back legs own)
    (Ok link ∷ (rest ++ last)) left (told_failed (refusals_since leg.start))
    (subst (λ (os : List GetResult). AreNext os (offers_of peers) left)
    (taken_then leg rest last are.0) next)
    (λ ps then_link. one_linked ps leg.attempt leg.back more (links_back legs own) (rest ++ last)
    left are.0.is_record.unfaulted then_link
    (λ then_rest. legs_asked (rebased s leg) legs attempts own last left (drop 1 ps) are.2
    then_rest goes)))

-- ---- a request

-- the attempts of a request asked the first of these peers, and it left the others
pub request_asked : (s : Start) (legs : List (Leg AnyScript)) (p : Passed) (w : World)
    (own : List (Returned AnyScript)) (attempts : List AttemptRecord) (outcome : Outcome)
    (peers : List PeerSpec) (left : List Offer) → s.tried ≡ []
    → AreLegs any_state any_start s legs
    → EndsWith any_state any_start (behind s legs) p w own attempts outcome
    → AreNext (taken_by any_start legs ++ drop (length (faults_told (behind s legs).tried))
    (offers_for any_start own attempts)) (offers_of peers) left
    → HaveAsked peers attempts (links_back legs own) left
request_asked s legs p w own attempts outcome peers left untried are ends next =
    let last = ends_asked (behind s legs) p w own attempts outcome ends in
    let all : attempts ≡ made_in legs ++ last.others =
    last.are
    ∙ ap (λ (xs : List AttemptRecord). xs ++ last.others) (legs_made s legs are)
    ∙ ap (λ (xs : List AttemptRecord). (xs ++ made_in legs) ++ last.others) untried in
    subst (λ (xs : List AttemptRecord). HaveAsked peers xs (links_back legs own) left) (sym all)
    (legs_asked s legs last.others own
    (drop (length (faults_told (behind s legs).tried)) (offers_for any_start own attempts)) left
    peers are next (λ ps more. last.asked ps left more))
