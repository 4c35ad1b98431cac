-- The requests of a run: what each leaves of the script's peers, and what is reported of it.
use Rattle.std.proofs.Common.{◌≡◌, ◌≢◌, inl, inr, ◌⊎◌, Option, None, subst, ℕ, zero, suc, ◌+◌, List, [], ◌∷◌, ◌++◌, map, drop, take, length, Bool, true, false, Some, refl, sym, ap, ◌∙◌, append_assoc, append-nil, true≢false}
use Rattle.std.specs.List.{slice_get, slice_range}
use Rattle.std.proofs.Math.Seq.{drop-append_seam, take-length}
use Rattle.std.proofs.lemmas.List.{length-drop, map-append}
use Rattle.std.proofs.lemmas.Option.{same_Some}
use Rattle.relay_tasks.specs.declared.error.Error.{Error}
use Rattle.relay_tasks.specs.declared.error.RetryType.{RetryType}
use Rattle.relay_tasks.specs.declared.fault.Fault.{Fault}
use Rattle.relay_tasks.specs.declared.log.LogEntry.{LogEntry}
use Rattle.relay_connector.specs.Connector.{Again, New, Offer}
use Rattle.relay_links.specs.Link.{LinkItems, LinkStart, LinkState}
use Rattle.relay_links.specs.ScriptLink.{script_state, script_start, AnswersBy}
use Rattle.relay_connector.specs.ScriptConnector.{AnyScript, any_state, any_start}
use Rattle.relay_connector.specs.ScriptEntries.{entry_offer, offer_of, next_entries, links_returned, offers_left, faults_answered, gets_failed}
use Rattle.relay_links.specs.Told.{Since, more}
use Rattle.relay_connector.specs.declared.connector.Returned.{Returned}
use Rattle.relay_connector.specs.declared.script_connector.PeerScript.{PeerScript}
use Rattle.relay_connector.specs.declared.upstream.Upstream.TheVariants.{H1, H2, Custom}
use Rattle.relay_links.specs.declared.script_link.ScriptLink.{ScriptLink}
use Rattle.relay_request.specs.ClosingHooks.{Gives}
use Rattle.relay_request.specs.Ahead.{IsOwedAhead}
use Rattle.relay_request.specs.Endings.{EndsAhead, EndsUnlinked, EndsWith, FailsToConnect, IsFailedAttempt, IsRelayedEarly, IsRelayedWhole, IsReusableAhead, IsUnsentAttempt}
use Rattle.relay_request.specs.Legs.{AreLegs, Leg, behind, rebased}
use Rattle.relay_attempt.specs.Passed.{Passed}
use Rattle.relay_request.specs.Passed.{World, Start, TellsClient, called_to, start_of}
use Rattle.relay_request.specs.Request.{Processes}
use Rattle.relay_request.specs.declared.outcome.Outcome.{Outcome}
use Rattle.relay_request.specs.declared.outcome.Outcome.TheVariants as ended
use Rattle.relay_request.specs.declared.outcome.Processed.{Processed}
use Rattle.relay_request.specs.declared.record.AttemptRecord.{AttemptRecord}
use Rattle.relay_scripted.specs.declared.proxy.ScriptProxy.{ScriptProxy}
use Rattle.relay_command.proofs.AskedLemmas.{request_asked}
use Rattle.relay_command.proofs.ListLemmas.{drop_at}
use Rattle.relay_command.specs.Exchange.{attempt_report, attempt_reports, left_by, links_back, sent_by, sents_in, sents_of, taken_of, taken_since, StartsWithin, StartWithin, names_of, first_name, peer_items, peer_offer, offers_of, IsMadeFor, IsEntryOf, AreEntriesOf, IsLogOf, Place, application_of, world_at, first_place, reported, start_at, IsRequest, Follows, AreRun, place_of, IsAt, Begins, Runs, IsRun}
use Rattle.relay_command.specs.Report.{RequestSpec, outcome_reuse}
use Rattle.relay_json.specs.Script.{PeerSpec, ScriptSpec}
use Rattle.relay_command.specs.declared.exchange.Run.{Run}
use Rattle.relay_command.specs.declared.report.AttemptReport.{AttemptReport}

-- ---- what is reported of attempts

-- one attempt more is reported, at the next of the names
pub reports_more : (names sents : List (List ℕ)) (front : List AttemptReport)
    (attempts : List AttemptRecord) (n : ℕ) (a : AttemptRecord) → slice_get attempts n ≡ Some a
    → (front ++ attempt_report (first_name names) (sent_by a.fault sents) a ∷ [])
    ++ attempt_reports (drop 1 names) (left_by a.fault sents) (drop (n + 1) attempts)
    ≡ front ++ attempt_reports names sents (drop n attempts)
reports_more names sents front attempts n a is =
    append_assoc front _ _
    ∙ ap (λ (xs : List AttemptRecord). front ++ attempt_reports names sents xs)
    (sym (drop_at attempts n a is))

-- what the links took that an attempt leaves
pub sents_left : (told : Option Fault) (links : List (Returned AnyScript))
    → sents_of (left_by told links) ≡ left_by told (sents_of links)
sents_left (Some fault) links = refl
sents_left None [] = refl
sents_left None (r ∷ links) = refl

-- these start within what they took as well
pub start_left : (told : Option Fault) (links : List (Returned AnyScript)) → StartWithin links
    → StartWithin (left_by told links)
start_left (Some fault) links start = start
start_left None [] start = tt
start_left None (r ∷ links) start = start.1

-- what is reported of one more is the same with a text more that no link took
one_same : (names sents : List (List ℕ)) (told : Option Fault) (a : AttemptRecord)
    (attempts : List AttemptRecord)
    → ((those : List (List ℕ)) → attempt_reports (drop 1 names) those attempts
    ≡ attempt_reports (drop 1 names) (those ++ [] ∷ []) attempts)
    → ◌≡◌ {A = List AttemptReport} (attempt_report (first_name names) (sent_by told sents) a
    ∷ attempt_reports (drop 1 names) (left_by told sents) attempts)
    (attempt_report (first_name names) (sent_by told (sents ++ [] ∷ [])) a
    ∷ attempt_reports (drop 1 names) (left_by told (sents ++ [] ∷ [])) attempts)
one_same names sents (Some fault) a attempts others =
    ap (λ (rs : List AttemptReport). attempt_report (first_name names) [] a ∷ rs) (others sents)
one_same names [] None a attempts others = refl
one_same names (sent ∷ sents) None a attempts others =
    ap (λ (rs : List AttemptReport). attempt_report (first_name names) sent a ∷ rs) (others sents)

-- so it is of all
nothing_more : (names sents : List (List ℕ)) (attempts : List AttemptRecord)
    → attempt_reports names sents attempts ≡ attempt_reports names (sents ++ [] ∷ []) attempts
nothing_more names sents [] = refl
nothing_more names sents (a ∷ attempts) =
    one_same names sents a.fault a attempts
    (λ those. nothing_more (drop 1 names) those attempts)

-- ---- the peers of a script

-- the link that is made for a peer answers by its items
made_items : (peer : PeerSpec) (link : AnyScript) → IsMadeFor peer link
    → (any_start link).items ≡ Some (peer_items peer)
made_items peer (H1 link) made = made.items
made_items peer (H2 link) made = absurd made
made_items peer (Custom link) made = absurd made

-- what an entry with that mark, or without one, is for
entry_at : (connect : Option RetryType) (again : Bool) (peer : PeerSpec) (link : AnyScript)
    → (any_start link).items ≡ Some (peer_items peer)
    → entry_offer connect again link ≡ peer_offer connect again peer
entry_at (Some retry) again peer link by = refl
entry_at None false peer link by = ap (λ (items : Option LinkItems). New items) by
entry_at None true peer link by = ap (λ (items : Option LinkItems). Again items) by

-- a peer's entry has what the peer offers
entry_is : (peer : PeerSpec) (entry : PeerScript) → IsEntryOf peer entry
    → offer_of entry ≡ peer_offer peer.connect peer.again peer
entry_is peer entry is =
    ap (λ (c : Option RetryType). entry_offer c entry.again entry.link) is.connect
    ∙ ap (λ (a : Bool). entry_offer peer.connect a entry.link) is.again
    ∙ entry_at peer.connect peer.again peer entry.link (made_items peer entry.link is.link)

-- so the entries of peers have what they offer
pub offers_are : (peers : List PeerSpec) (entries : List PeerScript) → AreEntriesOf peers entries
    → map offer_of entries ≡ offers_of peers
offers_are [] [] are = refl
offers_are [] (entry ∷ entries) are = absurd are
offers_are (peer ∷ peers) [] are = absurd are
offers_are (peer ∷ peers) (entry ∷ entries) are =
    rw (entry_is peer entry are.0, offers_are peers entries are.1)

-- one more entry is that of one more peer
pub entries_more : (peers : List PeerSpec) (entries : List PeerScript) (peer : PeerSpec)
    (entry : PeerScript)
    → AreEntriesOf peers entries → IsEntryOf peer entry
    → AreEntriesOf (peers ++ peer ∷ []) (entries ++ entry ∷ [])
entries_more [] [] peer entry are is = (is, tt)
entries_more [] (other ∷ entries) peer entry are is = absurd are
entries_more (other ∷ peers) [] peer entry are is = absurd are
entries_more (other ∷ peers) (first ∷ entries) peer entry are is =
    (are.0, entries_more peers entries peer entry are.1 is)

-- the names of peers that are left are those that are left of the names
names_left : (n : ℕ) (peers : List PeerSpec) → drop n (names_of peers) ≡ names_of (drop n peers)
names_left zero peers = refl
names_left (suc n) [] = refl
names_left (suc n) (peer ∷ peers) = names_left n peers

-- ---- what passed over the links

-- an attempt that was given no link sent nothing, nor did a request that hooks ended before one
ahead_sent : (s : Start) (p : Passed) (w : World) (e : Error)
    → FailsToConnect s p w e ⊎ EndsAhead s p w (Some e) → [] ≡ p.sent
ahead_sent s p w e (inl fails) = sym fails.owed.unconnected.unsent.sent
ahead_sent s p w e (inr ends) = sym ends.unsent.sent

-- so the last part of a request sent nothing where it had no link
unlinked_sent : (s : Start) (p : Passed) (w : World) (outcome : Outcome)
    → EndsUnlinked s p w outcome → [] ≡ p.sent
unlinked_sent s p w ended.NoRequest ends = sym ends.unsent.sent
unlinked_sent s p w (ended.Refused error) (inl answered) = sym answered.unsent.sent
unlinked_sent s p w (ended.Refused error) (inr (inl alone)) = sym alone.unsent.sent
unlinked_sent s p w (ended.Refused error) (inr (inr fault)) = sym fault.unsent.sent
unlinked_sent s p w (ended.Served None reuse) ends = sym ends.ends.unsent.sent
unlinked_sent s p w (ended.Served (Some e) reuse) ends = ahead_sent s p w e ends.0
unlinked_sent s p w ended.TurnLimit ends = sym ends.sent
unlinked_sent s p w ended.OutOfMemory ends = sym ends.sent

-- what was sent over a link is what it took since it was handed out
sent_over : (link : AnyScript) (sent : List ℕ)
    → Since [] (any_start link).taken (any_state link).taken sent
    → StartsWithin link × (taken_since link ≡ sent)
sent_over (H1 link) sent since = since
sent_over (H2 link) sent since = since
sent_over (Custom link) sent since = since

-- the bytes that the links of attempts took that were tried again are those that were sent
legs_sent : (s : Start) (legs : List (Leg AnyScript)) → AreLegs any_state any_start s legs
    → sents_of (map (λ (leg : Leg AnyScript). leg.back) legs)
    ≡ map (λ (leg : Leg AnyScript). leg.passed.sent) legs
legs_sent s [] are = refl
legs_sent s (leg ∷ legs) are =
    let backs : List (Returned AnyScript) = map (λ (k : Leg AnyScript). k.back) legs in
    ap (λ (sent : List ℕ). sent ∷ sents_of backs)
    (sent_over leg.back.link leg.passed.sent are.0.tells.sent).1
    ∙ ap (λ (sents : List (List ℕ)). leg.passed.sent ∷ sents)
    (legs_sent (rebased s leg) legs are.2)

-- so it is of all links of a request, and where the last part had none, nothing was sent in it
sents_are : (s : Start) (legs : List (Leg AnyScript)) (p : Passed) (w : World)
    (own : List (Returned AnyScript)) (names : List (List ℕ)) (attempts : List AttemptRecord)
    (outcome : Outcome) → AreLegs any_state any_start s legs
    → EndsWith any_state any_start (behind s legs) p w own attempts outcome
    → attempt_reports names (sents_of (links_back legs own)) attempts
    ≡ attempt_reports names (sents_in legs p.sent) attempts
sents_are s legs p w [] names attempts outcome are ends =
    let backs : List (Returned AnyScript) = map (λ (leg : Leg AnyScript). leg.back) legs in
    let sents : List (List ℕ) = map (λ (leg : Leg AnyScript). leg.passed.sent) legs in
    ap (λ (xs : List (List ℕ)). attempt_reports names xs attempts)
    (ap (λ (rs : List (Returned AnyScript)). sents_of rs) (append-nil backs)
    ∙ legs_sent s legs are)
    ∙ nothing_more names sents attempts
    ∙ ap (λ (sent : List ℕ). attempt_reports names (sents ++ sent ∷ []) attempts)
    (unlinked_sent (behind s legs) p w outcome ends.0)
sents_are s legs p w (r ∷ []) names attempts outcome are ends =
    let backs : List (Returned AnyScript) = map (λ (leg : Leg AnyScript). leg.back) legs in
    let sents : List (List ℕ) = map (λ (leg : Leg AnyScript). leg.passed.sent) legs in
    ap (λ (xs : List (List ℕ)). attempt_reports names xs attempts)
    (map-append (λ (k : Returned AnyScript). taken_since k.link) backs (r ∷ [])
    ∙ ap (λ (xs : List (List ℕ)). xs ++ taken_since r.link ∷ []) (legs_sent s legs are)
    ∙ ap (λ (sent : List ℕ). sents ++ sent ∷ []) (sent_over r.link p.sent ends.tells.sent).1)
sents_are s legs p w (r ∷ q ∷ rest) names attempts outcome are ends = absurd ends

-- the link of the last part starts within what it took
end_starts : (s : Start) (p : Passed) (w : World) (own : List (Returned AnyScript))
    (attempts : List AttemptRecord) (outcome : Outcome)
    → EndsWith any_state any_start s p w own attempts outcome → StartWithin own
end_starts s p w [] attempts outcome ends = tt
end_starts s p w (r ∷ []) attempts outcome ends = ((sent_over r.link p.sent ends.tells.sent).0, tt)
end_starts s p w (r ∷ q ∷ rest) attempts outcome ends = absurd ends

-- and so do those of attempts that were tried again
all_start : (s : Start) (legs : List (Leg AnyScript)) (own : List (Returned AnyScript))
    → AreLegs any_state any_start s legs → StartWithin own
    → StartWithin (links_back legs own)
all_start s [] own are start = start
all_start s (leg ∷ legs) own are start = (
  (sent_over leg.back.link leg.passed.sent are.0.tells.sent).0,
  all_start (rebased s leg) legs own are.2 start,
)

-- what stands from a place to the end
pub range_end : {A : Type 0} (xs : List A) (from : ℕ)
    → slice_range xs from (length xs) ≡ drop from xs
range_end xs from =
    ap (λ n. take n (drop from xs)) (sym (length-drop from xs)) ∙ take-length (drop from xs)

-- the links that came back in a request are its own, behind the ones from before
pub own_is : (before after own : List (Returned AnyScript)) → Some after ≡ more (Some before) own
    → after ≡ before ++ own
own_is before after own gained = same_Some after (before ++ own) gained

pub own_behind : (before after own : List (Returned AnyScript))
    → Some after ≡ more (Some before) own → drop (length before) after ≡ own
own_behind before after own gained =
    ap (λ rs. drop (length before) rs) (own_is before after own gained)
    ∙ drop-append_seam before own

-- they start within what they took
pub back_start : (s : Start) (w : World) (before after : List (Returned AnyScript))
    (told_before told_after : Option (List Fault)) (had has : Option (List Offer))
    (client : LinkState) (turns : ℕ) (processed : Processed)
    → Processes any_state any_start s w (Some before) (Some after) told_before told_after
    had has client turns processed
    → StartWithin (drop (length before) after)
back_start s w before after told_before told_after had has client turns processed run =
    subst (λ (rs : List (Returned AnyScript)). StartWithin rs)
    (sym (own_behind before after (links_back run.legs run.own) run.gained))
    (all_start s run.legs run.own run.are_legs
    (end_starts (behind s run.legs) run.passed w run.own processed.history.attempts run.came
    run.ended.ends))

-- nothing is ahead of a client that goes back
pub clear_again : (s : Start) (p : Passed) (w : World) (own : List (Returned AnyScript))
    (records : List AttemptRecord) (outcome : Outcome)
    → EndsWith any_state any_start s p w own records outcome
    → outcome_reuse outcome ≡ true → w.ahead ≡ []
clear_again s p w own records ended.NoRequest ends back = cc
clear_again s p w own records (ended.Refused error) ends back = cc
clear_again s p w [] records (ended.Served None reuse) ends back =
    clear ends.0.ends.owed (ends.0.goes_back.0 back)
  where
    clear : {why : Option Error} {text : List ℕ} (owed : IsOwedAhead s p why text)
        → IsReusableAhead owed w.ahead → w.ahead ≡ []
    clear (IsOwedAhead.by_answer head tasks text accepted order is_answer is) may =
        may.nothing_ahead
    clear (IsOwedAhead.by_error head e text accepted stopped told is) may = absurd may
clear_again s p w [] records (ended.Served (Some e) reuse) ends back =
    absurd (true≢false (sym back ∙ ends.0.1))
clear_again s p w (r ∷ []) records (ended.Served None reuse) ends back = clear ends.ends back
  where
    clear : IsRelayedWhole s p w (any_state r.link) (any_start r.link) r.keep reuse
        ⊎ IsRelayedEarly s p w (any_state r.link) (any_start r.link) r.keep reuse
        → reuse ≡ true → w.ahead ≡ []
    clear (inl whole) back = (whole.goes_back.0 back).nothing_ahead
    clear (inr early) back = (early.goes_back.0 back).nothing_ahead
clear_again s p w (r ∷ []) records (ended.Served (Some e) reuse) ends back =
    stays e ends.ends back
  where
    stays : (e : Error) → IsFailedAttempt s p w (any_state r.link) (any_start r.link) r.keep
        reuse e
        ⊎ IsUnsentAttempt s p w (any_state r.link) (any_start r.link) r.keep reuse e
        → reuse ≡ true → w.ahead ≡ []
    stays e (inl failed) back = absurd (true≢false (sym back ∙ failed.stays))
    stays e (inr unsent) back = absurd (true≢false (sym back ∙ unsent.stays))
clear_again s p w (r ∷ q ∷ rest) records (ended.Served error reuse) ends back = absurd ends
clear_again s p w own records ended.TurnLimit ends back = cc
clear_again s p w own records ended.OutOfMemory ends back = cc

-- a client goes back only where its request came to that: not where the hooks of its end were cut
-- off
back_given : (log : List LogEntry) (came now : Outcome) → Gives log came now
    → outcome_reuse now ≡ true → outcome_reuse came ≡ true
back_given log came now (Gives.same is heard) back =
    ap (λ (o : Outcome). outcome_reuse o) (sym is) ∙ back
back_given log came now (Gives.closes error was is told off) back =
    absurd (true≢false (sym back ∙ ap (λ (o : Outcome). outcome_reuse o) is))
back_given log came now (Gives.cut error reuse was (inl limit)) back =
    absurd (true≢false (sym back ∙ ap (λ (o : Outcome). outcome_reuse o) limit))
back_given log came now (Gives.cut error reuse was (inr lost)) back =
    absurd (true≢false (sym back ∙ ap (λ (o : Outcome). outcome_reuse o) lost))

-- what is reported as written is what was, where no attempt was tried again
written_is : (s : Start) (legs : List (Leg AnyScript)) (p : Passed) (w : World)
    (client : ScriptLink) (written : List ℕ) → legs ≡ []
    → w.client ≡ script_state client → TellsClient (behind s legs) p w
    → written ≡ drop s.taken (taken_of client) → written ≡ p.written
written_is s legs p w client written none is tells wrote =
    wrote
    ∙ (subst (λ (c : LinkState). Since [] s.taken c.taken p.written) is
    (subst (λ (ls : List (Leg AnyScript)). TellsClient (behind s ls) p w) none tells).written).1

-- what is reported of a request that the proxy made over the links of a script
pub is_request : (script : ScriptSpec) (from to : Place) (written : List ℕ)
    (links : List (Returned AnyScript)) (processed : Processed)
    (run : Processes any_state any_start (start_at script from processed.history.log)
    (world_at to) (Some from.returned) (Some to.returned) from.refusals to.refusals
    (Some (offers_of from.peers)) (Some (offers_of to.peers))
    (script_state from.client) script.turns processed)
    → to.peers ≡ drop (length processed.history.attempts) from.peers
    → IsLogOf (application_of script.rules) processed.history.log
    → AnswersBy to.client script.client script.client_write → from.ahead ≡ []
    → processed.outcome ≢ ended.OutOfMemory
    → written ≡ drop (length (taken_of from.client)) (taken_of to.client)
    → links ≡ links_back run.legs run.own
    → IsRequest script from to
    (reported (names_of from.peers) processed written links)
is_request script from to written links processed run asked logged client clear printable
    is_written are_back =
    let s = start_at script from processed.history.log in
    record {
      processed = processed;
      run = run;
      asked = asked;
      are_links = (request_asked s run.legs run.passed (world_at to) run.own
          processed.history.attempts run.came from.peers (offers_of to.peers) refl run.are_legs
          run.ended.ends run.offered).are_links;
      logged = logged;
      is_client = client;
      clear = clear;
      printable = printable;
      outcome = refl;
      written = is_written;
      passed = λ none. written_is s run.legs run.passed (world_at to) to.client written none refl
          run.ended.tells is_written;
      attempts = ap (λ (rs : List (Returned AnyScript)).
          attempt_reports (names_of from.peers) (sents_of rs) processed.history.attempts) are_back
          ∙ sents_are s run.legs run.passed (world_at to) run.own (names_of from.peers)
          processed.history.attempts run.came run.are_legs run.ended.ends;
      log = refl;
      unlisted = refl;
    }

-- what a run made of the next request, by the values that the code has
pub run_next : (script : ScriptSpec) (peers : List PeerSpec) (old new : Run) (processed : Processed)
    (turns : ℕ) (written : List ℕ) (links : List (Returned AnyScript)) (request : RequestSpec)
    → script.turns ≡ turns → IsAt script old peers
    → Processes any_state any_start
    (called_to (start_of old.proxy.conf.max_retries (world_at (place_of old peers)))
    processed.history.log)
    (world_at (place_of new peers))
    (Some (links_returned old.proxy.connector)) (Some (links_returned new.proxy.connector))
    (faults_answered old.proxy.connector) (faults_answered new.proxy.connector)
    (Some (offers_left old.proxy.connector)) (Some (offers_left new.proxy.connector))
    (script_state old.client.link) turns processed
    → script_start new.client.link ≡ script_start old.client.link
    → new.names.items ≡ drop (length processed.history.attempts) old.names.items
    → new.proxy.conf.max_retries ≡ old.proxy.conf.max_retries
    → new.proxy.inner ≡ old.proxy.inner → IsLogOf old.proxy.inner processed.history.log
    → processed.outcome ≢ ended.OutOfMemory
    → written ≡ drop (length (taken_of old.client.link)) (taken_of new.client.link)
    → links
    ≡ drop (length (links_returned old.proxy.connector)) (links_returned new.proxy.connector)
    → request ≡ reported old.names.items processed written links
    → Runs script peers old new request
run_next script peers old new processed turns written links request many at ran started left
    set_up same logged printable wrote back found =
    record {
      left = rest;
      is_request = subst (λ (r : RequestSpec).
          IsRequest script (place_of old peers) (place_of new rest) r) (sym found)
          (subst (λ (ns : List (List ℕ)). IsRequest script (place_of old peers) (place_of new rest)
          (reported ns processed written links)) (sym at.names)
          (is_request script (place_of old peers) (place_of new rest) written links processed run
          refl by_rules client at.clear printable wrote
          (back ∙ own_behind (links_returned old.proxy.connector)
          (links_returned new.proxy.connector) (links_back run.legs run.own) run.gained)));
      stands = λ again. record {
        offers = offers;
        names = left ∙ ap (λ (ns : List (List ℕ)). drop (length processed.history.attempts) ns)
            at.names ∙ names_left (length processed.history.attempts) peers;
        retries = set_up ∙ at.retries;
        client = client;
        clear = clear_again _ run.passed (world_at (place_of new rest)) run.own
            processed.history.attempts run.came run.ended.ends
            (back_given processed.history.log run.came processed.outcome run.given
            (ap (λ (r : RequestSpec). outcome_reuse r.outcome) (sym found) ∙ again));
        app = same ∙ at.app;
      };
    }
  where
    rest : List PeerSpec
    rest = drop (length processed.history.attempts) peers

    -- with what the peers offer
    offered : Processes any_state any_start
        (start_at script (place_of old peers) processed.history.log) (world_at (place_of new rest))
        (Some (links_returned old.proxy.connector)) (Some (links_returned new.proxy.connector))
        (faults_answered old.proxy.connector) (faults_answered new.proxy.connector)
        (Some (offers_of peers)) (Some (offers_left new.proxy.connector))
        (script_state old.client.link) script.turns processed
    offered =
        subst (λ (n : ℕ). Processes any_state any_start
        (start_at script (place_of old peers) processed.history.log) (world_at (place_of new rest))
        (Some (links_returned old.proxy.connector)) (Some (links_returned new.proxy.connector))
        (faults_answered old.proxy.connector) (faults_answered new.proxy.connector)
        (Some (offers_of peers)) (Some (offers_left new.proxy.connector))
        (script_state old.client.link) n processed) (sym many)
        (subst (λ (os : List Offer). Processes any_state any_start
        (start_at script (place_of old peers) processed.history.log) (world_at (place_of new rest))
        (Some (links_returned old.proxy.connector)) (Some (links_returned new.proxy.connector))
        (faults_answered old.proxy.connector) (faults_answered new.proxy.connector)
        (Some os) (Some (offers_left new.proxy.connector))
        (script_state old.client.link) turns processed) at.offers
        (subst (λ (n : ℕ). Processes any_state any_start
        (called_to (start_of n (world_at (place_of old peers))) processed.history.log)
        (world_at (place_of new peers))
        (Some (links_returned old.proxy.connector)) (Some (links_returned new.proxy.connector))
        (faults_answered old.proxy.connector) (faults_answered new.proxy.connector)
        (Some (offers_left old.proxy.connector)) (Some (offers_left new.proxy.connector))
        (script_state old.client.link) turns processed) at.retries ran))

    -- what is left are the peers behind those that were asked
    offers : offers_left new.proxy.connector ≡ offers_of rest
    offers = (request_asked (start_at script (place_of old peers) processed.history.log)
        offered.legs offered.passed (world_at (place_of new rest)) offered.own
        processed.history.attempts offered.came peers (offers_left new.proxy.connector) refl
        offered.are_legs offered.ended.ends offered.offered).are_left

    run : Processes any_state any_start
        (start_at script (place_of old peers) processed.history.log) (world_at (place_of new rest))
        (Some (links_returned old.proxy.connector)) (Some (links_returned new.proxy.connector))
        (faults_answered old.proxy.connector) (faults_answered new.proxy.connector)
        (Some (offers_of peers)) (Some (offers_of rest))
        (script_state old.client.link) script.turns processed
    run = subst (λ (os : List Offer). Processes any_state any_start
        (start_at script (place_of old peers) processed.history.log) (world_at (place_of new rest))
        (Some (links_returned old.proxy.connector)) (Some (links_returned new.proxy.connector))
        (faults_answered old.proxy.connector) (faults_answered new.proxy.connector)
        (Some (offers_of peers)) (Some os)
        (script_state old.client.link) script.turns processed) offers offered

    client : AnswersBy new.client.link script.client script.client_write
    client = ap (λ (s : LinkStart). s.items) started ∙ at.client

    by_rules : IsLogOf (application_of script.rules) processed.history.log
    by_rules = subst (λ (app : ScriptProxy). IsLogOf app processed.history.log) at.app logged

-- ---- one request behind the other

-- what follows where the client goes back, and where it does not
follows_back : (back : Bool) (next : Type 0) (rest : List RequestSpec) → back ≡ true → next
    → Follows back next rest
follows_back true next rest is runs = runs
follows_back false next rest is runs = cc

follows_none : (back : Bool) (next : Type 0) → back ≡ false → Follows back next []
follows_none true next is = cc
follows_none false next is = refl

-- a request from which the client goes back, and the run behind it
pub goes_on : (script : ScriptSpec) (most : ℕ) (from to : Place) (request : RequestSpec)
    (rest : List RequestSpec) → IsRequest script from to request
    → outcome_reuse request.outcome ≡ true → AreRun script most to rest
    → AreRun script (suc most) from (request ∷ rest)
goes_on script most from to request rest is back runs = (
  to,
  is,
  follows_back (outcome_reuse request.outcome) (AreRun script most to rest) rest back runs,
)

-- a request from which it does not, and none behind it
pub ends_at : (script : ScriptSpec) (most : ℕ) (from to : Place) (request : RequestSpec)
    → IsRequest script from to request → outcome_reuse request.outcome ≡ false
    → AreRun script (suc most) from (request ∷ [])
ends_at script most from to request is gone =
    (to, is, follows_none (outcome_reuse request.outcome) (AreRun script most to []) gone)

-- ---- the run between two requests

-- a place at which nothing has passed is the first one
place_is : (client : ScriptLink) (ahead : List ℕ) (faults : ℕ) (refusals : Option (List Fault))
    (returned : List (Returned AnyScript)) (peers : List PeerSpec)
    → ahead ≡ [] → faults ≡ 0 → refusals ≡ Some [] → returned ≡ []
    → ◌≡◌ {A = Place} (record {
      client = client;
      ahead = ahead;
      faults = faults;
      refusals = refusals;
      returned = returned;
      peers = peers;
    }) (first_place client peers)
place_is client ahead faults refusals returned peers clear none unrefused unreturned =
    rw (clear, none, unrefused, unreturned) refl

-- where a run begins that was made of a script
first_is : (script : ScriptSpec) (run : Run) → Begins script run
    → place_of run script.peers ≡ first_place run.client.link script.peers
first_is script run begins =
    place_is run.client.link run.client.ahead (gets_failed run.proxy.connector)
    (faults_answered run.proxy.connector) (links_returned run.proxy.connector) script.peers
    begins.clear begins.offered.faults begins.offered.refusals begins.offered.returned

-- its first request may begin
first_at : (script : ScriptSpec) (run : Run) → Begins script run → IsAt script run script.peers
first_at script run begins = record {
  offers = offers_are script.peers (next_entries run.proxy.connector) begins.offered.entries;
  names = begins.names;
  retries = begins.retries;
  client = begins.fresh.items;
  clear = begins.clear;
  app = begins.app;
}

-- the requests so far, and then any run of those that are left, are a run of the script
pub record IsUnderWay (script : ScriptSpec) (run : Run) (left : ℕ) (requests : List RequestSpec)
    : Type 0 where
  pub begun : Run
  pub begins : Begins script begun
  pub peers : List PeerSpec
  pub at : IsAt script run peers
  pub goes : (rest : List RequestSpec) → AreRun script left (place_of run peers) rest
      → AreRun script script.requests (first_place begun.client.link script.peers)
      (requests ++ rest)

-- before the first request
pub none_yet : (script : ScriptSpec) (run : Run) (left : ℕ) → left ≡ script.requests
    → Begins script run → IsUnderWay script run left []
none_yet script run left all begins = record {
  begun = run;
  begins = begins;
  peers = script.peers;
  at = first_at script run begins;
  goes = λ rest runs.
      subst (λ (from : Place). AreRun script script.requests from rest) (first_is script run begins)
      (subst (λ (n : ℕ). AreRun script n (place_of run script.peers) rest) all runs);
}

-- one request more stands behind those so far
one_behind : (requests : List RequestSpec) (request : RequestSpec) (rest : List RequestSpec)
    → requests ++ request ∷ rest ≡ (requests ++ request ∷ []) ++ rest
one_behind requests request rest = sym (append_assoc requests (request ∷ []) rest)

-- one request more, from which the client goes back
pub one_more : (script : ScriptSpec) (old new : Run) (left less : ℕ) (requests : List RequestSpec)
    (request : RequestSpec) (under : IsUnderWay script old left requests)
    → Runs script under.peers old new request → outcome_reuse request.outcome ≡ true
    → left ≡ suc less → IsUnderWay script new less (requests ++ request ∷ [])
one_more script old new left less requests request under runs back is = record {
  begun = under.begun;
  begins = under.begins;
  peers = runs.left;
  at = runs.stands back;
  goes = λ rest next.
      subst (λ (rs : List RequestSpec). AreRun script script.requests
      (first_place under.begun.client.link script.peers) rs) (one_behind requests request rest)
      (under.goes (request ∷ rest)
      (subst (λ (n : ℕ). AreRun script n (place_of old under.peers) (request ∷ rest)) (sym is)
      (goes_on script less (place_of old under.peers) (place_of new runs.left) request rest
      runs.is_request back next)));
}

-- a run is over that was made of a script
is_run : (script : ScriptSpec) (begun : Run) (requests : List RequestSpec) → Begins script begun
    → AreRun script script.requests (first_place begun.client.link script.peers) requests
    → IsRun script requests
is_run script begun requests begins runs = record {
  client = begun.client.link;
  fresh = begins.fresh;
  connector = begun.proxy.connector;
  offered = begins.offered;
  schedule = begun.outside.schedule;
  named = begins.named;
  runs = runs;
}

-- it is over with a request from which the client does not go back
pub last_one : (script : ScriptSpec) (old new : Run) (left less : ℕ) (requests : List RequestSpec)
    (request : RequestSpec) (under : IsUnderWay script old left requests)
    → Runs script under.peers old new request → outcome_reuse request.outcome ≡ false
    → left ≡ suc less → IsRun script (requests ++ request ∷ [])
last_one script old new left less requests request under runs gone is =
    is_run script under.begun (requests ++ request ∷ []) under.begins
    (under.goes (request ∷ [])
    (subst (λ (n : ℕ). AreRun script n (place_of old under.peers) (request ∷ [])) (sym is)
    (ends_at script less (place_of old under.peers) (place_of new runs.left) request
    runs.is_request gone)))

-- it is over once no more requests are allowed
pub all_run : (script : ScriptSpec) (run : Run) (left : ℕ) (requests : List RequestSpec)
    → IsUnderWay script run left requests → left ≡ 0 → IsRun script requests
all_run script run left requests under none =
    is_run script under.begun requests under.begins
    (subst (λ (rs : List RequestSpec). AreRun script script.requests
    (first_place under.begun.client.link script.peers) rs) (append-nil requests)
    (under.goes []
    (subst (λ (n : ℕ). AreRun script n (place_of run under.peers) []) (sym none) refl)))
