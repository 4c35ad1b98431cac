-- What a run of a script rules out.
use Rattle.std.proofs.Common.{◌≡◌, ◌≢◌, ℕ, zero, suc, ◌+◌, ◌*◌, ◌≤◌, ◌<◌, Bool, true, false, List, [], ◌∷◌, ◌++◌, drop, map, Option, None, Some, refl, sym, ap, ◌∙◌, subst, inl, inr, length, length-append, arith}
use Rattle.std.specs.List.{slice_get}
use Rattle.std.proofs.lemmas.List.{drop-drop, length-drop, length-take}
use Rattle.std.proofs.lemmas.List.Concat.{flat_map-cons}
use Rattle.std.proofs.lemmas.Option.{same_Some, slice_get_within}
use Rattle.relay_tasks.specs.declared.fault.Fault.{Fault}
use Rattle.relay_tasks.specs.declared.log.LogEntry.{LogEntry}
use Rattle.relay_links.specs.Link.{LinkState, LinkItems}
use Rattle.relay_links.specs.ReadScript.{given_of, left_items, script_given, script_left, IsAtEnd}
use Rattle.relay_links.specs.ReadScript as reads
use Rattle.relay_links.specs.declared.write_script.WriteItem.{WriteItem}
use Rattle.relay_links.specs.ScriptLink.{script_state, AnswersBy}
use Rattle.relay_links.specs.Told.{Since, told_length}
use Rattle.relay_connector.specs.ScriptConnector.{AnyScript, any_state, any_start}
use Rattle.relay_connector.specs.declared.connector.Returned.{Returned}
use Rattle.relay_connector.specs.declared.upstream.Upstream.TheVariants.{H1, H2, Custom}
use Rattle.relay_links.specs.declared.read_script.ReadItem.{ReadItem}
use Rattle.relay_links.specs.declared.read_script.ReadItem.TheVariants as item
use Rattle.relay_links.specs.declared.script_link.ScriptLink.{ScriptLink}
use Rattle.relay_attempt.specs.Passed.{Passed}
use Rattle.relay_request.specs.ClosingHooks.{Gives}
use Rattle.relay_request.specs.Endings.{EndsWith, IsNoRequest}
use Rattle.relay_request.specs.Bound.{OwnGave, most_sides, sides_before}
use Rattle.relay_request.specs.Closing.{IsQuiet}
use Rattle.relay_request.specs.Legs.{AreLegs, Leg, LegsWithin, behind, rebased}
use Rattle.relay_turns.proofs.BoundLemmas.{turns_bounded}
use Rattle.relay_request.specs.Passed.{World, Start}
use Rattle.relay_links.specs.declared.branch.Branch.{Branch}
use Rattle.relay_links.specs.ListSchedule.{branches_left}
use Rattle.relay_links.specs.declared.list_schedule.ListSchedule.{ListSchedule}
use Rattle.relay_request.specs.declared.outcome.Outcome.{Outcome}
use Rattle.relay_request.specs.declared.outcome.Outcome.TheVariants as ended
use Rattle.relay_request.specs.declared.record.AttemptRecord.{AttemptRecord}
use Rattle.relay_command.specs.Exchange.{AreLinksOf, GetsNext, IsRefusedBy, left_by, links_back, peer_items, Place, world_at, first_place, start_at, IsRequest, Follows, AreRun, IsRun}
use Rattle.relay_command.specs.Report.{RequestSpec, outcome_reuse}
use Rattle.relay_json.specs.Script.{PeerSpec, ScriptSpec}

-- a request that ended as none had no byte, and its client ended
none_of : (s : Start) (p : Passed) (w : World) (own : List (Returned AnyScript))
    (records : List AttemptRecord)
    → EndsWith any_state any_start s p w own records ended.NoRequest → IsNoRequest s p w
none_of s p w [] records ends = ends.0
none_of s p w (r ∷ []) records ends = absurd ends.ends
none_of s p w (r ∷ q ∷ rest) records ends = absurd ends

-- a request of which that is given came to it
none_given : (log : List LogEntry) (came now : Outcome) → Gives log came now
    → now ≡ ended.NoRequest → came ≡ ended.NoRequest
none_given log came now (Gives.same is heard) none = sym is ∙ none
none_given log came now (Gives.closes error was is told off) none =
    absurd (let clash : ended.Served error false ≡ ended.NoRequest = sym is ∙ none in cc)
none_given log came now (Gives.cut error reuse was (inl limit)) none =
    absurd (let clash : ended.TurnLimit ≡ ended.NoRequest = sym limit ∙ none in cc)
none_given log came now (Gives.cut error reuse was (inr lost)) none =
    absurd (let clash : ended.OutOfMemory ≡ ended.NoRequest = sym lost ∙ none in cc)

-- a link whose first item has bytes has given some, or does not stand at an end
gives_first : (b : ℕ) (bytes : List ℕ) (items : List ReadItem) (at done : ℕ)
    → given_of (item.Bytes (b ∷ bytes) ∷ items) at done ≡ []
    → IsAtEnd (left_items (item.Bytes (b ∷ bytes) ∷ items) at done) → ⊥
gives_first b bytes items zero done given at_end = cc
gives_first b bytes items (suc at) done given at_end = cc

items_same : (a b : LinkItems) → Some a ≡ Some b → a.read ≡ b.read
items_same a b same = ap (λ (x : LinkItems). x.read) (same_Some a b same)

-- a list with a first item is not empty
not_empty : {A : Type 0} (x : A) (xs : List A) → x ∷ xs ≡ [] → ⊥
not_empty x xs is = cc

-- the first request of a run
record HasFirst (script : ScriptSpec) (from : Place) (request : RequestSpec) : Type 0 where
  to : Place
  is : IsRequest script from to request

first_of : (script : ScriptSpec) (most : ℕ) (from : Place) (request : RequestSpec)
    (rest : List RequestSpec) → AreRun script most from (request ∷ rest)
    → HasFirst script from request
first_of script zero from request rest runs = absurd (not_empty request rest runs)
first_of script (suc most) from request rest runs = record { to = runs.0; is = runs.1 }

-- where a request begins to read its client is the same behind attempts that were
-- tried again
same_begin : (s : Start) (legs : List (Leg AnyScript))
    → ((behind s legs).ahead ≡ s.ahead) × ((behind s legs).given ≡ s.given)
same_begin s [] = (refl, refl)
same_begin s (leg ∷ legs) = same_begin (rebased s leg) legs

-- a script whose client gives bytes first is never reported as no request at once
pub never_none : (script : ScriptSpec) (request : RequestSpec) (rest : List RequestSpec) (b : ℕ)
    (bytes : List ℕ) (items : List ReadItem)
    → script.client ≡ item.Bytes (b ∷ bytes) ∷ items → IsRun script (request ∷ rest)
    → request.outcome ≢ ended.NoRequest
never_none script request rest b bytes items begins run none =
    let from = first_place run.client script.peers in
    let first = first_of script script.requests from request rest run.runs in
    let one = first.is in
    let begun = start_at script from one.processed.history.log in
    let s = behind begun one.run.legs in
    let begins_same = same_begin begun one.run.legs in
    let w = world_at first.to in
    let last = first.to.client in
    let outcome : one.run.came ≡ ended.NoRequest =
    none_given one.processed.history.log one.run.came one.processed.outcome one.run.given
    (sym one.outcome ∙ none) in
    let ends : EndsWith any_state any_start s one.run.passed w one.run.own
    one.processed.history.attempts ended.NoRequest =
    rw outcome at one.run.ended.ends in
    let no = none_of s one.run.passed w one.run.own one.processed.history.attempts ends in
    let fresh : s.given ≡ 0 =
    begins_same.1 ∙ ap (λ (x : LinkState). told_length x.given) run.fresh.state in
    let came = one.run.ended.tells.came in
    let none_came : one.run.passed.came ≡ [] =
    subst (λ (xs : List ℕ). xs ++ one.run.passed.came ≡ []) begins_same.0 no.no_byte in
    let given : script_given last.reads ≡ [] =
    subst (λ (n : ℕ). drop n (script_given last.reads) ≡ one.run.passed.came) fresh came.1
    ∙ none_came in
    let is : last.reads.items.items ≡ item.Bytes (b ∷ bytes) ∷ items =
    items_same _ _ one.is_client ∙ begins in
    let at_end : IsAtEnd (script_left last.reads) = last.at_end no.ended in
    gives_first b bytes items last.reads.at last.reads.done
    (subst (λ (xs : List ReadItem). given_of xs last.reads.at last.reads.done ≡ []) is given)
    (subst (λ (xs : List ReadItem). IsAtEnd (left_items xs last.reads.at last.reads.done)) is
    at_end)

-- an attempt that was refused a link asked a peer that has that fault or whose link is to be used
-- again, or none was left
refused_at : (attempts : List AttemptRecord) (peers : List PeerSpec)
    (links : List (Returned AnyScript)) (n : ℕ) (a : AttemptRecord) (fault : Fault)
    → AreLinksOf peers attempts links → slice_get attempts n ≡ Some a → a.fault ≡ Some fault
    → IsRefusedBy (drop n peers) fault
refused_at [] peers links n a fault are at is =
    absurd (let within : n < 0 = slice_get_within [] n a at in omega (arith, within))
refused_at (b ∷ attempts) peers links zero a fault are at is =
    let told : b.fault ≡ Some fault =
    ap (λ (x : AttemptRecord). x.fault) (same_Some b a at) ∙ is in
    subst (λ (o : Option Fault). GetsNext o peers links) told are.0
refused_at (b ∷ attempts) peers links (suc n) a fault are at is =
    let place : 1 + n ≡ suc n = omega arith in
    subst (λ (ps : List PeerSpec). IsRefusedBy ps fault)
    (drop-drop n 1 peers ∙ ap (λ (k : ℕ). drop k peers) place)
    (refused_at attempts (drop 1 peers) (left_by b.fault links) n a fault are.1 at is)

-- an attempt tells that the connector refused it a link only where the script says so of the peer
-- at its place, or says that its link is to be used again, or has no peer left
pub is_refused : (script : ScriptSpec) (from to : Place) (request : RequestSpec)
    (one : IsRequest script from to request) (n : ℕ) (a : AttemptRecord) (fault : Fault)
    → slice_get one.processed.history.attempts n ≡ Some a → a.fault ≡ Some fault
    → IsRefusedBy (drop n from.peers) fault
is_refused script from to request one n a fault at is =
    refused_at one.processed.history.attempts from.peers (links_back one.run.legs one.run.own) n a
    fault one.are_links at is

-- ---- the bytes that the links of a request give

-- items since a place are no more than what was told
since_fits : (place : ℕ) (told items : List ℕ) → Since [] place (Some told) items
    → length items ≤ length told
since_fits place told items since =
    omega (arith, length-drop place told, ap (λ (xs : List ℕ). length xs) since.1)

-- the bytes of items are those of the first and of the others
first_bytes : (first : ReadItem) (items : List ReadItem)
    → length (reads.all_bytes (first ∷ items))
    ≡ length (reads.bytes_of first) + length (reads.all_bytes items)
first_bytes first items =
    ap (λ (xs : List ℕ). length xs) (flat_map-cons reads.bytes_of first items)
    ∙ length-append (reads.bytes_of first) (reads.all_bytes items)

-- a script gives no more bytes than its items have
given_fits : (items : List ReadItem) (at done : ℕ)
    → length (given_of items at done) ≤ length (reads.all_bytes items)
given_fits [] at done = omega arith
given_fits (item ∷ items) zero done =
    omega (arith, length-take done (reads.bytes_of item), first_bytes item items)
given_fits (item ∷ items) (suc at) done =
    let behind = given_fits items at done in
    omega (
      arith,
      behind,
      length-append (reads.bytes_of item) (given_of items at done),
      first_bytes item items,
    )

-- how many bytes the items of the client's link have
abbrev client_bytes : ScriptLink → ℕ
client_bytes link = length (reads.all_bytes link.reads.items.items)

-- it gives no more than those
client_fits : (link : ScriptLink) (place : ℕ) (items : List ℕ)
    → Since [] place (script_state link).given items → length items ≤ client_bytes link
client_fits link place items since =
    let fits = given_fits link.reads.items.items link.reads.at link.reads.done in
    omega (arith, since_fits place (script_given link.reads) items since, fits)

-- where it answers by items it has their bytes
client_has : (link : ScriptLink) (read : List ReadItem) (write : List WriteItem)
    → AnswersBy link read write → client_bytes link ≡ length (reads.all_bytes read)
client_has link read write is =
    ap (λ (xs : List ReadItem). length (reads.all_bytes xs)) (items_same _ _ is)

-- how many bytes the items of a peer's link have: none, where it carries messages
abbrev link_bytes : AnyScript → ℕ
link_bytes (H1 link) = client_bytes link
link_bytes (H2 link) = 0
link_bytes (Custom link) = 0

-- it gives no more than those
link_fits : (link : AnyScript) (place : ℕ) (items : List ℕ)
    → Since [] place (any_state link).given items → length items ≤ link_bytes link
link_fits (H1 link) place items since = client_fits link place items since
link_fits (H2 link) place items since = since_fits place [] items since
link_fits (Custom link) place items since = since_fits place [] items since

-- the link of a peer has the bytes of its items
link_has : (peer : PeerSpec) (link : AnyScript) → (any_start link).items ≡ Some (peer_items peer)
    → link_bytes link ≡ length (reads.all_bytes peer.read)
link_has peer (H1 link) is = client_has link peer.read peer.write is
link_has peer (H2 link) is = absurd (cc)
link_has peer (Custom link) is = absurd (cc)

-- how many bytes the items of the peer have which an attempt asked, by the fault of its record: of
-- the next of these, where it had its link
abbrev pub next_bytes : Option Fault → List PeerSpec → ℕ
next_bytes (Some fault) peers = 0
next_bytes None [] = 0
next_bytes None (peer ∷ peers) = length (reads.all_bytes peer.read)

-- and those of all attempts
abbrev pub peer_bytes : List PeerSpec → List AttemptRecord → ℕ
peer_bytes peers [] = 0
peer_bytes peers (a ∷ attempts) = next_bytes a.fault peers + peer_bytes (drop 1 peers) attempts

-- those of links
abbrev links_bytes : List (Returned AnyScript) → ℕ
links_bytes [] = 0
links_bytes (r ∷ links) = link_bytes r.link + links_bytes links

links_append : (these those : List (Returned AnyScript))
    → links_bytes (these ++ those) ≡ links_bytes these + links_bytes those
links_append [] those = omega arith
links_append (r ∷ these) those = omega (arith, links_append these those)

-- the link of an attempt has those of its peer
next_fits : (told : Option Fault) (peers : List PeerSpec) (links : List (Returned AnyScript))
    → GetsNext told peers links
    → links_bytes links ≤ next_bytes told peers + links_bytes (left_by told links)
next_fits (Some fault) peers links gets = omega arith
next_fits None peers [] gets = absurd gets
next_fits None [] (r ∷ links) gets = absurd gets
next_fits None (peer ∷ peers) (r ∷ links) gets =
    omega (arith, link_has peer r.link gets.items)

-- so the links of attempts have those of their peers
links_fit : (attempts : List AttemptRecord) (peers : List PeerSpec)
    (links : List (Returned AnyScript)) → AreLinksOf peers attempts links
    → links_bytes links ≤ peer_bytes peers attempts
links_fit [] peers links none =
    omega (arith, ap (λ (rs : List (Returned AnyScript)). links_bytes rs) none)
links_fit (a ∷ attempts) peers links are =
    omega (
      arith,
      next_fits a.fault peers links are.0,
      links_fit attempts (drop 1 peers) (left_by a.fault links) are.1,
    )

-- the link that the last part of a request handed back, if it did, gives no more
own_fits : (own : List (Returned AnyScript)) (got : List ℕ)
    → OwnGave any_state any_start own got → length got ≤ links_bytes own
own_fits [] got gave = omega (arith, ap (λ (xs : List ℕ). length xs) gave)
own_fits (r ∷ []) got gave =
    omega (arith, link_fits r.link (any_start r.link).given got gave)
own_fits (r ∷ q ∷ own) got gave = absurd gave

-- ---- the turns of a run

-- how many bytes the client's link gave up to the end of each attempt that was tried again, of
-- those that were counted so
abbrev pub came_in : (tasks ends : ℕ) (legs : List (Leg AnyScript))
    → LegsWithin any_state any_start tasks ends legs → ℕ
came_in tasks ends [] within = 0
came_in tasks ends (leg ∷ legs) within =
    length within.6.came + came_in within.2 within.3 legs within.7

-- how many ends they had at most
abbrev pub sides_in : List (Leg AnyScript) → ℕ
sides_in [] = 0
sides_in (leg ∷ legs) = sides_before (1 + length leg.tries) + sides_in legs

-- they moved no more tasks than twice the bytes that were given in them
legs_fit : (s : Start) (tasks ends : ℕ) (legs : List (Leg AnyScript)) → s.ahead ≡ []
    → AreLegs any_state any_start s legs
    → (within : LegsWithin any_state any_start tasks ends legs)
    → (tasks ≤ 2 * (came_in tasks ends legs within
    + links_bytes (map (λ (leg : Leg AnyScript). leg.back) legs)))
    × (ends ≤ sides_in legs)
legs_fit s tasks ends [] clear are within = (omega (arith, within.0), omega (arith, within.1))
legs_fit s tasks ends (leg ∷ legs) clear are within =
    let w = within.6 in
    let others = legs_fit (rebased s leg) within.2 within.3 legs clear are.2 within.7 in
    let got = link_fits leg.back.link (any_start leg.back.link).given w.got w.own_gave in
    let none : length leg.start.ahead ≡ 0 =
    ap (λ (x : Start). length x.ahead) are.1.is_start ∙ ap (λ (xs : List ℕ). length xs) clear in (
      omega (arith, within.4, w.tasks_within, none, got, others.0),
      omega (arith, within.5, w.ends_within, others.1),
    )

-- how many bytes the links of a request give at most: all of the client's, those which it gave in
-- attempts that were tried again, and those of the peers whose links its attempts had
abbrev pub bytes_in : (script : ScriptSpec) (from to : Place) (request : RequestSpec)
    → IsRequest script from to request → ℕ
bytes_in script from to request one =
    length (reads.all_bytes script.client)
    + came_in one.run.tasks one.run.ends one.run.legs one.run.legs_within
    + peer_bytes from.peers one.processed.history.attempts

-- how many ends it has at most: six and its attempts, and those of the ones that were tried again
abbrev pub ends_in : (script : ScriptSpec) (from to : Place) (request : RequestSpec)
    → IsRequest script from to request → ℕ
ends_in script from to request one =
    sides_in one.run.legs + most_sides (length one.processed.history.attempts)

-- a request of a run takes at most as many turns as its links answered, twice the bytes that they
-- have, its ends, and the calls of its hooks
pub turns_within : (script : ScriptSpec) (from to : Place) (request : RequestSpec)
    (one : IsRequest script from to request)
    → one.processed.history.turns_taken
    ≤ one.processed.history.items_used + 2 * bytes_in script from to request one
    + ends_in script from to request one + length one.processed.history.log
turns_within script from to request one =
    let run = one.run in
    let s = start_at script from one.processed.history.log in
    let last = behind s run.legs in
    let w = run.bounded.within in
    let came = client_fits to.client _ w.came w.client_gave in
    let client = client_has to.client script.client script.client_write one.is_client in
    let got = own_fits run.own w.got w.own_gave in
    let none : length last.ahead ≡ 0 =
    ap (λ (xs : List ℕ). length xs) ((same_begin s run.legs).0 ∙ one.clear) in
    let legs = legs_fit s run.tasks run.ends run.legs one.clear run.are_legs run.legs_within in
    let backs : List (Returned AnyScript) = map (λ (leg : Leg AnyScript). leg.back) run.legs in
    let links = links_fit one.processed.history.attempts from.peers
    (links_back run.legs run.own) one.are_links in
    let all = links_append backs run.own in
    let turns = turns_bounded any_state any_start last (script_state to.client) run.tasks
    run.ends run.own one.processed.history run.bounded in
    omega (arith, turns, came, client, got, none, legs.0, legs.1, links, all)

-- so one that was given more turns is reported as out of turns only where all that it asks is
-- silent
pub limited : (script : ScriptSpec) (from to : Place) (request : RequestSpec)
    (one : IsRequest script from to request)
    → one.processed.history.items_used + 2 * bytes_in script from to request one
    + ends_in script from to request one + length one.processed.history.log
    < script.turns
    → request.outcome ≡ ended.TurnLimit
    → IsQuiet any_state any_start
    (behind (start_at script from one.processed.history.log) one.run.legs) one.run.passed
    (world_at to) one.run.own
limited script from to request one many is =
    elim (one.run.limit (sym one.outcome ∙ is)) [
      | inl all ↦ absurd (omega (arith, all, many, turns_within script from to request one))
      | inr quiet ↦ quiet
    ]

-- ---- the schedule

-- a request of a run stands for each schedule of the script
request_free : (script : ScriptSpec) (branches : List Branch) (from to : Place)
    (request : RequestSpec) → IsRequest script from to request
    → IsRequest (record script { schedule = branches }) from to request
request_free script branches from to request one = record {
  processed = one.processed;
  run = one.run;
  asked = one.asked;
  are_links = one.are_links;
  logged = one.logged;
  is_client = one.is_client;
  clear = one.clear;
  printable = one.printable;
  outcome = one.outcome;
  written = one.written;
  passed = one.passed;
  attempts = one.attempts;
  log = one.log;
  unlisted = one.unlisted;
}

-- what follows a request stands where each run that follows does
follows_free : (back : Bool) (next other : Type 0) (rest : List RequestSpec) → (next → other)
    → Follows back next rest → Follows back other rest
follows_free true next other rest goes follows = goes follows
follows_free false next other rest goes follows = follows

-- so do the requests of a run
runs_free : (script : ScriptSpec) (branches : List Branch) (most : ℕ) (from : Place)
    (requests : List RequestSpec) → AreRun script most from requests
    → AreRun (record script { schedule = branches }) most from requests
runs_free script branches zero from requests runs = runs
runs_free script branches (suc most) from [] runs = absurd runs
runs_free script branches (suc most) from (request ∷ rest) runs = (
  runs.0,
  request_free script branches from runs.0 request runs.1,
  follows_free (outcome_reuse request.outcome) (AreRun script most runs.0 rest)
      (AreRun (record script { schedule = branches }) most runs.0 rest) rest
      (λ next. runs_free script branches most runs.0 rest next) runs.2,
)

-- the schedule of a run can be any: nothing that a run tells follows from it
pub schedule_free : (script : ScriptSpec) (requests : List RequestSpec) (schedule : ListSchedule)
    → IsRun script requests
    → IsRun (record script { schedule = branches_left schedule }) requests
schedule_free script requests schedule run = record {
  client = run.client;
  fresh = run.fresh;
  connector = run.connector;
  offered = run.offered;
  schedule = schedule;
  named = refl;
  runs = runs_free script (branches_left schedule) script.requests
      (first_place run.client script.peers) requests run.runs;
}
