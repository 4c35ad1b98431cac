-- The requests of a client over scripted links, one behind the other, and what is reported of them.
use Rattle.std.specs.Prelude.{◌≡◌, ◌≢◌, ℕ, zero, suc, ◌-◌, ◌≤◌, List, [], ◌∷◌, ◌++◌, length, drop, map, Bool, true, false, Option, Some, None, unwrap_or, codes}
use Rattle.relay_tasks.specs.declared.error.RetryType.{RetryType}
use Rattle.relay_tasks.specs.declared.fault.Fault.{Fault}
use Rattle.relay_tasks.specs.Log.{lines_of, most_lines}
use Rattle.relay_tasks.specs.declared.log.LogEntry.{LogEntry}
use Rattle.relay_tasks.specs.declared.peer.Peer.{Peer}
use Rattle.relay_connector.specs.Connector.{Offer, New, Again, Refusal, connect_fault, nothing_left}
use Rattle.relay_links.specs.Link.{LinkItems}
use Rattle.relay_links.specs.ScriptLink.{script_state, IsFresh, AnswersBy}
use Rattle.relay_connector.specs.declared.connector.Returned.{Returned}
use Rattle.relay_connector.specs.declared.upstream.Upstream.TheVariants.{H1, H2, Custom}
use Rattle.relay_connector.specs.ScriptConnector.{AnyScript, any_state, any_start}
use Rattle.relay_connector.specs.ScriptEntries.{next_entries, links_returned, links_idle, offers_left, links_out, gets_failed, faults_answered}
use Rattle.relay_connector.specs.declared.script_connector.PeerScript.{PeerScript}
use Rattle.relay_connector.specs.declared.script_connector.ScriptConnector.{ScriptConnector}
use Rattle.relay_links.specs.declared.script_link.ScriptLink.{ScriptLink}
use Rattle.relay_links.specs.declared.list_schedule.ListSchedule.{ListSchedule}
use Rattle.relay_links.specs.ListSchedule.{branches_left}
use Rattle.relay_links.specs.MemoryPurger.{one_answer}
use Rattle.relay_modules.specs.Module.{ModuleCall}
use Rattle.relay_hooks.specs.Standing.{Standing}
use Rattle.relay_script.specs.declared.rule.Rule.{Rule}
use Rattle.relay_scripted.specs.Modules.{DoesCall}
use Rattle.relay_scripted.specs.Scripted.{IsScripted}
use Rattle.relay_scripted.specs.declared.modules.ScriptModules.{ScriptModules}
use Rattle.relay_scripted.specs.declared.proxy.ScriptProxy.{ScriptProxy}
use Rattle.relay_phases.specs.Order.{Station}
use Rattle.relay_request.specs.Calls.{IsLogged, allowed_by}
use Rattle.relay_request.specs.Legs.{Leg}
use Rattle.relay_request.specs.Passed.{World, Start, called_to, start_of}
use Rattle.relay_request.specs.Request.{Processes}
use Rattle.relay_request.specs.declared.outcome.Processed.{Processed}
use Rattle.relay_request.specs.declared.outcome.Outcome.TheVariants.{OutOfMemory}
use Rattle.relay_request.specs.declared.record.AttemptRecord.{AttemptRecord}
use Rattle.relay_command.specs.Report.{RequestSpec, outcome_reuse}
use Rattle.relay_json.specs.Script.{PeerSpec, ScriptSpec}
use Rattle.relay_command.specs.declared.exchange.Run.{Run}
use Rattle.relay_command.specs.declared.report.AttemptReport.{AttemptReport}

-- ---- the peers of a script

-- the names of peers
abbrev pub names_of : List PeerSpec → List (List ℕ)
names_of peers = map (λ peer. peer.name) peers

-- the name by which an attempt is reported, by those of the peers that were not asked yet: that of
-- the next one, and a dash past the last one
abbrev pub first_name : List (List ℕ) → List ℕ
first_name [] = codes "-"
first_name (name ∷ names) = name

-- the items by which the link of a peer answers
abbrev pub peer_items : PeerSpec → LinkItems
peer_items peer = record { read = peer.read; write = peer.write }

-- what the connector has for a peer, by its `connect` and its `again`: a fault with its mark, or
-- its link, which answers by its items, as a new one or in place of one that was kept
abbrev pub peer_offer : Option RetryType → Bool → PeerSpec → Offer
peer_offer (Some retry) again peer = Refusal (connect_fault retry)
peer_offer None false peer = New (Some (peer_items peer))
peer_offer None true peer = Again (Some (peer_items peer))

-- what it has for these peers, in order
abbrev pub offers_of : List PeerSpec → List Offer
offers_of peers = map (λ peer. peer_offer peer.connect peer.again peer) peers

-- the link is one of bytes that answers by the items of the peer, and has answered nothing
abbrev pub IsMadeFor : PeerSpec → AnyScript → Type 0
IsMadeFor peer (H1 link) = IsFresh link peer.read peer.write
IsMadeFor peer (H2 link) = ⊥
IsMadeFor peer (Custom link) = ⊥

-- an entry of a connector is that of the peer
pub record IsEntryOf (peer : PeerSpec) (entry : PeerScript) : Type 0 where
  pub name : entry.name ≡ peer.name
  pub link : IsMadeFor peer entry.link
  pub connect : entry.connect ≡ peer.connect
  pub again : entry.again ≡ peer.again

-- the entries are those of the peers, in order
abbrev pub AreEntriesOf : List PeerSpec → List PeerScript → Type 0
AreEntriesOf [] [] = Unit {0}
AreEntriesOf [] (entry ∷ entries) = ⊥
AreEntriesOf (peer ∷ peers) [] = ⊥
AreEntriesOf (peer ∷ peers) (entry ∷ entries) = IsEntryOf peer entry × AreEntriesOf peers entries

-- the connector was not asked yet, and has the peers of a script
pub record IsConnectorOf (peers : List PeerSpec) (connector : ScriptConnector) : Type 0 where
  pub returned : links_returned connector ≡ []
  pub idle : links_idle connector ≡ 0
  pub out : links_out connector ≡ 0
  pub faults : gets_failed connector ≡ 0
  pub refusals : faults_answered connector ≡ Some []
  pub entries : AreEntriesOf peers (next_entries connector)

-- what is answered in place of the link of a peer with that `connect` and that `again`: the fault
-- with its mark; or, without one, that no link is there to be used again, where it is to be that
abbrev pub IsRefusal : Option RetryType → Bool → Fault → Type 0
IsRefusal (Some retry) again fault = fault ≡ connect_fault retry
IsRefusal None false fault = ⊥
IsRefusal None true fault = fault ≡ nothing_left

-- the next of these peers has that fault in place of a link, or there is none
abbrev pub IsRefusedBy : List PeerSpec → Fault → Type 0
IsRefusedBy [] fault = Unit {0}
IsRefusedBy (peer ∷ peers) fault = IsRefusal peer.connect peer.again fault

-- the link is that of the peer, which has no mark: it answers by the peer's items, and was handed
-- out as used before exactly where the peer says so
pub record IsOfPeer (peer : PeerSpec) (link : AnyScript) : Type 0 where
  pub unmarked : peer.connect ≡ None
  pub items : (any_start link).items ≡ Some (peer_items peer)
  pub reused : (any_start link).reused ≡ peer.again

-- the link is that of the next of these peers
abbrev pub IsLinkOf : List PeerSpec → AnyScript → Type 0
IsLinkOf [] link = ⊥
IsLinkOf (peer ∷ peers) link = IsOfPeer peer link

-- what an attempt, by the fault of its record, got of the next of these peers: it was refused a
-- link with that, or it has none, and had the first of these links
abbrev pub GetsNext : Option Fault → List PeerSpec → List (Returned AnyScript) → Type 0
GetsNext (Some fault) peers links = IsRefusedBy peers fault
GetsNext None peers [] = ⊥
GetsNext None peers (r ∷ links) = IsLinkOf peers r.link

-- what such an attempt leaves of a list that has one for each attempt with a link
abbrev pub left_by : {X : Type 0} → Option Fault → List X → List X
left_by (Some fault) xs = xs
left_by None xs = drop 1 xs

-- each attempt asked the next of these peers, and these are the links that they gave, in order
abbrev pub AreLinksOf : List PeerSpec → List AttemptRecord → List (Returned AnyScript) → Type 0
AreLinksOf peers [] links = links ≡ []
AreLinksOf peers (a ∷ attempts) links =
    GetsNext a.fault peers links × AreLinksOf (drop 1 peers) attempts (left_by a.fault links)

-- ---- the application of a script

-- the peer for which it asks
abbrev pub script_peer : Peer
script_peer = record { address = []; tls = false; allows_h1 = true }

-- that of these rules
abbrev pub application_of : List Rule → ScriptProxy
application_of rules = record { rules = rules; peer = script_peer }

-- a call of a hook, where it stood, is one that an application allows, or its modules
abbrev pub allowed_in : ScriptProxy → Standing → LogEntry → Type 0
allowed_in app =
    allowed_by (λ st e. IsScripted app.rules app.peer st e)
    (λ (modules : ScriptModules) (call : ModuleCall). DoesCall modules.rules call)

-- the calls of a log are allowed where they stood, each behind the one before, and come in order
abbrev pub IsLogOf : ScriptProxy → List LogEntry → Type 0
IsLogOf app log = (at : Station) × IsLogged (allowed_in app) log at

-- ---- what is reported

-- what is reported of an attempt at the peer of that name, whose link took those bytes
abbrev pub attempt_report : List ℕ → List ℕ → AttemptRecord → AttemptReport
attempt_report name sent a =
    record { name = name; reused = a.reused; kept = a.kept; error = a.error; sent = sent }

-- the bytes that the link of an attempt took, by the fault of its record and what the links from
-- there on took: an attempt that has none had the first of them
abbrev pub sent_by : Option Fault → List (List ℕ) → List ℕ
sent_by (Some fault) sents = []
sent_by None [] = []
sent_by None (sent ∷ sents) = sent

-- what is reported of attempts at the peers of those names, in order, the links of which took those
-- bytes
abbrev pub attempt_reports : List (List ℕ) → List (List ℕ) → List AttemptRecord
    → List AttemptReport
attempt_reports names sents [] = []
attempt_reports names sents (a ∷ attempts) =
    attempt_report (first_name names) (sent_by a.fault sents) a
    ∷ attempt_reports (drop 1 names) (left_by a.fault sents) attempts

-- all bytes that the client's link took
abbrev pub taken_of : ScriptLink → List ℕ
taken_of link = unwrap_or (script_state link).taken []

-- all bytes that the link of an attempt took: a link of messages took none
abbrev pub bytes_taken : AnyScript → List ℕ
bytes_taken link = unwrap_or (any_state link).taken []

-- the bytes that such a link took since it was handed out
abbrev pub taken_since : AnyScript → List ℕ
taken_since link = drop (any_start link).taken (bytes_taken link)

-- the link had taken no more when it was handed out than it took in all
abbrev pub StartsWithin : AnyScript → Type 0
StartsWithin link = (any_start link).taken ≤ length (bytes_taken link)

-- so had each of these
abbrev pub StartWithin : List (Returned AnyScript) → Type 0
StartWithin [] = Unit {0}
StartWithin (r ∷ links) = StartsWithin r.link × StartWithin links

-- the bytes that each of these links took since it was handed out
abbrev pub sents_of : List (Returned AnyScript) → List (List ℕ)
sents_of links = map (λ r. taken_since r.link) links

-- what is reported of a request at the peers of those names, whose client's link took those bytes
-- in it, and which handed these links back
abbrev pub reported : List (List ℕ) → Processed → List ℕ → List (Returned AnyScript) → RequestSpec
reported names processed written links = record {
  outcome = processed.outcome;
  written = written;
  attempts = attempt_reports names (sents_of links) processed.history.attempts;
  log = lines_of processed.history.log;
  unlisted = length processed.history.log - most_lines;
}

-- ---- a run

-- where a run stands between two requests: the client's link, what was read ahead from it, how many
-- calls of the connector failed, by which faults, the links that came back, and the peers that were
-- not asked yet
pub record Place : Type 0 where
  pub client : ScriptLink
  pub ahead : List ℕ
  pub faults : ℕ
  pub refusals : Option (List Fault)
  pub returned : List (Returned AnyScript)
  pub peers : List PeerSpec

-- the world there
abbrev pub world_at : Place → World
world_at at =
    record { client = script_state at.client; ahead = at.ahead; connect_faults = at.faults }

-- where a run of these peers begins, over that link of the client
abbrev pub first_place : ScriptLink → List PeerSpec → Place
first_place client peers = record {
  client = client;
  ahead = [];
  faults = 0;
  refusals = Some [];
  returned = [];
  peers = peers;
}

-- where a request begins at a place, once these calls of hooks were made
abbrev pub start_at : ScriptSpec → Place → List LogEntry → Start
start_at script from log = called_to (start_of script.retries (world_at from)) log

-- the links that a request handed back: those of attempts that were tried again, and its last one
abbrev pub links_back : List (Leg AnyScript) → List (Returned AnyScript)
    → List (Returned AnyScript)
links_back legs own = map (λ leg. leg.back) legs ++ own

-- the bytes that they took, where the last one took these
abbrev pub sents_in : List (Leg AnyScript) → List ℕ → List (List ℕ)
sents_in legs sent = map (λ leg. leg.passed.sent) legs ++ sent ∷ []

-- one request of a run, from one such place to the next, and what is reported of it
pub record IsRequest (script : ScriptSpec) (from to : Place) (request : RequestSpec) : Type 0 where
  pub processed : Processed
  -- it ran over the links of the script, from its begin to its end, and asked for its next peers,
  -- one for each attempt
  pub run : Processes any_state any_start (start_at script from processed.history.log)
      (world_at to)
      (Some from.returned) (Some to.returned) from.refusals to.refusals
      (Some (offers_of from.peers)) (Some (offers_of to.peers))
      (script_state from.client) script.turns processed
  pub asked : to.peers ≡ drop (length processed.history.attempts) from.peers
  pub are_links : AreLinksOf from.peers processed.history.attempts (links_back run.legs run.own)
  -- each call of a hook did what the script's rules say
  pub logged : IsLogOf (application_of script.rules) processed.history.log
  -- the client's link is the script's, and nothing was read ahead from it before
  pub is_client : AnswersBy to.client script.client script.client_write
  pub clear : from.ahead ≡ []
  -- what is reported is the outcome, what passed, and the calls of the hooks. Of the client's link
  -- that is what it took since; where no attempt was tried again, that is what was written. Where
  -- one was, nothing says that what it took before stayed in front of that
  pub printable : request.outcome ≢ OutOfMemory
  pub outcome : request.outcome ≡ processed.outcome
  pub written : request.written
      ≡ drop (length (taken_of from.client)) (taken_of to.client)
  pub passed : run.legs ≡ [] → request.written ≡ run.passed.written
  pub attempts : request.attempts ≡ attempt_reports (names_of from.peers)
      (sents_in run.legs run.passed.sent) processed.history.attempts
  pub log : request.log ≡ lines_of processed.history.log
  pub unlisted : request.unlisted ≡ length processed.history.log - most_lines

-- what follows a request: the next ones where the client goes back, and else none
abbrev pub Follows : Bool → Type 0 → List RequestSpec → Type 0
Follows true next requests = next
Follows false next requests = requests ≡ []

-- the requests of a run from a place on, at most so many: each follows exactly where the client
-- went back from the one before
abbrev pub AreRun : ScriptSpec → ℕ → Place → List RequestSpec → Type 0
AreRun script zero from requests = requests ≡ []
AreRun script (suc most) from [] = ⊥
AreRun script (suc most) from (request ∷ requests) =
    (to : Place) × IsRequest script from to request
    × Follows (outcome_reuse request.outcome) (AreRun script most to requests) requests

-- ---- a run that is under way

-- where it stands, with those peers that were not asked yet
abbrev pub place_of : Run → List PeerSpec → Place
place_of run peers = record {
  client = run.client.link;
  ahead = run.client.ahead;
  faults = gets_failed run.proxy.connector;
  refusals = faults_answered run.proxy.connector;
  returned = links_returned run.proxy.connector;
  peers = peers;
}

-- a next request may begin there
pub record IsAt (script : ScriptSpec) (run : Run) (peers : List PeerSpec) : Type 0 where
  pub offers : offers_left run.proxy.connector ≡ offers_of peers
  pub names : run.names.items ≡ names_of peers
  pub retries : run.proxy.conf.max_retries ≡ script.retries
  pub client : AnswersBy run.client.link script.client script.client_write
  pub clear : run.client.ahead ≡ []
  pub app : run.proxy.inner ≡ application_of script.rules

-- the run was made of a script, and no request was begun
pub record Begins (script : ScriptSpec) (run : Run) : Type 0 where
  pub fresh : IsFresh run.client.link script.client script.client_write
  pub clear : run.client.ahead ≡ []
  pub offered : IsConnectorOf script.peers run.proxy.connector
  pub names : run.names.items ≡ names_of script.peers
  pub retries : run.proxy.conf.max_retries ≡ script.retries
  pub named : branches_left run.outside.schedule ≡ script.schedule
  pub answers : one_answer run.proxy.purger ≡ script.purge
  pub app : run.proxy.inner ≡ application_of script.rules

-- a request was run; where its client goes back, a next one may begin
pub record Runs (script : ScriptSpec) (peers : List PeerSpec) (old new : Run)
    (request : RequestSpec) : Type 0 where
  pub left : List PeerSpec
  pub is_request : IsRequest script (place_of old peers) (place_of new left) request
  pub stands : outcome_reuse request.outcome ≡ true → IsAt script new left

-- ---- the whole run

-- requests that ran over the links of a script, and what is reported of them
pub record IsRun (script : ScriptSpec) (requests : List RequestSpec) : Type 0 where
  -- the client's link and the connector as the script makes them
  pub client : ScriptLink
  pub fresh : IsFresh client script.client script.client_write
  pub connector : ScriptConnector
  pub offered : IsConnectorOf script.peers connector
  pub schedule : ListSchedule
  pub named : branches_left schedule ≡ script.schedule
  -- the requests over them, in order
  pub runs : AreRun script script.requests (first_place client script.peers) requests
