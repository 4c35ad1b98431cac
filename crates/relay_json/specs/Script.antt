-- Scripts: the JSON object that says what the client and the peers of a run give.
use Rattle.std.specs.Prelude.{ℕ, ◌+◌, ◌==◌, nat_le, ◌&&◌, List, [], ◌∷◌, Bool, true, false, if◌then◌else◌, map, Option, Some, None, option_map, Result, Ok, Err, codes}
use Rattle.std.specs.Str.{bytes_eq, is_utf8}
use Rattle.hex.specs.Hex.{decode_of}
use Rattle.hex.specs.declared.error.FromHexError.{FromHexError}
use Rattle.serde_json.specs.Data.{Data, string, boolean, array, Items}
use Rattle.serde_json.specs.Events.{items_len}
use Rattle.serde_json.specs.Find.{get}
use Rattle.serde_json.specs.Read.{read as read_text}
use Rattle.relay_tasks.specs.declared.error.RetryType.{RetryType}
use Rattle.relay_tasks.specs.declared.error.RetryType.TheVariants.{Decided}
use Rattle.relay_tasks.specs.declared.fault.Fault.{Fault}
use Rattle.relay_tasks.specs.declared.fault.FaultKind.{FaultKind}
use Rattle.relay_tasks.specs.declared.fault.FaultKind.TheVariants as kind
use Rattle.relay_tasks.specs.declared.peer.Purged.{Purged}
use Rattle.relay_tasks.specs.declared.peer.Purged.TheVariants as purged
use Rattle.relay_json.specs.declared.script.PeerEntry.{PeerEntry}
use Rattle.relay_links.specs.declared.branch.Branch.{Branch}
use Rattle.relay_links.specs.declared.branch.Branch.TheVariants as branch
use Rattle.relay_links.specs.declared.read_script.ReadItem.{ReadItem}
use Rattle.relay_links.specs.declared.read_script.ReadItem.TheVariants as give
use Rattle.relay_links.specs.declared.write_script.WriteItem.{WriteItem}
use Rattle.relay_links.specs.declared.write_script.WriteItem.TheVariants as take
use Rattle.relay_json.specs.declared.script.Script.{Script}
use Rattle.relay_json.specs.Rules.{rules_of}
use Rattle.relay_json.specs.Values.{◌>>=◌, key_count, has, where_there, text_of, count_of, flag_of, retry_of, each_of, list_of}
use Rattle.relay_script.specs.declared.rule.Rule.{Rule}

-- a peer without where it lies in memory: its name, what its link gives and takes, the mark of the
-- fault that is answered in place of the link, where there is one, and whether the link is handed
-- out as used before, in place of the link that came back last to be kept and was not used again
-- yet
pub record PeerSpec : Type 0 where
  pub name : List ℕ
  pub read : List ReadItem
  pub write : List WriteItem
  pub connect : Option RetryType
  pub again : Bool

-- a script without where it lies in memory: what the client's link gives and takes, the peers in
-- the order in which they are asked, how many requests are run at most, how many attempts and how
-- many turns each may take, the schedule over all of them, what the purger answers, and the rules
-- on their hooks
pub record ScriptSpec : Type 0 where
  pub client : List ReadItem
  pub client_write : List WriteItem
  pub peers : List PeerSpec
  pub requests : ℕ
  pub retries : ℕ
  pub turns : ℕ
  pub schedule : List Branch
  pub purge : Purged
  pub rules : List Rule

abbrev pub peer_spec : PeerEntry → PeerSpec
peer_spec p = record {
  name = p.name;
  read = p.read.items;
  write = p.write.items;
  connect = p.connect;
  again = p.again;
}

abbrev pub peer_specs : List PeerEntry → List PeerSpec
peer_specs peers = map peer_spec peers

abbrev pub script_spec : Script → ScriptSpec
script_spec s = record {
  client = s.client.items;
  client_write = s.client_write.items;
  peers = peer_specs s.peers.items;
  requests = s.requests;
  retries = s.retries.most;
  turns = s.turns;
  schedule = s.schedule.items;
  purge = s.purge;
  rules = s.rules;
}

-- bytes that the link gives, at least one
abbrev pub bytes_item : List ℕ → Option ReadItem
bytes_item [] = None
bytes_item (b ∷ bs) = Some (give.Bytes (b ∷ bs))

-- `{"text": t}`: the bytes of a text that is not empty
abbrev pub text_item : Data → Option ReadItem
text_item (string text) = bytes_item text
text_item _ = None

-- the bytes that digits spell, where they spell any
abbrev pub spelt : Result (List ℕ) FromHexError → Option (List ℕ)
spelt (Ok bytes) = Some bytes
spelt (Err e) = None

-- `{"hex": h}`: bytes by two hexadecimal digits each, in either case; not empty
abbrev pub hex_item : Data → Option ReadItem
hex_item (string digits) = spelt (decode_of digits) >>= bytes_item
hex_item _ = None

-- `{"wait": n}`: n answers that nothing came yet
abbrev pub wait_item : Data → Option ReadItem
wait_item value = option_map give.Wait (count_of value)

-- `{"after": n}`: silent until the link took n bytes in all
abbrev pub after_item : Data → Option ReadItem
after_item value = option_map give.After (count_of value)

-- `{"end": true}`: the link has given all
abbrev pub end_item : Data → Option ReadItem
end_item (boolean true) = Some give.End
end_item _ = None

-- what a read fails by
abbrev pub read_kind : Data → Option FaultKind
read_kind (string name) =
    if bytes_eq name (codes "Read") then Some kind.Read
    else if bytes_eq name (codes "ReadTimedout") then Some kind.ReadTimedout
    else None
read_kind _ = None

-- the mark at `retry`; not to be retried where there is none
abbrev pub mark_of : Data → Option RetryType
mark_of value = where_there (get (codes "retry") value) retry_of (Some (Decided false))

-- a fault of this kind: an object of its one key, and `retry` or none
abbrev pub fault_of : Data → FaultKind → Option Fault
fault_of value kind =
    if key_count value == 1 + has (codes "retry") value
    then option_map (λ retry. record { kind = kind; retry = retry }) (mark_of value)
    else None

-- `{"fault": k, "retry": r}`: the read fails by the kind k, with the mark r
abbrev pub fault_item : Data → Data → Option ReadItem
fault_item value name = option_map give.Fault (read_kind name >>= fault_of value)

-- an item other than a fault, by its one key
abbrev pub item_at_key : Data → Option ReadItem
item_at_key value =
    where_there (get (codes "text") value) text_item
    (where_there (get (codes "hex") value) hex_item
    (where_there (get (codes "wait") value) wait_item
    (where_there (get (codes "after") value) after_item
    (where_there (get (codes "end") value) end_item None))))

-- a read item: a fault, or an object of exactly one key
abbrev pub item_of : Data → Option ReadItem
item_of value =
    where_there (get (codes "fault") value) (fault_item value)
    (if key_count value == 1 then item_at_key value else None)

-- what a write fails by
abbrev pub write_kind : Data → Option FaultKind
write_kind (string name) =
    if bytes_eq name (codes "Write") then Some kind.Write
    else if bytes_eq name (codes "WriteTimedout") then Some kind.WriteTimedout
    else None
write_kind _ = None

-- what a write takes at most: at least 1
abbrev pub take_of : ℕ → Option WriteItem
take_of n = if n == 0 then None else Some (take.Take n)

-- `{"take": n}`: one write takes at most n bytes
abbrev pub take_item : Data → Option WriteItem
take_item value = count_of value >>= take_of

-- `{"wait": n}`: n writes are told to come again
abbrev pub write_wait_item : Data → Option WriteItem
write_wait_item value = option_map take.Wait (count_of value)

-- `{"fault": k, "retry": r}`: the write fails by the kind k, with the mark r
abbrev pub write_fault_item : Data → Data → Option WriteItem
write_fault_item value name = option_map take.Fault (write_kind name >>= fault_of value)

-- an item other than a fault, by its one key
abbrev pub write_item_at_key : Data → Option WriteItem
write_item_at_key value =
    where_there (get (codes "take") value) take_item
    (where_there (get (codes "wait") value) write_wait_item None)

-- a write item: a fault, or an object of exactly one key
abbrev pub write_item_of : Data → Option WriteItem
write_item_of value =
    where_there (get (codes "fault") value) (write_fault_item value)
    (if key_count value == 1 then write_item_at_key value else None)

-- a list of read items
abbrev pub items_of : Data → Option (List ReadItem)
items_of value = list_of item_of value

-- a list of write items
abbrev pub write_items_of : Data → Option (List WriteItem)
write_items_of value = list_of write_item_of value

-- the write items at a key; none where there is no such key
abbrev pub writes_at : List ℕ → Data → Option (List WriteItem)
writes_at key value = where_there (get key value) write_items_of (Some [])

-- the mark at `connect`: a fault with that mark is answered in place of the peer's link
abbrev pub connect_of : Data → Option (Option RetryType)
connect_of value =
    where_there (get (codes "connect") value) (λ mark. option_map Some (retry_of mark)) (Some None)

-- what is at `again`: whether the peer's link is one that is used again; it is not where there is
-- no such key
abbrev pub again_of : Data → Option Bool
again_of value = where_there (get (codes "again") value) flag_of (Some false)

-- a peer of that name: its `read` and `write`, each of them empty where it is not there, its
-- `connect` or none, and whether its link is used again
abbrev pub named_peer : Data → List ℕ → Option PeerSpec
named_peer value name =
    where_there (get (codes "read") value) items_of (Some []) >>= (λ read.
    writes_at (codes "write") value >>= (λ write.
    connect_of value >>= (λ connect.
    option_map (λ again. record {
      name = name;
      read = read;
      write = write;
      connect = connect;
      again = again;
    }) (again_of value))))

-- how many keys of a peer an object has
abbrev pub peer_keys : Data → ℕ
peer_keys value =
    has (codes "name") value + has (codes "read") value + has (codes "write") value
    + has (codes "connect") value + has (codes "again") value

-- a peer: an object with `name`, and each of `read`, `write`, `connect` and `again` or not
abbrev pub peer_of : Data → Option PeerSpec
peer_of value =
    if key_count value == peer_keys value
    then where_there (get (codes "name") value) text_of None >>= named_peer value
    else None

-- how many peers a script has at most, how many requests, and how many attempts each
abbrev pub list_limit : ℕ
list_limit = 1024

-- the peers of a list
abbrev pub peers_in : Items → Option (List PeerSpec)
peers_in values = if nat_le (items_len values) list_limit then each_of peer_of values else None

-- a list of peers, at most 1,024
abbrev pub peers_of : Data → Option (List PeerSpec)
peers_of (array values) = peers_in values
peers_of _ = None

-- how many requests are run, or attempts made: 1 at least, and at most 1,024
abbrev pub limit_of : ℕ → Option ℕ
limit_of n = if nat_le 1 n && nat_le n list_limit then Some n else None

-- how many requests of a script are run at most: what is at `requests`, and one where there is no
-- such key
abbrev pub requests_of : Data → Option ℕ
requests_of value =
    where_there (get (codes "requests") value) (λ number. count_of number >>= limit_of) (Some 1)

-- how many attempts each request of a script may make: what is at `retries`, and two where there is
-- no such key
abbrev pub retries_of : Data → Option ℕ
retries_of value =
    where_there (get (codes "retries") value) (λ number. count_of number >>= limit_of) (Some 2)

-- how many turns a request may take where its script does not say
abbrev pub turn_limit : ℕ
turn_limit = 1000000

-- how many turns each request of a script may take: what is at `turns`
abbrev pub turns_of : Data → Option ℕ
turns_of value = where_there (get (codes "turns") value) count_of (Some turn_limit)

-- the branch of that name
abbrev pub branch_named : List ℕ → Option Branch
branch_named name =
    if bytes_eq name (codes "UpWrite") then Some branch.UpWrite
    else if bytes_eq name (codes "DownWrite") then Some branch.DownWrite
    else if bytes_eq name (codes "UpTake") then Some branch.UpTake
    else if bytes_eq name (codes "DownTake") then Some branch.DownTake
    else if bytes_eq name (codes "DownDrop") then Some branch.DownDrop
    else if bytes_eq name (codes "DownEnd") then Some branch.DownEnd
    else if bytes_eq name (codes "DownClosed") then Some branch.DownClosed
    else if bytes_eq name (codes "UpRead") then Some branch.UpRead
    else if bytes_eq name (codes "DownRead") then Some branch.DownRead
    else if bytes_eq name (codes "UpFinish") then Some branch.UpFinish
    else if bytes_eq name (codes "DownFinish") then Some branch.DownFinish
    else if bytes_eq name (codes "MessageUp") then Some branch.MessageUp
    else if bytes_eq name (codes "MessageDown") then Some branch.MessageDown
    else None

-- a branch: its name
abbrev pub branch_of : Data → Option Branch
branch_of (string name) = branch_named name
branch_of _ = None

-- a list of branches
abbrev pub branches_of : Data → Option (List Branch)
branches_of value = list_of branch_of value

-- the schedule of a script: the branches at `schedule`, and none where there is no such key
abbrev pub schedule_of : Data → Option (List Branch)
schedule_of value = where_there (get (codes "schedule") value) branches_of (Some [])

-- `{"found": b}`: the purger found something to purge, or nothing
abbrev pub found_answer : Data → Option Purged
found_answer (boolean found) = Some (if found then purged.Found else purged.NotFound)
found_answer _ = None

-- that answer, of a value that says yes
abbrev pub answer_so : Purged → Data → Option Purged
answer_so answer (boolean true) = Some answer
answer_so answer _ = None

-- the fault of a purger that fails: no kind of fault is a purger's own
abbrev pub purge_fault : Fault
purge_fault = record { kind = kind.Write; retry = Decided false }

-- what a purger answers: an object of exactly one key, `found`, `none` (nothing is kept at all) or
-- `fault`
abbrev pub answer_of : Data → Option Purged
answer_of value =
    if key_count value == 1
    then where_there (get (codes "found") value) found_answer
    (where_there (get (codes "none") value) (answer_so purged.NoCache)
    (where_there (get (codes "fault") value) (answer_so (purged.Failed purge_fault)) None))
    else None

-- what the purger of a script answers: what is at `purge`, and that it found nothing where there is
-- no such key
abbrev pub purge_of : Data → Option Purged
purge_of value = where_there (get (codes "purge") value) answer_of (Some purged.NotFound)

-- a script with those items of the client: its `client_write`, empty where it is not there, its
-- `peers`, its requests, its attempts, its turns, its schedule, its purger's answer and its rules
abbrev pub client_script : Data → List ReadItem → Option ScriptSpec
client_script value items =
    writes_at (codes "client_write") value >>= (λ writes.
    where_there (get (codes "peers") value) peers_of None >>= (λ peers.
    requests_of value >>= (λ requests.
    retries_of value >>= (λ retries.
    turns_of value >>= (λ turns.
    schedule_of value >>= (λ schedule.
    purge_of value >>= (λ purge.
    option_map (λ rules. record {
      client = items;
      client_write = writes;
      peers = peers;
      requests = requests;
      retries = retries;
      turns = turns;
      schedule = schedule;
      purge = purge;
      rules = rules;
    }) (rules_of value))))))))

-- how many keys of a script an object has that are of its links, and of how much is run
abbrev pub link_keys : Data → ℕ
link_keys value =
    has (codes "client") value + has (codes "client_write") value + has (codes "peers") value
    + has (codes "requests") value + has (codes "retries") value + has (codes "turns") value

-- how many keys of a script an object has
abbrev pub script_keys : Data → ℕ
script_keys value =
    link_keys value + has (codes "schedule") value + has (codes "purge") value
    + has (codes "hooks") value

-- a script: an object with `client` and `peers`, and each of `client_write`, `requests`, `retries`,
-- `turns`, `schedule`, `purge` and `hooks` or not
abbrev pub script_of : Data → Option ScriptSpec
script_of value =
    if key_count value == script_keys value
    then where_there (get (codes "client") value) items_of None >>= client_script value
    else None

-- the value that the bytes spell; bytes that are no UTF-8 or no JSON spell none
abbrev pub reads_value : List ℕ → Option Data
reads_value bytes = if is_utf8 bytes then read_text bytes else None

-- the script that the bytes spell
abbrev pub reads_script : List ℕ → Option ScriptSpec
reads_script bytes = reads_value bytes >>= script_of
