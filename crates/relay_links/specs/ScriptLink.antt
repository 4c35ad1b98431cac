-- What a link that runs by scripts means, and what each of its answers follows from.
use Rattle.std.specs.Prelude.{◌≡◌, ℕ, false, min, List, [], ◌++◌, length, Some, vec_len}
use Rattle.relay_links.specs.declared.link.Got.{Got}
use Rattle.relay_links.specs.declared.link.Put.{Put}
use Rattle.relay_links.specs.declared.link.Put.TheVariants as put
use Rattle.relay_links.specs.declared.link.UpKind.TheVariants.{H1}
use Rattle.relay_links.specs.declared.read_script.ReadItem.{ReadItem}
use Rattle.relay_links.specs.declared.write_script.WriteItem.{WriteItem}
use Rattle.relay_links.specs.declared.write_script.WriteTurn.{WriteTurn}
use Rattle.relay_links.specs.declared.write_script.WriteTurn.TheVariants as turn
use Rattle.relay_links.specs.declared.script_link.ScriptLink.{ScriptLink}
use Rattle.relay_links.specs.Link.{LinkState, LinkStart, IsHandedOut}
use Rattle.relay_links.specs.ReadScript as reads
use Rattle.relay_links.specs.WriteScript as writes

-- the link's state; it is never silent on a write
abbrev pub script_state : ScriptLink → LinkState
script_state link = record {
  given = Some (reads.script_given link.reads);
  taken = Some link.taken.items;
  read_faults = Some (reads.script_faults link.reads);
  write_faults = Some (writes.script_faults link.writes);
  waits = link.waits;
  used = link.used;
  faults = link.faults;
  ended = link.reads.ended;
  silent_on_read = reads.script_silent link.reads (vec_len link.taken);
  silent_on_write = false;
}

-- the link as it was handed out: the lengths of its lists at the places that its scripts had then
abbrev pub script_start : ScriptLink → LinkStart
script_start link = record {
  kind = H1;
  items = Some (record { read = link.reads.items.items; write = link.writes.items.items });
  given = length (reads.given_of link.reads.items.items link.start.read_at link.start.read_done);
  taken = link.start.taken;
  read_faults = length (reads.faults_before link.reads.items.items link.start.read_at);
  write_faults = length (writes.faults_before link.writes.items.items link.start.write_at);
  waits = link.start.waits;
  used = link.start.used;
  faults = link.start.faults;
  reused = link.start.reused;
}

-- the links run by the same scripts, and stand at the same places
pub record KeepsScripts (before after : ScriptLink) : Type 0 where
  pub reads : after.reads ≡ before.reads
  pub writes : after.writes ≡ before.writes

-- the link answers by these items, and by no others
abbrev pub AnswersBy : ScriptLink → List ReadItem → List WriteItem → Type 0
AnswersBy link read write = (script_start link).items ≡ Some (record { read = read; write = write })

-- the link has answered nothing: its items are left, and it stands as it is handed out first
pub record IsFresh (link : ScriptLink) (read : List ReadItem)
    (write : List WriteItem) : Type 0 where
  pub state : script_state link ≡ record {
    given = Some [];
    taken = Some [];
    read_faults = Some [];
    write_faults = Some [];
    waits = 0;
    used = 0;
    faults = 0;
    ended = false;
    silent_on_read = reads.is_silent (reads.unpassed read 0);
    silent_on_write = false;
  }
  pub start : IsHandedOut (script_state link) (script_start link) false
  pub items : AnswersBy link read write
  pub reads : reads.script_left link.reads ≡ read
  pub writes : writes.script_left link.writes ≡ write

-- a read follows the script of reads: the item in front answered, and what was given, followed by
-- the bytes of the items that are left, are the bytes of all items, in order
pub record FollowsReads (before : ScriptLink) (room : ℕ) (after : ScriptLink)
    (answer : Got) : Type 0 where
  pub step : reads.ReadStep before.reads (vec_len before.taken) room answer after.reads
  pub in_order : reads.script_given after.reads ++ reads.all_bytes (reads.script_left after.reads)
      ≡ reads.all_bytes before.reads.items.items
  pub writes : after.writes ≡ before.writes

-- the answer of a turn to a part of that length
abbrev pub put_of : WriteTurn → ℕ → Put
put_of (turn.Takes n) part = put.Took (min n part)
put_of turn.TakesAll part = put.Took part
put_of turn.Waits part = put.NotReady
put_of (turn.Fails fault) part = put.Failed fault

-- the item in front of the script of writes answered
pub record AnswersWrite (before : ScriptLink) (part : ℕ) (after : ScriptLink)
    (answer : Put) : Type 0 where
  pub exact : answer ≡ put_of (writes.turn_of (writes.script_front before.writes)) part
  pub left : writes.script_left after.writes ≡ writes.after_turn (writes.script_front before.writes)
  pub reads : after.reads ≡ before.reads

-- a write follows the script of writes; when out of memory no item answers
abbrev pub FollowsWrites : ScriptLink → ℕ → ScriptLink → Put → Type 0
FollowsWrites before part after (put.Took n) = AnswersWrite before part after (put.Took n)
FollowsWrites before part after put.NotReady = AnswersWrite before part after put.NotReady
FollowsWrites before part after put.Silent = AnswersWrite before part after put.Silent
FollowsWrites before part after (put.Failed fault) =
    AnswersWrite before part after (put.Failed fault)
FollowsWrites before part after put.OutOfMemory =
    (after.reads ≡ before.reads) × (after.writes ≡ before.writes)
