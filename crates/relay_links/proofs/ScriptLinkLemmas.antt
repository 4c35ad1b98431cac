-- A link that runs by scripts: its reads follow the script of reads.
use Rattle.std.proofs.Common.{◌≡◌, ℕ, ◌+◌, min, length, [], false, refl, ap, ◌∙◌, arith, vec_len, Vec, Global}
use Rattle.relay_links.specs.declared.link.Got.{Got}
use Rattle.relay_links.specs.declared.read_script.ReadItem.{ReadItem}
use Rattle.relay_links.specs.declared.read_script.ReadScript.{ReadScript}
use Rattle.relay_links.specs.declared.write_script.WriteItem.{WriteItem}
use Rattle.relay_links.specs.declared.write_script.WriteScript.{WriteScript}
use Rattle.relay_links.specs.declared.script_link.ScriptLink.{ScriptLink}
use Rattle.relay_links.specs.ReadScript.{ReadStep, all_bytes, script_faults}
use Rattle.relay_links.specs.WriteScript as write_specs
use Rattle.relay_links.specs.Count.{last_count}
use Rattle.relay_links.specs.ScriptLink.{IsFresh, FollowsReads}
use Rattle.relay_links.proofs.ReadScriptLemmas.{given_of-left_items, given_of-start, faults_before-start, left_items-start}
use Rattle.relay_links.proofs.WriteScriptLemmas as writes
use Rattle.relay_links.proofs.WriteScriptLemmas.{faults_before-start as write_start}

-- a step of the script of reads is a read of the link
pub follows : (before after : ScriptLink) (taken room room_after : ℕ) (answer : Got)
    → taken ≡ vec_len before.taken → room_after ≡ room → after.writes ≡ before.writes
    → ReadStep before.reads taken room_after answer after.reads
    → FollowsReads before room after answer
follows before after taken room room_after answer size kept writes step =
    record {
      step = rw (size, kept) at step;
      in_order = given_of-left_items after.reads.items.items after.reads.at after.reads.done
          ∙ ap (λ (v : Vec ReadItem Global). all_bytes v.items) step.items;
      writes = writes;
    }

-- a link with new scripts has answered nothing
pub fresh : (link : ScriptLink) (read : Vec ReadItem Global) (write : Vec WriteItem Global)
    → link.reads ≡ record { items = read; at = 0; done = 0; ended = false }
    → link.writes ≡ record { items = write; at = 0; done = 0 }
    → link.taken.items ≡ [] → vec_len link.taken ≡ 0
    → link.waits ≡ 0 → link.used ≡ 0 → link.faults ≡ 0
    → link.start ≡ record {
      read_at = 0;
      read_done = 0;
      write_at = 0;
      taken = 0;
      waits = 0;
      used = 0;
      faults = 0;
      reused = false;
    }
    → IsFresh link read.items write.items
fresh link read write reads_is writes_is empty size waits used faults start =
    record {
      state = rw (
        reads_is,
        writes_is,
        waits,
        used,
        faults,
        given_of-start read.items,
        faults_before-start read.items,
        writes.faults_before-start write.items,
        left_items-start read.items,
        size,
        empty,
      ) refl;
      start = record {
        sound = record {
          waits_fit = omega (arith, waits);
          used_fits = omega (arith, used);
          faults_fit = omega (arith, faults);
          ended_speaks = rw reads_is (λ no. cc);
        };
        given = rw (reads_is, start) refl;
        taken = rw (start, empty) refl;
        read_faults = rw (reads_is, start) refl;
        write_faults = rw (writes_is, start) refl;
        waits = rw (waits, start) refl;
        used = rw (used, start) refl;
        faults = rw (faults, start) refl;
        marked = rw start refl;
      };
      items = rw (reads_is, writes_is) refl;
      reads = rw reads_is (left_items-start read.items);
      writes = rw writes_is (writes.left_items-start write.items);
    }

-- no fault is counted before the scripts are begun
pub none_counted : (reads : ReadScript) (writes : WriteScript) (read : Vec ReadItem Global)
    (write : Vec WriteItem Global)
    → reads ≡ record { items = read; at = 0; done = 0; ended = false }
    → writes ≡ record { items = write; at = 0; done = 0 }
    → 0 ≡ min (length (script_faults reads) + length (write_specs.script_faults writes)) last_count
none_counted reads writes read write reads_is writes_is =
    rw (reads_is, writes_is, faults_before-start read.items, write_start write.items)
    refl
