-- The item in front of a script of reads, and what answering by it does.
use Rattle.std.proofs.Common.{◌≡◌, ℕ, zero, suc, ◌+◌, ◌-◌, ◌<◌, ◌≤◌, min, true, false, List, [], ◌∷◌, ◌++◌, length, take, drop, get_or, slice_get, Some, refl, sym, ap, ◌∙◌, arith, append-nil, add-one, vec_len, leb-false, length-drop, drop-drop}
use Rattle.std.proofs.lemmas.Option.{slice_get_read}
use Rattle.relay_tasks.specs.declared.fault.Fault.{Fault}
use Rattle.relay_links.specs.Fault.{as_read_fault}
use Rattle.relay_links.specs.Link.{IsReadFault}
use Rattle.relay_links.specs.declared.link.Got.TheVariants as got
use Rattle.relay_links.specs.declared.read_script.ReadItem.{ReadItem}
use Rattle.relay_links.specs.declared.read_script.ReadItem.TheVariants as item
use Rattle.relay_links.specs.declared.read_script.ReadScript.{ReadScript}
use Rattle.relay_links.specs.ReadScript.{is_passed, rest_of, left_items, is_silent, answer_of, after_answer, script_given, script_faults, script_front, script_left, script_silent, script_answer, script_after, IsSettled, Passes, ScriptGives, ScriptWaits, ScriptIsSilent, ScriptEnds, ScriptFails}
use Rattle.relay_links.proofs.ReadScriptLemmas.{given_of-more, given_of-passed, faults_before-suc, left_items-here, left_items-past}

-- the item at the place of a settled script: it is the one that answers
pub record ReadFront (before settled : ReadScript) (taken : ℕ) (x : ReadItem)
    (behind : List ReadItem) : Type 0 where
  pub found : slice_get settled.items.items settled.at ≡ Some x
  pub stays : is_passed x settled.done taken ≡ false
  pub front : script_front before taken ≡ rest_of x settled.done ∷ behind
  pub left : script_left settled ≡ rest_of x settled.done ∷ behind
  pub silent : script_silent before taken ≡ is_silent (rest_of x settled.done ∷ behind)
  pub silent_here : script_silent settled taken ≡ is_silent (rest_of x settled.done ∷ behind)
  pub answer : (room : ℕ)
      → script_answer before taken room ≡ answer_of (rest_of x settled.done ∷ behind) room
  pub after : (room : ℕ)
      → script_after before taken room ≡ after_answer (rest_of x settled.done ∷ behind) room
  pub items : settled.items ≡ before.items
  pub given : script_given settled ≡ script_given before
  pub faults : script_faults settled ≡ script_faults before
  pub was_open : before.ended ≡ false
  pub ended : settled.ended ≡ false

-- the items behind the place of a script
abbrev pub behind : ReadScript → List ReadItem
behind script = left_items script.items.items (suc script.at) 0

-- the item that the code read, once the script has settled
pub front : (before settled : ReadScript) (taken n : ℕ) (read x : ReadItem) → before.ended ≡ false
    → Passes before settled taken → IsSettled settled taken → n ≡ vec_len settled.items
    → settled.at < n
    → read ≡ get_or settled.items.items settled.at read → read ≡ x
    → ReadFront before settled taken x (behind settled)
front before settled taken n read x was_open passes settles size within is_read is =
    let read_here : slice_get settled.items.items settled.at ≡ Some read =
    slice_get_read settled.items.items n settled.at read (size
    ∙ settled.items.ok.0) within is_read in
    let found : slice_get settled.items.items settled.at ≡ Some x = read_here
    ∙ ap (λ (y : ReadItem). Some y) is in
    let left : script_left settled ≡ rest_of x settled.done ∷ behind settled =
    left_items-here settled.items.items settled.at settled.done x found in
    let before_front : script_front before taken ≡ rest_of x settled.done ∷ behind settled =
    sym passes.front ∙ settles.front ∙ left in
    let stays : is_passed x settled.done taken ≡ false = rw found at settles.stays in
    let ended : settled.ended ≡ false = passes.ended ∙ was_open in
    record {
      found = found;
      stays = stays;
      front = before_front;
      left = left;
      silent = rw (was_open, before_front) refl;
      silent_here = rw (ended, settles.front, left) refl;
      answer = λ room. rw (was_open, before_front) refl;
      after = λ room. rw (was_open, before_front) refl;
      items = passes.items;
      given = passes.given;
      faults = passes.faults;
      was_open = was_open;
      ended = ended;
    }

-- the item's bytes were given
pub gives : (before settled : ReadScript) (taken n : ℕ) (bytes room_before room : List ℕ)
    → ReadFront before settled taken (item.Bytes bytes) (behind settled) → 0 < length room_before
    → length room ≡ length room_before
    → n ≡ min (length bytes - settled.done) (length room_before)
    → take n room ≡ take n (drop settled.done bytes)
    → ScriptGives before taken room n
    (record {
      items = settled.items;
      at = settled.at;
      done = settled.done + n;
      ended =
          settled.ended;
    })
gives before settled taken n bytes room_before room here roomy kept count copied =
    let more : settled.done < length bytes = leb-false (length bytes) settled.done here.stays in
    let is : n ≡ min (length (drop settled.done bytes)) (length room) =
    rw (length-drop settled.done bytes, kept) count in
    record {
      some = omega arith;
      fits = omega arith;
      was_open = here.was_open;
      spoke = here.silent;
      given =
          given_of-more settled.items.items settled.at settled.done n (item.Bytes bytes) here.found
          ∙ rw (here.given, copied) refl;
      faults = here.faults;
      ended = here.ended;
      step = record {
        exact = sym (here.answer (length room) ∙ ap (λ (k : ℕ). got.Bytes k) (sym is));
        left =
            left_items-here settled.items.items settled.at (settled.done + n)
            (item.Bytes bytes) here.found
            ∙ sym (here.after (length room) ∙ rw (← is, drop-drop) refl);
        items = here.items;
      };
    }

-- an item without bytes gives none
none_more : (done : ℕ) (given : List ℕ) → given ++ take 1 (drop done []) ≡ given
none_more zero given = append-nil given
none_more (suc done) given = append-nil given

-- a wait that is not over
pub wait_is_short : (before settled : ReadScript) (taken n : ℕ)
    → ReadFront before settled taken (item.Wait n) (behind settled)
    → settled.done < n
wait_is_short before settled taken n here = leb-false n settled.done here.stays

-- a wait goes on
pub waits : (before settled : ReadScript) (taken room n : ℕ)
    → ReadFront before settled taken (item.Wait n) (behind settled)
    → ScriptWaits before taken room
    (record {
      items = settled.items;
      at = settled.at;
      done = settled.done + 1;
      ended =
          settled.ended;
    })
waits before settled taken room n here =
    record {
      was_open = here.was_open;
      spoke = here.silent;
      given = given_of-more settled.items.items settled.at settled.done 1 (item.Wait n) here.found
          ∙ rw here.given (none_more settled.done (script_given before));
      faults = here.faults;
      ended = here.ended;
      step = record {
        exact = sym (here.answer room);
        left =
            left_items-here settled.items.items settled.at (settled.done + 1)
            (item.Wait n) here.found
            ∙ sym (here.after room ∙ ap (λ (k : ℕ). item.Wait k ∷ behind settled) (omega arith));
        items = here.items;
      };
    }

-- the script stays silent before an item that is silent
pub is_silent_after : (before settled : ReadScript) (taken room n : ℕ)
    → ReadFront before settled taken (item.After n) (behind settled)
    → ScriptIsSilent before taken room settled
is_silent_after before settled taken room n here =
    record {
      was_open = here.was_open;
      silent = here.silent;
      stays_silent = here.silent_here;
      given = here.given;
      faults = here.faults;
      ended = here.ended;
      step =
          record {
            exact = sym (here.answer room);
            left = here.left ∙ sym (here.after room);
            items =
                here.items;
          };
    }

-- the script is silent past its last item
pub is_silent_past : (before settled : ReadScript) (taken n room : ℕ) → before.ended ≡ false
    → Passes before settled taken
    → IsSettled settled taken → n ≡ vec_len settled.items → n ≤ settled.at
    → ScriptIsSilent before taken room settled
is_silent_past before settled taken n room was_open passes settles size past =
    let none : script_left settled ≡ [] =
    left_items-past settled.items.items settled.at settled.done
    (omega (arith, settled.items.ok.0)) in
    let before_front : script_front before taken ≡ [] = sym passes.front ∙ settles.front ∙ none in
    let ended : settled.ended ≡ false = passes.ended ∙ was_open in
    record {
      was_open = was_open;
      silent = rw (was_open, before_front) refl;
      stays_silent = rw (ended, settles.front, none) refl;
      given = passes.given;
      faults = passes.faults;
      ended = ended;
      step = record {
        exact = rw (was_open, before_front) refl;
        left = none ∙ rw (was_open, before_front) refl;
        items = passes.items;
      };
    }

-- a fault is answered once
pub fails : (before settled : ReadScript) (taken room : ℕ) (fault answered : Fault)
    → ReadFront before settled taken (item.Fault fault) (behind settled)
    → answered ≡ as_read_fault fault → IsReadFault answered
    → ScriptFails before taken room answered
    (record { items = settled.items; at = settled.at + 1; done = 0; ended = settled.ended })
fails before settled taken room fault answered here is kind =
    record {
      kind = kind;
      was_open = here.was_open;
      spoke = here.silent;
      given = rw add-one
          (given_of-passed settled.items.items settled.at settled.done (item.Fault fault) here.found
          (omega arith) ∙ here.given);
      faults = rw add-one
          (faults_before-suc settled.items.items settled.at (item.Fault fault) here.found
          ∙ rw (here.faults, is) refl);
      ended = here.ended;
      step = record {
        exact = rw is (sym (here.answer room));
        left = rw add-one (sym (here.after room));
        items = here.items;
      };
    }

-- the end is answered
pub ends : (before settled : ReadScript) (taken room : ℕ)
    → ReadFront before settled taken item.End (behind settled)
    → ScriptEnds before taken room
    (record { items = settled.items; at = settled.at; done = settled.done; ended = true })
ends before settled taken room here =
    record {
      spoke = here.silent;
      given = here.given;
      faults = here.faults;
      ended = refl;
      step =
          record {
            exact = sym (here.answer room);
            left = here.left ∙ sym (here.after room);
            items =
                here.items;
          };
    }

-- an ended script answers its end
pub ends_again : (script : ReadScript) (taken room : ℕ) → script.ended ≡ true
    → ScriptEnds script taken room script
ends_again script taken room ended =
    record {
      spoke = rw ended refl;
      given = refl;
      faults = refl;
      ended = ended;
      step = record { exact = rw ended refl; left = rw ended refl; items = refl };
    }
