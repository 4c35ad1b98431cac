-- Scripts of writes: what passing an item, and answering by it, does to what is left.
use Rattle.std.proofs.Common.{◌≡◌, ℕ, zero, suc, ◌+◌, ◌<◌, ◌≤◌, true, false, List, [], ◌∷◌, ◌++◌, length, get_or, slice_get, Some, refl, sym, ap, ◌∙◌, arith, append-nil, append_assoc, add-one, vec_len, leb-false}
use Rattle.std.proofs.lemmas.Option.{slice_get_past, slice_get_read}
use Rattle.relay_tasks.specs.declared.fault.Fault.{Fault}
use Rattle.relay_links.specs.Fault.{as_write_fault}
use Rattle.relay_links.proofs.NumberLemmas.{leb-sub}
use Rattle.relay_links.specs.declared.write_script.WriteItem.{WriteItem}
use Rattle.relay_links.specs.declared.write_script.WriteItem.TheVariants as item
use Rattle.relay_links.specs.declared.write_script.WriteScript.{WriteScript}
use Rattle.relay_links.specs.declared.write_script.WriteTurn.TheVariants.{Takes, TakesAll, Waits, Fails}
use Rattle.relay_links.specs.Link.{IsWriteFault}
use Rattle.relay_links.specs.WriteScript.{fault_of, faults_before, is_passed, rest_of, left_items, script_faults, script_left, script_front, IsSettled, Passes, TakesTurn}

-- an item that is passed has no fault
no_fault : (x : WriteItem) (done : ℕ) → is_passed x done ≡ true → fault_of x ≡ []
no_fault (item.Take n) done passed = refl
no_fault (item.Wait n) done passed = refl
no_fault (item.Fault fault) done passed = cc

-- what is left of an item is passed exactly where the item is
is_passed-rest_of : (x : WriteItem) (done : ℕ) → is_passed (rest_of x done) 0 ≡ is_passed x done
is_passed-rest_of (item.Take n) done = refl
is_passed-rest_of (item.Wait n) done = leb-sub n done
is_passed-rest_of (item.Fault fault) done = refl

-- an item of which nothing is done
rest_of-start : (x : WriteItem) → rest_of x 0 ≡ x
rest_of-start (item.Take n) = refl
rest_of-start (item.Wait n) = ap (λ (k : ℕ). item.Wait k) (omega arith)
rest_of-start (item.Fault fault) = refl

-- no fault is answered before the first item
pub faults_before-start : (xs : List WriteItem) → faults_before xs 0 ≡ []
faults_before-start [] = refl
faults_before-start (x ∷ xs) = refl

-- all is left before the first item is begun
pub left_items-start : (xs : List WriteItem) → left_items xs 0 0 ≡ xs
left_items-start [] = refl
left_items-start (x ∷ xs) = ap (λ (y : WriteItem). y ∷ xs) (rest_of-start x)

-- the faults up to the next place
faults_before-suc : (xs : List WriteItem) (at : ℕ) (x : WriteItem) → slice_get xs at ≡ Some x
    → faults_before xs (suc at) ≡ faults_before xs at ++ fault_of x
faults_before-suc [] at x found = cc
faults_before-suc (y ∷ ys) zero x found =
    let same : y ≡ x = cc in
    rw (faults_before-start ys, append-nil, same) refl
faults_before-suc (y ∷ ys) (suc at) x found =
    rw append_assoc (ap (λ (t : List Fault). fault_of y ++ t) (faults_before-suc ys at x found))

-- the items that are left at a place: the item there, and those from the next place on
left_items-here : (xs : List WriteItem) (at done : ℕ) (x : WriteItem) → slice_get xs at ≡ Some x
    → left_items xs at done ≡ rest_of x done ∷ left_items xs (suc at) 0
left_items-here [] at done x found = cc
left_items-here (y ∷ ys) zero done x found =
    let same : y ≡ x = cc in
    rw (left_items-start ys, same) refl
left_items-here (y ∷ ys) (suc at) done x found = left_items-here ys at done x found

-- nothing is left past the last item
left_items-past : (xs : List WriteItem) (at done : ℕ) → length xs ≤ at → left_items xs at done ≡ []
left_items-past [] at done past = refl
left_items-past (y ∷ ys) zero done past = absurd (omega arith)
left_items-past (y ∷ ys) (suc at) done past = left_items-past ys at done (omega arith)

-- a script that passes the item at its place
pub passes_one : (start script : WriteScript) (n : ℕ) (x : WriteItem) → Passes start script
    → n ≡ vec_len script.items → script.at < n → x ≡ get_or script.items.items script.at x
    → is_passed x script.done ≡ true
    → Passes start (record { items = script.items; at = script.at + 1; done = 0 })
passes_one start script n x so_far size within read passed =
    let found : slice_get script.items.items script.at ≡ Some x =
    slice_get_read script.items.items n script.at x (size ∙ script.items.ok.0) within read in
    let gone : is_passed (rest_of x script.done) 0 ≡ true = is_passed-rest_of x script.done
    ∙ passed in
    record {
      items = so_far.items;
      faults = rw add-one
          (faults_before-suc script.items.items script.at x found
          ∙ rw (no_fault x script.done passed, append-nil) so_far.faults);
      front = rw add-one
          (sym (rw (left_items-here script.items.items script.at script.done x found, gone) refl)
          ∙ so_far.front);
    }

-- a script that does not pass the item at its place
pub settled_here : (script : WriteScript) (n : ℕ) (x : WriteItem)
    → n ≡ vec_len script.items → script.at < n → x ≡ get_or script.items.items script.at x
    → is_passed x script.done ≡ false → IsSettled script
settled_here script n x size within read stays =
    let found : slice_get script.items.items script.at ≡ Some x =
    slice_get_read script.items.items n script.at x (size ∙ script.items.ok.0) within read in
    let here : is_passed (rest_of x script.done) 0 ≡ false = is_passed-rest_of x script.done
    ∙ stays in
    record {
      front = rw (left_items-here script.items.items script.at script.done x found, here) refl;
      stays = rw found stays;
    }

-- a script past its last item
pub settled_past : (script : WriteScript) (n : ℕ) → n ≡ vec_len script.items → n ≤ script.at
    → IsSettled script
settled_past script n size past =
    let beyond : length script.items.items ≤ script.at = omega (arith, script.items.ok.0) in
    record {
      front = rw (left_items-past script.items.items script.at script.done beyond) refl;
      stays = rw (slice_get_past script.items.items script.at beyond) tt;
    }

-- the items behind the place of a script
abbrev pub behind : WriteScript → List WriteItem
behind script = left_items script.items.items (suc script.at) 0

-- the item at the place of a settled script: it is the one that answers
pub record WriteFront (before settled : WriteScript) (x : WriteItem) : Type 0 where
  pub found : slice_get settled.items.items settled.at ≡ Some x
  pub stays : is_passed x settled.done ≡ false
  pub front : script_front before ≡ rest_of x settled.done ∷ behind settled
  pub faults : script_faults settled ≡ script_faults before
  pub items : settled.items ≡ before.items

-- the faults after an item that was answered at once
faults-next : (before settled : WriteScript) (x : WriteItem) → WriteFront before settled x
    → faults_before settled.items.items (settled.at + 1) ≡ script_faults before ++ fault_of x
faults-next before settled x here =
    rw add-one (faults_before-suc settled.items.items settled.at x here.found
    ∙ ap (λ (t : List Fault). t ++ fault_of x) here.faults)

-- the item that the code read, once the script has settled
pub front : (before settled : WriteScript) (n : ℕ) (read x : WriteItem) → Passes before settled
    → IsSettled settled
    → n ≡ vec_len settled.items → settled.at < n → read ≡ get_or settled.items.items settled.at read
    → read ≡ x
    → WriteFront before settled x
front before settled n read x passes settles size within is_read is =
    let read_here : slice_get settled.items.items settled.at ≡ Some read =
    slice_get_read settled.items.items n settled.at read (size
    ∙ settled.items.ok.0) within is_read in
    let found : slice_get settled.items.items settled.at ≡ Some x = read_here
    ∙ ap (λ (y : WriteItem). Some y) is in
    record {
      found = found;
      stays = rw found at settles.stays;
      front = sym passes.front ∙ settles.front
          ∙ left_items-here settled.items.items settled.at settled.done x found;
      faults = passes.faults;
      items = passes.items;
    }

-- all is taken past the last item
pub takes_all : (before settled : WriteScript) (n : ℕ) → Passes before settled → IsSettled settled
    → n ≡ vec_len settled.items → n ≤ settled.at → TakesTurn before settled TakesAll
takes_all before settled n passes settles size past =
    let none : script_left settled ≡ [] =
    left_items-past settled.items.items settled.at settled.done
    (omega (arith, settled.items.ok.0)) in
    let before_front : script_front before ≡ [] = sym passes.front ∙ settles.front ∙ none in
    record {
      exact = rw before_front refl;
      left = none ∙ rw before_front refl;
      faults = rw append-nil passes.faults;
      kind = tt;
      items = passes.items;
    }

-- a part is taken
pub takes : (before settled : WriteScript) (n : ℕ) → WriteFront before settled (item.Take n)
    → TakesTurn before (record { items = settled.items; at = settled.at + 1; done = 0 }) (Takes n)
takes before settled n here =
    record {
      exact = rw here.front refl;
      left = rw (add-one, here.front) refl;
      faults = faults-next before settled (item.Take n) here;
      kind = omega (arith, leb-false n 0 here.stays);
      items = here.items;
    }

-- a wait that is not over
pub wait_is_short : (before settled : WriteScript) (n : ℕ) → WriteFront before settled (item.Wait n)
    → settled.done < n
wait_is_short before settled n here = leb-false n settled.done here.stays

-- a wait goes on
pub waits : (before settled : WriteScript) (n : ℕ) → WriteFront before settled (item.Wait n)
    → TakesTurn before
    (record { items = settled.items; at = settled.at; done = settled.done + 1 }) Waits
waits before settled n here =
    record {
      exact = rw here.front refl;
      left =
          left_items-here settled.items.items settled.at (settled.done + 1) (item.Wait n) here.found
          ∙ sym (rw here.front (ap (λ (k : ℕ). item.Wait k ∷ behind settled) (omega arith)));
      faults = rw append-nil here.faults;
      kind = tt;
      items = here.items;
    }

-- a fault is answered once
pub fails : (before settled : WriteScript) (fault answered : Fault)
    → WriteFront before settled (item.Fault fault)
    → answered ≡ as_write_fault fault → IsWriteFault answered
    → TakesTurn before (record { items = settled.items; at = settled.at + 1; done = 0 })
    (Fails answered)
fails before settled fault answered here is kind =
    record {
      exact = rw (here.front, is) refl;
      left = rw (add-one, here.front) refl;
      faults = rw is (faults-next before settled (item.Fault fault) here);
      kind = kind;
      items = here.items;
    }
