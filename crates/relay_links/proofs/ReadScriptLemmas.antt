-- Scripts of reads: what passing an item, and answering by it, does to what was given and is left.
use Rattle.std.proofs.Common.{◌≡◌, ℕ, zero, suc, ◌+◌, ◌<◌, ◌≤◌, true, false, List, [], ◌∷◌, ◌++◌, length, take, drop, get_or, slice_get, Some, refl, sym, ap, ◌∙◌, arith, append-nil, append_assoc, add-one, take_all, leb-true, take-append-drop, vec_len, length-drop, drop_of_length-le}
use Rattle.std.proofs.Math.Seq.{take-add}
use Rattle.std.proofs.lemmas.Option.{slice_get_past, slice_get_read}
use Rattle.relay_tasks.specs.declared.fault.Fault.{Fault}
use Rattle.relay_links.proofs.NumberLemmas.{leb-sub}
use Rattle.relay_links.specs.declared.read_script.ReadItem.{ReadItem}
use Rattle.relay_links.specs.declared.read_script.ReadItem.TheVariants as item
use Rattle.relay_links.specs.declared.read_script.ReadScript.{ReadScript}
use Rattle.relay_links.specs.ReadScript.{bytes_of, fault_of, all_bytes, given_of, left_items, faults_before, is_passed, rest_of, IsSettled, Passes}

-- an item that is passed has given its bytes
short : (x : ReadItem) (done taken : ℕ) → is_passed x done taken ≡ true → length (bytes_of x) ≤ done
short (item.Bytes bytes) done taken passed = leb-true (length bytes) done passed
short (item.Wait n) done taken passed = omega arith
short (item.After n) done taken passed = omega arith
short (item.Fault fault) done taken passed = omega arith
short item.End done taken passed = omega arith

-- an item that is passed has no fault
no_fault : (x : ReadItem) (done taken : ℕ) → is_passed x done taken ≡ true → fault_of x ≡ []
no_fault (item.Bytes bytes) done taken passed = refl
no_fault (item.Wait n) done taken passed = refl
no_fault (item.After n) done taken passed = refl
no_fault (item.Fault fault) done taken passed = cc
no_fault item.End done taken passed = refl

-- what is left of an item is passed exactly where the item is
is_passed-rest_of : (x : ReadItem) (done taken : ℕ)
    → is_passed (rest_of x done) 0 taken ≡ is_passed x done taken
is_passed-rest_of (item.Bytes bytes) done taken =
    rw (length-drop done bytes) (leb-sub (length bytes) done)
is_passed-rest_of (item.Wait n) done taken = leb-sub n done
is_passed-rest_of (item.After n) done taken = refl
is_passed-rest_of (item.Fault fault) done taken = refl
is_passed-rest_of item.End done taken = refl

-- an item of which nothing is done
rest_of-start : (x : ReadItem) → rest_of x 0 ≡ x
rest_of-start (item.Bytes bytes) = refl
rest_of-start (item.Wait n) = ap (λ (k : ℕ). item.Wait k) (omega arith)
rest_of-start (item.After n) = refl
rest_of-start (item.Fault fault) = refl
rest_of-start item.End = refl

-- nothing is given before the first item is begun
pub given_of-start : (xs : List ReadItem) → given_of xs 0 0 ≡ []
given_of-start [] = refl
given_of-start (x ∷ xs) = refl

-- no fault is answered before the first item
pub faults_before-start : (xs : List ReadItem) → faults_before xs 0 ≡ []
faults_before-start [] = refl
faults_before-start (x ∷ xs) = refl

-- all is left before the first item is begun
pub left_items-start : (xs : List ReadItem) → left_items xs 0 0 ≡ xs
left_items-start [] = refl
left_items-start (x ∷ xs) = ap (λ (y : ReadItem). y ∷ xs) (rest_of-start x)

-- what was given, where an item has given its bytes
pub given_of-passed : (xs : List ReadItem) (at done : ℕ) (x : ReadItem) → slice_get xs at ≡ Some x
    → length (bytes_of x) ≤ done → given_of xs (suc at) 0 ≡ given_of xs at done
given_of-passed [] at done x found all_given = cc
given_of-passed (y ∷ ys) zero done x found all_given =
    let same : y ≡ x = cc in
    let all_taken : length (bytes_of y) ≤ done = rw same all_given in
    rw (given_of-start ys, append-nil) (sym (take_all done (bytes_of y) all_taken))
given_of-passed (y ∷ ys) (suc at) done x found all_given =
    ap (λ (t : List ℕ). bytes_of y ++ t) (given_of-passed ys at done x found all_given)

-- the faults up to the next place
pub faults_before-suc : (xs : List ReadItem) (at : ℕ) (x : ReadItem) → slice_get xs at ≡ Some x
    → faults_before xs (suc at) ≡ faults_before xs at ++ fault_of x
faults_before-suc [] at x found = cc
faults_before-suc (y ∷ ys) zero x found =
    let same : y ≡ x = cc in
    rw (faults_before-start ys, append-nil, same) refl
faults_before-suc (y ∷ ys) (suc at) x found =
    rw append_assoc (ap (λ (t : List Fault). fault_of y ++ t) (faults_before-suc ys at x found))

-- the items that are left at a place: the item there, and those from the next place on
pub left_items-here : (xs : List ReadItem) (at done : ℕ) (x : ReadItem) → slice_get xs at ≡ Some x
    → left_items xs at done ≡ rest_of x done ∷ left_items xs (suc at) 0
left_items-here [] at done x found = cc
left_items-here (y ∷ ys) zero done x found =
    let same : y ≡ x = cc in
    rw (left_items-start ys, same) refl
left_items-here (y ∷ ys) (suc at) done x found = left_items-here ys at done x found

-- nothing is left past the last item
pub left_items-past : (xs : List ReadItem) (at done : ℕ) → length xs ≤ at
    → left_items xs at done ≡ []
left_items-past [] at done past = refl
left_items-past (y ∷ ys) zero done past = absurd (omega arith)
left_items-past (y ∷ ys) (suc at) done past = left_items-past ys at done (omega arith)

-- what was given, after more bytes of the item at the place
pub given_of-more : (xs : List ReadItem) (at done count : ℕ) (x : ReadItem)
    → slice_get xs at ≡ Some x
    → given_of xs at (done + count) ≡ given_of xs at done ++ take count (drop done (bytes_of x))
given_of-more [] at done count x found = cc
given_of-more (y ∷ ys) zero done count x found =
    let same : y ≡ x = cc in
    rw same (take-add done count (bytes_of x))
given_of-more (y ∷ ys) (suc at) done count x found =
    rw append_assoc (ap (λ (t : List ℕ). bytes_of y ++ t) (given_of-more ys at done count x found))

-- the bytes of what is left of an item
bytes_of-rest_of : (x : ReadItem) (done : ℕ) → bytes_of (rest_of x done) ≡ drop done (bytes_of x)
bytes_of-rest_of (item.Bytes bytes) done = refl
bytes_of-rest_of (item.Wait n) done = sym (drop_of_length-le [] (omega arith))
bytes_of-rest_of (item.After n) done = sym (drop_of_length-le [] (omega arith))
bytes_of-rest_of (item.Fault fault) done = sym (drop_of_length-le [] (omega arith))
bytes_of-rest_of item.End done = sym (drop_of_length-le [] (omega arith))

-- what was given, and then the bytes of what is left, are the bytes of all items
pub given_of-left_items : (xs : List ReadItem) (at done : ℕ)
    → given_of xs at done ++ all_bytes (left_items xs at done) ≡ all_bytes xs
given_of-left_items [] at done = refl
given_of-left_items (x ∷ xs) zero done =
    rw (bytes_of-rest_of x done)
    (sym (append_assoc (take done (bytes_of x)) (drop done (bytes_of x)) (all_bytes xs))
    ∙ ap (λ (t : List ℕ). t ++ all_bytes xs) (take-append-drop done (bytes_of x)))
given_of-left_items (x ∷ xs) (suc at) done =
    append_assoc (bytes_of x) (given_of xs at done) (all_bytes (left_items xs at done))
    ∙ ap (λ (t : List ℕ). bytes_of x ++ t) (given_of-left_items xs at done)

-- a script that passes the item at its place
pub passes_one : (start script : ReadScript) (taken n : ℕ) (x : ReadItem)
    → Passes start script taken
    → n ≡ vec_len script.items → script.at < n → x ≡ get_or script.items.items script.at x
    → is_passed x script.done taken ≡ true
    → Passes start
    (record { items = script.items; at = script.at + 1; done = 0; ended = script.ended }) taken
passes_one start script taken n x so_far size within read passed =
    let found : slice_get script.items.items script.at ≡ Some x =
    slice_get_read script.items.items n script.at x (size ∙ script.items.ok.0) within read in
    let gone : is_passed (rest_of x script.done) 0 taken ≡ true =
    is_passed-rest_of x script.done taken ∙ passed in
    record {
      items = so_far.items;
      ended = so_far.ended;
      given = rw add-one
          (given_of-passed script.items.items script.at script.done x found
          (short x script.done taken passed) ∙ so_far.given);
      faults = rw add-one
          (faults_before-suc script.items.items script.at x found
          ∙ rw (no_fault x script.done taken passed, append-nil) so_far.faults);
      front = rw add-one
          (sym (rw (left_items-here script.items.items script.at script.done x found, gone) refl)
          ∙ so_far.front);
    }

-- a script that does not pass the item at its place
pub settled_here : (script : ReadScript) (taken n : ℕ) (x : ReadItem)
    → n ≡ vec_len script.items → script.at < n → x ≡ get_or script.items.items script.at x
    → is_passed x script.done taken ≡ false → IsSettled script taken
settled_here script taken n x size within read stays =
    let found : slice_get script.items.items script.at ≡ Some x =
    slice_get_read script.items.items n script.at x (size ∙ script.items.ok.0) within read in
    let here : is_passed (rest_of x script.done) 0 taken ≡ false =
    is_passed-rest_of x script.done taken ∙ stays in
    record {
      front = rw (left_items-here script.items.items script.at script.done x found, here) refl;
      stays = rw found stays;
    }

-- a script past its last item
pub settled_past : (script : ReadScript) (taken n : ℕ) → n ≡ vec_len script.items → n ≤ script.at
    → IsSettled script taken
settled_past script taken n size past =
    let beyond : length script.items.items ≤ script.at = omega (arith, script.items.ok.0) in
    record {
      front = rw (left_items-past script.items.items script.at script.done beyond) refl;
      stays = rw (slice_get_past script.items.items script.at beyond) tt;
    }
