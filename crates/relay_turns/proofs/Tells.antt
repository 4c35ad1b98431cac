-- What the client's link tells of what passed, carried over one answer of it, and facts on bytes
-- that a link takes.
use Rattle.std.proofs.Common.{◌≡◌, ℕ, ◌≤◌, List, [], ◌++◌, take, drop, sym, ap, ◌∙◌, arith, append_assoc, append-nil, take-append-drop}
use Rattle.relay_links.specs.Count.{last_count, Rose}
use Rattle.relay_links.specs.Link.{GivesBytes, TakesBytes}
use Rattle.relay_links.proofs.SinceLemmas.{Since-kept, Since-grows}
use Rattle.relay_tasks.specs.Error.{error_of_fault}
use Rattle.relay_tasks.specs.declared.Error.{Error}
use Rattle.relay_tasks.specs.declared.ErrorSource.{ErrorSource}
use Rattle.relay_tasks.specs.declared.Fault.{Fault}
use Rattle.relay_attempt.specs.Passed.{Passed}
use Rattle.relay_peer.proofs.FaultLemmas.{Grew, grew_none, since_on}
use Rattle.relay_request.specs.Tries.{fault_error}
use Rattle.relay_request.specs.Passed.{World, Start, TellsClient}

-- a count that rose is no lower
pub Rose-le : (before after : ℕ) → before ≤ last_count → Rose before after → before ≤ after
Rose-le before after fits rose = grind arith

-- the client's link gave more
abbrev pub came_more : Passed → List ℕ → Passed
came_more p piece = record {
  came = p.came ++ piece;
  written = p.written;
  got = p.got;
  sent = p.sent;
}

-- the client's link took more
abbrev pub written_more : Passed → List ℕ → Passed
written_more p piece = record {
  came = p.came;
  written = p.written ++ piece;
  got = p.got;
  sent = p.sent;
}

-- the client's link gave a piece
pub client_gave : (s : Start) (p : Passed) (w x : World) (room : List ℕ) (n : ℕ)
    → x.connect_faults ≡ w.connect_faults → GivesBytes w.client room n x.client
    → TellsClient s p w → TellsClient s (came_more p (take n room)) x
client_gave s p w x room n same gives tells = record {
  came = Since-grows [] s.given w.client.given x.client.given p.came (take n room) gives.given
      tells.came;
  written = Since-kept [] s.taken w.client.taken x.client.taken p.written gives.taken tells.written;
  faults = omega (arith, gives.faults, tells.faults);
  connect_faults = omega (arith, tells.connect_faults);
  fault_lists = since_on s.read_faults s.write_faults w.client x.client
      (grew_none w.client x.client gives.read_faults gives.write_faults) tells.fault_lists;
}

-- the client's link took a piece
pub client_took : (s : Start) (p : Passed) (w x : World) (part : List ℕ) (n : ℕ)
    → x.connect_faults ≡ w.connect_faults → TakesBytes w.client part n x.client
    → TellsClient s p w → TellsClient s (written_more p (take n part)) x
client_took s p w x part n same takes tells = record {
  came = Since-kept [] s.given w.client.given x.client.given p.came takes.given tells.came;
  written = Since-grows [] s.taken w.client.taken x.client.taken p.written (take n part) takes.taken
      tells.written;
  faults = omega (arith, takes.faults, tells.faults);
  connect_faults = omega (arith, tells.connect_faults);
  fault_lists = since_on s.read_faults s.write_faults w.client x.client
      (grew_none w.client x.client takes.read_faults takes.write_faults) tells.fault_lists;
}

-- the client's link gave and took nothing
pub client_still : (s : Start) (p : Passed) (w x : World)
    → w.connect_faults ≤ x.connect_faults
    → x.client.given ≡ w.client.given → x.client.taken ≡ w.client.taken
    → w.client.faults ≤ x.client.faults → Grew w.client x.client
    → TellsClient s p w → TellsClient s p x
client_still s p w x connect given taken faults grew tells = record {
  came = Since-kept [] s.given w.client.given x.client.given p.came given tells.came;
  written = Since-kept [] s.taken w.client.taken x.client.taken p.written taken tells.written;
  faults = omega (arith, tells.faults);
  connect_faults = omega (arith, tells.connect_faults);
  fault_lists = since_on s.read_faults s.write_faults w.client x.client grew tells.fault_lists;
}

-- an error that tells of a fault, with its side set
pub sided : (told e : Error) (side : ErrorSource) (fault : Fault)
    → told ≡ error_of_fault fault → e ≡ record told { esource = side } → e ≡ fault_error side fault
sided told e side fault is set = set ∙ ap (λ (t : Error). record t { esource = side }) is

-- where nothing is left, all was taken
pub take_whole : (xs : List ℕ) (n : ℕ) → [] ≡ drop n xs → take n xs ≡ xs
take_whole xs n none =
    sym (append-nil (take n xs)) ∙ ap (λ (ys : List ℕ). take n xs ++ ys) none
    ∙ take-append-drop n xs

-- what was taken and what is left join to the same
pub take_rest : (front xs rest : List ℕ) (n : ℕ) → rest ≡ drop n xs
    → (front ++ take n xs) ++ rest ≡ front ++ xs
take_rest front xs rest n left =
    append_assoc front (take n xs) rest
    ∙ ap (λ (ys : List ℕ). front ++ ys)
    (ap (λ (ys : List ℕ). take n xs ++ ys) left ∙ take-append-drop n xs)
