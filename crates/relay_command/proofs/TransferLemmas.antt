-- What a source gave and what a sink took, over one call after another.
use Rattle.std.proofs.Common.{◌≡◌, ℕ, ◌+◌, ◌≤◌, List, ◌++◌, length, take, drop, Option, Some, None, option_map, refl, sym, ap, ◌∙◌, ◌-◌, append_assoc}
use Rattle.std.proofs.lemmas.List.{take-take}
use Rattle.std.proofs.Math.Seq.{take-add}
use Rattle.relay_links.specs.Sink.{SinkState, TakesFirst}
use Rattle.relay_links.specs.Source.{SourceState}
use Rattle.relay_links.specs.Told.{more}
use Rattle.relay_command.specs.Transfer.{Gives, Takes}

-- one piece after another
pub more-more : (told : Option (List ℕ)) (xs ys : List ℕ)
    → more (more told xs) ys ≡ more told (xs ++ ys)
more-more None xs ys = refl
more-more (Some told) xs ys = ap Some (append_assoc told xs ys)

left-left : (left : Option (List ℕ)) (xs ys : List ℕ)
    → option_map (λ rest. xs ++ rest) (option_map (λ rest. ys ++ rest) left)
    ≡ option_map (λ rest. (xs ++ ys) ++ rest) left
left-left None xs ys = refl
left-left (Some rest) xs ys = ap Some (sym (append_assoc xs ys rest))

-- what was given in two calls
pub Gives-append : (a b c : SourceState) (xs ys : List ℕ) → Gives a b xs → Gives b c ys
    → Gives a c (xs ++ ys)
Gives-append a b c xs ys first second = record {
  given = second.given ∙ ap (λ told. more told ys) first.given ∙ more-more a.given xs ys;
  left = first.left ∙ ap (option_map (λ rest. xs ++ rest)) second.left ∙ left-left c.left xs ys;
  faults = second.faults ∙ first.faults;
}

-- what a sink took of a text, and then of the rest of it
pub Takes-more : (a b c : SinkState) (text : List ℕ) (n k : ℕ) → n ≤ length text
    → k ≤ length text - n
    → Takes a b (take n text) → TakesFirst b (take (length text - n) (drop n text)) k c
    → Takes a c (take (n + k) text)
Takes-more a b c text n k within fits before next =
    let piece : take k (take (length text - n) (drop n text)) ≡ take k (drop n text) =
    take-take k (length text - n) (drop n text) fits in
    record {
      taken = next.taken ∙ ap (more b.taken) piece
          ∙ ap (λ told. more told (take k (drop n text))) before.taken
          ∙ more-more a.taken (take n text) (take k (drop n text))
          ∙ ap (more a.taken) (sym (take-add n k text));
      faults = next.faults ∙ before.faults;
    }
