use Rattle.std.proofs.Common.{List, ℕ, Some, ap, arith, refl}
use Rattle.relay_links.proofs.SourceLemmas.{given-more, left-more}
use Rattle.relay_links.proofs.slice_source.SliceSourceSource.read.Goals as goal

pub returns-clause-state : goal.returns-clause-state
returns-clause-state c =
    record {
      some = omega (arith, c.requires);
      fits = omega (arith, c.give-count.auto.room);
      was_open = c.if-self.false;
      given = ap (λ (t : List ℕ). Some t)
          (given-more c.args.self.now.bytes.now c.give-count.new.room c.args.self.now.at
          c.give-count.result c.give-count.ensures.bytes);
      left = ap (λ (t : List ℕ). Some t)
          (left-more c.args.self.now.bytes.now c.give-count.new.room c.args.self.now.at
          c.give-count.result c.give-count.ensures.bytes);
      ended = c.if-self.false;
      faults = refl;
      faults_fit = omega arith;
    }
