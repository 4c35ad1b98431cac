-- Before the first piece and the first task nothing passed.
use Rattle.std.proofs.Common.{refl}
use Rattle.relay_filters.proofs.QuietLemmas.{quiet_begins, quiet_by}
use Rattle.relay_filters.proofs.SegmentLemmas.{own_none, segments_none}
use Rattle.relay_filters.proofs.SideLemmas.{begins}
use Rattle.relay_filters.proofs.rested.Rested.begin.Goals as goal

pub returns-clause-begins : goal.returns-clause-begins
returns-clause-begins g c =
    rw c.new.ensures
    (λ client s p head none none' own h stood.
    record {
      passed = begins _ _ _ _ _ _ _ _ p stood head none none' own h;
      quiet = quiet_by _ _ c.told-told.result _ _ c.told-told.ensures refl
          (quiet_begins c.args.inner.told);
      calls = segments_none _ _ (own_none _ _ stood);
    })
