use Rattle.std.proofs.Common.{ap, inl, refl}
use Rattle.std.specs.Prelude.{Err}
use Rattle.relay_tasks.specs.declared.Context.TheVariants as about
use Rattle.relay_authority.proofs.upstream.ready_head.Goals as goal

-- the target is not UTF-8
pub returns-in-Err : goal.returns-in-Err
returns-in-Err c =
    rw c.in-H2.is (
      about.NonUtf8H2,
      c.args.head,
      c.in-Err.ensures.causes,
      inl
          (c.in-Err.ensures.refused.0 (ap Err c.in-Err.ensures.causes), refl),
    )
