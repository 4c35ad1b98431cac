use Rattle.std.proofs.Common.{sym}
use Rattle.relay_h1.specs.Verdict as verdict
use Rattle.relay_h1.proofs.verdict.locate_head.Goals as goal

pub returns-in-Some-clause-place : goal.returns-in-Some-clause-place
returns-in-Some-clause-place c = (
  c.too_long.ensures,
  verdict.IsTooLong.ends_late c.in-Some.len (sym c.in-Some.ensures.place)
      c.if-len-gt-MAX_HEAD.true,
)
