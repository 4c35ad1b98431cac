use Rattle.std.proofs.Common.{refl, sym, subst}
use Rattle.relay_tasks.specs.declared.context.Context.TheVariants.{BadFraming}
use Rattle.relay_h1.specs.Verdict.{AdmitsRequest}
use Rattle.relay_h1.specs.Verdict as verdict
use Rattle.relay_h1.proofs.JudgeLemmas.{err_is, admits_refusal, not_framed}
use Rattle.relay_h1.proofs.verdict.admit_request.Goals as goal

pub returns-in_err-head : goal.returns-in_err-head
returns-in_err-head c =
    let failure = c.in_err-head.field-0.0 in
    let is = err_is c.from_residual.result failure c.from_residual.ensures.1 in
    let answer =
    admits_refusal c.args.text.now failure c.requires.short c.in_err-head.ensures.causes
    c.in_err-head.ensures.refused.0
    c.in_err-head.ensures.memory
    in
    subst (AdmitsRequest c.args.text.now) (sym is) answer

pub returns-in-Err : goal.returns-in-Err
returns-in-Err c =
    let none = not_framed _ _ c.in-Err.ensures in (
      BadFraming,
      none.1,
      verdict.IsRefusedText.has_no_framing c.in_ok-head.head c.in_ok-head.ensures.ok none.0 refl,
    )
