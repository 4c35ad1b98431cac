use Rattle.std.proofs.Common.{◌≡◌, take, sym, ap, ◌∙◌, refl, subst, List, ℕ, Err}
use Rattle.std.proofs.lemmas.List.{length-take-le}
use Rattle.relay_tasks.specs.declared.context.Context.TheVariants.{HeadTooLong}
use Rattle.relay_tasks.specs.declared.error.Error.{Error}
use Rattle.relay_tasks.specs.declared.error.ErrorSource.TheVariants.{Downstream}
use Rattle.relay_h1.specs.Head.{IsOneHead}
use Rattle.relay_h1.specs.Verdict as verdict
use Rattle.relay_h1.proofs.HeadEndLemmas.{head_end-within, head_end-take}
use Rattle.relay_h1.proofs.JudgeLemmas.{judges_request, judges_no_request}
use Rattle.relay_h1.proofs.verdict.judge_request.Goals as goal

pub slice_bounds-admit_request-end : goal.slice_bounds-admit_request-end
slice_bounds-admit_request-end c =
    let bytes = c.args.ahead.now in
    let len = c.in-Ok-Some.len in
    let place = rw c.in-Ok-Some.field-0-is at c.in-Ok-Some.ensures.place in
    let same : c.bytes.result.now ≡ bytes = c.bytes.ensures ∙ c.locate_head.ensures.same in
    rw same (sym (length-take-le len bytes (head_end-within bytes len place.0).1))

pub admit_request-requires-clause-ends : goal.admit_request-requires-clause-ends
admit_request-requires-clause-ends c =
    let bytes = c.args.ahead.now in
    let len = c.in-Ok-Some.len in
    let place = rw c.in-Ok-Some.field-0-is at c.in-Ok-Some.ensures.place in
    let same : c.bytes.result.now ≡ bytes = c.bytes.ensures ∙ c.locate_head.ensures.same in
    subst (λ (b : List ℕ). IsOneHead (take len b)) (sym same) (head_end-take bytes len place.0)

pub returns-in-Ok-clause-verdict : goal.returns-in-Ok-clause-verdict
returns-in-Ok-clause-verdict c =
    let place = rw c.in-Ok-Some.field-0-is at c.in-Ok-Some.ensures.place in
    let same : c.bytes.result.now ≡ c.args.ahead.now =
    c.bytes.ensures ∙ c.locate_head.ensures.same in
    judges_request c.args.ahead.now c.in-Ok-Some.len c.in-Ok.read place.0
    (rw same at c.in-Ok.ensures)

pub returns-in-Err-admit_request-clause-verdict : goal.returns-in-Err-admit_request-clause-verdict
returns-in-Err-admit_request-clause-verdict c =
    let place = rw c.in-Ok-Some.field-0-is at c.in-Ok-Some.ensures.place in
    let same : c.bytes.result.now ≡ c.args.ahead.now =
    c.bytes.ensures ∙ c.locate_head.ensures.same in
    rw c.fail_from.ensures
    (judges_no_request c.args.ahead.now c.in-Ok-Some.len c.in-Err-admit_request.fail place.0 place.1
    (subst
    (λ (b : List ℕ). verdict.AdmitsRequest (take c.in-Ok-Some.len b)
    (Err c.in-Err-admit_request.fail)) same
    c.in-Err-admit_request.ensures))

pub returns-in-Err-clause-verdict : goal.returns-in-Err-clause-verdict
returns-in-Err-clause-verdict c =
    let place = c.in-Err.ensures.place in (
      HeadTooLong,
      c.into_down.ensures ∙ ap {A = Error} (λ e. record e { esource = Downstream }) place.0,
      verdict.IsRefusedRequest.is_too_long place.1 refl,
    )
