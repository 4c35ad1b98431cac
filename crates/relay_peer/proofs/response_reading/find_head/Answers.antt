-- The verdict on the bytes ahead, as a step of the response.
use Rattle.std.proofs.Common.{ℕ, List, refl, sym, subst}
use Rattle.relay_peer.specs.declared.response_reading.Found.TheVariants as found
use Rattle.relay_peer.specs.ResponseReading.{Finds}
use Rattle.relay_h1.proofs.HeadEndLemmas.{head_end-within}
use Rattle.relay_peer.proofs.ResponseLemmas.{awaiting, head_told, head_refused}
use Rattle.relay_peer.proofs.response_reading.find_head.Goals as goal

pub consume-requires : goal.consume-requires
consume-requires c =
    let verdict = rw c.in-Ok-Some.field-0-is at c.in-Ok-Some.ensures.verdict in
    rw c.judge_response.ensures.same (head_end-within _ _ verdict.starts.ends).1

pub returns-in-Ok-Some-clause-finds : goal.returns-in-Ok-Some-clause-finds
returns-in-Ok-Some-clause-finds c = λ closed given told read.
    let verdict = rw c.in-Ok-Some.field-0-is at c.in-Ok-Some.ensures.verdict in
    let at =
    awaiting c.args.method.now c.args.upgrade closed given told c.args.place c.args.ahead.now
    c.requires read in
    rw (c.step_over.ensures, c.consume.ensures, c.judge_response.ensures.same) (
      at.no_final,
      refl,
      head_told c.args.method.now c.args.upgrade closed given told c.args.ahead.now
          c.in-Ok-Some.read.head
          c.in-Ok-Some.read.framing c.in-Ok-Some.read.len at verdict,
    )

pub returns-in-Err-clause-finds : goal.returns-in-Err-clause-finds
returns-in-Err-clause-finds c = λ closed given told read.
    subst (λ (xs : List ℕ). Finds c.args.method.now c.args.upgrade closed given told c.args.place
    c.args.place xs
    (found.Failed c.in-Err.fail)) (sym c.judge_response.ensures.same)
    (head_refused c.args.method.now c.args.upgrade closed given told c.args.place c.args.ahead.now
    c.in-Err.fail
    c.requires c.in-Err.ensures.verdict read)
