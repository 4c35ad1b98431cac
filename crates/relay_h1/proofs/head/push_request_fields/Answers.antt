use Rattle.std.proofs.Common.{◌≡◌, ap, arith, Err, rules}
use Rattle.relay_tasks.specs.declared.error.Fail.TheVariants.{OutOfMemory}
use Rattle.relay_h1.proofs.HeadLemmas.{takes_one_more_kept, memory_alone}
use Rattle.relay_h1.proofs.head.push_request_fields.Goals as goal

-- the list has room for each field
pub returns-in_err-append_header-clause-memory : goal.returns-in_err-append_header-clause-memory
returns-in_err-append_header-clause-memory c =
    let room =
    takes_one_more_kept c.args.bytes.now c.args.spans.now c.loop-span.head.fields
    c.loop-span.span-index
    c.in_ok-name.name c.requires.few (omega arith) (ap (λ h. h.fields) c.loop-span.invariant)
    in
    let memory : c.in_err-append_header.field-0.0 ≡ OutOfMemory =
    memory_alone _ c.in_err-append_header.field-0.0 c.in_err-append_header.ensures.causes
    (λ e. room (c.in_err-append_header.ensures.full.0 (ap Err e)))
    in
    search (rules, memory)
