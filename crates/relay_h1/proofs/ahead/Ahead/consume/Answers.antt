use Rattle.std.proofs.Common.{◌≤◌, length, drop, slice_range, sym, ap, ◌∙◌, arith}
use Rattle.std.proofs.lemmas.List.Edits.{length-between}
use Rattle.bytes.proofs.Ranges.{drop-slice_range}
use Rattle.relay_h1.proofs.AheadLemmas.{IsAhead-consume}
use Rattle.relay_h1.proofs.ahead.Ahead.consume.Goals as goal

pub invariant_of-self : goal.invariant_of-self
invariant_of-self c =
    let a = c.self.inside in
    let some : c.args.n ≤ length (slice_range a.buffer.items a.start a.end) =
    rw c.self.view_is c.requires in
    rw c.saturating_sub-self-inside.ensures
    (IsAhead-consume a.buffer.items a.start a.end a.searched c.args.n c.self.invariant some)

pub returns : goal.returns
returns c =
    let a = c.self.inside in
    let size = length-between a.buffer.items a.start a.end c.self.invariant.within in
    let some : c.args.n ≤ length (slice_range a.buffer.items a.start a.end) =
    rw c.self.view_is c.requires in
    sym (drop-slice_range a.buffer.items a.start a.end c.args.n (omega arith))
    ∙ ap (drop c.args.n) c.self.view_is
