use Rattle.std.proofs.Common.{◌≡◌, sym, ap, ◌∙◌, None, slice_range}
use Rattle.relay_h1.specs.HeadEnd.{head_end}
use Rattle.relay_h1.proofs.AheadLemmas.{IsAhead-searched}
use Rattle.relay_h1.proofs.ahead.Ahead.head_end.Goals as goal

pub invariant_of-self : goal.invariant_of-self
invariant_of-self c =
    let a = c.self.inside in
    let none : head_end (slice_range a.buffer.items a.start a.end) ≡ None =
    ap head_end (c.self.view_is ∙ sym c.bytes.ensures) ∙ sym c.in-None.ensures in
    rw c.saturating_sub-self-inside.ensures
    (IsAhead-searched a.buffer.items a.start a.end a.searched c.self.invariant none)
