-- The buffer was lengthened, which changes none of the bytes ahead, and then read into behind them.
use Rattle.std.proofs.Common.{◌≤◌, slice_range, refl, ◌∙◌, rules, vec_len}
use Rattle.std.proofs.lemmas.List.{places}
use Rattle.relay_h1.proofs.AheadLemmas.{IsAhead-grow, ReadsMore-ahead, take_lengthened}
use Rattle.relay_h1.proofs.ahead.Ahead.read_from.Goals as goal

pub invariant_of-self-2 : goal.invariant_of-self-2
invariant_of-self-2 g c =
    let a = c.self.inside in
    let size : a.end ≤ vec_len a.buffer = search (rules, places) in
    let front =
    take_lengthened a.buffer.items c.grow_to.new.buffer.items a.end _ size
    c.in_ok-grow_to.ensures.front in
    let more = rw front at c.read_behind-got.ensures.answer in
    let grown = c.read_behind-got.new.buffer.items in
    let ahead =
    ReadsMore-ahead _ _ a.buffer.items grown (slice_range a.buffer.items a.start a.end) a.start
    a.end
    c.read_behind-got.result c.self.invariant.ordered c.self.invariant.within refl more
    in
    rw c.given.ensures
    (IsAhead-grow _ _ a.buffer.items grown a.start a.end a.searched c.read_behind-got.result
    c.self.invariant
    (search (rules, places)) ahead)

pub returns-clause-ok : goal.returns-clause-ok
returns-clause-ok g c =
    let a = c.self.inside in
    let size : a.end ≤ vec_len a.buffer = search (rules, places) in
    let front =
    take_lengthened a.buffer.items c.grow_to.new.buffer.items a.end _ size
    c.in_ok-grow_to.ensures.front in
    let more = rw front at c.read_behind-got.ensures.answer in
    rw c.given.ensures
    (ReadsMore-ahead _ _ a.buffer.items c.read_behind-got.new.buffer.items c.args.self.now a.start
    a.end
    c.read_behind-got.result c.self.invariant.ordered c.self.invariant.within
    (c.self.view_is ∙ c.move_to_front.ensures) more)
