use Rattle.std.proofs.Common.{◌≡◌, ℕ, ◌+◌, ◌-◌, ◌≤◌, ◌++◌, length, take, ap, ◌∙◌, rules}
use Rattle.std.proofs.lemmas.List.{with_items_is, length-take-le, places}
use borrow.Rule.Slice.PartMut.{put_mid, post_of}
use Rattle.relay_h1.proofs.AheadLemmas.{ReadsMore-room, take-behind}
use Rattle.relay_h1.proofs.ahead.read_behind.Goals as goal

pub returns-clause-answer : goal.returns-clause-answer
returns-clause-answer g c =
    let end = c.args.end in
    let all = c.as_mut_slice.result.now in
    let room = c.ask.new.room in
    let after = put_mid end (end + 16384 - end) all room in
    let buffer = c.args.buffer.now in
    let size : length room ≡ 16384 = search (rules, places) in
    let front : length (take end all) ≡ end = length-take-le end all (search (rules, places)) in
    let behind : (n : ℕ) → n ≤ length room → take (end + n) after ≡ take end buffer.items ++ take n
    room =
    λ n fits.
    take-behind (take end all) room (post_of end (end + 16384 - end) all) end n front fits
    ∙ ap (λ x. take end x ++ take n room) c.as_mut_slice.ensures.value
    in
    rw (with_items_is buffer after (search (rules, places)))
    (ReadsMore-room _ _ (take end buffer.items) room after end c.ask.result size c.ask.ensures.answer
    behind)
