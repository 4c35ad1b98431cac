-- What was read before passed the filters of requests, or it was refused.
use Rattle.std.proofs.Common.{◌≡◌, Bool, ◌||◌, is_some, IsSome, Some, None, ap, subst, sym, ◌∙◌}
use Rattle.relay_session.specs.Reading.{head_of, is_body_done}
use Rattle.relay_core.specs.Down.{DownState}
use Rattle.relay_core.specs.Told.{failed}
use Rattle.relay_core.specs.declared.piece.Piece.{Piece}
use Rattle.relay_core.specs.declared.told.Told.{Told}
use Rattle.relay_sides.specs.declared.client_side.ClientSide.{ClientSide}
use Rattle.relay_filters.specs.Hooked.{PastBy}
use Rattle.relay_filters.specs.Request.{takes_away}
use Rattle.relay_filters.specs.declared.rested.Rested.{Rested}
use Rattle.relay_filters.proofs.AgainLemmas.{again_calls, again_reads, again_refused, again_stops}
use Rattle.relay_filters.proofs.QuietLemmas.{quiet_begins, quiet_by, quiet_stops, told_lent}
use Rattle.relay_filters.proofs.StateLemmas.{lent_shows}
use Rattle.relay_filters.proofs.rested.Rested.begin_again.Goals as goal

-- it passed
pub returns-in-Ok-clause-begins : goal.returns-in-Ok-clause-begins
returns-in-Ok-clause-begins g c =
    let over : c.new-side.result.inner ≡ c.args.inner =
    ap (λ (x : Rested). x.inner) c.new-side.ensures in
    let head = subst (λ (x : ClientSide). IsSome (head_of x.session.reading)) (sym over)
    c.requires in
    rw c.new-side.ensures
    (λ client s p is_put puts none ends own h stood.
    let holds = subst (λ (x : ClientSide). PastBy s (g.F.Front.state client)
    (g.F.Front.ahead client) x x.session p) (sym over) h in
    record {
      passed = again_reads s _ _ c.new-side.result.inner c.pass_piece.new.inner _
          s.head.method _ c.args.session.now.seen _ c.args.of_head _ p c.args.first
          c.pass_piece.new.session.seen _ stood head is_put puts none ends own
          c.in-Ok.ensures.rest holds c.in-Ok.made c.in-Ok.ensures.filters;
      quiet = quiet_by None c.args.inner.told c.told-told.result c.args.inner.told
          c.pass_piece.new.inner.told c.told-told.ensures
          (told_lent c.new-side.result.inner c.pass_piece.new.inner c.in-Ok.ensures.rest
          ∙ ap (λ (x : ClientSide). x.told) over) (quiet_begins c.args.inner.told);
      calls = again_calls s _ _ c.new-side.result.inner c.pass_piece.new.inner _
          s.head.method _ c.args.session.now.seen _ c.args.of_head _ p c.args.first
          c.pass_piece.new.session.seen _ stood head is_put puts none ends own
          c.in-Ok.ensures.rest holds c.in-Ok.made c.in-Ok.ensures.filters;
    })

-- the client's body has ended where it had
pub returns-in-Ok-clause-body : goal.returns-in-Ok-clause-body
returns-in-Ok-clause-body g c =
    let over : c.new-side.result.inner ≡ c.args.inner =
    ap (λ (x : Rested). x.inner) c.new-side.ensures in
    ap (λ (x : DownState). x.body_done)
    (lent_shows c.new-side.result.inner c.pass_piece.new.inner c.in-Ok.ensures.rest
    (subst (λ (x : ClientSide). IsSome (head_of x.session.reading)) (sym over) c.requires)
    c.in-Ok.ensures.filters.came.adds.client)
    ∙ ap (λ (x : ClientSide). is_body_done x.session.reading) over

-- the end of what was read is that of what passes
pub returns-in-Ok-clause-end : goal.returns-in-Ok-clause-end
returns-in-Ok-clause-end g c = λ last.
    ap (λ (x : Piece). x.upstream_end) c.in-Ok.ensures.filters.is_made
    ∙ ap (λ (b : Bool). b || takes_away (is_some c.args.first.bytes) c.in-Ok.ensures.filters.left)
    last

-- it was refused, or memory was wanted
pub returns-in-Err-clause-begins : goal.returns-in-Err-clause-begins
returns-in-Err-clause-begins g c =
    let over : c.new-side.result.inner ≡ c.args.inner =
    ap (λ (x : Rested). x.inner) c.new-side.ensures in
    let head = subst (λ (x : ClientSide). IsSome (head_of x.session.reading)) (sym over)
    c.requires in
    rw (c.stop.ensures, c.new-side.ensures)
    (λ client s p is_put puts none ends own h stood.
    let holds = subst (λ (x : ClientSide). PastBy s (g.F.Front.state client)
    (g.F.Front.ahead client) x x.session p) (sym over) h in
    record {
      passed = again_stops s _ _ c.new-side.result.inner c.pass_piece.new.inner _
          s.head.method _ c.args.session.now.seen _ c.args.of_head _ p c.args.first
          c.pass_piece.new.session.seen _ stood head is_put puts none ends own
          c.in-Err.ensures.rest holds c.args.inner.told c.in-Err.why c.in-Err.ensures.filters;
      quiet = quiet_by (Some c.in-Err.why) (failed c.in-Err.why c.args.inner.told)
          (failed c.in-Err.why c.told-told.result) c.args.inner.told
          c.pass_piece.new.inner.told
          (ap (λ (t : Told). failed c.in-Err.why t) c.told-told.ensures)
          (told_lent c.new-side.result.inner c.pass_piece.new.inner c.in-Err.ensures.rest
          ∙ ap (λ (x : ClientSide). x.told) over)
          (quiet_stops c.in-Err.why None c.args.inner.told c.args.inner.told
          (quiet_begins c.args.inner.told));
      calls = again_refused s _ _ c.new-side.result.inner c.pass_piece.new.inner _
          s.head.method _ c.args.session.now.seen _ c.args.of_head _ p c.args.first
          c.pass_piece.new.session.seen _ stood head is_put puts none ends own
          c.in-Err.ensures.rest holds c.in-Err.why c.in-Err.ensures.filters;
    })
