-- What was kept of a body passes its filter, or puts nothing, and none is called.
use Rattle.std.proofs.Common.{◌≡◌, List, false, true, Result, refl, sym, ap, subst, ◌∙◌}
use Rattle.std.specs.List.{list_any}
use Rattle.relay_tasks.specs.declared.error.Fail.{Fail}
use Rattle.relay_tasks.specs.declared.log.LogEntry.{LogEntry}
use Rattle.relay_tasks.specs.Task.{is_end}
use Rattle.relay_core.specs.Past.{DownPast}
use Rattle.relay_core.specs.Piece.{put_of}
use Rattle.relay_core.specs.declared.piece.Piece.{Piece}
use Rattle.relay_sides.specs.Client.{begun_past, put_again}
use Rattle.relay_sides.specs.declared.client_side.ClientSide.{ClientSide}
use Rattle.relay_filters.specs.Hooked.{put_by}
use Rattle.relay_filters.specs.Request.{is_last}
use Rattle.relay_hooked.specs.Exchange.{SideHolds}
use Rattle.relay_hooked.proofs.BeginLemmas.{by_request, calls_by, calls_none, cannot_by, last_is_end, puts_none}
use Rattle.relay_hooked.proofs.exchange.put_first.Goals as goal

-- nothing is put again, and all is as it was
pub returns-then-not-puts-clause-begins : goal.returns-then-not-puts-clause-begins
returns-then-not-puts-clause-begins g c = λ front s came called behind.
    let side = c.begin-down.result in
    let log = c.phase_log.ensures in
    subst (λ (l : List LogEntry).
    SideHolds (g.F.Front.state front) (g.F.Front.ahead front) l s side
    (begun_past came (put_of false c.in-Ok.kept))) log
    (subst (λ (p : DownPast).
    SideHolds (g.F.Front.state front) (g.F.Front.ahead front) c.phase_log.result.now s side p)
    (ap (λ (k : Piece). begun_past came (put_of false k)) (sym c.in-Ok.ensures.ok))
    (c.begin-down.ensures.begins front s (begun_past came (put_again c.args.client))
    (rw c.new-inner.ensures.session behind.has_head)
    (ap (λ (k : Piece). put_of false k) (sym c.in-Ok.ensures.ok)
    ∙ puts_none c.in-Ok.kept (sym c.puts.ensures ∙ c.if-not-puts.true))
    refl
    (by_request c.args.client.writing.request c.answers_head-of_head.result behind.head s.head
    c.answers_head-of_head.ensures behind.answers behind.own)
    (c.new-inner.ensures.begins s came (g.F.Front.state front) (g.F.Front.ahead front) behind)
    (called ∙ sym log)))

pub returns-then-not-puts-clause-calls : goal.returns-then-not-puts-clause-calls
returns-then-not-puts-clause-calls g c =
    calls_none c.args.session.now c.args.ctx.now c.args.client _ _ c.args.session.now
    c.args.ctx.now c.begin-down.result.inner.session
    (ap (λ (k : Piece). put_of false k) (sym c.in-Ok.ensures.ok)
    ∙ puts_none c.in-Ok.kept (sym c.puts.ensures ∙ c.if-not-puts.true)) refl refl
    (ap (λ (i : ClientSide). i.session) c.begin-down.ensures.inner ∙ c.new-inner.ensures.session)

-- what was kept passed its filter
pub returns-in-Ok-passed-clause-begins : goal.returns-in-Ok-passed-clause-begins
returns-in-Ok-passed-clause-begins g c = λ front s came called behind.
    subst (λ (p : DownPast).
    SideHolds (g.F.Front.state front) (g.F.Front.ahead front)
    c.begin_again-down.new.session.seen.log s c.begin_again-down.result.0 p)
    (ap (λ (r : Result Piece Fail). begun_past came (put_by r)) c.in-Ok-passed.is)
    (c.begin_again-down.ensures.begins front s (begun_past came (put_again c.args.client))
    (ap (λ (k : Piece). put_of false k) (sym c.in-Ok.ensures.ok))
    (sym c.puts.ensures ∙ c.if-not-puts.false) refl
    (subst (λ (k : Piece).
    is_last k ≡ true → list_any is_end (put_of false k) ≡ true) (sym c.in-Ok.ensures.ok)
    (last_is_end c.args.client))
    (by_request c.args.client.writing.request c.answers_head-of_head.result behind.head s.head
    c.answers_head-of_head.ensures behind.answers behind.own)
    (c.new-inner.ensures.begins s came (g.F.Front.state front) (g.F.Front.ahead front) behind)
    called)

pub returns-in-Ok-passed-clause-calls : goal.returns-in-Ok-passed-clause-calls
returns-in-Ok-passed-clause-calls g c =
    calls_by c.args.session.now c.args.ctx.now c.args.client _ _ c.begin_again-down.new.session
    c.begin_again-down.new.ctx c.begin_again-down.result.0.inner.session c.in-Ok.kept
    c.in-Ok.ensures.ok (sym c.puts.ensures ∙ c.if-not-puts.false) c.new-inner.result.session
    c.new-inner.ensures.session c.begin_again-down.result.1 c.begin_again-down.ensures.filters _
    c.in-Ok-passed.is

-- it was refused, or memory was wanted
pub returns-in-Err-passed-clause-causes : goal.returns-in-Err-passed-clause-causes
returns-in-Err-passed-clause-causes g c =
    rw (c.into_session-client.ensures, c.into_inner.ensures)
    (cannot_by c.args.session.now c.args.ctx.now c.args.client _ _ c.begin_again-down.new.session
    c.begin_again-down.new.ctx c.begin_again-down.result.0.inner.session c.in-Ok.kept
    c.in-Ok.ensures.ok (sym c.puts.ensures ∙ c.if-not-puts.false) c.new-inner.result.session
    c.new-inner.ensures.session c.begin_again-down.result.1 c.begin_again-down.ensures.filters _
    c.in-Err-passed.is)
