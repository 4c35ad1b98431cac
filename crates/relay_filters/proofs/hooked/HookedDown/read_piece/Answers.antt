-- A piece was filtered or refused, by hooks that were lent the client's session; any other answer
-- of the inner side calls no filter.
use Rattle.std.proofs.Common.{IsSome, append-nil, ap, inr, refl, subst, sym}
use Rattle.relay_core.specs.Down.{DownState}
use Rattle.relay_core.specs.Told.{failed}
use Rattle.relay_session.specs.Reading.{head_of}
use Rattle.relay_session.specs.declared.session.HttpSession.{HttpSession}
use Rattle.relay_filters.specs.Hooked.{is_lost, seen_by}
use Rattle.relay_filters.proofs.LastLemmas.{same_names}
use Rattle.relay_filters.proofs.LentSide.{client_goes, lent_reads, lent_stops, not_lost, past_of}
use Rattle.relay_filters.proofs.QuietLemmas.{past_goes, quiet_alone, quiet_by, quiet_failed, quiet_paused, quiet_stops, stopped_before, told_given}
use Rattle.relay_filters.proofs.SegmentLemmas.{segments_piece, segments_refused}
use Rattle.relay_filters.proofs.StateLemmas.{ended_behind, gives_piece}
use Rattle.relay_filters.proofs.WalkLemmas.{lasts_piece, lasts_refused, lasts_same, lasts_side, led_came, led_none, led_refused}
use Rattle.relay_filters.proofs.hooked.HookedDown.read_piece.Goals as goal

-- a side that has stopped answers why
pub returns-in-Some-clause-goes : goal.returns-in-Some-clause-goes
returns-in-Some-clause-goes g c = λ s p h. record {
  past = p;
  stands = record {
    passed = h.passed;
    quiet = quiet_by _ _ c.failed-self.result _ _ c.failed-self.ensures refl
        (quiet_alone c.in-Some.why c.args.self.now.side.now.stopped c.args.self.now.side.now.told
        c.args.self.now.side.now.inner.told h.quiet);
    calls = h.calls;
  };
  is_put = sym (append-nil p.put);
  is_batched = refl;
  is_closing = refl;
  blamed = λ e told. inr (inr (stopped_before c.in-Some.why c.args.self.now.side.now.stopped
      c.args.self.now.side.now.told c.failed-self.result c.args.self.now.side.now.inner.told e
      c.failed-self.ensures h.quiet c.in-Some.is told));
}

-- the piece passed its filter
pub returns-in-Ok-clause-goes : goal.returns-in-Ok-clause-goes
returns-in-Ok-clause-goes g c =
    rw (c.either-self.ensures)
    (λ s p h.
    past_goes
    (quiet_by _ _ c.args.self.now.side.now.told c.args.self.now.side.now.inner.told
    c.pass_piece.new.inner.told refl
    (told_given c.args.self.now.side.now.inner c.read_piece.new.self c.pass_piece.new.inner
    c.in-Item.piece c.in-Item.ensures.reads c.in-Ok.ensures.rest)
    h.quiet)
    (segments_piece s.called h.passed.own c.args.self.now.session.now.seen.log h.passed.parts _ _
    c.in-None.is h.calls
    (seen_by c.pass_piece.new.session.seen c.pass_piece.new.inner.session) _
    (seen_by c.args.self.now.session.now.seen c.read_piece.new.self.session) _ _ _ _ c.in-Item.piece
    c.in-Ok.made refl c.in-Ok.ensures.filters)
    (lent_reads s _ _ _ _ c.args.self.now.side.now.inner c.read_piece.new.self c.pass_piece.new.inner _
    _ _ c.args.self.now.session.now.seen _ s.called _ _ _ _ _ _ c.args.self.now.side.now.stopped p
    c.in-Item.piece
    c.pass_piece.new.session.seen _ c.in-None.is h.passed
    c.in-Item.ensures.lasts.head c.in-Ok.ensures.rest c.in-Item.ensures.reads
    (c.in-Item.ensures.puts s _ (past_of _ _ _ _ (not_lost _ c.in-None.is) h.passed.holds)
    c.in-Item.piece refl)
    (ended_behind c.args.self.now.side.now.inner c.read_piece.new.self c.in-Item.piece
    c.in-Item.ensures.reads)
    (c.in-Item.ensures.goes s _ (past_of _ _ _ _ (not_lost _ c.in-None.is) h.passed.holds))
    _ c.in-Ok.made c.in-Ok.ensures.filters))

pub returns-in-Ok-clause-reads : goal.returns-in-Ok-clause-reads
returns-in-Ok-clause-reads g c =
    rw (c.either-self.ensures)
    (gives_piece _ _ c.args.self.now.side.now.inner c.read_piece.new.self c.pass_piece.new.inner
    c.args.self.now.session.now.seen _ c.pass_piece.new.session.seen _ _ _
    c.args.self.now.side.now.stopped _ c.args.self.now.session.now.seen.log c.in-Item.piece
    c.in-Ok.made
    c.in-None.is c.in-Ok.ensures.rest
    (rw c.in-Item.ensures.lasts.head
    (subst (λ (x : HttpSession). IsSome (head_of x.reading)) c.session.ensures
    (c.has_head.ensures.0 c.if-not-has_head.false))) c.in-Item.ensures.reads
    c.in-Ok.ensures.filters c.in-Ok.ensures.called)

-- the filter refused it, or memory was wanted
pub returns-in-Err-clause-goes : goal.returns-in-Err-clause-goes
returns-in-Err-clause-goes g c =
    rw c.stop.ensures
    (λ s p h.
    past_goes
    (quiet_by _ _ (failed c.in-Err.why c.args.self.now.side.now.told) c.args.self.now.side.now.inner.told
    c.pass_piece.new.inner.told refl
    (told_given c.args.self.now.side.now.inner c.read_piece.new.self c.pass_piece.new.inner
    c.in-Item.piece c.in-Item.ensures.reads c.in-Err.ensures.rest)
    (quiet_stops c.in-Err.why c.args.self.now.side.now.stopped c.args.self.now.side.now.told
    c.args.self.now.side.now.inner.told h.quiet))
    (segments_refused s.called h.passed.own c.args.self.now.session.now.seen.log h.passed.parts _ _
    c.in-None.is h.calls
    (seen_by c.pass_piece.new.session.seen c.pass_piece.new.inner.session) _
    (seen_by c.args.self.now.session.now.seen c.read_piece.new.self.session) _ _ _
    c.args.self.now.side.now.ended c.in-Item.piece c.in-Err.why refl c.in-Err.ensures.filters)
    (lent_stops s _ _ _ _ c.args.self.now.side.now.inner c.read_piece.new.self c.pass_piece.new.inner _
    _ _ c.args.self.now.session.now.seen _ s.called _ _ _ _ _ _ c.args.self.now.side.now.stopped p
    c.in-Item.piece
    c.pass_piece.new.session.seen _ c.in-None.is h.passed
    c.in-Item.ensures.lasts.head c.in-Err.ensures.rest c.in-Item.ensures.reads
    (c.in-Item.ensures.puts s _ (past_of _ _ _ _ (not_lost _ c.in-None.is) h.passed.holds)
    c.in-Item.piece refl)
    (ended_behind c.args.self.now.side.now.inner c.read_piece.new.self c.in-Item.piece
    c.in-Item.ensures.reads)
    (c.in-Item.ensures.goes s _ (past_of _ _ _ _ (not_lost _ c.in-None.is) h.passed.holds))
    (failed c.in-Err.why c.args.self.now.side.now.told) c.in-Err.why c.in-Err.ensures.filters))

-- the link gave bytes
pub returns-in-More-clause-goes : goal.returns-in-More-clause-goes
returns-in-More-clause-goes g c = λ s p h.
    past_goes
    (quiet_by _ _ c.args.self.now.side.now.told _
    c.read_piece.new.self.told refl
    (ap (λ (x : DownState). x.told) c.in-More.ensures.reads)
    h.quiet) h.calls
    (client_goes s _ _ _ _ c.args.self.now.side.now.inner c.read_piece.new.self _ _ _ _ _ _ _ _ _ _
    c.args.self.now.side.now.stopped p _ _ _ p.batched _ _ h.passed
    (not_lost _ c.in-None.is) c.in-More.ensures.lasts.head (append-nil h.passed.came)
    (append-nil p.put) refl refl
    (c.in-More.ensures.goes s _ (past_of _ _ _ _ (not_lost _ c.in-None.is) h.passed.holds)))

pub returns-in-More-clause-gives : goal.returns-in-More-clause-gives
returns-in-More-clause-gives g c = λ s p h is.
    c.in-More.ensures.gives s _ (past_of _ _ _ _ (not_lost _ c.in-None.is) h.passed.holds) is

-- the inner side has to wait
pub returns-in-Waited-clause-goes : goal.returns-in-Waited-clause-goes
returns-in-Waited-clause-goes g c = λ s p h.
    past_goes
    (quiet_by _ _ c.paused-self.result _
    c.read_piece.new.self.told c.paused-self.ensures
    (ap (λ (x : DownState). x.told) c.in-Waited.ensures.reads)
    (quiet_paused c.in-Waited.pause c.args.self.now.side.now.stopped
    c.args.self.now.side.now.told c.args.self.now.side.now.inner.told h.quiet)) h.calls
    (client_goes s _ _ _ _ c.args.self.now.side.now.inner c.read_piece.new.self _ _ _ _ _ _ _ _ _ _
    c.args.self.now.side.now.stopped p _ _ _ p.batched _ _ h.passed
    (not_lost _ c.in-None.is) c.in-Waited.ensures.lasts.head (append-nil h.passed.came)
    (append-nil p.put) refl refl
    (c.in-Waited.ensures.goes s _ (past_of _ _ _ _ (not_lost _ c.in-None.is) h.passed.holds)))

-- the inner side failed
pub returns-in-Failed-clause-goes : goal.returns-in-Failed-clause-goes
returns-in-Failed-clause-goes g c = λ s p h.
    past_goes
    (quiet_by _ _ c.failed-self-in-Failed.result _
    c.read_piece.new.self.told c.failed-self-in-Failed.ensures
    (ap (λ (x : DownState). x.told) c.in-Failed.ensures.reads)
    (quiet_failed c.in-Failed.why c.args.self.now.side.now.stopped
    c.args.self.now.side.now.told c.args.self.now.side.now.inner.told h.quiet)) h.calls
    (client_goes s _ _ _ _ c.args.self.now.side.now.inner c.read_piece.new.self _ _ _ _ _ _ _ _ _ _
    c.args.self.now.side.now.stopped p _ _ _ p.batched _ _ h.passed
    (not_lost _ c.in-None.is) c.in-Failed.ensures.lasts.head (append-nil h.passed.came)
    (append-nil p.put) refl refl
    (c.in-Failed.ensures.goes s _ (past_of _ _ _ _ (not_lost _ c.in-None.is) h.passed.holds)))

-- ---- what lasts

pub returns-in-Some-clause-lasts : goal.returns-in-Some-clause-lasts
returns-in-Some-clause-lasts g c = (
  lasts_same _ _ _ _ (is_lost c.args.self.now.side.now.stopped) c.args.self.now.session.now.seen
      c.args.self.now.side.now.inner.session _,
  (
    same_names _ _ _,
    led_none _ _ _ refl,
  ),
)

pub returns-then-not-has_head-clause-lasts : goal.returns-then-not-has_head-clause-lasts
returns-then-not-has_head-clause-lasts g c = (
  lasts_same _ _ _ _ (is_lost c.args.self.now.side.now.stopped) c.args.self.now.session.now.seen
      c.args.self.now.side.now.inner.session _,
  (
    same_names _ _ _,
    led_none _ _ _ refl,
  ),
)

pub returns-in-Ok-clause-lasts : goal.returns-in-Ok-clause-lasts
returns-in-Ok-clause-lasts g c = (
  lasts_piece _ _ _ _ c.args.self.now.side.now.stopped c.args.self.now.session.now.seen
      c.args.self.now.side.now.inner.session c.read_piece.new.self.session
      c.pass_piece.new.inner.session _ _ _ c.in-Item.piece c.in-Ok.made
      c.pass_piece.new.session.seen _ c.in-None.is
      (subst (λ (x : HttpSession). IsSome (head_of x.reading)) c.session.ensures
      (c.has_head.ensures.0 c.if-not-has_head.false))
      c.in-Item.ensures.lasts c.in-Ok.ensures.filters,
  (
    same_names _ _ _,
    led_came _ _ _ _ _ _ c.args.self.now.session.now.seen c.read_piece.new.self.session _
        c.pass_piece.new.session.seen c.pass_piece.new.inner.session _
        c.in-Ok.ensures.filters.came,
  ),
)

pub returns-in-Err-clause-lasts : goal.returns-in-Err-clause-lasts
returns-in-Err-clause-lasts g c =
    rw c.stop.ensures (
      lasts_refused _ _ _ _ c.args.self.now.side.now.stopped c.in-Err.why
          c.args.self.now.session.now.seen c.args.self.now.side.now.inner.session
          c.read_piece.new.self.session c.pass_piece.new.inner.session _ _
          c.args.self.now.side.now.ended c.in-Item.piece c.pass_piece.new.session.seen _ c.in-None.is
          (subst (λ (x : HttpSession). IsSome (head_of x.reading)) c.session.ensures
          (c.has_head.ensures.0 c.if-not-has_head.false))
          c.in-Item.ensures.lasts c.in-Err.ensures.filters,
      (
        same_names _ _ _,
        led_refused _ _ c.args.self.now.side.now.ended c.in-Item.piece c.in-Err.why
            c.args.self.now.session.now.seen c.read_piece.new.self.session _
            c.pass_piece.new.session.seen c.pass_piece.new.inner.session _
            c.in-Err.ensures.filters,
      ),
    )

pub returns-in-More-clause-lasts : goal.returns-in-More-clause-lasts
returns-in-More-clause-lasts g c = (
  lasts_side _ _ _ _ (is_lost c.args.self.now.side.now.stopped) c.args.self.now.session.now.seen
      c.args.self.now.side.now.inner.session c.read_piece.new.self.session _ c.in-More.ensures.lasts,
  (
    same_names _ _ _,
    led_none _ _ _ refl,
  ),
)

pub returns-in-Waited-clause-lasts : goal.returns-in-Waited-clause-lasts
returns-in-Waited-clause-lasts g c = (
  lasts_side _ _ _ _ (is_lost c.args.self.now.side.now.stopped) c.args.self.now.session.now.seen
      c.args.self.now.side.now.inner.session c.read_piece.new.self.session _ c.in-Waited.ensures.lasts,
  (
    same_names _ _ _,
    led_none _ _ _ refl,
  ),
)

pub returns-in-End-clause-lasts : goal.returns-in-End-clause-lasts
returns-in-End-clause-lasts g c = (
  lasts_side _ _ _ _ (is_lost c.args.self.now.side.now.stopped) c.args.self.now.session.now.seen
      c.args.self.now.side.now.inner.session c.read_piece.new.self.session _ c.in-End.ensures.lasts,
  (
    same_names _ _ _,
    led_none _ _ _ refl,
  ),
)

pub returns-in-Failed-clause-lasts : goal.returns-in-Failed-clause-lasts
returns-in-Failed-clause-lasts g c = (
  lasts_side _ _ _ _ (is_lost c.args.self.now.side.now.stopped) c.args.self.now.session.now.seen
      c.args.self.now.side.now.inner.session c.read_piece.new.self.session _ c.in-Failed.ensures.lasts,
  (
    same_names _ _ _,
    led_none _ _ _ refl,
  ),
)
