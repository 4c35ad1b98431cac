-- A piece is kept behind those before it, or it is lost.
use Rattle.std.proofs.Common.{◌||◌, false, true, List, [], ◌∷◌, ◌++◌, refl, sym, ap, ◌∙◌}
use Rattle.relay_tasks.specs.declared.task.HttpTask.{HttpTask}
use Rattle.relay_core.proofs.BoolLemmas.{clash, or_left, or-true}
use Rattle.relay_exchange_tests.proofs.tests.duplexes.upstream.UpstreamUp.take_piece.Goals as goal

-- the piece is refused
pub returns-in-Some-clause-goes : goal.returns-in-Some-clause-goes
returns-in-Some-clause-goes c = λ s q holds. record {
  past = record { got = q.got; sent = q.sent; read = q.read; taken = _; lost = _ };
  stands = λ unlost. clash (q.lost || true) (or-true q.lost) unlost;
  is_read = refl;
  is_taken = refl;
  is_lost = refl;
  keeps = λ e blamed. blamed;
  blamed = λ e is. c.in-Some.is ∙ is;
}

-- the piece is kept
pub returns-then-push-clause-goes : goal.returns-then-push-clause-goes
returns-then-push-clause-goes c = λ s q holds. record {
  past = record { got = q.got; sent = q.sent; read = q.read; taken = _; lost = _ };
  stands = λ unlost.
      ap (λ (xs : List HttpTask). xs ++ c.args.task ∷ []) (holds (or_left q.lost false unlost))
      ∙ sym (c.push.ensures.pushed c.if-push.true);
  is_read = refl;
  is_taken = refl;
  is_lost = refl;
  keeps = λ e blamed. blamed;
  blamed = λ e none. cc;
}

-- there is no memory for it
pub returns-clause-goes : goal.returns-clause-goes
returns-clause-goes c = λ s q holds. record {
  past = record { got = q.got; sent = q.sent; read = q.read; taken = _; lost = _ };
  stands = λ unlost. clash (q.lost || true) (or-true q.lost) unlost;
  is_read = refl;
  is_taken = refl;
  is_lost = refl;
  keeps = λ e blamed. blamed;
  blamed = λ e none. cc;
}
