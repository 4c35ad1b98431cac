-- The task that was read stands behind those read before.
use Rattle.std.proofs.Common.{refl}
use Rattle.relay_exchange_tests.proofs.tests.duplexes.upstream.UpstreamUp.read_task.Goals as goal

-- a piece is given
pub returns-in-Some-clause-goes : goal.returns-in-Some-clause-goes
returns-in-Some-clause-goes c = λ s q holds. record {
  past = record { got = q.got; sent = q.sent; read = _; taken = q.taken; lost = q.lost };
  stands = holds;
  is_read = refl;
  is_taken = refl;
  is_lost = refl;
  keeps = λ e blamed. blamed;
  blamed = λ e none. cc;
}

-- the end is given
pub returns-in-None-clause-goes : goal.returns-in-None-clause-goes
returns-in-None-clause-goes c = λ s q holds. record {
  past = record { got = q.got; sent = q.sent; read = _; taken = q.taken; lost = q.lost };
  stands = holds;
  is_read = refl;
  is_taken = refl;
  is_lost = refl;
  keeps = λ e blamed. blamed;
  blamed = λ e none. cc;
}
