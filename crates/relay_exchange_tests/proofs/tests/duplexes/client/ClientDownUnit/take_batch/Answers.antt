-- The batch is kept behind those before it.
use Rattle.std.proofs.Common.{List, ◌++◌, refl, sym, ap, ◌∙◌}
use Rattle.relay_tasks.specs.declared.task.HttpTask.{HttpTask}
use Rattle.relay_exchange_tests.proofs.tests.duplexes.client.ClientDownUnit.take_batch.Goals as goal

-- the batch is kept
pub returns-then-keep-clause-goes : goal.returns-then-keep-clause-goes
returns-then-keep-clause-goes c = λ client s p holds. record {
  past = record {
    came = p.came;
    written = p.written;
    put = p.put;
    batched = _;
    closing = p.closing;
  };
  stands = (
    holds.0,
    ap (λ (xs : List HttpTask). xs ++ c.args.tasks) holds.1
        ∙ sym (c.keep.ensures.kept c.if-keep.true),
    holds.2,
  );
  is_put = refl;
  is_batched = refl;
  is_closing = refl;
  blamed = λ e none. cc;
}
