-- The end that was asked for is kept behind those before it.
use Rattle.std.proofs.Common.{List, [], ◌∷◌, ◌++◌, refl, sym, ap, ◌∙◌}
use Rattle.relay_tasks.specs.declared.task.HttpTask.{HttpTask}
use Rattle.relay_tasks.specs.declared.task.HttpTask.TheVariants as task
use Rattle.relay_exchange_tests.proofs.tests.duplexes.client.ClientDownUnit.finish.Goals as goal

-- the end is noted
pub returns-clause-goes : goal.returns-clause-goes
returns-clause-goes c = λ client s p holds. record {
  past = record {
    came = p.came;
    written = p.written;
    put = p.put;
    batched = p.batched;
    closing = _;
  };
  stands = (
    holds.0,
    holds.1,
    ap (λ (xs : List HttpTask). xs ++ task.Done ∷ []) holds.2
        ∙ sym (c.if-not-push.ensures.pushed refl),
  );
  is_put = refl;
  is_batched = refl;
  is_closing = refl;
  blamed = λ e none. cc;
}
