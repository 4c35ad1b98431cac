-- What is pending is written by the inner side, and the answer is told.
use Rattle.std.proofs.Common.{refl, sym, ap, ◌∙◌}
use Rattle.relay_core.specs.declared.told.Told.{Told}
use Rattle.relay_sides.proofs.FilterLemmas.{goes_on, quiet_written, told_written}
use Rattle.relay_sides.proofs.filtered.FilteredUp.write_pending.Goals as goal

-- what passed goes on as it does inside
pub returns-clause-goes : goal.returns-clause-goes
returns-clause-goes g c = λ s q h.
    goes_on _ _ _ _ (g.met.U.Up.unread c.args.self.now.inner s)
    (g.met.U.Up.unread c.write_pending-put.new.self s) _ _ _ _ _ _ q h _ q.read _ _ _ _ _ refl refl
    (λ none. ap (λ (t : Told). t.errors)
    (told_written _ _ c.write_pending-put.result c.write_pending-put.ensures.writes)
    ∙ quiet_written c.write_pending-put.result c.args.self.now.told
    (g.U.Up.state c.args.self.now.inner).told h.quiet
    (sym (ap (λ t. t.errors) c.written-self.ensures) ∙ none))
    (c.write_pending-put.ensures.goes s _ h.holds)
