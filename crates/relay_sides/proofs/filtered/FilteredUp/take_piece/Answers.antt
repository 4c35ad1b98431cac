-- A piece goes to the inner side, and what the side tells of it with it.
use Rattle.std.proofs.Common.{refl, sym, ap, ◌∙◌}
use Rattle.relay_core.specs.Up.{UpState}
use Rattle.relay_sides.proofs.FilterLemmas.{goes_on, quiet_failed}
use Rattle.relay_sides.proofs.filtered.FilteredUp.take_piece.Goals as goal

-- the inner side took the piece
pub returns-in-Ok-clause-goes : goal.returns-in-Ok-clause-goes
returns-in-Ok-clause-goes g c = λ s q h.
    goes_on _ _ _ _ (g.met.U.Up.unread c.args.self.now.inner s)
    (g.met.U.Up.unread c.take_piece.new.self s) _ _ _ _ _ _ q h _ q.read _ _ _ _ _ refl refl
    (λ none. ap (λ (x : UpState). x.told.errors) c.in-Ok.ensures.takes
    ∙ h.quiet none)
    (c.in-Ok.ensures.goes s _ h.holds)

-- the piece was lost
pub returns-in-Err-clause-goes : goal.returns-in-Err-clause-goes
returns-in-Err-clause-goes g c = λ s q h.
    goes_on _ _ _ _ (g.met.U.Up.unread c.args.self.now.inner s)
    (g.met.U.Up.unread c.take_piece.new.self s) _ _ _ _ _ _ q h _ q.read _ _ _ _ _ refl refl
    (λ none. ap (λ (x : UpState). x.told.errors) c.in-Err.ensures.takes
    ∙ quiet_failed c.in-Err.why c.args.self.now.told (g.U.Up.state c.args.self.now.inner).told
    h.quiet (sym (ap (λ t. t.errors) c.failed-self.ensures) ∙ none))
    (c.in-Err.ensures.goes s _ h.holds)
