-- Each answer of a read: a task of the inner side is handed on or withheld, and any other answer is
-- the inner side's.
use Rattle.std.proofs.Common.{Bool, refl, sym, ap, ◌∙◌, ◌||◌, append-nil}
use Rattle.relay_tasks.specs.declared.took.Took.TheVariants as took
use Rattle.relay_core.specs.Up.{UpState}
use Rattle.relay_sides.specs.Filtered as filtered
use Rattle.relay_sides.proofs.FilterLemmas.{goes_on, hands_on, stops, stays_stopped, unended_inside, reads_hands, some_method, quiet_alone, quiet_failed, quiet_paused}
use Rattle.relay_sides.proofs.filtered.FilteredUp.read_task.Goals as goal

-- the side had stopped, and answers why
pub returns-in-Some-clause-goes : goal.returns-in-Some-clause-goes
returns-in-Some-clause-goes g c = λ s q h.
    stays_stopped _ _ _ _ _ c.args.self.now.stopped c.in-Some.why c.args.self.now.told _ _ q _
    c.in-Some.is c.failed-self.ensures (append-nil q.read) h

-- its inner side was left
pub returns-in-Some-clause-cuts : goal.returns-in-Some-clause-cuts
returns-in-Some-clause-cuts g c = λ method own.
    filtered.CutsOver.is_stopped c.in-Some.why c.in-Some.is refl refl

-- a task is handed on
pub returns-in-Ok-clause-reads : goal.returns-in-Ok-clause-reads
returns-in-Ok-clause-reads g c =
    reads_hands _ _ c.args.self.now.upgraded _ c.args.self.now.stopped c.args.self.now.told
    c.in-Item.task c.in-Ok.task c.in-Item.ensures.reads
    (let some = some_method c.args.self.now.of_head in (c.in-Ok.ensures some.0 some.1).1)
    (c.either-self.ensures
    ∙ ap (λ (b : Bool). c.args.self.now.upgraded || b) c.upgraded.ensures)

-- it is the inner side's, as it is handed on
pub returns-in-Ok-clause-goes : goal.returns-in-Ok-clause-goes
returns-in-Ok-clause-goes g c = λ s q h.
    hands_on _ _ _ _ (g.met.U.Up.unread c.args.self.now.inner s)
    (g.met.U.Up.unread c.read_task.new.self s) _ _ _ c.args.self.now.stopped _ _ q h
    c.in-Item.task c.in-Ok.task _ _ c.in-None.is (c.in-Ok.ensures s.sent.method h.own)
    (c.either-self-in-Ok.ensures
    ∙ ap (λ (b : Bool). c.args.self.now.closes || b) c.asks_to_close.ensures)
    (λ none. ap (λ (x : UpState). x.told.errors) c.in-Item.ensures.reads.exact ∙ h.quiet none)
    (c.in-Item.ensures.goes s _ h.holds)

-- it is cut as the inner side cut it
pub returns-in-Ok-clause-cuts : goal.returns-in-Ok-clause-cuts
returns-in-Ok-clause-cuts g c = λ method own.
    filtered.CutsOver.is_made (took.Item c.in-Item.task) c.in-Item.ensures.cuts
    (c.in-Ok.ensures method own)

-- a task is withheld, and the side stops
pub returns-in-Err-clause-goes : goal.returns-in-Err-clause-goes
returns-in-Err-clause-goes g c = λ s q h.
    stops _ _ _ _ (g.met.U.Up.unread c.args.self.now.inner s)
    (g.met.U.Up.unread c.read_task.new.self s) _ _ _ c.args.self.now.stopped _ _ q h
    c.in-Item.task c.in-Err.why _ _ _ c.in-None.is (c.in-Err.ensures s.sent.method h.own)
    (append-nil q.read)
    (λ none. ap (λ (x : UpState). x.told.errors) c.in-Item.ensures.reads.exact
    ∙ quiet_alone c.in-Err.why c.args.self.now.told (g.U.Up.state c.args.self.now.inner).told
    h.quiet (sym (ap (λ t. t.errors) c.failed-self-in-Err.ensures) ∙ none))
    (c.in-Item.ensures.goes s _ h.holds)

-- and it is made of the one that came
pub returns-in-Err-clause-cuts : goal.returns-in-Err-clause-cuts
returns-in-Err-clause-cuts g c = λ method own.
    filtered.CutsOver.is_made (took.Item c.in-Item.task) c.in-Item.ensures.cuts
    (c.in-Err.ensures method own)

-- the link gave bytes
pub returns-in-More-clause-goes : goal.returns-in-More-clause-goes
returns-in-More-clause-goes g c = λ s q h.
    goes_on _ _ _ _ (g.met.U.Up.unread c.args.self.now.inner s)
    (g.met.U.Up.unread c.read_task.new.self s) _ _ _ _ _ _ q h _ _ _ _ _ _ _ (append-nil _)
    (append-nil q.read)
    (λ none. ap (λ (x : UpState). x.told.errors) c.in-More.ensures.reads ∙ h.quiet none)
    (c.in-More.ensures.goes s _ h.holds)

-- before the end was handed on none came
pub returns-in-More-clause-gives : goal.returns-in-More-clause-gives
returns-in-More-clause-gives g c = λ s q h unended is.
    c.in-More.ensures.gives s _ h.holds
    (unended_inside _ _ _ _ c.args.self.now.stopped _ _ q h c.in-None.is unended) refl

-- no task is cut
pub returns-in-More-clause-cuts : goal.returns-in-More-clause-cuts
returns-in-More-clause-cuts g c = λ method own.
    filtered.CutsOver.is_made took.More c.in-More.ensures.cuts refl

-- the inner side has to wait
pub returns-in-Waited-clause-goes : goal.returns-in-Waited-clause-goes
returns-in-Waited-clause-goes g c = λ s q h.
    goes_on _ _ _ _ (g.met.U.Up.unread c.args.self.now.inner s)
    (g.met.U.Up.unread c.read_task.new.self s) _ _ _ _ _ _ q h _ _ _ _ _ _ _ (append-nil _)
    (append-nil q.read)
    (λ none. ap (λ (x : UpState). x.told.errors) c.in-Waited.ensures.reads
    ∙ quiet_paused c.in-Waited.pause c.args.self.now.told
    (g.U.Up.state c.args.self.now.inner).told h.quiet
    (sym (ap (λ t. t.errors) c.paused-self.ensures) ∙ none))
    (c.in-Waited.ensures.goes s _ h.holds)

-- no task is cut
pub returns-in-Waited-clause-cuts : goal.returns-in-Waited-clause-cuts
returns-in-Waited-clause-cuts g c = λ method own.
    filtered.CutsOver.is_made (took.Waited c.in-Waited.pause) c.in-Waited.ensures.cuts refl

-- the inner side failed
pub returns-in-Failed-clause-goes : goal.returns-in-Failed-clause-goes
returns-in-Failed-clause-goes g c = λ s q h.
    goes_on _ _ _ _ (g.met.U.Up.unread c.args.self.now.inner s)
    (g.met.U.Up.unread c.read_task.new.self s) _ _ _ _ _ _ q h _ _ _ _ _ _ _ (append-nil _)
    (append-nil q.read)
    (λ none. ap (λ (x : UpState). x.told.errors) c.in-Failed.ensures.reads
    ∙ quiet_failed c.in-Failed.why c.args.self.now.told
    (g.U.Up.state c.args.self.now.inner).told h.quiet
    (sym (ap (λ t. t.errors) c.failed-self-in-Failed.ensures) ∙ none))
    (c.in-Failed.ensures.goes s _ h.holds)

-- no task is cut
pub returns-in-Failed-clause-cuts : goal.returns-in-Failed-clause-cuts
returns-in-Failed-clause-cuts g c = λ method own.
    filtered.CutsOver.is_made (took.Failed c.in-Failed.why) c.in-Failed.ensures.cuts refl
