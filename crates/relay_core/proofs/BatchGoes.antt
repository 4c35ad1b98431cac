-- The exchange so far goes on by a batch for the client, which is taken, refused or lost.
use Rattle.std.proofs.Common.{◌≡◌, Bool, true, false, not, List, [], ◌++◌, Result, Ok, Err, refl, sym, ap, ◌∙◌, subst, inl, inr, ◌⊎◌}
use Rattle.std.specs.List.{list_any}
use Rattle.relay_tasks.specs.declared.error.Error.{Error}
use Rattle.relay_tasks.specs.declared.error.Fail.{Fail}
use Rattle.relay_tasks.specs.declared.error.Fail.TheVariants as fail
use Rattle.relay_tasks.specs.declared.task.HttpTask.{HttpTask}
use Rattle.relay_tasks.specs.Error.{IsMemoryOr}
use Rattle.relay_links.specs.declared.branch.Branch.TheVariants as branch
use Rattle.relay_core.specs.declared.duplex.Duplex.{Duplex}
use Rattle.relay_core.specs.declared.step.Step.{Step}
use Rattle.relay_core.specs.declared.step.Step.TheVariants as step
use Rattle.relay_core.specs.Batch.{batch_of, rest_of}
use Rattle.relay_core.specs.Down.{TakesBatch}
use Rattle.relay_core.specs.Moves.{SoFar, Ordinary, Refused, Unended, Goes, ResponseHeld, is_over}
use Rattle.relay_core.specs.Past.{DownPast, UpPast, BatchGoes, loses}
use Rattle.relay_core.specs.Pipe.{is_failure}
use Rattle.relay_core.specs.State.{is_response_done}
use Rattle.relay_core.specs.Steps.{StepsTo, with_responses, LosesBatchOn, DownTakesOn}
use Rattle.relay_core.specs.Table.{State, enabled, down_runs, is_failed, failed, after_batch, step_of_batch}
use Rattle.relay_core.proofs.BoolLemmas.{clash, and_left, and_right, or_inr, or_false, not_true}
use Rattle.relay_core.proofs.CauseLemmas.{kept_batch}
use Rattle.relay_core.proofs.HeldLemmas.{at_last, passed_none, passed_batch, passed_front, passed_failure, passed_drop, passed_refused}
use Rattle.relay_core.proofs.MoveLemmas.{batch-rest, Leaves, leaves_at, leaves_failed, leaves_batch}
use Rattle.relay_core.proofs.MarkLemmas.{keep_at, keep_batch, marks_same}
use Rattle.relay_core.proofs.OrdinaryDown.{ordinary_batch}
use Rattle.relay_core.proofs.SteadyLemmas.{steady_of, steady_same, not_yet_asked, steady_refused}
use Rattle.relay_core.proofs.SoundLemmas.{step_sound, enabled_sound}
use Rattle.relay_core.proofs.TaskLemmas.{none_left, alone_or_plain, alone_part}
use Rattle.relay_core.proofs.CountLemmas.{adds_by}
use Rattle.relay_core.proofs.KeepLemmas.{down_open, held_so_far, open_held, ordinary_then, alive_then, no_error, held_behind, not_before, more_none, extends_same, extends_down, goes_by}

-- ---- over what both sides then mean

module _
    (holds : DownPast → Type 0) (down_blames : DownPast → Error → Type 0)
    (refuses : DownPast → List HttpTask → Error → Type 0)
    (cannot_end : DownPast → Error → Type 0)
    (up_holds : UpPast → Type 0) (up_blames : UpPast → Error → Type 0) where
  -- the client was given a batch: it took it, or it refused what stands behind its front
  given : (dp : DownPast → Type 0) (old new : State) (result : Step) (p : DownPast)
      (q : UpPast) (answer : Result Bool Fail) → enabled old branch.DownTake ≡ true
      → StepsTo branch.DownTake old new result
      → TakesBatch old.down (batch_of old.duplex.responses.tasks) new.down answer
      → new.duplex ≡ after_batch (with_responses old.duplex (rest_of old.duplex.responses.tasks))
      old.down (batch_of old.duplex.responses.tasks) new.down answer
      → result ≡ step_of_batch answer
      → BatchGoes holds down_blames refuses p (batch_of old.duplex.responses.tasks) answer
      → SoFar dp up_holds up_blames old p q
      → Goes holds down_blames refuses cannot_end up_holds up_blames p q old new
      result
  given dp old new result p q (Ok done) on by takes is same g f =
      let d = old.duplex in
      let held = d.responses.tasks in
      let mid = with_responses d (rest_of held) in
      let alive = enabled_sound branch.DownTake old on in
      let rest = and_right (not old.down.pending) _ (and_right (down_runs d) _ on) in
      let open_yet = not_true (is_response_done d.client_response)
      (and_left (not (is_response_done d.client_response)) _ rest) in
      let leaves : Leaves mid new.duplex =
      leaves_at _ _ _ is (leaves_batch mid old.down (batch_of held) new.down (Ok done)) in
      let ordinary : new.down.upgraded ≡ false → Ordinary new g.past q =
      λ plain. ordinary_then _ new new.down old.up g.past q is refl by.up
      (ordinary_batch d old.down new.down old.up (batch_of held) (rest_of held) done p g.past q
      plain (down_open d (and_left (down_runs d) _ on)) open_yet takes g.is_put g.is_batched
      g.is_closing
      (f.ordinary alive (not_before old.down.upgraded new.down.upgraded takes.upgraded_stays
      plain))) in
      goes_by holds down_blames refuses cannot_end up_holds up_blames
      branch.DownTake old new result on by p q g.past q
      (extends_down p g.past q [] (batch_of held) [] (more_none _ _ g.is_put) g.is_batched
      (more_none _ _ g.is_closing))
      (adds_by branch.DownTake old new result on by q q refl (λ is. cc))
      (record {
        down = g.stands;
        up = f.up;
        sound = step_sound branch.DownTake old new result on by f.sound;
        requests = g.is_put ∙ f.requests
            ∙ ap (λ (xs : List HttpTask). q.taken ++ xs) (sym leaves.requests);
        responses = at_last q.read g.past.batched new.duplex.responses.tasks
            (is_failed new.duplex.word) (is_over new.duplex) new.duplex.upstream_response_done
            (passed_none q.read q.read (p.batched ++ batch_of held) g.past.batched (rest_of held)
            new.duplex.responses.tasks (is_over new.duplex) (is_over new.duplex)
            d.upstream_response_done new.duplex.upstream_response_done refl g.is_batched
            leaves.responses (λ h. h) leaves.ended
            (passed_batch q.read p.batched (batch_of held) (rest_of held) held (is_over new.duplex)
            d.upstream_response_done (batch-rest held) takes.no_failure
            (open_held q.read p.batched held (is_over d) d.upstream_response_done
            (or_false (is_response_done d.client_response) (is_failed d.word) open_yet alive)
            (held_so_far dp up_holds up_blames old p q f alive))));
        unended = λ h. f.unended (leaves.ended h);
        send_error = λ e h. f.send_error e
            (sym (kept_batch mid old.down new.down (batch_of held) (Ok done))
            ∙ sym (ap (λ (d : Duplex). d.send_error) is) ∙ h);
        failures = λ front behind e h. held_behind (up_blames q) held (batch_of held)
            (rest_of held) (batch-rest held) f.failures front behind e (sym leaves.responses ∙ h);
        steady = λ plain. steady_of new g.past q (ordinary plain);
        ordinary = λ now plain. ordinary plain;
        marks =
            let keeps = keep_at _ _ _ is
            (keep_batch mid old.down new.down (batch_of held) (Ok done)) in
            marks_same old new q q (record { kind = keeps.kind; sends = keeps.sends }) by.up
            leaves.ended refl f.marks;
      })
      (λ e h. no_error result step.Moved e same refl h)
  given dp old new result p q (Err why) on by takes is same b f =
      let d = old.duplex in
      let held = d.responses.tasks in
      let mid = with_responses d (rest_of held) in
      let alive = enabled_sound branch.DownTake old on in
      let rest = and_right (not old.down.pending) _ (and_right (down_runs d) _ on) in
      let open_yet = not_true (is_response_done d.client_response)
      (and_left (not (is_response_done d.client_response)) _ rest) in
      let m = open_held q.read p.batched held (is_over d) d.upstream_response_done
      (or_false (is_response_done d.client_response) (is_failed d.word) open_yet alive)
      (held_so_far dp up_holds up_blames old p q f alive) in
      let leaves : Leaves mid new.duplex = leaves_at _ _ _ is (leaves_failed mid) in
      let over = or_inr (is_response_done d.client_response) true refl in
      let parts : (b.filtered ++ b.left) ++ rest_of held ≡ held =
      ap (λ (xs : List HttpTask). xs ++ rest_of held) b.parts ∙ batch-rest held in
      let R : Duplex → Type 0 = λ x. ResponseHeld q.read b.past.batched x.responses.tasks
      (is_failed x.word) (is_over x) x.upstream_response_done in
      let S : List HttpTask → Type 0 = λ xs. ResponseHeld q.read xs (rest_of held) true
      (is_over (failed mid)) d.upstream_response_done in
      let goes = λ (r : R new.duplex)
      (blamed : (e : Error) → why ≡ fail.Error e
      → up_blames q e ⊎ (Refused refuses new.down.upgraded b.past q e
      ⊎ Unended cannot_end new.down b.past e)).
      goes_by holds down_blames refuses cannot_end up_holds up_blames
      branch.DownTake old new result on by p q b.past q
      (extends_down p b.past q [] b.filtered [] (more_none _ _ b.is_put) b.is_batched
      (more_none _ _ b.is_closing))
      (adds_by branch.DownTake old new result on by q q refl (λ is. cc))
      (record {
        down = b.stands;
        up = f.up;
        sound = step_sound branch.DownTake old new result on by f.sound;
        requests = b.is_put ∙ f.requests
            ∙ ap (λ (xs : List HttpTask). q.taken ++ xs) (sym leaves.requests);
        responses = r;
        unended = λ h. f.unended (leaves.ended h);
        send_error = λ e h. f.send_error e (sym (ap (λ (d : Duplex). d.send_error) is) ∙ h);
        failures = λ front behind e h. held_behind (up_blames q) held (batch_of held)
            (rest_of held) (batch-rest held) f.failures front behind e (sym leaves.responses ∙ h);
        steady = λ plain. steady_refused old new (batch_of held) why p b.past q takes open_yet
            b.is_put b.is_closing
            (f.ordinary alive (not_before old.down.upgraded new.down.upgraded takes.upgraded_stays
            plain));
        ordinary = λ now plain. clash true refl (alive_then new.duplex (failed mid) is now);
        marks = marks_same old new q q
            (keep_at _ _ _ is (record { kind = refl; sends = refl })) by.up leaves.ended refl
            f.marks;
      })
      (λ e h. let fails : step.Failed why ≡ step.Failed (fail.Error e) = sym same ∙ h in
      inr (blamed e cc)) in
      elim (alone_or_plain held) [
        | inl alone ↦ (
            let part = alone_part b.filtered b.left alone.0 (b.parts ∙ alone.1) in
            goes
            (subst R (sym is)
            (subst S (sym (b.is_batched ∙ ap (λ (xs : List HttpTask). p.batched ++ xs) part.1))
            (passed_failure q.read p.batched b.left (rest_of held) held part.0 true
            (is_over (failed mid)) d.upstream_response_done
            (ap (λ (xs : List HttpTask). (xs ++ b.left) ++ rest_of held) (sym part.1) ∙ parts) refl
            over m)))
            (λ e is_why.
            let M : Fail → Type 0 = λ x. IsMemoryOr alone.0 x in
            let error : e ≡ alone.0 = subst M is_why (takes.by_failure alone.0 alone.1) in
            let B : Error → Type 0 = λ x. up_blames q x in
            inl (subst B (sym error) (f.failures [] (rest_of held) alone.0
            (sym (batch-rest held)
            ∙ ap (λ (xs : List HttpTask). xs ++ rest_of held) alone.1))))
            )
        | inr plain ↦ (
            let plain' : list_any is_failure (b.filtered ++ b.left) ≡ false =
            ap (list_any is_failure) b.parts ∙ plain in
            goes
            (subst R (sym is)
            (subst S (sym b.is_batched)
            (at_last q.read (p.batched ++ b.filtered) (rest_of held) true (is_over (failed mid))
            d.upstream_response_done
            (passed_front q.read p.batched b.filtered b.left (rest_of held) held
            (is_over (failed mid)) d.upstream_response_done parts
            (none_left is_failure b.filtered b.left plain') over m))))
            (λ e is_why.
            let came = passed_refused q.read p.batched b.filtered b.left (rest_of held) held
            d.upstream_response_done parts plain' m in
            inr (inl (record {
              left = b.left;
              rest = came.0;
              came = came.1
                  ∙ ap (λ (xs : List HttpTask). xs ++ (b.left ++ came.0)) (sym b.is_batched);
              refused = b.refused e plain is_why;
              unasked = λ none. not_yet_asked old p b.past q open_yet b.is_closing
                  (f.ordinary alive (not_before old.down.upgraded new.down.upgraded
                  takes.upgraded_stays none));
            })))
            )
      ]

  -- there was no memory for a batch
  lost : (dp : DownPast → Type 0) (old new : State) (result : Step) (p : DownPast)
      (q : UpPast) → enabled old branch.DownTake ≡ true
      → StepsTo branch.DownTake old new result
      → LosesBatchOn holds p old.duplex old.down new.duplex new.down result
      → SoFar dp up_holds up_blames old p q
      → Goes holds down_blames refuses cannot_end up_holds up_blames p q old new
      result
  lost dp old new result p q on by w f =
      let d = old.duplex in
      let l = w.loses in
      let held = d.responses.tasks in
      let mid = with_responses d l.left in
      let alive = enabled_sound branch.DownTake old on in
      let leaves : Leaves mid new.duplex = leaves_at _ _ _ l.duplex (leaves_failed mid) in
      let R : Duplex → Type 0 = λ x. ResponseHeld q.read p.batched x.responses.tasks
      (is_failed x.word) (is_over x) x.upstream_response_done in
      goes_by holds down_blames refuses cannot_end up_holds up_blames
      branch.DownTake old new result on by p q p q
      (extends_same p q)
      (adds_by branch.DownTake old new result on by q q refl (λ is. cc))
      (record {
        down = w.stands;
        up = f.up;
        sound = step_sound branch.DownTake old new result on by f.sound;
        requests = f.requests
            ∙ ap (λ (xs : List HttpTask). q.taken ++ xs) (sym leaves.requests);
        responses = subst R (sym l.duplex)
            (at_last q.read p.batched l.left true (is_over (failed mid)) d.upstream_response_done
            (passed_drop q.read p.batched l.lost l.left held (is_over d) (is_over (failed mid))
            d.upstream_response_done (sym l.parts)
            (or_inr (is_response_done d.client_response) true refl)
            (held_so_far dp up_holds up_blames old p q f alive)));
        unended = λ h. f.unended (leaves.ended h);
        send_error = λ e h. f.send_error e (sym (ap (λ (d : Duplex). d.send_error) l.duplex) ∙ h);
        failures = λ front behind e h. held_behind (up_blames q) held l.lost l.left (sym l.parts)
            f.failures front behind e (sym leaves.responses ∙ h);
        steady = steady_same old new p l.same f.steady;
        ordinary = λ now plain.
            clash true refl (alive_then new.duplex (failed mid) l.duplex now);
        marks = marks_same old new q q
            (keep_at _ _ _ l.duplex (record { kind = refl; sends = refl })) by.up leaves.ended refl
            f.marks;
      })
      (λ e h. no_error result (step.Failed fail.OutOfMemory) e l.step refl h)

  -- the tasks of the response pipe that go together went to the client
  pub goes_down_take : (dp : DownPast → Type 0) (old new : State) (result : Step) (p : DownPast)
      (q : UpPast) → enabled old branch.DownTake ≡ true → StepsTo branch.DownTake old new result
      → DownTakesOn holds down_blames refuses p old.duplex old.down new.duplex new.down result
      → SoFar dp up_holds up_blames old p q
      → Goes holds down_blames refuses cannot_end up_holds up_blames p q old new
      result
  goes_down_take dp old new result p q on by w f =
      elim w [
        | inl gives ↦ given dp old new result p q gives.answer on by gives.takes gives.duplex
            gives.step gives.goes f
        | inr loses ↦ lost dp old new result p q on by loses f
      ]
