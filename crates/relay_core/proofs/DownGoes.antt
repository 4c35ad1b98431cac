-- The exchange so far goes on by each branch of the client's half, but for a batch.
use Rattle.std.proofs.Common.{◌≡◌, true, false, List, [], ◌∷◌, ◌++◌, refl, sym, ap, ◌∙◌, subst, inl, inr, append_assoc}
use Rattle.relay_tasks.specs.declared.error.Error.{Error}
use Rattle.relay_tasks.specs.declared.task.HttpTask.{HttpTask}
use Rattle.relay_links.specs.declared.branch.Branch.TheVariants as branch
use Rattle.relay_core.specs.declared.duplex.Duplex.{Duplex}
use Rattle.relay_core.specs.declared.step.Step.{Step}
use Rattle.relay_core.specs.declared.step.Step.TheVariants as step
use Rattle.relay_core.specs.Down.{DownState}
use Rattle.relay_core.specs.Moves.{SoFar, Ordinary, Goes, is_over}
use Rattle.relay_core.specs.Past.{DownPast, UpPast, put_in, closing_in}
use Rattle.relay_core.specs.State.{is_response_done, is_reading, is_done}
use Rattle.relay_core.specs.Steps.{StepsTo, with_responses, DownWritesOn, DownReadsOn, DownEndsOn}
use Rattle.relay_core.specs.Table.{State, enabled, down_runs, is_failed, after_down_write, step_of_down_write, after_down_read, step_of_down_read, step_of_down_finish}
use Rattle.relay_core.proofs.BoolLemmas.{and_left, and_right, or_inl, not_true}
use Rattle.relay_core.proofs.CauseLemmas.{kept_down_read, kept_down_write, kept_down_finish}
use Rattle.relay_core.proofs.HeldLemmas.{at_last, passed_none, passed_drop}
use Rattle.relay_core.proofs.MoveLemmas.{Leaves, leaves_same, leaves_at, leaves_response_done, leaves_request_done, leaves_down_write, leaves_down_finish}
use Rattle.relay_core.proofs.MarkLemmas.{keep_at, keep_down_write, keep_down_read, keep_down_finish, marks_same}
use Rattle.relay_core.proofs.OrdinaryDown.{ordinary_down_write, ordinary_drop, ordinary_closed, ordinary_down_read, ordinary_down_finish}
use Rattle.relay_core.proofs.OrdinaryLemmas.{ordinary_at}
use Rattle.relay_core.proofs.SteadyLemmas.{steady_same, steady_down_write, steady_down_read, asked_when_done, steady_down_finish}
use Rattle.relay_core.proofs.RunsLemmas.{down_writes_body, down_ends_body}
use Rattle.relay_core.proofs.SoundLemmas.{step_sound, enabled_sound}
use Rattle.relay_core.proofs.CountLemmas.{adds_by}
use Rattle.relay_core.proofs.KeepLemmas.{down_open, held_so_far, ordinary_then, alive_then, down_write_error, down_read_error, down_finish_error, no_error, error_is, held_behind, LeavesResponses, leaves_read, tasks_read, read_upgraded, no_end, more_none, extends_same, extends_down, goes_by, quiet}

-- ---- over what both sides then mean

module _
    (holds : DownPast → Type 0) (down_blames : DownPast → Error → Type 0)
    (refuses : DownPast → List HttpTask → Error → Type 0)
    (cannot_end : DownPast → Error → Type 0)
    (up_holds : UpPast → Type 0) (up_blames : UpPast → Error → Type 0) where
  -- one write to the client
  pub goes_down_write : (dp : DownPast → Type 0) (old new : State) (result : Step) (p : DownPast)
      (q : UpPast) → enabled old branch.DownWrite ≡ true → StepsTo branch.DownWrite old new result
      → DownWritesOn holds down_blames p old.duplex old.down new.duplex new.down result
      → SoFar dp up_holds up_blames old p q
      → Goes holds down_blames refuses cannot_end up_holds up_blames p q old new
      result
  goes_down_write dp old new result p q on by w f =
      let g = w.goes in
      let alive = enabled_sound branch.DownWrite old on in
      let same = down_writes_body old.down new.down w.answer w.writes in
      goes_by holds down_blames refuses cannot_end up_holds up_blames
      branch.DownWrite old new result on by p q g.past q
      (extends_down p g.past q [] [] [] (more_none _ _ g.is_put) (more_none _ _ g.is_batched)
      (more_none _ _ g.is_closing))
      (adds_by branch.DownWrite old new result on by q q refl (λ is. cc))
      (quiet holds down_blames refuses cannot_end up_holds up_blames dp up_holds up_blames
      branch.DownWrite old new result p g.past q q on by
      (leaves_at _ _ _ w.duplex (leaves_down_write old.duplex w.answer)) g.is_put g.is_batched refl
      refl g.stands f.up (λ e b. b)
      (λ e h. f.send_error e (sym (kept_down_write old.duplex w.answer)
      ∙ sym (ap (λ (d : Duplex). d.send_error) w.duplex) ∙ h))
      (λ plain. steady_down_write old new w.answer p g.past w.writes g.is_put g.is_batched
      g.is_closing (f.steady (sym same.upgraded ∙ plain)))
      (λ now plain. ordinary_at new p g.past q q g.is_put g.is_batched g.is_closing refl
      (ordinary_then (after_down_write old.duplex w.answer) new new.down old.up p q w.duplex refl
      by.up
      (ordinary_down_write old.duplex old.down new.down old.up w.answer p q
      (down_open old.duplex (and_left (down_runs old.duplex) _ on)) w.writes
      (f.ordinary alive (sym same.upgraded ∙ plain))
      (alive_then new.duplex _ w.duplex now))))
      (marks_same old new q q
      (keep_at _ _ _ w.duplex (keep_down_write old.duplex w.answer)) by.up
      (leaves_at _ _ _ w.duplex (leaves_down_write old.duplex w.answer)).ended refl f.marks)
      f)
      (λ e h. inl (g.blamed e (error_is result (step_of_down_write w.answer) _ e w.step
      (down_write_error w.answer) h)))

  -- a task of the response was dropped
  pub goes_down_drop : (old new : State) (result : Step) (p : DownPast) (q : UpPast)
      → enabled old branch.DownDrop ≡ true → StepsTo branch.DownDrop old new result
      → SoFar holds up_holds up_blames old p q
      → Goes holds down_blames refuses cannot_end up_holds up_blames p q old new
      result
  goes_down_drop old new result p q on by f =
      let d = old.duplex in
      let w = by.does in
      let alive = enabled_sound branch.DownDrop old on in
      let leaves : Leaves (with_responses d w.rest) new.duplex =
      leaves_at _ _ _ w.duplex (leaves_same (with_responses d w.rest)) in
      let done = and_left (is_response_done d.client_response) _ (and_right (down_runs d) _ on) in
      goes_by holds down_blames refuses cannot_end up_holds up_blames
      branch.DownDrop old new result on by p q p q
      (extends_same p q)
      (adds_by branch.DownDrop old new result on by q q refl (λ is. cc))
      (record {
        down = f.down;
        up = f.up;
        sound = step_sound branch.DownDrop old new result on by f.sound;
        requests = f.requests
            ∙ ap (λ (xs : List HttpTask). q.taken ++ xs) (sym leaves.requests);
        responses = at_last q.read p.batched new.duplex.responses.tasks
            (is_failed new.duplex.word) (is_over new.duplex) new.duplex.upstream_response_done
            (passed_none q.read q.read p.batched p.batched w.rest new.duplex.responses.tasks
            (is_over d) (is_over new.duplex) d.upstream_response_done
            new.duplex.upstream_response_done refl refl leaves.responses leaves.over leaves.ended
            (passed_drop q.read p.batched (w.task ∷ []) w.rest d.responses.tasks (is_over d)
            (is_over d) d.upstream_response_done (sym w.held)
            (or_inl (is_response_done d.client_response) (is_failed d.word) done)
            (held_so_far holds up_holds up_blames old p q f alive)));
        unended = λ h. f.unended (leaves.ended h);
        send_error = λ e h. f.send_error e (sym (ap (λ (d : Duplex). d.send_error) w.duplex) ∙ h);
        failures = λ front behind e is. held_behind (up_blames q) d.responses.tasks (w.task ∷ [])
            w.rest (sym w.held) f.failures front behind e (sym leaves.responses ∙ is);
        steady = steady_same old new p by.down f.steady;
        ordinary = λ now plain. ordinary_then _ new old.down old.up p q w.duplex by.down by.up
            (ordinary_drop d old.down old.up w.rest p q
            (f.ordinary alive (sym (ap (λ (s : DownState). s.upgraded) by.down) ∙ plain)));
        marks = marks_same old new q q
            (keep_at _ _ _ w.duplex (record { kind = refl; sends = refl })) by.up leaves.ended refl
            f.marks;
      })
      (λ e h. no_error result step.Moved e w.step refl h)

  -- the response is done, since no more of it comes: in a tunnel alone
  pub goes_down_end : (old new : State) (result : Step) (p : DownPast) (q : UpPast)
      → enabled old branch.DownEnd ≡ true → StepsTo branch.DownEnd old new result
      → SoFar holds up_holds up_blames old p q
      → Goes holds down_blames refuses cannot_end up_holds up_blames p q old new
      result
  goes_down_end old new result p q on by f =
      let w = by.does in
      let alive = enabled_sound branch.DownEnd old on in
      goes_by holds down_blames refuses cannot_end up_holds up_blames
      branch.DownEnd old new result on by p q p q
      (extends_same p q)
      (adds_by branch.DownEnd old new result on by q q refl (λ is. cc))
      (quiet holds down_blames refuses cannot_end up_holds up_blames holds up_holds up_blames
      branch.DownEnd old new result p p q q on by
      (leaves_at _ _ _ w.duplex (leaves_response_done old.duplex true)) refl refl refl refl f.down
      f.up (λ e b. b)
      (λ e h. f.send_error e (sym (ap (λ (d : Duplex). d.send_error) w.duplex) ∙ h))
      (steady_same old new p by.down f.steady)
      (λ now plain.
      let was = sym (ap (λ (s : DownState). s.upgraded) by.down) ∙ plain in
      no_end old p q on (f.sound.runs alive) was (f.ordinary alive was))
      (marks_same old new q q (keep_at _ _ _ w.duplex (record { kind = refl; sends = refl })) by.up
      (leaves_at _ _ _ w.duplex (leaves_response_done old.duplex true)).ended refl f.marks)
      f)
      (λ e h. no_error result step.Moved e w.step refl h)

  -- the request is done, since no more of it is wanted
  pub goes_down_closed : (old new : State) (result : Step) (p : DownPast) (q : UpPast)
      → enabled old branch.DownClosed ≡ true → StepsTo branch.DownClosed old new result
      → SoFar holds up_holds up_blames old p q
      → Goes holds down_blames refuses cannot_end up_holds up_blames p q old new
      result
  goes_down_closed old new result p q on by f =
      let d = old.duplex in
      let w = by.does in
      let alive = enabled_sound branch.DownClosed old on in
      goes_by holds down_blames refuses cannot_end up_holds up_blames
      branch.DownClosed old new result on by p q p q
      (extends_same p q)
      (adds_by branch.DownClosed old new result on by q q refl (λ is. cc))
      (quiet holds down_blames refuses cannot_end up_holds up_blames holds up_holds up_blames
      branch.DownClosed old new result p p q q on by
      (leaves_at _ _ _ w.duplex (leaves_request_done d true)) refl refl refl refl f.down f.up
      (λ e b. b)
      (λ e h. f.send_error e (sym (ap (λ (d : Duplex). d.send_error) w.duplex) ∙ h))
      (steady_same old new p by.down f.steady)
      (λ now plain. ordinary_then _ new old.down old.up p q w.duplex by.down by.up
      (ordinary_closed d old.down old.up p q (down_open d (and_left (down_runs d) _ on))
      (and_left d.requests.closed _ (and_right (down_runs d) _ on))
      (f.ordinary alive (sym (ap (λ (s : DownState). s.upgraded) by.down) ∙ plain))))
      (marks_same old new q q (keep_at _ _ _ w.duplex (record { kind = refl; sends = refl })) by.up
      (leaves_at _ _ _ w.duplex (leaves_request_done d true)).ended refl f.marks)
      f)
      (λ e h. no_error result step.Moved e w.step refl h)

  -- one read of the client
  pub goes_down_read : (dp : DownPast → Type 0) (old new : State) (result : Step) (p : DownPast)
      (q : UpPast) → enabled old branch.DownRead ≡ true → StepsTo branch.DownRead old new result
      → DownReadsOn holds down_blames p old.duplex old.down new.duplex new.down result
      → SoFar dp up_holds up_blames old p q
      → Goes holds down_blames refuses cannot_end up_holds up_blames p q old new
      result
  goes_down_read dp old new result p q on by w f =
      let d = old.duplex in
      let g = w.goes in
      let upgraded = old.down.upgraded in
      let alive = enabled_sound branch.DownRead old on in
      let after = after_down_read d upgraded w.answer in
      let L : Duplex → Type 0 = λ x. LeavesResponses d x in
      let leaves : LeavesResponses d new.duplex =
      subst L (sym w.duplex) (leaves_read d upgraded w.answer) in
      let was : new.down.upgraded ≡ false → upgraded ≡ false =
      λ plain. sym (read_upgraded old.down new.down w.answer w.reads) ∙ plain in
      let ordinary : is_failed new.duplex.word ≡ false → new.down.upgraded ≡ false
      → Ordinary new g.past q =
      λ now plain. ordinary_then after new new.down old.up g.past q w.duplex refl by.up
      (ordinary_down_read d old.down new.down old.up w.answer p g.past q (was plain)
      (down_open d (and_left (down_runs d) _ on)) w.reads g.is_put g.is_batched g.is_closing
      (f.ordinary alive (was plain)) (alive_then new.duplex _ w.duplex now)) in
      goes_by holds down_blames refuses cannot_end up_holds up_blames
      branch.DownRead old new result on by p q g.past q
      (extends_down p g.past q (put_in upgraded w.answer) [] [] g.is_put
      (more_none _ _ g.is_batched) (more_none _ _ g.is_closing))
      (adds_by branch.DownRead old new result on by q q refl (λ is. cc))
      (record {
        down = g.stands;
        up = f.up;
        sound = step_sound branch.DownRead old new result on by f.sound;
        requests = g.is_put
            ∙ ap (λ (xs : List HttpTask). xs ++ put_in upgraded w.answer) f.requests
            ∙ append_assoc q.taken d.requests.tasks (put_in upgraded w.answer)
            ∙ ap (λ (xs : List HttpTask). q.taken ++ xs) (sym (tasks_read d upgraded w.answer)
            ∙ sym (ap (λ (x : Duplex). x.requests.tasks) w.duplex));
        responses = at_last q.read g.past.batched new.duplex.responses.tasks
            (is_failed new.duplex.word) (is_over new.duplex) new.duplex.upstream_response_done
            (passed_none q.read q.read p.batched g.past.batched d.responses.tasks
            new.duplex.responses.tasks (is_over d) (is_over new.duplex) d.upstream_response_done
            new.duplex.upstream_response_done refl g.is_batched leaves.responses leaves.over
            leaves.ended (held_so_far dp up_holds up_blames old p q f alive));
        unended = λ h. f.unended (leaves.ended h);
        send_error = λ e h. f.send_error e (sym (kept_down_read d upgraded w.answer)
            ∙ sym (ap (λ (d : Duplex). d.send_error) w.duplex) ∙ h);
        failures = λ front behind e is. f.failures front behind e (sym leaves.responses ∙ is);
        steady = λ plain. steady_down_read old new w.answer p g.past q w.reads w.duplex alive
            g.is_put g.is_batched g.is_closing (λ now. ordinary now plain) (f.steady (was plain));
        ordinary = ordinary;
        marks = marks_same old new q q
            (keep_at _ _ _ w.duplex (keep_down_read d upgraded w.answer)) by.up leaves.ended refl
            f.marks;
      })
      (λ e h. inl (g.blamed e (error_is result (step_of_down_read w.answer) _ e w.step
      (down_read_error w.answer) h)))

  -- the response's body was ended
  pub goes_down_finish : (dp : DownPast → Type 0) (old new : State) (result : Step)
      (p : DownPast) (q : UpPast) → enabled old branch.DownFinish ≡ true
      → StepsTo branch.DownFinish old new result
      → DownEndsOn holds cannot_end p old.duplex old.down new.duplex new.down result
      → SoFar dp up_holds up_blames old p q
      → Goes holds down_blames refuses cannot_end up_holds up_blames p q old new
      result
  goes_down_finish dp old new result p q on by w f =
      let d = old.duplex in
      let g = w.goes in
      let alive = enabled_sound branch.DownFinish old on in
      let rest = and_right (down_runs d) _ on in
      let same = down_ends_body old.down new.down w.answer w.ends in
      let response = and_left (is_response_done d.client_response) _
      (and_right (is_done d.client_request) _ rest) in
      goes_by holds down_blames refuses cannot_end up_holds up_blames
      branch.DownFinish old new result on by p q g.past q
      (extends_down p g.past q [] [] (closing_in w.answer) (more_none _ _ g.is_put)
      (more_none _ _ g.is_batched) g.is_closing)
      (adds_by branch.DownFinish old new result on by q q refl (λ is. cc))
      (quiet holds down_blames refuses cannot_end up_holds up_blames dp up_holds up_blames
      branch.DownFinish old new result p g.past q q on by
      (leaves_at _ _ _ w.duplex (leaves_down_finish d new.down.pending w.answer alive)) g.is_put
      g.is_batched refl refl g.stands f.up (λ e b. b)
      (λ e h. f.send_error e (sym (kept_down_finish d new.down.pending w.answer)
      ∙ sym (ap (λ (d : Duplex). d.send_error) w.duplex) ∙ h))
      (λ plain. steady_down_finish old new w.answer p g.past q w.ends response g.is_put g.is_batched
      (f.ordinary alive (sym same.upgraded ∙ plain)))
      (λ now plain. ordinary_then _ new new.down old.up g.past q w.duplex refl by.up
      (ordinary_down_finish d old.down new.down old.up new.down.pending w.answer p g.past q refl
      (down_open d (and_left (down_runs d) _ on))
      (not_true (is_reading d.client_request) (and_left (is_done d.client_request) _ rest))
      response
      w.ends g.is_put g.is_batched (f.ordinary alive (sym same.upgraded ∙ plain))
      (alive_then new.duplex _ w.duplex now)))
      (marks_same old new q q
      (keep_at _ _ _ w.duplex (keep_down_finish d new.down.pending w.answer)) by.up
      (leaves_at _ _ _ w.duplex (leaves_down_finish d new.down.pending w.answer alive)).ended refl
      f.marks)
      f)
      (λ e h. inr (inr (inr (record {
        why = g.blamed e (error_is result (step_of_down_finish d new.down.pending w.answer) _ e
            w.step (down_finish_error d new.down.pending w.answer) h);
        asked = λ plain. asked_when_done old new w.answer p g.past q w.ends response g.is_batched
            (f.ordinary alive (sym same.upgraded ∙ plain));
      }))))
