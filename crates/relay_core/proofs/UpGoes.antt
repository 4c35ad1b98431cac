-- The exchange so far goes on by each branch of the upstream half.
use Rattle.std.proofs.Common.{◌≡◌, Bool, true, ◌||◌, not, List, [], ◌∷◌, ◌++◌, is_some, refl, sym, ap, ◌∙◌, subst, inl, inr, append_assoc}
use Rattle.std.specs.List.{list_any}
use Rattle.relay_tasks.specs.declared.error.Error.{Error}
use Rattle.relay_tasks.specs.declared.task.HttpTask.{HttpTask}
use Rattle.relay_tasks.specs.Task.{is_end}
use Rattle.relay_links.specs.declared.branch.Branch.TheVariants as branch
use Rattle.relay_core.specs.declared.duplex.Duplex.{Duplex}
use Rattle.relay_core.specs.declared.step.Step.{Step}
use Rattle.relay_core.specs.Down.{DownState}
use Rattle.relay_core.specs.Moves.{SoFar, Goes, ResponseHeld, is_over}
use Rattle.relay_core.specs.Past.{DownPast, UpPast, task_in}
use Rattle.relay_core.specs.Steps.{StepsTo, with_requests, UpWritesOn, UpTakes, UpTakesOn, UpReads, UpReadsOn}
use Rattle.relay_core.specs.Table.{State, enabled, up_runs, is_failed, after_up_write, step_of_up_write, with_piece_sent, step_of_up_take, after_up_read, step_of_up_read, custom_error}
use Rattle.relay_core.proofs.BoolLemmas.{and_left, and_right, not_true}
use Rattle.relay_core.proofs.CauseLemmas.{kept_up_read, kept_up_finish}
use Rattle.relay_core.proofs.CountLemmas.{adds_by, adds_read}
use Rattle.relay_core.proofs.HeldLemmas.{at_last, passed_none}
use Rattle.relay_core.proofs.MoveLemmas.{Leaves, leaves_at, leaves_next, leaves_up_write, leaves_piece, leaves_sent, leaves_up_finish}
use Rattle.relay_core.proofs.MarkLemmas.{keep_at, keep_up_finish, marks_same, marks_write, marks_take, marks_read}
use Rattle.relay_core.proofs.OrdinaryLemmas.{ordinary_at}
use Rattle.relay_core.proofs.OrdinaryUp.{ordinary_up_write, ordinary_up_take, ordinary_up_read, ordinary_up_finish}
use Rattle.relay_core.proofs.SteadyLemmas.{steady_same}
use Rattle.relay_core.proofs.SoundLemmas.{step_sound, enabled_sound}
use Rattle.relay_core.proofs.KeepLemmas.{up_open, unread, held_so_far, unended_held, ordinary_then, alive_then, step_error, up_write_error, up_take_error, up_read_error, up_finish_error, no_error, kept_write, kept_piece, held_read, response_read, unended_read, quiet_up, requests_stay, more_none, extends_same, extends_up, goes_by, quiet}

-- ---- over what both sides then mean

module _
    (holds : DownPast → Type 0) (down_blames : DownPast → Error → Type 0)
    (refuses : DownPast → List HttpTask → Error → Type 0)
    (cannot_end : DownPast → Error → Type 0)
    (up_holds : UpPast → Type 0) (up_blames : UpPast → Error → Type 0) where
  -- one write to the upstream
  pub goes_up_write : (up : UpPast → Type 0) (ub : UpPast → Error → Type 0) (old new : State)
      (result : Step) (p : DownPast) (q : UpPast) → enabled old branch.UpWrite ≡ true
      → StepsTo branch.UpWrite old new result
      → UpWritesOn up_holds ub up_blames q old.duplex old.up new.duplex new.up result
      → SoFar holds up ub old p q
      → Goes holds down_blames refuses cannot_end up_holds up_blames p q old new
      result
  goes_up_write up ub old new result p q on by w f =
      let g = w.goes in
      let alive = enabled_sound branch.UpWrite old on in
      goes_by holds down_blames refuses cannot_end up_holds up_blames
      branch.UpWrite old new result on by p q p g.past
      (extends_up p q g.past [] [] (more_none _ _ g.is_read) (more_none _ _ g.is_taken))
      (adds_by branch.UpWrite old new result on by q g.past g.is_read (λ is. cc))
      (quiet holds down_blames refuses cannot_end up_holds up_blames holds up ub
      branch.UpWrite old new result p p q g.past on by
      (leaves_at _ _ _ w.duplex (leaves_up_write old.duplex w.answer)) refl refl g.is_read
      g.is_taken f.down g.stands g.keeps
      (λ e h. kept_write (up_blames g.past) old.duplex w.answer
      (λ e h. g.keeps e (f.send_error e h)) g.blamed e
      (sym (ap (λ (d : Duplex). d.send_error) w.duplex) ∙ h))
      (steady_same old new p by.down f.steady)
      (λ now plain. ordinary_at new p p q g.past refl refl refl g.is_lost
      (ordinary_then (after_up_write old.duplex w.answer) new old.down new.up p q w.duplex by.down
      refl
      (ordinary_up_write old.duplex old.down old.up new.up w.answer p q
      (up_open old.duplex (and_left (up_runs old.duplex) _ on))
      (f.ordinary alive (sym (ap (λ (s : DownState). s.upgraded) by.down) ∙ plain))
      (alive_then new.duplex _ w.duplex now))))
      (marks_write old new w.answer q g.past w.duplex w.writes
      (leaves_at _ _ _ w.duplex (leaves_up_write old.duplex w.answer)).ended g.is_read f.marks)
      f)
      (λ e h. no_error result (step_of_up_write w.answer) e w.step (up_write_error w.answer) h)

  -- a piece went to the upstream
  goes_up_take_so : (up : UpPast → Type 0) (ub : UpPast → Error → Type 0) (old new : State)
      (result : Step) (p : DownPast) (q : UpPast) → enabled old branch.UpTake ≡ true
      → StepsTo branch.UpTake old new result
      → UpTakesOn up_holds ub up_blames q old.down.upgraded old.duplex old.up new.duplex new.up
      result → SoFar holds up ub old p q
      → Goes holds down_blames refuses cannot_end up_holds up_blames p q old new
      result
  goes_up_take_so up ub old new result p q on by w f =
      let d = old.duplex in
      let g = w.goes in
      let alive = enabled_sound branch.UpTake old on in
      let mid = with_requests d w.rest in
      let sent = with_piece_sent mid old.down.upgraded w.piece in
      let leaves : Leaves mid new.duplex = leaves_at _ _ _ w.duplex (leaves_next mid sent _
      (leaves_sent mid old.down.upgraded w.piece) (leaves_piece sent w.answer)) in
      let parts : p.put ≡ q.taken ++ (w.piece ∷ w.rest) =
      f.requests ∙ ap (λ (xs : List HttpTask). q.taken ++ xs) w.held in
      goes_by holds down_blames refuses cannot_end up_holds up_blames
      branch.UpTake old new result on by p q p g.past
      (extends_up p q g.past [] (w.piece ∷ []) (more_none _ _ g.is_read) g.is_taken)
      (adds_by branch.UpTake old new result on by q g.past g.is_read (λ is. cc))
      (record {
        down = f.down;
        up = g.stands;
        sound = step_sound branch.UpTake old new result on by f.sound;
        requests = parts ∙ sym (append_assoc q.taken (w.piece ∷ []) w.rest)
            ∙ ap (λ (xs : List HttpTask). xs ++ w.rest) (sym g.is_taken)
            ∙ ap (λ (xs : List HttpTask). g.past.taken ++ xs) (sym leaves.requests);
        responses = at_last g.past.read p.batched new.duplex.responses.tasks
            (is_failed new.duplex.word) (is_over new.duplex) new.duplex.upstream_response_done
            (passed_none q.read g.past.read p.batched p.batched d.responses.tasks
            new.duplex.responses.tasks (is_over d) (is_over new.duplex) d.upstream_response_done
            new.duplex.upstream_response_done g.is_read refl leaves.responses leaves.over
            leaves.ended (held_so_far holds up ub old p q f alive));
        unended = λ h. ap (list_any is_end) g.is_read ∙ f.unended (leaves.ended h);
        send_error = λ e h. kept_piece (up_blames g.past) sent w.answer
            (λ e h. g.keeps e (f.send_error e h)) g.blamed e
            (sym (ap (λ (d : Duplex). d.send_error) w.duplex) ∙ h);
        failures = λ front behind e is. g.keeps e
            (f.failures front behind e (sym leaves.responses ∙ is));
        steady = steady_same old new p by.down f.steady;
        ordinary = λ now plain.
            let was = sym (ap (λ (s : DownState). s.upgraded) by.down) ∙ plain in
            ordinary_then _ new old.down new.up p g.past w.duplex by.down refl
            (ordinary_up_take d old.down.upgraded old.down old.up new.up w.piece w.rest w.answer p q
            g.past was (up_open d (and_left (up_runs d) _ on))
            (not_true d.upstream_request_done
            (and_left (not d.upstream_request_done) _ (and_right (up_runs d) _ on)))
            parts g.is_lost (f.ordinary alive was) (alive_then new.duplex _ w.duplex now));
        marks = marks_take old new old.down.upgraded w.piece w.rest w.answer q g.past w.duplex
            w.takes leaves.ended g.is_read f.marks;
      })
      (λ e h. no_error result (step_of_up_take w.answer) e w.step (up_take_error w.answer) h)

  -- a piece went to the upstream, in a tunnel or not
  pub goes_up_take : (up : UpPast → Type 0) (ub : UpPast → Error → Type 0) (old new : State)
      (result : Step) (p : DownPast) (q : UpPast) → enabled old branch.UpTake ≡ true
      → (tunnel : Bool) → tunnel ≡ old.down.upgraded
      → UpTakes tunnel old.duplex old.up new.duplex new.up result → new.down ≡ old.down
      → UpTakesOn up_holds ub up_blames q tunnel old.duplex old.up new.duplex new.up result
      → SoFar holds up ub old p q
      → Goes holds down_blames refuses cannot_end up_holds up_blames p q old new
      result
  goes_up_take up ub old new result p q on tunnel is does down w f =
      let T : Bool → Type 0 = λ b. UpTakes b old.duplex old.up new.duplex new.up result in
      let W : Bool → Type 0 = λ b.
      UpTakesOn up_holds ub up_blames q b old.duplex old.up new.duplex new.up result in
      goes_up_take_so up ub old new result p q on (record { does = subst T is does; down = down })
      (subst W is w) f

  -- one read of the upstream
  goes_up_read_so : (up : UpPast → Type 0) (ub : UpPast → Error → Type 0) (old new : State)
      (result : Step) (p : DownPast) (q : UpPast) → enabled old branch.UpRead ≡ true
      → StepsTo branch.UpRead old new result
      → UpReadsOn up_holds ub up_blames q old.down.upgraded old.duplex old.up new.duplex new.up
      result → SoFar holds up ub old p q
      → Goes holds down_blames refuses cannot_end up_holds up_blames p q old new
      result
  goes_up_read_so up ub old new result p q on by w f =
      let d = old.duplex in
      let g = w.goes in
      let tunnel = old.down.upgraded in
      let alive = enabled_sound branch.UpRead old on in
      let after = after_up_read d tunnel w.answer in
      let R : Duplex → Type 0 = λ x. ResponseHeld g.past.read p.batched x.responses.tasks
      (is_failed x.word) (is_over x) x.upstream_response_done in
      let N : Duplex → Type 0 = λ x. x.requests.tasks ≡ d.requests.tasks in
      goes_by holds down_blames refuses cannot_end up_holds up_blames
      branch.UpRead old new result on by p q p g.past
      (extends_up p q g.past (task_in w.answer) [] g.is_read (more_none _ _ g.is_taken))
      (adds_read old new q g.past tunnel w.answer alive (unread old on) by.down w.duplex g.is_read)
      (record {
        down = f.down;
        up = g.stands;
        sound = step_sound branch.UpRead old new result on by f.sound;
        requests = f.requests
            ∙ ap (λ (xs : List HttpTask). xs ++ d.requests.tasks) (sym g.is_taken)
            ∙ ap (λ (xs : List HttpTask). g.past.taken ++ xs)
            (sym (subst N (sym w.duplex) (requests_stay d tunnel w.answer)));
        responses = subst R (sym w.duplex)
            (at_last g.past.read p.batched after.responses.tasks (is_failed after.word)
            (is_over after) after.upstream_response_done
            (passed_none (q.read ++ task_in w.answer) g.past.read p.batched p.batched
            after.responses.tasks after.responses.tasks (is_over after) (is_over after)
            after.upstream_response_done after.upstream_response_done g.is_read refl refl (λ h. h)
            (λ h. h)
            (response_read d tunnel w.answer q.read p.batched
            (unended_held q.read p.batched d.responses.tasks (is_over d) d.upstream_response_done
            (unread old on) (held_so_far holds up ub old p q f alive)))));
        unended = λ h. ap (list_any is_end) g.is_read
            ∙ unended_read d tunnel w.answer q.read (f.unended (unread old on))
            (sym (ap (λ (x : Duplex). x.upstream_response_done) w.duplex) ∙ h);
        send_error = λ e h. g.keeps e (f.send_error e (sym (kept_up_read d tunnel w.answer)
            ∙ sym (ap (λ (d : Duplex). d.send_error) w.duplex) ∙ h));
        failures = λ front behind e is. held_read (up_blames g.past) d tunnel old.up new.up w.answer
            w.reads (λ front behind e h. g.keeps e (f.failures front behind e h))
            (λ e h. g.keeps e (f.send_error e h)) g.blamed front behind e
            (sym (ap (λ (d : Duplex). d.responses.tasks) w.duplex) ∙ is);
        steady = steady_same old new p by.down f.steady;
        ordinary = λ now plain.
            let was = sym (ap (λ (s : DownState). s.upgraded) by.down) ∙ plain in
            ordinary_at new p p q g.past refl refl refl g.is_lost
            (ordinary_then after new old.down new.up p q w.duplex by.down refl
            (ordinary_up_read d tunnel old.down old.up new.up w.answer p q was
            (up_open d (and_left (up_runs d) _ on)) (f.ordinary alive was)
            (alive_then new.duplex _ w.duplex now)));
        marks = marks_read old new tunnel w.answer q g.past w.duplex w.reads (unread old on)
            (f.unended (unread old on)) g.is_read f.marks;
      })
      (λ e h. no_error result (step_of_up_read w.answer) e w.step (up_read_error w.answer) h)

  -- one read of the upstream, in a tunnel or not
  pub goes_up_read : (up : UpPast → Type 0) (ub : UpPast → Error → Type 0) (old new : State)
      (result : Step) (p : DownPast) (q : UpPast) → enabled old branch.UpRead ≡ true
      → (tunnel : Bool) → tunnel ≡ old.down.upgraded
      → UpReads tunnel old.duplex old.up new.duplex new.up result → new.down ≡ old.down
      → UpReadsOn up_holds ub up_blames q tunnel old.duplex old.up new.duplex new.up result
      → SoFar holds up ub old p q
      → Goes holds down_blames refuses cannot_end up_holds up_blames p q old new
      result
  goes_up_read up ub old new result p q on tunnel is does down w f =
      let T : Bool → Type 0 = λ b. UpReads b old.duplex old.up new.duplex new.up result in
      let W : Bool → Type 0 = λ b.
      UpReadsOn up_holds ub up_blames q b old.duplex old.up new.duplex new.up result in
      goes_up_read_so up ub old new result p q on (record { does = subst T is does; down = down })
      (subst W is w) f

  -- the upstream half came to its end
  pub goes_up_finish : (old new : State) (result : Step) (p : DownPast) (q : UpPast)
      → enabled old branch.UpFinish ≡ true → StepsTo branch.UpFinish old new result
      → SoFar holds up_holds up_blames old p q
      → Goes holds down_blames refuses cannot_end up_holds up_blames p q old new
      result
  goes_up_finish old new result p q on by f =
      let d = old.duplex in
      let w = by.does in
      let why = custom_error d.kind d.send_error in
      let alive = enabled_sound branch.UpFinish old on in
      let rest = and_right (up_runs d) _ on in
      goes_by holds down_blames refuses cannot_end up_holds up_blames
      branch.UpFinish old new result on by p q p q
      (extends_same p q)
      (adds_by branch.UpFinish old new result on by q q refl (λ is. cc))
      (quiet holds down_blames refuses cannot_end up_holds up_blames holds up_holds up_blames
      branch.UpFinish old new result p p q q on by
      (leaves_at _ _ _ w.duplex (leaves_up_finish d why)) refl refl refl refl f.down f.up
      (λ e b. b)
      (λ e h. f.send_error e (sym (kept_up_finish d why)
      ∙ sym (ap (λ (d : Duplex). d.send_error) w.duplex) ∙ h))
      (steady_same old new p by.down f.steady)
      (λ now plain.
      let was = sym (ap (λ (s : DownState). s.upgraded) by.down) ∙ plain in
      ordinary_then _ new old.down old.up p q w.duplex by.down by.up
      (ordinary_up_finish d old.down old.up why p q (up_open d (and_left (up_runs d) _ on))
      (and_right (not old.up.pending || is_some d.send_error) _ rest)
      (λ none. quiet_up old.up.pending d.send_error none
      (and_left (not old.up.pending || is_some d.send_error) _ rest))
      (f.sound.runs alive) (f.ordinary alive was) (alive_then new.duplex _ w.duplex now)))
      (marks_same old new q q (keep_at _ _ _ w.duplex (keep_up_finish d why)) by.up
      (leaves_at _ _ _ w.duplex (leaves_up_finish d why)).ended refl f.marks)
      f)
      (λ e h. inr (inl (f.send_error e (up_finish_error d d.kind d.send_error e
      (ap step_error (sym w.step ∙ h))))))
