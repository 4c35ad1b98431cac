-- What a turn makes of an exchange.
--
--   turns_on      from the step of a duplex and what it tells: Turns
--   turns_failed  from such a step, and the send error that is kept: Turns
--   begun         from Begins, over a duplex that has put the first task at most: IsUnderWay
use Rattle.std.proofs.Common.{◌≡◌, Bool, true, false, inl, inr, List, [], ◌∷◌, ◌++◌, Option, Some, None, refl, sym, ap, subst, ◌∙◌}
use Rattle.std.specs.Prelude.{option_to_list}
use Rattle.std.specs.List.{list_any}
use Rattle.relay_tasks.specs.declared.error.Error.{Error}
use Rattle.relay_tasks.specs.declared.error.Fail.TheVariants as fail
use Rattle.relay_tasks.specs.declared.task.HttpTask.{HttpTask}
use Rattle.relay_tasks.specs.declared.task.HttpTask.TheVariants as task
use Rattle.relay_tasks.specs.Task.{is_end}
use Rattle.relay_links.specs.declared.link.Put.{Put}
use Rattle.relay_links.specs.declared.link.Put.TheVariants as put
use Rattle.relay_core.specs.Causes.{Tells, says_finished}
use Rattle.relay_core.specs.Down.{DownState}
use Rattle.relay_core.specs.Moves.{EndsLast, Goes, Ordinary, SoFar}
use Rattle.relay_core.specs.Past.{DownPast, UpPast}
use Rattle.relay_core.specs.Sound.{IsSound}
use Rattle.relay_core.specs.State.{is_reading}
use Rattle.relay_core.specs.State as state
use Rattle.relay_core.specs.Table.{State, begins, core, step_of_up_write, with_replay}
use Rattle.relay_core.specs.Up.{UpState}
use Rattle.relay_core.specs.declared.duplex.Duplex.{Duplex}
use Rattle.relay_core.specs.declared.step.Step.{Step}
use Rattle.relay_core.specs.declared.step.Step.TheVariants as step
use Rattle.relay_links.specs.declared.link.UpKind.{UpKind}
use Rattle.relay_exchange.specs.Exchange.{Begins, IsUnderWay, ComesTo, Turns}

-- a write to the upstream finishes nothing
pub write_unfinished : (answer : Put) → says_finished (step_of_up_write answer) ≡ false
write_unfinished (put.Took n) = refl
write_unfinished put.NotReady = refl
write_unfinished put.Silent = refl
write_unfinished (put.Failed fault) = refl
write_unfinished put.OutOfMemory = refl

module _
    (down_past : DownPast → Type 0) (down_blames : DownPast → Error → Type 0)
    (down_refuses : DownPast → List HttpTask → Error → Type 0)
    (down_cannot_end : DownPast → Error → Type 0)
    (up_past : UpPast → Type 0) (up_blames : UpPast → Error → Type 0) (before : DownPast)
    (up_before : UpPast) (old s : State)
  where
    -- a step of the duplex is a turn
    pub turns_on : (result : Step)
        → Goes down_past down_blames down_refuses down_cannot_end up_past up_blames before up_before
        old s result → Tells result s.duplex
        → Turns down_past down_blames down_refuses down_cannot_end up_past up_blames before
        up_before old s result
    turns_on result went tells = record {
      p = went.p;
      q = went.q;
      extends = went.extends;
      adds = went.adds;
      so_far = went.so_far;
      comes_to = comes result went tells;
    }
      where
        comes : (result : Step)
            → (went : Goes down_past down_blames down_refuses down_cannot_end up_past up_blames
            before up_before old s result)
            → Tells result s.duplex
            → ComesTo down_blames down_refuses down_cannot_end up_blames s went.p went.q result
        comes step.Moved went tells =
            record { unfinished = sym tells.finished; unfailed = sym tells.failed }
        comes (step.Waited pause) went tells =
            record { unfinished = sym tells.finished; unfailed = sym tells.failed }
        comes step.Finished went tells = went.finished refl
        comes (step.Failed (fail.Error e)) went tells = went.blamed e refl
        comes (step.Failed fail.OutOfMemory) went tells = tt

    -- where a send error is kept it is the answer, for which the upstream's side answers
    pub turns_failed : (result : Step) (e : Error)
        → Goes down_past down_blames down_refuses down_cannot_end up_past up_blames before up_before
        old s result → s.duplex.send_error ≡ Some e
        → Turns down_past down_blames down_refuses down_cannot_end up_past up_blames before
        up_before old s (step.Failed (fail.Error e))
    turns_failed result e went kept = record {
      p = went.p;
      q = went.q;
      extends = went.extends;
      adds = went.adds;
      so_far = went.so_far;
      comes_to = inr (inl (went.so_far.send_error e kept));
    }

-- ---- the beginning

-- an empty list has an end nowhere
none_behind : (front behind : List HttpTask) → [] ≡ front ++ behind → behind ≡ []
none_behind [] behind is = sym is
none_behind (one ∷ front) behind is = absurd (cc)

-- behind an end among one task there is none
none_after : (first : HttpTask) (front behind : List HttpTask) → first ∷ [] ≡ front ++ behind
    → list_any is_end front ≡ true → behind ≡ []
none_after first [] behind is found = absurd (cc)
none_after first (one ∷ front) behind is found =
    let left : [] ≡ front ++ behind = cc in none_behind front behind left

-- nor behind one among the first task that was put, if there is one
first_last : (first : Option HttpTask) → EndsLast (option_to_list first)
first_last None = λ front behind is found. none_behind front behind is
first_last (Some one) = none_after one

-- an empty list holds no failure
none_held : (front behind : List HttpTask) (e : Error) → [] ≡ front ++ task.Failed e ∷ behind → ⊥
none_held [] behind e is = cc
none_held (one ∷ front) behind e is = cc

-- a request that is not read from its beginning on has ended
begun_done : (done : Bool) → is_reading (state.begun done) ≡ false → done ≡ true
begun_done true is = refl
begun_done false is = absurd (cc)

-- a duplex as it begins, with these tasks put, the upstream's request being done or not
abbrev begins_with : UpKind → Bool → List HttpTask → Bool → Duplex → Duplex
begins_with kind done tasks sent d = record (begins kind done d) {
  upstream_request_done = sent;
  requests = record { tasks = tasks; closed = false; failed = false };
}

module _
    (down_past : DownPast → Type 0) (up_past : UpPast → Type 0)
    (up_blames : UpPast → Error → Type 0) (done : Bool) (first : Option HttpTask)
    (down : DownState) (up : UpState) (p : DownPast) (q : UpPast)
    (b : Begins down_past up_past done first down up p q)
  where
    -- nothing was put behind an end
    ends_last : EndsLast p.put
    ends_last = subst EndsLast (sym b.first_put) (first_last first)

    -- an end was put exactly where the request has ended
    ended : list_any is_end p.put ≡ true → down.request_ended ≡ true
    ended = λ is. sym b.end_put ∙ is

    -- so a request that has ended put a task
    none_ended : down.request_ended ≡ true → p.put ≡ [] → ⊥
    none_ended is none =
        let unended : false ≡ true = ap (list_any is_end) (sym none) ∙ (b.end_put ∙ is) in
        absurd (cc)

    module _ (tasks : List HttpTask) (sent : Bool)
        (is_put : p.put ≡ tasks)
        (whole : sent ≡ true → (tasks ≡ []) × (done ≡ true))
      where
        -- nothing was asked for, lost or taken
        ordinary : (d : Duplex)
            → Ordinary (core (begins_with up.kind done tasks sent d) down up) p q
        ordinary d = record {
          ends_last = ends_last;
          ended = ended;
          request_done = λ is. inl (b.ended (begun_done done is));
          unlost = λ none. b.none_lost;
          whole = λ none is. (let w = whole is in (w.0, b.ended w.1));
          put_end = λ is. inl (b.end_put ∙ is);
          taken_end = λ is none. absurd (none_ended is (is_put ∙ none));
          sent = λ none is. absurd (cc);
          through = λ is. absurd (cc);
          answered = λ is. absurd (cc);
          client_done = λ is. absurd (cc);
          closed = inl b.none_closing;
        }

        -- the exchange so far is that of both sides as they begin
        so_far : (d : Duplex) → IsSound (core (begins_with up.kind done tasks sent d) down up)
            → SoFar down_past up_past up_blames
            (core (begins_with up.kind done tasks sent d) down up) p q
        so_far d sound = record {
          down = b.down_holds;
          up = b.up_holds;
          sound = sound;
          requests = is_put ∙ ap (λ (taken : List HttpTask). taken ++ tasks) (sym b.none_taken);
          responses = record {
            given = [];
            refused = None;
            rest = [];
            failure = None;
            dropped = [];
            is_batched = b.none_batched;
            front = b.none_read;
            same = refl;
            none_refused = λ is. refl;
            none_dropped = λ is. refl;
            none_failed = λ is. refl;
          };
          unended = λ is. ap (list_any is_end) b.none_read;
          send_error = λ e is. absurd (cc);
          failures = λ front behind e is. absurd (none_held front behind e is);
          steady = λ is. record {
            ends_last = ends_last;
            ended = ended;
            closed = inl b.none_closing;
          };
          ordinary = λ alive is. ordinary d;
          marks = record { kind = refl; sends = sym b.unsent; reads = λ is. b.unread };
        }

        -- it is under way
        under_way : (d : Duplex) → IsSound (core (begins_with up.kind done tasks sent d) down up)
            → IsUnderWay down_past up_past up_blames
            (core (begins_with up.kind done tasks sent d) down up) p q
        under_way d sound = record {
          so_far = so_far d sound;
          goes_on = record { unfinished = refl; unfailed = refl };
        }

module _
    (down_past : DownPast → Type 0) (up_past : UpPast → Type 0)
    (up_blames : UpPast → Error → Type 0) (done : Bool)
  where
    -- by the first task
    begun_by : (first : Option HttpTask) (down : DownState) (up : UpState) (p : DownPast)
        (q : UpPast) → Begins down_past up_past done first down up p q → (d : Duplex)
        → IsSound (core (with_replay (begins up.kind done d) first) down up)
        → IsUnderWay down_past up_past up_blames
        (core (with_replay (begins up.kind done d) first) down up) p q
    begun_by None down up p q b d sound =
        under_way down_past up_past up_blames done None down up p q b [] done b.first_put
        (λ is. (refl, is)) d sound
    begun_by (Some one) down up p q b d sound =
        under_way down_past up_past up_blames done (Some one) down up p q b (one ∷ []) false
        b.first_put (λ is. absurd (cc)) d sound

    -- an exchange begins with both sides as they are
    pub begun : (first : Option HttpTask) (down : DownState) (up : UpState) (p : DownPast)
        (q : UpPast) → Begins down_past up_past done first down up p q → (d : Duplex)
        → d ≡ with_replay (begins up.kind done d) first → IsSound (core d down up)
        → IsUnderWay down_past up_past up_blames (core d down up) p q
    begun first down up p q b d is sound =
        let Under : Duplex → Type 0 = λ x.
        IsUnderWay down_past up_past up_blames (core x down up) p q in
        let Sound : Duplex → Type 0 = λ x. IsSound (core x down up) in
        subst Under (sym is) (begun_by first down up p q b d (subst Sound is sound))
