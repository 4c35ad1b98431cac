-- A sound state stays sound whatever step is taken.
use Rattle.std.proofs.Common.{◌≡◌, ◌≤◌, true, false, List, [], ◌∷◌, ◌++◌, length, Option, None, is_some, refl, ap, ◌∙◌, arith}
use Rattle.relay_tasks.specs.declared.error.Error.{Error}
use Rattle.relay_tasks.specs.declared.task.HttpTask.{HttpTask}
use Rattle.relay_links.specs.declared.branch.Branch.{Branch}
use Rattle.relay_links.specs.declared.branch.Branch.TheVariants as branch
use Rattle.relay_core.specs.declared.duplex.Duplex.{Duplex}
use Rattle.relay_core.specs.declared.step.Step.{Step}
use Rattle.relay_core.specs.Down.{DownState}
use Rattle.relay_core.specs.Pipe.{Held, places, with_task}
use Rattle.relay_core.specs.Sound.{IsSound}
use Rattle.relay_core.specs.Steps.{StepsTo}
use Rattle.relay_core.specs.Table.{State, enabled, down_runs, up_runs, is_failed}
use Rattle.relay_core.specs.Up.{UpState}
use Rattle.relay_core.proofs.BoolLemmas.{clash, and_left}
use Rattle.relay_core.proofs.RunsLemmas.{up_sound, down_sound, step_runs}
use Rattle.relay_core.proofs.FitsLemmas.{step_fits}

-- a branch is enabled only where no half failed
pub enabled_sound : (b : Branch) (s : State) → enabled s b ≡ true → is_failed s.duplex.word ≡ false
enabled_sound branch.UpWrite s on = up_sound s.duplex (and_left (up_runs s.duplex) _ on)
enabled_sound branch.DownWrite s on = down_sound s.duplex (and_left (down_runs s.duplex) _ on)
enabled_sound branch.UpTake s on = up_sound s.duplex (and_left (up_runs s.duplex) _ on)
enabled_sound branch.DownTake s on = down_sound s.duplex (and_left (down_runs s.duplex) _ on)
enabled_sound branch.DownDrop s on = down_sound s.duplex (and_left (down_runs s.duplex) _ on)
enabled_sound branch.DownEnd s on = down_sound s.duplex (and_left (down_runs s.duplex) _ on)
enabled_sound branch.DownClosed s on = down_sound s.duplex (and_left (down_runs s.duplex) _ on)
enabled_sound branch.UpRead s on = up_sound s.duplex (and_left (up_runs s.duplex) _ on)
enabled_sound branch.DownRead s on = down_sound s.duplex (and_left (down_runs s.duplex) _ on)
enabled_sound branch.UpFinish s on = up_sound s.duplex (and_left (up_runs s.duplex) _ on)
enabled_sound branch.DownFinish s on = down_sound s.duplex (and_left (down_runs s.duplex) _ on)
enabled_sound branch.MessageUp s on = clash false on refl
enabled_sound branch.MessageDown s on = clash false on refl

-- a sound state stays sound whatever step is taken
pub step_sound : (b : Branch) (old new : State) (result : Step) → enabled old b ≡ true
    → StepsTo b old new result → IsSound old → IsSound new
step_sound b old new result on by sound =
    let fits = step_fits b old new result on by
    (record { requests = sound.requests_fit; responses = sound.responses_fit }) in
    record {
      requests_fit = fits.requests;
      responses_fit = fits.responses;
      runs = step_runs b old new result on by (sound.runs (enabled_sound b old on));
    }

-- a duplex that begins stays sound with the replay put
pub sound_replay : (d : Duplex) (pipe : Held) (down : DownState) (up : UpState)
    (task : HttpTask) → d.requests.tasks ≡ [] → pipe ≡ with_task d.requests task
    → d.send_error ≡ None → d.upstream_response_done ≡ false
    → IsSound (record { duplex = d; down = down; up = up })
    → IsSound (record {
      duplex = record d { requests = pipe; upstream_request_done = false };
      down = down;
      up = up;
    })
sound_replay d pipe down up task empty is unsent unread sound = record {
  requests_fit =
      let same : pipe.tasks ≡ task ∷ [] =
      ap (λ (p : Held). p.tasks) is ∙ ap (λ (xs : List HttpTask). xs ++ task ∷ []) empty in
      let fits : length (task ∷ []) ≤ places = omega arith in
      rw same fits;
  responses_fit = sound.responses_fit;
  runs = λ alive.
      let r = sound.runs alive in
      record {
        uncached = r.uncached;
        reading = r.reading;
        unsent = λ h. clash (is_some d.send_error) h (ap (λ (e : Option Error). is_some e) unsent);
        ended = λ h. clash d.upstream_response_done h unread;
        requests_closed = ap (λ (p : Held). p.closed) is ∙ r.requests_closed;
        responses_closed = r.responses_closed;
        complete = r.complete;
      };
}
