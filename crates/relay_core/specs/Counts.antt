-- What a step adds to what passed, in numbers: what is held of the response more was read, and the
-- ends that came stay. So the tasks that move are no more than twice those that the sides gave, and
-- each end comes once.
use Rattle.std.specs.Prelude.{◌≡◌, ℕ, ◌+◌, ◌≤◌, Bool, true, false, not, length}
use Rattle.relay_links.specs.declared.branch.Branch.{Branch}
use Rattle.relay_links.specs.declared.branch.Branch.TheVariants as branch
use Rattle.relay_core.specs.Past.{DownPast, UpPast}
use Rattle.relay_core.specs.State.{is_reading, is_response_done}
use Rattle.relay_core.specs.Table.{State, is_failed}
use Rattle.relay_core.specs.Uses.{MovesInside}

-- 1 where that is so
abbrev pub one_if : Bool → ℕ
one_if true = 1
one_if false = 0

-- how many tasks the upstream's side gave, and one more for its end, which may be a failure
abbrev pub read_count : State → UpPast → ℕ
read_count s q = length q.read + one_if s.duplex.upstream_response_done

-- how many tasks were put into the pipes so far, and taken out of them: each one put goes once in
-- and once out, but for those that are held
pub record Carries (moved : ℕ) (s : State) (p : DownPast) (q : UpPast) : Type 0 where
  pub within : moved + length s.duplex.responses.tasks
      ≤ length p.put + length q.taken + (read_count s q + read_count s q)

-- which ends have not come: those of the client's request and of its response, of both halves, and
-- of the response's body
abbrev pub ends_left : State → ℕ
ends_left s =
    one_if (is_reading s.duplex.client_request)
    + one_if (not (is_response_done s.duplex.client_response))
    + one_if (not s.duplex.upstream_finished) + one_if (not s.duplex.client_finished)
    + one_if (not s.down.body_finished)

-- the ends that came stay
pub record EndsStay (old new : State) : Type 0 where
  pub request : is_reading old.duplex.client_request ≡ false
      → is_reading new.duplex.client_request ≡ false
  pub response : is_response_done old.duplex.client_response ≡ true
      → is_response_done new.duplex.client_response ≡ true
  pub up_finished : old.duplex.upstream_finished ≡ true → new.duplex.upstream_finished ≡ true
  pub client_finished : old.duplex.client_finished ≡ true → new.duplex.client_finished ≡ true
  pub body_finished : old.down.body_finished ≡ true → new.down.body_finished ≡ true

-- a step between these pasts of the upstream's side: what is held of the response more than before
-- was read, and nothing that was read is taken back. Without a tunnel, where no half failed, the
-- ends that came stay
pub record Adds (old new : State) (q q' : UpPast) : Type 0 where
  pub held : length new.duplex.responses.tasks + read_count old q
      ≤ length old.duplex.responses.tasks + read_count new q'
  pub read : read_count old q ≤ read_count new q'
  pub alive : is_failed new.duplex.word ≡ false → is_failed old.duplex.word ≡ false
  pub plain : new.down.upgraded ≡ false → old.down.upgraded ≡ false
  pub stay : is_failed new.duplex.word ≡ false → new.down.upgraded ≡ false → EndsStay old new

-- the branch moves a task where it asks no link
abbrev pub moves_task : Branch → Bool
moves_task branch.UpWrite = false
moves_task branch.DownWrite = false
moves_task branch.UpTake = true
moves_task branch.DownTake = true
moves_task branch.DownDrop = true
moves_task branch.DownEnd = false
moves_task branch.DownClosed = false
moves_task branch.UpRead = true
moves_task branch.DownRead = true
moves_task branch.UpFinish = false
moves_task branch.DownFinish = false
moves_task branch.MessageUp = false
moves_task branch.MessageDown = false

-- the branch brings an end
abbrev pub brings_end : Branch → Bool
brings_end branch.UpWrite = false
brings_end branch.DownWrite = false
brings_end branch.UpTake = false
brings_end branch.DownTake = false
brings_end branch.DownDrop = false
brings_end branch.DownEnd = true
brings_end branch.DownClosed = true
brings_end branch.UpRead = false
brings_end branch.DownRead = false
brings_end branch.UpFinish = true
brings_end branch.DownFinish = true
brings_end branch.MessageUp = false
brings_end branch.MessageDown = false

-- a step counts as so many tasks and so many ends: as none, as a task that it moved, or as an end
-- that it brought
pub data CountsAs (old new : State) : ℕ → ℕ → Type 0 where
  as_none : CountsAs old new 0 0
  as_task : (b : Branch) → moves_task b ≡ true → MovesInside b old new → CountsAs old new 1 0
  as_end : (b : Branch) → brings_end b ≡ true → MovesInside b old new → CountsAs old new 0 1
