-- What a step says of the links: the link that its branch asks is what it waits for, or what moved.
use Rattle.std.specs.Prelude.{◌≡◌, ◌⊎◌, Bool, true, false, [], ◌∷◌, ◌++◌}
use Rattle.relay_tasks.specs.declared.task.HttpTask.{HttpTask}
use Rattle.relay_links.specs.Count.{up}
use Rattle.relay_links.specs.Link.{LinkState}
use Rattle.relay_links.specs.declared.branch.Branch.{Branch}
use Rattle.relay_links.specs.declared.branch.Branch.TheVariants as branch
use Rattle.relay_core.specs.declared.duplex.Duplex.{Duplex}
use Rattle.relay_core.specs.Past.{GaveBytes}
use Rattle.relay_core.specs.Table.{State, enabled}

-- the link that the branch asks is silent on what the branch asks of it; a branch that asks none
-- meets no silence
abbrev pub is_silent_for : LinkState → LinkState → Branch → Bool
is_silent_for client upstream branch.UpWrite = upstream.silent_on_write
is_silent_for client upstream branch.DownWrite = client.silent_on_write
is_silent_for client upstream branch.UpTake = false
is_silent_for client upstream branch.DownTake = false
is_silent_for client upstream branch.DownDrop = false
is_silent_for client upstream branch.DownEnd = false
is_silent_for client upstream branch.DownClosed = false
is_silent_for client upstream branch.UpRead = upstream.silent_on_read
is_silent_for client upstream branch.DownRead = client.silent_on_read
is_silent_for client upstream branch.UpFinish = false
is_silent_for client upstream branch.DownFinish = false
is_silent_for client upstream branch.MessageUp = false
is_silent_for client upstream branch.MessageDown = false

-- a step by the branch met silence, and neither link changed
pub record MeetsSilence (b : Branch) (client client' upstream upstream' : LinkState) : Type 0 where
  pub silent : is_silent_for client' upstream' b ≡ true
  pub client_same : client' ≡ client
  pub upstream_same : upstream' ≡ upstream

-- one of the links answered in between that it has to be waited for
abbrev pub WaitRose : LinkState → LinkState → LinkState → LinkState → Type 0
WaitRose client client' upstream upstream' =
    (client'.waits ≡ up client.waits) ⊎ (upstream'.waits ≡ up upstream.waits)

-- a read of the upstream brought a task, or its link gave bytes
abbrev pub Brings : Duplex → Duplex → LinkState → LinkState → Type 0
Brings before after upstream upstream' =
    ((task : HttpTask) × (after.responses.tasks ≡ before.responses.tasks ++ task ∷ []))
    ⊎ GaveBytes upstream upstream'

-- each branch that can be taken asks a link that is silent on it
abbrev pub IsQuiet : State → LinkState → LinkState → Type 0
IsQuiet s client upstream =
    (b : Branch) → enabled s b ≡ true → is_silent_for client upstream b ≡ true
