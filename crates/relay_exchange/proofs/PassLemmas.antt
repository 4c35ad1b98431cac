-- What a step moved behind branches that met silence, which left the duplex and both links.
--
--   may_ask       from Asks, whatever the answer: one link was asked once, or none
--   asks_from, moved_from    from where the first branch began
use Rattle.std.proofs.Common.{◌≡◌, ℕ, ◌<◌, sym, ◌∙◌, subst, inl, inr}
use Rattle.relay_tasks.specs.declared.took.Pause.TheVariants as pause
use Rattle.relay_links.specs.Link.{LinkState}
use Rattle.relay_links.specs.declared.branch.Branch.{Branch}
use Rattle.relay_links.specs.declared.branch.Branch.TheVariants as branch
use Rattle.relay_core.specs.Table.{State, core}
use Rattle.relay_core.specs.Uses.{Asks, AsksOne, HasMoved, MayAsk, MovesInside}
use Rattle.relay_core.specs.declared.duplex.Duplex.{Duplex}
use Rattle.relay_core.specs.declared.step.Step.{Step}
use Rattle.relay_core.specs.declared.step.Step.TheVariants as step

-- whatever the answer, one link was asked once or none
pub may_ask : (result : Step) (client client' upstream upstream' : LinkState)
    → Asks result client client' upstream upstream' → MayAsk client client' upstream upstream'
may_ask step.Moved client client' upstream upstream' asks = asks
may_ask (step.Waited pause.NotReady) client client' upstream upstream' asks = inl asks
may_ask (step.Waited pause.Silent) client client' upstream upstream' asks = inr asks
may_ask step.Finished client client' upstream upstream' asks = inr asks
may_ask (step.Failed why) client client' upstream upstream' asks = asks

-- a write that moved asked the upstream's link
pub write_asked : (old new : State) (client client' upstream upstream' : LinkState)
    → HasMoved branch.UpWrite old new client client' upstream upstream'
    → AsksOne upstream upstream' client client'
write_asked old new client client' upstream upstream' moved = elim moved [
  | inl asks ↦ asks
  | inr between ↦ absurd between.moves
]

-- what was asked behind branches that left both links
pub asks_from : (result : Step) (client₀ client client' upstream₀ upstream upstream' : LinkState)
    → client ≡ client₀ → upstream ≡ upstream₀ → Asks result client client' upstream upstream'
    → Asks result client₀ client' upstream₀ upstream'
asks_from result client₀ client client' upstream₀ upstream upstream' is is' asks =
    subst (λ (l : LinkState). Asks result l client' upstream₀ upstream') is
    (subst (λ (l : LinkState). Asks result client client' l upstream') is' asks)

module _ (first mid new : State) (same : mid.duplex ≡ first.duplex)
    (pending : mid.down.pending ≡ first.down.pending)
    (body : mid.down.body_finished ≡ first.down.body_finished)
    (calls : mid.down.calls ≡ first.down.calls)
  where
    -- the same of a task, an end or a call, whose branch another duplex than that one does not see
    at : (b : Branch) → MovesInside b (core first.duplex mid.down mid.up) new
        → MovesInside b first new
    at branch.UpWrite moves = moves
    at branch.DownWrite moves = moves
    at branch.UpTake moves = moves
    at branch.DownTake moves = moves
    at branch.DownDrop moves = moves
    at branch.DownEnd moves = moves
    at branch.DownClosed moves = moves
    at branch.UpRead moves = moves
    at branch.DownRead moves = elim moves [
      | inl task ↦ inl task
      | inr called ↦ inr (subst (λ (n : ℕ). n < new.down.calls) calls called)
    ]
    at branch.UpFinish moves = moves
    at branch.DownFinish moves = elim moves [
      | inl waits ↦ inl (sym pending ∙ waits.0, waits.1, sym body ∙ waits.2, waits.3)
      | inr done ↦ inr done
    ]
    at branch.MessageUp moves = moves
    at branch.MessageDown moves = moves

    -- what a branch moved behind others that met silence
    moves_from : (b : Branch) → MovesInside b mid new → MovesInside b first new
    moves_from b moves =
        at b (subst (λ (d : Duplex). MovesInside b (core d mid.down mid.up) new) same moves)

    -- the same with the links
    pub moved_from : (b : Branch)
        (client₀ client client' upstream₀ upstream upstream' : LinkState)
        → client ≡ client₀ → upstream ≡ upstream₀
        → HasMoved b mid new client client' upstream upstream'
        → HasMoved b first new client₀ client' upstream₀ upstream'
    moved_from b client₀ client client' upstream₀ upstream upstream' is is' moved =
        elim (subst (λ (l : LinkState). HasMoved b mid new l client' upstream₀ upstream') is
        (subst (λ (l : LinkState). HasMoved b mid new client client' l upstream') is' moved)) [
          | inl asks ↦ inl asks
          | inr between ↦
              inr (record { unasked = between.unasked; moves = moves_from b between.moves })
        ]
