-- Behind silent branches the next one goes on from where they left the exchange.
use Rattle.std.proofs.Common.{◌≡◌, ℕ, ◌+◌, ◌%◌, true, ◌⊎◌, get_or, ◌∙◌, ap, refl, sym, subst, arith}
use Rattle.relay_tasks.specs.declared.took.Pause.TheVariants as pause
use Rattle.relay_links.specs.Link.{LinkState}
use Rattle.relay_links.specs.declared.branch.Branch.{Branch}
use Rattle.relay_links.specs.declared.branch.Branch.TheVariants as branch
use Rattle.relay_links.specs.declared.branch.TheConstants.{BRANCHES}
use Rattle.relay_core.specs.Asked.{is_silent_for}
use Rattle.relay_core.specs.Causes.{Tells}
use Rattle.relay_core.specs.Down.{stays}
use Rattle.relay_core.specs.Moves.{Goes}
use Rattle.relay_core.specs.Past.{Origin, DownPast, UpPast}
use Rattle.relay_core.specs.Table.{State, core, enabled}
use Rattle.relay_core.specs.declared.step.Step.{Step}
use Rattle.relay_core.specs.declared.step.Step.TheVariants as step
use Rattle.relay_core.proofs.BoolLemmas.{clash}
use Rattle.relay_core.proofs.KeepLemmas.{goes_then}
use Rattle.relay_core.proofs.LastLemmas as last
use Rattle.relay_exchange.specs.Exchange.{IsSilentLink, TellsOn}
use Rattle.relay_exchange.proofs.PassLemmas.{asks_from, moved_from}
use Rattle.relay_exchange.proofs.CallLemmas.{calls_on}
use Rattle.relay_exchange.proofs.ToldLemmas.{told_from, told_on}
use Rattle.relay_exchange.proofs.RoundLemmas.{all_round, passed_first, passed_more, met, silent_link}
use Rattle.relay_exchange.proofs.round.go_round.Goals as goal

-- the first branch met silence, and was passed
pub loop-turn-init : goal.loop-turn-init
loop-turn-init g c =
    let t = c.step-step in
    let first = c.in-Some.first in
    let client = g.D.Down.link c.args.client.now in
    let up = g.U.Up.link c.args.up.now in
    let at : State =
    core c.args.duplex.now (g.D.Down.state c.args.down.now) (g.U.Up.state c.args.up.now) in
    let On : Origin → DownPast → UpPast → Step → Type 0 = λ s p q r.
    Goes (g.D.Down.past t.new.down t.new.client s) (g.D.Down.blames t.new.down t.new.client s)
    (g.D.Down.refuses t.new.down t.new.client s)
    (g.D.Down.cannot_end t.new.down t.new.client s) (g.U.Up.past t.new.up s)
    (g.U.Up.blames t.new.up s) p q at
    (core t.new.self (g.D.Down.state t.new.down) (g.U.Up.state t.new.up)) r in
    let Says : Step → Type 0 = λ r. Tells r t.new.self in
    let Silent : Branch → Type 0 = λ b. enabled at b ≡ true → is_silent_for client up b ≡ true in
    let silent : t.result ≡ step.Waited pause.Silent = c.if-not-is_silent.ensures.yes refl in
    let m = t.ensures.silent silent in (
      λ s p q f. subst (On s p q) silent (t.ensures.goes s p q f),
      subst Says silent t.ensures.tells,
      m.client_same,
      m.upstream_same,
      t.ensures.rests pause.Silent silent,
      passed_first Silent first (λ on. met first client client _ up up _ refl refl m),
      t.ensures.client_start,
      t.ensures.peer_start,
      (t.ensures.stands pause.Silent silent).duplex,
      (t.ensures.stands pause.Silent silent).pending,
      (t.ensures.stands pause.Silent silent).body_finished,
      (t.ensures.stands pause.Silent silent).calls,
      subst (λ (r : Step). TellsOn at.down.told (g.D.Down.state t.new.down).told r) silent
          (told_on first at
          (core t.new.self (g.D.Down.state t.new.down) (g.U.Up.state t.new.up)) t.result
          t.ensures.exact),
      t.ensures.lasts,
    )

-- a branch that cannot be taken is passed
pub loop-turn-preserved-then-not-enabled : goal.loop-turn-preserved-then-not-enabled
loop-turn-preserved-then-not-enabled g c =
    let i = c.loop-turn.invariant in
    let first = c.in-Some.first in
    let at : State =
    core c.args.duplex.now (g.D.Down.state c.args.down.now) (g.U.Up.state c.args.up.now) in
    let Silent : Branch → Type 0 = λ b. enabled at b ≡ true
    → is_silent_for (g.D.Down.link c.args.client.now) (g.U.Up.link c.args.up.now) b ≡ true in (
      i.0,
      i.1,
      i.2,
      i.3,
      i.4,
      passed_more Silent first _ c.loop-turn.turn _ refl i.5
          (ap (λ (n : ℕ). get_or BRANCHES ((n + c.loop-turn.turn) % 13) branch.UpWrite)
          (sym c.place.ensures))
          (λ on. clash _ (i.4 _ ∙ on) (sym c.enabled.ensures ∙ c.if-not-enabled.true)),
      i.6,
      i.7,
      i.8,
      i.9,
      i.10,
      i.11,
      i.12,
      i.13,
    )

-- the first branch that met no silence goes on from those before it
pub returns-then-not-is_silent-2-clause-goes : goal.returns-then-not-is_silent-2-clause-goes
returns-then-not-is_silent-2-clause-goes g c =
    λ s p q f _ _.
    let before = c.loop-turn.invariant.0 s p q f in
    goes_then _ _ _ _ _ _ p before.p q before.q _ _ _ _ before.extends before.adds
    (c.step-step-in-loop-turn.ensures.goes s before.p before.q before.so_far)

-- one more branch met silence, and was passed
pub loop-turn-preserved : goal.loop-turn-preserved
loop-turn-preserved g c =
    let i = c.loop-turn.invariant in
    let t = c.step-step-in-loop-turn in
    let first = c.in-Some.first in
    let client = g.D.Down.link c.args.client.now in
    let up = g.U.Up.link c.args.up.now in
    let at : State =
    core c.args.duplex.now (g.D.Down.state c.args.down.now) (g.U.Up.state c.args.up.now) in
    let On : Origin → DownPast → UpPast → Step → Type 0 = λ s p q r.
    Goes (g.D.Down.past t.new.down t.new.client s) (g.D.Down.blames t.new.down t.new.client s)
    (g.D.Down.refuses t.new.down t.new.client s)
    (g.D.Down.cannot_end t.new.down t.new.client s) (g.U.Up.past t.new.up s)
    (g.U.Up.blames t.new.up s) p q
    (core c.loop-turn.duplex (g.D.Down.state c.loop-turn.down) (g.U.Up.state c.loop-turn.up))
    (core t.new.self (g.D.Down.state t.new.down) (g.U.Up.state t.new.up)) r in
    let Says : Step → Type 0 = λ r. Tells r t.new.self in
    let Silent : Branch → Type 0 = λ b. enabled at b ≡ true → is_silent_for client up b ≡ true in
    let silent : t.result ≡ step.Waited pause.Silent = c.if-not-is_silent-2.ensures.yes refl in
    let m = t.ensures.silent silent in (
      λ s p q f.
          let before = i.0 s p q f in
          goes_then _ _ _ _ _ _ p before.p q before.q _ _ _ _ before.extends before.adds
          (subst (On s before.p before.q) silent
          (t.ensures.goes s before.p before.q before.so_far)),
      subst Says silent t.ensures.tells,
      m.client_same ∙ i.2,
      m.upstream_same ∙ i.3,
      λ b. t.ensures.rests pause.Silent silent b ∙ i.4 b,
      passed_more Silent first _ c.loop-turn.turn _ refl i.5
          (ap (λ (n : ℕ). get_or BRANCHES ((n + c.loop-turn.turn) % 13) branch.UpWrite)
          (sym c.place.ensures))
          (λ on. met _ client _ _ up _ _ i.2 i.3 m),
      t.ensures.client_start ∙ i.6,
      t.ensures.peer_start ∙ i.7,
      (t.ensures.stands pause.Silent silent).duplex ∙ i.8,
      (t.ensures.stands pause.Silent silent).pending ∙ i.9,
      (t.ensures.stands pause.Silent silent).body_finished ∙ i.10,
      (t.ensures.stands pause.Silent silent).calls ∙ i.11,
      subst
          (λ (r : Step).
          TellsOn (g.D.Down.state c.loop-turn.down).told (g.D.Down.state t.new.down).told r)
          silent
          (told_on _
          (core c.loop-turn.duplex (g.D.Down.state c.loop-turn.down)
          (g.U.Up.state c.loop-turn.up))
          (core t.new.self (g.D.Down.state t.new.down) (g.U.Up.state t.new.up)) t.result
          t.ensures.exact) ∙ i.12,
      last.behind g.D.Down.lasts c.args.down.now c.loop-turn.down t.new.down i.13 t.ensures.lasts,
    )

-- all branches were passed: each that can be taken asks a silent link
pub returns-clause-quiet : goal.returns-clause-quiet
returns-clause-quiet g c = λ _.
    let i = c.loop-turn.invariant in
    let first = c.in-Some.first in
    let client = g.D.Down.link c.args.client.now in
    let up = g.U.Up.link c.args.up.now in
    let at : State =
    core c.args.duplex.now (g.D.Down.state c.args.down.now) (g.U.Up.state c.args.up.now) in
    let Silent : Branch → Type 0 = λ b. enabled at b ≡ true → is_silent_for client up b ≡ true in
    let Met : LinkState → LinkState → Branch → Type 0 = λ l k b. is_silent_for l k b ≡ true in (
      λ b on.
          subst (λ (l : LinkState). Met l (g.U.Up.link c.loop-turn.up) b) (sym i.2)
          (subst (λ (k : LinkState). Met client k b) (sym i.3)
          (all_round Silent first c.loop-turn.turn (omega (arith, c.loop-turn-test.false)) i.5 b
          (sym (i.4 b) ∙ on))),
      i.2,
      i.3,
    )

-- all branches were passed: one of both links is silent
pub returns-clause-silent : goal.returns-clause-silent
returns-clause-silent g c = λ _.
    let i = c.loop-turn.invariant in
    let first = c.in-Some.first in
    let client = g.D.Down.link c.args.client.now in
    let up = g.U.Up.link c.args.up.now in
    let at : State =
    core c.args.duplex.now (g.D.Down.state c.args.down.now) (g.U.Up.state c.args.up.now) in
    let Silent : Branch → Type 0 = λ b. enabled at b ≡ true → is_silent_for client up b ≡ true in
    let Some_link : LinkState → LinkState → Type 0 =
    λ l k. IsSilentLink l ⊎ IsSilentLink k in
    subst (λ (l : LinkState). Some_link l (g.U.Up.link c.loop-turn.up)) (sym i.2)
    (subst (λ (k : LinkState). Some_link client k) (sym i.3)
    (silent_link client up first
    (all_round Silent first c.loop-turn.turn (omega (arith, c.loop-turn-test.false)) i.5 first
    c.in-Some.ensures.can)))

-- the first branch that met no silence tells what it fails with
pub returns-then-not-is_silent-clause-errors : goal.returns-then-not-is_silent-clause-errors
returns-then-not-is_silent-clause-errors g c =
    let t = c.step-step in
    told_on c.in-Some.first
    (core c.args.duplex.now (g.D.Down.state c.args.down.now) (g.U.Up.state c.args.up.now))
    (core t.new.self (g.D.Down.state t.new.down) (g.U.Up.state t.new.up)) t.result t.ensures.exact

-- and so does one behind silent branches, which told nothing
pub returns-then-not-is_silent-2-clause-errors : goal.returns-then-not-is_silent-2-clause-errors
returns-then-not-is_silent-2-clause-errors g c =
    let t = c.step-step-in-loop-turn in
    told_from (g.D.Down.state c.args.down.now).told (g.D.Down.state c.loop-turn.down).told
    (g.D.Down.state t.new.down).told t.result c.loop-turn.invariant.12
    (told_on _
    (core c.loop-turn.duplex (g.D.Down.state c.loop-turn.down) (g.U.Up.state c.loop-turn.up))
    (core t.new.self (g.D.Down.state t.new.down) (g.U.Up.state t.new.up)) t.result
    t.ensures.exact)

-- nor does the first branch take a call of a hook back
pub returns-then-not-is_silent-clause-calls : goal.returns-then-not-is_silent-clause-calls
returns-then-not-is_silent-clause-calls g c =
    let t = c.step-step in
    calls_on c.in-Some.first
    (core c.args.duplex.now (g.D.Down.state c.args.down.now) (g.U.Up.state c.args.up.now))
    (core t.new.self (g.D.Down.state t.new.down) (g.U.Up.state t.new.up)) t.result t.ensures.exact

-- nor one behind silent branches, which made none
pub returns-then-not-is_silent-2-clause-calls : goal.returns-then-not-is_silent-2-clause-calls
returns-then-not-is_silent-2-clause-calls g c = λ unfailed.
    let t = c.step-step-in-loop-turn in
    let same = c.loop-turn.invariant.11 in
    let more = calls_on _
    (core c.loop-turn.duplex (g.D.Down.state c.loop-turn.down) (g.U.Up.state c.loop-turn.up))
    (core t.new.self (g.D.Down.state t.new.down) (g.U.Up.state t.new.up)) t.result
    t.ensures.exact unfailed in
    omega arith

-- behind silent branches one link was asked once, or none
pub returns-then-not-is_silent-2-clause-asks : goal.returns-then-not-is_silent-2-clause-asks
returns-then-not-is_silent-2-clause-asks g c =
    let i = c.loop-turn.invariant in
    let t = c.step-step-in-loop-turn in
    asks_from t.result (g.D.Down.link c.args.client.now) (g.D.Down.link c.loop-turn.client)
    (g.D.Down.link t.new.client) (g.U.Up.link c.args.up.now) (g.U.Up.link c.loop-turn.up)
    (g.U.Up.link t.new.up) i.2 i.3 t.ensures.asks

-- and what the next one moved, it moved from where they left the duplex, as it was
pub returns-then-not-is_silent-2-clause-moves : goal.returns-then-not-is_silent-2-clause-moves
returns-then-not-is_silent-2-clause-moves g c = λ s p q f is.
    let i = c.loop-turn.invariant in
    let t = c.step-step-in-loop-turn in
    let before = i.0 s p q f in
    moved_from
    (core c.args.duplex.now (g.D.Down.state c.args.down.now) (g.U.Up.state c.args.up.now))
    (core c.loop-turn.duplex (g.D.Down.state c.loop-turn.down) (g.U.Up.state c.loop-turn.up))
    (core t.new.self (g.D.Down.state t.new.down) (g.U.Up.state t.new.up)) i.8 i.9 i.10 i.11 _
    (g.D.Down.link c.args.client.now) (g.D.Down.link c.loop-turn.client)
    (g.D.Down.link t.new.client) (g.U.Up.link c.args.up.now) (g.U.Up.link c.loop-turn.up)
    (g.U.Up.link t.new.up) i.2 i.3 (t.ensures.moves s before.p before.q before.so_far is)

-- where all branches were passed neither link was asked
pub returns-clause-asks : goal.returns-clause-asks
returns-clause-asks g c =
    record { client_same = c.loop-turn.invariant.2; upstream_same = c.loop-turn.invariant.3 }

-- no branch can be taken: no call was made
pub returns-in_default-clause-lasts : goal.returns-in_default-clause-lasts
returns-in_default-clause-lasts g c = stays

-- the next branch's call behind those before
pub returns-then-not-is_silent-2-clause-lasts : goal.returns-then-not-is_silent-2-clause-lasts
returns-then-not-is_silent-2-clause-lasts g c =
    let t = c.step-step-in-loop-turn in
    last.behind g.D.Down.lasts c.args.down.now c.loop-turn.down t.new.down
    c.loop-turn.invariant.13 t.ensures.lasts
