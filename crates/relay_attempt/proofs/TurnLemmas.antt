-- What a turn makes of an exchange over HTTP/1 links, by what it makes of one over any two sides.
use Rattle.std.proofs.Common.{◌≡◌, ℕ, ◌⊎◌, List, Result, Err, ◌↔◌, inl, inr, refl, ap, ◌∙◌}
use Rattle.std.specs.Result.{IsErrOf}
use Rattle.relay_tasks.specs.declared.error.Fail.{Fail}
use Rattle.relay_tasks.specs.declared.error.Fail.TheVariants as fail
use Rattle.relay_links.specs.Count.{up}
use Rattle.relay_links.specs.Link.{LinkState, LinkStart}
use Rattle.relay_core.specs.Past.{Origin, DownPast, UpPast}
use Rattle.relay_core.specs.Table.{State}
use Rattle.relay_core.specs.declared.step.Step.{Step}
use Rattle.relay_core.specs.declared.step.Step.TheVariants as step
use Rattle.relay_sides.specs.Client.{ClientBlames, ClientRefuses, CannotEnd}
use Rattle.relay_exchange.specs.Exchange as over
use Rattle.relay_exchange.specs.declared.exchange.Stage.TheVariants as stage
use Rattle.relay_attempt.specs.Exchange.{DownHolds, UpHolds, Blames, IsUnderWay, Turns, ComesTo, down_state, core_of}
use Rattle.relay_attempt.specs.Head.{link_of, IsRefusedFor}
use Rattle.relay_attempt.specs.declared.h1_exchange.H1Exchange.{H1Exchange}
use Rattle.relay_attempt.specs.declared.h1_exchange.Unbegun.{Unbegun}
use Rattle.relay_attempt.proofs.OrderLemmas.{passed_by, told_of_attempt, attempt_so_far, order_so_far}
use Rattle.relay_attempt.proofs.EndLemmas.{finished_of, fails_with}

-- ---- the beginning

-- an exchange is not begun where its head is refused
pub refused_as : {T L refuses : Type 0} (link : L) (why error : Fail)
    → IsErrOf {T = T} (Err why) error ↔ refuses
    → IsRefusedFor {L = L} (Err (record { link = link; why = why })) error ↔ refuses
refused_as {T} {L} link why error same =
    let err : Fail → Result T Fail = λ w. Err w in (
      λ r. same.0 (ap err (of r.0 r.1 ∙ r.2)),
      λ refuses. (record { link = link; why = why }, refl, as_err (same.1 refuses)),
    )
  where
    of : (unbegun : Unbegun L)
        → ◌≡◌ {A = Result (H1Exchange L) (Unbegun L)} (Err (record { link = link; why = why }))
        (Err unbegun)
        → why ≡ unbegun.why
    of unbegun same =
        let whole : Unbegun L = record { link = link; why = why } in
        let is : whole ≡ unbegun = cc in
        ap (λ (u : Unbegun L). u.why) is

    as_err : ◌≡◌ {A = Result T Fail} (Err why) (Err error) → why ≡ error
    as_err same = cc

module _ {L : Type 0} (state : L → LinkState) (start_at : L → LinkStart) where
  -- an exchange that is under way between both sides is, over all that passed
  abbrev pub under_way : (s : Origin) (p : DownPast) (q : UpPast) (link : LinkState)
      (ahead : List ℕ)
      (x : H1Exchange L)
      → over.IsUnderWay (DownHolds link ahead x.down s)
      (UpHolds state start_at x.exchange.up s) (Blames state start_at x.exchange.up s)
      (core_of state start_at x.exchange.duplex x.down x.exchange.up) p q
      → x.down.told.errors ≡ 0
      → IsUnderWay state start_at s (passed_by p q) link ahead x
  under_way s p q link ahead x under untold = record {
    order = order_so_far state start_at s p q link ahead x.down x.exchange.up
        x.exchange.duplex under.so_far (under.so_far.down.tasks.none untold);
    untold = untold;
    down = p;
    up = q;
    came = refl;
    written = refl;
    got = refl;
    sent = refl;
    holds = under;
  }

  -- what a turn between both sides is, over all that passed
  pub turned : (s : Origin) (link : LinkState) (ahead : List ℕ) (before : DownPast)
      (up_before : UpPast) (was : State) (x : H1Exchange L) (result : Step)
      → (result ≡ step.Finished → x.exchange.stage ≡ stage.Bodies)
      → over.Turns (DownHolds link ahead x.down s) (λ p e. ClientBlames s p link e)
      (λ p left e. ClientRefuses s p link x.down.told left e)
      (λ p e. ClientBlames s p link e ⊎ CannotEnd s p x.down.told e)
      (UpHolds state start_at x.exchange.up s)
      (Blames state start_at x.exchange.up s) before up_before was
      (core_of state start_at x.exchange.duplex x.down x.exchange.up) result
      → was.down.told.errors ≡ 0 → over.TellsOn was.down.told x.down.told result
      → Turns state start_at s link ahead x result
  turned s link ahead before up_before was x result bodies went untold tells = record {
    passed = passed_by went.p went.q;
    told = told_of_attempt state start_at s link (state (link_of x)) (start_at (link_of x))
        (down_state x.down)
        (attempt_so_far state start_at s went.p went.q link ahead x.down x.exchange.up
        x.exchange.duplex went.so_far);
    comes_to = comes result bodies went.comes_to tells;
  }
    where
      on : over.GoesOn x.exchange.duplex → x.down.told.errors ≡ was.down.told.errors
          → IsUnderWay state start_at s (passed_by went.p went.q) link ahead x
      on goes_on same =
          under_way s went.p went.q link ahead x
          (record { so_far = went.so_far; goes_on = goes_on }) (same ∙ untold)

      comes : (result : Step) → (result ≡ step.Finished → x.exchange.stage ≡ stage.Bodies)
          → over.ComesTo (λ p e. ClientBlames s p link e)
          (λ p left e. ClientRefuses s p link x.down.told left e)
          (λ p e. ClientBlames s p link e ⊎ CannotEnd s p x.down.told e)
          (Blames state start_at x.exchange.up s)
          (core_of state start_at x.exchange.duplex x.down x.exchange.up) went.p went.q
          result → over.TellsOn was.down.told x.down.told result
          → ComesTo state start_at s (passed_by went.p went.q) link ahead x result
      comes step.Moved bodies goes_on same = on goes_on same
      comes (step.Waited pause) bodies goes_on same = on goes_on same
      comes step.Finished bodies finishes same =
          finished_of state start_at s went.p went.q link ahead x (bodies refl) went.so_far
          (went.so_far.down.tasks.none (same ∙ untold)) (finishes refl)
      comes (step.Failed (fail.Error e)) bodies why tells =
          fails_with state start_at s went.p went.q link ahead x went.so_far e (elim tells [
            | inl same ↦ inl (same ∙ untold)
            | inr more ↦ inr (more.0 ∙ ap up untold, more.1)
          ]) why
      comes (step.Failed fail.OutOfMemory) bodies free same =
          order_so_far state start_at s went.p went.q link ahead x.down x.exchange.up
          x.exchange.duplex went.so_far (went.so_far.down.tasks.none (same ∙ untold))
