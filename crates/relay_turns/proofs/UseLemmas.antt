-- How often a turn of an exchange asked both links, and what it moved.
--
--   turned_uses, moved_uses    the uses of a turn, from what both links say of them
--   exchange_moved             a branch of the exchange that moved
--   settled_uses, settled_moves    the same of a step, whose phase was settled
use Rattle.std.specs.Global.{Box}
use Rattle.std.proofs.Common.{◌≡◌, ℕ, ◌≤◌, Bool, true, false, ◌↔◌, ◌⊎◌, List, [], ◌∷◌, Option, None, Some, refl, sym, ap, ◌∙◌, subst, inl, inr, arith}
use Rattle.std.specs.Prelude.{IsTrue, if◌then◌else◌}
use Rattle.std.proofs.lemmas.Bool.{cases_lt}
use Rattle.relay_tasks.specs.declared.log.LogEntry.{LogEntry}
use Rattle.relay_links.specs.Count.{last_count, up, Rose}
use Rattle.relay_links.specs.Link.{LinkState, LinkStart}
use Rattle.relay_links.specs.Told.{more}
use Rattle.relay_connector.specs.declared.Returned.{Returned}
use Rattle.relay_links.specs.declared.branch.Branch.{Branch}
use Rattle.relay_links.specs.declared.branch.Branch.TheVariants as branch
use Rattle.relay_core.specs.Table.{State}
use Rattle.relay_core.specs.Uses.{AsksEither, AsksNone, MayAsk}
use Rattle.relay_exchange.specs.Exchange as over
use Rattle.relay_attempt.specs.Passed.{Passed}
use Rattle.relay_hooked.specs.declared.exchange.HookedExchange.{HookedExchange}
use Rattle.relay_request.specs.Closing.{Settles}
use Rattle.relay_request.specs.Passed.{World, Start}
use Rattle.relay_request.specs.Phases.{IsRelaying, RunSoFar}
use Rattle.relay_request.specs.Turn.{held_state}
use Rattle.relay_request.specs.Uses.{BothUse, Measured, MovedBy, MovesOn, OwesAnswer, StandsBehind, TurnUses, work_by}
use Rattle.relay_request.specs.Work.{added_work}
use Rattle.relay_request.specs.declared.work.Work.{Work}
use Rattle.relay_request.specs.declared.uses.Uses.{Uses}
use Rattle.relay_request.specs.declared.machine.Attempt.{Attempt}
use Rattle.relay_request.specs.declared.machine.Phase.{Phase}
use Rattle.relay_request.specs.declared.machine.Phase.TheVariants.{ReadHead, Connect, Unlinked, Prepare, Relay, Broken, Again, Fail, Close, Answer, Ended}

-- a count that went up by one rose
up_rose : (before after : ℕ) → after ≡ up before → Rose before after
up_rose before after is = λ below. omega (arith, is, below)

-- one that stands at its last value goes up to it
stands_up : (before after : ℕ) → before ≤ last_count → after ≡ before → Rose before after
    → after ≡ up before
stands_up before after fits same rose = elim (cases_lt after last_count) [
  | inl below ↦ (let more = rose below in absurd (omega (arith, more, same)))
  | inr last ↦ omega (arith, same, fits, last)
]

-- whether a count rose, of the counts that were read
pub measured : (client client' upstream upstream' : LinkState) (before now : Uses) (asked : Bool)
    → (IsTrue asked ↔ (Rose before.client now.client ⊎ Rose before.upstream now.upstream))
    → before.client ≤ last_count → before.upstream ≤ last_count
    → before ≡ record { client = client.used; upstream = upstream.used }
    → now ≡ record { client = client'.used; upstream = upstream'.used }
    → Measured client client' upstream upstream' asked
measured client client' upstream upstream' before now asked rose fits fits' is is' = record {
  rose = rw (is, is') at rose;
  client_fits = rw is at fits;
  upstream_fits = rw is at fits';
}

module _ (client client' upstream upstream' : LinkState) (asked : Bool)
    (m : Measured client client' upstream upstream' asked)
  where
    -- where one of both links was asked, a count rose
    pub either_rose : AsksEither client client' upstream upstream' → asked ≡ true
    either_rose (inl one) = m.rose.1 (inl (up_rose client.used client'.used one.used))
    either_rose (inr one) = m.rose.1 (inr (up_rose upstream.used upstream'.used one.used))

    -- where neither was asked and a count rose, that stands at its last value
    none_rose : AsksNone client client' upstream upstream' → asked ≡ true
        → AsksEither client client' upstream upstream'
    none_rose none is = elim (m.rose.0 is) [
      | inl risen ↦ inl (record {
        used = stands_up client.used client'.used m.client_fits
            (ap (λ (l : LinkState). l.used) none.client_same) risen;
        other_same = none.upstream_same;
      })
      | inr risen ↦ inr (record {
        used = stands_up upstream.used upstream'.used m.upstream_fits
            (ap (λ (l : LinkState). l.used) none.upstream_same) risen;
        other_same = none.client_same;
      })
    ]

    -- the uses are one where a count rose
    pub turned_uses : MayAsk client client' upstream upstream'
        → BothUse (if asked then 1 else 0) client client' upstream upstream'
    turned_uses may = by asked refl may
      where
        by : (b : Bool) → asked ≡ b → MayAsk client client' upstream upstream'
            → BothUse (if b then 1 else 0) client client' upstream upstream'
        by true is (inl either) = inl (refl, either)
        by true is (inr none) = inl (refl, none_rose none is)
        by false is (inl either) = let wrong = sym (either_rose either) ∙ is in absurd (cc)
        by false is (inr none) = inr (refl, none)

    -- the uses of a read: of the branch that it is, or of none
    read_uses : AsksEither client client' upstream upstream'
        ⊎ AsksNone client client' upstream upstream'
        → BothUse (work_by (Some branch.UpRead) asked).used client client' upstream upstream'
    read_uses may = by asked refl may
      where
        by : (b : Bool) → asked ≡ b
            → AsksEither client client' upstream upstream'
            ⊎ AsksNone client client' upstream upstream'
            → BothUse (work_by (Some branch.UpRead) b).used client client' upstream upstream'
        by true is (inl either) = inl (refl, either)
        by true is (inr none) = inl (refl, none_rose none is)
        by false is (inl either) = let wrong = sym (either_rose either) ∙ is in absurd (cc)
        by false is (inr none) = inr (refl, none)

    -- the uses of a turn that moved are those of its branch
    pub moved_uses : (b : Option Branch) (old new : State)
        → over.HasMoved b old new client client' upstream upstream'
        → BothUse (work_by b asked).used client client' upstream upstream'
    moved_uses None old new moved = inl (refl, inr moved)
    moved_uses (Some branch.UpWrite) old new (inl asks) = inl (refl, inr asks)
    moved_uses (Some branch.UpWrite) old new (inr between) = absurd between.moves
    moved_uses (Some branch.DownWrite) old new (inl asks) = inl (refl, inl asks)
    moved_uses (Some branch.DownWrite) old new (inr between) = absurd between.moves
    moved_uses (Some branch.UpTake) old new (inl asks) = absurd asks
    moved_uses (Some branch.UpTake) old new (inr between) = inr (refl, between.unasked)
    moved_uses (Some branch.DownTake) old new (inl asks) = absurd asks
    moved_uses (Some branch.DownTake) old new (inr between) = inr (refl, between.unasked)
    moved_uses (Some branch.DownDrop) old new (inl asks) = absurd asks
    moved_uses (Some branch.DownDrop) old new (inr between) = inr (refl, between.unasked)
    moved_uses (Some branch.DownEnd) old new (inl asks) = absurd asks
    moved_uses (Some branch.DownEnd) old new (inr between) = inr (refl, between.unasked)
    moved_uses (Some branch.DownClosed) old new (inl asks) = absurd asks
    moved_uses (Some branch.DownClosed) old new (inr between) = inr (refl, between.unasked)
    moved_uses (Some branch.UpRead) old new (inl asks) = read_uses (inl (inr asks))
    moved_uses (Some branch.UpRead) old new (inr between) = read_uses (inr between.unasked)
    moved_uses (Some branch.DownRead) old new (inl asks) = read_uses (inl (inl asks))
    moved_uses (Some branch.DownRead) old new (inr between) = read_uses (inr between.unasked)
    moved_uses (Some branch.UpFinish) old new (inl asks) = absurd asks
    moved_uses (Some branch.UpFinish) old new (inr between) = inr (refl, between.unasked)
    moved_uses (Some branch.DownFinish) old new (inl asks) = absurd asks
    moved_uses (Some branch.DownFinish) old new (inr between) = inr (refl, between.unasked)
    moved_uses (Some branch.MessageUp) old new (inl asks) = absurd asks
    moved_uses (Some branch.MessageUp) old new (inr between) = absurd between.moves
    moved_uses (Some branch.MessageDown) old new (inl asks) = absurd asks
    moved_uses (Some branch.MessageDown) old new (inr between) = absurd between.moves

module _ {L C : Type 0} (state : L → LinkState) (start_at : L → LinkStart) where
  -- a request that is relayed handed nothing back
  pub relaying_of : (s : Start) (p : Passed) (w : World) (own : List (Returned L))
      (a : Box (Attempt L C)) → RunSoFar state start_at s p w own (Relay a)
      → IsRelaying state start_at s p w a.value
  relaying_of s p w [] a run = run.holds
  relaying_of s p w (r ∷ own) a run = absurd run.holds

  -- the attempt of a phase that is relayed is its own
  pub attempt_is : (a b : Box (Attempt L C)) → ◌≡◌ {A = Phase L C} (Relay a) (Relay b) → a ≡ b
  attempt_is a b same = cc

  -- the link of a turn, held behind it, stands behind its settling
  pub settled_stands : (next settled : Phase L C) (before mid after : Option (List (Returned L)))
      (link : LinkState) → mid ≡ before → Settles next mid after settled
      → held_state state next ≡ Some link
      → StandsBehind state before after (held_state state settled) link
  settled_stands ReadHead settled before mid after link same does held = absurd (cc)
  settled_stands (Connect context session tries) settled before mid after link same does held =
      absurd (cc)
  settled_stands (Unlinked context session attempts error) settled before mid after link same does
      held = absurd (cc)
  settled_stands (Prepare context session l lease) settled before mid after link same does held =
      inl (ap (λ (n : Phase L C). held_state state n) does.0 ∙ held)
  settled_stands (Relay a) settled before mid after link same does held =
      inl (ap (λ (n : Phase L C). held_state state n) does.0 ∙ held)
  settled_stands (Broken context session l lease keep e) settled before mid after link same does
      held =
      inl (ap (λ (n : Phase L C). held_state state n) does.0 ∙ held)
  settled_stands (Again context session l lease keep e) settled before mid after link same does held
      =
      let is : state l ≡ link = cc in
      inr (
        does.2.entry,
        does.2.gained
            ∙ ap (λ (t : Option (List (Returned L))). more t (does.2.entry ∷ [])) same,
        ap state does.2.hands.is_link ∙ is,
      )
  settled_stands (Fail l lease keep session e) settled before mid after link same does held =
      let is : state l ≡ link = cc in
      inr (
        does.2.entry,
        does.2.gained
            ∙ ap (λ (t : Option (List (Returned L))). more t (does.2.entry ∷ [])) same,
        ap state does.2.hands.is_link ∙ is,
      )
  settled_stands (Answer session owed attempts) settled before mid after link same does held =
      absurd (cc)
  settled_stands (Close l lease keep outcome) settled before mid after link same does held =
      let is : state l ≡ link = cc in
      inr (
        does.2.entry,
        does.2.gained
            ∙ ap (λ (t : Option (List (Returned L))). more t (does.2.entry ∷ [])) same,
        ap state does.2.hands.is_link ∙ is,
      )
  settled_stands (Ended outcome attempts) settled before mid after link same does held =
      absurd (cc)

  -- the uses of a turn are those of its step
  pub settled_uses : (n : ℕ) (client client' : LinkState) (held : Option LinkState)
      (next settled : Phase L C) (before mid after : Option (List (Returned L)))
      → mid ≡ before → Settles next mid after settled
      → TurnUses n client client' held (λ link. held_state state next ≡ Some link)
      → TurnUses n client client' held
      (StandsBehind state before after (held_state state settled))
  settled_uses n client client' None next settled before mid after same does uses = uses
  settled_uses n client client' (Some link) next settled before mid after same does uses = (
    uses.0,
    settled_stands next settled before mid after uses.0 same does uses.1,
    uses.2,
  )

  -- a turn that moved left a phase that settling leaves
  moved_settled : (log : List LogEntry) (w x : World) (work : Work) (a : HookedExchange L)
      (next settled : Phase L C) (before after : Option (List (Returned L)))
      → Settles next before after settled
      → MovedBy state start_at log w x work a next → MovedBy state start_at log w x work a settled
  moved_settled log w x work a next settled before after does moves =
      let does : Settles (Relay moves.moved.held) before after settled =
      subst (λ (n : Phase L C). Settles n before after settled) moves.moved.goes_on does in
      subst (λ (n : Phase L C). MovedBy state start_at log w x work a n)
      (moves.moved.goes_on ∙ sym does.0) moves

  -- a phase that owes its client an answer still does once it is settled
  pub owes_settled : (next settled : Phase L C) (before after : Option (List (Returned L)))
      → Settles next before after settled → OwesAnswer next → OwesAnswer settled
  owes_settled ReadHead settled before after does owes = absurd owes
  owes_settled (Connect context session tries) settled before after does owes = absurd owes
  owes_settled (Unlinked context session attempts error) settled before after does owes =
      subst (λ (n : Phase L C). OwesAnswer n) (sym does.0) tt
  owes_settled (Prepare context session link lease) settled before after does owes = absurd owes
  owes_settled (Relay a) settled before after does owes = absurd owes
  owes_settled (Broken context session link lease keep error) settled before after does owes =
      subst (λ (n : Phase L C). OwesAnswer n) (sym does.0) tt
  owes_settled (Again context session link lease keep error) settled before after does owes =
      absurd owes
  owes_settled (Fail link lease keep session error) settled before after does owes =
      subst (λ (n : Phase L C). OwesAnswer n) (sym does.1) tt
  owes_settled (Close link lease keep outcome) settled before after does owes = absurd owes
  owes_settled (Answer session owed attempts) settled before after does owes =
      subst (λ (n : Phase L C). OwesAnswer n) (sym does.0) owes
  owes_settled (Ended outcome attempts) settled before after does owes = absurd owes

  -- what a turn of an exchange did, its step did; or its log grew
  pub settled_moves : {Grew : Type 0} (log : List LogEntry) (w x : World) (work : Work)
      (a : HookedExchange L) (next settled : Phase L C)
      (before after : Option (List (Returned L))) → Settles next before after settled
      → MovedBy state start_at log w x work a next ⊎ (OwesAnswer next ⊎ Grew)
      → MovedBy state start_at log w x work a settled ⊎ (OwesAnswer settled ⊎ Grew)
  settled_moves log w x work a next settled before after does (inl moves) =
      inl (moved_settled log w x work a next settled before after does moves)
  settled_moves log w x work a next settled before after does (inr (inl owes)) =
      inr (inl (owes_settled next settled before after does owes))
  settled_moves log w x work a next settled before after does (inr (inr grew)) = inr (inr grew)

  -- with what was counted before, and after it
  pub moves_on : {Grew : Type 0} (log : List LogEntry) (before after turn : Work) (w x : World)
      (a : HookedExchange L) (next : Phase L C) → after ≡ added_work before turn
      → MovedBy state start_at log w x turn a next ⊎ (OwesAnswer next ⊎ Grew)
      → MovesOn state start_at log w x before after a next ⊎ (OwesAnswer next ⊎ Grew)
  moves_on log before after turn w x a next adds (inl moves) =
      inl (record { work = turn; moves = moves; adds = adds })
  moves_on log before after turn w x a next adds (inr rest) = inr rest
