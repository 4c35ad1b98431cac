-- What ended early behind filters that change nothing has come whole.
--
--   none         no head of the response is refused
--   early_ends   the end of the response is among the tasks that the peer gave
--   early_fit    so it is not unfit
use Rattle.std.proofs.Common.{◌≡◌, ℕ, true, false, inl, inr, List, [], ◌∷◌, ◌++◌, map, refl, sym, ap, subst, ◌∙◌, append-nil, Some, None}
use Rattle.std.specs.Prelude.{◌==◌, All, Option}
use Rattle.std.specs.List.{list_any}
use Rattle.std.proofs.lemmas.List.{map-append}
use Rattle.std.proofs.lemmas.List.Elements.{All-cons, All-head, All-nil, All-tail}
use Rattle.relay_tasks.specs.Head.{ResponseHead}
use Rattle.relay_tasks.specs.Task.{is_end}
use Rattle.relay_tasks.specs.declared.error.Error.{Error}
use Rattle.relay_tasks.specs.declared.task.HttpTask.{HttpTask}
use Rattle.relay_tasks.specs.declared.task.HttpTask.TheVariants as task
use Rattle.relay_links.specs.Link.{LinkState, LinkStart}
use Rattle.relay_h1.specs.ClientHead.{lacks_framing}
use Rattle.relay_h1.specs.Tasks.{HasFinal, ResponseText}
use Rattle.relay_h1.specs.declared.framing.Framing.{Framing}
use Rattle.relay_h1.proofs.TasksLemmas.{HasFinal-unique}
use Rattle.relay_peer.specs.ResponseReading.{ToldResponse, untold}
use Rattle.relay_peer.specs.Peer.{told_of}
use Rattle.relay_peer.proofs.ExactLemmas.{Tasks-unique}
use Rattle.relay_session.specs.Asked.{request_of}
use Rattle.relay_session.specs.Response.{is_over}
use Rattle.relay_session.specs.TaskWire.{wire}
use Rattle.relay_session.specs.declared.task_text.Place.TheVariants as place
use Rattle.relay_core.specs.Past.{Origin}
use Rattle.relay_core.proofs.BoolLemmas.{clash, decide, or_left, or_right}
use Rattle.relay_sides.specs.Filtered as filtered
use Rattle.relay_sides.specs.Filtered.{RefusesHead, handed, is_head_request, is_switch}
use Rattle.relay_sides.proofs.FilterLemmas.{handed_ends}
use Rattle.relay_attempt.specs.Agrees.{AsksAlike}
use Rattle.relay_attempt.specs.Passed.{Passed}
use Rattle.relay_valid.specs.Unfit as unfit
use Rattle.relay_valid.specs.Unfit.{IsUnfit}
use Rattle.relay_valid.proofs.UnfitLemmas.{ended_or_broken, ended_or_cut}
use Rattle.relay_hooked.specs.Calls.{Filtering}
use Rattle.relay_hooked.specs.Neutral.{AreNeutral}
use Rattle.relay_hooked.specs.Order.{EndsEarly}
use Rattle.relay_hooked.proofs.NeutralLemmas.{alike_head}
use Rattle.relay_hooked.proofs.MadeLemmas.{makes_neutral, none_switches}
use Rattle.relay_still.proofs.OpenLemmas.{IsUnframed, never_over}
use Rattle.relay_still.proofs.SaidLemmas.{IsToldHead, all_told, final_unswitched, read_ends}

-- a front of what holds of all holds of all
front_all : (P : HttpTask → Type 0) (front rest : List HttpTask) → All P (front ++ rest)
    → All P front
front_all P [] rest all = All-nil P
front_all P (x ∷ front) rest all =
    All-cons P x front (All-head P x (front ++ rest) all)
    (front_all P front rest (All-tail P x (front ++ rest) all))

-- a final head that is told, which switches no protocols and says where its body ends
record Framed (method : List ℕ) (told : ToldResponse) : Type 0 where
  head : ResponseHead
  is : told.final ≡ Some head
  stays : (head.status == 101) ≡ false
  framed : lacks_framing method false head ≡ false

module _
    (f : Filtering) (s : Origin) (p : Passed) (link : LinkState) (start : LinkStart)
    (early : EndsEarly f s p link start) (n : AreNeutral f.calls) (alike : AsksAlike s.head s.sent)
  where
    -- what was queued is what passed the filters, as it is handed on
    same : early.order.queued ≡ map (handed s.sent.method) early.order.batched
    same =
        makes_neutral (is_head_request s.head.method) f.stood f.calls _ early.order.batched
        early.order.queued s.sent.method (alike_head s.sent.method s.head.method alike) n
        early.order.makes

    -- the response is over behind it
    queued_over : is_over (wire (request_of s.head) place.NoHead early.order.queued).place ≡ true
    queued_over = elim early.order.closes_late [
      | inl unasked ↦ subst
          (λ (l : List HttpTask).
          is_over (wire (request_of s.head) place.NoHead l).place ≡ true)
          (ap (λ (l : List HttpTask). early.order.queued ++ l) unasked
          ∙ append-nil early.order.queued) early.over
      | inr (inl ends) ↦ clash (list_any is_end early.order.batched)
          (sym (handed_ends s.sent.method early.order.batched) ∙ sym (ap (list_any is_end) same)
          ∙ ends) early.open_still
      | inr (inr over) ↦ over
    ]

    -- ---- its final head

    -- a head that passed the filters is one of those that the peer gave
    told : All (IsToldHead (told_of early.order.read)) early.order.batched
    told =
        front_all (IsToldHead (told_of early.order.read)) early.order.batched
        early.order.first_batched.rest
        (subst (λ (l : List HttpTask). All (IsToldHead (told_of early.order.read)) l)
        (sym early.order.first_batched.joined)
        (all_told untold early.order.read early.order.are_said.follow))

    -- none of them switches protocols
    unswitched : list_any is_switch early.order.batched ≡ false
    unswitched =
        none_switches (is_head_request s.head.method) f.stood f.calls _ early.order.batched
        early.order.queued n early.order.makes

    -- one of them is an informational one, or is to be chunked where the final head is
    one_unframed : (one : HttpTask) → IsToldHead (told_of early.order.read) one
        → is_switch one ≡ false
        → ((h : ResponseHead) → (told_of early.order.read).final ≡ Some h
        → (h.status == 101) ≡ false → lacks_framing s.sent.method false h ≡ true)
        → IsUnframed s.sent.method one
    one_unframed (task.Header head end) (inl informs) stays lacks = inl informs
    one_unframed (task.Header head end) (inr final) stays lacks = inr (lacks head final stays)
    one_unframed (task.Body piece end) told stays lacks = tt
    one_unframed (task.UpgradedBody piece end) told stays lacks = tt
    one_unframed (task.Trailer fields) told stays lacks = tt
    one_unframed task.Done told stays lacks = tt
    one_unframed (task.Failed error) told stays lacks = tt

    all_unframed : (tasks : List HttpTask) → All (IsToldHead (told_of early.order.read)) tasks
        → list_any is_switch tasks ≡ false
        → ((h : ResponseHead) → (told_of early.order.read).final ≡ Some h
        → (h.status == 101) ≡ false → lacks_framing s.sent.method false h ≡ true)
        → All (IsUnframed s.sent.method) tasks
    all_unframed [] heads stay lacks = All-nil (IsUnframed s.sent.method)
    all_unframed (one ∷ tasks) heads stay lacks =
        All-cons (IsUnframed s.sent.method) one tasks
        (one_unframed one (All-head (IsToldHead (told_of early.order.read)) one tasks heads)
        (or_left (is_switch one) (list_any is_switch tasks) stay) lacks)
        (all_unframed tasks (All-tail (IsToldHead (told_of early.order.read)) one tasks heads)
        (or_right (is_switch one) (list_any is_switch tasks) stay) lacks)

    -- so not every final head of it is to be chunked, since the response is over
    not_chunked : ((h : ResponseHead) → (told_of early.order.read).final ≡ Some h
        → (h.status == 101) ≡ false → lacks_framing s.sent.method false h ≡ true) → ⊥
    not_chunked lacks =
        never_over s.head s.sent.method alike early.order.batched early.open_still
        (all_unframed early.order.batched told unswitched lacks)
        (subst (λ (l : List HttpTask).
        is_over (wire (request_of s.head) place.NoHead l).place ≡ true) same queued_over)

    -- one final head is another
    one_final : (a b : ResponseHead) → (told_of early.order.read).final ≡ Some a
        → (told_of early.order.read).final ≡ Some b → a ≡ b
    one_final a b is is' = let both : Some a ≡ Some b = sym is ∙ is' in cc

    -- and no final head is none
    some_final : {A : Type 0} (a : ResponseHead) → (told_of early.order.read).final ≡ None
        → (told_of early.order.read).final ≡ Some a → A
    some_final a none some = let both : None ≡ Some a = sym none ∙ some in absurd (cc)

    -- it has a final head, which switches no protocols and says where its body ends
    final_framed : (o : Option ResponseHead) → (told_of early.order.read).final ≡ o
        → Framed s.sent.method (told_of early.order.read)
    final_framed None is = absurd (not_chunked (λ h some stays. some_final h is some))
    final_framed (Some h) is = elim (decide (h.status == 101)) [
      | inl switches ↦ absurd (not_chunked (λ x some stays.
          clash (h.status == 101) switches
          (ap (λ (y : ResponseHead). y.status == 101) (one_final h x is some) ∙ stays)))
      | inr stays ↦ elim (decide (lacks_framing s.sent.method false h)) [
        | inl lacks ↦ absurd (not_chunked (λ x some stays.
            subst (λ (y : ResponseHead). lacks_framing s.sent.method false y ≡ true)
            (one_final h x is some) lacks))
        | inr framed ↦ record { head = h; is = is; stays = stays; framed = framed }
      ]
    ]

    -- the bytes say that head
    final_said : (informed : List ResponseHead) (final : ResponseHead) (framing : Framing)
        (len : ℕ) → HasFinal s.sent.method s.asked p.got informed final framing len
        → (x : Framed s.sent.method (told_of early.order.read)) → x.head ≡ final
    final_said informed final framing len has x =
        let (own, at, found) = early.order.are_said.final x.head x.is in
        (HasFinal-unique s.sent.method s.asked p.got (told_of early.order.read).informed informed
        x.head final own framing at len found has).head

    -- so none is refused
    none : (e : Error) → RefusesHead s.sent.method s.asked p.got e → ⊥
    none e (filtered.RefusesHead.switches informed final framing len has is error) =
        let x = final_framed (told_of early.order.read).final refl in
        clash (x.head.status == 101)
        (same_status (ap (λ (y : ResponseHead). y.status)
        (final_said informed final framing len has x) ∙ is)) x.stays
      where
        same_status : {k : ℕ} → k ≡ 101 → (k == 101) ≡ true
        same_status {k} is = rw is refl
    none e (filtered.RefusesHead.is_full informed final framing len has lacks full error) =
        let x = final_framed (told_of early.order.read).final refl in
        clash (lacks_framing s.sent.method false x.head)
        (subst (λ (y : ResponseHead). lacks_framing s.sent.method false y ≡ true)
        (sym (final_said informed final framing len has x)) lacks) x.framed

    -- ---- its end

    -- so the end of the response was read
    early_ends : list_any is_end early.order.read ≡ true
    early_ends =
        read_ends s p link.ended none early.order.read early.order.are_said alike
        (map (handed s.sent.method) early.order.batched)
        (map (handed s.sent.method) early.order.first_batched.rest)
        (ap (map (handed s.sent.method)) (sym early.order.first_batched.joined)
        ∙ map-append (handed s.sent.method) early.order.batched early.order.first_batched.rest)
        (subst (λ (l : List HttpTask).
        is_over (wire (request_of s.head) place.NoHead l).place ≡ true) same queued_over)

    -- a final head that was told switches no protocols
    stays : (final : ResponseHead) → (told_of early.order.read).final ≡ Some final
        → (final.status == 101) ≡ false
    stays final is =
        let (framing, len, has) = early.order.are_said.final final is in
        final_unswitched s p link.ended none (told_of early.order.read).informed final framing len
        has

    -- and the response is not unfit
    pub early_fit : IsUnfit s.sent.method s.asked p.got link.ended → ⊥
    early_fit (unfit.IsUnfit.is_broken said reads is) =
        let whole = early.order.are_said.whole early_ends in
        ended_or_broken whole.0
        (ap (λ (t : ResponseText). t.mark)
        (Tasks-unique s.sent.method s.asked p.got link.ended _ said whole.1 reads) ∙ is)
    early_fit (unfit.IsUnfit.is_cut_off said reads is) =
        let whole = early.order.are_said.whole early_ends in
        ended_or_cut whole.0
        (ap (λ (t : ResponseText). t.mark)
        (Tasks-unique s.sent.method s.asked p.got link.ended _ said whole.1 reads) ∙ is)
    early_fit (unfit.IsUnfit.switches said final reads is switch) =
        let whole = early.order.are_said.whole early_ends in
        clash (final.status == 101) (same_status switch)
        (stays final
        (ap (λ (t : ResponseText). t.final)
        (Tasks-unique s.sent.method s.asked p.got link.ended _ said whole.1 reads) ∙ is))
      where
        same_status : {k : ℕ} → k ≡ 101 → (k == 101) ≡ true
        same_status {k} is = rw is refl
