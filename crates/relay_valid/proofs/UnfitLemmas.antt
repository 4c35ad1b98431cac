-- A response that was relayed whole is not unfit.
--
--   final_stays       no head that switches protocols is told of, where none comes
--   ended_or_broken   an ended mark is not a broken one
--   ended_or_cut      nor is it cut off
--   relayed_fit       from IsRelayed and IsUnfit: nothing
use Rattle.std.proofs.Common.{◌≡◌, ℕ, Bool, true, false, List, [], ◌∷◌, Some, None, refl, sym, ap, ◌∙◌}
use Rattle.std.specs.Prelude.{◌≢◌, ◌||◌, ◌==◌}
use Rattle.std.specs.List.{list_any}
use Rattle.relay_tasks.specs.Head.{ResponseHead}
use Rattle.relay_tasks.specs.declared.task.HttpTask.{HttpTask}
use Rattle.relay_tasks.specs.declared.task.HttpTask.TheVariants as task
use Rattle.relay_links.specs.Link.{LinkState, LinkStart}
use Rattle.relay_h1.specs.ClientHead.{is_informational}
use Rattle.relay_h1.specs.Tasks as said
use Rattle.relay_h1.specs.Tasks.{ResponseText}
use Rattle.relay_peer.specs.ResponseReading as reading
use Rattle.relay_peer.specs.ResponseReading.{untold, with_head, with_task}
use Rattle.relay_peer.proofs.ExactLemmas.{Tasks-unique}
use Rattle.relay_core.specs.Past.{Origin}
use Rattle.relay_sides.specs.Filtered.{is_switch}
use Rattle.relay_peer.specs.Peer.{told_behind}
use Rattle.relay_attempt.specs.Order.{IsRelayed}
use Rattle.relay_attempt.specs.Passed.{Passed}
use Rattle.relay_valid.specs.Unfit as unfit
use Rattle.relay_valid.specs.Unfit.{IsUnfit}

-- a true flag is not false
not_both : {b : Bool} → b ≡ true → b ≡ false → ⊥
not_both on off = apart (sym on ∙ off)
  where
    apart : true ≡ false → ⊥
    apart same = cc

-- no head that switches protocols is told of, where none was before and none comes
pub final_stays : (told : reading.ToldResponse) (tasks : List HttpTask)
    → list_any is_switch tasks ≡ false → ((h : ResponseHead) → told.final ≡ Some h → h.status ≢ 101)
    → (h : ResponseHead) → (told_behind told tasks).final ≡ Some h → h.status ≢ 101
final_stays told [] none before h is = before h is
final_stays told (one ∷ tasks) none before h is =
    let parts = or_false (is_switch one) (list_any is_switch tasks) none in
    final_stays (with_task told one) tasks parts.1 (one_more told one parts.0 before) h is
  where
    or_false : (a b : Bool) → (a || b) ≡ false → (a ≡ false) × (b ≡ false)
    or_false true b none = absurd (cc)
    or_false false b none = (refl, none)

    same_status : {n : ℕ} → n ≡ 101 → (n == 101) ≡ true
    same_status {n} is = rw is refl

    headed : (told : reading.ToldResponse) (head : ResponseHead) (informs : Bool)
        → is_informational head.status ≡ informs → (head.status == 101) ≡ false
        → ((h : ResponseHead) → told.final ≡ Some h → h.status ≢ 101)
        → (h : ResponseHead) → (with_head told head).final ≡ Some h → h.status ≢ 101
    headed told head true informs stays before h is = before h (rw informs at is)
    headed told head false informs stays before h is =
        let same : Some head ≡ Some h = rw informs at is in
        let this : head ≡ h = cc in
        λ switch. not_both (same_status (ap (λ (r : ResponseHead). r.status) this ∙ switch)) stays

    one_more : (told : reading.ToldResponse) (one : HttpTask) → is_switch one ≡ false
        → ((h : ResponseHead) → told.final ≡ Some h → h.status ≢ 101)
        → (h : ResponseHead) → (with_task told one).final ≡ Some h → h.status ≢ 101
    one_more told (task.Header head end) stays before h is =
        headed told head (is_informational head.status) refl stays before h is
    one_more told (task.Body None end) stays before h is = before h is
    one_more told (task.Body (Some piece) end) stays before h is = before h is
    one_more told (task.UpgradedBody piece end) stays before h is = before h is
    one_more told (task.Trailer fields) stays before h is = before h is
    one_more told task.Done stays before h is = before h is
    one_more told (task.Failed error) stays before h is = before h is

-- an ended mark is no other
pub ended_or_broken : (n : ℕ) → said.ResponseMark.ended n ≡ said.ResponseMark.broken → ⊥
ended_or_broken n same = cc

-- nor is it cut off
pub ended_or_cut : (n : ℕ) → said.ResponseMark.ended n ≡ said.ResponseMark.cut_off → ⊥
ended_or_cut n same = cc

-- a response that was relayed whole is not unfit
pub relayed_fit : (s : Origin) (p : Passed) (link : LinkState) (start : LinkStart)
    → IsRelayed s p link start → IsUnfit s.sent.method s.asked p.got link.ended → ⊥
relayed_fit s p link start relayed (unfit.IsUnfit.is_broken said tasks is) =
    ended_or_broken relayed.n
    (ap (λ (t : ResponseText). t.mark)
    (Tasks-unique s.sent.method s.asked p.got link.ended _ said relayed.whole tasks) ∙ is)
relayed_fit s p link start relayed (unfit.IsUnfit.is_cut_off said tasks is) =
    ended_or_cut relayed.n
    (ap (λ (t : ResponseText). t.mark)
    (Tasks-unique s.sent.method s.asked p.got link.ended _ said relayed.whole tasks) ∙ is)
relayed_fit s p link start relayed (unfit.IsUnfit.switches said final tasks is switch) =
    final_stays untold relayed.order.are_of.given relayed.order.are_of.stays (λ h none. absurd (cc))
    final
    (ap (λ (t : ResponseText). t.final)
    (Tasks-unique s.sent.method s.asked p.got link.ended _ said relayed.whole tasks) ∙ is) switch
