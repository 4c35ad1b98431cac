-- A response that was relayed whole behind filters that change nothing is not unfit.
--
--   relayed_fit   from IsRelayed, AreNeutral and IsUnfit: nothing
use Rattle.std.proofs.Common.{◌≡◌, false, List, ap, subst, ◌∙◌}
use Rattle.std.specs.List.{list_any}
use Rattle.relay_tasks.specs.declared.task.HttpTask.{HttpTask}
use Rattle.relay_links.specs.Link.{LinkState, LinkStart}
use Rattle.relay_h1.specs.Tasks.{ResponseText}
use Rattle.relay_peer.specs.ResponseReading.{untold}
use Rattle.relay_peer.proofs.ExactLemmas.{Tasks-unique}
use Rattle.relay_core.specs.Past.{Origin}
use Rattle.relay_sides.specs.Filtered.{is_head_request, is_switch}
use Rattle.relay_attempt.specs.Passed.{Passed}
use Rattle.relay_valid.specs.Unfit as unfit
use Rattle.relay_valid.specs.Unfit.{IsUnfit}
use Rattle.relay_valid.proofs.UnfitLemmas.{ended_or_broken, ended_or_cut, final_stays}
use Rattle.relay_hooked.specs.Calls.{Filtering}
use Rattle.relay_hooked.specs.Neutral.{AreNeutral}
use Rattle.relay_hooked.specs.Order.{IsRelayed}
use Rattle.relay_hooked.proofs.MadeLemmas.{none_switches}

-- a response that was relayed whole behind such filters is not unfit
pub relayed_fit : (f : Filtering) (s : Origin) (p : Passed) (link : LinkState) (start : LinkStart)
    → IsRelayed f s p link start → AreNeutral f.calls
    → IsUnfit s.sent.method s.asked p.got link.ended → ⊥
relayed_fit f s p link start relayed n (unfit.IsUnfit.is_broken said tasks is) =
    ended_or_broken relayed.n
    (ap (λ (t : ResponseText). t.mark)
    (Tasks-unique s.sent.method s.asked p.got link.ended _ said relayed.whole tasks) ∙ is)
relayed_fit f s p link start relayed n (unfit.IsUnfit.is_cut_off said tasks is) =
    ended_or_cut relayed.n
    (ap (λ (t : ResponseText). t.mark)
    (Tasks-unique s.sent.method s.asked p.got link.ended _ said relayed.whole tasks) ∙ is)
relayed_fit f s p link start relayed n (unfit.IsUnfit.switches said final tasks is switch) =
    let none = none_switches (is_head_request s.head.method) f.stood f.calls _
    relayed.order.batched relayed.order.queued n relayed.order.makes in
    final_stays untold relayed.order.read
    (subst (λ (l : List HttpTask). list_any is_switch l ≡ false) relayed.batched none)
    (λ h wrong. absurd (cc)) final
    (ap (λ (t : ResponseText). t.final)
    (Tasks-unique s.sent.method s.asked p.got link.ended _ said relayed.whole tasks) ∙ is) switch
