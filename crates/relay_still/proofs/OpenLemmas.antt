-- A response of which no end was queued, and whose final head says not where its body ends, is not
-- over towards its client.
--
--   never_over   from tasks with no end, each head among them an informational one or one that is
--                to be chunked: what they are sent as is not over
use Rattle.std.proofs.Common.{◌≡◌, Bool, true, false, ◌⊎◌, inl, inr, List, [], ◌∷◌, map, if◌then◌else◌, Option, Some, refl, sym, ap, ◌∙◌}
use Rattle.std.specs.Prelude.{All, ℕ, option_map}
use Rattle.std.specs.List.{list_any}
use Rattle.std.proofs.lemmas.List.Elements.{All-head, All-tail}
use Rattle.relay_tasks.specs.Head.{RequestHead, ResponseHead}
use Rattle.relay_tasks.specs.Task.{is_end}
use Rattle.relay_tasks.specs.declared.task.HttpTask.{HttpTask}
use Rattle.relay_tasks.specs.declared.task.HttpTask.TheVariants as task
use Rattle.relay_h1.specs.ClientHead.{chunked_head, client_framing, framing_for, is_informational, lacks_framing}
use Rattle.relay_h1.specs.Framing.{is_http_10}
use Rattle.relay_h1.specs.declared.framing.Framing.{Framing}
use Rattle.relay_h1.specs.declared.framing.Framing.TheVariants as framing
use Rattle.relay_h1.proofs.ClientHeadLemmas.{added_is_chunked}
use Rattle.relay_session.specs.Asked.{asks_of, method_of, request_of}
use Rattle.relay_session.specs.Response.{is_over}
use Rattle.relay_session.specs.TaskWire.{framed_head_sent, framing_of, head_sent, informed, shown, task_sent, wire}
use Rattle.relay_session.specs.declared.task_text.Asks.{Asks}
use Rattle.relay_session.specs.declared.task_text.Place.{Place}
use Rattle.relay_session.specs.declared.task_text.Place.TheVariants as place
use Rattle.relay_session.proofs.AskedLemmas.{same_framing}
use Rattle.relay_core.proofs.BoolLemmas.{clash, decide, or_left, or_right}
use Rattle.relay_sides.specs.Filtered.{handed}

-- no final head was sent, or the body goes on until it is said to end
abbrev goes_on : Place → Bool
goes_on place.NoHead = true
goes_on (place.Body framing.Empty) = false
goes_on (place.Body (framing.Length n)) = false
goes_on (place.Body framing.Chunked) = true
goes_on (place.Body framing.UntilClose) = true
goes_on (place.Body framing.Tunnel) = true
goes_on place.Done = false

-- so it is not over
on_or_over : (at : Place) → goes_on at ≡ true → is_over at ≡ true → ⊥
on_or_over place.NoHead on over = cc
on_or_over (place.Body framing.Empty) on over = cc
on_or_over (place.Body (framing.Length n)) on over = cc
on_or_over (place.Body framing.Chunked) on over = cc
on_or_over (place.Body framing.UntilClose) on over = cc
on_or_over (place.Body framing.Tunnel) on over = cc
on_or_over place.Done on over = cc

-- a head is an informational one, or is to be chunked
abbrev pub IsUnframed : List ℕ → HttpTask → Type 0
IsUnframed method (task.Header head end) =
    (is_informational head.status ≡ true) ⊎ (lacks_framing method false head ≡ true)
IsUnframed method (task.Body piece end) = Unit {0}
IsUnframed method (task.UpgradedBody piece end) = Unit {0}
IsUnframed method (task.Trailer fields) = Unit {0}
IsUnframed method task.Done = Unit {0}
IsUnframed method (task.Failed error) = Unit {0}

module _ (head : RequestHead) (method : List ℕ) (alike : asks_of method ≡ asks_of head.method)
  where
    -- a head that was chunked is so towards the client, as its version takes it
    chunked_so : (given : ResponseHead) → lacks_framing method false given ≡ true
        → framing_of (request_of head) (chunked_head given)
        ≡ Some (framing_for (is_http_10 head.version) framing.Chunked)
    unfolding client_framing
    chunked_so given lacks =
        ap (λ (a : Asks). client_framing (method_of a) head.version false (chunked_head given))
        (sym alike)
        ∙ same_framing method head.version false (chunked_head given)
        ∙ ap (λ (f : Option Framing). option_map (framing_for (is_http_10 head.version)) f)
        (added_is_chunked method false false given lacks)

    -- behind a head that is framed so the body goes on
    behind_chunked : (given : ResponseHead) (old : Bool) (found : Option Framing)
        → found ≡ Some (framing_for old framing.Chunked)
        → goes_on (framed_head_sent given false found).place ≡ true
    behind_chunked given true found is =
        ap (λ (f : Option Framing). goes_on (framed_head_sent given false f).place) is
    behind_chunked given false found is =
        ap (λ (f : Option Framing). goes_on (framed_head_sent given false f).place) is

    -- behind a head that is to be chunked it goes on
    chunked_goes : (given : ResponseHead) → lacks_framing method false given ≡ true
        → goes_on (head_sent (request_of head) (chunked_head given) false).place ≡ true
    chunked_goes given lacks = by (is_informational given.status)
      where
        by : (b : Bool)
            → goes_on (if b then informed (request_of head) (chunked_head given)
            else framed_head_sent (shown (request_of head) (chunked_head given)) false
            (framing_of (request_of head) (chunked_head given))).place ≡ true
        by true = refl
        by false =
            behind_chunked (shown (request_of head) (chunked_head given)) (is_http_10 head.version)
            (framing_of (request_of head) (chunked_head given)) (chunked_so given lacks)

    -- and behind an informational one
    informed_goes : (given : ResponseHead) → is_informational given.status ≡ true
        → goes_on (head_sent (request_of head) given false).place ≡ true
    informed_goes given informs = rw informs refl

    -- so it does behind such a head, as it is handed on
    head_goes : (given : ResponseHead) → IsUnframed method (task.Header given false)
        → goes_on (head_sent (request_of head)
        (if lacks_framing method false given then chunked_head given else given) false).place
        ≡ true
    head_goes given unframed = elim (decide (lacks_framing method false given)) [
      | inl lacks ↦ rw lacks (chunked_goes given lacks)
      | inr framed ↦ elim unframed [
        | inl informs ↦ rw framed (informed_goes given informs)
        | inr lacks ↦ clash (lacks_framing method false given) lacks framed
      ]
    ]

    -- a task with no end leaves it so
    one_goes : (at : Place) (one : HttpTask) → goes_on at ≡ true → is_end one ≡ false
        → IsUnframed method one
        → goes_on (task_sent (request_of head) at (handed method one)).place ≡ true
    one_goes at (task.Header given true) on none unframed = absurd (cc)
    one_goes place.NoHead (task.Header given false) on none unframed = head_goes given unframed
    one_goes (place.Body framing.Empty) (task.Header given false) on none unframed = absurd (cc)
    one_goes (place.Body (framing.Length n)) (task.Header given false) on none unframed =
        absurd (cc)
    one_goes (place.Body framing.Chunked) (task.Header given false) on none unframed = refl
    one_goes (place.Body framing.UntilClose) (task.Header given false) on none unframed = refl
    one_goes (place.Body framing.Tunnel) (task.Header given false) on none unframed = refl
    one_goes place.Done (task.Header given false) on none unframed = absurd (cc)
    one_goes at (task.Body piece true) on none unframed = absurd (cc)
    one_goes place.NoHead (task.Body piece false) on none unframed = refl
    one_goes (place.Body framing.Empty) (task.Body piece false) on none unframed = absurd (cc)
    one_goes (place.Body (framing.Length n)) (task.Body piece false) on none unframed = absurd (cc)
    one_goes (place.Body framing.Chunked) (task.Body piece false) on none unframed = refl
    one_goes (place.Body framing.UntilClose) (task.Body piece false) on none unframed = refl
    one_goes (place.Body framing.Tunnel) (task.Body piece false) on none unframed = refl
    one_goes place.Done (task.Body piece false) on none unframed = absurd (cc)
    one_goes at (task.UpgradedBody piece true) on none unframed = absurd (cc)
    one_goes place.NoHead (task.UpgradedBody piece false) on none unframed = refl
    one_goes (place.Body framing.Empty) (task.UpgradedBody piece false) on none unframed =
        absurd (cc)
    one_goes (place.Body (framing.Length n)) (task.UpgradedBody piece false) on none unframed =
        absurd (cc)
    one_goes (place.Body framing.Chunked) (task.UpgradedBody piece false) on none unframed = refl
    one_goes (place.Body framing.UntilClose) (task.UpgradedBody piece false) on none unframed =
        refl
    one_goes (place.Body framing.Tunnel) (task.UpgradedBody piece false) on none unframed = refl
    one_goes place.Done (task.UpgradedBody piece false) on none unframed = absurd (cc)
    one_goes at (task.Trailer fields) on none unframed = absurd (cc)
    one_goes at task.Done on none unframed = absurd (cc)
    one_goes at (task.Failed error) on none unframed = absurd (cc)

    -- and so do tasks in order
    all_go : (at : Place) (tasks : List HttpTask) → goes_on at ≡ true
        → list_any is_end tasks ≡ false → All (IsUnframed method) tasks
        → goes_on (wire (request_of head) at (map (handed method) tasks)).place ≡ true
    all_go at [] on none unframed = on
    all_go at (one ∷ tasks) on none unframed =
        all_go (task_sent (request_of head) at (handed method one)).place tasks
        (one_goes at one on (or_left (is_end one) (list_any is_end tasks) none)
        (All-head (IsUnframed method) one tasks unframed))
        (or_right (is_end one) (list_any is_end tasks) none)
        (All-tail (IsUnframed method) one tasks unframed)

    -- so it is not over
    pub never_over : (tasks : List HttpTask) → list_any is_end tasks ≡ false
        → All (IsUnframed method) tasks
        → is_over (wire (request_of head) place.NoHead (map (handed method) tasks)).place ≡ true
        → ⊥
    never_over tasks none unframed over =
        on_or_over (wire (request_of head) place.NoHead (map (handed method) tasks)).place
        (all_go place.NoHead tasks refl none unframed) over
