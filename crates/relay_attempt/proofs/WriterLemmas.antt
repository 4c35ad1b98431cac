-- The errors with which the client's writer refuses a task, and which no side answers for.
--
--   refused_is     a refusal of tasks without a failure is one of the writer's
--   client_apart   the client's side answers for none of them, nor its link: link_apart
--   peer_apart     the peer's side answers for none of them
--   head_apart     no head is refused with one of them
use Rattle.std.proofs.Common.{◌≡◌, ℕ, Bool, true, false, ◌⊎◌, List, [], ◌∷◌, Option, Some, None, sym, ap, ◌∙◌, inl, inr}
use Rattle.std.specs.List.{list_any}
use Rattle.std.proofs.lemmas.Bool.{cases_Bool, or_parts}
use Rattle.relay_tasks.specs.declared.error.Error.{Error}
use Rattle.relay_tasks.specs.declared.fault.Fault.{Fault}
use Rattle.relay_tasks.specs.declared.task.HttpTask.{HttpTask}
use Rattle.relay_tasks.specs.declared.task.HttpTask.TheVariants as task
use Rattle.relay_tasks.specs.Head.{RequestHead, ResponseHead}
use Rattle.relay_links.specs.Link.{LinkState, LinkStart}
use Rattle.relay_h1.specs.declared.framing.Framing.{Framing}
use Rattle.relay_h1.specs.BodyWire.{after_piece, is_short}
use Rattle.relay_h1.specs.ClientHead.{is_informational}
use Rattle.relay_session.specs.Front.{link_fault}
use Rattle.relay_session.specs.TaskWire.{bad_framing, ends_short, first_refusal, framed_head_refusal, framing_of, head_refusal_at, or_later, piece_refusal, piece_refusal_at, refusal, task_sent}
use Rattle.relay_session.specs.declared.task_text.Place.{Place}
use Rattle.relay_session.specs.declared.task_text.Place.TheVariants as place
use Rattle.relay_session.specs.declared.task_text.Request.{Request}
use Rattle.relay_core.specs.Past.{Origin, DownPast, UpPast}
use Rattle.relay_core.specs.Pipe.{is_failure}
use Rattle.relay_sides.specs.Client.{ClientBlames}
use Rattle.relay_sides.specs.Client as client
use Rattle.relay_sides.specs.Filtered.{RefusesHead}
use Rattle.relay_sides.specs.Filtered as filtered
use Rattle.relay_peer.specs.Peer.{PeerBlames}
use Rattle.relay_peer.specs.Peer as peer

-- the writer refuses a framing, or a body that ends before its length
abbrev pub IsWriters : Error → Type 0
IsWriters e = (e ≡ bad_framing) ⊎ (e ≡ ends_short)

-- one error stands
one_error : (a b : Error) → Some a ≡ Some b → b ≡ a
one_error a b same = cc

-- none does
no_error : {A : Type 0} (e : Error) → None ≡ Some e → A
no_error e same = absurd (cc)

-- ---- what is refused

-- a piece is refused where its end comes short
piece_is : (rest : Framing) (piece : List ℕ) (ends : Bool) (e : Error)
    → piece_refusal rest piece ends ≡ Some e → IsWriters e
piece_is rest piece false e is = no_error e is
piece_is rest piece true e is =
    elim (cases_Bool (is_short (after_piece rest piece))) [
      | inl short ↦ inr (one_error ends_short e (rw short at is))
      | inr fits ↦ no_error e (rw fits at is)
    ]

-- so is a piece wherever it stands
piece_at_is : (at : Place) (piece : List ℕ) (ends : Bool) (e : Error)
    → piece_refusal_at at piece ends ≡ Some e → IsWriters e
piece_at_is place.NoHead piece ends e is = no_error e is
piece_at_is (place.Body rest) piece ends e is = piece_is rest piece ends e is
piece_at_is place.Done piece ends e is = no_error e is

-- a final head is refused for its framing, or its end
framed_is : (ends : Bool) (found : Option Framing) (e : Error)
    → framed_head_refusal ends found ≡ Some e → IsWriters e
framed_is ends None e is = inl (one_error bad_framing e is)
framed_is ends (Some framing) e is = piece_is framing [] ends e is

-- a head, wherever it stands
head_is : (request : Request) (at : Place) (head : ResponseHead) (ends : Bool) (e : Error)
    → head_refusal_at request at head ends ≡ Some e → IsWriters e
head_is request place.NoHead head ends e is =
    elim (cases_Bool (is_informational head.status)) [
      | inl informs ↦ no_error e (rw informs at is)
      | inr final ↦ framed_is ends (framing_of request head) e (rw final at is)
    ]
head_is request (place.Body rest) head ends e is = piece_is rest [] ends e is
head_is request place.Done head ends e is = no_error e is

-- a task that is no failure
task_is : (request : Request) (at : Place) (one : HttpTask) (e : Error)
    → is_failure one ≡ false → refusal request at one ≡ Some e → IsWriters e
task_is request at (task.Header head ends) e plain is = head_is request at head ends e is
task_is request at (task.Body piece ends) e plain is = piece_at_is at _ ends e is
task_is request at (task.UpgradedBody piece ends) e plain is = piece_at_is at _ ends e is
task_is request at (task.Trailer fields) e plain is = piece_at_is at [] true e is
task_is request at task.Done e plain is = piece_at_is at [] true e is
task_is request at (task.Failed error) e plain is = absurd (cc)

-- of two refusals the first is the writer's, or the later one is
later_is : (a b : Option Error) (e : Error) → or_later a b ≡ Some e
    → (a ≡ Some e) ⊎ (b ≡ Some e)
later_is None b e is = inr is
later_is (Some error) b e is = inl is

-- a refusal of tasks without a failure is one of the writer's
pub refused_is : (request : Request) (at : Place) (tasks : List HttpTask) (e : Error)
    → list_any is_failure tasks ≡ false → first_refusal request at tasks ≡ Some e → IsWriters e
refused_is request at [] e plain is = no_error e is
refused_is request at (one ∷ tasks) e plain is =
    let next = (task_sent request at one).place in
    let parts = or_parts (is_failure one) (list_any is_failure tasks) plain in
    elim (later_is (refusal request at one) (first_refusal request next tasks) e is) [
      | inl here ↦ task_is request at one e parts.0 here
      | inr later ↦ refused_is request next tasks e parts.1 later
    ]

-- ---- what no side answers for

-- errors with other contexts are apart
apart_by : {A : Type 0} (e : Error) → (e ≡ bad_framing → A) → (e ≡ ends_short → A)
    → IsWriters e → A
apart_by e framing short (inl is) = framing is
apart_by e framing short (inr is) = short is

-- the fault of a link is none of them
pub link_apart : (fault : Fault) (e : Error) → e ≡ link_fault fault → IsWriters e → ⊥
link_apart fault e is =
    apart_by e
    (λ same. let wrong = ap (λ (x : Error). x.context) (sym is ∙ same) in cc)
    (λ same. let wrong = ap (λ (x : Error). x.context) (sym is ∙ same) in cc)

-- the client's side answers for none of them
pub client_apart : (s : Origin) (p : DownPast) (link : LinkState) (e : Error)
    → ClientBlames s p link e → IsWriters e → ⊥
client_apart s p link e (client.ClientBlames.link_failed fault is rose counts) =
    link_apart fault e is
client_apart s p link e (client.ClientBlames.body_is_broken body says is) =
    apart_by e
    (λ same. let wrong = ap (λ (x : Error). x.esource) (sym is ∙ same) in cc)
    (λ same. let wrong = ap (λ (x : Error). x.context) (sym is ∙ same) in cc)
client_apart s p link e (client.ClientBlames.ends_inside body says ended is) =
    apart_by e
    (λ same. let wrong = ap (λ (x : Error). x.context) (sym is ∙ same) in cc)
    (λ same. let wrong = ap (λ (x : Error). x.context) (sym is ∙ same) in cc)
client_apart s p link e (client.ClientBlames.ends_behind body whole ended unanswered is) =
    apart_by e
    (λ same. let wrong = ap (λ (x : Error). x.context) (sym is ∙ same) in cc)
    (λ same. let wrong = ap (λ (x : Error). x.context) (sym is ∙ same) in cc)
client_apart s p link e (client.ClientBlames.sent_more body behind whole some unanswered is) =
    apart_by e
    (λ same. let wrong = ap (λ (x : Error). x.context) (sym is ∙ same) in cc)
    (λ same. let wrong = ap (λ (x : Error). x.context) (sym is ∙ same) in cc)

-- nor does the peer's side
pub peer_apart : (start : LinkStart) (link : LinkState) (head : RequestHead) (upgrade : Bool)
    (q : UpPast) (e : Error) → PeerBlames start link head upgrade q e → IsWriters e → ⊥
peer_apart start link head upgrade q e (peer.PeerBlames.link_failed fault is rose answered) =
    apart_by e
    (λ same. let wrong = ap (λ (x : Error). x.esource) (sym is ∙ same) in cc)
    (λ same. let wrong = ap (λ (x : Error). x.esource) (sym is ∙ same) in cc)
peer_apart start link head upgrade q e (peer.PeerBlames.is_cut_off told ended is says) =
    apart_by e
    (λ same. let wrong = ap (λ (x : Error). x.esource) (sym is ∙ same) in cc)
    (λ same. let wrong = ap (λ (x : Error). x.esource) (sym is ∙ same) in cc)
peer_apart start link head upgrade q e
    (peer.PeerBlames.is_broken why closed came told is front says breaks) =
    apart_by e
    (λ same. let wrong = ap (λ (x : Error). x.esource) (sym is ∙ same) in cc)
    (λ same. let wrong = ap (λ (x : Error). x.esource) (sym is ∙ same) in cc)
peer_apart start link head upgrade q e
    (peer.PeerBlames.is_short_request front pieces within ends joined short is) =
    apart_by e
    (λ same. let wrong = ap (λ (x : Error). x.esource) (sym is ∙ same) in cc)
    (λ same. let wrong = ap (λ (x : Error). x.esource) (sym is ∙ same) in cc)

-- and no head is refused with one of them
pub head_apart : (method : List ℕ) (upgrade : Bool) (got : List ℕ) (e : Error)
    → RefusesHead method upgrade got e → IsWriters e → ⊥
head_apart method upgrade got e
    (filtered.RefusesHead.switches informed final framing len has status is) =
    apart_by e
    (λ same. let wrong = ap (λ (x : Error). x.esource) (sym is ∙ same) in cc)
    (λ same. let wrong = ap (λ (x : Error). x.esource) (sym is ∙ same) in cc)
head_apart method upgrade got e
    (filtered.RefusesHead.is_full informed final framing len has lacks full is) =
    apart_by e
    (λ same. let wrong = ap (λ (x : Error). x.context) (sym is ∙ same) in cc)
    (λ same. let wrong = ap (λ (x : Error). x.context) (sym is ∙ same) in cc)
