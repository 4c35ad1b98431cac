-- A link of which the response was not read to its end is not kept, though the response was over
-- towards the client.
--
--   final_told   where the text of tasks is over a final head was told
--   kept_ended   then no link of a peer is kept before the end was handed on
use Rattle.std.proofs.Common.{◌≡◌, ℕ, Bool, true, false, List, [], ◌∷◌, ◌++◌, map, Option, Some, None, is_some, refl, sym, ap, subst, ◌∙◌, append-nil, if◌then◌else◌}
use Rattle.std.specs.List.{list_any}
use Rattle.relay_tasks.specs.declared.task.HttpTask.{HttpTask}
use Rattle.relay_tasks.specs.declared.task.HttpTask.TheVariants as task
use Rattle.relay_tasks.specs.Head.{ResponseHead}
use Rattle.relay_tasks.specs.Task.{is_end}
use Rattle.relay_h1.specs.ClientHead.{chunked_head, is_informational, lacks_framing}
use Rattle.relay_core.proofs.BoolLemmas.{and_left}
use Rattle.relay_peer.specs.H1Client.{may_keep_client}
use Rattle.relay_peer.specs.Peer.{AreTasks, Follow, StandsBehind, told_behind, told_of}
use Rattle.relay_peer.specs.ResponseReading.{IsResponseTask, ToldResponse, keeps_at, untold, with_head, with_task}
use Rattle.relay_peer.specs.ResponseReading as reading
use Rattle.relay_peer.specs.declared.h1_client.H1Client.{H1Client}
use Rattle.relay_peer.specs.declared.response_reading.ResponsePlace.{ResponsePlace}
use Rattle.relay_peer.specs.declared.response_reading.ResponsePlace.TheVariants as at
use Rattle.relay_session.specs.Response.{is_over}
use Rattle.relay_session.specs.TaskWire.{head_at, task_sent, wire}
use Rattle.relay_session.specs.declared.task_text.Place.{Place}
use Rattle.relay_session.specs.declared.task_text.Place.TheVariants as place
use Rattle.relay_session.specs.declared.task_text.Request.{Request}
use Rattle.relay_sides.specs.Filtered.{AreHeads, handed}
use Rattle.relay_attempt.proofs.FitLemmas.{final_stays}
use Rattle.relay_attempt.proofs.KeepLemmas.{kept_parts}
use Rattle.relay_attempt.proofs.WholeLemmas.{none_withheld}

-- nothing is no head
none_some : {A : Type 0} (o : Option ResponseHead) (head : ResponseHead) → o ≡ None
    → o ≡ Some head → A
none_some o head none some = let both = sym none ∙ some in absurd (cc)

-- the status of a head stays as it is handed on
still_status : (chunked : Bool) (head : ResponseHead)
    → (if chunked then chunked_head head else head).status ≡ head.status
still_status true head = refl
still_status false head = refl

-- a head with which no final one was told leaves the response before its final head
head_stays : (request : Request) (told : ToldResponse) (head given : ResponseHead) (ends : Bool)
    → given.status ≡ head.status → (with_head told head).final ≡ None
    → (head_at request place.NoHead given ends).place ≡ place.NoHead
head_stays request told head given ends same none =
    on (is_informational head.status) (ap is_informational same) none
  where
    on : (informs : Bool) → is_informational given.status ≡ informs
        → (if informs then record told { informed = told.informed ++ head ∷ [] }
        else record told { final = Some head }).final ≡ None
        → (head_at request place.NoHead given ends).place ≡ place.NoHead
    on true informs none = rw informs refl
    on false informs none = none_some (Some head) head none refl

-- so does any task
task_stays : (request : Request) (method : List ℕ) (told : ToldResponse) (one : HttpTask)
    → IsResponseTask told one → StandsBehind told one → told.final ≡ None
    → (with_task told one).final ≡ None
    → (task_sent request place.NoHead (handed method one)).place ≡ place.NoHead
task_stays request method told (task.Header head ends) is behind none still =
    head_stays request told head
    (if lacks_framing method ends head then chunked_head head else head) ends
    (still_status (lacks_framing method ends head) head) still
task_stays request method told (task.Body piece ends) is behind none still =
    let wrong : false ≡ true =
    subst (λ (o : Option ResponseHead). is_some o ≡ true) none behind in absurd (cc)
task_stays request method told (task.UpgradedBody piece ends) is behind none still = absurd is
task_stays request method told (task.Trailer fields) is behind none still = absurd is
task_stays request method told task.Done is behind none still = refl
task_stays request method told (task.Failed error) is behind none still = absurd is

-- no final head was told before others with which none was
none_before : (told : ToldResponse) (tasks : List HttpTask) (o : Option ResponseHead)
    → told.final ≡ o → Follow told tasks → (told_behind told tasks).final ≡ None
    → told.final ≡ None
none_before told tasks None is follow none = is
none_before told tasks (Some head) is follow none =
    none_some (told_behind told tasks).final head none (final_stays told tasks head follow is)

-- tasks with which no final head was told leave the response before its final head
tasks_stay : (request : Request) (method : List ℕ) (told : ToldResponse) (tasks : List HttpTask)
    → Follow told tasks → told.final ≡ None → (told_behind told tasks).final ≡ None
    → (wire request place.NoHead (map (handed method) tasks)).place ≡ place.NoHead
tasks_stay request method told [] follow none still = refl
tasks_stay request method told (one ∷ tasks) follow none still =
    let next = none_before (with_task told one) tasks (with_task told one).final refl follow.2 still
    in
    ap (λ (p : Place). (wire request p (map (handed method) tasks)).place)
    (task_stays request method told one follow.0 follow.1 none next)
    ∙ tasks_stay request method (with_task told one) tasks follow.2 next still

-- a final head was told
record HasTold (tasks : List HttpTask) : Type 0 where
  pub head : ResponseHead
  pub told : (told_of tasks).final ≡ Some head

-- where the text of tasks is over a final head was told
final_told : (request : Request) (method : List ℕ) (tasks : List HttpTask) → Follow untold tasks
    → is_over (wire request place.NoHead (map (handed method) tasks)).place ≡ true
    → HasTold tasks
final_told request method tasks follow over = on (told_of tasks).final refl
  where
    on : (o : Option ResponseHead) → (told_of tasks).final ≡ o → HasTold tasks
    on None is =
        let wrong : false ≡ true =
        subst (λ (p : Place). is_over p ≡ true)
        (tasks_stay request method untold tasks follow refl is) over in absurd (cc)
    on (Some head) is = record { head = head; told = is }

-- a reading that lets its link be kept has come to the end
keeps_over : (now : ResponsePlace) → keeps_at now ≡ true → reading.is_over now ≡ true
keeps_over at.NoHead keeps = absurd (cc)
keeps_over at.Informed keeps = absurd (cc)
keeps_over (at.InBody body) keeps = absurd (cc)
keeps_over (at.Ended kept) keeps = refl

-- where a response is over towards the client, its peer's link is kept only where its end was
-- handed on
pub kept_ended : {L : Type 0} (request : Request) (method : List ℕ) (upgrade closed : Bool)
    (got : List ℕ) (given withheld : List HttpTask) (client : H1Client L)
    → AreTasks method upgrade closed got (given ++ withheld) client.response → AreHeads withheld
    → Follow untold given
    → is_over (wire request place.NoHead (map (handed method) given)).place ≡ true
    → may_keep_client client ≡ true → list_any is_end given ≡ true
kept_ended request method upgrade closed got given withheld client tasks heads follow over kept =
    let final = final_told request method given follow over in
    let none = none_withheld given withheld final.head tasks.follow heads final.told in
    let reads = (kept_parts client kept).1 in
    ap (λ (l : List HttpTask). list_any is_end l)
    (sym (append-nil given) ∙ ap (λ (w : List HttpTask). given ++ w) (sym none))
    ∙ tasks.ended
    ∙ keeps_over client.response.place (and_left (keeps_at client.response.place) _ reads)
