-- The tasks of a response none of whose heads is refused, as its peer gave them, are handed on.
--
--   full_informs      no informational head is to be chunked
--   stays_informs     nor does it switch protocols
--   final_unswitched  nor does a final head of such a response
--   final_room        which has room where it is to be chunked
--   read_passes       each task of it may pass such filters
--   are_handed        from AreSaid: AreOf of relay_attempt
--   read_ends         where a front of them is over, the end of the response was read
use Rattle.std.proofs.Common.{◌≡◌, ℕ, Bool, true, false, not, ◌⊎◌, inl, inr, List, [], ◌∷◌, ◌++◌, append-nil, map, refl, sym, subst, ◌∙◌, Some, eqb-true}
use Rattle.std.specs.Prelude.{All, ◌==◌, ◌&&◌, ◌||◌, is_none, nat_le, nat_lt, codes}
use Rattle.std.specs.List.{AllByRecursion, list_any}
use Rattle.std.proofs.lemmas.List.Elements.{All-cons, All-nil, All-head, All-tail}
use Rattle.http_header.specs.HeaderMap.{RefusesInsert, get}
use Rattle.relay_tasks.specs.Head.{ResponseHead}
use Rattle.relay_tasks.specs.Task.{is_end}
use Rattle.relay_tasks.specs.declared.context.Context.TheVariants.{Mismatch101, HeadTooLong}
use Rattle.relay_tasks.specs.declared.error.Error.{Error}
use Rattle.relay_tasks.specs.declared.error.ErrorSource.TheVariants.{Upstream, Internal}
use Rattle.relay_tasks.specs.declared.task.HttpTask.{HttpTask}
use Rattle.relay_tasks.specs.declared.task.HttpTask.TheVariants as task
use Rattle.relay_h1.specs.ClientHead.{is_informational, lacks_framing}
use Rattle.relay_h1.specs.Framing.{is_bodiless}
use Rattle.relay_h1.specs.Tasks.{HasFinal}
use Rattle.relay_h1.specs.Verdict.{refused_from}
use Rattle.relay_peer.specs.ResponseReading.{ToldResponse, untold, with_head, with_task}
use Rattle.relay_session.specs.Asked.{request_of}
use Rattle.relay_session.specs.Response.{is_over}
use Rattle.relay_session.specs.TaskWire.{wire}
use Rattle.relay_session.specs.declared.task_text.Place.TheVariants as place
use Rattle.relay_peer.specs.Peer.{AreTasks, Follow, told_behind, told_of}
use Rattle.relay_core.specs.Past.{Origin}
use Rattle.relay_core.proofs.BoolLemmas.{decide, not_true, or_false, or_left, or_right}
use Rattle.relay_sides.specs.Filtered as filtered
use Rattle.relay_sides.specs.Filtered.{HasRoom, RefusesHead, handed, is_head_request, is_switch}
use Rattle.relay_sides.proofs.FilterLemmas.{one_test}
use Rattle.relay_filters.specs.Chain.{method_of}
use Rattle.relay_attempt.specs.Agrees.{AsksAlike}
use Rattle.relay_attempt.specs.Order.{AreOf}
use Rattle.relay_attempt.specs.Passed.{Passed}
use Rattle.relay_attempt.proofs.FitLemmas.{final_stays, over_has_end}
use Rattle.relay_hooked.specs.Order.{AreSaid}
use Rattle.relay_hooked.proofs.MadeLemmas.{method_asks}
use Rattle.relay_still.proofs.StopLemmas.{TaskMayPass}

-- ---- the heads that tasks tell

-- a head among tasks is an informational one, or the final one that is told
abbrev pub IsToldHead : ToldResponse → HttpTask → Type 0
IsToldHead told (task.Header head end) =
    (is_informational head.status ≡ true) ⊎ (told.final ≡ Some head)
IsToldHead told (task.Body piece end) = Unit {0}
IsToldHead told (task.UpgradedBody piece end) = Unit {0}
IsToldHead told (task.Trailer fields) = Unit {0}
IsToldHead told task.Done = Unit {0}
IsToldHead told (task.Failed error) = Unit {0}

-- a head that tells no informational one tells the final one
tells_head : (told : ToldResponse) (head : ResponseHead) (informs : Bool)
    → is_informational head.status ≡ informs
    → (is_informational head.status ≡ true) ⊎ ((with_head told head).final ≡ Some head)
tells_head told head true is = inl is
tells_head told head false is = inr (rw is refl)

-- one task in front of others is so
one_told : (told : ToldResponse) (one : HttpTask) (tasks : List HttpTask)
    → Follow (with_task told one) tasks
    → IsToldHead (told_behind (with_task told one) tasks) one
one_told told (task.Header head end) tasks follow =
    elim (tells_head told head (is_informational head.status) refl) [
      | inl informs ↦ inl informs
      | inr final ↦ inr (final_stays (with_head told head) tasks head follow final)
    ]
one_told told (task.Body piece end) tasks follow = tt
one_told told (task.UpgradedBody piece end) tasks follow = tt
one_told told (task.Trailer fields) tasks follow = tt
one_told told task.Done tasks follow = tt
one_told told (task.Failed error) tasks follow = tt

-- and each of them
pub all_told : (told : ToldResponse) (tasks : List HttpTask) → Follow told tasks
    → All (IsToldHead (told_behind told tasks)) tasks
all_told told [] follow = All-nil (IsToldHead (told_behind told []))
all_told told (one ∷ tasks) follow =
    All-cons (IsToldHead (told_behind told (one ∷ tasks))) one tasks
    (one_told told one tasks follow.2) (all_told (with_task told one) tasks follow.2)

-- ---- what a head lacks

-- where all of four hold, the second does
second : (a b c d : Bool) → (a && b && c && d) ≡ true → b ≡ true
second true true c d is = refl
second true false c d is = absurd (cc)
second false b c d is = absurd (cc)

-- and the others do beside another that holds
others : (a b c d : Bool) → (not a && b && c && d) ≡ true → (not false && b && c && d) ≡ true
others false b c d is = is
others true b c d is = absurd (cc)

-- a head that is to be chunked as the last task is so as one before others too
lacks_whole : (method : List ℕ) (end : Bool) (head : ResponseHead)
    → lacks_framing method end head ≡ true → lacks_framing method false head ≡ true
unfolding lacks_framing
lacks_whole method end head lacks =
    others end _ (is_none (get head.fields (codes "content-length")))
    (is_none (get head.fields (codes "transfer-encoding"))) lacks

-- no informational head is to be chunked
pub full_informs : (method : List ℕ) (end : Bool) (head : ResponseHead)
    → is_informational head.status ≡ true → lacks_framing method end head ≡ true → ⊥
unfolding lacks_framing
full_informs method end head informs lacks =
    let none = not_true (is_head_request method || is_bodiless head.status)
    (second (not end) _ (is_none (get head.fields (codes "content-length")))
    (is_none (get head.fields (codes "transfer-encoding"))) lacks) in
    between (nat_le 100 head.status) (nat_lt head.status 200) (not (head.status == 101)) informs
    (or_left (nat_le 100 head.status && nat_lt head.status 200) _
    (or_right (is_head_request method) (is_bodiless head.status) none))
  where
    between : (a b c : Bool) → (a && b && c) ≡ true → (a && b) ≡ false → ⊥
    between true true c all some = cc
    between true false c all some = cc
    between false b c all some = cc

-- it switches no protocols
pub stays_informs : (head : ResponseHead) → is_informational head.status ≡ true
    → (head.status == 101) ≡ false
stays_informs head informs =
    not_true (head.status == 101)
    (third (nat_le 100 head.status) (nat_lt head.status 200) (not (head.status == 101)) informs)
  where
    third : (a b c : Bool) → (a && b && c) ≡ true → c ≡ true
    third true true c all = all
    third true false c all = absurd (cc)
    third false b c all = absurd (cc)

-- ---- the tasks of a response none of whose heads is refused

module _
    (s : Origin) (p : Passed) (closed : Bool)
    (none : (e : Error) → RefusesHead s.sent.method s.asked p.got e → ⊥)
  where
    -- its final head switches no protocols
    pub final_unswitched : (informed : List ResponseHead) (head : ResponseHead)
        (framing : _) (len : ℕ) → HasFinal s.sent.method s.asked p.got informed head framing len
        → (head.status == 101) ≡ false
    final_unswitched informed head framing len has =
        elim (decide (head.status == 101)) [
          | inl is ↦ absurd (none
              (refused_from Upstream Mismatch101)
              (filtered.RefusesHead.switches informed head framing len has
              (eqb-true head.status 101 is) refl))
          | inr stays ↦ stays
        ]

    -- and has room where it is to be chunked
    pub final_room : (informed : List ResponseHead) (head : ResponseHead)
        (framing : _) (len : ℕ) → HasFinal s.sent.method s.asked p.got informed head framing len
        → (end : Bool) → lacks_framing s.sent.method end head ≡ true
        → RefusesInsert head.fields (codes "transfer-encoding") → ⊥
    final_room informed head framing len has end lacks refuses =
        none (refused_from Internal HeadTooLong)
        (filtered.RefusesHead.is_full informed head framing len has
        (lacks_whole s.sent.method end head lacks) refuses refl)

    module _ (read : List HttpTask) (said : AreSaid s.sent.method s.asked closed p.got read)
      where
        -- no head that was told switches protocols
        one_stays : (one : HttpTask) → IsToldHead (told_of read) one → is_switch one ≡ false
        one_stays (task.Header head end) (inl informs) = stays_informs head informs
        one_stays (task.Header head end) (inr final) =
            let (framing, len, has) = said.final head final in
            final_unswitched (told_of read).informed head framing len has
        one_stays (task.Body piece end) told = refl
        one_stays (task.UpgradedBody piece end) told = refl
        one_stays (task.Trailer fields) told = refl
        one_stays task.Done told = refl
        one_stays (task.Failed error) told = refl

        all_stay : (tasks : List HttpTask) → All (IsToldHead (told_of read)) tasks
            → list_any is_switch tasks ≡ false
        all_stay [] told = refl
        all_stay (one ∷ tasks) told =
            or_false (is_switch one) (list_any is_switch tasks)
            (one_stays one (All-head (IsToldHead (told_of read)) one tasks told))
            (all_stay tasks (All-tail (IsToldHead (told_of read)) one tasks told))

        -- and each has room
        one_room : (one : HttpTask) → IsToldHead (told_of read) one → HasRoom s.sent.method one
        one_room (task.Header head end) (inl informs) =
            λ lacks refuses. full_informs s.sent.method end head informs lacks
        one_room (task.Header head end) (inr final) =
            let (framing, len, has) = said.final head final in
            λ lacks refuses.
            final_room (told_of read).informed head framing len has end lacks refuses
        one_room (task.Body piece end) told = tt
        one_room (task.UpgradedBody piece end) told = tt
        one_room (task.Trailer fields) told = tt
        one_room task.Done told = tt
        one_room (task.Failed error) told = tt

        all_room : (tasks : List HttpTask) → All (IsToldHead (told_of read)) tasks
            → All (HasRoom s.sent.method) tasks
        all_room [] told = All-nil (HasRoom s.sent.method)
        all_room (one ∷ tasks) told =
            All-cons (HasRoom s.sent.method) one tasks
            (one_room one (All-head (IsToldHead (told_of read)) one tasks told))
            (all_room tasks (All-tail (IsToldHead (told_of read)) one tasks told))

        -- so each may pass filters that change nothing
        one_passes : (oh : Bool) → is_head_request s.sent.method ≡ oh → (one : HttpTask)
            → IsToldHead (told_of read) one → TaskMayPass oh one
        one_passes oh same (task.Header head end) told = record {
          stays = one_stays (task.Header head end) told;
          room = λ lacks refuses.
              one_room (task.Header head end) told
              (one_test s.sent.method (method_of oh) end head (same ∙ sym (method_asks oh))
              ∙ lacks) refuses;
        }
        one_passes oh same (task.Body piece end) told = tt
        one_passes oh same (task.UpgradedBody piece end) told = tt
        one_passes oh same (task.Trailer fields) told = tt
        one_passes oh same task.Done told = tt
        one_passes oh same (task.Failed error) told = tt

        all_pass : (oh : Bool) → is_head_request s.sent.method ≡ oh → (tasks : List HttpTask)
            → All (IsToldHead (told_of read)) tasks → AllByRecursion (TaskMayPass oh) tasks
        all_pass oh same [] told = tt
        all_pass oh same (one ∷ tasks) told = (
          one_passes oh same one (All-head (IsToldHead (told_of read)) one tasks told),
          all_pass oh same tasks (All-tail (IsToldHead (told_of read)) one tasks told),
        )

        pub read_passes : (oh : Bool) → is_head_request s.sent.method ≡ oh
            → AllByRecursion (TaskMayPass oh) read
        read_passes oh same = all_pass oh same read (all_told untold read said.follow)

        -- and the tasks are handed on
        pub are_handed : AreOf s.sent.method s.asked closed p.got
            (map (handed s.sent.method) read)
        are_handed = record {
          given = read;
          are = refl;
          follow = said.follow;
          stays = all_stay read (all_told untold read said.follow);
          have_room = all_room read (all_told untold read said.follow);
          informed = said.informed;
          final = said.final;
          body = said.body;
          ends_last = said.ends_last;
          whole = said.whole;
          framed = said.framed;
        }

        -- and where a front of them is sent as a text that is over, their end was read
        pub read_ends : AsksAlike s.head s.sent → (front rest : List HttpTask)
            → map (handed s.sent.method) read ≡ front ++ rest
            → is_over (wire (request_of s.head) place.NoHead front).place ≡ true
            → list_any is_end read ≡ true
        unfolding are_handed
        read_ends alike front rest same over =
            over_has_end s.head s.sent.method alike s.asked closed p.got
            (map (handed s.sent.method) read) are_handed [] said.reading
            (subst (λ (l : List HttpTask).
            AreTasks s.sent.method s.asked closed p.got l said.reading)
            (sym (append-nil read)) said.are_tasks) tt front rest same over
