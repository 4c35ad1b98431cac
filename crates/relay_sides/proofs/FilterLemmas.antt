-- A side over a side of the upstream: how each answer of the inner side goes on, and what a task
-- becomes.
use Rattle.std.proofs.Common.{◌≡◌, ℕ, ◌+◌, Bool, true, false, not, ◌&&◌, ◌||◌, List, [], ◌∷◌, ◌++◌, map, refl, sym, ap, subst, ◌∙◌, append-nil, arith, Option, Some, None, Ok, codes, is_none}
use Rattle.std.specs.Prelude.{min}
use Rattle.std.specs.List.{list_any}
use Rattle.std.proofs.lemmas.List.{map-append}
use Rattle.std.proofs.lemmas.List.Elements.{All-push}
use Rattle.std.proofs.lemmas.List.Folds.{list_any-append}
use Rattle.http_header.specs.HeaderMap.{RefusesInsert, get}
use Rattle.relay_tasks.specs.Error.{IsMemoryOr, refused}
use Rattle.relay_tasks.specs.Head.{ResponseHead}
use Rattle.relay_tasks.specs.declared.context.Context.TheVariants.{HeadTooLong, Mismatch101}
use Rattle.relay_tasks.specs.declared.error.Error.{Error}
use Rattle.relay_tasks.specs.declared.error.ErrorSource.TheVariants.{Upstream, Internal}
use Rattle.relay_tasks.specs.declared.error.Fail.{Fail}
use Rattle.relay_tasks.specs.declared.error.Fail.TheVariants as fail
use Rattle.relay_tasks.specs.declared.task.HttpTask.{HttpTask}
use Rattle.relay_tasks.specs.declared.task.HttpTask.TheVariants as task
use Rattle.relay_tasks.specs.declared.took.Pause.{Pause}
use Rattle.relay_tasks.specs.declared.took.Pause.TheVariants.{NotReady, Silent}
use Rattle.relay_tasks.specs.Task.{is_end}
use Rattle.relay_links.specs.Count.{last_count}
use Rattle.relay_links.specs.declared.link.Put.{Put}
use Rattle.relay_links.specs.declared.link.Put.TheVariants as put
use Rattle.relay_h1.specs.ClientHead.{lacks_framing}
use Rattle.relay_h1.specs.Framing.{is_bodiless}
use Rattle.relay_core.specs.Past.{UpPast, UpGoes, error_of_fail}
use Rattle.relay_core.specs.Pipe.{is_failure}
use Rattle.relay_core.specs.Told.{failed, paused, written}
use Rattle.relay_core.specs.Up.{UpState, GivesTask, Writes}
use Rattle.relay_core.specs.declared.told.Told.{Told}
use Rattle.relay_sides.specs.Filtered.{IsFiltered, BlamesOver, HandsOn, HasRoom, IsWithheld, Withholds, asks_to_close, handed, inside, is_head_request, is_switch, state_over, stops_for_error}
use Rattle.relay_sides.specs.Filtered as filtered

-- ---- a head

-- what lacks a framing does so by whether its request is a HEAD
pub one_test : (a b : List ℕ) (end : Bool) (head : ResponseHead)
    → is_head_request a ≡ is_head_request b
    → lacks_framing a end head ≡ lacks_framing b end head
unfolding lacks_framing
one_test a b end head same =
    ap (λ (of_head : Bool). not end && not (of_head || is_bodiless head.status)
    && is_none (get head.fields (codes "content-length"))
    && is_none (get head.fields (codes "transfer-encoding"))) same

-- there is a method that is HEAD, and one that is not
pub some_method : (of_head : Bool) → (method : List ℕ) × (of_head ≡ is_head_request method)
some_method true = (codes "HEAD", refl)
some_method false = (codes "GET", refl)

-- a head that has no room for the field that makes it chunked, or wants memory for it
pub full_withholds : (method : List ℕ) (head : ResponseHead) (end : Bool) (why out : Fail)
    → lacks_framing method end head ≡ true → IsMemoryOr (refused HeadTooLong) why
    → (why ≡ fail.Error (refused HeadTooLong)
    → RefusesInsert head.fields (codes "transfer-encoding"))
    → out ≡ inside why → Withholds method (task.Header head end) out
full_withholds method head end fail.OutOfMemory out lacks causes full is =
    subst (λ (f : Fail). Withholds method (task.Header head end) f) (sym is)
    (filtered.Withholds.wants_memory head end refl lacks)
full_withholds method head end (fail.Error error) out lacks causes full is =
    subst (λ (f : Fail). Withholds method (task.Header head end) f)
    (sym (is ∙ ap (λ (e : Error). fail.Error (record e { esource = Internal })) causes))
    (filtered.Withholds.is_full head end refl lacks (full (ap fail.Error causes)))

-- a head that switches protocols
pub switch_withholds : (method : List ℕ) (head : ResponseHead) (end : Bool) (status : ℕ)
    (inner outer : Error) → status ≡ head.status → status ≡ 101
    → inner ≡ refused Mismatch101 → outer ≡ record inner { esource = Upstream }
    → Withholds method (task.Header head end) (fail.Error outer)
switch_withholds method head end status inner outer of is cause out =
    subst (λ (e : Error). Withholds method (task.Header head end) (fail.Error e))
    (sym (out ∙ ap (λ (e : Error). record e { esource = Upstream }) cause))
    (filtered.Withholds.switches head end refl (sym of ∙ is))

-- a task that is handed on ends the response where it did
handed_end : (method : List ℕ) (one : HttpTask) → is_end (handed method one) ≡ is_end one
handed_end method (task.Header head end) = refl
handed_end method (task.Body piece end) = refl
handed_end method (task.UpgradedBody piece end) = refl
handed_end method (task.Trailer fields) = refl
handed_end method task.Done = refl
handed_end method (task.Failed error) = refl

-- tasks that are handed on end the response where they did
pub handed_ends : (method : List ℕ) (tasks : List HttpTask)
    → list_any is_end (map (handed method) tasks) ≡ list_any is_end tasks
handed_ends method [] = refl
handed_ends method (one ∷ tasks) = rw (handed_end method one, handed_ends method tasks) refl

-- ---- what is told

-- a count that was raised is not 0
never_none : (n : ℕ) → min (n + 1) last_count ≡ 0 → ⊥
never_none n none = absurd (omega (arith, none))

-- a failure of the side's own is told by it alone
pub quiet_alone : (why : Fail) (a b : Told) → (a.errors ≡ 0 → b.errors ≡ 0)
    → (failed why a).errors ≡ 0 → b.errors ≡ 0
quiet_alone fail.OutOfMemory a b quiet none = quiet none
quiet_alone (fail.Error e) a b quiet none = absurd (never_none a.errors none)

-- a failure of the inner side is told by both
pub quiet_failed : (why : Fail) (a b : Told) → (a.errors ≡ 0 → b.errors ≡ 0)
    → (failed why a).errors ≡ 0 → (failed why b).errors ≡ 0
quiet_failed fail.OutOfMemory a b quiet none = quiet none
quiet_failed (fail.Error e) a b quiet none = absurd (never_none a.errors none)

-- a pause is none
pub quiet_paused : (pause : Pause) (a b : Told) → (a.errors ≡ 0 → b.errors ≡ 0)
    → (paused pause a).errors ≡ 0 → (paused pause b).errors ≡ 0
quiet_paused NotReady a b quiet none = quiet none
quiet_paused Silent a b quiet none = quiet none

-- a write is told by both
pub quiet_written : (answer : Put) (a b : Told) → (a.errors ≡ 0 → b.errors ≡ 0)
    → (written Upstream answer a).errors ≡ 0 → (written Upstream answer b).errors ≡ 0
quiet_written (put.Took n) a b quiet none = quiet none
quiet_written put.NotReady a b quiet none = quiet none
quiet_written put.Silent a b quiet none = quiet none
quiet_written (put.Failed fault) a b quiet none = absurd (never_none a.errors none)
quiet_written put.OutOfMemory a b quiet none = quiet none

-- what the inner side told of a write
pub told_written : (before after : UpState) (answer : Put) → Writes before after answer
    → after.told ≡ written Upstream answer before.told
told_written before after (put.Took n) writes = ap (λ (x : UpState). x.told) writes
told_written before after put.NotReady writes = ap (λ (x : UpState). x.told) writes
told_written before after put.Silent writes = ap (λ (x : UpState). x.told) writes
told_written before after (put.Failed fault) writes = ap (λ (x : UpState). x.told) writes
told_written before after put.OutOfMemory writes = ap (λ (x : UpState). x.told) writes

-- ---- the state

-- a test or one that fails is that test
or_none : (b : Bool) → (b || false) ≡ b
or_none true = refl
or_none false = refl

-- a task is handed on
pub reads_hands : (inner inner' : UpState) (up up' : Bool) (stopped : Option Fail) (told : Told)
    (came given : HttpTask) → GivesTask inner inner' came → is_failure given ≡ false
    → up' ≡ up || inner'.upgraded
    → GivesTask (state_over inner up stopped told) (state_over inner' up' stopped told) given
reads_hands inner inner' up up' stopped told came given gives plain is = record {
  exact = ap (λ (x : UpState). state_over x up' stopped told) gives.exact;
  upgraded_stays = λ before. is ∙ ap (λ (b : Bool). b || inner'.upgraded) before;
  no_failure = plain;
}

-- ---- what passed

-- the past as the inner side has it
abbrev pub inside_of : UpPast → List HttpTask → UpPast
inside_of q read = record q { read = read }

module _
    (inner inner' : UpPast → Type 0) (blames blames' : UpPast → Error → Type 0)
    (unread : (q : UpPast) (read : List HttpTask) (e : Error) → blames q e
    → blames (inside_of q read) e)
    (unread' : (q : UpPast) (read : List HttpTask) (e : Error) → blames' q e
    → blames' (inside_of q read) e)
    (method : List ℕ) (of_head closes : Bool) (stopped : Option Fail) (told inner_told : Told)
    (q : UpPast) (h : IsFiltered inner method of_head closes stopped told inner_told q)
  where
    -- the past of the inner side
    abbrev pub here : UpPast
    here = inside_of q (h.given ++ h.withheld)

    -- the inner side gave no task
    pub goes_on : (read_in read taken : List HttpTask) (gone : Bool) (error : Option Error)
        (told' inner_told' : Told) → read_in ≡ h.given ++ h.withheld → read ≡ q.read
        → (told'.errors ≡ 0 → inner_told'.errors ≡ 0)
        → UpGoes inner' blames blames' here read_in taken gone error
        → UpGoes (IsFiltered inner' method of_head closes stopped told' inner_told')
        (λ r e. BlamesOver blames stopped r e) (λ r e. BlamesOver blames' stopped r e) q read taken
        gone error
    goes_on read_in read taken gone error told' inner_told' is same quiet g = record {
      past = inside_of g.past q.read;
      stands = record {
        own = h.own;
        given = h.given;
        withheld = h.withheld;
        holds = subst (λ (l : List HttpTask). inner' (inside_of g.past l)) (g.is_read ∙ is)
            g.stands;
        is_read = h.is_read;
        none_switches = h.none_switches;
        have_room = h.have_room;
        is_withheld = h.is_withheld;
        closes = h.closes;
        quiet = quiet;
      };
      is_read = sym same;
      is_taken = g.is_taken;
      is_lost = g.is_lost;
      keeps = λ e blamed. keeps_on g.past e (g.keeps e) blamed;
      blamed = λ e told. filtered.BlamesOver.by_inner (unread' g.past q.read e (g.blamed e told));
    }
      where
        keeps_on : (past : UpPast) (e : Error) → (blames here e → blames' past e)
            → BlamesOver blames stopped q e → BlamesOver blames' stopped (inside_of past q.read) e
        keeps_on past e keeps (filtered.BlamesOver.by_inner b) =
            filtered.BlamesOver.by_inner
            (unread' past q.read e (keeps (unread q (h.given ++ h.withheld) e b)))
        keeps_on past e keeps (filtered.BlamesOver.by_refusal is) =
            filtered.BlamesOver.by_refusal is

    -- nothing is withheld by a side that has not stopped
    none_withheld : stopped ≡ None → h.withheld ≡ []
    none_withheld open_yet =
        subst (λ (st : Option Fail). IsWithheld method st h.withheld) open_yet h.is_withheld

    -- a side that has not stopped keeps to answer for what it did
    still : (past : UpPast) (now : Option Fail) (e : Error) (read : List HttpTask)
        → stopped ≡ None → (blames here e → blames' past e) → BlamesOver blames stopped q e
        → BlamesOver blames' now (inside_of past read) e
    still past now e read open_yet keeps (filtered.BlamesOver.by_inner b) =
        filtered.BlamesOver.by_inner
        (unread' past read e (keeps (unread q (h.given ++ h.withheld) e b)))
    still past now e read open_yet keeps (filtered.BlamesOver.by_refusal is) =
        absurd (apart (sym open_yet ∙ is))
      where
        apart : None ≡ Some (fail.Error e) → ⊥
        apart same = cc

    -- the inner side gave a task that is handed on
    pub hands_on : (came given : HttpTask) (closes' : Bool) (inner_told' : Told)
        → stopped ≡ None → HandsOn method came (Ok given)
        → closes' ≡ closes || asks_to_close given
        → (told.errors ≡ 0 → inner_told'.errors ≡ 0)
        → UpGoes inner' blames blames' here ((h.given ++ h.withheld) ++ came ∷ []) q.taken q.lost
        None
        → UpGoes (IsFiltered inner' method of_head closes' stopped told inner_told')
        (λ r e. BlamesOver blames stopped r e) (λ r e. BlamesOver blames' stopped r e) q
        (q.read ++ given ∷ []) q.taken q.lost None
    hands_on came given closes' inner_told' open_yet hands closing quiet g =
        let none = none_withheld open_yet in
        let all = g.is_read
        ∙ ap (λ (w : List HttpTask). (h.given ++ w) ++ came ∷ []) none
        ∙ ap (λ (w : List HttpTask). w ++ came ∷ []) (append-nil h.given)
        ∙ sym (append-nil (h.given ++ came ∷ [])) in
        record {
          past = inside_of g.past (q.read ++ given ∷ []);
          stands = record {
            own = h.own;
            given = h.given ++ came ∷ [];
            withheld = [];
            holds = subst (λ (l : List HttpTask). inner' (inside_of g.past l)) all g.stands;
            is_read = ap (λ (r : List HttpTask). r ++ given ∷ []) h.is_read
                ∙ ap (λ (t : HttpTask). map (handed method) h.given ++ t ∷ []) hands.0
                ∙ sym (map-append (handed method) h.given (came ∷ []));
            none_switches = list_any-append is_switch h.given (came ∷ [])
                ∙ ap (λ (b : Bool). b || (is_switch came || false)) h.none_switches
                ∙ ap (λ (b : Bool). b || false) hands.2;
            have_room = All-push (HasRoom method) h.given came h.have_room hands.3;
            is_withheld = subst (λ (st : Option Fail). IsWithheld method st []) (sym open_yet) refl;
            closes = closing
                ∙ ap (λ (b : Bool). b || asks_to_close given) h.closes
                ∙ ap (λ (b : Bool). list_any asks_to_close q.read || b)
                (sym (or_none (asks_to_close given)))
                ∙ sym (list_any-append asks_to_close q.read (given ∷ []));
            quiet = quiet;
          };
          is_read = refl;
          is_taken = g.is_taken;
          is_lost = g.is_lost;
          keeps = λ e b. still g.past stopped e (q.read ++ given ∷ []) open_yet (g.keeps e) b;
          blamed = λ e none. absurd (cc);
        }

    -- the inner side gave a task that is withheld
    pub stops : (came : HttpTask) (why : Fail) (read : List HttpTask) (told' inner_told' : Told)
        → stopped ≡ None → Withholds method came why → read ≡ q.read
        → (told'.errors ≡ 0 → inner_told'.errors ≡ 0)
        → UpGoes inner' blames blames' here ((h.given ++ h.withheld) ++ came ∷ []) q.taken q.lost
        None
        → UpGoes (IsFiltered inner' method of_head closes (Some why) told' inner_told')
        (λ r e. BlamesOver blames stopped r e) (λ r e. BlamesOver blames' (Some why) r e) q read
        q.taken q.lost (error_of_fail why)
    stops came why read told' inner_told' open_yet withholds same quiet g =
        let none = none_withheld open_yet in
        let all = g.is_read
        ∙ ap (λ (w : List HttpTask). (h.given ++ w) ++ came ∷ []) none
        ∙ ap (λ (w : List HttpTask). w ++ came ∷ []) (append-nil h.given) in
        record {
          past = inside_of g.past q.read;
          stands = record {
            own = h.own;
            given = h.given;
            withheld = came ∷ [];
            holds = subst (λ (l : List HttpTask). inner' (inside_of g.past l)) all g.stands;
            is_read = h.is_read;
            none_switches = h.none_switches;
            have_room = h.have_room;
            is_withheld = (came, refl, withholds);
            closes = h.closes;
            quiet = quiet;
          };
          is_read = sym same;
          is_taken = g.is_taken;
          is_lost = g.is_lost;
          keeps = λ e b. still g.past (Some why) e q.read open_yet (g.keeps e) b;
          blamed = λ e told. filtered.BlamesOver.by_refusal (ap Some (fail_is why e told));
        }
      where
        some_error : (a b : Error) → Some a ≡ Some b → a ≡ b
        some_error a b same = cc

        fail_is : (why : Fail) (e : Error) → error_of_fail why ≡ Some e → why ≡ fail.Error e
        fail_is fail.OutOfMemory e told = cc
        fail_is (fail.Error error) e told = ap fail.Error (some_error error e told)

-- a side that has stopped answers why, and leaves its inner side
pub stays_stopped : (inner : UpPast → Type 0) (blames : UpPast → Error → Type 0) (method : List ℕ)
    (of_head closes : Bool) (stopped : Option Fail) (why : Fail) (told told' inner_told : Told)
    (q : UpPast) (read : List HttpTask) → stopped ≡ Some why → told' ≡ failed why told
    → read ≡ q.read → IsFiltered inner method of_head closes stopped told inner_told q
    → UpGoes (IsFiltered inner method of_head closes stopped told' inner_told)
    (λ r e. BlamesOver blames stopped r e) (λ r e. BlamesOver blames stopped r e) q read q.taken
    q.lost (error_of_fail why)
stays_stopped inner blames method of_head closes stopped why told told' inner_told q read is tells
    same h = record {
      past = q;
      stands = record {
        own = h.own;
        given = h.given;
        withheld = h.withheld;
        holds = h.holds;
        is_read = h.is_read;
        none_switches = h.none_switches;
        have_room = h.have_room;
        is_withheld = h.is_withheld;
        closes = h.closes;
        quiet = λ none.
            quiet_alone why told inner_told h.quiet
            (sym (ap (λ (t : Told). t.errors) tells) ∙ none);
      };
      is_read = sym same;
      is_taken = refl;
      is_lost = refl;
      keeps = λ e b. b;
      blamed = λ e told. filtered.BlamesOver.by_refusal (is ∙ ap Some (fail_is why e told));
    }
  where
    some_error : (a b : Error) → Some a ≡ Some b → a ≡ b
    some_error a b same = cc

    fail_is : (why : Fail) (e : Error) → error_of_fail why ≡ Some e → why ≡ fail.Error e
    fail_is fail.OutOfMemory e told = cc
    fail_is (fail.Error error) e told = ap fail.Error (some_error error e told)

-- before the end was handed on the inner side had not given it
pub unended_inside : (inner : UpPast → Type 0) (method : List ℕ) (of_head closes : Bool)
    (stopped : Option Fail) (told inner_told : Told) (q : UpPast)
    (h : IsFiltered inner method of_head closes stopped told inner_told q) → stopped ≡ None
    → list_any is_end q.read ≡ false → list_any is_end (h.given ++ h.withheld) ≡ false
unended_inside inner method of_head closes stopped told inner_told q h open_yet unended =
    let none = subst (λ (st : Option Fail). IsWithheld method st h.withheld) open_yet h.is_withheld
    in
    ap (λ (w : List HttpTask). list_any is_end (h.given ++ w)) none
    ∙ ap (λ (l : List HttpTask). list_any is_end l) (append-nil h.given)
    ∙ sym (handed_ends method h.given)
    ∙ ap (λ (l : List HttpTask). list_any is_end l) (sym h.is_read) ∙ unended
