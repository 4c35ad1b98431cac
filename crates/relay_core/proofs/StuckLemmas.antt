-- In a sound state that has not finished and not failed, a branch is enabled.
use Rattle.std.proofs.Common.{◌≡◌, Bool, true, false, ◌&&◌, ◌||◌, ◌==◌, not, ltb, List, [], ◌∷◌, length, Option, Some, None, is_some, is_none, IsNone, IfSome, find, refl, sym, ◌∙◌, inl, inr, arith, eqb-true}
use Rattle.std.specs.List.{list_any}
use Rattle.relay_tasks.specs.declared.error.Error.{Error}
use Rattle.relay_tasks.specs.declared.task.HttpTask.{HttpTask}
use Rattle.relay_links.specs.Branch.{has, is_same_branch}
use Rattle.relay_links.specs.declared.branch.Branch.{Branch}
use Rattle.relay_links.specs.declared.branch.Branch.TheVariants as branch
use Rattle.relay_links.specs.declared.branch.TheConstants.{BRANCHES}
use Rattle.relay_core.specs.Down.{may_read, is_answered}
use Rattle.relay_core.specs.Pipe.{is_empty, has_room}
use Rattle.relay_core.specs.Sound.{Runs, IsSound, ends_with}
use Rattle.relay_core.specs.State.{is_reading, is_done, is_response_done}
use Rattle.relay_core.specs.Table.{State, enabled, is_failed, is_finished, down_runs, up_runs, up_is_through}
use Rattle.relay_core.proofs.BoolLemmas.{decide, clash, and_both, and_right, or_inl, or_inr, or_cases, or_false, not_false, and_false}
use Rattle.relay_core.proofs.ChooseLemmas.{any-branch}

-- the rest of a test whose first part passes and which fails, fails
off : (a x : Bool) → a ≡ true → (a && x) ≡ false → x ≡ false
off true x p h = h
off false x p h = clash false p refl

-- a test that fails negated passes
not_off : (a : Bool) → not a ≡ false → a ≡ true
not_off true h = refl
not_off false h = clash true refl h

-- neither taken nor dropped: nothing is held
holds_none : (done empty : Bool) → (not done && not empty) ≡ false
    → (done && not empty) ≡ false → empty ≡ true
holds_none true true h k = refl
holds_none true false h k = clash true refl k
holds_none false true h k = refl
holds_none false false h k = clash true refl h

-- a half that cannot finish with nothing pending is not done
not_both : (request response pending : Bool) → pending ≡ false
    → (request && (response && not pending)) ≡ false → (request && response) ≡ false
not_both request response true p h = clash true refl p
not_both true true false p h = clash true refl h
not_both true false false p h = refl
not_both false response false p h = refl

-- a pipe that holds nothing has no last task
pub empty_ends : (tasks : List HttpTask) → (length tasks == 0) ≡ true → ends_with tasks ≡ false
empty_ends [] h = refl
empty_ends (x ∷ xs) h =
    let e : length (x ∷ xs) ≡ 0 = eqb-true (length (x ∷ xs)) 0 h in absurd (omega arith)

-- an open pipe that holds nothing has room
empty_room : (closed : Bool) (tasks : List HttpTask) → closed ≡ false
    → (length tasks == 0) ≡ true → (not closed && ltb (length tasks) 4) ≡ true
empty_room closed [] p h = and_both (not closed) true (not_false closed p) refl
empty_room closed (x ∷ xs) p h =
    let e : length (x ∷ xs) ≡ 0 = eqb-true (length (x ∷ xs)) 0 h in absurd (omega arith)

-- an open pipe with no room holds something
full_holds : (closed : Bool) (tasks : List HttpTask) → closed ≡ false
    → (not closed && ltb (length tasks) 4) ≡ false → (length tasks == 0) ≡ false
full_holds closed [] p h =
    clash (not closed && true) (and_both (not closed) true (not_false closed p) refl) h
full_holds closed (x ∷ xs) p h =
    elim (decide (length (x ∷ xs) == 0)) [
      | inl is ↦ (let e : length (x ∷ xs) ≡ 0 = eqb-true (length (x ∷ xs)) 0 is in
          absurd (omega arith))
      | inr not_so ↦ not_so
    ]

-- an upstream half that is through writes, or finishes
through_goes : {A : Type 0} (pending : Bool) (kept : Option Error) (through : Bool)
    → through ≡ true → (pending && is_none kept) ≡ false
    → ((not pending || is_some kept) && through) ≡ false → A
through_goes true None through p write finish = clash true refl write
through_goes true (Some error) through p write finish = clash through p finish
through_goes false kept through p write finish = clash through p finish

-- an upstream half that has a piece to send writes, or takes it
piece_goes : {A : Type 0} (done pending : Bool) (kept : Option Error) (empty : Bool)
    → done ≡ false → empty ≡ false → (is_some kept ≡ true → done ≡ true)
    → (pending && is_none kept) ≡ false
    → (not done && (not pending && not empty)) ≡ false → A
piece_goes done pending (Some error) empty p q unsent write take = clash done (unsent refl) p
piece_goes true pending None empty p q unsent write take = clash true refl p
piece_goes false true None empty p q unsent write take = clash true refl write
piece_goes false false None true p q unsent write take = clash true refl q
piece_goes false false None false p q unsent write take = clash true refl take

-- no branch is enabled
pub record Stuck (s : State) : Type 0 where
  pub none : (b : Branch) → enabled s b ≡ false

-- a stuck upstream half that runs is not through
up_not_through : {A : Type 0} (s : State) → Stuck s → up_runs s.duplex ≡ true
    → up_is_through s.duplex ≡ true → A
up_not_through s stuck runs through =
    through_goes s.up.pending s.duplex.send_error (up_is_through s.duplex) through
    (off (up_runs s.duplex) _ runs (stuck.none branch.UpWrite))
    (off (up_runs s.duplex) _ runs (stuck.none branch.UpFinish))

-- a stuck upstream half that runs has no piece to send
up_no_piece : {A : Type 0} (s : State) → Stuck s → up_runs s.duplex ≡ true
    → Runs s.duplex s.down.body_done s.down.upgraded
    → s.duplex.upstream_request_done ≡ false → is_empty s.duplex.requests ≡ false → A
up_no_piece s stuck runs r not_yet held =
    piece_goes s.duplex.upstream_request_done s.up.pending s.duplex.send_error
    (is_empty s.duplex.requests) not_yet held r.unsent
    (off (up_runs s.duplex) _ runs (stuck.none branch.UpWrite))
    (off (up_runs s.duplex) _ runs (stuck.none branch.UpTake))

-- a stuck client's half that runs: nothing is pending and no task is held, and it is not done
pub record Waiting (s : State) : Type 0 where
  pub quiet : s.down.pending ≡ false
  pub empty : is_empty s.duplex.responses ≡ true
  pub not_done : (is_done s.duplex.client_request && is_response_done s.duplex.client_response)
      ≡ false

-- a stuck client's half that goes on waits
down_waits : (s : State) → Stuck s → down_runs s.duplex ≡ true → Waiting s
down_waits s stuck runs =
    let quiet = off (down_runs s.duplex) s.down.pending runs (stuck.none branch.DownWrite) in
    record {
      quiet = quiet;
      empty = holds_none (is_response_done s.duplex.client_response)
          (is_empty s.duplex.responses)
          (off (not s.down.pending) _ (not_false s.down.pending quiet)
          (off (down_runs s.duplex) _ runs (stuck.none branch.DownTake)))
          (off (down_runs s.duplex) _ runs (stuck.none branch.DownDrop));
      not_done = not_both (is_done s.duplex.client_request)
          (is_response_done s.duplex.client_response) s.down.pending quiet
          (off (down_runs s.duplex) _ runs (stuck.none branch.DownFinish));
    }

-- with the upstream half finished, the client's half that runs is not stuck
down_goes : {A : Type 0} (s : State) → Stuck s → down_runs s.duplex ≡ true
    → Runs s.duplex s.down.body_done s.down.upgraded → s.duplex.upstream_finished ≡ true → A
down_goes s stuck runs r finished =
    let w = down_waits s stuck runs in
    let d = s.duplex in
    let reading = off d.requests.closed (is_reading d.client_request)
    (r.requests_closed ∙ finished)
    (off (down_runs d) _ runs (stuck.none branch.DownClosed)) in
    let response = not_off (is_response_done d.client_response)
    (off (is_empty d.responses) _ w.empty
    (off d.responses.closed _
    (r.responses_closed ∙ or_inl d.upstream_finished d.client_finished finished)
    (off (down_runs d) _ runs (stuck.none branch.DownEnd)))) in
    clash (is_done d.client_request && is_response_done d.client_response)
    (and_both (is_done d.client_request) _ (not_false (is_reading d.client_request) reading)
    response) w.not_done

-- a client whose request is read may be read
open_reads : (body other : Bool) → body ≡ false → not (body && other) ≡ true
open_reads true other h = clash true refl h
open_reads false other h = refl

-- where the response is done but not both are, the request is not
still : (request response : Bool) → response ≡ true → (request && response) ≡ false
    → request ≡ false
still true response p h = clash response p h
still false response p h = refl

-- with the client's response done and its request read, the request pipe is full
request_full : (s : State) → Stuck s → down_runs s.duplex ≡ true
    → Runs s.duplex s.down.body_done s.down.upgraded
    → is_response_done s.duplex.client_response ≡ true
    → has_room s.duplex.requests ≡ false
request_full s stuck runs r done =
    let w = down_waits s stuck runs in
    let d = s.duplex in
    let open_yet = still (is_done d.client_request) (is_response_done d.client_response) done
    w.not_done in
    let reading = not_off (is_reading d.client_request) open_yet in
    elim (decide (has_room d.requests)) [
      | inr full ↦ full
      | inl room ↦ clash (not (is_done d.client_request && is_response_done d.client_response))
          (not_false _ w.not_done)
          (off (may_read s.down) _
          (open_reads s.down.body_done (s.down.awaits_upgrade || is_answered s.down)
          (r.reading reading))
          (off (has_room d.requests) _ room
          (off (down_runs d) _ runs (stuck.none branch.DownRead))))
    ]

-- with both halves running, a stuck state has the upstream's response done
response_read : (s : State) → Stuck s → down_runs s.duplex ≡ true → up_runs s.duplex ≡ true
    → s.duplex.responses.closed ≡ false → s.duplex.upstream_response_done ≡ true
response_read s stuck down up closed =
    let w = down_waits s stuck down in
    elim (decide s.duplex.upstream_response_done) [
      | inl done ↦ done
      | inr open_yet ↦ clash (has_room s.duplex.responses)
          (empty_room s.duplex.responses.closed s.duplex.responses.tasks closed w.empty)
          (off (not s.duplex.upstream_response_done) _
          (not_false s.duplex.upstream_response_done open_yet)
          (off (up_runs s.duplex) _ up (stuck.none branch.UpRead)))
    ]

-- the upstream is through where its request and its response are done
through_both : (s : State) → s.duplex.upstream_request_done ≡ true
    → s.duplex.upstream_response_done ≡ true → up_is_through s.duplex ≡ true
through_both s request response =
    or_inl (s.duplex.upstream_request_done && s.duplex.upstream_response_done) _
    (and_both s.duplex.upstream_request_done _ request response)

-- with both halves running, no sound state is stuck
both_go : {A : Type 0} (s : State) → Stuck s → down_runs s.duplex ≡ true
    → up_runs s.duplex ≡ true → Runs s.duplex s.down.body_done s.down.upgraded
    → s.duplex.upstream_finished ≡ false → s.duplex.client_finished ≡ false → A
both_go s stuck down up r not_up not_down =
    let d = s.duplex in
    let w = down_waits s stuck down in
    let closed : d.responses.closed ≡ false =
    r.responses_closed ∙ or_false d.upstream_finished d.client_finished not_up not_down in
    let response = response_read s stuck down up closed in
    elim (or_cases (is_response_done d.client_response) _ (r.ended response)) [
      | inl done ↦ elim (decide d.upstream_request_done) [
        | inl request ↦ up_not_through s stuck up (through_both s request response)
        | inr open_yet ↦ up_no_piece s stuck up r open_yet
            (full_holds d.requests.closed d.requests.tasks (r.requests_closed ∙ not_up)
            (request_full s stuck down r done))
      ]
      | inr other ↦ elim (or_cases (ends_with d.responses.tasks) _ other) [
        | inl last ↦ clash (ends_with d.responses.tasks) last
            (empty_ends d.responses.tasks w.empty)
        | inr tunnel ↦ up_not_through s stuck up
            (through_both s (and_right s.down.upgraded d.upstream_request_done tunnel) response)
      ]
    ]

-- with the client's half finished, the upstream half that runs is not stuck
up_goes : {A : Type 0} (s : State) → Stuck s → up_runs s.duplex ≡ true
    → Runs s.duplex s.down.body_done s.down.upgraded → s.duplex.client_finished ≡ true → A
up_goes s stuck up r finished =
    let d = s.duplex in
    let complete = r.complete ∙ finished in
    elim (decide d.upstream_request_done) [
      | inl request ↦ up_not_through s stuck up
          (or_inr (d.upstream_request_done && d.upstream_response_done) _
          (and_both _ _ complete (or_inl d.upstream_request_done (is_empty d.requests) request)))
      | inr open_yet ↦ elim (decide (is_empty d.requests)) [
        | inl empty ↦ up_not_through s stuck up
            (or_inr (d.upstream_request_done && d.upstream_response_done) _
            (and_both _ _ complete (or_inr d.upstream_request_done (is_empty d.requests) empty)))
        | inr held ↦ up_no_piece s stuck up r open_yet held
      ]
    ]

-- a sound state is stuck only where both halves have finished or one failed
no_stuck : (s : State) → IsSound s → Stuck s
    → (is_finished s.duplex || is_failed s.duplex.word) ≡ true
no_stuck s sound stuck =
    let d = s.duplex in
    elim (decide (is_failed d.word)) [
      | inl failed ↦ or_inr (is_finished d) (is_failed d.word) failed
      | inr alive ↦ elim (decide d.upstream_finished) [
        | inl up ↦ elim (decide d.client_finished) [
          | inl down ↦ or_inl (is_finished d) (is_failed d.word)
              (and_both d.upstream_finished d.client_finished up down)
          | inr open_yet ↦ down_goes s stuck
              (and_both (not d.client_finished) _ (not_false d.client_finished open_yet)
              (not_false (is_failed d.word) alive)) (sound.runs alive) up
        ]
        | inr not_up ↦ elim (decide d.client_finished) [
          | inl down ↦ up_goes s stuck
              (and_both (not d.upstream_finished) _ (not_false d.upstream_finished not_up)
              (not_false (is_failed d.word) alive)) (sound.runs alive) down
          | inr not_down ↦ both_go s stuck
              (and_both (not d.client_finished) _ (not_false d.client_finished not_down)
              (not_false (is_failed d.word) alive))
              (and_both (not d.upstream_finished) _ (not_false d.upstream_finished not_up)
              (not_false (is_failed d.word) alive)) (sound.runs alive) not_up not_down
        ]
      ]
    ]

-- a test that nothing passes is not passed with another
none_found : (p q : Branch → Bool) (xs : List Branch) → find p xs ≡ None
    → list_any (λ x. q x && p x) xs ≡ false
none_found p q [] h = refl
none_found p q (x ∷ xs) h =
    elim (decide (p x)) [
      | inl is ↦ (let found : Some x ≡ None = rw is at h in cc)
      | inr is ↦ (let later : find p xs ≡ None = rw is at h in
          or_false (q x && p x) (list_any (λ y. q y && p y) xs) (and_false (q x) (p x) is)
          (none_found p q xs later))
    ]

-- no branch of the set is the first only where none is enabled
first_none : (s : State) (set : List Branch) (result : Option Branch)
    → ((b : Branch) → has set b ≡ enabled s b) → result ≡ find (has set) BRANCHES
    → IsNone result → Stuck s
first_none s set None same is none = record {
  none = λ b. sym (same b) ∙ sym (any-branch (has set) b)
      ∙ none_found (has set) (λ x. is_same_branch x b) BRANCHES (sym is);
}
first_none s set (Some b) same is none = cc

-- where the first branch of the set is none, both halves have finished or one failed
pub none_stuck : (s : State) (set : List Branch) (result : Option Branch)
    → ((b : Branch) → has set b ≡ enabled s b) → result ≡ find (has set) BRANCHES
    → IsSound s → IsNone result → (is_finished s.duplex || is_failed s.duplex.word) ≡ true
none_stuck s set result same is sound none =
    no_stuck s sound (first_none s set result same is none)

-- what is found passes
found_passes : (p : Branch → Bool) (xs : List Branch) (b : Branch) → find p xs ≡ Some b
    → p b ≡ true
found_passes p [] b h = cc
found_passes p (x ∷ xs) b h =
    elim (decide (p x)) [
      | inl is ↦ (let found : Some x ≡ Some b = rw is at h in
          let same : x ≡ b = cc in rw (← same) is)
      | inr is ↦ (let later : find p xs ≡ Some b = rw is at h in found_passes p xs b later)
    ]

-- the first branch of the set can be taken
pub first_enabled_is : (s : State) (set : List Branch) (result : Option Branch)
    → ((b : Branch) → has set b ≡ enabled s b) → result ≡ find (has set) BRANCHES
    → IfSome result (λ b. enabled s b ≡ true)
first_enabled_is s set None same is = tt
first_enabled_is s set (Some b) same is =
    sym (same b) ∙ found_passes (has set) BRANCHES b (sym is)
