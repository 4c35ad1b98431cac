-- How an exchange behind filters begins: what was kept of a body, what passes of it, and the calls
-- that it passed by.
--
--   end_of                what a piece puts has an end exactly where the piece is one
--   puts_none, has_head   a session of whose body something is put again has a head
--   by_request            whether a request is a HEAD, by what its response answers
--   calls_none, calls_by, cannot_by   what was called: nothing; or the filter of requests, and what
--                         was kept passed, or did not
--   grown                 the log has grown by those calls
--   refused_first, refused_later      the head is refused exactly where it has no framing
use Rattle.std.proofs.Common.{◌≡◌, ℕ, ◌+◌, ◌*◌, Bool, true, false, ◌||◌, ◌&&◌, not, List, [], ◌∷◌, ◌++◌, length, length-append, Option, Some, None, is_some, IsSome, option_to_list, Result, Ok, Err, ◌↔◌, arith, refl, sym, ap, subst, ◌∙◌}
use Rattle.std.specs.Prelude.{if◌then◌else◌}
use Rattle.std.specs.List.{list_any}
use Rattle.std.specs.Result.{IsErrOf}
use Rattle.relay_tasks.specs.declared.error.Error.{Error}
use Rattle.relay_tasks.specs.declared.error.Fail.{Fail}
use Rattle.relay_tasks.specs.declared.error.Fail.TheVariants as fail
use Rattle.relay_tasks.specs.declared.log.LogEntry.{LogEntry}
use Rattle.relay_tasks.specs.declared.task.HttpTask.{HttpTask}
use Rattle.relay_tasks.specs.declared.task.HttpTask.TheVariants as task
use Rattle.relay_tasks.specs.Head.{RequestHead}
use Rattle.relay_tasks.specs.Task.{is_end}
use Rattle.relay_h1.specs.Framing.{request_framing}
use Rattle.relay_session.specs.Asked.{is_head, request_of}
use Rattle.relay_session.specs.Reading.{head_of, is_body_done, replay_of}
use Rattle.relay_session.specs.Replay.{retry_buffer}
use Rattle.relay_session.specs.TaskWire.{bad_framing}
use Rattle.relay_session.specs.declared.reading.Reading.{Reading}
use Rattle.relay_session.specs.declared.reading.Reading.TheVariants as reading
use Rattle.relay_session.specs.declared.session.HttpSession.{HttpSession}
use Rattle.relay_session.specs.declared.task_text.Asks.TheVariants as asks
use Rattle.relay_session.specs.declared.task_text.Request.{Request}
use Rattle.relay_modules.specs.declared.session.Session.{Session}
use Rattle.relay_core.specs.Piece.{is_empty, put_of, task_put_of}
use Rattle.relay_core.specs.declared.piece.Piece.{Piece}
use Rattle.relay_hooks.specs.Standing.{Standing}
use Rattle.relay_sides.specs.Client.{put_again}
use Rattle.relay_sides.specs.Filtered.{is_head_request}
use Rattle.relay_filters.specs.Hooked.{seen_by}
use Rattle.relay_filters.specs.Request.{Filters, PieceChain, is_last}
use Rattle.relay_hooked.specs.Begins.{CallsOnce, CannotPut, IsRefusedFor, calls_each, kept_piece}
use Rattle.relay_hooked.specs.declared.exchange.HookedExchange.{HookedExchange}
use Rattle.relay_hooked.specs.declared.exchange.Unbegun.{Unbegun}

-- ---- a piece

-- what a piece puts has an end exactly where the piece is one
pub end_of : (piece : Piece) → list_any is_end (put_of false piece) ≡ piece.upstream_end
end_of piece = of (is_empty piece.bytes) piece.upstream_end
  where
    of : (none end : Bool)
        → list_any is_end (option_to_list
        (if none && not end then None else Some (task.Body piece.bytes end))) ≡ end
    of true true = refl
    of true false = refl
    of false true = refl
    of false false = refl

-- it puts nothing
pub puts_none : (piece : Piece) → is_some (task_put_of false piece) ≡ false
    → put_of false piece ≡ []
puts_none piece = of (task_put_of false piece)
  where
    of : (put : Option HttpTask) → is_some put ≡ false → option_to_list put ≡ []
    of None none = refl
    of (Some task) none = absurd (cc)

-- or one task
pub puts_one : (piece : Piece) → is_some (task_put_of false piece) ≡ true
    → length (put_of false piece) ≡ 1
puts_one piece = of (task_put_of false piece)
  where
    of : (put : Option HttpTask) → is_some put ≡ true → length (option_to_list put) ≡ 1
    of None some = absurd (cc)
    of (Some task) some = refl

-- ---- the head

-- a session whose head asks so, as the client's bytes do, asks as these
pub by_request : (request : Request) (answers : Bool) (own head : RequestHead)
    → answers ≡ is_head request.method → request ≡ request_of own → own ≡ head
    → answers ≡ is_head_request head.method
by_request request answers own head says of_own same =
    says ∙ ap (λ (r : Request). is_head r.method)
    (of_own ∙ ap (λ (h : RequestHead). request_of h) same) ∙ by (is_head_request head.method)
  where
    by : (b : Bool) → is_head (if b then asks.Head else asks.Other) ≡ b
    by true = refl
    by false = refl

-- ---- what was kept

-- a session of whose body something is put again has a head
pub has_head : (client : HttpSession) → is_some (task_put_of false (kept_piece client)) ≡ true
    → IsSome (head_of client.reading)
has_head client = of client.reading
  where
    of : (now : Reading)
        → is_some (task_put_of false (record {
          bytes = retry_buffer (replay_of now);
          upstream_end = is_body_done now;
          client_end = is_body_done now;
        })) ≡ true
        → IsSome (head_of now)
    of reading.Head some = absurd (cc)
    of (reading.Body request) some = grind arith

-- what was kept is told as the end only where it is put as one
pub last_is_end : (client : HttpSession) → is_last (kept_piece client) ≡ true
    → list_any is_end (put_of false (kept_piece client)) ≡ true
last_is_end client last = end_of (kept_piece client) ∙ one (is_body_done client.reading) last
  where
    one : (done : Bool) → (done || done) ≡ true → done ≡ true
    one true is = refl
    one false is = is

-- ---- the calls

-- no task, and one
none_each : (n : ℕ) → n * 0 ≡ 0
none_each n = omega arith

one_each : (n : ℕ) → n * 1 ≡ n
one_each n = omega arith

-- an error is one
no_error : {A : Type 0} (o : Option Error) → IsSome o → o ≡ None → A
no_error None bad ok = cc
no_error (Some error) bad ok = absurd (cc)

-- a piece that passed led to so many calls
calls_of : (stand : Bool) (es : List LogEntry) (call : LogEntry) → PieceChain stand es call
    → call.error ≡ None → length es ≡ calls_each stand
calls_of stand es call (PieceChain.by_app none are is piece) ok =
    ap (λ (l : List LogEntry). length l) are ∙ ap calls_each (sym none)
calls_of stand es call (PieceChain.by_both there first m e are is was piece becomes) ok =
    ap (λ (l : List LogEntry). length l)
    (are ∙ ap (λ (l : List LogEntry). l ++ e ∷ []) m.are) ∙ ap calls_each (sym there)
calls_of stand es call (PieceChain.by_modules there are is bad piece) ok =
    no_error call.error bad ok

-- one that did not led to some
some_calls : (stand : Bool) (es : List LogEntry) (call : LogEntry) → PieceChain stand es call
    → es ≡ [] → ⊥
some_calls stand es call (PieceChain.by_app none are is piece) empty =
    absurd (none_one (sym are ∙ empty))
  where
    none_one : call ∷ [] ≡ [] → ⊥
    none_one is = cc
some_calls stand es call (PieceChain.by_both there first m e are is was piece becomes) empty =
    absurd (none_two (sym (ap (λ (l : List LogEntry). l ++ e ∷ []) m.are) ∙ sym are ∙ empty))
  where
    none_two : m.call ∷ e ∷ [] ≡ [] → ⊥
    none_two is = cc
some_calls stand es call (PieceChain.by_modules there are is bad piece) empty =
    absurd (none_one (sym are ∙ empty))
  where
    none_one : call ∷ [] ≡ [] → ⊥
    none_one is = cc

module _ {M C : Type 0} (session : Session M) (ctx : C) (client : HttpSession)
    (allows : Standing → LogEntry → Type 0) (mark_of : C → ℕ) (session' : Session M) (ctx' : C)
    (client' : HttpSession)
  where
    -- the log has grown by the calls of each task that is put again
    pub grown : CallsOnce session ctx client allows mark_of session' ctx' client'
        → length session'.seen.log ≡ length session.seen.log
        + calls_each (is_some session.modules) * length (put_again client)
    grown (CallsOnce.none empty same) =
        let log : length session'.seen.log ≡ length session.seen.log =
        ap (λ (s : Session M). length s.seen.log) same.session_same in
        let empty : calls_each (is_some session.modules) * length (put_again client) ≡ 0 =
        ap (λ (l : List HttpTask). calls_each (is_some session.modules) * length l) empty
        ∙ none_each (calls_each (is_some session.modules)) in
        omega (arith, log, empty)
    grown (CallsOnce.once one made f) =
        let log : length session'.seen.log ≡ length session.seen.log + length f.came.es =
        ap (λ (l : List LogEntry). length l) f.came.adds.log
        ∙ length-append session.seen.log f.came.es in
        let each = calls_of (is_some session.modules) f.came.es f.came.call f.came.chain
        f.came.says in
        let all : calls_each (is_some session.modules) * length (put_again client)
        ≡ calls_each (is_some session.modules) =
        ap (λ (n : ℕ). calls_each (is_some session.modules) * n) one
        ∙ one_each (calls_each (is_some session.modules)) in
        omega (arith, log, each, all)

    -- no hook was called
    pub calls_none : put_again client ≡ [] → session' ≡ session → ctx' ≡ ctx → client' ≡ client
        → CallsOnce session ctx client allows mark_of session' ctx' client'
    calls_none empty session_same ctx_same client_same =
        CallsOnce.none empty (record {
          session_same = session_same;
          ctx_same = ctx_same;
          client_same = client_same;
        })

    module _ (kept : Piece) (is_kept : kept ≡ kept_piece client)
        (puts : is_some (task_put_of false kept) ≡ true) (lent : HttpSession)
        (is_lent : lent ≡ client) (result : Result Piece Fail)
        (filters : Filters allows (is_some session.modules) false kept result
        (seen_by session.seen lent) (mark_of ctx) (seen_by session'.seen client') (mark_of ctx'))
      where
        -- the call was that of what was kept
        by_kept : (answer : Result Piece Fail) → result ≡ answer
            → Filters allows (is_some session.modules) false (kept_piece client) answer (seen_by session.seen client)
            (mark_of ctx) (seen_by session'.seen client') (mark_of ctx')
        by_kept answer answers =
            subst (λ (r : Result Piece Fail).
            Filters allows (is_some session.modules) false (kept_piece client) r (seen_by session.seen client) (mark_of ctx)
            (seen_by session'.seen client') (mark_of ctx')) answers
            (subst (λ (c : HttpSession).
            Filters allows (is_some session.modules) false (kept_piece client) result (seen_by session.seen c) (mark_of ctx)
            (seen_by session'.seen client') (mark_of ctx')) is_lent
            (subst (λ (k : Piece).
            Filters allows (is_some session.modules) false k result (seen_by session.seen lent) (mark_of ctx)
            (seen_by session'.seen client') (mark_of ctx')) is_kept filters))

        -- which put one task
        one : length (put_again client) ≡ 1
        one = subst (λ (k : Piece). length (put_of false k) ≡ 1) is_kept (puts_one kept puts)

        -- what was kept passed its filter
        pub calls_by : (made : Piece) → result ≡ Ok made
            → CallsOnce session ctx client allows mark_of session' ctx' client'
        calls_by made passed = CallsOnce.once one made (by_kept (Ok made) passed)

        -- or it did not
        pub cannot_by : (why : Fail) → result ≡ Err why
            → CannotPut session ctx client allows mark_of why session' ctx' client'
        cannot_by (fail.Error e) failed =
            CannotPut.by_filter e refl one (by_kept (Err (fail.Error e)) failed)
        cannot_by fail.OutOfMemory failed =
            CannotPut.in_filter refl one (by_kept (Err fail.OutOfMemory) failed)

-- ---- what is refused

-- no list is itself with more
one_more : {A : Type 0} (xs more : List A) → xs ≡ xs ++ more → more ≡ []
one_more {A} xs [] is = refl
one_more {A} xs (x ∷ more) is =
    let longer : length xs ≡ length xs + length (x ∷ more) =
    ap (λ (l : List A). length l) is ∙ length-append xs (x ∷ more) in
    let one : length (x ∷ more) ≡ length more + 1 = omega arith in
    absurd (omega (arith, longer, one))

-- one that was not begun is that one
same_unbegun : {L : Type 0} (x other : Unbegun L)
    → ◌≡◌ {A = Result (HookedExchange L) (Unbegun L)} (Err x) (Err other) → other ≡ x
same_unbegun x other same = cc

-- where nothing could be put first the head was not refused: a filter that answered the same error
-- has its call in the log
not_refused : {M C : Type 0} (session : Session M) (ctx : C) (client : HttpSession)
    (allows : Standing → LogEntry → Type 0) (mark_of : C → ℕ) (session' : Session M) (ctx' : C)
    (why : Fail) (client' : HttpSession)
    → CannotPut session ctx client allows mark_of why session' ctx' client'
    → why ≡ fail.Error bad_framing → session'.seen.log ≡ session.seen.log → ⊥
not_refused session ctx client allows mark_of session' ctx' why client'
    (CannotPut.before memory same) is log = absurd (cc)
not_refused session ctx client allows mark_of session' ctx' why client'
    (CannotPut.by_filter e failed one f) is log =
    some_calls (is_some session.modules) f.came.es f.came.call f.came.chain
    (one_more session.seen.log f.came.es (sym log ∙ f.came.adds.log))
not_refused session ctx client allows mark_of session' ctx' why client'
    (CannotPut.in_filter memory one same) is log = absurd (cc)

-- nothing could be put first of a request whose head has a framing
pub refused_later : {M C L : Type 0} (session : Session M) (ctx : C) (client : HttpSession)
    (allows : Standing → LogEntry → Type 0) (mark_of : C → ℕ) (head : RequestHead)
    (session' : Session M) (ctx' : C) (x : Unbegun L)
    → CannotPut session ctx client allows mark_of x.why session' ctx' x.client
    → (request_framing head ≡ None → ⊥)
    → IsRefusedFor {L = L} (Err x) (fail.Error bad_framing) session.seen.log session'.seen.log
    ↔ (request_framing head ≡ None)
refused_later {M} {C} {L} session ctx client allows mark_of head session' ctx' x why framed = (
  λ r. absurd (not_refused session ctx client allows mark_of session' ctx' x.why x.client why
      (ap (λ (u : Unbegun L). u.why) (sym (same_unbegun x r.0 r.1)) ∙ r.2) r.3),
  λ none. absurd (framed none),
)

-- the head was refused, or memory was wanted for it
pub refused_first : {T L : Type 0} (log : List LogEntry) (client : HttpSession) (head : RequestHead)
    (link : L) (why : Fail)
    → IsErrOf {T = T} (Err why) (fail.Error bad_framing) ↔ (request_framing head ≡ None)
    → IsRefusedFor {L = L} (Err (record { client = client; link = link; why = why }))
    (fail.Error bad_framing) log log
    ↔ (request_framing head ≡ None)
refused_first {T} {L} log client head link why same =
    let x : Unbegun L = record { client = client; link = link; why = why } in (
      λ r. same.0 (ap (λ (w : Fail). Err w)
          (ap (λ (u : Unbegun L). u.why) (sym (same_unbegun x r.0 r.1)) ∙ r.2)),
      λ none. (x, refl, as_err (same.1 none), refl),
    )
  where
    as_err : ◌≡◌ {A = Result T Fail} (Err why) (Err (fail.Error bad_framing))
        → why ≡ fail.Error bad_framing
    as_err is = cc
