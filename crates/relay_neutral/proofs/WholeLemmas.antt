-- A request whose calls changed nothing: what is sent of its head, and how it ends.
--
--   neutral_passes     no hook ended it before its attempts
--   neutral_agrees     the head that is sent agrees with the client's, which no call changed
--   neutral_refuses    it is not refused
--   whole              a valid one is served, or unfinished
use Rattle.std.proofs.Common.{◌≡◌, ◌⊎◌, Bool, true, false, List, [], ◌∷◌, ◌++◌, Option, None, Some, ℕ, refl, sym, ap, ◌∙◌, subst, inl, inr}
use Rattle.std.specs.Prelude.{All, Ok, Err}
use Rattle.std.proofs.lemmas.List.Elements.{All-append, All-cons, All-nil}
use Rattle.http.specs.declared.version.TheConstants.Version.{HTTP_11}
use Rattle.relay_connector.specs.Upstream.{SpeaksBytes}
use Rattle.relay_tasks.specs.Head.{RequestHead}
use Rattle.relay_tasks.specs.declared.Error.{Error}
use Rattle.relay_tasks.specs.declared.hook.Hook.TheVariants as hook
use Rattle.relay_tasks.specs.declared.log.Item.TheVariants as item
use Rattle.relay_tasks.specs.declared.log.LogEntry.{LogEntry}
use Rattle.relay_links.specs.Link.{LinkState, LinkStart}
use Rattle.relay_authority.specs.Upstream.{ReadyHead}
use Rattle.relay_authority.specs.declared.upstream.Upstream.TheVariants as over
use Rattle.relay_authority.proofs.KeptLemmas.{readied}
use Rattle.relay_h1.specs.Framing.{request_framing}
use Rattle.relay_h1.specs.declared.framing.Framing.{Framing}
use Rattle.relay_opening.specs.Told.{head_behind}
use Rattle.relay_phases.specs.Order.{Station as station}
use Rattle.relay_attempt.specs.Agrees.{Agrees}
use Rattle.relay_attempt.specs.Passed.{Passed}
use Rattle.relay_request.specs.Ahead.{IsOwedAhead}
use Rattle.relay_request.specs.ClosingHooks.{Gives}
use Rattle.relay_request.specs.Endings.{EndsAhead}
use Rattle.relay_request.specs.Exact.{IsUnfinished}
use Rattle.relay_request.specs.Legs.{behind}
use Rattle.relay_request.specs.Passed.{Start, World}
use Rattle.relay_request.specs.declared.outcome.Outcome.{Outcome}
use Rattle.relay_request.specs.declared.outcome.Outcome.TheVariants.{OutOfMemory, Served, TurnLimit}
use Rattle.relay_request.specs.Sent.{Filters, RefusesToSend, Sends, SettlesFramed, asked_in, client_of}
use Rattle.relay_turns.proofs.SentLemmas.{sends_agrees}
use Rattle.relay_neutral.specs.Neutral.{CanBeSent, IsNeutral, NeutralIsWhole}
use Rattle.relay_neutral.proofs.LogLemmas.{before_one, left_all, never_ends, never_fails, neutral_head, one_of}

-- ---- before the attempts

-- the last call is one of the log
last_neutral : {head : RequestHead} (called before : List LogEntry) (last : LogEntry)
    → called ≡ before ++ last ∷ []
    → All (IsNeutral head) called → IsNeutral head last
last_neutral called before last is all = one_of called before [] last is all

-- hooks owe the client nothing
never_owed : {head : RequestHead} (s : Start) (p : Passed) (why : Option Error) (text : List ℕ)
    → IsOwedAhead s p why text → All (IsNeutral head) s.called → ⊥
never_owed s p why text (IsOwedAhead.by_answer head tasks t has order is_answer is) all =
    never_ends s.called station.answered all order refl
never_owed s p why text (IsOwedAhead.by_error head e t has stops told is) all =
    absurd (
    let clash : None ≡ Some e =
    sym (last_neutral s.called stops.fails.before stops.fails.last stops.fails.is_last all).passes
    ∙ stops.fails.error in
    cc
    )

-- no hook ended the request before its attempts
pub neutral_passes : {head : RequestHead} (s : Start) (p : Passed) (w : World) (told : Option Error)
    → EndsAhead s p w told → All (IsNeutral head) s.called → ⊥
neutral_passes s p w told ahead all = never_owed s p ahead.why ahead.text ahead.owed all

-- ---- what is sent of the head

-- the filter of the head left what it was given
filtered_same : {called : List LogEntry} {head filtered : RequestHead}
    (f : Filters called head filtered) → All (IsNeutral head) called → filtered ≡ f.ready
filtered_same {called} {head} {filtered} f all =
    let n = one_of called f.before f.after f.e f.called_are all in
    let same : item.Request filtered ≡ item.Request f.ready =
    sym f.left ∙ n.sends f.is_filter ∙ f.given in
    cc

-- the client's head before that call is as it came
before_same : {called : List LogEntry} {head filtered : RequestHead}
    (f : Filters called head filtered) → All (IsNeutral head) called
    → head_behind head f.before ≡ head
before_same {called} {head} f all =
    neutral_head head f.before (before_one called f.before (f.e ∷ f.after) f.called_are all)

-- and so it is behind it
asked_same : {called : List LogEntry} {head filtered : RequestHead}
    (f : Filters called head filtered) → All (IsNeutral head) called → asked_in f ≡ head
asked_same {called} {head} f all =
    neutral_head head (f.before ++ f.e ∷ [])
    (All-append (IsNeutral head) f.before (f.e ∷ [])
    (before_one called f.before (f.e ∷ f.after) f.called_are all)
    (All-cons (IsNeutral head) f.e [] (one_of called f.before f.after f.e f.called_are all)
    (All-nil (IsNeutral head))))

-- the head that is sent agrees with the client's
pub neutral_agrees : (called : List LogEntry) (head sent : RequestHead) (framing : Framing)
    → Sends called head sent → All (IsNeutral head) called → request_framing head ≡ Some framing
    → Agrees head sent
neutral_agrees called head sent framing sends all framed =
    sends_agrees called head sent framing sends (before_same sends.filters all)
    (filtered_same sends.filters all) framed

-- a head that can be sent is not refused over a link of bytes
pub neutral_refuses : (called : List LogEntry) (start : LinkStart) (head : RequestHead)
    (keep : Bool) (e : Error) → RefusesToSend called start head keep e → SpeaksBytes start
    → All (IsNeutral head) called → CanBeSent head → ⊥
neutral_refuses called start head keep e (RefusesToSend.unspoken silent is kept) speaks all can =
    silent speaks
neutral_refuses called start head keep e (RefusesToSend.untold fails kept) speaks all can =
    never_fails hook.ConnectedToUpstream called e fails all
neutral_refuses called start head keep e (RefusesToSend.unfiltered _ fails kept) speaks all can =
    never_fails hook.UpstreamRequestFilter called e fails all
neutral_refuses called start head keep e (RefusesToSend.unpassed _ (inl fails) kept) speaks all can =
    never_fails hook.RequestBodyFilter called e fails all
neutral_refuses called start head keep e (RefusesToSend.unpassed _ (inr fails) kept) speaks all can =
    never_fails hook.ModuleRequestBody called e fails all
neutral_refuses called start head keep e (RefusesToSend.unsettled _ filtered f settles kept) speaks
    all can =
    let ready : f.ready ≡ record head { version = HTTP_11 } =
    readied head f.ready
    (subst (λ (h : RequestHead). ReadyHead over.H1 false h (Ok f.ready)) (before_same f all)
    f.readies) in
    can e
    (subst (λ (h : RequestHead). SettlesFramed (client_of head) head h (Err e))
    (filtered_same f all ∙ ready)
    (subst (λ (h : RequestHead). SettlesFramed (client_of head) h filtered (Err e))
    (asked_same f all) settles))

-- ---- how it ends

-- outcomes that are one have one error
same_error : (x y : Option Error) (a b : Bool)
    → ◌≡◌ {A = Outcome} (Served x a) (Served y b) → x ≡ y
same_error x y a b same = cc

-- what is given of a request that came to be served without an error, or unfinished: that, or the
-- hooks of its end were cut off
given_whole : (log : List LogEntry) (came now : Outcome) → Gives log came now
    → IsUnfinished came ⊎ ((reuse : Bool) × (came ≡ Served None reuse))
    → IsUnfinished now ⊎ ((reuse : Bool) × (now ≡ Served None reuse))
given_whole log came now (Gives.same is heard) ends =
    subst (λ (o : Outcome). IsUnfinished o ⊎ ((reuse : Bool) × (o ≡ Served None reuse)))
    (sym is) ends
given_whole log came now (Gives.closes error was is told off) (inl (inl limit)) =
    absurd (let clash : Served error true ≡ TurnLimit = sym was ∙ limit in cc)
given_whole log came now (Gives.closes error was is told off) (inl (inr lost)) =
    absurd (let clash : Served error true ≡ OutOfMemory = sym was ∙ lost in cc)
given_whole log came now (Gives.closes error was is told off) (inr served) =
    inr (
      false,
      is ∙ ap (λ (e : Option Error). Served e false)
          (same_error error None true served.0 (sym was ∙ served.1)),
    )
given_whole log came now (Gives.cut error reuse is out) ends = inl out

module _ {L : Type 0} (state : L → LinkState) (start_at : L → LinkStart) where
  -- a valid one is served without an error, or unfinished
  pub whole : NeutralIsWhole state start_at
  whole s w before after told_before told_after had has client turns processed run head all
      relayable can asks speaks answers faultless =
      let t = behind s run.legs in
      given_whole processed.history.log run.came processed.outcome run.given
      (run.exact.whole head relayable
      (λ told ahead. neutral_passes t run.passed w told ahead all)
      (left_all head t.called all)
      (λ r keep e one refuses. neutral_refuses t.called (start_at r.link) head keep e refuses
      (speaks r one) all can)
      (λ sent sends. neutral_agrees t.called head sent asks.is_request.framing sends all
      asks.is_request.has.framed)
      asks (λ r sent one sends. answers r sent one sends) faultless)
