-- The calls of a request that the connector gave no link, behind the one of `fail_to_connect`.
--
--   repeats          another attempt follows
--   lacks            none does, and the error is final
--   refused_calls    whichever it is
use Rattle.std.specs.Global.{Box}
use Rattle.std.proofs.Common.{◌≡◌, ℕ, Bool, true, false, ◌&&◌, not, true≢false, List, length, None, refl, sym, ap, subst, ◌∙◌, inl, inr}
use Rattle.std.specs.Prelude.{IsTrue}
use Rattle.relay_opening.proofs.ToldLemmas.{reads_truncated}
use Rattle.relay_session.specs.Reading.{is_truncated}
use Rattle.relay_tasks.specs.Error.{may_retry}
use Rattle.relay_tasks.specs.declared.Error.{Error}
use Rattle.relay_tasks.specs.declared.Peer.{Peer}
use Rattle.relay_tasks.specs.declared.hook.Hook.TheVariants as hook
use Rattle.relay_tasks.specs.declared.log.LogEntry.{LogEntry}
use Rattle.relay_session.specs.Response.{has_head}
use Rattle.relay_session.specs.declared.session.HttpSession.{HttpSession}
use Rattle.relay_session.specs.declared.writing.Writing.{Writing}
use Rattle.relay_hooks.specs.Session.{moment}
use Rattle.relay_hooks.specs.Standing.{Standing, standing}
use Rattle.relay_calls.specs.Log.{Walk}
use Rattle.relay_phases.specs.Order.{Accepts, Station}
use Rattle.relay_phases.specs.Order.{Station as station}
use Rattle.relay_trying.specs.Trying as leads
use Rattle.relay_trying.specs.Trying.{Treats, may_follow}
use Rattle.relay_closing.specs.Place.{may_fail}
use Rattle.relay_request.specs.Calls.{CallsSoFar, IsLackingCalls, IsOpening, IsUnended, log_of, seen_with, station_at}
use Rattle.relay_request.specs.Tries.{MayTry, upstream_error}
use Rattle.relay_request.specs.declared.calls.At.{At}
use Rattle.relay_request.specs.declared.calls.At.TheVariants as at
use Rattle.relay_request.specs.declared.calls.Calls.{Calls}
use Rattle.relay_request.specs.declared.machine.Phase.{Phase}
use Rattle.relay_request.specs.declared.machine.Phase.TheVariants.{Connect, Unlinked}
use Rattle.relay_request.specs.declared.record.AttemptRecord.{AttemptRecord}
use Rattle.relay_request.proofs.CallLemmas.{order_more, walks_more}
use Rattle.relay_request.proofs.TreatLemmas.{unended_more, untreated_more}
use Rattle.relay_turns.proofs.TryLemmas.{may_or_not}

-- the error is final where that leads
may_end : (follows : Bool) → IsTrue (may_fail (leads.treated_at follows))
may_end true = refl
may_end false = refl

-- no final head was queued, and the body is kept, so another attempt may follow where the error is
-- marked so
follows : (again has lost : Bool) → again ≡ true → has ≡ false → lost ≡ false
    → (again && (not has && not lost)) ≡ true
follows true false false is none kept = refl
follows true false true is none kept = absurd (true≢false kept)
follows true true lost is none kept = absurd (true≢false none)
follows false has lost is none kept = absurd (true≢false (sym is))

module _ {C M K : Type 0} (allows : Standing → LogEntry → Type 0) (mark_of : C → ℕ)
    (c d : Calls M K C) (context context' : C) (client left : HttpSession)
    (tries : List AttemptRecord) (peer : Peer) (raised treated : Error)
    (was : c.at ≡ at.Named peer) (o : IsOpening allows mark_of c context client tries)
    (t : Treats allows hook.FailToConnect peer false station.named raised (seen_with c client)
    (mark_of context) (seen_with d left) (mark_of context') treated)
  where
    -- where the hooks stand behind the call
    abbrev to : Station
    to = leads.treated_at (may_follow treated (seen_with c client))

    -- the log walks past the call, and is in order up to there
    walks : Walk allows o.from (log_of d)
        (standing None false (moment (seen_with d left) (mark_of context')))
    walks =
        walks_more allows mark_of c d context context' client left o.from t.call.turn.e
        t.call.turn.calls o.walks

    order : Accepts station.accepted (log_of d) to
    order =
        order_more c d station.named to t.call.turn.e t.call.turn.calls.log t.call.turn.order
        (subst (λ (a : At K C). Accepts station.accepted (log_of c) (station_at a)) was o.order)

    -- the end does not begin with it
    unended : IsUnended (log_of d)
    unended =
        unended_more (log_of c) (log_of d) t.call.turn.e hook.FailToConnect t.call.turn.calls.log
        t.call.turn.hook refl o.unended

    -- another attempt follows
    pub repeats : (e : Error) (attempts : List AttemptRecord) (f : Calls M K C)
        → may_retry treated.retry ≡ true → f ≡ record d { at = at.Repeatable e }
        → IsOpening allows mark_of f context' left attempts
    repeats e attempts f again is =
        subst (λ (x : Calls M K C). IsOpening allows mark_of x context' left attempts) (sym is)
        (record {
          from = o.from;
          walks = walks;
          order = subst (λ (b : Bool). Accepts station.accepted (log_of d) (leads.treated_at b))
              (follows (may_retry treated.retry) (has_head client.writing.place)
              (is_truncated client.reading) again o.unanswered o.kept)
              order;
          goes = tt;
          named = tt;
          untried = λ still. absurd (true≢false (sym still));
          untreated = untreated_more (log_of c) (log_of d) t.call.turn.e hook.FailToConnect
              t.call.turn.calls.log t.call.turn.hook refl o.untreated;
          unanswered = ap (λ (x : Writing). has_head x.place) t.call.turn.queued.same ∙
              o.unanswered;
          kept = reads_truncated (seen_with c client) (seen_with d left) t.call.turn.calls.reads
              ∙ o.kept;
          unended = unended;
        })

    -- or none does, and the error is final
    pub lacks : IsLackingCalls allows mark_of d context' left
    lacks = record {
      from = o.from;
      walks = walks;
      at = to;
      order = order;
      fails = may_end (may_follow treated (seen_with c client));
      unended = unended;
    }

    -- whichever it is, by the phase in which the request stands then
    pub refused_calls : {L : Type 0} (f : Calls M K C) (session' : Box HttpSession)
        (next : Phase L C)
        (most : ℕ) (attempts : List AttemptRecord) (e : Error) → e ≡ upstream_error treated
        → (MayTry most (length attempts) e → (next ≡ Connect context' session' attempts)
        × (f ≡ record d { at = at.Repeatable e }))
        → ((¬ (MayTry most (length attempts) e))
        → (next ≡ Unlinked context' session' attempts e) × (f ≡ d))
        → session'.value ≡ left → CallsSoFar {L = L} allows mark_of f next
    refused_calls {L = L} f session' next most attempts e made again ends stays =
        elim (may_or_not most (length attempts) e) [
          | inl may ↦ subst (λ (n : Phase L C). CallsSoFar {L = L} allows mark_of f n)
              (sym (again may).0)
              (subst (λ (h : HttpSession). IsOpening allows mark_of f context' h attempts)
              (sym stays)
              (repeats e attempts f (sym (ap (λ (x : Error). may_retry x.retry) made) ∙ may.0)
              (again may).1))
          | inr over ↦ subst (λ (n : Phase L C). CallsSoFar {L = L} allows mark_of f n)
              (sym (ends over).0)
              (subst (λ (h : HttpSession). IsLackingCalls allows mark_of f context' h) (sym stays)
              (subst (λ (x : Calls M K C). IsLackingCalls allows mark_of x context' left)
              (sym (ends over).1) lacks))
        ]
