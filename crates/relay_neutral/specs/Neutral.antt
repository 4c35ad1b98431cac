-- Calls of hooks that change nothing, and what a request comes to that has no others (RFC 9110,
-- section 3.7).
use Rattle.std.specs.Prelude.{◌≡◌, ◌⊎◌, ◌&&◌, ◌||◌, ℕ, Bool, true, false, List, [], ◌∷◌, All, Option, None, Err, unwrap_or}
use Rattle.http.specs.declared.version.TheConstants.Version.{HTTP_11}
use Rattle.relay_tasks.specs.Head.{RequestHead}
use Rattle.relay_tasks.specs.declared.Error.{Error}
use Rattle.relay_tasks.specs.declared.Fault.{Fault}
use Rattle.relay_tasks.specs.declared.hook.Hook.TheVariants as hook
use Rattle.relay_tasks.specs.declared.log.LogEntry.{LogEntry}
use Rattle.relay_tasks.specs.declared.peer.Peer.{Peer}
use Rattle.relay_hooks.specs.DefaultLaw.{IsDefault}
use Rattle.relay_hooks.specs.Standing.{Standing}
use Rattle.relay_connector.specs.Connector.{Offer}
use Rattle.relay_connector.specs.Upstream.{SpeaksBytes}
use Rattle.relay_links.specs.Link.{LinkState, LinkStart}
use Rattle.relay_connector.specs.declared.Returned.{Returned}
use Rattle.relay_phases.specs.Order.{is_answer}
use Rattle.relay_valid.specs.Valid.{AsksFor, AnswersWith}
use Rattle.relay_request.specs.Exact.{IsFaultless, IsUnfinished, is_filter}
use Rattle.relay_request.specs.Legs.{behind}
use Rattle.relay_request.specs.Passed.{Start, World, origin_of}
use Rattle.relay_request.specs.Relayable.{IsRelayable}
use Rattle.relay_request.specs.Request.{Processes}
use Rattle.relay_request.specs.Sent.{Sends, SettlesFramed, client_of, is_of}
use Rattle.relay_request.specs.declared.outcome.Outcome.TheVariants.{Served}
use Rattle.relay_request.specs.declared.outcome.Processed.{Processed}

-- the call ends the request before its attempts: its hook answers the client itself, calls the
-- request a purge, or does not let it go to an upstream
abbrev pub ends_it : LogEntry → Bool
ends_it e =
    (is_of hook.RequestFilter e && is_answer true e.output)
    || ((is_of hook.IsPurge e && is_answer true e.output)
    || (is_of hook.ProxyUpstreamFilter e && is_answer false e.output))

-- the call changed nothing of a request with that head: it did not fail, it left the head as it was
-- where it was lent that to be changed, it let the request go on, and of the head that is sent, of
-- the request's body and of the response it left what it was given
pub record IsNeutral (head : RequestHead) (e : LogEntry) : Type 0 where
  pub passes : e.error ≡ None
  pub leaves : unwrap_or e.head head ≡ head
  pub goes_on : ends_it e ≡ false
  pub sends : e.hook ≡ hook.UpstreamRequestFilter → e.output ≡ e.input
  pub filters : is_filter e ≡ true → e.output ≡ e.input

-- so is each call of a default hook, whatever the peer that it names
abbrev pub DefaultsAreNeutral : Type 0
DefaultsAreNeutral = (peer : Peer) (head : RequestHead) (st : Standing) (e : LogEntry)
    → IsDefault peer st e → IsNeutral head e

-- that head can be sent as it came, but for its version and what the relay makes of each: it has a
-- host and a framing there
abbrev pub CanBeSent : RequestHead → Type 0
CanBeSent head = (e : Error)
    → ¬ (SettlesFramed (client_of head) head (record head { version = HTTP_11 }) (Err e))

module _ {L : Type 0} (state : L → LinkState) (start_at : L → LinkStart) where
  -- a request whose calls changed nothing, whose client gave the front of a valid request of a form
  -- that is relayed and that can be sent, and then was still, and the peer of whose last attempt
  -- gave, over a link of bytes, the front of a valid response and ended only behind it, with no
  -- fault: it is served without an error, or unfinished, also where turns or memory ran out in the
  -- hooks of its end
  abbrev pub NeutralIsWhole : Type 0
  NeutralIsWhole = (s : Start) (w : World) (before after : Option (List (Returned L)))
      (told_before told_after : Option (List Fault)) (had has : Option (List Offer))
      (client : LinkState) (turns : ℕ) (processed : Processed)
      → (run : Processes state start_at s w before after told_before told_after had has client turns
      processed)
      → (head : RequestHead) → All (IsNeutral head) (behind s run.legs).called → IsRelayable head
      → CanBeSent head → AsksFor (origin_of (behind s run.legs) head head false) run.passed w.client
      → ((r : Returned L) → run.own ≡ r ∷ [] → SpeaksBytes (start_at r.link))
      → ((r : Returned L) (sent : RequestHead) → run.own ≡ r ∷ []
      → Sends (behind s run.legs).called head sent
      → AnswersWith sent.method false run.passed (state r.link))
      → IsFaultless state start_at (behind s run.legs) w run.own
      → IsUnfinished processed.outcome
      ⊎ ((reuse : Bool) × (processed.outcome ≡ Served None reuse))
