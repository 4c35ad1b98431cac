-- What a log tells of attempts, once it has one call more: which peer was named last, and which
-- attempts were given no link.
use Rattle.std.proofs.Common.{◌≡◌, false, List, [], ◌∷◌, ◌++◌, Option, None, Some, ap, refl, sym, ◌∙◌, append-nil, append_assoc}
use Rattle.relay_tasks.specs.declared.Error.{Error}
use Rattle.relay_tasks.specs.Hooks.{same_hook}
use Rattle.relay_tasks.specs.declared.Peer.{Peer}
use Rattle.relay_tasks.specs.declared.hook.Hook.{Hook}
use Rattle.relay_tasks.specs.declared.hook.Hook.TheVariants as hook
use Rattle.relay_tasks.specs.declared.log.Item.TheVariants as item
use Rattle.relay_tasks.specs.declared.log.LogEntry.{LogEntry}
use Rattle.relay_request.specs.Named.{IsNamed, or_before, peer_in, peer_of}
use Rattle.relay_request.specs.Tries.{Refusal, refusal_at, refusals_from, refusals_in}

-- a call of `upstream_peer` names the peer that it answered
pub names_one : (e : LogEntry) (peer : Peer) → e.hook ≡ hook.UpstreamPeer
    → e.output ≡ item.Addressed peer false → peer_of e ≡ Some peer
names_one e peer is answers = rw (is, answers) refl

-- and one of another hook names none
pub names_none : (e : LogEntry) (which : Hook) → e.hook ≡ which
    → same_hook hook.UpstreamPeer which ≡ false → peer_of e ≡ None
names_none e which is other = rw (is, other) refl

-- behind a call that names a peer, that is the last
pub peer_last : (es : List LogEntry) (e : LogEntry) (peer : Peer) → peer_of e ≡ Some peer
    → peer_in (es ++ e ∷ []) ≡ Some peer
peer_last [] e peer is = is
peer_last (x ∷ es) e peer is =
    ap (λ (o : Option Peer). or_before o (peer_of x)) (peer_last es e peer is)

-- behind one that names none, it is the one that it was
pub peer_still : (es : List LogEntry) (e : LogEntry) → peer_of e ≡ None
    → peer_in (es ++ e ∷ []) ≡ peer_in es
peer_still [] e none = none
peer_still (x ∷ es) e none =
    ap (λ (o : Option Peer). or_before o (peer_of x)) (peer_still es e none)

-- ---- the attempts that were given no link

-- which of three comes first
or_before-assoc : (a b c : Option Peer)
    → or_before (or_before a b) c ≡ or_before a (or_before b c)
or_before-assoc None b c = refl
or_before-assoc (Some peer) b c = refl

-- behind one call more it is those before, and then the one of which that call tells
pub refusals_more : (peer : Option Peer) (es : List LogEntry) (e : LogEntry)
    → refusals_from peer (es ++ e ∷ [])
    ≡ refusals_from peer es ++ refusal_at (or_before (peer_in es) peer) e
refusals_more peer [] e = append-nil (refusal_at peer e)
refusals_more peer (x ∷ es) e =
    let next : Option Peer = or_before (peer_of x) peer in
    ap (λ (rs : List Refusal). refusal_at peer x ++ rs) (refusals_more next es e)
    ∙ ap (λ (o : Option Peer). refusal_at peer x ++ (refusals_from next es ++ refusal_at o e))
    (sym (or_before-assoc (peer_in es) (peer_of x) peer))
    ∙ sym (append_assoc (refusal_at peer x) (refusals_from next es)
    (refusal_at (or_before (or_before (peer_in es) (peer_of x)) peer) e))

-- a call of another hook tells of none
refuses_none : (peer : Option Peer) (e : LogEntry) (which : Hook) → e.hook ≡ which
    → same_hook hook.FailToConnect which ≡ false → refusal_at peer e ≡ []
refuses_none None e which is other = refl
refuses_none (Some peer) e which is other = rw (is, other) refl

-- a call of `fail_to_connect` tells of the attempt at the peer that was named
refuses_one : (named : Option Peer) (e : LogEntry) (peer : Peer) (raised treated : Error)
    → named ≡ Some peer → e.hook ≡ hook.FailToConnect → e.input ≡ item.Failure raised
    → e.output ≡ item.Failure treated
    → refusal_at named e ≡ record { peer = peer; raised = raised; treated = treated } ∷ []
refuses_one named e peer raised treated at is told answers = rw (at, is, told, answers) refl

-- behind a call of another hook they are those that they were
pub refusals_still : (es : List LogEntry) (e : LogEntry) (which : Hook) → e.hook ≡ which
    → same_hook hook.FailToConnect which ≡ false → refusals_in (es ++ e ∷ []) ≡ refusals_in es
refusals_still es e which is other =
    refusals_more None es e
    ∙ ap (λ (rs : List Refusal). refusals_in es ++ rs)
    (refuses_none (or_before (peer_in es) None) e which is other)
    ∙ append-nil (refusals_in es)

-- the peer that was named last, where nothing was named before the log
named_alone : (named : Option Peer) (peer : Peer) → named ≡ Some peer
    → or_before named None ≡ Some peer
named_alone named peer is = rw is refl

-- and behind one of `fail_to_connect` there is one more, at the peer that was named
pub refusals_one : (es : List LogEntry) (e : LogEntry) (peer : Peer) (raised treated : Error)
    → IsNamed es peer → e.hook ≡ hook.FailToConnect → e.input ≡ item.Failure raised
    → e.output ≡ item.Failure treated
    → refusals_in (es ++ e ∷ [])
    ≡ refusals_in es ++ record { peer = peer; raised = raised; treated = treated } ∷ []
refusals_one es e peer raised treated named is told answers =
    refusals_more None es e
    ∙ ap (λ (rs : List Refusal). refusals_in es ++ rs)
    (refuses_one (or_before (peer_in es) None) e peer raised treated
    (named_alone (peer_in es) peer named) is told answers)

-- ---- the same of both

-- two logs tell the same peer and the same attempts
pub record TellsSame (these those : List LogEntry) : Type 0 where
  pub peers : peer_in those ≡ peer_in these
  pub refusals : refusals_in those ≡ refusals_in these

-- behind a call of a hook that neither names a peer nor is told of a link that was refused
pub tells_same : (es : List LogEntry) (e : LogEntry) (which : Hook) → e.hook ≡ which
    → same_hook hook.UpstreamPeer which ≡ false → same_hook hook.FailToConnect which ≡ false
    → TellsSame es (es ++ e ∷ [])
tells_same es e which is names refuses = record {
  peers = peer_still es e (names_none e which is names);
  refusals = refusals_still es e which is refuses;
}

-- and of a log that is the same
pub tells_still : (these those : List LogEntry) → those ≡ these → TellsSame these those
tells_still these those same = record {
  peers = ap (λ (l : List LogEntry). peer_in l) same;
  refusals = ap (λ (l : List LogEntry). refusals_in l) same;
}
