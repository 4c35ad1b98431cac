-- What a log has where no call of it changed anything.
--
--   neutral_head     the head of the client is as it came
--   never_fails      no call of it failed
--   left_all         its filters left what they were given
--   never_ends       it does not lead to where hooks end a request before its attempts
use Rattle.std.proofs.Common.{◌≡◌, Bool, true, false, ◌&&◌, ◌||◌, List, [], ◌∷◌, ◌++◌, Option, None, Some, refl, sym, ◌∙◌, subst, inl, inr, true≢false}
use Rattle.std.specs.Prelude.{All, is_none}
use Rattle.std.specs.List.{list_all}
use Rattle.std.proofs.lemmas.Bool.{cases_Bool, or_parts, and_parts}
use Rattle.std.proofs.lemmas.List.Elements.{All-cons, All-head, All-nil, All-tail, All-weaker}
use Rattle.relay_tasks.specs.Head.{RequestHead}
use Rattle.relay_tasks.specs.declared.Error.{Error}
use Rattle.relay_tasks.specs.declared.hook.Hook.{Hook}
use Rattle.relay_tasks.specs.declared.hook.Hook.TheVariants as hook
use Rattle.relay_tasks.specs.declared.log.LogEntry.{LogEntry}
use Rattle.relay_phases.specs.Order.{Accepts, Move, Station, accepted, first_told, is_answer, is_told, move, moves, next, next_behind, no, yes}
use Rattle.relay_phases.specs.Order.{Station as station}
use Rattle.relay_opening.specs.Told.{head_behind}
use Rattle.relay_hooked.specs.Neutral.{LeavesIt}
use Rattle.relay_request.specs.Exact.{LeaveAll, is_filter}
use Rattle.relay_request.specs.Sent.{FailsAt, is_of}
use Rattle.relay_neutral.specs.Neutral.{IsNeutral}

-- ---- each call

-- the head behind calls that left it as it was
pub neutral_head : (head : RequestHead) (es : List LogEntry) → All (IsNeutral head) es
    → head_behind head es ≡ head
neutral_head head [] all = refl
neutral_head head (e ∷ es) all =
    rw (All-head (IsNeutral head) e es all).leaves
    (neutral_head head es (All-tail (IsNeutral head) e es all))

-- the calls from one on
from_one : {head : RequestHead} (before after : List LogEntry) (e : LogEntry)
    → All (IsNeutral head) (before ++ e ∷ after)
    → IsNeutral head e
from_one {head} [] after e all = All-head (IsNeutral head) e after all
from_one {head} (x ∷ before) after e all =
    from_one before after e (All-tail (IsNeutral head) x (before ++ e ∷ after) all)

-- the calls up to one
up_to_one : {head : RequestHead} (before after : List LogEntry)
    → All (IsNeutral head) (before ++ after) → All (IsNeutral head) before
up_to_one {head} [] after all = All-nil (IsNeutral head)
up_to_one {head} (x ∷ before) after all =
    All-cons (IsNeutral head) x before (All-head (IsNeutral head) x (before ++ after) all)
    (up_to_one before after (All-tail (IsNeutral head) x (before ++ after) all))

-- a call of the log is neutral
pub one_of : {head : RequestHead} (called before after : List LogEntry) (e : LogEntry)
    → called ≡ before ++ e ∷ after
    → All (IsNeutral head) called → IsNeutral head e
one_of {head} called before after e is all =
    from_one before after e (subst (λ (l : List LogEntry). All (IsNeutral head) l) is all)

-- so are those before one
pub before_one : {head : RequestHead} (called before after : List LogEntry)
    → called ≡ before ++ after
    → All (IsNeutral head) called → All (IsNeutral head) before
before_one {head} called before after is all =
    up_to_one before after (subst (λ (l : List LogEntry). All (IsNeutral head) l) is all)

-- no call of it failed
pub never_fails : {head : RequestHead} (which : Hook) (called : List LogEntry) (e : Error)
    → FailsAt which called e
    → All (IsNeutral head) called → ⊥
never_fails {head} which called e fails all =
    absurd (
    let clash : None ≡ Some e =
    sym (one_of called fails.before fails.after fails.last fails.called_are all).passes
    ∙ fails.error in
    cc
    )

-- its filters left what they were given, and answered no error
pub left_all : (head : RequestHead) (called : List LogEntry) → All (IsNeutral head) called
    → LeaveAll called
left_all head called all =
    All-weaker (IsNeutral head) (λ e. is_filter e ≡ true → LeavesIt e)
    (λ e n is. record { ok = n.passes; same = n.filters is }) called all

-- ---- where they lead

-- the request was not answered, or called a purge, by a hook before its attempts
abbrev pub safe : Station → Bool
safe station.purging = false
safe station.purged = false
safe station.answered = false
safe other = true

-- a call that may lead elsewhere is none of that one
apart : (a b c : Bool) → (a && c) ≡ false → (a && (b && c)) ≡ true → false ≡ true
apart true true c off on = sym off ∙ on
apart true false c off on = on
apart false b c off on = on

-- each of these calls leads to a safe one, where the entry tells it
abbrev TellsSafe : LogEntry → List Move → Type 0
TellsSafe e [] = Unit {0}
TellsSafe e (m ∷ ms) = (is_told m e ≡ true → safe m.to ≡ true) × TellsSafe e ms

-- so the first of them that it tells does
first_safe : (e : LogEntry) (ms : List Move) (to : Station) → TellsSafe e ms
    → first_told ms e ≡ Some to → safe to ≡ true
first_safe e [] to all is = absurd (let clash : None ≡ Some to = is in cc)
first_safe e (m ∷ ms) to all is =
    elim (cases_Bool (is_told m e)) [
      | inl told ↦
          let same : Some m.to ≡ Some to = rw told at is in
          subst (λ (x : Station). safe x ≡ true) (let it : m.to ≡ to = cc in it) (all.0 told)
      | inr other ↦
          first_safe e ms to all.1
          (let it : first_told ms e ≡ Some to = rw other at is in it)
    ]

-- so do calls that all lead to one
tells_plain : (e : LogEntry) (ms : List Move) → list_all (λ m. safe m.to) ms ≡ true
    → TellsSafe e ms
tells_plain e [] all = tt
tells_plain e (m ∷ ms) all =
    let parts = and_parts (safe m.to) (list_all (λ m. safe m.to) ms) all in
    ((λ _. parts.0), tells_plain e ms parts.1)

plain_safe : (e : LogEntry) (ms : List Move) (to : Station)
    → list_all (λ m. safe m.to) ms ≡ true → first_told ms e ≡ Some to → safe to ≡ true
plain_safe e ms to all is = first_safe e ms to (tells_plain e ms all) is

-- the calls that end a request before its attempts are none of a neutral entry
module _ {head : RequestHead} (e : LogEntry) (n : IsNeutral head e) where
  parts : (is_of hook.RequestFilter e && is_answer true e.output ≡ false)
      × ((is_of hook.IsPurge e && is_answer true e.output ≡ false)
      × (is_of hook.ProxyUpstreamFilter e && is_answer false e.output ≡ false))
  parts =
      let first = or_parts (is_of hook.RequestFilter e && is_answer true e.output)
      ((is_of hook.IsPurge e && is_answer true e.output)
      || (is_of hook.ProxyUpstreamFilter e && is_answer false e.output)) n.goes_on in (
        first.0,
        or_parts (is_of hook.IsPurge e && is_answer true e.output)
            (is_of hook.ProxyUpstreamFilter e && is_answer false e.output) first.1,
      )

  no_answer : is_told (move hook.RequestFilter yes station.answered) e ≡ true → false ≡ true
  no_answer told =
      apart (is_of hook.RequestFilter e) (is_none e.error) (is_answer true e.output) parts.0 told

  no_purge : is_told (move hook.IsPurge yes station.purging) e ≡ true → false ≡ true
  no_purge told =
      apart (is_of hook.IsPurge e) (is_none e.error) (is_answer true e.output) parts.1.0 told

  no_decline : is_told (move hook.ProxyUpstreamFilter no station.answered) e ≡ true → false ≡ true
  no_decline told =
      apart (is_of hook.ProxyUpstreamFilter e) (is_none e.error) (is_answer false e.output)
      parts.1.1 told

  -- a neutral call leads from a safe place to a safe one
  next_safe : (at to : Station) → safe at ≡ true → next at e ≡ Some to → safe to ≡ true
  next_safe station.accepted to is leads = plain_safe e (moves station.accepted) to refl leads
  next_safe station.made to is leads = plain_safe e (moves station.made) to refl leads
  next_safe station.handed to is leads = plain_safe e (moves station.handed) to refl leads
  next_safe station.early to is leads = plain_safe e (moves station.early) to refl leads
  next_safe station.spawning to is leads =
      first_safe e (moves station.spawning) to
      ((λ _. refl), ((λ _. refl), (no_answer, ((λ _. refl), ((λ _. refl), tt))))) leads
  next_safe station.headed to is leads =
      first_safe e (moves station.headed) to
      (no_answer, ((λ _. refl), ((λ _. refl), tt))) leads
  next_safe station.filtered to is leads =
      first_safe e (moves station.filtered) to (no_purge, ((λ _. refl), tt)) leads
  next_safe station.sending to is leads =
      first_safe e (moves station.sending) to
      ((λ _. refl), (no_decline, ((λ _. refl), tt))) leads
  next_safe station.purging to is leads = absurd (true≢false (sym is))
  next_safe station.purged to is leads = absurd (true≢false (sym is))
  next_safe station.trying to is leads = plain_safe e (moves station.trying) to refl leads
  next_safe station.named to is leads = plain_safe e (moves station.named) to refl leads
  next_safe station.linked to is leads = plain_safe e (moves station.linked) to refl leads
  next_safe station.sent to is leads = plain_safe e (moves station.sent) to refl leads
  next_safe station.relaying to is leads = plain_safe e (moves station.relaying) to refl leads
  next_safe station.at_piece to is leads = plain_safe e (moves station.at_piece) to refl leads
  next_safe station.at_head to is leads = plain_safe e (moves station.at_head) to refl leads
  next_safe station.at_body to is leads = plain_safe e (moves station.at_body) to refl leads
  next_safe station.at_trailers to is leads = plain_safe e (moves station.at_trailers) to refl leads
  next_safe station.broken to is leads = plain_safe e (moves station.broken) to refl leads
  next_safe station.repeatable to is leads = plain_safe e (moves station.repeatable) to refl leads
  next_safe station.warning to is leads = plain_safe e (moves station.warning) to refl leads
  next_safe station.answered to is leads = absurd (true≢false (sym is))
  next_safe station.failing to is leads = plain_safe e (moves station.failing) to refl leads
  next_safe station.told to is leads = plain_safe e (moves station.told) to refl leads
  next_safe station.reporting to is leads = plain_safe e (moves station.reporting) to refl leads
  next_safe station.ending to is leads = plain_safe e (moves station.ending) to refl leads
  next_safe station.logged to is leads = plain_safe e (moves station.logged) to refl leads
  next_safe station.kept to is leads = plain_safe e (moves station.kept) to refl leads

-- the calls of such a log lead from a safe place, or from none, to a safe one
safe_behind : {head : RequestHead} (es : List LogEntry) (found : Option Station) (to : Station)
    → All (IsNeutral head) es
    → ((at : Station) → found ≡ Some at → safe at ≡ true) → next_behind found es ≡ Some to
    → safe to ≡ true
safe_behind {head} [] found to all is leads = is to leads
safe_behind {head} (e ∷ es) None to all is leads = absurd (let clash : None ≡ Some to = leads in cc)
safe_behind {head} (e ∷ es) (Some at) to all is leads =
    safe_behind es (next at e) to (All-tail (IsNeutral head) e es all)
    (λ mid here. next_safe e (All-head (IsNeutral head) e es all) at mid (is at refl) here) leads

-- they do not lead to where hooks end a request before its attempts
pub never_ends : {head : RequestHead} (es : List LogEntry) (to : Station)
    → All (IsNeutral head) es → Accepts accepted es to
    → safe to ≡ false → ⊥
never_ends {head} es to all leads ends =
    true≢false
    (sym (safe_behind es (Some accepted) to all
    (λ at here. let same : accepted ≡ at = cc in subst (λ (x : Station). safe x ≡ true) same refl)
    leads) ∙ ends)
