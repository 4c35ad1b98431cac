-- What calls of a side, one behind the other, leave of it.
--
--   lasting_same     what each call leaves as it was, several do
--   same_names       a side that was not made anew holds what it held
--   names_behind     calls behind calls leave it so
--   lasting_names    a side holds what it was made over, behind any calls
--   lasting_app      and serves the same application
use Rattle.std.proofs.Common.{◌≡◌, ℕ, Bool, refl, ap, ◌∙◌}
use Rattle.relay_tasks.specs.declared.log.LogEntry.{LogEntry}
use Rattle.relay_core.specs.Down.{Lasting, goes_on, stays}
use Rattle.relay_hooks.specs.Standing.{Standing}
use Rattle.relay_modules.specs.declared.seen.Seen.{Seen}
use Rattle.relay_filters.specs.Hooked.{Lasts, SameNames, Stays}

-- what each call leaves as it was stands behind several
pub lasting_same : {D A : Type 0} (lasts : D → D → Type 0) (of : D → A)
    → ((old new : D) → lasts old new → of new ≡ of old)
    → (old new : D) → Lasting lasts old new → of new ≡ of old
lasting_same lasts of same old new stays = refl
lasting_same lasts of same old new (goes_on mid at more call) =
    same mid at call ∙ lasting_same lasts of same old mid more

-- a side holds what it holds
pub same_names : {N : Type 0} (session ctx side : N) → SameNames session session ctx ctx side side
same_names session ctx side = record { session = refl; ctx = refl; side = refl }

-- a side that holds what one held that holds what a first one held
pub names_behind : {N : Type 0} (session session' session'' ctx ctx' ctx'' side side' side'' : N)
    → SameNames session session' ctx ctx' side side'
    → SameNames session' session'' ctx' ctx'' side' side''
    → SameNames session session'' ctx ctx'' side side''
names_behind session session' session'' ctx ctx' ctx'' side side' side'' first more = record {
  session = more.session ∙ first.session;
  ctx = more.ctx ∙ first.ctx;
  side = more.side ∙ first.side;
}

-- a side whose calls keep these names keeps them behind any of them
pub lasting_names : {D N : Type 0} (lasts : D → D → Type 0) (session ctx side : D → N)
    → ((old new : D) → lasts old new
    → SameNames (session old) (session new) (ctx old) (ctx new) (side old) (side new))
    → (old new : D) → Lasting lasts old new
    → SameNames (session old) (session new) (ctx old) (ctx new) (side old) (side new)
lasting_names lasts session ctx side keeps old new stays =
    same_names (session old) (ctx old) (side old)
lasting_names lasts session ctx side keeps old new (goes_on mid at more call) =
    names_behind (session old) (session mid) (session at) (ctx old) (ctx mid) (ctx at) (side old)
    (side mid) (side at) (lasting_names lasts session ctx side keeps old mid more)
    (keeps mid at call)

-- one call leaves the application
pub lasts_app : {A : Type 0} (allows : Standing → LogEntry → Type 0) (old_stays new_stays : Stays A)
    (was_lost lost : Bool) (old : Seen) (mark : ℕ) (new : Seen) (mark' : ℕ)
    → Lasts allows old_stays new_stays was_lost lost old mark new mark'
    → new_stays.app ≡ old_stays.app
lasts_app allows old_stays new_stays was_lost lost old mark new mark' lasts =
    ap (λ (s : Stays _). s.app) lasts.stays

-- and so do several
pub lasting_app : {D A : Type 0} (lasts : D → D → Type 0) (app : D → A)
    → ((old new : D) → lasts old new → app new ≡ app old)
    → (old new : D) → Lasting lasts old new → app new ≡ app old
lasting_app lasts app same old new calls = lasting_same lasts app same old new calls
