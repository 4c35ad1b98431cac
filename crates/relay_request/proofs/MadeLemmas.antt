-- The modules of a request are made behind the question for subrequests; where no hook before the
-- attempts is called, that is not asked.
use Rattle.std.proofs.Common.{◌≡◌, Bool, true, false, Option, None, Some, refl, sym, true≢false}
use Rattle.relay_tasks.specs.declared.Error.{Error}
use Rattle.relay_tasks.specs.declared.peer.PurgeAction.{PurgeAction}
use Rattle.relay_opening.specs.Place.{AreMade}
use Rattle.relay_opening.specs.declared.place.Called.TheVariants as called
use Rattle.relay_opening.specs.declared.place.Place.{Place}
use Rattle.relay_opening.specs.declared.place.Place.TheVariants as place
use Rattle.relay_request.specs.Calls.{AreMadeAt, AreMadeIn, ended_with, final_at, is_calling, is_closing_at, last_of, purge_at}
use Rattle.relay_request.specs.Relaying.{is_relaying}
use Rattle.relay_request.specs.Turn.{is_over}
use Rattle.relay_request.specs.declared.calls.At.{At}
use Rattle.relay_request.specs.declared.calls.At.TheVariants as at
use Rattle.relay_request.specs.declared.calls.Calls.{Calls}
use Rattle.relay_request.specs.declared.machine.Phase.{Phase}
use Rattle.relay_request.specs.declared.machine.Phase.TheVariants as phase

-- a turn of the hooks before the attempts is one of the calls of a request
pub turn_made : {M K : Type 0} (X : Type 0) (makes : Bool) (old new : Option M) (from to : Place K)
    → AreMade makes from to old new
    → AreMadeAt {X = X} makes (at.Opening from) (at.Opening to) old new
turn_made X makes old new (place.Behind (called.Made kept)) to made = tt
turn_made X makes old new (place.Behind called.Handed) to made = tt
turn_made X makes old new (place.Behind called.Early) (place.Behind last) made = made
turn_made X makes old new (place.Behind called.Early) (place.Ended how) made = tt
turn_made X makes old new (place.Behind called.Early) place.Lost made = tt
turn_made X makes old new (place.Behind called.Spawning) to made = tt
turn_made X makes old new (place.Behind called.Headed) to made = tt
turn_made X makes old new (place.Behind called.Filtered) to made = tt
turn_made X makes old new (place.Behind called.Sending) to made = tt
turn_made X makes old new (place.Ended how) to made = tt
turn_made X makes old new place.Lost to made = tt

module _ {M K X : Type 0} (makes : Bool) (old new : Option M) where
  -- no hook is called there
  pub idle_unmade : (from to : At K X) → is_calling from ≡ false → AreMadeAt makes from to old new
  idle_unmade (at.Kept kept) to idle = tt
  idle_unmade (at.Opening (place.Behind last)) to idle = absurd (true≢false idle)
  idle_unmade (at.Opening (place.Ended how)) to idle = tt
  idle_unmade (at.Opening place.Lost) to idle = tt
  idle_unmade (at.Purging action) to idle = tt
  idle_unmade (at.Named peer) to idle = tt
  idle_unmade (at.Repeatable error) to idle = tt
  idle_unmade at.Warning to idle = tt
  idle_unmade at.Linked to idle = tt
  idle_unmade (at.Treated error) to idle = tt
  idle_unmade (at.Closing held there) to idle = tt

  -- an error is answered there
  pub final_unmade : (from to : At K X) (error : Error) → final_at from ≡ Some error
      → AreMadeAt makes from to old new
  final_unmade (at.Kept kept) to error is = tt
  final_unmade (at.Opening (place.Behind last)) to error is =
      let none : None ≡ Some error = is in cc
  final_unmade (at.Opening (place.Ended how)) to error is = tt
  final_unmade (at.Opening place.Lost) to error is = tt
  final_unmade (at.Purging action) to error is = tt
  final_unmade (at.Named peer) to error is = tt
  final_unmade (at.Repeatable failed) to error is = tt
  final_unmade at.Warning to error is = tt
  final_unmade at.Linked to error is = tt
  final_unmade (at.Treated failed) to error is = tt
  final_unmade (at.Closing held there) to error is = tt

  -- the purger is asked there
  pub purge_unmade : (from to : At K X) (action : PurgeAction) → purge_at from ≡ Some action
      → AreMadeAt makes from to old new
  purge_unmade (at.Kept kept) to action is = tt
  purge_unmade (at.Opening there) to action is = let none : None ≡ Some action = is in cc
  purge_unmade (at.Purging asked) to action is = tt
  purge_unmade (at.Named peer) to action is = tt
  purge_unmade (at.Repeatable failed) to action is = tt
  purge_unmade at.Warning to action is = tt
  purge_unmade at.Linked to action is = tt
  purge_unmade (at.Treated failed) to action is = tt
  purge_unmade (at.Closing held there) to action is = tt

  -- no hook before the attempts comes behind it
  past_early : (to : At K X) → is_closing_at to ≡ true
      → AreMadeAt makes (at.Opening (place.Behind called.Early)) to old new
  past_early (at.Kept kept) closing = tt
  past_early (at.Opening there) closing = absurd (true≢false (sym closing))
  past_early (at.Purging action) closing = tt
  past_early (at.Named peer) closing = tt
  past_early (at.Repeatable error) closing = tt
  past_early at.Warning closing = tt
  past_early at.Linked closing = tt
  past_early (at.Treated error) closing = tt
  past_early (at.Closing held there) closing = tt

  pub closing_unmade : (from to : At K X) → is_closing_at to ≡ true
      → AreMadeAt makes from to old new
  closing_unmade (at.Kept kept) to closing = tt
  closing_unmade (at.Opening (place.Behind (called.Made kept))) to closing = tt
  closing_unmade (at.Opening (place.Behind called.Handed)) to closing = tt
  closing_unmade (at.Opening (place.Behind called.Early)) to closing = past_early to closing
  closing_unmade (at.Opening (place.Behind called.Spawning)) to closing = tt
  closing_unmade (at.Opening (place.Behind called.Headed)) to closing = tt
  closing_unmade (at.Opening (place.Behind called.Filtered)) to closing = tt
  closing_unmade (at.Opening (place.Behind called.Sending)) to closing = tt
  closing_unmade (at.Opening (place.Ended how)) to closing = tt
  closing_unmade (at.Opening place.Lost) to closing = tt
  closing_unmade (at.Purging action) to closing = tt
  closing_unmade (at.Named peer) to closing = tt
  closing_unmade (at.Repeatable error) to closing = tt
  closing_unmade at.Warning to closing = tt
  closing_unmade at.Linked to closing = tt
  closing_unmade (at.Treated error) to closing = tt
  closing_unmade (at.Closing held there) to closing = tt

-- an error that is told leaves the end of a request its end
pub ended_closing : {K X : Type 0} (here : At K X) (error : Option Error)
    → is_closing_at here ≡ true → is_closing_at (ended_with here error) ≡ true
ended_closing (at.Kept kept) error is = is
ended_closing (at.Opening there) error is = is
ended_closing (at.Purging action) error is = is
ended_closing (at.Named peer) error is = is
ended_closing (at.Repeatable failed) error is = is
ended_closing at.Warning error is = is
ended_closing at.Linked error is = is
ended_closing (at.Treated failed) error is = is
ended_closing (at.Closing held there) error is = refl

module _ {L C M K X : Type 0} (makes : Bool) (old new : Calls M K X) where
  -- a request that has ended calls none of them
  pub over_unmade : (p : Phase L C) → is_over p ≡ true → AreMadeIn makes p old new
  over_unmade phase.ReadHead over = tt
  over_unmade (phase.Connect context session tries) over = absurd (true≢false (sym over))
  over_unmade (phase.Unlinked context session attempts error) over = tt
  over_unmade (phase.Prepare context session link lease) over = tt
  over_unmade (phase.Relay a) over = tt
  over_unmade (phase.Broken context session link lease keep error) over = tt
  over_unmade (phase.Again context session link lease keep error) over = tt
  over_unmade (phase.Fail link lease keep session error) over = tt
  over_unmade (phase.Close link lease keep outcome) over = tt
  over_unmade (phase.Answer session owed attempts) over = tt
  over_unmade (phase.Ended outcome attempts) over = tt

  -- nor does one whose exchange is under way
  pub relaying_unmade : (p : Phase L C) → is_relaying p ≡ true → AreMadeIn makes p old new
  relaying_unmade phase.ReadHead relays = tt
  relaying_unmade (phase.Connect context session tries) relays = absurd (true≢false (sym relays))
  relaying_unmade (phase.Unlinked context session attempts error) relays = tt
  relaying_unmade (phase.Prepare context session link lease) relays = tt
  relaying_unmade (phase.Relay a) relays = tt
  relaying_unmade (phase.Broken context session link lease keep error) relays = tt
  relaying_unmade (phase.Again context session link lease keep error) relays = tt
  relaying_unmade (phase.Fail link lease keep session error) relays = tt
  relaying_unmade (phase.Close link lease keep outcome) relays = tt
  relaying_unmade (phase.Answer session owed attempts) relays = tt
  relaying_unmade (phase.Ended outcome attempts) relays = tt

  -- nor does one of whose end a hook is called
  pub last_unmade : (p : Phase L C) (here : At K X) (goes_back : Bool)
      → last_of p here ≡ Some goes_back → AreMadeIn makes p old new
  last_unmade phase.ReadHead here goes_back last = tt
  last_unmade (phase.Connect context session tries) here goes_back last =
      let none : None ≡ Some goes_back = last in cc
  last_unmade (phase.Unlinked context session attempts error) here goes_back last = tt
  last_unmade (phase.Prepare context session link lease) here goes_back last = tt
  last_unmade (phase.Relay a) here goes_back last = tt
  last_unmade (phase.Broken context session link lease keep error) here goes_back last = tt
  last_unmade (phase.Again context session link lease keep error) here goes_back last = tt
  last_unmade (phase.Fail link lease keep session error) here goes_back last = tt
  last_unmade (phase.Close link lease keep outcome) here goes_back last = tt
  last_unmade (phase.Answer session owed attempts) here goes_back last = tt
  last_unmade (phase.Ended outcome attempts) here goes_back last = tt
