-- What a step leaves of the client's side: its calls are none or one.
use Rattle.relay_core.specs.Down.{Lasting, goes_on, stays}

-- one call
pub once : {D : Type 0} (lasts : D → D → Type 0) (old new : D) → lasts old new
    → Lasting lasts old new
once lasts old new call = goes_on old new stays call

-- calls behind calls
pub behind : {D : Type 0} (lasts : D → D → Type 0) (old mid new : D) → Lasting lasts old mid
    → Lasting lasts mid new → Lasting lasts old new
behind lasts old mid new first stays = first
behind lasts old mid new first (goes_on at last more call) =
    goes_on at last (behind lasts old mid at first more) call
