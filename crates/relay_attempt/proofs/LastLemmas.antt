-- What the calls of the client's side leave of its session.
use Rattle.std.proofs.Common.{◌≡◌, ◌∙◌, refl}
use Rattle.relay_core.specs.Down.{Lasting, goes_on, stays}
use Rattle.relay_session.specs.Reading.{head_of}
use Rattle.relay_sides.specs.Client.{IsLasting}
use Rattle.relay_sides.specs.declared.client_side.ClientSide.{ClientSide}

-- the head of the request stands behind any calls
pub head_lasts : (old new : ClientSide)
    → Lasting (λ (a b : ClientSide). IsLasting a.session b.session) old new
    → head_of new.session.reading ≡ head_of old.session.reading
head_lasts old new stays = refl
head_lasts old new (goes_on mid last more call) = call.head ∙ head_lasts old mid more
