-- The application's filter is called with a piece.
use Rattle.relay_filters.proofs.CallLemmas.{alone_calls}
use Rattle.relay_filters.proofs.request.call_alone.Goals as goal

pub returns : goal.returns
returns g c =
    alone_calls _ _ _ _ _ _ _ _ _ c.requires c.call_request_body_filter.result
    c.call_request_body_filter.ensures.calls
