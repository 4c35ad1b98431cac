-- The head is made in three steps, of which the second is the call of the filter.
use Rattle.std.proofs.lemmas.Result.{err_from_is_err_and}
use Rattle.relay_turns.proofs.PrepareSteps.{filter_fails, settles_on}
use Rattle.relay_proxy.proofs.preparing.sent_of.Goals as goal

-- the filter failed
pub returns-in_err-filtered : goal.returns-in_err-filtered
returns-in_err-filtered g c =
    let failure = err_from_is_err_and c.from_residual-in_err-filtered.result
    c.from_residual-in_err-filtered.ensures.1 in
    rw (failure.1, failure.2)
    (record {
      makes = filter_fails _ c.args.calls.now c.filter.new.calls c.args.client.now
          c.filter.new.client _ _ c.in_ok-ready.ready _ c.in_err-filtered.ensures.filters;
      at = c.filter.ensures.at;
      framed = tt;
    })

-- it left a head
pub returns : goal.returns
returns g c = record {
  makes = settles_on _ c.args.calls.now c.filter.new.calls c.args.client.now c.filter.new.client _ _
      c.in_ok-filtered.filtered c.settled.result (record {
        ready = c.in_ok-ready.ready;
        readies = c.in_ok-ready.ensures;
        call = c.in_ok-filtered.ensures.filters;
      }) c.settled.ensures.settles;
  at = c.filter.ensures.at;
  framed = c.settled.ensures.framed;
}
