-- The request is ended, and what follows on its connection is kept.
use Rattle.std.proofs.Common.{ap, sym, ◌∙◌}
use Rattle.relay_proxy.specs.declared.proxy.HttpProxy.{HttpProxy}
use Rattle.relay_server.proofs.serve.end_taken.Goals as goal

-- its next request has begun
pub returns-in-Goes-clause-serves : goal.returns-in-Goes-clause-serves
returns-in-Goes-clause-serves g c = λ before ends.
    c.keep.ensures.goes.serves before (c.in-Goes.ensures.serves before c.args.floor.now ends)

-- its link is closed
pub returns-in-Ends-clause-serves : goal.returns-in-Ends-clause-serves
returns-in-Ends-clause-serves g c = λ before ends.
    c.in-Ends.ensures.serves before c.args.floor.now ends

-- beside them it may have asked the purger alone
pub returns-in-Goes-clause-same : goal.returns-in-Goes-clause-same
returns-in-Goes-clause-same g c =
    c.keep.ensures.goes.same
    ∙ ap (λ (k : HttpProxy g.row.SV.Denot g.row.K.Denot g.row.P.Denot). record k {
      connector = c.keep.new.proxy.connector;
      purger = c.keep.new.proxy.purger;
      requests_ended = c.keep.new.proxy.requests_ended;
    }) c.in-Goes.ensures.same

pub returns-in-Ends-clause-same : goal.returns-in-Ends-clause-same
returns-in-Ends-clause-same g c =
    c.in-Ends.ensures.same
    ∙ ap (λ (u : g.row.P.Denot). record c.args.proxy.now {
      connector = c.end.new.proxy.connector;
      purger = u;
      requests_ended = c.end.new.proxy.requests_ended;
    })
    (sym (ap (λ (k : HttpProxy g.row.SV.Denot g.row.K.Denot g.row.P.Denot). k.purger)
    c.in-Ends.ensures.same))
