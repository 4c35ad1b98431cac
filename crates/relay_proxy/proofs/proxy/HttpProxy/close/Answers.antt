-- The value that is kept leaves what the links tell.
use Rattle.relay_proxy.proofs.proxy.HttpProxy.close.Goals as goal

-- the request comes to its end as before
pub returns-in-Some-clause-ends : goal.returns-in-Some-clause-ends
returns-in-Some-clause-ends g c = λ s p own run.
    rw c.set_kept.ensures (c.end-processed.ensures.ends s p own run)
