-- A hook of the end is called, and counted.
use Rattle.relay_turns.proofs.EndSteps.{ends_served}
use Rattle.relay_proxy.proofs.proxy.HttpProxy.call_last.Goals as goal

-- one is called only where one comes next
pub call_last-work-requires : goal.call_last-work-requires
call_last-work-requires g c =
    (ends_served c.args.machine.now.machine.phase c.args.machine.now.calls.at c.args.goes_back
    c.requires).1
