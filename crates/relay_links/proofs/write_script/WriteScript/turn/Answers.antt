use Rattle.std.proofs.Common.{arith}
use Rattle.relay_links.proofs.WriteScriptLemmas.{front, takes_all, takes, wait_is_short, waits, fails}
use Rattle.relay_links.specs.declared.write_script.WriteItem.TheVariants as item
use Rattle.relay_links.proofs.write_script.WriteScript.turn.Goals as goal

pub overflow_add-self-in-Wait : goal.overflow_add-self-in-Wait
overflow_add-self-in-Wait c =
    omega (
      arith,
      wait_is_short c.args.self.now c.settle.new.self c.in-Wait.waits
          (front c.args.self.now c.settle.new.self c.len.result c.index.result.now
          (item.Wait c.in-Wait.waits) c.settle.ensures.passes
          c.settle.ensures.settled c.len.ensures c.if-len-self.false c.index.ensures c.in-Wait.is),
    )

pub returns-then-len-self : goal.returns-then-len-self
returns-then-len-self c =
    takes_all c.args.self.now c.settle.new.self c.len.result c.settle.ensures.passes
    c.settle.ensures.settled c.len.ensures c.if-len-self.true

pub returns-in-Take : goal.returns-in-Take
returns-in-Take c = takes c.args.self.now c.settle.new.self c.in-Take.bytes
    (front c.args.self.now c.settle.new.self c.len.result c.index.result.now
    (item.Take c.in-Take.bytes) c.settle.ensures.passes
    c.settle.ensures.settled c.len.ensures c.if-len-self.false c.index.ensures c.in-Take.is)

pub returns-in-Wait : goal.returns-in-Wait
returns-in-Wait c = waits c.args.self.now c.settle.new.self c.in-Wait.waits
    (front c.args.self.now c.settle.new.self c.len.result c.index.result.now
    (item.Wait c.in-Wait.waits) c.settle.ensures.passes
    c.settle.ensures.settled c.len.ensures c.if-len-self.false c.index.ensures c.in-Wait.is)

pub returns-in-Fault : goal.returns-in-Fault
returns-in-Fault c = fails c.args.self.now c.settle.new.self c.in-Fault.fault c.write_fault.result
    (front c.args.self.now c.settle.new.self c.len.result c.index.result.now
    (item.Fault c.in-Fault.fault) c.settle.ensures.passes
    c.settle.ensures.settled c.len.ensures c.if-len-self.false c.index.ensures c.in-Fault.is)
    c.write_fault.ensures.exact c.write_fault.ensures.kind
