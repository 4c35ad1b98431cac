use Rattle.std.proofs.Common.{arith, length}
use Rattle.relay_links.proofs.FrontLemmas.{front, gives, waits, wait_is_short, is_silent_after, is_silent_past, fails, ends, ends_again}
use Rattle.relay_links.specs.declared.read_script.ReadItem.TheVariants as item
use Rattle.relay_links.proofs.read_script.ReadScript.read.Goals as goal

pub overflow_add-self-in-Wait : goal.overflow_add-self-in-Wait
overflow_add-self-in-Wait c =
    let here =
    front c.args.self.now c.settle.new.self c.args.taken c.len.result c.index.result.now
    (item.Wait c.in-Wait.waits) c.if-self.false c.settle.ensures.passes
    c.settle.ensures.settled c.len.ensures c.if-len-self.false c.index.ensures c.in-Wait.is in
    omega (arith, wait_is_short c.args.self.now c.settle.new.self c.args.taken c.in-Wait.waits here)

pub returns-then-self : goal.returns-then-self
returns-then-self c =
    ends_again c.args.self.now c.args.taken (length c.args.room.now) c.if-self.true

pub returns-then-len-self : goal.returns-then-len-self
returns-then-len-self c =
    is_silent_past c.args.self.now c.settle.new.self c.args.taken c.len.result
    (length c.args.room.now) c.if-self.false c.settle.ensures.passes
    c.settle.ensures.settled c.len.ensures c.if-len-self.true

pub returns-in-Bytes : goal.returns-in-Bytes
returns-in-Bytes c =
    let here =
    front c.args.self.now c.settle.new.self c.args.taken c.len.result c.index.result.now
    (item.Bytes c.in-Bytes.bytes) c.if-self.false c.settle.ensures.passes
    c.settle.ensures.settled c.len.ensures c.if-len-self.false c.index.ensures c.in-Bytes.is in
    gives c.args.self.now c.settle.new.self c.args.taken c.give-count.result c.in-Bytes.bytes
    c.args.room.now c.give-count.new.room here c.requires c.give-count.auto.room
    (rw (← c.as_slice.ensures) c.give-count.ensures.count)
    (rw (← c.as_slice.ensures) c.give-count.ensures.bytes)

pub returns-in-Wait : goal.returns-in-Wait
returns-in-Wait c =
    let here =
    front c.args.self.now c.settle.new.self c.args.taken c.len.result c.index.result.now
    (item.Wait c.in-Wait.waits) c.if-self.false c.settle.ensures.passes
    c.settle.ensures.settled c.len.ensures c.if-len-self.false c.index.ensures c.in-Wait.is in
    waits c.args.self.now c.settle.new.self c.args.taken
    (length c.args.room.now) c.in-Wait.waits here

pub returns-in-After : goal.returns-in-After
returns-in-After c =
    let here =
    front c.args.self.now c.settle.new.self c.args.taken c.len.result c.index.result.now
    (item.After c.in-After.field-0) c.if-self.false c.settle.ensures.passes
    c.settle.ensures.settled c.len.ensures c.if-len-self.false c.index.ensures c.in-After.is in
    is_silent_after c.args.self.now c.settle.new.self c.args.taken
    (length c.args.room.now) c.in-After.field-0 here

pub returns-in-Fault : goal.returns-in-Fault
returns-in-Fault c =
    let here =
    front c.args.self.now c.settle.new.self c.args.taken c.len.result c.index.result.now
    (item.Fault c.in-Fault.fault) c.if-self.false c.settle.ensures.passes
    c.settle.ensures.settled c.len.ensures c.if-len-self.false c.index.ensures c.in-Fault.is in
    fails c.args.self.now c.settle.new.self c.args.taken
    (length c.args.room.now) c.in-Fault.fault c.read_fault-fault.result here
    c.read_fault-fault.ensures.exact c.read_fault-fault.ensures.kind

pub returns-in-End : goal.returns-in-End
returns-in-End c =
    let here =
    front c.args.self.now c.settle.new.self c.args.taken c.len.result c.index.result.now
    (item.End) c.if-self.false c.settle.ensures.passes
    c.settle.ensures.settled c.len.ensures c.if-len-self.false c.index.ensures c.in-End.is in
    ends c.args.self.now c.settle.new.self c.args.taken (length c.args.room.now) here
