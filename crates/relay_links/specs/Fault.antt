-- The faults that scripts answer: a read or a write fails by its own kinds alone.
use Rattle.relay_tasks.specs.declared.fault.Fault.{Fault}
use Rattle.relay_tasks.specs.declared.fault.FaultKind.{FaultKind}
use Rattle.relay_tasks.specs.declared.fault.FaultKind.TheVariants.{Read, ReadTimedout, Write, WriteTimedout, Connect, H2Error, H2Downgrade, InvalidH2}

-- the kind by which a read fails
abbrev pub read_kind : FaultKind → FaultKind
read_kind Read = Read
read_kind ReadTimedout = ReadTimedout
read_kind Write = Read
read_kind WriteTimedout = Read
read_kind Connect = Read
read_kind H2Error = Read
read_kind H2Downgrade = Read
read_kind InvalidH2 = Read

-- the fault as a read answers it
abbrev pub as_read_fault : Fault → Fault
as_read_fault fault = record { kind = read_kind fault.kind; retry = fault.retry }

-- the kind by which a write fails
abbrev pub write_kind : FaultKind → FaultKind
write_kind Read = Write
write_kind ReadTimedout = Write
write_kind Write = Write
write_kind WriteTimedout = WriteTimedout
write_kind Connect = Write
write_kind H2Error = Write
write_kind H2Downgrade = Write
write_kind InvalidH2 = Write

-- the fault as a write answers it
abbrev pub as_write_fault : Fault → Fault
as_write_fault fault = record { kind = write_kind fault.kind; retry = fault.retry }
