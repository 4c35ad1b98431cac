-- The faults that scripts of message links answer: those of their own kinds as they are, each other
-- one as scripts of bytes do.
use Rattle.relay_tasks.specs.declared.fault.Fault.{Fault}
use Rattle.relay_tasks.specs.declared.fault.FaultKind.{FaultKind}
use Rattle.relay_tasks.specs.declared.fault.FaultKind.TheVariants.{H2Error, H2Downgrade, InvalidH2}
use Rattle.relay_links.specs.Fault.{read_kind, write_kind}

-- the kind by which a receiving call fails
abbrev pub receive_kind : FaultKind → FaultKind
receive_kind H2Error = H2Error
receive_kind H2Downgrade = H2Downgrade
receive_kind InvalidH2 = InvalidH2
receive_kind kind = read_kind kind

-- the fault as a receiving call answers it
abbrev pub as_receive_fault : Fault → Fault
as_receive_fault fault = record fault { kind = receive_kind fault.kind }

-- the kind by which a sending call fails
abbrev pub send_kind : FaultKind → FaultKind
send_kind H2Error = H2Error
send_kind kind = write_kind kind

-- the fault as a sending call answers it
abbrev pub as_send_fault : Fault → Fault
as_send_fault fault = record fault { kind = send_kind fault.kind }
