-- Errors as plain data: what each call on them makes, and which failures a call may answer.
use Rattle.std.specs.Prelude.{◌≡◌, Bool, false}
use Rattle.relay_tasks.specs.declared.error.Error.{Error}
use Rattle.relay_tasks.specs.declared.error.ErrorType.{ErrorType}
use Rattle.relay_tasks.specs.declared.error.ErrorType.TheVariants as kind
use Rattle.relay_tasks.specs.declared.error.ErrorSource.{ErrorSource}
use Rattle.relay_tasks.specs.declared.error.ErrorSource.TheVariants.{Unset}
use Rattle.relay_tasks.specs.declared.error.RetryType.{RetryType}
use Rattle.relay_tasks.specs.declared.error.RetryType.TheVariants.{Decided, ReusedOnly}
use Rattle.relay_tasks.specs.declared.error.Fail.{Fail}
use Rattle.relay_tasks.specs.declared.error.Fail.TheVariants as fail
use Rattle.relay_tasks.specs.declared.context.Context.{Context}
use Rattle.relay_tasks.specs.declared.context.Context.TheVariants as about
use Rattle.relay_tasks.specs.declared.fault.Fault.{Fault}
use Rattle.relay_tasks.specs.declared.fault.FaultKind.{FaultKind}
use Rattle.relay_tasks.specs.declared.fault.FaultKind.TheVariants as fault

-- an error of that side: its own root, not to be retried, about nothing
abbrev pub new_error : ErrorType → ErrorSource → Error
new_error etype side =
    record { etype = etype; root = etype; esource = side; retry = Decided false; context = about.None }

-- an error of no side that says what it is about
abbrev pub explained : ErrorType → Context → Error
explained etype context =
    record { etype = etype; root = etype; esource = Unset; retry = Decided false; context = context }

-- an error of no side that keeps the root and the mark of its cause
abbrev pub caused : ErrorType → Context → Error → Error
caused etype context cause =
    record { etype = etype; root = cause.root; esource = Unset; retry = cause.retry; context = context }

-- a head, or a part of one, is refused for that reason
abbrev pub refused : Context → Error
refused why = explained kind.InvalidHTTPHeader why

-- the error type that tells of a fault
abbrev pub fault_type : FaultKind → ErrorType
fault_type fault.Read = kind.ReadError
fault_type fault.ReadTimedout = kind.ReadTimedout
fault_type fault.Write = kind.WriteError
fault_type fault.WriteTimedout = kind.WriteTimedout
fault_type fault.Connect = kind.ConnectError
fault_type fault.H2Error = kind.H2Error
fault_type fault.H2Downgrade = kind.H2Downgrade
fault_type fault.InvalidH2 = kind.InvalidH2

-- the error that tells of a fault: no side yet, and the fault's own mark
abbrev pub error_of_fault : Fault → Error
error_of_fault told =
    record {
      etype = fault_type told.kind;
      root = fault_type told.kind;
      esource = Unset;
      retry = told.retry;
      context = about.LinkFault;
    }

-- what a mark says: the decided value, and no where only a used connection counts
abbrev pub may_retry : RetryType → Bool
may_retry (Decided on) = on
may_retry ReusedOnly = false

-- a mark once it is known whether the connection had been used before
abbrev pub decided_by : RetryType → Bool → RetryType
decided_by (Decided on) reused = Decided on
decided_by ReusedOnly reused = Decided reused

-- a failure when out of memory, or by this error and no other
abbrev pub IsMemoryOr : Error → Fail → Type 0
IsMemoryOr error fail.OutOfMemory = Unit {0}
IsMemoryOr error (fail.Error given) = given ≡ error
