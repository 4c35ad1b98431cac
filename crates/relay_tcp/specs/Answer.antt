-- What a call of a socket means, by the answer that a link gives for it.
use Rattle.std.specs.Prelude.{◌≡◌, ◌==◌, ◌<◌, ◌⊎◌, ℕ, Bool, true, false, not, cond, Option, Some, None, Result, Ok, Err, zero, suc}
use Rattle.std.specs.declared.io.Error.{Error}
use Rattle.std.specs.IoError.{error_kind}
use Rattle.std.specs.declared.io.ErrorKind.{ErrorKind}
use Rattle.std.specs.declared.io.ErrorKind.TheVariants as kind
use Rattle.relay_tasks.specs.declared.error.RetryType.TheVariants.{ReusedOnly}
use Rattle.relay_tasks.specs.declared.fault.Fault.{Fault}
use Rattle.relay_tasks.specs.declared.fault.FaultKind.{FaultKind}
use Rattle.relay_tasks.specs.declared.fault.FaultKind.TheVariants as fault_kind
use Rattle.relay_links.specs.declared.link.Got.{Got}
use Rattle.relay_links.specs.declared.link.Got.TheVariants as got
use Rattle.relay_links.specs.declared.link.Put.{Put}
use Rattle.relay_links.specs.declared.link.Put.TheVariants as put
use Rattle.relay_tcp.specs.declared.answer.Sight.{Sight}
use Rattle.relay_tcp.specs.declared.answer.Sight.TheVariants.{Idle, Unasked, Over}
use Rattle.relay_tcp.specs.declared.answer.Trouble.{Trouble}
use Rattle.relay_tcp.specs.declared.answer.Trouble.TheVariants.{Wait, TimedOut, Broken}

-- an error that would block or was interrupted says to wait; of the others one is of time
abbrev pub trouble_of : ErrorKind → Trouble
trouble_of kind.WouldBlock = Wait
trouble_of kind.Interrupted = Wait
trouble_of kind.TimedOut = TimedOut
trouble_of _ = Broken

-- the trouble of a read, where it failed
abbrev pub read_trouble : Result ℕ Error → Option Trouble
read_trouble (Ok n) = None
read_trouble (Err error) = Some (trouble_of (error_kind error))

-- the trouble of a write, where it failed or took nothing
abbrev pub write_trouble : Result ℕ Error → Option Trouble
write_trouble (Ok zero) = Some Broken
write_trouble (Ok (suc n)) = None
write_trouble (Err error) = Some (trouble_of (error_kind error))

-- a call of that error would have to wait
abbrev pub would_block : ErrorKind → Bool
would_block kind.WouldBlock = true
would_block _ = false

-- a call leaves the socket ready, as far as it shows, where so much was offered: it moved all of
-- it, met an end, or failed without having to wait
abbrev pub stays_ready : Result ℕ Error → ℕ → Bool
stays_ready (Ok zero) offered = true
stays_ready (Ok (suc n)) offered = suc n == offered
stays_ready (Err error) offered = not (would_block (error_kind error))

-- a look at what there is to read shows an open connection on which nothing came where it would
-- have to wait, and bytes where there are such
abbrev pub sight_of : Result ℕ Error → Sight
sight_of (Ok zero) = Over
sight_of (Ok (suc n)) = Unasked
sight_of (Err error) = cond (would_block (error_kind error)) Idle Over

-- the fault of a link, by its kind: another attempt may help where the connection was used before
abbrev pub link_fault : FaultKind → Fault
link_fault kind = record { kind = kind; retry = ReusedOnly }

-- the fault of this trouble: timed out or broken
abbrev pub IsFaultOf : FaultKind → FaultKind → Option Trouble → Fault → Type 0
IsFaultOf timed broken trouble fault =
    ((trouble ≡ Some TimedOut) × (fault ≡ link_fault timed))
    ⊎ ((trouble ≡ Some Broken) × (fault ≡ link_fault broken))

-- what a socket gave on a read, by the link's answer
abbrev pub AnswersRead : Result ℕ Error → Got → Type 0
AnswersRead read (got.Bytes n) = (0 < n) × (read ≡ Ok n)
AnswersRead read got.NotReady = read_trouble read ≡ Some Wait
AnswersRead read got.Silent = ⊥
AnswersRead read got.End = read ≡ Ok 0
AnswersRead read (got.Failed fault) =
    IsFaultOf fault_kind.ReadTimedout fault_kind.Read (read_trouble read) fault

-- what a socket gave on a write, by the link's answer
abbrev pub AnswersWrite : Result ℕ Error → Put → Type 0
AnswersWrite written (put.Took n) = (0 < n) × (written ≡ Ok n)
AnswersWrite written put.NotReady = write_trouble written ≡ Some Wait
AnswersWrite written put.Silent = ⊥
AnswersWrite written put.OutOfMemory = ⊥
AnswersWrite written (put.Failed fault) =
    IsFaultOf fault_kind.WriteTimedout fault_kind.Write (write_trouble written) fault
