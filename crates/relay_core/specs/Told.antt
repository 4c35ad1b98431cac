-- What a side tells of its answers: their counts, each of which stands still at its last value.
use Rattle.std.specs.Prelude.{Some}
use Rattle.relay_tasks.specs.declared.error.Error.{Error}
use Rattle.relay_tasks.specs.declared.error.Fail.{Fail}
use Rattle.relay_tasks.specs.declared.error.Fail.TheVariants as fail
use Rattle.relay_tasks.specs.declared.error.ErrorSource.{ErrorSource}
use Rattle.relay_tasks.specs.declared.took.Pause.{Pause}
use Rattle.relay_tasks.specs.declared.took.Pause.TheVariants as pause
use Rattle.relay_tasks.specs.declared.fault.Fault.{Fault}
use Rattle.relay_tasks.specs.Error.{error_of_fault}
use Rattle.relay_links.specs.declared.link.Put.{Put}
use Rattle.relay_links.specs.declared.link.Put.TheVariants as put
use Rattle.relay_links.specs.Count.{up}
use Rattle.relay_core.specs.declared.told.Told.{Told}

-- one more answer that something has to be waited for
abbrev pub paused : Pause → Told → Told
paused pause.NotReady told = record told { waits = up told.waits }
paused pause.Silent told = record told { silences = up told.silences }

-- one more error; out of memory is none
abbrev pub failed : Fail → Told → Told
failed fail.OutOfMemory told = told
failed (fail.Error error) told = record told { errors = up told.errors; last = Some error }

-- the error that tells of a fault of that side's link
abbrev pub fault_of : ErrorSource → Fault → Error
fault_of side fault = record (error_of_fault fault) { esource = side }

-- one more answer of a write on that side
abbrev pub written : ErrorSource → Put → Told → Told
written side (put.Took n) told = told
written side put.NotReady told = paused pause.NotReady told
written side put.Silent told = paused pause.Silent told
written side (put.Failed fault) told = failed (fail.Error (fault_of side fault)) told
written side put.OutOfMemory told = told
