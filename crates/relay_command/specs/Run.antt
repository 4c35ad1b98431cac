-- A run of the program: what it read, what it wrote, and the status that it ends with.
use Rattle.std.specs.Prelude.{◌≡◌, ℕ, ◌<◌, true, List, ◌⊎◌, length, Some, None, codes, Result, Ok, Err}
use Rattle.relay_links.specs.Count.{Rose}
use Rattle.relay_links.specs.Sink.{SinkState}
use Rattle.relay_links.specs.Source.{SourceState}
use Rattle.relay_command.specs.Exchange.{IsRun}
use Rattle.relay_command.specs.Report.{RequestSpec, report_of}
use Rattle.relay_json.specs.Script.{ScriptSpec, reads_script}
use Rattle.relay_command.specs.Transfer.{GivesAll, GivesTooMany, GivesSome, FailsToGive, Takes, FailsToTake, StopsTaking, input_limit}
use Rattle.relay_command.specs.Words.{IsRefused, AsksToRun, usage_text}
use Rattle.relay_command.specs.declared.run.Status.{Status}
use Rattle.relay_command.specs.declared.run.Status.TheVariants as status
use Rattle.relay_json.specs.declared.script.ScriptError.{ScriptError}
use Rattle.relay_json.specs.declared.script.ScriptError.TheVariants as error
use Rattle.relay_command.specs.declared.transfer.Output.{Output}
use Rattle.relay_command.specs.declared.transfer.Output.TheVariants as output

-- the number of a status
abbrev pub status_code : Status → ℕ
status_code status.Reported = 0
status_code status.ScriptRefused = 2
status_code status.SourceFailed = 3
status_code status.SinkFailed = 4
status_code status.OutOfMemory = 5
status_code status.WordsRefused = 6

-- the text is the report of a run of the script that the bytes spell
pub record IsReportOf (bytes text : List ℕ) : Type 0 where
  pub script : ScriptSpec
  pub reads : reads_script bytes ≡ Some script
  pub requests : List RequestSpec
  pub runs : IsRun script requests
  pub printed : text ≡ report_of requests

-- what the bytes of a source come to, unless memory ran out: a report, or they spell no script
abbrev pub Answers : {X : Type 0} → (X → List ℕ) → List ℕ → Result X ScriptError → Type 0
Answers view bytes (Ok text) = IsReportOf bytes (view text)
Answers view bytes (Err error.Refused) = reads_script bytes ≡ None
Answers view bytes (Err error.HookNotCalled) = reads_script bytes ≡ None
Answers view bytes (Err error.OutOfMemory) = Unit {0}

-- the sink took the report of a run of the script that the bytes spell
pub record TakesReport (bytes : List ℕ) (sink sink' : SinkState) : Type 0 where
  pub text : List ℕ
  pub report : IsReportOf bytes text
  pub written : Takes sink sink' text

-- the source has ended, and the sink took the report of a run of its bytes
pub record Reports (source source' : SourceState) (sink sink' : SinkState) : Type 0 where
  pub bytes : List ℕ
  pub gives : GivesAll source source' bytes
  pub report : TakesReport bytes sink sink'

-- the source has ended, and its bytes spell no script
pub record GivesNoScript (before after : SourceState) : Type 0 where
  pub bytes : List ℕ
  pub gives : GivesAll before after bytes
  pub none : reads_script bytes ≡ None

abbrev pub refused_text : List ℕ
refused_text = codes "script refused\n"

-- the source gives no script, and the sink took the line that says so
pub record RefusesScript (source source' : SourceState) (sink sink' : SinkState) : Type 0 where
  pub cause : GivesNoScript source source' ⊎ GivesTooMany source source'
  pub written : Takes sink sink' refused_text

-- the text is what is to be written for these bytes: the report of a run of the script that they
-- spell, or the line that says that they spell none
abbrev pub IsTextFor : List ℕ → List ℕ → Type 0
IsTextFor bytes text = IsReportOf bytes text ⊎ ((reads_script bytes ≡ None) × (text ≡ refused_text))

-- the source has ended, and the text is what is to be written for its bytes
pub record AsksForText (before after : SourceState) (text : List ℕ) : Type 0 where
  pub bytes : List ℕ
  pub gives : GivesAll before after bytes
  pub due : IsTextFor bytes text

-- the text is what is to be written for what the source gave
abbrev pub IsTextOf : SourceState → SourceState → List ℕ → Type 0
IsTextOf before after text =
    AsksForText before after text ⊎ (GivesTooMany before after × (text ≡ refused_text))

-- a write of what is due failed
pub record FailsToWrite (IsDue : List ℕ → Type 0) (sink sink' : SinkState) : Type 0 where
  pub text : List ℕ
  pub due : IsDue text
  pub fails : FailsToTake sink sink' text

-- the sink took the first bytes of what is due, and then memory ran out
pub record StopsWriting (IsDue : List ℕ → Type 0) (sink sink' : SinkState) : Type 0 where
  pub text : List ℕ
  pub due : IsDue text
  pub stops : StopsTaking sink sink' text

-- memory ran out: nothing was written, or the first bytes of what is due
abbrev pub RunsShort : (List ℕ → Type 0) → SinkState → SinkState → Type 0
RunsShort IsDue sink sink' = (sink' ≡ sink) ⊎ StopsWriting IsDue sink sink'

-- the sink took the usage, and the source was left alone
pub record RefusesWords (source source' : SourceState) (sink sink' : SinkState) : Type 0 where
  pub source_same : source' ≡ source
  pub written : Takes sink sink' usage_text

-- the status behind a write, where `done` is that of a text that was taken whole
abbrev pub status_after : Output → Status → Status
status_after output.Done done = done
status_after output.Failed done = status.SinkFailed
status_after output.OutOfMemory done = status.OutOfMemory

-- why the bytes of a source end with a status
abbrev pub EndsBytes : List ℕ → SinkState → SinkState → Status → Type 0
EndsBytes bytes sink sink' status.Reported = TakesReport bytes sink sink'
EndsBytes bytes sink sink' status.ScriptRefused =
    (reads_script bytes ≡ None) × Takes sink sink' refused_text
EndsBytes bytes sink sink' status.SourceFailed = ⊥
EndsBytes bytes sink sink' status.SinkFailed = FailsToWrite (IsTextFor bytes) sink sink'
EndsBytes bytes sink sink' status.OutOfMemory = RunsShort (IsTextFor bytes) sink sink'
EndsBytes bytes sink sink' status.WordsRefused = ⊥

-- why a run of a script ends with a status
abbrev pub EndsScript : SourceState → SourceState → SinkState → SinkState → Status → Type 0
EndsScript source source' sink sink' status.Reported = Reports source source' sink sink'
EndsScript source source' sink sink' status.ScriptRefused = RefusesScript source source' sink sink'
EndsScript source source' sink sink' status.SourceFailed =
    FailsToGive source source' × (sink' ≡ sink)
EndsScript source source' sink sink' status.SinkFailed =
    FailsToWrite (IsTextOf source source') sink sink'
EndsScript source source' sink sink' status.OutOfMemory =
    GivesSome source source' × RunsShort (IsTextOf source source') sink sink'
EndsScript source source' sink sink' status.WordsRefused = ⊥

-- why refused words end with a status
abbrev pub EndsUsage : SourceState → SourceState → SinkState → SinkState → Status → Type 0
EndsUsage source source' sink sink' status.WordsRefused = RefusesWords source source' sink sink'
EndsUsage source source' sink sink' status.SinkFailed =
    (source' ≡ source) × FailsToTake sink sink' usage_text
EndsUsage source source' sink sink' status.OutOfMemory =
    (source' ≡ source) × StopsTaking sink sink' usage_text
EndsUsage source source' sink sink' status.Reported = ⊥
EndsUsage source source' sink sink' status.ScriptRefused = ⊥
EndsUsage source source' sink sink' status.SourceFailed = ⊥

-- why the words end with a status
abbrev pub EndsCommand :
    List (List ℕ) → SourceState → SourceState → SinkState → SinkState → Status → Type 0
EndsCommand words source source' sink sink' status =
    (IsRefused words × EndsUsage source source' sink sink' status)
    ⊎ (AsksToRun words × EndsScript source source' sink sink' status)

-- a source that tells its bytes has ended, and they spell no script
pub record TellsNoScript (before after : SourceState) : Type 0 where
  pub bytes : List ℕ
  pub told : before.left ≡ Some bytes
  pub none : reads_script bytes ≡ None
  pub ended : after.ended ≡ true

-- a source that tells its bytes has more than are read, and no read failed
pub record TellsTooMany (before after : SourceState) : Type 0 where
  pub bytes : List ℕ
  pub told : before.left ≡ Some bytes
  pub long : input_limit < length bytes
  pub no_fault : ¬ Rose before.faults after.faults
