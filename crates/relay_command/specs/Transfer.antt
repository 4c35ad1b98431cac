-- Reading a source to its end and writing to a sink: what came, and what went.
use Rattle.std.specs.Prelude.{◌≡◌, ℕ, ◌<◌, ◌≤◌, List, [], ◌++◌, length, take, true, false, option_map, IfSome}
use Rattle.relay_links.specs.Count.{Rose}
use Rattle.relay_links.specs.Sink.{SinkState}
use Rattle.relay_links.specs.Source.{SourceState}
use Rattle.relay_links.specs.Told.{more}
use Rattle.relay_command.specs.declared.transfer.Input.{Input}
use Rattle.relay_command.specs.declared.transfer.Input.TheVariants as input
use Rattle.relay_command.specs.declared.transfer.Pulled.{Pulled}
use Rattle.relay_command.specs.declared.transfer.Pulled.TheVariants as pulled
use Rattle.relay_command.specs.declared.transfer.Output.{Output}
use Rattle.relay_command.specs.declared.transfer.Output.TheVariants as output

-- how many bytes of a source are read at most
abbrev pub input_limit : ℕ
input_limit = 16777216

-- a source gave these bytes, which were the first that it had left, and no read failed
pub record Gives (before after : SourceState) (bytes : List ℕ) : Type 0 where
  pub given : after.given ≡ more before.given bytes
  pub left : before.left ≡ option_map (λ rest. bytes ++ rest) after.left
  pub faults : after.faults ≡ before.faults

-- a source gave these bytes and ended: they are all that it had left
pub record GivesAll (before after : SourceState) (bytes : List ℕ) : Type 0 where
  pub gives : Gives before after bytes
  pub ended : after.ended ≡ true
  pub all : IfSome before.left (λ rest. rest ≡ bytes)
  pub short : length bytes ≤ input_limit

-- a source gave more bytes than are read
pub record GivesTooMany (before after : SourceState) : Type 0 where
  pub bytes : List ℕ
  pub gives : Gives before after bytes
  pub long : input_limit < length bytes

-- a read of the source failed before its end
pub record FailsToGive (before after : SourceState) : Type 0 where
  pub faults : Rose before.faults after.faults
  pub not_ended : after.ended ≡ false

-- a source gave some bytes or none, and no read failed
pub record GivesSome (before after : SourceState) : Type 0 where
  pub bytes : List ℕ
  pub gives : Gives before after bytes

-- what reading a source comes to
abbrev pub ReadsIn : SourceState → SourceState → Input → Type 0
ReadsIn before after (input.Whole text) = GivesAll before after text.items
ReadsIn before after input.TooLong = GivesTooMany before after
ReadsIn before after input.Failed = FailsToGive before after
ReadsIn before after input.OutOfMemory = GivesSome before after

-- a source ended at this read: nothing was left
pub record GivesEnd (before after : SourceState) : Type 0 where
  pub gives : Gives before after []
  pub ended : after.ended ≡ true
  pub none_left : IfSome after.left (λ rest. rest ≡ [])

-- one read put these bytes at the end of the text
pub record AddsSome (before after : SourceState) (old new : List ℕ) : Type 0 where
  pub bytes : List ℕ
  pub gives : Gives before after bytes
  pub some : 0 < length bytes
  pub text : new ≡ old ++ bytes

-- what one read of a source comes to, where its bytes go to the end of a text
abbrev pub PullsIn : SourceState → SourceState → List ℕ → List ℕ → Pulled → Type 0
PullsIn before after old new pulled.More = AddsSome before after old new
PullsIn before after old new pulled.End = GivesEnd before after × (new ≡ old)
PullsIn before after old new pulled.Failed = FailsToGive before after
PullsIn before after old new pulled.OutOfMemory = GivesSome before after

-- a sink took these bytes, and no write failed
pub record Takes (before after : SinkState) (bytes : List ℕ) : Type 0 where
  pub taken : after.taken ≡ more before.taken bytes
  pub faults : after.faults ≡ before.faults

-- a write to the sink failed; what it took before are the first bytes of the text
pub record FailsToTake (before after : SinkState) (text : List ℕ) : Type 0 where
  pub count : ℕ
  pub taken : after.taken ≡ more before.taken (take count text)
  pub faults : Rose before.faults after.faults

-- a sink took the first bytes of the text, and no write failed
pub record StopsTaking (before after : SinkState) (text : List ℕ) : Type 0 where
  pub count : ℕ
  pub takes : Takes before after (take count text)

-- what writing a text to a sink comes to
abbrev pub WritesOut : SinkState → SinkState → List ℕ → Output → Type 0
WritesOut before after text output.Done = Takes before after text
WritesOut before after text output.Failed = FailsToTake before after text
WritesOut before after text output.OutOfMemory = StopsTaking before after text
