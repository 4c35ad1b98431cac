-- A side over a side of the upstream: what the tasks of the response that the inner side gives are
-- handed on as, and where the side stops (RFC 9110, section 15.2; RFC 9112, sections 6 and 7).
use Rattle.std.specs.Prelude.{◌≡◌, ℕ, All, Bool, true, false, not, ◌&&◌, ◌||◌, ◌==◌, List, [], ◌∷◌, ◌++◌, map, Option, Some, None, Result, Ok, Err, if◌then◌else◌, bytes_eq, codes}
use Rattle.std.specs.List.{list_any}
use Rattle.http_header.specs.HeaderMap.{RefusesInsert}
use Rattle.relay_tasks.specs.declared.context.Context.TheVariants.{Mismatch101, HeadTooLong}
use Rattle.relay_tasks.specs.declared.error.Error.{Error}
use Rattle.relay_tasks.specs.declared.error.ErrorSource.TheVariants.{Upstream, Internal}
use Rattle.relay_tasks.specs.declared.error.Fail.{Fail}
use Rattle.relay_tasks.specs.declared.error.Fail.TheVariants as fail
use Rattle.relay_tasks.specs.declared.task.HttpTask.{HttpTask}
use Rattle.relay_tasks.specs.declared.task.HttpTask.TheVariants as task
use Rattle.relay_tasks.specs.declared.took.Took.{Took}
use Rattle.relay_tasks.specs.declared.took.Took.TheVariants as took
use Rattle.relay_tasks.specs.Head.{ResponseHead}
use Rattle.relay_h1.specs.declared.framing.Framing.{Framing}
use Rattle.relay_h1.specs.ClientHead.{is_informational, lacks_framing, chunked_head}
use Rattle.relay_h1.specs.Options.{closes}
use Rattle.relay_h1.specs.Tasks.{HasFinal}
use Rattle.relay_h1.specs.Verdict.{refused_from}
use Rattle.relay_peer.specs.ResponseReading as reading
use Rattle.relay_core.specs.Past.{UpPast}
use Rattle.relay_core.specs.Pipe.{is_failure}
use Rattle.relay_core.specs.Up.{UpState, is_error}
use Rattle.relay_core.specs.declared.told.Told.{Told}

-- ---- a task

-- a task as it is handed on: a final head whose body would last until the link ends is chunked
abbrev pub handed : List ℕ → HttpTask → HttpTask
handed method (task.Header head end) =
    task.Header (if lacks_framing method end head then chunked_head head else head) end
handed method (task.Body piece end) = task.Body piece end
handed method (task.UpgradedBody piece end) = task.UpgradedBody piece end
handed method (task.Trailer fields) = task.Trailer fields
handed method task.Done = task.Done
handed method (task.Failed error) = task.Failed error

-- why a task is not handed on: it is a final head that switches protocols, or one that is to be
-- chunked and has no room for that, or wants memory for it; or it tells of an error
pub data Withholds (method : List ℕ) (came : HttpTask) : Fail → Type 0 where
  switches : (final : ResponseHead) (end : Bool) → came ≡ task.Header final end
      → final.status ≡ 101
      → Withholds method came (fail.Error (refused_from Upstream Mismatch101))
  is_full : (final : ResponseHead) (end : Bool) → came ≡ task.Header final end
      → lacks_framing method end final ≡ true
      → RefusesInsert final.fields (codes "transfer-encoding")
      → Withholds method came (fail.Error (refused_from Internal HeadTooLong))
  wants_memory : (final : ResponseHead) (end : Bool) → came ≡ task.Header final end
      → lacks_framing method end final ≡ true → Withholds method came fail.OutOfMemory
  tells_error : (error : Error) → came ≡ task.Failed error
      → Withholds method came (fail.Error error)

-- a head that switches protocols
abbrev pub is_switch : HttpTask → Bool
is_switch (task.Header head end) = head.status == 101
is_switch (task.Body piece end) = false
is_switch (task.UpgradedBody piece end) = false
is_switch (task.Trailer fields) = false
is_switch task.Done = false
is_switch (task.Failed error) = false

-- a head that is to be chunked has room for the field that says so
abbrev pub HasRoom : List ℕ → HttpTask → Type 0
HasRoom method (task.Header head end) =
    lacks_framing method end head ≡ true
    → ¬ (RefusesInsert head.fields (codes "transfer-encoding"))
HasRoom method (task.Body piece end) = Unit {0}
HasRoom method (task.UpgradedBody piece end) = Unit {0}
HasRoom method (task.Trailer fields) = Unit {0}
HasRoom method task.Done = Unit {0}
HasRoom method (task.Failed error) = Unit {0}

-- what becomes of a task of the response
abbrev pub HandsOn : List ℕ → HttpTask → Result HttpTask Fail → Type 0
HandsOn method came (Ok given) =
    (given ≡ handed method came) × (is_failure given ≡ false) × (is_switch came ≡ false)
    × HasRoom method came
HandsOn method came (Err why) = Withholds method came why

-- a failure as one of the relay's own
abbrev pub inside : Fail → Fail
inside fail.OutOfMemory = fail.OutOfMemory
inside (fail.Error error) = fail.Error (record error { esource = Internal })

-- a final head that asks for the connection to be closed (RFC 9112, section 9.6)
abbrev pub asks_to_close : HttpTask → Bool
asks_to_close (task.Header head end) =
    not (is_informational head.status) && closes head.fields
asks_to_close (task.Body piece end) = false
asks_to_close (task.UpgradedBody piece end) = false
asks_to_close (task.Trailer fields) = false
asks_to_close task.Done = false
asks_to_close (task.Failed error) = false

-- ---- the side

-- the request is a HEAD, whose response has no body
abbrev pub is_head_request : List ℕ → Bool
is_head_request method = bytes_eq method (codes "HEAD")

-- the side stopped for an error
abbrev pub stops_for_error : Option Fail → Bool
stops_for_error None = false
stops_for_error (Some why) = is_error why

-- the state of the side over that of its inner one: a tunnel begins with a head that is handed on,
-- it tells of its own answers, and the read that stopped it answered why
abbrev pub state_over : UpState → Bool → Option Fail → Told → UpState
state_over inner upgraded stopped told = record inner {
  upgraded = upgraded;
  told = told;
  read_failed = inner.read_failed || stops_for_error stopped;
}

-- what is withheld: nothing, or the task for which the side stopped
abbrev pub IsWithheld : List ℕ → Option Fail → List HttpTask → Type 0
IsWithheld method None withheld = withheld ≡ []
IsWithheld method (Some why) withheld =
    (came : HttpTask) × (withheld ≡ came ∷ []) × Withholds method came why

-- what passed through the side of a request with that method: each task that the inner side gave
-- was handed on, up to the one for which the side stopped; all else passed as it did inside
pub record IsFiltered
    (inner : UpPast → Type 0) (method : List ℕ) (of_head closing : Bool) (stopped : Option Fail)
    (told inner_told : Told) (q : UpPast) : Type 0 where
  pub own : of_head ≡ is_head_request method
  pub given : List HttpTask
  pub withheld : List HttpTask
  pub holds : inner (record q { read = given ++ withheld })
  pub is_read : q.read ≡ map (handed method) given
  pub none_switches : list_any is_switch given ≡ false
  pub have_room : All (HasRoom method) given
  pub is_withheld : IsWithheld method stopped withheld
  pub closes : closing ≡ list_any asks_to_close q.read
  -- each error that the inner side told was told
  pub quiet : told.errors ≡ 0 → inner_told.errors ≡ 0

-- the side answers for an error: its inner one does, or it stopped for it
pub data BlamesOver (blames : UpPast → Error → Type 0) (stopped : Option Fail) (q : UpPast)
    (e : Error) : Type 0 where
  by_inner : blames q e → BlamesOver blames stopped q e
  by_refusal : stopped ≡ Some (fail.Error e) → BlamesOver blames stopped q e

-- what is answered where the inner side answered so: a task is handed on or withheld, and any other
-- answer is the inner side's
abbrev pub IsMadeOf : List ℕ → Took HttpTask → Took HttpTask → Type 0
IsMadeOf method (took.Item came) (took.Item given) = HandsOn method came (Ok given)
IsMadeOf method (took.Item came) took.More = ⊥
IsMadeOf method (took.Item came) (took.Waited pause) = ⊥
IsMadeOf method (took.Item came) took.End = ⊥
IsMadeOf method (took.Item came) (took.Failed why) = HandsOn method came (Err why)
IsMadeOf method took.More answer = answer ≡ took.More
IsMadeOf method (took.Waited pause) answer = answer ≡ took.Waited pause
IsMadeOf method took.End answer = answer ≡ took.End
IsMadeOf method (took.Failed why) answer = answer ≡ took.Failed why

-- how a task is cut: as the inner side cuts the one of which it is made. A side that has stopped
-- leaves the inner one
pub data CutsOver (cuts : Took HttpTask → Type 0) (left : Type 0) (method : List ℕ)
    (stopped : Option Fail) (answer : Took HttpTask) : Type 0 where
  is_made : (came : Took HttpTask) → cuts came → IsMadeOf method came answer
      → CutsOver cuts left method stopped answer
  is_stopped : (why : Fail) → stopped ≡ Some why → answer ≡ took.Failed why → left
      → CutsOver cuts left method stopped answer

-- the tasks are heads
abbrev pub AreHeads : List HttpTask → Type 0
AreHeads [] = Unit {0}
AreHeads (task ∷ tasks) = reading.IsHead task × AreHeads tasks

-- what the side answers for is the same, whatever it read, where that is so inside
pub still_blames : (blames : UpPast → Error → Type 0) (stopped : Option Fail) (q : UpPast)
    (read : List HttpTask) (e : Error) → (blames q e → blames (record q { read = read }) e)
    → BlamesOver blames stopped q e → BlamesOver blames stopped (record q { read = read }) e
still_blames blames stopped q read e keeps (BlamesOver.by_inner blamed) =
    BlamesOver.by_inner (keeps blamed)
still_blames blames stopped q read e keeps (BlamesOver.by_refusal is) = BlamesOver.by_refusal is

-- ---- over a link

-- why a final head of the response that the bytes of a link say is refused with that error: it
-- switches protocols, or nothing in it says where its body ends, and it has no room for the field
-- that does
pub data RefusesHead (method : List ℕ) (upgrade : Bool) (got : List ℕ) (e : Error) : Type 0 where
  switches : (informed : List ResponseHead) (final : ResponseHead) (framing : Framing) (len : ℕ)
      → HasFinal method upgrade got informed final framing len → final.status ≡ 101
      → e ≡ refused_from Upstream Mismatch101 → RefusesHead method upgrade got e
  is_full : (informed : List ResponseHead) (final : ResponseHead) (framing : Framing) (len : ℕ)
      → HasFinal method upgrade got informed final framing len
      → lacks_framing method false final ≡ true
      → RefusesInsert final.fields (codes "transfer-encoding")
      → e ≡ refused_from Internal HeadTooLong → RefusesHead method upgrade got e
