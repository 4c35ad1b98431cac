-- Over a link: the head for which a side over a side stopped stands in the bytes that came.
use Rattle.std.proofs.Common.{◌≡◌, ℕ, Bool, List, [], ◌∷◌, ◌++◌, sym, ap, subst, Option, Some, None}
use Rattle.relay_tasks.specs.declared.error.Error.{Error}
use Rattle.relay_tasks.specs.declared.error.Fail.{Fail}
use Rattle.relay_tasks.specs.declared.error.Fail.TheVariants as fail
use Rattle.relay_tasks.specs.declared.task.HttpTask.{HttpTask}
use Rattle.relay_h1.specs.ClientHead.{is_informational}
use Rattle.relay_peer.specs.declared.response_reading.ResponseReading.{ResponseReading}
use Rattle.relay_peer.specs.ResponseReading.{ToldResponse, ReadSoFar, IsResponseTask, untold, with_task}
use Rattle.relay_peer.specs.ResponseReading as reading
use Rattle.relay_peer.specs.Peer.{AreTasks, Follow, told_behind, told_of}
use Rattle.relay_sides.specs.Filtered.{AreHeads, IsWithheld, RefusesHead, Withholds}
use Rattle.relay_sides.specs.Filtered as filtered
use Rattle.relay_peer.proofs.TaskLemmas.{told_push, final_in, lacking_final}

-- the last of tasks that follow what was told is one of the response
follow_last : (told : ToldResponse) (tasks : List HttpTask) (last : HttpTask)
    → Follow told (tasks ++ last ∷ []) → IsResponseTask (told_behind told tasks) last
follow_last told [] last follow = follow.0
follow_last told (first ∷ tasks) last follow =
    follow_last (with_task told first) tasks last follow.2

-- one error is kept
error_in : {a b : Error} → fail.Error a ≡ fail.Error b → b ≡ a
error_in same = cc

-- what was told before a task, and with it
with_last : (method : List ℕ) (upgrade closed : Bool) (got : List ℕ) (given : List HttpTask)
    (came : HttpTask) (client : ResponseReading)
    → AreTasks method upgrade closed got (given ++ came ∷ []) client
    → ReadSoFar method upgrade closed got (with_task (told_of given) came) client
with_last method upgrade closed got given came client tasks =
    subst (λ (t : ToldResponse). ReadSoFar method upgrade closed got t client)
    (told_push untold given came) tasks.so_far

-- the error for which a task is withheld is that of a head that is refused
withheld_refused : (method : List ℕ) (upgrade closed : Bool) (got : List ℕ)
    (given : List HttpTask) (came : HttpTask) (client : ResponseReading) (why : Fail) (e : Error)
    → AreTasks method upgrade closed got (given ++ came ∷ []) client
    → Withholds method came why → why ≡ fail.Error e → RefusesHead method upgrade got e
withheld_refused method upgrade closed got given came client why e tasks
    (filtered.Withholds.switches final end at status) because =
    let there = final_in method upgrade closed got (told_of given) final client
    (ap (λ (n : ℕ). is_informational n) status)
    (subst (λ (t : HttpTask).
    ReadSoFar method upgrade closed got (with_task (told_of given) t) client) at
    (with_last method upgrade closed got given came client tasks)) in
    filtered.RefusesHead.switches there.informed final there.framing there.len there.has status
    (error_in because)
withheld_refused method upgrade closed got given came client why e tasks
    (filtered.Withholds.is_full final end at lacks full) because =
    let last = lacking_final method end final lacks in
    let there = final_in method upgrade closed got (told_of given) final client last.0
    (subst (λ (t : HttpTask).
    ReadSoFar method upgrade closed got (with_task (told_of given) t) client) at
    (with_last method upgrade closed got given came client tasks)) in
    filtered.RefusesHead.is_full there.informed final there.framing there.len there.has last.1 full
    (error_in because)
withheld_refused method upgrade closed got given came client why e tasks
    (filtered.Withholds.wants_memory final end at lacks) because = absurd (cc)
withheld_refused method upgrade closed got given came client why e tasks
    (filtered.Withholds.tells_error error at) because =
    absurd (subst (λ (t : HttpTask). IsResponseTask (told_of given) t) at
    (follow_last untold given came tasks.follow))

-- a task that is withheld is a head
withheld_head : (told : ToldResponse) (method : List ℕ) (came : HttpTask) (why : Fail)
    → IsResponseTask told came → Withholds method came why → reading.IsHead came
withheld_head told method came why is (filtered.Withholds.switches final end at status) =
    subst (λ (t : HttpTask). reading.IsHead t) (sym at) tt
withheld_head told method came why is (filtered.Withholds.is_full final end at lacks full) =
    subst (λ (t : HttpTask). reading.IsHead t) (sym at) tt
withheld_head told method came why is (filtered.Withholds.wants_memory final end at lacks) =
    subst (λ (t : HttpTask). reading.IsHead t) (sym at) tt
withheld_head told method came why is (filtered.Withholds.tells_error error at) =
    absurd (subst (λ (t : HttpTask). IsResponseTask told t) at is)

-- what is withheld are heads
pub withheld_heads : (method : List ℕ) (upgrade closed : Bool) (got : List ℕ)
    (given withheld : List HttpTask) (client : ResponseReading) (stopped : Option Fail)
    → AreTasks method upgrade closed got (given ++ withheld) client
    → IsWithheld method stopped withheld → AreHeads withheld
withheld_heads method upgrade closed got given withheld client None tasks none =
    subst (λ (ts : List HttpTask). AreHeads ts) (sym none) tt
withheld_heads method upgrade closed got given withheld client (Some why) tasks
    (came, is, withholds) =
    let own = subst (λ (ts : List HttpTask).
    AreTasks method upgrade closed got (given ++ ts) client) is tasks in
    subst (λ (ts : List HttpTask). AreHeads ts) (sym is) (
      withheld_head (told_of given) method came why (follow_last untold given came own.follow)
          withholds,
      tt,
    )

-- the error for which the side stopped is that of a head that is refused
pub stopped_for : (method : List ℕ) (upgrade closed : Bool) (got : List ℕ)
    (given withheld : List HttpTask) (client : ResponseReading) (stopped : Option Fail) (e : Error)
    → AreTasks method upgrade closed got (given ++ withheld) client
    → IsWithheld method stopped withheld → stopped ≡ Some (fail.Error e)
    → RefusesHead method upgrade got e
stopped_for method upgrade closed got given withheld client None e tasks none same = absurd (cc)
stopped_for method upgrade closed got given withheld client (Some why) e tasks
    (came, is, withholds) same =
    withheld_refused method upgrade closed got given came client why e
    (subst (λ (ts : List HttpTask). AreTasks method upgrade closed got (given ++ ts) client) is
    tasks) withholds (one_fail same)
  where
    one_fail : {a b : Fail} → Some a ≡ Some b → a ≡ b
    one_fail same = cc
