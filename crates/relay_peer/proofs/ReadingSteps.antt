-- What a step of the reading found, as the answer of a call.
use Rattle.std.proofs.Common.{◌≡◌, ℕ, Bool, true, false, List, [], ◌++◌, take, refl, sym, ap, subst, ◌∙◌, Option, Some, None, append-nil, append_assoc}
use Rattle.relay_tasks.specs.declared.error.Error.{Error}
use Rattle.relay_tasks.specs.declared.error.Fail.TheVariants as fail
use Rattle.relay_tasks.specs.declared.fault.Fault.{Fault}
use Rattle.relay_tasks.specs.declared.task.HttpTask.{HttpTask}
use Rattle.relay_tasks.specs.declared.task.HttpTask.TheVariants as task
use Rattle.relay_tasks.specs.declared.took.Pause.TheVariants.{NotReady, Silent}
use Rattle.relay_tasks.specs.declared.took.Pause.{Pause}
use Rattle.relay_tasks.specs.declared.took.Took.{Took}
use Rattle.relay_tasks.specs.declared.took.Took.TheVariants as took
use Rattle.relay_links.specs.Link.{LinkState}
use Rattle.relay_links.specs.declared.link.Got.{Got}
use Rattle.relay_links.specs.declared.link.Got.TheVariants as got
use Rattle.relay_h1.specs.declared.body_reader.State.{State}
use Rattle.relay_h1.specs.BodyReader.{Takes, TakesPiece}
use Rattle.relay_h1.specs.Move.{ReadsMore}
use Rattle.relay_h1.proofs.BodyReaderLemmas.{Takes-append}
use Rattle.relay_peer.specs.declared.response_reading.Found.{Found}
use Rattle.relay_peer.specs.declared.response_reading.Found.TheVariants as found
use Rattle.relay_peer.specs.declared.response_reading.ResponsePlace.{ResponsePlace}
use Rattle.relay_peer.specs.declared.response_reading.ResponsePlace.TheVariants as place
use Rattle.relay_peer.specs.declared.response_reading.ResponseReading.{ResponseReading}
use Rattle.relay_peer.specs.ResponseReading.{ToldResponse, ReadAt, OpenAt, Finds, FindsAgain, FindsAtEnd, EndsThere, Answers, Refuses, ReadsTask, ReadsOn, Asks, Cuts, CutsBody, AnswerCuts, PassesOn, FoundCuts, is_over, got_of, fault_error}
use Rattle.relay_peer.specs.ResponseReading as reading
use Rattle.relay_peer.proofs.ExactLemmas.{reads_task}
use Rattle.relay_peer.proofs.LengthLemmas.{out_of_length}
use Rattle.relay_peer.proofs.ResponseLemmas.{came_more, open_read, open_not_over, open_tells}

-- ---- how a body is cut

-- the longest run behind framing that was passed before more bytes came
run_behind : (old mid new : State) (bytes between came piece rest : List ℕ) (end : Bool)
    → Takes old bytes [] mid between → TakesPiece mid (between ++ came) piece end new rest
    → TakesPiece old (bytes ++ came) piece end new rest
run_behind old mid new bytes between came piece rest end passes takes = record {
  at = takes.at;
  behind_framing = takes.behind_framing;
  framing =
      Takes-append old mid takes.at (bytes ++ came) (between ++ came) takes.behind_framing [] []
      (record {
        taken = passes.taken;
        split = ap (λ (xs : List ℕ). xs ++ came) passes.split
            ∙ append_assoc passes.taken between came;
        over = passes.over;
      }) takes.framing;
  longest = takes.longest;
  some = takes.some;
  moved = takes.moved;
  is_end = takes.is_end;
}

-- a piece behind framing that was passed before more bytes came
body_cuts : (old mid : State) (bytes between came rest : List ℕ) (here : HttpTask)
    → Takes old bytes [] mid between → CutsBody mid (between ++ came) here rest
    → CutsBody old (bytes ++ came) here rest
body_cuts old mid bytes between came rest (task.Header head end) passes cuts = absurd cuts
body_cuts old mid bytes between came rest (task.Body None end) passes cuts = absurd cuts
body_cuts old mid bytes between came rest (task.Body (Some piece) end) passes cuts =
    (cuts.0, run_behind old mid cuts.0 bytes between came piece rest end passes cuts.1)
body_cuts old mid bytes between came rest (task.UpgradedBody piece end) passes cuts = absurd cuts
body_cuts old mid bytes between came rest (task.Trailer fields) passes cuts = absurd cuts
body_cuts old mid bytes between came rest task.Done passes cuts =
    out_of_length old mid bytes between passes cuts
body_cuts old mid bytes between came rest (task.Failed error) passes cuts = absurd cuts

-- the same for a task at any place
task_cuts : (old mid : ResponsePlace) (bytes between came rest : List ℕ) (here : HttpTask)
    → PassesOn old mid bytes between → Cuts mid (between ++ came) here rest
    → Cuts old (bytes ++ came) here rest
task_cuts place.NoHead place.NoHead bytes between came rest here passes cuts = cuts
task_cuts place.NoHead place.Informed bytes between came rest here passes cuts = cuts
task_cuts place.NoHead (place.InBody body) bytes between came rest here passes cuts = absurd passes
task_cuts place.NoHead (place.Ended keeps) bytes between came rest here passes cuts = absurd passes
task_cuts place.Informed place.NoHead bytes between came rest here passes cuts = cuts
task_cuts place.Informed place.Informed bytes between came rest here passes cuts = cuts
task_cuts place.Informed (place.InBody body) bytes between came rest here passes cuts =
    absurd passes
task_cuts place.Informed (place.Ended keeps) bytes between came rest here passes cuts =
    absurd passes
task_cuts (place.InBody body) place.NoHead bytes between came rest here passes cuts = absurd passes
task_cuts (place.InBody body) place.Informed bytes between came rest here passes cuts =
    absurd passes
task_cuts (place.InBody body) (place.InBody next) bytes between came rest here passes cuts =
    body_cuts body.reader next.reader bytes between came rest here passes cuts
task_cuts (place.InBody body) (place.Ended keeps) bytes between came rest here passes cuts =
    absurd passes
task_cuts (place.Ended keeps) mid bytes between came rest here passes cuts = absurd passes

-- the same for an answer
answer_cuts : (old mid : ResponsePlace) (bytes between came rest : List ℕ) (answer : Took HttpTask)
    → PassesOn old mid bytes between → AnswerCuts mid (between ++ came) answer rest
    → AnswerCuts old (bytes ++ came) answer rest
answer_cuts old mid bytes between came rest (took.Item task) passes cuts =
    task_cuts old mid bytes between came rest task passes cuts
answer_cuts old mid bytes between came rest took.More passes cuts = tt
answer_cuts old mid bytes between came rest (took.Waited pause) passes cuts = tt
answer_cuts old mid bytes between came rest took.End passes cuts = tt
answer_cuts old mid bytes between came rest (took.Failed fail) passes cuts = tt

-- what was found, as an answer
abbrev pub took_of : Found → Took HttpTask
took_of (found.Task task) = took.Item task
took_of found.Nothing = took.More
took_of found.End = took.End
took_of (found.Failed fail) = took.Failed fail

-- what was found ahead, as an answer that is cut so
found_cuts : (old new : ResponsePlace) (bytes rest : List ℕ) (here : Found)
    → FoundCuts old new bytes rest here → AnswerCuts old (bytes ++ []) (took_of here) rest
found_cuts old new bytes rest (found.Task task) cuts =
    subst (λ (xs : List ℕ). Cuts old xs task rest) (sym (append-nil bytes)) cuts
found_cuts old new bytes rest found.Nothing cuts = tt
found_cuts old new bytes rest found.End cuts = tt
found_cuts old new bytes rest (found.Failed fail) cuts = tt

-- ---- without a use of the link

-- something was found
abbrev pub IsFound : Found → Type 0
IsFound (found.Task task) = Unit {0}
IsFound found.Nothing = ⊥
IsFound found.End = Unit {0}
IsFound (found.Failed fail) = Unit {0}

-- what was found answers the call
answers_found : (method : List ℕ) (upgrade closed : Bool) (given : List ℕ) (told : ToldResponse)
    (old : ResponsePlace)
    (new : ResponseReading) (here : Found) → IsFound here
    → Finds method upgrade closed given told old new.place new.ahead here
    → Answers method upgrade closed given told None old new (took_of here)
answers_found method upgrade closed given told old new (found.Task task) is finds =
    (finds.0, finds.1, record { at = finds.2 })
answers_found method upgrade closed given told old new found.Nothing is finds = absurd is
answers_found method upgrade closed given told old new found.End is finds =
    (refl, finds.0, record { at = finds.1 })
answers_found method upgrade closed given told old new (found.Failed fail.OutOfMemory) is finds =
    record { at = finds }
answers_found method upgrade closed given told old new (found.Failed (fail.Error error)) is finds =
    (reading.Refuses.is_broken finds.0 finds.1 finds.2 finds.3, record { at = finds.4 })

-- the link was not asked
nothing_asked : {A : Type 0} (got : A) → None ≡ Some got → ⊥
nothing_asked got same = cc

-- a call that found something ahead
pub reads_found : (method : List ℕ) (upgrade : Bool) (link : LinkState) (old new : ResponseReading)
    (here : Found)
    → IsFound here
    → ((closed : Bool) (given : List ℕ) (told : ToldResponse)
    → ReadAt method upgrade closed given told old.place old.ahead
    → Finds method upgrade closed given told old.place new.place new.ahead here)
    → (is_over old.place ≡ true → (here ≡ found.End) × (new ≡ old))
    → FoundCuts old.place new.place old.ahead new.ahead here
    → ReadsTask method upgrade link link old new (took_of here)
reads_found method upgrade link old new here is finds rests cuts =
    reads_task method upgrade link link old new (took_of here) [] None (refl, refl)
    (λ fault asked. absurd (nothing_asked (got.Failed fault) asked))
    (λ over. record {
      is_end = ap took_of (rests over).0;
      unasked = refl;
      same = (rests over).1;
    }) (found_cuts old.place new.place old.ahead new.ahead here cuts)
    (λ given told got read asked. absurd (nothing_asked got asked))
    (λ given told read.
    subst (λ (xs : List ℕ). Answers method upgrade link.ended xs told None old.place new
    (took_of here))
    (sym (append-nil given))
    (answers_found method upgrade link.ended given told old.place new here is
    (finds link.ended given told read.at)))

-- ---- one read of the link

-- an answer that is not the end says nothing of the place before
answers_as : (method : List ℕ) (upgrade closed : Bool) (given : List ℕ) (told : ToldResponse)
    (asked : Option Got)
    (mid old : ResponsePlace) (new : ResponseReading) (answer : Took HttpTask) → is_over mid ≡ false
    → Answers method upgrade closed given told asked mid new answer
    → Answers method upgrade closed given told asked old new answer
answers_as method upgrade closed given told asked mid old new (took.Item task) going answers =
    answers
answers_as method upgrade closed given told asked mid old new took.More going answers = answers
answers_as method upgrade closed given told asked mid old new (took.Waited pause) going answers =
    answers
answers_as method upgrade closed given told asked mid old new took.End going answers =
    absurd (apart (sym going ∙ answers.1))
  where
    apart : false ≡ true → ⊥
    apart same = cc
answers_as method upgrade closed given told asked mid old new (took.Failed fail.OutOfMemory) going
    answers =
    answers
answers_as method upgrade closed given told asked mid old new (took.Failed (fail.Error error)) going
    answers = answers

-- to find nothing is not to find the end
nothing_is_no_end : found.Nothing ≡ found.End → ⊥
nothing_is_no_end same = cc

-- a call that found nothing ahead and read the link
pub reads_on : (method : List ℕ) (upgrade : Bool) (before after : LinkState)
    (old mid new : ResponseReading)
    (answer : Took HttpTask)
    → ((closed : Bool) (given : List ℕ) (told : ToldResponse)
    → ReadAt method upgrade closed given told old.place old.ahead
    → OpenAt method upgrade given told mid.place mid.ahead)
    → (is_over old.place ≡ true → (found.Nothing ≡ found.End) × (mid ≡ old))
    → PassesOn old.place mid.place old.ahead mid.ahead
    → ReadsOn method upgrade before after mid new answer
    → ReadsTask method upgrade before after old new answer
reads_on method upgrade before after old mid new answer opens rests passes reads =
    reads_task method upgrade before after old new answer reads.came reads.asked reads.asks
    reads.fails
    (λ over. absurd (nothing_is_no_end (rests over).0))
    (answer_cuts old.place mid.place old.ahead mid.ahead reads.came new.ahead answer passes
    reads.cuts)
    (λ given told got read asked.
    open_tells method upgrade given told mid.place mid.ahead
    (opens before.ended given told read.at))
    (λ given told read.
    let still = opens before.ended given told read.at in
    answers_as method upgrade after.ended (given ++ reads.came) told reads.asked mid.place old.place
    new
    answer (open_not_over method upgrade given told mid.place mid.ahead still)
    (reads.answers given told still))

-- out of memory, before the link was asked
pub wants_memory : (method : List ℕ) (upgrade : Bool) (before after : LinkState)
    (old : ResponseReading)
    (ahead : List ℕ) → after ≡ before → ahead ≡ old.ahead
    → ReadsOn method upgrade before after old (record old { ahead = ahead })
    (took.Failed fail.OutOfMemory)
wants_memory method upgrade before after old ahead same kept = record {
  came = [];
  asked = None;
  asks = (same, refl);
  fails = λ fault asked. absurd (nothing_asked (got.Failed fault) asked);
  cuts = tt;
  answers = λ given told still.
      record {
        at = subst (λ (xs : List ℕ). ReadAt method upgrade after.ended xs told old.place ahead)
            (sym (append-nil given))
            (subst (λ (xs : List ℕ). ReadAt method upgrade after.ended given told old.place xs)
            (sym kept)
            (open_read method upgrade after.ended given told old.place old.ahead still));
      };
}

-- a pause is no fault
never_waits : (pause : Pause) (fault : Fault) → Some (got_of pause) ≡ Some (got.Failed fault) → ⊥
never_waits NotReady fault same = cc
never_waits Silent fault same = cc

-- one fault of a link
same_failed : (a b : Fault) → Some (got.Failed a) ≡ Some (got.Failed b) → a ≡ b
same_failed a b same = cc

-- the link did not give anything now
pub link_waits : (method : List ℕ) (upgrade : Bool) (before after : LinkState)
    (old : ResponseReading)
    (ahead : List ℕ) (pause : Pause) → Asks before after [] (Some (got_of pause))
    → ahead ≡ old.ahead
    → ReadsOn method upgrade before after old (record old { ahead = ahead }) (took.Waited pause)
link_waits method upgrade before after old ahead pause asks kept = record {
  came = [];
  asked = Some (got_of pause);
  asks = asks;
  fails = λ fault is. absurd (never_waits pause fault is);
  cuts = tt;
  answers = λ given told still.
      subst (λ (xs : List ℕ). Answers method upgrade after.ended xs told (Some (got_of pause))
      old.place
      (record old { ahead = ahead }) (took.Waited pause)) (sym (append-nil given)) (
        refl,
        open_tells method upgrade given told old.place old.ahead still,
        record {
          at = subst (λ (xs : List ℕ). ReadAt method upgrade after.ended given told old.place xs)
              (sym kept)
              (open_read method upgrade after.ended given told old.place old.ahead still);
        },
      );
}

-- the link failed
pub link_fails : (method : List ℕ) (upgrade : Bool) (before after : LinkState)
    (old : ResponseReading)
    (ahead : List ℕ) (fault : Fault) (error : Error)
    → Asks before after [] (Some (got.Failed fault)) → ahead ≡ old.ahead
    → error ≡ fault_error fault
    → ReadsOn method upgrade before after old (record old { ahead = ahead })
    (took.Failed (fail.Error error))
link_fails method upgrade before after old ahead fault error asks kept is = record {
  came = [];
  asked = Some (got.Failed fault);
  asks = asks;
  fails = λ other same.
      ap (λ (e : Error). took.Failed (fail.Error e))
      (is ∙ ap fault_error (same_failed fault other same));
  cuts = tt;
  answers = λ given told still.
      subst (λ (xs : List ℕ). Answers method upgrade after.ended xs told (Some (got.Failed fault))
      old.place
      (record old { ahead = ahead }) (took.Failed (fail.Error error))) (sym (append-nil given)) (
        reading.Refuses.has_failed fault refl is
            (open_tells method upgrade given told old.place old.ahead still),
        record {
          at = subst (λ (xs : List ℕ). ReadAt method upgrade after.ended given told old.place xs)
              (sym kept)
              (open_read method upgrade after.ended given told old.place old.ahead still);
        },
      );
}

-- what was found after bytes came answers the call
answers_again : (method : List ℕ) (upgrade closed : Bool) (given : List ℕ) (told : ToldResponse)
    (n : ℕ)
    (old : ResponsePlace) (new : ResponseReading) (answer : Took HttpTask) → is_over old ≡ false
    → FindsAgain method upgrade closed given told old new answer
    → Answers method upgrade closed given told (Some (got.Bytes n)) old new answer
answers_again method upgrade closed given told n old new (took.Item task) going finds =
    (finds.0, finds.1, record { at = finds.2 })
answers_again method upgrade closed given told n old new took.More going finds = (
  (n, refl),
  open_tells method upgrade given told new.place new.ahead finds,
  record { at = open_read method upgrade closed given told new.place new.ahead finds },
)
answers_again method upgrade closed given told n old new (took.Waited pause) going finds = absurd
    finds
answers_again method upgrade closed given told n old new took.End going finds =
    absurd (apart (sym going ∙ finds.0))
  where
    apart : false ≡ true → ⊥
    apart same = cc
answers_again method upgrade closed given told n old new (took.Failed fail.OutOfMemory) going finds
    =
    record { at = finds }
answers_again method upgrade closed given told n old new (took.Failed (fail.Error error)) going
    finds =
    (reading.Refuses.is_broken finds.0 finds.1 finds.2 finds.3, record { at = finds.4 })

-- the link gave bytes
pub link_gives : (method : List ℕ) (upgrade : Bool) (before after : LinkState)
    (old new : ResponseReading)
    (ahead : List ℕ) (n : ℕ) (answer : Took HttpTask)
    → ReadsMore before after old.ahead ahead (got.Bytes n)
    → ((closed : Bool) (given : List ℕ) (told : ToldResponse)
    → ReadAt method upgrade closed given told old.place ahead
    → FindsAgain method upgrade closed given told old.place new answer)
    → AnswerCuts old.place ahead answer new.ahead
    → ReadsOn method upgrade before after old new answer
link_gives method upgrade before after old new ahead n answer more finds cuts = record {
  came = take n more.room;
  asked = Some (got.Bytes n);
  asks = record { room = more.room; sized = more.sized; gives = more.gives; grown = refl };
  fails = λ fault same. absurd (cc);
  cuts = subst (λ (xs : List ℕ). AnswerCuts old.place xs answer new.ahead) more.grown cuts;
  answers = λ given told still.
      answers_again method upgrade after.ended (given ++ take n more.room) told n old.place new
      answer
      (open_not_over method upgrade given told old.place old.ahead still)
      (finds after.ended (given ++ take n more.room) told
      (subst (λ (xs : List ℕ).
      ReadAt method upgrade after.ended (given ++ take n more.room) told old.place xs)
      (sym more.grown)
      (came_more method upgrade after.ended given (take n more.room) told old.place old.ahead
      still)));
}

-- what follows from the end of the link answers the call
answers_end : (method : List ℕ) (upgrade : Bool) (given : List ℕ) (told : ToldResponse)
    (old : ResponsePlace)
    (new : ResponseReading)
    (answer : Took HttpTask) → EndsThere method upgrade given told new answer
    → Answers method upgrade true given told (Some got.End) old new answer
answers_end method upgrade given told old new (took.Item task.Done) ends =
    (tt, sym ends.0, record { at = ends.1 })
answers_end method upgrade given told old new (took.Item (task.Header head end)) ends = absurd ends
answers_end method upgrade given told old new (took.Item (task.Body piece end)) ends = absurd ends
answers_end method upgrade given told old new (took.Item (task.UpgradedBody piece end)) ends =
    absurd ends
answers_end method upgrade given told old new (took.Item (task.Trailer fields)) ends = absurd ends
answers_end method upgrade given told old new (took.Item (task.Failed error)) ends = absurd ends
answers_end method upgrade given told old new took.More ends = absurd ends
answers_end method upgrade given told old new (took.Waited pause) ends = absurd ends
answers_end method upgrade given told old new took.End ends = absurd ends
answers_end method upgrade given told old new (took.Failed fail.OutOfMemory) ends = absurd ends
answers_end method upgrade given told old new (took.Failed (fail.Error error)) ends =
    (reading.Refuses.is_cut_off refl ends.0 ends.1, record { at = ends.2 })

-- the link ended
pub link_ends : (method : List ℕ) (upgrade : Bool) (before after : LinkState)
    (old new : ResponseReading)
    (ahead : List ℕ) (answer : Took HttpTask)
    → Asks before after [] (Some got.End) → after.ended ≡ true → ahead ≡ old.ahead
    → ((method : List ℕ) (upgrade : Bool) (given : List ℕ) (told : ToldResponse)
    → OpenAt method upgrade given told old.place ahead
    → EndsThere method upgrade given told new answer)
    → ((bytes rest : List ℕ) → AnswerCuts old.place bytes answer rest)
    → ReadsOn method upgrade before after old new answer
link_ends method upgrade before after old new ahead answer asks ended kept ends cuts = record {
  came = [];
  asked = Some got.End;
  asks = asks;
  fails = λ fault same. absurd (cc);
  cuts = cuts (old.ahead ++ []) new.ahead;
  answers = λ given told still.
      subst (λ (xs : List ℕ).
      Answers method upgrade after.ended xs told (Some got.End) old.place new answer)
      (sym (append-nil given))
      (subst (λ (closed : Bool).
      Answers method upgrade closed given told (Some got.End) old.place new answer)
      (sym ended)
      (answers_end method upgrade given told old.place new answer
      (ends method upgrade given told
      (subst (λ (xs : List ℕ). OpenAt method upgrade given told old.place xs) (sym kept) still))));
}
