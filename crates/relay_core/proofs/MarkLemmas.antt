-- What the upstream's side tells of errors stays what the duplex made of them, by each branch.
use Rattle.std.proofs.Common.{◌≡◌, Bool, true, false, ◌||◌, ◌⊎◌, inl, inr, List, ◌++◌, Option, Some, None, Result, Ok, Err, refl, sym, ap, ◌∙◌, subst, append-nil}
use Rattle.std.specs.List.{list_any}
use Rattle.relay_tasks.specs.declared.error.Error.{Error}
use Rattle.relay_tasks.specs.declared.error.Fail.{Fail}
use Rattle.relay_tasks.specs.declared.error.Fail.TheVariants as fail
use Rattle.relay_tasks.specs.declared.task.HttpTask.{HttpTask}
use Rattle.relay_tasks.specs.declared.took.Took.{Took}
use Rattle.relay_tasks.specs.declared.took.Took.TheVariants as took
use Rattle.relay_tasks.specs.Task.{is_end}
use Rattle.relay_links.specs.declared.link.Put.{Put}
use Rattle.relay_links.specs.declared.link.Put.TheVariants as put
use Rattle.relay_core.specs.declared.duplex.Duplex.{Duplex}
use Rattle.relay_core.specs.declared.piece.Piece.{Piece}
use Rattle.relay_core.specs.Down.{DownState}
use Rattle.relay_core.specs.Down as down
use Rattle.relay_core.specs.Moves.{Marks}
use Rattle.relay_core.specs.Past.{UpPast, task_in}
use Rattle.relay_core.specs.Steps.{with_requests}
use Rattle.relay_core.specs.Table.{State, after_up_write, after_down_write, after_piece, after_up_take, with_piece_sent, with_upgrade, after_batch, after_up_read, after_down_read, after_up_finish, after_down_finish}
use Rattle.relay_core.specs.Up.{UpState, ReadsTask, TakesPiece}
use Rattle.relay_core.specs.Up as up
use Rattle.relay_core.proofs.BoolLemmas.{clash, or_false, or-true}

-- ---- the branches that ask nothing of the upstream's side

-- the duplex keeps its kind and its send error
pub record KeepsMarks (old new : Duplex) : Type 0 where
  pub kind : new.kind ≡ old.kind
  pub sends : new.send_error ≡ old.send_error

-- so does what it became
pub keep_at : (old wanted new : Duplex) → new ≡ wanted → KeepsMarks old wanted
    → KeepsMarks old new
keep_at old wanted new is keeps =
    let P : Duplex → Type 0 = λ d. KeepsMarks old d in subst P (sym is) keeps

-- a write to the client leaves the marks
pub keep_down_write : (d : Duplex) (answer : Put) → KeepsMarks d (after_down_write d answer)
keep_down_write d (put.Took n) = record { kind = refl; sends = refl }
keep_down_write d put.NotReady = record { kind = refl; sends = refl }
keep_down_write d put.Silent = record { kind = refl; sends = refl }
keep_down_write d (put.Failed fault) = record { kind = refl; sends = refl }
keep_down_write d put.OutOfMemory = record { kind = refl; sends = refl }

-- an accepted 101 leaves both
keep_upgrade : (d : Duplex) (accepted : Bool) → KeepsMarks d (with_upgrade d accepted)
keep_upgrade d true = record { kind = refl; sends = refl }
keep_upgrade d false = record { kind = refl; sends = refl }

-- so does a batch
pub keep_batch : (d : Duplex) (side side' : DownState) (tasks : List HttpTask)
    (answer : Result Bool Fail) → KeepsMarks d (after_batch d side tasks side' answer)
keep_batch d side side' tasks (Ok done) =
    let keeps = keep_upgrade d (down.accepts side side') in
    record { kind = keeps.kind; sends = keeps.sends }
keep_batch d side side' tasks (Err why) = record { kind = refl; sends = refl }

-- and a read of the client
pub keep_down_read : (d : Duplex) (upgraded : Bool) (answer : Took Piece)
    → KeepsMarks d (after_down_read d upgraded answer)
keep_down_read d upgraded (took.Item piece) = record { kind = refl; sends = refl }
keep_down_read d upgraded took.More = record { kind = refl; sends = refl }
keep_down_read d upgraded (took.Waited why) = record { kind = refl; sends = refl }
keep_down_read d upgraded took.End = record { kind = refl; sends = refl }
keep_down_read d upgraded (took.Failed why) = record { kind = refl; sends = refl }

-- and the end of the upstream half
pub keep_up_finish : (d : Duplex) (why : Option Error) → KeepsMarks d (after_up_finish d why)
keep_up_finish d None = record { kind = refl; sends = refl }
keep_up_finish d (Some error) = record { kind = refl; sends = refl }

-- and the end of the response's body
pub keep_down_finish : (d : Duplex) (pending : Bool) (answer : Result Unit Fail)
    → KeepsMarks d (after_down_finish d pending answer)
keep_down_finish d true (Ok done) = record { kind = refl; sends = refl }
keep_down_finish d false (Ok done) = record { kind = refl; sends = refl }
keep_down_finish d true (Err why) = record { kind = refl; sends = refl }
keep_down_finish d false (Err why) = record { kind = refl; sends = refl }

-- a read of the upstream keeps them in the duplex
keep_up_read : (d : Duplex) (tunnel : Bool) (answer : Took HttpTask)
    → KeepsMarks d (after_up_read d tunnel answer)
keep_up_read d tunnel (took.Item task) = record { kind = refl; sends = refl }
keep_up_read d tunnel took.More = record { kind = refl; sends = refl }
keep_up_read d tunnel (took.Waited why) = record { kind = refl; sends = refl }
keep_up_read d tunnel took.End = record { kind = refl; sends = refl }
keep_up_read d tunnel (took.Failed (fail.Error error)) = record { kind = refl; sends = refl }
keep_up_read d tunnel (took.Failed fail.OutOfMemory) = record { kind = refl; sends = refl }

-- no read failed where none had, the response going on or an end having been read
calm_on : (old new : State) (q q' : UpPast) → new.up.read_failed ≡ old.up.read_failed
    → (new.duplex.upstream_response_done ≡ false → old.duplex.upstream_response_done ≡ false)
    → q'.read ≡ q.read → Marks old q
    → (new.duplex.upstream_response_done ≡ false) ⊎ (list_any is_end q'.read ≡ true)
    → new.up.read_failed ≡ false
calm_on old new q q' same ended is_read m (inl goes_on) = same ∙ m.reads (inl (ended goes_on))
calm_on old new q q' same ended is_read m (inr end) =
    same ∙ m.reads (inr (ap (list_any is_end) (sym is_read) ∙ end))

-- the upstream's side stays, and the duplex keeps its kind and its send error
pub marks_same : (old new : State) (q q' : UpPast) → KeepsMarks old.duplex new.duplex
    → new.up ≡ old.up
    → (new.duplex.upstream_response_done ≡ false → old.duplex.upstream_response_done ≡ false)
    → q'.read ≡ q.read → Marks old q → Marks new q'
marks_same old new q q' keeps same ended is_read m = record {
  kind = keeps.kind ∙ m.kind ∙ sym (ap (λ (s : UpState). s.kind) same);
  sends = keeps.sends ∙ m.sends ∙ sym (ap (λ (s : UpState). s.send_failed) same);
  reads = calm_on old new q q' (ap (λ (s : UpState). s.read_failed) same) ended is_read m;
}

-- ---- those that ask it

-- the duplex and the side agree, and no read failed in between
record Agree (d : Duplex) (old new : UpState) : Type 0 where
  kind : d.kind ≡ new.kind
  sends : d.send_error ≡ new.send_failed
  reads : new.read_failed ≡ old.read_failed

-- so do they for what the duplex became
marks_agree : (old new : State) (wanted : Duplex) (q q' : UpPast) → new.duplex ≡ wanted
    → Agree wanted old.up new.up
    → (new.duplex.upstream_response_done ≡ false → old.duplex.upstream_response_done ≡ false)
    → q'.read ≡ q.read → Marks old q → Marks new q'
marks_agree old new wanted q q' is agree ended is_read m = record {
  kind = ap (λ (d : Duplex). d.kind) is ∙ agree.kind;
  sends = ap (λ (d : Duplex). d.send_error) is ∙ agree.sends;
  reads = calm_on old new q q' agree.reads ended is_read m;
}

-- after a write the duplex agrees with the upstream's side
agree_write : (d : Duplex) (old new : UpState) (answer : Put) → up.Writes old new answer
    → d.kind ≡ old.kind → d.send_error ≡ old.send_failed
    → Agree (after_up_write d answer) old new
agree_write d old new (put.Took n) is kind sends = record {
  kind = kind ∙ sym (ap (λ (s : UpState). s.kind) is);
  sends = sends ∙ sym (ap (λ (s : UpState). s.send_failed) is);
  reads = ap (λ (s : UpState). s.read_failed) is;
}
agree_write d old new put.NotReady is kind sends = record {
  kind = kind ∙ sym (ap (λ (s : UpState). s.kind) is);
  sends = sends ∙ sym (ap (λ (s : UpState). s.send_failed) is);
  reads = ap (λ (s : UpState). s.read_failed) is;
}
agree_write d old new put.Silent is kind sends = record {
  kind = kind ∙ sym (ap (λ (s : UpState). s.kind) is);
  sends = sends ∙ sym (ap (λ (s : UpState). s.send_failed) is);
  reads = ap (λ (s : UpState). s.read_failed) is;
}
agree_write d old new (put.Failed fault) is kind sends = record {
  kind = kind ∙ sym (ap (λ (s : UpState). s.kind) is);
  sends = sym (ap (λ (s : UpState). s.send_failed) is);
  reads = ap (λ (s : UpState). s.read_failed) is;
}
agree_write d old new put.OutOfMemory is kind sends = record {
  kind = kind ∙ sym (ap (λ (s : UpState). s.kind) is);
  sends = sends ∙ sym (ap (λ (s : UpState). s.send_failed) is);
  reads = ap (λ (s : UpState). s.read_failed) is;
}

-- one write to the upstream
pub marks_write : (old new : State) (answer : Put) (q q' : UpPast)
    → new.duplex ≡ after_up_write old.duplex answer → up.Writes old.up new.up answer
    → (new.duplex.upstream_response_done ≡ false → old.duplex.upstream_response_done ≡ false)
    → q'.read ≡ q.read → Marks old q → Marks new q'
marks_write old new answer q q' is writes ended is_read m =
    marks_agree old new _ q q' is
    (agree_write old.duplex old.up new.up answer writes m.kind m.sends) ended is_read m

-- so it does after the answer on a piece
agree_piece : (d : Duplex) (old new : UpState) (answer : Result Unit Fail)
    → TakesPiece old new answer → d.kind ≡ old.kind → d.send_error ≡ old.send_failed
    → Agree (after_piece d answer) old new
agree_piece d old new (Ok done) is kind sends = record {
  kind = kind ∙ sym (ap (λ (s : UpState). s.kind) is);
  sends = sends ∙ sym (ap (λ (s : UpState). s.send_failed) is);
  reads = ap (λ (s : UpState). s.read_failed) is;
}
agree_piece d old new (Err (fail.Error error)) is kind sends = record {
  kind = kind ∙ sym (ap (λ (s : UpState). s.kind) is);
  sends = sym (ap (λ (s : UpState). s.send_failed) is);
  reads = ap (λ (s : UpState). s.read_failed) is;
}
agree_piece d old new (Err fail.OutOfMemory) is kind sends = record {
  kind = kind ∙ sym (ap (λ (s : UpState). s.kind) is);
  sends = sends ∙ sym (ap (λ (s : UpState). s.send_failed) is);
  reads = ap (λ (s : UpState). s.read_failed) is;
}

-- a piece went to the upstream
pub marks_take : (old new : State) (tunnel : Bool) (piece : HttpTask) (rest : List HttpTask)
    (answer : Result Unit Fail) (q q' : UpPast)
    → new.duplex ≡ after_up_take (with_requests old.duplex rest) tunnel piece answer
    → TakesPiece old.up new.up answer
    → (new.duplex.upstream_response_done ≡ false → old.duplex.upstream_response_done ≡ false)
    → q'.read ≡ q.read → Marks old q → Marks new q'
marks_take old new tunnel piece rest answer q q' is takes ended is_read m =
    marks_agree old new _ q q' is
    (agree_piece (with_piece_sent (with_requests old.duplex rest) tunnel piece) old.up new.up answer
    takes m.kind m.sends) ended is_read m

-- the side that was read keeps its kind, and what it could not send
record KeepsSide (old new : UpState) : Type 0 where
  kind : new.kind ≡ old.kind
  sends : new.send_failed ≡ old.send_failed

-- a read of the upstream leaves the kind of its side and its send error
keep_side : (old new : UpState) (answer : Took HttpTask) → ReadsTask old new answer
    → KeepsSide old new
keep_side old new (took.Item task) reads = record {
  kind = ap (λ (s : UpState). s.kind) reads.exact;
  sends = ap (λ (s : UpState). s.send_failed) reads.exact;
}
keep_side old new took.More is = record {
  kind = ap (λ (s : UpState). s.kind) is;
  sends = ap (λ (s : UpState). s.send_failed) is;
}
keep_side old new (took.Waited why) is = record {
  kind = ap (λ (s : UpState). s.kind) is;
  sends = ap (λ (s : UpState). s.send_failed) is;
}
keep_side old new took.End is = absurd is
keep_side old new (took.Failed why) is = record {
  kind = ap (λ (s : UpState). s.kind) is;
  sends = ap (λ (s : UpState). s.send_failed) is;
}

-- a read that answers an error ends the response, and brings no end
read_calm : (d : Duplex) (tunnel : Bool) (old new : UpState) (answer : Took HttpTask)
    (read : List HttpTask) → ReadsTask old new answer → old.read_failed ≡ false
    → list_any is_end read ≡ false
    → ((after_up_read d tunnel answer).upstream_response_done ≡ false)
    ⊎ (list_any is_end (read ++ task_in answer) ≡ true)
    → new.read_failed ≡ false
read_calm d tunnel old new (took.Item task) read reads calm none why =
    ap (λ (s : UpState). s.read_failed) reads.exact ∙ calm
read_calm d tunnel old new took.More read is calm none why =
    ap (λ (s : UpState). s.read_failed) is ∙ calm
read_calm d tunnel old new (took.Waited pause) read is calm none why =
    ap (λ (s : UpState). s.read_failed) is ∙ calm
read_calm d tunnel old new took.End read is calm none why = absurd is
read_calm d tunnel old new (took.Failed fail.OutOfMemory) read is calm none why =
    ap (λ (s : UpState). s.read_failed) is ∙ or_false old.read_failed false calm refl
read_calm d tunnel old new (took.Failed (fail.Error error)) read is calm none (inl goes_on) =
    clash (d.upstream_response_done || true) (or-true d.upstream_response_done) goes_on
read_calm d tunnel old new (took.Failed (fail.Error error)) read is calm none (inr end) =
    clash (list_any is_end read) (ap (list_any is_end) (sym (append-nil read)) ∙ end) none

-- one read of the upstream, whose response goes on
pub marks_read : (old new : State) (tunnel : Bool) (answer : Took HttpTask) (q q' : UpPast)
    → new.duplex ≡ after_up_read old.duplex tunnel answer → ReadsTask old.up new.up answer
    → old.duplex.upstream_response_done ≡ false → list_any is_end q.read ≡ false
    → q'.read ≡ q.read ++ task_in answer → Marks old q → Marks new q'
marks_read old new tunnel answer q q' is reads goes_on none is_read m =
    let keeps = keep_at old.duplex _ new.duplex is (keep_up_read old.duplex tunnel answer) in
    let side = keep_side old.up new.up answer reads in
    let W : Duplex → Type 0 = λ d. (d.upstream_response_done ≡ false)
    ⊎ (list_any is_end q'.read ≡ true) in
    let R : List HttpTask → Type 0 = λ ts.
    ((after_up_read old.duplex tunnel answer).upstream_response_done ≡ false)
    ⊎ (list_any is_end ts ≡ true) in
    record {
      kind = keeps.kind ∙ m.kind ∙ sym side.kind;
      sends = keeps.sends ∙ m.sends ∙ sym side.sends;
      reads = λ why. read_calm old.duplex tunnel old.up new.up answer q.read reads
          (m.reads (inl goes_on)) none (subst R is_read (subst W is why));
    }
