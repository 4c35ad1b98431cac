-- From one look at the bytes ahead, and one read behind them, to the answer of a call.
use Rattle.std.proofs.Common.{◌≡◌, ℕ, ◌+◌, ◌<◌, Bool, true, false, List, [], ◌∷◌, ◌++◌, length, take, drop, refl, sym, ◌∙◌, ap, subst, append_assoc, append-nil, length-append, arith}
use Rattle.std.proofs.lemmas.List.{length-take}
use Rattle.std.specs.Prelude.{◌||◌, Err}
use Rattle.relay_tasks.specs.declared.error.Error.{Error}
use Rattle.relay_tasks.specs.declared.error.ErrorSource.TheVariants.{Downstream}
use Rattle.relay_tasks.specs.declared.error.Fail.{Fail}
use Rattle.relay_tasks.specs.declared.error.Fail.TheVariants as fail
use Rattle.relay_tasks.specs.declared.took.Pause.TheVariants.{NotReady, Silent}
use Rattle.relay_tasks.specs.declared.took.Took.{Took}
use Rattle.relay_tasks.specs.declared.took.Took.TheVariants as took
use Rattle.relay_tasks.specs.declared.fault.Fault.{Fault}
use Rattle.relay_tasks.specs.Error.{error_of_fault}
use Rattle.relay_tasks.specs.Head.{RequestHead}
use Rattle.relay_links.specs.Link.{LinkState, EndsRead}
use Rattle.relay_h1.specs.Move.{GrowsBy}
use Rattle.relay_h1.specs.declared.framing.Framing.{Framing}
use Rattle.relay_h1.specs.declared.body_reader.Cut.TheVariants as cut
use Rattle.relay_h1.specs.declared.body_reader.State.{State}
use Rattle.relay_h1.specs.declared.body_reader.State.TheVariants as state
use Rattle.relay_h1.specs.Body.{BodyText, open_text, ended_text, broken_text, behind}
use Rattle.relay_h1.specs.BodyReader.{Reads, Takes, TakesPiece, Answers, IsExact, run, is_done, may_end}
use Rattle.relay_h1.specs.Verdict.{IsOpen, HasRequest, IsRefusedRequest, JudgesRequest, fail_from}
use Rattle.relay_h1.proofs.BodyReaderLemmas.{Takes-append, Takes-nothing, Takes-reads, done_reads}
use Rattle.relay_session.specs.Front.{link_fault, Gave, Comes, ReadsHead, FindsHead, end_of_head, ReadsBody, ReadsPiece, FindsPiece, StaysInBody, EndsInBody}
use Rattle.relay_session.specs.Front as front

-- what a link gave behind the bytes ahead came in this call
pub gave_more : (before after : LinkState) (old new : List ℕ) (n : ℕ)
    → (grows : GrowsBy before after old new n) → Gave before after (take n grows.room)
gave_more before after old new n grows = record {
  room = grows.room;
  sized = grows.sized;
  n = n;
  gives = grows.gives;
  are = refl;
}

-- the error of a fault, on the client's side
pub sided : (fault : Fault) (plain error : Error) → plain ≡ error_of_fault fault
    → error ≡ record plain { esource = Downstream } → error ≡ link_fault fault
sided fault plain error told put = put ∙ ap (λ (e : Error). record e { esource = Downstream }) told

-- ---- heads

-- a head is looked for in the bytes ahead and those that came
pub found_head : (before after : LinkState) (ahead grown left came : List ℕ)
    (answer : Took (RequestHead × Bool))
    → IsOpen ahead → Gave before after came → grown ≡ ahead ++ came → FindsHead grown left answer
    → ReadsHead before after ahead left answer
found_head before after ahead grown left came (took.Item item) open_head gave is found = record {
  came = came;
  comes = front.Comes.one_read came open_head gave;
  framing = found.framing;
  len = found.len;
  has = subst (λ (xs : List ℕ). HasRequest xs item.0 found.framing found.len) is found.has;
  is_end = found.is_end;
  rest = found.rest ∙ ap (λ (xs : List ℕ). drop found.len xs) is;
}
found_head before after ahead grown left came took.More open_head gave is found = record {
  was_open = open_head;
  came = came;
  gave = gave;
  grown = found.1 ∙ is;
  still_open = subst (λ (xs : List ℕ). IsOpen xs) (sym found.1) found.0;
}
found_head before after ahead grown left came (took.Waited pause) open_head gave is found =
    absurd found
found_head before after ahead grown left came took.End open_head gave is found = absurd found
found_head before after ahead grown left came (took.Failed fail.OutOfMemory) open_head gave is
    found =
    record {
      came = came;
      comes = front.Comes.one_read came open_head gave;
      grown = found ∙ is;
    }
found_head before after ahead grown left came (took.Failed (fail.Error error)) open_head gave is
    found =
    front.RefusesHead.is_refused came found.0 (front.Comes.one_read came open_head gave)
    (found.3 ∙ is) (subst (λ (xs : List ℕ). IsRefusedRequest xs found.0) is found.2) found.1

-- a head that stood ahead
pub stood_ahead : (before after : LinkState) (ahead left : List ℕ) (head : RequestHead)
    (framing : Framing) (len : ℕ) (ends : Bool)
    → after ≡ before → HasRequest ahead head framing len → ends ≡ front.ends_with_head framing
    → left ≡ drop len ahead → front.GivesHead before after ahead left head ends
stood_ahead before after ahead left head framing len ends same has is_end rest = record {
  came = [];
  comes = front.Comes.unasked same;
  framing = framing;
  len = len;
  has = rw append-nil has;
  is_end = is_end;
  rest = rw append-nil rest;
}

-- a head that cannot be had out of the bytes ahead
pub refused_ahead : (before after : LinkState) (ahead left : List ℕ) (failure : Fail)
    → after ≡ before → left ≡ ahead → JudgesRequest ahead (Err failure)
    → ReadsHead before after ahead left (took.Failed failure)
refused_ahead before after ahead left fail.OutOfMemory same kept verdict = record {
  came = [];
  comes = front.Comes.unasked same;
  grown = kept ∙ sym (append-nil ahead);
}
refused_ahead before after ahead left (fail.Error error) same kept verdict =
    front.RefusesHead.is_refused [] verdict.0 (front.Comes.unasked same)
    (kept ∙ sym (append-nil ahead)) (rw append-nil verdict.2) verdict.1

-- the verdict on the bytes ahead, where it is no head
pub fails_to_find : (ahead left : List ℕ) (failure : Fail) → left ≡ ahead
    → JudgesRequest ahead (Err failure) → FindsHead ahead left (took.Failed failure)
fails_to_find ahead left fail.OutOfMemory kept verdict = kept
fails_to_find ahead left (fail.Error error) kept verdict =
    (verdict.0, verdict.1, verdict.2, kept)

-- the client ended behind these bytes of a head
pub ended_head : (before after : LinkState) (ahead left : List ℕ)
    → IsOpen ahead → EndsRead before after → left ≡ ahead
    → ReadsHead before after ahead left (end_of_head ahead)
ended_head before after [] left open_head ends kept = (refl, ends, kept)
ended_head before after (b ∷ ahead) left open_head ends kept =
    front.RefusesHead.ends_inside open_head (omega (arith, length-append (b ∷ []) ahead)) ends kept
    refl

-- ---- bodies

-- more bytes came behind those that were left
Takes-more : (old new : State) (ahead piece rest came : List ℕ) → Takes old ahead piece new rest
    → Takes old (ahead ++ came) piece new (rest ++ came)
Takes-more old new ahead piece rest came takes = record {
  taken = takes.taken;
  split = ap (λ (xs : List ℕ). xs ++ came) takes.split ∙ append_assoc takes.taken rest came;
  over = takes.over;
}

-- a piece is looked for in the bytes ahead and those that came
pub found_piece : (still_open : Type 0) (before after : LinkState) (old new : State)
    (ahead grown left came : List ℕ) (answer : Took (List ℕ × Bool))
    → still_open → Gave before after came → grown ≡ ahead ++ came
    → FindsPiece old new grown left answer
    → ReadsBody still_open before after old new ahead left answer
found_piece still_open before after old new ahead grown left came (took.Item item) was gave is
    found =
    record {
      came = came;
      comes = front.Comes.one_read came was gave;
      takes = subst (λ (xs : List ℕ). Takes old xs item.0 new left) is found.0;
      longest = subst (λ (xs : List ℕ). TakesPiece old xs item.0 item.1 new left) is found.1;
    }
found_piece still_open before after old new ahead grown left came took.More was gave is found =
    record {
      was_open = was;
      came = came;
      gave = gave;
      takes = subst (λ (xs : List ℕ). Takes old xs [] new left) is found.0;
      says = subst (λ (xs : List ℕ). Reads old xs (open_text [])) is found.1;
    }
found_piece still_open before after old new ahead grown left came (took.Waited pause) was gave is
    found =
    absurd found
found_piece still_open before after old new ahead grown left came took.End was gave is found =
    front.EndsBody.is_whole came found.0 (front.Comes.one_read came was gave)
    (subst (λ (xs : List ℕ). Takes old xs [] new left) is found.1)
    (subst (λ (xs : List ℕ). Reads old xs (ended_text [] found.0)) is found.2)
    (found.3 ∙ ap (λ (xs : List ℕ). length xs) is) found.4
found_piece still_open before after old new ahead grown left came (took.Failed fail.OutOfMemory)
    was gave is found =
    record {
      came = came;
      comes = front.Comes.one_read came was gave;
      takes = subst (λ (xs : List ℕ). Takes old xs [] new left) is found.0;
      inside = found.1;
    }
found_piece still_open before after old new ahead grown left came (took.Failed (fail.Error error))
    was gave is found =
    front.RefusesBody.is_broken came (front.Comes.one_read came was gave)
    (subst (λ (xs : List ℕ). Takes old xs [] new left) is found.1)
    (subst (λ (xs : List ℕ). Reads old xs broken_text) is found.2) found.0

-- a piece that stood ahead
pub piece_ahead : (still_open : Type 0) (before after : LinkState) (old new : State)
    (ahead left piece : List ℕ) (ends : Bool)
    → after ≡ before → Takes old ahead piece new left → TakesPiece old ahead piece ends new left
    → front.GivesPiece still_open before after old new ahead left piece ends
piece_ahead still_open before after old new ahead left piece ends same takes longest = record {
  came = [];
  comes = front.Comes.unasked same;
  takes = rw append-nil takes;
  longest = rw append-nil longest;
}

-- a body whose end stood ahead
pub end_ahead : (still_open : Type 0) (before after : LinkState) (old new : State)
    (ahead left : List ℕ)
    → after ≡ before → Takes old ahead [] new left → Answers old ahead new left cut.End
    → front.EndsBody still_open before after old new ahead left
end_ahead still_open before after old new ahead left same takes answers =
    front.EndsBody.is_whole [] answers.0 (front.Comes.unasked same) (rw append-nil takes)
    (rw append-nil answers.1) (rw append-nil answers.2) answers.3

-- where bytes of the body stand at the front, it has not ended
run_inside : (at : State) (bytes : List ℕ) → 0 < length (run at bytes) → is_done at ≡ false
run_inside state.ChunkLine bytes some = refl
run_inside (state.Chunk left) bytes some = refl
run_inside state.ChunkEnd bytes some = refl
run_inside state.Trailer bytes some = refl
run_inside (state.Length left) bytes some = grind (arith, some, length-take left bytes)
run_inside state.UntilClose bytes some = refl
run_inside state.Tunnel bytes some = refl
run_inside state.Done bytes some = absurd (omega (arith, some))

-- what the bytes ahead say of the body, where no piece of it can be had
pub fails_to_cut : (old new : State) (ahead left : List ℕ) (failure : Fail)
    → Takes old ahead [] new left → Answers old ahead new left (cut.Failed failure)
    → FindsPiece old new ahead left (took.Failed (fail_from failure Downstream))
fails_to_cut old new ahead left fail.OutOfMemory takes answers =
    (takes, run_inside new left answers)
fails_to_cut old new ahead left (fail.Error error) takes answers =
    (ap (λ (e : Error). record e { esource = Downstream }) answers.0, takes, answers.1)

-- a body that is broken ahead, or a piece for which memory is wanted
pub failed_ahead : (still_open : Type 0) (before after : LinkState) (old new : State)
    (ahead left : List ℕ) (failure : Fail)
    → after ≡ before → Takes old ahead [] new left → Answers old ahead new left (cut.Failed failure)
    → ReadsBody still_open before after old new ahead left
    (took.Failed (fail_from failure Downstream))
failed_ahead still_open before after old new ahead left fail.OutOfMemory same takes answers =
    record {
      came = [];
      comes = front.Comes.unasked same;
      takes = rw append-nil takes;
      inside = run_inside new left answers;
    }
failed_ahead still_open before after old new ahead left (fail.Error error) same takes answers =
    front.RefusesBody.is_broken [] (front.Comes.unasked same) (rw append-nil takes)
    (rw append-nil answers.1) (ap (λ (e : Error). record e { esource = Downstream }) answers.0)

-- nothing moves in a body
pub stays_there : (old : State) (ahead left : List ℕ) → left ≡ ahead
    → StaysInBody (Unit {0}) old old ahead left
stays_there old ahead left kept = record {
  was_open = tt;
  takes = subst (λ (xs : List ℕ). Takes old ahead [] old xs) (sym kept) (Takes-nothing old ahead);
}

-- whether a body that has not ended may end with its stream
may_end-open : (may done value : Bool) → done ≡ false → may || done ≡ value → may ≡ value
may_end-open true done value open_still is = is
may_end-open false done value open_still is = sym open_still ∙ is

-- the client ended in a body that has not
pub ended_body : (before after : LinkState) (old new : State) (ahead left : List ℕ)
    (answer : Took (List ℕ × Bool))
    → is_done old ≡ false → EndsRead before after → left ≡ ahead → EndsInBody old new answer
    → ReadsBody (Unit {0}) before after old new ahead left answer
ended_body before after old new ahead left (took.Item item) open_still ends kept is = absurd is
ended_body before after old new ahead left took.More open_still ends kept is = absurd is
ended_body before after old new ahead left (took.Waited pause) open_still ends kept is = absurd is
ended_body before after old new ahead left took.End open_still ends kept is =
    front.EndsBody.client_ended old (stays_there old ahead left kept) ends
    (λ framing of.
    may_end-open (may_end framing) (is_done old) true open_still (is.0 framing of)) is.1
ended_body before after old new ahead left (took.Failed fail.OutOfMemory) open_still ends kept is =
    absurd is
ended_body before after old new ahead left (took.Failed (fail.Error error)) open_still ends kept
    is =
    front.RefusesBody.ends_inside
    (rw is.2 (stays_there old ahead left kept)) ends
    (λ framing of.
    may_end-open (may_end framing) (is_done old) false open_still (is.0 framing of)) is.1

-- ---- the framing in front was passed, and then the link was read

-- the bytes ahead left it open
comes_open : (still_open : Type 0) (before after : LinkState) (came : List ℕ) → still_open
    → Comes (Unit {0}) before after came → Comes still_open before after came
comes_open still_open before after came is (front.Comes.unasked same) = front.Comes.unasked same
comes_open still_open before after came is (front.Comes.one_read _ done gave) =
    front.Comes.one_read came is gave

module _ (before after : LinkState) (old mid new : State) (ahead between left : List ℕ) where
  -- behind the framing, a call goes on
  takes_on : (piece came : List ℕ) → Takes old ahead [] mid between
      → Takes mid (between ++ came) piece new left → Takes old (ahead ++ came) piece new left
  takes_on piece came passed takes =
      Takes-append old mid new (ahead ++ came) (between ++ came) left [] piece
      (Takes-more old mid ahead [] between came passed) takes

  -- what is said behind the framing is said before it
  says_on : (came : List ℕ) (text : BodyText) (passed : Takes old ahead [] mid between)
      → Reads mid (between ++ came) text
      → Reads old (ahead ++ came) (behind (length passed.taken) [] text)
  unfolding Takes-more
  says_on came text passed reads =
      Takes-reads old mid (ahead ++ came) [] (between ++ came) text
      (Takes-more old mid ahead [] between came passed) reads

  -- nothing moved behind the framing
  stays_on : Takes old ahead [] mid between → Reads old ahead (open_text [])
      → StaysInBody (Unit {0}) mid new between left
      → StaysInBody (Reads old ahead (open_text [])) old new ahead left
  stays_on passed open_still stays = record {
    was_open = open_still;
    takes = Takes-append old mid new ahead between left [] [] passed stays.takes;
  }

-- a body whose bytes ahead leave it open has not ended behind their framing
pub open_not_done : (old new : State) (ahead left : List ℕ) → Takes old ahead [] new left
    → IsExact old ahead cut.More → is_done new ≡ false
open_not_done old new ahead left takes exact = by_value (is_done new) refl
  where
    by_value : (done : Bool) → is_done new ≡ done → is_done new ≡ false
    by_value false is = is
    by_value true is =
        let reads =
        Takes-reads old new ahead [] left (ended_text [] 0) takes (done_reads new left is) in
        let wrong = exact.end.1 (length takes.taken + 0, reads) in
        absurd (cc)

-- a call that passed the framing in front, and then read the link
pub passed_on : (before after : LinkState) (old mid new : State) (ahead between left : List ℕ)
    (answer : Took (List ℕ × Bool))
    → Takes old ahead [] mid between → Reads old ahead (open_text [])
    → ReadsBody (Unit {0}) before after mid new between left answer
    → ReadsPiece before after old new ahead left answer
passed_on before after old mid new ahead between left (took.Item item) passed open_still reads =
    record {
      came = reads.came;
      comes = comes_open _ before after reads.came open_still reads.comes;
      takes = takes_on before after old mid new ahead between left item.0 reads.came passed
          reads.takes;
      longest = record {
        at = reads.longest.at;
        behind_framing = reads.longest.behind_framing;
        framing = takes_on before after old mid reads.longest.at ahead between
            reads.longest.behind_framing [] reads.came passed reads.longest.framing;
        longest = reads.longest.longest;
        some = reads.longest.some;
        moved = reads.longest.moved;
        is_end = reads.longest.is_end;
      };
    }
passed_on before after old mid new ahead between left took.More passed open_still reads = record {
  was_open = open_still;
  came = reads.came;
  gave = reads.gave;
  takes = takes_on before after old mid new ahead between left [] reads.came passed reads.takes;
  says = says_on before after old mid new ahead between left reads.came (open_text []) passed
      reads.says;
}
passed_on before after old mid new ahead between left (took.Waited NotReady) passed open_still
    reads =
    (stays_on before after old mid new ahead between left passed open_still reads.0, reads.1)
passed_on before after old mid new ahead between left (took.Waited Silent) passed open_still
    reads =
    (stays_on before after old mid new ahead between left passed open_still reads.0, reads.1)
passed_on before after old mid new ahead between left took.End passed open_still
    (front.EndsBody.is_whole came n comes takes says size done) =
    front.EndsBody.is_whole came (length passed.taken + n)
    (comes_open _ before after came open_still comes)
    (takes_on before after old mid new ahead between left [] came passed takes)
    (says_on before after old mid new ahead between left came (ended_text [] n) passed says)
    (omega (
      arith,
      size,
      ap (λ (xs : List ℕ). length xs) passed.split,
      length-append passed.taken between,
      length-append between came,
      length-append ahead came,
    ))
    done
passed_on before after old mid new ahead between left took.End passed open_still
    (front.EndsBody.client_ended at stays ends may is) =
    front.EndsBody.client_ended at
    (stays_on before after old mid at ahead between left passed open_still stays) ends
    (λ framing of. may framing (passed.over.of_framing framing of)) is
passed_on before after old mid new ahead between left (took.Failed fail.OutOfMemory) passed
    open_still reads =
    record {
      came = reads.came;
      comes = comes_open _ before after reads.came open_still reads.comes;
      takes = takes_on before after old mid new ahead between left [] reads.came passed reads.takes;
      inside = reads.inside;
    }
passed_on before after old mid new ahead between left (took.Failed (fail.Error error)) passed
    open_still (front.RefusesBody.is_broken came comes takes says is) =
    front.RefusesBody.is_broken came (comes_open _ before after came open_still comes)
    (takes_on before after old mid new ahead between left [] came passed takes)
    (says_on before after old mid new ahead between left came broken_text passed says) is
passed_on before after old mid new ahead between left (took.Failed (fail.Error error)) passed
    open_still (front.RefusesBody.ends_inside stays ends may is) =
    front.RefusesBody.ends_inside
    (stays_on before after old mid new ahead between left passed open_still stays) ends
    (λ framing of. may framing (passed.over.of_framing framing of)) is
passed_on before after old mid new ahead between left (took.Failed (fail.Error error)) passed
    open_still (front.RefusesBody.link_failed fault stays fails is) =
    front.RefusesBody.link_failed fault
    (stays_on before after old mid new ahead between left passed open_still stays) fails is
