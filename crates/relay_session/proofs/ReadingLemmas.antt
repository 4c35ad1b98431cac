-- What a call on the client says of the request: all that came since the session began.
use Rattle.std.proofs.Common.{◌≡◌, ℕ, ◌+◌, ◌<◌, Bool, true, false, cond, lit<, lit≤, List, [], ◌∷◌, ◌++◌, length, drop, Option, Some, None, refl, sym, ◌∙◌, ap, subst, append-nil, add-zero, length-append, arith, inl, inr}
use Rattle.std.proofs.lemmas.Bool.{cases_Bool}
use Rattle.std.specs.Prelude.{min, ⊤, IsSome, IsTrue, ◌&&◌, ◌-◌, ◌⊎◌, codes}
use Rattle.std.proofs.lemmas.List.{drop-append-le}
use Rattle.std.proofs.Math.Seq.{drop-append_seam}
use Rattle.relay_tasks.specs.declared.context.Context.{Context}
use Rattle.relay_tasks.specs.declared.error.Error.{Error}
use Rattle.relay_tasks.specs.declared.error.Fail.{Fail}
use Rattle.relay_tasks.specs.declared.error.Fail.TheVariants as fail
use Rattle.relay_tasks.specs.declared.took.Pause.{Pause}
use Rattle.relay_tasks.specs.declared.took.Pause.TheVariants.{NotReady, Silent}
use Rattle.relay_tasks.specs.declared.took.Took.{Took}
use Rattle.relay_tasks.specs.declared.took.Took.TheVariants as took
use Rattle.relay_tasks.specs.Head.{RequestHead}
use Rattle.relay_links.specs.Count.{last_count}
use Rattle.relay_links.specs.Link.{LinkState}
use Rattle.relay_links.specs.Told.{more}
use Rattle.relay_h1.specs.declared.framing.Framing.{Framing}
use Rattle.relay_h1.specs.declared.framing.Framing.TheVariants as framing
use Rattle.relay_h1.specs.declared.body_reader.State.{State}
use Rattle.relay_h1.specs.declared.body_reader.State.TheVariants as state
use Rattle.relay_h1.specs.Body as text
use Rattle.relay_h1.specs.Body.{BodyMark, BodyText, open_text, ended_text, broken_text, broken, behind, of_length, Body}
use Rattle.relay_h1.specs.BodyReader.{Reads, Takes, SoFar, is_of, is_done, may_end}
use Rattle.http_header.specs.FieldValue.{FieldValue}
use Rattle.http_header.specs.HeaderMap.{get_all}
use Rattle.relay_h1.specs.Framing.{is_length, is_chunked, is_http_10, length_said, coding_said, request_table, request_framing}
use Rattle.relay_h1.specs.Verdict.{IsOpen, HasRequest, IsRefusedRequest}
use Rattle.relay_h1.proofs.BodyLemmas.{Body-unique, Chunked-total}
use Rattle.relay_h1.proofs.BodyReaderLemmas.{Takes-nothing, SoFar-first, SoFar-take, SoFar-more, SoFar-reads, done_reads}
use Rattle.relay_h1.proofs.HeadEndLemmas.{head_end-within}
use Rattle.relay_h1.proofs.VerdictLemmas.{HasRequest-append, HasRequest-unique, HasRequest-IsOpen, HasRequest-IsRefusedRequest, IsRefusedRequest-IsOpen}
use Rattle.relay_session.specs.Front as front
use Rattle.relay_session.specs.Front.{Gave, Comes, ReadsHead, ReadsPiece, ReadsBody, Watches}
use Rattle.relay_session.specs.Reading as says
use Rattle.relay_session.specs.Reading.{begun, IsInBody, RequestSoFar, SaysBody, IsWhole, ReadsOn, ReadsRest, TellsBody, piece_of}
use Rattle.relay_session.specs.declared.reading.Reading.{Reading}
use Rattle.relay_session.specs.declared.reading.Reading.TheVariants as reading
use Rattle.relay_session.specs.declared.reading.BegunRequest.{BegunRequest}
use Rattle.relay_session.specs.declared.replay.Replay.{Replay}
use Rattle.relay_session.specs.Replay.{Keeps}

-- ---- what a link gave

-- a list gains nothing by no items
more-nothing : (told : Option (List ℕ)) → told ≡ more told []
more-nothing None = refl
more-nothing (Some xs) = ap Some (sym (append-nil xs))

-- where the link gave nothing, nothing came
pub nothing_came : (before after : LinkState) → after.given ≡ before.given
    → after.given ≡ more before.given []
nothing_came before after same = same ∙ more-nothing before.given

-- the bytes that a link gave are those that came
gave_given : (before after : LinkState) (came : List ℕ) → Gave before after came
    → after.given ≡ more before.given came
gave_given before after came gave =
    gave.gives.given ∙ ap (λ (xs : List ℕ). more before.given xs) (sym gave.are)

-- the bytes that came are those that the link gave
pub comes_given : (still_open : Type 0) (before after : LinkState) (came : List ℕ)
    → Comes still_open before after came → after.given ≡ more before.given came
comes_given still_open before after came (front.Comes.unasked same) =
    nothing_came before after (ap (λ (s : LinkState). s.given) same)
comes_given still_open before after came (front.Comes.one_read _ was gave) =
    gave_given before after came gave

-- ---- the head

-- a request that has no body so far, and nothing came
pub nothing_yet : (given body ahead left : List ℕ) → RequestSoFar given body ahead reading.Head
    → left ≡ ahead → RequestSoFar (given ++ []) body left reading.Head
nothing_yet given body ahead left so_far kept =
    (append-nil given ∙ so_far.0 ∙ sym kept, so_far.1)

-- more came, and the head is still looked for
pub more_of_head : (given body ahead left came : List ℕ)
    → RequestSoFar given body ahead reading.Head
    → left ≡ ahead ++ came → RequestSoFar (given ++ came) body left reading.Head
more_of_head given body ahead left came so_far grown =
    (ap (λ (xs : List ℕ). xs ++ came) so_far.0 ∙ sym grown, so_far.1)

-- the bytes behind a head grow by what comes
behind_head : (given came : List ℕ) (head : RequestHead) (f : Framing) (len : ℕ)
    → HasRequest given head f len → drop len (given ++ came) ≡ drop len given ++ came
behind_head given came head f len has =
    drop-append-le len given came (head_end-within given len has.starts.ends).1

-- no bytes are an open head
open_nothing : IsOpen []
open_nothing = record { no_end = refl; may_end = lit< tt }

-- what is refused is some
refused_some : (given : List ℕ) (why : Context) → IsRefusedRequest given why → ¬ (given ≡ [])
refused_some given why refuses none =
    IsRefusedRequest-IsOpen [] why
    (subst (λ (xs : List ℕ). IsRefusedRequest xs why) none refuses) open_nothing

-- what holds a head is some
has_some : (given : List ℕ) (head : RequestHead) (f : Framing) (len : ℕ)
    → HasRequest given head f len
    → ¬ (given ≡ [])
has_some given head f len has none =
    HasRequest-IsOpen [] head f len
    (subst (λ (xs : List ℕ). HasRequest xs head f len) none has) open_nothing

-- a list of some items is not empty
some_items : (given : List ℕ) → 0 < length given → ¬ (given ≡ [])
some_items [] some none = absurd (omega (arith, some))
some_items (b ∷ given) some none = absurd (cc)

-- while the link has not ended and the head is open, only an open head is told
open_exactly : (after : LinkState) (given : List ℕ) (answer : Took ⊤) → IsOpen given
    → after.ended ≡ false → says.IsExactHead after given answer
open_exactly after given answer open_head not_ended = record {
  item = λ head f len has. absurd (HasRequest-IsOpen given head f len has open_head);
  end = λ none ended. let wrong = sym not_ended ∙ ended in absurd (cc);
  inside = λ _ some ended. let wrong = sym not_ended ∙ ended in absurd (cc);
  refused_there = λ why refuses. absurd (IsRefusedRequest-IsOpen given why refuses open_head);
}

-- where memory is wanted, nothing is claimed
memory_exactly : (after : LinkState) (given : List ℕ)
    → says.IsExactHead after given (took.Failed fail.OutOfMemory)
memory_exactly after given = record {
  item = λ head f len has. inr refl;
  end = λ none ended. inr refl;
  inside = λ open_head some ended. inr refl;
  refused_there = λ why refuses. tt;
}

-- what an answer tells is told wherever it holds
exactly : (before after : LinkState) (given came : List ℕ) (new : Reading) (answer : Took ⊤)
    → says.TellsHead before after given came new answer → says.IsExactHead after given answer
exactly before after given came reading.Head (took.Item done) told = absurd told
exactly before after given came (reading.Body request) (took.Item done) told = record {
  item = λ head f len has. inl refl;
  end = λ none ended. absurd (has_some given request.head request.framing told.0 told.1 none);
  inside = λ open_head some ended.
      absurd (HasRequest-IsOpen given request.head request.framing told.0 told.1 open_head);
  refused_there = λ why refuses.
      absurd
      (HasRequest-IsRefusedRequest given request.head request.framing told.0 why told.1 refuses);
}
exactly before after given came new took.More told =
    open_exactly after given took.More told.0 told.1.gives.ended
exactly before after given came new (took.Waited NotReady) told =
    open_exactly after given (took.Waited NotReady) told.0 told.1.ended
exactly before after given came new (took.Waited Silent) told =
    open_exactly after given (took.Waited Silent) told.0
    (ap (λ (s : LinkState). s.ended) told.1.same ∙ told.1.was_open)
exactly before after given came new took.End told = record {
  item = λ head f len has. absurd (has_some given head f len has told.0);
  end = λ none ended. inl refl;
  inside = λ open_head some ended. absurd (some_items given some told.0);
  refused_there = λ why refuses. absurd (refused_some given why refuses told.0);
}
exactly before after given came new (took.Failed fail.OutOfMemory) told = memory_exactly after given
exactly before after given came new (took.Failed (fail.Error error))
    (says.RefusesRequest.is_refused why refuses is) =
    record {
      item = λ head f len has.
          absurd (HasRequest-IsRefusedRequest given head f len why has refuses);
      end = λ none ended. absurd (refused_some given why refuses none);
      inside = λ open_head some ended.
          absurd (IsRefusedRequest-IsOpen given why refuses open_head);
      refused_there = λ other refuses_too. (why, is);
    }
exactly before after given came new (took.Failed (fail.Error error))
    (says.RefusesRequest.ends_inside open_head some ends is) =
    record {
      item = λ head f len has. absurd (HasRequest-IsOpen given head f len has open_head);
      end = λ none ended. absurd (some_items given some none);
      inside = λ _ some_too ended. inl (ap (λ (e : Error). took.Failed (fail.Error e)) is);
      refused_there = λ why refuses. absurd (IsRefusedRequest-IsOpen given why refuses open_head);
    }
exactly before after given came new (took.Failed (fail.Error error))
    (says.RefusesRequest.link_failed fault open_head fails is) =
    open_exactly after given (took.Failed (fail.Error error)) open_head fails.ended

-- a call that tells goes on
goes_on : (before after : LinkState) (given body left came : List ℕ) (new : Reading)
    (answer : Took ⊤)
    → after.given ≡ more before.given came → RequestSoFar (given ++ came) body left new
    → says.TellsHead before after (given ++ came) came new answer
    → ReadsOn before after given body left reading.Head new answer
goes_on before after given body left came new answer grown keeps told = record {
  came = came;
  grown = grown;
  keeps = keeps;
  tells = λ old. told;
  exact = λ old. exactly before after (given ++ came) came new answer told;
}

-- a head was read
pub head_came : (before after : LinkState) (given body ahead left : List ℕ) (head : RequestHead)
    (ends : Bool) (new : Reading)
    → RequestSoFar given body ahead reading.Head
    → (gives : front.GivesHead before after ahead left head ends)
    → new ≡ reading.Body (begun head gives.framing)
    → ReadsOn before after given body left reading.Head new (took.Item tt)
head_came before after given body ahead left head ends new so_far gives is =
    goes_on before after given body left gives.came new (took.Item tt)
    (comes_given (IsOpen ahead) before after gives.came gives.comes)
    (rw (is, so_far.0, so_far.1) (record {
      head = head;
      len = gives.len;
      has = gives.has;
      so_far = rw (← gives.rest) (SoFar-first gives.framing left);
      counted = refl;
      kept = (refl, lit≤ tt);
    }))
    (rw (is, so_far.0) (gives.len, gives.has))

-- a request whose head was just consumed
pub first_in_body : (given : List ℕ) (head : RequestHead) (f : Framing) (len : ℕ)
    → HasRequest given head f len → IsInBody given [] (drop len given) (begun head f)
first_in_body given head f len has = record {
  head = head;
  len = len;
  has = has;
  so_far = SoFar-first f (drop len given);
  counted = refl;
  kept = (refl, lit≤ tt);
}

-- no head is none
nothing_some : ¬ (IsSome {T = RequestHead} None)
nothing_some some = cc

-- where no head was read, it is still looked for
pub is_head : (old : Reading) (has : Bool) → (IsSome (says.head_of old) → IsTrue has)
    → has ≡ false → old ≡ reading.Head
is_head reading.Head has told none = refl
is_head (reading.Body request) has told none =
    let wrong = sym none ∙ told refl in
    absurd (cc)

-- a head that was read before stays
pub head_stays : (state : LinkState) (given body ahead : List ℕ) (old : Reading)
    → IsSome (says.head_of old) → RequestSoFar given body ahead old
    → ReadsOn state state given body ahead old old (took.Item tt)
head_stays state given body ahead reading.Head some so_far = absurd (nothing_some some)
head_stays state given body ahead (reading.Body request) some so_far = record {
  came = [];
  grown = nothing_came state state refl;
  keeps = rw append-nil so_far;
  tells = λ is. absurd (cc);
  exact = λ is. absurd (cc);
}

-- the bytes given stay open where those ahead are
open_given : (given body ahead : List ℕ) → RequestSoFar given body ahead reading.Head → IsOpen ahead
    → IsOpen (given ++ [])
open_given given body ahead so_far open_head = rw (append-nil, so_far.0) open_head

-- the head is still open, and nothing came
open_still : (before after : LinkState) (given body ahead left : List ℕ) (answer : Took ⊤)
    → RequestSoFar given body ahead reading.Head → left ≡ ahead → after.given ≡ before.given
    → says.TellsHead before after (given ++ []) [] reading.Head answer
    → ReadsOn before after given body left reading.Head reading.Head answer
open_still before after given body ahead left answer so_far kept same told =
    goes_on before after given body left [] reading.Head answer (nothing_came before after same)
    (nothing_yet given body ahead left so_far kept) told

-- more of a head came
pub head_grew : (before after : LinkState) (given body ahead left : List ℕ)
    → RequestSoFar given body ahead reading.Head → front.LeavesHeadOpen before after ahead left
    → ReadsOn before after given body left reading.Head reading.Head took.More
head_grew before after given body ahead left so_far leaves =
    goes_on before after given body left leaves.came reading.Head took.More
    (gave_given before after leaves.came leaves.gave)
    (more_of_head given body ahead left leaves.came so_far leaves.grown)
    (rw (so_far.0, ← leaves.grown) leaves.still_open, leaves.gave)

-- nothing of a head came
pub head_waits : (before after : LinkState) (given body ahead left : List ℕ) (pause : Pause)
    → RequestSoFar given body ahead reading.Head
    → ReadsHead before after ahead left (took.Waited pause)
    → ReadsOn before after given body left reading.Head reading.Head (took.Waited pause)
head_waits before after given body ahead left NotReady so_far reads =
    open_still before after given body ahead left (took.Waited NotReady) so_far reads.2
    reads.1.given
    (open_given given body ahead so_far reads.0, reads.1)
head_waits before after given body ahead left Silent so_far reads =
    open_still before after given body ahead left (took.Waited Silent) so_far reads.2
    (ap (λ (s : LinkState). s.given) reads.1.same)
    (open_given given body ahead so_far reads.0, reads.1)

-- the client ended before its head
pub head_ends : (before after : LinkState) (given body ahead left : List ℕ)
    → RequestSoFar given body ahead reading.Head → ReadsHead before after ahead left took.End
    → ReadsOn before after given body left reading.Head reading.Head took.End
head_ends before after given body ahead left so_far reads =
    open_still before after given body ahead left took.End so_far reads.2 reads.1.given
    (append-nil given ∙ so_far.0 ∙ reads.0, reads.1)

-- no head can be had
pub head_failed : (before after : LinkState) (given body ahead left : List ℕ) (failure : Fail)
    → RequestSoFar given body ahead reading.Head
    → ReadsHead before after ahead left (took.Failed failure)
    → ReadsOn before after given body left reading.Head reading.Head (took.Failed failure)
head_failed before after given body ahead left fail.OutOfMemory so_far reads =
    goes_on before after given body left reads.came reading.Head (took.Failed fail.OutOfMemory)
    (comes_given (IsOpen ahead) before after reads.came reads.comes)
    (more_of_head given body ahead left reads.came so_far reads.grown) tt
head_failed before after given body ahead left (fail.Error error) so_far
    (front.RefusesHead.is_refused came why comes grown refuses is) =
    goes_on before after given body left came reading.Head (took.Failed (fail.Error error))
    (comes_given (IsOpen ahead) before after came comes)
    (more_of_head given body ahead left came so_far grown)
    (says.RefusesRequest.is_refused why (rw so_far.0 refuses) is)
head_failed before after given body ahead left (fail.Error error) so_far
    (front.RefusesHead.ends_inside open_head some ends kept is) =
    open_still before after given body ahead left (took.Failed (fail.Error error)) so_far kept
    ends.given
    (says.RefusesRequest.ends_inside (open_given given body ahead so_far open_head)
    (rw (append-nil, so_far.0) some) ends is)
head_failed before after given body ahead left (fail.Error error) so_far
    (front.RefusesHead.link_failed fault open_head fails kept is) =
    open_still before after given body ahead left (took.Failed (fail.Error error)) so_far kept
    fails.given
    (says.RefusesRequest.link_failed fault (open_given given body ahead so_far open_head) fails is)

-- ---- the body

-- a count up to its last value, and more
counted_up : (body piece : List ℕ) (count : ℕ) → count ≡ min (length body) last_count
    → min (count + length piece) last_count ≡ min (length (body ++ piece)) last_count
counted_up body piece count is = omega (arith, is, length-append body piece)

module _ (given body ahead : List ℕ) (old : BegunRequest)
    (begins : IsInBody given body ahead old) where
  -- more came behind the body so far
  grown_body : (came : List ℕ)
      → SoFar old.framing (drop begins.len (given ++ came)) body old.body (ahead ++ came)
  grown_body came =
      rw (behind_head given came begins.head old.framing begins.len begins.has)
      (SoFar-more old.framing (drop begins.len given) body ahead came old.body begins.so_far)

  -- a piece was taken out of what is ahead and what came
  pub goes_over : (came piece left : List ℕ) (new : State) (count : ℕ) (replay : Replay)
      → Takes old.body (ahead ++ came) piece new left
      → count ≡ min (length (body ++ piece)) last_count → Keeps (body ++ piece) replay
      → IsInBody (given ++ came) (body ++ piece) left
      (record {
        head = old.head;
        framing = old.framing;
        body = new;
        received = count;
        replay = replay;
      })
  goes_over came piece left new count replay takes counted kept = record {
    head = begins.head;
    len = begins.len;
    has = HasRequest-append given came begins.head old.framing begins.len begins.has;
    so_far = SoFar-take old.framing (drop begins.len (given ++ came)) body piece (ahead ++ came)
        left old.body new takes (grown_body came);
    counted = counted;
    kept = kept;
  }

  -- what stands ahead and what came says of the body
  pub says_of_body : (came : List ℕ) (text : BodyText)
      → Reads old.body (ahead ++ came) text
      → (n : ℕ) × SaysBody (given ++ came) (behind n body text)
  says_of_body came text reads = (
    length (drop begins.len (given ++ came)) - length (ahead ++ came),
    record {
      head = begins.head;
      framing = old.framing;
      len = begins.len;
      has = HasRequest-append given came begins.head old.framing begins.len begins.has;
      says = SoFar-reads old.framing (drop begins.len (given ++ came)) body (ahead ++ came) old.body
          text (grown_body came) reads;
    },
  )

  -- a body that has ended is whole
  pub body_whole : is_done old.body ≡ true → IsWhole given body ahead
  body_whole done =
      let told = begins.so_far.says ahead (ended_text [] 0) (done_reads old.body ahead done) in
      record {
        head = begins.head;
        framing = old.framing;
        len = begins.len;
        has = begins.has;
        n = length begins.so_far.consumed;
        says = rw begins.so_far.split (rw (append-nil, add-zero) at told);
        behind_it = rw begins.so_far.split (sym (drop-append_seam begins.so_far.consumed ahead));
      }

-- a framing that no request has
record IsStrange (f : Framing) : Type 0 where
  not_empty : ¬ (framing.Empty ≡ f)
  no_length : (n : ℕ) → ¬ (framing.Length n ≡ f)
  not_chunked : ¬ (framing.Chunked ≡ f)

-- what stands is one thing
same_framing : {f g : Framing} → Some f ≡ Some g → f ≡ g
same_framing same = cc

-- nothing is not something
nothing_framed : {f : Framing} → ¬ (None ≡ Some f)
nothing_framed same = cc

-- the table of requests has no framing but by length, in chunks, or none
table_strange : (old : Bool) (lengths codings : List FieldValue) (f : Framing) → IsStrange f
    → ¬ (request_table old (length_said lengths) (coding_said codings) ≡ Some f)
table_strange old [] [] f strange is = strange.not_empty (same_framing is)
table_strange old [] (c ∷ []) f strange is =
    elim (cases_Bool (is_chunked c.bytes)) [
      | inl on ↦ chunked_strange old (rw on at is)
      | inr off ↦ nothing_framed (rw off at is)
    ]
  where
    chunked_strange : (old : Bool) → ¬ (cond old None (Some framing.Chunked) ≡ Some f)
    chunked_strange true is = nothing_framed is
    chunked_strange false is = strange.not_chunked (same_framing is)
table_strange old [] (c ∷ d ∷ codings) f strange is = nothing_framed is
table_strange old (l ∷ []) [] f strange is =
    elim (cases_Bool (is_length l.bytes)) [
      | inl on ↦ strange.no_length _ (same_framing (rw on at is))
      | inr off ↦ nothing_framed (rw off at is)
    ]
table_strange old (l ∷ []) (c ∷ []) f strange is =
    elim (cases_Bool (is_length l.bytes)) [
      | inl on ↦ elim (cases_Bool (is_chunked c.bytes)) [
        | inl yet ↦ nothing_framed (rw (on, yet) at is)
        | inr not_yet ↦ nothing_framed (rw (on, not_yet) at is)
      ]
      | inr off ↦ elim (cases_Bool (is_chunked c.bytes)) [
        | inl yet ↦ nothing_framed (rw (off, yet) at is)
        | inr not_yet ↦ nothing_framed (rw (off, not_yet) at is)
      ]
    ]
table_strange old (l ∷ []) (c ∷ d ∷ codings) f strange is =
    elim (cases_Bool (is_length l.bytes)) [
      | inl on ↦ nothing_framed (rw on at is)
      | inr off ↦ nothing_framed (rw off at is)
    ]
table_strange old (l ∷ m ∷ lengths) [] f strange is = nothing_framed is
table_strange old (l ∷ m ∷ lengths) (c ∷ []) f strange is =
    elim (cases_Bool (is_chunked c.bytes)) [
      | inl on ↦ nothing_framed (rw on at is)
      | inr off ↦ nothing_framed (rw off at is)
    ]
table_strange old (l ∷ m ∷ lengths) (c ∷ d ∷ codings) f strange is = nothing_framed is

-- a request that lasts until the close is strange
ends_or_strange : (f : Framing) → may_end f ≡ true → (f ≡ framing.Empty) ⊎ IsStrange f
ends_or_strange framing.Empty may = inl refl
ends_or_strange (framing.Length n) may = absurd (cc)
ends_or_strange framing.Chunked may = absurd (cc)
ends_or_strange framing.UntilClose may =
    inr (record { not_empty = λ x. cc; no_length = λ n x. cc; not_chunked = λ x. cc })
ends_or_strange framing.Tunnel may =
    inr (record { not_empty = λ x. cc; no_length = λ n x. cc; not_chunked = λ x. cc })

-- a request whose body may end with its stream has none
request_ends : (head : RequestHead) (f : Framing) → request_framing head ≡ Some f → may_end f ≡ true
    → f ≡ framing.Empty
unfolding request_framing
request_ends head f is may =
    elim (ends_or_strange f may) [
      | inl empty ↦ empty
      | inr strange ↦ absurd (table_strange (is_http_10 head.version)
          (get_all head.fields (codes "content-length"))
          (get_all head.fields (codes "transfer-encoding")) f strange is)
    ]

-- a place in no body is its end
no_place : (at : State) → is_of framing.Empty at ≡ true → is_done at ≡ true
no_place state.ChunkLine of = absurd (cc)
no_place (state.Chunk left) of = absurd (cc)
no_place state.ChunkEnd of = absurd (cc)
no_place state.Trailer of = absurd (cc)
no_place (state.Length left) of = absurd (cc)
no_place state.UntilClose of = absurd (cc)
no_place state.Tunnel of = absurd (cc)
no_place state.Done of = refl

-- where a body has ended, it is not open
done_or_open : (at : State) (bytes : List ℕ) → is_done at ≡ true → ¬ (Reads at bytes (open_text []))
done_or_open state.ChunkLine bytes done reads = absurd (cc)
done_or_open (state.Chunk left) bytes done reads = absurd (cc)
done_or_open state.ChunkEnd bytes done reads = absurd (cc)
done_or_open state.Trailer bytes done reads = absurd (cc)
done_or_open (state.Length left) bytes done reads =
    let there : ended_text [] 0 ≡ of_length left bytes =
    done_reads (state.Length left) bytes done in
    let here : open_text [] ≡ of_length left bytes = reads in
    let mark = ap (λ (t : BodyText). t.mark) (here ∙ sym there) in
    absurd (cc)
done_or_open state.UntilClose bytes done reads = absurd (cc)
done_or_open state.Tunnel bytes done reads = absurd (cc)
done_or_open state.Done bytes done reads =
    let here : open_text [] ≡ ended_text [] 0 = reads in
    let mark = ap (λ (t : BodyText). t.mark) here in
    absurd (cc)

-- the end of a client never ends a request's body
never_by_close : (given body ahead : List ℕ) (old : BegunRequest) → IsInBody given body ahead old
    → Reads old.body ahead (open_text [])
    → ¬ ((f : Framing) → is_of f old.body ≡ true → may_end f ≡ true)
never_by_close given body ahead old begins reads may =
    let f = old.framing in
    let empty = request_ends begins.head f begins.has.framed
    (may f begins.so_far.of_framing) in
    let done = no_place old.body
    (subst (λ (g : Framing). is_of g old.body ≡ true) empty begins.so_far.of_framing) in
    done_or_open old.body ahead done reads

-- an answer without its mark
abbrev pub plain : Took (List ℕ × Bool) → Took (List ℕ)
plain (took.Item item) = took.Item item.0
plain took.More = took.More
plain (took.Waited pause) = took.Waited pause
plain took.End = took.End
plain (took.Failed failure) = took.Failed failure

-- the count behind an answer
abbrev pub count_after : Took (List ℕ × Bool) → ℕ → ℕ
count_after (took.Item item) count = min (count + length item.0) last_count
count_after took.More count = count
count_after (took.Waited pause) count = count
count_after took.End count = count
count_after (took.Failed failure) count = count

-- what is kept behind an answer: a piece changes it
abbrev pub kept_after : Took (List ℕ × Bool) → Replay → Replay → Replay
kept_after (took.Item item) old new = new
kept_after took.More old new = old
kept_after (took.Waited pause) old new = old
kept_after took.End old new = old
kept_after (took.Failed failure) old new = old

-- a piece is kept
abbrev pub KeepsPiece : List ℕ → Took (List ℕ × Bool) → Replay → Type 0
KeepsPiece body (took.Item item) new = Keeps (body ++ item.0) new
KeepsPiece body took.More new = Unit {0}
KeepsPiece body (took.Waited pause) new = Unit {0}
KeepsPiece body took.End new = Unit {0}
KeepsPiece body (took.Failed failure) new = Unit {0}

-- the request behind an answer
abbrev pub moved : BegunRequest → State → Replay → Took (List ℕ × Bool) → Reading
moved old new replay answer = reading.Body (record {
  head = old.head;
  framing = old.framing;
  body = new;
  received = count_after answer old.received;
  replay = kept_after answer old.replay replay;
})

-- ---- what the answer of a call for the body tells is told wherever it holds

-- all bytes given say one text of the body
SaysBody-unique : (given : List ℕ) (a b : BodyText) → SaysBody given a → SaysBody given b → a ≡ b
SaysBody-unique given a b x y =
    let same = HasRequest-unique given x.head y.head x.framing y.framing x.len y.len x.has y.has in
    let framed = subst (λ (f : Framing). Body f (drop x.len given) a) same.1 x.says in
    let there = subst (λ (n : ℕ). Body y.framing (drop n given) a) same.2 framed in
    Body-unique y.framing (drop y.len given) a b there y.says

-- from each place some text is told
reads_some : (at : State) (bytes : List ℕ) → (text : BodyText) × Reads at bytes text
reads_some state.ChunkLine bytes = Chunked-total text.ChunkedPlace.at_line bytes
reads_some (state.Chunk left) bytes = Chunked-total (text.ChunkedPlace.in_chunk left) bytes
reads_some state.ChunkEnd bytes = Chunked-total text.ChunkedPlace.behind_chunk bytes
reads_some state.Trailer bytes = Chunked-total text.ChunkedPlace.in_trailer bytes
reads_some (state.Length left) bytes = (_, refl)
reads_some state.UntilClose bytes = (_, refl)
reads_some state.Tunnel bytes = (_, refl)
reads_some state.Done bytes = (_, refl)

-- where a piece was given out, all bytes given say more than what came before it
longer_body : (given body piece left : List ℕ) (new : BegunRequest)
    → IsInBody given (body ++ piece) left new → 0 < length piece → (said : BodyText)
    → SaysBody given said → length body < length said.bytes
longer_body given body piece left new begins some said says_so =
    let told = reads_some new.body left in
    let whole = begins.so_far.says left told.0 told.1 in
    let all : SaysBody given
    (behind (length begins.so_far.consumed) (body ++ piece) told.0) = record {
      head = begins.head;
      framing = new.framing;
      len = begins.len;
      has = begins.has;
      says = rw begins.so_far.split whole;
    } in
    let same = ap (λ (t : BodyText). length t.bytes) (SaysBody-unique given said _ says_so all) in
    omega (
      arith,
      same,
      some,
      length-append (body ++ piece) told.0.bytes,
      length-append body piece,
    )

-- a text of the body that has no more bytes and this mark
module _ (given body : List ℕ) (mark : BodyMark)
    (known : SaysBody given (record { bytes = body; mark = mark })) where
  -- no text has more bytes
  no_longer : (said : BodyText) → SaysBody given said → ¬ (length body < length said.bytes)
  no_longer said says_so longer =
      let same =
      ap (λ (t : BodyText). length t.bytes) (SaysBody-unique given said _ says_so known) in
      omega (arith, same, longer)

  -- each text has this mark
  one_mark : (said : BodyText) → SaysBody given said → said.mark ≡ mark
  one_mark said says_so =
      ap (λ (t : BodyText). t.mark) (SaysBody-unique given said _ says_so known)

-- a body that is open on a link that has not ended
open_body_exactly : (after : LinkState) (given body : List ℕ) (answer : Took (List ℕ))
    → SaysBody given (open_text body) → after.ended ≡ false
    → says.IsExactBody after given body answer
open_body_exactly after given body answer known not_ended = record {
  piece = λ said says_so longer.
      absurd (no_longer given body text.BodyMark.still_open known said says_so longer);
  end = λ n says_so.
      let wrong = one_mark given body text.BodyMark.still_open known _ says_so in absurd (cc);
  broken_there = λ says_so.
      let wrong = one_mark given body text.BodyMark.still_open known _ says_so in absurd (cc);
  inside = λ says_so ended. let wrong = sym not_ended ∙ ended in absurd (cc);
}

-- the answer is the one that the text and the link ask for
exactly_body : (before after : LinkState) (given came body left : List ℕ) (new : BegunRequest)
    (answer : Took (List ℕ))
    → IsInBody given (body ++ piece_of answer) left new
    → TellsBody before after given came (body ++ piece_of answer) left (reading.Body new) answer
    → says.IsExactBody after given body answer
exactly_body before after given came body left new (took.Item piece) begins told = record {
  piece = λ said says_so longer. tt;
  end = λ n says_so.
      absurd (omega (arith, longer_body given body piece left new begins told.0 _ says_so));
  broken_there = λ says_so.
      absurd (omega (arith, longer_body given body piece left new begins told.0 _ says_so));
  inside = λ says_so ended.
      absurd (omega (arith, longer_body given body piece left new begins told.0 _ says_so));
}
exactly_body before after given came body left new took.More begins told =
    open_body_exactly after given body took.More (rw append-nil at told.0) told.1.gives.ended
exactly_body before after given came body left new (took.Waited NotReady) begins told =
    open_body_exactly after given body (took.Waited NotReady) (rw append-nil at told.0)
    told.1.ended
exactly_body before after given came body left new (took.Waited Silent) begins told =
    open_body_exactly after given body (took.Waited Silent) (rw append-nil at told.0)
    (ap (λ (s : LinkState). s.ended) told.1.same ∙ told.1.was_open)
exactly_body before after given came body left new took.End begins told =
    let known : SaysBody given (ended_text body told.n) = record {
      head = told.head;
      framing = told.framing;
      len = told.len;
      has = told.has;
      says = rw append-nil at told.says;
    } in
    record {
      piece = λ said says_so longer.
          absurd (no_longer given body (text.BodyMark.ended told.n) known said says_so longer);
      end = λ n says_so. inl refl;
      broken_there = λ says_so.
          let wrong = one_mark given body (text.BodyMark.ended told.n) known _ says_so in
          absurd (cc);
      inside = λ says_so ended.
          let wrong = one_mark given body (text.BodyMark.ended told.n) known _ says_so in
          absurd (cc);
    }
exactly_body before after given came body left new (took.Failed fail.OutOfMemory) begins told =
    record {
      piece = λ said says_so longer. tt;
      end = λ n says_so. inr refl;
      broken_there = λ says_so. inr refl;
      inside = λ says_so ended. inr refl;
    }
exactly_body before after given came body left new (took.Failed (fail.Error error)) begins
    (says.RefusesRest.is_broken says_broken is) =
    let known : SaysBody given (record { bytes = body; mark = broken }) =
    rw append-nil at says_broken in
    record {
      piece = λ said says_so longer.
          absurd (no_longer given body broken known said says_so longer);
      end = λ n says_so. let wrong = one_mark given body broken known _ says_so in absurd (cc);
      broken_there = λ says_so. inl (ap (λ (e : Error). took.Failed (fail.Error e)) is);
      inside = λ says_so ended.
          let wrong = one_mark given body broken known _ says_so in absurd (cc);
    }
exactly_body before after given came body left new (took.Failed (fail.Error error)) begins
    (says.RefusesRest.ends_inside says_open ends is) =
    let known : SaysBody given (open_text body) = rw append-nil at says_open in
    record {
      piece = λ said says_so longer.
          absurd (no_longer given body text.BodyMark.still_open known said says_so longer);
      end = λ n says_so.
          let wrong = one_mark given body text.BodyMark.still_open known _ says_so in absurd (cc);
      broken_there = λ says_so.
          let wrong = one_mark given body text.BodyMark.still_open known _ says_so in absurd (cc);
      inside = λ says_so ended. inl (ap (λ (e : Error). took.Failed (fail.Error e)) is);
    }
exactly_body before after given came body left new (took.Failed (fail.Error error)) begins
    (says.RefusesRest.link_failed fault says_open fails is) =
    open_body_exactly after given body (took.Failed (fail.Error error)) (rw append-nil at says_open)
    fails.ended

-- a call that tells goes on
rest_goes : (before after : LinkState) (given came body ahead left : List ℕ) (new : BegunRequest)
    (answer : Took (List ℕ))
    → after.given ≡ more before.given came
    → IsInBody (given ++ came) (body ++ piece_of answer) left new
    → TellsBody before after (given ++ came) came (body ++ piece_of answer) left (reading.Body new)
    answer
    → ReadsRest before after given body ahead left false (reading.Body new) answer
rest_goes before after given came body ahead left new answer grown keeps told = record {
  came = came;
  grown = grown;
  keeps = keeps;
  tells = λ mode. told;
  exact = λ mode. exactly_body before after (given ++ came) came body left new answer keeps told;
  watches = λ mode. absurd (cc);
}

-- a count that stays
counted_still : (body : List ℕ) (count : ℕ) → count ≡ min (length body) last_count
    → count ≡ min (length (body ++ [])) last_count
counted_still body count is = rw append-nil is

module _
    (before after : LinkState) (given body ahead left : List ℕ) (old : BegunRequest) (new : State)
    (begins : IsInBody given body ahead old) where
  -- no byte of the body came
  no_piece : (came : List ℕ) → Takes old.body (ahead ++ came) [] new left
      → IsInBody (given ++ came) (body ++ []) left (record old { body = new })
  no_piece came takes =
      goes_over given body ahead old begins came [] left new old.received old.replay takes
      (counted_still body old.received begins.counted)
      (subst (λ (xs : List ℕ). Keeps xs old.replay) (sym (append-nil body)) begins.kept)

  -- nothing came
  stays_in : (still_open : Type 0) → front.StaysInBody still_open old.body new ahead left
      → IsInBody (given ++ []) (body ++ []) left (record old { body = new })
  stays_in still_open stays = no_piece [] (rw append-nil stays.takes)

  -- what all bytes given say, where nothing came
  says_still : (text : BodyText) → Reads old.body ahead text
      → (n : ℕ) × SaysBody (given ++ []) (behind n body text)
  says_still text reads = says_of_body given body ahead old begins [] text (rw append-nil reads)

  -- a call for more of the body
  pub body_on : (replay : Replay) (answer : Took (List ℕ × Bool))
      → ReadsPiece before after old.body new ahead left answer → KeepsPiece body answer replay
      → ReadsRest before after given body ahead left false (moved old new replay answer)
      (plain answer)
  body_on replay (took.Item item) gives kept =
      let goes = goes_over given body ahead old begins gives.came item.0 left new
      (min (old.received + length item.0) last_count) replay gives.takes
      (counted_up body item.0 old.received begins.counted) kept in
      rest_goes before after given gives.came body ahead left _ (took.Item item.0)
      (comes_given _ before after gives.came gives.comes) goes
      (gives.longest.some, body_whole (given ++ gives.came) (body ++ item.0) left _ goes)
  body_on replay took.More leaves is_kept =
      rest_goes before after given leaves.came body ahead left _ took.More
      (gave_given before after leaves.came leaves.gave) (no_piece leaves.came leaves.takes) (
        (says_of_body given body ahead old begins leaves.came (open_text []) leaves.says).1,
        leaves.gave,
      )
  body_on replay (took.Waited NotReady) stays is_kept =
      rest_goes before after given [] body ahead left _ (took.Waited NotReady)
      (nothing_came before after stays.1.given) (stays_in _ stays.0)
      ((says_still (open_text []) stays.0.was_open).1, stays.1)
  body_on replay (took.Waited Silent) stays is_kept =
      rest_goes before after given [] body ahead left _ (took.Waited Silent)
      (nothing_came before after (ap (λ (s : LinkState). s.given) stays.1.same))
      (stays_in _ stays.0) ((says_still (open_text []) stays.0.was_open).1, stays.1)
  body_on replay took.End (front.EndsBody.is_whole came n comes takes reads size done) is_kept =
      let goes = no_piece came takes in
      rest_goes before after given came body ahead left _ took.End
      (comes_given _ before after came comes) goes
      (body_whole (given ++ came) (body ++ []) left _ goes done)
  body_on replay took.End (front.EndsBody.client_ended at stays ends may is) is_kept =
      absurd (never_by_close given body ahead old begins stays.was_open may)
  body_on replay (took.Failed fail.OutOfMemory) kept is_kept =
      rest_goes before after given kept.came body ahead left _ (took.Failed fail.OutOfMemory)
      (comes_given _ before after kept.came kept.comes) (no_piece kept.came kept.takes)
      kept.inside
  body_on replay (took.Failed (fail.Error error))
      (front.RefusesBody.is_broken came comes takes reads is) is_kept =
      rest_goes before after given came body ahead left _ (took.Failed (fail.Error error))
      (comes_given _ before after came comes) (no_piece came takes)
      (says.RefusesRest.is_broken
      (says_of_body given body ahead old begins came broken_text reads).1 is)
  body_on replay (took.Failed (fail.Error error))
      (front.RefusesBody.ends_inside stays ends may is) is_kept =
      rest_goes before after given [] body ahead left _ (took.Failed (fail.Error error))
      (nothing_came before after ends.given) (stays_in _ stays)
      (says.RefusesRest.ends_inside (says_still (open_text []) stays.was_open).1 ends is)
  body_on replay (took.Failed (fail.Error error))
      (front.RefusesBody.link_failed fault stays fails is) is_kept =
      rest_goes before after given [] body ahead left _ (took.Failed (fail.Error error))
      (nothing_came before after fails.given) (stays_in _ stays)
      (says.RefusesRest.link_failed fault (says_still (open_text []) stays.was_open).1 fails is)

module _
    (before after : LinkState) (given body ahead left : List ℕ) (old : BegunRequest)
    (begins : IsInBody given body ahead old) (done : is_done old.body ≡ true) where
  -- what came stays ahead, behind a request that is whole
  whole_still : (came : List ℕ) (answer : Took (List ℕ)) → left ≡ ahead ++ came
      → after.given ≡ more before.given came → piece_of answer ≡ []
      → Watches before after ahead left answer
      → ReadsRest before after given body ahead left true (reading.Body old) answer
  whole_still came answer kept grown none watches =
      let goes = no_piece before after given body ahead left old old.body begins came
      (subst (λ (xs : List ℕ). Takes old.body (ahead ++ came) [] old.body xs) (sym kept)
      (Takes-nothing old.body (ahead ++ came))) in
      record {
        came = came;
        grown = grown;
        keeps = rw none goes;
        tells = λ mode. absurd (cc);
        exact = λ mode. absurd (cc);
        watches = λ mode.
            (rw append-nil at (body_whole (given ++ came) (body ++ []) left _ goes done), watches);
      }

  -- nothing came, and nothing moved
  all_still : (answer : Took (List ℕ)) → left ≡ ahead → after.given ≡ before.given
      → piece_of answer ≡ [] → Watches before after ahead left answer
      → ReadsRest before after given body ahead left true (reading.Body old) answer
  all_still answer kept same none watches =
      whole_still [] answer (kept ∙ sym (append-nil ahead)) (nothing_came before after same) none
      watches

  -- one look at a client whose request has ended
  pub still_on : (replay : Replay) (answer : Took (List ℕ × Bool))
      → Watches before after ahead left answer
      → ReadsRest before after given body ahead left true (moved old old.body replay answer)
      (plain answer)
  still_on replay (took.Item item) watches = absurd watches
  still_on replay took.More watches = absurd watches
  still_on replay (took.Waited NotReady) watches =
      all_still (took.Waited NotReady) watches.2 watches.1.given refl watches
  still_on replay (took.Waited Silent) watches =
      all_still (took.Waited Silent) watches.2 (ap (λ (s : LinkState). s.given) watches.1.same) refl
      watches
  still_on replay took.End watches = absurd watches
  still_on replay (took.Failed fail.OutOfMemory) watches =
      all_still (took.Failed fail.OutOfMemory) watches.2 (ap (λ (s : LinkState). s.given) watches.1)
      refl watches
  still_on replay (took.Failed (fail.Error error)) (front.Stirs.had_sent some same kept is) =
      all_still (took.Failed (fail.Error error)) kept (ap (λ (s : LinkState). s.given) same) refl
      (front.Stirs.had_sent some same kept is)
  still_on replay (took.Failed (fail.Error error)) (front.Stirs.sends came none gave kept is) =
      whole_still came (took.Failed (fail.Error error))
      (kept ∙ ap (λ (xs : List ℕ). xs ++ came) (sym none)) (gave_given before after came gave) refl
      (front.Stirs.sends came none gave kept is)
  still_on replay (took.Failed (fail.Error error)) (front.Stirs.ends none ends kept is) =
      all_still (took.Failed (fail.Error error)) kept ends.given refl
      (front.Stirs.ends none ends kept is)
  still_on replay (took.Failed (fail.Error error)) (front.Stirs.link_failed fault none fails kept is) =
      all_still (took.Failed (fail.Error error)) kept fails.given refl
      (front.Stirs.link_failed fault none fails kept is)

-- a call in either mode
pub rest_on : (before after : LinkState) (given body ahead left : List ℕ) (old : BegunRequest)
    (new : State) (replay : Replay) (answer : Took (List ℕ × Bool)) (idle : Bool)
    → (idle && is_done old.body ≡ false → ReadsPiece before after old.body new ahead left answer)
    → (idle && is_done old.body ≡ true → Watches before after ahead left answer)
    → (idle && is_done old.body ≡ true → new ≡ old.body)
    → (Keeps body old.replay → KeepsPiece body answer replay) → IsInBody given body ahead old
    → ReadsRest before after given body ahead left (idle && is_done old.body)
    (moved old new replay answer) (plain answer)
rest_on before after given body ahead left old new replay answer idle reads watches stays keeps
    begins =
    elim (cases_Bool (idle && is_done old.body)) [
      | inl still ↦
          rw (still, stays still)
          (still_on before after given body ahead left old begins
          (both_true idle (is_done old.body) still)
          replay answer (watches still))
      | inr open_mode ↦
          rw open_mode
          (body_on before after given body ahead left old new begins replay answer
          (reads open_mode) (keeps begins.kept))
    ]
  where
    both_true : (a b : Bool) → a && b ≡ true → b ≡ true
    both_true true b is = is
    both_true false b is = absurd (cc)
