-- The bytes of a link say one response, and so each answer comes exactly where they say so.
use Rattle.std.proofs.Common.{◌≡◌, ℕ, ◌+◌, ◌-◌, ◌<◌, Bool, true, false, List, [], ◌∷◌, ◌++◌, length, drop, refl, sym, ap, subst, ◌∙◌, arith, inl, inr, length-append, if◌then◌else◌, Option, Some, None}
use Rattle.relay_tasks.specs.Head.{ResponseHead}
use Rattle.relay_tasks.specs.declared.error.Error.{Error}
use Rattle.relay_tasks.specs.declared.error.Fail.TheVariants as fail
use Rattle.relay_tasks.specs.declared.fault.Fault.{Fault}
use Rattle.relay_tasks.specs.declared.task.HttpTask.{HttpTask}
use Rattle.relay_tasks.specs.declared.task.HttpTask.TheVariants as task
use Rattle.relay_tasks.specs.declared.took.Pause.{Pause}
use Rattle.relay_tasks.specs.declared.took.Pause.TheVariants as pause
use Rattle.relay_tasks.specs.declared.took.Took.{Took}
use Rattle.relay_tasks.specs.declared.took.Took.TheVariants as took
use Rattle.relay_links.specs.Link.{LinkState}
use Rattle.relay_links.specs.declared.link.Got.{Got}
use Rattle.relay_links.specs.declared.link.Got.TheVariants as got
use Rattle.relay_h1.specs.declared.framing.Framing.{Framing}
use Rattle.relay_h1.specs.Body.{BodyText, Body, behind}
use Rattle.relay_h1.specs.Body as body
use Rattle.relay_h1.specs.BodyReader.{Reads}
use Rattle.relay_h1.specs.declared.body_reader.State.{State}
use Rattle.relay_h1.specs.declared.body_reader.State.TheVariants as state
use Rattle.relay_h1.specs.ClientHead.{is_informational}
use Rattle.relay_h1.specs.Tasks.{Informs, Tasks, ResponseText, ResponseMark, still_open, ended, broken, cut_off, mark_of, open_mark, HasFinal, IsOpenBehind, IsRefusedBehind}
use Rattle.relay_h1.specs.Tasks as tasks
use Rattle.relay_h1.proofs.BodyLemmas.{Body-unique, Chunked-total}
use Rattle.relay_h1.proofs.BodyReaderLemmas.{SoFar-reads}
use Rattle.relay_h1.proofs.TasksLemmas.{Informs-unique, Informs-front, Stops-open, Stops-refused, Stops-final, SameFinal, HasFinal-unique, HasFinal-IsOpenBehind, HasFinal-IsRefusedBehind, IsRefusedBehind-IsOpenBehind}
use Rattle.relay_peer.specs.declared.response_reading.ResponsePlace.{ResponsePlace}
use Rattle.relay_peer.specs.declared.response_reading.ResponsePlace.TheVariants as place
use Rattle.relay_peer.specs.declared.response_reading.ResponseReading.{ResponseReading}
use Rattle.relay_peer.specs.ResponseReading.{ToldResponse, ReadSoFar, ReadAt, IsAwaiting, IsInBody, IsPiece, says, with_head, with_piece, is_over, got_of, cut_off_error, fault_error, end_answer, IsAnswerOfLink, IsAnswerAt, IsItem, AnswersExactly, Answers, Asks, Refuses, Rests, ReadsTask, AnswerCuts}
use Rattle.relay_peer.specs.ResponseReading as reading

-- ---- one text

-- what bytes say where no final head came
abbrev headless : List ResponseHead → ResponseMark → ResponseText
headless heads mark = record { informed = heads; final = None; body = []; mark = mark }

-- what they say where one did: its body begins behind so many of them
abbrev headed : List ResponseHead → ResponseHead → Framing → ℕ → ℕ → Bool → BodyText → ResponseText
headed heads head framing begins all closed text =
    record {
      informed = heads;
      final = Some head;
      body = text.bytes;
      mark = mark_of framing begins all closed text.mark;
    }

same_headed : (a b : List ResponseHead) (x y : ResponseHead) (f g : Framing) (n m all : ℕ)
    (closed : Bool) (s t : BodyText) → SameFinal a b x y f g n m → s ≡ t
    → headed a x f n all closed s ≡ headed b y g m all closed t
same_headed a b x y f g n m all closed s t same texts =
    ap (λ (hs : List ResponseHead). headed hs x f n all closed s) same.informed
    ∙ ap (λ (h : ResponseHead). headed b h f n all closed s) same.head
    ∙ ap (λ (k : Framing). headed b y k n all closed s) same.framing
    ∙ ap (λ (k : ℕ). headed b y g k all closed s) same.len
    ∙ ap (λ (k : BodyText). headed b y g m all closed k) texts

-- the bytes of a link say one response
pub Tasks-unique : (method : List ℕ) (asked : Bool) (bytes : List ℕ) (closed : Bool)
    (a b : ResponseText) → Tasks method asked bytes closed a → Tasks method asked bytes closed b
    → a ≡ b
Tasks-unique method asked bytes closed _ _ (tasks.Tasks.head_open heads n informs still)
    (tasks.Tasks.head_open others m informed stays) =
    ap (λ (hs : List ResponseHead). headless hs (open_mark closed))
    (Informs-unique method asked bytes heads others n m informs
    (Stops-open method asked (drop n bytes) still) informed
    (Stops-open method asked (drop m bytes) stays)).0
Tasks-unique method asked bytes closed _ _ (tasks.Tasks.head_open heads n informs still)
    (tasks.Tasks.head_refused others m why informed refused) =
    absurd (IsRefusedBehind-IsOpenBehind method asked bytes others heads why
    (record { place = m; informs = informed; refused = refused })
    (record { place = n; informs = informs; is_open = still }))
Tasks-unique method asked bytes closed _ _ (tasks.Tasks.head_open heads n informs still)
    (tasks.Tasks.has_final others m head framing len text informed has final reads) =
    absurd (HasFinal-IsOpenBehind method asked bytes others heads head framing (m + len)
    (record { place = m; own = len; informs = informed; has = has; final = final; ends = refl })
    (record { place = n; informs = informs; is_open = still }))
Tasks-unique method asked bytes closed _ _ (tasks.Tasks.head_refused heads n why informs refused)
    (tasks.Tasks.head_open others m informed stays) =
    absurd (IsRefusedBehind-IsOpenBehind method asked bytes heads others why
    (record { place = n; informs = informs; refused = refused })
    (record { place = m; informs = informed; is_open = stays }))
Tasks-unique method asked bytes closed _ _ (tasks.Tasks.head_refused heads n why informs refused)
    (tasks.Tasks.head_refused others m cause informed refuses) =
    ap (λ (hs : List ResponseHead). headless hs broken)
    (Informs-unique method asked bytes heads others n m informs
    (Stops-refused method asked (drop n bytes) why refused) informed
    (Stops-refused method asked (drop m bytes) cause refuses)).0
Tasks-unique method asked bytes closed _ _ (tasks.Tasks.head_refused heads n why informs refused)
    (tasks.Tasks.has_final others m head framing len text informed has final reads) =
    absurd (HasFinal-IsRefusedBehind method asked bytes others heads head framing (m + len) why
    (record { place = m; own = len; informs = informed; has = has; final = final; ends = refl })
    (record { place = n; informs = informs; refused = refused }))
Tasks-unique method asked bytes closed _ _
    (tasks.Tasks.has_final heads n head framing len text informs has final reads)
    (tasks.Tasks.head_open others m informed stays) =
    absurd (HasFinal-IsOpenBehind method asked bytes heads others head framing (n + len)
    (record { place = n; own = len; informs = informs; has = has; final = final; ends = refl })
    (record { place = m; informs = informed; is_open = stays }))
Tasks-unique method asked bytes closed _ _
    (tasks.Tasks.has_final heads n head framing len text informs has final reads)
    (tasks.Tasks.head_refused others m why informed refused) =
    absurd (HasFinal-IsRefusedBehind method asked bytes heads others head framing (n + len) why
    (record { place = n; own = len; informs = informs; has = has; final = final; ends = refl })
    (record { place = m; informs = informed; refused = refused }))
Tasks-unique method asked bytes closed _ _
    (tasks.Tasks.has_final heads n head framing len text informs has final reads)
    (tasks.Tasks.has_final others m other f l said informed had last says) =
    let same = HasFinal-unique method asked bytes heads others head other framing f (n + len)
    (m + l)
    (record { place = n; own = len; informs = informs; has = has; final = final; ends = refl })
    (record { place = m; own = l; informs = informed; has = had; final = last; ends = refl }) in
    same_headed heads others head other framing f (n + len) (m + l) (length bytes) closed text said
    same
    (Body-unique framing (drop (n + len) bytes) text said reads
    (subst (λ (k : ℕ). Body framing (drop k bytes) said) (sym same.len)
    (subst (λ (k : Framing). Body k (drop (m + l) bytes) said) (sym same.framing) says)))

-- behind what was told they have one mark
mark_unique : (method : List ℕ) (upgrade closed : Bool) (given : List ℕ) (told : ToldResponse)
    (a b : ResponseMark)
    → Tasks method upgrade given closed (says told a)
    → Tasks method upgrade given closed (says told b)
    → a ≡ b
mark_unique method upgrade closed given told a b x y =
    ap (λ (t : ResponseText). t.mark)
    (Tasks-unique method upgrade given closed (says told a) (says told b) x y)

-- ---- what heads say more

-- informational heads are the first of those that the text says
informs_first : (method : List ℕ) (upgrade closed : Bool) (given : List ℕ) (text : ResponseText)
    (heads : List ResponseHead) (n : ℕ) → Informs method upgrade given heads n
    → Tasks method upgrade given closed text
    → (rest : List ResponseHead) × (text.informed ≡ heads ++ rest)
informs_first method upgrade closed given _ heads n informs
    (tasks.Tasks.head_open others m informed stays) =
    Informs-front method upgrade given heads others n m informs informed
    (Stops-open method upgrade (drop m given) stays)
informs_first method upgrade closed given _ heads n informs
    (tasks.Tasks.head_refused others m why informed refused) =
    Informs-front method upgrade given heads others n m informs informed
    (Stops-refused method upgrade (drop m given) why refused)
informs_first method upgrade closed given _ heads n informs
    (tasks.Tasks.has_final others m head framing len text informed has final reads) =
    Informs-front method upgrade given heads others n m informs informed
    (Stops-final method upgrade (drop m given) head framing len has final)

-- the final head is the one that the text says
final_said : (method : List ℕ) (upgrade closed : Bool) (given : List ℕ) (text : ResponseText)
    (heads : List ResponseHead) (head : ResponseHead) (framing : Framing) (len : ℕ)
    → HasFinal method upgrade given heads head framing len → Tasks method upgrade given closed text
    → text.final ≡ Some head
final_said method upgrade closed given _ heads head framing len has
    (tasks.Tasks.head_open others m informed stays) =
    absurd (HasFinal-IsOpenBehind method upgrade given heads others head framing len has
    (record { place = m; informs = informed; is_open = stays }))
final_said method upgrade closed given _ heads head framing len has
    (tasks.Tasks.head_refused others m why informed refused) =
    absurd (HasFinal-IsRefusedBehind method upgrade given heads others head framing len why has
    (record { place = m; informs = informed; refused = refused }))
final_said method upgrade closed given _ heads head framing len has
    (tasks.Tasks.has_final others m other f l text informed had last reads) =
    ap (λ (h : ResponseHead). Some h)
    (sym (HasFinal-unique method upgrade given heads others head other framing f len (m + l) has
    (record { place = m; own = l; informs = informed; has = had; final = last; ends = refl })).head)

-- a list is not longer than itself
never_longer : (heads rest : List ResponseHead) (head : ResponseHead)
    → heads ≡ (heads ++ head ∷ []) ++ rest → ⊥
never_longer heads rest head same =
    let sizes = ap (λ (hs : List ResponseHead). length hs) same in
    let outer = length-append (heads ++ head ∷ []) rest in
    let inner = length-append heads (head ∷ []) in
    omega (arith, sizes, outer, inner)

-- none is not some
none_is_some : {A : Type 0} (value : A) (option : Option A) → option ≡ None → option ≡ Some value
    → ⊥
none_is_some value option none some = apart (sym none ∙ some)
  where
    apart : None ≡ Some value → ⊥
    apart same = cc

-- a head that was told last is more than what was told before it, where no final head comes yet
awaited_says_more : (method : List ℕ) (upgrade closed : Bool) (given : List ℕ) (told : ToldResponse)
    (head : ResponseHead) (ahead : List ℕ) (mark : ResponseMark) (inform : Bool)
    → IsAwaiting method upgrade given (
    if inform then record told { informed = told.informed ++ head ∷ [] }
    else record told { final = Some head }) ahead
    → Tasks method upgrade given closed (says told mark) → ⊥
awaited_says_more method upgrade closed given told head ahead mark true a said =
    let first = informs_first method upgrade closed given (says told mark)
    (told.informed ++ head ∷ []) a.n
    a.informs said in
    never_longer told.informed first.0 head first.1
awaited_says_more method upgrade closed given told head ahead mark false a said =
    none_is_some head (Some head) a.no_final refl

-- a head that was told last is more than what was told before it
head_says_more : (method : List ℕ) (upgrade closed : Bool) (given : List ℕ) (told : ToldResponse)
    (head : ResponseHead) (at : ResponsePlace) (ahead : List ℕ) (mark : ResponseMark)
    → told.final ≡ None
    → ReadAt method upgrade closed given (with_head told head) at ahead
    → Tasks method upgrade given closed (says told mark) → ⊥
head_says_more method upgrade closed given told head place.NoHead ahead mark none read said =
    awaited_says_more method upgrade closed given told head ahead mark
    (is_informational head.status) read.0
    said
head_says_more method upgrade closed given told head place.Informed ahead mark none read said =
    awaited_says_more method upgrade closed given told head ahead mark
    (is_informational head.status) read.0
    said
head_says_more method upgrade closed given told head (place.InBody at) ahead mark none read said =
    none_is_some read.head told.final none
    (final_said method upgrade closed given (says told mark) (with_head told head).informed
    read.head
    read.framing (read.n + read.len)
    (record {
      place = read.n;
      own = read.len;
      informs = read.informs;
      has = read.has;
      final = read.is_final;
      ends = refl;
    }) said)
head_says_more method upgrade closed given told head (place.Ended keeps) ahead mark none read said =
    none_is_some read.head told.final none
    (ap (λ (t : ResponseText). t.final)
    (Tasks-unique method upgrade given closed (says told mark)
    (says (with_head told head) (ended read.place)) said read.whole)
    ∙ read.final)

-- ---- what pieces say more

-- what is read from a place in a body
Reads-total : (at : State) (bytes : List ℕ) → (text : BodyText) × Reads at bytes text
Reads-total state.ChunkLine bytes = Chunked-total body.ChunkedPlace.at_line bytes
Reads-total (state.Chunk left) bytes = Chunked-total (body.ChunkedPlace.in_chunk left) bytes
Reads-total state.ChunkEnd bytes = Chunked-total body.ChunkedPlace.behind_chunk bytes
Reads-total state.Trailer bytes = Chunked-total body.ChunkedPlace.in_trailer bytes
Reads-total (state.Length left) bytes = (_, refl)
Reads-total state.UntilClose bytes = (_, refl)
Reads-total state.Tunnel bytes = (_, refl)
Reads-total state.Done bytes = (_, refl)

-- bytes are not themselves with some more
never_more : (bytes piece rest : List ℕ) → 0 < length piece → (bytes ++ piece) ++ rest ≡ bytes → ⊥
never_more bytes piece rest some same =
    let sizes = ap (λ (xs : List ℕ). length xs) same in
    let outer = length-append (bytes ++ piece) rest in
    let inner = length-append bytes piece in
    omega (arith, some, sizes, outer, inner)

never_none : (bytes piece : List ℕ) → 0 < length piece → bytes ++ piece ≡ [] → ⊥
never_none bytes piece some same =
    let sizes = ap (λ (xs : List ℕ). length xs) same in
    omega (arith, some, sizes, length-append bytes piece)

-- a piece that was told last is more than what was told before it
piece_says_more : (method : List ℕ) (upgrade closed : Bool) (given : List ℕ) (told : ToldResponse)
    (piece : List ℕ) (at : ResponsePlace) (ahead : List ℕ) (mark : ResponseMark) → 0 < length piece
    → ReadAt method upgrade closed given (record told { body = told.body ++ piece }) at ahead
    → Tasks method upgrade given closed (says told mark) → ⊥
piece_says_more method upgrade closed given told piece place.NoHead ahead mark some read said =
    never_none told.body piece some read.0.no_body
piece_says_more method upgrade closed given told piece place.Informed ahead mark some read said =
    never_none told.body piece some read.0.no_body
piece_says_more method upgrade closed given told piece (place.InBody at) ahead mark some read said =
    let rest = Reads-total at.reader ahead in
    let begins = read.n + read.len in
    let bytes = told.body ++ piece in
    let text = behind (length (drop begins given) - length ahead) bytes rest.0 in
    let whole = tasks.Tasks.has_final told.informed read.n read.head read.framing read.len text
    read.informs read.has read.is_final
    (SoFar-reads read.framing (drop begins given) bytes ahead at.reader rest.0 read.so_far
    rest.1) in
    never_more told.body piece rest.0.bytes some
    (ap (λ (t : ResponseText). t.body)
    (Tasks-unique method upgrade given closed
    (headed told.informed read.head read.framing begins (length given) closed text)
    (says told mark) whole said))
piece_says_more method upgrade closed given told piece (place.Ended keeps) ahead mark some read said
    =
    let same = ap (λ (t : ResponseText). t.body)
    (Tasks-unique method upgrade given closed
    (says (record told { body = told.body ++ piece }) (ended read.place)) (says told mark)
    read.whole said) in
    let sizes = ap (λ (xs : List ℕ). length xs) same in
    omega (arith, some, sizes, length-append told.body piece)

-- ---- what answers say

-- what was told is whole where the reading has ended
whole_there : (method : List ℕ) (upgrade closed : Bool) (given : List ℕ) (told : ToldResponse)
    (at : ResponsePlace)
    (ahead : List ℕ) → is_over at ≡ true → ReadAt method upgrade closed given told at ahead
    → (n : ℕ) × Tasks method upgrade given closed (says told (ended n))
whole_there method upgrade closed given told place.NoHead ahead over read = absurd (cc)
whole_there method upgrade closed given told place.Informed ahead over read = absurd (cc)
whole_there method upgrade closed given told (place.InBody at) ahead over read = absurd (cc)
whole_there method upgrade closed given told (place.Ended keeps) ahead over read =
    (read.place, read.whole)

-- an answer says a mark of the bytes behind what was told, and comes with it
record Marks (method : List ℕ) (upgrade closed : Bool) (given : List ℕ) (told : ToldResponse)
    (asked : Option Got)
    (over : Bool) (answer : Took HttpTask) : Type 0 where
  pub mark : ResponseMark
  pub said : Tasks method upgrade given closed (says told mark)
  pub is : IsAnswerAt mark given asked over answer

-- or it is a task of bytes that say more than was told
record IsNext (method : List ℕ) (upgrade closed : Bool) (given : List ℕ) (told : ToldResponse)
    (answer : Took HttpTask) : Type 0 where
  pub item : IsItem answer
  pub more : (mark : ResponseMark) → Tasks method upgrade given closed (says told mark) → ⊥

-- or memory is wanted
data Says (method : List ℕ) (upgrade closed : Bool) (given : List ℕ) (told : ToldResponse)
    (asked : Option Got)
    (over : Bool) (answer : Took HttpTask) : Type 0 where
  wants_memory : answer ≡ took.Failed fail.OutOfMemory
      → Says method upgrade closed given told asked over answer
  says_mark : Marks method upgrade closed given told asked over answer
      → Says method upgrade closed given told asked over answer
  says_next : IsNext method upgrade closed given told answer
      → Says method upgrade closed given told asked over answer

-- bytes that leave the response open come with an answer of the link
open_marks : (method : List ℕ) (upgrade closed : Bool) (given : List ℕ) (told : ToldResponse)
    (asked : Option Got)
    (over : Bool) (answer : Took HttpTask) → closed ≡ false
    → Tasks method upgrade given false (says told still_open) → IsAnswerOfLink asked answer
    → Says method upgrade closed given told asked over answer
open_marks method upgrade closed given told asked over answer going said is =
    Says.says_mark
    (record {
      mark = still_open;
      said = subst (λ (c : Bool). Tasks method upgrade given c (says told still_open)) (sym going)
          said;
      is = is;
    })

-- the end is told once, and behind it stands `End`
done_marks : (over : Bool) → (over ≡ true → took.Item task.Done ≡ took.End) → (n : ℕ)
    (given : List ℕ) (asked : Option Got)
    → IsAnswerAt (ended n) given asked over (took.Item task.Done)
done_marks true rests n given asked = absurd (apart (rests refl))
  where
    apart : took.Item task.Done ≡ took.End → ⊥
    apart same = cc
done_marks false rests n given asked = refl

-- the link ended, and the response has not
cut_marks : (method : List ℕ) (upgrade closed : Bool) (given : List ℕ) (told : ToldResponse)
    (asked : Option Got)
    (over : Bool) (error : Error) → closed ≡ true → error ≡ cut_off_error given
    → Tasks method upgrade given true (says told cut_off)
    → Says method upgrade closed given told asked over (took.Failed (fail.Error error))
cut_marks method upgrade closed given told asked over error gone is said =
    Says.says_mark
    (record {
      mark = cut_off;
      said = subst (λ (c : Bool). Tasks method upgrade given c (says told cut_off)) (sym gone) said;
      is = ap (λ (e : Error). took.Failed (fail.Error e)) is;
    })

-- a fault of the link
fault_marks : (fault : Fault) (asked : Option Got) (error : Error)
    → asked ≡ Some (got.Failed fault) → error ≡ fault_error fault
    → IsAnswerOfLink asked (took.Failed (fail.Error error))
fault_marks fault asked error was is =
    subst (λ (a : Option Got). IsAnswerOfLink a (took.Failed (fail.Error error))) (sym was)
    (ap (λ (e : Error). took.Failed (fail.Error e)) is)

-- a refusal
refusal_says : (method : List ℕ) (upgrade : Bool) (before after : LinkState) (given came : List ℕ)
    (told : ToldResponse)
    (asked : Option Got) (over : Bool) (error : Error) → Asks before after came asked
    → Refuses method upgrade after.ended given told asked error
    → Says method upgrade after.ended given told asked over (took.Failed (fail.Error error))
refusal_says method upgrade before after given came told asked over error asks
    (reading.Refuses.is_broken why is said breaks) =
    Says.says_mark
    (record {
      mark = broken;
      said = said;
      is = (why, ap (λ (e : Error). took.Failed (fail.Error e)) is);
    })
refusal_says method upgrade before after given came told asked over error asks
    (reading.Refuses.has_failed fault was is said) =
    open_marks method upgrade after.ended given told asked over (took.Failed (fail.Error error))
    (subst (λ (a : Option Got). Asks before after came a) was asks).0.ended said
    (fault_marks fault asked error was is)
refusal_says method upgrade before after given came told asked over error asks
    (reading.Refuses.is_cut_off was is said) =
    cut_marks method upgrade after.ended given told asked over error
    (subst (λ (a : Option Got). Asks before after came a) was asks).0.ended is said

-- the link gives nothing now
pause_says : (method : List ℕ) (upgrade : Bool) (before after : LinkState) (given came : List ℕ)
    (told : ToldResponse)
    (asked : Option Got) (over : Bool) (why : Pause) → Asks before after came asked
    → asked ≡ Some (got_of why) → Tasks method upgrade given false (says told still_open)
    → Says method upgrade after.ended given told asked over (took.Waited why)
pause_says method upgrade before after given came told asked over pause.NotReady asks was said =
    open_marks method upgrade after.ended given told asked over (took.Waited pause.NotReady)
    (subst (λ (a : Option Got). Asks before after came a) was asks).0.ended said
    (subst (λ (a : Option Got). IsAnswerOfLink a (took.Waited pause.NotReady)) (sym was) refl)
pause_says method upgrade before after given came told asked over pause.Silent asks was said =
    let silent = (subst (λ (a : Option Got). Asks before after came a) was asks).0 in
    open_marks method upgrade after.ended given told asked over (took.Waited pause.Silent)
    (ap (λ (l : LinkState). l.ended) silent.same ∙ silent.was_open) said
    (subst (λ (a : Option Got). IsAnswerOfLink a (took.Waited pause.Silent)) (sym was) refl)

-- what an answer says
answer_says : (method : List ℕ) (upgrade : Bool) (before after : LinkState) (given came : List ℕ)
    (told : ToldResponse)
    (asked : Option Got) (old new : ResponseReading) (answer : Took HttpTask)
    → Asks before after came asked → (is_over old.place ≡ true → Rests old new asked answer)
    → Answers method upgrade after.ended given told asked old.place new answer
    → Says method upgrade after.ended given told asked (is_over old.place) answer
answer_says method upgrade before after given came told asked old new
    (took.Item (task.Header head end)) asks rests answers =
    Says.says_next
    (record {
      item = tt;
      more = λ mark said.
          head_says_more method upgrade after.ended given told head new.place new.ahead mark
          answers.0
          answers.2.at said;
    })
answer_says method upgrade before after given came told asked old new
    (took.Item (task.Body None end)) asks rests answers = absurd answers.0
answer_says method upgrade before after given came told asked old new
    (took.Item (task.Body (Some piece) end)) asks rests answers =
    Says.says_next
    (record {
      item = tt;
      more = λ mark said.
          piece_says_more method upgrade after.ended given told piece new.place new.ahead mark
          answers.0
          answers.2.at said;
    })
answer_says method upgrade before after given came told asked old new
    (took.Item (task.UpgradedBody piece end)) asks rests answers = absurd answers.0
answer_says method upgrade before after given came told asked old new
    (took.Item (task.Trailer fields)) asks
    rests answers = absurd answers.0
answer_says method upgrade before after given came told asked old new (took.Item task.Done) asks
    rests
    answers =
    let whole = whole_there method upgrade after.ended given told new.place new.ahead
    (sym answers.1)
    answers.2.at in
    Says.says_mark
    (record {
      mark = ended whole.0;
      said = whole.1;
      is = done_marks (is_over old.place) (λ over. (rests over).is_end) whole.0 given asked;
    })
answer_says method upgrade before after given came told asked old new
    (took.Item (task.Failed error)) asks
    rests answers = absurd answers.0
answer_says method upgrade before after given came told asked old new took.More asks rests answers =
    open_marks method upgrade after.ended given told asked (is_over old.place) took.More
    (subst (λ (a : Option Got). Asks before after came a) answers.0.1 asks).gives.ended answers.1
    (subst (λ (a : Option Got). IsAnswerOfLink a took.More) (sym answers.0.1) refl)
answer_says method upgrade before after given came told asked old new (took.Waited why) asks rests
    answers =
    pause_says method upgrade before after given came told asked (is_over old.place) why asks
    answers.0
    answers.1
answer_says method upgrade before after given came told asked old new took.End asks rests answers =
    let same = ap (λ (r : ResponseReading). is_over r.place) (rests answers.1).same in
    let whole = whole_there method upgrade after.ended given told new.place new.ahead
    (same ∙ answers.1)
    answers.2.at in
    Says.says_mark
    (record {
      mark = ended whole.0;
      said = whole.1;
      is = ap (λ (over : Bool). end_answer over) (sym answers.1);
    })
answer_says method upgrade before after given came told asked old new (took.Failed fail.OutOfMemory)
    asks
    rests answers = Says.wants_memory refl
answer_says method upgrade before after given came told asked old new
    (took.Failed (fail.Error error)) asks
    rests answers =
    refusal_says method upgrade before after given came told asked (is_over old.place) error asks
    answers.0

-- ---- exactly

-- an answer comes exactly where the bytes say so
exactly : (method : List ℕ) (upgrade closed : Bool) (given : List ℕ) (told : ToldResponse)
    (asked : Option Got)
    (over : Bool) (answer : Took HttpTask) → Says method upgrade closed given told asked over answer
    → AnswersExactly method upgrade closed given told asked over answer
exactly method upgrade closed given told asked over answer (Says.wants_memory is) = record {
  by_mark = λ mark said. inl is;
  next = λ more. inl is;
}
exactly method upgrade closed given told asked over answer (Says.says_mark marks) = record {
  by_mark = λ mark said.
      inr
      (subst (λ (m : ResponseMark). IsAnswerAt m given asked over answer)
      (mark_unique method upgrade closed given told marks.mark mark marks.said said) marks.is);
  next = λ more. absurd (more marks.mark marks.said);
}
exactly method upgrade closed given told asked over answer (Says.says_next item) = record {
  by_mark = λ mark said. absurd (item.more mark said);
  next = λ more. inr item.item;
}

-- a call on a reading, whose answer comes exactly where the bytes say so
pub reads_task : (method : List ℕ) (upgrade : Bool) (before after : LinkState)
    (old new : ResponseReading)
    (answer : Took HttpTask) (came : List ℕ) (asked : Option Got) → Asks before after came asked
    → ((fault : Fault) → asked ≡ Some (got.Failed fault)
    → answer ≡ took.Failed (fail.Error (fault_error fault)))
    → (is_over old.place ≡ true → Rests old new asked answer)
    → AnswerCuts old.place (old.ahead ++ came) answer new.ahead
    → ((given : List ℕ) (told : ToldResponse) (got : Got)
    → ReadSoFar method upgrade before.ended given told old
    → asked ≡ Some got → Tasks method upgrade given false (says told still_open))
    → ((given : List ℕ) (told : ToldResponse) → ReadSoFar method upgrade before.ended given told old
    → Answers method upgrade after.ended (given ++ came) told asked old.place new answer)
    → ReadsTask method upgrade before after old new answer
reads_task method upgrade before after old new answer came asked asks fails rests cuts needs answers
    =
    record {
      came = came;
      asked = asked;
      asks = asks;
      fails = fails;
      rests = rests;
      cuts = cuts;
      needs = needs;
      answers = answers;
      exact = λ given told read.
          exactly method upgrade after.ended (given ++ came) told asked (is_over old.place) answer
          (answer_says method upgrade before after (given ++ came) came told asked old new answer
          asks rests
          (answers given told read));
    }
