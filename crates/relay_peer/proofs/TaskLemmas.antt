-- The tasks of a response: one more of them, and what they tell.
use Rattle.std.proofs.Common.{◌≡◌, ℕ, ◌+◌, ◌<◌, Bool, true, false, ◌||◌, ◌&&◌, not, List, [], ◌∷◌, ◌++◌, length, length-append, arith, refl, sym, ap, subst, ◌∙◌, Option, Some, None, is_some, if◌then◌else◌, drop, nat_le, nat_lt, ◌==◌, codes, bytes_eq}
use Rattle.std.specs.List.{All, list_any}
use Rattle.std.proofs.lemmas.List.Elements.{All-nil, All-cons, All-push}
use Rattle.std.proofs.lemmas.List.Folds.{list_any-append}
use Rattle.relay_tasks.specs.Head.{ResponseHead}
use Rattle.relay_tasks.specs.declared.task.HttpTask.{HttpTask}
use Rattle.relay_tasks.specs.declared.task.HttpTask.TheVariants as task
use Rattle.relay_tasks.specs.Task.{is_end}
use Rattle.relay_links.specs.Link.{LinkState}
use Rattle.relay_h1.specs.declared.framing.Framing.{Framing}
use Rattle.relay_h1.specs.declared.framing.Framing.TheVariants as framing
use Rattle.relay_h1.specs.declared.body_reader.State.{State}
use Rattle.relay_h1.specs.declared.body_reader.State.TheVariants as state
use Rattle.relay_h1.specs.BodyReader.{TakesPiece, IsWholeRun, is_of, is_done, is_in_chunks, has_length, is_until_close, is_tunnel}
use Rattle.relay_h1.proofs.TasksLemmas.{HasFinal-append, HasFinal-unique}
use Rattle.relay_h1.specs.ClientHead.{is_informational, lacks_framing}
use Rattle.relay_h1.specs.Framing.{has_no_body, is_bodiless}
use Rattle.relay_h1.specs.Tasks.{HasFinal, Informs, Tasks, ended}
use Rattle.relay_h1.specs.Verdict.{HasResponse}
use Rattle.relay_peer.specs.declared.response_reading.ResponsePlace.{ResponsePlace}
use Rattle.relay_peer.specs.declared.response_reading.ResponsePlace.TheVariants as place
use Rattle.relay_peer.specs.declared.response_reading.ResponseReading.{ResponseReading}
use Rattle.relay_peer.specs.ResponseReading.{ToldResponse, ReadSoFar, ReadAt, IsResponseTask, Cuts, CutsBody, is_in_length, untold, with_task, with_head, says, is_over}
use Rattle.relay_core.specs.Moves.{EndsLast}
use Rattle.relay_peer.specs.Peer.{AreTasks, EndsAs, EndFramed, Follow, StandsBehind, told_behind, told_of}

-- ---- one task more

-- what is told with one task more
pub told_push : (told : ToldResponse) (tasks : List HttpTask) (last : HttpTask)
    → told_behind told (tasks ++ last ∷ []) ≡ with_task (told_behind told tasks) last
told_push told [] last = refl
told_push told (first ∷ tasks) last = told_push (with_task told first) tasks last

-- one more task follows those before it
follow_push : (told : ToldResponse) (tasks : List HttpTask) (last : HttpTask) → Follow told tasks
    → IsResponseTask (told_behind told tasks) last → StandsBehind (told_behind told tasks) last
    → Follow told (tasks ++ last ∷ [])
follow_push told [] last follow is stands = (is, stands, tt)
follow_push told (first ∷ tasks) last follow is stands =
    (follow.0, follow.1, follow_push (with_task told first) tasks last follow.2 is stands)

-- a piece has some bytes, also behind others
some_piece : (body piece : List ℕ) → 0 < length piece → ¬ (body ++ piece ≡ [])
some_piece body piece some none =
    let empty : length (body ++ piece) ≡ 0 = ap (λ (xs : List ℕ). length xs) none in
    omega (arith, length-append body piece, empty, some)

-- a piece that was told stands behind the final head: before that no body is told
piece_behind : (method : List ℕ) (upgrade closed : Bool) (got : List ℕ) (told : ToldResponse)
    (piece : List ℕ)
    (at : ResponsePlace) (ahead : List ℕ) → 0 < length piece
    → ReadAt method upgrade closed got (record told { body = told.body ++ piece }) at ahead
    → is_some told.final ≡ true
piece_behind method upgrade closed got told piece place.NoHead ahead some read =
    absurd (some_piece told.body piece some read.0.no_body)
piece_behind method upgrade closed got told piece place.Informed ahead some read =
    absurd (some_piece told.body piece some read.0.no_body)
piece_behind method upgrade closed got told piece (place.InBody body) ahead some read =
    ap (λ (h : Option ResponseHead). is_some h) read.final
piece_behind method upgrade closed got told piece (place.Ended keeps) ahead some read =
    ap (λ (h : Option ResponseHead). is_some h) read.final

-- so does each task that a call gave
stands_behind : (method : List ℕ) (upgrade closed : Bool) (got : List ℕ) (told : ToldResponse)
    (last : HttpTask)
    (new : ResponseReading) → IsResponseTask told last
    → ReadSoFar method upgrade closed got (with_task told last) new → StandsBehind told last
stands_behind method upgrade closed got told (task.Header head end) new is read = tt
stands_behind method upgrade closed got told (task.Body None end) new is read = absurd is
stands_behind method upgrade closed got told (task.Body (Some piece) end) new is read =
    piece_behind method upgrade closed got told piece new.place new.ahead is read.at
stands_behind method upgrade closed got told (task.UpgradedBody piece end) new is read = tt
stands_behind method upgrade closed got told (task.Trailer fields) new is read = tt
stands_behind method upgrade closed got told task.Done new is read = tt
stands_behind method upgrade closed got told (task.Failed error) new is read = tt

-- nothing stands behind the front of nothing
none_behind : (front behind : List HttpTask) → [] ≡ front ++ behind → behind ≡ []
none_behind [] behind same = sym same
none_behind (first ∷ front) behind same = cc

-- equal lists have equal rests
tails : (a b : HttpTask) (xs ys : List HttpTask) → a ∷ xs ≡ b ∷ ys → xs ≡ ys
tails a b xs ys same = cc

-- equal lists have equal first tasks
heads : (a b : HttpTask) (xs ys : List HttpTask) → a ∷ xs ≡ b ∷ ys → a ≡ b
heads a b xs ys same = cc

-- where neither holds, the first does not
or_left : (a b : Bool) → (a || b) ≡ false → a ≡ false
or_left true b none = cc
or_left false b none = refl

-- where neither holds, the second does not
or_right : (a b : Bool) → (a || b) ≡ false → b ≡ false
or_right true b none = cc
or_right false b none = none

-- where one of two holds and not the first, the second does
or_second : (a b : Bool) → a ≡ false → (a || b) ≡ true → b ≡ true
or_second true b none some = cc
or_second false b none some = some

-- behind tasks of which none is an end, one more ends last
last_ends_at : (tasks : List HttpTask) (last : HttpTask) (front behind : List HttpTask)
    → list_any is_end tasks ≡ false → tasks ++ last ∷ [] ≡ front ++ behind
    → list_any is_end front ≡ true → behind ≡ []
last_ends_at [] last [] behind none same found = cc
last_ends_at [] last (first ∷ front) behind none same found =
    none_behind front behind (tails last first [] (front ++ behind) same)
last_ends_at (task ∷ tasks) last [] behind none same found = cc
last_ends_at (task ∷ tasks) last (first ∷ front) behind none same found =
    last_ends_at tasks last front behind (or_right (is_end task) (list_any is_end tasks) none)
    (tails task first (tasks ++ last ∷ []) (front ++ behind) same)
    (or_second (is_end first) (list_any is_end front)
    (ap is_end (sym (heads task first (tasks ++ last ∷ []) (front ++ behind) same))
    ∙ or_left (is_end task) (list_any is_end tasks) none)
    found)

-- behind tasks of which none is an end, one more may be the end
last_ends : (tasks : List HttpTask) (last : HttpTask) → list_any is_end tasks ≡ false
    → EndsLast (tasks ++ last ∷ [])
last_ends tasks last none = λ front behind same found.
    last_ends_at tasks last front behind none same found

-- a test or one that fails is that test
or_nil : (b : Bool) → (b || false) ≡ b
or_nil true = refl
or_nil false = refl

-- what does not hold fails
not_over : (over : Bool) → (over ≡ true → ⊥) → over ≡ false
not_over true never = absurd (never refl)
not_over false never = refl

-- ---- how the tasks end a body

-- no head is not one
never_some : (head : ResponseHead) → None ≡ Some head → ⊥
never_some head same = cc

-- one head is kept
some_head : (a b : ResponseHead) → Some a ≡ Some b → a ≡ b
some_head a b same = cc

-- a head is not none
never_final : (a : ResponseHead) → Some a ≡ None → ⊥
never_final a same = cc

-- a final head was not told and told
never_both : (final : Option ResponseHead) (head : ResponseHead) → final ≡ None
    → final ≡ Some head → ⊥
never_both final head none some = never_some head (sym none ∙ some)

-- a final head that was told stands in the bytes, behind the heads that inform
record FinalTold (method : List ℕ) (upgrade : Bool) (got : List ℕ) (informed : List ResponseHead)
    (final : ResponseHead)
    : Type 0 where
  framing : Framing
  len : ℕ
  has : HasFinal method upgrade got informed final framing len

-- so does one that was told as that of the reading
told_by : (method : List ℕ) (upgrade : Bool) (got : List ℕ) (informed : List ResponseHead)
    (final head : ResponseHead)
    (framing : Framing) (n len : ℕ) → is_informational final.status ≡ false
    → Informs method upgrade got informed n
    → HasResponse method upgrade (drop n got) head framing len
    → Some final ≡ Some head → FinalTold method upgrade got informed final
told_by method upgrade got informed final head framing n len last informs has same = record {
  framing = framing;
  len = n + len;
  has = record {
    place = n;
    own = len;
    informs = informs;
    has = subst (λ (h : ResponseHead). HasResponse method upgrade (drop n got) h framing len)
        (sym (some_head final head same)) has;
    final = last;
    ends = refl;
  };
}

-- a head told as final is that of the reading
final_told : (method : List ℕ) (upgrade closed : Bool) (got : List ℕ) (told : ToldResponse)
    (final : ResponseHead) (at : ResponsePlace) (ahead : List ℕ)
    → is_informational final.status ≡ false
    → ReadAt method upgrade closed got (record told { final = Some final }) at ahead
    → FinalTold method upgrade got told.informed final
final_told method upgrade closed got told final place.NoHead ahead last read =
    absurd (never_final final read.0.no_final)
final_told method upgrade closed got told final place.Informed ahead last read =
    absurd (never_final final read.0.no_final)
final_told method upgrade closed got told final (place.InBody body) ahead last read =
    told_by method upgrade got told.informed final read.head read.framing read.n read.len last
    read.informs
    read.has read.final
final_told method upgrade closed got told final (place.Ended keeps) ahead last read =
    told_by method upgrade got told.informed final read.head read.framing read.n read.len last
    read.informs
    read.has read.final

-- a piece ends a body only where that has a length
piece_ends : (framing : Framing) (old new : State) (bytes piece rest : List ℕ) (end : Bool)
    → is_of framing old ≡ true → TakesPiece old bytes piece end new rest → end ≡ true
    → has_length framing ≡ true
piece_ends framing old new bytes piece rest end of takes ends =
    by_place takes.at (takes.framing.over.of_framing framing of) takes.longest takes.some
  where
    done : is_done new ≡ true
    done = sym takes.is_end ∙ ends

    empty : (run_is : piece ≡ []) → 0 < length piece → has_length framing ≡ true
    empty run_is some =
        absurd (omega (arith, some, ap (λ (xs : List ℕ). length xs) run_is))

    open_still : (at : State) → new ≡ at → is_done at ≡ false → has_length framing ≡ true
    open_still at is open_yet =
        let wrong = sym done ∙ ap is_done is ∙ open_yet in absurd (cc)

    by_place : (at : State) → is_of framing at ≡ true
        → IsWholeRun at takes.behind_framing piece new → 0 < length piece
        → has_length framing ≡ true
    by_place state.ChunkLine here whole some = empty whole.run_is some
    by_place (state.Chunk left) here whole some = open_still _ whole.stands refl
    by_place state.ChunkEnd here whole some = empty whole.run_is some
    by_place state.Trailer here whole some = empty whole.run_is some
    by_place (state.Length left) here whole some = here
    by_place state.UntilClose here whole some = open_still _ whole.stands refl
    by_place state.Tunnel here whole some = open_still _ whole.stands refl
    by_place state.Done here whole some = empty whole.run_is some

-- a body in chunks has no length, nor has one that lasts until the link ends
chunks_unlong : (framing : Framing) → is_in_chunks framing ≡ true → has_length framing ≡ false
chunks_unlong framing.Empty is = cc
chunks_unlong (framing.Length n) is = cc
chunks_unlong framing.Chunked is = refl
chunks_unlong framing.UntilClose is = cc
chunks_unlong framing.Tunnel is = cc

-- nor has one that lasts until the link ends
lasting_unlong : (framing : Framing) → is_until_close framing ≡ true
    → has_length framing ≡ false
lasting_unlong framing.Empty is = cc
lasting_unlong (framing.Length n) is = cc
lasting_unlong framing.Chunked is = cc
lasting_unlong framing.UntilClose is = refl
lasting_unlong framing.Tunnel is = cc

-- nor has a tunnel
tunnel_unlong : (framing : Framing) → is_tunnel framing ≡ true → has_length framing ≡ false
tunnel_unlong framing.Empty is = cc
tunnel_unlong (framing.Length n) is = cc
tunnel_unlong framing.Chunked is = cc
tunnel_unlong framing.UntilClose is = cc
tunnel_unlong framing.Tunnel is = refl

-- a test does not fail together with its opposite
not_both : (b : Bool) → b ≡ false → not b ≡ false → ⊥
not_both true is out = cc
not_both false is out = cc

-- the end comes alone only where the body has no length
done_ends : (framing : Framing) (at : State) → is_of framing at ≡ true → is_done at ≡ false
    → is_in_length at ≡ false → has_length framing ≡ false
done_ends framing state.ChunkLine of going out = chunks_unlong framing of
done_ends framing (state.Chunk left) of going out = chunks_unlong framing of
done_ends framing state.ChunkEnd of going out = chunks_unlong framing of
done_ends framing state.Trailer of going out = chunks_unlong framing of
done_ends framing (state.Length left) of going out = absurd (not_both (left == 0) going out)
done_ends framing state.UntilClose of going out = lasting_unlong framing of
done_ends framing state.Tunnel of going out = tunnel_unlong framing of
done_ends framing state.Done of going out = cc

-- a task of a body ends it as it is framed
body_ends : (framing : Framing) (at : State) (bytes rest : List ℕ) (last : HttpTask)
    → is_of framing at ≡ true → is_done at ≡ false → CutsBody at bytes last rest
    → EndsAs framing last
body_ends framing at bytes rest (task.Header head end) of going cuts = tt
body_ends framing at bytes rest (task.Body None end) of going cuts = absurd cuts
body_ends framing at bytes rest (task.Body (Some piece) end) of going cuts = λ ends.
    piece_ends framing at cuts.0 bytes piece rest end of cuts.1 ends
body_ends framing at bytes rest (task.UpgradedBody piece end) of going cuts = tt
body_ends framing at bytes rest (task.Trailer fields) of going cuts = tt
body_ends framing at bytes rest task.Done of going cuts = done_ends framing at of going cuts
body_ends framing at bytes rest (task.Failed error) of going cuts = tt

-- so does a task behind the final head
task_ends : (method : List ℕ) (upgrade closed : Bool) (got : List ℕ) (told : ToldResponse)
    (at : ResponsePlace) (ahead bytes rest : List ℕ) (last : HttpTask) (head : ResponseHead)
    (framing : Framing) (len : ℕ) → HasFinal method upgrade got told.informed head framing len
    → told.final ≡ Some head → ReadAt method upgrade closed got told at ahead → is_over at ≡ false
    → Cuts at bytes last rest → EndsAs framing last
task_ends method upgrade closed got told place.NoHead ahead bytes rest last head framing len has
    tells read
    going cuts = absurd (never_both told.final head read.0.no_final tells)
task_ends method upgrade closed got told place.Informed ahead bytes rest last head framing len has
    tells
    read going cuts = absurd (never_both told.final head read.0.no_final tells)
task_ends method upgrade closed got told (place.InBody body) ahead bytes rest last head framing len
    has
    tells read going cuts =
    let own : HasFinal method upgrade got told.informed read.head read.framing (read.n + read.len) =
    record {
      place = read.n;
      own = read.len;
      informs = read.informs;
      has = read.has;
      final = read.is_final;
      ends = refl;
    } in
    let same = HasFinal-unique method upgrade got told.informed told.informed read.head head
    read.framing framing (read.n + read.len) len own has in
    body_ends framing body.reader bytes rest last
    (subst (λ (f : Framing). is_of f body.reader ≡ true) same.framing read.so_far.of_framing)
    read.goes_on cuts
task_ends method upgrade closed got told (place.Ended keeps) ahead bytes rest last head framing len
    has
    tells read going cuts = absurd cuts

-- in front of a final head none is told
final_stays : (told : ToldResponse) (tasks : List HttpTask) → Follow told tasks
    → (told_behind told tasks).final ≡ None → told.final ≡ None
final_stays told [] follow none = none
final_stays told (task.Header head end ∷ tasks) follow none = follow.0
final_stays told (task.Body None end ∷ tasks) follow none = absurd follow.0
final_stays told (task.Body (Some piece) end ∷ tasks) follow none =
    final_stays (record told { body = told.body ++ piece }) tasks follow.2 none
final_stays told (task.UpgradedBody piece end ∷ tasks) follow none = absurd follow.0
final_stays told (task.Trailer fields ∷ tasks) follow none = absurd follow.0
final_stays told (task.Done ∷ tasks) follow none = final_stays told tasks follow.2 none
final_stays told (task.Failed error ∷ tasks) follow none = absurd follow.0

-- where no final head was told, there is none
never_there : (final : Option ResponseHead) → final ≡ None → is_some final ≡ true → ⊥
never_there None none some = cc
never_there (Some head) none some = cc

-- tasks in front of a final head are heads, which end no body
heads_alone : (framing : Framing) (told : ToldResponse) (tasks : List HttpTask)
    → Follow told tasks → (told_behind told tasks).final ≡ None → list_any is_end tasks ≡ false
    → All (EndsAs framing) tasks
heads_alone framing told [] follow none unended = All-nil (EndsAs framing)
heads_alone framing told (task.Header head end ∷ tasks) follow none unended =
    All-cons (EndsAs framing) (task.Header head end) tasks tt
    (heads_alone framing (with_head told head) tasks follow.2 none
    (or_right (is_end (task.Header head end)) (list_any is_end tasks) unended))
heads_alone framing told (task.Body None end ∷ tasks) follow none unended = absurd follow.0
heads_alone framing told (task.Body (Some piece) end ∷ tasks) follow none unended =
    absurd (never_there told.final
    (final_stays told (task.Body (Some piece) end ∷ tasks) follow none) follow.1)
heads_alone framing told (task.UpgradedBody piece end ∷ tasks) follow none unended =
    absurd follow.0
heads_alone framing told (task.Trailer fields ∷ tasks) follow none unended = absurd follow.0
heads_alone framing told (task.Done ∷ tasks) follow none unended = cc
heads_alone framing told (task.Failed error ∷ tasks) follow none unended = absurd follow.0

-- a head in the place of the final one, behind the tasks so far
head_framed : (method : List ℕ) (upgrade : Bool) (now : Bool) (got : List ℕ) (tasks : List HttpTask)
    (told : ToldResponse) (given : ResponseHead) (end inform : Bool) (new : ResponseReading)
    (head : ResponseHead) → is_informational given.status ≡ inform → told.final ≡ None
    → ((framing : Framing) → All (EndsAs framing) tasks)
    → ReadSoFar method upgrade now got
    (if inform then record told { informed = told.informed ++ given ∷ [] }
    else record told { final = Some given }) new
    → (if inform then record told { informed = told.informed ++ given ∷ [] }
    else record told { final = Some given }).final ≡ Some head
    → EndFramed method upgrade got
    (if inform then record told { informed = told.informed ++ given ∷ [] }
    else record told { final = Some given }).informed head (tasks ++ task.Header given end ∷ [])
head_framed method upgrade now got tasks told given end true new head is none each read tells =
    absurd (never_both told.final head none tells)
head_framed method upgrade now got tasks told given end false new head is none each read tells =
    let there = final_told method upgrade now got told given new.place new.ahead is read.at in
    record {
      framing = there.framing;
      len = there.len;
      has = subst (λ (h : ResponseHead). HasFinal method upgrade got told.informed h there.framing
          there.len) (some_head given head tells) there.has;
      each = All-push (EndsAs there.framing) tasks (task.Header given end) (each there.framing) tt;
    }

-- tasks that end a body as it is framed do so where more bytes came
framed_more : (method : List ℕ) (upgrade : Bool) (got came : List ℕ) (informed : List ResponseHead)
    (head : ResponseHead)
    (tasks : List HttpTask) → EndFramed method upgrade got informed head tasks
    → EndFramed method upgrade (got ++ came) informed head tasks
framed_more method upgrade got came informed head tasks framed = record {
  framing = framed.framing;
  len = framed.len;
  has = HasFinal-append method upgrade got came informed head framed.framing framed.len framed.has;
  each = framed.each;
}

-- the same with one task more of the body
piece_framed : (method : List ℕ) (upgrade closed : Bool) (got came : List ℕ) (tasks : List HttpTask)
    (last : HttpTask) (old new : ResponseReading) (head : ResponseHead)
    → AreTasks method upgrade closed got tasks old → is_over old.place ≡ false
    → Cuts old.place (old.ahead ++ came) last new.ahead → (told_of tasks).final ≡ Some head
    → EndFramed method upgrade (got ++ came) (told_of tasks).informed head (tasks ++ last ∷ [])
piece_framed method upgrade closed got came tasks last old new head are going cuts tells =
    let framed = are.framed head tells in
    record {
      framing = framed.framing;
      len = framed.len;
      has = HasFinal-append method upgrade got came (told_of tasks).informed head framed.framing
          framed.len framed.has;
      each = All-push (EndsAs framed.framing) tasks last framed.each
          (task_ends method upgrade closed got (told_of tasks) old.place old.ahead
          (old.ahead ++ came)
          new.ahead last head framed.framing framed.len framed.has tells are.so_far.at going cuts);
    }

-- the same with one task more
framed_push : (method : List ℕ) (upgrade : Bool) (closed now : Bool) (got came : List ℕ)
    (tasks : List HttpTask)
    (last : HttpTask) (old new : ResponseReading)
    → AreTasks method upgrade closed got tasks old → is_over old.place ≡ false
    → IsResponseTask (told_of tasks) last
    → ReadSoFar method upgrade now (got ++ came) (with_task (told_of tasks) last) new
    → Cuts old.place (old.ahead ++ came) last new.ahead
    → (head : ResponseHead) → (with_task (told_of tasks) last).final ≡ Some head
    → EndFramed method upgrade (got ++ came) (with_task (told_of tasks) last).informed head
    (tasks ++ last ∷ [])
framed_push method upgrade closed now got came tasks (task.Header given end) old new are going is
    read cuts
    head tells =
    head_framed method upgrade now (got ++ came) tasks (told_of tasks) given end
    (is_informational given.status) new head refl is
    (λ framing. heads_alone framing untold tasks are.follow is (are.ended ∙ going)) read tells
framed_push method upgrade closed now got came tasks (task.Body None end) old new are going is read
    cuts
    head tells = absurd is
framed_push method upgrade closed now got came tasks (task.Body (Some piece) end) old new are going
    is read
    cuts head tells =
    piece_framed method upgrade closed got came tasks (task.Body (Some piece) end) old new head are
    going
    cuts tells
framed_push method upgrade closed now got came tasks (task.UpgradedBody piece end) old new are going
    is read
    cuts head tells = absurd is
framed_push method upgrade closed now got came tasks (task.Trailer fields) old new are going is read
    cuts
    head tells = absurd is
framed_push method upgrade closed now got came tasks task.Done old new are going is read cuts head
    tells =
    piece_framed method upgrade closed got came tasks task.Done old new head are going cuts tells
framed_push method upgrade closed now got came tasks (task.Failed error) old new are going is read
    cuts head
    tells = absurd is

-- the tasks with the one that a call gave
pub tasks_push : (method : List ℕ) (upgrade : Bool) (before after : LinkState) (got came : List ℕ)
    (tasks : List HttpTask) (last : HttpTask) (old new : ResponseReading)
    → AreTasks method upgrade before.ended got tasks old → is_over old.place ≡ false
    → IsResponseTask (told_of tasks) last → is_end last ≡ is_over new.place
    → ReadSoFar method upgrade after.ended (got ++ came) (with_task (told_of tasks) last) new
    → Cuts old.place (old.ahead ++ came) last new.ahead
    → AreTasks method upgrade after.ended (got ++ came) (tasks ++ last ∷ []) new
tasks_push method upgrade before after got came tasks last old new are going is ends read cuts =
    record {
      so_far = subst
          (λ (t : ToldResponse). ReadSoFar method upgrade after.ended (got ++ came) t new)
          (sym (told_push untold tasks last)) read;
      follow = follow_push untold tasks last are.follow is
          (stands_behind method upgrade after.ended (got ++ came) (told_of tasks) last new is read);
      ended = list_any-append is_end tasks (last ∷ [])
          ∙ ap (λ (b : Bool). b || list_any is_end (last ∷ [])) (are.ended ∙ going)
          ∙ or_nil (is_end last) ∙ ends;
      ends_last = last_ends tasks last (are.ended ∙ going);
      framed = subst
          (λ (t : ToldResponse). (head : ResponseHead) → t.final ≡ Some head
          → EndFramed method upgrade (got ++ came) t.informed head (tasks ++ last ∷ []))
          (sym (told_push untold tasks last))
          (framed_push method upgrade before.ended after.ended got came tasks last old new are going
          is read
          cuts);
    }

-- the tasks where a call gave none
pub tasks_kept : (method : List ℕ) (upgrade : Bool) (before after : LinkState) (got came : List ℕ)
    (tasks : List HttpTask) (old new : ResponseReading)
    → AreTasks method upgrade before.ended got tasks old → is_over new.place ≡ is_over old.place
    → ReadSoFar method upgrade after.ended (got ++ came) (told_of tasks) new
    → AreTasks method upgrade after.ended (got ++ came) tasks new
tasks_kept method upgrade before after got came tasks old new are same read = record {
  so_far = read;
  follow = are.follow;
  ended = are.ended ∙ sym same;
  ends_last = are.ends_last;
  framed = λ head told. framed_more method upgrade got came (told_of tasks).informed head tasks
      (are.framed head told);
}

-- no task came yet
pub no_tasks : (method : List ℕ) (upgrade closed : Bool) (new : ResponseReading)
    → ReadSoFar method upgrade closed [] untold new → AreTasks method upgrade closed [] [] new
no_tasks method upgrade closed new read = record {
  so_far = read;
  follow = tt;
  ended = sym (none_over new.place new.ahead read.at);
  ends_last = λ front behind same found. none_behind front behind same;
  framed = λ head told. absurd (never_some head told);
}
  where
    none_over : (at : ResponsePlace) (ahead : List ℕ)
        → ReadAt method upgrade closed [] untold at ahead → is_over at ≡ false
    none_over place.NoHead ahead read = refl
    none_over place.Informed ahead read = refl
    none_over (place.InBody body) ahead read = refl
    none_over (place.Ended keeps) ahead read = absurd (never_some read.head read.final)

-- ---- final heads

-- a final head that was told stands in the bytes
pub record FinalIn (method : List ℕ) (upgrade : Bool) (got : List ℕ) (final : ResponseHead) : Type 0
  where
    pub informed : List ResponseHead
    pub framing : Framing
    pub len : ℕ
    pub has : HasFinal method upgrade got informed final framing len

-- the same, by where the reading is
final_at : (method : List ℕ) (upgrade closed : Bool) (got : List ℕ) (told : ToldResponse)
    (final : ResponseHead)
    (at : ResponsePlace) (ahead : List ℕ) → is_informational final.status ≡ false
    → ReadAt method upgrade closed got (record told { final = Some final }) at ahead
    → FinalIn method upgrade got final
final_at method upgrade closed got told final at ahead last read =
    let there = final_told method upgrade closed got told final at ahead last read in
    record {
      informed = told.informed;
      framing = there.framing;
      len = there.len;
      has = there.has;
    }

-- the final head that a task brought stands in the bytes
pub final_in : (method : List ℕ) (upgrade closed : Bool) (got : List ℕ) (told : ToldResponse)
    (final : ResponseHead) (new : ResponseReading) → is_informational final.status ≡ false
    → ReadSoFar method upgrade closed got (with_head told final) new
    → FinalIn method upgrade got final
final_in method upgrade closed got told final new last read =
    final_at method upgrade closed got told final new.place new.ahead last
    (subst (λ (t : ToldResponse). ReadAt method upgrade closed got t new.place new.ahead)
    (ap (λ (b : Bool). if b then record told { informed = told.informed ++ final ∷ [] }
    else record told { final = Some final }) last)
    read.at)

-- what lacks a framing may have a body, wherever its stream ends
lacks_parts : (ends none length coding : Bool) → (not ends && not none && length && coding) ≡ true
    → (none ≡ false) × ((not false && not none && length && coding) ≡ true)
lacks_parts true none length coding is = cc
lacks_parts false true length coding is = cc
lacks_parts false false length coding is = (refl, is)

-- a status that may have a body does not only inform
bodiless : (low high other : Bool) (rest : Bool) → (low && high || rest) ≡ false
    → (low && high && not other) ≡ false
bodiless true true other rest is = cc
bodiless true false other rest is = refl
bodiless false high other rest is = refl

-- a head that lacks a framing is final
pub lacking_final : (method : List ℕ) (end : Bool) (head : ResponseHead)
    → lacks_framing method end head ≡ true
    → (is_informational head.status ≡ false) × (lacks_framing method false head ≡ true)
unfolding lacks_framing
lacking_final method end head lacks =
    let parts = lacks_parts end (has_no_body method head.status) _ _ lacks in (
      bodiless (nat_le 100 head.status) (nat_lt head.status 200) (head.status == 101)
          (head.status == 204 || head.status == 304)
          (or_right (bytes_eq method (codes "HEAD")) (is_bodiless head.status) parts.0),
      parts.1,
    )

-- ---- what tasks with an end say

-- tasks that end are the response whole, with its final head
pub record SaysWhole (method : List ℕ) (upgrade : Bool) (got : List ℕ) (closed : Bool)
    (told : ToldResponse) : Type 0 where
  pub place : ℕ
  pub head : ResponseHead
  pub whole : Tasks method upgrade got closed (says told (ended place))
  pub final : told.final ≡ Some head

-- a response that has ended is whole
whole_at : (method : List ℕ) (upgrade : Bool) (got : List ℕ) (closed : Bool) (told : ToldResponse)
    (at : ResponsePlace)
    (ahead : List ℕ)
    → is_over at ≡ true → ReadAt method upgrade closed got told at ahead
    → SaysWhole method upgrade got closed told
whole_at method upgrade got closed told place.NoHead ahead over read = absurd (cc)
whole_at method upgrade got closed told place.Informed ahead over read = absurd (cc)
whole_at method upgrade got closed told (place.InBody body) ahead over read = absurd (cc)
whole_at method upgrade got closed told (place.Ended keeps) ahead over read =
    record { place = read.place; head = read.head; whole = read.whole; final = read.final }

-- so it is where its tasks have an end
pub ended_whole : (method : List ℕ) (upgrade : Bool) (got : List ℕ) (closed : Bool)
    (tasks : List HttpTask)
    (client : ResponseReading) → AreTasks method upgrade closed got tasks client
    → list_any is_end tasks ≡ true → SaysWhole method upgrade got closed (told_of tasks)
ended_whole method upgrade got closed tasks client are ends =
    whole_at method upgrade got closed (told_of tasks) client.place client.ahead
    (sym are.ended ∙ ends)
    are.so_far.at
