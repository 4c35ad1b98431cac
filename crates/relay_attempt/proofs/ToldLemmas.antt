-- What the tasks of a response that are handed on tell, where a task behind them may be withheld.
use Rattle.std.proofs.Common.{◌≡◌, ℕ, ◌+◌, Bool, true, false, List, [], ◌∷◌, ◌++◌, refl, sym, ap, subst, ◌∙◌, append-nil, append_assoc, Option, Some, None, if◌then◌else◌}
use Rattle.std.specs.List.{All, list_any}
use Rattle.std.proofs.lemmas.List.Elements.{All-nil, All-cons, All-head, All-tail}
use Rattle.relay_tasks.specs.Head.{ResponseHead}
use Rattle.relay_tasks.specs.declared.task.HttpTask.{HttpTask}
use Rattle.relay_tasks.specs.declared.task.HttpTask.TheVariants as task
use Rattle.relay_tasks.specs.Task.{is_end}
use Rattle.relay_h1.specs.declared.framing.Framing.{Framing}
use Rattle.relay_h1.specs.ClientHead.{is_informational}
use Rattle.relay_h1.specs.Tasks.{Informs, HasFinal, Tasks, ResponseText}
use Rattle.relay_h1.specs.Tasks as tasks
use Rattle.relay_h1.proofs.TasksLemmas.{Informs-front, Stops-open, Stops-refused, Stops-final}
use Rattle.relay_peer.specs.declared.response_reading.ResponsePlace.{ResponsePlace}
use Rattle.relay_peer.specs.declared.response_reading.ResponsePlace.TheVariants as place
use Rattle.relay_peer.specs.declared.response_reading.ResponseReading.{ResponseReading}
use Rattle.relay_peer.specs.ResponseReading.{ToldResponse, ReadAt, IsResponseTask, untold, with_task, with_head, with_piece}
use Rattle.relay_core.specs.Moves.{EndsLast}
use Rattle.relay_peer.specs.Body.{IsFrontOf}
use Rattle.relay_peer.specs.Peer.{AreTasks, EndsAs, EndFramed, Follow, told_behind, told_of}
use Rattle.relay_peer.proofs.FrontLemmas.{own_front, front_more, front_then}
use Rattle.relay_peer.proofs.SaidLemmas.{told_front}

-- ---- more is told

-- more was told: a final head that was told stays, and no head comes behind it
pub record TellsOn (before after : ToldResponse) : Type 0 where
  pub informed : IsFrontOf before.informed after.informed
  pub body : IsFrontOf before.body after.body
  pub final : (head : ResponseHead) → before.final ≡ Some head
      → (after.final ≡ Some head) × (after.informed ≡ before.informed)

-- nothing more is told
same_tells : (told : ToldResponse) → TellsOn told told
same_tells told = record {
  informed = own_front told.informed;
  body = own_front told.body;
  final = λ head is. (is, refl);
}

-- more than more
tells_then : (a b c : ToldResponse) → TellsOn a b → TellsOn b c → TellsOn a c
tells_then a b c x y = record {
  informed = front_then a.informed b.informed c.informed x.informed y.informed;
  body = front_then a.body b.body c.body x.body y.body;
  final = λ head is. (
    (y.final head (x.final head is).0).0,
    (y.final head (x.final head is).0).1 ∙ (x.final head is).1,
  );
}

-- no final head was told where one is to come
never_both : {A : Type 0} (told : Option ResponseHead) (head : ResponseHead) → told ≡ None
    → told ≡ Some head → A
never_both told head none some = let both = sym none ∙ some in absurd (cc)

-- a head, where no final one was told
head_tells : (told : ToldResponse) (head : ResponseHead) → told.final ≡ None
    → TellsOn told (with_head told head)
head_tells told head none = on (is_informational head.status)
  where
    on : (informs : Bool)
        → TellsOn told (if informs then record told { informed = told.informed ++ head ∷ [] }
        else record told { final = Some head })
    on true = record {
      informed = front_more told.informed (head ∷ []);
      body = own_front told.body;
      final = λ other is. never_both told.final other none is;
    }
    on false = record {
      informed = own_front told.informed;
      body = own_front told.body;
      final = λ other is. never_both told.final other none is;
    }

-- a piece of the body
piece_tells : (told : ToldResponse) (piece : Option (List ℕ)) → TellsOn told (with_piece told piece)
piece_tells told None = same_tells told
piece_tells told (Some piece) = record {
  informed = own_front told.informed;
  body = front_more told.body piece;
  final = λ head is. (is, refl);
}

-- a task that follows what was told
task_tells : (told : ToldResponse) (one : HttpTask) → IsResponseTask told one
    → TellsOn told (with_task told one)
task_tells told (task.Header head end) is = head_tells told head is
task_tells told (task.Body piece end) is = piece_tells told piece
task_tells told (task.UpgradedBody piece end) is = absurd is
task_tells told (task.Trailer fields) is = absurd is
task_tells told task.Done is = same_tells told
task_tells told (task.Failed error) is = absurd is

-- tasks that follow what was told tell more
tasks_tell : (told : ToldResponse) (tasks : List HttpTask) → Follow told tasks
    → TellsOn told (told_behind told tasks)
tasks_tell told [] follow = same_tells told
tasks_tell told (one ∷ tasks) follow =
    tells_then told (with_task told one) (told_behind (with_task told one) tasks)
    (task_tells told one follow.0) (tasks_tell (with_task told one) tasks follow.2)

-- what is told in parts
told_append : (told : ToldResponse) (front behind : List HttpTask)
    → told_behind told (front ++ behind) ≡ told_behind (told_behind told front) behind
told_append told [] behind = refl
told_append told (one ∷ front) behind = told_append (with_task told one) front behind

-- tasks that follow what was told do so in parts
follow_parts : (told : ToldResponse) (front behind : List HttpTask) → Follow told (front ++ behind)
    → Follow told front × Follow (told_behind told front) behind
follow_parts told [] behind follow = (tt, follow)
follow_parts told (one ∷ front) behind follow =
    let rest = follow_parts (with_task told one) front behind follow.2 in
    ((follow.0, follow.1, rest.0), rest.1)

-- ---- what the bytes say

-- informational heads are the front of all of them
informed_front : (method : List ℕ) (upgrade closed : Bool) (got : List ℕ)
    (heads : List ResponseHead)
    (n : ℕ) (text : ResponseText) → Informs method upgrade got heads n
    → Tasks method upgrade got closed text → IsFrontOf heads text.informed
informed_front method upgrade closed got heads n _ informs
    (tasks.Tasks.head_open others m all still) =
    let rest = Informs-front method upgrade got heads others n m informs all
    (Stops-open method upgrade _ still) in
    record { rest = rest.0; joined = sym rest.1 }
informed_front method upgrade closed got heads n _ informs
    (tasks.Tasks.head_refused others m why all refused) =
    let rest = Informs-front method upgrade got heads others n m informs all
    (Stops-refused method upgrade _ why refused) in
    record { rest = rest.0; joined = sym rest.1 }
informed_front method upgrade closed got heads n _ informs
    (tasks.Tasks.has_final others m head framing len body all has is_final says) =
    let rest = Informs-front method upgrade got heads others n m informs all
    (Stops-final method upgrade _ head framing len has is_final) in
    record { rest = rest.0; joined = sym rest.1 }

-- the same, by where the reading is
informed_at : (method : List ℕ) (upgrade closed : Bool) (got : List ℕ) (told : ToldResponse)
    (at : ResponsePlace)
    (ahead : List ℕ) (text : ResponseText) → ReadAt method upgrade closed got told at ahead
    → Tasks method upgrade got closed text → IsFrontOf told.informed text.informed
informed_at method upgrade closed got told place.NoHead ahead text read said =
    informed_front method upgrade closed got told.informed read.0.n text read.0.informs said
informed_at method upgrade closed got told place.Informed ahead text read said =
    informed_front method upgrade closed got told.informed read.0.n text read.0.informs said
informed_at method upgrade closed got told (place.InBody body) ahead text read said =
    informed_front method upgrade closed got told.informed read.n text read.informs said
informed_at method upgrade closed got told (place.Ended keeps) ahead text read said =
    informed_front method upgrade closed got told.informed read.n text read.informs said

-- a final head stands in the bytes, behind those that inform
pub record FinalBehind (method : List ℕ) (upgrade : Bool) (got : List ℕ)
    (informed : List ResponseHead) (final : ResponseHead)
    : Type 0 where
  pub framing : Framing
  pub len : ℕ
  pub has : HasFinal method upgrade got informed final framing len

-- one head
same_some : (a b : ResponseHead) → Some a ≡ Some b → a ≡ b
same_some a b same = cc

-- the final head of what the bytes say
final_said : (method : List ℕ) (upgrade closed : Bool) (got : List ℕ) (text : ResponseText)
    (final : ResponseHead) → Tasks method upgrade got closed text → text.final ≡ Some final
    → FinalBehind method upgrade got text.informed final
final_said method upgrade closed got _ final (tasks.Tasks.head_open heads n informs still) is =
    absurd (cc)
final_said method upgrade closed got _ final (tasks.Tasks.head_refused heads n why informs refused)
    is =
    absurd (cc)
final_said method upgrade closed got _ final
    (tasks.Tasks.has_final heads n head framing len body informs has is_final says) is =
    subst (λ (h : ResponseHead). FinalBehind method upgrade got heads h) (same_some head final is)
    (record {
      framing = framing;
      len = n + len;
      has = record {
        place = n;
        own = len;
        informs = informs;
        has = has;
        final = is_final;
        ends = refl;
      };
    })

-- the final head that was told, by where the reading is
final_at : (method : List ℕ) (upgrade closed : Bool) (got : List ℕ) (told : ToldResponse)
    (at : ResponsePlace)
    (ahead : List ℕ) (final : ResponseHead) → ReadAt method upgrade closed got told at ahead
    → told.final ≡ Some final → FinalBehind method upgrade got told.informed final
final_at method upgrade closed got told place.NoHead ahead final read is =
    never_both told.final final read.0.no_final is
final_at method upgrade closed got told place.Informed ahead final read is =
    never_both told.final final read.0.no_final is
final_at method upgrade closed got told (place.InBody body) ahead final read is =
    subst (λ (h : ResponseHead). FinalBehind method upgrade got told.informed h)
    (same_some read.head final (sym read.final ∙ is))
    (record {
      framing = read.framing;
      len = read.n + read.len;
      has = record {
        place = read.n;
        own = read.len;
        informs = read.informs;
        has = read.has;
        final = read.is_final;
        ends = refl;
      };
    })
final_at method upgrade closed got told (place.Ended keeps) ahead final read is =
    final_said method upgrade closed got _ final read.whole is

-- ---- tasks that are handed on, and those that are withheld

-- what holds of all tasks holds of those in front
all_front : (P : HttpTask → Type 0) (front behind : List HttpTask) → All P (front ++ behind)
    → All P front
all_front P [] behind all = All-nil P
all_front P (one ∷ front) behind all =
    All-cons P one front (All-head P one (front ++ behind) all)
    (all_front P front behind (All-tail P one (front ++ behind) all))

-- the front of an empty list
no_tasks : (front behind : List HttpTask) → front ++ behind ≡ [] → front ≡ []
no_tasks [] behind none = refl
no_tasks (one ∷ front) behind none = absurd (cc)

module _
    (method : List ℕ) (upgrade closed : Bool) (got : List ℕ) (given withheld : List HttpTask)
    (client : ResponseReading) (are : AreTasks method upgrade closed got (given ++ withheld) client)
  where
    -- what those in front tell is the front of what all tell
    given_tell : TellsOn (told_of given) (told_of (given ++ withheld))
    given_tell =
        subst (λ (t : ToldResponse). TellsOn (told_of given) t)
        (sym (told_append untold given withheld))
        (tasks_tell (told_of given) withheld (follow_parts untold given withheld are.follow).1)

    -- those in front follow one another
    pub given_follow : Follow untold given
    given_follow = (follow_parts untold given withheld are.follow).0

    -- their informational heads are the front of those that the bytes say
    pub given_informed : (text : ResponseText) → Tasks method upgrade got closed text
        → IsFrontOf (told_of given).informed text.informed
    given_informed text said =
        front_then (told_of given).informed (told_of (given ++ withheld)).informed text.informed
        given_tell.informed
        (informed_at method upgrade closed got (told_of (given ++ withheld)) client.place
        client.ahead text
        are.so_far.at said)

    -- their final head stands in the bytes
    pub given_final : (head : ResponseHead) → (told_of given).final ≡ Some head
        → FinalBehind method upgrade got (told_of given).informed head
    given_final head is =
        let all = given_tell.final head is in
        subst (λ (hs : List ResponseHead). FinalBehind method upgrade got hs head) all.1
        (final_at method upgrade closed got (told_of (given ++ withheld)) client.place client.ahead
        head
        are.so_far.at all.0)

    -- they end its body as it is framed
    pub given_framed : (head : ResponseHead) → (told_of given).final ≡ Some head
        → EndFramed method upgrade got (told_of given).informed head given
    given_framed head is =
        let all = given_tell.final head is in
        let framed = are.framed head all.0 in
        record {
          framing = framed.framing;
          len = framed.len;
          has = subst (λ (hs : List ResponseHead). HasFinal method upgrade got hs head
              framed.framing
              framed.len) all.1 framed.has;
          each = all_front (EndsAs framed.framing) given withheld framed.each;
        }

    -- the bytes of the body that they bring are the front of those that the bytes say
    pub given_body : (text : ResponseText) → Tasks method upgrade got closed text
        → IsFrontOf (told_of given).body text.body
    given_body text said =
        front_then (told_of given).body (told_of (given ++ withheld)).body text.body
        given_tell.body (told_front method upgrade closed got (given ++ withheld) client text are
        said)

    -- an end among them is the last of them
    pub given_ends_last : EndsLast given
    given_ends_last = λ front behind same found.
        no_tasks behind withheld
        (are.ends_last front (behind ++ withheld)
        (ap (λ (l : List HttpTask). l ++ withheld) same ∙ append_assoc front behind withheld) found)

    -- and nothing is withheld behind it
    pub given_all : list_any is_end given ≡ true
        → AreTasks method upgrade closed got given client
    given_all ends =
        subst (λ (l : List HttpTask). AreTasks method upgrade closed got l client)
        (ap (λ (l : List HttpTask). given ++ l) (are.ends_last given withheld refl ends)
        ∙ append-nil given)
        are
