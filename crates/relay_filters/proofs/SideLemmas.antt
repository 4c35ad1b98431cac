-- A side behind filters: how each answer of the inner side goes on, with the calls that it led to.
use Rattle.std.proofs.Common.{◌≡◌, ℕ, ◌⊎◌, Bool, true, false, ◌||◌, ◌&&◌, List, [], ◌∷◌, ◌++◌, drop, length, Option, Some, None, is_some, Ok, Err, arith, refl, sym, ap, subst, ◌∙◌, append-nil, append_assoc, inl, inr, true≢false, IsTrue, IsSome, option_map, unwrap_or}
use Rattle.std.specs.List.{list_any}
use Rattle.std.proofs.Math.Seq.{drop-append_seam}
use Rattle.std.proofs.lemmas.List.Elements.{All-nil}
use Rattle.relay_tasks.specs.declared.error.Error.{Error}
use Rattle.relay_tasks.specs.declared.error.Fail.{Fail}
use Rattle.relay_tasks.specs.declared.error.Fail.TheVariants as fail
use Rattle.relay_tasks.specs.declared.log.Item.TheVariants as item
use Rattle.relay_tasks.specs.declared.log.LogEntry.{LogEntry}
use Rattle.relay_tasks.specs.declared.task.HttpTask.{HttpTask}
use Rattle.relay_tasks.specs.declared.task.HttpTask.TheVariants as task
use Rattle.relay_tasks.specs.Error.{IsMemoryOr}
use Rattle.relay_tasks.specs.Task.{is_end}
use Rattle.relay_session.specs.Reading.{head_of}
use Rattle.relay_session.specs.declared.session.HttpSession.{HttpSession}
use Rattle.relay_core.specs.Past.{BatchRefused, DownGoes, DownPast, error_of_fail}
use Rattle.relay_core.specs.Pipe.{is_failure}
use Rattle.relay_core.specs.Piece.{put_of, task_put_of}
use Rattle.relay_core.specs.declared.piece.Piece.{Piece}
use Rattle.relay_core.specs.declared.told.Told.{Told}
use Rattle.relay_modules.specs.declared.seen.Seen.{Seen}
use Rattle.relay_hooks.specs.Standing.{Standing}
use Rattle.relay_calls.specs.Log.{modules_in, requests_in, responses_in}
use Rattle.relay_calls.proofs.LogLemmas.{modules_in-append, requests_in-append, responses_in-append}
use Rattle.relay_sides.specs.Filtered.{is_head_request}
use Rattle.relay_filters.specs.Chain.{AllPass, PassedModules, PassesModules, Refuses, by_hook, TaskChain}
use Rattle.relay_filters.specs.Request.{Filtered, Filters, PassesRequest, PieceCall, by_pieces, is_last, piece_of, pieces_in}
use Rattle.relay_filters.specs.Response as batches
use Rattle.relay_filters.specs.Response.{BatchPasses, BatchStops, MakesOf, Outcome, PartsOf, Stage, WasMade}
use Rattle.relay_filters.specs.Hooked.{BlamesInside, BlamesOver, IsHooked, RefusesOver, TakesOn, by_filter, by_inner, failure_in_front, had_stopped, inside, refused_at_once}
use Rattle.relay_filters.proofs.ChainLemmas.{all_append, all_split, parts_append, refuses_behind}
use Rattle.relay_filters.proofs.PieceLemmas.{OfRequest, chain_call, chain_last, chains_less, chains_more, chains_none, chains_still, lost_of, lost_parts, modules_on, piece_parts, pieces_less, pieces_more, responses_on}
use Rattle.relay_filters.proofs.RequestLemmas.{ends_one, one_lost, one_piece, one_refused, same_request}

-- ---- answers

-- something is not none
pub some_none : {A : Type 0} (why : Fail) → Some why ≡ None → A
some_none why is = cc

-- the error of a failure is its own
pub fail_is : (why : Fail) (e : Error) → error_of_fail why ≡ Some e → why ≡ fail.Error e
fail_is fail.OutOfMemory e told = cc
fail_is (fail.Error error) e told = ap fail.Error (some_error error e told)
  where
    some_error : (a b : Error) → Some a ≡ Some b → a ≡ b
    some_error a b same = cc

-- a side has not stopped
abbrev Going : Type 0
Going = ◌≡◌ {A = Option Fail} None None

-- out of memory is no error
no_memory : {A : Type 0} {e : Error} → Some fail.OutOfMemory ≡ Some (fail.Error e) → A
no_memory is = cc

-- ---- the response

-- what came of the response is the same
same_response : (oh stood : Bool) (own : List LogEntry) (on : Type 0)
    (came came' made made' : List HttpTask) → came' ≡ came → made' ≡ made
    → MakesOf oh stood own on came made → MakesOf oh stood own on came' made'
same_response oh stood own on came came' made made' is is' r =
    subst (λ (l : List HttpTask). MakesOf oh stood own on l made') (sym is)
    (subst (λ (l : List HttpTask). MakesOf oh stood own on came l) (sym is') r)

-- a stage by the same calls
stage_on : (chain : HttpTask → List LogEntry → HttpTask → Type 0) (es es' : List LogEntry)
    (on on' : Type 0) (xs ys : List HttpTask) → es' ≡ es → (on' → on) → Stage chain es on xs ys
    → Stage chain es' on' xs ys
stage_on chain es es' on on' xs ys is off s = record {
  done = s.done;
  dropped = s.dropped;
  calls = is ∙ s.calls;
  all = λ o. s.all (off o);
  pass = s.pass;
}

-- more passed a stage that goes on
stage_more : (chain : HttpTask → List LogEntry → HttpTask → Type 0) (es es' fs : List LogEntry)
    (on on' : Type 0) (xs xs' ys ys' : List HttpTask) → es' ≡ es ++ fs → on
    → Stage chain es on xs ys → AllPass chain fs xs' ys'
    → Stage chain es' on' (xs ++ xs') (ys ++ ys')
stage_more chain es es' fs on on' xs xs' ys ys' is o s pass = record {
  done = s.done ++ fs;
  dropped = [];
  calls = is
      ∙ ap (λ (l : List LogEntry). l ++ fs)
      (s.calls ∙ ap (λ (l : List LogEntry). s.done ++ l) (s.all o) ∙ append-nil s.done)
      ∙ sym (append-nil (s.done ++ fs));
  all = λ so. refl;
  pass = all_append chain s.done fs xs xs' ys ys' s.pass pass;
}

-- calls of a batch that was refused
stage_drop : (chain : HttpTask → List LogEntry → HttpTask → Type 0) (es es' fs : List LogEntry)
    (on on' : Type 0) (xs ys : List HttpTask) → es' ≡ es ++ fs → (on' → ⊥)
    → Stage chain es on xs ys → Stage chain es' on' xs ys
stage_drop chain es es' fs on on' xs ys is off s = record {
  done = s.done;
  dropped = s.dropped ++ fs;
  calls = is ∙ ap (λ (l : List LogEntry). l ++ fs) s.calls
      ∙ append_assoc s.done s.dropped fs;
  all = λ o. absurd (off o);
  pass = s.pass;
}

-- what follows from a chain follows of each of a list
all_so : (chain chain' : HttpTask → List LogEntry → HttpTask → Type 0)
    → ((x : HttpTask) (es : List LogEntry) (y : HttpTask) → chain x es y → chain' x es y)
    → (es : List LogEntry) (xs ys : List HttpTask) → AllPass chain es xs ys
    → AllPass chain' es xs ys
all_so chain chain' so es [] [] none = none
all_so chain chain' so es [] (y ∷ ys) none = absurd none
all_so chain chain' so es (x ∷ xs) [] none = absurd none
all_so chain chain' so es (x ∷ xs) (y ∷ ys) (own, rest, is, c, pass) =
    (own, rest, is, so x own y c, all_so chain chain' so rest xs ys pass)

-- and so of a stage
stage_so : (chain chain' : HttpTask → List LogEntry → HttpTask → Type 0)
    → ((x : HttpTask) (es : List LogEntry) (y : HttpTask) → chain x es y → chain' x es y)
    → (es : List LogEntry) (on : Type 0) (xs ys : List HttpTask) → Stage chain es on xs ys
    → Stage chain' es on xs ys
stage_so chain chain' so es on xs ys s = record {
  done = s.done;
  dropped = s.dropped;
  calls = s.calls;
  all = s.all;
  pass = all_so chain chain' so s.done xs ys s.pass;
}

-- a task that had passed, with one batch more
passed_on : (stood stand : Bool) (x : HttpTask) (es : List LogEntry) (y : HttpTask)
    → PassedModules stood x es y → PassedModules (stood && stand) x es y
passed_on true true x es y c = c
passed_on true false x es y c = inl c
passed_on false stand x es y c = c

-- and one of that batch
passes_on : (stood stand : Bool) (x : HttpTask) (es : List LogEntry) (y : HttpTask)
    → PassesModules stand x es y → PassedModules (stood && stand) x es y
passes_on true true x es y c = c
passes_on true false x es y c = inr c
passes_on false true x es y c = inl c
passes_on false false x es y c = inr c

-- the calls of other filters leave the response
response_on : (oh stood : Bool) (own own' : List LogEntry) (on on' : Type 0)
    (came made : List HttpTask)
    → responses_in own' ≡ responses_in own → modules_in own' ≡ modules_in own → (on' → on)
    → MakesOf oh stood own on came made → MakesOf oh stood own' on' came made
response_on oh stood own own' on on' came made is is' off r = record {
  mid = r.mid;
  by_app = stage_on (TaskChain oh) (responses_in own) (responses_in own') on on' came r.mid is off
      r.by_app;
  by_modules = stage_on (PassedModules stood) (modules_in own) (modules_in own') on on' r.mid made
      is' off r.by_modules;
}

-- the parts of a log with these calls behind
responses_more : (own es a b : List LogEntry) → PartsOf es a b
    → responses_in (own ++ es) ≡ responses_in own ++ a
responses_more own es a b p =
    responses_in-append own es ∙ ap (λ (l : List LogEntry). responses_in own ++ l) p.responses

modules_more : (own es a b : List LogEntry) → PartsOf es a b
    → modules_in (own ++ es) ≡ modules_in own ++ b
modules_more own es a b p =
    modules_in-append own es ∙ ap (λ (l : List LogEntry). modules_in own ++ l) p.modules

pub requests_same : (own es a b : List LogEntry) → PartsOf es a b
    → requests_in (own ++ es) ≡ requests_in own
requests_same own es a b p =
    requests_in-append own es ∙ ap (λ (l : List LogEntry). requests_in own ++ l) p.requests
    ∙ append-nil (requests_in own)

-- the parts of the calls of a batch
both_parts : (es first last : List LogEntry) → es ≡ first ++ last → PartsOf first first []
    → PartsOf last [] last → PartsOf es first last
both_parts es first last is p q =
    subst (λ (l : List LogEntry). PartsOf l first last) (sym is)
    (subst (λ (l : List LogEntry). PartsOf (first ++ last) l last) (append-nil first)
    (parts_append first last first [] [] last p q))

pub batch_parts : (oh stand : Bool) (tasks : List HttpTask) (es : List LogEntry)
    (made : List HttpTask)
    → (b : BatchPasses oh stand tasks es made) → PartsOf es b.by_app b.by_modules
batch_parts oh stand tasks es made b =
    both_parts es b.by_app b.by_modules b.calls b.are_apps b.are_modules

-- the calls of a batch that was refused are of a response
pub record HasParts (es : List LogEntry) : Type 0 where
  pub apps : List LogEntry
  pub modules : List LogEntry
  pub are : PartsOf es apps modules

pub stop_parts : (oh stand : Bool) (tasks : List HttpTask) (es : List LogEntry)
    → BatchStops oh stand tasks es
    → HasParts es
stop_parts oh stand tasks es (batches.BatchStops.by_app are front) = record
    { apps = es; modules = []; are = are }
stop_parts oh stand tasks es (batches.BatchStops.by_modules stands mid first last is p q pass
    front) =
    record { apps = first; modules = last; are = both_parts es first last is p q }

-- a batch passed
makes_on : (oh stood stand : Bool) (own es : List LogEntry) (on on' : Type 0)
    (came tasks queued made : List HttpTask) → on → MakesOf oh stood own on came queued
    → BatchPasses oh stand tasks es made
    → MakesOf oh (stood && stand) (own ++ es) on' (came ++ tasks) (queued ++ made)
makes_on oh stood stand own es on on' came tasks queued made o r b =
    let parts = batch_parts oh stand tasks es made b in
    record {
      mid = r.mid ++ b.mid;
      by_app = stage_more (TaskChain oh) (responses_in own) (responses_in (own ++ es)) b.by_app on
          on' came tasks r.mid b.mid (responses_more own es b.by_app b.by_modules parts) o r.by_app
          b.pass;
      by_modules = stage_more (PassedModules (stood && stand)) (modules_in own)
          (modules_in (own ++ es)) b.by_modules on on' r.mid b.mid queued made
          (modules_more own es b.by_app b.by_modules parts) o
          (stage_so (PassedModules stood) (PassedModules (stood && stand)) (passed_on stood stand)
          (modules_in own) on r.mid queued r.by_modules)
          (all_so (PassesModules stand) (PassedModules (stood && stand)) (passes_on stood stand)
          b.by_modules b.mid made b.made_so);
    }

-- a batch was refused by a filter
makes_drop : (oh stood : Bool) (own es : List LogEntry) (on on' : Type 0)
    (came queued : List HttpTask) → (on' → ⊥) → HasParts es → MakesOf oh stood own on came queued
    → MakesOf oh stood (own ++ es) on' came queued
makes_drop oh stood own es on on' came queued off parts r = record {
  mid = r.mid;
  by_app = stage_drop (TaskChain oh) (responses_in own) (responses_in (own ++ es)) parts.apps on on'
      came r.mid (responses_more own es parts.apps parts.modules parts.are) off r.by_app;
  by_modules = stage_drop (PassedModules stood) (modules_in own) (modules_in (own ++ es))
      parts.modules on on' r.mid queued (modules_more own es parts.apps parts.modules parts.are) off
      r.by_modules;
}

-- a batch passed its filters, and the inner side took a front of what they made
record Takes (oh stood stand : Bool) (own es : List LogEntry) (on' : Type 0)
    (came tasks queued front behind : List HttpTask) : Type 0 where
  pub first : List HttpTask
  pub last : List HttpTask
  pub are : first ++ last ≡ tasks
  pub makes : MakesOf oh (stood && stand) (own ++ es) on' (came ++ first) (queued ++ front)
  pub made : WasMade oh stand (own ++ es) last behind

makes_front : (oh stood stand : Bool) (own es : List LogEntry) (on on' : Type 0)
    (came tasks queued made front behind : List HttpTask) → on → (on' → ⊥)
    → front ++ behind ≡ made → MakesOf oh stood own on came queued
    → BatchPasses oh stand tasks es made
    → Takes oh stood stand own es on' came tasks queued front behind
makes_front oh stood stand own es on on' came tasks queued made front behind o off is r b =
    let parts = batch_parts oh stand tasks es made b in
    let s = all_split (PassesModules stand) b.by_modules b.mid front behind
    (subst (λ (l : List HttpTask). AllPass (PassesModules stand) b.by_modules b.mid l) (sym is)
    b.made_so) in
    let chain = PassedModules (stood && stand) in
    let t = all_split (TaskChain oh) b.by_app tasks s.first s.last
    (subst (λ (l : List HttpTask). AllPass (TaskChain oh) b.by_app tasks l) s.are b.pass) in
    let apps_are : responses_in (own ++ es) ≡ (responses_in own ++ t.calls) ++ t.more =
    responses_more own es b.by_app b.by_modules parts
    ∙ ap (λ (l : List LogEntry). responses_in own ++ l) t.parts
    ∙ sym (append_assoc (responses_in own) t.calls t.more) in
    let modules_are : modules_in (own ++ es) ≡ (modules_in own ++ s.calls) ++ s.more =
    modules_more own es b.by_app b.by_modules parts
    ∙ ap (λ (l : List LogEntry). modules_in own ++ l) s.parts
    ∙ sym (append_assoc (modules_in own) s.calls s.more) in
    record {
      first = t.first;
      last = t.last;
      are = sym t.are;
      makes = record {
        mid = r.mid ++ s.first;
        by_app = stage_drop (TaskChain oh) (responses_in own ++ t.calls)
            (responses_in (own ++ es)) t.more on on' (came ++ t.first) (r.mid ++ s.first) apps_are
            off
            (stage_more (TaskChain oh) (responses_in own) (responses_in own ++ t.calls) t.calls on
            on came t.first r.mid s.first refl o r.by_app t.pass);
        by_modules = stage_drop chain (modules_in own ++ s.calls) (modules_in (own ++ es))
            s.more on on' (r.mid ++ s.first) (queued ++ front) modules_are off
            (stage_more chain (modules_in own) (modules_in own ++ s.calls) s.calls on on r.mid
            s.first queued front refl o
            (stage_so (PassedModules stood) chain (passed_on stood stand) (modules_in own) on r.mid
            queued r.by_modules)
            (all_so (PassesModules stand) chain (passes_on stood stand) s.calls s.first front
            s.pass));
      };
      made = record {
        mid = s.last;
        apps = responses_in own ++ t.calls;
        by_app = t.more;
        are_apps = apps_are;
        modules = modules_in own ++ s.calls;
        by_modules = s.more;
        are_modules = modules_are;
        pass = t.pass_on;
        made_so = s.pass_on;
      };
    }

-- ---- the inner side alone

-- what passed goes on where the inner side does, and no filter was called
stands_on : (inner inner' : DownPast → Type 0) (method : List ℕ) (c : HttpSession)
    (called log : List LogEntry) (oh a ended ended' u u' rf stood : Bool)
    (st : Option Fail) (p p' : DownPast) (came' queued' : List HttpTask)
    (h : IsHooked inner method c called log oh a ended u rf stood st p)
    → (u' ≡ false → (u ≡ false) × (ended' ≡ ended))
    → came' ≡ h.came → queued' ≡ h.queued → p'.put ≡ p.put → p'.batched ≡ p.batched
    → inner' (inside p' came' queued')
    → IsHooked inner' method c called log oh a ended' u' rf stood st p'
stands_on inner inner' method c called log oh a ended ended' u u' rf stood st p p' came' queued'
    h plain is is' same same' holds = record {
      came = came';
      queued = queued';
      holds = holds;
      own = h.own;
      parts = h.parts;
      chains = h.chains;
      request = λ not_up.
          let both = plain not_up in
          subst (λ (b : Bool). PassesRequest a b (pieces_in h.own) (st ≡ None) came' p'.put)
          (sym both.1)
          (same_request a ended (pieces_in h.own) (st ≡ None) h.came came' p.put p'.put is same
          (h.request both.0));
      is_of_head = h.is_of_head;
      response = same_response oh stood h.own (TakesOn st rf) p.batched p'.batched h.queued queued'
          same' is' h.response;
      head = h.head;
      told = h.told;
    }

-- the inner side went on
pub goes_on : (inner inner' : DownPast → Type 0) (blames' : DownPast → Error → Type 0) (by : Error → Type 0)
    (method : List ℕ) (c : HttpSession) (called log : List LogEntry)
    (oh a ended ended' u u' rf stood : Bool) (st : Option Fail) (p : DownPast)
    (put_in put batched_in batched closing : List HttpTask) (error : Option Error)
    (h : IsHooked inner method c called log oh a ended u rf stood st p)
    → (u' ≡ false → (u ≡ false) × (ended' ≡ ended))
    → put_in ≡ h.came → put ≡ p.put → batched_in ≡ h.queued → batched ≡ p.batched
    → DownGoes inner' blames' put_in batched_in closing error
    → DownGoes (IsHooked inner' method c called log oh a ended' u' rf stood st)
    (λ past e. BlamesInside inner' blames' past e ⊎ by e) put batched closing error
goes_on inner inner' blames' by method c called log oh a ended ended' u u' rf stood st p put_in put
    batched_in batched closing error h plain is same is' same' g = record {
      past = record g.past { put = put; batched = batched };
      stands =
          stands_on inner inner' method c called log oh a ended ended' u u' rf stood st p
          (record g.past { put = put; batched = batched }) g.past.put g.past.batched h plain
          (g.is_put ∙ is) (g.is_batched ∙ is') same same' g.stands;
      is_put = refl;
      is_batched = refl;
      is_closing = g.is_closing;
      blamed = λ e told. inl (g.past.put, g.past.batched, g.stands, g.blamed e told);
    }

-- ---- a piece

-- a piece comes behind these tasks: it puts one, which is an end where it is the last; and no end
-- came before
pub record Comes (u : Bool) (piece : Piece) (came : List HttpTask) : Type 0 where
  pub puts : is_some (task_put_of u piece) ≡ true
  pub first : list_any is_end came ≡ true → ⊥
  pub ends : is_last piece ≡ true → list_any is_end (came ++ put_of u piece) ≡ true

-- the side's own calls are those behind those that stood in the log
own_behind : (called own log : List LogEntry) → log ≡ called ++ own
    → drop (length called) log ≡ own
own_behind called own log parts = rw parts (drop-append_seam called own)

-- the log behind more calls
parts_behind : (called own es log log' : List LogEntry) → log ≡ called ++ own → log' ≡ log ++ es
    → log' ≡ called ++ (own ++ es)
parts_behind called own es log log' is is' =
    is' ∙ ap (λ (l : List LogEntry). l ++ es) is ∙ append_assoc called own es

-- the response is as it was, behind calls of the request
response_as : (oh rf stood : Bool) (st : Option Fail) (own es : List LogEntry)
    (came queued : List HttpTask) → OfRequest es → (TakesOn st rf → TakesOn None rf)
    → MakesOf oh stood own (TakesOn None rf) came queued
    → MakesOf oh stood (own ++ es) (TakesOn st rf) came queued
response_as oh rf stood st own es came queued of off r =
    response_on oh stood own (own ++ es) (TakesOn None rf) (TakesOn st rf) came queued
    (responses_on own es of) (modules_on own es of) off r

-- a piece was read and filtered
reads_open : (inner inner' : DownPast → Type 0) (blames' : DownPast → Error → Type 0) (by : Error → Type 0)
    (allows : Standing → LogEntry → Type 0) (method : List ℕ) (seen : Seen) (mark : ℕ)
    (called : List LogEntry) (oh a ended u u' rf stood stand : Bool) (p : DownPast)
    (piece made : Piece) (seen' : Seen) (mark' : ℕ)
    (h : IsHooked inner method seen.downstream called seen.log oh a ended u rf stood None p)
    → u' ≡ u
    → Comes u piece h.came
    → Filtered allows stand ended piece made seen mark seen' mark'
    → DownGoes inner' blames' (h.came ++ put_of u piece) h.queued p.closing None
    → DownGoes (IsHooked inner' method seen'.downstream called seen'.log oh a
    (ended || made.upstream_end) u' rf stood None)
    (λ past e. BlamesInside inner' blames' past e ⊎ by e) (p.put ++ put_of u made) p.batched p.closing
    None
reads_open inner inner' blames' by allows method seen mark called oh a ended u u' rf stood stand p
    piece made seen' mark' h up comes f g =
    let end = is_last piece in
    let es = f.came.es in
    let e = f.came.call in
    let one = piece_of ended end piece.client_end (is_some piece.bytes) f.left in
    subst (λ (m : Piece). DownGoes
    (IsHooked inner' method seen'.downstream called seen'.log oh a
    (ended || m.upstream_end) u' rf stood None)
    (λ past e. BlamesInside inner' blames' past e ⊎ by e) (p.put ++ put_of u m) p.batched p.closing
    None) (sym f.is_made)
    (record {
      past = record g.past { put = p.put ++ put_of u one; batched = p.batched };
      stands = record {
        came = g.past.put;
        queued = g.past.batched;
        holds = g.stands;
        own = h.own ++ es;
        parts = parts_behind called h.own es seen.log seen'.log h.parts f.came.adds.log;
        chains = chains_more h.own es Going refl h.chains stand e f.came.chain Going;
        request = λ plain.
            let low = sym up ∙ plain in
            subst (λ (l : List LogEntry). PassesRequest a (ended || one.upstream_end) l
            Going g.past.put (p.put ++ put_of u one))
            (sym (pieces_more h.own es Going refl h.chains stand e f.came.chain))
            (one_piece a ended end piece.client_end u (pieces_in h.own) Going h.came
            g.past.put p.put (p.put ++ put_of u one) piece f.left e refl (h.request low)
            (chain_call stand es e f.came.chain) g.is_put comes.puts comes.first
            (λ is. ap (list_any is_end) g.is_put ∙ comes.ends is)
            (ap (λ (b : Bool). p.put ++ put_of b one) low) f.came.was f.came.became f.came.says);
        is_of_head = h.is_of_head;
        response =
            same_response oh stood (h.own ++ es) (TakesOn None rf) p.batched p.batched h.queued
            g.past.batched refl g.is_batched
            (response_as oh rf stood None h.own es p.batched h.queued
            (piece_parts stand es e f.came.chain) (λ so. so) h.response);
        head = λ on. f.came.adds.head;
        told = λ e is. cc;
      };
      is_put = refl;
      is_batched = refl;
      is_closing = g.is_closing;
      blamed = λ e isnt. cc;
    })

-- the filters refused a piece, or memory was wanted
stops_open : (inner inner' : DownPast → Type 0) (blames' : DownPast → Error → Type 0) (told' : Told)
    (allows : Standing → LogEntry → Type 0) (method : List ℕ) (seen : Seen) (mark : ℕ)
    (called : List LogEntry) (oh a ended u u' rf stood stand : Bool) (p : DownPast) (piece : Piece)
    (why : Fail) (put : List HttpTask)
    (seen' : Seen) (mark' : ℕ)
    (h : IsHooked inner method seen.downstream called seen.log oh a ended u rf stood None p)
    → u' ≡ u → put ≡ p.put
    → Comes u piece h.came
    → Filters allows stand ended piece (Err why) seen mark seen' mark'
    → DownGoes inner' blames' (h.came ++ put_of u piece) h.queued p.closing None
    → DownGoes (IsHooked inner' method seen'.downstream called seen'.log oh a ended u' rf
    stood (Some why))
    (λ past e. BlamesOver inner' blames' (Some why) told'
    (drop (length called) seen'.log) past e) put p.batched p.closing
    (error_of_fail why)
stops_open inner inner' blames' told' allows method seen mark called oh a ended u u' rf stood stand
    p piece fail.OutOfMemory put seen' mark' h up same comes f g =
    let es = f.es in
    let lost = lost_of es stand (λ m. m.call.input ≡ item.Piece piece.bytes (is_last piece)) f.are
    in
    record {
      past = record g.past { put = put; batched = p.batched };
      stands = record {
        came = g.past.put;
        queued = g.past.batched;
        holds = g.stands;
        own = h.own ++ es;
        parts = parts_behind called h.own es seen.log seen'.log h.parts f.adds.log;
        chains = chains_less h.own es Going refl h.chains lost (Some fail.OutOfMemory ≡ None)
            (λ so. some_none fail.OutOfMemory so);
        request = λ plain.
            subst (λ (l : List LogEntry). PassesRequest a ended l (Some fail.OutOfMemory ≡ None)
            g.past.put put)
            (sym (pieces_less h.own es Going refl h.chains lost))
            (one_lost a ended u (pieces_in h.own) Going (Some fail.OutOfMemory ≡ None)
            h.came g.past.put p.put put piece (λ so. some_none fail.OutOfMemory so)
            (h.request (sym up ∙ plain)) g.is_put comes.first same);
        is_of_head = h.is_of_head;
        response =
            same_response oh stood (h.own ++ es) (TakesOn (Some fail.OutOfMemory) rf) p.batched
            p.batched h.queued g.past.batched refl g.is_batched
            (response_as oh rf stood (Some fail.OutOfMemory) h.own es p.batched h.queued
            (lost_parts es lost) (λ so. some_none fail.OutOfMemory so.0) h.response);
        head = λ so. some_none fail.OutOfMemory so;
        told = λ e is. cc;
      };
      is_put = refl;
      is_batched = refl;
      is_closing = g.is_closing;
      blamed = λ e isnt. cc;
    }
stops_open inner inner' blames' told' allows method seen mark called oh a ended u u' rf stood stand
    p piece (fail.Error error) put seen' mark' h up same comes f g =
    let end = is_last piece in
    let es = f.came.es in
    let e = f.came.call in
    let ends = chain_last stand es e f.came.chain in
    let own_ends : h.own ++ es ≡ (h.own ++ ends.front) ++ ends.last ∷ [] =
    ap (λ (l : List LogEntry). h.own ++ l) ends.are
    ∙ sym (append_assoc h.own ends.front (ends.last ∷ [])) in
    let answered : ends.last.error ≡ Some error = ends.same ∙ f.came.says in
    let parts = parts_behind called h.own es seen.log seen'.log h.parts f.came.adds.log in
    record {
      past = record g.past { put = put; batched = p.batched };
      stands = record {
        came = g.past.put;
        queued = g.past.batched;
        holds = g.stands;
        own = h.own ++ es;
        parts = parts;
        chains = chains_more h.own es Going refl h.chains stand e f.came.chain
            (Some (fail.Error error) ≡ None);
        request = λ plain.
            subst (λ (l : List LogEntry). PassesRequest a ended l (Some (fail.Error error) ≡ None)
            g.past.put put)
            (sym (pieces_more h.own es Going refl h.chains stand e f.came.chain))
            (one_refused a ended end u (pieces_in h.own) Going
            (Some (fail.Error error) ≡ None) h.came g.past.put p.put put piece e refl
            (h.request (sym up ∙ plain)) (chain_call stand es e f.came.chain) g.is_put comes.puts
            comes.first (λ is. ap (list_any is_end) g.is_put ∙ comes.ends is) same f.came.was
            (ap (λ (o : Option Error). is_some o) f.came.says));
        is_of_head = h.is_of_head;
        response =
            same_response oh stood (h.own ++ es) (TakesOn (Some (fail.Error error)) rf)
            p.batched p.batched h.queued g.past.batched refl g.is_batched
            (response_as oh rf stood (Some (fail.Error error)) h.own es p.batched h.queued
            (piece_parts stand es e f.came.chain) (λ so. some_none (fail.Error error) so.0)
            h.response);
        head = λ so. some_none (fail.Error error) so;
        told = λ x is. by_hook (h.own ++ ends.front) ends.last own_ends
            (answered ∙ error_in is);
      };
      is_put = refl;
      is_batched = refl;
      is_closing = g.is_closing;
      blamed = λ x told. inr (inl (
        ap Some (fail_is (fail.Error error) x told),
        record {
          before = h.own ++ ends.front;
          call = ends.last;
          are = own_behind called (h.own ++ es) seen'.log parts ∙ own_ends;
          is_piece = ends.is_piece;
          answers = answered ∙ told;
        },
      ));
    }
  where
    error_in : {x : Error} → Some (fail.Error error) ≡ Some (fail.Error x) → Some error ≡ Some x
    error_in is = cc

-- ---- a side that has not stopped

-- a piece was read and filtered
pub reads_piece : (inner inner' : DownPast → Type 0) (blames' : DownPast → Error → Type 0) (by : Error → Type 0)
    (allows : Standing → LogEntry → Type 0) (method : List ℕ) (seen : Seen) (mark : ℕ)
    (called : List LogEntry) (oh a ended u u' rf stood stand : Bool) (st : Option Fail)
    (p : DownPast) (piece made : Piece)
    (seen' : Seen) (mark' : ℕ) → st ≡ None
    → (h : IsHooked inner method seen.downstream called seen.log oh a ended u rf stood st p)
    → u' ≡ u
    → Comes u piece h.came
    → Filtered allows stand ended piece made seen mark seen' mark'
    → DownGoes inner' blames' (h.came ++ put_of u piece) h.queued p.closing None
    → DownGoes (IsHooked inner' method seen'.downstream called seen'.log oh a
    (ended || made.upstream_end) u' rf stood st)
    (λ past e. BlamesInside inner' blames' past e ⊎ by e) (p.put ++ put_of u made) p.batched p.closing
    None
reads_piece inner inner' blames' by allows method seen mark called oh a ended u u' rf stood stand
    (Some why) p piece made seen' mark' on h = some_none why on
reads_piece inner inner' blames' by allows method seen mark called oh a ended u u' rf stood stand
    None p piece made seen' mark' on h =
    reads_open inner inner' blames' by allows method seen mark called oh a ended u u' rf stood
    stand p piece made seen' mark' h

-- the filters refused a piece, or memory was wanted
pub stops_at : (inner inner' : DownPast → Type 0) (blames' : DownPast → Error → Type 0) (told' : Told)
    (allows : Standing → LogEntry → Type 0) (method : List ℕ) (seen : Seen) (mark : ℕ)
    (called : List LogEntry) (oh a ended u u' rf stood stand : Bool) (st : Option Fail)
    (p : DownPast) (piece : Piece) (why : Fail)
    (put : List HttpTask) (seen' : Seen) (mark' : ℕ) → st ≡ None
    → (h : IsHooked inner method seen.downstream called seen.log oh a ended u rf stood st p)
    → u' ≡ u
    → put ≡ p.put
    → Comes u piece h.came
    → Filters allows stand ended piece (Err why) seen mark seen' mark'
    → DownGoes inner' blames' (h.came ++ put_of u piece) h.queued p.closing None
    → DownGoes (IsHooked inner' method seen'.downstream called seen'.log oh a ended u' rf
    stood (Some why))
    (λ past e. BlamesOver inner' blames' (Some why) told'
    (drop (length called) seen'.log) past e) put p.batched p.closing
    (error_of_fail why)
stops_at inner inner' blames' told' allows method seen mark called oh a ended u u' rf stood stand
    (Some before) p piece why put seen' mark' on h = some_none before on
stops_at inner inner' blames' told' allows method seen mark called oh a ended u u' rf stood stand
    None p piece why put seen' mark' on h =
    stops_open inner inner' blames' told' allows method seen mark called oh a ended u u' rf stood
    stand p piece why put seen' mark' h

-- ---- a batch

-- the request is as it was
request_same : (a ended : Bool) (own own' : List LogEntry) (on on' : Type 0)
    (came came' put put' : List HttpTask) → requests_in own' ≡ requests_in own → (on' → on)
    → came' ≡ came → put' ≡ put → PassesRequest a ended (pieces_in own) on came put
    → PassesRequest a ended (pieces_in own') on' came' put'
request_same a ended own own' on on' came came' put put' is off same same' r =
    subst (λ (l : List LogEntry). PassesRequest a ended l on' came' put') (sym (ap by_pieces is))
    (same_request a ended (pieces_in own) on' came came' put put' same same'
    (record {
      each = r.each;
      few = r.few;
      ends_last = r.ends_last;
      rest = r.rest;
      read = r.read;
      all = λ o. r.all (off o);
      told = r.told;
      told_last = r.told_last;
      told_whole = r.told_whole;
      left = r.left;
      is_ended = r.is_ended;
    }))

-- a batch passed, and the inner side queued it
batch_open : (inner inner' : DownPast → Type 0) (blames' : DownPast → Error → Type 0) (by : Error → Type 0)
    (allows : Standing → LogEntry → Type 0) (method : List ℕ) (seen : Seen) (mark : ℕ)
    (called : List LogEntry) (oh a ended ended' u u' stood stand : Bool) (p : DownPast)
    (tasks made : List HttpTask)
    (seen' : Seen)
    (mark' : ℕ)
    (h : IsHooked inner method seen.downstream called seen.log oh a ended u false stood None p)
    → (u' ≡ false → (u ≡ false) × (ended' ≡ ended))
    → Outcome allows (λ es out. BatchPasses oh stand tasks es out) (BatchStops oh stand tasks)
    (Refuses oh) (Ok made) seen mark seen' mark'
    → DownGoes inner' blames' h.came (h.queued ++ made) p.closing None
    → DownGoes (IsHooked inner' method seen'.downstream called seen'.log oh a ended' u' false
    (stood && stand) None)
    (λ past e. BlamesInside inner' blames' past e ⊎ by e) p.put (p.batched ++ tasks) p.closing None
batch_open inner inner' blames' by allows method seen mark called oh a ended ended' u u' stood stand p
    tasks made seen' mark' h plain (es, adds, b) g =
    let parts = batch_parts oh stand tasks es made b in
    record {
      past = record g.past { put = p.put; batched = p.batched ++ tasks };
      stands = record {
        came = g.past.put;
        queued = g.past.batched;
        holds = g.stands;
        own = h.own ++ es;
        parts = parts_behind called h.own es seen.log seen'.log h.parts adds.log;
        chains = chains_still (requests_in h.own) (requests_in (h.own ++ es)) Going Going
            (requests_same h.own es b.by_app b.by_modules parts) (λ so. so) h.chains;
        request = λ not_up.
            let both = plain not_up in
            subst (λ (b : Bool). PassesRequest a b (pieces_in (h.own ++ es)) Going g.past.put
            p.put) (sym both.1)
            (request_same a ended h.own (h.own ++ es) Going Going h.came g.past.put p.put p.put
            (requests_same h.own es b.by_app b.by_modules parts) (λ so. so) g.is_put refl
            (h.request both.0));
        is_of_head = h.is_of_head;
        response =
            same_response oh (stood && stand) (h.own ++ es) (TakesOn None false)
            (p.batched ++ tasks) (p.batched ++ tasks) (h.queued ++ made) g.past.batched refl
            g.is_batched (makes_on oh stood stand h.own es (TakesOn None false) (TakesOn None false)
            p.batched tasks h.queued made (refl, refl) h.response b);
        head = λ on. adds.head;
        told = λ e is. cc;
      };
      is_put = refl;
      is_batched = refl;
      is_closing = g.is_closing;
      blamed = λ e isnt. cc;
    }

-- a batch was refused by a filter, or memory was wanted: nothing of it is queued
stops_batch : (inner inner' : DownPast → Type 0)
    (refuses : DownPast → List HttpTask → Error → Type 0) (told' : Told)
    (allows : Standing → LogEntry → Type 0) (method : List ℕ) (seen : Seen) (mark : ℕ)
    (called : List LogEntry) (oh a ended u stood stand : Bool) (p : DownPast)
    (tasks : List HttpTask) (why : Fail)
    (seen' : Seen)
    (mark' : ℕ) → ((q : DownPast) → inner q → inner' q)
    → IsHooked inner method seen.downstream called seen.log oh a ended u false stood None p
    → Outcome {Y = List HttpTask} allows (λ es out. BatchPasses oh stand tasks es out)
    (BatchStops oh stand tasks) (Refuses oh) (Err why) seen mark seen' mark'
    → BatchRefused
    (IsHooked inner' method seen'.downstream called seen'.log oh a ended u false stood
    (Some why)) (λ past left e.
    RefusesOver inner' refuses oh stood stand false (Some why) told' called seen'.log past left e)
    p tasks why
stops_batch inner inner' refuses told' allows method seen mark called oh a ended u stood stand p tasks
    (fail.Error error) seen' mark' so_inside h (es, adds, fed, refused) =
    let parts = stop_parts oh stand tasks es fed in
    record {
      filtered = [];
      left = tasks;
      parts = refl;
      past = p;
      stands = record {
        came = h.came;
        queued = h.queued;
        holds = so_inside (inside p h.came h.queued) h.holds;
        own = h.own ++ es;
        parts = parts_behind called h.own es seen.log seen'.log h.parts adds.log;
        chains = chains_still (requests_in h.own) (requests_in (h.own ++ es)) Going
            (Some (fail.Error error) ≡ None)
            (requests_same h.own es parts.apps parts.modules parts.are)
            (λ so. some_none (fail.Error error) so) h.chains;
        request = λ not_up.
            request_same a ended h.own (h.own ++ es) Going (Some (fail.Error error) ≡ None) h.came
            h.came p.put p.put (requests_same h.own es parts.apps parts.modules parts.are)
            (λ so. some_none (fail.Error error) so) refl refl (h.request not_up);
        is_of_head = h.is_of_head;
        response =
            makes_drop oh stood h.own es (TakesOn None false)
            (TakesOn (Some (fail.Error error)) false) p.batched h.queued
            (λ so. some_none (fail.Error error) so.0) parts h.response;
        head = λ so. some_none (fail.Error error) so;
        told = λ x is.
            subst (λ (y : Error). Refuses oh y (h.own ++ es)) (error_in is)
            (refuses_behind oh error h.own es refused);
      };
      is_put = refl;
      is_batched = sym (append-nil p.batched);
      is_closing = refl;
      refused = λ x no_failure is.
          by_filter h.own es
          (parts_behind called h.own es seen.log seen'.log h.parts adds.log) fed
          (subst (λ (y : Error). Refuses oh y es) (error_is is) refused)
          (ap (λ (f : Fail). Some f) is);
    }
  where
    error_in : {x : Error} → Some (fail.Error error) ≡ Some (fail.Error x) → error ≡ x
    error_in is = cc

    error_is : {x : Error} → fail.Error error ≡ fail.Error x → error ≡ x
    error_is is = cc
stops_batch inner inner' refuses told' allows method seen mark called oh a ended u stood stand p tasks
    fail.OutOfMemory seen' mark' so_inside h (es, adds, fed) =
    let parts = stop_parts oh stand tasks es fed in
    record {
      filtered = [];
      left = tasks;
      parts = refl;
      past = p;
      stands = record {
        came = h.came;
        queued = h.queued;
        holds = so_inside (inside p h.came h.queued) h.holds;
        own = h.own ++ es;
        parts = parts_behind called h.own es seen.log seen'.log h.parts adds.log;
        chains = chains_still (requests_in h.own) (requests_in (h.own ++ es)) Going
            (Some fail.OutOfMemory ≡ None)
            (requests_same h.own es parts.apps parts.modules parts.are)
            (λ so. some_none fail.OutOfMemory so) h.chains;
        request = λ not_up.
            request_same a ended h.own (h.own ++ es) Going (Some fail.OutOfMemory ≡ None) h.came
            h.came p.put p.put (requests_same h.own es parts.apps parts.modules parts.are)
            (λ so. some_none fail.OutOfMemory so) refl refl (h.request not_up);
        is_of_head = h.is_of_head;
        response =
            makes_drop oh stood h.own es (TakesOn None false)
            (TakesOn (Some fail.OutOfMemory) false) p.batched h.queued
            (λ so. some_none fail.OutOfMemory so.0) parts h.response;
        head = λ so. some_none fail.OutOfMemory so;
        told = λ x is. cc;
      };
      is_put = refl;
      is_batched = sym (append-nil p.batched);
      is_closing = refl;
      refused = λ x no_failure is. cc;
    }

-- a batch passed, and the inner side refused it
refused_open : (inner inner' : DownPast → Type 0)
    (refuses' : DownPast → List HttpTask → Error → Type 0) (told' : Told)
    (allows : Standing → LogEntry → Type 0) (method : List ℕ) (seen : Seen) (mark : ℕ)
    (called : List LogEntry) (oh a ended u u' stood stand : Bool) (p : DownPast)
    (tasks made : List HttpTask) (why : Fail)
    (seen' : Seen)
    (mark' : ℕ)
    (h : IsHooked inner method seen.downstream called seen.log oh a ended u false stood None p)
    → (u' ≡ false → u ≡ false)
    → list_any is_failure made ≡ list_any is_failure tasks
    → Outcome allows (λ es out. BatchPasses oh stand tasks es out) (BatchStops oh stand tasks)
    (Refuses oh) (Ok made) seen mark seen' mark'
    → BatchRefused inner' refuses' (inside p h.came h.queued) made why
    → BatchRefused (IsHooked inner' method seen'.downstream called seen'.log oh a ended u' true
    (stood && stand) None)
    (λ past left e.
    RefusesOver inner' refuses' oh (stood && stand) stand true None told' called seen'.log past left e)
    p tasks why
refused_open inner inner' refuses' told' allows method seen mark called oh a ended u u' stood stand p
    tasks
    made why seen' mark' h plain same (es, adds, b) g =
    let parts = batch_parts oh stand tasks es made b in
    let t = makes_front oh stood stand h.own es (TakesOn None false) (TakesOn None true) p.batched
    tasks h.queued made g.filtered g.left (refl, refl) (λ so. not_taken so.1) g.parts h.response b
    in
    let made_by =
    same_response oh (stood && stand) (h.own ++ es) (TakesOn None true) (p.batched ++ t.first)
    (p.batched ++ t.first) (h.queued ++ g.filtered) g.past.batched refl g.is_batched t.makes in
    record {
      filtered = t.first;
      left = t.last;
      parts = t.are;
      past = record g.past { put = p.put; batched = p.batched ++ t.first };
      stands = record {
        came = g.past.put;
        queued = g.past.batched;
        holds = g.stands;
        own = h.own ++ es;
        parts = parts_behind called h.own es seen.log seen'.log h.parts adds.log;
        chains = chains_still (requests_in h.own) (requests_in (h.own ++ es)) Going Going
            (requests_same h.own es b.by_app b.by_modules parts) (λ so. so) h.chains;
        request = λ not_up.
            request_same a ended h.own (h.own ++ es) Going Going h.came g.past.put p.put p.put
            (requests_same h.own es b.by_app b.by_modules parts) (λ so. so) g.is_put refl
            (h.request (plain not_up));
        is_of_head = h.is_of_head;
        response = made_by;
        head = λ on. adds.head;
        told = λ e is. cc;
      };
      is_put = refl;
      is_batched = refl;
      is_closing = g.is_closing;
      refused = λ e no_failure is.
          by_inner g.past.put g.past.batched g.left g.stands (h.own ++ es)
          (parts_behind called h.own es seen.log seen'.log h.parts adds.log) made_by t.made
          (g.refused e (same ∙ no_failure) is);
    }
  where
    not_taken : true ≡ false → ⊥
    not_taken is = cc

-- a side that takes on, by its flags
pub batch_goes : (inner inner' : DownPast → Type 0) (blames' : DownPast → Error → Type 0) (by : Error → Type 0)
    (allows : Standing → LogEntry → Type 0) (method : List ℕ) (seen : Seen) (mark : ℕ)
    (called : List LogEntry) (oh a ended ended' u u' rf stood stand : Bool) (st : Option Fail)
    (has : Bool) (p : DownPast)
    (tasks made : List HttpTask) (seen' : Seen) (mark' : ℕ)
    → refused_at_once st rf has tasks ≡ None
    → (h : IsHooked inner method seen.downstream called seen.log oh a ended u rf stood st p)
    → (u' ≡ false → (u ≡ false) × (ended' ≡ ended))
    → Outcome allows (λ es out. BatchPasses oh stand tasks es out) (BatchStops oh stand tasks)
    (Refuses oh) (Ok made) seen mark seen' mark'
    → DownGoes inner' blames' h.came (h.queued ++ made) p.closing None
    → DownGoes
    (IsHooked inner' method seen'.downstream called seen'.log oh a ended' u' rf (stood && stand)
    st) (λ past e. BlamesInside inner' blames' past e ⊎ by e) p.put (p.batched ++ tasks) p.closing None
batch_goes inner inner' blames' by allows method seen mark called oh a ended ended' u u' rf stood stand
    (Some why) has p tasks made seen' mark' on h = some_none _ on
batch_goes inner inner' blames' by allows method seen mark called oh a ended ended' u u' true stood
    stand None has p tasks made seen' mark' on h = some_none _ on
batch_goes inner inner' blames' by allows method seen mark called oh a ended ended' u u' false stood
    stand None has p tasks made seen' mark' on h =
    batch_open inner inner' blames' by allows method seen mark called oh a ended ended' u u' stood
    stand
    p tasks made seen' mark' h

pub batch_stops : (inner inner' : DownPast → Type 0)
    (refuses : DownPast → List HttpTask → Error → Type 0) (told' : Told)
    (allows : Standing → LogEntry → Type 0) (method : List ℕ) (seen : Seen) (mark : ℕ)
    (called : List LogEntry) (oh a ended u rf stood stand : Bool) (st : Option Fail) (has : Bool)
    (p : DownPast)
    (tasks : List HttpTask) (why : Fail) (seen' : Seen) (mark' : ℕ)
    → refused_at_once st rf has tasks ≡ None → ((q : DownPast) → inner q → inner' q)
    → IsHooked inner method seen.downstream called seen.log oh a ended u rf stood st p
    → Outcome {Y = List HttpTask} allows (λ es out. BatchPasses oh stand tasks es out)
    (BatchStops oh stand tasks) (Refuses oh) (Err why) seen mark seen' mark'
    → BatchRefused (IsHooked inner' method seen'.downstream called seen'.log oh a ended u rf stood
    (Some why)) (λ past left e.
    RefusesOver inner' refuses oh stood stand rf (Some why) told' called seen'.log past left e)
    p tasks why
batch_stops inner inner' refuses told' allows method seen mark called oh a ended u rf stood stand
    (Some before) has p tasks why seen' mark' on so_inside h = some_none _ on
batch_stops inner inner' refuses told' allows method seen mark called oh a ended u true stood stand None
    has p tasks why seen' mark' on so_inside h = some_none _ on
batch_stops inner inner' refuses told' allows method seen mark called oh a ended u false stood stand None
    has p tasks why seen' mark' on so_inside h =
    stops_batch inner inner' refuses told' allows method seen mark called oh a ended u stood stand p tasks
    why seen' mark' so_inside h

pub batch_refused : (inner inner' : DownPast → Type 0)
    (refuses' : DownPast → List HttpTask → Error → Type 0) (told' : Told)
    (allows : Standing → LogEntry → Type 0) (method : List ℕ) (seen : Seen) (mark : ℕ)
    (called : List LogEntry) (oh a ended u u' rf stood stand : Bool) (st : Option Fail)
    (has : Bool) (p : DownPast)
    (tasks made : List HttpTask) (why : Fail) (seen' : Seen) (mark' : ℕ)
    → refused_at_once st rf has tasks ≡ None
    → (h : IsHooked inner method seen.downstream called seen.log oh a ended u rf stood st p)
    → (u' ≡ false → u ≡ false) → list_any is_failure made ≡ list_any is_failure tasks
    → Outcome allows (λ es out. BatchPasses oh stand tasks es out) (BatchStops oh stand tasks)
    (Refuses oh) (Ok made) seen mark seen' mark'
    → BatchRefused inner' refuses' (inside p h.came h.queued) made why
    → BatchRefused (IsHooked inner' method seen'.downstream called seen'.log oh a ended u' true
    (stood && stand) st)
    (λ past left e.
    RefusesOver inner' refuses' oh (stood && stand) stand true st told' called seen'.log past left e)
    p tasks why
batch_refused inner inner' refuses' told' allows method seen mark called oh a ended u u' rf stood stand
    (Some before) has p tasks made why seen' mark' on h = some_none _ on
batch_refused inner inner' refuses' told' allows method seen mark called oh a ended u u' true stood stand
    None has p tasks made why seen' mark' on h = some_none _ on
batch_refused inner inner' refuses' told' allows method seen mark called oh a ended u u' false stood stand
    None has p tasks made why seen' mark' on h =
    refused_open inner inner' refuses' told' allows method seen mark called oh a ended u u' stood stand p
    tasks made why seen' mark' h

-- without a failure the error of a batch that is refused at once is that of the stop
no_failure_first : (tasks : List HttpTask) → list_any is_failure tasks ≡ false
    → failure_in_front tasks ≡ None
no_failure_first [] plain = refl
no_failure_first (task.Header head end ∷ tasks) plain = refl
no_failure_first (task.Body bytes end ∷ tasks) plain = refl
no_failure_first (task.UpgradedBody bytes end ∷ tasks) plain = refl
no_failure_first (task.Trailer fields ∷ tasks) plain = refl
no_failure_first (task.Done ∷ tasks) plain = refl
no_failure_first (task.Failed error ∷ tasks) plain = cc

at_once_by : (st : Option Fail) (rf has : Bool) (tasks : List HttpTask) (why : Fail) (e : Error)
    → refused_at_once st rf has tasks ≡ Some why → list_any is_failure tasks ≡ false
    → why ≡ fail.Error e → st ≡ Some (fail.Error e)
at_once_by (Some before) rf has tasks why e is plain told =
    sym (ap (λ (o : Option Error). Some (unwrap_or (option_map fail.Error o) before))
    (no_failure_first tasks plain)) ∙ is ∙ ap Some told
at_once_by None true has tasks why e is plain told =
    no_memory (sym (ap (λ (o : Option Error).
    Some (unwrap_or (option_map fail.Error o) fail.OutOfMemory))
    (no_failure_first tasks plain)) ∙ is ∙ ap Some told)
at_once_by None false true tasks why e is plain told = some_none why (sym is)
at_once_by None false false tasks why e is plain told = no_memory (is ∙ ap Some told)

-- a failure alone is refused with its error
pub alone_at_once : (st : Option Fail) (rf has : Bool) (tasks : List HttpTask) (why : Fail)
    (error : Error) → refused_at_once st rf has tasks ≡ Some why → tasks ≡ task.Failed error ∷ []
    → IsMemoryOr error why
alone_at_once st rf has tasks why error is alone =
    by_flags st rf has (subst (λ (l : List HttpTask). refused_at_once st rf has l ≡ Some why) alone
    is)
  where
    told : Some (fail.Error error) ≡ Some why → IsMemoryOr error why
    told is = subst (λ (f : Fail). IsMemoryOr error f) (same is) refl
      where
        same : Some (fail.Error error) ≡ Some why → fail.Error error ≡ why
        same is = cc

    by_flags : (st : Option Fail) (rf has : Bool)
        → refused_at_once st rf has (task.Failed error ∷ []) ≡ Some why → IsMemoryOr error why
    by_flags (Some before) rf has is = told is
    by_flags None true has is = told is
    by_flags None false true is = cc
    by_flags None false false is =
        subst (λ (f : Fail). IsMemoryOr error f) (memory is) tt
      where
        memory : Some fail.OutOfMemory ≡ Some why → fail.OutOfMemory ≡ why
        memory is = cc

-- what is true is true
pub true_is : (b : Bool) → IsTrue b → b ≡ true
true_is b up = up

-- a batch is refused before any filter is called
pub at_once : (inner : DownPast → Type 0) (refuses : DownPast → List HttpTask → Error → Type 0)
    (told' : Told) (method : List ℕ) (c : HttpSession) (called log : List LogEntry)
    (oh a ended u rf stood stand : Bool) (st : Option Fail) (has : Bool) (p : DownPast)
    (tasks : List HttpTask) (why : Fail)
    → ((e : Error) → st ≡ Some (fail.Error e) → why ≡ fail.Error e → told'.errors ≡ 1 → ⊥)
    → refused_at_once st rf has tasks ≡ Some why
    → IsHooked inner method c called log oh a ended u rf stood st p
    → BatchRefused (IsHooked inner method c called log oh a ended u rf stood st)
    (λ past left e.
    RefusesOver inner refuses oh stood stand rf st told' called log past left e) p tasks why
at_once inner refuses told' method c called log oh a ended u rf stood stand st has p tasks why again
    is h =
    record {
      filtered = [];
      left = tasks;
      parts = refl;
      past = p;
      stands = h;
      is_put = refl;
      is_batched = sym (append-nil p.batched);
      is_closing = refl;
      refused = λ e no_failure told.
          let stopped = at_once_by st rf has tasks why e is no_failure told in
          had_stopped (stopped, again e stopped told);
    }

-- ---- the beginning

-- a side that has not stopped stopped for no error
pub none_error : {A : Type 0} (e : Error) → None ≡ Some (fail.Error e) → A
none_error e is = cc

-- before the first piece nothing passed
abbrev pub begins : (holds : DownPast → Type 0) (method : List ℕ) (c : HttpSession)
    (called log : List LogEntry) (oh ended u : Bool) (p : DownPast)
    → called ≡ log → IsSome (head_of c.reading) → p.put ≡ []
    → p.batched ≡ [] → oh ≡ is_head_request method → holds p
    → IsHooked holds method c called log oh ended ended u false true None p
begins holds method c called log oh ended u p stood head none none' own h = record {
  came = [];
  queued = [];
  holds =
      subst (λ (l : List HttpTask). holds (record p { put = []; batched = l })) none'
      (subst (λ (l : List HttpTask). holds (record p { put = l })) none h);
  own = [];
  parts = sym stood ∙ sym (append-nil called);
  chains = chains_none Going;
  request = λ plain. record {
    each = All-nil PieceCall;
    few = omega arith;
    ends_last = ends_one [] None (λ none. true≢false (sym none));
    rest = [];
    read = refl;
    all = λ so. refl;
    told = λ t. absurd (true≢false (sym t));
    told_last = tt;
    told_whole = λ t. refl;
    left = none;
    is_ended = refl;
  };
  is_of_head = own;
  response = record {
    mid = [];
    by_app = nothing (TaskChain oh) p.batched none';
    by_modules = nothing (PassedModules true) [] refl;
  };
  head = λ on. head;
  told = λ e is. none_error e is;
}
  where
    nothing : (chain : HttpTask → List LogEntry → HttpTask → Type 0) (xs : List HttpTask)
        → xs ≡ [] → Stage chain [] (TakesOn None false) xs []
    nothing chain xs is = record {
      done = [];
      dropped = [];
      calls = refl;
      all = λ so. refl;
      pass = subst (λ (l : List HttpTask). AllPass chain [] l []) (sym is) refl;
    }
