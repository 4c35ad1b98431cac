-- A batch through both stages of filters: what it goes on as, and what its calls leave.
use Rattle.std.proofs.Common.{◌≡◌, ℕ, Bool, true, false, List, [], ◌∷◌, ◌++◌, Result, Ok, Err, IfOk, IfErr, refl, sym, ap, subst, ◌∙◌, append-nil}
use Rattle.std.specs.List.{list_any}
use Rattle.relay_tasks.specs.declared.error.Error.{Error}
use Rattle.relay_tasks.specs.declared.error.Fail.{Fail}
use Rattle.relay_tasks.specs.declared.error.Fail.TheVariants as fail
use Rattle.relay_tasks.specs.declared.log.LogEntry.{LogEntry}
use Rattle.relay_tasks.specs.declared.task.HttpTask.{HttpTask}
use Rattle.relay_tasks.specs.declared.task.HttpTask.TheVariants as task
use Rattle.relay_core.specs.Pipe.{is_failure}
use Rattle.relay_modules.specs.declared.seen.Seen.{Seen}
use Rattle.relay_hooks.specs.Standing.{Standing}
use Rattle.relay_calls.specs.Log.{requests_in}
use Rattle.relay_calls.proofs.LogLemmas.{requests_in-append}
use Rattle.relay_filters.specs.Chain.{AllPass, FrontPasses, ModuleChain, ModuleFeeds, PassesBy, PassesModules, Refuses, TaskChain, TaskFeeds}
use Rattle.relay_filters.specs.Response as batches
use Rattle.relay_filters.specs.Response.{Adds, BatchPasses, BatchStops, IsApps, IsModules, Outcome}
use Rattle.relay_filters.proofs.ChainLemmas.{any_keeps, module_failure, none_refuses, parts_none, task_failure}
use Rattle.relay_filters.proofs.OutcomeLemmas.{behind, no_chain, stops}

-- ---- what the calls leave

-- calls that are none of the request leave its part of the log
log_same : (old log : List LogEntry) (es : List LogEntry) → log ≡ old ++ es → requests_in es ≡ []
    → requests_in log ≡ requests_in old
log_same old log es is none =
    ap requests_in is ∙ requests_in-append old es
    ∙ ap (λ (l : List LogEntry). requests_in old ++ l) none ∙ append-nil (requests_in old)

pub outcome_requests : {Y : Type 0} (allows : Standing → LogEntry → Type 0)
    (chain : List LogEntry → Y → Type 0) (feeds : List LogEntry → Type 0) (oh : Bool)
    (r : Result Y Fail) (old : Seen) (m : ℕ) (new : Seen) (m1 : ℕ)
    → ((es : List LogEntry) (y : Y) → chain es y → requests_in es ≡ [])
    → ((es : List LogEntry) → feeds es → requests_in es ≡ [])
    → Outcome allows chain feeds (Refuses oh) r old m new m1
    → requests_in new.log ≡ requests_in old.log
outcome_requests allows chain feeds oh (Ok y) old m new m1 by_chain by_feeds (es, a, c) =
    log_same old.log new.log es a.log (by_chain es y c)
outcome_requests allows chain feeds oh (Err (fail.Error e)) old m new m1 by_chain by_feeds
    (es, a, fed, refused) = log_same old.log new.log es a.log (by_feeds es fed)
outcome_requests allows chain feeds oh (Err fail.OutOfMemory) old m new m1 by_chain by_feeds
    (es, a, fed) = log_same old.log new.log es a.log (by_feeds es fed)

-- ---- a failure alone

-- a list of one has one front
one_front : (front : List HttpTask) (at : HttpTask) (behind : List HttpTask) (x : HttpTask)
    → x ∷ [] ≡ front ++ at ∷ behind → (front ≡ []) × (at ≡ x)
one_front [] at behind x is = (refl, same is)
  where
    same : {xs : List HttpTask} → x ∷ [] ≡ at ∷ xs → at ≡ x
    same is = cc
one_front (y ∷ []) at behind x is = absurd (more is)
  where
    more : x ∷ [] ≡ y ∷ at ∷ behind → ⊥
    more is = cc
one_front (y ∷ z ∷ front) at behind x is = absurd (more is)
  where
    more : x ∷ [] ≡ y ∷ z ∷ (front ++ at ∷ behind) → ⊥
    more is = cc

-- nothing passes by no call
none_passes : (chain : HttpTask → List LogEntry → HttpTask → Type 0) (es : List LogEntry)
    (xs made : List HttpTask) → xs ≡ [] → AllPass chain es xs made → es ≡ []
none_passes chain es [] [] is pass = pass
none_passes chain es [] (y ∷ made) is pass = absurd pass
none_passes chain es (x ∷ xs) made is pass = cc

-- a failure alone is refused by no call
alone_stops : {A : Type 0} (chain : HttpTask → List LogEntry → HttpTask → Type 0)
    (feeds : HttpTask → List LogEntry → Type 0) (oh : Bool) (e error : Error)
    (tasks : List HttpTask) (es : List LogEntry)
    → ((last : List LogEntry) → feeds (task.Failed e) last → last ≡ [])
    → tasks ≡ task.Failed e ∷ [] → FrontPasses chain feeds tasks es → Refuses oh error es → A
alone_stops chain feeds oh e error tasks es none is f refused =
    let one = one_front f.front f.at f.behind (task.Failed e) (sym is ∙ f.are) in
    let calls : f.calls ≡ [] = none_passes chain f.calls f.front f.made one.0 f.pass in
    let last : f.last ≡ [] = none f.last
    (subst (λ (t : HttpTask). feeds t f.last) one.1 f.fed) in
    none_refuses oh error es
    (f.parts ∙ ap (λ (l : List LogEntry). l ++ f.last) calls ∙ last) refused

-- it passes as itself
alone_passes : (chain : HttpTask → List LogEntry → HttpTask → Type 0) (e : Error)
    (tasks made : List HttpTask) (es : List LogEntry)
    → ((es : List LogEntry) (y : HttpTask) → chain (task.Failed e) es y → y ≡ task.Failed e)
    → tasks ≡ task.Failed e ∷ [] → AllPass chain es tasks made → made ≡ task.Failed e ∷ []
alone_passes chain e tasks made es same is pass =
    at_one made (subst (λ (l : List HttpTask). AllPass chain es l made) is pass)
  where
    at_one : (made : List HttpTask) → AllPass chain es (task.Failed e ∷ []) made
        → made ≡ task.Failed e ∷ []
    at_one [] pass = absurd pass
    at_one (y ∷ []) (own, rest, parts, c, none) =
        ap (λ (t : HttpTask). t ∷ []) (same own y c)
    at_one (y ∷ z ∷ made) (own, rest, parts, c, none) = absurd none

-- ---- the two stages

module _ (allows : Standing → LogEntry → Type 0) (oh : Bool) (tasks : List HttpTask) (old : Seen)
    (m : ℕ) (seen : Seen) (m1 : ℕ) where
  -- the filters of the application refused a batch
  pub app_stops : (stand : Bool) (why : Fail)
      → Outcome {Y = List HttpTask} allows
      (λ es mid. IsApps es × AllPass (TaskChain oh) es tasks mid)
      (λ es. IsApps es × FrontPasses (TaskChain oh) (TaskFeeds oh) tasks es) (Refuses oh) (Err why)
      old m seen m1
      → Outcome {Y = List HttpTask} allows (λ es made. BatchPasses oh stand tasks es made)
      (BatchStops oh stand tasks) (Refuses oh) (Err why) old m seen m1
  app_stops stand why out =
      stops {X = List HttpTask} {Y = List HttpTask} allows no_chain no_chain
      (λ es. IsApps es × FrontPasses (TaskChain oh) (TaskFeeds oh) tasks es)
      (BatchStops oh stand tasks)
      oh why old m seen m1 (λ es fed. batches.BatchStops.by_app fed.0 fed.1) out

  -- a failure alone is not refused by them
  pub app_failure : (why : Fail)
      → Outcome {Y = List HttpTask} allows
      (λ es mid. IsApps es × AllPass (TaskChain oh) es tasks mid)
      (λ es. IsApps es × FrontPasses (TaskChain oh) (TaskFeeds oh) tasks es) (Refuses oh) (Err why)
      old m seen m1
      → (e : Error) → tasks ≡ task.Failed e ∷ [] → why ≡ fail.OutOfMemory
  app_failure fail.OutOfMemory out e is = refl
  app_failure (fail.Error error) (es, a, fed, refused) e is =
      alone_stops (TaskChain oh) (TaskFeeds oh) oh e error tasks es (λ last none. none) is fed.1
      refused

  -- the log's part of the request stays
  pub app_requests : (r : Result (List HttpTask) Fail)
      → Outcome allows (λ es mid. IsApps es × AllPass (TaskChain oh) es tasks mid)
      (λ es. IsApps es × FrontPasses (TaskChain oh) (TaskFeeds oh) tasks es) (Refuses oh) r old m
      seen m1
      → requests_in seen.log ≡ requests_in old.log
  app_requests r out =
      outcome_requests allows (λ es mid. IsApps es × AllPass (TaskChain oh) es tasks mid)
      (λ es. IsApps es × FrontPasses (TaskChain oh) (TaskFeeds oh) tasks es) oh r old m seen m1
      (λ es y c. c.0.requests) (λ es fed. fed.0.requests) out

module _ (allows : Standing → LogEntry → Type 0) (oh : Bool) (tasks mid : List HttpTask)
    (old : Seen) (m : ℕ) (seen : Seen) (m1 : ℕ) (new : Seen) (m2 : ℕ)
    (first : Outcome {Y = List HttpTask} allows
    (λ es mid. IsApps es × AllPass (TaskChain oh) es tasks mid)
    (λ es. IsApps es × FrontPasses (TaskChain oh) (TaskFeeds oh) tasks es) (Refuses oh) (Ok mid) old
    m seen m1)
    (r : Result (List HttpTask) Fail)
    (second : Outcome allows (λ es made. IsModules es × AllPass ModuleChain es mid made)
    (λ es. IsModules es × FrontPasses ModuleChain ModuleFeeds mid es) (Refuses oh) r seen m1 new
    m2) where
  -- both stages, where modules stand
  pub both_stages : (stand : Bool) → stand ≡ true
      → Outcome allows (λ es made. BatchPasses oh stand tasks es made) (BatchStops oh stand tasks)
      (Refuses oh) r old m new m2
  both_stages stand stands =
      behind allows (λ es made. IsModules es × AllPass ModuleChain es mid made)
      (λ es made. BatchPasses oh stand tasks es made)
      (λ es. IsModules es × FrontPasses ModuleChain ModuleFeeds mid es) (BatchStops oh stand tasks)
      oh r first.0 old m seen m1 new m2 first.1
      (λ fs made c. record {
        mid = mid;
        by_app = first.0;
        by_modules = fs;
        calls = refl;
        are_apps = first.2.0;
        are_modules = c.0;
        pass = first.2.1;
        made_so =
            subst (λ (b : Bool). AllPass (PassesModules b) fs mid made) (sym stands) c.1;
      })
      (λ fs fed. batches.BatchStops.by_modules stands mid first.0 fs refl first.2.0 fed.0
      first.2.1 fed.1) second

  pub both_requests : requests_in new.log ≡ requests_in old.log
  both_requests =
      outcome_requests allows (λ es made. IsModules es × AllPass ModuleChain es mid made)
      (λ es. IsModules es × FrontPasses ModuleChain ModuleFeeds mid es) oh r seen m1 new m2
      (λ es y c. c.0.requests) (λ es fed. fed.0.requests) second
      ∙ app_requests allows oh tasks old m seen m1 (Ok mid) first

-- each of a list is passed by
all_by : (xs : List HttpTask) → AllPass PassesBy [] xs xs
all_by [] = refl
all_by (x ∷ xs) = ([], [], refl, (refl, refl), all_by xs)

-- the first stage alone, where no modules stand
module _ (allows : Standing → LogEntry → Type 0) (oh : Bool) (tasks mid : List HttpTask)
    (old : Seen) (m : ℕ) (seen : Seen) (m1 : ℕ)
    (first : Outcome {Y = List HttpTask} allows
    (λ es mid. IsApps es × AllPass (TaskChain oh) es tasks mid)
    (λ es. IsApps es × FrontPasses (TaskChain oh) (TaskFeeds oh) tasks es) (Refuses oh) (Ok mid) old
    m seen m1) where
  pub first_stage : (stand : Bool) → stand ≡ false
      → Outcome {Y = List HttpTask} allows (λ es made. BatchPasses oh stand tasks es made)
      (BatchStops oh stand tasks) (Refuses oh) (Ok mid) old m seen m1
  first_stage stand stands = (
    first.0,
    first.1,
    record {
      mid = mid;
      by_app = first.0;
      by_modules = [];
      calls = sym (append-nil first.0);
      are_apps = first.2.0;
      are_modules = parts_none;
      pass = first.2.1;
      made_so = subst (λ (b : Bool). AllPass (PassesModules b) [] mid mid) (sym stands)
          (all_by mid);
    },
  )

  pub first_requests : requests_in seen.log ≡ requests_in old.log
  first_requests = app_requests allows oh tasks old m seen m1 (Ok mid) first

  pub first_failures : list_any is_failure mid ≡ list_any is_failure tasks
  first_failures = any_keeps (TaskChain oh) (task_failure oh) first.0 tasks mid first.2.1

  -- a failure alone goes on as itself
  pub first_alone : (e : Error) → tasks ≡ task.Failed e ∷ [] → mid ≡ task.Failed e ∷ []
  first_alone e is =
      alone_passes (TaskChain oh) e tasks mid first.0 (λ own y c. c.1) is first.2.1

-- what was made has a failure where the batch has one
pub both_failures : (allows : Standing → LogEntry → Type 0) (oh : Bool) (tasks mid : List HttpTask)
    (old : Seen) (m : ℕ) (seen : Seen) (m1 : ℕ) (new : Seen) (m2 : ℕ)
    → Outcome {Y = List HttpTask} allows
    (λ es mid. IsApps es × AllPass (TaskChain oh) es tasks mid)
    (λ es. IsApps es × FrontPasses (TaskChain oh) (TaskFeeds oh) tasks es) (Refuses oh) (Ok mid) old
    m seen m1
    → (r : Result (List HttpTask) Fail)
    → Outcome allows (λ es made. IsModules es × AllPass ModuleChain es mid made)
    (λ es. IsModules es × FrontPasses ModuleChain ModuleFeeds mid es) (Refuses oh) r seen m1 new m2
    → IfOk r (λ made. list_any is_failure made ≡ list_any is_failure tasks)
both_failures allows oh tasks mid old m seen m1 new m2 (es, a, (apps, pass)) (Ok made)
    (fs, b, (modules, made_so)) =
    any_keeps ModuleChain module_failure fs mid made made_so
    ∙ any_keeps (TaskChain oh) (task_failure oh) es tasks mid pass
both_failures allows oh tasks mid old m seen m1 new m2 first (Err why) second = tt

-- a failure alone goes on as itself
pub both_alone : (allows : Standing → LogEntry → Type 0) (oh : Bool) (tasks mid : List HttpTask)
    (old : Seen) (m : ℕ) (seen : Seen) (m1 : ℕ) (new : Seen) (m2 : ℕ)
    → Outcome {Y = List HttpTask} allows
    (λ es mid. IsApps es × AllPass (TaskChain oh) es tasks mid)
    (λ es. IsApps es × FrontPasses (TaskChain oh) (TaskFeeds oh) tasks es) (Refuses oh) (Ok mid) old
    m seen m1
    → (r : Result (List HttpTask) Fail)
    → Outcome allows (λ es made. IsModules es × AllPass ModuleChain es mid made)
    (λ es. IsModules es × FrontPasses ModuleChain ModuleFeeds mid es) (Refuses oh) r seen m1 new m2
    → IfOk r (λ made. (e : Error) → tasks ≡ task.Failed e ∷ [] → made ≡ task.Failed e ∷ [])
both_alone allows oh tasks mid old m seen m1 new m2 (es, a, (apps, pass)) (Ok made)
    (fs, b, (modules, made_so)) = λ e is.
    alone_passes ModuleChain e mid made fs (λ own y c. c.1)
    (alone_passes (TaskChain oh) e tasks mid es (λ own y c. c.1) is pass) made_so
both_alone allows oh tasks mid old m seen m1 new m2 first (Err why) second = tt

-- and is not refused
pub both_failure : (allows : Standing → LogEntry → Type 0) (oh : Bool) (tasks mid : List HttpTask)
    (old : Seen) (m : ℕ) (seen : Seen) (m1 : ℕ) (new : Seen) (m2 : ℕ)
    → Outcome {Y = List HttpTask} allows
    (λ es mid. IsApps es × AllPass (TaskChain oh) es tasks mid)
    (λ es. IsApps es × FrontPasses (TaskChain oh) (TaskFeeds oh) tasks es) (Refuses oh) (Ok mid) old
    m seen m1
    → (r : Result (List HttpTask) Fail)
    → Outcome allows (λ es made. IsModules es × AllPass ModuleChain es mid made)
    (λ es. IsModules es × FrontPasses ModuleChain ModuleFeeds mid es) (Refuses oh) r seen m1 new m2
    → IfErr r (λ why. (e : Error) → tasks ≡ task.Failed e ∷ [] → why ≡ fail.OutOfMemory)
both_failure allows oh tasks mid old m seen m1 new m2 first (Ok made) second = tt
both_failure allows oh tasks mid old m seen m1 new m2 first (Err fail.OutOfMemory) second =
    λ e is. refl
both_failure allows oh tasks mid old m seen m1 new m2 (es, a, (apps, pass)) (Err (fail.Error error))
    (fs, b, fed, refused) = λ e is.
    alone_stops ModuleChain ModuleFeeds oh e error mid fs (λ last none. none)
    (alone_passes (TaskChain oh) e tasks mid es (λ own y c. c.1) is pass) fed.1 refused
