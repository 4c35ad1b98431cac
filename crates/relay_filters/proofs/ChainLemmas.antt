-- Chains of calls: two behind each other, one more behind, and one in two.
use Rattle.std.proofs.Common.{◌≡◌, ℕ, Bool, true, false, ◌||◌, if◌then◌else◌, List, [], ◌∷◌, ◌++◌, Option, Some, None, refl, sym, ap, subst, ◌∙◌, append-nil, append_assoc}
use Rattle.std.specs.List.{list_any}
use Rattle.relay_tasks.specs.declared.error.Error.{Error}
use Rattle.relay_tasks.specs.declared.hook.Hook.{Hook}
use Rattle.relay_tasks.specs.declared.hook.Hook.TheVariants as hook
use Rattle.relay_tasks.specs.declared.log.Item.{Item}
use Rattle.relay_tasks.specs.declared.log.LogEntry.{LogEntry}
use Rattle.relay_tasks.specs.declared.task.HttpTask.{HttpTask}
use Rattle.relay_tasks.specs.declared.task.HttpTask.TheVariants as task
use Rattle.relay_core.specs.Pipe.{is_failure}
use Rattle.relay_calls.specs.Log.{filters_request, filters_response, is_module_response, modules_in, requests_in, responses_in}
use Rattle.relay_calls.proofs.LogLemmas.{modules_in-append, requests_in-append, responses_in-append}
use Rattle.relay_modules.specs.Filtering.{ended_by}
use Rattle.relay_filters.specs.Chain.{AllPass, BodyFeeds, HeadFeeds, ModuleChain, ModuleFeeds, OneCall, OneFeeds, Refuses, by_check, by_hook, by_room, TaskChain, TaskFeeds, TrailerFeeds}
use Rattle.relay_filters.specs.Response.{IsApps, IsModules, PartsOf}

-- ---- lists

-- a list with a last one is not empty
no_last : {A : Type 0} (front : List LogEntry) (last : LogEntry) → front ++ last ∷ [] ≡ [] → A
no_last [] last is = cc
no_last (x ∷ front) last is = cc

-- two lists that pass one behind the other are one that passes
pub all_append : {X Y : Type 0} (chain : X → List LogEntry → Y → Type 0) (es fs : List LogEntry)
    (xs xs' : List X) (ys ys' : List Y) → AllPass chain es xs ys → AllPass chain fs xs' ys'
    → AllPass chain (es ++ fs) (xs ++ xs') (ys ++ ys')
all_append chain es fs [] xs' [] ys' none more =
    subst (λ (l : List LogEntry). AllPass chain l xs' ys')
    (sym (ap (λ (l : List LogEntry). l ++ fs) none)) more
all_append chain es fs [] xs' (y ∷ ys) ys' none more = absurd none
all_append chain es fs (x ∷ xs) xs' [] ys' none more = absurd none
all_append chain es fs (x ∷ xs) xs' (y ∷ ys) ys' (own, rest, is, c, pass) more = (
  own,
  rest ++ fs,
  ap (λ (l : List LogEntry). l ++ fs) is ∙ append_assoc own rest fs,
  c,
  all_append chain rest fs xs xs' ys ys' pass more,
)

-- one passes
pub all_one : {X Y : Type 0} (chain : X → List LogEntry → Y → Type 0) (es : List LogEntry) (x : X)
    (y : Y) → chain x es y → AllPass chain es (x ∷ []) (y ∷ [])
all_one chain es x y c = (es, [], sym (append-nil es), c, refl)

-- a list that passes, by a front of what it passes as
pub record Splits {X Y : Type 0} (chain : X → List LogEntry → Y → Type 0) (es : List LogEntry)
    (xs : List X) (front behind : List Y) : Type 0 where
  pub first : List X
  pub last : List X
  pub calls : List LogEntry
  pub more : List LogEntry
  pub are : xs ≡ first ++ last
  pub parts : es ≡ calls ++ more
  pub pass : AllPass chain calls first front
  pub pass_on : AllPass chain more last behind

pub all_split : {X Y : Type 0} (chain : X → List LogEntry → Y → Type 0) (es : List LogEntry)
    (xs : List X) (front behind : List Y) → AllPass chain es xs (front ++ behind)
    → Splits chain es xs front behind
all_split chain es xs [] behind pass =
    record {
      first = [];
      last = xs;
      calls = [];
      more = es;
      are = refl;
      parts = refl;
      pass = refl;
      pass_on = pass;
    }
all_split chain es [] (y ∷ ys) behind pass = absurd pass
all_split chain es (x ∷ xs) (y ∷ ys) behind (own, rest, is, c, pass) =
    let s = all_split chain rest xs ys behind pass in
    record {
      first = x ∷ s.first;
      last = s.last;
      calls = own ++ s.calls;
      more = s.more;
      are = ap (λ (l : List _). x ∷ l) s.are;
      parts = is ∙ ap (λ (l : List LogEntry). own ++ l) s.parts
          ∙ sym (append_assoc own s.calls s.more);
      pass = (own, s.calls, refl, c, s.pass);
      pass_on = s.pass_on;
    }

-- where each keeps whether it is a failure, so does a list
pub any_keeps : (chain : HttpTask → List LogEntry → HttpTask → Type 0)
    → ((x : HttpTask) (es : List LogEntry) (y : HttpTask) → chain x es y
    → is_failure y ≡ is_failure x)
    → (es : List LogEntry) (xs ys : List HttpTask) → AllPass chain es xs ys
    → list_any is_failure ys ≡ list_any is_failure xs
any_keeps chain keeps es [] [] none = refl
any_keeps chain keeps es [] (y ∷ ys) none = absurd none
any_keeps chain keeps es (x ∷ xs) [] none = absurd none
any_keeps chain keeps es (x ∷ xs) (y ∷ ys) (own, rest, is, c, pass) =
    ap (λ (b : Bool). b || list_any is_failure ys) (keeps x own y c)
    ∙ ap (λ (b : Bool). is_failure x || b) (any_keeps chain keeps rest xs ys pass)

-- ---- a task that passed was given to its filters

-- one call
one_feeds : (which : Hook) (input output : Item) (es : List LogEntry)
    → OneCall which input output es → OneFeeds which input es
one_feeds which input output es c =
    subst (λ (l : List LogEntry). OneFeeds which input l) (sym c.calls)
    (record { is_hook = c.called.is_hook; was = c.called.was })

-- the filters of the application
pub task_feeds : (of_head : Bool) (x : HttpTask) (es : List LogEntry) (y : HttpTask)
    → TaskChain of_head x es y → TaskFeeds of_head x es
task_feeds of_head (task.Header head end) es y (last, h, is) =
    subst (λ (l : List LogEntry). HeadFeeds of_head head end l) (sym h.calls) (
      h.first,
      h.upstream,
      h.first_passes,
      record { is_hook = h.response.is_hook; was = h.response.was },
    )
task_feeds of_head (task.Body bytes end) es y (last, b, is) =
    subst (λ (l : List LogEntry). BodyFeeds bytes end l) (sym b.calls)
    (b.mid, b.upstream, record { is_hook = b.response.is_hook; was = b.response.was })
task_feeds of_head (task.UpgradedBody bytes end) es y (last, b, is) =
    subst (λ (l : List LogEntry). BodyFeeds bytes end l) (sym b.calls)
    (b.mid, b.upstream, record { is_hook = b.response.is_hook; was = b.response.was })
task_feeds of_head (task.Trailer None) es y (none, is) = none
task_feeds of_head (task.Trailer (Some fields)) es y (last, t, is) =
    subst (λ (l : List LogEntry). TrailerFeeds fields l) (sym t.calls)
    (record { is_hook = t.upstream.is_hook; was = t.upstream.was })
task_feeds of_head task.Done es y (none, is) = none
task_feeds of_head (task.Failed error) es y (none, is) = none

-- those of the modules
pub module_feeds : (x : HttpTask) (es : List LogEntry) (y : HttpTask) → ModuleChain x es y
    → ModuleFeeds x es
module_feeds (task.Header head end) es y (last, c, passes, is) = one_feeds _ _ _ es c
module_feeds (task.Body bytes end) es y (last, c, is) = one_feeds _ _ _ es c
module_feeds (task.UpgradedBody bytes end) es y (last, c, is) = one_feeds _ _ _ es c
module_feeds (task.Trailer fields) es y (last, answer, c, is) = one_feeds _ _ _ es c
module_feeds task.Done es y (answer, c, is) = one_feeds _ _ _ es c
module_feeds (task.Failed error) es y (none, is) = none

-- ---- a failure stays one

pub task_failure : (of_head : Bool) (x : HttpTask) (es : List LogEntry) (y : HttpTask)
    → TaskChain of_head x es y → is_failure y ≡ is_failure x
task_failure of_head (task.Header head end) es y (last, h, is) = ap is_failure is
task_failure of_head (task.Body bytes end) es y (last, b, is) = ap is_failure is
task_failure of_head (task.UpgradedBody bytes end) es y (last, b, is) = ap is_failure is
task_failure of_head (task.Trailer None) es y (none, is) = ap is_failure is
task_failure of_head (task.Trailer (Some fields)) es y (last, t, is) = ap is_failure is
task_failure of_head task.Done es y (none, is) = ap is_failure is
task_failure of_head (task.Failed error) es y (none, is) = ap is_failure is

-- neither does an answer of the modules make one
plain_end : (answer : Option (List ℕ)) (other : HttpTask) → is_failure other ≡ false
    → is_failure (ended_by answer other) ≡ false
plain_end None other plain = plain
plain_end (Some bytes) other plain = refl

pub module_failure : (x : HttpTask) (es : List LogEntry) (y : HttpTask) → ModuleChain x es y
    → is_failure y ≡ is_failure x
module_failure (task.Header head end) es y (last, c, passes, is) = ap is_failure is
module_failure (task.Body bytes end) es y (last, c, is) = ap is_failure is
module_failure (task.UpgradedBody bytes end) es y (last, c, is) = ap is_failure is
module_failure (task.Trailer fields) es y (last, answer, c, is) =
    ap is_failure is ∙ plain_end answer (task.Trailer last) refl
module_failure task.Done es y (answer, c, is) = ap is_failure is ∙ plain_end answer task.Done refl
module_failure (task.Failed error) es y (none, is) = ap is_failure is

-- ---- the parts of a log

-- where no call was made
pub parts_none : PartsOf [] [] []
parts_none = record { requests = refl; responses = refl; modules = refl }

-- the calls of two logs are those of each
pub parts_append : (es fs a b a' b' : List LogEntry) → PartsOf es a b → PartsOf fs a' b'
    → PartsOf (es ++ fs) (a ++ a') (b ++ b')
parts_append es fs a b a' b' p q = record {
  requests = requests_in-append es fs
      ∙ ap (λ (l : List LogEntry). l ++ requests_in fs) p.requests ∙ q.requests;
  responses = responses_in-append es fs
      ∙ ap (λ (l : List LogEntry). l ++ responses_in fs) p.responses
      ∙ ap (λ (l : List LogEntry). a ++ l) q.responses;
  modules = modules_in-append es fs
      ∙ ap (λ (l : List LogEntry). l ++ modules_in fs) p.modules
      ∙ ap (λ (l : List LogEntry). b ++ l) q.modules;
}

-- one call of the application
pub one_app : (e : LogEntry) (which : Hook) → e.hook ≡ which → filters_request which ≡ false
    → filters_response which ≡ true → is_module_response which ≡ false → IsApps (e ∷ [])
one_app e which is isnt is_so neither = record {
  requests = ap (λ (b : Bool). if b then e ∷ [] else []) (ap filters_request is ∙ isnt);
  responses = ap (λ (b : Bool). if b then e ∷ [] else []) (ap filters_response is ∙ is_so);
  modules = ap (λ (b : Bool). if b then e ∷ [] else []) (ap is_module_response is ∙ neither);
}

-- one of the modules
pub one_module : (e : LogEntry) (which : Hook) → e.hook ≡ which → filters_request which ≡ false
    → filters_response which ≡ false → is_module_response which ≡ true → IsModules (e ∷ [])
one_module e which is isnt neither is_so = record {
  requests = ap (λ (b : Bool). if b then e ∷ [] else []) (ap filters_request is ∙ isnt);
  responses = ap (λ (b : Bool). if b then e ∷ [] else []) (ap filters_response is ∙ neither);
  modules = ap (λ (b : Bool). if b then e ∷ [] else []) (ap is_module_response is ∙ is_so);
}

-- no call, of either
none_apps : (es : List LogEntry) → es ≡ [] → IsApps es
none_apps es is = subst IsApps (sym is) parts_none

none_modules : (es : List LogEntry) → es ≡ [] → IsModules es
none_modules es is = subst IsModules (sym is) parts_none

-- two calls of the application
two_apps : (u r : LogEntry) → IsApps (u ∷ []) → IsApps (r ∷ []) → IsApps (u ∷ r ∷ [])
two_apps u r p q = parts_append (u ∷ []) (r ∷ []) (u ∷ []) [] (r ∷ []) [] p q

head_apps : (of_head : Bool) (head : _) (end : Bool) (es : List LogEntry)
    → HeadFeeds of_head head end es → IsApps es
head_apps of_head head end [] fed = parts_none
head_apps of_head head end (u ∷ []) fed =
    one_app u hook.UpstreamResponseFilter fed.is_hook refl refl refl
head_apps of_head head end (u ∷ r ∷ []) (first, upstream, passes, gave) =
    two_apps u r (one_app u hook.UpstreamResponseFilter upstream.is_hook refl refl refl)
    (one_app r hook.ResponseFilter gave.is_hook refl refl refl)
head_apps of_head head end (u ∷ r ∷ e ∷ es) fed = absurd fed

body_apps : (bytes : Option (List ℕ)) (end : Bool) (es : List LogEntry) → BodyFeeds bytes end es
    → IsApps es
body_apps bytes end [] fed = parts_none
body_apps bytes end (u ∷ []) fed =
    one_app u hook.UpstreamResponseBodyFilter fed.is_hook refl refl refl
body_apps bytes end (u ∷ r ∷ []) (mid, upstream, gave) =
    two_apps u r (one_app u hook.UpstreamResponseBodyFilter upstream.is_hook refl refl refl)
    (one_app r hook.ResponseBodyFilter gave.is_hook refl refl refl)
body_apps bytes end (u ∷ r ∷ e ∷ es) fed = absurd fed

fields_apps : (fields : _) (es : List LogEntry) → TrailerFeeds fields es → IsApps es
fields_apps fields [] fed = parts_none
fields_apps fields (u ∷ []) fed =
    one_app u hook.UpstreamResponseTrailerFilter fed.is_hook refl refl refl
fields_apps fields (u ∷ e ∷ es) fed = absurd fed

-- the calls for a task are the application's
pub task_apps : (of_head : Bool) (x : HttpTask) (es : List LogEntry) → TaskFeeds of_head x es
    → IsApps es
task_apps of_head (task.Header head end) es fed = head_apps of_head head end es fed
task_apps of_head (task.Body bytes end) es fed = body_apps bytes end es fed
task_apps of_head (task.UpgradedBody bytes end) es fed = body_apps bytes end es fed
task_apps of_head (task.Trailer None) es fed = none_apps es fed
task_apps of_head (task.Trailer (Some fields)) es fed = fields_apps fields es fed
task_apps of_head task.Done es fed = none_apps es fed
task_apps of_head (task.Failed error) es fed = none_apps es fed

one_modules : (which : Hook) (input : Item) (es : List LogEntry) → filters_request which ≡ false
    → filters_response which ≡ false → is_module_response which ≡ true
    → OneFeeds which input es → IsModules es
one_modules which input [] isnt neither is_so fed = parts_none
one_modules which input (m ∷ []) isnt neither is_so fed =
    one_module m which fed.is_hook isnt neither is_so
one_modules which input (m ∷ e ∷ es) isnt neither is_so fed = absurd fed

-- the calls for a task are the modules'
pub task_modules : (x : HttpTask) (es : List LogEntry) → ModuleFeeds x es → IsModules es
task_modules (task.Header head end) es fed = one_modules _ _ es refl refl refl fed
task_modules (task.Body bytes end) es fed = one_modules _ _ es refl refl refl fed
task_modules (task.UpgradedBody bytes end) es fed = one_modules _ _ es refl refl refl fed
task_modules (task.Trailer fields) es fed = one_modules _ _ es refl refl refl fed
task_modules task.Done es fed = one_modules _ _ es refl refl refl fed
task_modules (task.Failed error) es fed = none_modules es fed

-- ---- a refusal

-- a refusal behind more calls
pub refuses_behind : (of_head : Bool) (e : Error) (es fs : List LogEntry) → Refuses of_head e fs
    → Refuses of_head e (es ++ fs)
refuses_behind of_head e es fs (by_hook front last is says) =
    by_hook (es ++ front) last
    (ap (λ (l : List LogEntry). es ++ l) is ∙ sym (append_assoc es front (last ∷ []))) says
refuses_behind of_head e es fs (by_check front last is ok says) =
    by_check (es ++ front) last
    (ap (λ (l : List LogEntry). es ++ l) is ∙ sym (append_assoc es front (last ∷ []))) ok says
refuses_behind of_head e es fs (by_room front last head end is called lacks full says) =
    by_room (es ++ front) last head end
    (ap (λ (l : List LogEntry). es ++ l) is ∙ sym (append_assoc es front (last ∷ []))) called lacks
    full says

-- no call refuses nothing
pub none_refuses : {A : Type 0} (of_head : Bool) (e : Error) (es : List LogEntry) → es ≡ []
    → Refuses of_head e es → A
none_refuses of_head e es none (by_hook front last is says) = no_last front last (sym is ∙ none)
none_refuses of_head e es none (by_check front last is ok says) = no_last front last (sym is ∙ none)
none_refuses of_head e es none (by_room front last head end is called lacks full says) =
    no_last front last (sym is ∙ none)
