-- What calls add to the log: one call, two behind each other, and what several filters come to.
use Rattle.std.proofs.Common.{◌≡◌, ℕ, Bool, true, false, ◌||◌, List, [], ◌∷◌, ◌++◌, Option, Some, None, Result, Ok, Err, refl, sym, ap, subst, ◌∙◌, append-nil, append_assoc, IsSome}
use Rattle.std.proofs.lemmas.List.Elements.{All-append, All-cons, All-nil}
use Rattle.relay_tasks.specs.declared.error.Error.{Error}
use Rattle.relay_tasks.specs.declared.error.Fail.{Fail}
use Rattle.relay_tasks.specs.declared.error.Fail.TheVariants as fail
use Rattle.relay_tasks.specs.declared.hook.Hook.{Hook}
use Rattle.relay_tasks.specs.declared.hook.Hook.TheVariants as hook
use Rattle.relay_tasks.specs.declared.log.Item.{Item}
use Rattle.relay_tasks.specs.declared.log.LogEntry.{LogEntry}
use Rattle.relay_tasks.specs.declared.task.HttpTask.{HttpTask}
use Rattle.relay_session.specs.Reading.{head_of}
use Rattle.relay_session.specs.Response.{has_head}
use Rattle.relay_modules.specs.Module.{AllowsMade, ModuleCall, error_of, hook_of, input_of, output_of, request_body, request_header, response_body, response_done, response_header, response_trailer}
use Rattle.relay_modules.specs.declared.seen.Seen.{Seen}
use Rattle.relay_hooks.specs.Call.{Left, changed, delayed, entry}
use Rattle.relay_hooks.specs.Session.{moment, request_head}
use Rattle.relay_hooks.specs.Standing.{Standing, standing}
use Rattle.relay_calls.specs.Calls.{Calls, Enters}
use Rattle.relay_calls.specs.Entry.{cleared}
use Rattle.relay_calls.specs.Log.{AllowsBy, IsAllowed, LeavesIf, filters_request, filters_response, is_module, is_module_response}
use Rattle.relay_calls.specs.Modules.{CallsModule, called, module_entry, replied}
use Rattle.relay_calls.proofs.CallLemmas.{CallsOf-walks}
use Rattle.relay_calls.proofs.LogLemmas.{Views-same, Walk-append}
use Rattle.relay_sides.specs.Lent.{SameButHead}
use Rattle.relay_sides.proofs.LentLemmas.{lent_same, lent_twice}
use Rattle.relay_filters.specs.Chain.{AllPass, Called, FrontPasses, Gave, Refuses, by_check, by_hook, checked}
use Rattle.relay_filters.specs.Response.{Adds, AddsSome, IsFilterCall, Outcome, SomeAllow}
use Rattle.relay_filters.proofs.ChainLemmas.{all_append, all_one, refuses_behind}

-- the chain of what did not pass: an error has none
abbrev pub no_chain : {Y : Type 0} → List LogEntry → Y → Type 0
no_chain es made = ⊥

-- ---- what is added

-- no call adds nothing
pub adds_none : (allows : Standing → LogEntry → Type 0) (seen : Seen) (mark : ℕ)
    → IsSome (head_of seen.downstream.reading) → Adds allows seen mark seen mark []
adds_none allows seen mark head = record {
  log = sym (append-nil seen.log);
  walk = Views-same _;
  plain = All-nil IsFilterCall;
  head = head;
  client = lent_same seen.downstream;
}

-- calls behind calls
pub adds_both : (allows : Standing → LogEntry → Type 0) (old : Seen) (m : ℕ) (mid : Seen) (m1 : ℕ)
    (new : Seen) (m2 : ℕ) (es fs : List LogEntry) → Adds allows old m mid m1 es
    → Adds allows mid m1 new m2 fs → Adds allows old m new m2 (es ++ fs)
adds_both allows old m mid m1 new m2 es fs a b = record {
  log = b.log ∙ ap (λ (l : List LogEntry). l ++ fs) a.log ∙ append_assoc old.log es fs;
  walk = Walk-append allows es fs (standing None false (moment old m))
      (standing None false (moment mid m1)) (standing None false (moment new m2)) a.walk b.walk;
  plain = All-append IsFilterCall es fs a.plain b.plain;
  head = b.head;
  client = lent_twice old.downstream mid.downstream new.downstream a.client b.client;
}

-- the same where memory was wanted in the end
pub adds_some : (allows : Standing → LogEntry → Type 0) (old : Seen) (m : ℕ) (mid : Seen) (m1 : ℕ)
    (new : Seen) (es fs : List LogEntry) → Adds allows old m mid m1 es
    → AddsSome allows mid m1 new fs → AddsSome allows old m new (es ++ fs)
adds_some allows old m mid m1 new es fs a b = record {
  to = b.to;
  log = b.log ∙ ap (λ (l : List LogEntry). l ++ fs) a.log ∙ append_assoc old.log es fs;
  walk = Walk-append allows es fs (standing None false (moment old m))
      (standing None false (moment mid m1)) b.to a.walk b.walk;
  plain = All-append IsFilterCall es fs a.plain b.plain;
}

-- what is added is more than some
pub adds_at_least : (allows : Standing → LogEntry → Type 0) (old : Seen) (m : ℕ) (new : Seen)
    (m1 : ℕ) (es : List LogEntry) → Adds allows old m new m1 es → AddsSome allows old m new es
adds_at_least allows old m new m1 es a = record {
  to = standing None false (moment new m1);
  log = a.log;
  walk = a.walk;
  plain = a.plain;
}

-- no call was entered, and memory was wanted
pub adds_lost : (allows : Standing → LogEntry → Type 0) (old : Seen) (m : ℕ) (new : Seen)
    → new.log ≡ old.log → AddsSome allows old m new []
adds_lost allows old m new is = record {
  to = standing None false (moment old m);
  log = is ∙ sym (append-nil old.log);
  walk = Views-same _;
  plain = All-nil IsFilterCall;
}

-- ---- one call

-- a filter of the application on the way of a response is none of the modules
filter_no_module : (which : Hook) → filters_response which ≡ true → is_module which ≡ false
filter_no_module hook.UpstreamResponseFilter is = refl
filter_no_module hook.ResponseFilter is = refl
filter_no_module hook.UpstreamResponseBodyFilter is = refl
filter_no_module hook.ResponseBodyFilter is = refl
filter_no_module hook.UpstreamResponseTrailerFilter is = refl
filter_no_module hook.ResponseTrailerFilter is = refl
filter_no_module other is = cc

-- each call of modules is one of a filter of theirs
module_filter : (call : ModuleCall) → is_module (hook_of call) ≡ true
module_filter (request_header before left error) = refl
module_filter (request_body before left end error) = refl
module_filter (response_header before left end error) = refl
module_filter (response_body before left end error) = refl
module_filter (response_trailer before left answer error) = refl
module_filter (response_done answer error) = refl

-- one of three holds, since the second does
either_mid : (a b c : Bool) → b ≡ true → (a || (b || c)) ≡ true
either_mid true b c is = refl
either_mid false b c is = ap (λ (x : Bool). x || c) is

-- the same, since the last does
either_last : (a b c : Bool) → c ≡ true → (a || (b || c)) ≡ true
either_last true b c is = refl
either_last false true c is = refl
either_last false false c is = is

-- of the client's session a call of the application changes no more than the head
pub call_client : (app : Standing → LogEntry → Type 0) (which : Hook) (input : Item) (old : Seen)
    (mark : ℕ) (new : Seen) (mark' : ℕ) (left : Left)
    → Calls app which input old mark new mark' left
    → SameButHead old.downstream new.downstream
call_client app which input old mark new mark' left call =
    subst (λ (s : Seen). SameButHead old.downstream s.downstream) (sym call.rest)
    (record {
      head = call.lawful.request.head;
      but_head = call.lawful.request.but_head;
      writing = ap (λ (s : Seen). s.downstream.writing) call.lawful.rest;
    })

-- a call of the application
module _ (app : Standing → LogEntry → Type 0) (modules : ModuleCall → Type 0) (which : Hook)
    (input : Item) (old : Seen) (mark : ℕ) (new : Seen) (mark' : ℕ) (left : Left)
    (head : IsSome (head_of old.downstream.reading))
    (call : Calls app which input old mark new mark' left) where
  -- its entry
  abbrev pub entry_of_app : LogEntry
  entry_of_app = entry which input (moment (cleared old) mark) left (moment call.returned mark')

  -- of a filter
  pub adds_filter : is_module which ≡ false
      → (filters_request which || (filters_response which || is_module_response which)) ≡ true
      → Adds (IsAllowed app modules) old mark new mark' (entry_of_app ∷ [])
  adds_filter is_app is_filter = record {
    log = call.log;
    walk = CallsOf-walks app modules None false which input old mark new mark' left call is_app;
    plain = All-cons IsFilterCall entry_of_app [] (record {
      is_filter = is_filter;
      quiet = ap (λ (s : Seen). s.wrote) call.lawful.rest;
    }) (All-nil IsFilterCall);
    head = subst (λ (s : Seen). IsSome (head_of s.downstream.reading)) (sym call.rest)
        (call.lawful.request.head head);
    client = call_client app which input old mark new mark' left call;
  }

-- a call of the application on the way of a response
module _ (app : Standing → LogEntry → Type 0) (modules : ModuleCall → Type 0) (which : Hook)
    (input : Item) (old : Seen) (mark : ℕ) (new : Seen) (mark' : ℕ) (left : Left)
    (is_app : filters_response which ≡ true) (head : IsSome (head_of old.downstream.reading))
    (call : Calls app which input old mark new mark' left) where
  -- its entry
  abbrev pub app_entry : LogEntry
  app_entry = entry which input (moment (cleared old) mark) left (moment call.returned mark')

  pub adds_call : Adds (IsAllowed app modules) old mark new mark' (app_entry ∷ [])
  adds_call =
      adds_filter app modules which input old mark new mark' left head call
      (filter_no_module which is_app) (either_mid (filters_request which) _ _ is_app)

-- modules that stand allow it as some
some_allows : {M : Type 0} (allows : M → ModuleCall → Type 0) (m : Option M) (call : ModuleCall)
    → IsSome m → AllowsMade allows m call → SomeAllow allows call
some_allows allows None call stand allowed = cc
some_allows allows (Some m) call stand allowed = (m, allowed)

-- a call of the modules
module _ (app : Standing → LogEntry → Type 0) {M : Type 0} (allows : M → ModuleCall → Type 0)
    (m : Option M) (stand : IsSome m) (old : Seen) (mark : ℕ) (new : Seen) (call : ModuleCall)
    (is_filter : (filters_request (hook_of call)
    || (filters_response (hook_of call) || is_module_response (hook_of call))) ≡ true)
    (head : IsSome (head_of old.downstream.reading))
    (made : CallsModule (AllowsMade allows m) old mark new call) where
  -- its entry
  abbrev pub filter_of_modules : LogEntry
  filter_of_modules = module_entry call (moment (cleared old) mark)

  -- of a filter
  pub adds_modules : Adds (IsAllowed app (SomeAllow allows)) old mark new mark
      (filter_of_modules ∷ [])
  adds_modules = record {
    log = made.log;
    walk = (
      standing None false (moment old mark),
      Views-same _,
      record {
        mark = refl;
        view = refl;
        by_module = subst (λ (b : Bool). LeavesIf b (standing None false (moment old mark))
            filter_of_modules)
            (sym (module_filter call))
            (record { mark = refl; keepalive = refl; wrote = refl; delay = refl });
      },
      subst (λ (b : Bool). AllowsBy b app (SomeAllow allows)
          (standing None false (moment old mark)) filter_of_modules)
          (sym (module_filter call)) (
            call,
            record { hook = refl; input = refl; output = refl; error = refl },
            some_allows allows m call stand made.allowed,
          ),
      record {
        mark = refl;
        head = ap request_head made.rest;
        keepalive = ap (λ (s : Seen). s.keepalive) made.rest;
        final_head =
            subst (λ (s : Seen). has_head old.downstream.writing.place ≡ true
            → has_head s.downstream.writing.place ≡ true) (sym made.rest) (λ h. h);
        upgraded = λ h. h;
      },
    );
    plain = All-cons IsFilterCall filter_of_modules []
        (record { is_filter = is_filter; quiet = refl }) (All-nil IsFilterCall);
    head = subst (λ (s : Seen). IsSome (head_of s.downstream.reading)) (sym made.rest) head;
    client = subst (λ (s : Seen). SameButHead old.downstream s.downstream) (sym made.rest)
        (lent_same old.downstream);
  }

-- a call of the modules on the way of a response
module _ (app : Standing → LogEntry → Type 0) {M : Type 0} (allows : M → ModuleCall → Type 0)
    (m : Option M) (stand : IsSome m) (old : Seen) (mark : ℕ) (new : Seen) (call : ModuleCall)
    (is_modules : is_module_response (hook_of call) ≡ true)
    (head : IsSome (head_of old.downstream.reading))
    (made : CallsModule (AllowsMade allows m) old mark new call) where
  -- its entry
  abbrev pub entry_of_modules : LogEntry
  entry_of_modules = module_entry call (moment (cleared old) mark)

  pub adds_module : Adds (IsAllowed app (SomeAllow allows)) old mark new mark
      (entry_of_modules ∷ [])
  adds_module =
      adds_modules app allows m stand old mark new call
      (either_last (filters_request (hook_of call)) (filters_response (hook_of call)) _
      is_modules) head made

-- ---- what filters come to

-- what goes on behind calls
pub behind : {Y : Type 0} (allows : Standing → LogEntry → Type 0)
    (chain chain' : List LogEntry → Y → Type 0) (feeds feeds' : List LogEntry → Type 0)
    (of_head : Bool) (r : Result Y Fail) (es : List LogEntry) (old : Seen) (m : ℕ) (mid : Seen)
    (m1 : ℕ) (new : Seen) (m2 : ℕ) → Adds allows old m mid m1 es
    → ((fs : List LogEntry) (y : Y) → chain fs y → chain' (es ++ fs) y)
    → ((fs : List LogEntry) → feeds fs → feeds' (es ++ fs))
    → Outcome allows chain feeds (Refuses of_head) r mid m1 new m2
    → Outcome allows chain' feeds' (Refuses of_head) r old m new m2
behind allows chain chain' feeds feeds' of_head (Ok y) es old m mid m1 new m2 a on fed
    (fs, b, c) =
    (es ++ fs, adds_both allows old m mid m1 new m2 es fs a b, on fs y c)
behind allows chain chain' feeds feeds' of_head (Err (fail.Error e)) es old m mid m1 new m2 a on
    fed (fs, b, f, refused) = (
      es ++ fs,
      adds_both allows old m mid m1 new m2 es fs a b,
      fed fs f,
      refuses_behind of_head e es fs refused,
    )
behind allows chain chain' feeds feeds' of_head (Err fail.OutOfMemory) es old m mid m1 new m2 a on
    fed (fs, b, f) =
    (es ++ fs, adds_some allows old m mid m1 new es fs a b, fed fs f)

-- an error goes on
pub stops : {X Y : Type 0} (allows : Standing → LogEntry → Type 0)
    (chain : List LogEntry → X → Type 0) (chain' : List LogEntry → Y → Type 0)
    (feeds feeds' : List LogEntry → Type 0) (of_head : Bool) (why : Fail) (old : Seen) (m : ℕ)
    (new : Seen) (m1 : ℕ) → ((es : List LogEntry) → feeds es → feeds' es)
    → Outcome allows chain feeds (Refuses of_head) (Err why) old m new m1
    → Outcome allows chain' feeds' (Refuses of_head) (Err why) old m new m1
stops allows chain chain' feeds feeds' of_head (fail.Error e) old m new m1 fed
    (es, a, f, refused) = (es, a, fed es f, refused)
stops allows chain chain' feeds feeds' of_head fail.OutOfMemory old m new m1 fed (es, a, f) =
    (es, a, fed es f)

-- and so behind calls
pub stops_behind : {X Y : Type 0} (allows : Standing → LogEntry → Type 0)
    (chain : List LogEntry → X → Type 0) (chain' : List LogEntry → Y → Type 0)
    (feeds feeds' : List LogEntry → Type 0) (of_head : Bool) (why : Fail) (es : List LogEntry)
    (old : Seen) (m : ℕ) (mid : Seen) (m1 : ℕ) (new : Seen) (m2 : ℕ)
    → Adds allows old m mid m1 es → ((fs : List LogEntry) → feeds fs → feeds' (es ++ fs))
    → Outcome allows chain feeds (Refuses of_head) (Err why) mid m1 new m2
    → Outcome allows chain' feeds' (Refuses of_head) (Err why) old m new m2
stops_behind allows chain chain' feeds feeds' of_head (fail.Error e) es old m mid m1 new m2 a fed
    (fs, b, f, refused) = (
      es ++ fs,
      adds_both allows old m mid m1 new m2 es fs a b,
      fed fs f,
      refuses_behind of_head e es fs refused,
    )
stops_behind allows chain chain' feeds feeds' of_head fail.OutOfMemory es old m mid m1 new m2 a fed
    (fs, b, f) = (es ++ fs, adds_some allows old m mid m1 new es fs a b, fed fs f)

-- a call of the application that answered an error, or wanted memory
pub call_fails : (T : Type 0) {Y : Type 0} (app : Standing → LogEntry → Type 0)
    (modules : ModuleCall → Type 0) (which : Hook) (input output : Item) (old : Seen) (mark : ℕ)
    (new : Seen) (mark' : ℕ)
    (chain : List LogEntry → Y → Type 0) (feeds : List LogEntry → Type 0) (of_head : Bool)
    (why : Fail) → filters_response which ≡ true → IsSome (head_of old.downstream.reading)
    → feeds [] → ((e : LogEntry) → Gave which input e → feeds (e ∷ []))
    → Enters (changed {T = T} output (Err why)) (Calls app which input old mark new mark') old new
    → Outcome (IsAllowed app modules) chain feeds (Refuses of_head) (Err why) old mark new mark'
call_fails T app modules which input output old mark new mark' chain feeds of_head (fail.Error e)
    is_app head none fed call = (
      app_entry app modules which input old mark new mark' _ is_app head call ∷ [],
      adds_call app modules which input old mark new mark' _ is_app head call,
      fed _ (record { is_hook = refl; was = refl }),
      by_hook [] _ refl refl,
    )
call_fails T app modules which input output old mark new mark' chain feeds of_head fail.OutOfMemory
    is_app head none fed is = ([], adds_lost _ old mark new is, none)

-- the same of a filter that may ask for a delay
pub delayed_fails : {Y : Type 0} (app : Standing → LogEntry → Type 0)
    (modules : ModuleCall → Type 0) (which : Hook) (input output : Item) (old : Seen) (mark : ℕ)
    (new : Seen) (mark' : ℕ) (chain : List LogEntry → Y → Type 0)
    (feeds : List LogEntry → Type 0) (of_head : Bool) (why : Fail) → filters_response which ≡ true
    → IsSome (head_of old.downstream.reading) → feeds []
    → ((e : LogEntry) → Gave which input e → feeds (e ∷ []))
    → Enters (delayed output (Err why)) (Calls app which input old mark new mark') old new
    → Outcome (IsAllowed app modules) chain feeds (Refuses of_head) (Err why) old mark new mark'
delayed_fails app modules which input output old mark new mark' chain feeds of_head (fail.Error e)
    is_app head none fed call = (
      app_entry app modules which input old mark new mark' _ is_app head call ∷ [],
      adds_call app modules which input old mark new mark' _ is_app head call,
      fed _ (record { is_hook = refl; was = refl }),
      by_hook [] _ refl refl,
    )
delayed_fails app modules which input output old mark new mark' chain feeds of_head
    fail.OutOfMemory is_app head none fed is = ([], adds_lost _ old mark new is, none)

-- the same of the modules
pub module_fails : {M Y : Type 0} (app : Standing → LogEntry → Type 0)
    (allows : M → ModuleCall → Type 0) (m : Option M) (stand : IsSome m)
    (made : Option Error → ModuleCall) (old : Seen) (mark : ℕ) (new : Seen)
    (chain : List LogEntry → Y → Type 0) (feeds : List LogEntry → Type 0) (of_head : Bool)
    (why : Fail)
    → ((error : Option Error) → is_module_response (hook_of (made error)) ≡ true)
    → ((error : Error) → error_of (made (Some error)) ≡ Some error)
    → IsSome (head_of old.downstream.reading) → feeds []
    → ((e : LogEntry) (error : Option Error)
    → Gave (hook_of (made error)) (input_of (made error)) e → feeds (e ∷ []))
    → Enters (called made (Err why)) (CallsModule (AllowsMade allows m) old mark new) old new
    → Outcome (IsAllowed app (SomeAllow allows)) chain feeds (Refuses of_head) (Err why) old mark
    new mark
module_fails app allows m stand made old mark new chain feeds of_head (fail.Error e) are says head
    none fed call = (
      entry_of_modules app allows m stand old mark new (made (Some e)) (are (Some e)) head
          call ∷ [],
      adds_module app allows m stand old mark new (made (Some e)) (are (Some e)) head call,
      fed _ (Some e) (record { is_hook = refl; was = refl }),
      by_hook [] _ refl (says e),
    )
module_fails app allows m stand made old mark new chain feeds of_head fail.OutOfMemory are says head
    none fed is = ([], adds_lost _ old mark new is, none)

-- a call of the modules passed something
pub module_passes : {M Y : Type 0} (app : Standing → LogEntry → Type 0)
    (allows : M → ModuleCall → Type 0) (m : Option M) (stand : IsSome m) (call : ModuleCall)
    (old : Seen) (mark : ℕ) (new : Seen) (chain : List LogEntry → Y → Type 0)
    (feeds : List LogEntry → Type 0) (of_head : Bool) (y : Y)
    → is_module_response (hook_of call) ≡ true
    → error_of call ≡ None
    → IsSome (head_of old.downstream.reading)
    → ((e : LogEntry) → Called (hook_of call) (input_of call) (output_of call) e
    → chain (e ∷ []) y)
    → CallsModule (AllowsMade allows m) old mark new call
    → Outcome (IsAllowed app (SomeAllow allows)) chain feeds (Refuses of_head) (Ok y) old mark new
    mark
module_passes app allows m stand call old mark new chain feeds of_head y are ok head on made = (
  entry_of_modules app allows m stand old mark new call are head made ∷ [],
  adds_module app allows m stand old mark new call are head made,
  on _ (record { is_hook = refl; was = refl; left = refl; ok = ok }),
)

-- one left a head that is refused
pub module_refused : {M Y : Type 0} (app : Standing → LogEntry → Type 0)
    (allows : M → ModuleCall → Type 0) (m : Option M) (stand : IsSome m) (call : ModuleCall)
    (old : Seen) (mark : ℕ) (new : Seen) (chain : List LogEntry → Y → Type 0)
    (feeds : List LogEntry → Type 0) (of_head : Bool) (e : Error)
    → is_module_response (hook_of call) ≡ true
    → error_of call ≡ None
    → checked (hook_of call) (output_of call) ≡ Some e
    → IsSome (head_of old.downstream.reading)
    → ((e : LogEntry) → Gave (hook_of call) (input_of call) e → feeds (e ∷ []))
    → CallsModule (AllowsMade allows m) old mark new call
    → Outcome (IsAllowed app (SomeAllow allows)) chain feeds (Refuses of_head)
    (Err (fail.Error e)) old mark new mark
module_refused app allows m stand call old mark new chain feeds of_head e are ok says head fed
    made = (
      entry_of_modules app allows m stand old mark new call are head made ∷ [],
      adds_module app allows m stand old mark new call are head made,
      fed _ (record { is_hook = refl; was = refl }),
      by_check [] _ refl ok says,
    )

-- a call of the modules that answers bytes answered an error, or wanted memory
pub reply_fails : {M Y : Type 0} (app : Standing → LogEntry → Type 0)
    (allows : M → ModuleCall → Type 0) (m : Option M) (stand : IsSome m)
    (made : Option (List ℕ) → Option Error → ModuleCall) (old : Seen) (mark : ℕ) (new : Seen)
    (chain : List LogEntry → Y → Type 0) (feeds : List LogEntry → Type 0) (of_head : Bool)
    (why : Fail) → ((error : Option Error) → is_module_response (hook_of (made None error)) ≡ true)
    → ((error : Error) → error_of (made None (Some error)) ≡ Some error)
    → IsSome (head_of old.downstream.reading) → feeds []
    → ((e : LogEntry) (error : Option Error)
    → Gave (hook_of (made None error)) (input_of (made None error)) e → feeds (e ∷ []))
    → Enters (replied made (Err why)) (CallsModule (AllowsMade allows m) old mark new) old new
    → Outcome (IsAllowed app (SomeAllow allows)) chain feeds (Refuses of_head) (Err why) old mark
    new mark
reply_fails app allows m stand made old mark new chain feeds of_head (fail.Error e) are says head
    none fed call = (
      entry_of_modules app allows m stand old mark new (made None (Some e)) (are (Some e)) head
          call ∷ [],
      adds_module app allows m stand old mark new (made None (Some e)) (are (Some e)) head call,
      fed _ (Some e) (record { is_hook = refl; was = refl }),
      by_hook [] _ refl (says e),
    )
reply_fails app allows m stand made old mark new chain feeds of_head fail.OutOfMemory are says head
    none fed is = ([], adds_lost _ old mark new is, none)

-- ---- a batch

-- the tasks so far passed, by these calls
pub record SoFar (allows : Standing → LogEntry → Type 0)
    (chain : HttpTask → List LogEntry → HttpTask → Type 0) (part : List LogEntry → Type 0)
    (whole left made : List HttpTask) (old : Seen) (mark : ℕ) (new : Seen) (mark' : ℕ)
    : Type 0 where
  pub es : List LogEntry
  pub adds : Adds allows old mark new mark' es
  pub are : part es
  pub front : List HttpTask
  pub parts : whole ≡ front ++ left
  pub pass : AllPass chain es front made

-- none yet
pub none_passed : (allows : Standing → LogEntry → Type 0)
    (chain : HttpTask → List LogEntry → HttpTask → Type 0) (part : List LogEntry → Type 0)
    (whole made : List HttpTask) (seen : Seen) (mark : ℕ) → part []
    → IsSome (head_of seen.downstream.reading) → made ≡ []
    → SoFar allows chain part whole whole made seen mark seen mark
none_passed allows chain part whole made seen mark none head is = record {
  es = [];
  adds = adds_none allows seen mark head;
  are = none;
  front = [];
  parts = refl;
  pass = subst (λ (l : List HttpTask). AllPass chain [] [] l) (sym is) refl;
}

-- one more passed
pub one_more : (allows : Standing → LogEntry → Type 0)
    (chain : HttpTask → List LogEntry → HttpTask → Type 0) (part : List LogEntry → Type 0)
    (feeds : HttpTask → List LogEntry → Type 0) (of_head : Bool)
    (whole left left' made made' : List HttpTask) (x y : HttpTask) (old : Seen) (mark : ℕ)
    (mid : Seen) (m1 : ℕ) (new : Seen) (m2 : ℕ)
    → ((es fs : List LogEntry) → part es → part fs → part (es ++ fs))
    → ((es : List LogEntry) → chain x es y → part es)
    → left ≡ x ∷ left' → made' ≡ made ++ y ∷ []
    → SoFar allows chain part whole left made old mark mid m1
    → Outcome allows (chain x) (feeds x) (Refuses of_head) (Ok y) mid m1 new m2
    → SoFar allows chain part whole left' made' old mark new m2
one_more allows chain part feeds of_head whole left left' made made' x y old mark mid m1 new m2 join
    is_part is becomes s (fs, a, c) = record {
      es = s.es ++ fs;
      adds = adds_both allows old mark mid m1 new m2 s.es fs s.adds a;
      are = join s.es fs s.are (is_part fs c);
      front = s.front ++ x ∷ [];
      parts = s.parts ∙ ap (λ (l : List HttpTask). s.front ++ l) is
          ∙ sym (append_assoc s.front (x ∷ []) left');
      pass = subst (λ (l : List HttpTask). AllPass chain (s.es ++ fs) (s.front ++ x ∷ []) l)
          (sym becomes)
          (all_append chain s.es fs s.front (x ∷ []) made (y ∷ []) s.pass
          (all_one chain fs x y c));
    }

-- a task did not pass
pub one_stops : (allows : Standing → LogEntry → Type 0)
    (chain : HttpTask → List LogEntry → HttpTask → Type 0) (part : List LogEntry → Type 0)
    (feeds : HttpTask → List LogEntry → Type 0) (of_head : Bool)
    (whole left left' made : List HttpTask) (x : HttpTask) (why : Fail) (old : Seen) (mark : ℕ)
    (mid : Seen) (m1 : ℕ) (new : Seen) (m2 : ℕ)
    → ((es fs : List LogEntry) → part es → part fs → part (es ++ fs))
    → ((es : List LogEntry) → feeds x es → part es) → left ≡ x ∷ left'
    → SoFar allows chain part whole left made old mark mid m1
    → Outcome {Y = HttpTask} allows (chain x) (feeds x) (Refuses of_head) (Err why) mid m1 new m2
    → Outcome {Y = List HttpTask} allows (λ es out. part es × AllPass chain es whole out)
    (λ es. part es × FrontPasses chain feeds whole es) (Refuses of_head) (Err why) old mark new m2
one_stops allows chain part feeds of_head whole left left' made x why old mark mid m1 new m2 join
    is_part is s stopped =
    stops_behind allows (chain x) (λ es out. part es × AllPass chain es whole out) (feeds x)
    (λ es. part es × FrontPasses chain feeds whole es) of_head why s.es old mark mid m1 new m2
    s.adds
    (λ fs fed. (
      join s.es fs s.are (is_part fs fed),
      record {
        front = s.front;
        at = x;
        behind = left';
        are = s.parts ∙ ap (λ (l : List HttpTask). s.front ++ l) is;
        made = made;
        calls = s.es;
        last = fs;
        parts = refl;
        pass = s.pass;
        fed = fed;
      },
    )) stopped

-- a task passed, and memory was wanted for what was made of it
pub one_lost : (allows : Standing → LogEntry → Type 0)
    (chain : HttpTask → List LogEntry → HttpTask → Type 0) (part : List LogEntry → Type 0)
    (feeds : HttpTask → List LogEntry → Type 0) (of_head : Bool)
    (whole left left' made : List HttpTask) (x y : HttpTask) (why : Fail) (old : Seen) (mark : ℕ)
    (mid : Seen) (m1 : ℕ) (new : Seen) (m2 : ℕ)
    → ((es fs : List LogEntry) → part es → part fs → part (es ++ fs))
    → ((es : List LogEntry) → feeds x es → part es)
    → ((es : List LogEntry) → chain x es y → feeds x es) → left ≡ x ∷ left'
    → why ≡ fail.OutOfMemory
    → SoFar allows chain part whole left made old mark mid m1
    → Outcome allows (chain x) (feeds x) (Refuses of_head) (Ok y) mid m1 new m2
    → Outcome {Y = List HttpTask} allows (λ es out. part es × AllPass chain es whole out)
    (λ es. part es × FrontPasses chain feeds whole es) (Refuses of_head) (Err why) old mark new m2
one_lost allows chain part feeds of_head whole left left' made x y (fail.Error e) old mark mid m1
    new m2 join is_part is_fed is lost s passed = absurd (no_memory lost)
  where
    no_memory : fail.Error e ≡ fail.OutOfMemory → ⊥
    no_memory is = cc
one_lost allows chain part feeds of_head whole left left' made x y fail.OutOfMemory old mark mid m1
    new m2 join is_part is_fed is lost s (fs, a, c) =
    one_stops allows chain part feeds of_head whole left left' made x fail.OutOfMemory old mark mid
    m1 new m2 join is_part is s (fs, adds_at_least allows mid m1 new m2 fs a, is_fed fs c)

-- all passed
pub all_passed : (allows : Standing → LogEntry → Type 0)
    (chain : HttpTask → List LogEntry → HttpTask → Type 0) (part : List LogEntry → Type 0)
    (feeds : HttpTask → List LogEntry → Type 0) (of_head : Bool)
    (whole left made : List HttpTask) (old : Seen) (mark : ℕ) (new : Seen) (m2 : ℕ)
    → left ≡ [] → SoFar allows chain part whole left made old mark new m2
    → Outcome {Y = List HttpTask} allows (λ es out. part es × AllPass chain es whole out)
    (λ es. part es × FrontPasses chain feeds whole es) (Refuses of_head) (Ok made) old mark new m2
all_passed allows chain part feeds of_head whole left made old mark new m2 is s = (
  s.es,
  s.adds,
  (
    s.are,
    subst (λ (l : List HttpTask). AllPass chain s.es l made)
        (sym (s.parts ∙ ap (λ (l : List HttpTask). s.front ++ l) is ∙ append-nil s.front)) s.pass,
  ),
)
