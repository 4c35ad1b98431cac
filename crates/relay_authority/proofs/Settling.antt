-- What a table says of an answer, a wider table says too.
use Rattle.std.proofs.Common.{◌≡◌, ◌↔◌, ◌∙◌, ℕ, ◌<◌, List, [], ltb, refl, ap}
use Rattle.std.proofs.lemmas.Bool.{lt-ltb}
use Rattle.std.specs.Prelude.{Bool, true, false, not, IsTrue, Option, Some, None, Result, Ok, Err, OnOk, OnErr, IsOkUnless, IsErrOf}
use Rattle.relay_tasks.specs.Error.{refused, IsMemoryOr}
use Rattle.relay_tasks.specs.Head.{RequestHead}
use Rattle.relay_tasks.specs.declared.Context.{Context}
use Rattle.relay_tasks.specs.declared.Error.{Error}
use Rattle.relay_tasks.specs.declared.Fail.{Fail}
use Rattle.relay_tasks.specs.declared.Fail.TheVariants as fail
use Rattle.relay_authority.specs.Http2.{Answers, FailsTo}
use Rattle.relay_authority.specs.Table.{Outcome, Settles, FailsAs, Judges, judged}

-- an edit that settles one table settles each table that follows from it
pub settles_wider : {T U : Outcome → Type 0} (old new : RequestHead)
    (result : Result (Unit {0}) Fail)
    → ((outcome : Outcome) → T outcome → U outcome) → Settles T old new result
    → Settles U old new result
settles_wider old new (Ok done) wider h = wider _ h
settles_wider old new (Err fail.OutOfMemory) wider h = h
settles_wider old new (Err (fail.Error error)) wider h = (h.0, h.1, wider _ h.2)

-- so does a judgement
pub judges_wider : {T U : Option Context → Type 0} (result : Result (Unit {0}) Error)
    → ((answer : Option Context) → T answer → U answer) → Judges T result → Judges U result
judges_wider (Ok done) wider h = wider _ h
judges_wider (Err error) wider h = (h.0, h.1, wider _ h.2)

-- a refusal that the table gives is a judgement by it
pub judges : (T : Option Context → Type 0) (answer : Option Context) → T answer
    → Judges T (judged answer)
judges T None h = h
judges T (Some why) h = (why, refl, h)

-- a test that fails refutes what it decides
pub refuted : {P : Type 0} (test : Bool) → (IsTrue test ↔ P) → test ≡ false → ¬ P
refuted test decides fails holds = let passes = decides.1 holds in cc

-- a comparison that fails refutes the order
pub not_below : (m n : ℕ) (test : Bool) → test ≡ ltb m n → test ≡ false → ¬ (m < n)
not_below m n test is fails below = let on = lt-ltb m n below in cc

-- so does one whose opposite holds
pub not_below-not : (m n : ℕ) (test : Bool) → test ≡ ltb m n → IsTrue (not test) → ¬ (m < n)
not_below-not m n test is fails below = let on = lt-ltb m n below in
    let holds : test ≡ true = is ∙ on in absurd (let off = rw holds at fails in cc)

-- what a test that holds computes holds
pub test_holds : (test : Bool) (a b : List ℕ) (f : List ℕ → Bool) → test ≡ f a → a ≡ b → test ≡ true
    → IsTrue (f b)
test_holds test a b f is same holds = rw (← same, ← is) holds

-- what a test that fails computes does not hold
pub test_fails : (test : Bool) (a b : List ℕ) (f : List ℕ → Bool) → test ≡ f a → a ≡ b
    → test ≡ false → ¬ (IsTrue (f b))
test_fails test a b f is same fails on = let h = rw (← same, ← is) at on in cc

-- a refusal that the table gives settles it
pub refused_as : (T : Outcome → Type 0) (old : RequestHead) (why : Context) (given : Fail)
    → given ≡ fail.Error (refused why)
    → T (record { refusal = Some why; head = old }) → FailsAs T old old given
refused_as T old why given is table = rw is (why, refl, table)

-- a failure of a part of an edit, which has one refusal with its exact cause, settles what gives
-- that refusal
pub failed_by : (T : Outcome → Type 0) (old : RequestHead) (why : Context) (given : Fail)
    (X : Type 0) (P : Type 0)
    → IsMemoryOr (refused why) given → (IsErrOf {T = X} (Err given) (fail.Error (refused why)) ↔ P)
    → (P → T (record { refusal = Some why; head = old })) → FailsAs T old old given
failed_by T old why fail.OutOfMemory X P causes exact table = refl
failed_by T old why (fail.Error error) X P causes exact table =
    (why, causes, table (exact.0 (ap (λ e. Err (fail.Error e)) causes)))

-- an edit that lacks only memory settles what leaves that head
pub done_as : (T : Outcome → Type 0) (old new done : RequestHead) (result : Result (Unit {0}) Fail)
    → OnOk result (new ≡ done)
    → IsOkUnless result fail.OutOfMemory → OnErr result (new ≡ old)
    → T (record { refusal = None; head = done }) → Settles T old new result
done_as T old new done (Ok x) ok memory err table = rw ok table
done_as T old new done (Err fail.OutOfMemory) ok memory err table = err
done_as T old new done (Err (fail.Error error)) ok memory err table = absurd cc

-- an answer is what a wider table says
pub answers_wider : {T U : Option Context → List ℕ → Type 0} (result : Result (List ℕ) Fail)
    → ((refusal : Option Context) (path : List ℕ) → T refusal path → U refusal path)
    → Answers T result → Answers U result
answers_wider (Ok path) wider h = wider _ _ h
answers_wider (Err fail.OutOfMemory) wider h = h
answers_wider (Err (fail.Error error)) wider h = (h.0, h.1, wider _ _ h.2)

-- a refusal that the table gives is its answer
pub answers_refusal : (T : Option Context → List ℕ → Type 0) (why : Context) (given : Fail)
    → given ≡ fail.Error (refused why)
    → T (Some why) [] → FailsTo T given
answers_refusal T why given is table = rw is (why, refl, table)

-- what was done was not refused, so the cause of the refusal does not stand
pub done_not_refused : {T E : Type 0} (x : T) (e : E) (P : Type 0) → (IsErrOf (Ok x) e ↔ P) → ¬ P
done_not_refused x e P exact holds = let refusal = exact.1 holds in absurd cc

-- a test whose opposite holds refutes what it decides
pub refuted-not : {P : Type 0} (test : Bool) → (IsTrue test ↔ P) → not test ≡ true → ¬ P
refuted-not true decides fails holds = absurd cc
refuted-not false decides fails holds = let passes = decides.1 holds in absurd cc

-- a test whose opposite fails proves what it decides
pub passed : {P : Type 0} (test : Bool) → (IsTrue test ↔ P) → not test ≡ false → P
passed true decides fails = decides.0 refl
passed false decides fails = absurd cc
