-- What filters make of a response that leave what they are given.
--
--   rest_neutral    the calls behind others change nothing where all of them do not
--   part_neutral    nor do those of a part of the log
--   method_asks     a method that is a HEAD, or none
--   makes_neutral   all that was made of it so far is what came, as it is handed on
--   made_neutral    so is what was made of a batch
--   none_switches   no head switches protocols that passed them
use Rattle.std.proofs.Common.{◌≡◌, ℕ, Bool, true, false, if◌then◌else◌, inl, inr, List, [], ◌∷◌, ◌++◌, map, filter, refl, sym, ap, subst, ◌∙◌, Option, Some, None}
use Rattle.std.specs.Prelude.{◌==◌, cond}
use Rattle.std.specs.List.{list_any}
use Rattle.relay_tasks.specs.declared.hook.Hook.{Hook}
use Rattle.relay_tasks.specs.declared.log.Item.{Item}
use Rattle.relay_tasks.specs.declared.log.Item.TheVariants as item
use Rattle.relay_tasks.specs.declared.log.LogEntry.{LogEntry}
use Rattle.relay_tasks.specs.declared.task.HttpTask.{HttpTask}
use Rattle.relay_tasks.specs.declared.task.HttpTask.TheVariants as task
use Rattle.relay_tasks.specs.Head.{Fields, ResponseHead}
use Rattle.relay_h1.specs.ClientHead.{chunked_head}
use Rattle.relay_core.proofs.BoolLemmas.{or_false}
use Rattle.relay_modules.specs.Filtering.{ended_by}
use Rattle.relay_modules.specs.Module.{piece_or}
use Rattle.relay_sides.specs.Filtered.{handed, is_head_request, is_switch}
use Rattle.relay_sides.proofs.FilterLemmas.{one_test}
use Rattle.relay_filters.specs.Chain.{AllPass, Called, ModuleChain, PassedModules, PassesModules, TaskChain, framed, method_of}
use Rattle.relay_filters.specs.Response.{MakesOf, WasMade}
use Rattle.relay_hooked.specs.Neutral.{AreNeutral, LeavesIt}

-- ---- calls

-- the calls in front of others
front_neutral : (es fs : List LogEntry) → AreNeutral (es ++ fs) → AreNeutral es
front_neutral [] fs n = tt
front_neutral (e ∷ es) fs n = (n.0, front_neutral es fs n.1)

-- and those behind them
pub rest_neutral : (es fs : List LogEntry) → AreNeutral (es ++ fs) → AreNeutral fs
rest_neutral [] fs n = n
rest_neutral (e ∷ es) fs n = rest_neutral es fs n.1

-- those of a part of the log
pub part_neutral : (test : LogEntry → Bool) (es : List LogEntry) → AreNeutral es
    → AreNeutral (filter test es)
part_neutral test [] n = tt
part_neutral test (e ∷ es) n = on (test e) (part_neutral test es n.1)
  where
    on : (b : Bool) → AreNeutral (filter test es)
        → AreNeutral (cond b (e ∷ filter test es) (filter test es))
    on true rest = (n.0, rest)
    on false rest = rest

-- what a call left is what it was given
left_same : (which : Hook) (input output : Item) (e : LogEntry) → LeavesIt e
    → Called which input output e → output ≡ input
left_same which input output e n c = sym c.left ∙ n.same ∙ c.was

-- one head, one piece, one list of fields
same_head : (a b : ResponseHead) (x y : Bool) → item.Response a x ≡ item.Response b y → a ≡ b
same_head a b x y same = cc

same_piece : (a b : Option (List ℕ)) (x y : Bool) → item.Piece a x ≡ item.Piece b y → a ≡ b
same_piece a b x y same = cc

same_fields : (a b : Option Fields) → item.Trailers a ≡ item.Trailers b → a ≡ b
same_fields a b same = cc

-- ---- a task

-- a method that is a HEAD, or none
pub method_asks : (of_head : Bool) → is_head_request (method_of of_head) ≡ of_head
method_asks true = refl
method_asks false = refl

-- by the filters of the application it is handed on
app_neutral : (of_head : Bool) (method : List ℕ) → is_head_request method ≡ of_head
    → (x : HttpTask) (es : List LogEntry) (y : HttpTask) → AreNeutral es
    → TaskChain of_head x es y → y ≡ handed method x
app_neutral of_head method same (task.Header head end) es y n (last, h, is) =
    let calls = subst (λ (l : List LogEntry). AreNeutral l) h.calls n in
    let first = same_head h.first head end end (left_same _ _ _ h.u calls.0 h.upstream) in
    let next = same_head last (framed of_head end h.first) end end
    (left_same _ _ _ h.r calls.1.0 h.response) in
    is ∙ ap (λ (x : ResponseHead). task.Header x end)
    (next ∙ ap (λ (x : ResponseHead). framed of_head end x) first)
    ∙ ap (λ (b : Bool). task.Header (if b then chunked_head head else head) end)
    (one_test (method_of of_head) method end head (method_asks of_head ∙ sym same))
app_neutral of_head method same (task.Body bytes end) es y n (last, b, is) =
    let calls = subst (λ (l : List LogEntry). AreNeutral l) b.calls n in
    let first = same_piece b.mid bytes end end (left_same _ _ _ b.u calls.0 b.upstream) in
    let next = same_piece last b.mid end end (left_same _ _ _ b.r calls.1.0 b.response) in
    is ∙ ap (λ (x : Option (List ℕ)). task.Body x end) (next ∙ first)
app_neutral of_head method same (task.UpgradedBody bytes end) es y n (last, b, is) =
    let calls = subst (λ (l : List LogEntry). AreNeutral l) b.calls n in
    let first = same_piece b.mid bytes end end (left_same _ _ _ b.u calls.0 b.upstream) in
    let next = same_piece last b.mid end end (left_same _ _ _ b.r calls.1.0 b.response) in
    is ∙ ap (λ (x : Option (List ℕ)). task.UpgradedBody x end) (next ∙ first)
app_neutral of_head method same (task.Trailer None) es y n (none, is) = is
app_neutral of_head method same (task.Trailer (Some fields)) es y n (last, t, is) =
    let calls = subst (λ (l : List LogEntry). AreNeutral l) t.calls n in
    is ∙ ap (λ (x : Option Fields). task.Trailer x)
    (same_fields (Some last) (Some fields) (left_same _ _ _ t.u calls.0 t.upstream))
app_neutral of_head method same task.Done es y n (none, is) = is
app_neutral of_head method same (task.Failed error) es y n (none, is) = is

-- the modules answer no last piece to trailer fields or to an end
no_answer : (answer : Option (List ℕ)) (other given : Item) (t : HttpTask)
    → piece_or answer other ≡ given → ((bytes : Option (List ℕ)) (end : Bool)
    → item.Piece bytes end ≡ given → ⊥)
    → (other ≡ given) × (ended_by answer t ≡ t)
no_answer None other given t same apart = (same, refl)
no_answer (Some bytes) other given t same apart = absurd (apart _ _ same)

-- by those of the modules it stays
module_neutral : (x : HttpTask) (es : List LogEntry) (y : HttpTask) → AreNeutral es
    → ModuleChain x es y → y ≡ x
module_neutral (task.Header head end) es y n (last, c, passes, is) =
    let calls = subst (λ (l : List LogEntry). AreNeutral l) c.calls n in
    is ∙ ap (λ (x : ResponseHead). task.Header x end)
    (same_head last head end end (left_same _ _ _ c.m calls.0 c.called))
module_neutral (task.Body bytes end) es y n (last, c, is) =
    let calls = subst (λ (l : List LogEntry). AreNeutral l) c.calls n in
    is ∙ ap (λ (x : Option (List ℕ)). task.Body x end)
    (same_piece last bytes end end (left_same _ _ _ c.m calls.0 c.called))
module_neutral (task.UpgradedBody bytes end) es y n (last, c, is) =
    let calls = subst (λ (l : List LogEntry). AreNeutral l) c.calls n in
    is ∙ ap (λ (x : Option (List ℕ)). task.UpgradedBody x end)
    (same_piece last bytes end end (left_same _ _ _ c.m calls.0 c.called))
module_neutral (task.Trailer fields) es y n (last, answer, c, is) =
    let calls = subst (λ (l : List LogEntry). AreNeutral l) c.calls n in
    let none = no_answer answer (item.Trailers last) (item.Trailers fields) (task.Trailer last)
    (left_same _ _ _ c.m calls.0 c.called) (λ bytes end same. cc) in
    is ∙ none.1 ∙ ap (λ (x : Option Fields). task.Trailer x) (same_fields last fields none.0)
module_neutral task.Done es y n (answer, c, is) =
    let calls = subst (λ (l : List LogEntry). AreNeutral l) c.calls n in
    is ∙ (no_answer answer item.Nothing item.Nothing task.Done
    (left_same _ _ _ c.m calls.0 c.called) (λ bytes end same. cc)).1
module_neutral (task.Failed error) es y n (none, is) = is

-- where modules stood for each batch, or not
passed_neutral : (stood : Bool) (x : HttpTask) (es : List LogEntry) (y : HttpTask)
    → AreNeutral es → PassedModules stood x es y → y ≡ x
passed_neutral true x es y n c = module_neutral x es y n c
passed_neutral false x es y n (inl c) = module_neutral x es y n c
passed_neutral false x es y n (inr same) = same.1

-- where they stand for one, or not
passes_neutral : (stand : Bool) (x : HttpTask) (es : List LogEntry) (y : HttpTask)
    → AreNeutral es → PassesModules stand x es y → y ≡ x
passes_neutral true x es y n c = module_neutral x es y n c
passes_neutral false x es y n same = same.1

-- ---- a list

-- where a chain makes that of each, it makes it of a list
all_made : (chain : HttpTask → List LogEntry → HttpTask → Type 0) (made_of : HttpTask → HttpTask)
    → ((x : HttpTask) (es : List LogEntry) (y : HttpTask) → AreNeutral es → chain x es y
    → y ≡ made_of x)
    → (es : List LogEntry) (xs ys : List HttpTask) → AreNeutral es → AllPass chain es xs ys
    → ys ≡ map made_of xs
all_made chain made_of makes es [] [] n none = refl
all_made chain made_of makes es [] (y ∷ ys) n none = absurd none
all_made chain made_of makes es (x ∷ xs) [] n none = absurd none
all_made chain made_of makes es (x ∷ xs) (y ∷ ys) n (own, rest, is, c, pass) =
    let calls = subst (λ (l : List LogEntry). AreNeutral l) is n in
    ap (λ (l : List HttpTask). y ∷ l)
    (all_made chain made_of makes rest xs ys (rest_neutral own rest calls) pass)
    ∙ ap (λ (t : HttpTask). t ∷ map made_of xs) (makes x own y (front_neutral own rest calls) c)

-- nothing is made of each
map_same : (xs : List HttpTask) → map (λ (x : HttpTask). x) xs ≡ xs
map_same [] = refl
map_same (x ∷ xs) = ap (λ (l : List HttpTask). x ∷ l) (map_same xs)

-- what the filters made so far is what came, as it is handed on
pub makes_neutral : (of_head stood : Bool) (es : List LogEntry) (on : Type 0)
    (came made : List HttpTask) (method : List ℕ) → is_head_request method ≡ of_head
    → AreNeutral es → MakesOf of_head stood es on came made → made ≡ map (handed method) came
makes_neutral of_head stood es on came made method same n m =
    let apps = front_neutral m.by_app.done m.by_app.dropped
    (subst (λ (l : List LogEntry). AreNeutral l) m.by_app.calls (part_neutral _ es n)) in
    let mods = front_neutral m.by_modules.done m.by_modules.dropped
    (subst (λ (l : List LogEntry). AreNeutral l) m.by_modules.calls (part_neutral _ es n)) in
    all_made (PassedModules stood) (λ (x : HttpTask). x) (passed_neutral stood) m.by_modules.done
    m.mid made mods m.by_modules.pass
    ∙ map_same m.mid
    ∙ all_made (TaskChain of_head) (handed method) (app_neutral of_head method same) m.by_app.done
    came m.mid apps m.by_app.pass

-- so is what they made of a batch
pub made_neutral : (of_head stand : Bool) (es : List LogEntry)
    (batch made : List HttpTask) (method : List ℕ) → is_head_request method ≡ of_head
    → AreNeutral es → WasMade of_head stand es batch made → made ≡ map (handed method) batch
made_neutral of_head stand es batch made method same n m =
    let apps = rest_neutral m.apps m.by_app
    (subst (λ (l : List LogEntry). AreNeutral l) m.are_apps (part_neutral _ es n)) in
    let mods = rest_neutral m.modules m.by_modules
    (subst (λ (l : List LogEntry). AreNeutral l) m.are_modules (part_neutral _ es n)) in
    all_made (PassesModules stand) (λ (x : HttpTask). x) (passes_neutral stand) m.by_modules m.mid
    made mods m.made_so
    ∙ map_same m.mid
    ∙ all_made (TaskChain of_head) (handed method) (app_neutral of_head method same) m.by_app
    batch m.mid apps m.pass

-- ---- heads

-- a head that passed the filters of the application does not switch protocols
one_stays : (of_head : Bool) (x : HttpTask) (es : List LogEntry) (y : HttpTask) → AreNeutral es
    → TaskChain of_head x es y → is_switch x ≡ false
one_stays of_head (task.Header head end) es y n (last, h, is) =
    let calls = subst (λ (l : List LogEntry). AreNeutral l) h.calls n in
    let first = same_head h.first head end end (left_same _ _ _ h.u calls.0 h.upstream) in
    ap (λ (x : ResponseHead). x.status == 101) (sym first) ∙ h.first_passes
one_stays of_head (task.Body bytes end) es y n chain = refl
one_stays of_head (task.UpgradedBody bytes end) es y n chain = refl
one_stays of_head (task.Trailer fields) es y n chain = refl
one_stays of_head task.Done es y n chain = refl
one_stays of_head (task.Failed error) es y n chain = refl

-- nor does one of a list
all_stay : (of_head : Bool) (es : List LogEntry) (xs ys : List HttpTask) → AreNeutral es
    → AllPass (TaskChain of_head) es xs ys → list_any is_switch xs ≡ false
all_stay of_head es [] ys n pass = refl
all_stay of_head es (x ∷ xs) [] n none = absurd none
all_stay of_head es (x ∷ xs) (y ∷ ys) n (own, rest, is, c, pass) =
    let calls = subst (λ (l : List LogEntry). AreNeutral l) is n in
    or_false (is_switch x) (list_any is_switch xs)
    (one_stays of_head x own y (front_neutral own rest calls) c)
    (all_stay of_head rest xs ys (rest_neutral own rest calls) pass)

-- no head switches protocols of what passed the filters so far
pub none_switches : (of_head stood : Bool) (es : List LogEntry) (on : Type 0)
    (came made : List HttpTask) → AreNeutral es → MakesOf of_head stood es on came made
    → list_any is_switch came ≡ false
none_switches of_head stood es on came made n m =
    all_stay of_head m.by_app.done came m.mid
    (front_neutral m.by_app.done m.by_app.dropped
    (subst (λ (l : List LogEntry). AreNeutral l) m.by_app.calls (part_neutral _ es n)))
    m.by_app.pass
