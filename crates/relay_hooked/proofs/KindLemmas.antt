-- Each call of a side behind filters is one of a filter.
--
--   calls_filters   from InSegments: All IsFilter
use Rattle.std.proofs.Common.{◌≡◌, ◌≤◌, All, Bool, true, false, List, [], ◌∷◌, length, Option, Some, None, refl, sym, ap, subst, inl, inr, arith}
use Rattle.std.specs.Prelude.{filter, if◌then◌else◌}
use Rattle.std.proofs.lemmas.List.Elements.{All-append, All-cons, All-head, All-nil, All-tail, All-weaker}
use Rattle.relay_tasks.specs.declared.error.Fail.{Fail}
use Rattle.relay_tasks.specs.declared.error.Fail.TheVariants as fail
use Rattle.relay_tasks.specs.declared.log.LogEntry.{LogEntry}
use Rattle.relay_tasks.specs.declared.task.HttpTask.{HttpTask}
use Rattle.relay_calls.specs.Log.{filters_request, filters_response, is_module_response}
use Rattle.relay_core.proofs.BoolLemmas.{or_inl, or_inr}
use Rattle.relay_filters.specs.Request.{PieceCall, PieceChain}
use Rattle.relay_filters.specs.Response.{BatchStops, IsApps, IsModules}
use Rattle.relay_filters.specs.Response as batches
use Rattle.relay_filters.specs.Segments.{InSegments, LastCalls, RefusedIn, Segment, joined}
use Rattle.relay_filters.specs.Segments as segments
use Rattle.relay_hooked.specs.Calls.{IsFilter}

-- ---- a part that is all of a list

-- no part is longer than the list
part_length : (test : LogEntry → Bool) (es : List LogEntry) → length (filter test es) ≤ length es
part_length test [] = omega (arith)
part_length test (e ∷ es) = by (test e) (part_length test es)
  where
    by : (b : Bool) → length (filter test es) ≤ length es
        → length (if b then e ∷ filter test es else filter test es) ≤ length (e ∷ es)
    by true few = omega (arith, few)
    by false few = omega (arith, few)

-- where a part is the list, each entry is of it
part_all : (test : LogEntry → Bool) (es : List LogEntry) → filter test es ≡ es
    → All (λ e. test e ≡ true) es
part_all test [] same = All-nil (λ e. test e ≡ true)
part_all test (e ∷ es) same = by (test e) refl same (part_all test es)
  where
    rest : ◌≡◌ {A = List LogEntry} (e ∷ filter test es) (e ∷ es) → filter test es ≡ es
    rest same = cc

    by : (b : Bool) → test e ≡ b
        → (if b then e ∷ filter test es else filter test es) ≡ e ∷ es
        → (filter test es ≡ es → All (λ x. test x ≡ true) es)
        → All (λ x. test x ≡ true) (e ∷ es)
    by true is same on = All-cons (λ x. test x ≡ true) e es is (on (rest same))
    by false is same on = absurd (omega (arith, part_length test es, ap length same))

-- ---- whose calls

-- the application's calls are of filters
apps_filters : (es : List LogEntry) → IsApps es → All IsFilter es
apps_filters es are =
    All-weaker (λ e. filters_response e.hook ≡ true) IsFilter
    (λ e is. or_inr (filters_request e.hook) _ (or_inl (filters_response e.hook) _ is)) es
    (part_all (λ e. filters_response e.hook) es are.responses)

-- and the modules'
modules_filters : (es : List LogEntry) → IsModules es → All IsFilter es
modules_filters es are =
    All-weaker (λ e. is_module_response e.hook ≡ true) IsFilter
    (λ e is. or_inr (filters_request e.hook) _ (or_inr (filters_response e.hook) _ is)) es
    (part_all (λ e. is_module_response e.hook) es are.modules)

-- and one of a filter of requests
piece_filter : (es : List LogEntry) (e : LogEntry) → es ≡ e ∷ [] → PieceCall e → All IsFilter es
piece_filter es e is call =
    subst (λ (l : List LogEntry). All IsFilter l) (sym is)
    (All-cons IsFilter e [] (or_inl (filters_request e.hook) _ call.is_hook) (All-nil IsFilter))

-- so are all those of a piece
chain_filters : (stand : Bool) (es : List LogEntry) (call : LogEntry) → PieceChain stand es call
    → All IsFilter es
chain_filters stand es call (PieceChain.by_app none are is piece) = piece_filter es call are piece
chain_filters stand es call (PieceChain.by_both there first m e are is was piece becomes) =
    subst (λ (l : List LogEntry). All IsFilter l) (sym are)
    (All-append IsFilter first (e ∷ []) (piece_filter first m.call m.are m.is_piece)
    (piece_filter (e ∷ []) e refl piece))
chain_filters stand es call (PieceChain.by_modules there are is bad piece) =
    piece_filter es call are piece

-- ---- a side

-- those of a batch that was stopped
stops_filters : (oh stand : Bool) (tasks : List HttpTask) (es : List LogEntry)
    → BatchStops oh stand tasks es → All IsFilter es
stops_filters oh stand tasks es (batches.BatchStops.by_app are front) = apps_filters es are
stops_filters oh stand tasks es
    (batches.BatchStops.by_modules stands mid first last is are are' pass front) =
    subst (λ (l : List LogEntry). All IsFilter l) (sym is)
    (All-append IsFilter first last (apps_filters first are) (modules_filters last are'))

-- those of a piece, or of a batch, that passed
segment_filters : (oh : Bool) (es : List LogEntry) → Segment oh es → All IsFilter es
segment_filters oh es (segments.Segment.of_piece stand call chain ok) =
    chain_filters stand es call chain
segment_filters oh es (segments.Segment.of_batch stand tasks made passes) =
    subst (λ (l : List LogEntry). All IsFilter l) (sym passes.calls)
    (All-append IsFilter passes.by_app passes.by_modules
    (apps_filters passes.by_app passes.are_apps)
    (modules_filters passes.by_modules passes.are_modules))

-- and of all of those
joined_filters : (oh : Bool) (xs : List (List LogEntry)) → All (Segment oh) xs
    → All IsFilter (joined xs)
joined_filters oh [] all = All-nil IsFilter
joined_filters oh (x ∷ xs) all =
    All-append IsFilter x (joined xs) (segment_filters oh x (All-head (Segment oh) x xs all))
    (joined_filters oh xs (All-tail (Segment oh) x xs all))

-- the last calls of a side
last_filters : (oh : Bool) (stopped : Option Fail) (es : List LogEntry) → LastCalls oh stopped es
    → All IsFilter es
last_filters oh None es none =
    subst (λ (l : List LogEntry). All IsFilter l) (sym none) (All-nil IsFilter)
last_filters oh (Some (fail.Error error)) es
    (segments.RefusedIn.of_piece stand call chain failed) =
    chain_filters stand es call chain
last_filters oh (Some (fail.Error error)) es
    (segments.RefusedIn.of_batch stand tasks stops refuses) =
    stops_filters oh stand tasks es stops
last_filters oh (Some fail.OutOfMemory) es (inl none) =
    subst (λ (l : List LogEntry). All IsFilter l) (sym none) (All-nil IsFilter)
last_filters oh (Some fail.OutOfMemory) es (inr (inl m)) = piece_filter es m.call m.are m.is_piece
last_filters oh (Some fail.OutOfMemory) es (inr (inr stops)) =
    stops_filters oh stops.stand stops.tasks es stops.stops

-- so all calls of a side are of filters
pub calls_filters : (oh : Bool) (stopped : Option Fail) (es : List LogEntry)
    → InSegments oh stopped es → All IsFilter es
calls_filters oh stopped es s =
    subst (λ (l : List LogEntry). All IsFilter l) (sym s.are)
    (All-append IsFilter (joined s.segments) s.last (joined_filters oh s.segments s.passed)
    (last_filters oh stopped s.last s.ends))
