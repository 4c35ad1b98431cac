-- Logs behind the treatment of an attempt's error: what they told before they tell still.
--
--   other_call         a call of another hook is none of that one
--   untreated_more     no error was treated by a call of another hook
--   untreated_again    nor is one left behind which another attempt follows
--   unended_more       no end was begun by a call of a hook with which none begins
--   still_open, ends_with
--                      the start, where the end has not begun, and where it has
--   lets_at            where none was treated the whole log lets the request go
--   filters_on .. refuses_on, sends_on
--                      what the log told of the head that is sent, behind one treatment more
--   treats_last        the last call treated that error
use Rattle.std.proofs.Common.{◌≡◌, Bool, true, false, not, ◌||◌, ◌&&◌, List, [], ◌∷◌, ◌++◌, refl, sym, ap, subst, ◌∙◌, true≢false, append-nil, append_assoc, inl, inr}
use Rattle.std.proofs.lemmas.List.Folds.{list_any-append}
use Rattle.std.specs.List.{list_any}
use Rattle.std.specs.Prelude.{if◌then◌else◌}
use Rattle.relay_tasks.specs.Head.{RequestHead}
use Rattle.relay_tasks.specs.Hooks.{same_hook}
use Rattle.relay_tasks.specs.declared.Error.{Error}
use Rattle.relay_tasks.specs.declared.hook.Hook.{Hook}
use Rattle.relay_tasks.specs.declared.hook.Hook.TheVariants as hook
use Rattle.relay_tasks.specs.declared.log.Item.TheVariants as item
use Rattle.relay_tasks.specs.declared.log.LogEntry.{LogEntry}
use Rattle.relay_links.specs.Link.{LinkStart}
use Rattle.relay_phases.specs.Order.{Station, Accepts, accepted}
use Rattle.relay_request.specs.Ahead.{LetsGo, goes_on}
use Rattle.relay_request.specs.Calls.{IsUnended}
use Rattle.relay_request.specs.Passed.{Start, before_end, begins_end, answer_in, called_to, closed_to, opened_to}
use Rattle.relay_request.specs.Sent.{FailsAt, Filters, IsTreated, IsUntreated, RefusesToSend, Sends, is_of, leaves_treated, only_treats, treated_from}

-- a call of another hook is none of that one
pub other_call : (asked : Hook) (e : LogEntry) (which : Hook) → e.hook ≡ which
    → same_hook asked which ≡ false → is_of asked e ≡ false
other_call asked e which is other = ap (λ (h : Hook). same_hook asked h) is ∙ other

-- a list with one call more that is none of a hook's has one exactly where it had
pub any_more : (asked : Hook) (es : List LogEntry) (e : LogEntry) → is_of asked e ≡ false
    → list_any (is_of asked) es ≡ false → list_any (is_of asked) (es ++ e ∷ []) ≡ false
any_more asked [] e other none = rw other refl
any_more asked (x ∷ es) e other none =
    list_any-append (is_of asked) (x ∷ es) (e ∷ [])
    ∙ rw (none, other) refl

-- whether an error was treated last, of calls one behind the other
treated_join : (left : Bool) (es fs : List LogEntry)
    → treated_from left (es ++ fs) ≡ treated_from (treated_from left es) fs
treated_join left [] fs = refl
treated_join left (e ∷ es) fs = treated_join (leaves_treated left e) es fs

-- no error was treated by a call of another hook
pub untreated_more : (these those : List LogEntry) (e : LogEntry) (which : Hook)
    → those ≡ these ++ e ∷ [] → e.hook ≡ which → same_hook hook.ErrorWhileProxy which ≡ false
    → IsUntreated these → IsUntreated those
untreated_more these those e which more is other none =
    subst (λ (l : List LogEntry). IsUntreated l) (sym more)
    (treated_join false these (e ∷ [])
    ∙ ap (λ (b : Bool). leaves_treated b e) none
    ∙ ap (λ (b : Bool). b || false) (other_call hook.ErrorWhileProxy e which is other))

-- and none is left behind which another attempt follows
pub untreated_again : (these those : List LogEntry) (e : LogEntry) → those ≡ these ++ e ∷ []
    → e.hook ≡ hook.SuppressProxyWarnLog → IsUntreated those
untreated_again these those e more is =
    subst (λ (l : List LogEntry). IsUntreated l) (sym more)
    (treated_join false these (e ∷ [])
    ∙ ap (λ (b : Bool). b || (treated_from false these && not (is_of hook.SuppressProxyWarnLog e)))
    (other_call hook.ErrorWhileProxy e hook.SuppressProxyWarnLog is refl)
    ∙ ap (λ (h : Hook). treated_from false these && not (same_hook hook.SuppressProxyWarnLog h)) is
    ∙ none (treated_from false these))
  where
    none : (b : Bool) → (b && false) ≡ false
    none true = refl
    none false = refl

-- a call of a hook with which no end begins begins none
pub unended_more : (these those : List LogEntry) (e : LogEntry) (which : Hook)
    → those ≡ these ++ e ∷ [] → e.hook ≡ which → begins_end which ≡ false
    → IsUnended these → IsUnended those
unended_more these those e which more is other none =
    let last : begins_end e.hook ≡ false = ap (λ (h : Hook). begins_end h) is ∙ other in
    subst (λ (l : List LogEntry). IsUnended l) (sym more)
    (list_any-append (λ (x : LogEntry). begins_end x.hook) these (e ∷ [])
    ∙ rw (none, last) refl)

-- a log whose end has not begun is all before it
before_all : (log : List LogEntry) → IsUnended log → before_end log ≡ log
before_all [] none = refl
before_all (e ∷ es) none = first (begins_end e.hook) none (before_all es)
  where
    first : (b : Bool) → (b || list_any (λ x. begins_end x.hook) es) ≡ false
        → (IsUnended es → before_end es ≡ es)
        → (if b then [] else e ∷ before_end es) ≡ e ∷ es
    first true is rest = absurd (true≢false is)
    first false is rest = ap (λ (l : List LogEntry). e ∷ l) (rest is)

answer_none : (log : List LogEntry) → IsUnended log → answer_in log ≡ []
answer_none [] none = refl
answer_none (e ∷ es) none = first (begins_end e.hook) none (answer_none es)
  where
    first : (b : Bool) → (b || list_any (λ x. begins_end x.hook) es) ≡ false
        → (IsUnended es → answer_in es ≡ [])
        → (if b then (if same_hook hook.FailToProxy e.hook then e ∷ [] else []) else answer_in es)
        ≡ []
    first true is rest = absurd (true≢false is)
    first false is rest = rest is

-- where the end has not begun, the start is that of an open request
pub still_open : (s : Start) (log : List LogEntry) → IsUnended log
    → called_to s log ≡ opened_to s log
still_open s log none =
    ap (λ (l : List LogEntry). closed_to s l (answer_in log)) (before_all log none)
    ∙ ap (λ (l : List LogEntry). closed_to s log l) (answer_none log none)

-- behind a call with which the end begins, the calls before it are those that were made, and it is
-- the one of the end
before_one : (log : List LogEntry) (e : LogEntry) → IsUnended log → begins_end e.hook ≡ true
    → before_end (log ++ e ∷ []) ≡ log
before_one [] e none is = rw is refl
before_one (x ∷ es) e none is = first (begins_end x.hook) none (λ rest. before_one es e rest is)
  where
    first : (b : Bool) → (b || list_any (λ y. begins_end y.hook) es) ≡ false
        → (IsUnended es → before_end (es ++ e ∷ []) ≡ es)
        → (if b then [] else x ∷ before_end (es ++ e ∷ [])) ≡ x ∷ es
    first true is rest = absurd (true≢false is)
    first false is rest = ap (λ (l : List LogEntry). x ∷ l) (rest is)

answer_one : (log : List LogEntry) (e : LogEntry) → IsUnended log
    → same_hook hook.FailToProxy e.hook ≡ true → answer_in (log ++ e ∷ []) ≡ e ∷ []
answer_one [] e none is = rw is refl
answer_one (x ∷ es) e none is = first (begins_end x.hook) none (λ rest. answer_one es e rest is)
  where
    first : (b : Bool) → (b || list_any (λ y. begins_end y.hook) es) ≡ false
        → (IsUnended es → answer_in (es ++ e ∷ []) ≡ e ∷ [])
        → (if b then (if same_hook hook.FailToProxy x.hook then x ∷ [] else [])
        else answer_in (es ++ e ∷ [])) ≡ e ∷ []
    first true is rest = absurd (true≢false is)
    first false is rest = rest is

-- the end begins with the answer to an error
pub ends_with : (s : Start) (these those : List LogEntry) (e : LogEntry)
    → those ≡ these ++ e ∷ [] → IsUnended these → same_hook hook.FailToProxy e.hook ≡ true
    → called_to s those ≡ closed_to s these (e ∷ [])
ends_with s these those e more none is =
    let begins : begins_end e.hook ≡ true = rw is refl in
    ap (λ (l : List LogEntry). called_to s l) more
    ∙ (ap (λ (l : List LogEntry). closed_to s l (answer_in (these ++ e ∷ [])))
    (before_one these e none begins)
    ∙ ap (λ (l : List LogEntry). closed_to s these l) (answer_one these e none is))

-- where none was treated, the whole log lets the request go
pub record LetsAt (called : List LogEntry) : Type 0 where
  pub at : Station
  pub order : Accepts accepted called at
  pub goes : goes_on at ≡ true

-- treatments alone leave an error that was treated
treats_leave : (left : Bool) (e : LogEntry) (es : List LogEntry) → only_treats (e ∷ es) ≡ true
    → treated_from left (e ∷ es) ≡ true
treats_leave left e [] only =
    first (is_of hook.ErrorWhileProxy e) (left && not (is_of hook.SuppressProxyWarnLog e)) only
  where
    first : (b c : Bool) → (b && true) ≡ true → (b || c) ≡ true
    first true c so = refl
    first false c so = absurd (true≢false (sym so))
treats_leave left e (x ∷ es) only =
    treats_leave (leaves_treated left e) x es (second (is_of hook.ErrorWhileProxy e) _ only)
  where
    second : (b c : Bool) → (b && c) ≡ true → c ≡ true
    second true c so = so
    second false c so = absurd (true≢false (sym so))

only_none : (left : Bool) (es : List LogEntry) → only_treats es ≡ true
    → treated_from left es ≡ false → es ≡ []
only_none left [] only none = refl
only_none left (e ∷ es) only none =
    absurd (true≢false (sym (treats_leave left e es only) ∙ none))

pub lets_at : (called : List LogEntry) → LetsGo called → IsUntreated called → LetsAt called
lets_at called lets none =
    let parts : treated_from (treated_from false lets.before) lets.after ≡ false =
    sym (treated_join false lets.before lets.after)
    ∙ ap (λ (l : List LogEntry). treated_from false l) (sym lets.called_are) ∙ none in
    let bare : lets.after ≡ [] =
    only_none (treated_from false lets.before) lets.after lets.treats parts in
    record {
      at = lets.at;
      order = subst (λ (l : List LogEntry). Accepts accepted l lets.at)
          (sym (append-nil lets.before)
          ∙ ap (λ (l : List LogEntry). lets.before ++ l) (sym bare) ∙ sym lets.called_are)
          lets.order;
      goes = lets.goes;
    }

-- ---- behind one treatment more

module _ (these those : List LogEntry) (e : LogEntry) (more : those ≡ these ++ e ∷ [])
    (is : e.hook ≡ hook.ErrorWhileProxy)
  where
    -- the calls behind one of them are one more
    pub further : (before after : List LogEntry) (x : LogEntry) → these ≡ before ++ x ∷ after
        → those ≡ before ++ x ∷ (after ++ e ∷ [])
    further before after x are =
        more
        ∙ ap (λ (l : List LogEntry). l ++ e ∷ []) are
        ∙ append_assoc before (x ∷ after) (e ∷ [])

    -- those that treat an error alone are so still
    pub only_more : (es : List LogEntry) → only_treats es ≡ true → only_treats (es ++ e ∷ []) ≡ true
    only_more [] only = rw is refl
    only_more (x ∷ es) only = both (is_of hook.ErrorWhileProxy x) only (only_more es)
      where
        both : (b : Bool) → (b && only_treats es) ≡ true
            → (only_treats es ≡ true → only_treats (es ++ e ∷ []) ≡ true)
            → (b && only_treats (es ++ e ∷ [])) ≡ true
        both true so rest = rest so
        both false so rest = absurd (true≢false (sym so))

    -- the head was filtered
    abbrev pub filters_on : {head filtered : RequestHead} → Filters these head filtered
        → Filters those head filtered
    filters_on f = record {
      before = f.before;
      e = f.e;
      after = f.after ++ e ∷ [];
      called_are = further f.before f.after f.e f.called_are;
      is_last = any_more hook.UpstreamRequestFilter f.after e
          (other_call hook.UpstreamRequestFilter e hook.ErrorWhileProxy is refl) f.is_last;
      is_filter = f.is_filter;
      ready = f.ready;
      readies = f.readies;
      given = f.given;
      left = f.left;
      passes = f.passes;
    }

    -- the head is sent
    pub sends_on : {head sent : RequestHead} → Sends these head sent → Sends those head sent
    sends_on s = record {
      filtered = s.filtered;
      filters = filters_on s.filters;
      settles = s.settles;
    }

    -- a hook failed
    fails_on : (which : Hook) (error : Error) → FailsAt which these error
        → FailsAt which those error
    fails_on which error f = record {
      before = f.before;
      last = f.last;
      after = f.after ++ e ∷ [];
      called_are = further f.before f.after f.last f.called_are;
      treats = only_more f.after f.treats;
      is_of_it = f.is_of_it;
      error = f.error;
    }

    -- no head is sent
    pub refuses_on : {start : LinkStart} {head : RequestHead} {keep : Bool} {error : Error}
        → RefusesToSend these start head keep error → RefusesToSend those start head keep error
    refuses_on (RefusesToSend.untold fails kept) =
        RefusesToSend.untold (fails_on hook.ConnectedToUpstream _ fails) kept
    refuses_on (RefusesToSend.unspoken silent is kept) = RefusesToSend.unspoken silent is kept
    refuses_on (RefusesToSend.unfiltered speaks fails kept) =
        RefusesToSend.unfiltered speaks (fails_on hook.UpstreamRequestFilter _ fails) kept
    refuses_on (RefusesToSend.unsettled speaks filtered filters settles kept) =
        RefusesToSend.unsettled speaks filtered (filters_on filters) settles kept
    refuses_on (RefusesToSend.unpassed speaks (inl fails) kept) =
        RefusesToSend.unpassed speaks (inl (fails_on hook.RequestBodyFilter _ fails)) kept
    refuses_on (RefusesToSend.unpassed speaks (inr fails) kept) =
        RefusesToSend.unpassed speaks (inr (fails_on hook.ModuleRequestBody _ fails)) kept

    -- the last call treated that error
    pub treats_last : (raised treated : Error) → e.input ≡ item.Failure raised
        → e.output ≡ item.Failure treated → IsTreated those raised treated
    treats_last raised treated told answered = record {
      before = these;
      e = e;
      after = [];
      called_are = more;
      is_last = refl;
      is_treatment = is;
      told = told;
      answered = answered;
    }
