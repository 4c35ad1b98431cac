-- A log that grew by calls of filters: what it told of the request before them it tells still.
--
--   none_of, any_past          no call of a filter is one of a hook that is no filter
--   peers_past .. tells_past   the peer that was named, and the attempts without a link
--   untreated_past .. sends_past
--                              the error that was treated, and the head that is sent
--   wrote_past, purges_past    what was queued, and what the purger was asked
--   open_past, before_past     the start, whose end has not begun
--   head_past                  the session's head
use Rattle.std.proofs.Common.{◌≡◌, ℕ, ◌≤◌, Bool, false, ◌||◌, List, [], ◌∷◌, ◌++◌, drop, length, map, Option, Some, None, refl, sym, ap, subst, ◌∙◌, append-nil, append_assoc, unwrap_or}
use Rattle.std.proofs.lemmas.List.Elements.{All-head, All-tail}
use Rattle.std.proofs.lemmas.List.Folds.{list_any-append}
use Rattle.std.specs.List.{list_any}
use Rattle.std.specs.Prelude.{All, IsSome, if◌then◌else◌}
use Rattle.relay_tasks.specs.Head.{RequestHead, new_request}
use Rattle.relay_tasks.specs.Hooks.{same_hook}
use Rattle.relay_tasks.specs.declared.Error.{Error}
use Rattle.relay_tasks.specs.declared.Peer.{Peer}
use Rattle.relay_tasks.specs.declared.hook.Hook.{Hook}
use Rattle.relay_tasks.specs.declared.hook.Hook.TheVariants as hook
use Rattle.relay_tasks.specs.declared.log.LogEntry.{LogEntry}
use Rattle.relay_tasks.specs.declared.task.HttpTask.{HttpTask}
use Rattle.relay_links.specs.declared.purger.PurgeCall.{PurgeCall}
use Rattle.relay_session.specs.Reading.{head_of}
use Rattle.relay_session.specs.declared.reading.Reading.{Reading}
use Rattle.relay_modules.specs.declared.seen.Seen.{Seen}
use Rattle.relay_hooks.specs.Session.{moment}
use Rattle.relay_hooks.specs.Standing.{Standing, standing}
use Rattle.relay_calls.specs.Log.{Walk}
use Rattle.relay_phases.specs.Turns.{wrote_in}
use Rattle.relay_phases.proofs.TurnLemmas.{wrote_in-append}
use Rattle.relay_opening.specs.Told.{head_behind}
use Rattle.relay_opening.proofs.ToldLemmas.{walk_head}
use Rattle.relay_peer.specs.Body.{IsFrontOf}
use Rattle.relay_purging.specs.Told.{call_told, purges_in}
use Rattle.relay_filters.specs.Response.{IsFilterCall}
use Rattle.relay_request.specs.Calls.{IsUnended}
use Rattle.relay_request.specs.Named.{IsNamed, addressed, peer_in}
use Rattle.relay_request.specs.Passed.{Start, before_end, called_to, opened_to}
use Rattle.relay_request.specs.Sent.{Filters, IsTreated, IsUntreated, Sends, is_of}
use Rattle.relay_request.specs.Tries.{AreTries, IsTry, Refusal, made_before, record_of, refusals_in}
use Rattle.relay_request.specs.declared.record.AttemptRecord.{AttemptRecord}
use Rattle.relay_request.proofs.FilterLemmas.{filter_other, filters, unended_past}
use Rattle.relay_request.proofs.NamedLemmas.{TellsSame, peer_still, refusals_still}
use Rattle.relay_request.proofs.TreatLemmas.{still_open, untreated_more}

-- what each call of a filter keeps, several keep
pub each_keeps : (keeps : List LogEntry → Type 0)
    → ((l : List LogEntry) (e : LogEntry) → IsFilterCall e → keeps l → keeps (l ++ e ∷ []))
    → (log es : List LogEntry) → All IsFilterCall es → keeps log → keeps (log ++ es)
each_keeps keeps one log [] plain is =
    subst (λ (l : List LogEntry). keeps l) (sym (append-nil log)) is
each_keeps keeps one log (e ∷ es) plain is =
    subst (λ (l : List LogEntry). keeps l) (append_assoc log (e ∷ []) es)
    (each_keeps keeps one (log ++ e ∷ []) es (All-tail IsFilterCall e es plain)
    (one log e (All-head IsFilterCall e es plain) is))

-- none of them is one of a hook that is no filter
pub none_of : (asked : Hook) → filters asked ≡ false → (es : List LogEntry)
    → All IsFilterCall es → list_any (is_of asked) es ≡ false
none_of asked isnt [] plain = refl
none_of asked isnt (e ∷ es) plain =
    ap (λ (b : Bool). b || list_any (is_of asked) es)
    (filter_other asked e.hook (All-head IsFilterCall e es plain).is_filter isnt)
    ∙ none_of asked isnt es (All-tail IsFilterCall e es plain)

-- so where there was none there is none
pub any_past : (asked : Hook) → filters asked ≡ false → (log es : List LogEntry)
    → All IsFilterCall es → list_any (is_of asked) log ≡ false
    → list_any (is_of asked) (log ++ es) ≡ false
any_past asked isnt log es plain none =
    list_any-append (is_of asked) log es
    ∙ ap (λ (b : Bool). b || list_any (is_of asked) es) none
    ∙ none_of asked isnt es plain

-- they queued nothing
pub wrote_none : (es : List LogEntry) → All IsFilterCall es → wrote_in es ≡ []
wrote_none [] plain = refl
wrote_none (e ∷ es) plain =
    ap (λ (l : List HttpTask). l ++ wrote_in es) (All-head IsFilterCall e es plain).quiet
    ∙ wrote_none es (All-tail IsFilterCall e es plain)

-- a call that filtered no answer of a purge tells of none
pub purge_past : (log : List LogEntry) (e : LogEntry)
    → same_hook hook.PurgeResponseFilter e.hook ≡ false
    → purges_in (log ++ e ∷ []) ≡ purges_in log
purge_past [] e none = refl
purge_past (x ∷ []) e none = rw none refl
purge_past (x ∷ y ∷ log) e none =
    ap (λ (l : List PurgeCall).
    (if same_hook hook.PurgeResponseFilter y.hook then call_told x y else []) ++ l)
    (purge_past (y ∷ log) e none)

-- the head behind calls, and then behind others
pub head_append : (head : RequestHead) (es fs : List LogEntry)
    → head_behind head (es ++ fs) ≡ head_behind (head_behind head es) fs
head_append head [] fs = refl
head_append head (e ∷ es) fs = head_append (unwrap_or e.head head) es fs

-- a reading that has a head has this one
some_head : (r : Reading) (other : RequestHead) → IsSome (head_of r)
    → head_of r ≡ Some (unwrap_or (head_of r) other)
some_head r other some = by (head_of r) some
  where
    by : (o : Option RequestHead) → IsSome o → o ≡ Some (unwrap_or o other)
    by (Some head) some = refl
    by None some = cc

module _ (log es log' : List LogEntry) (more : log' ≡ log ++ es) (plain : All IsFilterCall es)
  where
    -- the peer that was named last
    pub peers_past : peer_in log' ≡ peer_in log
    peers_past =
        ap (λ (l : List LogEntry). peer_in l) more
        ∙ each_keeps (λ (l : List LogEntry). peer_in l ≡ peer_in log)
        (λ l e is same. peer_still l e
        (ap (λ (b : Bool). if b then addressed e.output else None)
        (filter_other hook.UpstreamPeer e.hook is.is_filter refl)) ∙ same) log es plain refl

    abbrev pub named_past : (peer : Peer) → IsNamed log peer → IsNamed log' peer
    named_past peer is = peers_past ∙ is

    -- the attempts that were given no link
    pub refusals_past : refusals_in log' ≡ refusals_in log
    refusals_past =
        ap (λ (l : List LogEntry). refusals_in l) more
        ∙ each_keeps (λ (l : List LogEntry). refusals_in l ≡ refusals_in log)
        (λ l e is same. refusals_still l e e.hook refl
        (filter_other hook.FailToConnect e.hook is.is_filter refl) ∙ same) log es plain refl

    -- both
    abbrev pub tells_past : TellsSame log log'
    tells_past = record { peers = peers_past; refusals = refusals_past }

    -- and so those that came before
    pub tries_past : (s : Start) (tries : List AttemptRecord)
        → AreTries (opened_to s log) tries → AreTries (opened_to s log') tries
    tries_past s tries are = record {
      fits = subst (λ (rs : List Refusal). s.refused ≤ length rs) (sym refusals_past) are.fits;
      told = are.told
          ∙ ap (λ (rs : List Refusal).
          s.tried ++ map (λ (r : Refusal). record_of r) (drop s.refused rs)) (sym refusals_past);
      each = subst (λ (rs : List Refusal). All IsTry rs) (sym refusals_past) are.each;
      allowed = are.allowed;
    }

    pub made_past : (s : Start) → made_before (opened_to s log') ≡ made_before (opened_to s log)
    made_past s = rw refusals_past refl

    -- no error was treated
    pub untreated_past : IsUntreated log → IsUntreated log'
    untreated_past none =
        subst (λ (l : List LogEntry). IsUntreated l) (sym more)
        (each_keeps (λ (l : List LogEntry). IsUntreated l)
        (λ l e is still. untreated_more l (l ++ e ∷ []) e e.hook refl refl
        (filter_other hook.ErrorWhileProxy e.hook is.is_filter refl) still) log es plain none)

    -- or this one was
    pub treated_past : {raised treated : Error} → IsTreated log raised treated
        → IsTreated log' raised treated
    treated_past t = record {
      before = t.before;
      e = t.e;
      after = t.after ++ es;
      called_are = more
          ∙ ap (λ (l : List LogEntry). l ++ es) t.called_are
          ∙ append_assoc t.before (t.e ∷ t.after) es;
      is_last = any_past hook.ErrorWhileProxy refl t.after es plain t.is_last;
      is_treatment = t.is_treatment;
      told = t.told;
      answered = t.answered;
    }

    -- the head was filtered
    abbrev pub filters_past : {head filtered : RequestHead} → Filters log head filtered
        → Filters log' head filtered
    filters_past f = record {
      before = f.before;
      e = f.e;
      after = f.after ++ es;
      called_are = more
          ∙ ap (λ (l : List LogEntry). l ++ es) f.called_are
          ∙ append_assoc f.before (f.e ∷ f.after) es;
      is_last = any_past hook.UpstreamRequestFilter refl f.after es plain f.is_last;
      is_filter = f.is_filter;
      ready = f.ready;
      readies = f.readies;
      given = f.given;
      left = f.left;
      passes = f.passes;
    }

    -- the head is sent
    pub sends_past : {head sent : RequestHead} → Sends log head sent → Sends log' head sent
    sends_past s = record {
      filtered = s.filtered;
      filters = filters_past s.filters;
      settles = s.settles;
    }

    -- what hooks queued
    pub wrote_past : wrote_in log' ≡ wrote_in log
    wrote_past =
        ap (λ (l : List LogEntry). wrote_in l) more
        ∙ wrote_in-append log es
        ∙ ap (λ (l : List HttpTask). wrote_in log ++ l) (wrote_none es plain)
        ∙ append-nil (wrote_in log)

    abbrev pub quiet_past : wrote_in log ≡ [] → wrote_in log' ≡ []
    quiet_past quiet = wrote_past ∙ quiet

    -- what the purger was asked
    pub purges_past : purges_in log' ≡ purges_in log
    purges_past =
        ap (λ (l : List LogEntry). purges_in l) more
        ∙ each_keeps (λ (l : List LogEntry). purges_in l ≡ purges_in log)
        (λ l e is same. purge_past l e
        (filter_other hook.PurgeResponseFilter e.hook is.is_filter refl) ∙ same) log es plain refl

    -- the log is the front of it
    abbrev pub front_past : IsFrontOf log log'
    front_past = record { rest = es; joined = sym more }

    -- its end has not begun, and so the start is that of an open request
    pub open_past : (s : Start) → IsUnended log → called_to s log' ≡ opened_to s log'
    open_past s none = still_open s log' (unended_past log es log' more none plain)

    pub before_past : Start → IsUnended log → before_end log' ≡ log'
    before_past s none = ap (λ (x : Start). x.called) (open_past s none)

    -- the session's head, where they walk from the one to the other
    pub head_past : (allows : Standing → LogEntry → Type 0) (old new : Seen) (mark mark' : ℕ)
        → Walk allows (standing None false (moment old mark)) es
        (standing None false (moment new mark')) → (head : RequestHead)
        → head_of old.downstream.reading ≡ Some (head_behind head log)
        → IsSome (head_of new.downstream.reading)
        → head_of new.downstream.reading ≡ Some (head_behind head log')
    head_past allows old new mark mark' walk head was some =
        some_head new.downstream.reading (new_request [] []) some
        ∙ ap Some
        (walk_head allows es (standing None false (moment old mark))
        (standing None false (moment new mark')) walk
        ∙ ap (λ (o : Option RequestHead).
        head_behind (unwrap_or o (new_request [] [])) es) was
        ∙ sym (head_append head log es)
        ∙ ap (λ (l : List LogEntry). head_behind head l) (sym more))
