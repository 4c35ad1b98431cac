-- What the calls of a turn leave of a side behind filters, one behind the other, is what one call
-- leaves: its flags as they were, and in the log what was called.
--
--   walks_same    where there is no call
--   walks_behind  calls behind calls
--   log_goes      the log goes on, whatever became of the session
--   log_grew      the log goes on with what was called
--   lasts_all     so all the calls of a turn
use Rattle.std.proofs.Common.{◌≡◌, ℕ, Bool, true, false, List, [], ◌++◌, None, append-nil, append_assoc, refl, sym, ap, subst, ◌∙◌}
use Rattle.std.proofs.lemmas.List.Elements.{All-append, All-nil}
use Rattle.relay_tasks.specs.declared.log.LogEntry.{LogEntry}
use Rattle.relay_core.specs.Down.{Lasting}
use Rattle.relay_modules.specs.declared.seen.Seen.{Seen}
use Rattle.relay_hooks.specs.Session.{moment}
use Rattle.relay_hooks.specs.Standing.{Standing, standing}
use Rattle.relay_calls.proofs.LogLemmas.{Views-same, Walk-append}
use Rattle.relay_filters.specs.Hooked.{Lasts, Stays, Walks}
use Rattle.relay_filters.specs.Response.{IsFilterCall}

-- ---- the log

module _ (allows : Standing → LogEntry → Type 0) where
  -- where there is no call nothing changes
  pub walks_same : (lost : Bool) (seen : Seen) (mark : ℕ)
      → Walks allows lost lost seen mark seen mark
  walks_same false seen mark = record {
    es = [];
    log = sym (append-nil seen.log);
    walk = Views-same (standing None false (moment seen mark));
    plain = All-nil IsFilterCall;
  }
  walks_same true seen mark = refl

  -- the entries of calls behind calls
  logs_behind : (a b c : Seen) (es fs : List LogEntry) → b.log ≡ a.log ++ es → c.log ≡ b.log ++ fs
      → c.log ≡ a.log ++ (es ++ fs)
  logs_behind a b c es fs first second =
      second ∙ ap (λ (l : List LogEntry). l ++ fs) first ∙ append_assoc a.log es fs

  -- calls behind calls
  pub walks_behind : (was_lost lost_between lost : Bool) (a b c : Seen) (m n o : ℕ)
      → Walks allows was_lost lost_between a m b n → Walks allows lost_between lost b n c o
      → Walks allows was_lost lost a m c o
  walks_behind false false false a b c m n o first second = record {
    es = first.es ++ second.es;
    log = logs_behind a b c first.es second.es first.log second.log;
    walk = Walk-append allows first.es second.es (standing None false (moment a m))
        (standing None false (moment b n)) (standing None false (moment c o)) first.walk
        second.walk;
    plain = All-append IsFilterCall first.es second.es first.plain second.plain;
  }
  walks_behind false false true a b c m n o first second = record {
    es = first.es ++ second.es;
    to = second.to;
    log = logs_behind a b c first.es second.es first.log second.log;
    walk = Walk-append allows first.es second.es (standing None false (moment a m))
        (standing None false (moment b n)) second.to first.walk second.walk;
    plain = All-append IsFilterCall first.es second.es first.plain second.plain;
  }
  walks_behind false true true a b c m n o first second = record {
    es = first.es;
    to = first.to;
    log = second ∙ first.log;
    walk = first.walk;
    plain = first.plain;
  }
  walks_behind true true true a b c m n o first second = second ∙ first
  walks_behind false true false a b c m n o first second = absurd second
  walks_behind true false lost a b c m n o first second = absurd first
  walks_behind true true false a b c m n o first second = absurd second

  -- the log goes on with what was called, where no hook had wanted memory before
  pub log_grew : (was_lost lost : Bool) (a b : Seen) (m n : ℕ) → was_lost ≡ false
      → Walks allows was_lost lost a m b n → (more : List LogEntry) × (b.log ≡ a.log ++ more)
  log_grew false false a b m n alive walks = (walks.es, walks.log)
  log_grew false true a b m n alive walks = (walks.es, walks.log)
  log_grew true lost a b m n alive walks = absurd (cc)

-- whatever became of the session, the log goes on
pub log_goes : (allows : Standing → LogEntry → Type 0) (was_lost lost : Bool) (old : Seen)
    (mark : ℕ) (new : Seen) (mark' : ℕ) → Walks allows was_lost lost old mark new mark'
    → (es : List LogEntry) × (new.log ≡ old.log ++ es)
log_goes allows false false old mark new mark' walks = (walks.es, walks.log)
log_goes allows false true old mark new mark' walks = (walks.es, walks.log)
log_goes allows true false old mark new mark' walks = absurd walks
log_goes allows true true old mark new mark' walks = ([], walks ∙ sym (append-nil old.log))

-- ---- a turn

-- by what a side holds: what stays of it, its application among that, whether its session is lost,
-- and what hooks are shown
module _ {D A : Type 0} (law : A → Standing → LogEntry → Type 0) (stays_in : D → Stays A)
    (is_lost : D → Bool) (seen : D → Seen) (mark : D → ℕ)
  where
    -- what each call leaves of it
    abbrev pub LastsOf : D → D → Type 0
    LastsOf old new =
        Lasts (law (stays_in old).app) (stays_in old) (stays_in new) (is_lost old) (is_lost new)
        (seen old) (mark old) (seen new) (mark new)

    -- a call behind those
    lasts_behind : (old mid new : D) → LastsOf old mid → LastsOf mid new → LastsOf old new
    lasts_behind old mid new first second = record {
      stays = second.stays ∙ first.stays;
      walks =
          walks_behind (law (stays_in old).app) (is_lost old) (is_lost mid) (is_lost new) (seen old)
          (seen mid) (seen new) (mark old) (mark mid) (mark new) first.walks
          (subst (λ (a : A).
          Walks (law a) (is_lost mid) (is_lost new) (seen mid) (mark mid) (seen new) (mark new))
          (ap (λ (k : Stays A). k.app) first.stays) second.walks);
    }

    -- so all the calls of a turn, whatever else each of them leaves
    pub lasts_all : (more : D → D → Type 0) (old new : D)
        → Lasting (λ (o : D) (n : D). LastsOf o n × more o n) old new → LastsOf old new
    lasts_all more old new Lasting.stays = record {
      stays = refl;
      walks = walks_same (law (stays_in old).app) (is_lost old) (seen old) (mark old);
    }
    lasts_all more old new (Lasting.goes_on mid last before call) =
        lasts_behind old mid new (lasts_all more old mid before) call.0
