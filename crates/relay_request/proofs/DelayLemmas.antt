-- Delays that are handed over, one behind the other.
--
--   handed_none   where none was asked for
--   handed_on     some, and then more
--   since_front   of a log that grew, those that stood and those that came since
--   since_same    of a log that stayed
use Rattle.std.proofs.Common.{◌≡◌, ℕ, ◌+◌, min, List, [], ◌∷◌, ◌++◌, drop, length, sym, refl, ap, subst, ◌∙◌, arith}
use Rattle.std.proofs.Math.Seq.{drop-append_seam}
use Rattle.std.proofs.lemmas.List.{append_assoc, drop_all}
use Rattle.relay_tasks.specs.Log.{delays_of, list_of}
use Rattle.relay_tasks.specs.declared.log.LogEntry.{LogEntry}
use Rattle.relay_links.specs.Count.{last_count, up}
use Rattle.relay_peer.specs.Body.{IsFrontOf}
use Rattle.relay_request.specs.Delays.{HandsOver, calls_behind, delays_since, total_behind}

-- so often behind some, and then behind more
calls_on : (calls : ℕ) (xs ys : List ℕ)
    → calls_behind (calls_behind calls xs) ys ≡ calls_behind calls (xs ++ ys)
calls_on calls [] ys = refl
calls_on calls (x ∷ xs) ys = calls_on (up calls) xs ys

total_on : (total : ℕ) (xs ys : List ℕ)
    → total_behind (total_behind total xs) ys ≡ total_behind total (xs ++ ys)
total_on total [] ys = refl
total_on total (x ∷ xs) ys = total_on (min (total + x) last_count) xs ys

-- none was asked for, and none handed over
pub handed_none : (calls total : ℕ) (delays : List ℕ) → delays ≡ []
    → HandsOver calls total calls total delays
handed_none calls total delays none =
    subst (λ (ds : List ℕ). HandsOver calls total calls total ds) (sym none)
    (record { calls = refl; total = refl })

-- some were handed over, and then more
pub handed_on : (calls total calls' total' calls'' total'' : ℕ) (xs ys all : List ℕ)
    → HandsOver calls total calls' total' xs → HandsOver calls' total' calls'' total'' ys
    → all ≡ xs ++ ys → HandsOver calls total calls'' total'' all
handed_on calls total calls' total' calls'' total'' xs ys all first then are = record {
  calls =
      then.calls ∙ ap (λ (n : ℕ). calls_behind n ys) first.calls ∙ calls_on calls xs ys
      ∙ ap (calls_behind calls) (sym are);
  total =
      then.total ∙ ap (λ (n : ℕ). total_behind n ys) first.total ∙ total_on total xs ys
      ∙ ap (total_behind total) (sym are);
}

-- the delays of calls, and those of more calls
delays_on : (log more : List LogEntry) → delays_of (log ++ more) ≡ delays_of log ++ delays_of more
delays_on [] more = refl
delays_on (e ∷ log) more =
    ap (λ (ds : List ℕ). list_of e.delay ++ ds) (delays_on log more)
    ∙ sym (append_assoc (list_of e.delay) (delays_of log) (delays_of more))

-- of a log that grew, those that stood and those that came since
pub since_front : (log log' : List LogEntry) → IsFrontOf log log'
    → delays_of log' ≡ delays_of log ++ delays_since log log'
since_front log log' front =
    let more : delays_of log' ≡ delays_of log ++ delays_of front.rest =
    ap delays_of (sym front.joined) ∙ delays_on log front.rest in
    more
    ∙ ap (λ (ds : List ℕ). delays_of log ++ ds)
    (sym (ap (drop (length (delays_of log))) more
    ∙ drop-append_seam (delays_of log) (delays_of front.rest)))

-- where no call was made none was asked for
pub since_same : (log : List LogEntry) → delays_since log log ≡ []
since_same log = drop_all (length (delays_of log)) (delays_of log) (omega arith)
