-- The filters of a piece, as their calls are entered: the application's alone, the modules' that
-- fails, and both.
use Rattle.std.proofs.Common.{ℕ, Bool, true, false, List, [], ◌∷◌, Option, Some, None, Result, Ok, Err, refl, inl, inr, IsSome}
use Rattle.relay_tasks.specs.declared.error.Error.{Error}
use Rattle.relay_tasks.specs.declared.error.Fail.{Fail}
use Rattle.relay_tasks.specs.declared.error.Fail.TheVariants as fail
use Rattle.relay_tasks.specs.declared.hook.Hook.TheVariants as hook
use Rattle.relay_tasks.specs.declared.log.Item.TheVariants as item
use Rattle.relay_tasks.specs.declared.log.LogEntry.{LogEntry}
use Rattle.relay_session.specs.Reading.{head_of}
use Rattle.relay_modules.specs.Module.{AllowsMade, ModuleCall, request_body}
use Rattle.relay_modules.specs.declared.seen.Seen.{Seen}
use Rattle.relay_hooks.specs.Call.{changed}
use Rattle.relay_hooks.specs.Standing.{Standing}
use Rattle.relay_calls.specs.Calls.{Calls, Enters}
use Rattle.relay_calls.specs.Log.{IsAllowed}
use Rattle.relay_calls.specs.Modules.{CallsModule, called}
use Rattle.relay_filters.specs.Request.{CallsFor, Came, LetsOn, PieceChain}
use Rattle.relay_filters.specs.Response.{Adds, SomeAllow}
use Rattle.relay_filters.proofs.OutcomeLemmas.{adds_both, adds_filter, adds_lost, adds_modules, adds_some, entry_of_app, filter_of_modules}

-- ---- the application's

module _ (app : Standing → LogEntry → Type 0) (modules : ModuleCall → Type 0)
    (bytes left : Option (List ℕ)) (end : Bool) (old : Seen) (mark : ℕ) (new : Seen) (mark' : ℕ)
    (head : IsSome (head_of old.downstream.reading)) where
  -- its call came to that
  alone_came : (error : Option Error)
      → Calls app hook.RequestBodyFilter (item.Piece bytes end) old mark new mark'
      (record { output = item.Piece left end; error = error; delay = None })
      → Came (IsAllowed app modules) false bytes left end error old mark new mark'
  alone_came error call =
      let e = entry_of_app app modules hook.RequestBodyFilter (item.Piece bytes end) old mark new
      mark' _ head call in
      record {
        es = e ∷ [];
        adds = adds_filter app modules hook.RequestBodyFilter (item.Piece bytes end) old mark new
            mark' _ head call refl refl;
        call = e;
        chain = PieceChain.by_app refl refl refl (record {
          given = bytes;
          left = left;
          end = end;
          is_hook = refl;
          was = refl;
          became = refl;
          undelayed = refl;
        });
        was = refl;
        became = refl;
        says = refl;
      }

  -- no modules stand
  pub alone_calls : (result : Result Unit Fail)
      → Enters (changed (item.Piece left end) result)
      (Calls app hook.RequestBodyFilter (item.Piece bytes end) old mark new mark') old new
      → CallsFor (IsAllowed app modules) false bytes left end result old mark new mark'
  alone_calls (Ok done) call = alone_came None call
  alone_calls (Err (fail.Error e)) call = alone_came (Some e) call
  alone_calls (Err fail.OutOfMemory) same =
      record { es = []; adds = adds_lost _ old mark new same; are = inl refl }

-- ---- the modules'

module _ (app : Standing → LogEntry → Type 0) {M : Type 0} (allows : M → ModuleCall → Type 0)
    (m : Option M) (stand : IsSome m) (bytes mid : Option (List ℕ)) (end : Bool) (old : Seen)
    (mark : ℕ) (at : Seen) (head : IsSome (head_of old.downstream.reading)) where
  -- it failed, or memory was wanted
  pub module_stops : (why : Fail)
      → Enters (called (λ error. request_body bytes mid end error) (Err why))
      (CallsModule (AllowsMade allows m) old mark at) old at
      → CallsFor (IsAllowed app (SomeAllow allows)) true bytes mid end (Err why) old mark at mark
  module_stops (fail.Error e) call =
      let made = request_body bytes mid end (Some e) in
      let one = filter_of_modules app allows m stand old mark at made refl head call in
      record {
        es = one ∷ [];
        adds = adds_modules app allows m stand old mark at made refl head call;
        call = one;
        chain = PieceChain.by_modules refl refl refl refl (record {
          given = bytes;
          left = mid;
          end = end;
          is_hook = refl;
          was = refl;
          became = refl;
          undelayed = refl;
        });
        was = refl;
        became = refl;
        says = refl;
      }
  module_stops fail.OutOfMemory same =
      record { es = []; adds = adds_lost _ old mark at same; are = inl refl }

  module _ (call : CallsModule (AllowsMade allows m) old mark at (request_body bytes mid end None))
    where
      -- the entry of one that let the piece go on
      abbrev first : LogEntry
      first = filter_of_modules app allows m stand old mark at (request_body bytes mid end None) refl
          head call

      abbrev adds_first : Adds (IsAllowed app (SomeAllow allows)) old mark at mark (first ∷ [])
      adds_first = adds_modules app allows m stand old mark at (request_body bytes mid end None) refl
          head call

      abbrev lets : LetsOn (first ∷ [])
      lets = record {
        call = first;
        are = refl;
        is_hook = refl;
        ok = refl;
        is_piece = record {
          given = bytes;
          left = mid;
          end = end;
          is_hook = refl;
          was = refl;
          became = refl;
          undelayed = refl;
        };
      }

      -- ---- both

      module _ (left : Option (List ℕ)) (new : Seen) (mark' : ℕ) where
        both_came : (error : Option Error)
            → Calls app hook.RequestBodyFilter (item.Piece mid end) at mark new mark'
            (record { output = item.Piece left end; error = error; delay = None })
            → Came (IsAllowed app (SomeAllow allows)) true bytes left end error old mark new mark'
        both_came error more =
            let e = entry_of_app app (SomeAllow allows) hook.RequestBodyFilter (item.Piece mid end)
            at mark new mark' _ adds_first.head more in
            record {
              es = first ∷ e ∷ [];
              adds = adds_both _ old mark at mark new mark' (first ∷ []) (e ∷ []) adds_first
                  (adds_filter app (SomeAllow allows) hook.RequestBodyFilter (item.Piece mid end) at
                  mark new mark' _ adds_first.head more refl refl);
              call = record e { input = item.Piece bytes end };
              chain = PieceChain.by_both refl (first ∷ []) lets e refl refl refl (record {
                given = mid;
                left = left;
                end = end;
                is_hook = refl;
                was = refl;
                became = refl;
                undelayed = refl;
              }) refl;
              was = refl;
              became = refl;
              says = refl;
            }

        -- the application's filter was given what the modules' left
        pub both_calls : (result : Result Unit Fail)
            → Enters (changed (item.Piece left end) result)
            (Calls app hook.RequestBodyFilter (item.Piece mid end) at mark new mark') at new
            → CallsFor (IsAllowed app (SomeAllow allows)) true bytes left end result old mark new
            mark'
        both_calls (Ok done) more = both_came None more
        both_calls (Err (fail.Error e)) more = both_came (Some e) more
        both_calls (Err fail.OutOfMemory) same = record {
          es = first ∷ [];
          adds = adds_some _ old mark at mark new (first ∷ []) [] adds_first
              (adds_lost _ at mark new same);
          are = inr (refl, lets, refl);
        }
