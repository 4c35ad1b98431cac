-- What an idle connection is.
use Rattle.std.proofs.Common.{◌≡◌, ◌==◌, ℕ, Bool, true, false, ◌&&◌, true≢false, List, [], ◌∷◌, length, refl, sym, ◌∙◌, arith}
use Rattle.std.proofs.lemmas.Bool.Decides.{nat_tests}
use Rattle.relay_links.specs.Link.{LinkState, LinkStart}
use Rattle.relay_connector.specs.declared.Returned.{Returned}
use Rattle.relay_tasks.specs.declared.log.LogEntry.{LogEntry}
use Rattle.relay_hooks.specs.Standing.{Standing}
use Rattle.relay_attempt.specs.Passed.{Passed}
use Rattle.relay_request.specs.Calls.{CallsSoFar, log_of}
use Rattle.relay_request.specs.Passed.{World, Start}
use Rattle.relay_request.specs.Phases.{RunSoFar}
use Rattle.relay_request.specs.Request.{is_done}
use Rattle.relay_request.specs.Turn.{is_reading_head}
use Rattle.relay_request.specs.declared.calls.At.{At}
use Rattle.relay_request.specs.declared.calls.Calls.{Calls}
use Rattle.relay_request.specs.declared.machine.Phase.{Phase}
use Rattle.relay_request.specs.declared.machine.Phase.TheVariants.{ReadHead, Connect, Unlinked, Prepare, Relay, Broken, Again, Fail, Close, Answer, Ended}
use Rattle.relay_server.specs.Idle.{is_idle, HasNotBegun}
use Rattle.relay_server.specs.Serving.{Visit}

-- a request whose head is read has not ended
reads_on : {L C K : Type 0} (phase : Phase L C) (here : At K C) (empty : Bool)
    → (is_reading_head phase && empty) ≡ true → is_done phase here ≡ false
reads_on ReadHead here empty idle = refl
reads_on (Fail l lease keep session error) here empty idle = absurd (true≢false (sym idle))
reads_on (Connect context session tries) here empty idle = absurd (true≢false (sym idle))
reads_on (Unlinked context session attempts error) here empty idle =
    absurd (true≢false (sym idle))
reads_on (Prepare context session l lease) here empty idle = absurd (true≢false (sym idle))
reads_on (Relay a) here empty idle = absurd (true≢false (sym idle))
reads_on (Broken context session l lease keep error) here empty idle =
    absurd (true≢false (sym idle))
reads_on (Again context session l lease keep error) here empty idle =
    absurd (true≢false (sym idle))
reads_on (Close l lease keep outcome) here empty idle = absurd (true≢false (sym idle))
reads_on (Answer session owed attempts) here empty idle = absurd (true≢false (sym idle))
reads_on (Ended outcome attempts) here empty idle = absurd (true≢false (sym idle))

-- the request of an idle connection has not ended
pub idle_goes : {D U L C M : Type 0} (visit : Visit D U L C M) → is_idle visit ≡ true
    → is_done visit.phase visit.calls.at ≡ false
idle_goes visit idle = reads_on visit.phase visit.calls.at _ idle

-- nor was a hook called for one whose head is read
none_logged : {L C M K : Type 0} (allows : Standing → LogEntry → Type 0) (mark_of : C → ℕ)
    (calls : Calls M K C) (phase : Phase L C) (empty : Bool)
    → (is_reading_head phase && empty) ≡ true → CallsSoFar allows mark_of calls phase
    → log_of calls ≡ []
none_logged allows mark_of calls ReadHead empty idle none = none
none_logged allows mark_of calls (Connect context session tries) empty idle so_far =
    absurd (true≢false (sym idle))
none_logged allows mark_of calls (Unlinked context session attempts error) empty idle so_far =
    absurd (true≢false (sym idle))
none_logged allows mark_of calls (Prepare context session l lease) empty idle so_far =
    absurd (true≢false (sym idle))
none_logged allows mark_of calls (Relay a) empty idle so_far = absurd (true≢false (sym idle))
none_logged allows mark_of calls (Broken context session l lease keep error) empty idle so_far =
    absurd (true≢false (sym idle))
none_logged allows mark_of calls (Again context session l lease keep error) empty idle so_far =
    absurd (true≢false (sym idle))
none_logged allows mark_of calls (Fail l lease keep session error) empty idle so_far =
    absurd (true≢false (sym idle))
none_logged allows mark_of calls (Close l lease keep outcome) empty idle so_far =
    absurd (true≢false (sym idle))
none_logged allows mark_of calls (Answer session owed attempts) empty idle so_far =
    absurd (true≢false (sym idle))
none_logged allows mark_of calls (Ended outcome attempts) empty idle so_far =
    absurd (true≢false (sym idle))

-- no hook was called for the request of an idle connection
pub none_called : {D U L C M : Type 0} (allows : Standing → LogEntry → Type 0) (mark_of : C → ℕ)
    (visit : Visit D U L C M) → is_idle visit ≡ true
    → CallsSoFar allows mark_of visit.calls visit.phase → log_of visit.calls ≡ []
none_called allows mark_of visit idle so_far =
    none_logged allows mark_of visit.calls visit.phase _ idle so_far

-- a list of no length is empty
none_ahead : {X : Type 0} (xs : List X) → (length xs == 0) ≡ true → xs ≡ []
none_ahead [] empty = refl
none_ahead (x ∷ xs) empty =
    let some : (length (x ∷ xs) == 0) ≡ false = grind (arith, nat_tests) in
    absurd (true≢false (sym empty ∙ some))

-- where the head of a request is read and no byte is ahead, nothing came and nothing was done
pub not_begun : {L C : Type 0} (state : L → LinkState) (start_at : L → LinkStart) (s : Start)
    (p : Passed) (w : World) (own : List (Returned L)) (phase : Phase L C)
    → (is_reading_head phase && (length w.ahead == 0)) ≡ true
    → RunSoFar {C = C} state start_at s p w own phase → HasNotBegun s p own
not_begun state start_at s p w [] ReadHead idle run = record {
  asked = sym run.holds.whole ∙ none_ahead w.ahead idle;
  written = run.holds.written;
  unsent = run.holds.unsent;
  unlinked = refl;
}
not_begun state start_at s p w (r ∷ own) ReadHead idle run = absurd run.holds
not_begun state start_at s p w own (Connect context session tries) idle run =
    absurd (true≢false (sym idle))
not_begun state start_at s p w own (Unlinked context session attempts error) idle run =
    absurd (true≢false (sym idle))
not_begun state start_at s p w own (Prepare context session l lease) idle run =
    absurd (true≢false (sym idle))
not_begun state start_at s p w own (Relay a) idle run = absurd (true≢false (sym idle))
not_begun state start_at s p w own (Broken context session l lease keep error) idle run =
    absurd (true≢false (sym idle))
not_begun state start_at s p w own (Again context session l lease keep error) idle run =
    absurd (true≢false (sym idle))
not_begun state start_at s p w own (Fail l lease keep session error) idle run =
    absurd (true≢false (sym idle))
not_begun state start_at s p w own (Close l lease keep outcome) idle run =
    absurd (true≢false (sym idle))
not_begun state start_at s p w own (Answer session owed attempts) idle run =
    absurd (true≢false (sym idle))
not_begun state start_at s p w own (Ended outcome attempts) idle run =
    absurd (true≢false (sym idle))
