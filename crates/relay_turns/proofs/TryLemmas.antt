-- The attempts to which no link was given: none yet, one more, the last, those before it, and how
-- many there are.
use Rattle.std.proofs.Common.{◌≡◌, ◌≢◌, ◌⊎◌, ℕ, ◌<◌, ◌+◌, ◌≤◌, Bool, true, false, true≢false, List, [], ◌∷◌, ◌++◌, append_assoc, drop, length, length-append, map, Option, None, Some, refl, sym, ap, subst, ◌∙◌, inl, inr, arith}
use Rattle.std.specs.List.{All}
use Rattle.std.proofs.lemmas.List.Elements.{All-append, All-cons, All-nil}
use Rattle.std.proofs.lemmas.List.{drop-append-le, map-append}
use Rattle.std.proofs.lemmas.Bool.{cases_lt}
use Rattle.relay_tasks.specs.Error.{error_of_fault, may_retry}
use Rattle.relay_tasks.specs.declared.Error.{Error}
use Rattle.relay_tasks.specs.declared.Fault.{Fault}
use Rattle.relay_tasks.specs.declared.Peer.{Peer}
use Rattle.relay_connector.specs.Connector.{IsConnectFault, connect_fault}
use Rattle.relay_tasks.specs.declared.log.LogEntry.{LogEntry}
use Rattle.relay_links.specs.Link.{LinkState, LinkStart}
use Rattle.relay_connector.specs.declared.Returned.{Returned}
use Rattle.relay_attempt.specs.Passed.{Passed}
use Rattle.relay_request.specs.Endings.{AttemptsFailed, AttemptsUnfinished, EndsWith, MadeAhead}
use Rattle.relay_request.specs.Passed.{World, Start, opened_to}
use Rattle.relay_request.specs.Tries.{AreTries, EndsTrying, IsRaised, IsRefusedFor, IsTry, LosesTry, MayTry, Refusal, fault_of, record_of, refusals_in, refusals_since, tries_of, unlinked_record, upstream_error}
use Rattle.relay_request.specs.declared.outcome.Outcome.{Outcome}
use Rattle.relay_request.specs.declared.outcome.Outcome.TheVariants.{NoRequest, Refused, Served, TurnLimit, OutOfMemory}
use Rattle.relay_request.specs.declared.record.AttemptRecord.{AttemptRecord}
use Rattle.relay_turns.proofs.RefusalLemmas.{is_its_fault}

-- the records of those
abbrev records : List Refusal → List AttemptRecord
records rs = map (λ (r : Refusal). record_of r) rs

-- a request of which no call tells that it was refused a link, and that made no attempt before
pub no_tries : (s : Start) (tries : List AttemptRecord) → s.tried ≡ [] → s.refused ≡ 0
    → tries ≡ [] → refusals_in s.called ≡ [] → AreTries s tries
no_tries s tries untried first none unrefused = record {
  fits = omega (arith, first);
  told = none
      ∙ ap (λ (rs : List Refusal). records rs) (sym (all_since unrefused first))
      ∙ ap (λ (xs : List AttemptRecord). xs ++ records (refusals_since s)) (sym untried);
  each = subst (λ (rs : List Refusal). All IsTry rs) (sym unrefused) (All-nil IsTry);
  allowed = λ some. absurd (some none);
}
  where
    all_since : refusals_in s.called ≡ [] → s.refused ≡ 0 → refusals_since s ≡ []
    all_since is at =
        ap (λ (n : ℕ). drop n (refusals_in s.called)) at
        ∙ ap (λ (rs : List Refusal). drop 0 rs) is

-- those since then are one more with one of which a call tells more
since_more : (n : ℕ) (before those : List Refusal) (r : Refusal) → n ≤ length before
    → those ≡ before ++ r ∷ [] → drop n those ≡ drop n before ++ r ∷ []
since_more n before those r fits more =
    ap (λ (rs : List Refusal). drop n rs) more ∙ drop-append-le n before (r ∷ []) fits

-- and there is its record more
told_more : (s : Start) (these those : List LogEntry) (tries attempts : List AttemptRecord)
    (r : Refusal) → refusals_in those ≡ refusals_in these ++ r ∷ []
    → attempts ≡ tries ++ record_of r ∷ [] → AreTries (opened_to s these) tries
    → attempts ≡ s.tried ++ records (drop s.refused (refusals_in those))
told_more s these those tries attempts r more are before =
    let since : List Refusal = drop s.refused (refusals_in these) in
    are
    ∙ ap (λ (xs : List AttemptRecord). xs ++ record_of r ∷ []) before.told
    ∙ append_assoc s.tried (records since) (record_of r ∷ [])
    ∙ ap (λ (xs : List AttemptRecord). s.tried ++ xs)
    (sym (map-append (λ (x : Refusal). record_of x) since (r ∷ [])))
    ∙ ap (λ (rs : List Refusal). s.tried ++ records rs)
    (sym (since_more s.refused (refusals_in these) (refusals_in those) r before.fits more))

-- one attempt more, behind which another is allowed
pub one_more : (s : Start) (most : ℕ) (these those : List LogEntry)
    (tries attempts : List AttemptRecord) (r : Refusal) → s.most ≡ most
    → refusals_in those ≡ refusals_in these ++ r ∷ [] → attempts ≡ tries ++ record_of r ∷ []
    → AreTries (opened_to s these) tries → IsTry r → length attempts < most
    → AreTries (opened_to s those) attempts
one_more s most these those tries attempts r limit more are before try may = record {
  fits = omega (
    arith,
    before.fits,
    ap (λ (rs : List Refusal). length rs) more,
    length-append (refusals_in these) (r ∷ []),
  );
  told = told_more s these those tries attempts r more are before;
  each = subst (λ (rs : List Refusal). All IsTry rs) (sym more)
      (All-append IsTry (refusals_in these) (r ∷ []) before.each
      (All-cons IsTry r [] try (All-nil IsTry)));
  allowed = λ some. omega (arith, may, limit);
}

-- all attempts but the last are those before it
pub tries_behind : (tries : List AttemptRecord) (a : AttemptRecord)
    → tries_of (tries ++ a ∷ []) ≡ tries
tries_behind [] a = refl
tries_behind (b ∷ []) a = refl
tries_behind (b ∷ c ∷ tries) a =
    ap (λ (xs : List AttemptRecord). b ∷ xs) (tries_behind (c ∷ tries) a)

pub tries_before : (tries attempts : List AttemptRecord) (a : AttemptRecord)
    → attempts ≡ tries ++ a ∷ [] → tries_of attempts ≡ tries
tries_before tries attempts a are =
    ap (λ (xs : List AttemptRecord). tries_of xs) are ∙ tries_behind tries a

-- the last attempt of which calls tell failed so
abbrev pub refused_last : (these those : List LogEntry) (r : Refusal) (e : Error)
    → refusals_in those ≡ refusals_in these ++ r ∷ [] → IsRaised r
    → e ≡ upstream_error r.treated → IsRefusedFor those e
refused_last these those r e more raised is = record {
  before = refusals_in these;
  last = r;
  told = more;
  raised = raised;
  error = is;
}

-- the last one, behind which none is
pub last_one : (s : Start) (most : ℕ) (these those : List LogEntry)
    (tries attempts : List AttemptRecord) (r : Refusal) (e : Error) → s.most ≡ most
    → refusals_in those ≡ refusals_in these ++ r ∷ [] → attempts ≡ tries ++ record_of r ∷ []
    → AreTries (opened_to s these) tries → IsRaised r
    → e ≡ upstream_error r.treated → ¬ (MayTry most (length attempts) e)
    → EndsTrying (opened_to s those) attempts e
last_one s most these those tries attempts r e limit more are before raised is over = record {
  refused = refused_last these those r e more raised is;
  fits = before.fits;
  told = told_more s these those tries attempts r more are before;
  each = before.each;
  allowed = subst (λ (xs : List AttemptRecord). xs ≢ [] → length xs < s.most)
      (sym (tries_before tries attempts (record_of r) are)) before.allowed;
  over = λ may. over (may.0, subst (λ (n : ℕ). length attempts < n) limit may.1);
}

-- the fault of which the error tells is the connector's
told_fault : (fault : Fault) (raised : Error) → IsConnectFault fault
    → raised ≡ error_of_fault fault → fault_of raised ≡ fault
told_fault fault raised kind is =
    ap (λ (e : Error). connect_fault e.retry) is ∙ is_its_fault fault kind

-- the application was told of the fault with which the connector refused a link
pub raised_so : (peer : Peer) (fault : Fault) (raised treated : Error) → IsConnectFault fault
    → raised ≡ error_of_fault fault
    → IsRaised (record { peer = peer; raised = raised; treated = treated })
raised_so peer fault raised treated kind is =
    is ∙ ap (λ (f : Fault). error_of_fault f) (sym (told_fault fault raised kind is))

-- and the record that is made of the attempt is the one of which its call tells
pub recorded_so : (peer recorded : Peer) (fault : Fault) (raised treated e : Error)
    → recorded ≡ peer → IsConnectFault fault → raised ≡ error_of_fault fault
    → e ≡ upstream_error treated
    → unlinked_record recorded fault e
    ≡ record_of (record { peer = peer; raised = raised; treated = treated })
recorded_so peer recorded fault raised treated e same kind is made =
    ap (λ (x : Peer). unlinked_record x fault e) same
    ∙ ap (λ (f : Fault). unlinked_record peer f e) (sym (told_fault fault raised kind is))
    ∙ ap (λ (x : Error). unlinked_record peer (fault_of raised) x) made

-- another attempt may follow, or none
pub may_or_not : (most made : ℕ) (e : Error) → MayTry most made e ⊎ (¬ (MayTry most made e))
may_or_not most made e = by (may_retry e.retry) refl
  where
    by : (b : Bool) → may_retry e.retry ≡ b → MayTry most made e ⊎ (¬ (MayTry most made e))
    by false is = inr (λ may. true≢false (sym may.0 ∙ is))
    by true is = elim (cases_lt made most) [
      | inl less ↦ inl (is, less)
      | inr full ↦ inr (λ may. omega (arith, may.1, full))
    ]

-- the attempts before another one are fewer than a request may make
within : (s : Start) (tries : List AttemptRecord) → AreTries s tries → 1 ≤ s.most
    → length tries < s.most
within s [] are some = omega (arith, some)
within s (a ∷ tries) are some = are.allowed (λ none. cc)

-- and with it they are no more
with_last : (s : Start) (tries attempts : List AttemptRecord) (a : AttemptRecord)
    → attempts ≡ tries ++ a ∷ [] → AreTries s tries → 1 ≤ s.most → length attempts ≤ s.most
with_last s tries attempts a are before some =
    omega (
      arith,
      within s tries before some,
      ap (λ (xs : List AttemptRecord). length xs) are,
      length-append tries (a ∷ []),
    )

-- a request that made none
none_made : (s : Start) (attempts : List AttemptRecord) → attempts ≡ [] → length attempts ≤ s.most
none_made s attempts none = omega (arith, ap (λ (xs : List AttemptRecord). length xs) none)

-- the last is one more than those before it
last_counts : (a b : AttemptRecord) (xs : List AttemptRecord)
    → length (a ∷ b ∷ xs) ≡ 1 + length (tries_of (a ∷ b ∷ xs))
last_counts a b [] = refl
last_counts a b (c ∷ xs) = omega (arith, last_counts b c xs)

-- one of which the last was given no link
ended_within : (s : Start) (attempts : List AttemptRecord) (e : Error) → EndsTrying s attempts e
    → 1 ≤ s.most → length attempts ≤ s.most
ended_within s attempts e made some =
    counted attempts made.allowed
  where
    -- all but the last are fewer than it may make
    counted : (xs : List AttemptRecord) → (tries_of xs ≢ [] → length (tries_of xs) < s.most)
        → length xs ≤ s.most
    counted [] allowed = omega arith
    counted (a ∷ []) allowed = omega (arith, some)
    counted (a ∷ b ∷ xs) allowed = omega (arith, allowed (λ none. cc), last_counts a b xs)

-- one that hooks ended
ahead_within : (s : Start) (why : Option Error) (attempts : List AttemptRecord)
    → MadeAhead s why attempts → 1 ≤ s.most → length attempts ≤ s.most
ahead_within s None attempts made some = none_made s attempts made.0
ahead_within s (Some e) attempts made some = omega (arith, within s attempts made some)

-- one that ended with an error
failed_within : (s : Start) (p : Passed) (w : World) (attempts : List AttemptRecord) (e : Error)
    → AttemptsFailed s p w attempts e → 1 ≤ s.most → length attempts ≤ s.most
failed_within s p w attempts e (AttemptsFailed.unlinked made) some =
    ended_within s attempts e made some
failed_within s p w attempts e (AttemptsFailed.ahead ends made) some =
    ahead_within s ends.why attempts made some

-- one that was not brought to an end
unfinished_within : (s : Start) (p : Passed) (w : World) (attempts : List AttemptRecord)
    → AttemptsUnfinished s p w attempts → 1 ≤ s.most → length attempts ≤ s.most
unfinished_within s p w attempts (inl none) some = none_made s attempts none.0.0
unfinished_within s p w attempts (inr (inl between)) some =
    omega (arith, within s attempts between.0 some)
unfinished_within s p w attempts (inr (inr (inl part))) some =
    ahead_within s part.why attempts part.made some
unfinished_within s p w attempts (inr (inr (inr half))) some =
    ended_within s attempts half.e half.made some

-- one whose last attempt was lost for want of memory
lost_within : (s : Start) (attempts : List AttemptRecord) → LosesTry s attempts → 1 ≤ s.most
    → length attempts ≤ s.most
lost_within s attempts lost some =
    with_last s lost.tries attempts _ lost.attempts_are lost.are_tries some

-- a request makes no more attempts than it may
pub at_most : {L : Type 0} (state : L → LinkState) (start_at : L → LinkStart) (s : Start)
    (p : Passed) (w : World) (own : List (Returned L)) (attempts : List AttemptRecord)
    (outcome : Outcome) → EndsWith state start_at s p w own attempts outcome → 1 ≤ s.most
    → length attempts ≤ s.most
at_most state start_at s p w [] attempts NoRequest ends some = none_made s attempts ends.1.0
at_most state start_at s p w [] attempts (Refused error) ends some = none_made s attempts ends.1.0
at_most state start_at s p w [] attempts (Served None reuse) ends some =
    none_made s attempts ends.1.0
at_most state start_at s p w [] attempts (Served (Some e) reuse) ends some =
    failed_within s p w attempts e ends.1 some
at_most state start_at s p w [] attempts TurnLimit ends some =
    unfinished_within s p w attempts ends.1 some
at_most state start_at s p w [] attempts OutOfMemory ends some =
    elim ends.1 [
      | inl unfinished ↦ unfinished_within s p w attempts unfinished some
      | inr lost ↦ lost_within s attempts lost.0 some
    ]
at_most state start_at s p w (r ∷ []) attempts outcome ends some =
    with_last s ends.tries attempts ends.attempt ends.attempts_are ends.are_tries some
at_most state start_at s p w (r ∷ q ∷ rest) attempts outcome ends some = absurd ends
