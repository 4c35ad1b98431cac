-- An absolute target that moves to another authority can still stand in a request line.
use Rattle.std.proofs.Common.{◌≡◌, ℕ, ◌<◌, ◌≤◌, List, [], ◌∷◌, ◌++◌, length, true, false, inl, inr, refl, ap, arith, length-append}
use Rattle.std.proofs.lemmas.Bool.{cases_lt}
use Rattle.std.proofs.lemmas.List.Elements.{All-append, All-cons, All-nil, All-take, All-drop}
use Rattle.std.specs.Prelude.{Bool, All, Some, None, Result, Ok, Err, OnOk, OnErr, IfErr, IsErrOf, ◌↔◌, if◌then◌else◌}
use Rattle.http_uri.proofs.Visible.{IsAuthority_visible}
use Rattle.http_uri.specs.Grammar.{IsAuthority}
use Rattle.relay_tasks.proofs.Visible.{IsVisible, visible_text}
use Rattle.relay_tasks.specs.Error.{refused, IsMemoryOr}
use Rattle.relay_tasks.specs.Head.{RequestHead, IsRawTarget, IsSendable}
use Rattle.relay_tasks.specs.declared.Context.TheVariants as about
use Rattle.relay_tasks.specs.declared.Fail.{Fail}
use Rattle.relay_tasks.specs.declared.Fail.TheVariants as fail
use Rattle.relay_authority.specs.Sent.{ReconcilesRaw, ReconcilesTarget, moved_target}
use Rattle.relay_authority.specs.Table.{Outcome, Settles}
use Rattle.relay_authority.specs.Target.{Parts, absolute_parts, is_absolute, scheme_of, authority_of, rest_of, scheme_len, authority_len, behind_scheme, behind_slashes}

-- the parts of a visible text are visible
record VisibleParts (parts : Parts) : Type 0 where
  scheme : All IsVisible parts.scheme
  rest : All IsVisible parts.rest

-- the scheme and the rest of a visible target are visible
parts_visible : (target : List ℕ) (parts : Parts) → absolute_parts target ≡ Some parts
    → All IsVisible target → VisibleParts parts
parts_visible target parts absolute visible = by (is_absolute target) absolute
  where
    scheme_visible : All IsVisible (scheme_of target)
    scheme_visible = All-take IsVisible (scheme_len target) target visible

    rest_visible : All IsVisible (rest_of target)
    rest_visible =
        All-drop IsVisible (authority_len (behind_slashes target)) (behind_slashes target)
        (All-drop IsVisible 3 (behind_scheme target)
        (All-drop IsVisible (scheme_len target) target visible))

    by : (test : Bool)
        → (if test
        then Some (record {
          scheme = scheme_of target;
          authority = authority_of target;
          rest =
              rest_of target;
        })
        else None) ≡ Some parts
        → VisibleParts parts
    by true same =
        let scheme : scheme_of target ≡ parts.scheme = cc in
        let rest : rest_of target ≡ parts.rest = cc in
        record { scheme = rw (← scheme) scheme_visible; rest = rw (← rest) rest_visible }
    by false same = absurd cc

-- a target that moved is one that can be set, if it is short enough
pub moved_is_raw : (target host : List ℕ) (parts : Parts) → absolute_parts target ≡ Some parts
    → IsSendable target → IsAuthority host
    → length (moved_target parts host) ≤ 65534 → IsRawTarget (moved_target parts host)
moved_is_raw target host parts absolute sendable authority short =
    let visible = parts_visible target parts absolute sendable.visible in
    let named : All IsVisible host = visible_text host (IsAuthority_visible host authority) in
    let marked : All IsVisible (58 ∷ 47 ∷ 47 ∷ []) =
    All-cons IsVisible 58 (47 ∷ 47 ∷ []) refl
    (All-cons IsVisible 47 (47 ∷ []) refl (All-cons IsVisible 47 [] refl (All-nil IsVisible))) in
    record {
      filled = omega (arith, length-append parts.scheme (58 ∷ 47 ∷ 47 ∷ (host ++ parts.rest)));
      fits = short;
      visible =
          All-append IsVisible parts.scheme (58 ∷ 47 ∷ 47 ∷ (host ++ parts.rest)) visible.scheme
          (All-append IsVisible (58 ∷ 47 ∷ 47 ∷ []) (host ++ parts.rest) marked
          (All-append IsVisible host parts.rest named visible.rest));
    }

-- setting the moved target settles the table
pub moves_target : (head new : RequestHead) (host : List ℕ) (parts : Parts)
    (result : Result (Unit {0}) Fail)
    → absolute_parts head.target ≡ Some parts → IsSendable head.target → ¬ (host ≡ parts.authority)
    → IsAuthority host
    → OnOk result (new ≡ record head { target = moved_target parts host; uri = None })
    → (IsErrOf result (fail.Error (refused about.HeadGrammar))
    ↔ ¬ (IsRawTarget (moved_target parts host)))
    → IfErr result (IsMemoryOr (refused about.HeadGrammar)) → OnErr result (new ≡ head)
    → Settles (ReconcilesTarget head parts host) head new result
moves_target head new host parts (Ok done) absolute sendable differ authority ok exact causes err =
    let short : ¬ (65534 < length (moved_target parts host)) = λ long.
    let refusal = exact.1 (λ raw. let fits = raw.fits in omega arith) in absurd cc in
    rw ok (inr (differ, inr ((λ no. no authority), inr (short, refl))))
moves_target head new host parts
    (Err fail.OutOfMemory) absolute sendable differ authority ok exact causes err = err
moves_target head new host parts
    (Err (fail.Error error)) absolute sendable differ authority ok exact causes err =
    let bad = exact.0 (ap (λ e. Err (fail.Error e)) causes) in
    let long : 65534 < length (moved_target parts host) =
    elim (cases_lt 65534 (length (moved_target parts host))) [
      | inl long ↦ long
      | inr short ↦ absurd (bad
          (moved_is_raw head.target host parts absolute sendable authority short))
    ] in
    rw err (about.HeadGrammar, causes, inr (differ, inr ((λ no. no authority), inl (long, refl))))

-- the table of an absolute target is that of the head
pub by_target : (head : RequestHead) (host : List ℕ) (parts : Parts)
    → absolute_parts head.target ≡ Some parts → (outcome : Outcome)
    → ReconcilesTarget head parts host outcome → ReconcilesRaw head host outcome
by_target head host parts absolute outcome table = rw absolute table
