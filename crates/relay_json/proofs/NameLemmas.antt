-- Names are told apart, and types of errors are read as they are written.
use Rattle.std.proofs.Common.{◌≡◌, ◌≢◌, ℕ, ◌-◌, ◌<◌, ◌^◌, ◌&&◌, nat_lt, List, [], ◌∷◌, ◌++◌, length, take, drop, Bool, true, false, Option, Some, None, option_map, if◌then◌else◌, codes, refl, sym, ap, ◌∙◌, arith, append_assoc}
use Rattle.std.specs.Prelude.{decimal, MatchOption}
use Rattle.std.specs.Str.{bytes_eq}
use Rattle.std.specs.Str.Parse.{digits_value}
use Rattle.std.proofs.lemmas.Bool.{and_parts, lt-ltb, ltb-true}
use Rattle.std.proofs.lemmas.Fmt.{decimal_is_IsNumeral}
use Rattle.std.proofs.lemmas.List.{length-append, append_cancel_left, append_cancel_right}
use Rattle.std.proofs.lemmas.Slice.Eq.{bytes_eq-Decides}
use Rattle.std.proofs.Math.Seq.{take-append_seam, drop-append_seam}
use Rattle.relay_tasks.specs.declared.error.ErrorType.{ErrorType}
use Rattle.relay_tasks.specs.declared.error.ErrorType.TheVariants as etype
use Rattle.relay_tasks.specs.declared.hook.Hook.{Hook}
use Rattle.relay_tasks.specs.declared.hook.Hook.TheVariants as hook
use Rattle.relay_json.specs.Names.{IsNamedAlone, plain_type, type_named, bracketed, number_behind, IsTypedAlone}
use Rattle.relay_json.specs.Number.{SpellsNumber, SpellsNoNumber}

-- ---- a number between a front and a bracket

-- what stands between them
middle : (front inner : List ℕ)
    → drop (length front)
    (take (length (front ++ inner ++ codes ")") - 1) (front ++ inner ++ codes ")"))
    ≡ inner
middle front inner =
    let len : length (front ++ inner ++ codes ")") - 1 ≡ length (front ++ inner) =
    omega (arith, length-append (front ++ inner) (codes ")")) in
    ap (λ (n : ℕ). drop (length front) (take n (front ++ inner ++ codes ")"))) len
    ∙ ap (drop (length front)) (take-append_seam (front ++ inner) (codes ")"))
    ∙ drop-append_seam front inner

bracketed_is : (front text : List ℕ) (n : ℕ) → text ≡ front ++ decimal n ++ codes ")" → n < 2 ^ 16
    → bracketed front text n ≡ Some n
bracketed_is front text n is fits =
    rw (lt-ltb n (2 ^ 16) fits, (bytes_eq-Decides text (front ++ decimal n ++ codes ")")).1 is) refl

-- it is read
pub number_read : (front text : List ℕ) (n : ℕ) → text ≡ front ++ decimal n ++ codes ")"
    → n < 2 ^ 16 → number_behind front text ≡ Some n
number_read front text n is fits =
    let value : digits_value 10 (drop (length front) (take (length text - 1) text)) ≡ n =
    ap (λ (t : List ℕ). digits_value 10 (drop (length front) (take (length t - 1) t))) is
    ∙ ap (digits_value 10) (middle front (decimal n))
    ∙ (decimal_is_IsNumeral n (omega (arith, fits))).1 in
    ap (bracketed front text) value ∙ bracketed_is front text n is fits

bracketed_none : (front text : List ℕ) (n : ℕ) (test : Bool)
    → (nat_lt n (2 ^ 16) && bytes_eq text (front ++ decimal n ++ codes ")")) ≡ test
    → ((k : ℕ) → k < 2 ^ 16 → text ≢ front ++ decimal k ++ codes ")")
    → (if test then Some n else None) ≡ None
bracketed_none front text n false is none = refl
bracketed_none front text n true is none =
    let both = and_parts _ _ is in
    absurd (none n (ltb-true _ _ both.0) ((bytes_eq-Decides _ _).0 both.1))

-- none is read where none stands there
pub number_none : (front text : List ℕ)
    → ((n : ℕ) → n < 2 ^ 16 → text ≢ front ++ decimal n ++ codes ")")
    → number_behind front text ≡ None
number_none front text none = bracketed_none front text _ _ refl none

-- the number that is read of the digits between them, or none
pub parsed : (front text rest number : List ℕ) (r : Option ℕ) → text ≡ front ++ rest
    → rest ≡ number ++ codes ")"
    → MatchOption r (SpellsNoNumber number) (SpellsNumber number) → r ≡ number_behind front text
parsed front text rest number None is ends none =
    sym (number_none front text (λ n fits same. none n (record {
      spelled = append_cancel_right number (decimal n) (codes ")")
          (sym ends ∙ append_cancel_left front rest (decimal n ++ codes ")")
          (sym is ∙ same ∙ append_assoc front (decimal n) (codes ")")));
      fits = fits;
    })))
parsed front text rest number (Some n) is ends spells =
    sym (number_read front text n
    (is ∙ ap (λ (t : List ℕ). front ++ t)
    (ends ∙ ap (λ (t : List ℕ). t ++ codes ")") spells.spelled)
    ∙ sym (append_assoc front (decimal n) (codes ")"))) spells.fits)

-- ---- types

-- a type by its number, where no name is that of a type without one
pub second_type : (text : List ℕ) (n : ℕ) → plain_type text ≡ None
    → number_behind (codes "HTTPStatus(") text ≡ Some n
    → type_named text ≡ Some (etype.HTTPStatus n)
second_type text n plain found = rw (plain, found) refl

pub third_type : (text : List ℕ) (found : Option ℕ) → plain_type text ≡ None
    → number_behind (codes "HTTPStatus(") text ≡ None
    → number_behind (codes "Custom(") text ≡ found
    → type_named text ≡ option_map etype.Custom found
third_type text found plain none is = rw (plain, none, is) refl

-- the first byte of a text
first : List ℕ → ℕ
first [] = 0
first (b ∷ bs) = b

differ : (a b : ℕ) → a ≡ 67 → b ≡ 72 → a ≢ b
differ a b is other same = omega (arith, is, other, same)

-- what a type writes reads as that type
pub typed_alone : (e : ErrorType) → IsTypedAlone e
unfolding first
typed_alone etype.InvalidHTTPHeader = λ _. refl
typed_alone etype.ReadError = λ _. refl
typed_alone etype.ReadTimedout = λ _. refl
typed_alone etype.WriteError = λ _. refl
typed_alone etype.WriteTimedout = λ _. refl
typed_alone etype.ConnectionClosed = λ _. refl
typed_alone etype.ConnectError = λ _. refl
typed_alone etype.PrematureBodyEnd = λ _. refl
typed_alone etype.H2Error = λ _. refl
typed_alone etype.H2Downgrade = λ _. refl
typed_alone etype.InvalidH2 = λ _. refl
typed_alone etype.InternalError = λ _. refl
typed_alone etype.FileReadError = λ _. refl
typed_alone (etype.HTTPStatus n) = λ fits.
    let text = codes "HTTPStatus(" ++ decimal n ++ codes ")" in
    second_type text n refl (number_read (codes "HTTPStatus(") text n refl fits)
typed_alone (etype.Custom n) = λ fits.
    let text = codes "Custom(" ++ decimal n ++ codes ")" in
    third_type text (Some n) refl
    (number_none (codes "HTTPStatus(") text (λ k _ same. differ _ _ refl refl (ap first same)))
    (number_read (codes "Custom(") text n refl fits)

-- ---- hooks

-- each hook is found by its name
pub named_alone : (on : Hook) → IsNamedAlone on
named_alone hook.NewCtx = refl
named_alone hook.UpstreamPeer = refl
named_alone hook.InitDownstreamModules = refl
named_alone hook.EarlyRequestFilter = refl
named_alone hook.AllowSpawningSubrequest = refl
named_alone hook.RequestFilter = refl
named_alone hook.RequestBodyFilter = refl
named_alone hook.ProxyUpstreamFilter = refl
named_alone hook.UpstreamRequestFilter = refl
named_alone hook.UpstreamResponseFilter = refl
named_alone hook.ResponseFilter = refl
named_alone hook.CustomForwarding = refl
named_alone hook.DownstreamCustomMessageProxyFilter = refl
named_alone hook.UpstreamCustomMessageProxyFilter = refl
named_alone hook.UpstreamResponseBodyFilter = refl
named_alone hook.UpstreamResponseTrailerFilter = refl
named_alone hook.ResponseBodyFilter = refl
named_alone hook.ResponseTrailerFilter = refl
named_alone hook.Logging = refl
named_alone hook.PersistConnectionContext = refl
named_alone hook.OnConnectionReuse = refl
named_alone hook.SuppressErrorLog = refl
named_alone hook.SuppressProxyWarnLog = refl
named_alone hook.ErrorWhileProxy = refl
named_alone hook.FailToConnect = refl
named_alone hook.FailToProxy = refl
named_alone hook.ConnectedToUpstream = refl
named_alone hook.RequestSummary = refl
named_alone hook.IsPurge = refl
named_alone hook.PurgeAction = refl
named_alone hook.PurgeResponseFilter = refl
named_alone hook.ModuleRequestHeader = refl
named_alone hook.ModuleRequestBody = refl
named_alone hook.ModuleResponseHeader = refl
named_alone hook.ModuleResponseBody = refl
named_alone hook.ModuleResponseTrailer = refl
named_alone hook.ModuleResponseDone = refl
