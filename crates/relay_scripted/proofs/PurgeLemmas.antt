-- The rules on a purge's answer leave it a final head without a body: no rule there names a field
-- that frames one.
use Rattle.std.proofs.Common.{◌≡◌, ℕ, ◌≢◌, true, false, List, [], ◌∷◌, map, codes, bytes_eq, refl, sym, ap, subst, ◌∙◌, inl, inr, arith}
use Rattle.std.proofs.lemmas.Bool.{cases_Bool, both_ways}
use Rattle.std.proofs.lemmas.Slice.Eq.{bytes_eq-Decides}
use Rattle.std.specs.Fmt.{decimal}
use Rattle.std.specs.List.{list_all}
use Rattle.std.specs.Prelude.{Bool, not, ◌||◌, Option, Some, None, Result, Ok, Err, OnOk}
use Rattle.http_header.specs.FieldValue.{FieldValue, plain_value}
use Rattle.http_header.specs.HeaderMap.{IsUnique, get_all, insert, remove}
use Rattle.http_header.proofs.HeaderMapLemmas.{get_all-insert_other, get_all-remove_other}
use Rattle.relay_tasks.specs.Head.{Fields, ResponseHead}
use Rattle.relay_tasks.specs.declared.error.Error.{Error}
use Rattle.relay_tasks.specs.declared.error.Fail.{Fail}
use Rattle.relay_tasks.specs.declared.hook.Hook.{Hook}
use Rattle.relay_tasks.specs.declared.hook.Hook.TheVariants as hook
use Rattle.relay_tasks.specs.declared.log.Item.TheVariants as item
use Rattle.relay_session.specs.Generated.{generated_head}
use Rattle.relay_hooks.specs.DefaultLaw.{purge_answer}
use Rattle.relay_hooks.specs.Laws.{IsBodiless}
use Rattle.relay_hooks.specs.Purge.{purge_code, purge_head, purged_of}
use Rattle.relay_hooks.specs.declared.purge.PurgeStatus.{PurgeStatus}
use Rattle.relay_hooks.specs.declared.purge.PurgeStatus.TheVariants as status
use Rattle.relay_hooks.proofs.PurgeLemmas.{purge_head-bodiless}
use Rattle.relay_script.specs.Actions.{has_room, informs, is_status, on_response}
use Rattle.relay_script.specs.Fold.{Answers, Outcome, followed, run_rules}
use Rattle.relay_tasks.specs.Hooks.{same_hook}
use Rattle.relay_script.specs.Lawful.{are_lawful, frames, keeps_framing}
use Rattle.relay_script.specs.declared.rule.Action.{Action}
use Rattle.relay_script.specs.declared.rule.Action.TheVariants as action
use Rattle.relay_script.specs.declared.rule.Rule.{Rule}
use Rattle.relay_script.proofs.FoldLemmas.{both_true}
use Rattle.relay_script.proofs.LawLemmas.{lawful_framing}
use Rattle.relay_scripted.proofs.FieldLemmas.{removed_unique, set_unique}

-- ---- what the relay makes of a purge

-- the default's answer to a purge is the head that the relay made
pub purge_answered : (answer : PurgeStatus)
    → purge_answer (item.Status (purged_of answer)) ≡ item.Response (purge_head answer) true
purge_answered status.NoCache = refl
purge_answered status.Found = refl
purge_answered status.NotFound = refl
purge_answered (status.Error fault) = refl

-- fields of a head behind which no body comes; no name stands twice
pub record AreBodiless (fields : Fields) : Type 0 where
  pub unique : IsUnique fields
  pub length_0 :
      map (λ value. value.bytes) (get_all fields (codes "content-length")) ≡ codes "0" ∷ []
  pub uncoded : get_all fields (codes "transfer-encoding") ≡ []

-- the fields of a generated answer, set one after the other
generated_fields : (code : ℕ)
    → (generated_head code 0).fields
    ≡ insert
    (insert (insert [] (codes "server") (plain_value (codes "Pingora"))) (codes "content-length")
    (plain_value (decimal 0)))
    (codes "cache-control") (plain_value (codes "private, no-store"))
unfolding generated_head
generated_fields code = refl

-- so no name stands twice
generated_unique : (code : ℕ) → IsUnique (generated_head code 0).fields
generated_unique code =
    let none : IsUnique {X = FieldValue} [] = λ i j within other same. omega arith in
    subst (λ (fields : Fields). IsUnique fields) (sym (generated_fields code))
    (set_unique
    (insert (insert [] (codes "server") (plain_value (codes "Pingora"))) (codes "content-length")
    (plain_value (decimal 0)))
    (codes "cache-control") (plain_value (codes "private, no-store"))
    (set_unique (insert [] (codes "server") (plain_value (codes "Pingora")))
    (codes "content-length")
    (plain_value (decimal 0))
    (set_unique [] (codes "server") (plain_value (codes "Pingora")) none)))

-- the head that the relay made has no body
purge_head_bodiless : (answer : PurgeStatus) → AreBodiless (purge_head answer).fields
purge_head_bodiless answer =
    let head = purge_head-bodiless answer in
    record {
      unique = generated_unique (purge_code answer);
      length_0 = head.length_0;
      uncoded = head.uncoded;
    }

-- ---- one action

-- names that differ in a byte are two
apart : (a b : List ℕ) → bytes_eq a b ≡ false → a ≢ b
apart a b differ same = both_ways _ differ ((bytes_eq-Decides a b).1 same)

-- where neither holds, each is false
neither : (a b : Bool) → not (a || b) ≡ true → (a ≡ false) × (b ≡ false)
neither false false none = (refl, refl)
neither false true none = absurd cc
neither true b none = absurd cc

-- a field of another name is set
set_bodiless : (fields : Fields) (name : List ℕ) (value : FieldValue) → not (frames name) ≡ true
    → AreBodiless fields → AreBodiless (insert fields name value)
set_bodiless fields name value other was =
    let parts =
    neither (bytes_eq name (codes "content-length")) (bytes_eq name (codes "transfer-encoding"))
    other in
    record {
      unique = set_unique fields name value was.unique;
      length_0 =
          ap (map (λ (v : FieldValue). v.bytes))
          (get_all-insert_other fields name (codes "content-length") value
          (apart name (codes "content-length") parts.0))
          ∙ was.length_0;
      uncoded =
          get_all-insert_other fields name (codes "transfer-encoding") value
          (apart name (codes "transfer-encoding") parts.1)
          ∙ was.uncoded;
    }

-- a field of another name is removed
removed_bodiless : (fields : Fields) (name : List ℕ) → not (frames name) ≡ true
    → AreBodiless fields → AreBodiless (remove fields name)
removed_bodiless fields name other was =
    let parts =
    neither (bytes_eq name (codes "content-length")) (bytes_eq name (codes "transfer-encoding"))
    other in
    record {
      unique = removed_unique fields name was.unique;
      length_0 =
          ap (map (λ (v : FieldValue). v.bytes))
          (get_all-remove_other fields name (codes "content-length") was.unique
          (apart name (codes "content-length") parts.0))
          ∙ was.length_0;
      uncoded =
          get_all-remove_other fields name (codes "transfer-encoding") was.unique
          (apart name (codes "transfer-encoding") parts.1)
          ∙ was.uncoded;
    }

-- an action that may stand on a purge's answer
action_bodiless : (act : Action) (head : ResponseHead)
    → keeps_framing hook.PurgeResponseFilter act ≡ true → AreBodiless head.fields
    → AreBodiless (on_response act head).left.fields
action_bodiless (action.Set name value) head framing was =
    elim (cases_Bool (has_room head.fields name)) [
      | inl room ↦ rw room (set_bodiless head.fields name value framing was)
      | inr full ↦ rw full was
    ]
action_bodiless (action.Remove name) head framing was =
    removed_bodiless head.fields name framing was
action_bodiless (action.Status code) head framing was =
    elim (cases_Bool (informs head.status)) [
      | inl early ↦ rw early was
      | inr final ↦ elim (cases_Bool (is_status code)) [
        | inl digits ↦ rw (final, digits) was
        | inr none ↦ rw (final, none) was
      ]
    ]
action_bodiless action.Drop head framing was = was
action_bodiless (action.Text text) head framing was = was
action_bodiless (action.Answer code say) head framing was = was
action_bodiless (action.Error etype) head framing was = was
action_bodiless (action.Retry mark) head framing was = was
action_bodiless (action.Say say) head framing was = was
action_bodiless (action.Keep value) head framing was = was
action_bodiless (action.Inject up down) head framing was = was

-- ---- the rules

-- a rule that stands on a purge's answer keeps the framing there
on_purge : (on : Hook) (act : Action) → same_hook on hook.PurgeResponseFilter ≡ true
    → keeps_framing on act ≡ true → keeps_framing hook.PurgeResponseFilter act ≡ true
on_purge hook.NewCtx act same framing = absurd cc
on_purge hook.UpstreamPeer act same framing = absurd cc
on_purge hook.InitDownstreamModules act same framing = absurd cc
on_purge hook.EarlyRequestFilter act same framing = absurd cc
on_purge hook.AllowSpawningSubrequest act same framing = absurd cc
on_purge hook.RequestFilter act same framing = absurd cc
on_purge hook.RequestBodyFilter act same framing = absurd cc
on_purge hook.ProxyUpstreamFilter act same framing = absurd cc
on_purge hook.UpstreamRequestFilter act same framing = absurd cc
on_purge hook.UpstreamResponseFilter act same framing = absurd cc
on_purge hook.ResponseFilter act same framing = absurd cc
on_purge hook.CustomForwarding act same framing = absurd cc
on_purge hook.DownstreamCustomMessageProxyFilter act same framing = absurd cc
on_purge hook.UpstreamCustomMessageProxyFilter act same framing = absurd cc
on_purge hook.UpstreamResponseBodyFilter act same framing = absurd cc
on_purge hook.UpstreamResponseTrailerFilter act same framing = absurd cc
on_purge hook.ResponseBodyFilter act same framing = absurd cc
on_purge hook.ResponseTrailerFilter act same framing = absurd cc
on_purge hook.Logging act same framing = absurd cc
on_purge hook.PersistConnectionContext act same framing = absurd cc
on_purge hook.OnConnectionReuse act same framing = absurd cc
on_purge hook.SuppressErrorLog act same framing = absurd cc
on_purge hook.SuppressProxyWarnLog act same framing = absurd cc
on_purge hook.ErrorWhileProxy act same framing = absurd cc
on_purge hook.FailToConnect act same framing = absurd cc
on_purge hook.FailToProxy act same framing = absurd cc
on_purge hook.ConnectedToUpstream act same framing = absurd cc
on_purge hook.RequestSummary act same framing = absurd cc
on_purge hook.IsPurge act same framing = absurd cc
on_purge hook.PurgeAction act same framing = absurd cc
on_purge hook.PurgeResponseFilter act same framing = framing
on_purge hook.ModuleRequestHeader act same framing = absurd cc
on_purge hook.ModuleRequestBody act same framing = absurd cc
on_purge hook.ModuleResponseHeader act same framing = absurd cc
on_purge hook.ModuleResponseBody act same framing = absurd cc
on_purge hook.ModuleResponseTrailer act same framing = absurd cc
on_purge hook.ModuleResponseDone act same framing = absurd cc

-- what follows keeps what was kept so far
followed_bodiless : (left : ResponseHead) (error : Option Error)
    (next : ResponseHead → Outcome ResponseHead) → AreBodiless left.fields
    → ((head : ResponseHead) → AreBodiless head.fields → AreBodiless (next head).left.fields)
    → AreBodiless (followed left error next).left.fields
followed_bodiless left None next was keeps = keeps left was
followed_bodiless left (Some error) next was keeps = was

-- the rules on a purge's answer
rules_bodiless : (rules : List Rule) (head : ResponseHead)
    → list_all (λ rule. keeps_framing rule.hook rule.action) rules ≡ true → AreBodiless head.fields
    → AreBodiless (run_rules on_response hook.PurgeResponseFilter rules head).left.fields
rules_bodiless [] head framing was = was
rules_bodiless (rule ∷ rules) head framing was =
    let parts =
    both_true (keeps_framing rule.hook rule.action)
    (list_all (λ rule. keeps_framing rule.hook rule.action) rules) framing in
    elim (cases_Bool (same_hook rule.hook hook.PurgeResponseFilter)) [
      | inl same ↦
          rw same
          (followed_bodiless (on_response rule.action head).left
          (on_response rule.action head).error
          (run_rules on_response hook.PurgeResponseFilter rules)
          (action_bodiless rule.action head (on_purge rule.hook rule.action same parts.0) was)
          (λ next kept. rules_bodiless rules next parts.1 kept))
      | inr off ↦ rw off (rules_bodiless rules head parts.1 was)
    ]

-- lawful rules that pass leave the answer a final head without a body
pub filtered_bodiless : (rules : List Rule) (answer : PurgeStatus) (r : Result Unit Fail)
    (old new : ResponseHead) → are_lawful rules ≡ true → old ≡ purge_head answer
    → Answers r new (run_rules on_response hook.PurgeResponseFilter rules old)
    → informs new.status ≡ informs old.status → OnOk r (IsBodiless new)
filtered_bodiless rules answer (Ok done) old new lawful is answers kind =
    let began : AreBodiless old.fields =
    subst (λ (head : ResponseHead). AreBodiless head.fields) (sym is)
    (purge_head_bodiless answer) in
    let ran = rules_bodiless rules old (lawful_framing rules lawful) began in
    let left : AreBodiless new.fields =
    subst (λ (outcome : Outcome ResponseHead). AreBodiless outcome.left.fields) answers ran in
    record {
      is_final =
          kind
          ∙ ap (λ (head : ResponseHead). informs head.status) is
          ∙ (purge_head-bodiless answer).is_final;
      length_0 = left.length_0;
      uncoded = left.uncoded;
    }
filtered_bodiless rules answer (Err given) old new lawful is answers kind = tt
