-- Which lists of rules a script may have, and what is wrong with the others.
use Rattle.std.specs.Prelude.{ℕ, ◌+◌, Bool, true, false, not, ◌==◌, ◌&&◌, ◌||◌, nat_le, nat_lt, if◌then◌else◌, List, [], ◌∷◌, bytes_eq, codes, count_by, Option, Some, None, Result, Ok, Err, is_ok}
use Rattle.std.specs.List.{list_any}
use Rattle.relay_tasks.specs.declared.hook.Hook.{Hook}
use Rattle.relay_tasks.specs.declared.hook.Hook.TheVariants as hook
use Rattle.relay_tasks.specs.Hooks.{same_hook}
use Rattle.relay_script.specs.Table.{may_stand}
use Rattle.relay_script.specs.declared.check.RuleError.{RuleError}
use Rattle.relay_script.specs.declared.check.RuleFault.{RuleFault}
use Rattle.relay_script.specs.declared.check.RuleFault.TheVariants as fault
use Rattle.relay_script.specs.declared.rule.Action.{Action}
use Rattle.relay_script.specs.declared.rule.Action.TheVariants as action
use Rattle.relay_script.specs.declared.rule.Rule.{Rule}

-- a status of a final answer
abbrev pub is_final_code : ℕ → Bool
is_final_code code = nat_le 200 code && nat_lt code 1000

-- the codes are those of final heads: 101 only as a status
abbrev pub has_code : Action → Bool
has_code (action.Status code) = (code == 101) || is_final_code code
has_code (action.Answer code say) = is_final_code code
has_code _ = true

-- an answer ends the request: the request's filter says yes with it, the upstream's says no
abbrev pub says_end : Hook → Action → Bool
says_end hook.RequestFilter (action.Answer code say) = say
says_end hook.ProxyUpstreamFilter (action.Answer code say) = not say
says_end _ _ = true

-- the name of a field that frames a body (RFC 9112, section 6)
abbrev pub frames : List ℕ → Bool
frames name = bytes_eq name (codes "content-length") || bytes_eq name (codes "transfer-encoding")

-- the answer to a purge keeps its empty body
abbrev pub keeps_framing : Hook → Action → Bool
keeps_framing hook.PurgeResponseFilter (action.Set name value) = not (frames name)
keeps_framing hook.PurgeResponseFilter (action.Remove name) = not (frames name)
keeps_framing _ _ = true

-- the rule answers the client
abbrev pub answers : Action → Bool
answers (action.Answer code say) = true
answers _ = false

-- a rule on this hook answers the client
abbrev pub has_answer : Hook → List Rule → Bool
has_answer hook rules = list_any (λ rule. same_hook rule.hook hook && answers rule.action) rules

-- how many rules stand on the hook
abbrev pub count_on : Hook → List Rule → ℕ
count_on hook rules = count_by (λ rule. same_hook rule.hook hook) rules

-- an answer stands beside another rule of its hook
abbrev pub is_crowded : Hook → List Rule → Bool
is_crowded hook rules = has_answer hook rules && nat_lt 1 (count_on hook rules)

-- the first condition that the rule breaks among these rules
abbrev pub fault_of : List Rule → Rule → Option RuleFault
fault_of all rule =
    if not (may_stand rule.hook rule.action) then Some fault.Misplaced else
    if not (has_code rule.action) then Some fault.Code else
    if not (says_end rule.hook rule.action) then Some fault.Say else
    if not (keeps_framing rule.hook rule.action) then Some fault.Framing else
    if is_crowded rule.hook all then Some fault.Crowded else None

-- that condition, with the rule's place
abbrev pub found : ℕ → Option RuleFault → Result Unit RuleError → Result Unit RuleError
found at None rest = rest
found at (Some fault) rest = Err (record { at = at; fault = fault })

-- the first rule that breaks a condition, counted from `at`
abbrev pub verdict_from : List Rule → ℕ → List Rule → Result Unit RuleError
verdict_from all at [] = Ok tt
verdict_from all at (rule ∷ rules) = found at (fault_of all rule) (verdict_from all (at + 1) rules)

-- the verdict on a list of rules
abbrev pub verdict_of : List Rule → Result Unit RuleError
verdict_of rules = verdict_from rules 0 rules

-- no rule breaks a condition
abbrev pub are_lawful : List Rule → Bool
are_lawful rules = is_ok (verdict_of rules)
