-- What a scripted application does where no rule stands for a hook.
use Rattle.std.specs.Prelude.{◌≡◌, Bool, true, not, List}
use Rattle.std.specs.List.{list_all}
use Rattle.relay_tasks.specs.declared.hook.Hook.{Hook}
use Rattle.relay_tasks.specs.declared.hook.Hook.TheVariants as hook
use Rattle.relay_tasks.specs.declared.log.LogEntry.{LogEntry}
use Rattle.relay_tasks.specs.declared.peer.Peer.{Peer}
use Rattle.relay_hooks.specs.DefaultLaw.{IsDefault}
use Rattle.relay_hooks.specs.Standing.{Standing}
use Rattle.relay_tasks.specs.Hooks.{same_hook}
use Rattle.relay_script.specs.declared.rule.Rule.{Rule}
use Rattle.relay_scripted.specs.Scripted.{IsScripted}

-- no rule stands for the hook
abbrev pub is_free : Hook → List Rule → Bool
is_free on rules = list_all (λ rule. not (same_hook rule.hook on)) rules

-- where no rule stands for a hook, nor one for the making of modules, the entry of its call is that
-- of the default hook, but for the mark
abbrev pub DoesDefault : List Rule → Peer → Type 0
DoesDefault rules peer =
    (st : Standing) (e : LogEntry) → is_free e.hook rules ≡ true
    → is_free hook.InitDownstreamModules rules ≡ true → IsScripted rules peer st e
    → IsDefault peer st (record e { mark_after = st.mark })
