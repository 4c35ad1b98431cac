-- The calls of an exchange stand in the log of its request, also once its error was treated.
--
--   stands_more   behind that call
--   ends_with     a log ends with its last call
use Rattle.std.proofs.Common.{◌≡◌, true, List, [], ◌∷◌, ◌++◌, ap, ◌∙◌, append_assoc}
use Rattle.relay_tasks.specs.declared.hook.Hook.{Hook}
use Rattle.relay_tasks.specs.declared.hook.Hook.TheVariants as hook
use Rattle.relay_tasks.specs.declared.log.LogEntry.{LogEntry}
use Rattle.relay_request.specs.Passed.{StandsIn}
use Rattle.relay_request.specs.Sent.{ends_at, is_of}
use Rattle.relay_request.proofs.TreatLemmas.{only_more}

-- behind the call in which its error was treated they stand where they stood
pub stands_more : (these those : List LogEntry) (e : LogEntry) (began calls : List LogEntry)
    → those ≡ these ++ e ∷ [] → e.hook ≡ hook.ErrorWhileProxy → StandsIn these began calls
    → StandsIn those began calls
stands_more these those e began calls more is stands = record {
  at_sent = stands.at_sent;
  after = stands.after ++ e ∷ [];
  called_are =
      more ∙ ap (λ (l : List LogEntry). l ++ e ∷ []) stands.called_are
      ∙ append_assoc began (calls ++ stands.after) (e ∷ [])
      ∙ ap (λ (l : List LogEntry). began ++ l) (append_assoc calls stands.after (e ∷ []));
  treats = only_more these those e more is stands.after stands.treats;
}

-- a log ends with its last call
pub ends_with : (which : Hook) (log : List LogEntry) (e : LogEntry) → is_of which e ≡ true
    → ends_at which (log ++ e ∷ []) ≡ true
ends_with which [] e is = is
ends_with which (x ∷ []) e is = is
ends_with which (x ∷ y ∷ es) e is = ends_with which (y ∷ es) e is
