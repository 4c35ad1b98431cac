use Rattle.std.proofs.Common.{subst}
use Rattle.http_uri.specs.Grammar.{path_and_query_text}
use Rattle.relay_tasks.specs.Head.{IsSendable}
use Rattle.relay_tasks.proofs.Visible.{sendable, chosen}
use Rattle.relay_tasks.proofs.target.kept_path.Goals as goal

-- the URI shows a path and query, so what it is sent as is visible
pub returns-in-Some-clause-valid : goal.returns-in-Some-clause-valid
returns-in-Some-clause-valid c =
    subst (λ text. IsSendable (path_and_query_text text)) (chosen _ _ _ c.in-Some.ensures) (sendable _ c.as_str.ensures.valid)
