use Rattle.std.proofs.Common.{◌≡◌, ◌∙◌, sym, ap}
use Rattle.std.specs.Prelude.{Some, option_copied}
use Rattle.relay_authority.proofs.reconcile.moved_uri.Goals as goal

-- it is the head's URI that was moved
pub returns-clause-ok : goal.returns-clause-ok
returns-clause-ok c =
    let same : c.args.head.now.uri ≡ Some c.unwrap-uri.result.now = sym c.uri.ensures
    ∙ ap option_copied c.unwrap-uri.ensures in
    (c.unwrap-uri.result.now, same, c.in_ok-with_authority.ensures.parts)
