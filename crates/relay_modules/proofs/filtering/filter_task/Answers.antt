use Rattle.std.proofs.Common.{sym, ◌∙◌}
use Rattle.relay_modules.specs.Filtering.{by_check}
use Rattle.relay_modules.proofs.filtering.filter_task.Goals as goal

pub returns-in-Some-clause-filters : goal.returns-in-Some-clause-filters
returns-in-Some-clause-filters g c =
    by_check c.in_ok-made.made c.in_ok-made.ensures.makes (sym c.refusal_of.ensures ∙ c.in-Some.is)
