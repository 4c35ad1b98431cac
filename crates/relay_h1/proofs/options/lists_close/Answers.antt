-- The search goes over the members that stand between the commas.
use Rattle.std.proofs.Common.{rules, tests}
use Rattle.std.proofs.lemmas.Iterator.Search.{any_from_yields_List}
use Rattle.std.proofs.lemmas.Iterator.Splits.{YieldsList-from_slice_split}
use Rattle.relay_h1.specs.Options.{says_close}
use Rattle.relay_h1.proofs.options.lists_close.Goals as goal

pub returns : goal.returns
returns c =
    any_from_yields_List says_close _ _ _ c.any.ensures.ran
    (YieldsList-from_slice_split _ _ c.args.value.now c.split.ensures.rest c.split.ensures.done
    c.split.ensures.closure (λ x b q k. search (rules, tests)))
    (λ x b q k. search (rules, tests))
