-- The blanks around the member are those that the text loses.
use Rattle.std.proofs.Common.{◌∙◌, List, ℕ, refl, ap}
use Rattle.std.proofs.lemmas.Str.Ascii.{trim_ascii_is}
use Rattle.relay_h1.specs.Options.{without_front, is_close}
use Rattle.relay_h1.proofs.options.says_close.Goals as goal

pub returns : goal.returns
returns c =
    c.is_close.ensures
    ∙ ap (λ (xs : List ℕ). is_close xs)
    (trim_ascii_is c.args.member.now c.trim_ascii.result.now (without_front c.args.member.now) refl
    c.trim_ascii.ensures.value)
