-- A word that spells a number is the decimal text of the number.
use Rattle.std.proofs.Common.{rules, ◌≡◌, ℕ, List, sym, subst, ap, ◌∙◌, arith, Result, Ok, true≢false}
use Rattle.std.specs.Prelude.{decimal, is_ok}
use Rattle.std.specs.Str.{IsUtf8}
use Rattle.std.specs.Str.Parse.{ParsesUnsigned}
use Rattle.std.proofs.lemmas.Str.{IsUtf8-from_ascii}
use Rattle.std.proofs.lemmas.Fmt.{IsAscii-decimal, parse-decimal}
use Rattle.relay_json.specs.Number.{SpellsNumber}
use Rattle.relay_json.proofs.number.parse_number.Goals as goal

-- the number that is read is the number that the word spells
reads : {E : Type 0} {word text : List ℕ} {number : ℕ} (r : Result ℕ E) → text ≡ word
    → ParsesUnsigned 16 10 text r → SpellsNumber word number → r ≡ Ok number
reads {number = number} r same parses spells =
    parse-decimal 16 number _ r spells.fits (omega (arith, spells.fits)) (same ∙ spells.spelled)
    parses

pub returns-in_default : goal.returns-in_default
returns-in_default c = λ number spells. c.in_default.ensures.cases.0
    (subst IsUtf8 (sym spells.spelled)
    (IsUtf8-from_ascii (decimal number) (IsAscii-decimal number (omega (arith, spells.fits)))))

pub returns-in_default-parse : goal.returns-in_default-parse
returns-in_default-parse c = λ number spells.
    let found = reads c.parse.result c.in-Ok.ensures.cases.0 c.parse.ensures.value.0 spells in
    true≢false (sym (ap is_ok (sym c.in_default-parse.is ∙ found)))

pub returns-then-ne : goal.returns-then-ne
returns-then-ne c = λ number spells.
    let found = reads c.parse.result c.in-Ok.ensures.cases.0 c.parse.ensures.value.0 spells in
    search (rules, found, spells)
