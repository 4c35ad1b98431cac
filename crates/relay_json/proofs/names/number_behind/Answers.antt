-- A number is read exactly where the text is the front, its digits and a bracket.
use Rattle.std.proofs.Common.{◌∙◌, ◌++◌, List, ℕ, None, Some, codes, ap, sym, drop, length, append_assoc}
use Rattle.std.specs.Prelude.{decimal}
use Rattle.std.proofs.Math.Seq.{drop-append_seam}
use Rattle.std.proofs.lemmas.Bool.Decides.{Decides-eqb}
use Rattle.std.proofs.lemmas.Slice.Eq.{strip_prefix_is, strip_suffix_is}
use Rattle.relay_json.proofs.NameLemmas.{number_none, parsed}
use Rattle.relay_json.proofs.names.number_behind.Goals as goal

pub returns-in_err-strip_prefix : goal.returns-in_err-strip_prefix
returns-in_err-strip_prefix c =
    let text = c.args.text.now in
    let front = c.args.front.now in
    c.from_residual.ensures
    ∙ sym (number_none front text (λ n _ is.
    strip_prefix_is Decides-eqb text front None c.in_err-strip_prefix.ensures.cases
    (decimal n ++ codes ")") (is ∙ append_assoc front (decimal n) (codes ")"))))

pub returns-in_err-number : goal.returns-in_err-number
returns-in_err-number c =
    let text = c.args.text.now in
    let front = c.args.front.now in
    let rest = c.in_ok-strip_prefix.field-0 in
    c.from_residual-in_err-number.ensures
    ∙ sym (number_none front text (λ n _ is.
    strip_suffix_is Decides-eqb rest.now (codes ")") None c.in_err-number.ensures.cases
    (decimal n)
    (c.in_ok-strip_prefix.ensures.cases.1
    ∙ ap (λ (t : List ℕ). drop (length front) t)
    (is ∙ append_assoc front (decimal n) (codes ")"))
    ∙ drop-append_seam front (decimal n ++ codes ")"))))

pub returns : goal.returns
returns c =
    let text = c.args.text.now in
    let front = c.args.front.now in
    let rest = c.in_ok-strip_prefix.field-0 in
    let number = c.in_ok-number.number in
    parsed front text rest.now number.now c.parse_number.result
    (strip_prefix_is Decides-eqb text front (Some rest) c.in_ok-strip_prefix.ensures.cases)
    (strip_suffix_is Decides-eqb rest.now (codes ")") (Some number) c.in_ok-number.ensures.cases)
    c.parse_number.ensures
