-- The line that ends first, within the limit, is the line at the front.
use Rattle.std.proofs.Common.{◌∙◌, sym, ap, arith}
use Rattle.relay_h1.specs.Body.{crlf_end}
use Rattle.relay_h1.specs.Body as body
use Rattle.relay_h1.proofs.body_reader.find_line.Goals as goal

pub returns-in-Some-line_size : goal.returns-in-Some-line_size
returns-in-Some-line_size c = record {
  ends = ap crlf_end (sym c.front.ensures) ∙ sym c.in-Some.ensures;
  is_line = rw c.front-in-Some.ensures at c.in-Some-line_size.ensures.size;
}

pub returns-in-None-line_size : goal.returns-in-None-line_size
returns-in-None-line_size c =
    body.IsLineBroken.no_line c.in-Some.len
    (ap crlf_end (sym c.front.ensures) ∙ sym c.in-Some.ensures)
    (rw c.front-in-Some.ensures at c.in-None-line_size.ensures.none)

pub returns-in-None : goal.returns-in-None
returns-in-None c = record {
  no_end = ap crlf_end (sym c.front.ensures) ∙ sym c.in-None.ensures;
  may_end = omega arith;
}

pub returns-in-None-2 : goal.returns-in-None-2
returns-in-None-2 c =
    body.IsLineBroken.too_long (ap crlf_end (sym c.front.ensures) ∙ sym c.in-None.ensures)
    (omega arith)
