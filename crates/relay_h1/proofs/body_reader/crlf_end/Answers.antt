-- The first CR LF stands at the place that the search has come to, or behind it.
use Rattle.std.proofs.Common.{◌<◌, ◌+◌, length, length-drop, drop, sym, ◌∙◌, ap, arith, Some}
use Rattle.relay_h1.specs.Body.{crlf_end}
use Rattle.relay_h1.specs.HeadEnd.{shifted}
use Rattle.relay_h1.proofs.CrlfLemmas.{crlf_end-here, crlf_end-short, crlf_end-skip}
use Rattle.relay_h1.proofs.HeadEndLemmas.{shifted-suc}
use Rattle.relay_h1.proofs.body_reader.crlf_end.Goals as goal

pub loop-at-preserved : goal.loop-at-preserved
loop-at-preserved c =
    let at = c.loop-at.at in
    let bytes = c.args.bytes.now in
    let skip = crlf_end-skip bytes at (omega arith) (sym c.if-has_crlf_at.ensures) in
    record {
      within = omega arith;
      behind = c.loop-at.invariant.behind ∙ ap (shifted at) skip
          ∙ sym (shifted-suc at (crlf_end (drop (at + 1) bytes)));
    }

pub returns : goal.returns
returns c =
    let at = c.loop-at.at in
    let bytes = c.args.bytes.now in
    let few : length (drop at bytes) < 2 = omega (arith, length-drop at bytes) in
    sym (c.loop-at.invariant.behind ∙ ap (shifted at) (crlf_end-short (drop at bytes) few))

pub returns-then-has_crlf_at : goal.returns-then-has_crlf_at
returns-then-has_crlf_at c =
    let at = c.loop-at.at in
    let here = crlf_end-here (drop at c.args.bytes.now) (sym c.if-has_crlf_at.ensures) in
    ap Some (omega arith) ∙ sym (c.loop-at.invariant.behind ∙ ap (shifted at) here)
