-- No mark begins before the place that the search has come to.
use Rattle.std.proofs.Common.{◌<◌, length, length-drop, drop, sym, ◌∙◌, ap, arith, Some}
use Rattle.relay_h1.specs.HeadEnd.{shifted}
use Rattle.relay_h1.proofs.HeadEndLemmas.{head_end-from, head_end-here, head_end-short, no_mark_by_stride}
use Rattle.relay_h1.proofs.head.find_from.Goals as goal

pub loop-at-preserved : goal.loop-at-preserved
loop-at-preserved c = record {
  within = omega (arith, c.stride-at.ensures.within.1);
  none_before =
      no_mark_by_stride c.args.bytes.now c.loop-at.at c.stride-at.result
      c.loop-at.invariant.none_before (sym c.if-has_mark_at.ensures)
      c.stride-at.ensures.within.1 c.stride-at.ensures.passes;
}

pub returns-then-has_mark_at : goal.returns-then-has_mark_at
returns-then-has_mark_at c =
    let at = c.loop-at.at in
    let from =
    head_end-from at c.args.bytes.now c.loop-at.invariant.within
    c.loop-at.invariant.none_before in
    let here = head_end-here (drop at c.args.bytes.now) (sym c.if-has_mark_at.ensures) in
    ap Some (omega arith) ∙ sym (from ∙ ap (shifted at) here)

pub returns : goal.returns
returns c =
    let at = c.loop-at.at in
    let from =
    head_end-from at c.args.bytes.now c.loop-at.invariant.within
    c.loop-at.invariant.none_before in
    let few : length (drop at c.args.bytes.now) < 4 =
    omega (arith, length-drop at c.args.bytes.now) in
    sym (from ∙ ap (shifted at) (head_end-short (drop at c.args.bytes.now) few))
