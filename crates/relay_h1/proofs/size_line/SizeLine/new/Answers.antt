use Rattle.std.proofs.Common.{◌<◌, length, arith, refl, ◌∙◌}
use Rattle.std.proofs.lemmas.List.{length-set}
use Rattle.relay_h1.proofs.SizeLemmas.{has_digit_before, fits_before, written_more, written_first, onto_line}
use Rattle.relay_h1.proofs.size_line.SizeLine.new.Goals as goal

pub loop-left-init : goal.loop-left-init
loop-left-init c = record {
  within = omega arith;
  sized = refl;
  fits = omega arith;
  so_far = onto_line c.args.size;
}

pub loop-left-preserved : goal.loop-left-preserved
loop-left-preserved c =
    let l = c.loop-left in
    let some = has_digit_before l.left l.start l.invariant.fits c.loop-left-test.true in
    let inside : l.start < length l.bytes = omega arith in
    record {
      within = omega arith;
      sized = length-set l.bytes l.start c.digit.result ∙ l.invariant.sized;
      fits = fits_before l.left l.start l.invariant.fits some;
      so_far =
          written_more l.bytes l.start l.left c.digit.result _ inside some c.loop-left-test.true
          c.digit.ensures l.invariant.so_far;
    }

pub returns : goal.returns
returns c =
    let l = c.loop-left in
    let inside : l.start < length l.bytes = omega arith in
    written_first l.bytes l.start l.left c.digit-2.result _ inside c.loop-left-test.false
    c.digit-2.ensures l.invariant.so_far
