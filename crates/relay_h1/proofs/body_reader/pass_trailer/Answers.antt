-- The trailer section, once it has ended.
use Rattle.std.proofs.Common.{List, ℕ, length, ap, arith, sym, refl}
use Rattle.relay_h1.specs.Body as body
use Rattle.relay_h1.specs.Body.{trailer_end, IsTrailerOpen, EndsTrailer}
use Rattle.relay_h1.specs.declared.body_reader.BodyFront.TheVariants as front
use Rattle.relay_h1.specs.declared.body_reader.State.TheVariants as state
use Rattle.relay_h1.proofs.BodyReaderLemmas.{stays, goes_on, GoesOver-trailer}
use Rattle.relay_h1.proofs.CrlfLemmas.{trailer_end-within}
use Rattle.relay_h1.proofs.body_reader.pass_trailer.Goals as goal

pub consume-requires : goal.consume-requires
consume-requires c =
    rw c.trailer_end.ensures.same
    (trailer_end-within c.args.ahead.now c.in-Some.len (sym c.in-Some.ensures.place)).1

pub returns-in-Some : goal.returns-in-Some
returns-in-Some c =
    let ahead = c.args.ahead.now in
    let long =
    body.IsTrailerTooLong.ends_late c.in-Some.len (sym c.in-Some.ensures.place) c.if-len.true in
    rw (c.stay.ensures, c.trailer_end.ensures.same)
    (stays state.Trailer ahead front.Broken (body.Chunked.trailer_broken ahead long))

pub returns-in-Some-2 : goal.returns-in-Some-2
returns-in-Some-2 c =
    let ahead = c.args.ahead.now in
    let ends : EndsTrailer ahead c.in-Some.len =
    record { ends = sym c.in-Some.ensures.place; short = c.if-len.false } in
    rw (c.stay-in-Some-2.ensures, c.consume.ensures, c.trailer_end.ensures.same)
    (goes_on state.Trailer state.Done ahead _ c.in-Some.len _
    (GoesOver-trailer ahead c.in-Some.len ends)
    (stays state.Done _ front.End refl))

pub returns-in-None : goal.returns-in-None
returns-in-None c =
    let ahead = c.args.ahead.now in
    let size = ap (λ (x : List ℕ). length x) c.trailer_end.ensures.same in
    let still : IsTrailerOpen ahead =
    record { no_end = sym c.in-None.ensures.place; may_end = omega arith } in
    rw (c.stay-in-None.ensures, c.trailer_end.ensures.same)
    (stays state.Trailer ahead front.More (body.Chunked.trailer_open ahead still))

pub returns-in-None-2 : goal.returns-in-None-2
returns-in-None-2 c =
    let ahead = c.args.ahead.now in
    let size = ap (λ (x : List ℕ). length x) c.trailer_end.ensures.same in
    let long =
    body.IsTrailerTooLong.never_ends (sym c.in-None.ensures.place) (omega arith) in
    rw (c.stay-in-None-2.ensures, c.trailer_end.ensures.same)
    (stays state.Trailer ahead front.Broken (body.Chunked.trailer_broken ahead long))
