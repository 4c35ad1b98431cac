-- A piece that passed its filters is one more.
use Rattle.relay_filters.proofs.PieceLemmas.{pieces_longer}
use Rattle.relay_filters.proofs.request.filter_piece.Goals as goal

pub returns-in-Ok-clause-called : goal.returns-in-Ok-clause-called
returns-in-Ok-clause-called g c =
    let came = c.in-Ok.ensures in
    pieces_longer _ c.args.session.now.seen.log c.call_filters.new.session.seen.log came.es
    came.call came.adds.log came.chain
