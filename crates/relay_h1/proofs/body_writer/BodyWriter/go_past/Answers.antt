use Rattle.std.proofs.Common.{◌≡◌, ◌<◌, ◌^◌, length, arith, ap, ◌∙◌}
use Rattle.relay_h1.specs.declared.framing.Framing.{Framing}
use Rattle.relay_h1.specs.BodyWire.{after_piece}
use Rattle.relay_h1.proofs.BodyWireLemmas.{reads_back_open, HasWritten-push}
use Rattle.relay_h1.proofs.body_writer.BodyWriter.go_past.Goals as goal

pub returns-clause-so_far : goal.returns-clause-so_far
returns-clause-so_far c = λ given pieces text w.
    let fits : length c.args.piece.now < 2 ^ 64 = omega arith in
    let is : c.after_piece-self-inside.result ≡ after_piece c.args.self.now c.args.piece.now =
    c.after_piece-self-inside.ensures
    ∙ ap (λ (r : Framing). after_piece r c.args.piece.now) c.self.view_is in
    rw is (HasWritten-push given pieces text c.args.self.now c.args.piece.now w fits)

pub returns-clause-reads_back : goal.returns-clause-reads_back
returns-clause-reads_back c = λ given pieces text w. reads_back_open given pieces text _ w
