use Rattle.std.proofs.Common.{◌≡◌, false, refl, sym, ap, ◌∙◌}
use Rattle.relay_h1.specs.BodyWire.{is_short}
use Rattle.relay_h1.proofs.BodyWireLemmas.{reads_back_whole}
use Rattle.relay_h1.proofs.body_writer.BodyWriter.finish.Goals as goal

pub returns-clause-whole : goal.returns-clause-whole
returns-clause-whole c = λ given pieces text w. rw (w.is_text, w.is_rest) refl

pub returns-clause-reads_back : goal.returns-clause-reads_back
returns-clause-reads_back c = λ given pieces text w.
    let whole : is_short c.args.self.now ≡ false =
    ap is_short (sym c.self.view_is) ∙ sym c.is_short.ensures ∙ c.if-is_short.false in
    reads_back_whole given pieces text c.args.self.now w whole
