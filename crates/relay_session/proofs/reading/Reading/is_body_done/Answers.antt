-- A reader that has ended has taken the whole body.
use Rattle.std.proofs.Common.{sym, ◌∙◌}
use Rattle.relay_session.proofs.ReadingLemmas.{body_whole}
use Rattle.relay_session.proofs.reading.Reading.is_body_done.Goals as goal

pub returns-in-Body-clause-told : goal.returns-in-Body-clause-told
returns-in-Body-clause-told c = λ given body ahead begins done.
    body_whole given body ahead c.in-Body.request (rw c.in-Body.is at begins)
    (sym c.is_done.ensures.place ∙ done)
