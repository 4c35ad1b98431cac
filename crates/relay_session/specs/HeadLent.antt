-- The head of a request, lent to be changed: what its reading ends as.
use Rattle.std.specs.Borrow.{Lends, Fml, MutBor}
use Rattle.relay_tasks.specs.Head.{RequestHead}
use Rattle.relay_tasks.specs.contracts.request.RequestHeader.{the_row as head_row}
use Rattle.relay_session.specs.contracts.reading.Reading.{the_row}
use Rattle.relay_session.specs.declared.reading.Reading.{Reading}
use Rattle.relay_session.specs.contracts.session.HttpSession.{the_row as session_row}
use Rattle.relay_session.specs.declared.session.HttpSession.{HttpSession}
use Rattle.relay_session.specs.Reading.{with_head}

-- the reading ends with the head that was last written
abbrev pub LendsHead : MutBor Reading → MutBor RequestHead → Fml
LendsHead s r = Lends the_row head_row s r (with_head s.now)

-- the session ends with the head that was last written
abbrev pub LendsSessionHead : MutBor HttpSession → MutBor RequestHead → Fml
LendsSessionHead s r =
    Lends session_row head_row s r (λ head. record s.now { reading = with_head s.now.reading head })
