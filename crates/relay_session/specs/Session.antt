-- What a session keeps of the request that its response answers (RFC 9112, section 9.2).
use Rattle.std.specs.Prelude.{◌≡◌, ℕ, Bool, ◌&&◌, List, Option, Some, None}
use Rattle.relay_tasks.specs.Head.{RequestHead}
use Rattle.relay_h1.specs.declared.framing.Framing.{Framing}
use Rattle.relay_h1.specs.Verdict.{HasRequest}
use Rattle.relay_session.specs.Asked.{request_of, unread, lets_ask}
use Rattle.relay_session.specs.Reading.{is_body_done, is_kept}
use Rattle.relay_session.specs.Response.{is_unqueued}
use Rattle.relay_session.specs.declared.reading.Reading.{Reading}
use Rattle.relay_session.specs.declared.reading.Reading.TheVariants as reading
use Rattle.relay_session.specs.declared.session.HttpSession.{HttpSession}
use Rattle.relay_session.specs.declared.task_text.Request.{Request}
use Rattle.relay_session.specs.declared.writing.Writing.{Writing}

-- the bytes given begin with the head of that request
pub record BeginsAs (given : List ℕ) (request : Request) : Type 0 where
  pub head : RequestHead
  pub framing : Framing
  pub len : ℕ
  pub has : HasRequest given head framing len
  pub is : request ≡ request_of head

-- once a head was read the response answers its request, as it came; until then it answers one
-- whose head has not come
abbrev pub AnswersRead : List ℕ → Reading → Writing → Type 0
AnswersRead given reading.Head response = response.request ≡ unread
AnswersRead given (reading.Body begun) response = BeginsAs given response.request

-- from that head on the response answers its request, and all else of it stays; with no head it
-- stays as it was
abbrev pub AnswersTo : Option RequestHead → Writing → Writing → Type 0
AnswersTo None old new = new ≡ old
AnswersTo (Some head) old new = new ≡ record old { request = request_of head }

-- the request lets its client ask for more: its body is done, and so says its head, as it came
abbrev pub lets_ask_again : HttpSession → Bool
lets_ask_again session = is_body_done session.reading && lets_ask session.writing.request

-- another attempt may begin with the session: what was given out of the body is kept, and of the
-- response no more than informational heads was written
abbrev pub may_begin_again : HttpSession → Bool
may_begin_again session = is_kept session.reading && is_unqueued session.writing
