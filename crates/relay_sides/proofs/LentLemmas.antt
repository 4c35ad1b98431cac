-- What passed through a client's side, and what the side shows, is the same over a session whose
-- head hooks changed.
use Rattle.std.proofs.Common.{◌≡◌, ℕ, Bool, List, Option, IsSome, refl, sym, ap, subst, ◌∙◌}
use Rattle.relay_tasks.specs.Head.{RequestHead}
use Rattle.relay_tasks.specs.declared.fault.Fault.{Fault}
use Rattle.relay_links.specs.Link.{LinkState}
use Rattle.relay_session.specs.Reading.{RequestSoFar, head_of, is_body_done, with_head}
use Rattle.relay_session.specs.declared.reading.Reading.{Reading}
use Rattle.relay_session.specs.declared.reading.Reading.TheVariants as reading
use Rattle.relay_session.specs.declared.session.HttpSession.{HttpSession}
use Rattle.relay_session.specs.declared.writing.Writing.{Writing}
use Rattle.relay_core.specs.Past.{DownPast, Origin}
use Rattle.relay_core.specs.declared.told.Told.{Told}
use Rattle.relay_sides.specs.Client.{HasPassed, IsClient, IsSide, state_of}
use Rattle.relay_sides.specs.Lent.{SameButHead}

-- ---- a reading with another head

-- how far a request has come does not depend on its head
so_far_with : (given body ahead : List ℕ) (r : Reading) (head : RequestHead)
    → RequestSoFar given body ahead r → RequestSoFar given body ahead (with_head r head)
so_far_with given body ahead reading.Head head so_far = so_far
so_far_with given body ahead (reading.Body request) head so_far = record {
  head = so_far.head;
  len = so_far.len;
  has = so_far.has;
  so_far = so_far.so_far;
  counted = so_far.counted;
  kept = so_far.kept;
}

-- nor does whether its body has ended
done_with : (r : Reading) (head : RequestHead) → is_body_done (with_head r head) ≡ is_body_done r
done_with reading.Head head = refl
done_with (reading.Body request) head = refl

-- a head that was read stands in it
head_with : (r : Reading) (head : RequestHead) → IsSome (head_of r)
    → IsSome (head_of (with_head r head))
head_with reading.Head head some = some
head_with (reading.Body request) head some = refl

-- a reading that is another but for its head is that with its own head
record WithHead (old new : Reading) : Type 0 where
  pub head : RequestHead
  pub is : new ≡ with_head old head

own_head : (old new : Reading)
    → ((head : RequestHead) → with_head new head ≡ with_head old head) → IsSome (head_of new)
    → WithHead old new
own_head old reading.Head same some = cc
own_head old (reading.Body request) same some =
    record { head = request.head; is = same request.head }

-- ---- the side over it

module _ (s : Origin) (p : DownPast) (link : LinkState) (ahead : List ℕ) (told : Told)
    (done finished : Bool) (kept : Option Fault) where
  client_with : (session : HttpSession) (head : RequestHead) → IsClient s p link ahead session
      → IsClient s p link ahead
      (record session { reading = with_head session.reading head })
  client_with session head c =
      let done_is = done_with session.reading head in
      record {
        came = c.came;
        written = c.written;
        faults = c.faults;
        head = c.head;
        framing = c.framing;
        len = c.len;
        has = c.has;
        has_head = head_with session.reading head c.has_head;
        own = c.own;
        answers = c.answers;
        body = c.body;
        request = so_far_with _ _ _ session.reading head c.request;
        joined = c.joined;
        some = c.some;
        ended = λ end. done_is ∙ c.ended end;
        whole = λ has_done. c.whole (sym done_is ∙ has_done);
        headed = λ end. done_is ∙ c.headed end;
        told_whole = λ has_done. c.told_whole (sym done_is ∙ has_done);
        response = c.response;
        broken = c.broken;
        tells = c.tells;
      }

  side_with : (session : HttpSession) (head : RequestHead)
      → IsSide s p link ahead session told done finished kept
      → IsSide s p link ahead (record session { reading = with_head session.reading head }) told
      done finished kept
  side_with session head side = record {
    passed = record {
      client = client_with session head side.passed.client;
      over = side.passed.over;
      plain = side.passed.plain;
      plain_end = side.passed.plain_end;
      place_over = side.passed.place_over;
      said = side.passed.said;
      unasked = side.passed.unasked;
      asked = side.passed.asked;
      closed = side.passed.closed;
      unbroken = side.passed.unbroken;
      fault = side.passed.fault;
    };
    tasks = side.tasks;
  }

-- the session that hooks left, of the one that they were lent
lent_is : (old new : HttpSession) → (same : SameButHead old new) → (own : WithHead old.reading
    new.reading)
    → new ≡ record old { reading = with_head old.reading own.head }
lent_is old new same own =
    ap (λ (r : Reading). record new { reading = r }) own.is
    ∙ ap (λ (w : Writing). record new { reading = with_head old.reading own.head; writing = w })
    same.writing

-- what passed stands over a session that hooks were lent
pub IsSide-lent : (s : Origin) (p : DownPast) (link : LinkState) (ahead : List ℕ)
    (old new : HttpSession) (told : Told) (done finished : Bool) (kept : Option Fault)
    → SameButHead old new → IsSide s p link ahead old told done finished kept
    → IsSide s p link ahead new told done finished kept
IsSide-lent s p link ahead old new told done finished kept same side =
    let own = own_head old.reading new.reading same.but_head
    (same.head side.passed.client.has_head) in
    subst (λ (c : HttpSession). IsSide s p link ahead c told done finished kept)
    (sym (lent_is old new same own))
    (side_with s p link ahead told done finished kept old own.head side)

-- the body of a session that hooks were lent has ended if it had before
pub lent_done : (old new : HttpSession) → IsSome (head_of old.reading) → SameButHead old new
    → is_body_done new.reading ≡ is_body_done old.reading
lent_done old new some same =
    let own = own_head old.reading new.reading same.but_head (same.head some) in
    ap is_body_done own.is ∙ done_with old.reading own.head

-- the side shows the same of it
pub state_lent : (old new : HttpSession) (told : Told) (done finished : Bool)
    (kept : Option Fault) → IsSome (head_of old.reading) → SameButHead old new
    → state_of new told done finished kept ≡ state_of old told done finished kept
state_lent old new told done finished kept some same =
    let own = own_head old.reading new.reading same.but_head (same.head some) in
    ap (λ (c : HttpSession). state_of c told done finished kept) (lent_is old new same own)
    ∙ ap (λ (b : Bool). record (state_of old told done finished kept) {
      request_ended = b;
      body_done = b;
    }) (done_with old.reading own.head)

-- a session is itself
pub lent_same : (c : HttpSession) → SameButHead c c
lent_same c = record { head = λ some. some; but_head = λ head. refl; writing = refl }

-- and one that was lent twice was lent
pub lent_twice : (old mid new : HttpSession) → SameButHead old mid → SameButHead mid new
    → SameButHead old new
lent_twice old mid new first next = record {
  head = λ some. next.head (first.head some);
  but_head = λ head. next.but_head head ∙ first.but_head head;
  writing = next.writing ∙ first.writing;
}
