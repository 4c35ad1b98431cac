-- What the reader of the body answers, as a step of the response.
use Rattle.std.proofs.Common.{refl, sym, ap, ◌∙◌, ◌+◌, ◌++◌, drop, subst, Bool}
use Rattle.relay_tasks.specs.declared.context.Context.TheVariants.{BadFraming}
use Rattle.relay_tasks.specs.declared.error.Error.{Error}
use Rattle.relay_tasks.specs.declared.error.ErrorSource.TheVariants.{Upstream}
use Rattle.relay_h1.specs.BodyReader.{TakesPiece}
use Rattle.relay_peer.proofs.ResponseLemmas.{body_ended, body_ended_here, body_goes_on, body_stays, body_open, body_broken, run_goes_on}
use Rattle.relay_peer.proofs.LengthLemmas.{ends_out}
use Rattle.relay_peer.proofs.response_reading.find_piece.Goals as goal

pub returns-in-Piece-default-true-clause-finds : goal.returns-in-Piece-default-true-clause-finds
returns-in-Piece-default-true-clause-finds c = λ method upgrade closed given told here.
    let reads = drop (here.n + here.len) given in
    let so_far = c.in-Piece-default-true.ensures.keeps here.framing reads told.body here.so_far in (
      c.in-Piece-default-true.ensures.answer.some,
      refl,
      body_ended method upgrade closed given told c.args.body c.args.ahead.now c.take.new.ahead
          (told.body ++ c.in-Piece-default-true.piece)
          (record c.args.body { reader = c.take.new.self }) here so_far
          (c.in-Piece-default-true.ensures.tells here.framing reads told.body here.so_far
          c.in-Piece-default-true.field-1-test),
    )

pub returns-in-Piece-default-false-clause-finds : goal.returns-in-Piece-default-false-clause-finds
returns-in-Piece-default-false-clause-finds c = λ method upgrade closed given told here.
    let reads = drop (here.n + here.len) given in
    let so_far =
    c.in-Piece-default-false.ensures.keeps here.framing reads told.body here.so_far in (
      c.in-Piece-default-false.ensures.answer.some,
      refl,
      body_goes_on method upgrade given told c.args.body (record c.args.body
          { reader = c.take.new.self })
          c.args.ahead.now c.take.new.ahead (told.body ++ c.in-Piece-default-false.piece) here
          so_far
          (sym c.in-Piece-default-false.ensures.answer.is_end
          ∙ c.in-Piece-default-false.field-1-test)
          refl,
    )

pub returns-in-End-clause-finds : goal.returns-in-End-clause-finds
returns-in-End-clause-finds c = λ method upgrade closed given told here.
    let reads = drop (here.n + here.len) given in (
      tt,
      refl,
      body_ended_here method upgrade closed given told c.args.body c.args.ahead.now c.take.new.ahead
          (record c.args.body { reader = c.take.new.self }) here
          (c.in-End.ensures.keeps here.framing reads told.body here.so_far)
          (c.in-End.ensures.tells here.framing reads told.body here.so_far),
    )

pub returns-in-More-clause-finds : goal.returns-in-More-clause-finds
returns-in-More-clause-finds c = λ method upgrade closed given told here.
    let reads = drop (here.n + here.len) given in
    body_open method upgrade given told c.args.body (record c.args.body
    { reader = c.take.new.self })
    c.args.ahead.now c.take.new.ahead here
    (c.in-More.ensures.keeps here.framing reads told.body here.so_far)
    (c.in-More.ensures.tells here.framing reads told.body here.so_far) refl

pub returns-in-Failed-OutOfMemory-clause-finds : goal.returns-in-Failed-OutOfMemory-clause-finds
returns-in-Failed-OutOfMemory-clause-finds c = λ method upgrade closed given told here.
    let reads = drop (here.n + here.len) given in
    let some = rw c.in-Failed-OutOfMemory.field-0-is at c.in-Failed-OutOfMemory.ensures.answer in
    body_stays method upgrade given told c.args.body (record c.args.body
    { reader = c.take.new.self })
    c.args.ahead.now c.take.new.ahead here
    (c.in-Failed-OutOfMemory.ensures.keeps here.framing reads told.body here.so_far)
    (run_goes_on c.take.new.self c.take.new.ahead some) refl

pub returns-in-Failed-Error-clause-finds : goal.returns-in-Failed-Error-clause-finds
returns-in-Failed-Error-clause-finds c = λ method upgrade closed given told here.
    let reads = drop (here.n + here.len) given in
    let answer = rw c.in-Failed-Error.field-0-is at c.in-Failed-Error.ensures.answer in
    let told_so = rw c.in-Failed-Error.field-0-is at c.in-Failed-Error.ensures.tells in
    let is_broken = body_broken method upgrade closed given told c.args.body
    (record c.args.body { reader = c.take.new.self }) c.args.ahead.now c.take.new.ahead here
    (c.in-Failed-Error.ensures.keeps here.framing reads told.body here.so_far)
    (told_so here.framing reads told.body here.so_far) refl in (
      BadFraming,
      c.into_up.ensures
          ∙ ap (λ (e : Error). record e { esource = Upstream })
          (c.in-Failed-Error.error-is ∙ answer.0),
      is_broken.says_so,
      is_broken.breaks,
      is_broken.read,
    )

pub returns-in-Piece-default-true-clause-cuts : goal.returns-in-Piece-default-true-clause-cuts
returns-in-Piece-default-true-clause-cuts c =
    let here = c.in-Piece-default-true in (
      c.take.new.self,
      subst (λ (end : Bool). TakesPiece c.args.body.reader c.args.ahead.now here.piece end
          c.take.new.self c.take.new.ahead) here.field-1-test here.ensures.answer,
    )

pub returns-in-Piece-default-false-clause-cuts : goal.returns-in-Piece-default-false-clause-cuts
returns-in-Piece-default-false-clause-cuts c =
    let here = c.in-Piece-default-false in (
      c.take.new.self,
      subst (λ (end : Bool). TakesPiece c.args.body.reader c.args.ahead.now here.piece end
          c.take.new.self c.take.new.ahead) here.field-1-test here.ensures.answer,
    )

pub returns-in-More-clause-cuts : goal.returns-in-More-clause-cuts
returns-in-More-clause-cuts c = c.in-More.ensures.takes

pub returns-in-End-clause-cuts : goal.returns-in-End-clause-cuts
returns-in-End-clause-cuts c =
    ends_out c.args.body.reader c.args.ahead.now c.in-End.ensures.answer.0
    c.in-End.ensures.answer.1
