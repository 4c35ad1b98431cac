-- What the piece puts is kept behind what was put before.
use Rattle.std.proofs.Common.{◌≡◌, ℕ, Bool, false, true, not, ◌&&◌, List, ◌++◌, ◌==◌, length, Some, is_some, inl, refl, subst, sym, ap, ◌∙◌}
use Rattle.relay_tasks.specs.declared.task.HttpTask.{HttpTask}
use Rattle.relay_core.specs.declared.piece.Piece.{Piece}
use Rattle.relay_core.specs.Piece.{put_of, task_put_of}
use Rattle.relay_exchange_tests.proofs.tests.duplexes.client.ClientDownUnit.read_piece.Goals as goal

-- the piece is noted
pub returns-in-Ok-clause-goes : goal.returns-in-Ok-clause-goes
returns-in-Ok-clause-goes c = λ s p holds. record {
  past = record {
    came = p.came;
    written = p.written;
    put = _;
    batched = p.batched;
    closing = p.closing;
  };
  stands = (
    ap (λ (xs : List HttpTask). xs ++ put_of false c.piece-in-Ok.result) holds.0
        ∙ ap (λ (piece : Piece). c.args.self.now.put ++ put_of false piece)
        (c.piece-in-Ok.ensures ∙ sym c.piece.ensures)
        ∙ sym c.in-Ok.ensures.ok,
    holds.1,
    holds.2,
  );
  is_put = refl;
  is_batched = refl;
  is_closing = refl;
  blamed = λ e none. cc;
}

-- a piece with bytes, or with the end, puts a task
puts_some : (bytes : List ℕ) (end : Bool) → ((length bytes == 0) && not end) ≡ false
    → is_some (task_put_of false
    (record { bytes = Some bytes; upstream_end = end; client_end = end })) ≡ true
puts_some bytes end isnt = rw isnt refl

-- each piece puts one
pub returns-in-Ok-clause-puts : goal.returns-in-Ok-clause-puts
returns-in-Ok-clause-puts c = λ s p holds piece is.
    let same : c.piece-in-Ok.result ≡ piece = cc in
    inl (subst (λ (x : Piece). is_some (task_put_of false x) ≡ true)
    (sym c.piece-in-Ok.ensures ∙ same)
    (puts_some c.next_bytes-end.result.0.now c.next_bytes-end.result.1 c.next_bytes-end.ensures))
