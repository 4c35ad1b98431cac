use Rattle.std.proofs.Common.{◌≡◌, ◌∙◌, sym, take, take_all, arith, below_more}
use Rattle.http_uri.proofs.AuthorityLemmas.{Step, step_percent, step_colon, step_opening, step_closing, step_at, step_other}
use Rattle.relay_authority.proofs.AuthorityLemmas.{decided, filled, matched}
use Rattle.relay_authority.proofs.authority.is_authority.Goals.{in-58+else-colons-eq-MAX_COLONS, in-37, in-91+else-opened+else-percent, in-93+else-closed+else-not-opened, in-64, in_default}
use Rattle.relay_authority.proofs.authority.is_authority.Goals as goal

-- one more byte follows, whichever it is
pub loop-byte-preserved : goal.loop-byte-preserved
loop-byte-preserved c =
    let text = c.args.text.now in
    let at = c.loop-byte.byte-index in
    let within = c.loop-byte-test.true in
    let tracks = c.loop-byte.invariant.tracks in
    let byte = sym c.is_authority_byte.ensures ∙ c.if-not-is_authority_byte.false in
    let step : Step text at within _ _ _ _ tracks byte c.match-byte.colons c.match-byte.opened
    c.match-byte.closed c.match-byte.percent =
    elim c.match-byte.branch [
      | in-58+else-colons-eq-MAX_COLONS w ↦
          rw (w.colons-is, w.opened-is, w.closed-is, w.percent-is)
          (step_colon text at within _ _ _ _ tracks byte (omega arith) (omega arith))
      | in-37 w ↦
          rw (w.colons-is, w.opened-is, w.closed-is, w.percent-is)
          (step_percent text at within _ _ _ _ tracks byte (omega arith))
      | in-91+else-opened+else-percent w ↦
          rw (w.colons-is, w.opened-is, w.closed-is, w.percent-is)
          (step_opening text at within _ _ _ _ tracks byte
          (omega arith) w.if-percent.false w.if-opened.false)
      | in-93+else-closed+else-not-opened w ↦
          rw (w.colons-is, w.opened-is, w.closed-is, w.percent-is)
          (step_closing text at within _ _ _ _ tracks byte
          (omega arith) w.if-not-opened.false w.if-closed.false)
      | in-64 w ↦
          rw (w.colons-is, w.opened-is, w.closed-is, w.percent-is)
          (step_at text at within _ _ _ _ tracks byte (omega arith))
      | in_default w ↦
          rw (w.colons-is, w.opened-is, w.closed-is, w.percent-is)
          (step_other text at within _ _ _ _ tracks byte (omega arith) (omega arith) (omega arith)
          (omega arith) (omega arith))
    ] in
    record { follows = below_more _ _ c.loop-byte.invariant.follows step.0; tracks = step.1 }

-- what the whole text holds decides, with its last byte
pub returns-then-not-is_empty : goal.returns-then-not-is_empty
returns-then-not-is_empty c =
    let text = c.args.text.now in
    let whole : take c.loop-byte.byte-index text ≡ text =
    take_all c.loop-byte.byte-index text (omega arith) in
    let tracks = rw whole at c.loop-byte.invariant.tracks in
    decided text c.loop-byte.colons c.loop-byte.opened c.loop-byte.closed c.loop-byte.percent tracks
    (λ k within. c.loop-byte.invariant.follows k (omega arith))
    (matched _ _ c.if-opened-closed.false) (omega arith) c.if-percent-2.false
    (filled text c.is_empty.result c.is_empty.ensures c.if-not-is_empty.true)
