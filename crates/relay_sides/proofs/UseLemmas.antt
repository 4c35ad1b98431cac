-- Which link a call of a side asked: once, or not at all.
--
--   client_reads, client_writes    the client's link, by what its session says
--   client_puts                    a piece of the session puts a task
use Rattle.std.proofs.Common.{◌≡◌, ℕ, ◌<◌, Bool, true, false, not, List, [], ◌∷◌, ◌==◌, length, Some, None, refl, subst, inl, inr, arith, length-append}
use Rattle.std.proofs.lemmas.Bool.{cases_Bool}
use Rattle.relay_tasks.specs.declared.fault.Fault.{Fault}
use Rattle.relay_tasks.specs.declared.took.Pause.TheVariants.{NotReady, Silent}
use Rattle.relay_tasks.specs.declared.took.Took.{Took}
use Rattle.relay_tasks.specs.declared.took.Took.TheVariants as took
use Rattle.relay_links.specs.Link.{LinkState}
use Rattle.relay_links.specs.declared.link.Put.{Put}
use Rattle.relay_session.specs.Reading.{ReadsLink}
use Rattle.relay_session.specs.Response.{WritesPending, pending}
use Rattle.relay_session.specs.declared.session.HttpSession.{HttpSession}
use Rattle.relay_session.specs.declared.writing.Outgoing.{Outgoing}
use Rattle.relay_session.specs.declared.writing.Outgoing.TheVariants as outgoing
use Rattle.relay_core.specs.Past.{Origin, DownPast}
use Rattle.relay_core.specs.Uses.{ReadUses, WriteUses, PutsTask}
use Rattle.relay_core.specs.declared.piece.Piece.{Piece}
use Rattle.relay_peer.proofs.UseLemmas.{put_uses}
use Rattle.relay_sides.specs.Client.{IsClient, piece_answer, given_to}
use Rattle.relay_sides.proofs.ClientRead.{Left}

module _ (before after : LinkState) where
  -- a read of the client asks it once at most
  pub client_reads : (answer : Took (List ℕ)) (done : Bool) → ReadsLink before after answer
      → ReadUses before after (piece_answer answer done)
  client_reads (took.Item bytes) done link = link.asks
  client_reads took.More done link = link.asks
  client_reads (took.Waited NotReady) done link = link.used refl
  client_reads (took.Waited Silent) done link = (link.silent refl).0
  client_reads took.End done link = link.asks
  client_reads (took.Failed why) done link = link.asks

  -- nothing waits behind a write that failed
  nothing_waits : (fault : Fault)
      → not (length (pending (outgoing.Broken fault)) == 0) ≡ true → ⊥
  nothing_waits fault some = cc

  -- a write to the client asks it, unless it is silent
  pub client_writes : (output left : Outgoing) (answer : Put)
      → not (length (pending output) == 0) ≡ true
      → WritesPending output before after answer left → WriteUses before after answer
  client_writes (outgoing.Broken fault) left answer some writes =
      absurd (nothing_waits fault some)
  client_writes (outgoing.Open queue) left answer some writes =
      put_uses before after queue answer writes.writes.writes

-- a list with some bytes is not empty
some_bytes : (bytes : List ℕ) → 0 < length bytes → (length bytes == 0) ≡ false
some_bytes [] some = absurd (omega (arith, some))
some_bytes (x ∷ bytes) some = grind (arith, length-append (x ∷ []) bytes)

-- a piece of some bytes puts a task
bytes_put : (bytes : List ℕ) (done : Bool) → 0 < length bytes
    → PutsTask false (record { bytes = Some bytes; upstream_end = done; client_end = done })
bytes_put bytes done some = rw (some_bytes bytes some) refl

-- a piece that is read puts a task
pub client_puts : (s : Origin) (p : DownPast) (before after : LinkState) (ahead left : List ℕ)
    (old new : HttpSession) (answer : Took (List ℕ)) (done : Bool) (piece : Piece)
    → IsClient s p before ahead old → Left before after ahead left old new answer
    → piece_answer answer done ≡ took.Item piece → PutsTask false piece
client_puts s p before after ahead left old new (took.Item bytes) done piece h l is =
    let same : record { bytes = Some bytes; upstream_end = done; client_end = done } ≡ piece = cc
    in
    elim (cases_Bool l.still) [
      | inl on ↦ absurd (l.watches on)
      | inr off ↦ subst (λ (x : Piece). PutsTask false x) same
          (bytes_put bytes done ((l.goes (given_to s p) h.body h.request).tells off).0)
    ]
client_puts s p before after ahead left old new took.More done piece h l is = absurd (cc)
client_puts s p before after ahead left old new (took.Waited pause) done piece h l is =
    absurd (cc)
client_puts s p before after ahead left old new took.End done piece h l is =
    let same : record { bytes = None; upstream_end = true; client_end = true } ≡ piece = cc in
    subst (λ (x : Piece). PutsTask false x) same refl
client_puts s p before after ahead left old new (took.Failed why) done piece h l is = absurd (cc)
