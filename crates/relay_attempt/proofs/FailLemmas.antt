-- What fails an exchange still stands after more was written to the client.
--
--   written_to    from a write of the client's link: WrittenTo
--   fails_still   from FailsFor, and nothing but writes since: FailsFor
use Rattle.std.proofs.Common.{◌≡◌, [], ◌∷◌, sym, ap, subst, ◌∙◌, le_refl, inl, inr}
use Rattle.relay_tasks.specs.declared.error.Error.{Error}
use Rattle.relay_tasks.specs.declared.fault.Fault.{Fault}
use Rattle.relay_links.specs.Link as link
use Rattle.relay_links.specs.Link.{LinkState, LinkStart}
use Rattle.relay_links.specs.declared.link.Put.{Put}
use Rattle.relay_links.specs.declared.link.Put.TheVariants as put
use Rattle.relay_session.specs.Response.{WritesPending}
use Rattle.relay_session.specs.declared.writing.Outgoing.{Outgoing}
use Rattle.relay_session.specs.declared.writing.Outgoing.TheVariants as outgoing
use Rattle.relay_core.specs.Past.{Origin, DownPast}
use Rattle.relay_sides.specs.Client.{ClientBlames, Counts, CountsRead}
use Rattle.relay_sides.specs.Client as client
use Rattle.relay_sides.proofs.ClientPast.{rose_on}
use Rattle.relay_sides.proofs.ClientWrite.{not_fallen}
use Rattle.relay_peer.specs.Faults.{IsLast}
use Rattle.relay_peer.proofs.FaultLemmas.{among_still, more_none}
use Rattle.relay_attempt.specs.Order.{FailsFor, WrittenTo}
use Rattle.relay_attempt.specs.Passed.{Passed}

-- ---- a write

-- the link did not change
pub written_none : (before after : LinkState) → after ≡ before → WrittenTo before after
written_none before after same = record {
  ended = ap (λ (l : LinkState). l.ended) same;
  read = ap (λ (l : LinkState). l.read_faults) same;
  failed = [];
  told = ap (λ (l : LinkState). l.write_faults) same ∙ more_none before.write_faults;
  faults = rw (ap (λ (l : LinkState). l.faults) same) (le_refl before.faults);
}

-- one write, or the answer of the one that failed before
pub written_to : (output : Outgoing) (before after : LinkState) (answer : Put) (left : Outgoing)
    → WritesPending output before after answer left → WrittenTo before after
written_to (outgoing.Broken fault) before after answer left w = written_none before after w.1
written_to (outgoing.Open queue) before after answer left w =
    by_write answer w.writes.writes
  where
    by_write : (answer : Put) → link.Writes before queue after answer → WrittenTo before after
    by_write (put.Took n) w = record {
      ended = w.ended;
      read = w.read_faults;
      failed = [];
      told = w.write_faults ∙ more_none before.write_faults;
      faults = rw w.faults (le_refl before.faults);
    }
    by_write put.NotReady w = record {
      ended = w.ended;
      read = w.read_faults;
      failed = [];
      told = w.write_faults ∙ more_none before.write_faults;
      faults = rw w.faults (le_refl before.faults);
    }
    by_write put.Silent w = written_none before after w.same
    by_write (put.Failed fault) w = record {
      ended = w.ended;
      read = w.read_faults;
      failed = fault ∷ [];
      told = w.write_faults;
      faults = not_fallen before.faults after.faults w.sound_before.faults_fit w.faults;
    }
    by_write put.OutOfMemory w = record {
      ended = ap (λ (l : LinkState). l.ended) w.same;
      read = ap (λ (l : LinkState). l.read_faults) w.same;
      failed = [];
      told = ap (λ (l : LinkState). l.write_faults) w.same ∙ more_none before.write_faults;
      faults = rw (ap (λ (l : LinkState). l.faults) w.same) (le_refl before.faults);
    }

-- ---- what fails

module _ (s : Origin) (p : DownPast) (before after : LinkState) (w : WrittenTo before after) where
  -- a fault that counts still does
  counts_still : (fault : Fault) → Counts s p before fault → Counts s p after fault
  counts_still fault (inl was) = inl (record {
    kind = was.kind;
    among = among_still s.write_faults before.write_faults after.write_faults w.failed fault w.told
        was.among;
  })
  counts_still fault (inr was) = inr (record {
    kind = was.kind;
    last = subst (λ told. IsLast s.read_faults told fault) (sym w.read) was.last;
    matters = was.matters;
  })

  -- the client's side still answers for the error
  pub blames_still : (e : Error) → ClientBlames s p before e → ClientBlames s p after e
  blames_still e (client.ClientBlames.link_failed fault is rose counts) =
      client.ClientBlames.link_failed fault is
      (rose_on s.faults before.faults after.faults w.faults rose) (counts_still fault counts)
  blames_still e (client.ClientBlames.body_is_broken body says is) =
      client.ClientBlames.body_is_broken body says is
  blames_still e (client.ClientBlames.ends_inside body says ended is) =
      client.ClientBlames.ends_inside body says (w.ended ∙ ended) is
  blames_still e (client.ClientBlames.ends_behind body whole ended unanswered is) =
      client.ClientBlames.ends_behind body whole (w.ended ∙ ended) unanswered is
  blames_still e (client.ClientBlames.sent_more body behind whole some unanswered is) =
      client.ClientBlames.sent_more body behind whole some unanswered is

-- what failed an exchange still did
pub fails_still : (s : Origin) (p : Passed) (before after upstream : LinkState) (start : LinkStart)
    (e : Error) → WrittenTo before after → FailsFor s p before upstream start e
    → FailsFor s p after upstream start e
fails_still s p before after upstream start e w (FailsFor.by_client order blames) =
    FailsFor.by_client order (blames_still s _ before after w e blames)
fails_still s p before after upstream start e w (FailsFor.by_peer order lost blames) =
    FailsFor.by_peer order lost blames
fails_still s p before after upstream start e w (FailsFor.by_refusal order refuses) =
    FailsFor.by_refusal order refuses
fails_still s p before after upstream start e w
    (FailsFor.by_writer order batch unasked read refused) =
    FailsFor.by_writer order batch unasked read refused
fails_still s p before after upstream start e w (FailsFor.by_cut at order unasked read refused) =
    FailsFor.by_cut at order unasked read refused
