-- The faults that a read of a request's body adds to those that the client's link tells.
use Rattle.std.proofs.Common.{ℕ, List, [], ◌∷◌, ◌∙◌}
use Rattle.relay_tasks.specs.declared.took.Took.{Took}
use Rattle.relay_links.specs.Link.{LinkState}
use Rattle.relay_session.specs.Reading.{ReadsLink, AddsFault}
use Rattle.relay_session.specs.Reading as says
use Rattle.relay_peer.proofs.FaultLemmas.{Grew, grew_none, more_none}

-- the faults that a read of a body added
pub body_grew : (before after : LinkState) (answer : Took (List ℕ))
    → ReadsLink before after answer → Grew before after
body_grew before after answer link = by_read link.read_faults
  where
    by_read : AddsFault before after answer → Grew before after
    by_read (says.AddsFault.none_came same) = grew_none before after same link.write_faults
    by_read (says.AddsFault.one_came fault added is) = record {
      reads = fault ∷ [];
      read = added;
      writes = [];
      written = link.write_faults ∙ more_none before.write_faults;
    }
