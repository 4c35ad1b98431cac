use Rattle.std.proofs.Common.{ℕ, ◌<◌, take, get_or}
use Rattle.http_uri.proofs.AuthorityLemmas.{Tracks}
use Rattle.http_uri.specs.Grammar.{MayFollow}
use Rattle.relay_authority.proofs.authority.is_authority.Given as goal

-- each byte so far may stand where it stands, and the variables say what the bytes so far hold
abbrev pub invariant-loop-byte : goal.invariant-loop-byte
invariant-loop-byte l = record {
  follows : (k : ℕ) → k < l.byte-index → MayFollow (take k l.text) (get_or l.text k 0);
  tracks : Tracks (take l.byte-index l.text) l.colons l.opened l.closed l.percent;
}
