-- How bytes move between a link and the relay.
use Rattle.std.specs.Prelude.{◌≡◌, ℕ, List, ◌++◌, length, take, drop}
use Rattle.relay_links.specs.declared.link.Got.{Got}
use Rattle.relay_links.specs.declared.link.Got.TheVariants as got
use Rattle.relay_links.specs.declared.link.Put.{Put}
use Rattle.relay_links.specs.declared.link.Put.TheVariants as put
use Rattle.relay_links.specs.Link.{LinkState, GivesBytes, WaitsOnRead, IsSilentOnRead, EndsRead, FailsRead, Writes}

-- how many bytes one read of a link asks for
abbrev pub read_size : ℕ
read_size = 16384

-- the link gave the first n bytes of a room of that size, and they follow the bytes that were ahead
pub record GrowsBy (before after : LinkState) (old new : List ℕ) (n : ℕ) : Type 0 where
  pub room : List ℕ
  pub sized : length room ≡ read_size
  pub gives : GivesBytes before room n after
  pub grown : new ≡ old ++ take n room

-- one read of a link behind the bytes ahead, by its answer
abbrev pub ReadsMore : LinkState → LinkState → List ℕ → List ℕ → Got → Type 0
ReadsMore before after old new (got.Bytes n) = GrowsBy before after old new n
ReadsMore before after old new got.NotReady = WaitsOnRead before after × (new ≡ old)
ReadsMore before after old new got.Silent = IsSilentOnRead before after × (new ≡ old)
ReadsMore before after old new got.End = EndsRead before after × (new ≡ old)
ReadsMore before after old new (got.Failed fault) = FailsRead before fault after × (new ≡ old)

-- how many bytes a read gave
abbrev pub given : Got → ℕ
given (got.Bytes n) = n
given got.NotReady = 0
given got.Silent = 0
given got.End = 0
given (got.Failed fault) = 0

-- how many bytes a write took
abbrev pub taken : Put → ℕ
taken (put.Took n) = n
taken put.NotReady = 0
taken put.Silent = 0
taken (put.Failed fault) = 0
taken put.OutOfMemory = 0

-- one write of the part to a link: what it took leaves the front of the bytes
pub record WritesPart
    (before after : LinkState) (part old new : List ℕ) (answer : Put) : Type 0 where
  pub writes : Writes before part after answer
  pub left : new ≡ drop (taken answer) old

-- one write of all the bytes that wait
abbrev pub WritesOut : LinkState → LinkState → List ℕ → List ℕ → Put → Type 0
WritesOut before after old new = WritesPart before after old old new
