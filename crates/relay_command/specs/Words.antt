-- Words: what the words behind the program's name ask for.
use Rattle.std.specs.Prelude.{◌≡◌, ◌≤◌, ◌<◌, ◌^◌, ℕ, List, [], ◌∷◌, codes, decimal}
use Rattle.relay_command.specs.declared.words.Command.{Command}
use Rattle.relay_command.specs.declared.words.Command.TheVariants.{Run, Serve}

-- the word spells a port: plain decimal digits without a leading zero, from 1 to 65,535
pub record SpellsPort (word : List ℕ) (port : ℕ) : Type 0 where
  pub spelled : word ≡ decimal port
  pub some : 1 ≤ port
  pub fits : port < 2 ^ 16

-- the word spells no port
abbrev pub SpellsNoPort : List ℕ → Type 0
SpellsNoPort word = (port : ℕ) → ¬ (SpellsPort word port)

-- the three words ask for a port to be served for a peer at another
pub record AskToServe (word front behind : List ℕ) (port peer : ℕ) : Type 0 where
  pub is_word : word ≡ codes "serve"
  pub port_is : SpellsPort front port
  pub peer_is : SpellsPort behind peer

-- the words ask for this command; none ask for those that are not built
abbrev pub Asks : List (List ℕ) → Command → Type 0
Asks (word ∷ []) Run = word ≡ codes "run"
Asks (word ∷ port ∷ peer ∷ []) (Serve p q) = AskToServe word port peer p q
Asks _ _ = ⊥

-- the words ask for the run of a script
abbrev pub AsksToRun : List (List ℕ) → Type 0
AsksToRun words = Asks words Run

-- the words ask for a port to be served
pub record AsksToServe (words : List (List ℕ)) : Type 0 where
  pub port : ℕ
  pub peer : ℕ
  pub asks : Asks words (Serve port peer)

-- the words ask for nothing
abbrev pub IsRefused : List (List ℕ) → Type 0
IsRefused words = (command : Command) → ¬ (Asks words command)

-- what is written where the words are refused
abbrev pub usage_text : List ℕ
usage_text = codes "usage: relay run | relay gen N | relay pair | relay serve PORT PEER\n"
