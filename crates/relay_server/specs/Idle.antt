-- Connections between two requests, and which of them gives way to a further client (RFC 9112,
-- section 9.5).
use Rattle.std.specs.Prelude.{◌≡◌, ◌⊎◌, ℕ, Bool, true, ◌&&◌, ◌==◌, List, [], ◌∷◌, ◌++◌, length, Some}
use Rattle.std.specs.List.{insert, position}
use Rattle.relay_connector.specs.declared.Returned.{Returned}
use Rattle.relay_attempt.specs.Passed.{Passed}
use Rattle.relay_request.specs.Passed.{Start, IsUnsent, asked}
use Rattle.relay_request.specs.Turn.{is_reading_head}
use Rattle.relay_server.specs.Serving.{Visit}
use Rattle.relay_server.specs.declared.serve.Turn.{Turn}
use Rattle.relay_server.specs.declared.serve.Turn.TheVariants as turn

-- no byte of the next request has come, or of the first one
abbrev pub is_idle : {D U L C M : Type 0} → Visit D U L C M → Bool
is_idle visit = is_reading_head visit.phase && (length visit.client.ahead == 0)

-- nothing of a request came, and nothing was done for it
pub record HasNotBegun {L : Type 0} (s : Start) (p : Passed) (own : List (Returned L))
    : Type 0 where
  pub asked : asked s p ≡ []
  pub written : p.written ≡ []
  pub unsent : IsUnsent p
  pub unlinked : own ≡ []

-- in the order of a floor those that moved longest ago come first
module _ {D U L C M : Type 0} where
  -- the first connection that is idle is closed, and the others stay as they are
  pub record GivesWay (here there : List (Visit D U L C M)) : Type 0 where
    pub place : ℕ
    pub visit : Visit D U L C M
    pub first : position is_idle here ≡ Some place
    pub idle : is_idle visit ≡ true
    pub others : here ≡ insert there place visit

  -- one more connection is last, or it was closed
  abbrev pub IsPutLast : List (Visit D U L C M) → List (Visit D U L C M) → Type 0
  IsPutLast here there =
      (there ≡ here) ⊎ ((visit : Visit D U L C M) × (there ≡ here ++ visit ∷ []))

  -- the connection at that place is last now, or it was closed
  pub record GoesLast (place : ℕ) (here there : List (Visit D U L C M)) : Type 0 where
    pub visit : Visit D U L C M
    pub rest : List (Visit D U L C M)
    pub taken : here ≡ insert rest place visit
    pub last : IsPutLast rest there

  -- the connection at that place keeps it
  pub record KeepsPlace (place : ℕ) (here there : List (Visit D U L C M)) : Type 0 where
    pub visit : Visit D U L C M
    pub next : Visit D U L C M
    pub rest : List (Visit D U L C M)
    pub taken : here ≡ insert rest place visit
    pub put : there ≡ insert rest place next

  -- what a turn makes of the order: who moves goes last, and who waits keeps its place
  abbrev pub KeepsOrder : Turn → ℕ → List (Visit D U L C M) → List (Visit D U L C M) → Type 0
  KeepsOrder turn.Moved place here there = GoesLast place here there
  KeepsOrder turn.Waits place here there = KeepsPlace place here there
  KeepsOrder turn.Still place here there = (there ≡ here) ⊎ KeepsPlace place here there

  -- a further client has taken the seat of one that gave way, or it was closed too
  pub record IsReplaced (here there : List (Visit D U L C M)) : Type 0 where
    pub rest : List (Visit D U L C M)
    pub gave_way : GivesWay here rest
    pub seated : IsPutLast rest there
