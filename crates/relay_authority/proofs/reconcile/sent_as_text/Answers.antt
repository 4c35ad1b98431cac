use Rattle.std.proofs.Common.{ℕ, List, [], ◌∷◌, inl, inr, arith}
use Rattle.std.proofs.lemmas.Bool.{cases_Bool}
use Rattle.std.proofs.lemmas.Str.{IsUtf8-append, IsUtf8-from_ascii}
use Rattle.std.proofs.lemmas.Str.Ascii.{IsAscii-cons, IsAscii-nil}
use Rattle.std.specs.Prelude.{◌==◌, ◌||◌, IsUtf8, slice_index}
use Rattle.http_uri.specs.Grammar.{path_and_query_text}
use Rattle.relay_authority.proofs.reconcile.sent_as_text.Goals as goal

-- a `/` in front of text leaves it text
sent_text : (text : List ℕ) → IsUtf8 text → IsUtf8 (path_and_query_text text)
sent_text text utf8 =
    elim (cases_Bool ((slice_index text 0 == 47) || (slice_index text 0 == 42))) [
      | inl rooted ↦ rw rooted utf8
      | inr other ↦
          let mark = IsUtf8-from_ascii (47 ∷ []) (IsAscii-cons 47 [] (omega arith) IsAscii-nil) in
          rw other (IsUtf8-append (47 ∷ []) text mark utf8)
    ]

-- the path and query are text
pub returns : goal.returns
returns c = let valid = c.path-path.ensures.valid in sent_text _ valid.utf8
