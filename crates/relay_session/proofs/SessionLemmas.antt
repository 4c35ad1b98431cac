-- Once a head was read, the response of a session answers its request.
use Rattle.std.proofs.Common.{◌≡◌, ℕ, List, ◌++◌, refl, sym, ◌∙◌, ap, Some, None}
use Rattle.std.specs.Prelude.{⊤, IsSome}
use Rattle.relay_tasks.specs.declared.took.Took.{Took}
use Rattle.relay_tasks.specs.declared.took.Took.TheVariants as took
use Rattle.relay_tasks.specs.Head.{RequestHead}
use Rattle.relay_links.specs.Link.{LinkState}
use Rattle.relay_h1.proofs.VerdictLemmas.{HasRequest-append}
use Rattle.relay_session.specs.declared.reading.Reading.{Reading}
use Rattle.relay_session.specs.declared.reading.Reading.TheVariants as reading
use Rattle.relay_session.specs.declared.task_text.Request.{Request}
use Rattle.relay_session.specs.declared.writing.Writing.{Writing}
use Rattle.relay_session.specs.Reading.{head_of, IsItem, ReadsOn}
use Rattle.relay_session.specs.Session.{BeginsAs, AnswersRead, AnswersTo}

-- a request stays the one that the bytes begin with as more come
BeginsAs-more : (given came : List ℕ) (request : Request) → BeginsAs given request
    → BeginsAs (given ++ came) request
BeginsAs-more given came request begins = record {
  head = begins.head;
  framing = begins.framing;
  len = begins.len;
  has = HasRequest-append given came begins.head begins.framing begins.len begins.has;
  is = begins.is;
}

some_is_not_none : (head : RequestHead) → ¬ (Some head ≡ None)
some_is_not_none head is = cc

-- what the response answers stays as more bytes come, where the head stays
pub answers_on : (given came : List ℕ) (old new : Reading) (response : Writing)
    → head_of new ≡ head_of old → AnswersRead given old response
    → AnswersRead (given ++ came) new response
answers_on given came reading.Head reading.Head response same answers = answers
answers_on given came reading.Head (reading.Body begun) response same answers =
    absurd (some_is_not_none begun.head same)
answers_on given came (reading.Body begun) reading.Head response same answers =
    absurd (some_is_not_none begun.head (sym same))
answers_on given came (reading.Body was) (reading.Body begun) response same answers =
    BeginsAs-more given came response.request answers

module _ (before after : LinkState) (given body left : List ℕ) (old new : Writing) where
  -- a call that gave no head leaves the response, and one that gave a head is told where it stands
  pub answers_head : (now : Reading) (answer : Took ⊤)
      → (reads : ReadsOn before after given body left reading.Head now answer)
      → (IsSome (head_of now) → IsItem answer)
      → AnswersTo (head_of now) old new → AnswersRead given reading.Head old
      → AnswersRead (given ++ reads.came) now new
  answers_head reading.Head answer reads begins sets answers =
      ap (λ (w : Writing). w.request) sets ∙ answers
  answers_head (reading.Body begun) (took.Item done) reads begins sets answers =
      let told = reads.tells refl in
      record {
        head = begun.head;
        framing = begun.framing;
        len = told.0;
        has = told.1;
        is = ap (λ (w : Writing). w.request) sets;
      }
  answers_head (reading.Body begun) took.More reads begins sets answers = absurd (begins refl)
  answers_head (reading.Body begun) (took.Waited pause) reads begins sets answers =
      absurd (begins refl)
  answers_head (reading.Body begun) took.End reads begins sets answers = absurd (begins refl)
  answers_head (reading.Body begun) (took.Failed failure) reads begins sets answers =
      absurd (begins refl)
