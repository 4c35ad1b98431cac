-- The calls of a request, those of each piece as one.
--
--   chain_call      what the calls of a piece came to is a call with a piece
--   chain_ahead     the calls of a piece, in front of more, are one
--   chains_ahead    so are those of several
--   count_append    how many pieces there are is told by the calls alone
--   pieces_append   and so it is of two logs
--   pieces_go       calls that are made later leave those of the pieces before
--   pieces_longer   the calls of one piece more are one more
--   chains_none, chains_push, chains_lost, chains_still   a request with none, with one piece more,
--                   with one in which memory was wanted, and with none more
--   chain_last      the last of the calls of a piece answered what they came to
--   piece_parts, lost_parts      the calls of a piece are of the request alone
--   requests_on, responses_on, modules_on   the parts of a log with them behind
use Rattle.std.proofs.Common.{◌≡◌, ℕ, ◌<◌, ◌+◌, ◌⊎◌, Bool, true, false, ◌&&◌, if◌then◌else◌, List, [], ◌∷◌, ◌++◌, Option, Some, None, is_none, length, arith, refl, sym, ap, subst, ◌∙◌, append-nil, append_assoc, inl, inr, IsSome}
use Rattle.relay_tasks.specs.declared.error.Error.{Error}
use Rattle.relay_tasks.specs.declared.hook.Hook.{Hook}
use Rattle.relay_tasks.specs.declared.hook.Hook.TheVariants as hook
use Rattle.relay_tasks.specs.declared.log.Item.{Item}
use Rattle.relay_tasks.specs.declared.log.Item.TheVariants as item
use Rattle.relay_tasks.specs.declared.log.LogEntry.{LogEntry}
use Rattle.relay_calls.specs.Log.{filters_request, filters_response, is_module, is_module_response, modules_in, requests_in, responses_in}
use Rattle.relay_calls.proofs.LogLemmas.{modules_in-append, requests_in-append, responses_in-append}
use Rattle.relay_filters.specs.Request.{AreChains, InChains, LetsOn, PieceCall, PieceChain, by_pieces, given_first, lets_on, pieces_in}

-- ---- one call

-- a call of the application goes on by itself
app_ends : (e : LogEntry) → e.hook ≡ hook.RequestBodyFilter → lets_on e ≡ false
app_ends e is = ap (λ (h : Hook). is_module h && is_none e.error) is

-- one of the modules that let the piece go on does not
module_lets : (e : LogEntry) → e.hook ≡ hook.ModuleRequestBody → e.error ≡ None → lets_on e ≡ true
module_lets e is ok =
    ap (λ (h : Hook). is_module h && is_none e.error) is ∙ ap (λ (o : Option Error). is_none o) ok

-- and one that failed does
module_ends : (e : LogEntry) → e.hook ≡ hook.ModuleRequestBody → IsSome e.error
    → lets_on e ≡ false
module_ends e is bad =
    ap (λ (h : Hook). is_module h && is_none e.error) is ∙ by e.error bad
  where
    by : (o : Option Error) → IsSome o → is_none o ≡ false
    by None bad = cc
    by (Some error) bad = refl

-- ---- lists

-- the first of calls
pieces_end : (e : LogEntry) (es : List LogEntry) → lets_on e ≡ false
    → by_pieces (e ∷ es) ≡ e ∷ by_pieces es
pieces_end e es ends =
    ap (λ (b : Bool). if b then given_first e.input (by_pieces es) else e ∷ by_pieces es) ends

pieces_let : (e : LogEntry) (es : List LogEntry) → lets_on e ≡ true
    → by_pieces (e ∷ es) ≡ given_first e.input (by_pieces es)
pieces_let e es lets =
    ap (λ (b : Bool). if b then given_first e.input (by_pieces es) else e ∷ by_pieces es) lets

-- the calls of a piece, in front of more, are one
pub chain_ahead : (stand : Bool) (own rest : List LogEntry) (call : LogEntry)
    → PieceChain stand own call → by_pieces (own ++ rest) ≡ call ∷ by_pieces rest
chain_ahead stand own rest call (PieceChain.by_app none are is piece) =
    ap (λ (l : List LogEntry). by_pieces (l ++ rest)) are
    ∙ pieces_end call rest (app_ends call is)
chain_ahead stand own rest call
    (PieceChain.by_both there first m e are is was piece becomes) =
    ap (λ (l : List LogEntry). by_pieces (l ++ rest))
    (are ∙ ap (λ (l : List LogEntry). l ++ e ∷ []) m.are)
    ∙ pieces_let m.call (e ∷ rest) (module_lets m.call m.is_hook m.ok)
    ∙ ap (λ (l : List LogEntry). given_first m.call.input l)
    (pieces_end e rest (app_ends e is))
    ∙ ap (λ (x : LogEntry). x ∷ by_pieces rest) (sym becomes)
chain_ahead stand own rest call (PieceChain.by_modules there are is bad piece) =
    ap (λ (l : List LogEntry). by_pieces (l ++ rest)) are
    ∙ pieces_end call rest (module_ends call is bad)

-- and alone
pub chain_one : (stand : Bool) (own : List LogEntry) (call : LogEntry)
    → PieceChain stand own call → by_pieces own ≡ call ∷ []
chain_one stand own call chain =
    ap by_pieces (sym (append-nil own)) ∙ chain_ahead stand own [] call chain

-- so are those of several
pub chains_ahead : (es rest calls : List LogEntry) → AreChains es calls
    → by_pieces (es ++ rest) ≡ calls ++ by_pieces rest
chains_ahead es rest [] none = ap (λ (l : List LogEntry). by_pieces (l ++ rest)) none
chains_ahead es rest (call ∷ calls) (stand, own, behind, are, chain, chains) =
    ap (λ (l : List LogEntry). by_pieces (l ++ rest)) are
    ∙ ap by_pieces (append_assoc own behind rest)
    ∙ chain_ahead stand own (behind ++ rest) call chain
    ∙ ap (λ (l : List LogEntry). call ∷ l) (chains_ahead behind rest calls chains)

-- one piece more
more_chains : (es own calls : List LogEntry) (stand : Bool) (call : LogEntry)
    → AreChains es calls → PieceChain stand own call → AreChains (es ++ own) (calls ++ call ∷ [])
more_chains es own [] stand call none chain = (
  stand,
  own,
  [],
  ap (λ (l : List LogEntry). l ++ own) none ∙ sym (append-nil own),
  chain,
  refl,
)
more_chains es own (first ∷ calls) stand call (stood, ours, behind, are, its, chains) chain = (
  stood,
  ours,
  behind ++ own,
  ap (λ (l : List LogEntry). l ++ own) are ∙ append_assoc ours behind own,
  its,
  more_chains behind own calls stand call chains chain,
)

-- the modules' call for a piece is none yet
lets_none : (es : List LogEntry) → LetsOn es → by_pieces es ≡ []
lets_none es m =
    ap by_pieces m.are ∙ pieces_let m.call [] (module_lets m.call m.is_hook m.ok)

lost_none : (es : List LogEntry) → (es ≡ []) ⊎ LetsOn es → by_pieces es ≡ []
lost_none es (inl none) = ap by_pieces none
lost_none es (inr m) = lets_none es m

-- ---- how many

given_count : (input : Item) (es : List LogEntry) → length (given_first input es) ≡ length es
given_count input [] = refl
given_count input (e ∷ es) = refl

-- one call in front of these makes as much of a difference as of those
count_by : (b : Bool) (e : LogEntry) (es fs gs : List LogEntry)
    → length es ≡ length fs + length gs
    → length (if b then given_first e.input es else e ∷ es)
    ≡ length (if b then given_first e.input fs else e ∷ fs) + length gs
count_by true e es fs gs is =
    given_count e.input es ∙ is
    ∙ ap (λ (n : ℕ). n + length gs) (sym (given_count e.input fs))
count_by false e es fs gs is = omega (arith, is)

-- how many pieces the calls of two lists are
pub count_append : (es fs : List LogEntry)
    → length (by_pieces (es ++ fs)) ≡ length (by_pieces es) + length (by_pieces fs)
count_append [] fs = omega arith
count_append (e ∷ es) fs =
    count_by (lets_on e) e (by_pieces (es ++ fs)) (by_pieces es) (by_pieces fs)
    (count_append es fs)

-- calls behind calls leave those of the pieces before
given_goes : (input : Item) (es more : List LogEntry)
    → (x : List LogEntry) × (given_first input (es ++ more) ≡ given_first input es ++ x)
given_goes input [] more = (given_first input more, refl)
given_goes input (e ∷ es) more = (more, refl)

pub pieces_go : (es fs : List LogEntry)
    → (x : List LogEntry) × (by_pieces (es ++ fs) ≡ by_pieces es ++ x)
pieces_go [] fs = (by_pieces fs, refl)
pieces_go (e ∷ es) fs = by (lets_on e) (pieces_go es fs)
  where
    by : (b : Bool) → (x : List LogEntry) × (by_pieces (es ++ fs) ≡ by_pieces es ++ x)
        → (x : List LogEntry)
        × ((if b then given_first e.input (by_pieces (es ++ fs)) else e ∷ by_pieces (es ++ fs))
        ≡ (if b then given_first e.input (by_pieces es) else e ∷ by_pieces es) ++ x)
    by true (more, is) =
        let on = given_goes e.input (by_pieces es) more in
        (on.0, ap (λ (l : List LogEntry). given_first e.input l) is ∙ on.1)
    by false (more, is) = (more, ap (λ (l : List LogEntry). e ∷ l) is)

-- and of two logs
pub pieces_append : (log more : List LogEntry)
    → length (pieces_in (log ++ more)) ≡ length (pieces_in log) + length (pieces_in more)
pieces_append log more =
    ap (λ (l : List LogEntry). length (by_pieces l)) (requests_in-append log more)
    ∙ count_append (requests_in log) (requests_in more)

-- ---- what the calls came to

-- a call with a piece, of another input
end_same : (a b : Option (List ℕ)) (end last : Bool) → item.Piece a end ≡ item.Piece b last
    → end ≡ last
end_same a b end last same = cc

-- what the calls of a piece came to is a call with a piece
pub chain_call : (stand : Bool) (es : List LogEntry) (call : LogEntry)
    → PieceChain stand es call → PieceCall call
chain_call stand es call (PieceChain.by_app none are is piece) = piece
chain_call stand es call (PieceChain.by_both there first m e are is was piece becomes) =
    subst PieceCall (sym becomes) (record {
      given = m.is_piece.given;
      left = piece.left;
      end = piece.end;
      is_hook = piece.is_hook;
      was = m.is_piece.was
          ∙ ap (λ (b : Bool). item.Piece m.is_piece.given b)
          (end_same m.is_piece.left piece.given m.is_piece.end piece.end
          (sym m.is_piece.became ∙ sym was ∙ piece.was));
      became = piece.became;
      undelayed = piece.undelayed;
    })
chain_call stand es call (PieceChain.by_modules there are is bad piece) = piece

-- the last of the calls of a piece answered what they came to
pub record EndsIn (es : List LogEntry) (call : LogEntry) : Type 0 where
  pub front : List LogEntry
  pub last : LogEntry
  pub are : es ≡ front ++ last ∷ []
  pub same : last.error ≡ call.error
  pub is_piece : PieceCall last

pub chain_last : (stand : Bool) (es : List LogEntry) (call : LogEntry)
    → PieceChain stand es call → EndsIn es call
chain_last stand es call (PieceChain.by_app none are is piece) =
    record { front = []; last = call; are = are; same = refl; is_piece = piece }
chain_last stand es call (PieceChain.by_both there first m e are is was piece becomes) = record {
  front = first;
  last = e;
  are = are;
  same = sym (ap (λ (x : LogEntry). x.error) becomes);
  is_piece = piece;
}
chain_last stand es call (PieceChain.by_modules there are is bad piece) =
    record { front = []; last = call; are = are; same = refl; is_piece = piece }

-- ---- the parts of a log

-- the calls are of the request, and none is of the response
pub record OfRequest (es : List LogEntry) : Type 0 where
  pub requests : requests_in es ≡ es
  pub responses : responses_in es ≡ []
  pub modules : modules_in es ≡ []

-- one call of its filters
one_request : (e : LogEntry) (which : Hook) → e.hook ≡ which → filters_request which ≡ true
    → filters_response which ≡ false → is_module_response which ≡ false → OfRequest (e ∷ [])
one_request e which is is_so neither nor = record {
  requests = ap (λ (b : Bool). if b then e ∷ [] else []) (ap filters_request is ∙ is_so);
  responses = ap (λ (b : Bool). if b then e ∷ [] else []) (ap filters_response is ∙ neither);
  modules = ap (λ (b : Bool). if b then e ∷ [] else []) (ap is_module_response is ∙ nor);
}

-- those of two lists
both_request : (es fs : List LogEntry) → OfRequest es → OfRequest fs → OfRequest (es ++ fs)
both_request es fs p q = record {
  requests = requests_in-append es fs
      ∙ ap (λ (l : List LogEntry). l ++ requests_in fs) p.requests
      ∙ ap (λ (l : List LogEntry). es ++ l) q.requests;
  responses = responses_in-append es fs
      ∙ ap (λ (l : List LogEntry). l ++ responses_in fs) p.responses ∙ q.responses;
  modules = modules_in-append es fs
      ∙ ap (λ (l : List LogEntry). l ++ modules_in fs) p.modules ∙ q.modules;
}

-- the modules' call for a piece
lets_parts : (es : List LogEntry) → LetsOn es → OfRequest es
lets_parts es m =
    subst OfRequest (sym m.are)
    (one_request m.call hook.ModuleRequestBody m.is_hook refl refl refl)

-- the calls of a piece
pub piece_parts : (stand : Bool) (es : List LogEntry) (call : LogEntry)
    → PieceChain stand es call → OfRequest es
piece_parts stand es call (PieceChain.by_app none are is piece) =
    subst OfRequest (sym are) (one_request call hook.RequestBodyFilter is refl refl refl)
piece_parts stand es call (PieceChain.by_both there first m e are is was piece becomes) =
    subst OfRequest (sym are)
    (both_request first (e ∷ []) (lets_parts first m)
    (one_request e hook.RequestBodyFilter is refl refl refl))
piece_parts stand es call (PieceChain.by_modules there are is bad piece) =
    subst OfRequest (sym are) (one_request call hook.ModuleRequestBody is refl refl refl)

-- those of one in which memory was wanted
pub lost_parts : (es : List LogEntry) → (es ≡ []) ⊎ LetsOn es → OfRequest es
lost_parts es (inl none) =
    subst OfRequest (sym none) (record { requests = refl; responses = refl; modules = refl })
lost_parts es (inr m) = lets_parts es m

-- the parts of a log with such calls behind
module _ (own es : List LogEntry) (of : OfRequest es) where
  pub requests_on : requests_in (own ++ es) ≡ requests_in own ++ es
  requests_on =
      requests_in-append own es
      ∙ ap (λ (l : List LogEntry). requests_in own ++ l) of.requests

  pub responses_on : responses_in (own ++ es) ≡ responses_in own
  responses_on =
      responses_in-append own es
      ∙ ap (λ (l : List LogEntry). responses_in own ++ l) of.responses
      ∙ append-nil (responses_in own)

  pub modules_on : modules_in (own ++ es) ≡ modules_in own
  modules_on =
      modules_in-append own es
      ∙ ap (λ (l : List LogEntry). modules_in own ++ l) of.modules
      ∙ append-nil (modules_in own)

-- the calls of one piece more are one more
pub pieces_longer : (stand : Bool) (log log' es : List LogEntry) (call : LogEntry)
    → log' ≡ log ++ es → PieceChain stand es call
    → length (pieces_in log) < length (pieces_in log')
pieces_longer stand log log' es call is chain =
    let one : length (pieces_in es) ≡ 1 =
    ap (λ (l : List LogEntry). length (by_pieces l)) (piece_parts stand es call chain).requests
    ∙ ap (λ (l : List LogEntry). length l) (chain_one stand es call chain) in
    let all : length (pieces_in log') ≡ length (pieces_in log) + length (pieces_in es) =
    ap (λ (l : List LogEntry). length (pieces_in l)) is ∙ pieces_append log es in
    omega (arith, one, all)

-- ---- a request

-- before the first piece
pub chains_none : (on : Type 0) → InChains [] on
chains_none on = record {
  done = [];
  lost = [];
  are = refl;
  chains = refl;
  are_lost = inl refl;
  all = λ so. refl;
}

-- a request of which all calls stand in chains
whole_chains : (es : List LogEntry) (on : Type 0) → on → InChains es on
    → AreChains es (by_pieces es)
whole_chains es on so c =
    subst (λ (l : List LogEntry). AreChains l (by_pieces es))
    (sym (c.are ∙ ap (λ (l : List LogEntry). c.done ++ l) (c.all so) ∙ append-nil c.done))
    c.chains

-- one piece more is one call more
pub pieces_push : (es own : List LogEntry) (stand : Bool) (call : LogEntry) (on : Type 0)
    → on → InChains es on → PieceChain stand own call
    → by_pieces (es ++ own) ≡ by_pieces es ++ call ∷ []
pieces_push es own stand call on so c chain =
    chains_ahead es own (by_pieces es) (whole_chains es on so c)
    ∙ ap (λ (l : List LogEntry). by_pieces es ++ l) (chain_one stand own call chain)

pub chains_push : (es own : List LogEntry) (stand : Bool) (call : LogEntry) (on on' : Type 0)
    → on → InChains es on → PieceChain stand own call → InChains (es ++ own) on'
chains_push es own stand call on on' so c chain = record {
  done = es ++ own;
  lost = [];
  are = sym (append-nil (es ++ own));
  chains = subst (λ (l : List LogEntry). AreChains (es ++ own) l)
      (sym (pieces_push es own stand call on so c chain))
      (more_chains es own (by_pieces es) stand call (whole_chains es on so c) chain);
  are_lost = inl refl;
  all = λ goes. refl;
}

-- one in which memory was wanted is none
pub pieces_lost : (es own : List LogEntry) (on : Type 0) → on → InChains es on
    → (own ≡ []) ⊎ LetsOn own → by_pieces (es ++ own) ≡ by_pieces es
pieces_lost es own on so c lost =
    chains_ahead es own (by_pieces es) (whole_chains es on so c)
    ∙ ap (λ (l : List LogEntry). by_pieces es ++ l) (lost_none own lost)
    ∙ append-nil (by_pieces es)

pub chains_lost : (es own : List LogEntry) (on on' : Type 0) → on → (on' → ⊥) → InChains es on
    → (own ≡ []) ⊎ LetsOn own → InChains (es ++ own) on'
chains_lost es own on on' so off c lost = record {
  done = es;
  lost = own;
  are = refl;
  chains = subst (λ (l : List LogEntry). AreChains es l)
      (sym (pieces_lost es own on so c lost)) (whole_chains es on so c);
  are_lost = lost;
  all = λ goes. absurd (off goes);
}

-- no call more
pub chains_still : (es es' : List LogEntry) (on on' : Type 0) → es' ≡ es → (on' → on)
    → InChains es on → InChains es' on'
chains_still es es' on on' is off c =
    subst (λ (l : List LogEntry). InChains l on') (sym is) (record {
      done = c.done;
      lost = c.lost;
      are = c.are;
      chains = c.chains;
      are_lost = c.are_lost;
      all = λ goes. c.all (off goes);
    })

-- ---- the calls of a side

-- by the calls that it made before, while it went on
module _ (own es : List LogEntry) (on : Type 0) (so : on) (c : InChains (requests_in own) on)
  where
    -- a piece more
    module _ (stand : Bool) (call : LogEntry) (chain : PieceChain stand es call) where
      pub pieces_more : pieces_in (own ++ es) ≡ pieces_in own ++ call ∷ []
      pieces_more =
          ap by_pieces (requests_on own es (piece_parts stand es call chain))
          ∙ pieces_push (requests_in own) es stand call on so c chain

      pub chains_more : (on' : Type 0) → InChains (requests_in (own ++ es)) on'
      chains_more on' =
          chains_still (requests_in own ++ es) (requests_in (own ++ es)) on' on'
          (requests_on own es (piece_parts stand es call chain)) (λ goes. goes)
          (chains_push (requests_in own) es stand call on on' so c chain)

    -- one in which memory was wanted
    module _ (lost : (es ≡ []) ⊎ LetsOn es) where
      pub pieces_less : pieces_in (own ++ es) ≡ pieces_in own
      pieces_less =
          ap by_pieces (requests_on own es (lost_parts es lost))
          ∙ pieces_lost (requests_in own) es on so c lost

      pub chains_less : (on' : Type 0) → (on' → ⊥) → InChains (requests_in (own ++ es)) on'
      chains_less on' off =
          chains_still (requests_in own ++ es) (requests_in (own ++ es)) on' on'
          (requests_on own es (lost_parts es lost)) (λ goes. goes)
          (chains_lost (requests_in own) es on on' so off c lost)

-- what is left of a piece in whose call memory was wanted
pub lost_of : (es : List LogEntry) (stand : Bool) (given : LetsOn es → Type 0)
    → (es ≡ []) ⊎ ((stand ≡ true) × (m : LetsOn es) × given m) → (es ≡ []) ⊎ LetsOn es
lost_of es stand given (inl none) = inl none
lost_of es stand given (inr (there, m, was)) = inr m
