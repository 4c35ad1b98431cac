-- The links that are kept, as one is looked for from behind.
use Rattle.std.proofs.Common.{◌≡◌, ℕ, ◌+◌, ◌-◌, ◌<◌, ◌≤◌, ◌∙◌, Bool, true, false, not, cond, List, [], ◌∷◌, ◌++◌, length, take, drop, get_or, ap, sym, refl, arith, append_assoc}
use Rattle.std.specs.List.{remove}
use Rattle.std.proofs.lemmas.List.{take_more, drop_more, take-append-drop, length-append, length-take-le, get_or_at, get_or_default}
use Rattle.std.proofs.lemmas.List.Edits.{remove-append_right, length-remove}
use Rattle.std.proofs.lemmas.Slice.Eq.{bytes_eq-Decides}
use Rattle.std.specs.Bool.{beq}
use Rattle.relay_tasks.specs.declared.peer.Peer.{Peer}
use Rattle.relay_tcp.specs.declared.idle.IdleLink.{IdleLink}
use Rattle.relay_tcp.specs.declared.tcp_link.TcpLink.{TcpLink}
use Rattle.relay_tcp.specs.TcpLink.{IsUnused, IsSameConnection}
use Rattle.relay_tcp.specs.IdleLinks.{is_for, others_than, IsTaken, CountsUnasked}

-- the links, where those to the peer from a place on are gone
abbrev pub left_behind : Peer → List IdleLink → ℕ → List IdleLink
left_behind peer links place = take place links ++ others_than peer (drop place links)

-- the link at a place, and the others behind it
module _ (peer : Peer) (links : List IdleLink) (at : ℕ) (idle : IdleLink)
    (within : at < length links) where
  others : List IdleLink
  others = others_than peer (drop (at + 1) links)

  -- where the link at the place was not looked at, it stands before them
  left_more : left_behind peer links (at + 1) ≡ take at links ++ (get_or links at idle ∷ others)
  unfolding others
  left_more =
      ap (λ front. front ++ others_than peer (drop (at + 1) links)) (take_more links at idle within)
      ∙ append_assoc (take at links) (get_or links at idle ∷ [])
      (others_than peer (drop (at + 1) links))

  -- the link that is read there is the one that stood there
  pub reads : idle ≡ get_or (left_behind peer links (at + 1)) at idle → idle ≡ get_or links at idle
  reads is =
      is
      ∙ ap (λ (xs : List IdleLink). get_or xs at idle) left_more
      ∙ get_or_at (take at links) (get_or links at idle) others idle at
      (length-take-le at links (omega arith))

  -- the others from the place on, by whether it is one of them
  others_more : idle ≡ get_or links at idle
      → others_than peer (drop at links) ≡ cond (not (is_for peer idle)) (idle ∷ others) others
  unfolding others
  others_more is =
      ap (others_than peer)
      (drop_more links at idle within ∙ ap (λ first. first ∷ drop (at + 1) links) (sym is))

  -- the link is taken out
  pub takes_out : remove (left_behind peer links (at + 1)) at
      ≡ take at links ++ others_than peer (drop (at + 1) links)
  unfolding others
  takes_out =
      ap (λ (xs : List IdleLink). remove xs at) left_more
      ∙ remove-append_right (take at links) (get_or links at idle ∷ others) at at
      (length-take-le at links (omega arith)) (omega arith)
      ∙ ap (λ place. take at links ++ remove (get_or links at idle ∷ others) place)
      (let none : at - at ≡ 0 = omega arith in none)

  -- a link to the peer is gone then
  pub drops : idle ≡ get_or links at idle → is_for peer idle ≡ true
      → take at links ++ others_than peer (drop (at + 1) links) ≡ left_behind peer links at
  unfolding others
  drops is same =
      ap (λ rest. take at links ++ rest)
      (sym (others_more is ∙ ap (λ b. cond (not b) (idle ∷ others) others) same))

  -- the links are those before it, it, and those behind it
  pub parts : idle ≡ get_or links at idle → links ≡ take at links ++ idle ∷ drop (at + 1) links
  parts is =
      sym (take-append-drop at links)
      ∙ ap (λ rest. take at links ++ rest)
      (drop_more links at idle within ∙ ap (λ first. first ∷ drop (at + 1) links) (sym is))

-- a link to the peer goes to its address, with TLS as there
pub same_address : (peer : Peer) (idle : IdleLink) → is_for peer idle ≡ true
    → idle.peer.address ≡ peer.address
same_address peer idle same =
    (bytes_eq-Decides idle.peer.address peer.address).0 (grind arith)

-- flags that compare as equal are one
same_flag : (x y : Bool) → beq x y ≡ true → x ≡ y
same_flag true true is = refl
same_flag true false is = sym is
same_flag false true is = is
same_flag false false is = refl

pub same_tls : (peer : Peer) (idle : IdleLink) → is_for peer idle ≡ true
    → idle.peer.tls ≡ peer.tls
same_tls peer idle same = same_flag idle.peer.tls peer.tls (grind arith)

-- the search comes to a link to the peer, at the place before the one where it stood
module _ (peer : Peer) (links now after : List IdleLink) (place : ℕ) (seen idle : IdleLink)
    (some : 0 < place) (within : place ≤ length links) (stands : now ≡ left_behind peer links place)
    (seen_is : seen ≡ get_or now (place - 1) seen) (same : is_for peer seen ≡ true)
    (idle_is : idle ≡ get_or now (place - 1) idle) (out : after ≡ remove now (place - 1)) where
  before : now ≡ left_behind peer links (place - 1 + 1)
  before = stands ∙ ap (left_behind peer links) (let e : place ≡ place - 1 + 1 = omega arith in e)

  -- the link that is asked about, and the one that is taken out, are the one that stood there
  seen_there : seen ≡ get_or links (place - 1) seen
  seen_there =
      reads peer links (place - 1) seen (omega arith)
      (seen_is ∙ ap (λ (xs : List IdleLink). get_or xs (place - 1) seen) before)

  there : idle ≡ get_or links (place - 1) idle
  there =
      reads peer links (place - 1) idle (omega arith)
      (idle_is ∙ ap (λ (xs : List IdleLink). get_or xs (place - 1) idle) before)

  found : is_for peer idle ≡ true
  found =
      ap (is_for peer)
      (there ∙ get_or_default links (place - 1) idle seen (omega arith) ∙ sym seen_there)
      ∙ same

  -- what stays
  stay : after ≡ take (place - 1) links ++ others_than peer (drop (place - 1 + 1) links)
  stay =
      out
      ∙ ap (λ (xs : List IdleLink). remove xs (place - 1)) before
      ∙ takes_out peer links (place - 1) idle (omega arith)

  -- one link less stays
  one_less : length after + 1 ≡ length now
  one_less =
      ap (λ (xs : List IdleLink). length xs + 1) out
      ∙ length-remove now (place - 1)
      (let size : length now ≡ place + length (others_than peer (drop place links)) =
      ap length stands
      ∙ length-append (take place links) (others_than peer (drop place links))
      ∙ ap (λ n. n + length (others_than peer (drop place links)))
      (length-take-le place links within) in
      omega (arith, size, some))

  -- where the link is let go of, the search goes on, whether the link was counted or not
  pub goes_on : (count before_it behind_it : ℕ) → CountsUnasked count links 0 before_it now
      → before_it ≤ behind_it → behind_it ≤ before_it + 1
      → (place - 1 ≤ length links) × (after ≡ left_behind peer links (place - 1))
      × CountsUnasked count links 0 behind_it after
  goes_on count before_it behind_it counts grew once = (
    omega (arith, within),
    stay ∙ drops peer links (place - 1) idle (omega arith) there found,
    record {
      grows = omega (arith, counts.grows, grew);
      bounded = omega (arith, counts.bounded, once, one_less);
    },
  )

  -- where it is, it is taken
  pub taken : (link : TcpLink) → IsSameConnection idle.link link → idle.link.ended ≡ false
      → idle.link.faults ≡ 0 → IsUnused link true → IsTaken peer links link after
  taken link connection was_open faultless unused = record {
    older = take (place - 1) links;
    idle = idle;
    newer = drop (place - 1 + 1) links;
    was_kept = parts peer links (place - 1) idle (omega arith) there;
    address = same_address peer idle found;
    tls = same_tls peer idle found;
    connection = connection;
    was_open = was_open;
    faultless = faultless;
    unused = unused;
    stay = stay;
  }
