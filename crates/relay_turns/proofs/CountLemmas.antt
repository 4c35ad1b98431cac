-- How often the links of a request were asked, by what each turn counted.
--
--   ups_twice                    a count that went up, and went up again
--   client_counts, both_counts   the uses of one turn, as their counts went up
--   client_both                  a turn that asked the client's link alone, or none, of two
--   min_twice                    what was counted of both, up to its last value
use Rattle.std.proofs.Common.{◌≡◌, ℕ, zero, suc, ◌+◌, min, inl, inr, refl, sym, ap, ◌∙◌, arith}
use Rattle.relay_links.specs.Count.{last_count, up}
use Rattle.relay_links.specs.Link.{LinkState}
use Rattle.relay_request.specs.Uses.{BothUse, ClientUses, ups}

-- a count that went up, and went up again
pub ups_twice : (a b count : ℕ) → ups a (ups b count) ≡ ups (a + b) count
ups_twice zero b count =
    let same : 0 + b ≡ b = omega (arith) in ap (λ (k : ℕ). ups k count) (sym same)
ups_twice (suc a) b count =
    let same : suc a + b ≡ suc (a + b) = omega (arith) in
    ap up (ups_twice a b count) ∙ ap (λ (k : ℕ). ups k count) (sym same)

-- the client's count went up by its uses
pub client_counts : (n : ℕ) (client client' : LinkState) → ClientUses n client client'
    → client'.used ≡ ups n client.used
client_counts n client client' (inl (is, used)) =
    used ∙ ap (λ (k : ℕ). ups k client.used) (sym is)
client_counts n client client' (inr (is, same)) =
    ap (λ (l : LinkState). l.used) same ∙ ap (λ (k : ℕ). ups k client.used) (sym is)

-- of two links, one that asked the client's alone asked, or none
pub client_both : (n : ℕ) (client client' link : LinkState) → ClientUses n client client'
    → BothUse n client client' link link
client_both n client client' link (inl (one, used)) =
    inl (one, inl (record { used = used; other_same = refl }))
client_both n client client' link (inr (none, still)) =
    inr (none, record { client_same = still; upstream_same = refl })

-- both counts went up by the uses of a turn
pub record BothCount (n used : ℕ) (client client' link' : LinkState) (start : ℕ) : Type 0 where
  pub of_client : ℕ
  pub of_own : ℕ
  pub client_rose : client'.used ≡ ups of_client client.used
  pub own_rose : link'.used ≡ ups (of_own + n) start
  pub all : used ≡ of_client + of_own

pub both_counts : (n used : ℕ) (client client' link link' : LinkState) (start : ℕ)
    → BothUse used client client' link link' → link.used ≡ ups n start
    → BothCount n used client client' link' start
both_counts n used client client' link link' start (inl (is, inl one)) asked =
    let same : n ≡ 0 + n = omega (arith) in
    let all : used ≡ 1 + 0 = omega (arith, is) in
    record {
      of_client = 1;
      of_own = 0;
      client_rose = one.used;
      own_rose = ap (λ (l : LinkState). l.used) one.other_same ∙ asked
          ∙ ap (λ (k : ℕ). ups k start) same;
      all = all;
    }
both_counts n used client client' link link' start (inl (is, inr one)) asked =
    let same : suc n ≡ 1 + n = omega (arith) in
    let all : used ≡ 0 + 1 = omega (arith, is) in
    record {
      of_client = 0;
      of_own = 1;
      client_rose = ap (λ (l : LinkState). l.used) one.other_same;
      own_rose = one.used ∙ ap up asked ∙ ap (λ (k : ℕ). ups k start) same;
      all = all;
    }
both_counts n used client client' link link' start (inr (is, none)) asked =
    let same : n ≡ 0 + n = omega (arith) in
    let all : used ≡ 0 + 0 = omega (arith, is) in
    record {
      of_client = 0;
      of_own = 0;
      client_rose = ap (λ (l : LinkState). l.used) none.client_same;
      own_rose = ap (λ (l : LinkState). l.used) none.upstream_same ∙ asked
          ∙ ap (λ (k : ℕ). ups k start) same;
      all = all;
    }

-- what was counted before and in a step is the sum of all uses
pub min_twice : (client earlier own more_client more_own before used after : ℕ)
    → before ≡ min (client + (earlier + own)) last_count → used ≡ more_client + more_own
    → after ≡ min (before + used) last_count
    → after ≡ min ((more_client + client) + (earlier + (more_own + own))) last_count
min_twice client earlier own more_client more_own before used after so_far is adds =
    omega (arith, so_far, is, adds)
