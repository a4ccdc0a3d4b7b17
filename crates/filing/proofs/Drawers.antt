-- One link more in the cabinet: every drawer stays in order, and no other link changes.
use mathlib.Core.Path.{◌≡◌, refl, sym, ap, ◌∙◌}
use mathlib.Core.Logic.{◌⊎◌, inl, inr, ⊎_elim, ◌≢◌, ◌↔◌}
use Prim.Native.Nat.{ℕ, suc, ◌+◌, ◌<◌, ◌≤◌}
use native.Mathlib.Decide.{ℕ_discrete, dec_lt}
use native.Mathlib.Omega.{arith}
use lib.ListN.{length, get_or, replicate, length-set, length-replicate}
use lib.Seq.{get_or-set_same, get_or-set_other}
use Rattle.ccsk.specs.Term.{Key}
use Rattle.ccsk.proofs.Basic.{never}
use Rattle.ccsk.proofs.Lists.{get_or_zeros}
use Rattle.format.specs.Limits.{node_limit}
use Rattle.filing.specs.declared.Cabinet.{Cabinet}
use Rattle.filing.specs.Cabinet.{with_link, Sized, Empty, Link, drawer, InDrawer, Latest, Filed, Files, none, one}

-- The cabinet is in order and holds n links, numbered from 1 on.
pub record Holding (x : Cabinet) (n : ℕ) : Type 0 where
  pub filed : Filed x
  pub rest : (i : ℕ) → n < i → get_or x.upper i 0 ≡ 0

-- columns of zeros file nothing
pub zeros : (n : ℕ) → n ≡ node_limit → (m : ℕ) → m ≡ suc node_limit
    → Empty (record { upper = replicate m 0; lower = replicate m 0; older = replicate m 0; latest = replicate n 0 })
zeros n e m f = record {
  sized = record { upper = long m ∙ f; lower = long m ∙ f; older = long m ∙ f; latest = long n ∙ e };
  upper = get_or_zeros m;
  latest = get_or_zeros n;
}
  where
    long : (i : ℕ) → length {A = ℕ} (replicate i 0) ≡ i
    long i = length-replicate {A = ℕ} i 0

pub holding_none : (x : Cabinet) → Empty x → Holding x 0
holding_none x E = record {
  filed = record {
    sized = E.sized;
    zero = E.upper 0;
    latest = λ b h. record {
      there = inl (E.latest b);
      before = omega (arith, E.latest b);
      none = λ i g k z. never z.0 (E.upper i);
    };
    older = λ i p. never p (E.upper i);
  };
  rest = λ i h. E.upper i;
}

-- nothing is filed, so nothing is linked
pub link_none : (x : Cabinet) → Empty x → (m k : Key) → ¬ Link x m k
link_none x E m k l = never l.1 (sym l.2 ∙ E.upper l.0)

module _ (x : Cabinet) (n : ℕ) (u k : Key) (H : Holding x n) (g : n < node_limit) (p : 0 < u) where
  abbrev after : Cabinet
  after = with_link x (n + 1) u k

  size : Sized x
  size = H.filed.sized

  upper_new : get_or after.upper (n + 1) 0 ≡ u
  upper_new = get_or-set_same x.upper (n + 1) u 0 (omega (arith, size.upper))

  upper_old : (i : ℕ) → i ≢ n + 1 → get_or after.upper i 0 ≡ get_or x.upper i 0
  upper_old i q = get_or-set_other x.upper (n + 1) i u 0 q

  -- what was filed has a number up to n
  few : (i : ℕ) → 0 < get_or x.upper i 0 → i < n + 1
  few i q = pick (dec_lt n i)
    where
      pick : Dec (n < i) → i < n + 1
      pick (yes h) = never q (H.rest i h)
      pick (no h) = omega arith

  stays : (b i : ℕ) → InDrawer x b i → InDrawer after b i
  stays b i z = rw (upper_old i (λ e. omega (arith, few i z.0))) z

  came : (b i : ℕ) → i ≢ n + 1 → InDrawer after b i → InDrawer x b i
  came b i q z = rw (upper_old i q) at z

  -- what is the latest of a drawer stays so before the new link, and in every other drawer
  kept : (b end h : ℕ) → (end ≤ n + 1) ⊎ (b ≢ drawer u) → Latest x b end h → Latest after b end h
  kept b end h o L = record {
    there = ⊎_elim inl (λ z. inr (stays b h z)) L.there;
    before = L.before;
    none = λ i q r z. other i q r z (ℕ_discrete i (n + 1)) o;
  }
    where
      other : (i : ℕ) → h < i → i < end → InDrawer after b i → Dec (i ≡ n + 1) → (end ≤ n + 1) ⊎ (b ≢ drawer u) → ⊥
      other i q r z (no d) o = L.none i q r (came b i d z)
      other i q r z (yes e) (inl f) = omega arith
      other i q r z (yes e) (inr f) = let w : drawer (get_or after.upper (n + 1) 0) ≡ b = rw e at z.1 in f (sym w ∙ ap drawer upper_new)

  below_limit : drawer u < node_limit
  below_limit = omega arith

  -- the new link is the latest of its drawer
  newest : Latest after (drawer u) (suc node_limit) (n + 1)
  newest = record {
    there = inr (rw upper_new (p, refl));
    before = omega (arith, g);
    none = λ i q r z. never z.0 (upper_old i (λ e. omega arith) ∙ H.rest i (omega arith));
  }

  -- and before it stands what was the latest
  one_before : Latest after (drawer u) (n + 1) (get_or x.latest (drawer u) 0)
  one_before =
      let L = H.filed.latest (drawer u) below_limit in
      record {
        there = ⊎_elim inl (λ z. inr (stays (drawer u) _ z)) L.there;
        before = ⊎_elim (λ e. omega arith) (λ z. few _ z.0) L.there;
        none = λ i q r z. L.none i q (omega arith) (came (drawer u) i (λ e. omega arith) z);
      }

  holding_more : Holding after (n + 1)
  holding_more = record {
    filed = record {
      sized = record { upper = rw length-set size.upper; lower = rw length-set size.lower; older = rw length-set size.older; latest = rw length-set size.latest };
      zero = upper_old 0 (λ e. omega arith) ∙ H.filed.zero;
      latest = λ b h. drawers b h (ℕ_discrete b (drawer u));
      older = λ i q. links i q (ℕ_discrete i (n + 1));
    };
    rest = λ i h. upper_old i (λ e. omega arith) ∙ H.rest i (omega arith);
  }
    where
      drawers : (b : ℕ) → b < node_limit → Dec (b ≡ drawer u) → Latest after b (suc node_limit) (get_or after.latest b 0)
      drawers b h (yes e) = rw (e, get_or-set_same x.latest (drawer u) (n + 1) 0 (omega (arith, size.latest))) newest
      drawers b h (no e) = rw (get_or-set_other x.latest (drawer u) b (n + 1) 0 e) (kept b (suc node_limit) _ (inr e) (H.filed.latest b h))

      links : (i : ℕ) → 0 < get_or after.upper i 0 → Dec (i ≡ n + 1) → Latest after (drawer (get_or after.upper i 0)) i (get_or after.older i 0)
      links i q (yes e) = rw (e, upper_new, get_or-set_same x.older (n + 1) (get_or x.latest (drawer u) 0) 0 (omega (arith, size.older))) one_before
      links i q (no e) =
          let r : 0 < get_or x.upper i 0 = rw (upper_old i e) at q in
          rw (upper_old i e, get_or-set_other x.older (n + 1) i (get_or x.latest (drawer u) 0) 0 e)
          (kept (drawer (get_or x.upper i 0)) i _ (inl (omega (arith, few i r))) (H.filed.older i r))

  -- the links are the old ones and the new one
  link_more : (m j : Key) → Link after m j ↔ (Link x m j ⊎ ((m ≡ u) × (j ≡ k)))
  link_more m j = (λ l. there l (ℕ_discrete l.0 (n + 1)), back)
    where
      lower_new : get_or after.lower (n + 1) 0 ≡ k
      lower_new = get_or-set_same x.lower (n + 1) k 0 (omega (arith, size.lower))

      there : (l : Link after m j) → Dec (l.0 ≡ n + 1) → Link x m j ⊎ ((m ≡ u) × (j ≡ k))
      there l (yes e) = inr (sym l.2 ∙ rw e upper_new, sym l.3 ∙ rw e lower_new)
      there l (no e) = inl (l.0, l.1, sym (upper_old l.0 e) ∙ l.2, sym (get_or-set_other x.lower (n + 1) l.0 k 0 e) ∙ l.3)

      back : Link x m j ⊎ ((m ≡ u) × (j ≡ k)) → Link after m j
      back (inl l) =
          let e : l.0 ≢ n + 1 = λ z. omega (arith, few l.0 (rw l.2 l.1)) in
          (l.0, l.1, upper_old l.0 e ∙ l.2, get_or-set_other x.lower (n + 1) l.0 k 0 e ∙ l.3)
      back (inr z) = (n + 1, rw z.0 p, upper_new ∙ sym z.0, lower_new ∙ sym z.1)

-- filing at a node that holds k, below u
pub holding_filed : {x : Cabinet} {n : ℕ} {u k : Key} {y : Cabinet} {r : ℕ} → Files n u k x y r → Holding x n → n < node_limit → Holding y r
holding_filed (none z) H g = H
holding_filed {x} {n = n} {u = u} {k = k} (one p q) H g = holding_more x n u k H g p

pub link_filed : {x : Cabinet} {n : ℕ} {u k : Key} {y : Cabinet} {r : ℕ} → Files n u k x y r → Holding x n → n < node_limit
    → (m j : Key) → Link y m j ↔ (Link x m j ⊎ ((0 < u) × (0 < k) × (m ≡ u) × (j ≡ k)))
link_filed (none z) H g m j = (inl, λ l. ⊎_elim (λ i. i) (λ i. ⊎_elim (never i.0) (never i.1) z) l)
link_filed {x} {n = n} {u = u} {k = k} (one p q) H g m j = let w = link_more x n u k H g p m j in
    (λ l. ⊎_elim inl (λ i. inr (p, q, i.0, i.1)) (w.0 l), λ l. w.1 (⊎_elim inl (λ i. inr (i.2, i.3)) l))

-- at most one link more
pub filed_few : {x : Cabinet} {n : ℕ} {u k : Key} {y : Cabinet} {r : ℕ} → Files n u k x y r → r ≤ n + 1
filed_few (none z) = omega arith
filed_few (one p q) = omega arith
