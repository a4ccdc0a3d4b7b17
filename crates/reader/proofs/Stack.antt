-- A stack in an array: its top, and what is left when the top goes and others come.
use mathlib.Core.Path.{◌≡◌, refl, ap, sym, ◌∙◌}
use mathlib.Core.List.{List, ◌∷◌}
use Prim.Native.Nat.{ℕ, zero, suc, ◌+◌, ◌-◌, ◌<◌, ◌≤◌}
use native.Mathlib.Numerals.{add-one, sub-one}
use native.Mathlib.Omega.{arith}
use lib.ListN.{length, get_or, set, length-set}
use lib.Seq.{get_or-set_same, get_or-set_other}
use Rattle.reader.specs.Due.{stacked, push}

pub stacked-length : (n : ℕ) (l : List ℕ) → length (stacked n l) ≡ n
stacked-length zero l = refl
stacked-length (suc n) l = ap suc (stacked-length n l)

pub stacked_top : (n : ℕ) (l : List ℕ) → 0 < n → stacked n l ≡ get_or l (n - 1) 0 ∷ stacked (n - 1) l
stacked_top zero l h = absurd (omega arith)
stacked_top (suc n) l h = simp sub-one

stacked-set : (n : ℕ) (l : List ℕ) (i v : ℕ) → n ≤ i → stacked n (set l i v) ≡ stacked n l
stacked-set zero l i v h = refl
stacked-set (suc n) l i v h = rw (get_or-set_other l i n v 0 (omega arith), stacked-set n l i v (omega arith))

-- a stack with d on top of l
module _ (n : ℕ) (a : List ℕ) (d : ℕ) (l : List ℕ) (e : stacked n a ≡ d ∷ l) where
  pub some : 0 < n
  some = omega (arith, stacked-length n a, ap length e)

  both : get_or a (n - 1) 0 ∷ stacked (n - 1) a ≡ d ∷ l
  both = sym (stacked_top n a some) ∙ e

  pub top_is : get_or a (n - 1) 0 ≡ d
  top_is = let b = both in cc

  -- the top goes
  pub popped : stacked (n - 1) a ≡ l
  popped = let b = both in cc

  module _ (v : ℕ) (h : n ≤ length a) where
    -- the top gives way to v
    pub replaced : stacked n (set a (n - 1) v) ≡ v ∷ l
    replaced = stacked_top n (set a (n - 1) v) some
        ∙ rw (get_or-set_same a (n - 1) v 0 (omega (arith, some)), stacked-set (n - 1) a (n - 1) v (omega arith), popped)

    -- the top gives way to v, and v comes once more
    pub doubled : n < length a → stacked (n + 1) (set (set a (n - 1) v) n v) ≡ v ∷ (v ∷ l)
    doubled g = rw (add-one n, get_or-set_same (set a (n - 1) v) n v 0 (rw length-set g), stacked-set n (set a (n - 1) v) n v (omega arith), replaced)

    -- the top gives way to v as often as there are children
    pub pushed : n < length a → (c : ℕ) → c ≤ 2 → stacked (n - 1 + c) (set (set a (n - 1) v) n v) ≡ push c v l
    unfolding push
    pushed g zero u = let m : n - 1 + 0 ≡ n - 1 = omega arith in
        rw (m, stacked-set (n - 1) (set a (n - 1) v) n v (omega arith), stacked-set (n - 1) a (n - 1) v (omega arith), popped)
    pushed g (suc zero) u = let m : n - 1 + 1 ≡ n = omega (arith, some) in rw (m, stacked-set n (set a (n - 1) v) n v (omega arith), replaced)
    pushed g (suc (suc zero)) u = let m : n - 1 + 2 ≡ n + 1 = omega (arith, some) in rw m (doubled g)
    pushed g (suc (suc (suc c))) u = absurd (omega arith)
