-- Numbers come and go.
use mathlib.Core.Path.{◌≡◌, refl, sym, ap, ◌∙◌}
use mathlib.Core.Logic.{inl, inr, ⊎_elim, ◌≢◌}
use mathlib.Core.List.{List}
use Prim.Native.Nat.{ℕ, ◌≤◌, ◌<◌}
use native.Mathlib.Omega.{arith}
use lib.ListN.{get_or, set}
use Rattle.least.specs.Tree.{leaf, Tree, Placed}
use Rattle.least.specs.Board.{There, Board, Some, Took}
use Rattle.least.proofs.Steps.{tree_outside, leaf_outside, set_outside}
use Rattle.least.proofs.Root.{root_least, root_there, root_small}

-- a leaf that does not hold its number holds none
no_number : {n : ℕ} {tree : List ℕ} → Tree n tree → (k : ℕ) → k < n → leaf n tree k ≢ k → leaf n tree k ≡ 65535
no_number T k h f = ⊎_elim (λ e. absurd (f e)) (λ e. e) (T.leaves.leaves k h)

-- what waits outside is a number that is not in the tree
outsider : {n : ℕ} {tree : List ℕ} → Board n tree → get_or tree 0 0 < 65535 → (get_or tree 0 0 < n) × (leaf n tree (get_or tree 0 0) ≡ 65535)
outsider B h = ⊎_elim (λ e. absurd (omega (arith, e))) (λ w. w) B.outside

module _ (n k : ℕ) (tree : List ℕ) (B : Board n tree) (h : k < n) (f : ¬ There n tree k) where
  free : leaf n tree k ≡ 65535
  free = no_number B.whole k h (λ e. f (inl e))

  -- k waits outside
  module _ (g : k ≤ get_or tree 0 0) where
    waits : Board n (set tree 0 k)
    waits = record { whole = tree_outside n tree k B.whole; outside = inr (rw zero (h, leaf_outside n tree k k h ∙ free)) }
      where
        zero : get_or (set tree 0 k) 0 0 ≡ k
        zero = set_outside tree k B.whole.leaves.some

    -- and what waited there goes into the tree
    module _ (l : get_or tree 0 0 < 65535) where
      other : get_or tree 0 0 ≢ k
      other e = f (inr e)

module _ (n : ℕ) (tree : List ℕ) (B : Board n tree) (S : Some n tree) where
  some : 0 < n
  some = omega (arith, S.1)

  -- the least waits outside
  module _ (g : get_or tree 0 0 < get_or tree 1 0) where
    was : (get_or tree 0 0 < n) × (leaf n tree (get_or tree 0 0) ≡ 65535)
    was = outsider B (omega (arith, root_small n tree B.whole some))

    pub took_outside : (r : ℕ) → r ≡ get_or tree 0 0 → Took n r tree (set tree 0 65535)
    took_outside r e = rw e (record {
      number = was.0;
      there = inr refl;
      least = λ k h w. ⊎_elim (λ y. omega (arith, root_least n tree B.whole k h y)) (λ y. omega arith) w;
      board = record { whole = tree_outside n tree 65535 B.whole; outside = inl zero };
      gone = ⊎_elim (λ y. omega (arith, y, leaf_outside n tree 65535 (get_or tree 0 0) was.0, was.1, was.0, B.whole.leaves.few)) (λ y. omega (arith, y, zero, was.0, B.whole.leaves.few));
      kept = λ j h q. rw (leaf_outside n tree 65535 j h, zero) (⊎_elim inl (λ y. absurd (omega (arith, y, B.whole.leaves.few))), ⊎_elim inl (λ y. absurd (q (sym y))));
    })
      where
        zero : get_or (set tree 0 65535) 0 0 ≡ 65535
        zero = set_outside tree 65535 B.whole.leaves.some

  -- the least stands at the root
  module _ (g : get_or tree 1 0 ≤ get_or tree 0 0) where
    low : get_or tree 1 0 < 65535
    low = ⊎_elim (λ y. omega (arith, root_least n tree B.whole S.0 S.1 y, S.1, B.whole.leaves.few)) (λ y. omega (arith, y, S.1, B.whole.leaves.few)) S.2

    root : (get_or tree 1 0 < n) × (leaf n tree (get_or tree 1 0) ≡ get_or tree 1 0)
    root = root_there n tree B.whole some low

    pub root_number : get_or tree 1 0 < n
    root_number = root.0

    pub took_root : (r : ℕ) → r ≡ get_or tree 1 0 → (tree' : List ℕ) → Placed n r 65535 tree tree' → Took n r tree tree'
    took_root r e tree' P = record {
      number = rw e root.0;
      there = inl (rw e root.1);
      least = λ k h w. rw e (⊎_elim (λ y. root_least n tree B.whole k h y) (λ y. omega (arith, y)) w);
      board = record { whole = P.whole; outside = rw P.outside (⊎_elim inl (λ w. inr (w.0, P.kept (get_or tree 0 0) w.0 (apart w) ∙ w.1)) B.outside) };
      gone = ⊎_elim (λ y. omega (arith, y, P.here, e, root.0, B.whole.leaves.few)) (λ y. ⊎_elim (λ z. omega (arith, z, y, P.outside, e, root.0, B.whole.leaves.few)) (λ w. apart w (sym P.outside ∙ y)) B.outside);
      kept = λ j h q. rw (P.kept j h q, P.outside) ((λ z. z), λ z. z);
    }
      where
        apart : (get_or tree 0 0 < n) × (leaf n tree (get_or tree 0 0) ≡ 65535) → get_or tree 0 0 ≢ r
        apart w y = omega (arith, w.0, B.whole.leaves.few, w.1, root.1, ap (leaf n tree) (y ∙ e), y, e)
