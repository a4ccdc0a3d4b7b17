-- The key right above: of the prefixes that hold a key and stand above a marked prefix, the nearest one counts.
use Rattle.std.specs.Prelude.{◌≡◌, ◌⊎◌, zero, suc, ◌<◌}
use Rattle.ccsk.specs.Term.{Term, Key, nil, pre, cho, par, res}

-- Somewhere in t, m is the key right above a prefix that holds n. The key right above t itself is u, 0 if there is none
-- (004, Definition 3.1: of ord only the nearest links; the others follow by chains).
abbrev pub RightAbove : Key → Term → Key → Key → Type 0
RightAbove u nil m n = ⊥
RightAbove u (pre a zero t) m n = RightAbove u t m n
RightAbove u (pre a (suc k) t) m n = ((0 < m) × (m ≡ u) × (n ≡ suc k)) ⊎ RightAbove (suc k) t m n
RightAbove u (cho t r) m n = RightAbove u t m n ⊎ RightAbove u r m n
RightAbove u (par t r) m n = RightAbove u t m n ⊎ RightAbove u r m n
RightAbove u (res a t) m n = RightAbove u t m n
