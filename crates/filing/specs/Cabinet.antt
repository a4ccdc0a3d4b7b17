-- Links from a key to one right below it, in the columns of a cabinet.
use Rattle.std.specs.Prelude.{◌≡◌, ◌⊎◌, ℕ, suc, ◌+◌, ◌*◌, ◌<◌, ◌/◌, ◌%◌, length, get_or, set}
use Rattle.ccsk.specs.Term.{Key}
use Rattle.format.specs.Limits.{node_limit}
use Rattle.filing.specs.declared.Cabinet.{Cabinet}

-- each column of links has a place for link 0 and one for each node that a record may have; there are as many drawers as such nodes
pub record Sized (x : Cabinet) : Type 0 where
  pub upper : length x.upper ≡ suc node_limit
  pub lower : length x.lower ≡ suc node_limit
  pub older : length x.older ≡ suc node_limit
  pub latest : length x.latest ≡ node_limit

-- nothing is filed
pub record Empty (x : Cabinet) : Type 0 where
  pub sized : Sized x
  pub upper : (i : ℕ) → get_or x.upper i 0 ≡ 0
  pub latest : (b : ℕ) → get_or x.latest b 0 ≡ 0

-- a link goes from the key m down to n
abbrev pub Link : Cabinet → Key → Key → Type 0
Link x m n = (i : ℕ) × (0 < m) × (get_or x.upper i 0 ≡ m) × (get_or x.lower i 0 ≡ n)

-- The drawer of a key. Keys less than 3,839 apart have different drawers, and so have keys that differ by a multiple of the number of drawers.
-- No more than 16 keys share a drawer.
abbrev pub drawer : Key → ℕ
drawer k = (k + k / node_limit * 257) % node_limit

-- link i is in drawer b
abbrev pub InDrawer : Cabinet → ℕ → ℕ → Type 0
InDrawer x b i = (0 < get_or x.upper i 0) × (drawer (get_or x.upper i 0) ≡ b)

-- of the links of drawer b that stand before `end`, h is the latest; 0 if there is none
pub record Latest (x : Cabinet) (b end h : ℕ) : Type 0 where
  pub there : (h ≡ 0) ⊎ InDrawer x b h
  pub before : h < end
  pub none : (i : ℕ) → h < i → i < end → ¬ InDrawer x b i

-- From the latest link of a drawer one goes from link to link through all of that drawer.
pub record Filed (x : Cabinet) : Type 0 where
  pub sized : Sized x
  pub zero : get_or x.upper 0 0 ≡ 0
  pub latest : (b : ℕ) → b < node_limit → Latest x b (suc node_limit) (get_or x.latest b 0)
  pub older : (i : ℕ) → 0 < get_or x.upper i 0 → Latest x (drawer (get_or x.upper i 0)) i (get_or x.older i 0)

-- the cabinet with link i, from u down to k, as the latest of its drawer
abbrev pub with_link : Cabinet → ℕ → Key → Key → Cabinet
with_link x i u k = record {
  upper = set x.upper i u;
  lower = set x.lower i k;
  older = set x.older i (get_or x.latest (drawer u) 0);
  latest = set x.latest (drawer u) i;
}

-- After n links, one more from u to k is filed, unless u or k is 0 and no key: there are r links then.
pub data Files (n : ℕ) (u k : Key) (x : Cabinet) : Cabinet → ℕ → Type 0 where
  none : (u ≡ 0) ⊎ (k ≡ 0) → Files n u k x x n
  one : 0 < u → 0 < k → Files n u k x (with_link x (n + 1) u k) (n + 1)
