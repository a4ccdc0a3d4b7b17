-- A node that the walk shows of a record's term: kind, action or name, key and depth are within their limits, and they make up its body.
use mathlib.Core.Path.{◌≡◌, refl}
use mathlib.Core.List.{List, [], ◌∷◌, ◌++◌}
use Prim.Native.Nat.{ℕ, zero, suc, ◌+◌, ◌≤◌}
use native.Mathlib.Omega.{arith}
use lib.ListN.{get_or, take, drop}
use Rattle.ccsk.specs.Term.{Term, Key, nil, pre, cho, par, res}
use Rattle.format.specs.Limits.{depth_limit}
use Rattle.format.specs.Kinds.{length_of_body}
use Rattle.format.specs.Read.{key_of}
use Rattle.format.specs.Encode.{high, low, depth, InRange, Fits, Bytes}
use Rattle.format.specs.Preorder.{Shown, shown, preorder}
use Rattle.format.proofs.Round.{key_bytes}
use Rattle.operations.specs.Ask.{ShownNode}
use Rattle.operations.proofs.Readable.{read_fits}
use Rattle.operations.proofs.Bounds.{refused_small}

-- the key of a body: its second and third byte
abbrev pub key_in : List ℕ → Key
key_in body = key_of (get_or body 1 0) (get_or body 2 0)

-- the body is its first byte and the two bytes of its key, as many of the three as the kind has
pub record SmallNode (kind : ℕ) (body : List ℕ) (d : ℕ) : Type 0 where
  pub known : kind ≤ 4
  pub byte : get_or body 0 0 ≤ 255
  pub key : key_in body ≤ 65535
  pub deep : d ≤ depth_limit
  pub whole : take (length_of_body kind) (get_or body 0 0 ∷ (high (key_in body) ∷ (low (key_in body) ∷ []))) ≡ body

abbrev SmallNodes : List Shown → Type 0
SmallNodes [] = Unit {0}
SmallNodes (shown k b d ∷ l) = SmallNode k b d × SmallNodes l

small_append : (l m : List Shown) → SmallNodes l → SmallNodes m → SmallNodes (l ++ m)
small_append [] m h g = g
small_append (shown k b d ∷ l) m h g = (h.0, small_append l m h.1 g)

-- a node without a body
bare : (kind d : ℕ) → kind ≤ 4 → d ≤ depth_limit → length_of_body kind ≡ 0 → SmallNode kind [] d
bare kind d k h e = record { known = k; byte = omega arith; key = omega arith; deep = h; whole = rw e }

small_preorder : (d : ℕ) (t : Term) → InRange t → depth t + d ≤ suc depth_limit → SmallNodes (preorder d t)
unfolding preorder depth
small_preorder d nil g h = (bare 0 d (omega arith) (omega arith) refl, tt)
small_preorder d (pre a k t) g h = (
  record { known = omega arith; byte = g.0; key = rw (key_bytes k) g.2; deep = omega arith; whole = rw (key_bytes k) },
  small_preorder (suc d) t g.3 (omega arith),
)
small_preorder d (cho t u) g h = (
  bare 2 d (omega arith) (omega arith) refl,
  small_append (preorder (suc d) t) (preorder (suc d) u) (small_preorder (suc d) t g.0 (omega arith)) (small_preorder (suc d) u g.1 (omega arith)),
)
small_preorder d (par t u) g h = (
  bare 3 d (omega arith) (omega arith) refl,
  small_append (preorder (suc d) t) (preorder (suc d) u) (small_preorder (suc d) t g.0 (omega arith)) (small_preorder (suc d) u g.1 (omega arith)),
)
small_preorder d (res a t) g h = (
  record { known = omega arith; byte = omega (arith, g.0.1); key = omega arith; deep = omega arith; whole = refl },
  small_preorder (suc d) t g.1 (omega arith),
)

-- at most one node is shown
abbrev pub SmallShown : List Shown → Type 0
SmallShown [] = Unit {0}
SmallShown (shown k b d ∷ []) = SmallNode k b d
SmallShown (shown k b d ∷ (x ∷ l)) = ⊥

one_small : (n : ℕ) (l : List Shown) → SmallNodes l → SmallShown (take 1 (drop n l))
one_small zero [] h = tt
one_small zero (shown k b d ∷ l) h = h.0
one_small (suc n) [] h = tt
one_small (suc n) (shown k b d ∷ l) h = one_small n l h.1

pub term_node_small : (n : ℕ) (t : Term) → Fits t → SmallShown (take 1 (drop n (preorder 1 t)))
term_node_small n t f = one_small n (preorder 1 t) (small_preorder 1 t f.range (omega (arith, f.deep)))

pub node_small : (s : List ℕ) → Bytes s → {n c : ℕ} {l : List Shown} → ShownNode s n c l → (c ≤ 13) × SmallShown l
node_small s B (ShownNode.unreadable e) = (refused_small s e, tt)
node_small s B {n} (ShownNode.done {t} e) = (omega arith, term_node_small n t (read_fits s B e))
