-- What the places of one key tell of the move that the pass of `moves` finds, in a part of a term.
use mathlib.Core.Path.{◌≡◌, refl, sym, ◌∙◌}
use mathlib.Core.Logic.{inl, inr, ◌≢◌}
use mathlib.Core.List.{List, [], ◌∷◌, ◌++◌}
use Prim.Native.Nat.{ℕ, ◌+◌, ◌<◌, ◌≤◌}
use native.Mathlib.Omega.{arith}
use lib.ListN.{length, length-append}
use Rattle.ccsk.specs.Term.{Label, Co}
use Rattle.ccsk.proofs.Basic.{co_sym}
use Rattle.ccsk.specs.Decide.{co?}
use Rattle.moves.specs.Move.{Move, still, step, stuck, joined_if, move_over_parallel}
use Rattle.lasts.specs.declared.Last.{Last}
use Rattle.lasts.specs.Last.{Scopes, slot, scope_of}

-- an action that a record can hold
abbrev pub Action : Label → Type 0
Action l = (l ≤ 255) × (l ≢ 128)

-- x are the lasts of a key, c the actions at all its places, in a part whose root is node n and whose nodes come before node b.
-- They cannot step: one of them is not last; there are more than two; the only one is stopped by a restriction within the part;
-- or the two do not fit together.
pub data Dead (n b : ℕ) : List Last → List Label → Type 0 where
  lost : {x : List Last} {c : List Label} → length x < length c → Dead n b x c
  many : {x : List Last} {c : List Label} → 2 < length c → Dead n b x c
  hidden : {e : Last} {k : Label} → n < e.scope → e.scope ≤ b → Dead n b (e ∷ []) (k ∷ [])
  clash : {e f : Last} {k l : Label} → ¬ (Co e.action f.action × (e.scope ≡ f.scope)) → Dead n b (e ∷ (f ∷ [])) (k ∷ (l ∷ []))

-- what they tell of the part's move, below the scopes s
pub data Told (s : Scopes) (n b : ℕ) : List Last → List Label → Move → Type 0 where
  none : Told s n b [] [] still
  lone : {e : Last} {k l : Label} → Action l → e.action ≡ l → e.scope ≡ scope_of s l → Told s n b (e ∷ []) (k ∷ []) (step l)
  pair : {e f : Last} {k l : Label} → Co e.action f.action → e.scope ≡ f.scope → Told s n b (e ∷ (f ∷ [])) (k ∷ (l ∷ [])) (step 0)
  dead : {x : List Last} {c : List Label} → Dead n b x c → Told s n b x c stuck

-- scopes that come from above node n
pub record Above (n : ℕ) (s : Scopes) : Type 0 where
  pub whole : length s ≡ 128
  pub past : (l : Label) → scope_of s l ≤ n

pub same_slot : (l k : Label) → Co l k → slot l ≡ slot k
same_slot l k (inl h) = omega arith
same_slot l k (inr h) = omega arith

fair : (s : Scopes) (l k : Label) → Co l k → scope_of s l ≡ scope_of s k
fair s l k c = rw (same_slot l k c)

no_tau_left : (k : Label) → ¬ Co 0 k
no_tau_left k (inl h) = omega arith
no_tau_left k (inr h) = omega arith

no_tau_right : (k : Label) → ¬ Co k 0
no_tau_right k c = no_tau_left k (co_sym c)

-- the part may be taken wider
pub wider_dead : {n b n' b' : ℕ} {x : List Last} {c : List Label} → n' ≤ n → b ≤ b' → Dead n b x c → Dead n' b' x c
wider_dead h i (lost l) = lost l
wider_dead h i (many l) = many l
wider_dead {n' = n'} {b' = b'} h i (hidden {e = e} l r) = hidden {e = e} (omega arith) (omega arith)
wider_dead h i (clash f) = clash f

pub wider : {s : Scopes} {n b n' b' : ℕ} {x : List Last} {c : List Label} {m : Move} → n' ≤ n → b ≤ b' → Told s n b x c m → Told s n' b' x c m
wider h i none = none
wider h i (lone a e q) = lone a e q
wider h i (pair c q) = pair c q
wider h i (dead d) = dead (wider_dead h i d)

-- no place, no move
pub nowhere : {s : Scopes} {n b : ℕ} {x : List Last} {m : Move} → Told s n b x [] m → (x ≡ []) × (m ≡ still)
nowhere none = (refl, refl)
nowhere (dead (lost h)) = absurd (omega arith)
nowhere (dead (many h)) = absurd (omega arith)

-- what cannot step beside another part, on either side
module _ (n b : ℕ) (x y : List Last) (c d : List Label) where
  lost_left : length x < length c → length y ≤ length d → Dead n b (x ++ y) (c ++ d)
  lost_left h i = let z : length (x ++ y) < length (c ++ d) = rw (length-append x y, length-append c d) (omega arith) in lost z

  many_both : 2 < length c + length d → Dead n b (x ++ y) (c ++ d)
  many_both h = let z : 2 < length (c ++ d) = rw (length-append c d) h in many z

-- two places in different scopes do not fit together, and three never do
apart : (n b : ℕ) (e f : Last) (k l : Label) → e.scope ≢ f.scope → Dead n b (e ∷ (f ∷ [])) (k ∷ (l ∷ []))
apart n b e f k l h = clash {e = e} {f = f} (λ g. h g.1)

three : (n b : ℕ) (x : List Last) (i j k : Label) (c : List Label) → Dead n b x (i ∷ (j ∷ (k ∷ c)))
three n b x i j k c = let z : 2 < length (i ∷ (j ∷ (k ∷ c))) = omega arith in many z

-- a parallel at node n, whose sides are the nodes before q and those from q on
module _ (s : Scopes) (n q b : ℕ) (v : Above n s) (nq : n < q) (qb : q ≤ b) where
  lone_dead : (e : Last) (k l : Label) (y : List Last) (d : List Label) → e.scope ≡ scope_of s l → Dead q b y d → Dead n b (e ∷ y) (k ∷ d)
  lone_dead e k l y d z (lost h) = let i : length (e ∷ y) < length (k ∷ d) = omega arith in lost i
  lone_dead e k l y d z (many h) = let i : 2 < length (k ∷ d) = omega arith in many i
  lone_dead e k l _ _ z (hidden {e = f} {k = j} h i) = apart n b e f k j (λ w. omega (arith, v.past l))
  lone_dead e k l _ _ z (clash f) = three n b _ k _ _ _

  pair_dead : (e f : Last) (k l : Label) (y : List Last) (d : List Label) → Dead q b y d → Dead n b (e ∷ (f ∷ y)) (k ∷ (l ∷ d))
  pair_dead e f k l y d (lost h) = let i : length (e ∷ (f ∷ y)) < length (k ∷ (l ∷ d)) = omega arith in lost i
  pair_dead e f k l y d (many h) = let i : 2 < length (k ∷ (l ∷ d)) = omega arith in many i
  pair_dead e f k l _ _ (hidden h i) = three n b _ k l _ _
  pair_dead e f k l _ _ (clash g) = three n b _ k l _ _

  hidden_told : (e : Last) (k : Label) (y : List Last) (d : List Label) (m : Move) → n < e.scope → e.scope ≤ q → length y ≤ length d → Told s q b y d m → Dead n b (e ∷ y) (k ∷ d)
  hidden_told e k _ _ _ h i fy none = hidden {e = e} (omega arith) (omega arith)
  hidden_told e k _ _ _ h i fy (lone {e = f} {k = j} {l = l} a z w) = apart n b e f k j (λ o. omega (arith, v.past l))
  hidden_told e k _ _ _ h i fy (pair c z) = three n b _ k _ _ _
  hidden_told e k y d _ h i fy (dead (lost g)) = let j : length (e ∷ y) < length (k ∷ d) = omega arith in lost j
  hidden_told e k y d _ h i fy (dead (many g)) = let j : 2 < length (k ∷ d) = omega arith in many j
  hidden_told e k _ _ _ h i fy (dead (hidden {e = f} {k = l} g j)) = apart n b e f k l (λ o. omega arith)
  hidden_told e k _ _ _ h i fy (dead (clash g)) = three n b _ k _ _ _

  clash_told : (e f : Last) (k l : Label) (y : List Last) (d : List Label) (m : Move) → ¬ (Co e.action f.action × (e.scope ≡ f.scope)) → length y ≤ length d → Told s q b y d m
      → Dead n b (e ∷ (f ∷ y)) (k ∷ (l ∷ d))
  clash_told e f k l _ _ _ g fy none = clash g
  clash_told e f k l _ _ _ g fy (lone a z w) = three n b _ k l _ _
  clash_told e f k l _ _ _ g fy (pair c z) = three n b _ k l _ _
  clash_told e f k l y d _ g fy (dead x) = pair_dead e f k l y d x

  joined : (e f : Last) (i j l k : Label) (o : Dec (Co l k)) → e.action ≡ l → f.action ≡ k → e.scope ≡ scope_of s l → f.scope ≡ scope_of s k → Told s n b (e ∷ (f ∷ [])) (i ∷ (j ∷ [])) (joined_if o)
  joined e f i j l k (yes o) p r z w = let c : Co e.action f.action = rw (p, r) o in let g : e.scope ≡ f.scope = z ∙ fair s l k o ∙ sym w in pair c g
  joined e f i j l k (no o) p r z w = dead (clash {e = e} {f = f} (λ g. o (rw (p, r) at g.0)))

  -- more than two, whatever the test says of tau
  unjoined : (x : List Last) (c : List Label) (l k : Label) (o : Dec (Co l k)) → ¬ Co l k → 2 < length c → Told s n b x c (joined_if o)
  unjoined x c l k (yes o) f h = absurd (f o)
  unjoined x c l k (no o) f h = dead (many h)

  pub told_parallel : (x y : List Last) (c d : List Label) (m w : Move) → length x ≤ length c → length y ≤ length d → Told s n q x c m → Told s q b y d w → Told s n b (x ++ y) (c ++ d) (move_over_parallel m w)
  told_parallel _ y _ d _ w fx fy none t = wider (omega arith) (omega arith) t
  told_parallel _ _ _ _ _ _ fx fy (lone a e z) none = lone a e z
  told_parallel _ _ _ _ _ _ fx fy (lone {e = e} {k = i} {l = l} a p z) (lone {e = f} {k = j} {l = k} a' r w) = joined e f i j l k (co? l k) p r z w
  told_parallel _ _ _ _ _ _ fx fy (lone {l = l} a p z) (pair c w) = unjoined _ (_ ∷ (_ ∷ (_ ∷ []))) l 0 (co? l 0) (no_tau_right l) (omega arith)
  told_parallel _ y _ d _ _ fx fy (lone {e = e} {k = i} {l = l} a p z) (dead x) = dead (lone_dead e i l y d z x)
  told_parallel _ _ _ _ _ _ fx fy (pair c z) none = pair c z
  told_parallel _ _ _ _ _ _ fx fy (pair c z) (lone {l = l} a p w) = unjoined _ (_ ∷ (_ ∷ (_ ∷ []))) 0 l (co? 0 l) (no_tau_left l) (omega arith)
  told_parallel _ _ _ _ _ _ fx fy (pair c z) (pair d w) = unjoined _ (_ ∷ (_ ∷ (_ ∷ (_ ∷ [])))) 0 0 (co? 0 0) (no_tau_left 0) (omega arith)
  told_parallel _ y _ d _ _ fx fy (pair {e = e} {f = f} {k = k} {l = l} c z) (dead x) = dead (pair_dead e f k l y d x)
  told_parallel x y c d _ _ fx fy (dead (lost h)) t = dead (lost_left n b x y c d h fy)
  told_parallel x y c d _ _ fx fy (dead (many h)) t = dead (many_both n b x y c d (omega arith))
  told_parallel _ y _ d _ w fx fy (dead (hidden {e = e} {k = k} h i)) t = dead (hidden_told e k y d w h i fy t)
  told_parallel _ y _ d _ w fx fy (dead (clash {e = e} {f = f} {k = k} {l = l} g)) t = dead (clash_told e f k l y d w g fy t)
