-- What a node's form tells of the part that begins there.
use mathlib.Core.Path.{◌≡◌, refl, sym, ◌∙◌}
use mathlib.Core.Logic.{◌≢◌}
use mathlib.Core.List.{List}
use mathlib.Core.Bool.{Bool, true, false, true≢false}
use Prim.Native.Nat.{ℕ, zero, suc, ◌+◌, ◌<◌, ◌≤◌}
use native.Mathlib.Decide.{ℕ_discrete}
use native.Mathlib.Omega.{arith}
use lib.ListN.{get_or}
use Rattle.ccsk.specs.Term.{Term, Name, Label, Node, nil, pre, cho, par, res, Std, Channel, size}
use Rattle.ccsk.proofs.Basic.{size_pos}
use Rattle.format.specs.Limits.{node_limit}
use Rattle.moves.specs.Move.{holds}
use Rattle.moves.proofs.Holds.{holds_std}
use Rattle.offers.specs.Forms.{prefix_form, form_of_choice, Part, SomePart}
use Rattle.offers.proofs.Parts.{Silent, Passes, Splits, Never, Across, silent_nil, silent_shut, silent_barred, passes_done, passes_first, passes_second, splits_choice, splits_parallel}

-- the part at node n, by its form
pub data Form (F A E : List ℕ) (n : Node) : ℕ → Term → Type 0 where
  nothing : {t : Term} → Silent t → Form F A E n 0 t
  own : {a : Label} {t : Term} → get_or A n 0 ≡ a → a ≢ 128 → Std t → Form F A E n 1 (pre a 0 t)
  next : {t u : Term} → Passes t 1 u → Part F A E (n + 1) u → Form F A E n 2 t
  second : {t u : Term} (m : ℕ) → Passes t (1 + m) u → get_or E (n + 1) 0 ≡ n + 1 + m → Part F A E (n + 1 + m) u → Form F A E n 3 t
  either : {t u v : Term} → Splits Never t u v → get_or E (n + 1) 0 ≡ n + 1 + size u → Part F A E (n + 1) u → Part F A E (n + 1 + size u) v → Form F A E n 4 t
  both : {t u v : Term} → Splits (Across u v) t u v → get_or E (n + 1) 0 ≡ n + 1 + size u → Part F A E (n + 1) u → Part F A E (n + 1 + size u) v → Form F A E n 5 t
  hidden : {a : Name} {t : Term} → get_or A n 0 ≡ a → Channel a → Part F A E (n + 1) t → Form F A E n 6 (res a t)

not_std : (t : Term) → holds t ≡ true → ¬ Std t
not_std t e s = true≢false (sym e ∙ (holds_std t).1 s)

-- a part ends where its row of ends says
pub part_end : {F A E : List ℕ} {n : Node} (t : Term) → Part F A E n t → get_or E n 0 ≡ n + size t
part_end nil P = P.lines.0
part_end (pre a k t) P = P.lines.0
part_end (cho t u) P = P.lines.0
part_end (par t u) P = P.lines.0
part_end (res a t) P = P.lines.0

module _ {F A E : List ℕ} where
  pub form : (n : Node) (t : Term) → Part F A E n t → Form F A E n (get_or F n 0) t
  unfolding size
  form n nil P = rw P.lines.1 (nothing silent_nil)
  form n (pre a zero t) P = pick (holds t) refl P.lines.1
    where
      pick : (b : Bool) → holds t ≡ b → get_or F n 0 ≡ prefix_form zero b → Form F A E n (get_or F n 0) (pre a zero t)
      pick true e q = rw q (nothing (silent_shut (not_std t e)))
      pick false e q = rw q (own P.lines.2 P.range.1 ((holds_std t).0 e))
  form n (pre a (suc k) t) P = rw P.lines.1 (next {u = t} (passes_done {a = a} {k = suc k} (omega arith)) (record { lines = P.lines.3; range = P.range.3; nodes = omega (arith, P.nodes) }))
  form n (cho t u) P = pick (holds t) (holds u) refl refl P.lines.1
    where
      left : Part F A E (n + 1) t
      left = record { lines = P.lines.2; range = P.range.0; nodes = omega (arith, P.nodes) }

      right : Part F A E (n + 1 + size t) u
      right = record { lines = P.lines.3; range = P.range.1; nodes = omega (arith, P.nodes) }

      pick : (b c : Bool) → holds t ≡ b → holds u ≡ c → get_or F n 0 ≡ form_of_choice b c → Form F A E n (get_or F n 0) (cho t u)
      pick true true e f q = rw q (nothing (silent_barred (not_std t e) (not_std u f)))
      pick true false e f q = rw q (next (passes_first (not_std t e) ((holds_std u).0 f)) left)
      pick false true e f q = rw q (second (size t) (passes_second ((holds_std t).0 e) (not_std u f)) (part_end t left) right)
      pick false false e f q = rw q (either (splits_choice ((holds_std t).0 e) ((holds_std u).0 f)) (part_end t left) left right)
  form n (par t u) P = rw P.lines.1 (both {v = u} splits_parallel (part_end t left) left (record { lines = P.lines.3; range = P.range.1; nodes = omega (arith, P.nodes) }))
    where
      left : Part F A E (n + 1) t
      left = record { lines = P.lines.2; range = P.range.0; nodes = omega (arith, P.nodes) }
  form n (res a t) P = rw P.lines.1 (hidden {t = t} P.lines.2 P.range.0 (record { lines = P.lines.3; range = P.range.1; nodes = omega (arith, P.nodes) }))

-- a form above 3 that is not 6 has two parts
pub data Two (F A E : List ℕ) (n : Node) : ℕ → Term → Type 0 where
  choice : {t u v : Term} → Splits Never t u v → get_or E (n + 1) 0 ≡ n + 1 + size u → Part F A E (n + 1) u → Part F A E (n + 1 + size u) v → Two F A E n 4 t
  parallel : {t u v : Term} → Splits (Across u v) t u v → get_or E (n + 1) 0 ≡ n + 1 + size u → Part F A E (n + 1) u → Part F A E (n + 1 + size u) v → Two F A E n 5 t

pub two_parts : {F A E : List ℕ} {n : Node} {h : ℕ} {t : Term} → Form F A E n h t → 3 < h → h ≢ 6 → Two F A E n h t
two_parts (nothing s) a b = absurd (omega arith)
two_parts (own e f s) a b = absurd (omega arith)
two_parts (next P x) a b = absurd (omega arith)
two_parts (second m P e x) a b = absurd (omega arith)
two_parts (either P e x y) a b = choice P e x y
two_parts (both P e x y) a b = parallel P e x y
two_parts (hidden e c x) a b = absurd (b refl)

-- Some part begins at node n: where its own parts begin, by its form.
module _ {F A E : List ℕ} {n : Node} (S : SomePart F A E n) where
  pub inside : n < node_limit
  inside = omega (arith, S.1.nodes, size_pos S.0)

  begins : {h k : ℕ} {t : Term} → k ≡ get_or E (n + 1) 0 → Form F A E n h t → (2 ≤ h → h ≢ 3 → SomePart F A E (n + 1)) × (3 ≤ h → h ≢ 6 → SomePart F A E k × (n < k))
  begins d (nothing s) = (λ a b. absurd (omega arith), λ a b. absurd (omega arith))
  begins d (own e f s) = (λ a b. absurd (omega arith), λ a b. absurd (omega arith))
  begins d (next {u = u} P x) = (λ a b. (u, x), λ a b. absurd (omega arith))
  begins d (second {u = u} m P e x) = (λ a b. absurd (b refl), λ a b. ((u, rw (d ∙ e) x), omega (arith, d, e)))
  begins d (either {u = u} {v = v} P e x y) = (λ a b. (u, x), λ a b. ((v, rw (d ∙ e) y), omega (arith, d, e)))
  begins d (both {u = u} {v = v} P e x y) = (λ a b. (u, x), λ a b. ((v, rw (d ∙ e) y), omega (arith, d, e)))
  begins d (hidden {t = t} e c x) = (λ a b. (t, x), λ a b. absurd (b refl))

  pub part_below : 2 ≤ get_or F n 0 → get_or F n 0 ≢ 3 → SomePart F A E (n + 1)
  part_below = (begins refl (form n S.0 S.1)).0

  pub part_beyond : {k : Node} → k ≡ get_or E (n + 1) 0 → 3 ≤ get_or F n 0 → get_or F n 0 ≢ 6 → SomePart F A E k × (n < k)
  part_beyond d = (begins d (form n S.0 S.1)).1

  -- a node from which something below steps is not the last
  pub next_inside : 2 ≤ get_or F n 0 → n + 1 < node_limit
  next_inside h = pick (ℕ_discrete (get_or F n 0) 3)
    where
      pick : Dec (get_or F n 0 ≡ 3) → n + 1 < node_limit
      pick (yes e) = let B = part_beyond refl (omega arith) (λ q. omega (arith, e, q)) in omega (arith, B.0.1.nodes, size_pos B.0.0, B.1)
      pick (no e) = let D = part_below h e in omega (arith, D.1.nodes, size_pos D.0)

  pub hidden_name : get_or F n 0 ≡ 6 → Channel (get_or A n 0)
  hidden_name q = name (rw q at (form n S.0 S.1))
    where
      name : {t : Term} → Form F A E n 6 t → Channel (get_or A n 0)
      name (hidden e c x) = rw e c
