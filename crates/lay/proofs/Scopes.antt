-- The table of nearest restrictions tells the scopes, with no restriction open and below one more.
use mathlib.Core.Path.{◌≡◌, refl, sym, ◌∙◌}
use mathlib.Core.Logic.{◌⊎◌, ◌≢◌, inl, inr, ⊎_elim}
use mathlib.Core.List.{List}
use Prim.Native.Nat.{ℕ, suc, ◌+◌, ◌≤◌, ◌<◌, ◌%◌}
use native.Mathlib.Decide.{dec_lt}
use native.Mathlib.Omega.{arith}
use lib.ListN.{length, get_or, set}
use lib.Seq.{get_or-set_same, get_or-set_other}
use Rattle.ccsk.specs.Term.{Name, Node, Channel, On}
use Rattle.ccsk.specs.Decide.{on?}
use Rattle.causes.specs.Entry.{Scopes, nearest, under, open_scopes}
use Rattle.lay.specs.Lay.{Tells}

-- a table tells some scopes
pub told : List ℕ → Scopes
told near l = get_or near (l % 128) 0

pub tells_told : (near : List ℕ) → Tells near (told near)
unfolding told
tells_told near l h q = refl

-- no restriction is open
pub tells_open : (near : List ℕ) → ((k : ℕ) → k < 128 → get_or near k 0 ≡ 0) → Tells near open_scopes
tells_open near z l h q = sym (z (l % 128) (omega arith))

-- a name keeps its place, and its co-name shares it
own_place : (a l : ℕ) → On a l → l % 128 ≡ a
own_place a l (c, i) = ⊎_elim (λ e. omega arith) (λ e. omega arith) i

other_place : (a l : ℕ) → Channel a → l ≤ 255 → l ≢ 128 → ¬ On a l → l % 128 ≢ a
other_place a l c h q n e = n (c, pick (dec_lt l 128))
  where
    pick : Dec (l < 128) → (l ≡ a) ⊎ (l ≡ a + 128)
    pick (yes s) = inl (omega arith)
    pick (no s) = inr (omega arith)

pub tells_under : (near : List ℕ) (sc : Scopes) (a : Name) (n : Node) → length near ≡ 128 → Channel a → Tells near sc → Tells (set near a (suc n)) (under a n sc)
unfolding under
tells_under near sc a n s c f l h q = pick (on? a l)
  where
    pick : (d : Dec (On a l)) → nearest d (suc n) (sc l) ≡ get_or (set near a (suc n)) (l % 128) 0
    pick (yes o) = rw (own_place a l o) (sym (get_or-set_same near a (suc n) 0 (omega arith)))
    pick (no o) = f l h q ∙ sym (get_or-set_other near a (l % 128) (suc n) 0 (other_place a l c h q o))
