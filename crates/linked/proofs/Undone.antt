-- What undos leave is the term without their keys.
use mathlib.Core.Path.{◌≡◌, refl, sym, ap, ◌∙◌}
use mathlib.Core.Logic.{inl, inr}
use mathlib.Core.List.{List}
use mathlib.Core.Bool.{Bool, true, false, cond}
use Prim.Native.Nat.{ℕ, zero, suc, ◌<◌}
use native.Mathlib.Omega.{arith}
use Rattle.ccsk.specs.Numbers.{In}
use Rattle.ccsk.specs.Term.{Term, nil, pre, cho, par, res, Has}
use Rattle.ccsk.specs.Step.{Undo, Undo.top, Undo.prefix, Undo.choice₁, Undo.choice₂, Undo.par₁, Undo.par₂, Undo.synch, Undo.restrict}
use Rattle.sound.specs.Run.{Undos}
use Rattle.keys.specs.Erase.{erase}

-- key 0 stays 0, whatever the test says
zero_stays : (b : Bool) → ◌≡◌ {A = ℕ} (cond b 0 0) 0
zero_stays true = refl
zero_stays false = refl

-- to undo a key that is erased changes nothing in what is left
pub erase_undo : {t u : Term} {m l : ℕ} (f : ℕ → Bool) → Undo t m l u → f m ≡ true → erase f u ≡ erase f t
unfolding erase
erase_undo f (top h s) e = rw (e, zero_stays (f 0))
erase_undo f (prefix {a = a} {n = n} h g d) e = ap (pre a (cond (f n) 0 n)) (erase_undo f d e)
erase_undo f (choice₁ s d) e = rw (erase_undo f d e)
erase_undo f (choice₂ s d) e = rw (erase_undo f d e)
erase_undo f (par₁ g d) e = rw (erase_undo f d e)
erase_undo f (par₂ g d) e = rw (erase_undo f d e)
erase_undo f (synch c d d') e = rw (erase_undo f d e, erase_undo f d' e)
erase_undo f (restrict {a = a} g d) e = ap (res a) (erase_undo f d e)

-- where no key is erased, all stays
pub erase_none : (f : ℕ → Bool) (t : Term) → ((k : ℕ) → 0 < k → Has k t → f k ≡ false) → erase f t ≡ t
unfolding erase
erase_none f nil h = refl
erase_none f (pre a zero t) h = rw (zero_stays (f 0), erase_none f t (λ k p i. h k p (inr i)))
erase_none f (pre a (suc k) t) h = rw (h (suc k) (omega arith) (inl refl), erase_none f t (λ k p i. h k p (inr i)))
erase_none f (cho t u) h = rw (erase_none f t (λ k p i. h k p (inl i)), erase_none f u (λ k p i. h k p (inr i)))
erase_none f (par t u) h = rw (erase_none f t (λ k p i. h k p (inl i)), erase_none f u (λ k p i. h k p (inr i)))
erase_none f (res a t) h = ap (res a) (erase_none f t h)

-- undos of keys that are erased, until none of these is left, lead to the term without them
pub erased : {ks : List ℕ} {t u : Term} (f : ℕ → Bool) → Undos ks t u → ((k : ℕ) → In k ks → f k ≡ true) → ((k : ℕ) → 0 < k → Has k u → f k ≡ false) → u ≡ erase f t
erased f (Undos.stay {t = t}) h g = sym (erase_none f t g)
erased f (Undos.then {m = m} d r) h g = erased f r (λ k i. h k (inr i)) g ∙ erase_undo f d (h m (inl refl))
