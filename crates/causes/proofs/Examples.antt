-- 01's examples of the verdicts 1 to 7, seen through the entries.
use mathlib.Core.Path.{◌≡◌, refl}
use mathlib.Core.Logic.{inl, inr}
use mathlib.Core.Bool.{false}
use Prim.Native.Nat.{ℕ, ◌≤◌}
use native.Mathlib.Omega.{arith}
use Rattle.ccsk.specs.Term.{nil, pre, cho, par, res, Co}
use Rattle.sound.specs.Sound.{one, more}
use native.Mathlib.Decide.{ℕ_discrete, dec_le}
use Rattle.ccsk.specs.Decide.{on?, channel?}
use Rattle.causes.specs.Entry.{marked, entries, under, all, only}
use Rattle.causes.specs.Tests.{EachKey, AtMostTwo, Complements, Beside, Enclosed, Acyclic, holds, waits, chosen}

-- a.b[1].0
fails_1 : waits (pre 1 0 (pre 2 1 nil)) ≡ false
unfolding waits holds
fails_1 = refl

-- a[1].0 + b[2].0
fails_2 : chosen (cho (pre 1 1 nil) (pre 2 2 nil)) ≡ false
unfolding chosen holds
fails_2 = refl

-- a[1].0 | (a[1].0 | a'[1].0)
fails_3 : ¬ EachKey AtMostTwo (all (par (pre 1 1 nil) (par (pre 1 1 nil) (pre 129 1 nil))))
unfolding entries only
fails_3 w = let h : 3 ≤ 2 = w 1 (omega arith) in omega arith

-- a[1].0 | a[1].0
fails_4 : ¬ EachKey Complements (all (par (pre 1 1 nil) (pre 1 1 nil)))
unfolding entries only
fails_4 w = out (w 1 (omega arith))
  where
    out : Co 1 1 → ⊥
    out (inl c) = omega arith
    out (inr c) = omega arith

-- a[1].a'[1].0: the second entry is in row 1, and the first ends in row 2
fails_5 : ¬ EachKey Beside (all (pre 1 1 (pre 129 1 nil)))
unfolding entries only marked
fails_5 w = let h : 2 ≤ 1 = w 1 (omega arith) in omega arith

-- a[1].0 under a restriction on a
fails_6 : ¬ EachKey Enclosed (all (res 1 (pre 1 1 nil)))
unfolding entries only under on? channel? dec_le ℕ_discrete
fails_6 w = let h : ◌≡◌ {A = ℕ} 1 0 = w 1 (omega arith) in omega arith

-- a[1].b[2].0 | b'[2].a'[1].0
fails_7 : ¬ Acyclic (all (par (pre 1 1 (pre 2 2 nil)) (pre 130 2 (pre 129 1 nil))))
unfolding entries
fails_7 f = f 1 (more (one {n = 2} (inr (inl (omega arith, refl, refl)))) (inr (inr (inr (inl (omega arith, refl, refl))))))
