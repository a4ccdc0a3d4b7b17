-- Every condition of Definition 3.3 can be decided; so there is exactly one verdict.
use mathlib.Core.Path.{◌≡◌, refl, ap, ◌∙◌}
use mathlib.Core.Logic.{inl, inr, ⊎_elim, ◌≢◌}
use mathlib.Core.List.{List, [], ◌∷◌}
use Prim.Native.Nat.{ℕ, zero, suc, ◌≤◌, ◌<◌}
use native.Mathlib.Decide.{ℕ_discrete, dec_le}
use native.Mathlib.Omega.{arith}
use lib.ListN.{length}
use Rattle.ccsk.specs.Numbers.{In, either}
use Rattle.ccsk.specs.Term.{Term, nil, pre, cho, par, res, Has, Co, On, labels, keys}
use Rattle.sound.specs.Sound.{count, Waits, Chosen, Twice, Paired, Apart, Split, Hidden, Ordered, Verdict, sound, fails₁, fails₂, fails₃, fails₄, fails₅, fails₆, fails₇}
use Rattle.ccsk.specs.Decide.{both, co?, on?}
use Rattle.ccsk.proofs.Decide.{three, std?}
use Rattle.ccsk.proofs.Basic.{fresh_labels, has?}
use Rattle.ccsk.proofs.Keys.{has_in, in_has}
use Rattle.sound.proofs.Top.{ordered?}

abbrev implies : {A B : Type 0} → Dec A → Dec B → Dec (A → B)
implies (no a) d = yes (λ x. absurd (a x))
implies (yes a) (yes b) = yes (λ x. b)
implies (yes a) (no b) = no (λ f. b (f a))

-- something that holds of every number of a list
abbrev cons : (P : ℕ → Type 0) (x : ℕ) (l : List ℕ) → Dec (P x) → Dec ((m : ℕ) → In m l → P m) → Dec ((m : ℕ) → In m (x ∷ l) → P m)
cons P x l (no p) d = no (λ f. p (f x (inl refl)))
cons P x l (yes p) (no d) = no (λ f. d (λ m i. f m (inr i)))
cons P x l (yes p) (yes d) = yes (λ m i. ⊎_elim (λ e. rw e p) (d m) i)

unfoldable pub each? : (P : ℕ → Type 0) → ((m : ℕ) → Dec (P m)) → (l : List ℕ) → Dec ((m : ℕ) → In m l → P m)
each? P d [] = yes (λ m i. absurd i)
each? P d (x ∷ l) = cons P x l (d x) (each? P d l)

-- what holds of every key of t and of every number that is none
unfoldable pub keys? : (t : Term) (P : ℕ → Type 0) → ((m : ℕ) → Dec (P m)) → ((m : ℕ) → labels m t ≡ [] → P m) → Dec ((m : ℕ) → 0 < m → P m)
keys? t P d f = pick (each? P d (keys t))
  where
    pick : Dec ((m : ℕ) → In m (keys t) → P m) → Dec ((m : ℕ) → 0 < m → P m)
    pick (no g) = no (λ h. g (λ m i. h m (in_has m t i).0))
    pick (yes g) = yes (λ m p. choose m p (has? m t))
      where
        choose : (m : ℕ) → 0 < m → Dec (Has m t) → P m
        choose m p (yes i) = g m (has_in m t p i)
        choose m p (no i) = f m (fresh_labels m t i)

unfoldable pub waits? : (t : Term) → Dec (Waits t)
waits? nil = yes tt
waits? (pre a zero t) = std? t
waits? (pre a (suc k) t) = waits? t
waits? (cho t u) = both (waits? t) (waits? u)
waits? (par t u) = both (waits? t) (waits? u)
waits? (res a t) = waits? t

unfoldable pub chosen? : (t : Term) → Dec (Chosen t)
chosen? nil = yes tt
chosen? (pre a k t) = chosen? t
chosen? (cho t u) = three (either (std? t) (std? u)) (chosen? t) (chosen? u)
chosen? (par t u) = both (chosen? t) (chosen? u)
chosen? (res a t) = chosen? t

unfoldable pub twice? : (t : Term) → Dec (Twice t)
twice? t = keys? t (λ m. count m t ≤ 2) (λ m. dec_le (count m t) 2) (λ m e. rw e (omega arith))

-- a list of two holds complementary actions
abbrev pub Two : List ℕ → Type 0
Two x = (a b : ℕ) → x ≡ a ∷ (b ∷ []) → Co a b

pub not_two : {x : List ℕ} → length x ≢ 2 → Two x
not_two f a b e = absurd (f (ap length e))

unfoldable pub two? : (x : List ℕ) → Dec (Two x)
two? [] = yes (not_two (λ e. omega arith))
two? (a ∷ []) = yes (not_two (λ e. omega arith))
two? (a ∷ (b ∷ [])) = pick (co? a b)
  where
    pick : Dec (Co a b) → Dec (Two (a ∷ (b ∷ [])))
    pick (no f) = no (λ g. f (g a b refl))
    pick (yes c) = yes same
      where
        same : Two (a ∷ (b ∷ []))
        same p q e = let x : a ≡ p = cc in let y : b ≡ q = cc in rw (x, y) at c
two? (a ∷ (b ∷ (c ∷ x))) = yes (not_two (λ e. omega arith))

unfoldable pub paired? : (t : Term) → Dec (Paired t)
paired? t = keys? t (λ m. Two (labels m t)) (λ m. two? (labels m t)) (λ m e. rw e (not_two (λ z. omega arith)))

unfoldable pub apart? : (m : ℕ) (t : Term) → Dec (Apart m t)
apart? m nil = no (λ b. b)
apart? m (pre a k t) = apart? m t
apart? m (cho t u) = either (apart? m t) (apart? m u)
apart? m (par t u) = either (both (ℕ_discrete (count m t) 1) (ℕ_discrete (count m u) 1)) (either (apart? m t) (apart? m u))
apart? m (res a t) = apart? m t

pub not_none : {A : Type 0} {x : List ℕ} → x ≡ [] → length x ≡ 2 → A
not_none e f = absurd (omega (arith, ap length e))

unfoldable pub split? : (t : Term) → Dec (Split t)
split? t = keys? t (λ m. count m t ≡ 2 → Apart m t) (λ m. implies (ℕ_discrete (count m t) 2) (apart? m t)) (λ m e f. not_none e f)

unfoldable pub hidden? : (t : Term) → Dec (Hidden t)
hidden? nil = yes tt
hidden? (pre a k t) = hidden? t
hidden? (cho t u) = both (hidden? t) (hidden? u)
hidden? (par t u) = both (hidden? t) (hidden? u)
hidden? (res a t) = both (keys? t (λ m. (l : ℕ) → In l (labels m t) → On a l → count m t ≡ 2)
    (λ m. each? (λ l. On a l → count m t ≡ 2) (λ l. implies (on? a l) (ℕ_discrete (count m t) 2)) (labels m t)) (λ m e l i. absurd (rw e at i))) (hidden? t)

abbrev or : {A : Type 0} → ℕ → Dec A → ℕ → ℕ
or n (yes a) r = r
or n (no a) r = n

-- the number of the first condition that fails
unfoldable pub verdict : Term → ℕ
verdict t = or 1 (waits? t) (or 2 (chosen? t) (or 3 (twice? t) (or 4 (paired? t) (or 5 (split? t) (or 6 (hidden? t) (or 7 (ordered? t) 0))))))

pub verdict_right : (t : Term) → Verdict t (verdict t)
unfolding verdict
verdict_right t = pick (waits? t) (chosen? t) (twice? t) (paired? t) (split? t) (hidden? t) (ordered? t)
  where
    pick : (a : Dec (Waits t)) (b : Dec (Chosen t)) (c : Dec (Twice t)) (d : Dec (Paired t)) (e : Dec (Split t)) (f : Dec (Hidden t)) (g : Dec (Ordered t))
        → Verdict t (or 1 a (or 2 b (or 3 c (or 4 d (or 5 e (or 6 f (or 7 g 0)))))))
    pick (no a) b c d e f g = fails₁ a
    pick (yes a) (no b) c d e f g = fails₂ a b
    pick (yes a) (yes b) (no c) d e f g = fails₃ a b c
    pick (yes a) (yes b) (yes c) (no d) e f g = fails₄ a b c d
    pick (yes a) (yes b) (yes c) (yes d) (no e) f g = fails₅ a b c d e
    pick (yes a) (yes b) (yes c) (yes d) (yes e) (no f) g = fails₆ a b c d e f
    pick (yes a) (yes b) (yes c) (yes d) (yes e) (yes f) (no g) = fails₇ a b c d e f g
    pick (yes a) (yes b) (yes c) (yes d) (yes e) (yes f) (yes g) = sound (record { waits = a; chosen = b; twice = c; paired = d; split = e; hidden = f; ordered = g })

or_yes : {A : Type 0} (n : ℕ) (d : Dec A) (r : ℕ) → A → or n d r ≡ r
or_yes n (yes a) r x = refl
or_yes n (no a) r x = absurd (a x)

or_no : {A : Type 0} (n : ℕ) (d : Dec A) (r : ℕ) → ¬ A → or n d r ≡ n
or_no n (yes a) r x = absurd (x a)
or_no n (no a) r x = refl

-- and there is no other
pub verdict_once : {t : Term} {v : ℕ} → Verdict t v → verdict t ≡ v
unfolding verdict
verdict_once {t} (sound s) = or_yes 1 (waits? t) _ s.waits ∙ or_yes 2 (chosen? t) _ s.chosen ∙ or_yes 3 (twice? t) _ s.twice ∙ or_yes 4 (paired? t) _ s.paired ∙ or_yes 5 (split? t) _ s.split ∙ or_yes 6 (hidden? t) _ s.hidden ∙ or_yes 7 (ordered? t) 0 s.ordered
verdict_once {t} (fails₁ a) = or_no 1 (waits? t) _ a
verdict_once {t} (fails₂ a b) = or_yes 1 (waits? t) _ a ∙ or_no 2 (chosen? t) _ b
verdict_once {t} (fails₃ a b c) = or_yes 1 (waits? t) _ a ∙ or_yes 2 (chosen? t) _ b ∙ or_no 3 (twice? t) _ c
verdict_once {t} (fails₄ a b c d) = or_yes 1 (waits? t) _ a ∙ or_yes 2 (chosen? t) _ b ∙ or_yes 3 (twice? t) _ c ∙ or_no 4 (paired? t) _ d
verdict_once {t} (fails₅ a b c d e) = or_yes 1 (waits? t) _ a ∙ or_yes 2 (chosen? t) _ b ∙ or_yes 3 (twice? t) _ c ∙ or_yes 4 (paired? t) _ d ∙ or_no 5 (split? t) _ e
verdict_once {t} (fails₆ a b c d e f) = or_yes 1 (waits? t) _ a ∙ or_yes 2 (chosen? t) _ b ∙ or_yes 3 (twice? t) _ c ∙ or_yes 4 (paired? t) _ d ∙ or_yes 5 (split? t) _ e ∙ or_no 6 (hidden? t) _ f
verdict_once {t} (fails₇ a b c d e f g) = or_yes 1 (waits? t) _ a ∙ or_yes 2 (chosen? t) _ b ∙ or_yes 3 (twice? t) _ c ∙ or_yes 4 (paired? t) _ d ∙ or_yes 5 (split? t) _ e ∙ or_yes 6 (hidden? t) _ f ∙ or_no 7 (ordered? t) 0 g
