-- Tests that combine, and the test for terms that hold no key.
use Prim.Native.Nat.{zero, suc}
use Rattle.ccsk.specs.Term.{Term, nil, pre, cho, par, res, Std}
use Rattle.ccsk.specs.Decide.{both}

abbrev pub three : {A B C : Type 0} → Dec A → Dec B → Dec C → Dec (A × B × C)
three (yes a) (yes b) (yes c) = yes (a, b, c)
three (yes a) (yes b) (no c) = no (λ x. c x.2)
three (yes a) (no b) c = no (λ x. b x.1)
three (no a) b c = no (λ x. a x.0)

abbrev pub isnt : {A : Type 0} → Dec A → Dec (¬ A)
isnt (yes a) = no (λ f. f a)
isnt (no a) = yes a

abbrev pub same : {A B : Type 0} → (A → B) → (B → A) → Dec A → Dec B
same f g (yes a) = yes (f a)
same f g (no a) = no (λ b. a (g b))

unfoldable pub std? : (t : Term) → Dec (Std t)
std? nil = yes tt
std? (pre a zero t) = std? t
std? (pre a (suc k) t) = no (λ s. s)
std? (cho t u) = both (std? t) (std? u)
std? (par t u) = both (std? t) (std? u)
std? (res a t) = std? t
