-- The rules of a step (01, Rules of a step; 000, Fig. 2 and 3, with the corrections that 01 lists): one constructor a rule.
-- A step leads from a term, with a key m and the label that is seen at the term's root, to the term afterwards.
use Rattle.std.specs.Prelude.{◌≢◌, ◌<◌}
use Rattle.ccsk.specs.Term.{Term, Name, Label, Key, pre, cho, par, res, Std, Fsh, Co, On}

-- Forward (000, Fig. 2)
pub data Forward : Term → Key → Label → Term → Type 0 where
  -- a prefix that is not done makes its own step if nothing below it holds a key
  top : {a : Label} {m : Key} {t : Term} → 0 < m → Std t → Forward (pre a 0 t) m a (pre a m t)
  -- a prefix that is done passes a step from below with another key
  prefix : {a l : Label} {n m : Key} {t t' : Term} → 0 < n → m ≢ n → Forward t m l t' → Forward (pre a n t) m l (pre a n t')
  -- a choice passes a step of one side if the other holds no key
  choice₁ : {m : Key} {l : Label} {t t' u : Term} → Std u → Forward t m l t' → Forward (cho t u) m l (cho t' u)
  choice₂ : {m : Key} {l : Label} {t u u' : Term} → Std t → Forward u m l u' → Forward (cho t u) m l (cho t u')
  -- a parallel passes a step of one side if the key stands nowhere in the other
  par₁ : {m : Key} {l : Label} {t t' u : Term} → Fsh m u → Forward t m l t' → Forward (par t u) m l (par t' u)
  par₂ : {m : Key} {l : Label} {t u u' : Term} → Fsh m t → Forward u m l u' → Forward (par t u) m l (par t u')
  -- or it joins a step of each side with the same key and complementary labels; the label is tau
  synch : {m : Key} {l k : Label} {t t' u u' : Term} → Co l k → Forward t m l t' → Forward u m k u' → Forward (par t u) m 0 (par t' u')
  -- a restriction on a passes a step unless its label is a or the co-name of a
  restrict : {a : Name} {m : Key} {l : Label} {t t' : Term} → ¬ On a l → Forward t m l t' → Forward (res a t) m l (res a t')

-- Undo (000, Fig. 3): only a prefix's own step differs
pub data Undo : Term → Key → Label → Term → Type 0 where
  -- a prefix that holds m goes to key 0 if nothing below it holds a key
  top : {a : Label} {m : Key} {t : Term} → 0 < m → Std t → Undo (pre a m t) m a (pre a 0 t)
  prefix : {a l : Label} {n m : Key} {t t' : Term} → 0 < n → m ≢ n → Undo t m l t' → Undo (pre a n t) m l (pre a n t')
  choice₁ : {m : Key} {l : Label} {t t' u : Term} → Std u → Undo t m l t' → Undo (cho t u) m l (cho t' u)
  choice₂ : {m : Key} {l : Label} {t u u' : Term} → Std t → Undo u m l u' → Undo (cho t u) m l (cho t u')
  par₁ : {m : Key} {l : Label} {t t' u : Term} → Fsh m u → Undo t m l t' → Undo (par t u) m l (par t' u)
  par₂ : {m : Key} {l : Label} {t u u' : Term} → Fsh m t → Undo u m l u' → Undo (par t u) m l (par t u')
  synch : {m : Key} {l k : Label} {t t' u u' : Term} → Co l k → Undo t m l t' → Undo u m k u' → Undo (par t u) m 0 (par t' u')
  restrict : {a : Name} {m : Key} {l : Label} {t t' : Term} → ¬ On a l → Undo t m l t' → Undo (res a t) m l (res a t')

-- some undo of the key m, with its label and the term afterwards
abbrev pub Undoable : Term → Key → Type 0
Undoable t m = (l : Label) × (u : Term) × Undo t m l u
