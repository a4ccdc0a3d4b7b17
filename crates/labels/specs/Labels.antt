-- The labels of the undos of a row's keys, and what one pass over the record gathers for each key.
use Rattle.std.specs.Prelude.{◌≡◌, List, [], ◌∷◌, ◌++◌, cond, ℕ, ◌<◌, eqb, length, get_or}
use Rattle.ccsk.specs.Term.{Term, Label, Key, labels}
use Rattle.ccsk.specs.Step.{Undo}
use Rattle.format.specs.Read.{Reads}

-- In the record s, for each key of the row: if its undo is allowed, its label stands at its place (01, Rules of a step).
abbrev pub UndoLabels : List ℕ → List Key → List Label → Type 0
UndoLabels s row ls = (t : Term) → Reads s t → (i : ℕ) → i < length row → (l : Label) (u : Term) → Undo t (get_or row i 0) l u → get_or ls i 0 ≡ l

-- The numbers of the row ascend from above 0, as those of an undo listing do.
pub record Rising (row : List ℕ) : Type 0 where
  pub positive : (i : ℕ) → i < length row → 0 < get_or row i 0
  pub ascend : (i j : ℕ) → i < j → j < length row → get_or row i 0 < get_or row j 0

-- No label yet: the one byte that is no action (01, The record: actions).
abbrev pub no_label : Label
no_label = 128

-- the first n places have no label yet
abbrev pub Unlabelled : ℕ → List Label → Type 0
Unlabelled n ls = (i : ℕ) → i < n → get_or ls i 0 ≡ no_label

-- a label with one place more: the action of the first place, tau with a second
abbrev pub joined : Label → Label → Label
joined l a = cond (eqb l no_label) a 0

-- with several places more
unfoldable pub gathered : Label → List Label → Label
gathered l [] = l
gathered l (a ∷ x) = gathered (joined l a) x

-- the labels of the prefixes that hold the key m in several terms, from the left
unfoldable pub labels_of : Key → List Term → List Label
labels_of m [] = []
labels_of m (t ∷ ts) = labels m t ++ labels_of m ts

-- An action was joined to the label of the key k, and all others stayed.
abbrev pub Noted : List Key → Key → Label → List Label → List Label → Type 0
Noted row k a ls ls' = (i : ℕ) → i < length row → get_or ls' i 0 ≡ cond (eqb (get_or row i 0) k) (joined (get_or ls i 0) a) (get_or ls i 0)
