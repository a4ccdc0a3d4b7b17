-- The tests for the conditions 3 and 4: how many entries a key has, and which actions it marks.
use mathlib.Core.Path.{◌≡◌, refl}
use mathlib.Core.Logic.{◌↔◌}
use mathlib.Core.List.{List, [], ◌∷◌}
use native.Mathlib.Omega.{arith}
use Rattle.ccsk.specs.Term.{Term}
use Rattle.sound.specs.Sound.{Twice, Paired}
use Rattle.sound.proofs.Decide.{Two, not_two}
use Rattle.causes.specs.Entry.{Entry, open_scopes, all, only}
use Rattle.causes.specs.Tests.{EachKey, AtMostTwo, Complements}
use Rattle.causes.proofs.Entries.{actions, labels_entries, count_entries}

-- condition 3
pub twice_by_entries : (t : Term) → Twice t ↔ EachKey AtMostTwo (all t)
twice_by_entries t = (λ w m h. rw (count_entries m 0 0 0 open_scopes t h) at (w m h), λ w m h. rw (count_entries m 0 0 0 open_scopes t h) (w m h))

two_complements : (l : List Entry) → Two (actions l) → Complements l
unfolding actions
two_complements [] f = tt
two_complements (e ∷ []) f = tt
two_complements (e ∷ (g ∷ [])) f = f e.action g.action refl
two_complements (e ∷ (g ∷ (i ∷ l))) f = tt

complements_two : (l : List Entry) → Complements l → Two (actions l)
unfolding actions
complements_two [] c = not_two (λ e. omega arith)
complements_two (e ∷ []) c = not_two (λ e. omega arith)
complements_two (e ∷ (g ∷ [])) c = same
  where
    same : Two (e.action ∷ (g.action ∷ []))
    same p q z = let x : e.action ≡ p = cc in let y : g.action ≡ q = cc in rw (x, y) at c
complements_two (e ∷ (g ∷ (i ∷ l))) c = not_two (λ e. omega arith)

-- condition 4
pub paired_by_entries : (t : Term) → Paired t ↔ EachKey Complements (all t)
paired_by_entries t = (λ w m h. two_complements (only m (all t)) (rw (labels_entries m 0 0 0 open_scopes t h) at (w m h)), λ w m h. rw (labels_entries m 0 0 0 open_scopes t h) (complements_two (only m (all t)) (w m h)))
