-- The lasts that stay at a prefix.
use mathlib.Core.Path.{◌≡◌, refl, sym, ◌∙◌}
use mathlib.Core.Logic.{◌≢◌}
use mathlib.Core.List.{append-nil}
use Prim.Native.Nat.{ℕ, ◌+◌, ◌<◌}
use mathlib.Core.List.{List}
use native.Mathlib.Omega.{arith}
use borrow.Author.Tests.{eq-eqb, ne_eqb}
use lib.ListN.{length, get_or, set}
use Rattle.ccsk.specs.Term.{Key}
use Rattle.lasts.specs.Last.{slot}
use Rattle.noting.specs.declared.Notes.{Notes}
use Rattle.noting.specs.declared.Entered.{Entered}
use Rattle.noting.specs.Node.{key_standing_at, name_at, OverPrefix}
use Rattle.noting.proofs.Rows.{cut_back, push}

module _ (s : List ℕ) (at : ℕ) (r : Entered) (b : Notes) (m : Key) (e : m ≡ key_standing_at s at) where
  -- a prefix that is not done
  pub over_undone : m ≡ 0 → OverPrefix s at r b (record { scopes = b.scopes; keys = b.keys; key_count = b.key_count; lasts = b.lasts; last_count = r.lasts })
  over_undone z = (refl, (refl, refl), λ old x p q t. rw (eq-eqb (key_standing_at s at) 0 (sym e ∙ z)) (cut_back r.lasts b.last_count b.lasts old x p (omega arith) t ∙ sym (append-nil old), omega arith))

  -- one with none
  pub over_own : (w : ℕ) → w ≡ slot (name_at s at) → m ≢ 0 → b.key_count ≡ r.keys → r.lasts < length b.lasts
      → OverPrefix s at r b (record { scopes = b.scopes; keys = b.keys; key_count = b.key_count; lasts = set b.lasts r.lasts (record { key = m; action = name_at s at; scope = get_or b.scopes w 0 }); last_count = r.lasts + 1 })
  over_own w g z h i = (
    refl,
    (refl, refl),
    λ old x p q t. rw (ne_eqb (key_standing_at s at) 0 (λ y. z (e ∙ y)), eq-eqb b.key_count r.keys h, ← e, ← g)
        (push r.lasts b.lasts old _ i (cut_back r.lasts b.last_count b.lasts old x p (omega arith) t), omega arith),
  )
