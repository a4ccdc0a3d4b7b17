-- The verdict by the tests on entries is the verdict of Definition 3.3.
use mathlib.Core.Path.{◌≡◌, sym, ◌∙◌}
use mathlib.Core.Logic.{◌↔◌}
use mathlib.Core.Bool.{Bool, true, false, true≢false}
use Prim.Native.Nat.{ℕ}
use Rattle.ccsk.specs.Term.{Term}
use Rattle.sound.specs.Sound.{Verdict, sound, fails₁, fails₂, fails₃, fails₄, fails₅, fails₆, fails₇}
use Rattle.causes.specs.Tests.{waits, chosen, Tested, none_fails, first_fails, second_fails, third_fails, fourth_fails, fifth_fails, sixth_fails, seventh_fails}
use Rattle.causes.proofs.Folds.{waits_by_fold, chosen_by_fold}
use Rattle.causes.proofs.Pairs.{twice_by_entries, paired_by_entries}
use Rattle.causes.proofs.Sides.{split_by_entries}
use Rattle.causes.proofs.Scopes.{hidden_by_entries}
use Rattle.causes.proofs.Chains.{ordered_by_entries}

not_by : {A : Type 0} {b : Bool} → A ↔ (b ≡ true) → b ≡ false → ¬ A
not_by f e a = true≢false (sym (f.0 a) ∙ e)

pub tested_verdict : {t : Term} {v : ℕ} → Tested t v → Verdict t v
tested_verdict {t} (none_fails a b c d e f g) =
    let w = (waits_by_fold t).1 a in let h = (chosen_by_fold t).1 b in let i = (twice_by_entries t).1 c in let j = (paired_by_entries t).1 d in let k = (split_by_entries t h).1 e in
    sound (record { waits = w; chosen = h; twice = i; paired = j; split = k; hidden = (hidden_by_entries t i j).1 f; ordered = (ordered_by_entries t i k).1 g })
tested_verdict {t} (first_fails a) = fails₁ (not_by (waits_by_fold t) a)
tested_verdict {t} (second_fails a b) = fails₂ ((waits_by_fold t).1 a) (not_by (chosen_by_fold t) b)
tested_verdict {t} (third_fails a b c) = fails₃ ((waits_by_fold t).1 a) ((chosen_by_fold t).1 b) (λ z. c ((twice_by_entries t).0 z))
tested_verdict {t} (fourth_fails a b c d) = fails₄ ((waits_by_fold t).1 a) ((chosen_by_fold t).1 b) ((twice_by_entries t).1 c) (λ z. d ((paired_by_entries t).0 z))
tested_verdict {t} (fifth_fails a b c d e) = let h = (chosen_by_fold t).1 b in
    fails₅ ((waits_by_fold t).1 a) h ((twice_by_entries t).1 c) ((paired_by_entries t).1 d) (λ z. e ((split_by_entries t h).0 z))
tested_verdict {t} (sixth_fails a b c d e f) = let h = (chosen_by_fold t).1 b in let i = (twice_by_entries t).1 c in let j = (paired_by_entries t).1 d in
    fails₆ ((waits_by_fold t).1 a) h i j ((split_by_entries t h).1 e) (λ z. f ((hidden_by_entries t i j).0 z))
tested_verdict {t} (seventh_fails a b c d e f g) = let h = (chosen_by_fold t).1 b in let i = (twice_by_entries t).1 c in let j = (paired_by_entries t).1 d in let k = (split_by_entries t h).1 e in
    fails₇ ((waits_by_fold t).1 a) h i j k ((hidden_by_entries t i j).1 f) (λ z. g ((ordered_by_entries t i k).0 z))
