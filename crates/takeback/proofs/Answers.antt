-- From the verdict and the filing of links to the answer.
use mathlib.Core.Path.{subst}
use mathlib.Core.List.{List}
use mathlib.Core.Bool.{false}
use Prim.Native.Nat.{ℕ, ◌<◌}
use native.Mathlib.Omega.{arith}
use Rattle.ccsk.specs.Term.{Term, Key}
use Rattle.sound.specs.Sound.{Sound, Verdict, sound}
use Rattle.format.specs.Read.{Reads, Refuses}
use Rattle.operations.specs.Ask.{Soundness}
use Rattle.operations.specs.TakeBack.{TakeBack}
use Rattle.operations.proofs.Readable.{not_refused_zero, reads_one}
use Rattle.operations.proofs.Reachable.{sound_done}
use Rattle.shared.specs.declared.Refusal.{Refusal}
use Rattle.shared.specs.Refusal.{number}
use Rattle.soundness.proofs.Whole.{number_above}
use Rattle.filing.specs.Record.{Stands}

-- the key stands nowhere in a sound record
pub key_absent : (s : List ℕ) (m : Key) → 0 < m → Soundness s 0 0 → Stands s m false → (row : List ℕ) → TakeBack s m row 7 0 s row
key_absent s m p J S row = let w = sound_done J in
    TakeBack.key_absent S.1.reads p (sound (subst Sound (reads_one s w.1 S.1.reads) w.2)) S.2

-- what a verdict comes from
pub verdict_done : {s : List ℕ} {v : ℕ} → Soundness s 0 v → (t : Term) × Reads s t × Verdict t v
verdict_done {s} (Soundness.unreadable e) = not_refused_zero s e
verdict_done (Soundness.done {t = t} e v) = (t, e, v)

refused_done : {s : List ℕ} {c : ℕ} → 0 < c → Soundness s c 0 → Refuses s c
refused_done h (Soundness.unreadable e) = e
refused_done h (Soundness.done e v) = absurd (omega arith)

pub verdict_refused : {s : List ℕ} (r : Refusal) → Soundness s (number r) 0 → Refuses s (number r)
verdict_refused r J = refused_done (number_above r) J
