-- The loop lemma (004, Lemma 2.3): an undo takes back a forward step, and a forward step redoes an undo.
use Prim.Native.Nat.{ℕ}
use Rattle.ccsk.specs.Term.{Term}
use Rattle.ccsk.specs.Step.{Forward, Undo}

pub undo_of_forward : {t u : Term} {m l : ℕ} → Forward t m l u → Undo u m l t
undo_of_forward (Forward.top h s) = Undo.top h s
undo_of_forward (Forward.prefix h n d) = Undo.prefix h n (undo_of_forward d)
undo_of_forward (Forward.choice₁ s d) = Undo.choice₁ s (undo_of_forward d)
undo_of_forward (Forward.choice₂ s d) = Undo.choice₂ s (undo_of_forward d)
undo_of_forward (Forward.par₁ f d) = Undo.par₁ f (undo_of_forward d)
undo_of_forward (Forward.par₂ f d) = Undo.par₂ f (undo_of_forward d)
undo_of_forward (Forward.synch c d e) = Undo.synch c (undo_of_forward d) (undo_of_forward e)
undo_of_forward (Forward.restrict f d) = Undo.restrict f (undo_of_forward d)

pub forward_of_undo : {t u : Term} {m l : ℕ} → Undo t m l u → Forward u m l t
forward_of_undo (Undo.top h s) = Forward.top h s
forward_of_undo (Undo.prefix h n d) = Forward.prefix h n (forward_of_undo d)
forward_of_undo (Undo.choice₁ s d) = Forward.choice₁ s (forward_of_undo d)
forward_of_undo (Undo.choice₂ s d) = Forward.choice₂ s (forward_of_undo d)
forward_of_undo (Undo.par₁ f d) = Forward.par₁ f (forward_of_undo d)
forward_of_undo (Undo.par₂ f d) = Forward.par₂ f (forward_of_undo d)
forward_of_undo (Undo.synch c d e) = Forward.synch c (forward_of_undo d) (forward_of_undo e)
forward_of_undo (Undo.restrict f d) = Forward.restrict f (forward_of_undo d)
