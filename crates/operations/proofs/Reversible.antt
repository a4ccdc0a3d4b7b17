-- Demand 2 on bytes: an undo takes back a forward step and gives the same bytes, a forward step redoes an undo, and two undos work in both orders.
use mathlib.Core.Path.{◌≡◌, refl, ap, sym, ◌∙◌}
use mathlib.Core.Logic.{◌⊎◌, inl, inr, ◌≢◌, ◌↔◌}
use mathlib.Core.List.{List}
use Prim.Native.Nat.{ℕ, zero, suc, ◌≤◌}
use native.Mathlib.Decide.{ℕ_discrete}
use native.Mathlib.Omega.{arith}
use Rattle.ccsk.specs.Numbers.{distinct}
use Rattle.ccsk.specs.Term.{Term, Label, Key, Node, Has, keys, blank}
use Rattle.ccsk.specs.Step.{Forward, Undo}
use Rattle.ccsk.specs.Place.{places}
use Rattle.ccsk.proofs.Loop.{undo_of_forward, forward_of_undo}
use Rattle.ccsk.proofs.Undo.{key_pos, present, absent, blank_kept, diamond}
use Rattle.ccsk.proofs.Keys.{distinct_undo}
use Rattle.ccsk.proofs.Place.{Placed, alone, joined, step_placed}
use Rattle.sound.proofs.Order.{has_undo, has_redo}
use Rattle.format.specs.Read.{Reads}
use Rattle.format.specs.Encode.{encode, Bytes}
use Rattle.format.proofs.Round.{decode-encode}
use Rattle.operations.specs.Order.{pair}
use Rattle.operations.specs.Change.{ForwardStep, UndoStep, BlankForm}
use Rattle.operations.specs.Runs.{KeyIn}
use Rattle.operations.proofs.Readable.{not_refused_zero, reads_one, encode_read, read_fits}
use Rattle.operations.proofs.Kept.{encode_bytes, fits_undo, fits_forward}

-- what an allowed forward step and an allowed undo come from
pub record Stepped (s : List ℕ) (x : List Node) (m : Key) (l : Label) (b : List ℕ) : Type 0 where
  pub before : Term
  pub later : Term
  pub reads : Reads s before
  pub step : Forward before m l later
  pub at : places step ≡ x
  pub bytes : encode later ≡ b

pub forward_done : {s : List ℕ} {p q : Node} {m : Key} {l : Label} {b : List ℕ} → ForwardStep s p q m 0 l b → Stepped s (pair p q) m l b
forward_done {s} (ForwardStep.unreadable e) = not_refused_zero s e
forward_done (ForwardStep.done {t = t} e w) = record { before = t; later = w.1; reads = e; step = w.2; at = w.3; bytes = refl }

pub record Undone (s : List ℕ) (m : Key) (l : Label) (b : List ℕ) : Type 0 where
  pub before : Term
  pub later : Term
  pub reads : Reads s before
  pub step : Undo before m l later
  pub bytes : encode later ≡ b

pub undo_done : {s b : List ℕ} {m : Key} {l : Label} → UndoStep s m 0 l b → Undone s m l b
undo_done {s} (UndoStep.unreadable e) = not_refused_zero s e
undo_done (UndoStep.done {t = t} {u = u} e d) = record { before = t; later = u; reads = e; step = d; bytes = refl }

-- the bytes afterwards are bytes, and can be read as the term afterwards
pub forward_readable : {s b : List ℕ} {x : List Node} {m : Key} {l : Label} (d : Stepped s x m l b) → Bytes s → m ≤ 65535 → Bytes b × Reads b d.later
forward_readable {s} d h k = let f = fits_forward d.step k (read_fits s h d.reads) in rw (← d.bytes) (encode_bytes d.later f.range, decode-encode d.later f)

pub undo_readable : {s b : List ℕ} {m : Key} {l : Label} (d : Undone s m l b) → Bytes s → Bytes b × Reads b d.later
undo_readable {s} d h = let f = fits_undo d.step (read_fits s h d.reads) in rw (← d.bytes) (encode_bytes d.later f.range, decode-encode d.later f)

pub undo_makes : {s : List ℕ} {t u : Term} {m : Key} {l : Label} (b : List ℕ) → Reads s t → Undo t m l u → encode u ≡ b → UndoStep s m 0 l b
undo_makes b e d f = rw (← f) (UndoStep.done e d)

pub forward_makes : {s : List ℕ} {t u : Term} {m : Key} {l : Label} (b : List ℕ) (p q : Node) → Reads s t → (d : Forward t m l u) → places d ≡ pair p q → encode u ≡ b → ForwardStep s p q m 0 l b
forward_makes {u = u} {l = l} b p q e d f g = rw (← g) (ForwardStep.done e (l, u, d, f))

-- the undo of a forward step gives back the label and every byte
pub forward_then_undo : {s b : List ℕ} {p q : Node} {m : Key} {l : Label} → Bytes s → m ≤ 65535 → ForwardStep s p q m 0 l b → UndoStep b m 0 l s
forward_then_undo {s} h k a = let d = forward_done a in undo_makes s (forward_readable d h k).1 (undo_of_forward d.step) (encode_read s h d.reads)

-- one place is (p, 0), two are (p, q)
pub as_pair : {t : Term} {l : Label} {x : List Node} → Placed t l x → (p : Node) × (q : Node) × (x ≡ pair p q)
as_pair (alone p e) = (p, 0, refl)
as_pair (joined p zero o z c) = absurd (omega arith)
as_pair (joined p (suc q) o z c) = (p, suc q, refl)

-- a forward step redoes an undo, and gives back the label and every byte
pub undo_then_forward : {s b : List ℕ} {m : Key} {l : Label} → Bytes s → UndoStep s m 0 l b → (p : Node) × (q : Node) × ForwardStep b p q m 0 l s
undo_then_forward {s} h a = let d = undo_done a in let f = forward_of_undo d.step in let i = as_pair (step_placed f) in
    (i.0, i.1, forward_makes s i.0 i.1 (undo_readable d h).1 f i.2 (encode_read s h d.reads))

-- two allowed undos by different keys work in both orders and end in the same bytes, on any readable record
pub undos_commute : {s b c : List ℕ} {m n : Key} {l k : Label} → Bytes s → m ≢ n → UndoStep s m 0 l b → UndoStep s n 0 k c → (e : List ℕ) × UndoStep b n 0 k e × UndoStep c m 0 l e
undos_commute {s} {b} {c} {m} {n} {l} {k} h f x y =
    let d = undo_done x in let e = undo_done y in
    let z : Undo d.before n k e.later = rw (reads_one s d.reads e.reads) e.step in
    let i = diamond f d.step z in
    (encode i.0, undo_makes (encode i.0) (undo_readable d h).1 i.1 refl, undo_makes (encode i.0) (undo_readable e h).1 i.2 refl)

-- the keys of the record: a forward step adds exactly its key
pub forward_adds_its_key : {s b : List ℕ} {p q : Node} {m : Key} {l : Label} → Bytes s → m ≤ 65535 → ForwardStep s p q m 0 l b → (¬ KeyIn m s) × ((k : Key) → KeyIn k b ↔ ((k ≡ m) ⊎ KeyIn k s))
forward_adds_its_key {s} {b} {p} {q} {m} {l} h g a = (fresh, λ k. (there k, back k))
  where
    d : Stepped s (pair p q) m l b
    d = forward_done a

    u : Undo d.later m l d.before
    u = undo_of_forward d.step

    r : Reads b d.later
    r = (forward_readable d h g).1

    fresh : ¬ KeyIn m s
    fresh i = absent u (rw (reads_one s d.reads i.1) i.3)

    there : (k : Key) → KeyIn k b → (k ≡ m) ⊎ KeyIn k s
    there k i = pick (ℕ_discrete k m)
      where
        pick : Dec (k ≡ m) → (k ≡ m) ⊎ KeyIn k s
        pick (yes e) = inl e
        pick (no e) = inr (d.before, d.reads, i.2, has_redo k u i.2 e (rw (reads_one b r i.1) i.3))

    back : (k : Key) → (k ≡ m) ⊎ KeyIn k s → KeyIn k b
    back k (inl e) = (d.later, r, rw e (key_pos u), rw e (present u))
    back k (inr i) = (d.later, r, i.2, has_undo k u i.2 (rw (reads_one s d.reads i.1) i.3))

-- an undo removes exactly its key
pub undo_removes_its_key : {s b : List ℕ} {m : Key} {l : Label} → Bytes s → UndoStep s m 0 l b → KeyIn m s × ((k : Key) → KeyIn k b ↔ ((k ≢ m) × KeyIn k s))
undo_removes_its_key {s} {b} {m} {l} h a = ((d.before, d.reads, key_pos d.step, present d.step), λ k. (there k, back k))
  where
    d : Undone s m l b
    d = undo_done a

    r : Reads b d.later
    r = (undo_readable d h).1

    there : (k : Key) → KeyIn k b → (k ≢ m) × KeyIn k s
    there k i = let j : Has k d.later = rw (reads_one b r i.1) i.3 in ((λ e. absent d.step (rw e at j)), (d.before, d.reads, i.2, has_undo k d.step i.2 j))

    back : (k : Key) → (k ≢ m) × KeyIn k s → KeyIn k b
    back k i = let j = i.1 in (d.later, r, j.2, has_redo k d.step j.2 i.0 (rw (reads_one s d.reads j.1) j.3))

-- what the blank form comes from
pub blank_done : {s b : List ℕ} {n : ℕ} → BlankForm s 0 n b → (t : Term) × Reads s t × (distinct (keys t) ≡ n) × (encode (blank t) ≡ b)
blank_done {s} (BlankForm.unreadable e) = not_refused_zero s e
blank_done (BlankForm.done {t = t} e) = (t, e, refl, refl)

pub blank_makes : {s : List ℕ} {t : Term} (n : ℕ) (b : List ℕ) → Reads s t → distinct (keys t) ≡ n → encode (blank t) ≡ b → BlankForm s 0 n b
blank_makes n b e f g = rw (← f, ← g) (BlankForm.done e)

-- a forward step has one key more, and the blank form stays the same bytes
pub forward_keeps_blank : {s b c : List ℕ} {p q : Node} {m : Key} {l : Label} {n : ℕ} → Bytes s → m ≤ 65535 → ForwardStep s p q m 0 l b → BlankForm s 0 n c → BlankForm b 0 (suc n) c
forward_keeps_blank {s} {b} {c} {n = n} h k a z = let d = forward_done a in let i = blank_done z in let e = reads_one s d.reads i.1 in
    let u = undo_of_forward d.step in
    blank_makes (suc n) c (forward_readable d h k).1 (distinct_undo u ∙ ap suc (ap (λ t. distinct (keys t)) e ∙ i.2)) (ap encode (blank_kept u ∙ ap blank e) ∙ i.3)

-- an undo has one key less, and the blank form stays the same bytes
pub undo_keeps_blank : {s b c : List ℕ} {m : Key} {l : Label} {n : ℕ} → Bytes s → UndoStep s m 0 l b → BlankForm s 0 (suc n) c → BlankForm b 0 n c
undo_keeps_blank {s} {b} {c} {n = n} h a z = let d = undo_done a in let i = blank_done z in let e = reads_one s d.reads i.1 in
    let q : suc (distinct (keys d.later)) ≡ suc n = sym (distinct_undo d.step) ∙ (ap (λ t. distinct (keys t)) e ∙ i.2) in
    blank_makes n c (undo_readable d h).1 (omega arith) (ap encode (sym (blank_kept d.step) ∙ ap blank e) ∙ i.3)
