-- A step keeps a term within the limits, so the record afterwards can be read.
use mathlib.Core.Path.{◌≡◌, refl, ap, sym, ◌∙◌}
use mathlib.Core.Logic.{inl, inr}
use mathlib.Core.List.{List, [], ◌∷◌, ◌++◌}
use Prim.Native.Nat.{ℕ, suc, ◌≤◌}
use native.Mathlib.Omega.{arith}
use Rattle.ccsk.specs.Term.{Term, Label, Key, nil, pre, cho, par, res, Has, blank, size}
use Rattle.ccsk.specs.Step.{Forward, Undo, Undo.top, Undo.prefix, Undo.choice₁, Undo.choice₂, Undo.par₁, Undo.par₂, Undo.synch, Undo.restrict}
use Rattle.ccsk.proofs.Loop.{undo_of_forward}
use Rattle.ccsk.proofs.Undo.{blank_kept}
use Rattle.format.specs.Encode.{encode, depth, InRange, Fits, Bytes}

-- the record of a term in range is bytes
pub bytes_append : (x y : List ℕ) → Bytes x → Bytes y → Bytes (x ++ y)
bytes_append [] y b c = c
bytes_append (a ∷ x) y b c = (b.0, bytes_append x y b.1 c)

pub encode_bytes : (t : Term) → InRange t → Bytes (encode t)
unfolding encode
encode_bytes nil g = (omega arith, tt)
encode_bytes (pre a k t) g = (omega arith, (omega (arith, g.0), (omega (arith, g.2), (omega arith, encode_bytes t g.3))))
encode_bytes (cho t u) g = (omega arith, bytes_append (encode t) (encode u) (encode_bytes t g.0) (encode_bytes u g.1))
encode_bytes (par t u) g = (omega arith, bytes_append (encode t) (encode u) (encode_bytes t g.0) (encode_bytes u g.1))
encode_bytes (res a t) g = (omega arith, (omega (arith, g.0), encode_bytes t g.1))

-- the blank form has the same shape
size-blank : (t : Term) → size (blank t) ≡ size t
unfolding size blank
size-blank nil = refl
size-blank (pre a k t) = ap suc (size-blank t)
size-blank (cho t u) = rw (size-blank t, size-blank u)
size-blank (par t u) = rw (size-blank t, size-blank u)
size-blank (res a t) = ap suc (size-blank t)

depth-blank : (t : Term) → depth (blank t) ≡ depth t
unfolding depth blank
depth-blank nil = refl
depth-blank (pre a k t) = ap suc (depth-blank t)
depth-blank (cho t u) = rw (depth-blank t, depth-blank u)
depth-blank (par t u) = rw (depth-blank t, depth-blank u)
depth-blank (res a t) = ap suc (depth-blank t)

range_blank : (t : Term) → InRange t → InRange (blank t)
unfolding blank
range_blank nil g = tt
range_blank (pre a k t) g = (g.0, g.1, omega arith, range_blank t g.3)
range_blank (cho t u) g = (range_blank t g.0, range_blank u g.1)
range_blank (par t u) g = (range_blank t g.0, range_blank u g.1)
range_blank (res a t) g = (g.0, range_blank t g.1)

-- a key of a term in range is a 16-bit number
pub range_key : (m : Key) (t : Term) → InRange t → Has m t → m ≤ 65535
range_key m nil g i = absurd i
range_key m (pre a k t) g (inl e) = omega (arith, g.2)
range_key m (pre a k t) g (inr i) = range_key m t g.3 i
range_key m (cho t u) g (inl i) = range_key m t g.0 i
range_key m (cho t u) g (inr i) = range_key m u g.1 i
range_key m (par t u) g (inl i) = range_key m t g.0 i
range_key m (par t u) g (inr i) = range_key m u g.1 i
range_key m (res a t) g i = range_key m t g.1 i

range_undo : {t u : Term} {m : Key} {l : Label} → Undo t m l u → InRange t → InRange u
range_undo (top h s) g = (g.0, g.1, omega arith, g.3)
range_undo (prefix h f d) g = (g.0, g.1, g.2, range_undo d g.3)
range_undo (choice₁ s d) g = (range_undo d g.0, g.1)
range_undo (choice₂ s d) g = (g.0, range_undo d g.1)
range_undo (par₁ f d) g = (range_undo d g.0, g.1)
range_undo (par₂ f d) g = (g.0, range_undo d g.1)
range_undo (synch c d e) g = (range_undo d g.0, range_undo e g.1)
range_undo (restrict f d) g = (g.0, range_undo d g.1)

range_redo : {t u : Term} {m : Key} {l : Label} → Undo t m l u → m ≤ 65535 → InRange u → InRange t
range_redo (top h s) k g = (g.0, g.1, k, g.3)
range_redo (prefix h f d) k g = (g.0, g.1, g.2, range_redo d k g.3)
range_redo (choice₁ s d) k g = (range_redo d k g.0, g.1)
range_redo (choice₂ s d) k g = (g.0, range_redo d k g.1)
range_redo (par₁ f d) k g = (range_redo d k g.0, g.1)
range_redo (par₂ f d) k g = (g.0, range_redo d k g.1)
range_redo (synch c d e) k g = (range_redo d k g.0, range_redo e k g.1)
range_redo (restrict f d) k g = (g.0, range_redo d k g.1)

-- two terms with the same blank form have the same size and the same depth
pub same_shape : (t u : Term) → blank t ≡ blank u → (size t ≡ size u) × (depth t ≡ depth u)
same_shape t u e = (sym (size-blank t) ∙ ap size e ∙ size-blank u, sym (depth-blank t) ∙ ap depth e ∙ depth-blank u)

pub fits_blank : (t : Term) → Fits t → Fits (blank t)
fits_blank t f = record { range = range_blank t f.range; deep = omega (arith, f.deep, depth-blank t); nodes = omega (arith, f.nodes, size-blank t) }

pub fits_undo : {t u : Term} {m : Key} {l : Label} → Undo t m l u → Fits t → Fits u
fits_undo {t} {u} d f = let e = same_shape t u (blank_kept d) in record { range = range_undo d f.range; deep = omega (arith, f.deep, e.1); nodes = omega (arith, f.nodes, e.0) }

pub fits_forward : {t u : Term} {m : Key} {l : Label} → Forward t m l u → m ≤ 65535 → Fits t → Fits u
fits_forward {t} {u} d k f = let b = undo_of_forward d in let e = same_shape u t (blank_kept b) in
    record { range = range_redo b k f.range; deep = omega (arith, f.deep, e.1); nodes = omega (arith, f.nodes, e.0) }
