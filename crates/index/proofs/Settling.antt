-- Settling the lines from the last node to the first: the terms that are due at a node are laid from it on, one after the other.
use mathlib.Core.Path.{◌≡◌, refl, sym, subst, ◌∙◌, ap}
use mathlib.Core.Logic.{◌≢◌}
use mathlib.Core.List.{List, [], ◌∷◌}
use mathlib.Core.Bool.{Bool, true, false, not}
use Prim.Native.Nat.{ℕ, zero, suc, ◌+◌, ◌≤◌, ◌<◌, ◌%◌, min}
use native.Mathlib.Omega.{arith}
use borrow.Author.Tests.{ne_eqb}
use lib.Dec.{eqb}
use lib.ListN.{length, get_or, set}
use lib.Seq.{get_or-set_same, get_or-set_other}
use Rattle.ccsk.specs.Term.{Term, Key, Node, nil, pre, cho, par, res, size}
use Rattle.format.specs.Flat.{after, head_kind, head_key, head_arg}
use Rattle.format.specs.Limits.{node_limit}
use Rattle.moves.specs.Move.{holds}
use Rattle.offers.specs.Forms.{prefix_form, form_of_choice, Laid}
use Rattle.ccsk.proofs.Basic.{size_pos}
use Rattle.reader.specs.declared.Kind.{Kind}
use Rattle.reader.specs.declared.Kind.TheVariants.{Nil, Prefix, Choice, Parallel, Restriction}
use Rattle.index.specs.declared.Form.{Form}
use Rattle.index.specs.declared.Form.TheVariants.{Own}
use Rattle.index.specs.Whole.{number_of}
use Rattle.index.specs.Lines.{pending, keyless, choice_form, Line, Lines, Noted, form_of, holds_of, end_of}
use Rattle.index.proofs.FormNumbers.{form_once}
use Rattle.index.proofs.Noting.{pending_next, line_kept}

module _ (F A E : List ℕ) (H : List Bool) (n : Node) where
  -- The terms are laid from node k on, one after the other, up to node n: the lines of each, where it ends, and whether it holds a key.
  abbrev pub LaidAll : Node → List Term → Type 0
  LaidAll k [] = k ≡ n
  LaidAll k (t ∷ ts) = Laid F A E k t × (get_or E k 0 ≡ k + size t) × (get_or H k false ≡ holds t) × LaidAll (k + size t) ts

  -- they begin before node n, or there
  laid_within : (k : Node) (ts : List Term) → LaidAll k ts → k ≤ n
  laid_within k [] L = omega (arith, L)
  laid_within k (t ∷ ts) L = omega (arith, laid_within (k + size t) ts L.3)

-- the number of the form of a prefix, by whether it is done, and of a choice
form_done : (k : Key) (b c : Bool) → number_of (form_of Own (not (eqb k 0)) b c) ≡ prefix_form k b
form_done zero true c = refl
form_done zero false c = refl
form_done (suc k) b c = rw (ne_eqb (suc k) 0 (λ q. omega arith))

form_open : (b c : Bool) → number_of (choice_form b c) ≡ form_of_choice b c
form_open true true = refl
form_open true false = refl
form_open false true = refl
form_open false false = refl

-- the form that was noted of a node of this kind is read again
noted_form : (kind : Kind) (g : Form) (n : ℕ) → number_of g ≡ min n 6 → n ≡ number_of (keyless kind) → g ≡ keyless kind
noted_form Nil g n e d = form_once g _ (e ∙ ap (λ x. min x 6) d)
noted_form Prefix g n e d = form_once g _ (e ∙ ap (λ x. min x 6) d)
noted_form Choice g n e d = form_once g _ (e ∙ ap (λ x. min x 6) d)
noted_form Parallel g n e d = form_once g _ (e ∙ ap (λ x. min x 6) d)
noted_form Restriction g n e d = form_once g _ (e ∙ ap (λ x. min x 6) d)

-- What is written at node i, by the rows as they stand and the form g that was read there: `end` and `held` were written at the next node, and w
-- is `end` again.
pub record Written (F E : List ℕ) (H : List Bool) (i next end w : Node) (held : Bool) (g : Form) (f e : ℕ) (h : Bool) : Type 0 where
  pub read : number_of g ≡ min (get_or F i 0) 6
  pub form : f ≡ number_of (form_of g (get_or H i false) held (get_or H (w % node_limit) false))
  pub keys : h ≡ holds_of g (get_or H i false) held (get_or H (w % node_limit) false)
  pub ends : e ≡ end_of g next end (get_or E (w % node_limit) 0)

-- The line of node i is written, and those after it stay: what begins there is laid.
module _ (A : List ℕ) (n : Node) (few : n ≤ node_limit) (F E : List ℕ) (H : List Bool) (i end : Node) (held : Bool)
    (ahead : i + 1 < n → (end ≡ get_or E (i + 1) 0) × (held ≡ get_or H (i + 1) false)) (w : Node) (v : w ≡ end) (F' E' : List ℕ) (H' : List Bool) (g : Form)
    (W : Written F E H i (i + 1) end w held g (get_or F' i 0) (get_or E' i 0) (get_or H' i false)) where
  first_part : (t : Term) (ts : List Term) → LaidAll F A E H n (i + 1) (t ∷ ts) → (end ≡ i + 1 + size t) × (held ≡ holds t)
  first_part t ts L = let a = ahead (omega (arith, laid_within F A E H n (i + 1 + size t) ts L.3, size_pos t)) in (a.0 ∙ L.1, a.1 ∙ L.2)

  second_part_lem : (t u : Term) (ts : List Term) → LaidAll F A E H n (i + 1) (t ∷ (u ∷ ts))
      → (get_or E (w % node_limit) 0 ≡ i + 1 + size t + size u) × (get_or H (w % node_limit) false ≡ holds u)
  second_part_lem t u ts L =
      let q : w % node_limit ≡ i + 1 + size t = omega (arith, few, v, (first_part t (u ∷ ts) L).0, laid_within F A E H n (i + 1 + size t + size u) ts L.3.3, size_pos u) in
      rw q (L.3.1, L.3.2)

  -- the part x ends at node k, and ts follow
  with_line : (x : Term) (ts : List Term) (k : Node) → k ≡ i + size x → get_or E' i 0 ≡ k → get_or H' i false ≡ holds x → (get_or E' i 0 ≡ i + size x → Laid F' A E' i x)
      → LaidAll F' A E' H' n k ts → LaidAll F' A E' H' n i (x ∷ ts)
  with_line x ts k z q b l L = (l (q ∙ z), q ∙ z, b, subst (λ (j : Node). LaidAll F' A E' H' n j ts) z L)

  -- by the kind of the node
  settled : (ts : List Term) → Line F A H i ts → LaidAll F A E H n (i + 1) (after ts) → LaidAll F' A E' H' n (i + 1) (after ts) → LaidAll F' A E' H' n i ts
  unfolding after head_kind head_key head_arg size holds
  settled [] l L M = absurd (omega (arith, l.some))
  settled (nil ∷ ts) l L M = let o = noted_form Nil g _ W.read (l.form Nil refl) in with_line nil ts (i + 1) refl (rw o at W.ends) (rw o at W.keys) (λ y. (y, rw o at W.form)) M
  settled (pre a k t ∷ ts) l L M =
      let o = noted_form Prefix g _ W.read (l.form Prefix refl) in let p = first_part t ts L in with_line (pre a k t) ts (i + 1 + size t) (omega arith) (rw (o, p.0) at W.ends) (rw (o, l.done, p.1) at W.keys)
      (λ y. (y, (rw (o, l.done, p.1) at W.form) ∙ form_done k (holds t) (get_or H (w % node_limit) false), l.arg (omega arith), M.0)) M.3
  settled (cho t u ∷ ts) l L M =
      let o = noted_form Choice g _ W.read (l.form Choice refl) in let p = first_part t (u ∷ ts) L in let q = second_part_lem t u ts L in with_line (cho t u) ts (i + 1 + size t + size u) (omega arith) ((rw o at W.ends) ∙ q.0) (rw (o, p.1, q.1) at W.keys)
      (λ y. (y, (rw (o, p.1, q.1) at W.form) ∙ form_open (holds t) (holds u), M.0, M.3.0)) M.3.3
  settled (par t u ∷ ts) l L M =
      let o = noted_form Parallel g _ W.read (l.form Parallel refl) in let p = first_part t (u ∷ ts) L in let q = second_part_lem t u ts L in with_line (par t u) ts (i + 1 + size t + size u) (omega arith) ((rw o at W.ends) ∙ q.0) (rw (o, p.1, q.1) at W.keys)
      (λ y. (y, rw o at W.form, M.0, M.3.0)) M.3.3
  settled (res a t ∷ ts) l L M =
      let o = noted_form Restriction g _ W.read (l.form Restriction refl) in let p = first_part t ts L in with_line (res a t) ts (i + 1 + size t) (omega arith) (rw (o, p.0) at W.ends) (rw (o, l.done, p.1) at W.keys)
      (λ y. (y, rw o at W.form, l.arg (omega arith), M.0)) M.3

-- from node i on the rows are the same
abbrev pub Same : Node → List ℕ → List ℕ → List Bool → List ℕ → List ℕ → List Bool → Type 0
Same i F E H F' E' H' = (j : Node) → i ≤ j → (get_or F' j 0 ≡ get_or F j 0) × (get_or E' j 0 ≡ get_or E j 0) × (get_or H' j false ≡ get_or H j false)

-- The lines from node i to n are settled, in these rows and in all that are the same from there on; those before are as they were noted.
pub record Settling (t : Term) (A : List ℕ) (n : Node) (F E : List ℕ) (H : List Bool) (i end : Node) (held : Bool) : Type 0 where
  pub few : n ≤ node_limit
  pub lines : Lines t i F A H
  pub ahead : i < n → (end ≡ get_or E i 0) × (held ≡ get_or H i false)
  pub laid : (F' E' : List ℕ) (H' : List Bool) → Same i F E H F' E' H' → LaidAll F' A E' H' n i (pending i t)

pub start : (t : Term) (A : List ℕ) (n : Node) (F E : List ℕ) (H : List Bool) → Noted t n F A H → Settling t A n F E H n 0 false
start t A n F E H N = record { few = N.few; lines = N.lines; ahead = λ h. absurd (omega arith); laid = λ F' E' H' S. rw N.last refl }

-- one node more
module _ (t : Term) (A : List ℕ) (n : Node) (F E : List ℕ) (H : List Bool) (i end : Node) (held : Bool) (lf : i < length F) (le : i < length E) (lh : i < length H)
    (next : Node) (z : next ≡ i + 1) (S₀ : Settling t A n F E H next end held) (w : Node) (v : w ≡ end) where
  S : Settling t A n F E H (i + 1) end held
  S = subst (λ (k : Node). Settling t A n F E H k end held) z S₀

  pub onward : (g : Form) (f e : ℕ) (h : Bool) → Written F E H i (i + 1) end w held g f e h → Settling t A n (set F i f) (set E i e) (set H i h) i e h
  onward g f e h W = record {
    few = S.few;
    lines = λ j l. let d : j ≢ i = λ q. omega arith in line_kept j (get_or-set_other F i j f 0 d) refl (get_or-set_other H i j h false d) (S.lines j (omega arith));
    ahead = λ l. (sym (get_or-set_same E i e 0 le), sym (get_or-set_same H i h false lh));
    laid = λ F' E' H' R. let r = R i (omega arith) in settled A n S.few F E H i end held S.ahead w v F' E' H' g
        (rw (r.0, r.1, r.2, get_or-set_same F i f 0 lf, get_or-set_same E i e 0 le, get_or-set_same H i h false lh) W) (pending i t) (S.lines i (omega arith))
        (rw (pending_next i t) at (S.laid F E H (λ j l. (refl, refl, refl))))
        (rw (pending_next i t) at (S.laid F' E' H' (λ j l. let d : j ≢ i = λ q. omega arith in let q = R j (omega arith) in
        (q.0 ∙ get_or-set_other F i j f 0 d, q.1 ∙ get_or-set_other E i j e 0 d, q.2 ∙ get_or-set_other H i j h false d))));
  }

-- every node is settled
pub all_laid : (t : Term) (A : List ℕ) (n : Node) (F E : List ℕ) (H : List Bool) (i : Node) → i ≡ 0 → (end : Node) (held : Bool) → Settling t A n F E H i end held → (n ≡ size t) × Laid F A E 0 t
unfolding pending
all_laid t A n F E H i z end held S = let w = rw z at (S.laid F E H (λ j l. (refl, refl, refl))) in (omega (arith, w.3), w.0)
