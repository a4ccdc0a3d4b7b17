-- Going through a record from node to node: what is gathered so far, with what is still due, is what the whole record gives.
use mathlib.Core.Path.{◌≡◌, refl, sym, ap, ◌∙◌}
use mathlib.Core.List.{List, [], ◌∷◌, ◌++◌, append_assoc, append-nil}
use mathlib.Core.Bool.{Bool, true, false, cond}
use Prim.Native.Nat.{ℕ, ◌+◌, ◌<◌, ◌≤◌}
use native.Mathlib.Decide.{ℕ_discrete}
use native.Mathlib.Omega.{arith}
use borrow.Author.Tests.{ne_eqb}
use lib.Dec.{eqb}
use lib.ListN.{length, get_or}
use lib.Seq.{get_or-drop}
use Rattle.ccsk.specs.Term.{Term, Label, Key, nil, pre, cho, par, res, tick, labels}
use Rattle.ccsk.proofs.Basic.{never}
use Rattle.format.specs.Encode.{encode}
use Rattle.format.specs.Kinds.{length_of_body}
use Rattle.format.specs.Flat.{Due, encodes, after, head_kind, head_key, key_at}
use Rattle.format.proofs.Flat.{key_here, kind_here, ends_within, due_after, none_due, all_due}
use Rattle.operations.proofs.Readable.{reads_one}
use Rattle.keys.specs.Gather.{RecordOf, Readable}
use Rattle.labels.specs.Labels.{no_label, joined, gathered, labels_of, Rising, Noted, Unlabelled, UndoLabels}
use Rattle.labels.proofs.Undone.{undo_gathered}

-- the action of the first node, 0 if it is no prefix
unfoldable head_action : List Term → Label
head_action [] = 0
head_action (nil ∷ ts) = 0
head_action (pre a k t ∷ ts) = a
head_action (cho t u ∷ ts) = 0
head_action (par t u ∷ ts) = 0
head_action (res a t ∷ ts) = 0

action_here : (s : List ℕ) (at : ℕ) (ts : List Term) → Due s at ts → head_kind ts ≡ 1 → get_or s (at + 1) 0 ≡ head_action ts
unfolding encodes encode head_action head_kind
action_here s at [] d h = absurd (omega arith)
action_here s at (nil ∷ ts) d h = absurd (omega arith)
action_here s at (pre a k t ∷ ts) d h = sym (get_or-drop at s 1 0) ∙ ap (λ (x : List ℕ). get_or x 1 0) d
action_here s at (cho t u ∷ ts) d h = absurd (omega arith)
action_here s at (par t u ∷ ts) d h = absurd (omega arith)
action_here s at (res a t ∷ ts) d h = absurd (omega arith)

-- the first node's action stands first, if it holds the key
labels_head : (m : Key) → 0 < m → (ts : List Term) → labels_of m ts ≡ tick (eqb m (head_key ts)) (head_action ts) (labels_of m (after ts))
unfolding labels_of labels head_key head_action after
labels_head m h [] = rw (ne_eqb m 0 (never h))
labels_head m h (nil ∷ ts) = rw (ne_eqb m 0 (never h))
labels_head m h (pre a k t ∷ ts) = pull (eqb m k)
  where
    pull : (b : Bool) → tick b a (labels m t) ++ labels_of m ts ≡ tick b a (labels m t ++ labels_of m ts)
    pull true = refl
    pull false = refl
labels_head m h (cho t u ∷ ts) = rw (ne_eqb m 0 (never h)) (append_assoc (labels m t) (labels m u) (labels_of m ts))
labels_head m h (par t u ∷ ts) = rw (ne_eqb m 0 (never h)) (append_assoc (labels m t) (labels m u) (labels_of m ts))
labels_head m h (res a t ∷ ts) = rw (ne_eqb m 0 (never h))

labels_one : (m : Key) (t : Term) → labels_of m (t ∷ []) ≡ labels m t
unfolding labels_of
labels_one m t = append-nil (labels m t)

-- The node at a place was passed: what is gathered after it, with what is due then, is what was gathered before it with what was due there.
abbrev pub Passes : List ℕ → ℕ → List Key → List Label → List Label → Type 0
Passes s at row ls ls' = (ts : List Term) → Due s at ts → (i : ℕ) → i < length row → gathered (get_or ls' i 0) (labels_of (get_or row i 0) (after ts)) ≡ gathered (get_or ls i 0) (labels_of (get_or row i 0) ts)

-- a node that holds no key is passed, one that holds a key is noted
module _ (s : List ℕ) (at : ℕ) (h : at < length s) (row : List ℕ) (R : Rising row) (k : Key) (q : k ≡ key_at s at) (ls : List Label) where
  pub passes_none : k ≡ 0 → Passes s at row ls ls
  passes_none z ts d i l = rw (labels_head (get_or row i 0) (R.positive i l) ts, sym (key_here s at ts d h) ∙ (sym q ∙ z), ne_eqb (get_or row i 0) 0 (never (R.positive i l)))

  is_prefix : (k ≡ 0 → ⊥) → get_or s at 0 ≡ 1
  is_prefix z = pick (ℕ_discrete (get_or s at 0) 1)
    where
      pick : Dec (get_or s at 0 ≡ 1) → get_or s at 0 ≡ 1
      pick (yes e) = e
      pick (no e) = absurd (z (q ∙ rw (ne_eqb (get_or s at 0) 1 e)))

  pub passes_noted : (k ≡ 0 → ⊥) → (ls' : List Label) → Noted row k (get_or s (at + 1) 0) ls ls' → Passes s at row ls ls'
  unfolding gathered
  passes_noted z ls' N ts d i l = rw (N i l, labels_head (get_or row i 0) (R.positive i l) ts, ← key_here s at ts d h, ← q, ← action_here s at ts d (sym (kind_here s at ts d h) ∙ is_prefix z))
      (one (get_or ls i 0) (get_or s (at + 1) 0) (labels_of (get_or row i 0) (after ts)) (eqb (get_or row i 0) k))
    where
      one : (l a : Label) (x : List Label) (b : Bool) → gathered (cond b (joined l a) l) x ≡ gathered l (tick b a x)
      one l a x true = refl
      one l a x false = refl

-- Up to the place `at` of the record s, the labels were gathered in ls.
pub record Passed (s row : List ℕ) (ls : List Label) (at : ℕ) : Type 0 where
  pub of : Term
  pub whole : RecordOf s of
  pub terms : List Term
  pub due : Due s at terms
  pub reach : at ≤ length s
  pub all : (i : ℕ) → i < length row → gathered (get_or ls i 0) (labels_of (get_or row i 0) terms) ≡ gathered no_label (labels (get_or row i 0) of)

pub start : (s row : List ℕ) (ls : List Label) → Readable s → Unlabelled (length row) ls → Passed s row ls 0
start s row ls R U = record {
  of = R.0;
  whole = R.1;
  terms = R.0 ∷ [];
  due = all_due s R.0 R.1.bytes;
  reach = omega arith;
  all = λ i h. rw (U i h, labels_one (get_or row i 0) R.0);
}

module _ (s row : List ℕ) (ls : List Label) (at : ℕ) (P : Passed s row ls at) where
  pub onward : at < length s → (ls' : List Label) → Passes s at row ls ls' → (b : ℕ) → b ≡ get_or s at 0 → Passed s row ls' (at + (1 + length_of_body b))
  onward h ls' N b e = record {
    of = P.of;
    whole = P.whole;
    terms = after P.terms;
    due = due_after s at P.terms P.due h b e;
    reach = ends_within s at P.terms P.due h b e;
    all = λ i l. N P.terms P.due i l ∙ P.all i l;
  }

  -- at the end each label is that of its key's undo
  pub labelled : length s ≤ at → UndoLabels s row ls
  unfolding gathered labels_of
  labelled h t r i l k u d = let e : get_or ls i 0 ≡ gathered no_label (labels (get_or row i 0) P.of) = rw (none_due s at P.terms h P.due) at (P.all i l) in e ∙ rw (reads_one s P.whole.reads r) (undo_gathered d)
