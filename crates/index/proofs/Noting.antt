-- Going through a record from node to node and noting a line for each.
use mathlib.Core.Path.{◌≡◌, sym, ap, ◌∙◌}
use mathlib.Core.List.{List}
use mathlib.Core.Bool.{Bool, false, not}
use Prim.Native.Nat.{ℕ, suc, ◌+◌, ◌-◌, ◌<◌, ◌≤◌}
use native.Mathlib.Decide.{ℕ_discrete}
use native.Mathlib.Numerals.{add-one}
use native.Mathlib.Omega.{arith}
use lib.Dec.{eqb}
use lib.ListN.{length, get_or, set, length-set}
use lib.Seq.{get_or-set_same, get_or-set_other}
use Rattle.ccsk.specs.Term.{Term, Key, Node}
use Rattle.format.specs.Encode.{Bytes}
use Rattle.format.specs.Flat.{Due, key_at, after}
use Rattle.format.specs.Kinds.{length_of_body}
use Rattle.format.specs.Limits.{node_limit, depth_limit}
use Rattle.format.proofs.Flat.{kind_here, key_here, arg_within, arg_here, due_after, all_due, some_due, none_due}
use Rattle.keys.specs.Gather.{RecordOf}
use Rattle.keys.proofs.Reading.{was_read}
use Rattle.reader.specs.Due.{Remains, Passed}
use Rattle.reader.proofs.Due.{at_start, no_more_bytes}
use Rattle.std.specs.Prelude.{Ok}
use Rattle.reader.specs.declared.Kind.{Kind}
use Rattle.reader.specs.Kind.{byte_of}
use Rattle.reader.proofs.KindBytes.{byte_once}
use Rattle.index.specs.Whole.{number_of}
use Rattle.index.specs.Lines.{pending, keyless, Line, Lines, Notes}

-- what is due at the next node
pub pending_next : (i : Node) (t : Term) → pending (i + 1) t ≡ after (pending i t)
unfolding pending
pending_next i t = rw (add-one i)

-- a line stays where its places in the rows do
pub line_kept : {F F' A A' : List ℕ} {H H' : List Bool} (i : Node) {ts : List Term} → get_or F' i 0 ≡ get_or F i 0 → get_or A' i 0 ≡ get_or A i 0 → get_or H' i false ≡ get_or H i false
    → Line F A H i ts → Line F' A' H' i ts
line_kept i f a h l = record { some = l.some; form = λ k z. f ∙ l.form k z; arg = λ z. a ∙ l.arg z; done = h ∙ l.done }

-- Up to the place `at` the bytes s were read and n lines were noted. If s is the record of t, they are those of its first n nodes.
pub record Noting (s : List ℕ) (F A : List ℕ) (H : List Bool) (levels : List ℕ) (many at n : ℕ) : Type 0 where
  pub remains : Remains s levels many (node_limit - n) at
  pub room : (length F ≡ node_limit) × (length A ≡ node_limit) × (length H ≡ node_limit)
  pub count : n ≤ node_limit
  pub due : (t : Term) → RecordOf s t → Due s at (pending n t)
  pub lines : (t : Term) → RecordOf s t → Lines t n F A H

pub start : (s : List ℕ) (F A : List ℕ) (H : List Bool) (levels : List ℕ) → length levels ≡ suc depth_limit → get_or levels 0 0 ≡ depth_limit
    → (length F ≡ node_limit) × (length A ≡ node_limit) × (length H ≡ node_limit) → Noting s F A H levels 1 0 0
unfolding pending
start s F A H levels l d L =
    record { remains = at_start s levels l d; room = L; count = omega arith; due = λ t R. all_due s t R.bytes; lines = λ t R i h. absurd (omega arith) }

-- the next node is passed
module _ {s : List ℕ} {F A : List ℕ} {H : List Bool} {levels : List ℕ} {many at n : ℕ} (P : Noting s F A H levels many at n) (kind : Kind) (children next : ℕ) {levels' : List ℕ}
    (N : Passed s at (node_limit - n) many (byte_of kind) children next levels') {f : ℕ} (g : f ≡ number_of (keyless kind)) {a : ℕ} (q : at + 1 < length s → a ≡ get_or s (at + 1) 0) {k : Key} (e : k ≡ key_at s at) where
  here : (t : Term) → RecordOf s t → Line (set F n f) (set A n a) (set H n (not (eqb k 0))) n (pending n t)
  here t R = record {
    some = some_due s at (pending n t) N.inside (P.due t R);
    form = λ l z. get_or-set_same F n f 0 (omega arith) ∙ g ∙ ap (λ x. number_of (keyless x)) (byte_once kind l (N.good.byte ∙ kind_here s at (pending n t) (P.due t R) N.inside ∙ sym z));
    arg = λ z. get_or-set_same A n a 0 (omega arith) ∙ q (arg_within s at (pending n t) (P.due t R) N.inside z) ∙ arg_here s at (pending n t) (P.due t R) N.inside z;
    done = rw (← key_here s at (pending n t) (P.due t R) N.inside, ← e) (get_or-set_same H n _ false (omega arith));
  }

  pub onward : Noting s (set F n f) (set A n a) (set H n (not (eqb k 0))) levels' (many - 1 + children) next (n + 1)
  onward = record {
    remains = let z : node_limit - n - 1 ≡ node_limit - (n + 1) = omega arith in rw z at N.remains;
    room = (simp length-set P.room.0, simp length-set P.room.1, simp length-set P.room.2);
    count = omega arith;
    due = λ t R. let z : at + (1 + length_of_body (byte_of kind)) ≡ next = omega (arith, N.good.ends) in rw (pending_next n t, ← z) (due_after s at (pending n t) (P.due t R) N.inside (byte_of kind) N.good.byte);
    lines = λ t R i h. pick t R i h (ℕ_discrete i n);
  }
    where
      pick : (t : Term) → RecordOf s t → (i : Node) → i < n + 1 → Dec (i ≡ n) → Line (set F n f) (set A n a) (set H n (not (eqb k 0))) i (pending i t)
      pick t R i h (yes z) = rw z (here t R)
      pick t R i h (no z) = line_kept i (get_or-set_other F n i f 0 z) (get_or-set_other A n i a 0 z) (get_or-set_other H n i _ false z) (P.lines t R i (omega arith))

-- everything was read
pub noted : {s : List ℕ} {F A : List ℕ} {H : List Bool} {levels : List ℕ} {many at n : ℕ} → Noting s F A H levels many at n → many ≡ 0 → length s ≤ at → Bytes s → Notes s F A H (Ok n)
noted {s} {levels = levels} {many} {at} {n} P z h B =
    let left = node_limit - n in
    let w = was_read s (node_limit - left) (no_more_bytes s levels many left at P.remains z B h) B in
    (w.0, w.1, record { lines = P.lines w.0 w.1; last = none_due s at (pending n w.0) h (P.due w.0 w.1); few = P.count })
