-- The first node of the terms that are due at a place, and what it leaves due: a plain loop goes from node to node by these laws.
use mathlib.Core.Path.{◌≡◌, refl, sym, ap, ◌∙◌}
use mathlib.Core.Bool.{cond}
use mathlib.Core.List.{List, [], ◌∷◌, ◌++◌, append_assoc, append-nil}
use Prim.Native.Nat.{ℕ, zero, suc, ◌+◌, ◌≤◌, ◌<◌}
use native.Mathlib.Omega.{arith}
use lib.Dec.{eqb}
use lib.ListN.{length, get_or, drop, length-drop, length-append}
use lib.Seq.{get_or-drop, drop-drop, drop-append_seam}
use Rattle.ccsk.specs.Term.{Term, Key, nil, pre, cho, par, res, keys, done}
use Rattle.format.specs.Read.{key_of}
use Rattle.format.specs.Encode.{encode, high, low}
use Rattle.format.specs.Kinds.{length_of_body, count_of_children}
use Rattle.format.specs.Flat.{encodes, keys_of, after, head_kind, head_key, head_arg, Due, key_at}
use Rattle.format.proofs.Round.{key_bytes}

-- The first node of the terms that are due at a place: its kind, its end, what is due then, its key, and its action or name.
record FirstNode (s : List ℕ) (at : ℕ) (ts : List Term) : Type 0 where
  known : get_or s at 0 < 5
  within : at + 1 + length_of_body (get_or s at 0) ≤ length s
  rest : Due s (at + 1 + length_of_body (get_or s at 0)) (after ts)
  kind : get_or s at 0 ≡ head_kind ts
  key : key_at s at ≡ head_key ts
  arg : 0 < length_of_body (get_or s at 0) → get_or s (at + 1) 0 ≡ head_arg ts

-- a byte of what is due
byte_at : (s : List ℕ) (at i : ℕ) (l : List ℕ) → drop at s ≡ l → get_or s (at + i) 0 ≡ get_or l i 0
byte_at s at i l e = sym (get_or-drop at s i 0) ∙ ap (λ (x : List ℕ). get_or x i 0) e

past : (s : List ℕ) (at n : ℕ) (l : List ℕ) → drop at s ≡ l → drop (at + n) s ≡ drop n l
past s at n l e = sym (drop-drop n at s) ∙ ap (drop n) e

-- a node of kind b whose body is x, with l after it
module _ (s : List ℕ) (at : ℕ) (ts : List Term) (h : at < length s) where
  node_of : (b : ℕ) (x l : List ℕ) → b < 5 → length_of_body b ≡ length x → drop at s ≡ b ∷ (x ++ l) → l ≡ encodes (after ts) → b ≡ head_kind ts
      → cond (eqb b 1) (key_of (get_or (x ++ l) 1 0) (get_or (x ++ l) 2 0)) 0 ≡ head_key ts → (0 < length x → get_or (x ++ l) 0 0 ≡ head_arg ts) → FirstNode s at ts
  node_of b x l five q e r m k a = record {
    known = rw kind five;
    within = rw (kind, q) (omega (arith, length-drop at s, ap length e, length-append x l));
    rest = rw (kind, q) (rest ∙ r);
    kind = kind ∙ m;
    key = rw (kind, byte_at s at 2 (b ∷ (x ++ l)) e, byte_at s at 3 (b ∷ (x ++ l)) e) k;
    arg = rw (kind, q, byte_at s at 1 (b ∷ (x ++ l)) e) a;
  }
    where
      kind : get_or s at 0 ≡ b
      kind = let z : at + 0 ≡ at = omega arith in rw z at (byte_at s at 0 (b ∷ (x ++ l)) e)

      rest : drop (at + 1 + length x) s ≡ l
      rest = let z : at + 1 + length x ≡ at + suc (length x) = omega arith in rw z (past s at (suc (length x)) (b ∷ (x ++ l)) e ∙ drop-append_seam x l)

-- Every place that is not the end has a first node.
first_node : (s : List ℕ) (at : ℕ) (ts : List Term) → at < length s → Due s at ts → FirstNode s at ts
unfolding encodes after encode head_kind head_key head_arg
first_node s at [] h e = absurd (omega (arith, length-drop at s, ap length e))
first_node s at (nil ∷ ts) h e = node_of s at (nil ∷ ts) h 0 [] (encodes ts) (omega arith) refl e refl refl refl (λ z. absurd (omega arith))
first_node s at (pre a k t ∷ ts) h e =
    node_of s at (pre a k t ∷ ts) h 1 (a ∷ (high k ∷ (low k ∷ []))) (encode t ++ encodes ts) (omega arith) refl e refl refl (key_bytes k) (λ z. refl)
first_node s at (cho t u ∷ ts) h e =
    node_of s at (cho t u ∷ ts) h 2 [] (encode t ++ (encode u ++ encodes ts)) (omega arith) refl (e ∙ rw append_assoc) refl refl refl (λ z. absurd (omega arith))
first_node s at (par t u ∷ ts) h e =
    node_of s at (par t u ∷ ts) h 3 [] (encode t ++ (encode u ++ encodes ts)) (omega arith) refl (e ∙ rw append_assoc) refl refl refl (λ z. absurd (omega arith))
first_node s at (res a t ∷ ts) h e = node_of s at (res a t ∷ ts) h 4 (a ∷ []) (encode t ++ encodes ts) (omega arith) refl e refl refl refl (λ z. refl)

done-append : (k : Key) (l m : List Key) → done k l ++ m ≡ done k [] ++ (l ++ m)
done-append zero l m = refl
done-append (suc k) l m = refl

-- the first node's key stands first
pub keys_head : (ts : List Term) → keys_of ts ≡ done (head_key ts) [] ++ keys_of (after ts)
unfolding keys_of after head_key keys
keys_head [] = refl
keys_head (nil ∷ ts) = refl
keys_head (pre a k t ∷ ts) = done-append k (keys t) (keys_of ts)
keys_head (cho t u ∷ ts) = append_assoc (keys t) (keys u) (keys_of ts)
keys_head (par t u ∷ ts) = append_assoc (keys t) (keys u) (keys_of ts)
keys_head (res a t ∷ ts) = refl

-- the first node's place is taken by its children
pub children_due : (ts : List Term) → 0 < length ts → length (after ts) + 1 ≡ length ts + count_of_children (head_kind ts)
unfolding after head_kind
children_due [] h = absurd (omega arith)
children_due (nil ∷ ts) h = omega arith
children_due (pre a k t ∷ ts) h = omega arith
children_due (cho t u ∷ ts) h = omega arith
children_due (par t u ∷ ts) h = omega arith
children_due (res a t ∷ ts) h = omega arith

-- Before the end something is due.
pub some_due : (s : List ℕ) (at : ℕ) (ts : List Term) → at < length s → Due s at ts → 0 < length ts
unfolding encodes
some_due s at [] h e = absurd (omega (arith, length-drop at s, ap length e))
some_due s at (t ∷ ts) h e = omega arith

-- At the end nothing is due.
pub none_due : (s : List ℕ) (at : ℕ) (ts : List Term) → length s ≤ at → Due s at ts → ts ≡ []
unfolding encodes encode
none_due s at [] h e = refl
none_due s at (nil ∷ ts) h e = absurd (omega (arith, length-drop at s, ap length e))
none_due s at (pre a k t ∷ ts) h e = absurd (omega (arith, length-drop at s, ap length e))
none_due s at (cho t u ∷ ts) h e = absurd (omega (arith, length-drop at s, ap length e))
none_due s at (par t u ∷ ts) h e = absurd (omega (arith, length-drop at s, ap length e))
none_due s at (res a t ∷ ts) h e = absurd (omega (arith, length-drop at s, ap length e))

-- At the start of a record its one term is due.
pub all_due : (s : List ℕ) (t : Term) → encode t ≡ s → Due s 0 (t ∷ [])
unfolding encodes
all_due s t e = sym e ∙ sym (append-nil (encode t))

pub keys_one : (t : Term) → keys_of (t ∷ []) ≡ keys t
unfolding keys_of
keys_one t = append-nil (keys t)

pub keys_none : keys_of [] ≡ []
unfolding keys_of
keys_none = refl

-- What a loop needs at a place that is not the end: the node's kind b is in the tables, its body and a prefix's key end within the record,
-- its key, its action or name are the first node's, and what is due after it.
module _ (s : List ℕ) (at : ℕ) (ts : List Term) (d : Due s at ts) (h : at < length s) where
  pub key_here : key_at s at ≡ head_key ts
  key_here = (first_node s at ts h d).key

  pub kind_here : get_or s at 0 ≡ head_kind ts
  kind_here = (first_node s at ts h d).kind

  -- a node with a body has its action or name there
  pub arg_within : 0 < length_of_body (head_kind ts) → at + 1 < length s
  arg_within z = omega (arith, z, (first_node s at ts h d).within, ap length_of_body kind_here)

  pub arg_here : 0 < length_of_body (head_kind ts) → get_or s (at + 1) 0 ≡ head_arg ts
  arg_here z = (first_node s at ts h d).arg (rw kind_here z)

  pub key_within : get_or s at 0 ≡ 1 → at + 3 < length s
  key_within e = omega (arith, rw e at (first_node s at ts h d).within)

  module _ (b : ℕ) (e : b ≡ get_or s at 0) where
    pub kind_known : b < 5
    kind_known = rw e (first_node s at ts h d).known

    pub ends_within : at + (1 + length_of_body b) ≤ length s
    ends_within = rw e (omega (arith, (first_node s at ts h d).within))

    pub due_after : Due s (at + (1 + length_of_body b)) (after ts)
    due_after = let z : at + (1 + length_of_body (get_or s at 0)) ≡ at + 1 + length_of_body (get_or s at 0) = omega arith in rw (e, z) (first_node s at ts h d).rest
