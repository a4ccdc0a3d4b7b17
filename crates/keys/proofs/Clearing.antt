-- Going through a record from node to node and clearing its keys. From the present node on, the bytes are still those of the record.
use mathlib.Core.Path.{◌≡◌, refl, sym, ap, ◌∙◌}
use mathlib.Core.List.{List, [], ◌∷◌, ◌++◌, append_assoc, append-nil}
use mathlib.Core.Bool.{Bool, true, false, cond}
use Prim.Native.Nat.{ℕ, ◌+◌, ◌≤◌, ◌<◌}
use native.Mathlib.Omega.{arith}
use borrow.Author.Tests.{eqb-true}
use lib.Dec.{eqb}
use lib.ListN.{length, get_or, set, take, drop, length-set, length-drop}
use lib.Seq.{take-add, drop-drop, get_or-drop, drop-set-add, drop-set-lt, take-set-le, take_all}
use Rattle.ccsk.specs.Term.{Term, Key, nil, pre, cho, par, res, blank}
use Rattle.format.specs.Encode.{encode}
use Rattle.format.specs.Flat.{encodes, after, head_key, Due, key_at}
use Rattle.format.specs.Kinds.{length_of_body}
use Rattle.format.proofs.Flat.{key_here, ends_within, none_due, all_due}
use Rattle.keys.specs.Gather.{RecordOf, Readable, cleared_at, Cleared}
use Rattle.keys.specs.Erase.{erase, erased_at, Erased}

-- several terms without the keys for which the test holds
unfoldable pub erases : (Key → Bool) → List Term → List Term
erases f [] = []
erases f (t ∷ ts) = erase f t ∷ erases f ts

-- without all keys a term is its blank form
pub erase_all : (t : Term) → erase (λ k. true) t ≡ blank t
unfolding erase blank
erase_all nil = refl
erase_all (pre a k t) = ap (pre a 0) (erase_all t)
erase_all (cho t u) = rw (erase_all t, erase_all u)
erase_all (par t u) = rw (erase_all t, erase_all u)
erase_all (res a t) = ap (res a) (erase_all t)

-- The first node of the bytes l is of kind b, and its key is erased if x says so: what stands before its end is then the erased term's, what
-- stands after is due as before.
record Split (f : Key → Bool) (x : Bool) (b : ℕ) (l : List ℕ) (ts : List Term) : Type 0 where
  front : take (1 + length_of_body b) (erased_at x l 0) ++ encodes (erases f (after ts)) ≡ encodes (erases f ts)
  rest : drop (1 + length_of_body b) (erased_at x l 0) ≡ encodes (after ts)

-- a node that has no key stays as it is
module _ (f : Key → Bool) where
  split_nil : (ts : List Term) (x : Bool) → Split f x 0 (encodes (nil ∷ ts)) (nil ∷ ts)
  unfolding encodes erases after encode erase
  split_nil ts true = record { front = refl; rest = refl }
  split_nil ts false = record { front = refl; rest = refl }

  erase-pre : (a : ℕ) (k : Key) (t : Term) (x : Bool) → f k ≡ x → pre a (cond x 0 k) (erase f t) ≡ erase f (pre a k t)
  unfolding erase
  erase-pre a k t x e = ap (λ (y : Bool). pre a (cond y 0 k) (erase f t)) (sym e)

  split_pre : (a : ℕ) (k : Key) (t : Term) (ts : List Term) (x : Bool) → f k ≡ x → Split f x 1 (encodes (pre a k t ∷ ts)) (pre a k t ∷ ts)
  unfolding encodes erases after encode
  split_pre a k t ts true e = record { front = ap (λ (z : Term). encode z ++ encodes (erases f ts)) (erase-pre a k t true e); rest = refl }
  split_pre a k t ts false e = record { front = ap (λ (z : Term). encode z ++ encodes (erases f ts)) (erase-pre a k t false e); rest = refl }

  split_cho : (t u : Term) (ts : List Term) (x : Bool) → Split f x 2 (encodes (cho t u ∷ ts)) (cho t u ∷ ts)
  unfolding encodes erases after encode erase
  split_cho t u ts true = record { front = rw append_assoc; rest = append_assoc (encode t) (encode u) (encodes ts) }
  split_cho t u ts false = record { front = rw append_assoc; rest = append_assoc (encode t) (encode u) (encodes ts) }

  split_par : (t u : Term) (ts : List Term) (x : Bool) → Split f x 3 (encodes (par t u ∷ ts)) (par t u ∷ ts)
  unfolding encodes erases after encode erase
  split_par t u ts true = record { front = rw append_assoc; rest = append_assoc (encode t) (encode u) (encodes ts) }
  split_par t u ts false = record { front = rw append_assoc; rest = append_assoc (encode t) (encode u) (encodes ts) }

  split_res : (a : ℕ) (t : Term) (ts : List Term) (x : Bool) → Split f x 4 (encodes (res a t ∷ ts)) (res a t ∷ ts)
  unfolding encodes erases after encode erase
  split_res a t ts true = record { front = refl; rest = refl }
  split_res a t ts false = record { front = refl; rest = refl }

  split : (ts : List Term) → 0 < length (encodes ts) → (x : Bool) → f (head_key ts) ≡ x → Split f x (get_or (encodes ts) 0 0) (encodes ts) ts
  unfolding encodes head_key encode
  split [] h x e = absurd (omega arith)
  split (nil ∷ ts) h x e = split_nil ts x
  split (pre a k t ∷ ts) h x e = split_pre a k t ts x e
  split (cho t u ∷ ts) h x e = split_cho t u ts x
  split (par t u ∷ ts) h x e = split_par t u ts x
  split (res a t ∷ ts) h x e = split_res a t ts x

module _ (s : List ℕ) (at : ℕ) where
  byte_here : get_or (drop at s) 0 0 ≡ get_or s at 0
  byte_here = let z : at + 0 ≡ at = omega arith in rw z at (get_or-drop at s 0 0)

  -- clearing the node at a place touches nothing before the place
  clear_drop : (x : Bool) → drop at (erased_at x s at) ≡ erased_at x (drop at s) 0
  clear_drop false = refl
  clear_drop true = rw byte_here (pick (eqb (get_or s at 0) 1))
    where
      pick : (b : Bool) → drop at (cond b (set (set s (at + 2) 0) (at + 3) 0) s) ≡ cond b (set (set (drop at s) 2 0) 3 0) (drop at s)
      pick true = rw (drop-set-add at (set s (at + 2) 0) 3 0, drop-set-add at s 2 0)
      pick false = refl

  clear_take : (x : Bool) → take at (erased_at x s at) ≡ take at s
  clear_take false = refl
  clear_take true = pick (eqb (get_or s at 0) 1)
    where
      pick : (b : Bool) → take at (cond b (set (set s (at + 2) 0) (at + 3) 0) s) ≡ take at s
      pick true = rw (take-set-le at (set s (at + 2) 0) (at + 3) 0 (omega arith), take-set-le at s (at + 2) 0 (omega arith))
      pick false = refl

  -- nor anything after the node
  clear_past : (x : Bool) (b : ℕ) → b ≡ get_or s at 0 → drop (at + (1 + length_of_body b)) (erased_at x s at) ≡ drop (at + (1 + length_of_body b)) s
  clear_past false b e = refl
  clear_past true b e = pick (eqb (get_or s at 0) 1) refl
    where
      pick : (t : Bool) → eqb (get_or s at 0) 1 ≡ t → drop (at + (1 + length_of_body b)) (cond t (set (set s (at + 2) 0) (at + 3) 0) s) ≡ drop (at + (1 + length_of_body b)) s
      pick true q =
          let z : b ≡ 1 = e ∙ eqb-true (get_or s at 0) 1 q in
          rw (z, drop-set-lt (at + 4) (set s (at + 2) 0) (at + 3) 0 (omega arith), drop-set-lt (at + 4) s (at + 2) 0 (omega arith))
      pick false q = refl

  pub clear_length : (x : Bool) → length (erased_at x s at) ≡ length s
  clear_length false = refl
  clear_length true = pick (eqb (get_or s at 0) 1)
    where
      pick : (b : Bool) → length (cond b (set (set s (at + 2) 0) (at + 3) 0) s) ≡ length s
      pick true = rw (length-set, length-set)
      pick false = refl

-- Up to the place `at` the keys of the record s₀ for which the test holds were made 0, and s is what it is now.
pub record Clearing (f : Key → Bool) (s₀ s : List ℕ) (at : ℕ) : Type 0 where
  pub of : Term
  pub whole : RecordOf s₀ of
  pub terms : List Term
  pub due : Due s at terms
  pub rest : drop at s ≡ drop at s₀
  pub front : take at s ++ encodes (erases f terms) ≡ encode (erase f of)
  pub reach : at ≤ length s
  pub same : length s ≡ length s₀

pub start : (f : Key → Bool) (s : List ℕ) → Readable s → Clearing f s s 0
unfolding encodes erases
start f s R = record {
  of = R.0;
  whole = R.1;
  terms = R.0 ∷ [];
  due = all_due s R.0 R.1.bytes;
  rest = refl;
  front = append-nil (encode (erase f R.0));
  reach = omega arith;
  same = refl;
}

module _ (f : Key → Bool) (s₀ s : List ℕ) (at : ℕ) (P : Clearing f s₀ s at) where
  -- the bytes of the present node are still the record's
  same_byte : (i : ℕ) → get_or s (at + i) 0 ≡ get_or s₀ (at + i) 0
  same_byte i = sym (get_or-drop at s i 0) ∙ ap (λ (l : List ℕ). get_or l i 0) P.rest ∙ get_or-drop at s₀ i 0

  pub same_kind : get_or s at 0 ≡ get_or s₀ at 0
  same_kind = let z : at + 0 ≡ at = omega arith in rw z at (same_byte 0)

  pub same_key : key_at s at ≡ key_at s₀ at
  same_key = rw (same_kind, same_byte 2, same_byte 3)

  pub onward : (h : at < length s) (b : ℕ) → b ≡ get_or s at 0 → (x : Bool) → f (key_at s at) ≡ x → (s' : List ℕ) → s' ≡ erased_at x s at → Clearing f s₀ s' (at + (1 + length_of_body b))
  onward h b e x y s' q = rw q (record {
    of = P.of;
    whole = P.whole;
    terms = after P.terms;
    rest = clear_past s at x b e ∙ sym (drop-drop n at s) ∙ ap (drop n) P.rest ∙ drop-drop n at s₀;
    due = sym (drop-drop n at (erased_at x s at)) ∙ rw (clear_drop s at x) parts.rest;
    front = rw (take-add at n (erased_at x s at), clear_take s at x, clear_drop s at x, append_assoc, parts.front) P.front;
    reach = rw (clear_length s at x) (ends_within s at P.terms P.due h b e);
    same = clear_length s at x ∙ P.same;
  })
    where
      n : ℕ
      n = 1 + length_of_body b

      parts : Split f x b (drop at s) P.terms
      parts =
          let k : b ≡ get_or (encodes P.terms) 0 0 = e ∙ sym (byte_here s at) ∙ ap (λ (l : List ℕ). get_or l 0 0) P.due in
          rw (k, P.due) (split f P.terms (omega (arith, length-drop at s, ap length P.due)) x (ap f (sym (key_here s at P.terms P.due h)) ∙ y))

  pub erased : length s ≤ at → Erased f s₀ s
  unfolding encodes erases
  erased h = (P.of, P.whole, sym (rw (none_due s at P.terms h P.due, append-nil, take_all at s h) at (sym P.front)))

pub cleared : (s₀ s : List ℕ) → Erased (λ k. true) s₀ s → Cleared s₀ s
cleared s₀ s E = (E.0, E.1, E.2 ∙ ap encode (erase_all E.0))

-- one node, if its key is in the set
pub erased_there : (s : List ℕ) (at : ℕ) (x y : Bool) → y ≡ x → y ≡ true → (s' : List ℕ) → s' ≡ cleared_at s at → s' ≡ erased_at x s at
erased_there s at x y e f s' q = rw (sym e ∙ f) q

pub erased_not : (s : List ℕ) (at : ℕ) (x y : Bool) → y ≡ x → y ≡ false → s ≡ erased_at x s at
erased_not s at x y e f = rw (sym e ∙ f) refl
