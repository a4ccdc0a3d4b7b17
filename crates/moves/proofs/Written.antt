-- Writing a key's two bytes at the spots of the chosen prefixes gives the record of the term with that key at them.
use mathlib.Core.Path.{◌≡◌, refl, ap, ◌∙◌}
use mathlib.Core.List.{List, [], ◌∷◌, ◌++◌, append_assoc, append-nil}
use mathlib.Core.Bool.{Bool, true, false}
use Prim.Native.Nat.{ℕ, suc, ◌+◌, ◌<◌, ◌≤◌}
use native.Mathlib.Nat.{suc-add}
use native.Mathlib.Omega.{arith}
use lib.ListN.{length, set, length-append}
use Rattle.ccsk.specs.Term.{Term, Key, Node, nil, pre, cho, par, res, size, tick}
use Rattle.ccsk.specs.Place.{shift}
use Rattle.format.specs.Encode.{encode, high, low}
use Rattle.moves.specs.Choose.{chosen, spots}

abbrev pub keyed : Bool → Key → Key → Key
keyed true m k = m
keyed false m k = k

-- the term with the key m at each chosen prefix
unfoldable pub written : (Node → Key → Bool) → Key → Node → Term → Term
written c m n nil = nil
written c m n (pre a k t) = pre a (keyed (c n k) m k) (written c m (n + 1) t)
written c m n (cho t u) = cho (written c m (n + 1) t) (written c m (n + 1 + size t) u)
written c m n (par t u) = par (written c m (n + 1) t) (written c m (n + 1 + size t) u)
written c m n (res a t) = res a (written c m (n + 1) t)

-- the bytes of the key m written into the prefix whose first byte is at i
abbrev pub put : Key → List ℕ → ℕ → List ℕ
put m s i = set (set s (i + 2) (high m)) (i + 3) (low m)

-- into each of several prefixes
unfoldable pub puts : Key → List ℕ → List ℕ → List ℕ
puts m s [] = s
puts m s (i ∷ l) = puts m (put m s i) l

-- the four bytes of each prefix end before b
abbrev pub Inside : ℕ → List ℕ → Type 0
Inside b [] = Unit {0}
Inside b (i ∷ l) = (i + 3 < b) × Inside b l

set_after : (xs ys : List ℕ) (i v : ℕ) → set (xs ++ ys) (length xs + i) v ≡ xs ++ set ys i v
set_after [] ys i v = let e : 0 + i ≡ i = omega arith in rw e
set_after (x ∷ xs) ys i v = rw (suc-add (length xs) i) (ap (λ (l : List ℕ). x ∷ l) (set_after xs ys i v))

put_after : (m : Key) (xs ys : List ℕ) (b a h l i : ℕ) → i ≡ length xs → put m (xs ++ (b ∷ (a ∷ (h ∷ (l ∷ ys))))) i ≡ xs ++ (b ∷ (a ∷ (high m ∷ (low m ∷ ys))))
put_after m xs ys b a h l i e = rw (e, set_after xs (b ∷ (a ∷ (h ∷ (l ∷ ys)))) 2 (high m), set_after xs (b ∷ (a ∷ (high m ∷ (l ∷ ys)))) 3 (low m))

puts_append : (m : Key) (s x y : List ℕ) → puts m s (x ++ y) ≡ puts m (puts m s x) y
unfolding puts
puts_append m s [] y = refl
puts_append m s (i ∷ x) y = puts_append m (put m s i) x y

-- a key has two bytes, whatever key it is
written_length : (c : Node → Key → Bool) (m : Key) (n : Node) (t : Term) → length (encode (written c m n t)) ≡ length (encode t)
unfolding written encode
written_length c m n nil = refl
written_length c m n (pre a k t) = omega (arith, written_length c m (n + 1) t)
written_length c m n (cho t u) = simp length-append (omega (arith, written_length c m (n + 1) t, written_length c m (n + 1 + size t) u))
written_length c m n (par t u) = simp length-append (omega (arith, written_length c m (n + 1) t, written_length c m (n + 1 + size t) u))
written_length c m n (res a t) = omega (arith, written_length c m (n + 1) t)

-- what is written after some bytes more is written there too
ahead : (m : Key) (l xs ys s s' : List ℕ) → puts m ((xs ++ ys) ++ s) l ≡ (xs ++ ys) ++ s' → puts m (xs ++ (ys ++ s)) l ≡ xs ++ (ys ++ s')
ahead m l xs ys s s' e = rw (append_assoc xs ys s, append_assoc xs ys s') at e

-- the law for a term whose first byte follows the bytes xs
abbrev Puts : (Node → Key → Bool) → Key → Term → ℕ → Node → List ℕ → List ℕ → Type 0
Puts c m t i n xs ys = i ≡ length xs → puts m (xs ++ (encode t ++ ys)) (spots c i n t) ≡ xs ++ (encode (written c m n t) ++ ys)

-- for two sides after a byte of kind
two_sides : (c : Node → Key → Bool) (m : Key) (t u : Term) (i n b : ℕ) (xs ys : List ℕ) → i ≡ length xs
    → ((xs ys : List ℕ) → Puts c m t (i + 1) (n + 1) xs ys) → ((xs ys : List ℕ) → Puts c m u (i + 1 + length (encode t)) (n + 1 + size t) xs ys)
    → puts m (xs ++ (b ∷ ((encode t ++ encode u) ++ ys))) (spots c (i + 1) (n + 1) t ++ spots c (i + 1 + length (encode t)) (n + 1 + size t) u)
    ≡ xs ++ (b ∷ ((encode (written c m (n + 1) t) ++ encode (written c m (n + 1 + size t) u)) ++ ys))
two_sides c m t u i n b xs ys e f g =
    let t' = encode (written c m (n + 1) t) in let u' = encode (written c m (n + 1 + size t) u) in
    let l = spots c (i + 1) (n + 1) t in let l' = spots c (i + 1 + length (encode t)) (n + 1 + size t) u in
    let first = ahead m l xs (b ∷ []) (encode t ++ (encode u ++ ys)) (t' ++ (encode u ++ ys)) (f (xs ++ (b ∷ [])) (encode u ++ ys) (simp length-append (omega arith))) in
    let second = ahead m l' xs (b ∷ t') (encode u ++ ys) (u' ++ ys) (g (xs ++ (b ∷ t')) ys (simp length-append (omega (arith, written_length c m (n + 1) t)))) in
    rw (append_assoc (encode t) (encode u) ys, append_assoc t' u' ys, puts_append m (xs ++ (b ∷ (encode t ++ (encode u ++ ys)))) l l', first) second

-- for a prefix: the key that is there, or the one that is written
at_prefix_lem : (c : Node → Key → Bool) (m : Key) (t : Term) (i n a k : ℕ) (b : Bool) (xs ys : List ℕ) → i ≡ length xs → ((xs ys : List ℕ) → Puts c m t (i + 4) (n + 1) xs ys)
    → puts m (xs ++ (1 ∷ (a ∷ (high k ∷ (low k ∷ (encode t ++ ys)))))) (tick b i (spots c (i + 4) (n + 1) t))
    ≡ xs ++ (1 ∷ (a ∷ (high (keyed b m k) ∷ (low (keyed b m k) ∷ (encode (written c m (n + 1) t) ++ ys)))))
unfolding puts
at_prefix_lem c m t i n a k true xs ys e f = ap (λ (s : List ℕ). puts m s (spots c (i + 4) (n + 1) t)) (put_after m xs (encode t ++ ys) 1 a (high k) (low k) i e)
    ∙ ahead m (spots c (i + 4) (n + 1) t) xs (1 ∷ (a ∷ (high m ∷ (low m ∷ [])))) (encode t ++ ys) (encode (written c m (n + 1) t) ++ ys) (f (xs ++ (1 ∷ (a ∷ (high m ∷ (low m ∷ []))))) ys (simp length-append (omega arith)))
at_prefix_lem c m t i n a k false xs ys e f =
    ahead m (spots c (i + 4) (n + 1) t) xs (1 ∷ (a ∷ (high k ∷ (low k ∷ [])))) (encode t ++ ys) (encode (written c m (n + 1) t) ++ ys) (f (xs ++ (1 ∷ (a ∷ (high k ∷ (low k ∷ []))))) ys (simp length-append (omega arith)))

puts_spots : (c : Node → Key → Bool) (m : Key) (t : Term) (i n : ℕ) (xs ys : List ℕ) → Puts c m t i n xs ys
unfolding puts spots encode written
puts_spots c m nil i n xs ys e = refl
puts_spots c m (pre a k t) i n xs ys e = at_prefix_lem c m t i n a k (c n k) xs ys e (puts_spots c m t (i + 4) (n + 1))
puts_spots c m (cho t u) i n xs ys e = two_sides c m t u i n 2 xs ys e (puts_spots c m t (i + 1) (n + 1)) (puts_spots c m u (i + 1 + length (encode t)) (n + 1 + size t))
puts_spots c m (par t u) i n xs ys e = two_sides c m t u i n 3 xs ys e (puts_spots c m t (i + 1) (n + 1)) (puts_spots c m u (i + 1 + length (encode t)) (n + 1 + size t))
puts_spots c m (res a t) i n xs ys e = ahead m (spots c (i + 2) (n + 1) t) xs (4 ∷ (a ∷ [])) (encode t ++ ys) (encode (written c m (n + 1) t) ++ ys)
    (puts_spots c m t (i + 2) (n + 1) (xs ++ (4 ∷ (a ∷ []))) ys (simp length-append (omega arith)))

-- of a whole record
pub puts_written : (c : Node → Key → Bool) (m : Key) (n : Node) (t : Term) → puts m (encode t) (spots c 0 n t) ≡ encode (written c m n t)
puts_written c m n t = rw (append-nil (encode t), append-nil (encode (written c m n t))) at (puts_spots c m t 0 n [] [] refl)

inside_both : (b : ℕ) (x y : List ℕ) → Inside b x → Inside b y → Inside b (x ++ y)
inside_both b [] y u v = v
inside_both b (i ∷ x) y u v = (u.0, inside_both b x y u.1 v)

-- the spots of a term lie within its bytes
pub spots_inside : (c : Node → Key → Bool) (b i n : ℕ) (t : Term) → i + length (encode t) ≤ b → Inside b (spots c i n t)
unfolding spots encode
spots_inside c b i n nil h = tt
spots_inside c b i n (pre a k t) h = first (c n k) (spots_inside c b (i + 4) (n + 1) t (omega arith))
  where
    first : (x : Bool) → Inside b (spots c (i + 4) (n + 1) t) → Inside b (tick x i (spots c (i + 4) (n + 1) t))
    first true g = (omega arith, g)
    first false g = g
spots_inside c b i n (cho t u) h = let g : i + suc (length (encode t) + length (encode u)) ≤ b = simp length-append at h in
    inside_both b (spots c (i + 1) (n + 1) t) (spots c (i + 1 + length (encode t)) (n + 1 + size t) u) (spots_inside c b (i + 1) (n + 1) t (omega arith)) (spots_inside c b (i + 1 + length (encode t)) (n + 1 + size t) u (omega arith))
spots_inside c b i n (par t u) h = let g : i + suc (length (encode t) + length (encode u)) ≤ b = simp length-append at h in
    inside_both b (spots c (i + 1) (n + 1) t) (spots c (i + 1 + length (encode t)) (n + 1 + size t) u) (spots_inside c b (i + 1) (n + 1) t (omega arith)) (spots_inside c b (i + 1 + length (encode t)) (n + 1 + size t) u (omega arith))
spots_inside c b i n (res a t) h = spots_inside c b (i + 2) (n + 1) t (omega arith)

pub shift-length : (k : ℕ) (x : List ℕ) → length (shift k x) ≡ length x
unfolding shift
shift-length k [] = refl
shift-length k (p ∷ x) = ap suc (shift-length k x)

-- a spot for each chosen prefix
pub spots-length : (c : Node → Key → Bool) (i n : ℕ) (t : Term) → length (spots c i n t) ≡ length (chosen c n t)
unfolding spots chosen
spots-length c i n nil = refl
spots-length c i n (pre a k t) = first (c n k) (spots-length c (i + 4) (n + 1) t)
  where
    first : (b : Bool) → length (spots c (i + 4) (n + 1) t) ≡ length (chosen c (n + 1) t) → length (tick b i (spots c (i + 4) (n + 1) t)) ≡ length (tick b 0 (shift 1 (chosen c (n + 1) t)))
    first true e = rw shift-length (ap suc e)
    first false e = rw shift-length e
spots-length c i n (cho t u) = simp (length-append, shift-length) (omega (arith, spots-length c (i + 1) (n + 1) t, spots-length c (i + 1 + length (encode t)) (n + 1 + size t) u))
spots-length c i n (par t u) = simp (length-append, shift-length) (omega (arith, spots-length c (i + 1) (n + 1) t, spots-length c (i + 1 + length (encode t)) (n + 1 + size t) u))
spots-length c i n (res a t) = rw shift-length (spots-length c (i + 2) (n + 1) t)
