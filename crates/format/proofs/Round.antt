-- Reading and writing are inverse: bytes that can be read are the record of exactly one term within the limits, and the record of every such term can be read.
use mathlib.Core.Path.{◌≡◌, refl, ap}
use mathlib.Core.List.{List, [], ◌++◌, append_assoc, append-nil}
use Prim.Native.Nat.{ℕ, zero, suc, ◌+◌, ◌-◌, ◌≤◌}
use native.Mathlib.Nat.{div-add-mod'}
use native.Mathlib.Omega.{arith}
use borrow.Author.Tests.{ne_eqb, le-leb}
use Rattle.ccsk.specs.Term.{Term, nil, pre, cho, par, res, size}
use Rattle.format.specs.Limits.{node_limit, depth_limit}
use Rattle.format.specs.Read.{term, kind_of, node, read, key_of, finish, decode, Reads}
use Rattle.format.specs.Encode.{high, low, encode, depth, InRange, Fits}

-- a key is its two bytes
pub key_bytes : (k : ℕ) → key_of (high k) (low k) ≡ k
key_bytes k = div-add-mod' k 256

pub read_encode : (t : Term) (d n k : ℕ) (s : List ℕ) → InRange t → depth t ≤ d → n ≡ size t + k → read d n (encode t ++ s) ≡ term t s k
unfolding read node encode kind_of size depth
read_encode nil zero n k s g hd hn = absurd (omega arith)
read_encode nil (suc d) zero k s g hd hn = absurd (omega arith)
read_encode nil (suc d) (suc n) k s g hd hn = ap (term nil s) (omega arith)
read_encode (pre a m t) zero n k s g hd hn = absurd (omega arith)
read_encode (pre a m t) (suc d) zero k s g hd hn = absurd (omega arith)
read_encode (pre a m t) (suc d) (suc n) k s g hd hn = rw (ne_eqb a 128 g.1, read_encode t d n k s g.3 (omega arith) (omega arith), key_bytes m)
read_encode (res a t) zero n k s g hd hn = absurd (omega arith)
read_encode (res a t) (suc d) zero k s g hd hn = absurd (omega arith)
read_encode (res a t) (suc d) (suc n) k s g hd hn = rw (le-leb 1 a g.0.0, le-leb a 127 g.0.1, read_encode t d n k s g.1 (omega arith) (omega arith))
read_encode (cho t u) zero n k s g hd hn = absurd (omega arith)
read_encode (cho t u) (suc d) zero k s g hd hn = absurd (omega arith)
read_encode (cho t u) (suc d) (suc n) k s g hd hn =
    rw (append_assoc, read_encode t d n (size u + k) (encode u ++ s) g.0 (omega arith) (omega arith), read_encode u d (size u + k) k s g.1 (omega arith) refl)
read_encode (par t u) zero n k s g hd hn = absurd (omega arith)
read_encode (par t u) (suc d) zero k s g hd hn = absurd (omega arith)
read_encode (par t u) (suc d) (suc n) k s g hd hn =
    rw (append_assoc, read_encode t d n (size u + k) (encode u ++ s) g.0 (omega arith) (omega arith), read_encode u d (size u + k) k s g.1 (omega arith) refl)

-- the record of a term within the limits can be read, and is that term
pub decode-encode : (t : Term) → Fits t → Reads (encode t) t
unfolding decode finish
decode-encode t f = rw (← append-nil (encode t), read_encode t depth_limit node_limit (node_limit - size t) [] f.range f.deep (omega (arith, f.nodes)))
