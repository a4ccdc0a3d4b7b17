-- What is due while a record is read: a stack in an array, and what reading the terms on it comes to.
use Rattle.std.specs.Prelude.{◌≡◌, List, [], ◌∷◌, ℕ, zero, suc, ◌+◌, ◌-◌, ◌≤◌, ◌<◌, length, drop, get_or, Result, Ok, Err}
use Rattle.format.specs.Limits.{node_limit, depth_limit}
use Rattle.format.specs.Read.{Reading, refused, term, read, Refuses}
use Rattle.shared.specs.declared.Refusal.{Refusal}
use Rattle.shared.specs.Refusal.{number}
use Rattle.reader.specs.declared.Head.{Head}
use Rattle.reader.specs.Kind.{byte_of}
use Rattle.reader.specs.Head.{NodeAt}

-- the first n elements of a list, the last of them first: a stack that grows to the right
abbrev pub stacked : ℕ → List ℕ → List ℕ
stacked zero l = []
stacked (suc n) l = get_or l n 0 ∷ stacked n l

-- one number n times before a list
unfoldable pub push : ℕ → ℕ → List ℕ → List ℕ
push zero x l = l
push (suc n) x l = x ∷ push n x l

-- What reading several terms comes to: a refusal number, or the bytes after them and how many nodes may still come.
pub data Rest : Type 0 where
  stop : ℕ → Rest
  rest : List ℕ → ℕ → Rest

-- go on after a term that was read, or keep the refusal
abbrev pub after : Reading → (ℕ → List ℕ → Rest) → Rest
after (refused c) f = stop c
after (term t s k) f = f k s

-- the terms that are due, one after the other, each with so many levels
unfoldable pub read_all : List ℕ → ℕ → List ℕ → Rest
read_all [] k s = rest s k
read_all (d ∷ ds) k s = after (read d k s) (read_all ds)

-- each term due has levels only for what is left of the limit above the terms due after it
abbrev pub Fits : List ℕ → Type 0
Fits [] = Unit {0}
Fits (d ∷ ds) = (d + length ds ≤ depth_limit) × Fits ds

-- What is left to read from the place `at` of s comes to what the whole record comes to.
pub record Remains (s : List ℕ) (levels : List ℕ) (many left at : ℕ) : Type 0 where
  pub same : read_all (stacked many levels) left (drop at s) ≡ read_all (depth_limit ∷ []) node_limit s
  pub fits : Fits (stacked many levels)
  pub room : length levels ≡ suc depth_limit
  pub few : left ≤ node_limit

-- A good node was due at the place `at` of s and is passed: its children are due.
pub record Passed (s : List ℕ) (at left many kind children next : ℕ) (levels : List ℕ) : Type 0 where
  pub inside : at < length s
  pub nodes : 0 < left
  pub deep : many ≤ depth_limit
  pub good : NodeAt s at kind children next
  pub remains : Remains s levels (many - 1 + children) (left - 1) next

-- what `pass_node` answers: the record is refused, or its next node is passed
abbrev pub Passes : List ℕ → ℕ → ℕ → ℕ → Result Head Refusal → List ℕ → Type 0
Passes s at left many (Err r) levels = Refuses s (number r)
Passes s at left many (Ok h) levels = Passed s at left many (byte_of h.kind) h.children h.next levels
