-- What lies ahead in a walk through a record: the terms that are due, their bytes, their nodes and their depths.
use Rattle.std.specs.Prelude.{◌≡◌, List, [], ◌∷◌, ◌++◌, ℕ, suc, ◌+◌, ◌≤◌, ◌<◌, length, drop}
use Rattle.ccsk.specs.Term.{Term}
use Rattle.format.specs.Limits.{depth_limit}
use Rattle.format.specs.Encode.{encode, depth, InRange}
use Rattle.format.specs.Preorder.{Shown, preorder}
use Rattle.reader.specs.Due.{stacked}

-- The terms that a walk has still to show, the next one first, each with the depth of its root.
pub data Due : Type 0 where
  none : Due
  due : ℕ → Term → Due → Due

-- how many they are, the bytes of them all, their nodes in preorder, the depths of their roots
unfoldable pub count : Due → ℕ
count none = 0
count (due d t w) = suc (count w)

unfoldable pub bytes_of : Due → List ℕ
bytes_of none = []
bytes_of (due d t w) = encode t ++ bytes_of w

unfoldable pub nodes_of : Due → List Shown
nodes_of none = []
nodes_of (due d t w) = preorder d t ++ nodes_of w

unfoldable pub depths_of : Due → List ℕ
depths_of none = []
depths_of (due d t w) = d ∷ depths_of w

-- Each is within the limits, and stands deeper than there are terms due after it.
abbrev pub Held : Due → Type 0
Held none = Unit {0}
Held (due d t w) = (count w < d) × (d + depth t ≤ suc depth_limit) × InRange t × Held w

-- From the place `at` of the bytes s the terms w are due: these bytes lie ahead, the nodes l are those to be shown,
-- and the first `many` numbers of `depths` are the depths of the terms, the next one's last.
pub record Ahead (s : List ℕ) (at : ℕ) (depths : List ℕ) (many : ℕ) (l : List Shown) (w : Due) : Type 0 where
  pub bytes : drop at s ≡ bytes_of w
  pub nodes : l ≡ nodes_of w
  pub stack : stacked many depths ≡ depths_of w
  pub held : Held w
  pub room : length depths ≡ depth_limit
