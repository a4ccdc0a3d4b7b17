-- Terms of CCSK (000, Section 4; 004, Section 2), their keys, and their blank form.
use Rattle.std.specs.Prelude.{◌≡◌, ◌⊎◌, List, [], ◌∷◌, ◌++◌, Bool, true, false, ℕ, zero, suc, ◌+◌, ◌≤◌, eqb}

-- What a number stands for. An action or a label: 0 is tau, 1 to 127 are names, 129 to 255 their co-names (01, The record).
-- A key: 0 is 'not done'. A node number counts from 0 in preorder.
abbrev pub Name : Type 0
Name = ℕ

abbrev pub Label : Type 0
Label = ℕ

abbrev pub Key : Type 0
Key = ℕ

abbrev pub Node : Type 0
Node = ℕ

-- A term: 0, a.X or a[k].X, X + Y, X | Y, X under a restriction on a name (004, Section 2).
-- A prefix has its action, its key and what follows.
pub data Term : Type 0 where
  nil : Term
  pre : Label → Key → Term → Term
  cho : Term → Term → Term
  par : Term → Term → Term
  res : Name → Term → Term

-- a number that names a channel (01, The record: actions)
abbrev pub Channel : Name → Type 0
Channel a = (1 ≤ a) × (a ≤ 127)

-- One label is a name and the other its co-name. Tau has no complement (01, The record: actions).
abbrev pub Co : Label → Label → Type 0
Co l k = (Channel l × (k ≡ l + 128)) ⊎ (Channel k × (l ≡ k + 128))

-- The label is the name a or its co-name: what a restriction on a stops (000, Fig. 2, restriction).
abbrev pub On : Name → Label → Type 0
On a l = Channel a × ((l ≡ a) ⊎ (l ≡ a + 128))

-- std(X): no prefix holds a key (000, Section 3; 004, Section 2).
abbrev pub Std : Term → Type 0
Std nil = Unit {0}
Std (pre a zero t) = Std t
Std (pre a (suc k) t) = ⊥
Std (cho t u) = Std t × Std u
Std (par t u) = Std t × Std u
Std (res a t) = Std t

-- Some prefix holds the number m in its key's place. For m above 0: m is one of keys(X) (004, Section 2).
abbrev pub Has : Key → Term → Type 0
Has m nil = ⊥
Has m (pre a k t) = (m ≡ k) ⊎ Has m t
Has m (cho t u) = Has m t ⊎ Has m u
Has m (par t u) = Has m t ⊎ Has m u
Has m (res a t) = Has m t

-- fsh[m](X): the key m stands nowhere in X (000, Section 3).
abbrev pub Fsh : Key → Term → Type 0
Fsh m t = ¬ Has m t

-- one label more in front, if the test holds
abbrev pub tick : Bool → Label → List Label → List Label
tick true a l = a ∷ l
tick false a l = l

-- The labels of the prefixes that hold the key m, from the left, as seen at the root of the term (01, Soundness: a key marks an action).
unfoldable pub labels : Key → Term → List Label
labels m nil = []
labels m (pre a k t) = tick (eqb m k) a (labels m t)
labels m (cho t u) = labels m t ++ labels m u
labels m (par t u) = labels m t ++ labels m u
labels m (res a t) = labels m t

-- one key more in front, unless it is 0
abbrev pub done : Key → List Key → List Key
done zero l = l
done (suc k) l = suc k ∷ l

-- keys(X), from the left, each as often as it stands (004, Section 2).
unfoldable pub keys : Term → List Key
keys nil = []
keys (pre a k t) = done k (keys t)
keys (cho t u) = keys t ++ keys u
keys (par t u) = keys t ++ keys u
keys (res a t) = keys t

-- The blank form, rt(X) of 000 and toStd(X) of 004: every key becomes 0.
unfoldable pub blank : Term → Term
blank nil = nil
blank (pre a k t) = pre a 0 (blank t)
blank (cho t u) = cho (blank t) (blank u)
blank (par t u) = par (blank t) (blank u)
blank (res a t) = res a (blank t)

-- how many nodes a term has (01, The record)
unfoldable pub size : Term → ℕ
size nil = 1
size (pre a k t) = suc (size t)
size (cho t u) = suc (size t + size u)
size (par t u) = suc (size t + size u)
size (res a t) = suc (size t)
