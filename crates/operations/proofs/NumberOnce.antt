-- Reading, the walk, key count, least free key, soundness: for every input exactly one answer fits the promise, and it can be computed.
use mathlib.Core.Path.{◌≡◌, refl, ap, sym, ◌∙◌}
use mathlib.Core.List.{List, []}
use Prim.Native.Nat.{ℕ}
use lib.ListN.{take, drop}
use Rattle.ccsk.specs.Numbers.{distinct}
use Rattle.ccsk.specs.Term.{Key, keys, size}
use Rattle.sound.proofs.Decide.{verdict, verdict_right, verdict_once}
use Rattle.format.specs.Read.{decode, Opened, Opened.refused, opened}
use Rattle.format.specs.Preorder.{Shown, preorder}
use Rattle.operations.specs.Ask.{ReadRecord, ShownNode, KeyCount, FreeKey, Soundness}
use Rattle.operations.proofs.Choose.{on_read}
use Rattle.operations.proofs.Lists.{least_free_key, least_free_once}

-- a refusal number and one number
abbrev pub Number : Type 0
Number = ℕ × ℕ

abbrev pub FitNumber : (ℕ → ℕ → Type 0) → Number → Type 0
FitNumber P x = P x.0 x.1

abbrev pub SameNumber : Number → Number → Type 0
SameNumber x y = (x.0 ≡ y.0) × (x.1 ≡ y.1)

same_number : {x y z : Number} → z ≡ x → z ≡ y → SameNumber x y
same_number e f = let g = sym e ∙ f in (ap (λ v. v.0) g, ap (λ v. v.1) g)

-- reading
unfoldable pub read_answer : List ℕ → Number
read_answer s = on_read (decode s) (λ c. (c, 0)) (λ t. (0, size t))

pub read_only : {s : List ℕ} {r n : ℕ} → ReadRecord s r n → read_answer s ≡ (r, n)
unfolding read_answer
read_only (ReadRecord.unreadable e) = rw e
read_only (ReadRecord.done e) = rw e

pub read_some : (s : List ℕ) → FitNumber (ReadRecord s) (read_answer s)
unfolding read_answer
read_some s = read (decode s) refl
  where
    read : (o : Opened) → decode s ≡ o → FitNumber (ReadRecord s) (on_read o (λ c. (c, 0)) (λ t. (0, size t)))
    read (refused c) e = ReadRecord.unreadable e
    read (opened t) e = ReadRecord.done e

pub read_once : {s : List ℕ} {r r' n n' : ℕ} → ReadRecord s r n → ReadRecord s r' n' → SameNumber (r, n) (r', n')
read_once d e = same_number (read_only d) (read_only e)

-- a node of the walk: a refusal number, and the nodes that are shown
unfoldable pub node_answer : List ℕ → ℕ → ℕ × List Shown
node_answer s n = on_read (decode s) (λ c. (c, [])) (λ t. (0, take 1 (drop n (preorder 1 t))))

pub node_only : {s : List ℕ} {n r : ℕ} {l : List Shown} → ShownNode s n r l → node_answer s n ≡ (r, l)
unfolding node_answer
node_only (ShownNode.unreadable e) = rw e
node_only (ShownNode.done e) = rw e

pub node_some : (s : List ℕ) (n : ℕ) → ShownNode s n (node_answer s n).0 (node_answer s n).1
unfolding node_answer
node_some s n = read (decode s) refl
  where
    read : (o : Opened) → decode s ≡ o → let x : ℕ × List Shown = on_read o (λ c. (c, [])) (λ t. (0, take 1 (drop n (preorder 1 t)))) in ShownNode s n x.0 x.1
    read (refused c) e = ShownNode.unreadable e
    read (opened t) e = ShownNode.done e

pub node_once : {s : List ℕ} {n r r' : ℕ} {l l' : List Shown} → ShownNode s n r l → ShownNode s n r' l' → (r ≡ r') × (l ≡ l')
node_once d e = let g = sym (node_only d) ∙ node_only e in (ap (λ v. v.0) g, ap (λ v. v.1) g)

-- number of distinct keys
unfoldable pub count_answer : List ℕ → Number
count_answer s = on_read (decode s) (λ c. (c, 0)) (λ t. (0, distinct (keys t)))

pub count_only : {s : List ℕ} {r n : ℕ} → KeyCount s r n → count_answer s ≡ (r, n)
unfolding count_answer
count_only (KeyCount.unreadable e) = rw e
count_only (KeyCount.done e) = rw e

pub count_some : (s : List ℕ) → FitNumber (KeyCount s) (count_answer s)
unfolding count_answer
count_some s = read (decode s) refl
  where
    read : (o : Opened) → decode s ≡ o → FitNumber (KeyCount s) (on_read o (λ c. (c, 0)) (λ t. (0, distinct (keys t))))
    read (refused c) e = KeyCount.unreadable e
    read (opened t) e = KeyCount.done e

pub count_once : {s : List ℕ} {r r' n n' : ℕ} → KeyCount s r n → KeyCount s r' n' → SameNumber (r, n) (r', n')
count_once d e = same_number (count_only d) (count_only e)

-- least free key
unfoldable pub free_answer : List ℕ → Number
free_answer s = on_read (decode s) (λ c. (c, 0)) (λ t. (0, (least_free_key (keys t)).0))

pub free_only : {s : List ℕ} {r : ℕ} {k : Key} → FreeKey s r k → free_answer s ≡ (r, k)
unfolding free_answer
free_only (FreeKey.unreadable e) = rw e
free_only (FreeKey.done {t = t} {k = k} e f) = rw (e, least_free_once (least_free_key (keys t)).1 f)

pub free_some : (s : List ℕ) → FitNumber (FreeKey s) (free_answer s)
unfolding free_answer
free_some s = read (decode s) refl
  where
    read : (o : Opened) → decode s ≡ o → FitNumber (FreeKey s) (on_read o (λ c. (c, 0)) (λ t. (0, (least_free_key (keys t)).0)))
    read (refused c) e = FreeKey.unreadable e
    read (opened t) e = FreeKey.done e (least_free_key (keys t)).1

pub free_once : {s : List ℕ} {r r' : ℕ} {k k' : Key} → FreeKey s r k → FreeKey s r' k' → SameNumber (r, k) (r', k')
free_once d e = same_number (free_only d) (free_only e)

-- soundness
unfoldable pub sound_answer : List ℕ → Number
sound_answer s = on_read (decode s) (λ c. (c, 0)) (λ t. (0, verdict t))

pub sound_only : {s : List ℕ} {r v : ℕ} → Soundness s r v → sound_answer s ≡ (r, v)
unfolding sound_answer
sound_only (Soundness.unreadable e) = rw e
sound_only (Soundness.done e v) = rw (e, verdict_once v)

pub sound_some : (s : List ℕ) → FitNumber (Soundness s) (sound_answer s)
unfolding sound_answer
sound_some s = read (decode s) refl
  where
    read : (o : Opened) → decode s ≡ o → FitNumber (Soundness s) (on_read o (λ c. (c, 0)) (λ t. (0, verdict t)))
    read (refused c) e = Soundness.unreadable e
    read (opened t) e = Soundness.done e (verdict_right t)

pub sound_once : {s : List ℕ} {r r' v v' : ℕ} → Soundness s r v → Soundness s r' v' → SameNumber (r, v) (r', v')
sound_once d e = same_number (sound_only d) (sound_only e)
