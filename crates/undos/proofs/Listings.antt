-- The keys that are ready, rank by rank: counted, written to a row, and listed ascending.
use mathlib.Core.Path.{◌≡◌, refl, sym, ap, subst, ◌∙◌}
use mathlib.Core.Logic.{◌⊎◌, inl, inr, ⊎_elim, ◌↔◌}
use mathlib.Core.List.{List, [], ◌∷◌, ◌++◌, append-nil, append_assoc}
use mathlib.Core.Bool.{Bool, true, false}
use Prim.Native.Nat.{ℕ, zero, suc, ◌+◌, ◌-◌, ◌<◌, ◌≤◌}
use native.Mathlib.Decide.{ℕ_discrete, dec_lt}
use native.Mathlib.Numerals.{add-one}
use native.Mathlib.Omega.{arith}
use borrow.Author.Tests.{ne_eqb}
use lib.ListN.{length, get_or, set, take, drop, replicate, length-append, length-take, length-drop, get_or-replicate}
use lib.Seq.{drop-cons, set_at}
use Rattle.format.specs.Limits.{node_limit}
use Rattle.ccsk.specs.Numbers.{In, AscendingFrom, Lists, distinct}
use Rattle.ccsk.specs.Term.{Key}
use Rattle.ccsk.proofs.Lists.{in_left, in_right, in_either, distinct-length}
use Rattle.keyset.specs.Set.{member}
use Rattle.keys.specs.Gather.{Holds}
use Rattle.keys.proofs.Marks.{holds_members, not_both}
use Rattle.operations.specs.Ask.{Filled}
use Rattle.rank.specs.Rank.{rank}
use Rattle.rank.proofs.Ranks.{rank_ordered, rank_less, rank_once, rank_reached, rank_counts}
use Rattle.lasts.specs.declared.Last.{Last}
use Rattle.lasts.specs.Last.{only, Ready}
use Rattle.settle.specs.declared.State.{State}
use Rattle.settle.specs.declared.State.TheVariants.{Unseen}
use Rattle.settle.specs.Group.{is_ready, Small, times, Counted, AllIn, Standing, Standing.once, Standing.twice, Standing.never, Standing.half, Standing.ready, Settled}
use Rattle.undos.specs.Rows.{AllAmong, when, listed, Lines, Lines.lines}

listed_ready : (st : List State) (sl : List ℕ) (r : ℕ) → is_ready (get_or st r Unseen) ≡ true → listed st sl (r + 1) ≡ listed st sl r ++ (get_or sl r 0 ∷ [])
unfolding listed
listed_ready st sl r e = rw (add-one r, e)

listed_other : (st : List State) (sl : List ℕ) (r : ℕ) → is_ready (get_or st r Unseen) ≡ false → listed st sl (r + 1) ≡ listed st sl r
unfolding listed
listed_other st sl r e = rw (add-one r, e, append-nil (listed st sl r))

-- counting
pub counted_nothing : (st : List State) (sl : List ℕ) → 0 ≡ length (listed st sl 0)
unfolding listed
counted_nothing st sl = refl

pub count_one : (st : List State) (sl : List ℕ) (r m : ℕ) → is_ready (get_or st r Unseen) ≡ true → m ≡ length (listed st sl r) → m + 1 ≡ length (listed st sl (r + 1))
count_one st sl r m e q = rw (q, listed_ready st sl r e, length-append (listed st sl r) (get_or sl r 0 ∷ []))

pub count_none : (st : List State) (sl : List ℕ) (r m : ℕ) → is_ready (get_or st r Unseen) ≡ false → m ≡ length (listed st sl r) → m ≡ length (listed st sl (r + 1))
count_none st sl r m e q = rw (listed_other st sl r e) q

pub listed_few : (st : List State) (sl : List ℕ) (r : ℕ) → length (listed st sl r) ≤ r
unfolding listed
listed_few st sl zero = omega arith
listed_few st sl (suc r) = rw (length-append (listed st sl r) (when (is_ready (get_or st r Unseen)) (get_or sl r 0))) (omega (arith, listed_few st sl r, short (is_ready (get_or st r Unseen)) (get_or sl r 0)))
  where
    short : (b : Bool) (j : ℕ) → length (when b j) ≤ 1
    short true j = omega arith
    short false j = omega arith

listed_grows : (st : List State) (sl : List ℕ) (r j n : ℕ) → n ≡ r + j → length (listed st sl r) ≤ length (listed st sl n)
unfolding listed
listed_grows st sl r zero n e = let q : n ≡ r = omega arith in rw q (omega arith)
listed_grows st sl r (suc j) zero e = absurd (omega arith)
listed_grows st sl r (suc j) (suc n) e = rw (length-append (listed st sl n) (when (is_ready (get_or st n Unseen)) (get_or sl n 0))) (omega (arith, listed_grows st sl r j n (omega arith)))

-- Writing: the slots of the first r ranks that are ready stand at the front of the row, which was `old` before.
abbrev pub Front : List State → List ℕ → List ℕ → ℕ → ℕ → List ℕ → Type 0
Front st sl old r m row = (m ≡ length (listed st sl r)) × (row ≡ listed st sl r ++ drop m old)

pub front_start : (st : List State) (sl row : List ℕ) → Front st sl row 0 0 row
unfolding listed
front_start st sl row = (refl, refl)

module _ (st : List State) (sl old : List ℕ) (r m : ℕ) (row : List ℕ) (f : Front st sl old r m row) where
  pub front_ready : is_ready (get_or st r Unseen) ≡ true → m < length row → Front st sl old (r + 1) (m + 1) (set row m (get_or sl r 0))
  front_ready z h = (count_one st sl r m z f.0, rw (listed_ready st sl r z) written)
    where
      room : m < length old
      room = omega (arith, ap length f.1, length-append (listed st sl r) (drop m old), length-drop m old, f.0)

      opened : row ≡ listed st sl r ++ (get_or old m 0 ∷ drop (m + 1) old)
      opened = f.1 ∙ rw (drop-cons old m 0 room, add-one m)

      written : set row m (get_or sl r 0) ≡ (listed st sl r ++ (get_or sl r 0 ∷ [])) ++ drop (m + 1) old
      written = rw (opened, append_assoc (listed st sl r) (get_or sl r 0 ∷ []) (drop (m + 1) old)) (set_at (listed st sl r) (get_or old m 0) (drop (m + 1) old) (get_or sl r 0) m (sym f.0))

  pub front_other : is_ready (get_or st r Unseen) ≡ false → Front st sl old (r + 1) m row
  front_other z = (count_none st sl r m z f.0, rw (listed_other st sl r z) f.1)

  -- there is room for the next one
  pub front_room : (n : ℕ) → r < n → length (listed st sl n) ≤ length old → is_ready (get_or st r Unseen) ≡ true → m < length row
  front_room n h l z = omega (arith, ap length f.1, length-append (listed st sl r) (drop m old), length-drop m old, f.0, count_one st sl r m z f.0, listed_grows st sl (r + 1) (n - (r + 1)) n (omega arith))

-- what a state tells
standing_ready : {rs : List Last} {k c j : ℕ} {st : State} {x : List Last} → Standing rs k c x st j → is_ready st ≡ true → Ready c x × (j ≡ k)
standing_ready once q = absurd (not_both q refl)
standing_ready twice q = absurd (not_both q refl)
standing_ready (never f) q = absurd (not_both q refl)
standing_ready (half h g) q = absurd (not_both q refl)
standing_ready (ready r g) q = (r, g)

standing_other : {rs : List Last} {k c j : ℕ} {st : State} {x : List Last} → Standing rs k c x st j → is_ready st ≡ false → ¬ Ready c x
standing_other once q r = r
standing_other twice q r = r
standing_other {c = c} {x = x} (never f) q r = f [] (rw (append-nil x) r)
standing_other (half h g) q r = omega arith
standing_other (ready r g) q w = not_both refl q

-- a key with a last is in the set
last_member : (s : List ℕ) (x : List Last) (k : Key) → AllIn s x → (only k x ≡ [] → ⊥) → (k < 65536) × (member s k ≡ true)
unfolding only
last_member s [] k a h = absurd (h refl)
last_member s (e ∷ x) k a h = pick (ℕ_discrete k e.key) (last_member s x k a.1)
  where
    pick : Dec (k ≡ e.key) → ((only k x ≡ [] → ⊥) → (k < 65536) × (member s k ≡ true)) → (k < 65536) × (member s k ≡ true)
    pick (yes q) f = rw q a.0
    pick (no q) f = f (λ z. h (rw (ne_eqb k e.key q) z))

ascending_more : (n : ℕ) (x : List ℕ) (j : ℕ) → AscendingFrom n x → ((k : ℕ) → In k x → k < j) → n < j → AscendingFrom n (x ++ (j ∷ []))
ascending_more n [] j o f h = (h, tt)
ascending_more n (a ∷ x) j o f h = (o.0, ascending_more a x j o.1 (λ k i. f k (inr i)) (f a (inl refl)))

module _ (s keys : List ℕ) (rs ls : List Last) (st : List State) (sl : List ℕ) (w : Holds s keys) (small : Small keys) (pos : (k : Key) → In k keys → 0 < k) (a : AllIn s ls) (f : Settled s keys rs ls st sl) where
  -- k is a ready key whose rank is below r
  Below : ℕ → ℕ → Type 0
  Below r k = (k < 65536) × (member s k ≡ true) × (rank s k < r) × (is_ready (get_or st (rank s k) Unseen) ≡ true)

  record Rowed (r : ℕ) : Type 0 where
    ascends : AscendingFrom 0 (listed st sl r)
    holds : (k : ℕ) → In k (listed st sl r) ↔ Below r k

  key_pos : (k : ℕ) → k < 65536 → member s k ≡ true → 0 < k
  key_pos k l e = pos k ((w.exact k l).0 e)

  module _ (r k : ℕ) (l : k < 65536) (e : member s k ≡ true) (q : rank s k ≡ r) where
    -- every key below in the list is smaller
    below_less : (j : ℕ) → Below r j → j < k
    unfolding Below
    below_less j b = pick (dec_lt j k)
      where
        pick : Dec (j < k) → j < k
        pick (yes h) = h
        pick (no h) = absurd (omega (arith, rank_ordered s k j (omega arith)))

    wider : (j : ℕ) → Below r j → Below (suc r) j
    unfolding Below
    wider j b = (b.0, b.1, omega arith, b.3)

    -- a key of a rank below r or of rank r
    split : (j : ℕ) → Below (suc r) j → Below r j ⊎ (j ≡ k)
    unfolding Below
    split j b = pick (ℕ_discrete (rank s j) r)
      where
        pick : Dec (rank s j ≡ r) → Below r j ⊎ (j ≡ k)
        pick (yes z) = inr (rank_once s j k b.1 e (z ∙ sym q))
        pick (no z) = inl (b.0, b.1, omega arith, b.3)

    rowed_ready : is_ready (get_or st r Unseen) ≡ true → Rowed r → Rowed (suc r)
    unfolding Below
    rowed_ready z o = let v : get_or sl r 0 ≡ k = subst (λ (i : ℕ). get_or sl i 0 ≡ k) q (standing_ready (f k l e) (rw q z)).1 in
        let y : listed st sl (suc r) ≡ listed st sl r ++ (k ∷ []) = rw (← add-one r, listed_ready st sl r z, v) in record {
          ascends = rw y (ascending_more 0 (listed st sl r) k o.ascends (λ j i. below_less j ((o.holds j).0 i)) (key_pos k l e));
          holds = λ j. rw y (
            λ i. ⊎_elim (λ h. wider j ((o.holds j).0 h)) (⊎_elim (λ h. rw h (l, e, omega arith, rw q z)) (λ h. absurd h)) (in_either j (listed st sl r) (k ∷ []) i),
            λ b. ⊎_elim (λ h. in_left j (listed st sl r) (k ∷ []) ((o.holds j).1 h)) (λ h. in_right j (listed st sl r) (k ∷ []) (inl h)) (split j b),
          );
        }

    rowed_other : is_ready (get_or st r Unseen) ≡ false → Rowed r → Rowed (suc r)
    unfolding Below
    rowed_other z o = let y : listed st sl (suc r) ≡ listed st sl r = rw (← add-one r, listed_other st sl r z) in record {
      ascends = rw y o.ascends;
      holds = λ j. rw y (λ i. wider j ((o.holds j).0 i), λ b. ⊎_elim (λ h. (o.holds j).1 h) (λ h. absurd (not_both (subst (λ (i : ℕ). is_ready (get_or st i Unseen) ≡ true) (ap (rank s) h ∙ q) b.3) z)) (split j b));
    }

  rowed : (r : ℕ) → r ≤ rank s 65536 → Rowed r
  unfolding Below listed
  rowed zero h = record { ascends = tt; holds = λ k. (λ i. absurd i, λ b. absurd (omega arith)) }
  rowed (suc r) h = pick (rank_reached s 65536 r (omega arith)) (is_ready (get_or st r Unseen)) refl (rowed r (omega arith))
    where
      pick : (k : ℕ) × (k < 65536) × (member s k ≡ true) × (rank s k ≡ r) → (x : Bool) → is_ready (get_or st r Unseen) ≡ x → Rowed r → Rowed (suc r)
      pick k true z o = rowed_ready r k.0 k.1 k.2 k.3 z o
      pick k false z o = rowed_other r k.0 k.1 k.2 k.3 z o

  -- The list of all ranks is the list of the keys that are ready, ascending.
  pub listed_lists : (n : ℕ) → n ≡ rank s 65536 → Lists (λ k. Ready (times k keys) (only k ls)) (listed st sl n)
  unfolding Below
  listed_lists n q = let o = rowed n (omega arith) in (o.ascends, λ k. (λ i. out k ((o.holds k).0 i), λ h. (o.holds k).1 (back k h.1)))
    where
      out : (k : ℕ) → Below n k → (0 < k) × Ready (times k keys) (only k ls)
      out k b = (key_pos k b.0 b.1, (standing_ready (f k b.0 b.1) b.3).0)

      back : (k : ℕ) → Ready (times k keys) (only k ls) → Below n k
      back k r = let m = last_member s ls k a (λ z. subst (Ready (times k keys)) z r) in (m.0, m.1, omega (arith, rank_less s k 65536 m.1 m.0), pick (is_ready (get_or st (rank s k) Unseen)) refl)
        where
          pick : (x : Bool) → is_ready (get_or st (rank s k) Unseen) ≡ x → is_ready (get_or st (rank s k) Unseen) ≡ true
          pick true z = z
          pick false z = absurd (standing_other (f k m.0 m.1) z r)
            where
              m : (k < 65536) × (member s k ≡ true)
              m = last_member s ls k a (λ z. subst (Ready (times k keys)) z r)

-- nothing is counted yet
pub no_counts : (s : List ℕ) (n : ℕ) → rank s 65536 ≤ n → Counted s [] (replicate n Unseen)
unfolding times
no_counts s n h k l e = get_or-replicate {A = State} n (rank s k) Unseen Unseen (omega (arith, rank_less s k 65536 e l))

-- the keys of the lasts are in the set
pub among_in : (x s : List ℕ) (ls : List Last) → Small x → Holds s x → AllAmong x ls → AllIn s ls
among_in x s [] f w a = tt
among_in x s (e ∷ ls) f w a = let b = f e.key a.0 in ((b, (w.exact e.key b).1 a.0), among_in x s ls f w a.1)

-- as many ranks as different keys, and they fit the arrays
pub ranks_count : (x s : List ℕ) (n : ℕ) → Small x → Holds s x → n ≡ distinct x → n ≡ rank s 65536
ranks_count x s n f w e = e ∙ sym (rank_counts s 65536 x (holds_members s x w f))

pub few_keys : (x : List ℕ) (m n : ℕ) → m ≤ node_limit → n ≡ distinct (take m x) → n ≤ node_limit
few_keys x m n h e = omega (arith, distinct-length (take m x), length-take m x)

-- the row that is too short, and the row that was written
module _ (x s : List ℕ) (rs ls : List Last) (st : List State) (sl : List ℕ) (w : Holds s x) (small : Small x) (pos : (k : Key) → In k x → 0 < k) (a : AllAmong x ls) (f : Settled s x rs ls st sl)
    (n : ℕ) (q : n ≡ distinct x) (row : List ℕ) where
  lists : Lists (λ k. Ready (times k x) (only k ls)) (listed st sl n)
  lists = listed_lists s x rs ls st sl w small pos (among_in x s ls small w a) f n (ranks_count x s n small w q)

  pub lines_short : (c : ℕ) → c ≡ length (listed st sl n) → length row < c → Lines x ls row 9 0 row
  lines_short c e h = let z : length row < length (listed st sl n) = omega arith in lines {l = listed st sl n} lists (Filled.short z)

  pub lines_written : (c : ℕ) → c ≡ length (listed st sl n) → c ≤ length row → (row' : List ℕ) → row' ≡ listed st sl n ++ drop (length (listed st sl n)) row → Lines x ls row 0 c row'
  lines_written c e h row' g = let z : length (listed st sl n) ≤ length row = omega arith in rw (e, g) (lines {l = listed st sl n} lists (Filled.filled z))
