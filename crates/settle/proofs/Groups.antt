-- What is known of each key at its rank, one key or one last further on.
use mathlib.Core.Path.{◌≡◌, refl, ◌∙◌}
use mathlib.Core.Logic.{inl, inr, ◌≢◌}
use mathlib.Core.List.{List, [], ◌∷◌, ◌++◌, append-nil, append_assoc}
use mathlib.Core.Bool.{Bool, true, false}
use Prim.Native.Nat.{ℕ, zero, suc, ◌+◌, ◌<◌, ◌≤◌}
use native.Mathlib.Decide.{ℕ_discrete}
use native.Mathlib.Numerals.{add-one}
use native.Mathlib.Omega.{arith}
use borrow.Author.Tests.{eq-eqb, ne_eqb}
use lib.Dec.{eqb}
use lib.ListN.{length, get_or, set, take, length-append, length-take}
use lib.Seq.{get_or-set_same, get_or-set_other, take-suc, length-take-le, get_or-take}
use Rattle.ccsk.specs.Numbers.{In}
use Rattle.ccsk.specs.Term.{Key}
use Rattle.ccsk.proofs.Lists.{get_or_in}
use Rattle.format.specs.Limits.{node_limit}
use Rattle.keyset.specs.Set.{member}
use Rattle.keys.specs.Gather.{Holds}
use Rattle.keys.proofs.Marks.{holds_members}
use Rattle.rank.specs.Rank.{one_more, rank}
use Rattle.rank.proofs.Ranks.{rank_once, rank_less, rank_few}
use Rattle.lasts.specs.declared.Last.{Last}
use Rattle.lasts.specs.Last.{keep, only, Ready}
use Rattle.lasts.proofs.Nodes.{only-append}
use Rattle.lasts.proofs.Ready.{ready_count}
use Rattle.settle.specs.declared.State.{State}
use Rattle.settle.specs.declared.State.TheVariants.{Unseen, Once, Twice, Never, Half}
use Rattle.settle.specs.declared.State.TheVariants as state
use Rattle.settle.specs.Group.{no_last, last_at, Fit, Small, times, counted, bumped, Counted, AllIn, Standing, Standing.once, Standing.twice, Standing.never, Standing.half, Standing.ready, Settled}

-- one more in front of a list
pub take_more : {A : Type 0} (i : ℕ) (x : List A) (d : A) → i < length x → take (i + 1) x ≡ take i x ++ (get_or x i d ∷ [])
take_more i x d h = rw (add-one i) (take-suc x i d h)

in_list : (x : List ℕ) (i : ℕ) → i < length x → In (get_or x i 0) x
in_list x i h = get_or_in x i h

pub rank_within : (s : List ℕ) (k n : ℕ) → rank s 65536 ≤ n → k < 65536 → member s k ≡ true → rank s k < n
rank_within s k n h l e = omega (arith, rank_less s k 65536 e l)

-- a set of no more keys than there are nodes has no more ranks
pub few_ranks : (x s : List ℕ) (m : ℕ) → m ≤ node_limit → Small (take m x) → Holds s (take m x) → rank s 65536 ≤ node_limit
few_ranks x s m h f w = omega (arith, rank_few s 65536 (take m x) (holds_members s (take m x) w f), length-take m x)

-- one count more
times_more : (k m : Key) (x : List Key) → times k (x ++ (m ∷ [])) ≡ one_more (eqb k m) (times k x)
unfolding times
times_more k m [] = refl
times_more k m (a ∷ x) = rw (times_more k m x) (swap (eqb k a) (eqb k m) (times k x))
  where
    swap : (b c : Bool) (n : ℕ) → one_more b (one_more c n) ≡ one_more c (one_more b n)
    swap true true n = refl
    swap true false n = refl
    swap false true n = refl
    swap false false n = refl

bump_counted : (n : ℕ) → bumped (counted n) ≡ counted (suc n)
bump_counted zero = refl
bump_counted (suc zero) = refl
bump_counted (suc (suc zero)) = refl
bump_counted (suc (suc (suc n))) = refl

counted_more : (s : List ℕ) (x : List Key) (st : List State) (m : ℕ) (v : State) (r : ℕ) → member s m ≡ true → m < 65536 → r ≡ rank s m → r < length st → v ≡ bumped (get_or st r Unseen) → Counted s x st → Counted s (x ++ (m ∷ [])) (set st r v)
counted_more s x st m v r e b q h w f k l g = rw (times_more k m x, q) (pick (ℕ_discrete k m))
  where
    pick : Dec (k ≡ m) → get_or (set st (rank s m) v) (rank s k) Unseen ≡ counted (one_more (eqb k m) (times k x))
    pick (yes z) = rw (eq-eqb k m z, z, get_or-set_same st (rank s m) v Unseen (omega arith)) (w ∙ rw (q, f m b e, bump_counted (times m x)))
    pick (no z) = rw (ne_eqb k m z, get_or-set_other st (rank s m) (rank s k) v Unseen (λ y. z (rank_once s k m g e y))) (f k l g)

pub counted_next : (s x : List ℕ) (i : ℕ) (st : List State) (v : State) (r : ℕ) → i < length x → member s (get_or x i 0) ≡ true → get_or x i 0 < 65536 → r ≡ rank s (get_or x i 0) → r < length st → v ≡ bumped (get_or st r Unseen) → Counted s (take i x) st → Counted s (take (i + 1) x) (set st r v)
counted_next s x i st v r h e b q l w f = rw (take_more i x 0 h) (counted_more s (take i x) st (get_or x i 0) v r e b q l w f)

-- a key of the list is a member
pub noted_member : (x s : List ℕ) (i : ℕ) → Small x → Holds s x → i < length x → (get_or x i 0 < 65536) × (member s (get_or x i 0) ≡ true)
noted_member x s i f w h = let j = in_list x i h in let b = f (get_or x i 0) j in (b, (w.exact (get_or x i 0) b).1 j)

-- one last more of a key
module _ (rs : List Last) (k : ℕ) (e : Last) where
  pub met_free : {c j : ℕ} {st : State} {x : List Last} → Standing rs k c x st j → st ≡ Once → e.scope ≡ 0 → (i : ℕ) → i ≡ k → Standing rs k c (x ++ (e ∷ [])) state.Ready i
  met_free once q z i p = let w : Ready 1 (e ∷ []) = (refl, z) in ready w p
  met_free twice q z i p = absurd cc
  met_free (never f) q z i p = absurd cc
  met_free (half h g) q z i p = absurd cc
  met_free (ready r g) q z i p = absurd cc

  pub met_scoped : {c j : ℕ} {st : State} {x : List Last} → Standing rs k c x st j → st ≡ Once → e.scope ≢ 0 → (i : ℕ) → Standing rs k c (x ++ (e ∷ [])) Never i
  met_scoped once q z i = never no
    where
      no : (y : List Last) → ¬ Ready 1 (e ∷ y)
      no [] r = z r.1
      no (f ∷ []) r = omega arith
      no (f ∷ (g ∷ y)) r = r
  met_scoped twice q z i = absurd cc
  met_scoped (never f) q z i = absurd cc
  met_scoped (half h g) q z i = absurd cc
  met_scoped (ready r g) q z i = absurd cc

  pub met_half : {c j : ℕ} {st : State} {x : List Last} → Standing rs k c x st j → st ≡ Twice → (i : ℕ) → i < node_limit → last_at rs i ≡ e → Standing rs k c (x ++ (e ∷ [])) Half i
  met_half once q i h g = absurd cc
  met_half twice q i h g = half h g
  met_half (never f) q i h g = absurd cc
  met_half (half a b) q i h g = absurd cc
  met_half (ready r p) q i h g = absurd cc

  pub met_pair : {c j : ℕ} {st : State} {x : List Last} → Standing rs k c x st j → st ≡ Half → Fit (last_at rs j) e → (i : ℕ) → i ≡ k → Standing rs k c (x ++ (e ∷ [])) state.Ready i
  met_pair once q z i p = absurd cc
  met_pair twice q z i p = absurd cc
  met_pair (never f) q z i p = absurd cc
  met_pair (half {e = d} h g) q z i p = let w = rw g at z in let v : Ready 2 (d ∷ (e ∷ [])) = (refl, w.0, w.1) in ready v p
  met_pair (ready r g) q z i p = absurd cc

  pub met_apart : {c j : ℕ} {st : State} {x : List Last} → Standing rs k c x st j → st ≡ Half → ¬ Fit (last_at rs j) e → (i : ℕ) → Standing rs k c (x ++ (e ∷ [])) Never i
  met_apart once q z i = absurd cc
  met_apart twice q z i = absurd cc
  met_apart (never f) q z i = absurd cc
  met_apart (half {e = d} h g) q z i = never no
    where
      no : (y : List Last) → ¬ Ready 2 (d ∷ (e ∷ y))
      no [] r = z (rw g (r.1, r.2))
      no (f ∷ y) r = r
  met_apart (ready r g) q z i = absurd cc

  pub met_over : {c j : ℕ} {st : State} {x : List Last} → Standing rs k c x st j → st ≢ Once → st ≢ Twice → st ≢ Half → (i : ℕ) → Standing rs k c (x ++ (e ∷ [])) Never i
  met_over once p q r i = absurd (p refl)
  met_over twice p q r i = absurd (q refl)
  met_over {c = c} {x = x} (never f) p q r i = never {c = c} {x = x ++ (e ∷ [])} (λ y w. f (e ∷ y) (rw (append_assoc x (e ∷ []) y) at w))
  met_over (half h g) p q r i = absurd (r refl)
  met_over {c = c} {x = x} (ready w g) p q r i = never {c = c} {x = x ++ (e ∷ [])} (λ y v. omega (arith, ready_count c x w, ready_count c ((x ++ (e ∷ [])) ++ y) v, length-append (x ++ (e ∷ [])) y, length-append x (e ∷ [])))

-- a row in a slot is within the array
half_within : {rs : List Last} {k c j : ℕ} {st : State} {x : List Last} → Standing rs k c x st j → st ≡ Half → j < node_limit
half_within once q = absurd cc
half_within twice q = absurd cc
half_within (never f) q = absurd cc
half_within (half h g) q = h
half_within (ready r g) q = absurd cc

-- a key that was counted, with no last yet
fresh : (rs : List Last) (k c : ℕ) (st : State) (j : ℕ) → 0 < c → st ≡ counted c → Standing rs k c [] st j
fresh rs k zero st j h e = absurd (omega arith)
fresh rs k (suc zero) st j h e = rw e once
fresh rs k (suc (suc zero)) st j h e = rw e twice
fresh rs k (suc (suc (suc c))) st j h e = rw e (never {c = suc (suc (suc c))} {x = []} (λ y r. omega (arith, ready_count (suc (suc (suc c))) y r)))

times_some : (k : Key) (x : List Key) → In k x → 0 < times k x
unfolding times
times_some k [] i = absurd i
times_some k (a ∷ x) (inl e) = rw (eq-eqb k a e) (omega arith)
times_some k (a ∷ x) (inr i) = pick (eqb k a) (times_some k x i)
  where
    pick : (b : Bool) → 0 < times k x → 0 < one_more b (times k x)
    pick true h = omega arith
    pick false h = h

pub settled_none : (s keys : List ℕ) (rs : List Last) (st : List State) (sl : List ℕ) → Holds s keys → Counted s keys st → Settled s keys rs (take 0 rs) st sl
unfolding only
settled_none s keys rs st sl w f k l e = fresh rs k (times k keys) (get_or st (rank s k) Unseen) (get_or sl (rank s k) 0) (times_some k keys ((w.exact k l).0 e)) (f k l e)

-- one last more
only_more : (k : Key) (x : List Last) (e : Last) → only k (x ++ (e ∷ [])) ≡ only k x ++ keep (eqb k e.key) e []
unfolding only
only_more k x e = only-append k x (e ∷ [])

settled_more : (s keys : List ℕ) (rs x : List Last) (st : List State) (sl : List ℕ) (e : Last) (v : State) (w r : ℕ) → member s e.key ≡ true → e.key < 65536 → r ≡ rank s e.key → r < length st → r < length sl
    → (Standing rs e.key (times e.key keys) (only e.key x) (get_or st r Unseen) (get_or sl r 0) → Standing rs e.key (times e.key keys) (only e.key x ++ (e ∷ [])) v w)
    → Settled s keys rs x st sl → Settled s keys rs (x ++ (e ∷ [])) (set st r v) (set sl r w)
settled_more s keys rs x st sl e v w r m b q h i f g k l d = rw (only_more k x e, q) (pick (ℕ_discrete k e.key))
  where
    pick : Dec (k ≡ e.key) → Standing rs k (times k keys) (only k x ++ keep (eqb k e.key) e []) (get_or (set st (rank s e.key) v) (rank s k) Unseen) (get_or (set sl (rank s e.key) w) (rank s k) 0)
    pick (yes z) = rw (eq-eqb k e.key z, z, get_or-set_same st (rank s e.key) v Unseen (omega arith), get_or-set_same sl (rank s e.key) w 0 (omega arith)) (f (rw q (g e.key b m)))
    pick (no z) = rw (ne_eqb k e.key z, get_or-set_other st (rank s e.key) (rank s k) v Unseen (λ y. z (rank_once s k e.key d m y)), get_or-set_other sl (rank s e.key) (rank s k) w 0 (λ y. z (rank_once s k e.key d m y)), append-nil (only k x)) (g k l d)

pub settled_next : (s keys : List ℕ) (rs : List Last) (i : ℕ) (st : List State) (sl : List ℕ) (v : State) (w r : ℕ) → i < length rs → ((last_at rs i).key < 65536) × (member s (last_at rs i).key ≡ true) → r ≡ rank s (last_at rs i).key → r < length st → r < length sl
    → ((c : ℕ) (x : List Last) → Standing rs (last_at rs i).key c x (get_or st r Unseen) (get_or sl r 0) → Standing rs (last_at rs i).key c (x ++ (last_at rs i ∷ [])) v w)
    → Settled s keys rs (take i rs) st sl → Settled s keys rs (take (i + 1) rs) (set st r v) (set sl r w)
settled_next s keys rs i st sl v w r h m q j l f g = rw (take_more i rs no_last h) (settled_more s keys rs (take i rs) st sl (last_at rs i) v w r m.1 m.0 q j l (f (times (last_at rs i).key keys) (only (last_at rs i).key (take i rs))) g)

-- the key of each of the first rows is in the set
row_in : (s : List ℕ) (x : List Last) (i : ℕ) (d : Last) → AllIn s x → i < length x → ((get_or x i d).key < 65536) × (member s (get_or x i d).key ≡ true)
row_in s [] i d a h = absurd (omega arith)
row_in s (e ∷ x) zero d a h = a.0
row_in s (e ∷ x) (suc i) d a h = row_in s x i d a.1 (omega arith)

pub row_key : (s : List ℕ) (rs : List Last) (i n : ℕ) → i < n → n ≤ length rs → AllIn s (take n rs) → ((last_at rs i).key < 65536) × (member s (last_at rs i).key ≡ true)
row_key s rs i n h l a = rw (get_or-take n rs i no_last h) at (row_in s (take n rs) i no_last a (omega (arith, length-take-le n rs l)))

pub half_at : (s keys : List ℕ) (rs x : List Last) (st : List State) (sl : List ℕ) (k r : ℕ) → Settled s keys rs x st sl → k < 65536 → member s k ≡ true → r ≡ rank s k → get_or st r Unseen ≡ Half → get_or sl r 0 < node_limit
half_at s keys rs x st sl k r f b e q z = rw q (half_within (f k b e) (rw q at z))
