-- Taking back a key: for every input an answer fits the promise, the one that is computed. In a sound term the keys that go can be undone in turn (02, [6]).
use mathlib.Core.Path.{◌≡◌, refl, sym}
use mathlib.Core.Logic.{inl, inr, ◌≢◌}
use mathlib.Core.List.{List, [], ◌∷◌}
use Prim.Native.Nat.{ℕ, zero, suc, ◌<◌, ◌≤◌}
use native.Mathlib.Decide.{ℕ_discrete, dec_le}
use native.Mathlib.Omega.{arith}
use lib.ListN.{length}
use Rattle.ccsk.specs.Numbers.{In, distinct, Lists}
use Rattle.ccsk.specs.Term.{Term, Key, Has, Fsh, keys}
use Rattle.ccsk.specs.Step.{Undoable}
use Rattle.ccsk.specs.Decide.{both}
use Rattle.ccsk.proofs.Basic.{has?}
use Rattle.ccsk.proofs.Clear.{clear, undo_clears}
use Rattle.ccsk.proofs.Keys.{has_in, distinct_undo}
use Rattle.sound.specs.Sound.{Above, Before, Chain, one, Sound, Verdict, sound}
use Rattle.sound.proofs.Chains.{chain_join}
use Rattle.sound.proofs.Peel.{peak}
use Rattle.sound.proofs.Top.{before?}
use Rattle.sound.proofs.Order.{above_low, chain_undo}
use Rattle.sound.proofs.Kept.{sound_undo}
use Rattle.sound.proofs.Decide.{verdict, verdict_right}
use Rattle.sound.proofs.Derive.{Last}
use Rattle.sound.proofs.Reach.{undo_last}
use Rattle.format.specs.Read.{Reads, decode, Opened, Opened.refused, opened}
use Rattle.operations.specs.TakeBack.{Goes, Next, InTurn, TakeBack}
use Rattle.operations.proofs.Choose.{choose, on_read, positive}
use Rattle.operations.proofs.Lists.{above, pass, lists_some}
use Rattle.operations.proofs.InTurn.{onward, ready, ready_listed, turn}
use Rattle.operations.proofs.TakeBackOnce.{goes_key, turn_length, goes?, goers, goers_listed, Taking, taken_in, take_of, take_answer}

module _ (goes : Key → Type 0) (goes? : (k : Key) → Dec (goes k)) (pos : (k : Key) → goes k → 0 < k) where
  -- with a key go the keys that a chain leads to
  abbrev Closed : Term → Type 0
  Closed t = (k j : Key) → goes k → Chain (Before t) k j → goes j

  -- as long as one that goes is left, the undo of one of them is allowed
  some_ready : (t : Term) (k : Key) → Sound t → Closed t → goes k → Has k t → (j : Key) × goes j × Undoable t j
  some_ready t k s c g h =
      let P : Key → Type 0 = λ j. goes j × Has j t in
      let o = lists_some P (λ j. both (goes? j) (has? j t)) (keys t) (λ j p w. has_in j t p w.1) in
      let r = peak (Before t) (before? t) (pass P (λ j. both (goes? j) (has? j t)) (keys t)) s.ordered k ((o.1 k).1 (pos k g, (g, h))) in
      let w = (o.1 r.key).0 r.has in let q = pos r.key w.1.0 in
      let link : (n : Key) → 0 < n → n ≢ r.key → Above r.key n t → Before t r.key n = λ n p e b. (q, p, (λ z. e (sym z)), b) in
      let last : Last r.key t = λ n p e b. r.free n ((o.1 n).1 (p, (c r.key n w.1.0 (one (link n p e b)), above_low r.key n t b))) (link n p e b) in
      let d = undo_last t r.key s q w.1.1 last in
      (r.key, w.1.0, (d.0, d.1.0, d.1.1))

  -- where none is ready all have gone, and else the first is the next
  all_went : (t : Term) → Sound t → Closed t → ready goes goes? t ≡ [] → (k : Key) → goes k → Fsh k t
  all_went t s c e k g h = let r = some_ready t k s c g h in let i : In r.0 [] = rw e at (((ready_listed goes goes? t).1 r.0).1 (pos r.0 r.1, (r.1, r.2))) in i

  next_ready : (t : Term) (k : Key) (l : List Key) → Lists (λ k. goes k × Undoable t k) (k ∷ l) → Next goes t k
  next_ready t k l o = let w = ((o.1 k).0 (inl refl)).1 in
      record { still = w.0; allowed = w.1; least = λ j g u. first j ((o.1 j).1 (pos j g, (g, u))) }
    where
      first : (j : Key) → In j (k ∷ l) → k ≤ j
      first j (inl e) = omega arith
      first j (inr i) = omega (arith, above k l o.0.1 j i)

  -- the run that is computed fits
  turn_some : (f : ℕ) (t : Term) → distinct (keys t) ≤ f → Sound t → Closed t → InTurn goes (turn goes goes? f t).0 t (turn goes goes? f t).1
  unfolding turn
  turn_some zero t h s c = pick (ready goes goes? t) refl
    where
      some : (k : Key) → Next goes t k → ⊥
      some k n = omega (arith, distinct_undo n.allowed.2)

      pick : (l : List Key) → ready goes goes? t ≡ l → InTurn goes [] t t
      pick [] e = InTurn.all_gone (all_went t s c e)
      pick (k ∷ l) e = absurd (some k (next_ready t k l (rw e at (ready_listed goes goes? t))))
  turn_some (suc f) t h s c = pick (ready goes goes? t) refl (turn_some f)
    where
      some : (k : Key) → Next goes t k → ((t : Term) → distinct (keys t) ≤ f → Sound t → Closed t → InTurn goes (turn goes goes? f t).0 t (turn goes goes? f t).1) → InTurn goes (k ∷ (turn goes goes? f (clear k t)).0) t (turn goes goes? f (clear k t)).1
      some k n i = let d = n.allowed.2 in
          rw (undo_clears d) (InTurn.then n d (i n.allowed.1 (omega (arith, distinct_undo d)) (sound_undo d s) (λ k j g w. c k j g (chain_undo d w))))

      pick : (l : List Key) → ready goes goes? t ≡ l → ((t : Term) → distinct (keys t) ≤ f → Sound t → Closed t → InTurn goes (turn goes goes? f t).0 t (turn goes goes? f t).1) → InTurn goes (onward t (turn goes goes? f) l).0 t (onward t (turn goes goes? f) l).1
      pick [] e i = InTurn.all_gone (all_went t s c e)
      pick (k ∷ l) e i = some k (next_ready t k l (rw e at (ready_listed goes goes? t))) i

-- verdict 0 is sound
pub verdict_sound : {t : Term} → Verdict t 0 → Sound t
verdict_sound (sound s) = s

-- with a key goes what a chain leads to from it
goes_closed : (t : Term) (m : Key) → Sound t → (k j : Key) → Goes t m k → Chain (Before t) k j → Goes t m j
goes_closed t m s k j g c = inr (away, from g)
  where
    from : Goes t m k → Chain (Before t) m j
    from (inl e) = rw e at c
    from (inr w) = chain_join w.1 c

    away : ¬ (j ≡ m)
    away e = s.ordered m (rw e at (from g))

-- in a sound term the keys that go with m can be undone in turn
pub turn_exists : (t : Term) (m : Key) → 0 < m → Has m t → Sound t → let x : List Key × Term = turn (Goes t m) (goes? t m) (distinct (keys t)) t in InTurn (Goes t m) x.0 t x.1
turn_exists t m p h s = turn_some (Goes t m) (goes? t m) (λ k g. (goes_key t m k p h g).0) (distinct (keys t)) t (omega arith) s (goes_closed t m s)

-- the answer fits the promise
abbrev pub FitTaking : List ℕ → Key → List ℕ → Taking → Type 0
FitTaking s m row x = TakeBack s m row x.0 x.1 x.2 x.3

-- the answer that is computed fits
pub take_some : (s : List ℕ) (m : Key) (row : List ℕ) → FitTaking s m row (take_answer s m row)
unfolding take_answer take_of
take_some s m row = read (decode s) refl
  where
    tests : (t : Term) → Reads s t → (a : Dec (m ≡ 0)) (b : Dec (verdict t ≡ 0)) (c : Dec (Has m t)) (d : Dec (length (goers t m) ≤ length row))
        → FitTaking s m row (choose a (3, 0, s, row) (choose b (choose c (choose d (taken_in row (turn (Goes t m) (goes? t m) (distinct (keys t)) t)) (9, 0, s, row)) (7, 0, s, row)) (13, 0, s, row)))
    tests t e (yes z) b c d = TakeBack.key_zero e z
    tests t e (no z) (no b) c d = TakeBack.not_sound e (positive m z) (verdict_right t) (positive (verdict t) b)
    tests t e (no z) (yes b) (no c) d = TakeBack.key_absent e (positive m z) (rw b at (verdict_right t)) c
    tests t e (no z) (yes b) (yes c) (no d) = let p = positive m z in TakeBack.short (goers t m) e p (rw b at (verdict_right t)) c (goers_listed t m p c) (omega arith)
    tests t e (no z) (yes b) (yes c) (yes d) = let p = positive m z in let v : Verdict t 0 = rw b at (verdict_right t) in
        let r = turn_exists t m p c (verdict_sound v) in
        TakeBack.done e p v c r (omega (arith, turn_length (turn (Goes t m) (goes? t m) (distinct (keys t)) t).0 (goers t m) p c r (goers_listed t m p c)))

    read : (o : Opened) → decode s ≡ o → FitTaking s m row (on_read o (λ c. (c, 0, s, row)) (take_of s m row))
    read (refused c) e = TakeBack.unreadable e
    read (opened t) e = tests t e (ℕ_discrete m 0) (ℕ_discrete (verdict t) 0) (has? m t) (dec_le (length (goers t m)) (length row))
