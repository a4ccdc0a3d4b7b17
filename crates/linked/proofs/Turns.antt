-- Keys taken out of the order of a term, each time the least that is free, are undone in turn.
use mathlib.Core.Path.{refl, sym}
use mathlib.Core.Logic.{inl, inr, ⊎_elim, ◌↔◌}
use mathlib.Core.List.{List, [], ◌∷◌, ◌++◌}
use Prim.Native.Nat.{ℕ, ◌<◌, ◌≤◌}
use native.Mathlib.Omega.{arith}
use Rattle.ccsk.specs.Numbers.{In}
use Rattle.ccsk.specs.Term.{Term, Has, Fsh}
use Rattle.ccsk.specs.Step.{Undoable}
use Rattle.ccsk.proofs.Undo.{key_pos, present, absent}
use Rattle.sound.specs.Sound.{one, Sound}
use Rattle.sound.specs.Run.{Undos}
use Rattle.sound.proofs.Order.{has_undo, chain_ends}
use Rattle.sound.proofs.Taken.{undos_left}
use Rattle.causes.specs.Nearest.{RightAbove}
use Rattle.causes.proofs.Nearest.{before_chain, right_before}
use Rattle.operations.specs.Order.{WaitsFor}
use Rattle.operations.specs.TakeBack.{Goes, Next, InTurn}
use Rattle.operations.proofs.InTurn.{turn_undos}
use Rattle.order.specs.Peels.{FirstFree, Peels}
use Rattle.linked.proofs.Rest.{Rest, rest_start, rest_undo, lead, can_undo, undo_ready}

-- R links keys to those that they stand right above; S are the keys that m waits for.
module _ (t : Term) (m : ℕ) (R : ℕ → ℕ → Type 0) (link : (k n : ℕ) → R k n ↔ RightAbove 0 t k n) (S : ℕ → Type 0) (waits : (k : ℕ) → S k ↔ WaitsFor t m k) where
  -- while keys that m waits for are left, the least free one of them is next
  free_next : {out : List ℕ} {v : Term} (k : ℕ) → Rest t out v → FirstFree R S out k → Next (Goes t m) v k
  free_next {out} {v} k r f = record {
    still = inr w;
    allowed = can_undo r k at.0 at.1 f.free.inside (λ n e b. f.free.ready n ((link k n).1 b));
    least = low;
  }
    where
      w : WaitsFor t m k
      w = (waits k).0 f.free.among

      at : (0 < k) × Has k t
      at = (chain_ends t w.1).1

      low : (j : ℕ) → Goes t m j → Undoable v j → k ≤ j
      low j (inl e) d = let u : Undoable v m = rw e at d in absurd (⊎_elim w.0 f.free.inside (lead r (λ n z b. undo_ready r u.2 n b) (before_chain t w.1)))
      low j (inr g) d = f.least j (record {
        among = (waits j).1 g;
        inside = r.gone j (key_pos d.2) (present d.2);
        ready = λ n b. undo_ready r d.2 n ((link j n).0 b);
      })

  -- once none is left, m itself is
  own_next : {out : List ℕ} {v : Term} → 0 < m → Has m t → Rest t out v → ¬ In m out → ((k : ℕ) → S k → In k out) → Next (Goes t m) v m
  own_next {out} {v} p h r o all = record {
    still = inl refl;
    allowed = can_undo r m p h o (λ n e b. all n ((waits n).1 (e, one (right_before t m n (λ z. e (sym z)) b))));
    least = low;
  }
    where
      low : (j : ℕ) → Goes t m j → Undoable v j → m ≤ j
      low j (inl e) d = omega arith
      low j (inr g) d = absurd (r.gone j (key_pos d.2) (present d.2) (all j ((waits j).1 g)))

  -- so the keys that are taken out go in turn, and then m
  turns : {out ws : List ℕ} {v : Term} → 0 < m → Has m t → Peels R S out ws → Rest t out v → ¬ In m out → (u : Term) × InTurn (Goes t m) (ws ++ (m ∷ [])) v u
  turns {v = v} p h (Peels.end {out = out} all) r o = let n = own_next p h r o all in let d = n.allowed in (d.1, InTurn.then n d.2 (InTurn.all_gone (none d)))
    where
      none : (d : Undoable v m) → (k : ℕ) → Goes t m k → Fsh k d.1
      none d k (inl e) i = absent d.2 (rw e at i)
      none d k (inr g) i = let q = (chain_ends t g.1).1.0 in r.gone k q (has_undo k d.2 q i) (all k ((waits k).1 g))
  turns p h (Peels.next {k = k} f q) r o =
      let n = free_next k r f in
      let d = n.allowed in
      let i = turns p h q (rest_undo r d.2 (λ x e b. f.free.ready x ((link k x).1 b))) (⊎_elim (λ e. ((waits k).0 f.free.among).0 (sym e)) o) in
      (i.0, InTurn.then n d.2 i.1)

-- Keys that m waits for, taken out each time the least that is free, and then m, are undone in turn; none of them is left.
pub in_turn : (t : Term) (m : ℕ) → Sound t → 0 < m → Has m t → (R : ℕ → ℕ → Type 0) → ((k n : ℕ) → R k n ↔ RightAbove 0 t k n) → (S : ℕ → Type 0) → ((k : ℕ) → S k ↔ WaitsFor t m k) → (ws : List ℕ) → Peels R S [] ws →
    (u : Term) × InTurn (Goes t m) (ws ++ (m ∷ [])) t u × Undos (ws ++ (m ∷ [])) t u × ((k : ℕ) → 0 < k → Has k u → ¬ In k (ws ++ (m ∷ [])))
in_turn t m s p h R link S waits ws q =
    let i = turns t m R link S waits p h q (rest_start t s) (λ x. x) in
    let d = turn_undos i.1 in
    (i.0, i.1, d, λ k p j. ((undos_left k d p).0 j).1)
