-- Taking back a key: for every input at most one answer fits the promise, and it can be computed (02, [6]).
use mathlib.Core.Path.{◌≡◌, sym, ap, ◌∙◌}
use mathlib.Core.Logic.{inl, inr, ◌↔◌}
use mathlib.Core.List.{List, ◌++◌}
use Prim.Native.Nat.{ℕ, ◌<◌}
use native.Mathlib.Decide.{ℕ_discrete, dec_le}
use native.Mathlib.Omega.{arith}
use lib.ListN.{length, drop}
use Rattle.ccsk.specs.Numbers.{In, either, distinct, Lists}
use Rattle.ccsk.specs.Term.{Term, Key, Has, keys}
use Rattle.ccsk.proofs.Basic.{has?, never}
use Rattle.ccsk.proofs.Keys.{has_in}
use Rattle.ccsk.proofs.Lists.{distinct-length}
use Rattle.sound.proofs.Decide.{verdict, verdict_once}
use Rattle.sound.proofs.Order.{chain_ends}
use Rattle.sound.proofs.Taken.{Once, once_few, undos_once}
use Rattle.format.specs.Read.{decode}
use Rattle.format.specs.Encode.{encode}
use Rattle.operations.specs.TakeBack.{Goes, InTurn, TakeBack}
use Rattle.operations.proofs.Choose.{choose, choose_yes, choose_no, on_read}
use Rattle.operations.proofs.Lists.{ascending_few, pass, lists_once, lists_some}
use Rattle.operations.proofs.RowOnce.{waits?}
use Rattle.operations.proofs.InTurn.{turn_undos, turn_goes, turn_all, turn, turn_only, turn_few}

-- what goes with a key of the term is a key of the term
pub goes_key : (t : Term) (m k : Key) → 0 < m → Has m t → Goes t m k → (0 < k) × Has k t
goes_key t m k p h (inl e) = (rw e p, rw e h)
goes_key t m k p h (inr w) = (chain_ends t w.1).1

-- exactly the keys that go are undone
pub turn_holds : {t u : Term} {m : Key} {ks : List Key} → 0 < m → Has m t → InTurn (Goes t m) ks t u → (k : Key) → In k ks ↔ Goes t m k
turn_holds {t} {m = m} p h r k = (turn_goes k r, λ g. let i = goes_key t m k p h g in turn_all k r i.0 g i.1)

-- each once
pub turn_once : {goes : Key → Type 0} {t u : Term} {ks : List Key} → InTurn goes ks t u → Once ks
turn_once r = undos_once (turn_undos r)

-- so they are as many as the list of what goes is long
pub turn_length : {t u : Term} {m : Key} (ks l : List Key) → 0 < m → Has m t → InTurn (Goes t m) ks t u → Lists (Goes t m) l → length ks ≡ length l
turn_length {t} {m = m} ks l p h r o =
    let i = turn_holds p h r in
    let fore = once_few ks l (turn_once r) (λ k j. let g = (i k).0 j in (o.1 k).1 ((goes_key t m k p h g).0, g)) in
    let back = ascending_few 0 l ks o.0 (λ k j. (i k).1 ((o.1 k).0 j).1) in
    omega (arith, fore, back, distinct-length ks, distinct-length l)

-- whether a key goes with m, with the reason
unfoldable pub goes? : (t : Term) (m k : Key) → Dec (Goes t m k)
goes? t m k = either (ℕ_discrete k m) (waits? t m k)

-- the keys that go with m
unfoldable pub goers : Term → Key → List Key
goers t m = pass (Goes t m) (goes? t m) (keys t)

-- they are listed, ascending
pub goers_listed : (t : Term) (m : Key) → 0 < m → Has m t → Lists (Goes t m) (goers t m)
unfolding goers
goers_listed t m p h = lists_some (Goes t m) (goes? t m) (keys t) (λ k q g. has_in k t q (goes_key t m k p h g).1)

-- refusal number, how many keys went, bytes and row afterwards
abbrev pub Taking : Type 0
Taking = ℕ × ℕ × List ℕ × List ℕ

-- the keys that went, in front of the row
abbrev pub taken_in : List ℕ → List Key × Term → Taking
taken_in row x = (0, length x.0, encode x.1, x.0 ++ drop (length x.0) row)

-- the answer for a term that was read, and for any bytes
unfoldable pub take_of : List ℕ → Key → List ℕ → Term → Taking
take_of s m row t = choose (ℕ_discrete m 0) (3, 0, s, row) (choose (ℕ_discrete (verdict t) 0) (choose (has? m t) (choose (dec_le (length (goers t m)) (length row))
    (taken_in row (turn (Goes t m) (goes? t m) (distinct (keys t)) t)) (9, 0, s, row)) (7, 0, s, row)) (13, 0, s, row))

unfoldable pub take_answer : List ℕ → Key → List ℕ → Taking
take_answer s m row = on_read (decode s) (λ c. (c, 0, s, row)) (take_of s m row)

-- whatever fits the promise is the answer computed
pub take_only : {s b row row' : List ℕ} {m : Key} {r n : ℕ} → TakeBack s m row r n b row' → take_answer s m row ≡ (r, n, b, row')
unfolding take_answer take_of
take_only (TakeBack.unreadable e) = rw e
take_only {m = m} (TakeBack.key_zero e z) = rw (e, choose_yes (ℕ_discrete m 0) _ _ z)
take_only {m = m} (TakeBack.not_sound {t = t} e p v h) = rw (e, choose_no (ℕ_discrete m 0) _ _ (never p), choose_no (ℕ_discrete (verdict t) 0) _ _ (λ z. omega (arith, verdict_once v)))
take_only {m = m} (TakeBack.key_absent {t = t} e p v f) = rw (e, choose_no (ℕ_discrete m 0) _ _ (never p), choose_yes (ℕ_discrete (verdict t) 0) _ _ (verdict_once v), choose_no (has? m t) _ _ f)
take_only {row = row} {m = m} (TakeBack.short {t = t} l e p v i o h) =
    rw (e, choose_no (ℕ_discrete m 0) _ _ (never p), choose_yes (ℕ_discrete (verdict t) 0) _ _ (verdict_once v), choose_yes (has? m t) _ _ i)
    (choose_no (dec_le (length (goers t m)) (length row)) _ _ (λ g. omega (arith, ap length (lists_once (Goes t m) (goers t m) l (goers_listed t m p i) o))))
take_only {row = row} {m = m} (TakeBack.done {t = t} {ks = ks} e p v i r h) =
    rw (
      e,
      choose_no (ℕ_discrete m 0) _ _ (never p),
      choose_yes (ℕ_discrete (verdict t) 0) _ _ (verdict_once v),
      choose_yes (has? m t) _ _ i,
      choose_yes (dec_le (length (goers t m)) (length row)) _ _ (omega (arith, turn_length ks (goers t m) p i r (goers_listed t m p i))),
      turn_only (Goes t m) (goes? t m) (distinct (keys t)) r (turn_few r),
    )

-- only one answer fits the promise of taking back
pub take_back_once : {s b b₂ row row' row₂ : List ℕ} {m : Key} {r r₂ n n₂ : ℕ} → TakeBack s m row r n b row' → TakeBack s m row r₂ n₂ b₂ row₂ → (r ≡ r₂) × (n ≡ n₂) × (b ≡ b₂) × (row' ≡ row₂)
take_back_once d e = let g = sym (take_only d) ∙ take_only e in (ap (λ v. v.0) g, ap (λ v. v.1) g, ap (λ v. v.2) g, ap (λ v. v.3) g)
