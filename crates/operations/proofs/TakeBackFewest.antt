-- No run of allowed undos that takes back a key takes back fewer keys. A key waits for another exactly if every such run takes back the other first (02, [5], [6]).
use mathlib.Core.Path.{◌≡◌, refl, sym, ap, ◌∙◌}
use mathlib.Core.Logic.{inl, inr, ◌↔◌}
use mathlib.Core.List.{List, [], ◌∷◌, ◌++◌}
use Prim.Native.Nat.{ℕ, ◌<◌, ◌≤◌}
use native.Mathlib.Omega.{arith}
use lib.ListN.{length, take}
use Rattle.ccsk.specs.Numbers.{In, distinct}
use Rattle.ccsk.specs.Term.{Term, Key, Has, keys}
use Rattle.ccsk.proofs.Lists.{in_left, in_right, distinct-length}
use Rattle.sound.specs.Sound.{Sound}
use Rattle.sound.specs.Run.{Undos}
use Rattle.sound.proofs.Order.{chain_ends}
use Rattle.sound.proofs.Reach.{waits_go_first}
use Rattle.sound.proofs.Taken.{Once, once_few, once_apart, once_behind, split_at, undos_once}
use Rattle.format.specs.Read.{Reads}
use Rattle.format.specs.Encode.{encode, Bytes}
use Rattle.operations.specs.Order.{WaitsFor}
use Rattle.operations.specs.Ask.{WaitingList, Soundness}
use Rattle.operations.specs.Runs.{UndoRun}
use Rattle.operations.specs.TakeBack.{Goes, InTurn, TakeBack}
use Rattle.operations.proofs.Readable.{reads_one, encode_read, read_fits}
use Rattle.operations.proofs.Reachable.{sound_done, undos_on_terms, waiting_done}
use Rattle.operations.proofs.InTurn.{turn_undos, turn_goes, turn}
use Rattle.operations.proofs.TakeBackOnce.{turn_holds, turn_once, goes?}
use Rattle.operations.proofs.TakeBackSome.{turn_exists}
use Rattle.operations.proofs.TakenBack.{take_done, undos_on_bytes}

-- every run of undos that takes back m takes back what goes with it
goes_in_run : {t u : Term} {m : Key} (js : List Key) (k : Key) → Undos js t u → In m js → Goes t m k → In k js
goes_in_run {t} {u} {m} js k r i (inl e) = rw e i
goes_in_run {t} {u} {m} js k r i (inr w) = let x = split_at m js i in
    let q : Undos (x.0 ++ (m ∷ x.1)) t u = rw x.2 at r in
    rw x.2 (in_left k x.0 (m ∷ x.1) (waits_go_first x.0 x.1 q w.1))

-- no run of allowed undos that takes back m takes back fewer keys, or leaves out one of them
pub take_back_fewest : {s b c row row' : List ℕ} {m : Key} {n : ℕ} {js : List Key} → Bytes s → TakeBack s m row 0 n b row' → UndoRun js s c → In m js → (n ≤ length js) × ((k : Key) → In k (take n row') → In k js)
take_back_fewest {row' = row'} {n = n} {js = js} h a r i =
    let w = take_done a in let u = (undos_on_terms w.before r h w.reads).run in
    let all : (k : Key) → In k (take n row') → In k js = λ k j. goes_in_run js k u i (turn_goes k w.turn j) in
    (omega (arith, w.count, once_few (take n row') js (turn_once w.turn) all, distinct-length js), all)

-- where all keys of a run go with m, none comes after m
last_in_turn : {t u : Term} {m : Key} (x y : List Key) → Undos (x ++ (m ∷ y)) t u → ((k : Key) → In k (x ++ (m ∷ y)) → Goes t m k) → y ≡ []
last_in_turn x [] r g = refl
last_in_turn {t} {u} {m} x (z ∷ y) r g = absurd (out (g z (in_right z x (m ∷ (z ∷ y)) (inr (inl refl)))))
  where
    o : Once (x ++ (m ∷ (z ∷ y)))
    o = undos_once r

    out : Goes t m z → ⊥
    out (inl e) = (once_behind x (m ∷ (z ∷ y)) o).0 (inl (sym e))
    out (inr w) = once_apart z x (m ∷ (z ∷ y)) o (waits_go_first x (z ∷ y) r w.1) (inr (inl refl))

-- m itself goes last
pub take_back_last : {s b row row' : List ℕ} {m : Key} {n : ℕ} → TakeBack s m row 0 n b row' → (ks : List Key) × (take n row' ≡ ks ++ (m ∷ []))
take_back_last {row' = row'} {m = m} {n = n} a =
    let w = take_done a in let x = split_at m (take n row') ((turn_holds w.pos w.has w.turn m).1 (inl refl)) in
    let r : Undos (x.0 ++ (m ∷ x.1)) w.before w.later = rw x.2 at (turn_undos w.turn) in
    (x.0, x.2 ∙ ap (λ y. x.0 ++ (m ∷ y)) (last_in_turn x.0 x.1 r (λ k i. turn_goes k w.turn (rw x.2 i))))

-- in a sound term some run of undos takes back m and before it only keys that m waits for
only_waited : (t : Term) (m : Key) → 0 < m → Has m t → Sound t → (ks : List Key) × (js : List Key) × (u : Term) × Undos (ks ++ (m ∷ js)) t u × ((k : Key) → In k ks → WaitsFor t m k)
only_waited t m p h s = (x.0, x.1, v.1, q, λ k i. waits k i (turn_goes k r (rw x.2 (in_left k x.0 (m ∷ x.1) i))))
  where
    v : List Key × Term
    v = turn (Goes t m) (goes? t m) (distinct (keys t)) t

    r : InTurn (Goes t m) v.0 t v.1
    r = turn_exists t m p h s

    x : (x : List Key) × (y : List Key) × (v.0 ≡ x ++ (m ∷ y))
    x = split_at m v.0 ((turn_holds p h r m).1 (inl refl))

    q : Undos (x.0 ++ (m ∷ x.1)) t v.1
    q = rw x.2 at (turn_undos r)

    waits : (k : Key) → In k x.0 → Goes t m k → WaitsFor t m k
    waits k i (inl e) = absurd (once_apart k x.0 (m ∷ x.1) (undos_once q) i (inl e))
    waits k i (inr w) = w

-- In a sound record m waits for n exactly if every run of allowed undos that takes back m takes back n first.
pub waits_iff_always_first : {s : List ℕ} {t : Term} {m : Key} → Bytes s → Soundness s 0 0 → Reads s t → 0 < m → Has m t
    → (n : Key) → WaitsFor t m n ↔ ((ks js : List Key) (c : List ℕ) → UndoRun (ks ++ (m ∷ js)) s c → In n ks)
waits_iff_always_first {s} {t} {m} h a e p i n = let q = sound_done a in let v = only_waited t m p i (rw (reads_one s e q.1) q.2) in
    ((λ w ks js c r. waits_go_first ks js (undos_on_terms t r h e).run w.1), back v.0 v.1 v.2 v.3 v.4)
  where
    back : (ks js : List Key) (u : Term) → Undos (ks ++ (m ∷ js)) t u → ((k : Key) → In k ks → WaitsFor t m k) → ((ks js : List Key) (c : List ℕ) → UndoRun (ks ++ (m ∷ js)) s c → In n ks) → WaitsFor t m n
    back ks js u r w f = w n (f ks js (encode u) (rw (encode_read s h e) at (undos_on_bytes r (read_fits s h e))))

-- So the waiting list holds exactly the keys that every such run takes back first.
pub list_iff_always_first : {s row row' : List ℕ} {m : Key} {x : ℕ} → Bytes s → Soundness s 0 0 → WaitingList s m row 0 x row'
    → (n : Key) → In n (take x row') ↔ ((ks js : List Key) (c : List ℕ) → UndoRun (ks ++ (m ∷ js)) s c → In n ks)
list_iff_always_first h a q n = let j = waiting_done q in let i = waits_iff_always_first h a j.1 j.2 j.3 n in
    ((λ k. i.0 ((j.4.1 n).0 k).1), λ f. let w = i.1 f in (j.4.1 n).1 ((chain_ends j.0 w.1).1.0, w))
