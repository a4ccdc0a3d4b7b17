-- What taking back a key does, on bytes: which keys went, that they went by allowed undos, and that nothing else changed (02, [6]).
use mathlib.Core.Path.{◌≡◌, refl, ap}
use mathlib.Core.Logic.{◌⊎◌, inl, inr, ⊎_elim, ◌↔◌}
use mathlib.Core.List.{List, [], ◌∷◌}
use Prim.Native.Nat.{ℕ, suc, ◌<◌}
use native.Mathlib.Omega.{arith}
use lib.ListN.{length, take, drop, length-append, length-drop}
use lib.Seq.{take-append_seam, drop-append_seam}
use Rattle.ccsk.specs.Numbers.{In, AscendingFrom}
use Rattle.ccsk.specs.Term.{Term, Key, Has}
use Rattle.ccsk.proofs.Lists.{distinct-length}
use Rattle.sound.specs.Sound.{Sound}
use Rattle.sound.specs.Run.{Undos}
use Rattle.sound.proofs.Order.{chain_ends}
use Rattle.sound.proofs.Taken.{Once, once_few}
use Rattle.format.specs.Read.{Reads}
use Rattle.format.specs.Encode.{encode, Fits, Bytes}
use Rattle.format.proofs.Round.{decode-encode}
use Rattle.operations.specs.Ask.{Filled, short, filled, WaitingList}
use Rattle.operations.specs.Change.{UndoStep}
use Rattle.operations.specs.Runs.{UndoRun}
use Rattle.operations.specs.TakeBack.{Goes, InTurn, TakeBack}
use Rattle.operations.proofs.Lists.{above}
use Rattle.operations.proofs.Readable.{not_refused_zero, reads_one, encode_read, read_fits}
use Rattle.operations.proofs.Kept.{fits_undo}
use Rattle.operations.proofs.Reachable.{waiting_done}
use Rattle.operations.proofs.InTurn.{turn_undos}
use Rattle.operations.proofs.TakeBackOnce.{turn_holds, turn_once}
use Rattle.operations.proofs.TakeBackSome.{verdict_sound}

-- what taking back comes from
pub record Went (s : List ℕ) (m : Key) (row : List ℕ) (n : ℕ) (b row' : List ℕ) : Type 0 where
  pub before : Term
  pub later : Term
  pub reads : Reads s before
  pub pos : 0 < m
  pub valid : Sound before
  pub has : Has m before
  pub turn : InTurn (Goes before m) (take n row') before later
  pub bytes : encode later ≡ b
  pub count : length (take n row') ≡ n
  pub rest : drop n row' ≡ drop n row
  pub width : length row' ≡ length row

pub take_done : {s b row row' : List ℕ} {m : Key} {n : ℕ} → TakeBack s m row 0 n b row' → Went s m row n b row'
take_done {s} (TakeBack.unreadable e) = not_refused_zero s e
take_done {row = row} {m = m} (TakeBack.done {t = t} {u = u} {ks = ks} e p v h r o) =
    let f = take-append_seam ks (drop (length ks) row) in
    record {
      before = t;
      later = u;
      reads = e;
      pos = p;
      valid = verdict_sound v;
      has = h;
      turn = rw f r;
      bytes = refl;
      count = ap length f;
      rest = drop-append_seam ks (drop (length ks) row);
      width = omega (arith, length-append ks (drop (length ks) row), length-drop (length ks) row);
    }

-- a run of undos on terms is one on their records
pub undos_on_bytes : {ks : List Key} {t u : Term} → Undos ks t u → Fits t → UndoRun ks (encode t) (encode u)
undos_on_bytes Undos.stay f = UndoRun.stay
undos_on_bytes (Undos.then {t = t} d r) f = UndoRun.then (UndoStep.done (decode-encode t f) d) (undos_on_bytes r (fits_undo d f))

-- an ascending list holds no number twice
ascending_twice : (n : ℕ) (l : List ℕ) → AscendingFrom n l → Once l
ascending_twice n [] o = tt
ascending_twice n (a ∷ l) o = ((λ i. omega (arith, above a l o.1 a i)), ascending_twice a l o.1)

-- a list in a row is as long as the answer says
filled_count : {x row row' : List ℕ} {r n : ℕ} → Filled x row r n row' → r ≡ 0 → length (take n row') ≡ n
filled_count (short h) e = absurd (omega arith)
filled_count {x} {row} (filled h) e = ap length (take-append_seam x (drop (length x) row))

waiting_count : {s row row' : List ℕ} {m : Key} {x : ℕ} → WaitingList s m row 0 x row' → length (take x row') ≡ x
waiting_count {s} (WaitingList.unreadable e) = not_refused_zero s e
waiting_count (WaitingList.done e h i l f) = filled_count f refl

module _ {s b row row' : List ℕ} {m : Key} {n : ℕ} (a : TakeBack s m row 0 n b row') where
  went : Went s m row n b row'
  went = take_done a

  -- the row: n keys at the front, each once, and what lies past them stays as it was
  pub take_back_row : (length (take n row') ≡ n) × Once (take n row') × (drop n row' ≡ drop n row) × (length row' ≡ length row)
  take_back_row = (went.count, turn_once went.turn, went.rest, went.width)

  -- they are allowed undos, one after the other, in the order of the row
  pub take_back_is_undos : Bytes s → UndoRun (take n row') s b
  take_back_is_undos h = rw (encode_read s h went.reads, went.bytes) at (undos_on_bytes (turn_undos went.turn) (read_fits s h went.reads))

  -- the keys that went are m and its waiting list
  pub take_back_keys : {w w' : List ℕ} {x : ℕ} → WaitingList s m w 0 x w' → (n ≡ suc x) × ((k : Key) → In k (take n row') ↔ ((k ≡ m) ⊎ In k (take x w')))
  take_back_keys {w} {w'} {x} q = (many, same)
    where
      same : (k : Key) → In k (take n row') ↔ ((k ≡ m) ⊎ In k (take x w'))
      same k = let j = waiting_done q in let i = turn_holds went.pos went.has went.turn k in let e = reads_one s went.reads j.1 in
          ((λ c. ⊎_elim inl (λ z. inr ((j.4.1 k).1 ((chain_ends went.before z.1).1.0, rw e at z))) (i.0 c)), λ c. i.1 (⊎_elim inl (λ z. inr (rw e ((j.4.1 k).0 z).1)) c))

      many : n ≡ suc x
      many = let j = waiting_done q in
          let o : Once (m ∷ take x w') = ((λ i. ((j.4.1 m).0 i).1.0 refl), ascending_twice 0 (take x w') j.4.0) in
          omega (
            arith,
            went.count,
            waiting_count q,
            once_few (take n row') (m ∷ take x w') (turn_once went.turn) (λ k. (same k).0),
            once_few (m ∷ take x w') (take n row') o (λ k. (same k).1),
            distinct-length (take n row'),
            distinct-length (m ∷ take x w'),
          )
