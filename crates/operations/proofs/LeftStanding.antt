-- What taking back a key leaves, on bytes: a sound record with every other key where it was, from which forward steps lead back (02, [6]).
use mathlib.Core.Path.{◌≡◌, ap, ◌∙◌}
use mathlib.Core.Logic.{◌↔◌}
use mathlib.Core.List.{List}
use Prim.Native.Nat.{ℕ, ◌+◌, ◌<◌}
use native.Mathlib.Omega.{arith}
use lib.ListN.{take}
use Rattle.ccsk.specs.Numbers.{In, distinct}
use Rattle.ccsk.specs.Term.{Term, Key, Node, keys}
use Rattle.sound.specs.Sound.{sound}
use Rattle.sound.specs.Run.{Undos}
use Rattle.sound.proofs.Taken.{undos_left, undos_distinct, undos_sound, undos_again}
use Rattle.format.specs.Read.{Reads}
use Rattle.format.specs.Encode.{encode, Fits, Bytes}
use Rattle.format.proofs.Round.{decode-encode}
use Rattle.operations.specs.Ask.{KeyCount, Soundness}
use Rattle.operations.specs.Runs.{ForwardRun, KeyIn, HoldsAt}
use Rattle.operations.specs.TakeBack.{TakeBack}
use Rattle.operations.proofs.Readable.{reads_one, encode_read, read_fits}
use Rattle.operations.proofs.Kept.{encode_bytes, fits_undo}
use Rattle.operations.proofs.Reachable.{count_done, run_on_bytes}
use Rattle.operations.proofs.OtherPlaces.{undos_keep_places}
use Rattle.operations.proofs.InTurn.{turn_undos}
use Rattle.operations.proofs.TakenBack.{Went, take_done}

-- a run of undos keeps a term within the limits
undos_fit : {ks : List Key} {t u : Term} → Undos ks t u → Fits t → Fits u
undos_fit Undos.stay f = f
undos_fit (Undos.then d r) f = undos_fit r (fits_undo d f)

-- the record of a term within the limits is bytes, and is read as that term
written : {b : List ℕ} (t : Term) → Fits t → encode t ≡ b → Bytes b × Reads b t
written t f e = rw (← e) (encode_bytes t f.range, decode-encode t f)

module _ {s b row row' : List ℕ} {m : Key} {n : ℕ} (h : Bytes s) (a : TakeBack s m row 0 n b row') where
  w : Went s m row n b row'
  w = take_done a

  run : Undos (take n row') w.before w.later
  run = turn_undos w.turn

  after : Bytes b × Reads b w.later
  after = written w.later (undos_fit run (read_fits s h w.reads)) w.bytes

  -- what is left is bytes
  pub take_back_bytes : Bytes b
  take_back_bytes = after.0

  -- and sound
  pub take_back_sound : Soundness b 0 0
  take_back_sound = Soundness.done after.1 (sound (undos_sound run w.valid))

  -- its keys are those that did not go
  pub take_back_leaves : (k : Key) → KeyIn k b ↔ (KeyIn k s × ¬ In k (take n row'))
  take_back_leaves k = (
    λ i. let j = (undos_left k run i.2).0 (rw (reads_one b after.1 i.1) i.3) in ((w.before, w.reads, i.2, j.0), j.1),
    λ i. let j = i.0 in (w.later, after.1, j.2, (undos_left k run j.2).1 (rw (reads_one s w.reads j.1) j.3, i.1)),
  )

  -- and each of them stands where it stood
  pub take_back_keeps_places : {t u : Term} (k : Key) (p : Node) → Reads s t → Reads b u → 0 < k → ¬ In k (take n row') → HoldsAt k p t ↔ HoldsAt k p u
  take_back_keeps_places k p e f q g = rw (reads_one s w.reads e, reads_one b after.1 f) at (undos_keep_places k p run q g)

  -- as many keys less as the answer says
  pub take_back_count : {x y : ℕ} → KeyCount s 0 x → KeyCount b 0 y → x ≡ n + y
  take_back_count c d = let i = count_done c in let j = count_done d in
      omega (arith, undos_distinct run, w.count, ap (λ t. distinct (keys t)) (reads_one s w.reads i.1) ∙ i.2, ap (λ t. distinct (keys t)) (reads_one b after.1 j.1) ∙ j.2)

  -- forward steps make again what was taken back
  pub take_back_again : ForwardRun b s
  take_back_again = rw (encode_read s h w.reads, w.bytes) at (run_on_bytes (undos_again run) (read_fits s h w.reads))
