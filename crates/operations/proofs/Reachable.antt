-- Demand 3 on bytes: sound is reachable from the blank form by allowed steps, and undoing leads back there in as many undos as there are keys.
-- Undos take back the keys that a key waits for first (02, [5]).
use mathlib.Core.Path.{◌≡◌, refl, ap, sym, ◌∙◌}
use mathlib.Core.Logic.{◌⊎◌, inl, inr, ◌↔◌}
use mathlib.Core.List.{List, [], ◌∷◌, ◌++◌}
use Prim.Native.Nat.{ℕ, suc, ◌<◌, ◌≤◌}
use native.Mathlib.Omega.{arith}
use lib.ListN.{length, take, drop}
use lib.Seq.{take-append_seam}
use Rattle.ccsk.specs.Numbers.{In, distinct, Lists}
use Rattle.ccsk.specs.Term.{Term, Label, Key, Node, Std, Has, keys, blank}
use Rattle.ccsk.specs.Step.{Forward, Undo}
use Rattle.ccsk.proofs.Loop.{undo_of_forward}
use Rattle.ccsk.proofs.Undo.{key_pos, present}
use Rattle.ccsk.proofs.Keys.{std_keys}
use Rattle.ccsk.proofs.Place.{step_placed}
use Rattle.sound.specs.Sound.{Sound, sound}
use Rattle.sound.specs.Run.{Run, Undos}
use Rattle.sound.proofs.Kept.{sound_undo, sound_redo}
use Rattle.sound.proofs.Order.{no_chain}
use Rattle.sound.proofs.Derive.{UndoWith, Last}
use Rattle.sound.proofs.Reach.{undo_last, undo_some, sound_iff_reachable, undos_end, waits_go_first}
use Rattle.format.specs.Read.{Reads}
use Rattle.format.specs.Encode.{encode, Fits, Bytes}
use Rattle.format.proofs.Round.{decode-encode}
use Rattle.operations.specs.Order.{WaitsFor}
use Rattle.operations.specs.Change.{ForwardStep, UndoStep, BlankForm}
use Rattle.operations.specs.Ask.{KeyCount, Filled, short, filled, WaitingList, Soundness}
use Rattle.operations.specs.Runs.{ForwardRun, UndoRun, NoUndo}
use Rattle.operations.proofs.RowOnce.{link_waits}
use Rattle.operations.proofs.Readable.{not_refused_zero, reads_one, encode_read, read_fits}
use Rattle.operations.proofs.Kept.{fits_blank, fits_undo, fits_forward, range_key}
use Rattle.operations.proofs.Reversible.{forward_done, forward_readable, forward_makes, as_pair, undo_done, undo_readable, blank_done, blank_makes}

-- what verdict 0 comes from
pub sound_done : {s : List ℕ} → Soundness s 0 0 → (t : Term) × Reads s t × Sound t
sound_done {s} (Soundness.unreadable e) = not_refused_zero s e
sound_done (Soundness.done {t = t} e (sound i)) = (t, e, i)

pub count_done : {s : List ℕ} {n : ℕ} → KeyCount s 0 n → (t : Term) × Reads s t × (distinct (keys t) ≡ n)
count_done {s} (KeyCount.unreadable e) = not_refused_zero s e
count_done (KeyCount.done {t = t} e) = (t, e, refl)

count_makes : {s : List ℕ} {t : Term} (n : ℕ) → Reads s t → distinct (keys t) ≡ n → KeyCount s 0 n
count_makes n e f = rw (← f) (KeyCount.done e)

-- the record of a term within the limits is read as that term
read_back : {b : List ℕ} (t : Term) → Fits t → encode t ≡ b → Reads b t
read_back t f e = rw (← e) (decode-encode t f)

-- a run on terms is a run on their records
pub run_on_bytes : {t u : Term} → Run t u → Fits u → ForwardRun (encode t) (encode u)
run_on_bytes Run.stay f = ForwardRun.stay
run_on_bytes (Run.then {u = u} {v = v} {m = m} r d) f =
    let b = undo_of_forward d in let g = fits_undo b f in let i = as_pair (step_placed d) in
    ForwardRun.then (run_on_bytes r g) (range_key m v f.range (present b)) (forward_makes (encode v) i.0 i.1 (decode-encode u g) d i.2 refl)

-- and the other way round
record Ran (u : Term) (s : List ℕ) : Type 0 where
  end : Term
  reads : Reads s end
  fits : Fits end
  run : Run u end

run_on_terms : {b s : List ℕ} (u : Term) → ForwardRun b s → Reads b u → Fits u → Ran u s
run_on_terms u ForwardRun.stay e f = record { end = u; reads = e; fits = f; run = Run.stay }
run_on_terms u (ForwardRun.then {b = c} {m = m} {l = l} r k a) e f =
    let i = run_on_terms u r e f in let d = forward_done a in
    let w : Forward i.end m l d.later = rw (reads_one c i.reads d.reads) d.step in let g = fits_forward w k i.fits in
    record { end = d.later; reads = read_back d.later g d.bytes; fits = g; run = Run.then i.run w }

-- a record is sound exactly if allowed forward steps lead to its bytes from those of its blank form
pub sound_iff_reached : {s : List ℕ} → Bytes s → Soundness s 0 0 ↔ ((n : ℕ) × (b : List ℕ) × BlankForm s 0 n b × ForwardRun b s)
sound_iff_reached {s} h = (there, back)
  where
    there : Soundness s 0 0 → (n : ℕ) × (b : List ℕ) × BlankForm s 0 n b × ForwardRun b s
    there a = let i = sound_done a in let t = i.0 in
        (distinct (keys t), encode (blank t), BlankForm.done i.1, rw (encode_read s h i.1) at (run_on_bytes ((sound_iff_reachable t).0 i.2) (read_fits s h i.1)))

    back : (n : ℕ) × (b : List ℕ) × BlankForm s 0 n b × ForwardRun b s → Soundness s 0 0
    back a = let i = blank_done a.2 in let t = i.0 in let f = fits_blank t (read_fits s h i.1) in
        let r = run_on_terms (blank t) a.3 (read_back (blank t) f i.3) f in
        let w : Run (blank t) t = rw (reads_one s r.reads i.1) at r.run in
        Soundness.done i.1 (sound ((sound_iff_reachable t).1 w))

-- in a sound record with keys some undo is allowed
pub sound_has_undo : {s : List ℕ} {n : ℕ} → Soundness s 0 0 → KeyCount s 0 (suc n) → (m : Key) × (l : Label) × (b : List ℕ) × UndoStep s m 0 l b
unfolding distinct
sound_has_undo {s} {n} a c = let i = sound_done a in let j = count_done c in pick i.0 i.1 (rw (reads_one s i.1 j.1) j.2) (undo_some i.0 i.2)
  where
    pick : (t : Term) → Reads s t → distinct (keys t) ≡ suc n → Std t ⊎ ((m : Key) × (l : Label) × UndoWith t m l) → (m : Key) × (l : Label) × (b : List ℕ) × UndoStep s m 0 l b
    pick t e q (inl x) = let z : 0 ≡ suc n = rw (std_keys t x) at q in absurd (omega arith)
    pick t e q (inr d) = (d.0, d.1, encode d.2.0, UndoStep.done e d.2.1)

-- every allowed undo and every allowed forward step keeps verdict 0
pub undo_keeps_sound : {s b : List ℕ} {m : Key} {l : Label} → Bytes s → Soundness s 0 0 → UndoStep s m 0 l b → Soundness b 0 0
undo_keeps_sound {s} h a u = let i = sound_done a in let d = undo_done u in
    Soundness.done (undo_readable d h).1 (sound (sound_undo d.step (rw (reads_one s d.reads i.1) i.2)))

pub forward_keeps_sound : {s b : List ℕ} {p q : Node} {m : Key} {l : Label} → Bytes s → m ≤ 65535 → Soundness s 0 0 → ForwardStep s p q m 0 l b → Soundness b 0 0
forward_keeps_sound {s} h k a f = let i = sound_done a in let d = forward_done f in
    Soundness.done (forward_readable d h k).1 (sound (sound_redo (undo_of_forward d.step) (rw (reads_one s d.reads i.1) i.2)))

-- undos on bytes are undos on terms
pub record Back (ks : List Key) (t : Term) (b : List ℕ) : Type 0 where
  pub end : Term
  pub reads : Reads b end
  pub bytes : encode end ≡ b
  pub run : Undos ks t end

pub undos_on_terms : {ks : List Key} {s b : List ℕ} (t : Term) → UndoRun ks s b → Bytes s → Reads s t → Back ks t b
undos_on_terms t (UndoRun.stay {s = s}) h e = record { end = t; reads = e; bytes = encode_read s h e; run = Undos.stay }
undos_on_terms t (UndoRun.then {s = s} {m = m} {l = l} a r) h e =
    let d = undo_done a in let i = undo_readable d h in let w : Undo t m l d.later = rw (reads_one s e d.reads) d.step in
    let j = undos_on_terms d.later r i.0 i.1 in
    record { end = j.end; reads = j.reads; bytes = j.bytes; run = Undos.then w j.run }

-- undos carried on from a sound record until none is allowed: as many as there are keys, and they end at the blank form's bytes
pub undo_run_ends : {ks : List Key} {s b : List ℕ} → Bytes s → Soundness s 0 0 → UndoRun ks s b → NoUndo b → KeyCount s 0 (length ks) × BlankForm s 0 (length ks) b
undo_run_ends {ks} {s} {b} h a r f =
    let i = sound_done a in let j = undos_on_terms i.0 r h i.1 in
    let z = undos_end j.run i.2 (λ m l v d. f m l (encode v) (UndoStep.done j.reads d)) in
    (count_makes (length ks) i.1 (sym z.0), blank_makes (length ks) b i.1 (sym z.0) (ap encode (sym z.1) ∙ j.bytes))

-- the front of a row that took a list is the list
pub filled_front : {x row row' : List ℕ} {r n : ℕ} → Filled x row r n row' → r ≡ 0 → take n row' ≡ x
filled_front (short h) e = absurd (omega arith)
filled_front {x} {row} (filled h) e = take-append_seam x (drop (length x) row)

-- what a waiting list comes from
pub waiting_done : {s row row' : List ℕ} {m : Key} {x : ℕ} → WaitingList s m row 0 x row' → (t : Term) × Reads s t × (0 < m) × Has m t × Lists (WaitsFor t m) (take x row')
waiting_done {s} (WaitingList.unreadable e) = not_refused_zero s e
waiting_done (WaitingList.done {t = t} e h i l f) = (t, e, h, i, rw (filled_front f refl) l)

undo_makes_one : {s : List ℕ} {t : Term} {m : Key} → Reads s t → (l : Label) × UndoWith t m l → (l : Label) × (b : List ℕ) × UndoStep s m 0 l b
undo_makes_one e r = (r.0, encode r.1.0, UndoStep.done e r.1.1)

-- in a sound record an undo is allowed exactly if its key stands there and waits for no other
pub undo_iff_waits_for_none : {s : List ℕ} {m : Key} → Soundness s 0 0 → ((l : Label) × (b : List ℕ) × UndoStep s m 0 l b) ↔ WaitingList s m [] 0 0 []
undo_iff_waits_for_none {s} {m} a = (there, back)
  where
    there : (l : Label) × (b : List ℕ) × UndoStep s m 0 l b → WaitingList s m [] 0 0 []
    there u = let d = undo_done u.2 in
        WaitingList.done {l = []} d.reads (key_pos d.step) (present d.step) (tt, λ n. ((λ i. absurd i), λ h. no_chain d.step h.1.1)) (filled (omega arith))

    back : WaitingList s m [] 0 0 [] → (l : Label) × (b : List ℕ) × UndoStep s m 0 l b
    back w = let j = waiting_done w in let i = sound_done a in
        let none : Last m j.0 = λ n p g a. (j.4.1 n).1 (p, link_waits j.0 m n (j.2, p, (λ q. g (sym q)), a)) in
        undo_makes_one j.1 (undo_last j.0 m (rw (reads_one s j.1 i.1) i.2) j.2 j.3 none)

-- What the waiting list is for: a run of allowed undos that takes back m takes back every key of its list before it takes back m.
-- It holds in every readable record, sound ones included.
pub list_goes_first : {s c row row' : List ℕ} {m : Key} {x : ℕ} (ks js : List Key) → Bytes s → WaitingList s m row 0 x row' → UndoRun (ks ++ (m ∷ js)) s c → (n : Key) → In n (take x row') → In n ks
list_goes_first ks js h w r n i = let j = waiting_done w in waits_go_first ks js (undos_on_terms j.0 r h j.1).run ((j.4.1 n).0 i).1.1
