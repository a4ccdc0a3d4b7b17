-- Taking back on bytes, computed: the keys go the least ready first, which is no order of size; and each refusal (02, [6]).
use mathlib.Core.Path.{◌≡◌, refl}
use mathlib.Core.List.{List, [], ◌∷◌}
use Prim.Native.Nat.{ℕ}
use native.Mathlib.Decide.{ℕ_discrete, dec_lt, dec_le}
use Rattle.ccsk.specs.Numbers.{in?, distinct}
use Rattle.ccsk.specs.Without.{without}
use Rattle.ccsk.specs.Term.{Key, labels, keys}
use Rattle.ccsk.specs.Decide.{channel?, co?, on?}
use Rattle.ccsk.proofs.Basic.{has?}
use Rattle.ccsk.proofs.Clear.{clear}
use Rattle.ccsk.proofs.Decide.{std?}
use Rattle.ccsk.proofs.UndoDec.{undo?}
use Rattle.sound.proofs.Chains.{chain?, through?}
use Rattle.sound.proofs.Peel.{acyclic?, peel, look, find, empty}
use Rattle.sound.proofs.Top.{above?, before?, ordered?, chained?}
use Rattle.sound.proofs.Decide.{verdict, waits?, chosen?, twice?, paired?, split?, hidden?, apart?, two?, keys?, each?}
use Rattle.format.specs.Read.{decode, read, node, kind_of, finish}
use Rattle.format.specs.Encode.{encode}
use Rattle.operations.specs.TakeBack.{TakeBack}
use Rattle.operations.proofs.Lists.{pass}
use Rattle.operations.proofs.RowOnce as Row
use Rattle.operations.proofs.Marked.{act, beside, one}
use Rattle.operations.proofs.InTurn.{ready, turn}
use Rattle.operations.proofs.TakeBackOnce.{goes?, goers, take_of, take_answer}
use Rattle.operations.proofs.TakeBackSome.{FitTaking, take_some}

-- an answer that is computed fits the promise
pub take_computed : {s b row row' : List ℕ} {m : Key} {r n : ℕ} → take_answer s m row ≡ (r, n, b, row') → TakeBack s m row r n b row'
take_computed {s} {b} {row} {row'} {m} {r} {n} e = let f : FitTaking s m row (r, n, b, row') = rw e at (take_some s m row) in f

-- a[2].(b[1].c[3].0 | d[4].0) | e[5].0
abbrev grown : List ℕ
grown = beside (act 1 2 (beside (act 2 1 (one 3 3)) (one 4 4))) (one 5 5)

-- a.(b.c.0 | d.0) | e[5].0
abbrev shrunk : List ℕ
shrunk = beside (act 1 0 (beside (act 2 0 (one 3 0)) (one 4 0))) (one 5 5)

pub taken_in_turn :
    -- with 2 go 3, then 1, which is ready then and less than 4, then 4, at last 2; 5 stays, and so does the row behind
    TakeBack grown 2 (9 ∷ (9 ∷ (9 ∷ (9 ∷ (9 ∷ []))))) 0 4 shrunk (3 ∷ (1 ∷ (4 ∷ (2 ∷ (9 ∷ [])))))
    -- a row of three is too short
    × TakeBack grown 2 (9 ∷ (9 ∷ (9 ∷ []))) 9 0 grown (9 ∷ (9 ∷ (9 ∷ [])))
    -- a[1].0 | a[1].0 has verdict 4
    × TakeBack (beside (one 1 1) (one 1 1)) 1 (9 ∷ []) 13 0 (beside (one 1 1) (one 1 1)) (9 ∷ [])
    -- key 7 stands nowhere, key 0 is none, and no bytes are no record
    × TakeBack (one 1 1) 7 (9 ∷ []) 7 0 (one 1 1) (9 ∷ [])
    × TakeBack (one 1 1) 0 (9 ∷ []) 3 0 (one 1 1) (9 ∷ [])
    × TakeBack [] 1 (9 ∷ []) 1 0 [] (9 ∷ [])
unfolding decode read node kind_of finish encode take_answer take_of goers goes? ready turn clear pass distinct in? undo? has? std? co? on? channel? verdict waits? chosen? twice? paired? split? hidden? apart? two? keys? each? ordered? acyclic? peel look find empty above? before? labels keys without dec_le ℕ_discrete dec_lt Row.waits? chained? chain? through?
taken_in_turn = (take_computed refl, take_computed refl, take_computed refl, take_computed refl, take_computed refl, take_computed refl)
