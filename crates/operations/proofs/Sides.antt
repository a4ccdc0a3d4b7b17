-- Examples on both sides of each constant: the last names and co-names, both sides of a restriction, the limits of the record, the ends of keys, places and rows.
use mathlib.Core.Path.{◌≡◌, refl}
use mathlib.Core.List.{List, [], ◌∷◌}
use Prim.Native.Nat.{ℕ, zero, suc}
use native.Mathlib.Decide.{ℕ_discrete, dec_lt, dec_le}
use Rattle.ccsk.specs.Numbers.{in?, distinct}
use Rattle.ccsk.specs.Without.{without}
use Rattle.ccsk.specs.Term.{Label, Key, Node, labels, keys, size}
use Rattle.ccsk.specs.Place.{shift, places}
use Rattle.ccsk.proofs.Basic.{has?}
use Rattle.ccsk.specs.Decide.{channel?, co?, on?}
use Rattle.ccsk.proofs.Decide.{std?}
use Rattle.ccsk.proofs.ForwardDec.{forward?, do_zero, do_pre, do_cho, do_par, do_res, below?, unshift, zero?}
use Rattle.ccsk.proofs.UndoDec.{undo?}
use Rattle.sound.proofs.Chains.{chain?, through?}
use Rattle.sound.proofs.Peel.{acyclic?, peel, look, find, empty}
use Rattle.sound.proofs.Top.{above?, before?, ordered?, chained?}
use Rattle.sound.proofs.Decide.{verdict, waits?, chosen?, twice?, paired?, split?, hidden?, apart?, two?, keys?, each?}
use Rattle.format.specs.Read.{decode, read, node, kind_of, finish}
use Rattle.format.specs.Encode.{encode}
use Rattle.operations.specs.Change.{ForwardStep, UndoStep}
use Rattle.operations.specs.Ask.{ReadRecord, KeyCount, FreeKey, FirstStep, UndoListing, WaitingList, Soundness}
use Rattle.operations.proofs.Choose.{Fit}
use Rattle.operations.proofs.Places.{places?, prefix?}
use Rattle.operations.proofs.Lists.{pass, least_free_key}
use Rattle.operations.proofs.ChangeOnce.{forward_answer, forward_of, undo_answer, undo_of}
use Rattle.operations.proofs.NumberOnce.{FitNumber, sound_answer, read_answer, read_some, count_answer, count_some, free_answer, free_some}
use Rattle.operations.proofs.Search.{search_up, least?, row?, first?}
use Rattle.operations.proofs.FirstOnce.{FitFound, first_answer, first_some, free, search}
use Rattle.operations.proofs.RowOnce.{fill, undoables, listing_answer, listing_some, awaited, waiting_of, waiting_answer, waiting_some}
use Rattle.operations.proofs.RowOnce as Row
use Rattle.operations.proofs.Marked.{forward_computed, undo_computed, sound_computed, stop, act, beside, under, one}

pub read_computed : {s : List ℕ} {r n : ℕ} → read_answer s ≡ (r, n) → ReadRecord s r n
read_computed {s} {r} {n} e = let f : FitNumber (ReadRecord s) (r, n) = rw e at (read_some s) in f

pub count_computed : {s : List ℕ} {r n : ℕ} → count_answer s ≡ (r, n) → KeyCount s r n
count_computed {s} {r} {n} e = let f : FitNumber (KeyCount s) (r, n) = rw e at (count_some s) in f

pub free_computed : {s : List ℕ} {r : ℕ} {k : Key} → free_answer s ≡ (r, k) → FreeKey s r k
free_computed {s} {r} {k} e = let f : FitNumber (FreeKey s) (r, k) = rw e at (free_some s) in f

pub first_computed : {s : List ℕ} {p q p' q' : Node} {r n : ℕ} {l : Label} → first_answer s p q ≡ (r, n, p', q', l) → FirstStep s p q r n p' q' l
first_computed {s} {p} {q} {p'} {q'} {r} {n} {l} e = let f : FitFound (FirstStep s p q) (r, n, p', q', l) = rw e at (first_some s p q) in f

pub listing_computed : {s row row' : List ℕ} {r n : ℕ} → listing_answer s row ≡ (r, n, row') → UndoListing s row r n row'
listing_computed {s} {row} {row'} {r} {n} e = let f : Fit (UndoListing s row) (r, n, row') = rw e at (listing_some s row) in f

pub waiting_computed : {s row row' : List ℕ} {m : Key} {r n : ℕ} → waiting_answer s m row ≡ (r, n, row') → WaitingList s m row r n row'
waiting_computed {s} {row} {row'} {m} {r} {n} e = let f : Fit (WaitingList s m row) (r, n, row') = rw e at (waiting_some s m row) in f

-- a.0 | b.0 under a restriction on c, and the same with key 1 on both
abbrev pair_under : Label → Label → Label → Key → List ℕ
pair_under c a b k = under c (beside (one a k) (one b k))

pub sides_of_names :
    -- a'.0 is stopped by a restriction on a as a.0 is; b.0 is not
    ForwardStep (pair_under 1 1 129 0) 4 0 1 6 0 (pair_under 1 1 129 0)
    × ForwardStep (pair_under 1 1 2 0) 4 0 1 0 2 (under 1 (beside (one 1 0) (one 2 1)))
    × Soundness (under 1 (one 129 1)) 0 6
    × Soundness (under 1 (one 2 1)) 0 0
    × Soundness (pair_under 1 1 129 1) 0 0
    -- the last name 127 has the co-name 255
    × ForwardStep (pair_under 127 127 255 0) 2 4 1 0 0 (pair_under 127 127 255 1)
    × ForwardStep (pair_under 127 127 255 0) 4 0 1 6 0 (pair_under 127 127 255 0)
    × ForwardStep (pair_under 127 127 254 0) 2 4 1 6 0 (pair_under 127 127 254 0)
    × UndoStep (pair_under 127 127 255 1) 1 0 0 (pair_under 127 127 255 0)
    × Soundness (under 127 (one 255 1)) 0 6
    × Soundness (under 126 (one 255 1)) 0 0
    -- actions 127 and 129 are read, 128 is not; restriction names 1 and 127 are read, 0 and 128 are not
    × ReadRecord (one 127 0) 0 2
    × ReadRecord (one 128 0) 1 0
    × ReadRecord (one 129 0) 0 2
    × ReadRecord (one 255 0) 0 2
    × ReadRecord (under 0 stop) 1 0
    × ReadRecord (under 1 stop) 0 2
    × ReadRecord (under 127 stop) 0 2
    × ReadRecord (under 128 stop) 1 0
unfolding decode read node kind_of finish encode read_answer forward_answer forward_of undo_answer undo_of sound_answer places? prefix? forward? do_zero do_pre do_cho do_par do_res below? unshift zero? size shift places undo? has? std? co? on? channel? verdict waits? chosen? twice? paired? split? hidden? apart? two? keys? each? ordered? acyclic? peel look find empty above? before? labels keys without dec_le ℕ_discrete dec_lt
sides_of_names = (
  forward_computed refl,
  forward_computed refl,
  sound_computed refl,
  sound_computed refl,
  sound_computed refl,
  forward_computed refl,
  forward_computed refl,
  forward_computed refl,
  undo_computed refl,
  sound_computed refl,
  sound_computed refl,
  read_computed refl,
  read_computed refl,
  read_computed refl,
  read_computed refl,
  read_computed refl,
  read_computed refl,
  read_computed refl,
  read_computed refl,
)

-- a[1].b[2].0 | b'[2].c[3].0
abbrev chained : List ℕ
chained = beside (act 1 1 (one 2 2)) (act 130 2 (one 3 3))

-- a[1].b'[2].0 | b[2].a'[1].0
abbrev circle : List ℕ
circle = beside (act 1 1 (one 130 2)) (act 2 2 (one 129 1))

pub sides_of_keys_and_places :
    -- key 65,535 is taken, 0 is refused 3, and 3 comes before 4
    ForwardStep (one 1 0) 0 0 65535 0 1 (1 ∷ (1 ∷ (255 ∷ (255 ∷ stop))))
    × ForwardStep (one 1 0) 0 0 0 3 0 (one 1 0)
    × ForwardStep (one 1 0) 1 0 0 3 0 (one 1 0)
    × UndoStep (one 1 1) 0 3 0 (one 1 1)
    × UndoStep (one 1 1) 2 7 0 (one 1 1)
    -- node 0 of a.0 | a'.0 is no prefix, 2 is none, 5 is no node; places must ascend; 4 comes before 5
    × ForwardStep (beside (one 1 0) (one 129 1)) 0 0 1 4 0 (beside (one 1 0) (one 129 1))
    × ForwardStep (beside (one 1 0) (one 129 0)) 2 0 1 4 0 (beside (one 1 0) (one 129 0))
    × ForwardStep (beside (one 1 0) (one 129 0)) 5 0 1 4 0 (beside (one 1 0) (one 129 0))
    × ForwardStep (beside (one 1 0) (one 129 0)) 3 1 1 4 0 (beside (one 1 0) (one 129 0))
    × ForwardStep (beside (one 1 0) (one 129 0)) 1 1 1 4 0 (beside (one 1 0) (one 129 0))
    × ForwardStep (beside (one 1 0) (one 129 0)) 1 3 1 0 0 (beside (one 1 1) (one 129 1))
    -- three of a key: verdict 3
    × Soundness (beside (one 1 1) (beside (one 1 1) (one 129 1))) 0 3
    -- two steps shared in the same order: sound
    × Soundness (beside (act 1 1 (one 2 2)) (act 129 1 (one 130 2))) 0 0
    × KeyCount (beside (act 1 1 (one 2 2)) (act 129 1 (one 130 2))) 0 2
    -- waiting list of 1 in a[1].b[2].0: 2; of 2: empty, also with a row of length 0
    × WaitingList (act 1 1 (one 2 2)) 1 (7 ∷ (8 ∷ [])) 0 1 (2 ∷ (8 ∷ []))
    × WaitingList (act 1 1 (one 2 2)) 1 [] 9 0 []
    × WaitingList (act 1 1 (one 2 2)) 2 [] 0 0 []
    × WaitingList (act 1 1 (one 2 2)) 3 [] 7 0 []
    -- a chain leads from 1 through 2 to 3 (02, [5])
    × WaitingList chained 1 (7 ∷ (8 ∷ (9 ∷ []))) 0 2 (2 ∷ (3 ∷ (9 ∷ [])))
    × WaitingList chained 1 (7 ∷ []) 9 0 (7 ∷ [])
    × WaitingList chained 2 (7 ∷ (8 ∷ [])) 0 1 (3 ∷ (8 ∷ []))
    × WaitingList chained 3 [] 0 0 []
    -- a chain leads from each key back to it, and no key is on its own list
    × Soundness circle 0 7
    × WaitingList circle 1 (7 ∷ (8 ∷ [])) 0 1 (2 ∷ (8 ∷ []))
    × WaitingList circle 2 (7 ∷ (8 ∷ [])) 0 1 (1 ∷ (8 ∷ []))
    -- undo listing of a[2].0 | b[1].0: 1, 2
    × UndoListing (beside (one 1 2) (one 2 1)) (7 ∷ (8 ∷ (9 ∷ []))) 0 2 (1 ∷ (2 ∷ (9 ∷ [])))
    × UndoListing (beside (one 1 2) (one 2 1)) (7 ∷ []) 9 0 (7 ∷ [])
unfolding decode read node kind_of finish encode count_answer distinct in? forward_answer forward_of undo_answer undo_of sound_answer places? prefix? forward? do_zero do_pre do_cho do_par do_res below? unshift zero? size shift places undo? has? std? co? on? channel? verdict waits? chosen? twice? paired? split? hidden? apart? two? keys? each? ordered? acyclic? peel look find empty above? before? labels keys without dec_le ℕ_discrete dec_lt pass fill undoables listing_answer awaited waiting_of waiting_answer Row.waits? chained? chain? through?
sides_of_keys_and_places = (
  forward_computed refl,
  forward_computed refl,
  forward_computed refl,
  undo_computed refl,
  undo_computed refl,
  forward_computed refl,
  forward_computed refl,
  forward_computed refl,
  forward_computed refl,
  forward_computed refl,
  forward_computed refl,
  sound_computed refl,
  sound_computed refl,
  count_computed refl,
  waiting_computed refl,
  waiting_computed refl,
  waiting_computed refl,
  waiting_computed refl,
  waiting_computed refl,
  waiting_computed refl,
  waiting_computed refl,
  waiting_computed refl,
  sound_computed refl,
  waiting_computed refl,
  waiting_computed refl,
  listing_computed refl,
  listing_computed refl,
)

-- a.0 | a'.0, with its three steps (01, the listing)
pub sides_of_search :
    FirstStep (beside (one 1 0) (one 129 0)) 0 0 0 1 1 0 1
    × FirstStep (beside (one 1 0) (one 129 0)) 1 0 0 1 1 0 1
    × FirstStep (beside (one 1 0) (one 129 0)) 1 1 0 1 1 3 0
    × FirstStep (beside (one 1 0) (one 129 0)) 1 3 0 1 1 3 0
    × FirstStep (beside (one 1 0) (one 129 0)) 1 4 0 1 3 0 129
    × FirstStep (beside (one 1 0) (one 129 0)) 3 1 0 0 0 0 0
    × FirstStep (beside (one 1 0) (one 129 0)) 65535 65535 0 0 0 0 0
    × FirstStep (beside (one 1 1) (one 129 1)) 0 0 0 0 0 0 0
    × FreeKey (beside (one 1 0) (one 129 0)) 0 1
    × FreeKey (beside (one 1 1) (one 129 1)) 0 2
    × FreeKey (beside (one 1 2) (one 129 3)) 0 1
unfolding decode read node kind_of finish encode first_answer free_answer free search first? row? least? search_up least_free_key distinct in? forward? do_zero do_pre do_cho do_par do_res below? unshift zero? size shift places has? std? co? on? channel? keys dec_le ℕ_discrete dec_lt
sides_of_search = (first_computed refl, first_computed refl, first_computed refl, first_computed refl, first_computed refl, first_computed refl, first_computed refl, first_computed refl, free_computed refl, free_computed refl, free_computed refl)

-- n prefixes a, and then X
unfoldable pub prefixes : ℕ → List ℕ → List ℕ
prefixes zero x = x
prefixes (suc n) x = act 1 0 (prefixes n x)

-- X | X of X, n times over from 0
unfoldable pub doubled : ℕ → List ℕ
doubled zero = stop
doubled (suc n) = beside (doubled n) (doubled n)

pub sides_of_limits :
    -- no bytes, bytes cut short, bytes after the term
    ReadRecord [] 1 0
    × ReadRecord (1 ∷ (1 ∷ (0 ∷ []))) 1 0
    × ReadRecord (0 ∷ (0 ∷ [])) 1 0
    -- depth 256 is read, 257 is not
    × ReadRecord (prefixes 255 stop) 0 256
    × ReadRecord (prefixes 256 stop) 2 0
    -- 4,096 nodes are read, 4,097 are not
    × ReadRecord (prefixes 1 (doubled 11)) 0 4096
    × ReadRecord (prefixes 2 (doubled 11)) 2 0
    -- the first offence decides: bytes ended at depth 257
    × ReadRecord (prefixes 256 []) 1 0
unfolding decode read node kind_of finish read_answer size prefixes doubled
sides_of_limits = (read_computed refl, read_computed refl, read_computed refl, read_computed refl, read_computed refl, read_computed refl, read_computed refl, read_computed refl)
