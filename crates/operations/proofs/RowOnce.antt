-- Undo listing and waiting list: for every input exactly one answer fits the promise, and it can be computed.
use mathlib.Core.Path.{◌≡◌, refl, sym}
use mathlib.Core.List.{List, ◌++◌}
use Prim.Native.Nat.{ℕ, ◌<◌, ◌≤◌}
use native.Mathlib.Decide.{ℕ_discrete, dec_le}
use native.Mathlib.Omega.{arith}
use lib.ListN.{length, drop}
use Rattle.ccsk.specs.Numbers.{In, Lists}
use Rattle.ccsk.specs.Term.{Term, Key, Has, keys}
use Rattle.ccsk.specs.Step.{Undoable}
use Rattle.ccsk.proofs.Basic.{has?, never}
use Rattle.ccsk.specs.Decide.{both}
use Rattle.ccsk.proofs.Decide.{isnt}
use Rattle.ccsk.proofs.Keys.{has_in}
use Rattle.ccsk.proofs.Undo.{present}
use Rattle.ccsk.proofs.UndoDec.{undo?}
use Rattle.sound.specs.Sound.{Before, one}
use Rattle.sound.proofs.Order.{chain_ends}
use Rattle.sound.proofs.Top.{chained?}
use Rattle.format.specs.Read.{Reads, decode, Opened, Opened.refused, opened}
use Rattle.operations.specs.Order.{WaitsFor}
use Rattle.operations.specs.Ask.{Filled, short, filled, UndoListing, WaitingList}
use Rattle.operations.proofs.Choose.{choose, choose_yes, choose_no, on_read, Answer, Fit, Same, same, positive}
use Rattle.operations.proofs.Lists.{pass, lists_once, lists_some}

-- a list in a lent row
unfoldable pub fill : List ℕ → List ℕ → Answer
fill l row = choose (dec_le (length l) (length row)) (0, length l, l ++ drop (length l) row) (9, 0, row)

pub fill_only : {l row row' : List ℕ} {r n : ℕ} → Filled l row r n row' → fill l row ≡ (r, n, row')
unfolding fill
fill_only {l} {row} (short h) = choose_no (dec_le (length l) (length row)) _ _ (λ g. omega arith)
fill_only {l} {row} (filled h) = choose_yes (dec_le (length l) (length row)) _ _ h

pub fill_some : (l row : List ℕ) → Fit (Filled l row) (fill l row)
unfolding fill
fill_some l row = pick (dec_le (length l) (length row))
  where
    pick : (d : Dec (length l ≤ length row)) → Fit (Filled l row) (choose d (0, length l, l ++ drop (length l) row) (9, 0, row))
    pick (yes h) = filled h
    pick (no h) = short (omega arith)

-- the keys whose undo is allowed
unfoldable pub undoables : Term → List Key
undoables t = pass (Undoable t) (undo? t) (keys t)

pub undoables_listed : (t : Term) → Lists (Undoable t) (undoables t)
unfolding undoables
undoables_listed t = lists_some (Undoable t) (undo? t) (keys t) (λ k h w. has_in k t h (present w.2))

unfoldable pub listing_answer : List ℕ → List ℕ → Answer
listing_answer s row = on_read (decode s) (λ c. (c, 0, row)) (λ t. fill (undoables t) row)

pub listing_only : {s row row' : List ℕ} {r n : ℕ} → UndoListing s row r n row' → listing_answer s row ≡ (r, n, row')
unfolding listing_answer
listing_only (UndoListing.unreadable e) = rw e
listing_only (UndoListing.done {t = t} {l = x} e l f) = rw (e, lists_once (Undoable t) (undoables t) x (undoables_listed t) l) (fill_only f)

pub listing_some : (s row : List ℕ) → Fit (UndoListing s row) (listing_answer s row)
unfolding listing_answer
listing_some s row = read (decode s) refl
  where
    read : (o : Opened) → decode s ≡ o → Fit (UndoListing s row) (on_read o (λ c. (c, 0, row)) (λ t. fill (undoables t) row))
    read (refused c) e = UndoListing.unreadable e
    read (opened t) e = UndoListing.done e (undoables_listed t) (fill_some (undoables t) row)

-- only one answer fits the promise of the undo listing
pub listing_once : {s row row' row'' : List ℕ} {r r' n n' : ℕ} → UndoListing s row r n row' → UndoListing s row r' n' row'' → Same (r, n, row') (r', n', row'')
listing_once d e = same (listing_only d) (listing_only e)

-- whether m waits for n, with the reason
unfoldable pub waits? : (t : Term) (m n : Key) → Dec (WaitsFor t m n)
waits? t m n = both (isnt (ℕ_discrete n m)) (chained? t m n)

-- one link: m waits for every other key below a prefix that holds it
pub link_waits : (t : Term) (m n : Key) → Before t m n → WaitsFor t m n
link_waits t m n b = ((λ e. b.2 (sym e)), one b)

-- what m waits for is a key of the term
pub waits_key : (t : Term) (m k : Key) → 0 < k → WaitsFor t m k → In k (keys t)
waits_key t m k h w = has_in k t h (chain_ends t w.1).1.1

-- the keys that m waits for
unfoldable pub awaited : Term → Key → List Key
awaited t m = pass (WaitsFor t m) (waits? t m) (keys t)

awaited_listed : (t : Term) (m : Key) → Lists (WaitsFor t m) (awaited t m)
unfolding awaited
awaited_listed t m = lists_some (WaitsFor t m) (waits? t m) (keys t) (waits_key t m)

unfoldable pub waiting_of : Key → List ℕ → Term → Answer
waiting_of m row t = choose (ℕ_discrete m 0) (3, 0, row) (choose (has? m t) (fill (awaited t m) row) (7, 0, row))

unfoldable pub waiting_answer : List ℕ → Key → List ℕ → Answer
waiting_answer s m row = on_read (decode s) (λ c. (c, 0, row)) (waiting_of m row)

pub waiting_only : {s row row' : List ℕ} {m : Key} {r n : ℕ} → WaitingList s m row r n row' → waiting_answer s m row ≡ (r, n, row')
unfolding waiting_answer waiting_of
waiting_only (WaitingList.unreadable e) = rw e
waiting_only {m = m} (WaitingList.key_zero e z) = rw (e, choose_yes (ℕ_discrete m 0) _ _ z)
waiting_only {m = m} (WaitingList.key_absent {t = t} e h f) = rw (e, choose_no (ℕ_discrete m 0) _ _ (never h), choose_no (has? m t) _ _ f)
waiting_only {m = m} (WaitingList.done {t = t} {l = x} e h i l f) =
    rw (e, choose_no (ℕ_discrete m 0) _ _ (never h), choose_yes (has? m t) _ _ i, lists_once (WaitsFor t m) (awaited t m) x (awaited_listed t m) l) (fill_only f)

pub waiting_some : (s : List ℕ) (m : Key) (row : List ℕ) → Fit (WaitingList s m row) (waiting_answer s m row)
unfolding waiting_answer waiting_of
waiting_some s m row = read (decode s) refl
  where
    tests : (t : Term) → Reads s t → (a : Dec (m ≡ 0)) (b : Dec (Has m t)) → Fit (WaitingList s m row) (choose a (3, 0, row) (choose b (fill (awaited t m) row) (7, 0, row)))
    tests t e (yes z) b = WaitingList.key_zero e z
    tests t e (no z) (no b) = WaitingList.key_absent e (positive m z) b
    tests t e (no z) (yes b) = WaitingList.done e (positive m z) b (awaited_listed t m) (fill_some (awaited t m) row)

    read : (o : Opened) → decode s ≡ o → Fit (WaitingList s m row) (on_read o (λ c. (c, 0, row)) (waiting_of m row))
    read (refused c) e = WaitingList.unreadable e
    read (opened t) e = tests t e (ℕ_discrete m 0) (has? m t)

-- only one answer fits the promise of the waiting list
pub waiting_once : {s row row' row'' : List ℕ} {m : Key} {r r' n n' : ℕ} → WaitingList s m row r n row' → WaitingList s m row r' n' row'' → Same (r, n, row') (r', n', row'')
waiting_once d e = same (waiting_only d) (waiting_only e)
