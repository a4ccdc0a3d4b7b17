-- Taking back a key with everything that stands on it (02, [6]).
use Rattle.std.specs.Prelude.{◌≡◌, ◌⊎◌, List, [], ◌∷◌, ◌++◌, ℕ, ◌<◌, ◌≤◌, length, drop}
use Rattle.ccsk.specs.Numbers.{Lists}
use Rattle.ccsk.specs.Term.{Term, Label, Key, Has, Fsh}
use Rattle.ccsk.specs.Step.{Undo, Undoable}
use Rattle.sound.specs.Sound.{Verdict}
use Rattle.format.specs.Read.{Reads, Refuses}
use Rattle.format.specs.Encode.{encode}
use Rattle.operations.specs.Order.{WaitsFor}

-- what goes with the key m: m itself, and the keys that it waits for
abbrev pub Goes : Term → Key → Key → Type 0
Goes t m k = (k ≡ m) ⊎ WaitsFor t m k

-- Of the keys that go, k is the least whose undo the rules allow in t. A key that has gone stands there no more, and has no undo.
pub record Next (goes : Key → Type 0) (t : Term) (k : Key) : Type 0 where
  pub still : goes k
  pub allowed : Undoable t k
  pub least : (j : Key) → goes j → Undoable t j → k ≤ j

-- undos of the keys ks from t to u, each time of the next key, until none that goes is left
pub data InTurn (goes : Key → Type 0) : List Key → Term → Term → Type 0 where
  all_gone : {t : Term} → ((k : Key) → goes k → Fsh k t) → InTurn goes [] t t
  then : {ks : List Key} {t u v : Term} {k : Key} {l : Label} → Next goes t k → Undo t k l u → InTurn goes ks u v → InTurn goes (k ∷ ks) t v

-- Take back the key m: refusal, how many keys went, the record's bytes and the row afterwards. The keys stand at the front of the row, in the
-- order of their undos, and what lies past them stays as it was (02, [6]).
pub data TakeBack (s : List ℕ) (m : Key) (row : List ℕ) : ℕ → ℕ → List ℕ → List ℕ → Type 0 where
  unreadable : {c : ℕ} → Refuses s c → TakeBack s m row c 0 s row
  key_zero : {t : Term} → Reads s t → m ≡ 0 → TakeBack s m row 3 0 s row
  not_sound : {t : Term} {v : ℕ} → Reads s t → 0 < m → Verdict t v → 0 < v → TakeBack s m row 13 0 s row
  key_absent : {t : Term} → Reads s t → 0 < m → Verdict t 0 → Fsh m t → TakeBack s m row 7 0 s row
  short : {t : Term} (l : List Key) → Reads s t → 0 < m → Verdict t 0 → Has m t → Lists (Goes t m) l → length row < length l → TakeBack s m row 9 0 s row
  done : {t u : Term} {ks : List Key} → Reads s t → 0 < m → Verdict t 0 → Has m t → InTurn (Goes t m) ks t u → length ks ≤ length row → TakeBack s m row 0 (length ks) (encode u) (ks ++ drop (length ks) row)
