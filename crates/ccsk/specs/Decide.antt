-- Tests for the relations between labels: each answers that the relation holds or that it does not, with the reason.
use Rattle.std.specs.Prelude.{◌+◌}
use Rattle.std.proofs.Math.Decide.{ℕ_discrete, dec_le}
use Rattle.ccsk.specs.Numbers.{either}
use Rattle.ccsk.specs.Term.{Name, Label, Channel, Co, On}

-- both of two statements hold
abbrev pub both : {A B : Type 0} → Dec A → Dec B → Dec (A × B)
both (yes a) (yes b) = yes (a, b)
both (yes a) (no b) = no (λ p. b p.1)
both (no a) d = no (λ p. a p.0)

-- the number names a channel (01, The record: actions)
unfoldable pub channel? : (a : Name) → Dec (Channel a)
channel? a = both (dec_le 1 a) (dec_le a 127)

-- the labels are a name and its co-name (01, The record: actions)
unfoldable pub co? : (l k : Label) → Dec (Co l k)
co? l k = either (both (channel? l) (ℕ_discrete k (l + 128))) (both (channel? k) (ℕ_discrete l (k + 128)))

-- a restriction on a stops the label (000, Fig. 2, restriction)
unfoldable pub on? : (a : Name) (l : Label) → Dec (On a l)
on? a l = both (channel? a) (either (ℕ_discrete l a) (ℕ_discrete l (a + 128)))
