-- The tests on entries do not depend on what the keys are called: new names that keep keys apart change no answer.
use mathlib.Core.Path.{◌≡◌, refl, sym, ap, ◌∙◌}
use mathlib.Core.Logic.{◌⊎◌, inl, inr, ⊎_elim, ◌↔◌}
use mathlib.Core.List.{List, [], ◌∷◌, ◌++◌}
use Prim.Native.Nat.{ℕ, zero, suc, ◌+◌, ◌<◌}
use native.Mathlib.Decide.{ℕ_discrete}
use native.Mathlib.Omega.{arith}
use lib.ListN.{length}
use Rattle.ccsk.specs.Numbers.{In, in?}
use Rattle.ccsk.specs.Term.{Term, nil, pre, cho, par, res, size}
use Rattle.ccsk.proofs.Lists.{in_left, in_right}
use Rattle.ccsk.proofs.Basic.{never}
use Rattle.sound.specs.Sound.{Chain, one, more}
use Rattle.causes.specs.Entry.{Entry, Scopes, under, open_scopes, marked, entries, all, only}
use Rattle.causes.specs.Tests.{EachKey, AtMostTwo, Complements, Beside, Enclosed, Leads, Acyclic}
use Rattle.causes.specs.Links.{key_column, up_column, Linked, NoCycle, renamed}
use Rattle.causes.proofs.Entries.{only_same, only_other}
use Rattle.sound.proofs.Chains.{first, final, chain_map}
use Rattle.causes.proofs.Taking.{linked_low}
use Rattle.causes.specs.Columns.{Faithful}

-- the columns say as much about cycles as the entries
leads_linked : (l : List Entry) (m n : ℕ) → Leads l m n ↔ Linked (key_column l) (up_column l) m n
unfolding key_column up_column
leads_linked [] m n = (λ i. i, λ i. i)
leads_linked (e ∷ l) m n = let r = leads_linked l m n in (⊎_elim inl (λ i. inr (r.0 i)), ⊎_elim inl (λ i. inr (r.1 i)))

pub acyclic_columns : (l : List Entry) → Acyclic l ↔ NoCycle (key_column l) (up_column l)
acyclic_columns l = (λ f m c. f m (chain_map (λ x y. (leads_linked l x y).1) c), λ f m c. f m (chain_map (λ x y. (leads_linked l x y).0) c))

only_none : (m : ℕ) (l : List Entry) → ¬ In m (key_column l) → only m l ≡ []
unfolding key_column only
only_none m [] f = refl
only_none m (e ∷ l) f = only_other m e l (λ q. f (inl q)) ∙ only_none m l (λ i. f (inr i))

-- the entries of a key under its new name
only_renamed : (f : ℕ → ℕ) (m : ℕ) (l : List Entry) → ((k : ℕ) → In k (key_column l) → f m ≡ f k → m ≡ k) → only (f m) (renamed f l) ≡ renamed f (only m l)
unfolding key_column only renamed
only_renamed f m [] p = refl
only_renamed f m (e ∷ l) p = pick (ℕ_discrete m e.key) (only_renamed f m l (λ k i. p k (inr i)))
  where
    e' : Entry
    e' = record { key = f e.key; action = e.action; row = e.row; end = e.end; scope = e.scope; up = f e.up }

    pick : Dec (m ≡ e.key) → only (f m) (renamed f l) ≡ renamed f (only m l) → only (f m) (e' ∷ renamed f l) ≡ renamed f (only m (e ∷ l))
    pick (yes q) i = rw (only_same m e l q) (only_same (f m) e' (renamed f l) (ap f q) ∙ ap (λ (x : List Entry). e' ∷ x) i)
    pick (no q) i = rw (only_other m e l q) (only_other (f m) e' (renamed f l) (λ z. q (p e.key (inl refl) z)) ∙ i)

in_renamed : (f : ℕ → ℕ) (l : List Entry) (k : ℕ) → In k (key_column (renamed f l)) → (j : ℕ) × In j (key_column l) × (k ≡ f j)
unfolding key_column renamed
in_renamed f [] k i = absurd i
in_renamed f (e ∷ l) k (inl q) = (e.key, inl refl, q)
in_renamed f (e ∷ l) k (inr i) = let r = in_renamed f l k i in (r.0, inr r.1, r.2)

-- a test on the entries of a key that does not look at the keys
pub record Blind (P : List Entry → Type 0) : Type 1 where
  pub empty : P []
  pub same : (f : ℕ → ℕ) (l : List Entry) → P l ↔ P (renamed f l)

pub each_renamed : (P : List Entry → Type 0) → Blind P → (f : ℕ → ℕ) (l : List Entry) → Faithful f (key_column l) → EachKey P l ↔ EachKey P (renamed f l)
each_renamed P b f l p = (to, back)
  where
    at : (m : ℕ) → In m (key_column l) → only (f m) (renamed f l) ≡ renamed f (only m l)
    at m i = only_renamed f m l (λ k j. p.apart m k i j)

    to : EachKey P l → EachKey P (renamed f l)
    to w m h = pick (in? m (key_column (renamed f l)))
      where
        pick : Dec (In m (key_column (renamed f l))) → P (only m (renamed f l))
        pick (no i) = rw (only_none m (renamed f l) i) b.empty
        pick (yes i) = let r = in_renamed f l m i in rw (r.2, at r.0 r.1) ((b.same f (only r.0 l)).0 (w r.0 (p.keys r.0 r.1).0))

    back : EachKey P (renamed f l) → EachKey P l
    back w m h = pick (in? m (key_column l))
      where
        pick : Dec (In m (key_column l)) → P (only m l)
        pick (no i) = rw (only_none m l i) b.empty
        pick (yes i) = (b.same f (only m l)).1 (rw (at m i) at (w (f m) (p.keys m i).1))

pub two_blind : Blind AtMostTwo
unfolding renamed
two_blind = record { empty = omega arith; same = λ f l. let e = long f l in (λ h. omega arith, λ h. omega arith) }
  where
    long : (f : ℕ → ℕ) (l : List Entry) → length (renamed f l) ≡ length l
    long f [] = refl
    long f (e ∷ l) = ap suc (long f l)

pub complements_blind : Blind Complements
unfolding renamed
complements_blind = record { empty = tt; same = same }
  where
    same : (f : ℕ → ℕ) (l : List Entry) → Complements l ↔ Complements (renamed f l)
    same f [] = (λ z. z, λ z. z)
    same f (a ∷ []) = (λ z. z, λ z. z)
    same f (a ∷ (b ∷ [])) = (λ z. z, λ z. z)
    same f (a ∷ (b ∷ (c ∷ l))) = (λ z. z, λ z. z)

pub beside_blind : Blind Beside
unfolding renamed
beside_blind = record { empty = tt; same = same }
  where
    same : (f : ℕ → ℕ) (l : List Entry) → Beside l ↔ Beside (renamed f l)
    same f [] = (λ z. z, λ z. z)
    same f (a ∷ []) = (λ z. z, λ z. z)
    same f (a ∷ (b ∷ [])) = (λ z. z, λ z. z)
    same f (a ∷ (b ∷ (c ∷ l))) = (λ z. z, λ z. z)

pub enclosed_blind : Blind Enclosed
unfolding renamed
enclosed_blind = record { empty = tt; same = same }
  where
    same : (f : ℕ → ℕ) (l : List Entry) → Enclosed l ↔ Enclosed (renamed f l)
    same f [] = (λ z. z, λ z. z)
    same f (a ∷ []) = (λ z. z, λ z. z)
    same f (a ∷ (b ∷ [])) = (λ z. z, λ z. z)
    same f (a ∷ (b ∷ (c ∷ l))) = (λ z. z, λ z. z)

-- every key right above is one of the keys ks, or 0
abbrev pub Known : List ℕ → List Entry → Type 0
Known ks [] = Unit {0}
Known ks (e ∷ l) = ((e.up ≡ 0) ⊎ In e.up ks) × Known ks l

leads_known : (ks : List ℕ) (l : List Entry) (m n : ℕ) → Known ks l → Leads l m n → In m ks
leads_known ks [] m n p i = absurd i
leads_known ks (e ∷ l) m n p (inl i) = ⊎_elim (λ z. never i.0 (i.1 ∙ z)) (λ z. rw i.1 z) p.0
leads_known ks (e ∷ l) m n p (inr i) = leads_known ks l m n p.1 i

leads_low : (l : List Entry) (m n : ℕ) → Leads l m n → In n (key_column l)
leads_low l m n i = linked_low (key_column l) (up_column l) m n ((leads_linked l m n).0 i)

-- a lead under new names, and back
leads_renamed : (f : ℕ → ℕ) (l : List Entry) (m n : ℕ) → 0 < f m → Leads l m n → Leads (renamed f l) (f m) (f n)
unfolding renamed
leads_renamed f [] m n h i = absurd i
leads_renamed f (e ∷ l) m n h (inl i) = inl (h, ap f i.1, ap f i.2)
leads_renamed f (e ∷ l) m n h (inr i) = inr (leads_renamed f l m n h i)

renamed_leads : (f : ℕ → ℕ) (l : List Entry) (m n : ℕ) → f 0 ≡ 0 → Leads (renamed f l) m n → (x y : ℕ) × Leads l x y × (m ≡ f x) × (n ≡ f y)
unfolding renamed
renamed_leads f [] m n z i = absurd i
renamed_leads f (e ∷ l) m n z (inl i) = (e.up, e.key, inl (up e.up refl, refl, refl), i.1, i.2)
  where
    up : (u : ℕ) → u ≡ e.up → 0 < e.up
    up zero q = absurd (never i.0 (i.1 ∙ ap f (sym q) ∙ z))
    up (suc u) q = omega arith
renamed_leads f (e ∷ l) m n z (inr i) = let r = renamed_leads f l m n z i in (r.0, r.1, inr r.2, r.3, r.4)

chain_start : (ks : List ℕ) (l : List Entry) → Known ks l → {m n : ℕ} → Chain (Leads l) m n → In m ks
chain_start ks l p {m = m} c = let i = first c in leads_known ks l m i.0 p i.1

chain_end : (l : List Entry) {m n : ℕ} → Chain (Leads l) m n → In n (key_column l)
chain_end l {n = n} c = let i = final c in leads_low l i.0 n i.1

module _ (f : ℕ → ℕ) (l : List Entry) (z : f 0 ≡ 0) (p : Faithful f (key_column l)) (w : Known (key_column l) l) where
  rename : (x y : ℕ) → Leads l x y → Leads (renamed f l) (f x) (f y)
  rename x y b = leads_renamed f l x y (p.keys x (leads_known (key_column l) l x y w b)).1 b

  chain_renamed : {m n : ℕ} → Chain (Leads l) m n → Chain (Leads (renamed f l)) (f m) (f n)
  chain_renamed (one {m = x} {n = y} b) = one (rename x y b)
  chain_renamed (more {k = x} {n = y} c b) = more (chain_renamed c) (rename x y b)

  renamed_chain : {m n : ℕ} → Chain (Leads (renamed f l)) m n → (x y : ℕ) × Chain (Leads l) x y × (m ≡ f x) × (n ≡ f y)
  renamed_chain (one {m = m} {n = n} b) = let r = renamed_leads f l m n z b in (r.0, r.1, one r.2, r.3, r.4)
  renamed_chain (more {m = m} {k = k} {n = n} c b) = glue (renamed_chain c) (renamed_leads f l k n z b)
    where
      glue : (x y : ℕ) × Chain (Leads l) x y × (m ≡ f x) × (k ≡ f y) → (x y : ℕ) × Leads l x y × (k ≡ f x) × (n ≡ f y) → (x y : ℕ) × Chain (Leads l) x y × (m ≡ f x) × (n ≡ f y)
      glue r s =
          let e = p.apart r.1 s.0 (chain_end l r.2) (leads_known (key_column l) l s.0 s.1 w s.2) (sym r.4 ∙ s.3) in
          (r.0, s.1, more (rw e at r.2) s.2, r.3, s.4)

  pub acyclic_renamed : Acyclic l ↔ Acyclic (renamed f l)
  acyclic_renamed = (to, λ g m c. g (f m) (chain_renamed c))
    where
      to : Acyclic l → Acyclic (renamed f l)
      to g m c = let r = renamed_chain c in let e = p.apart r.0 r.1 (chain_start (key_column l) l w r.2) (chain_end l r.2) (sym r.3 ∙ r.4) in g r.1 (rw e at r.2)

-- of the entries of a term every key right above is one of their keys
column-append : (x y : List Entry) → key_column (x ++ y) ≡ key_column x ++ key_column y
unfolding key_column
column-append [] y = refl
column-append (e ∷ x) y = ap (λ (l : List ℕ). e.key ∷ l) (column-append x y)

known_append : (ks : List ℕ) (x y : List Entry) → Known ks x → Known ks y → Known ks (x ++ y)
known_append ks [] y p q = q
known_append ks (e ∷ x) y p q = (p.0, known_append ks x y p.1 q)

known : (n row u : ℕ) (s : Scopes) (t : Term) (ks : List ℕ) → (u ≡ 0) ⊎ In u ks → ((k : ℕ) → In k (key_column (entries n row u s t)) → In k ks) → Known ks (entries n row u s t)
unfolding entries key_column
known n row u s nil ks h f = tt
known n row u s (pre a zero t) ks h f = known (suc n) row u s t ks h f
known n row u s (pre a (suc k) t) ks h f = (h, known (suc n) (suc row) (suc k) s t ks (inr (f (suc k) (inl refl))) (λ j i. f j (inr i)))
known n row u s (cho t r) ks h f = known_append ks (entries (suc n) row u s t) (entries (suc n + size t) (row + marked t) u s r)
    (known (suc n) row u s t ks h (λ k i. f k (rw (column-append (entries (suc n) row u s t) (entries (suc n + size t) (row + marked t) u s r)) (in_left k (key_column (entries (suc n) row u s t)) (key_column (entries (suc n + size t) (row + marked t) u s r)) i))))
    (known (suc n + size t) (row + marked t) u s r ks h (λ k i. f k (rw (column-append (entries (suc n) row u s t) (entries (suc n + size t) (row + marked t) u s r)) (in_right k (key_column (entries (suc n) row u s t)) (key_column (entries (suc n + size t) (row + marked t) u s r)) i))))
known n row u s (par t r) ks h f = known_append ks (entries (suc n) row u s t) (entries (suc n + size t) (row + marked t) u s r)
    (known (suc n) row u s t ks h (λ k i. f k (rw (column-append (entries (suc n) row u s t) (entries (suc n + size t) (row + marked t) u s r)) (in_left k (key_column (entries (suc n) row u s t)) (key_column (entries (suc n + size t) (row + marked t) u s r)) i))))
    (known (suc n + size t) (row + marked t) u s r ks h (λ k i. f k (rw (column-append (entries (suc n) row u s t) (entries (suc n + size t) (row + marked t) u s r)) (in_right k (key_column (entries (suc n) row u s t)) (key_column (entries (suc n + size t) (row + marked t) u s r)) i))))
known n row u s (res a t) ks h f = known (suc n) row u (under a n s) t ks h f

pub all_known : (t : Term) → Known (key_column (all t)) (all t)
all_known t = known 0 0 0 open_scopes t (key_column (all t)) (inl refl) (λ k i. i)
