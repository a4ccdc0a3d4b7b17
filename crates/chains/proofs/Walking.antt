-- Going from link to link through the drawer of a key.
use mathlib.Core.Path.{◌≡◌, refl, sym, ap, ◌∙◌}
use mathlib.Core.Logic.{◌⊎◌, inl, inr, ⊎_elim}
use mathlib.Core.List.{List}
use mathlib.Core.Bool.{true}
use Prim.Native.Nat.{ℕ, suc, ◌≤◌, ◌<◌}
use native.Mathlib.Decide.{ℕ_discrete, dec_lt}
use native.Mathlib.Omega.{arith}
use lib.ListN.{length, get_or}
use Rattle.ccsk.specs.Term.{Key}
use Rattle.ccsk.proofs.Basic.{never}
use Rattle.format.specs.Limits.{node_limit}
use Rattle.keyset.specs.Set.{member}
use Rattle.filing.specs.declared.Cabinet.{Cabinet}
use Rattle.filing.specs.Cabinet.{drawer, InDrawer, Latest, Filed}
use Rattle.chains.specs.declared.Queue.{Queue}
use Rattle.chains.specs.Reach.{Meets, Reached, From, Within}
use Rattle.chains.proofs.Meeting.{queue_room, Looked, looked}

-- the links from `from` that come after `link` are done with
abbrev Done : Cabinet → Key → Key → List ℕ → ℕ → Type 0
Done x m from marks link = (i : ℕ) → link < i → 0 < get_or x.upper i 0 → get_or x.upper i 0 ≡ from → (get_or x.lower i 0 ≡ m) ⊎ (member marks (get_or x.lower i 0) ≡ true)

-- At `link` of the drawer, 0 at its end, the set and the queue have only grown since they were s₀ and q₀.
pub record Walking (x : Cabinet) (m from : Key) (s₀ : List ℕ) (q₀ : Queue) (s : List ℕ) (q : Queue) (link : ℕ) : Type 0 where
  pub reached : Reached x m s q
  pub grown : Within s₀ s
  pub kept : (i : ℕ) → i < q₀.many → get_or q.keys i 0 ≡ get_or q₀.keys i 0
  pub longer : q₀.many ≤ q.many
  pub here : (link ≡ 0) ⊎ InDrawer x (drawer from) link
  pub low : link < suc node_limit
  pub done : Done x m from s link

module _ (x : Cabinet) (F : Filed x) (m from : Key) where
  module _ {s₀ : List ℕ} {q₀ : Queue} {s : List ℕ} {q : Queue} {link : ℕ} (W : Walking x m from s₀ q₀ s q link) where
    pub room : q.many < length q.keys
    room = omega (arith, queue_room x F W.reached, W.reached.sized)

    -- one link more
    pub step : 0 < link → From x m from → get_or x.lower link 0 < 65536 → (s' : List ℕ) (q' : Queue)
        → Meets (get_or x.upper link 0) (get_or x.lower link 0) from m s q s' q' → (next : ℕ) → next ≡ get_or x.older link 0
        → (next < link) × Walking x m from s₀ q₀ s' q' next
    step h w small s' q' M next e = (
      rw e L.before,
      record {
        reached = K.reached;
        grown = λ k z. K.grown k (W.grown k z);
        kept = λ i g. K.kept i (omega (arith, W.longer)) ∙ W.kept i g;
        longer = omega (arith, W.longer, K.longer);
        here = rw e (⊎_elim inl (λ z. inr (z.0, z.1 ∙ in_here.1)) L.there);
        low = omega (arith, L.before, W.low);
        done = λ i g p q. pick i g p q (ℕ_discrete i link) (dec_lt link i);
      },
    )
      where
        in_here : InDrawer x (drawer from) link
        in_here = ⊎_elim (never h) (λ z. z) W.here

        L : Latest x (drawer (get_or x.upper link 0)) link (get_or x.older link 0)
        L = F.older link in_here.0

        K : Looked x m from w (get_or x.upper link 0) (get_or x.lower link 0) small link in_here.0 refl refl s q s' q'
        K = looked x m from w (get_or x.upper link 0) (get_or x.lower link 0) small link in_here.0 refl refl room W.reached M

        pick : (i : ℕ) → next < i → 0 < get_or x.upper i 0 → get_or x.upper i 0 ≡ from → Dec (i ≡ link) → Dec (link < i)
            → (get_or x.lower i 0 ≡ m) ⊎ (member s' (get_or x.lower i 0) ≡ true)
        pick i g p q (yes z) d = rw z (K.done (rw z at q))
        pick i g p q (no z) (yes d) = ⊎_elim inl (λ y. inr (K.grown _ y)) (W.done i d p q)
        pick i g p q (no z) (no d) = absurd (L.none i (omega arith) (omega arith) (p, ap drawer q ∙ sym in_here.1))
