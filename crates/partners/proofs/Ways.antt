-- How a way goes on from node to node, turns, and comes back.
use mathlib.Core.Path.{◌≡◌, refl, sym, ◌∙◌}
use mathlib.Core.Logic.{◌⊎◌, inl, inr, ⊎_elim, ◌≢◌}
use mathlib.Core.List.{List}
use mathlib.Core.Bool.{Bool, true}
use Prim.Native.Nat.{ℕ, zero, suc, ◌+◌, ◌<◌, ◌≤◌}
use native.Mathlib.Decide.{ℕ_discrete, dec_le}
use native.Mathlib.Omega.{arith}
use lib.ListN.{length, get_or, set}
use lib.Seq.{get_or-set_same, get_or-set_other}
use Rattle.ccsk.specs.Term.{Term, Label, Node, size}
use Rattle.offers.specs.Forms.{Part, SomePart}
use Rattle.offers.proofs.Forms.{Form, nothing, own, next, second, either, both, hidden, form, inside, part_end, part_below, part_beyond, next_inside}
use Rattle.labelset.specs.declared.Labels.{Labels}
use Rattle.index.specs.declared.Rows.{Rows}
use Rattle.index.specs.Whole.{SomePartAt}
use Rattle.std.specs.Prelude.{Option, None}
use Rattle.showing.specs.Listed.{Lists}
use Rattle.showing.specs.declared.Places.{Places}
use Rattle.partners.specs.declared.Way.{Way}
use Rattle.partners.specs.Met.{Hides, Answers, Meets}
use Rattle.partners.specs.Way.{Onward, inner, Turn, Leads, Left, WayTo}
use Rattle.partners.proofs.Mates.{meets_next, meets_second, meets_hidden, meets_left, meets_both}

-- the turns before the last written
kept : (W : List ℕ) (d n k : ℕ) → k < d → get_or (set W d n) k 0 ≡ get_or W k 0
kept W d n k h = get_or-set_other W d k n 0 (λ e. omega arith)

kept_inner : (W : List ℕ) (d n k : ℕ) → k ≤ d → inner (set W d n) k ≡ inner W k
kept_inner W d n zero h = refl
kept_inner W d n (suc k) h = rw (kept W d n k (omega arith)) refl

module _ {F A E : List ℕ} where
  -- the parts of a node end where it ends, or before
  within : {n k : Node} {h : ℕ} {t : Term} → Part F A E n t → k ≡ get_or E (n + 1) 0 → Form F A E n h t → (2 ≤ h → h ≢ 3 → get_or E (n + 1) 0 ≤ get_or E n 0) × (3 ≤ h → h ≢ 6 → get_or E k 0 ≤ get_or E n 0)
  unfolding size
  within Q d (nothing s) = (λ a b. absurd (omega arith), λ a b. absurd (omega arith))
  within Q d (own e f s) = (λ a b. absurd (omega arith), λ a b. absurd (omega arith))
  within {t = t} Q d (next {u = u} P x) = (λ a b. omega (arith, part_end t Q, part_end u x, P.within), λ a b. absurd (omega arith))
  within {t = t} Q d (second {u = u} m P e x) = (λ a b. absurd (b refl), λ a b. rw (d ∙ e) (omega (arith, part_end t Q, part_end u x, P.within)))
  within {t = t} Q d (either {u = u} {v = v} P e x y) = (λ a b. omega (arith, part_end t Q, part_end u x, P.within), λ a b. rw (d ∙ e) (omega (arith, part_end t Q, part_end v y, P.within)))
  within {t = t} Q d (both {u = u} {v = v} P e x y) = (λ a b. omega (arith, part_end t Q, part_end u x, P.within), λ a b. rw (d ∙ e) (omega (arith, part_end t Q, part_end v y, P.within)))
  within {t = t} Q d (hidden {t = u} e c x) = (λ a b. omega (arith, part_end t Q, part_end u x), λ a b. absurd (b refl))

  ends_below : {n : Node} (S : SomePart F A E n) → 2 ≤ get_or F n 0 → get_or F n 0 ≢ 3 → get_or E (n + 1) 0 ≤ get_or E n 0
  ends_below {n} S = (within S.1 refl (form n S.0 S.1)).0

module _ {R : Rows} where
  -- the part that a turn leads into
  pub turn_inner : {W : List ℕ} {i n : Node} {k : ℕ} → Turn R W i k → n ≡ get_or W k 0 → SomePartAt R (n + 1)
  turn_inner T e = rw e (part_below T.part (omega (arith, T.form)) (λ q. omega (arith, q, T.form)))

  -- one node on
  onward_next : {i m n : Node} → SomePartAt R n → get_or R.forms n 0 ≡ 2 → Onward R i m n → Onward R i m (n + 1)
  onward_next S e o = record { met = λ j K b L L' r h M. o.met j K b L L' r h (meets_next e M); ends = omega (arith, ends_below S (omega (arith, e)) (λ q. omega (arith, e)), o.ends) }

  onward_second : {i m n k : Node} → SomePartAt R n → k ≡ get_or R.ends (n + 1) 0 → 3 ≤ get_or R.forms n 0 → get_or R.forms n 0 ≢ 6 → (get_or R.forms n 0 ≡ 3) ⊎ (k ≤ i) → Onward R i m n → Onward R i m k
  onward_second {n = n} S d g h w o = record {
    met = λ j K b L L' r q M. o.met j K b L L' r q (meets_second d g h (⊎_elim inl (λ z. inr (omega arith)) w) M);
    ends = omega (arith, (within S.1 d (form n S.0 S.1)).1 g h, o.ends);
  }

  onward_later : {i j m n : Node} → i ≤ j → Onward R i m n → Onward R j m n
  onward_later l o = record { met = λ j K b L L' r q M. o.met j K b L L' r (omega arith) M; ends = o.ends }

  module _ {W : List ℕ} where
    pub way_start : {i d n : Node} → SomePartAt R 0 → (d ≡ 0) × (n ≡ 0) → Leads R W i d n
    way_start S z = rw (z.0, z.1) (record { part = S; turns = λ k h. absurd (omega arith); last = record { met = λ j K b L L' r h M. M; ends = omega arith }; deep = omega arith; low = inside S })

    pub way_later : {i j n : Node} {d : ℕ} → i ≤ j → Leads R W i d n → Leads R W j d n
    way_later l w = record {
      part = w.part;
      turns = λ k h. let T = w.turns k h in record { part = T.part; form = T.form; from = onward_later l T.from; deep = T.deep };
      last = onward_later l w.last;
      deep = w.deep;
      low = w.low;
    }

    module _ {i n : Node} {d : ℕ} (w : Leads R W i d n) where
      -- back to the last turn
      pub way_back : (j : ℕ) → d ≡ suc j → Leads R W i j (get_or W j 0)
      way_back j e = let T = w.turns j (omega arith) in record { part = T.part; turns = λ k h. w.turns k (omega arith); last = T.from; deep = T.deep; low = inside T.part }

      pub way_next : get_or R.forms n 0 ≡ 2 → Leads R W i d (n + 1)
      way_next e = let D = part_below w.part (omega (arith, e)) (λ q. omega (arith, e)) in record { part = D; turns = w.turns; last = onward_next w.part e w.last; deep = omega (arith, w.deep); low = inside D }

      pub way_second : {k : Node} → k ≡ get_or R.ends (n + 1) 0 → 3 ≤ get_or R.forms n 0 → get_or R.forms n 0 ≢ 6 → (get_or R.forms n 0 ≡ 3) ⊎ (k ≤ i) → Leads R W i d k
      way_second q g h o = let B = part_beyond w.part q g h in record { part = B.0; turns = w.turns; last = onward_second w.part q g h o w.last; deep = omega (arith, w.deep, B.1); low = inside B.0 }

      -- turns end one inside the other
      falls : (k j : ℕ) → k ≤ j → j < d → get_or R.ends (get_or W j 0 + 1) 0 ≤ get_or R.ends (get_or W k 0 + 1) 0
      falls k zero a b = let e : k ≡ 0 = omega arith in rw e (omega arith)
      falls k (suc j) a b = pick (dec_le k j) (λ h. falls k j h (omega arith))
        where
          pick : Dec (k ≤ j) → (k ≤ j → get_or R.ends (get_or W j 0 + 1) 0 ≤ get_or R.ends (get_or W k 0 + 1) 0) → get_or R.ends (get_or W (suc j) 0 + 1) 0 ≤ get_or R.ends (get_or W k 0 + 1) 0
          pick (yes h) f = let T = w.turns (suc j) b in omega (arith, f h, ends_below T.part (omega (arith, T.form)) (λ q. omega (arith, q, T.form)), T.from.ends)
          pick (no h) f = let e : k ≡ suc j = omega arith in rw e (omega arith)

      -- a place before the end of the last turn is before the end of each
      pub all_left : (j : ℕ) → d ≡ suc j → i < get_or R.ends (get_or W j 0 + 1) 0 → (k : ℕ) → k < d → i < get_or R.ends (get_or W k 0 + 1) 0
      all_left j e l k h = omega (arith, falls k j (omega arith) (omega arith))

  -- a turn more
  module _ {W : List ℕ} {i n : Node} {d : ℕ} (l : d < length W) where
    pub way_turn : {m : ℕ} → m ≡ suc d → Leads R W i d n → 3 < get_or R.forms n 0 → Leads R (set W d n) i m (n + 1)
    way_turn q w f = rw q (record { part = part_below w.part (omega arith) (λ z. omega (arith, z)); turns = λ k h. pick k h (ℕ_discrete k d); last = rw here (record { met = λ j K b L L' r h M. M; ends = omega arith }); deep = omega (arith, w.deep); low = next_inside w.part (omega arith) })
      where
        here : get_or (set W d n) d 0 ≡ n
        here = get_or-set_same W d n 0 l

        pick : (k : ℕ) → k < suc d → Dec (k ≡ d) → Turn R (set W d n) i k
        pick k h (yes e) = rw e (record { part = rw here w.part; form = rw here f; from = rw (here, kept_inner W d n d (omega arith)) w.last; deep = rw here w.deep })
        pick k h (no e) = let g : k < d = omega arith in let T = w.turns k g in record { part = rw (kept W d n k g) T.part; form = rw (kept W d n k g) T.form; from = rw (kept W d n k g, kept_inner W d n k (omega arith)) T.from; deep = rw (kept W d n k g) T.deep }

pub left_turn : (R : Rows) (W : List ℕ) (i n : Node) (d m : ℕ) → d < length W → m ≡ suc d → Left R W i d → (get_or R.forms n 0 ≢ 6 → i < get_or R.ends (n + 1) 0) → Left R (set W d n) i m
left_turn R W i n d m l q f g k h = pick (ℕ_discrete k d)
  where
    pick : Dec (k ≡ d) → get_or R.forms (get_or (set W d n) k 0) 0 ≢ 6 → i < get_or R.ends (get_or (set W d n) k 0 + 1) 0
    pick (yes e) = rw (e, get_or-set_same W d n 0 l) g
    pick (no e) = let b : k < d = omega arith in rw (kept W d n k b) (f k b)

-- One turn back: what the place meets where the turn j leads, and what it meets before it.
module _ {R : Rows} {K : List Labels} {L L' : Places} {i n : Node} {s : Way} {listing : Bool} {l : Option Label} (w : WayTo R i s) (k j : ℕ) (q : k ≡ suc j) (h : j < s.turns.count) (e : n ≡ get_or s.turns.row j 0)
    (M : Meets R K (inner s.turns.row k) i listing L L' l) where
  here : Meets R K (n + 1) i listing L L' l
  here = rw e (rw q at M)

  up : {L'' : Places} {r : Option Label} → Meets R K n i listing L L'' r → Meets R K (inner s.turns.row j) i listing L L'' r
  up N = (w.way.turns j h).from.met i K listing _ _ _ (omega arith) (rw e at N)

  turns : 3 < get_or R.forms n 0
  turns = rw e (w.way.turns j h).form

  before : get_or R.forms n 0 ≢ 6 → i < get_or R.ends (n + 1) 0
  before = rw e (w.left j h)

  pub back_hidden : {r : Option Label} → get_or R.forms n 0 ≡ 6 → Hides (get_or R.args n 0) l r → Meets R K (inner s.turns.row j) i listing L L' r
  back_hidden f H = up (meets_hidden f here H)

  pub back_left : get_or R.forms n 0 ≢ 6 → (get_or R.forms n 0 ≡ 5 → listing ≡ true → l ≡ None) → Meets R K (inner s.turns.row j) i listing L L' l
  back_left f z = up (meets_left refl turns f (before f) z here)

  pub back_both : {L'' : Places} {m : Node} → get_or R.forms n 0 ≡ 5 → m ≡ get_or R.ends (n + 1) 0 → Lists R K m (Answers l) L' L'' → Meets R K (inner s.turns.row j) i listing L L'' l
  back_both f d N = up (meets_both d f (rw d (before (λ x. omega (arith, f, x)))) here N)

-- the partners listed so far stand before the second part
pub few_before : {R : Rows} {K : List Labels} {L L' : Places} {i n : Node} {listing : Bool} {r : Option Label} (W : List ℕ) (k j : ℕ) → k ≡ suc j → n ≡ get_or W j 0 → Meets R K (inner W k) i listing L L' r → SomePartAt R (n + 1) → L'.count ≤ get_or R.ends (n + 1) 0
few_before W k j q e M S = let N = rw (q, sym e) at M in omega (arith, N.few S.0 S.1, part_end S.0 S.1)
