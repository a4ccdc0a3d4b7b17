-- The verdict step by step: the pairs and the order, the columns.
use mathlib.Core.Path.{◌≡◌, refl, sym, ap, ◌∙◌, subst}
use mathlib.Core.Logic.{⊎_elim}
use mathlib.Core.List.{List}
use mathlib.Core.Bool.{Bool, true, false, true≢false, false≢true}
use Prim.Native.Nat.{ℕ, ◌≤◌, ◌<◌}
use native.Mathlib.Omega.{arith}
use lib.ListN.{length, take, get_or, replicate, length-replicate, get_or-replicate}
use lib.Seq.{length-take-le, get_or-take}
use Rattle.std.specs.Prelude.{Option, Some, None}
use Rattle.std.specs.Option.{is_some}
use Rattle.cycles.specs.declared.Pair.{Pair}
use Rattle.cycles.specs.Pair.{firsts, seconds}
use Rattle.cycles.proofs.Pairs.{nothing, firsts-length, seconds-length, first_at, second_at}
use Rattle.pairs.specs.declared.Columns.{Columns}
use Rattle.pairs.specs.declared.Condition.{Condition}
use Rattle.pairs.specs.declared.Condition.TheVariants.{Twice}
use Rattle.pairs.specs.Condition.{number_of, verdict}
use Rattle.pairs.specs.Rows.{Indexed}
use Rattle.pairs.specs.Cause.{CauseBelow}
use Rattle.verdict.specs.Sheet.{Pairing, Noted, Ordering}
use Rattle.verdict.proofs.Verdicts.{verdict_3, verdict_4_to_6, asked, verdict_7, verdict_0}
use Rattle.judge.specs.Judge.{Slotted, Decided, Room}

-- an answer is there, or none
some : (r : Option Condition) → is_some r ≡ true → (d : Condition) × (r ≡ Some d)
some None h = absurd (false≢true h)
some (Some d) h = (d, refl)

pub none : (r : Option Condition) → is_some r ≡ false → r ≡ None
none None h = refl
none (Some d) h = absurd (true≢false h)

module _ (x : Columns) (rows₀ : List Pair) (w : Slotted (length rows₀) x) where
  abbrev ks : List ℕ
  ks = x.keys.now

  abbrev acs : List ℕ
  acs = x.actions.now

  abbrev es : List ℕ
  es = x.ends.now

  abbrev ss : List ℕ
  ss = x.scopes.now

  abbrev us : List ℕ
  us = x.ups.now

  module _ (rows : List Pair) (n : length rows ≡ length rows₀) (r : Option Condition) (P : Pairing x rows r) where
    below : CauseBelow (length rows) acs es ss (firsts rows) (seconds rows) r → CauseBelow (length (firsts rows)) acs es ss (firsts rows) (seconds rows) r
    below = subst (λ (j : ℕ). CauseBelow j acs es ss (firsts rows) (seconds rows) r) (sym (firsts-length rows))

    long : length (firsts rows) ≡ length rows₀
    long = firsts-length rows ∙ n

    -- one of the conditions 3 to 6 fails
    pub decided_early : (d : Condition) → r ≡ Some d → Decided (length rows₀) x (number_of d)
    decided_early d h t l b = ⊎_elim (λ p. let e : d ≡ Twice = cc in rw e (verdict_3 t (length rows₀) ks acs es ss us (firsts rows) (seconds rows) l long b.waiting b.choosing p.1 p.2))
        (λ p. verdict_4_to_6 t (length rows₀) ks acs es ss us (firsts rows) (seconds rows) l long b.waiting b.choosing p.0 r (below p.1) d h) P

    pub decided_found : is_some r ≡ true → Decided (length rows₀) x (verdict r)
    decided_found h = let w = some r h in rw w.1 (decided_early w.0 w.1)

    module _ (h : r ≡ None) where
      noted_rows : Indexed ks (firsts rows) (seconds rows) × CauseBelow (length (firsts rows)) acs es ss (firsts rows) (seconds rows) r
      noted_rows = ⊎_elim (λ p. absurd (let e = p.0 in cc)) (λ p. (p.0, below p.1)) P

      pub may_order : Noted us (firsts rows) (seconds rows)
      may_order = let v = w.2 in asked v.0 (length rows₀) ks acs es ss us (firsts rows) (seconds rows) v.1 long v.2.waiting v.2.choosing noted_rows.0 r noted_rows.1

      module _ (one two : List ℕ) (a : Bool) (O : Ordering us (firsts rows) (seconds rows) one two a) where
        pub decided_cycle : a ≡ false → Decided (length rows₀) x 7
        decided_cycle e t l b = verdict_7 t (length rows₀) ks acs es ss us (firsts rows) (seconds rows) l long b.waiting b.choosing noted_rows.0 r noted_rows.1 h one two O.once O.twice
            (λ z. true≢false (sym (O.tells.1 z) ∙ e))

        pub decided_sound : a ≡ true → Decided (length rows₀) x (verdict r)
        decided_sound e = rw h sound
          where
            sound : Decided (length rows₀) x 0
            sound t l b = verdict_0 t (length rows₀) ks acs es ss us (firsts rows) (seconds rows) l long b.waiting b.choosing noted_rows.0 r noted_rows.1 h one two O.once O.twice (O.tells.0 e)

-- room of n places, cut from N
module _ (n N : ℕ) (h : n ≤ N) where
  abbrev pub blanks : List Pair
  blanks = take n (replicate N nothing)

  abbrev pub zeros : List ℕ
  zeros = take n (replicate {A = ℕ} N 0)

  pub cut_length : n ≡ length zeros
  cut_length = sym (length-take-le n (replicate {A = ℕ} N 0) (omega (arith, length-replicate {A = ℕ} N 0)))

  pub cut_blanks : n ≡ length blanks
  cut_blanks = sym (length-take-le n (replicate N nothing) (omega (arith, length-replicate {A = Pair} N nothing)))

  cut_at : (k : ℕ) → k < n → get_or blanks k nothing ≡ nothing
  cut_at k l = get_or-take n (replicate N nothing) k nothing l ∙ get_or-replicate {A = Pair} N k nothing nothing (omega arith)

  pub cut_room : Room blanks (length zeros) (length zeros)
  cut_room = record {
    first_zero = λ k l. first_at blanks k ∙ ap (λ (p : Pair). p.first) (cut_at k (omega (arith, firsts-length blanks, cut_blanks)));
    second_zero = λ k l. second_at blanks k ∙ ap (λ (p : Pair). p.second) (cut_at k (omega (arith, seconds-length blanks, cut_blanks)));
    counted = omega (arith, cut_blanks, cut_length);
    queued = omega (arith, cut_blanks, cut_length);
  }
