-- What a walker owns is what the record that it holds and its cursor own: it is had twice, taken apart, and put together.
use mathlib.Core.Path.{◌≡◌, refl}
use Prim.Native.Nat.{ℕ}
use mathlib.Core.List.{List, [], ◌∷◌}
use lib.Dec.{T as Holds}
use lib.ListN.{length}
use seplogic.Ra.Ura.{Ura}
use mir.Syntax.{named}
use mir.Val.{Val, vstruct, vcons, vnil, WT, has_ty}
use base.Logic.{ent, sep}
use base.Fml.{Lft, Fml}
use types.Logic.{Logic, sem}
use contract.Lifetimes.{Lfts}
use types.Kit.{‵, ◌⊛◌, given, ◌$◌, ◌∵◌, !, qed, move, use1, split, learn, fjoin, feq_i, fpack, done}
use denote.RattleType.{RattleType, Valss, owns}
use denote.Laws.{Is}
use denote.Builtin.{u8}
use denote.Ref.{Bor}
use denote.Signature.{named_lft}
use denote.Slice.{slice_val, ShrSlice, shr_slice_Lawful}
use denote.Steps.{nothing}
use denote.Struct.Declared.{Declared, shape}
use denote.Struct.Field.{rows}
use denote.Struct.Laws as LL
use denote.Struct.Rest.{all_own, own_open}
use denote.Struct.Values.{Values, intos}
use denote.Struct.Struct.{within}
use Rattle.cursor.specs.declared.Cursor.{Cursor}
use Rattle.cursor.specs.contracts.Cursor as C
use Rattle.cursor.proofs.Cursor.TheLaws as C'
use Rattle.walker.specs.declared.Walker.{Walker}
use Rattle.walker.specs.contracts.Walker as T
use Rattle.walker.proofs.Walker.TheLaws as T'

-- the walker's type, over the signature's lifetimes
abbrev pub B : Lfts 1 → RattleType
B κs = T.the_row (named_lft 1 0 tt κs)

-- the machine value of a record that is lent
abbrev pub lent : Bor (List ℕ) → Val
lent s = slice_val s.ref_ptr (length s.now)

-- the machine value of a cursor
abbrev pub standing : Cursor → Val
standing c = LL.val C.the_type C'.the_laws c

-- the machine value of a walker whose cursor has the machine value u
abbrev pub walking : Bor (List ℕ) → Val → Val
walking s u = vstruct (vcons (lent s) (vcons u vnil))

module _ (κ : Lft) where
  abbrev D : Declared
  D = T.the_type (named_lft 1 0 tt (κ, tt))

  abbrev L : LL.Laws D
  L = T'.the_laws (named_lft 1 0 tt (κ, tt))

  -- what a record that is lent owns
  abbrev pub Lent : Bor (List ℕ) → Fml
  Lent s = (ShrSlice (named 0) κ u8).own_val s (lent s ∷ [])

  module _ {M : Type 1} {𝓤 : Ura M} (𝓛 : Logic 𝓤) where
    -- A walker is put together of a record and a cursor: what it owns, and that its machine value has its type.
    module _ (s : Bor (List ℕ)) (c : Cursor) (u : Val) where
      abbrev pub made : Walker
      made = record { «record» = s; cursor = c }

      pub together : ent 𝓤 (sep 𝓤 (sem 𝓛 (Lent s)) (sem 𝓛 ((C.the_row).own_val c (u ∷ [])))) (sem 𝓛 ((B (κ, tt)).own_val made (walking s u ∷ [])))
      together =
          qed 𝓛 (‵ (Lent s) ∷ ‵ ((C.the_row).own_val c (u ∷ [])) ∷ []) ∵ nothing ! $ move ! (2 ∷ 0 ∷ []) $ fjoin ! $ move ! (1 ∷ 0 ∷ []) $ fjoin ! $
          feq_i ! (List Val) (walking s u ∷ []) (walking s u ∷ []) refl $ fjoin ! $
          fpack ! (Valss (rows D.parts)) (within (shape D) (intos D.parts (s, (c, tt))) (walking s u ∷ [])) (lent s ∷ [], (u ∷ [], tt)) $ done !

      pub made_typed : Is (ShrSlice (named 0) κ u8) s (lent s ∷ []) → Is C.the_row c (u ∷ []) → Holds (has_ty (T'.mir (named 0)) (walking s u)) × WT (walking s u)
      made_typed p r = ((LL.lawful D L 𝓛).typed made (walking s u ∷ []) ((lent s ∷ [], (u ∷ [], tt)), (refl, (p, (r, tt))))).0

    pub record_typed : (s : Bor (List ℕ)) → Is (ShrSlice (named 0) κ u8) s (lent s ∷ []) → WT (lent s)
    record_typed s p = ((shr_slice_Lawful 𝓛 (named 0) κ u8).typed s (lent s ∷ []) p).0.1

    pub cursor_typed : (c : Cursor) (u : Val) → Is C.the_row c (u ∷ []) → Holds (has_ty C'.mir u) × WT u
    cursor_typed c u p = ((LL.lawful C.the_type C'.the_laws 𝓛).typed c (u ∷ []) p).0

  module _ (d : Walker) where
    abbrev values : Values D.parts
    values = (d.«record», (d.cursor, tt))

    -- the walker's machine value
    abbrev pub mach : Val
    mach = walking d.«record» (standing d.cursor)

    abbrev pub Own : Fml
    Own = (B (κ, tt)).own_val d (mach ∷ [])

    abbrev pub Parts : Fml
    Parts = owns (ShrSlice (named 0) κ u8 ∷ C.the_row ∷ []) (d.«record», (d.cursor, tt)) (lent d.«record» ∷ [], (standing d.cursor ∷ [], tt))

    -- one copy of what a walker owns is kept, and one is taken apart
    pub apart : {M : Type 1} {𝓤 : Ura M} (𝓛 : Logic 𝓤) → ent 𝓤 (sem 𝓛 Own) (sep 𝓤 (sem 𝓛 Own) (sem 𝓛 Parts))
    apart 𝓛 =
        qed 𝓛 (‵ Own ∷ []) ∵ use1 𝓛 (‵ Own ⊛ ‵ Own) ((LL.copy D (T'.the_copy (named_lft 1 0 tt (κ, tt))) 𝓛).twice d (mach ∷ [])) $ split ! $
        use1 𝓛 (given (mach ∷ [] ≡ mach ∷ []) (‵ (all_own D.parts L values))) (own_open 𝓛 D L values mach) $ learn ! (λ _. move ! (1 ∷ 0 ∷ []) $ done !)

    -- what is known of a walker is known of its record and of its cursor
    module _ (p : Is (B (κ, tt)) d (mach ∷ [])) where
      pub record_is : Is (ShrSlice (named 0) κ u8) d.«record» (lent d.«record» ∷ [])
      record_is = (LL.owed D L d (mach ∷ []) p).0

      pub cursor_is : Is C.the_row d.cursor (standing d.cursor ∷ [])
      cursor_is = (LL.owed D L d (mach ∷ []) p).1.0
