-- What a node notes: its key and scope as it is entered, and the lasts that stay as it is left.
use Rattle.std.specs.Prelude.{◌≡◌, ◌≢◌, List, [], ◌++◌, cond, not, ℕ, ◌+◌, eqb, length, get_or, set, take}
use Rattle.ccsk.specs.Term.{Name, Label, Key, Node, done}
use Rattle.format.specs.Read.{key_of}
use Rattle.format.specs.Limits.{node_limit}
use Rattle.lasts.specs.declared.Last.{Last}
use Rattle.lasts.specs.Last.{Scopes, slot, scope_of, enclosed, open_scopes, last_over_prefix}
use Rattle.noting.specs.declared.Notes.{Notes}
use Rattle.noting.specs.declared.Entered.{Entered}

-- the keys and the lasts that are noted
abbrev pub noted_keys : Notes → List Key
noted_keys notes = take notes.key_count notes.keys

abbrev pub noted_lasts : Notes → List Last
noted_lasts notes = take notes.last_count notes.lasts

-- nothing is noted, and no name has a scope
abbrev pub NoNotes : Notes → Type 0
NoNotes notes = (notes.scopes ≡ open_scopes) × (notes.key_count ≡ 0) × (notes.last_count ≡ 0)

-- the key of the prefix, and the action of the prefix or the name of the restriction, whose bytes begin at `at`
abbrev pub key_standing_at : List ℕ → ℕ → Key
key_standing_at s at = key_of (get_or s (at + 2) 0) (get_or s (at + 3) 0)

abbrev pub name_at : List ℕ → ℕ → Label
name_at s at = get_or s (at + 1) 0

-- the same keys, or the same lasts, are noted
abbrev pub SameKeys : Notes → Notes → Type 0
SameKeys before after = (after.keys ≡ before.keys) × (after.key_count ≡ before.key_count)

abbrev pub SameLasts : Notes → Notes → Type 0
SameLasts before after = (after.lasts ≡ before.lasts) × (after.last_count ≡ before.last_count)

-- what `enter` leaves, by the kind of the node
pub record Enters (s : List ℕ) (at kind : ℕ) (n : Node) (before after : Notes) (r : Entered) : Type 0 where
  pub counts : (r.keys ≡ after.key_count) × (r.lasts ≡ before.last_count)
  pub room : length before.lasts ≡ node_limit
  pub same_lasts : SameLasts before after
  pub noted : kind ≡ 1 → (noted_keys after ≡ noted_keys before ++ done (key_standing_at s at) []) × (after.key_count ≡ before.key_count + length (done (key_standing_at s at) []))
  pub other : kind ≢ 1 → SameKeys before after
  pub opened : kind ≡ 4 → (after.scopes ≡ enclosed (name_at s at) n before.scopes) × (r.scope ≡ scope_of before.scopes (name_at s at))
  pub unopened : kind ≢ 4 → after.scopes ≡ before.scopes

-- what `leave_prefix` leaves: x are the lasts below the prefix, those before it are left alone
abbrev pub OverPrefix : List ℕ → ℕ → Entered → Notes → Notes → Type 0
OverPrefix s at r before after = (after.scopes ≡ before.scopes) × SameKeys before after × ((old x : List Last) → length old ≡ r.lasts → before.last_count ≡ r.lasts + length x → noted_lasts before ≡ old ++ x
    → let y = last_over_prefix (eqb (key_standing_at s at) 0) (not (eqb before.key_count r.keys)) (record { key = key_standing_at s at; action = name_at s at; scope = scope_of before.scopes (name_at s at) }) x in
    (noted_lasts after ≡ old ++ y) × (after.last_count ≡ r.lasts + length y))

-- the scopes with one put back
abbrev pub closed : Name → ℕ → Scopes → Scopes
closed a outer scopes = set scopes (slot a) outer

-- what `leave_restriction` leaves
abbrev pub OverRestriction : List ℕ → ℕ → Entered → Notes → Notes → Type 0
OverRestriction s at r before after = (after.scopes ≡ closed (name_at s at) r.scope before.scopes) × SameKeys before after × SameLasts before after

-- how many lasts stay at a choice or a parallel
abbrev pub noted_over_two : ℕ → ℕ → ℕ → ℕ → ℕ → ℕ → ℕ
noted_over_two kind k₀ k₁ k₂ l₀ l₂ = cond (eqb kind 2) (cond (eqb k₁ k₀) l₂ (cond (eqb k₂ k₁) l₂ l₀)) l₂

-- what `leave_two` leaves
abbrev pub OverTwo : ℕ → Entered → ℕ → Notes → Notes → Type 0
OverTwo kind r between before after = (after.scopes ≡ before.scopes) × SameKeys before after × (after.lasts ≡ before.lasts) × (after.last_count ≡ noted_over_two kind r.keys between before.key_count r.lasts before.last_count)
