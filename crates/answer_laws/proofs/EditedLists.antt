-- A state, what is put and what is removed have an edited list, and a number of the removed keys is that of those of no row.
use Rattle.std.proofs.Common.{◌≡◌, ◌+◌, ◌++◌, ℕ, zero, suc, List, [], ◌∷◌, length, Bool, true, false, None, Some, inl, inr, refl, sym, subst, arith, add-zero}
use Rattle.std.specs.Prelude.{MatchBool, count_by, slice_get}
use Rattle.std.specs.FinMap.{keys}
use Rattle.std.specs.List.{AllZip, flat_map}
use Rattle.ordinal_set.specs.Ordinals.{bound_of}
use Rattle.schema_model.specs.declared.schema.Schema.{Schema}
use Rattle.row_model.specs.declared.row.Value.{Value}
use Rattle.row_model.specs.BothStates.{rows_in}
use Rattle.row_model.specs.Table.{Table}
use Rattle.hol_incremental.specs.Changes.{CountsMissing, IsFound}
use Rattle.hol_incremental.specs.Edited.{IsEdited, IsEditedType, Keys, Records, StaysRoot, of_type, records_of}
use Rattle.answer_laws.proofs.Deciding.{decide}
use Rattle.answer_laws.proofs.Ordinals.{live_below, some_ordinals}

module _ (schemas : List Schema) (previous : Table) (puts : Records) (removes : Keys) where
  type_edited : (t : ℕ) → ((part : Records) → IsEditedType schemas previous puts removes t part → ⊥) → ⊥
  type_edited t none =
      some_ordinals (StaysRoot schemas previous puts removes t) (bound_of (keys (rows_in previous t))) (λ ordinal stays. live_below previous t ordinal stays.root.live) (λ roots rising are.
      none (records_of schemas previous t roots ++ of_type t puts) (record { roots = roots; rising = rising; are = are; records_are = refl }))

  -- the parts of so many types, from one on
  parts_edited : (from many : ℕ) → ((parts : List Records) → length parts ≡ many
      → ((t : ℕ) (part : Records) → slice_get parts t ≡ Some part → IsEditedType schemas previous puts removes (from + t) part) → ⊥) → ⊥
  parts_edited from zero none = none [] refl (λ t part at. (let clash : None ≡ Some part = at in absurd cc))
  parts_edited from (suc many) none = type_edited from (λ part is. parts_edited (suc from) many (λ parts long each. none (part ∷ parts) (omega (arith, long)) (λ t other at. place part is parts each t other at)))
    where
      place : (part : Records) → IsEditedType schemas previous puts removes from part → (parts : List Records)
          → ((t : ℕ) (other : Records) → slice_get parts t ≡ Some other → IsEditedType schemas previous puts removes (suc from + t) other) → (t : ℕ) (other : Records)
          → slice_get (part ∷ parts) t ≡ Some other → IsEditedType schemas previous puts removes (from + t) other
      place part is parts each zero other at =
          let same : part ≡ other = cc in
          subst (λ n. IsEditedType schemas previous puts removes n other) (sym (add-zero from)) (subst (IsEditedType schemas previous puts removes from) same is)
      place part is parts each (suc t) other at =
          let next : suc from + t ≡ from + suc t = omega arith in
          subst (λ n. IsEditedType schemas previous puts removes n other) next (each t other at)

  -- that there is no edited list cannot be
  pub some_edited : ((records : Records) → IsEdited schemas previous puts removes records → ⊥) → ⊥
  some_edited none = parts_edited 0 (length schemas) (λ parts long each.
      none (flat_map (λ part. part) parts) (record { parts = parts; many = long; each = λ t part at. from_none t part (each t part at); records_are = refl }))
    where
      from_none : (t : ℕ) (part : Records) → IsEditedType schemas previous puts removes (0 + t) part → IsEditedType schemas previous puts removes t part
      from_none t part is = let same : 0 + t ≡ t = omega arith in subst (λ n. IsEditedType schemas previous puts removes n part) same is

module _ (schemas : List Schema) (table : Table) where
  -- the key is that of no row, or of one
  abbrev IsLost : ℕ × List Value → Bool → Type 0
  IsLost key is_lost = MatchBool is_lost (¬ IsFound schemas table key) (IsFound schemas table key)

  all_lost : (removes : Keys) → ((lost : List Bool) → AllZip IsLost removes lost → ⊥) → ⊥
  all_lost [] none = none [] tt
  all_lost (key ∷ removes) none = decide (IsFound schemas table key) (λ either. elim either [
    | inl found ↦ all_lost removes (λ lost are. none (false ∷ lost) (found, are))
    | inr never ↦ all_lost removes (λ lost are. none (true ∷ lost) (never, are))
  ])

  -- that no number of them is that of no row cannot be
  pub some_missing : (removes : Keys) → ((missing : ℕ) → CountsMissing schemas table removes missing → ⊥) → ⊥
  some_missing removes none = all_lost removes (λ lost are. none (count_by (λ is_lost. is_lost) lost) (lost, are, refl))
