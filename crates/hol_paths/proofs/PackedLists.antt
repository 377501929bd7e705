-- The lists of a type that stand packed: what is read there are the elements.
use Rattle.std.proofs.Common.{◌++◌, ◌+◌, ◌≤◌, take, get_or, append_assoc, ◌≡◌, ℕ, ◌<◌, ◌^◌, ◌∙◌, refl, sym, ap, subst, arith, zero, suc, List, [], ◌∷◌, Option, Some, None, length}
use Rattle.std.specs.Prelude.{All, IfSome, IsSome, slice_get}
use Rattle.schema_model.specs.declared.model.walk_path.WalkPart.TheVariants.{Element}
use Rattle.schema_model.specs.declared.schema.Schema.{Schema}
use Rattle.list_codec.specs.declared.elements.Elements.{Elements}
use Rattle.list_codec.specs.Elements.{elements_of}
use Rattle.row_model.specs.declared.row.Row.{Row}
use Rattle.row_model.specs.Row.{IsRowInRange}
use Rattle.row_model.specs.Table.{IsLive, IsTableOf, Table, row_at}
use Rattle.column_rows.specs.declared.items.PackedItems.{PackedItems}
use Rattle.column_rows.specs.Items.{AreListsOf, HoldsListAt, SpellsListAt}
use Rattle.std.proofs.lemmas.List.{take_all, take_more}
use Rattle.key_index.proofs.KeptKeys.{live_type}
use Rattle.hol_paths.specs.Packed.{IsPackedList}
use Rattle.hol_paths.specs.Reached.{named_in}

get_inside : {X : Type 0} (xs : List X) (i : ℕ) → i < length xs → slice_get xs i ≡ None → ⊥
get_inside [] i within none = omega arith
get_inside (x ∷ xs) zero within none = cc
get_inside (x ∷ xs) (suc i) within none = get_inside xs i (omega arith) none

module _ (schemas : List Schema) (table : Table) (t o : ℕ) (items : PackedItems) (live : IsLive table t o) (lists : AreListsOf table t items) where
  there : (row : Row) × (row_at table t o ≡ Some row)
  there = by (row_at table t o) refl live
    where
      by : (row : Option Row) → row_at table t o ≡ row → IsSome row → (r : Row) × (row_at table t o ≡ Some r)
      by None is some = absurd cc
      by (Some row) is some = (row, is)

  pub list_held : HoldsListAt items o
  list_held = (lists o there.0 there.1).2

  in_range : IsTableOf schemas table → IsRowInRange there.0
  in_range fits = by (slice_get schemas t) refl
    where
      inside : t < length schemas
      inside = live_type schemas table t o fits live

      by : (schema : Option Schema) → slice_get schemas t ≡ schema → IsRowInRange there.0
      by None is = absurd (get_inside schemas t inside is)
      by (Some schema) is = fits.ranges t o schema there.0 is there.1

  pub list_read : IsTableOf schemas table → (found : Option Elements) → IfSome found (λ elements. (ordinals : List ℕ) → SpellsListAt items o ordinals → ordinals ≡ elements_of elements)
      → IfSome found (IsPackedList table t o)
  list_read fits None read = read
  list_read fits (Some elements) read =
      let list = lists o there.0 there.1 in
      let same : list.0 ≡ elements_of elements = read list.0 list.3 in
      (ap (named_in Element) (there.1 ∙ ap Some list.1) ∙ same, subst (All (λ number. number < 2 ^ 32)) same (subst IsRowInRange list.1 (in_range fits)))

-- one element more
pub element_more : (xs : List ℕ) (i x : ℕ) (start before after : List ℕ) → i < length xs → x ≡ get_or xs i 0 → before ≡ start ++ take i xs → after ≡ before ++ x ∷ [] → after ≡ start ++ take (i + 1) xs
element_more xs i x start before after below here so_far pushed =
    pushed ∙ ap (λ ys. ys ++ x ∷ []) so_far ∙ append_assoc start (take i xs) (x ∷ []) ∙ ap (λ z. start ++ (take i xs ++ z ∷ [])) here ∙ ap (λ ys. start ++ ys) (sym (take_more xs i 0 below))

pub elements_done : (xs : List ℕ) (i : ℕ) (start all : List ℕ) → length xs ≤ i → all ≡ start ++ take i xs → all ≡ start ++ xs
elements_done xs i start all past so_far = so_far ∙ ap (λ ys. start ++ ys) (take_all i xs past)
