-- Adding a tree asks for the rows of the previous state and of the cycle together: over tables that hold the same rows beside the previous state it goes the
-- same way.
use Rattle.std.proofs.Common.{ℕ, List, refl, sym, subst}
use Rattle.row_model.specs.declared.row.Row.{Row}
use Rattle.row_model.specs.declared.row.Value.{Value}
use Rattle.row_model.specs.PlainTree.{PlainTree, PlainTrees, PlainPairs, leaf, object, list, set, map, no_trees, tree_then, no_pairs, pair_then}
use Rattle.row_model.specs.Table.{Table}
use Rattle.schema_model.specs.declared.schema.Field.{Field}
use Rattle.schema_model.specs.declared.schema.Schema.{Schema}
use Rattle.write_engine.specs.Cycle.{Adds, AddsAll, AddsFields, AddsPairs, with_row}
use Rattle.write_engine.proofs.Parts.{AddsField}
use Rattle.hol_incremental.specs.Beside.{SameBeside}
use Rattle.hol_incremental.proofs.BesideRows.{puts_both}

module _ (schemas : List Schema) (previous : Table) where
  -- the tree is added over the other table too, under the same ordinal
  abbrev pub AddsBeside : ℕ → PlainTree → Table → ℕ → Table → Type 0
  AddsBeside t tree other ordinal after = (after' : Table) × Adds schemas previous t tree other ordinal after' × SameBeside previous after after'

  abbrev FieldBeside : Field → PlainTree → Table → Value → Table → Type 0
  FieldBeside field tree other value after = (after' : Table) × AddsField schemas previous field tree other value after' × SameBeside previous after after'

  field_beside : (tree : PlainTree) (field : Field) (before middle other : Table) (value : Value) → SameBeside previous before other
      → ((t o : ℕ) → Adds schemas previous t tree before o middle → AddsBeside t tree other o middle) → AddsField schemas previous field tree before value middle → FieldBeside field tree other value middle
  field_beside (leaf found) field before middle other value same each adds =
      (other, (adds.0, adds.1, adds.2, refl), subst (λ (one : Table). SameBeside previous one other) (sym adds.3) same)
  field_beside (object trees) field before middle other value same each adds = let beside = each adds.0 adds.1 adds.3 in (beside.0, (adds.0, adds.1, adds.2, beside.1, adds.4), beside.2)
  field_beside (list trees) field before middle other value same each adds = let beside = each adds.0 adds.1 adds.3 in (beside.0, (adds.0, adds.1, adds.2, beside.1, adds.4), beside.2)
  field_beside (set trees) field before middle other value same each adds = let beside = each adds.0 adds.1 adds.3 in (beside.0, (adds.0, adds.1, adds.2, beside.1, adds.4), beside.2)
  field_beside (map pairs) field before middle other value same each adds = let beside = each adds.0 adds.1 adds.3 in (beside.0, (adds.0, adds.1, adds.2, beside.1, adds.4), beside.2)

  mutual
    pub adds_beside : (tree : PlainTree) (t : ℕ) (before after other : Table) (ordinal : ℕ) → SameBeside previous before other → Adds schemas previous t tree before ordinal after → AddsBeside t tree other ordinal after
    adds_beside (leaf value) t before after other ordinal same adds = absurd adds
    adds_beside (object trees) t before after other ordinal same adds =
        let parts = fields_beside trees adds.0 before adds.2 other adds.1 same adds.4 in
        let put = puts_both previous adds.2 parts.0 after parts.2 t ordinal (Row.Object adds.1) adds.5 in
        (with_row parts.0 t ordinal (Row.Object adds.1), (adds.0, adds.1, parts.0, adds.3, parts.1, put.0), put.1)
    adds_beside (list trees) t before after other ordinal same adds =
        let parts = all_beside trees adds.0 before adds.2 other adds.1 same adds.4 in
        let put = puts_both previous adds.2 parts.0 after parts.2 t ordinal (Row.List adds.1) adds.5 in
        (with_row parts.0 t ordinal (Row.List adds.1), (adds.0, adds.1, parts.0, adds.3, parts.1, put.0), put.1)
    adds_beside (set trees) t before after other ordinal same adds =
        let parts = all_beside trees adds.0 before adds.2 other adds.1 same adds.4 in
        let put = puts_both previous adds.2 parts.0 after parts.2 t ordinal (Row.Set adds.5.0) adds.5.2 in
        (with_row parts.0 t ordinal (Row.Set adds.5.0), (adds.0, adds.1, parts.0, adds.3, parts.1, (adds.5.0, adds.5.1, put.0)), put.1)
    adds_beside (map pairs) t before after other ordinal same adds =
        let parts = pairs_beside pairs adds.0 before adds.2 other adds.1 same adds.4 in
        let put = puts_both previous adds.2 parts.0 after parts.2 t ordinal (Row.Map adds.5.0) adds.5.2 in
        (with_row parts.0 t ordinal (Row.Map adds.5.0), (adds.0, adds.1, parts.0, adds.3, parts.1, (adds.5.0, adds.5.1, put.0)), put.1)

    fields_beside : (trees : PlainTrees) (fields : List Field) (before after other : Table) (values : List Value) → SameBeside previous before other → AddsFields schemas previous fields trees before values after
        → (after' : Table) × AddsFields schemas previous fields trees other values after' × SameBeside previous after after'
    fields_beside no_trees fields before after other values same adds = (other, (adds.0, adds.1, refl), subst (λ (one : Table). SameBeside previous one other) (sym adds.2) same)
    fields_beside (tree_then tree trees) fields before after other values same adds =
        let first = field_beside tree adds.0 before adds.4 other adds.2 same (λ t o one. adds_beside tree t before adds.4 other o same one) adds.7 in
        let rest = fields_beside trees adds.1 adds.4 after first.0 adds.3 first.2 adds.8 in
        (rest.0, (adds.0, adds.1, adds.2, adds.3, first.0, adds.5, adds.6, first.1, rest.1), rest.2)

    all_beside : (trees : PlainTrees) (t : ℕ) (before after other : Table) (ordinals : List ℕ) → SameBeside previous before other → AddsAll schemas previous t trees before ordinals after
        → (after' : Table) × AddsAll schemas previous t trees other ordinals after' × SameBeside previous after after'
    all_beside no_trees t before after other ordinals same adds = (other, (adds.0, refl), subst (λ (one : Table). SameBeside previous one other) (sym adds.1) same)
    all_beside (tree_then tree trees) t before after other ordinals same adds =
        let first = adds_beside tree t before adds.2 other adds.0 same adds.4 in
        let rest = all_beside trees t adds.2 after first.0 adds.1 first.2 adds.5 in
        (rest.0, (adds.0, adds.1, first.0, adds.3, first.1, rest.1), rest.2)

    pairs_beside : (pairs : PlainPairs) (types : ℕ × ℕ) (before after other : Table) (added : List (ℕ × ℕ)) → SameBeside previous before other → AddsPairs schemas previous types pairs before added after
        → (after' : Table) × AddsPairs schemas previous types pairs other added after' × SameBeside previous after after'
    pairs_beside no_pairs types before after other added same adds = (other, (adds.0, refl), subst (λ (one : Table). SameBeside previous one other) (sym adds.1) same)
    pairs_beside (pair_then key value pairs) types before after other added same adds =
        let first = adds_beside key types.0 before adds.3 other adds.0 same adds.6 in
        let second = adds_beside value types.1 adds.3 adds.4 first.0 adds.1 first.2 adds.7 in
        let rest = pairs_beside pairs types adds.4 after second.0 adds.2 second.2 adds.8 in
        (rest.0, (adds.0, adds.1, adds.2, first.0, second.0, adds.5, first.1, second.1, rest.1), rest.2)
