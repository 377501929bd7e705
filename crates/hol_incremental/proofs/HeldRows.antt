-- A table whose rows all are named by others of it, down from rows that a closed table has, is a part of the closed one: types have no cycle.
use Rattle.std.proofs.Common.{◌≡◌, ◌∙◌, ◌⊎◌, ◌+◌, ℕ, zero, suc, List, [], ◌∷◌, Option, Some, None, length, slice_get, refl, sym, ap, subst, inl, inr, arith}
use Rattle.std.specs.Prelude.{IsSomeAnd, is_some}
use Rattle.std.proofs.lemmas.List.Elements.{All-contains}
use Rattle.schema_model.specs.declared.model.rule.Rule.TheVariants.{TooDeep}
use Rattle.schema_model.specs.declared.schema.name.Name.{Name}
use Rattle.schema_model.specs.declared.schema.Schema.{Schema}
use Rattle.schema_model.specs.Model.{HasChain, IsModel, type_graph}
use Rattle.schema_model.specs.Parts.{index_of_type, named_types}
use Rattle.row_model.specs.declared.row.Row.{Row}
use Rattle.row_model.specs.Row.{references_of_row}
use Rattle.row_model.specs.Table.{IsClosed, IsLive, IsLiveByName, Table, row_at}
use Rattle.row_model.proofs.RowsFrom.{get_in}
use Rattle.ordinal_map.proofs.SetRows.{same_rows}
use Rattle.write_engine.specs.Cycle.{rows_in}
use Rattle.write_engine.specs.RowDrops.{IsNamed}
use Rattle.write_engine.proofs.OneState.{same_some}
use Rattle.hol_incremental.proofs.OneRecord.{Stays}
use Rattle.hol_incremental.proofs.ShallowTypes.{chain_more, empty_chain, live_inside, live_row, live_type, names_of_type}

-- ---- parts of a table

-- a row of two parts of one table is the same
pub one_row_of : (one other whole : Table) → Stays one whole → Stays other whole → (t o : ℕ) (a b : Row) → row_at one t o ≡ Some a → row_at other t o ≡ Some b → a ≡ b
one_row_of one other whole part part' t o a b is is' = same_some a b (row_at whole t o) (part t o a is) (part' t o b is')

-- what is live in one part is a row of the other one, where it is live there
pub part_by_live : (one other whole : Table) → Stays one whole → Stays other whole → ((t o : ℕ) → IsLive one t o → IsLive other t o) → Stays one other
part_by_live one other whole part part' live t o row is =
    let there = live_row (row_at other t o) (live t o (ap is_some is)) in
    there.1 ∙ ap Some (sym (one_row_of one other whole part part' t o row there.0 is there.1))

same_at : (one other : Table) → Stays one other → Stays other one → (t o : ℕ) → row_at one t o ≡ row_at other t o
same_at one other forth back t o = of_option (row_at one t o) (row_at other t o) refl refl
  where
    of_option : (a b : Option Row) → row_at one t o ≡ a → row_at other t o ≡ b → row_at one t o ≡ row_at other t o
    of_option (Some row) b is is' = is ∙ sym (forth t o row is)
    of_option None (Some row) is is' = back t o row is' ∙ sym is'
    of_option None None is is' = is ∙ sym is'

equal_types : (one other : Table) → length one ≡ length other → ((t : ℕ) → rows_in one t ≡ rows_in other t) → one ≡ other
equal_types [] [] types same = refl
equal_types [] (r ∷ other) types same = absurd (omega (arith, types))
equal_types (r ∷ one) [] types same = absurd (omega (arith, types))
equal_types (r ∷ one) (s ∷ other) types same = let rest = equal_types one other (omega (arith, types)) (λ t. same (suc t)) in λ i. same 0 i ∷ rest i

-- two tables that are parts of one another are the same
pub equal_tables : (one other : Table) → length one ≡ length other → Stays one other → Stays other one → one ≡ other
equal_tables one other types forth back =
    equal_types one other types (λ t. same_rows (rows_in one t) (rows_in other t) (λ o. get_in one t o ∙ same_at one other forth back t o ∙ sym (get_in other t o)))

-- ---- down from the rows of a closed table

pub named_live : (schemas : List Schema) (table : Table) (name : Name) (t o : ℕ) → index_of_type schemas name ≡ Some t → IsLiveByName schemas table name o → IsLive table t o
named_live schemas table name t o is live = subst (λ index. IsSomeAnd index (λ u. IsLive table u o)) is live

module _ (schemas : List Schema) (model : IsModel schemas) (table left whole : Table) (types : length table ≡ length schemas) (part : Stays table whole) (part_left : Stays left whole) (closed : IsClosed schemas left)
    (reached : (t o : ℕ) → IsLive table t o → IsLive left t o ⊎ IsNamed schemas table t o) where
  -- a row that is named by a row of the closed table is there
  below : (t o : ℕ) → (named : IsNamed schemas table t o) → IsLive left named.type_index named.place → IsLive left t o
  below t o named above =
      let there = live_row (row_at left named.type_index named.place) above in
      let same : there.0 ≡ named.row = one_row_of left table whole part_left part named.type_index named.place there.0 named.row there.1 named.row_is in
      let at : row_at left named.type_index named.place ≡ Some named.row = there.1 ∙ ap Some same in
      named_live schemas left named.name t o named.type_is
      (All-contains (λ (row : Name × ℕ). IsLiveByName schemas left row.0 row.1) (references_of_row named.schema.shape named.row) (named.name, o)
      (closed named.type_index named.place named.schema named.row named.schema_is at) named.names)

  -- the type that names a type stands above it
  above_type : (t o n : ℕ) → (named : IsNamed schemas table t o) → HasChain (type_graph schemas) n t → HasChain (type_graph schemas) (suc n) named.type_index
  above_type t o n named chain =
      let stands = All-contains (λ (row : Name × ℕ). (j : ℕ) × (slice_get (named_types named.schema) j ≡ Some row.0)) (references_of_row named.schema.shape named.row) (named.name, o)
      (names_of_type schemas table named.type_index named.place named.schema named.row named.schema_is) named.names in
      chain_more schemas n named.type_index named.schema named.schema_is named.name stands.0 t stands.1 named.type_is chain

  held_from : (fuel n : ℕ) → n + fuel ≡ 32 → (t o : ℕ) → HasChain (type_graph schemas) n t → IsLive table t o → IsLive left t o
  held_from zero n sum t o chain live =
      let (schema, found) = live_type schemas table t o types live in
      absurd (model TooDeep t (schema, found, subst (λ m. HasChain (type_graph schemas) m t) (omega arith) chain))
  held_from (suc fuel) n sum t o chain live =
      elim (reached t o live) [
        | inl there ↦ there
        | inr named ↦ below t o named (held_from fuel (suc n) (omega arith) named.type_index named.place (above_type t o n named chain) (ap is_some named.row_is))
      ]

  pub held_part : Stays table left
  held_part = part_by_live table left whole part part_left (λ t o live. held_from 32 0 refl t o (empty_chain schemas t (let within = live_inside table t o live in omega (arith, within, types))) live)
