-- A row is named exactly where it is counted.
use Rattle.std.proofs.Common.{◌≡◌, ◌∙◌, ◌⊎◌, ◌↔◌, ◌<◌, ℕ, zero, suc, List, [], ◌∷◌, Bool, true, false, cond, Option, Some, None, slice_get, zip, refl, sym, ap, subst, inl, inr, arith}
use Rattle.std.specs.Prelude.{Contains, nat_eq, option_and_then, option_map, sum_by, ◌&&◌}
use Rattle.std.specs.List.{cons_option}
use Rattle.std.specs.FinMap.{get}
use Rattle.std.proofs.lemmas.Bool.{and_parts, cases_lt}
use Rattle.std.proofs.lemmas.List.Elements.{All-contains, All-contains_itself}
use Rattle.std.proofs.lemmas.List.Sums.{get_or-le-sum_by, sum_by-cons}
use Rattle.schema_model.specs.declared.schema.name.Name.{Name}
use Rattle.schema_model.specs.declared.schema.Schema.{Schema}
use Rattle.schema_model.specs.Parts.{index_of_type}
use Rattle.row_model.specs.declared.row.Row.{Row}
use Rattle.row_model.specs.BothStates.{rows_from}
use Rattle.row_model.specs.Row.{references_of_row}
use Rattle.row_model.specs.Table.{RowMap, Table, row_at}
use Rattle.row_packing.proofs.RowsUnder.{all_in, each_in}
use Rattle.write_engine.specs.RowDrops.{IsNamed}
use Rattle.write_engine.proofs.Members.{same_test}
use Rattle.hol_incremental.specs.Counts.{added_up, indexed, is_row, named_by, times_among, times_named}
use Rattle.hol_incremental.proofs.Among.{first_in, later_in, none_in, parted}

-- ---- sums above 0

module _ {X : Type 0} (f : X → ℕ) where
  pub above_none : (xs : List X) → 0 < sum_by f xs → (x : X) × Contains xs x × (0 < f x)
  above_none [] above = absurd (omega arith)
  above_none (x ∷ xs) above =
      elim (cases_lt 0 (f x)) [
        | inl here ↦ (x, first_in x xs, here)
        | inr none ↦
            (let sum = sum_by-cons f x xs in
            let rest = above_none xs (omega (arith, sum, above, none)) in
            (rest.0, later_in x xs rest.0 rest.1, rest.2))
      ]

  pub some_above : (xs : List X) (x : X) → Contains xs x → 0 < f x → 0 < sum_by f xs
  some_above xs x (k, inside, at) above = let most = get_or-le-sum_by f xs k x inside in let same = ap f at in omega (arith, most, same, above)

-- ---- names among those of a row

is_one : (b : Bool) → 0 < cond b 1 0 → b ≡ true
is_one true above = refl
is_one false above = absurd (omega arith)

one_above : (b : Bool) → b ≡ true → 0 < cond b 1 0
one_above true is = omega arith
one_above false is = absurd cc

tested : (a b : ℕ) → nat_eq a b ≡ true → a ≡ b
tested a b is = grind arith

row_is : (t o : ℕ) (named : ℕ × ℕ) → is_row t o named ≡ true → named ≡ (t, o)
row_is t o named is =
    let parts = and_parts (nat_eq named.0 t) (nat_eq named.1 o) is in
    let first = tested named.0 t parts.0 in
    let second = tested named.1 o parts.1 in
    λ i. (first i, second i)

is_itself : (t o : ℕ) → is_row t o (t, o) ≡ true
is_itself t o = ap (λ b. b && nat_eq o o) (same_test t t refl) ∙ same_test o o refl

pub among_counted : (t o : ℕ) (named : List (ℕ × ℕ)) → 0 < times_among t o named → Contains named (t, o)
among_counted t o named above =
    let found = above_none (λ row. cond (is_row t o row) 1 0) named above in
    subst (Contains named) (row_is t o found.0 (is_one (is_row t o found.0) found.2)) found.1

pub counted_among : (t o : ℕ) (named : List (ℕ × ℕ)) → Contains named (t, o) → 0 < times_among t o named
counted_among t o named among = some_above (λ row. cond (is_row t o row) 1 0) named (t, o) among (one_above (is_row t o (t, o)) (is_itself t o))

-- ---- by name and by index

module _ (schemas : List Schema) where
  abbrev at_index : Name × ℕ → Option (ℕ × ℕ)
  at_index named = option_map (λ t. (t, named.1)) (index_of_type schemas named.0)

  cons_in : (found : Option (ℕ × ℕ)) (rest : List (ℕ × ℕ)) (t o : ℕ) → Contains (cons_option found rest) (t, o) → (found ≡ Some (t, o)) ⊎ Contains rest (t, o)
  cons_in None rest t o among = inr among
  cons_in (Some row) rest t o among = elim (parted row rest (t, o) among) [
    | inl same ↦ inl (ap Some same)
    | inr there ↦ inr there
  ]

  in_cons : (found : Option (ℕ × ℕ)) (rest : List (ℕ × ℕ)) (t o : ℕ) → (found ≡ Some (t, o)) ⊎ Contains rest (t, o) → Contains (cons_option found rest) (t, o)
  in_cons found rest t o (inl is) = subst (λ f. Contains (cons_option f rest) (t, o)) (sym is) (first_in (t, o) rest)
  in_cons None rest t o (inr there) = there
  in_cons (Some row) rest t o (inr there) = later_in row rest (t, o) there

  of_index : (named : Name × ℕ) (found : Option ℕ) (t o : ℕ) → option_map {U = ℕ × ℕ} (λ u. (u, named.1)) found ≡ Some (t, o) → (found ≡ Some t) × (named.1 ≡ o)
  of_index named None t o is = absurd cc
  of_index named (Some u) t o is =
      let same : ◌≡◌ {A = ℕ × ℕ} (u, named.1) (t, o) = cc in
      (ap (λ (p : ℕ × ℕ). Some p.0) same, ap (λ (p : ℕ × ℕ). p.1) same)

  pub name_in : (references : List (Name × ℕ)) (t o : ℕ) → Contains (indexed schemas references) (t, o) → (name : Name) × Contains references (name, o) × (index_of_type schemas name ≡ Some t)
  name_in [] t o among = absurd (none_in (t, o) among)
  name_in (named ∷ references) t o among =
      elim (cons_in (at_index named) (indexed schemas references) t o among) [
        | inl here ↦
            (let is = of_index named (index_of_type schemas named.0) t o here in
            (named.0, subst (λ n. Contains (named ∷ references) (named.0, n)) is.1 (first_in named references), is.0))
        | inr there ↦ (let rest = name_in references t o there in (rest.0, later_in named references (rest.0, o) rest.1, rest.2))
      ]

  pub in_indexed : (references : List (Name × ℕ)) (name : Name) (t o : ℕ) → Contains references (name, o) → index_of_type schemas name ≡ Some t → Contains (indexed schemas references) (t, o)
  in_indexed [] name t o among is = absurd (none_in (name, o) among)
  in_indexed (named ∷ references) name t o among is =
      elim (parted named references (name, o) among) [
        | inl same ↦
            in_cons (at_index named) (indexed schemas references) t o
            (inl (ap at_index same ∙ ap (λ (found : Option ℕ). option_map (λ u. (u, o)) found) is))
        | inr there ↦ in_cons (at_index named) (indexed schemas references) t o (inr (in_indexed references name t o there is))
      ]

-- ---- the rows of a table

-- a schema and the rows of its type
in_zip : (schemas : List Schema) (table : Table) (u : ℕ) (schema : Schema) (rows : RowMap) → slice_get schemas u ≡ Some schema → slice_get table u ≡ Some rows → Contains (zip schemas table) (schema, rows)
in_zip [] table u schema rows is is' = absurd cc
in_zip (s ∷ schemas) [] u schema rows is is' = absurd cc
in_zip (s ∷ schemas) (r ∷ table) zero schema rows is is' =
    let one : s ≡ schema = cc in
    let two : r ≡ rows = cc in
    subst (Contains ((s, r) ∷ zip schemas table)) (λ i. (one i, two i)) (first_in (s, r) (zip schemas table))
in_zip (s ∷ schemas) (r ∷ table) (suc u) schema rows is is' = later_in (s, r) (zip schemas table) (schema, rows) (in_zip schemas table u schema rows is is')

of_zip : (schemas : List Schema) (table : Table) (part : Schema × RowMap) → Contains (zip schemas table) part → (u : ℕ) × (slice_get schemas u ≡ Some part.0) × (slice_get table u ≡ Some part.1)
of_zip [] table part among = absurd (none_in part among)
of_zip (s ∷ schemas) [] part among = absurd (none_in part among)
of_zip (s ∷ schemas) (r ∷ table) part among =
    elim (parted (s, r) (zip schemas table) part among) [
      | inl same ↦ (0, ap (λ (p : Schema × RowMap). Some p.0) same, ap (λ (p : Schema × RowMap). Some p.1) same)
      | inr there ↦ (let rest = of_zip schemas table part there in (suc rest.0, rest.1, rest.2))
    ]

rows_there : (table : Table) (u o : ℕ) (row : Row) → row_at table u o ≡ Some row → (rows : RowMap) × (slice_get table u ≡ Some rows) × (get rows o ≡ Some row)
rows_there table u o row is = of_option (slice_get table u) refl is
  where
    of_option : (found : Option RowMap) → slice_get table u ≡ found → option_and_then (λ rows. get rows o) found ≡ Some row → (rows : RowMap) × (slice_get table u ≡ Some rows) × (get rows o ≡ Some row)
    of_option None e is = absurd cc
    of_option (Some rows) e is = (rows, e, is)

-- a sum over the rows of a table is above 0 where that of a row is
module _ (of : Schema → Row → ℕ) (schemas : List Schema) (table : Table) where
  pub added_above : (u o : ℕ) (schema : Schema) (row : Row) → slice_get schemas u ≡ Some schema → row_at table u o ≡ Some row → 0 < of schema row → 0 < added_up of schemas table
  unfolding added_up
  added_above u o schema row is at above =
      let there = rows_there table u o row at in
      some_above (λ (part : Schema × RowMap). sum_by (of part.0) (rows_from 0 part.1)) (zip schemas table) (schema, there.0) (in_zip schemas table u schema there.0 is there.1)
      (some_above (of schema) (rows_from 0 there.0) row (each_in (Contains (rows_from 0 there.0)) there.0 o row (All-contains_itself (rows_from 0 there.0)) there.2) above)

  pub above_added : 0 < added_up of schemas table → (u : ℕ) × (o : ℕ) × (schema : Schema) × (row : Row) × (slice_get schemas u ≡ Some schema) × (row_at table u o ≡ Some row) × (0 < of schema row)
  unfolding added_up
  above_added above =
      let part = above_none (λ (p : Schema × RowMap). sum_by (of p.0) (rows_from 0 p.1)) (zip schemas table) above in
      let type = of_zip schemas table part.0 part.1 in
      let found = above_none (of part.0.0) (rows_from 0 part.0.1) part.2 in
      let place = All-contains (λ row. (o : ℕ) × (get part.0.1 o ≡ Some row)) (rows_from 0 part.0.1) found.0 (all_in (λ row. (o : ℕ) × (get part.0.1 o ≡ Some row)) part.0.1 (λ o row is. (o, is))) found.1 in
      (type.0, place.0, part.0.0, found.0, type.1, ap (option_and_then (λ rows. get rows place.0)) type.2 ∙ place.1, found.2)

pub named_where_counted : (schemas : List Schema) (table : Table) (t o : ℕ) → IsNamed schemas table t o ↔ (0 < times_named schemas table t o)
named_where_counted schemas table t o = (counted, is_named)
  where
    counted : IsNamed schemas table t o → 0 < times_named schemas table t o
    counted named =
        added_above (λ schema row. times_among t o (named_by schemas schema.shape row)) schemas table named.type_index named.place named.schema named.row named.schema_is named.row_is
        (counted_among t o (named_by schemas named.schema.shape named.row) (in_indexed schemas (references_of_row named.schema.shape named.row) named.name t o named.names named.type_is))

    is_named : 0 < times_named schemas table t o → IsNamed schemas table t o
    is_named above =
        let found = above_added (λ schema row. times_among t o (named_by schemas schema.shape row)) schemas table above in
        let name = name_in schemas (references_of_row found.2.shape found.3) t o (among_counted t o (named_by schemas found.2.shape found.3) found.6) in
        record { type_index = found.0; place = found.1; schema = found.2; row = found.3; name = name.0; schema_is = found.4; row_is = found.5; names = name.1; type_is = name.2 }
