use Rattle.std.proofs.Common.{arith, refl, sym, ap, subst, ◌∙◌, ◌≡◌, ◌++◌, ◌∷◌, [], ◌+◌, ◌<◌, ℕ, Some, get_or, map, zip, length, slice_get}
use Rattle.std.specs.Prelude.{IsSomeAnd}
use Rattle.std.proofs.lemmas.List.{get_or_default, take_all}
use Rattle.serde_json.specs.Data.{Data, array, put, object as object_data}
use Rattle.serde_json.specs.View.{view, items_of, members_view}
use Rattle.serde_json.proofs.Views.{view-Array, view-Object}
use Rattle.schema_model.specs.declared.schema.Field.{Field}
use Rattle.schema_model.specs.declared.schema.Schema.{Schema}
use Rattle.row_model.specs.declared.row.Value.{Value}
use Rattle.schema_model.specs.Parts.{field_names, index_of_type}
use Rattle.row_model.specs.PlainTree.{node_count}
use Rattle.row_model.specs.Row.{references_of_row}
use Rattle.json_rows.specs.StoredRow.{members_of_fields}
use Rattle.json_rows.proofs.Records.{fits_long}
use Rattle.record_json.specs.PrintTree.{PrintsField, PrintsPair}
use Rattle.record_json.specs.Printing.{CanPrintValue, PrintsItems, PrintsNamed, PrintsValued, count_of, count_pair, tree_of_field, unfold_named, unfold_pair}
use Rattle.record_json.proofs.PrintingFronts.{IsPrintedFront, length_zipped, longer_by, printed_more, printed_none, printed_stops, printed_whole, views_more, zipped_at}
use Rattle.record_json.proofs.PrintingNames.{ordinals_can, pairs_can, reference_can, row_fits, row_reached, values_can}
use Rattle.record_json.proofs.PrintingRows.{list_tells, map_tells, members_more, named_deep, named_live, named_shallow, named_tells, record_tells, reference_tells, set_tells, stopped}
use Rattle.record_json.proofs.printed.+printing.Goals as goal

-- ---- the elements of a list or a set

pub elements_value-loop-ordinal-preserved : goal.elements_value-loop-ordinal-preserved
elements_value-loop-ordinal-preserved g t c =
    let S = g.R.Rows.schemas c.args.rows.now in
    let T = g.R.Rows.table c.args.rows.now in
    let Prints : ℕ → Data → Type 0 = λ ordinal part. PrintsNamed S c.args.depth c.args.element.now (unfold_named S T c.args.depth c.args.element.now ordinal) part in
    let nodes : ℕ → ℕ = λ ordinal. node_count (unfold_named S T c.args.depth c.args.element.now ordinal) in
    let xs = c.args.ordinals.now in
    let i = c.loop-ordinal.ordinal-index in
    let x = get_or xs i 0 in
    subst (IsPrintedFront Prints nodes xs (i + 1) c.args.budget.now c.named_value.new.budget) (sym (views_more c.loop-ordinal.parts.items c.push.new.self.items c.in_ok-named_value.field-0 c.in_ok-push.ensures.items))
    (printed_more Prints nodes xs i c.args.budget.now c.loop-ordinal.budget c.named_value.new.budget (map view c.loop-ordinal.parts.items) x (view c.in_ok-named_value.field-0) c.loop-ordinal-test.true (get_or_default xs i 0 x c.loop-ordinal-test.true)
    c.loop-ordinal.invariant c.in_ok-named_value.ensures.0 c.in_ok-named_value.ensures.1)

pub elements_value-returns-in_err-named_value : goal.elements_value-returns-in_err-named_value
elements_value-returns-in_err-named_value g t c =
    let S = g.R.Rows.schemas c.args.rows.now in
    let T = g.R.Rows.table c.args.rows.now in
    let Prints : ℕ → Data → Type 0 = λ ordinal part. PrintsNamed S c.args.depth c.args.element.now (unfold_named S T c.args.depth c.args.element.now ordinal) part in
    let nodes : ℕ → ℕ = λ ordinal. node_count (unfold_named S T c.args.depth c.args.element.now ordinal) in
    let xs = c.args.ordinals.now in
    let i = c.loop-ordinal.ordinal-index in
    let x = get_or xs i 0 in
    stopped view view (PrintsNamed S c.args.depth c.args.element.now (unfold_named S T c.args.depth c.args.element.now x)) (PrintsItems Prints xs) (nodes x) (count_of nodes xs) c.args.budget.now c.loop-ordinal.budget c.named_value.new.budget c.named_value.new.budget c.in_err-named_value.field-0.0 c.from_residual.result c.from_residual.ensures.1
    (printed_stops Prints nodes xs i c.args.budget.now c.loop-ordinal.budget (map view c.loop-ordinal.parts.items) x c.loop-ordinal-test.true (get_or_default xs i 0 x c.loop-ordinal-test.true) c.loop-ordinal.invariant) c.in_err-named_value.ensures

pub elements_value-returns : goal.elements_value-returns
elements_value-returns g t c =
    let S = g.R.Rows.schemas c.args.rows.now in
    let T = g.R.Rows.table c.args.rows.now in
    let Prints : ℕ → Data → Type 0 = λ ordinal part. PrintsNamed S c.args.depth c.args.element.now (unfold_named S T c.args.depth c.args.element.now ordinal) part in
    let nodes : ℕ → ℕ = λ ordinal. node_count (unfold_named S T c.args.depth c.args.element.now ordinal) in
    let xs = c.args.ordinals.now in
    let i = c.loop-ordinal.ordinal-index in
    let whole = printed_whole Prints nodes xs i c.args.budget.now c.loop-ordinal.budget (map view c.loop-ordinal.parts.items) c.loop-ordinal-test.false c.loop-ordinal.invariant in
    ((map view c.loop-ordinal.parts.items, whole.0, view-Array c.loop-ordinal.parts), whole.1)

-- ---- the pairs of a map

pub pair_value-returns : goal.pair_value-returns
pair_value-returns g t c =
    let first = c.in_ok-named_value.ensures in
    let second = c.in_ok-named_value-2.ensures in
    let one = first.1 in
    let two = second.1 in
    let items : c.push-2.new.self.items ≡ c.in_ok-named_value.field-0 ∷ c.in_ok-named_value-2.field-0 ∷ [] =
    c.in_ok-push-2.ensures.items ∙ ap (λ vs. vs ++ c.in_ok-named_value-2.field-0 ∷ []) (c.in_ok-push.ensures.items ∙ ap (λ vs. vs ++ c.in_ok-named_value.field-0 ∷ []) c.new-both.ensures.items) in
    ((view c.in_ok-named_value.field-0, view c.in_ok-named_value-2.field-0, first.0, second.0, view-Array c.push-2.new.self ∙ ap (λ vs. array (items_of (map view vs))) items), omega (arith, one, two))

pub pairs_value-pair_value-requires : goal.pairs_value-pair_value-requires
pairs_value-pair_value-requires g t c = λ κs within. (
  (let here = c.decreases in omega (arith, here)),
  (within, (c.requires.each c.loop-pair.pair-index (0, 0) c.loop-pair-test.true, c.requires.closed)),
)

pub pairs_value-loop-pair-preserved : goal.pairs_value-loop-pair-preserved
pairs_value-loop-pair-preserved g t c =
    let S = g.R.Rows.schemas c.args.rows.now in
    let T = g.R.Rows.table c.args.rows.now in
    let Prints : ℕ × ℕ → Data → Type 0 = λ pair part. PrintsPair (PrintsNamed S c.args.depth) c.args.key.now c.args.value.now (unfold_pair S T c.args.depth c.args.key.now c.args.value.now pair) part in
    let nodes : ℕ × ℕ → ℕ = λ pair. count_pair (unfold_pair S T c.args.depth c.args.key.now c.args.value.now pair) in
    let xs = c.args.pairs.now in
    let i = c.loop-pair.pair-index in
    let x = get_or xs i (0, 0) in
    subst (IsPrintedFront Prints nodes xs (i + 1) c.args.budget.now c.pair_value.new.budget) (sym (views_more c.loop-pair.parts.items c.push.new.self.items c.in_ok-pair_value.field-0 c.in_ok-push.ensures.items))
    (printed_more Prints nodes xs i c.args.budget.now c.loop-pair.budget c.pair_value.new.budget (map view c.loop-pair.parts.items) x (view c.in_ok-pair_value.field-0) c.loop-pair-test.true (get_or_default xs i (0, 0) x c.loop-pair-test.true)
    c.loop-pair.invariant c.in_ok-pair_value.ensures.0 c.in_ok-pair_value.ensures.1)

pub pairs_value-returns-in_err-pair_value : goal.pairs_value-returns-in_err-pair_value
pairs_value-returns-in_err-pair_value g t c =
    let S = g.R.Rows.schemas c.args.rows.now in
    let T = g.R.Rows.table c.args.rows.now in
    let Prints : ℕ × ℕ → Data → Type 0 = λ pair part. PrintsPair (PrintsNamed S c.args.depth) c.args.key.now c.args.value.now (unfold_pair S T c.args.depth c.args.key.now c.args.value.now pair) part in
    let nodes : ℕ × ℕ → ℕ = λ pair. count_pair (unfold_pair S T c.args.depth c.args.key.now c.args.value.now pair) in
    let xs = c.args.pairs.now in
    let i = c.loop-pair.pair-index in
    let x = get_or xs i (0, 0) in
    stopped view view (Prints x) (PrintsItems Prints xs) (nodes x) (count_of nodes xs) c.args.budget.now c.loop-pair.budget c.pair_value.new.budget c.pair_value.new.budget c.in_err-pair_value.field-0.0 c.from_residual.result c.from_residual.ensures.1
    (printed_stops Prints nodes xs i c.args.budget.now c.loop-pair.budget (map view c.loop-pair.parts.items) x c.loop-pair-test.true (get_or_default xs i (0, 0) x c.loop-pair-test.true) c.loop-pair.invariant) c.in_err-pair_value.ensures

pub pairs_value-returns : goal.pairs_value-returns
pairs_value-returns g t c =
    let S = g.R.Rows.schemas c.args.rows.now in
    let T = g.R.Rows.table c.args.rows.now in
    let Prints : ℕ × ℕ → Data → Type 0 = λ pair part. PrintsPair (PrintsNamed S c.args.depth) c.args.key.now c.args.value.now (unfold_pair S T c.args.depth c.args.key.now c.args.value.now pair) part in
    let nodes : ℕ × ℕ → ℕ = λ pair. count_pair (unfold_pair S T c.args.depth c.args.key.now c.args.value.now pair) in
    let xs = c.args.pairs.now in
    let i = c.loop-pair.pair-index in
    let whole = printed_whole Prints nodes xs i c.args.budget.now c.loop-pair.budget (map view c.loop-pair.parts.items) c.loop-pair-test.false c.loop-pair.invariant in
    ((map view c.loop-pair.parts.items, whole.0, view-Array c.loop-pair.parts), whole.1)

-- ---- the fields of a record

pub record_value-loop-place-init : goal.record_value-loop-place-init
record_value-loop-place-init g t c =
    let S = g.R.Rows.schemas c.args.rows.now in
    let T = g.R.Rows.table c.args.rows.now in
    let Prints : Field × Value → Data → Type 0 = λ valued part. PrintsField (PrintsNamed S c.args.depth) valued.0.kind (tree_of_field S T c.args.depth valued) part in
    let nodes : Field × Value → ℕ = λ valued. node_count (tree_of_field S T c.args.depth valued) in
    ([], printed_none Prints nodes (zip c.args.fields.now c.args.values.now) c.args.budget.now, refl, ap members_view c.new-members.ensures.empty)

pub record_value-field_value-requires : goal.record_value-field_value-requires
record_value-field_value-requires g t c = λ κs within. (
  (let here = c.decreases in omega (arith, here)),
  (
    within,
    (
      (let i = c.loop-place.place in
          let field = c.index-fields-place.result in
          let value = c.index-values-place.result in
          let at = zipped_at c.args.fields.now c.args.values.now i field value c.requires.long c.loop-place-test.true c.index-fields-place.is c.index-values-place.is in
          subst (λ (valued : Field × Value). CanPrintValue (g.R.Rows.schemas c.args.rows.now) (g.R.Rows.table c.args.rows.now) c.args.depth valued.0.kind valued.1) (sym at.1) (c.requires.each i (field, value) at.0)),
      c.requires.closed,
    ),
  ),
)

pub record_value-loop-place-preserved : goal.record_value-loop-place-preserved
record_value-loop-place-preserved g t c =
    let S = g.R.Rows.schemas c.args.rows.now in
    let T = g.R.Rows.table c.args.rows.now in
    let Prints : Field × Value → Data → Type 0 = λ valued part. PrintsField (PrintsNamed S c.args.depth) valued.0.kind (tree_of_field S T c.args.depth valued) part in
    let nodes : Field × Value → ℕ = λ valued. node_count (tree_of_field S T c.args.depth valued) in
    let xs = zip c.args.fields.now c.args.values.now in
    let i = c.loop-place.place in
    let field = c.index-fields-place.result in
    let value = c.index-values-place.result in
    let at = zipped_at c.args.fields.now c.args.values.now i field value c.requires.long c.loop-place-test.true c.index-fields-place.is c.index-values-place.is in
    let (parts, front, long, members) = c.loop-place.invariant in
    let part = view c.in_ok-printed.printed in
    let inside : i < length c.args.fields.now = let within = c.loop-place-test.true in let same = c.requires.long in omega (arith, within, same) in
    let text_is : c.text.result.now ≡ field.name = c.text.ensures in
    let is_put : members_view c.put.new.map.entries ≡ put field.name part (members_view c.loop-place.members.entries) =
    c.in_ok-put.ensures.ok ∙ ap (λ name. put name part (members_view c.loop-place.members.entries)) text_is in (
      parts ++ part ∷ [],
      printed_more Prints nodes xs i c.args.budget.now c.loop-place.budget c.field_value.new.budget parts (field, value) part at.0 at.1 front c.in_ok-printed.ensures.0 c.in_ok-printed.ensures.1,
      longer_by parts part i long,
      members_more c.args.fields.now i field parts part (members_view c.loop-place.members.entries) (members_view c.put.new.map.entries) inside c.index-fields-place.is long members is_put,
    )

pub record_value-returns-in_err-printed : goal.record_value-returns-in_err-printed
record_value-returns-in_err-printed g t c =
    let S = g.R.Rows.schemas c.args.rows.now in
    let T = g.R.Rows.table c.args.rows.now in
    let Prints : Field × Value → Data → Type 0 = λ valued part. PrintsField (PrintsNamed S c.args.depth) valued.0.kind (tree_of_field S T c.args.depth valued) part in
    let nodes : Field × Value → ℕ = λ valued. node_count (tree_of_field S T c.args.depth valued) in
    let xs = zip c.args.fields.now c.args.values.now in
    let i = c.loop-place.place in
    let field = c.index-fields-place.result in
    let value = c.index-values-place.result in
    let at = zipped_at c.args.fields.now c.args.values.now i field value c.requires.long c.loop-place-test.true c.index-fields-place.is c.index-values-place.is in
    let (parts, front, long, members) = c.loop-place.invariant in
    stopped view view (Prints (field, value)) (PrintsValued (PrintsNamed S c.args.depth) (unfold_named S T c.args.depth) c.args.fields.now c.args.values.now) (nodes (field, value)) (count_of nodes xs) c.args.budget.now c.loop-place.budget c.field_value.new.budget c.field_value.new.budget c.in_err-printed.field-0.0 c.from_residual.result c.from_residual.ensures.1
    (printed_stops Prints nodes xs i c.args.budget.now c.loop-place.budget parts (field, value) at.0 at.1 front) c.in_err-printed.ensures

pub record_value-returns : goal.record_value-returns
record_value-returns g t c =
    let S = g.R.Rows.schemas c.args.rows.now in
    let T = g.R.Rows.table c.args.rows.now in
    let Prints : Field × Value → Data → Type 0 = λ valued part. PrintsField (PrintsNamed S c.args.depth) valued.0.kind (tree_of_field S T c.args.depth valued) part in
    let nodes : Field × Value → ℕ = λ valued. node_count (tree_of_field S T c.args.depth valued) in
    let xs = zip c.args.fields.now c.args.values.now in
    let i = c.loop-place.place in
    let (parts, front, long, members) = c.loop-place.invariant in
    let past = c.loop-place-test.false in
    let same = c.requires.long in
    let whole = printed_whole Prints nodes xs i c.args.budget.now c.loop-place.budget parts (let l = length_zipped c.args.fields.now c.args.values.now same in omega (arith, l, past)) front in
    ((parts, whole.0, view-Object c.loop-place.members ∙ ap object_data (members ∙ ap (λ fs. members_of_fields (zip (field_names fs) parts)) (take_all i c.args.fields.now (omega (arith, past, same))))), whole.1)

-- ---- the record that a REFERENCE refers to

pub field_value-named_value-requires : goal.field_value-named_value-requires
field_value-named_value-requires g t c = λ κs within. (
  (let here = c.decreases in omega (arith, here)),
  (within, (reference_can (g.R.Rows.schemas c.args.rows.now) (g.R.Rows.table c.args.rows.now) c.args.depth c.in-Reference-Ref.name c.in-Reference-Ref.ordinal c.args.kind.now c.args.value.now c.in-Reference-Ref.is-0 c.in-Reference-Ref.is-1 c.requires.can, c.requires.closed)),
)

pub field_value-returns-in-Reference-Ref : goal.field_value-returns-in-Reference-Ref
field_value-returns-in-Reference-Ref g t c =
    reference_tells (g.R.Rows.schemas c.args.rows.now) (g.R.Rows.table c.args.rows.now) c.args.depth c.in-Reference-Ref.name c.in-Reference-Ref.ordinal c.args.budget.now c.named_value.new.budget c.args.kind.now c.args.value.now c.named_value.result
    c.in-Reference-Ref.is-0 c.in-Reference-Ref.is-1 c.named_value.ensures

-- ---- the row of the type of a name

pub named_value-overflow_sub-depth : goal.named_value-overflow_sub-depth
named_value-overflow_sub-depth g t c =
    let S = g.R.Rows.schemas c.args.rows.now in
    let is = c.in-Some.ensures.value ∙ ap (λ m. index_of_type m c.text.result.now) c.model-model.ensures.model ∙ ap (index_of_type S) c.text.ensures in
    named_deep S (g.R.Rows.table c.args.rows.now) c.args.depth c.args.name.now c.args.ordinal c.in-Some.type_index is c.requires.there

pub named_value-row_value-requires : goal.named_value-row_value-requires
named_value-row_value-requires g t c = λ κs within.
    let S = g.R.Rows.schemas c.args.rows.now in
    let T = g.R.Rows.table c.args.rows.now in
    let u = c.in-Some.type_index in
    let is = c.in-Some.ensures.value ∙ ap (λ m. index_of_type m c.text.result.now) c.model-model.ensures.model ∙ ap (index_of_type S) c.text.ensures in
    let found : slice_get S u ≡ Some c.schema.result.now = subst (λ m. slice_get m u ≡ Some c.schema.result.now) c.model-model.ensures.model c.schema.ensures.value in (
      (let here = c.decreases in let deep = named_deep S T c.args.depth c.args.name.now c.args.ordinal u is c.requires.there in omega (arith, here, deep)),
      (
        within,
        (
          subst (λ o. IsSomeAnd o (λ (s : Schema). s.shape ≡ c.schema.result.now.shape)) (sym found) refl,
          (
            named_live S T c.args.depth c.args.name.now c.args.ordinal u is c.requires.there,
            (named_shallow S T c.args.depth c.args.name.now c.args.ordinal u is c.requires.there, (c.model-model.ensures.fits, c.requires.closed)),
          ),
        ),
      ),
    )

pub named_value-returns : goal.named_value-returns
named_value-returns g t c =
    let S = g.R.Rows.schemas c.args.rows.now in
    let is = c.in-Some.ensures.value ∙ ap (λ m. index_of_type m c.text.result.now) c.model-model.ensures.model ∙ ap (index_of_type S) c.text.ensures in
    named_tells S (g.R.Rows.table c.args.rows.now) c.args.depth c.args.name.now c.args.ordinal c.in-Some.type_index is c.requires.there c.args.budget.now c.row_value.new.budget c.row_value.result c.row_value.ensures

pub row_value-shaped_value-requires : goal.row_value-shaped_value-requires
row_value-shaped_value-requires g t c = λ κs within.
    let S = g.R.Rows.schemas c.args.rows.now in
    let T = g.R.Rows.table c.args.rows.now in (
      (let here = c.decreases in omega (arith, here)),
      (
        within,
        (
          row_fits S T c.args.depth c.args.type_index c.args.ordinal c.args.shape.now c.in_ok-row.row c.requires.fits c.requires.shape c.in_ok-row.ensures,
          (row_reached S T c.args.depth c.args.type_index c.args.ordinal c.args.shape.now c.in_ok-row.row c.requires.closed c.requires.shallow c.requires.shape c.in_ok-row.ensures, c.requires.closed),
        ),
      ),
    )

-- ---- the row of each shape

pub shaped_value-record_value-requires : goal.shaped_value-record_value-requires
shaped_value-record_value-requires g t c = λ κs within.
    let S = g.R.Rows.schemas c.args.rows.now in
    let T = g.R.Rows.table c.args.rows.now in
    let arm = c.in-Object-Object in (
      (let here = c.decreases in omega (arith, here)),
      (
        within,
        (
          rw (c.as_slice.ensures, c.as_slice-in-Object-Object.ensures) (fits_long c.args.shape.now c.args.row.now arm.field-0-0 arm.fields arm.values arm.is-0 arm.is-1 c.requires.fits),
          (
            values_can S T c.args.depth c.args.shape.now c.args.row.now c.requires.fits c.requires.each arm.field-0-0 arm.fields c.as_slice.result.now arm.values c.as_slice-in-Object-Object.result.now arm.is-0 arm.is-1 c.as_slice.ensures c.as_slice-in-Object-Object.ensures,
            c.requires.closed,
          ),
        ),
      ),
    )

pub shaped_value-elements_value-requires : goal.shaped_value-elements_value-requires
shaped_value-elements_value-requires g t c = λ κs within. (
  (let here = c.decreases in omega (arith, here)),
  (
    within,
    (
      ordinals_can (g.R.Rows.schemas c.args.rows.now) (g.R.Rows.table c.args.rows.now) c.args.depth c.args.shape.now c.args.row.now c.requires.fits c.requires.each c.in-List-List.element c.in-List-List.ordinals c.as_slice-in-List-List.result.now
          (λ i. references_of_row (c.in-List-List.is-0 i) (c.in-List-List.is-1 i)) c.as_slice-in-List-List.ensures,
      c.requires.closed,
    ),
  ),
)

pub shaped_value-elements_value-requires-in-Set-Set : goal.shaped_value-elements_value-requires-in-Set-Set
shaped_value-elements_value-requires-in-Set-Set g t c = λ κs within. (
  (let here = c.decreases in omega (arith, here)),
  (
    within,
    (
      ordinals_can (g.R.Rows.schemas c.args.rows.now) (g.R.Rows.table c.args.rows.now) c.args.depth c.args.shape.now c.args.row.now c.requires.fits c.requires.each c.in-Set-Set.element c.in-Set-Set.ordinals c.as_slice-in-Set-Set.result.now
          (λ i. references_of_row (c.in-Set-Set.is-0 i) (c.in-Set-Set.is-1 i)) c.as_slice-in-Set-Set.ensures,
      c.requires.closed,
    ),
  ),
)

pub shaped_value-pairs_value-requires : goal.shaped_value-pairs_value-requires
shaped_value-pairs_value-requires g t c = λ κs within. (
  (let here = c.decreases in omega (arith, here)),
  (
    within,
    (
      pairs_can (g.R.Rows.schemas c.args.rows.now) (g.R.Rows.table c.args.rows.now) c.args.depth c.args.shape.now c.args.row.now c.requires.fits c.requires.each c.in-Map-Map.key c.in-Map-Map.value c.in-Map-Map.pairs c.as_slice-in-Map-Map.result.now
          c.in-Map-Map.is-0 c.in-Map-Map.is-1 c.as_slice-in-Map-Map.ensures,
      c.requires.closed,
    ),
  ),
)

pub shaped_value-returns-in-Object-Object : goal.shaped_value-returns-in-Object-Object
shaped_value-returns-in-Object-Object g t c =
    let arm = c.in-Object-Object in
    record_tells (PrintsNamed (g.R.Rows.schemas c.args.rows.now) c.args.depth) (unfold_named (g.R.Rows.schemas c.args.rows.now) (g.R.Rows.table c.args.rows.now) c.args.depth) c.args.shape.now c.args.row.now c.args.budget.now c.take_node.new.budget c.record_value.new.budget c.record_value.result c.in_ok-take_node.ensures.1
    arm.field-0-0 arm.fields c.as_slice.result.now arm.values c.as_slice-in-Object-Object.result.now arm.is-0 arm.is-1 c.as_slice.ensures c.as_slice-in-Object-Object.ensures
    (rw (c.as_slice.ensures, c.as_slice-in-Object-Object.ensures) (fits_long c.args.shape.now c.args.row.now arm.field-0-0 arm.fields arm.values arm.is-0 arm.is-1 c.requires.fits)) c.record_value.ensures

pub shaped_value-returns-in-List-List : goal.shaped_value-returns-in-List-List
shaped_value-returns-in-List-List g t c =
    list_tells (PrintsNamed (g.R.Rows.schemas c.args.rows.now) c.args.depth) (unfold_named (g.R.Rows.schemas c.args.rows.now) (g.R.Rows.table c.args.rows.now) c.args.depth) c.args.shape.now c.args.row.now c.args.budget.now c.take_node.new.budget c.elements_value.new.budget c.elements_value.result c.in_ok-take_node.ensures.1
    c.in-List-List.element c.in-List-List.ordinals c.as_slice-in-List-List.result.now c.in-List-List.is-0 c.in-List-List.is-1 c.as_slice-in-List-List.ensures c.elements_value.ensures

pub shaped_value-returns-in-Set-Set : goal.shaped_value-returns-in-Set-Set
shaped_value-returns-in-Set-Set g t c =
    set_tells (PrintsNamed (g.R.Rows.schemas c.args.rows.now) c.args.depth) (unfold_named (g.R.Rows.schemas c.args.rows.now) (g.R.Rows.table c.args.rows.now) c.args.depth) c.args.shape.now c.args.row.now c.args.budget.now c.take_node.new.budget c.elements_value-in-Set-Set.new.budget c.elements_value-in-Set-Set.result c.in_ok-take_node.ensures.1
    c.in-Set-Set.element c.in-Set-Set.ordinals c.as_slice-in-Set-Set.result.now c.in-Set-Set.is-0 c.in-Set-Set.is-1 c.as_slice-in-Set-Set.ensures c.elements_value-in-Set-Set.ensures

pub shaped_value-returns-in-Map-Map : goal.shaped_value-returns-in-Map-Map
shaped_value-returns-in-Map-Map g t c =
    map_tells (PrintsNamed (g.R.Rows.schemas c.args.rows.now) c.args.depth) (unfold_named (g.R.Rows.schemas c.args.rows.now) (g.R.Rows.table c.args.rows.now) c.args.depth) c.args.shape.now c.args.row.now c.args.budget.now c.take_node.new.budget c.pairs_value.new.budget c.pairs_value.result c.in_ok-take_node.ensures.1
    c.in-Map-Map.key c.in-Map-Map.value c.in-Map-Map.pairs c.as_slice-in-Map-Map.result.now c.in-Map-Map.is-0 c.in-Map-Map.is-1 c.as_slice-in-Map-Map.ensures c.pairs_value.ensures
