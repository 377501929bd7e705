use Rattle.std.proofs.Common.{arith, refl, sym, ap, subst, ◌∙◌, ◌≡◌, ◌++◌, ◌∷◌, [], ◌+◌, ◌<◌, ℕ, Some, get_or, map, zip, length, slice_get, List}
use Rattle.std.specs.Prelude.{IsSomeAnd}
use Rattle.std.proofs.lemmas.List.{get_or_default}
use Rattle.serde_json.specs.Data.{Data}
use Rattle.schema_model.specs.declared.schema.Field.{Field}
use Rattle.schema_model.specs.declared.schema.Schema.{Schema}
use Rattle.row_model.specs.declared.row.Value.{Value}
use Rattle.schema_model.specs.declared.schema.Shape.{Shape}
use Rattle.row_model.specs.declared.row.Row.{Row}
use Rattle.schema_model.specs.Parts.{field_names, index_of_type}
use Rattle.schema_model.specs.Model.{IsModel}
use Rattle.json_rows.proofs.Orders.{place_within}
use Rattle.row_model.specs.PlainTree.{node_count}
use Rattle.row_model.specs.Row.{references_of_row}
use Rattle.record_json.specs.PrintTree.{PrintsField, PrintsPair, PrintsShape}
use Rattle.row_model.specs.Unfold.{tree_of_row}
use Rattle.record_json.specs.Printing.{CanPrintValue, PrintsItems, PrintsNamed, PrintsValued, TellsPut, count_of, count_pair, tree_of_field, unfold_named, unfold_pair}
use Rattle.record_json.proofs.PrintingNames.{ordinals_can, pairs_can, reference_can, row_fits, row_reached, values_can}
use Rattle.record_json.proofs.PrintingRows.{named_deep, named_live, named_shallow}
use Rattle.record_json.proofs.PuttingRows.{list_puts, map_puts, members_put, moved_puts, named_puts, part_there, record_puts, record_values, reference_puts, row_puts, set_puts, value_in_row, value_there, zip_long}
use Rattle.record_json.proofs.PuttingTexts.{items_more, items_none, items_stop, items_whole, leads_more, leads_none, leads_stop, leads_whole, put_stopped}
use Rattle.std.proofs.lemmas.Option.{slice_get_within}
use Rattle.std.proofs.lemmas.Slice.Zip.{AllZip-long}
use Rattle.row_model.specs.Table.{row_at}
use Rattle.record_json.specs.Forms.{IsFormOf}
use Rattle.record_json.specs.NamesApart.{AreNamesApart}
use Rattle.record_json.proofs.MadeForms.{form_read}
use Rattle.record_json.proofs.PuttingRows.{few_fields, form_leads, member_puts, ref_named, record_there, row_values}
use Rattle.record_json.proofs.ReadingBack.{model_apart}
use Rattle.record_json.proofs.TreesPrint.{live_row}
use Rattle.record_json.proofs.texts.+putting.Goals as goal

-- ---- the elements of a list or a set

pub put_elements-loop-index-preserved : goal.put_elements-loop-index-preserved
put_elements-loop-index-preserved g t c =
    let S = g.R.Rows.schemas c.args.printer.now.rows.now in
    let T = g.R.Rows.table c.args.printer.now.rows.now in
    let Prints : ℕ → Data → Type 0 = λ ordinal part. PrintsNamed S c.args.depth c.args.element.now (unfold_named S T c.args.depth c.args.element.now ordinal) part in
    let nodes : ℕ → ℕ = λ ordinal. node_count (unfold_named S T c.args.depth c.args.element.now ordinal) in
    let xs = c.args.ordinals.now in
    let l = c.loop-index in
    let x = get_or xs l.index 0 in
    items_more Prints nodes xs l.index c.args.budget.now l.budget c.put_named.new.budget c.args.out.now.items l.out.items c.put_comma.new.out.items c.put_named.new.out.items x c.loop-index-test.true
    (get_or_default xs l.index 0 x c.loop-index-test.true) c.in_ok-put_comma.ensures c.in_ok-put_named.ensures.0 c.in_ok-put_named.ensures.1 l.invariant

pub put_elements-returns-in_err-put_named : goal.put_elements-returns-in_err-put_named
put_elements-returns-in_err-put_named g t c =
    let S = g.R.Rows.schemas c.args.printer.now.rows.now in
    let T = g.R.Rows.table c.args.printer.now.rows.now in
    let Prints : ℕ → Data → Type 0 = λ ordinal part. PrintsNamed S c.args.depth c.args.element.now (unfold_named S T c.args.depth c.args.element.now ordinal) part in
    let nodes : ℕ → ℕ = λ ordinal. node_count (unfold_named S T c.args.depth c.args.element.now ordinal) in
    let xs = c.args.ordinals.now in
    let l = c.loop-index in
    let x = get_or xs l.index 0 in
    put_stopped (Prints x) (PrintsItems Prints xs) (nodes x) (count_of nodes xs) c.args.out.now.items c.put_named.new.out.items c.put_comma.new.out.items c.put_named.new.out.items c.args.budget.now l.budget c.put_named.new.budget c.put_named.new.budget c.in_err-put_named.field-0.0 c.from_residual-in_err-put_named.result c.from_residual-in_err-put_named.ensures.1
    (items_stop Prints nodes xs l.index c.args.budget.now l.budget c.args.out.now.items l.out.items x c.loop-index-test.true (get_or_default xs l.index 0 x c.loop-index-test.true) l.invariant) c.in_err-put_named.ensures

pub put_elements-returns : goal.put_elements-returns
put_elements-returns g t c =
    let S = g.R.Rows.schemas c.args.printer.now.rows.now in
    let T = g.R.Rows.table c.args.printer.now.rows.now in
    let Prints : ℕ → Data → Type 0 = λ ordinal part. PrintsNamed S c.args.depth c.args.element.now (unfold_named S T c.args.depth c.args.element.now ordinal) part in
    let nodes : ℕ → ℕ = λ ordinal. node_count (unfold_named S T c.args.depth c.args.element.now ordinal) in
    let l = c.loop-index in
    items_whole Prints nodes c.args.ordinals.now l.index c.args.budget.now l.budget c.args.out.now.items l.out.items c.push-2.new.self.items c.loop-index-test.false c.in_ok-push-2.ensures.items l.invariant

-- ---- the pairs of a map

pub put_pairs-loop-index-preserved : goal.put_pairs-loop-index-preserved
put_pairs-loop-index-preserved g t c =
    let S = g.R.Rows.schemas c.args.printer.now.rows.now in
    let T = g.R.Rows.table c.args.printer.now.rows.now in
    let Prints : ℕ × ℕ → Data → Type 0 = λ pair part. PrintsPair (PrintsNamed S c.args.depth) c.args.key.now c.args.value.now (unfold_pair S T c.args.depth c.args.key.now c.args.value.now pair) part in
    let nodes : ℕ × ℕ → ℕ = λ pair. count_pair (unfold_pair S T c.args.depth c.args.key.now c.args.value.now pair) in
    let xs = c.args.pairs.now in
    let l = c.loop-index in
    let x = get_or xs l.index (0, 0) in
    items_more Prints nodes xs l.index c.args.budget.now l.budget c.put_pair.new.budget c.args.out.now.items l.out.items c.put_comma.new.out.items c.put_pair.new.out.items x c.loop-index-test.true
    (get_or_default xs l.index (0, 0) x c.loop-index-test.true) c.in_ok-put_comma.ensures c.in_ok-put_pair.ensures.0 c.in_ok-put_pair.ensures.1 l.invariant

pub put_pairs-returns-in_err-put_pair : goal.put_pairs-returns-in_err-put_pair
put_pairs-returns-in_err-put_pair g t c =
    let S = g.R.Rows.schemas c.args.printer.now.rows.now in
    let T = g.R.Rows.table c.args.printer.now.rows.now in
    let Prints : ℕ × ℕ → Data → Type 0 = λ pair part. PrintsPair (PrintsNamed S c.args.depth) c.args.key.now c.args.value.now (unfold_pair S T c.args.depth c.args.key.now c.args.value.now pair) part in
    let nodes : ℕ × ℕ → ℕ = λ pair. count_pair (unfold_pair S T c.args.depth c.args.key.now c.args.value.now pair) in
    let xs = c.args.pairs.now in
    let l = c.loop-index in
    let x = get_or xs l.index (0, 0) in
    put_stopped (Prints x) (PrintsItems Prints xs) (nodes x) (count_of nodes xs) c.args.out.now.items c.put_pair.new.out.items c.put_comma.new.out.items c.put_pair.new.out.items c.args.budget.now l.budget c.put_pair.new.budget c.put_pair.new.budget c.in_err-put_pair.field-0.0 c.from_residual-in_err-put_pair.result c.from_residual-in_err-put_pair.ensures.1
    (items_stop Prints nodes xs l.index c.args.budget.now l.budget c.args.out.now.items l.out.items x c.loop-index-test.true (get_or_default xs l.index (0, 0) x c.loop-index-test.true) l.invariant) c.in_err-put_pair.ensures

pub put_pairs-returns : goal.put_pairs-returns
put_pairs-returns g t c =
    let S = g.R.Rows.schemas c.args.printer.now.rows.now in
    let T = g.R.Rows.table c.args.printer.now.rows.now in
    let Prints : ℕ × ℕ → Data → Type 0 = λ pair part. PrintsPair (PrintsNamed S c.args.depth) c.args.key.now c.args.value.now (unfold_pair S T c.args.depth c.args.key.now c.args.value.now pair) part in
    let nodes : ℕ × ℕ → ℕ = λ pair. count_pair (unfold_pair S T c.args.depth c.args.key.now c.args.value.now pair) in
    let l = c.loop-index in
    items_whole Prints nodes c.args.pairs.now l.index c.args.budget.now l.budget c.args.out.now.items l.out.items c.push-2.new.self.items c.loop-index-test.false c.in_ok-push-2.ensures.items l.invariant

-- ---- the row of the type of a name

pub put_named-overflow_sub-depth : goal.put_named-overflow_sub-depth
put_named-overflow_sub-depth g t c =
    let S = g.R.Rows.schemas c.args.printer.now.rows.now in
    let is = c.in-Some.ensures.value ∙ ap (λ m. index_of_type m c.text.result.now) c.model-model.ensures.model ∙ ap (index_of_type S) c.text.ensures in
    named_deep S (g.R.Rows.table c.args.printer.now.rows.now) c.args.depth c.args.name.now c.args.ordinal c.in-Some.type_index is c.requires.there

pub put_named-returns : goal.put_named-returns
put_named-returns g t c =
    let S = g.R.Rows.schemas c.args.printer.now.rows.now in
    let is = c.in-Some.ensures.value ∙ ap (λ m. index_of_type m c.text.result.now) c.model-model.ensures.model ∙ ap (index_of_type S) c.text.ensures in
    named_puts S (g.R.Rows.table c.args.printer.now.rows.now) c.args.depth c.args.name.now c.args.ordinal c.in-Some.type_index is c.requires.there c.args.out.now.items c.put_row.new.out.items c.args.budget.now c.put_row.new.budget c.put_row.result c.put_row.ensures

pub put_named-put_row-requires : goal.put_named-put_row-requires
put_named-put_row-requires g t c = λ κs within.
    let S = g.R.Rows.schemas c.args.printer.now.rows.now in
    let T = g.R.Rows.table c.args.printer.now.rows.now in
    let u = c.in-Some.type_index in
    let is = c.in-Some.ensures.value ∙ ap (λ m. index_of_type m c.text.result.now) c.model-model.ensures.model ∙ ap (index_of_type S) c.text.ensures in (
      (let here = c.decreases in let deep = named_deep S T c.args.depth c.args.name.now c.args.ordinal u is c.requires.there in omega (arith, here, deep)),
      (
        within,
        (
          named_live S T c.args.depth c.args.name.now c.args.ordinal u is c.requires.there,
          (named_shallow S T c.args.depth c.args.name.now c.args.ordinal u is c.requires.there, (c.requires.fits, (c.requires.closed, (c.requires.forms, (subst (λ m. slice_get m u ≡ Some c.schema-schema.result.now) c.model-model.ensures.model c.schema-schema.ensures.value, subst IsModel c.model-model.ensures.model c.schema-schema.ensures.model))))),
        ),
      ),
    )

-- ---- the row of each shape

pub put_items-put_elements-requires : goal.put_items-put_elements-requires
put_items-put_elements-requires g t c = λ κs within. (
  (let here = c.decreases in omega (arith, here)),
  (
    within,
    (
      ordinals_can (g.R.Rows.schemas c.args.printer.now.rows.now) (g.R.Rows.table c.args.printer.now.rows.now) c.args.depth c.args.shape.now c.args.row.now c.requires.row_fits c.requires.each c.in-List-List.element c.in-List-List.ordinals c.as_slice.result.now
          (λ i. references_of_row (c.in-List-List.is-0 i) (c.in-List-List.is-1 i)) c.as_slice.ensures,
      (c.requires.fits, (c.requires.closed, c.requires.forms)),
    ),
  ),
)

pub put_items-put_elements-requires-in-Set-Set : goal.put_items-put_elements-requires-in-Set-Set
put_items-put_elements-requires-in-Set-Set g t c = λ κs within. (
  (let here = c.decreases in omega (arith, here)),
  (
    within,
    (
      ordinals_can (g.R.Rows.schemas c.args.printer.now.rows.now) (g.R.Rows.table c.args.printer.now.rows.now) c.args.depth c.args.shape.now c.args.row.now c.requires.row_fits c.requires.each c.in-Set-Set.element c.in-Set-Set.ordinals c.as_slice-in-Set-Set.result.now
          (λ i. references_of_row (c.in-Set-Set.is-0 i) (c.in-Set-Set.is-1 i)) c.as_slice-in-Set-Set.ensures,
      (c.requires.fits, (c.requires.closed, c.requires.forms)),
    ),
  ),
)

pub put_items-put_pairs-requires : goal.put_items-put_pairs-requires
put_items-put_pairs-requires g t c = λ κs within. (
  (let here = c.decreases in omega (arith, here)),
  (
    within,
    (
      pairs_can (g.R.Rows.schemas c.args.printer.now.rows.now) (g.R.Rows.table c.args.printer.now.rows.now) c.args.depth c.args.shape.now c.args.row.now c.requires.row_fits c.requires.each c.in-Map-Map.key c.in-Map-Map.value c.in-Map-Map.pairs c.as_slice-in-Map-Map.result.now
          c.in-Map-Map.is-0 c.in-Map-Map.is-1 c.as_slice-in-Map-Map.ensures,
      (c.requires.fits, (c.requires.closed, c.requires.forms)),
    ),
  ),
)

pub put_items-returns-in-List-List : goal.put_items-returns-in-List-List
put_items-returns-in-List-List g t c =
    let S = g.R.Rows.schemas c.args.printer.now.rows.now in
    let T = g.R.Rows.table c.args.printer.now.rows.now in
    let os = c.as_slice.result.now in
    moved_puts (PrintsNamed S c.args.depth) (unfold_named S T c.args.depth) c.args.out.now.items c.put_elements.new.out.items (c.args.budget.now + 1) c.args.budget.now c.put_elements.new.budget c.put_elements.result refl
    c.args.shape.now (Shape.List c.in-List-List.element) c.args.row.now (Row.List os) c.in-List-List.is-0 (c.in-List-List.is-1 ∙ ap Row.List (sym c.as_slice.ensures))
    (list_puts (PrintsNamed S c.args.depth) (unfold_named S T c.args.depth) c.args.out.now.items c.put_elements.new.out.items (c.args.budget.now + 1) c.args.budget.now c.put_elements.new.budget c.put_elements.result refl c.in-List-List.element os c.put_elements.ensures)

pub put_items-returns-in-Set-Set : goal.put_items-returns-in-Set-Set
put_items-returns-in-Set-Set g t c =
    let S = g.R.Rows.schemas c.args.printer.now.rows.now in
    let T = g.R.Rows.table c.args.printer.now.rows.now in
    let os = c.as_slice-in-Set-Set.result.now in
    moved_puts (PrintsNamed S c.args.depth) (unfold_named S T c.args.depth) c.args.out.now.items c.put_elements-in-Set-Set.new.out.items (c.args.budget.now + 1) c.args.budget.now c.put_elements-in-Set-Set.new.budget c.put_elements-in-Set-Set.result refl
    c.args.shape.now (Shape.Set c.in-Set-Set.element) c.args.row.now (Row.Set os) c.in-Set-Set.is-0 (c.in-Set-Set.is-1 ∙ ap Row.Set (sym c.as_slice-in-Set-Set.ensures))
    (set_puts (PrintsNamed S c.args.depth) (unfold_named S T c.args.depth) c.args.out.now.items c.put_elements-in-Set-Set.new.out.items (c.args.budget.now + 1) c.args.budget.now c.put_elements-in-Set-Set.new.budget c.put_elements-in-Set-Set.result refl c.in-Set-Set.element os c.put_elements-in-Set-Set.ensures)

pub put_items-returns-in-Map-Map : goal.put_items-returns-in-Map-Map
put_items-returns-in-Map-Map g t c =
    let S = g.R.Rows.schemas c.args.printer.now.rows.now in
    let T = g.R.Rows.table c.args.printer.now.rows.now in
    let ps = c.as_slice-in-Map-Map.result.now in
    moved_puts (PrintsNamed S c.args.depth) (unfold_named S T c.args.depth) c.args.out.now.items c.put_pairs.new.out.items (c.args.budget.now + 1) c.args.budget.now c.put_pairs.new.budget c.put_pairs.result refl
    c.args.shape.now (Shape.Map c.in-Map-Map.key c.in-Map-Map.value) c.args.row.now (Row.Map ps) c.in-Map-Map.is-0 (c.in-Map-Map.is-1 ∙ ap Row.Map (sym c.as_slice-in-Map-Map.ensures))
    (map_puts (PrintsNamed S c.args.depth) (unfold_named S T c.args.depth) c.args.out.now.items c.put_pairs.new.out.items (c.args.budget.now + 1) c.args.budget.now c.put_pairs.new.budget c.put_pairs.result refl c.in-Map-Map.key c.in-Map-Map.value ps c.put_pairs.ensures)

-- ---- the members of a record

pub put_record-put_member-requires : goal.put_record-put_member-requires
put_record-put_member-requires g t c = λ κs inside.
    let S = g.R.Rows.schemas c.args.printer.now.rows.now in
    let T = g.R.Rows.table c.args.printer.now.rows.now in
    let lead = c.lead-item.result in
    let fields = c.args.fields.now in
    let (values, at, long, can) = c.requires.record in
    let within : lead.1 < length fields = subst (λ x. x.1 < length fields) (sym c.lead-item.is) (place_within (length fields) c.args.leads.now c.loop-lead.lead-index lead c.requires.leads.texts.below (omega arith)) in
    let field = get_or fields lead.1 c.index-fields-lead.result in
    let field_at : field ≡ get_or fields lead.1 field = get_or_default fields lead.1 c.index-fields-lead.result field within in (
      (let here = c.decreases in omega (arith, here)),
      (
        inside,
        (
          value_there S T c.args.depth fields values c.args.type_index lead.1 c.args.ordinal field at long can within field_at,
          (c.requires.live, (c.requires.fits, (c.requires.closed, c.requires.forms))),
        ),
      ),
    )

pub put_record-loop-lead-preserved : goal.put_record-loop-lead-preserved
put_record-loop-lead-preserved g t c = λ values there.
    let S = g.R.Rows.schemas c.args.printer.now.rows.now in
    let T = g.R.Rows.table c.args.printer.now.rows.now in
    let Prints : Field × Value → Data → Type 0 = λ valued part. PrintsField (PrintsNamed S c.args.depth) valued.0.kind (tree_of_field S T c.args.depth valued) part in
    let nodes : Field × Value → ℕ = λ valued. node_count (tree_of_field S T c.args.depth valued) in
    let lead = c.lead-item.result in
    let l = c.loop-lead in
    let fields = c.args.fields.now in
    let field = get_or fields lead.1 c.index-fields-lead.result in
    let (long, can) = record_values S T c.args.depth fields c.args.type_index c.args.ordinal c.requires.record values there in
    let within : lead.1 < length fields = subst (λ x. x.1 < length fields) (sym c.lead-item.is) (place_within (length fields) c.args.leads.now l.lead-index lead c.requires.leads.texts.below (omega arith)) in
    let value = get_or values lead.1 Value.Null in
    let x = part_there fields values lead.1 field long within (get_or_default fields lead.1 c.index-fields-lead.result field within) in
    let put = c.in_ok-put_member.ensures value (value_in_row T c.args.type_index lead.1 c.args.ordinal fields values there long within) in
    leads_more Prints nodes (zip fields values) c.args.leads.now l.lead-index c.args.budget.now l.budget c.put_member.new.budget c.args.out.now.items l.out.items c.extend_from_slice.new.self.items c.put_member.new.out.items lead (field, value)
    (omega arith) c.lead-item.is x.0 x.1 (c.in_ok-extend_from_slice.ensures.items ∙ ap (λ b. l.out.items ++ b) c.as_bytes.ensures.value) put.0 put.1 (l.invariant values there)

pub put_record-returns-in_err-put_member : goal.put_record-returns-in_err-put_member
put_record-returns-in_err-put_member g t c = λ values there.
    let S = g.R.Rows.schemas c.args.printer.now.rows.now in
    let T = g.R.Rows.table c.args.printer.now.rows.now in
    let Prints : Field × Value → Data → Type 0 = λ valued part. PrintsField (PrintsNamed S c.args.depth) valued.0.kind (tree_of_field S T c.args.depth valued) part in
    let nodes : Field × Value → ℕ = λ valued. node_count (tree_of_field S T c.args.depth valued) in
    let lead = c.lead-item.result in
    let l = c.loop-lead in
    let fields = c.args.fields.now in
    let field = get_or fields lead.1 c.index-fields-lead.result in
    let (long, can) = record_values S T c.args.depth fields c.args.type_index c.args.ordinal c.requires.record values there in
    let within : lead.1 < length fields = subst (λ x. x.1 < length fields) (sym c.lead-item.is) (place_within (length fields) c.args.leads.now l.lead-index lead c.requires.leads.texts.below (omega arith)) in
    let value = get_or values lead.1 Value.Null in
    let x = part_there fields values lead.1 field long within (get_or_default fields lead.1 c.index-fields-lead.result field within) in
    put_stopped (Prints (field, value)) (PrintsValued (PrintsNamed S c.args.depth) (unfold_named S T c.args.depth) fields values) (nodes (field, value)) (count_of nodes (zip fields values)) c.args.out.now.items c.put_member.new.out.items c.extend_from_slice.new.self.items c.put_member.new.out.items c.args.budget.now l.budget c.put_member.new.budget c.put_member.new.budget
    c.in_err-put_member.field-0.0 c.from_residual-in_err-put_member.result c.from_residual-in_err-put_member.ensures.1
    (leads_stop Prints nodes (zip fields values) c.args.leads.now fields c.requires.apart c.requires.leads (zip_long fields values long) l.lead-index c.args.budget.now l.budget c.args.out.now.items l.out.items lead (field, value) (omega arith) c.lead-item.is x.0 x.1
    (l.invariant values there)) (c.in_err-put_member.ensures value (value_in_row T c.args.type_index lead.1 c.args.ordinal fields values there long within))

pub put_record-returns : goal.put_record-returns
put_record-returns g t c = λ values there.
    let S = g.R.Rows.schemas c.args.printer.now.rows.now in
    let T = g.R.Rows.table c.args.printer.now.rows.now in
    let Prints : Field × Value → Data → Type 0 = λ valued part. PrintsField (PrintsNamed S c.args.depth) valued.0.kind (tree_of_field S T c.args.depth valued) part in
    let nodes : Field × Value → ℕ = λ valued. node_count (tree_of_field S T c.args.depth valued) in
    let l = c.loop-lead in
    let fields = c.args.fields.now in
    let (long, can) = record_values S T c.args.depth fields c.args.type_index c.args.ordinal c.requires.record values there in
    let whole = leads_whole Prints nodes (zip fields values) c.args.leads.now fields c.requires.apart c.requires.leads (zip_long fields values long) l.lead-index c.args.budget.now l.budget c.args.out.now.items l.out.items c.push-2.new.self.items (omega arith)
    c.in_ok-push-2.ensures.items (l.invariant values there) in
    (members_put (PrintsNamed S c.args.depth) (unfold_named S T c.args.depth) fields values c.args.leads.now c.args.out.now.items c.push-2.new.self.items c.requires.leads long whole.0, whole.1)

-- ---- the row under an ordinal

pub put_row-bounds-printer-type_index : goal.put_row-bounds-printer-type_index
put_row-bounds-printer-type_index g t c =
    let S = g.R.Rows.schemas c.args.printer.now.rows.now in
    let long = AllZip-long IsFormOf S c.args.printer.now.forms.now c.requires.forms in
    let within = slice_get_within S c.args.type_index c.args.schema.now c.requires.schema in
    omega (arith, long, within)

pub put_row-put_record-requires : goal.put_row-put_record-requires
put_row-put_record-requires g t c = λ κs inside.
    let S = g.R.Rows.schemas c.args.printer.now.rows.now in
    let T = g.R.Rows.table c.args.printer.now.rows.now in
    let schema = c.args.schema.now in
    let (row, there) = live_row (row_at T c.args.type_index c.args.ordinal) c.requires.live in
    let form = get_or c.args.printer.now.forms.now c.args.type_index c.index-printer-type_index.result in
    let is-form : IsFormOf schema form = form_read S c.args.printer.now.forms.now c.args.type_index schema c.index-printer-type_index.result c.requires.forms c.requires.schema in
    let shape_is = c.in-Object.is in
    let fields = c.as_slice-fields.result.now in
    let fields_are = c.as_slice-fields.ensures in
    let known : IsSomeAnd (slice_get S c.args.type_index) (λ (s : Schema). s.shape ≡ schema.shape) = subst (λ o. IsSomeAnd o (λ (s : Schema). s.shape ≡ schema.shape)) (sym c.requires.schema) refl in (
      (let here = c.decreases in omega (arith, here)),
      (
        inside,
        (
          record_there S T c.args.depth c.args.type_index c.args.ordinal schema row c.in-Object.field-0 c.in-Object.fields fields shape_is fields_are there (row_fits S T c.args.depth c.args.type_index c.args.ordinal schema.shape row c.requires.fits known there)
              (row_reached S T c.args.depth c.args.type_index c.args.ordinal schema.shape row c.requires.closed c.requires.shallow known there),
          (
            c.requires.live,
            (
              few_fields S c.args.type_index schema c.in-Object.field-0 c.in-Object.fields fields c.requires.model c.requires.schema shape_is fields_are,
              (
                form_leads schema form c.in-Object.field-0 c.in-Object.fields fields c.as_slice-leads.result.now shape_is fields_are c.as_slice-leads.ensures.value is-form,
                (subst (λ (fs : List Field). AreNamesApart (field_names fs)) (sym fields_are) (model_apart S c.args.type_index schema c.requires.model c.requires.schema c.in-Object.field-0 c.in-Object.fields shape_is), (c.requires.fits, (c.requires.closed, c.requires.forms))),
              ),
            ),
          ),
        ),
      ),
    )

pub put_row-returns-in-Object : goal.put_row-returns-in-Object
put_row-returns-in-Object g t c =
    let S = g.R.Rows.schemas c.args.printer.now.rows.now in
    let T = g.R.Rows.table c.args.printer.now.rows.now in
    let schema = c.args.schema.now in
    let (row, there) = live_row (row_at T c.args.type_index c.args.ordinal) c.requires.live in
    let fields = c.as_slice-fields.result.now in
    let fields_are = c.as_slice-fields.ensures in
    let known : IsSomeAnd (slice_get S c.args.type_index) (λ (s : Schema). s.shape ≡ schema.shape) = subst (λ o. IsSomeAnd o (λ (s : Schema). s.shape ≡ schema.shape)) (sym c.requires.schema) refl in
    let shape_is : schema.shape ≡ Shape.Object c.in-Object.field-0 fields = c.in-Object.is ∙ ap (Shape.Object c.in-Object.field-0) (sym fields_are) in
    let (values, row_is, long) = row_values schema.shape row c.in-Object.field-0 fields shape_is (row_fits S T c.args.depth c.args.type_index c.args.ordinal schema.shape row c.requires.fits known there) in
    row_puts S T c.args.depth c.args.type_index c.args.ordinal schema row c.args.out.now.items c.put_record.new.out.items c.args.budget.now c.put_record.new.budget c.put_record.result c.requires.schema there
    (moved_puts (PrintsNamed S c.args.depth) (unfold_named S T c.args.depth) c.args.out.now.items c.put_record.new.out.items c.args.budget.now c.take_node.new.budget c.put_record.new.budget c.put_record.result c.in_ok-take_node.ensures.1
    schema.shape (Shape.Object c.in-Object.field-0 fields) row (Row.Object values) shape_is row_is
    (record_puts (PrintsNamed S c.args.depth) (unfold_named S T c.args.depth) c.args.out.now.items c.put_record.new.out.items c.args.budget.now c.take_node.new.budget c.put_record.new.budget c.put_record.result c.in_ok-take_node.ensures.1
    c.in-Object.field-0 fields values long (c.put_record.ensures values (there ∙ ap Some row_is))))

pub put_row-put_items-requires : goal.put_row-put_items-requires
put_row-put_items-requires g t c = λ κs inside.
    let S = g.R.Rows.schemas c.args.printer.now.rows.now in
    let T = g.R.Rows.table c.args.printer.now.rows.now in
    let schema = c.args.schema.now in
    let known : IsSomeAnd (slice_get S c.args.type_index) (λ (s : Schema). s.shape ≡ schema.shape) = subst (λ o. IsSomeAnd o (λ (s : Schema). s.shape ≡ schema.shape)) (sym c.requires.schema) refl in
    let there = c.in_ok-lent.ensures ∙ ap Some (sym c.row.ensures) in (
      (let here = c.decreases in omega (arith, here)),
      (
        inside,
        (
          row_fits S T c.args.depth c.args.type_index c.args.ordinal schema.shape c.row.result.now c.requires.fits known there,
          (row_reached S T c.args.depth c.args.type_index c.args.ordinal schema.shape c.row.result.now c.requires.closed c.requires.shallow known there, (c.requires.fits, (c.requires.closed, c.requires.forms))),
        ),
      ),
    )

pub put_row-returns : goal.put_row-returns
put_row-returns g t c =
    let S = g.R.Rows.schemas c.args.printer.now.rows.now in
    let T = g.R.Rows.table c.args.printer.now.rows.now in
    let schema = c.args.schema.now in
    let row = c.row.result.now in
    let there = c.in_ok-lent.ensures ∙ ap Some (sym c.row.ensures) in
    row_puts S T c.args.depth c.args.type_index c.args.ordinal schema row c.args.out.now.items c.put_items.new.out.items c.args.budget.now c.put_items.new.budget c.put_items.result c.requires.schema there
    (subst (λ (before : ℕ). TellsPut (PrintsShape (PrintsNamed S c.args.depth) schema.shape (tree_of_row (unfold_named S T c.args.depth) schema.shape row)) (node_count (tree_of_row (unfold_named S T c.args.depth) schema.shape row)) c.args.out.now.items c.put_items.new.out.items before c.put_items.new.budget c.put_items.result)
    c.in_ok-take_node.ensures.1 c.put_items.ensures)

-- ---- one value of a record

pub put_member-put_named-requires : goal.put_member-put_named-requires
put_member-put_named-requires g t c = λ κs inside.
    let S = g.R.Rows.schemas c.args.printer.now.rows.now in
    let T = g.R.Rows.table c.args.printer.now.rows.now in
    let (value, at, can) = c.requires.there in
    let value_is = ref_named _ value c.in-Some.named at (sym c.in-Some.is ∙ c.in_ok-named.ensures) in (
      (let here = c.decreases in omega (arith, here)),
      (inside, (reference_can S T c.args.depth c.in-Reference.name c.in-Some.named c.args.kind.now value c.in-Reference.is value_is can, (c.requires.fits, (c.requires.closed, c.requires.forms)))),
    )

pub put_member-returns-in-Some : goal.put_member-returns-in-Some
put_member-returns-in-Some g t c = λ value at.
    let S = g.R.Rows.schemas c.args.printer.now.rows.now in
    let T = g.R.Rows.table c.args.printer.now.rows.now in
    let (own, own_at, can) = c.requires.there in
    let value_is = ref_named _ value c.in-Some.named at (sym c.in-Some.is ∙ c.in_ok-named.ensures) in
    let own_is = ref_named _ own c.in-Some.named own_at (sym c.in-Some.is ∙ c.in_ok-named.ensures) in
    let there = reference_can S T c.args.depth c.in-Reference.name c.in-Some.named c.args.kind.now own c.in-Reference.is own_is can in
    member_puts S T c.args.depth c.args.kind.now value c.in-Reference.name c.in-Some.named c.args.budget.now c.put_named.new.budget c.args.out.now.items c.put_named.new.out.items c.put_named.result c.in-Reference.is value_is
    (reference_puts S T c.requires.fits c.args.depth c.in-Reference.name c.in-Some.named c.args.budget.now c.put_named.new.budget c.args.out.now.items c.put_named.new.out.items c.put_named.result there c.put_named.ensures)
