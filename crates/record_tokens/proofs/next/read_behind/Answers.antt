use Rattle.std.proofs.Common.{◌∷◌, sym, ap, refl, subst, arith}
use Rattle.json.specs.Token.{Token}
use Rattle.json.specs.Reads.{token_of}
use Rattle.schema_model.specs.Parts.{field_names}
use Rattle.row_model.specs.PlainTree.{object, trees_of_list}
use Rattle.record_json.proofs.ReadingBack.{model_apart}
use Rattle.record_json.specs.NamesApart.{AreNamesApart}
use Rattle.record_json.specs.ReadTree.{read_members, read_named, read_within}
use Rattle.record_stream.specs.Records.{record_depth}
use Rattle.record_tokens.proofs.RowsTaken.{row_of_values}
use Rattle.record_tokens.proofs.Taking.{object_read, object_taken, same_taken}
use Rattle.record_tokens.proofs.next.read_behind.Goals as goal

pub values_ahead-requires-clause-names : goal.values_ahead-requires-clause-names
values_ahead-requires-clause-names c =
    let arm = c.in-Object-BeginObject in
    subst (λ fs. AreNamesApart (field_names fs)) (sym c.as_slice.ensures)
    (model_apart c.args.model.now c.args.type_index c.schema.result.now c.schema.ensures.model c.schema.ensures.value arm.field-0-0 arm.fields arm.is-0)

pub returns-in_ok-values-in-Object-BeginObject : goal.returns-in_ok-values-in-Object-BeginObject
returns-in_ok-values-in-Object-BeginObject c =
    let schemas = c.args.model.now in
    let read = read_within schemas 32 c.args.type_index in
    let arm = c.in-Object-BeginObject in
    let fields = c.as_slice.result.now in
    let told = c.in_ok-values-in-Object-BeginObject.ensures in
    let made = object (trees_of_list told.0) in
    let tokens = c.args.reader.now in
    let rest = c.values_ahead.new.reader in (
      made,
      same_taken read record_depth (token_of c.args.token ∷ tokens) (Token.begin_object ∷ tokens) rest made made (ap (λ k. token_of k ∷ tokens) arm.is-1) refl
          (object_taken read (read_members (read_named schemas 31) fields) record_depth tokens rest made (λ none. omega (arith, none))
          (object_read schemas 32 31 c.args.type_index c.schema.result.now arm.field-0-0 arm.fields fields (λ none. omega (arith, none)) refl c.schema.ensures.value arm.is-0 c.as_slice.ensures)
          (told.2 (read_named schemas 31))),
      row_of_values told.0 c.in_ok-values-in-Object-BeginObject.values told.1,
    )
