-- The members of a record, field by field.
use Rattle.std.proofs.Common.{◌≡◌, ℕ, ◌<◌, ◌≤◌, ◌+◌, List, [], ◌∷◌, ◌++◌, length, take, get_or, Option, refl, sym, ap, subst, ◌∙◌, arith}
use Rattle.std.specs.List.{fold}
use Rattle.std.specs.Prelude.{zip}
use Rattle.std.proofs.lemmas.List.{take_all, take_more, length-take}
use Rattle.std.proofs.lemmas.Slice.Zip.{AllZip-long, all_zipped_more}
use Rattle.schema_model.specs.Parts.{field_names}
use Rattle.row_model.specs.Row.{FitsKind, FitsShape}
use Rattle.schema_model.specs.declared.schema.name.Name.{Name}
use Rattle.row_model.specs.declared.row.Row.{Row}
use Rattle.row_model.specs.declared.row.Value.{Value}
use Rattle.schema_model.specs.declared.schema.Field.{Field}
use Rattle.schema_model.specs.declared.schema.Shape.{Shape}
use Rattle.serde_json.specs.Data.{Data, Members, put}
use Rattle.json_rows.specs.StoredRow.{IsValueData, AreRecordMembers}

-- one more field is put last
pub put_last : (fields : List Field) (printed : List Data) (field : Field) (last : Data) (so_far : Members) → length fields ≡ length printed
    → fold (λ members part. put part.0 part.1 members) so_far (zip (field_names (fields ++ field ∷ [])) (printed ++ last ∷ []))
    ≡ put field.name last (fold (λ members part. put part.0 part.1 members) so_far (zip (field_names fields) printed))
put_last [] [] field last so_far long = refl
put_last [] (d ∷ printed) field last so_far long = absurd (omega arith)
put_last (f ∷ fields) [] field last so_far long = absurd (omega arith)
put_last (f ∷ fields) (d ∷ printed) field last so_far long = put_last fields printed field last (put f.name d so_far) (omega arith)

more : (fields : List Field) (values : List Value) (field : Field) (value : Value) (printed : Data) (before after : Members)
    → length fields ≡ length values → IsValueData value printed → after ≡ put field.name printed before
    → AreRecordMembers fields values before → AreRecordMembers (fields ++ field ∷ []) (values ++ value ∷ []) after
more fields values field value printed before after long prints is_put (all, each, is) =
    let long_all = AllZip-long IsValueData values all each in (
      all ++ printed ∷ [],
      all_zipped_more IsValueData values all value printed each prints,
      is_put ∙ ap (put field.name printed) is ∙ sym (put_last fields all field printed _ (omega arith)),
    )

-- the members with one more field
pub more_members : (fields : List Field) (values : List Value) (place : ℕ) (field : Field) (value : Value) (printed : Data) (before after : Members)
    → length fields ≡ length values → place < length values → field ≡ get_or fields place field → value ≡ get_or values place value
    → IsValueData value printed → after ≡ put field.name printed before
    → AreRecordMembers (take place fields) (take place values) before → AreRecordMembers (take (place + 1) fields) (take (place + 1) values) after
more_members fields values place field value printed before after long within field_is value_is prints is_put are =
    let fields_more : take (place + 1) fields ≡ take place fields ++ field ∷ [] =
    take_more fields place field (omega arith) ∙ ap (λ x. take place fields ++ x ∷ []) (sym field_is) in
    let values_more : take (place + 1) values ≡ take place values ++ value ∷ [] =
    take_more values place value within ∙ ap (λ x. take place values ++ x ∷ []) (sym value_is) in
    let as_long : length (take place fields) ≡ length (take place values) = omega (arith, length-take place fields, length-take place values) in
    rw (fields_more, values_more) (more (take place fields) (take place values) field value printed before after as_long prints is_put are)

-- the members once each field is put
pub all_members : (fields : List Field) (values : List Value) (place : ℕ) (members : Members) → length fields ≡ length values → length values ≤ place
    → AreRecordMembers (take place fields) (take place values) members → AreRecordMembers fields values members
all_members fields values place members long done are =
    let fields_all : take place fields ≡ fields = take_all place fields (omega arith) in
    let values_all : take place values ≡ values = take_all place values done in
    subst (λ l. AreRecordMembers fields l members) values_all (subst (λ l. AreRecordMembers l (take place values) members) fields_all are)

-- a record that fits has a value for each field
pub fits_long : (shape : Shape) (row : Row) (key : Option (List Name)) (fields : List Field) (values : List Value) → shape ≡ Shape.Object key fields → row ≡ Row.Object values → FitsShape shape row
    → length fields ≡ length values
fits_long shape row key fields values shape_is row_is fits =
    let object : FitsShape (Shape.Object key fields) (Row.Object values) = subst (λ r. FitsShape (Shape.Object key fields) r) row_is (subst (λ s. FitsShape s row) shape_is fits) in
    sym (AllZip-long (λ field value. FitsKind field.kind value) fields values object)
