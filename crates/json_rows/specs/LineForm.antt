-- What the lines of the rows of a type have in common.
use Rattle.std.specs.Prelude.{◌≡◌, ℕ, List, [], ◌∷◌, ◌++◌, false, codes, length, map, slice_index_or, zip, string_bytes}
use Rattle.json.specs.Print.{quoted}
use Rattle.serde_json.specs.Data.{Data, null}
use Rattle.serde_json.specs.Written.{compact_text, members_text}
use Rattle.schema_model.specs.declared.schema.Field.{Field}
use Rattle.schema_model.specs.Parts.{field_names, shape_fields}
use Rattle.json_rows.specs.FieldOrder.{Order, AreBelow, IsByteOrder}
use Rattle.json_rows.specs.StoredRow.{members_of_fields}
use Rattle.json_rows.specs.declared.form.LineForm.{LineForm}

-- the text of fields: for each one its lead and the text of the data at its place; and then what stands behind them
abbrev pub text_at : Order → List Data → List ℕ → List ℕ
text_at [] printed behind = behind
text_at (lead ∷ leads) printed behind = string_bytes lead.0 ++ (compact_text (slice_index_or printed lead.1 null) ++ text_at leads printed behind)

-- The leads are those of these fields: with them the text is that of the members in byte order, whatever the fields print
-- as; and each place is that of a field.
pub record AreLeads (fields : List Field) (leads : Order) : Type 0 where
  pub text : (printed : List Data) → length printed ≡ length fields
      → text_at leads printed (125 ∷ []) ≡ members_text false (members_of_fields (zip (field_names fields) printed))
  pub below : AreBelow (length fields) leads

-- the places of the fields in an order
abbrev pub places_of : Order → List ℕ
places_of order = map (λ lead. lead.1) order

-- The leads are those of these fields, each of them once, in byte order of their names.
pub record AreWholeLeads (fields : List Field) (leads : Order) : Type 0 where
  pub texts : AreLeads fields leads
  pub ordered : (order : Order) × IsByteOrder fields order × (places_of leads ≡ places_of order)

-- The form is that of the lines of its type.
pub record IsLineForm (form : LineForm) : Type 0 where
  pub leads : AreLeads (shape_fields form.schema.now.shape) form.leads.items
  pub end : string_bytes form.end ≡ codes ",\"type\":" ++ (quoted form.schema.now.name ++ codes "}\n")
