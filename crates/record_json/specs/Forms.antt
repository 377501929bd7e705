-- The forms of the records of the types of a model.
use Rattle.std.specs.Prelude.{List}
use Rattle.std.specs.List.{AllZip}
use Rattle.schema_model.specs.declared.schema.Schema.{Schema}
use Rattle.schema_model.specs.Parts.{shape_fields}
use Rattle.json_rows.specs.LineForm.{AreWholeLeads}
use Rattle.record_json.specs.declared.forms.RecordForm.{RecordForm}

-- The form is that of the records of a type.
abbrev pub IsFormOf : Schema → RecordForm → Type 0
IsFormOf schema form = AreWholeLeads (shape_fields schema.shape) form.leads.items

-- The forms are those of the records of each type of a model.
abbrev pub AreFormsOf : List Schema → List RecordForm → Type 0
AreFormsOf schemas forms = AllZip IsFormOf schemas forms
