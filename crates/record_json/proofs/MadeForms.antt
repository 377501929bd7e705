-- The forms of the types of a model, made one by one, and found by the type's index.
use Rattle.std.proofs.Common.{◌≡◌, ℕ, zero, suc, ◌+◌, ◌≤◌, ◌∙◌, List, [], ◌∷◌, ◌++◌, length, take, get_or, Some, refl, sym, ap, subst, arith, slice_get}
use Rattle.std.specs.List.{AllZip}
use Rattle.std.proofs.lemmas.List.{take_all}
use Rattle.std.proofs.lemmas.Option.{slice_get_within, get_or_from_slice_get}
use Rattle.std.proofs.lemmas.Slice.Zip.{all_zipped_more}
use Rattle.schema_model.specs.declared.schema.Schema.{Schema}
use Rattle.record_json.specs.Forms.{AreFormsOf, IsFormOf}
use Rattle.record_json.specs.declared.forms.RecordForm.{RecordForm}
use Rattle.record_json.proofs.PrintingFronts.{longer}

pub forms_none : (schemas : List Schema) (forms : List RecordForm) → forms ≡ [] → AreFormsOf (take 0 schemas) forms
forms_none schemas forms is = subst (AreFormsOf []) (sym is) tt

pub forms_more : (schemas : List Schema) (t : ℕ) (schema : Schema) (form : RecordForm) (old new : List RecordForm) → slice_get schemas t ≡ Some schema → IsFormOf schema form → new ≡ old ++ form ∷ []
    → AreFormsOf (take t schemas) old → AreFormsOf (take (t + 1) schemas) new
forms_more schemas t schema form old new found is new_is front =
    let one = longer schemas t schema (slice_get_within schemas t schema found) (sym (get_or_from_slice_get schemas t schema schema found)) in
    subst (AreFormsOf (take (t + 1) schemas)) (sym new_is)
    (subst (λ (xs : List Schema). AreFormsOf xs (old ++ form ∷ [])) (sym one) (all_zipped_more IsFormOf (take t schemas) old schema form front is))

pub forms_all : (schemas : List Schema) (t : ℕ) (forms : List RecordForm) → length schemas ≤ t → AreFormsOf (take t schemas) forms → AreFormsOf schemas forms
forms_all schemas t forms done front = subst (λ (xs : List Schema). AreFormsOf xs forms) (take_all t schemas done) front

-- the form of the type at an index
pub form_read : (schemas : List Schema) (forms : List RecordForm) (t : ℕ) (schema : Schema) (d : RecordForm) → AreFormsOf schemas forms → slice_get schemas t ≡ Some schema → IsFormOf schema (get_or forms t d)
form_read [] forms t schema d are found = absurd cc
form_read (s ∷ schemas) [] t schema d are found = absurd are
form_read (s ∷ schemas) (form ∷ forms) zero schema d are found = let same : s ≡ schema = cc in subst (λ (x : Schema). IsFormOf x form) same are.0
form_read (s ∷ schemas) (form ∷ forms) (suc t) schema d are found = form_read schemas forms t schema d are.1 found
