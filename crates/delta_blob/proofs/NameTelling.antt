-- What the rule of names says of the types of a delta.
use Rattle.std.proofs.Common.{◌≡◌, ◌<◌, ◌∙◌, ℕ, List, Some, Result, Ok, IfErr, ap, arith, get_or, inl, inr, length, refl, subst, sym}
use Rattle.std.specs.Prelude.{All, OnOk, option_map, slice_get}
use Rattle.std.proofs.lemmas.Bool.{cases_lt}
use Rattle.std.proofs.lemmas.List.{length-map}
use Rattle.std.proofs.lemmas.Option.{slice_get-get_or, slice_get-map, slice_get_within}
use Rattle.schema_model.specs.declared.model.faults.ModelFault.{ModelFault}
use Rattle.schema_model.specs.declared.model.faults.ModelFault.TheVariants.{Broken}
use Rattle.schema_model.specs.declared.model.rule.Rule.{Rule}
use Rattle.schema_model.specs.declared.model.rule.Rule.TheVariants.{BadPath, CyclicModel, DuplicateName, FloatField, LongName, TooDeep, TooMany, UnknownType}
use Rattle.schema_model.specs.declared.reason.Reason.TheVariants.{BadSchema}
use Rattle.schema_model.specs.declared.schema.Schema.{Schema}
use Rattle.schema_model.specs.Faults.{TellsFault, TellsModel}
use Rattle.schema_model.specs.Model.{IsFirstBroken, IsKept, IsModel, rule_place}
use Rattle.schema_model.specs.Parts.{fields_of}
use Rattle.blob_frame.specs.declared.fault.BlobFault.TheVariants as fault
use Rattle.blob_cursor.specs.Scene.{IsFree}
use Rattle.blob_faults.specs.Judge.{Blames}
use Rattle.blob_faults.specs.Models.{names_once}
use Rattle.delta_blob.specs.declared.part.DeltaPart.{DeltaPart}
use Rattle.delta_blob.specs.OfModel.{AreSpelled, HasFewFields, names_in}
use Rattle.delta_blob.specs.Patch.{NamesOnce, schemas_in}

-- types of few fields
pub few_kept : (parts : List DeltaPart) → IsKept (schemas_in parts) TooMany → All HasFewFields parts
few_kept parts kept = λ k d inside.
    let schema_of = λ (part : DeltaPart). part.schema in
    let part = get_or parts k d in
    let there = slice_get-map schema_of parts k ∙ ap (option_map schema_of) (slice_get-get_or parts k d inside) in
    elim (cases_lt 1024 (length (fields_of part.schema))) [ inl many ↦ absurd (kept k (part.schema, there, inr many)) | inr few ↦ few ]

-- ---- what a fault of the model of all schemas says

module _ (parts : List DeltaPart) (e : ModelFault) (rule : Rule) (t : ℕ) (is : e ≡ Broken rule t) (tells : TellsFault (schemas_in parts) e) where
  first_broken : IsFirstBroken (schemas_in parts) rule t
  first_broken = subst (TellsFault (schemas_in parts)) is tells

  -- a rule behind that of names
  pub behind_once : rule_place DuplicateName < rule_place rule → NamesOnce parts
  behind_once behind = first_broken.earlier DuplicateName behind

  pub behind_few : rule_place DuplicateName < rule_place rule → All HasFewFields parts
  behind_few behind = few_kept parts (first_broken.earlier TooMany (omega (arith, behind)))

  -- the type that breaks it is there
  pub fault_inside : t < length parts
  fault_inside =
      let (schema, there, breaks) = first_broken.broken in
      omega (arith, slice_get_within (schemas_in parts) t schema there, length-map parts (λ (p : DeltaPart). p.schema))

-- the first type whose name stands twice is at fault
name_blamed : (parts : List DeltaPart) (t : ℕ) (part : DeltaPart) → IsFirstBroken (schemas_in parts) DuplicateName t → slice_get parts t ≡ Some part → (names_in parts).Fails (fault.Bad part.at BadSchema)
unfolding names_once
name_blamed parts t part first there =
    let offset_of = λ (p : DeltaPart). p.at in
    let at = slice_get-map offset_of parts t ∙ ap (option_map offset_of) there in
    (t, record { broken = first.broken; least = first.least }, (part.at, at, refl))

-- where types are spelled no earlier rule is broken
names_fail : (parts : List DeltaPart) (rule : Rule) (t : ℕ) (part : DeltaPart) → (rule_place DuplicateName < rule_place rule → ⊥) → IsFirstBroken (schemas_in parts) rule t → AreSpelled parts
    → slice_get parts t ≡ Some part → (names_in parts).Fails (fault.Bad part.at BadSchema)
names_fail parts TooMany t part not first spelled there = absurd (spelled.few t first.broken)
names_fail parts LongName t part not first spelled there = absurd (spelled.short t first.broken)
names_fail parts DuplicateName t part not first spelled there = name_blamed parts t part first there
names_fail parts FloatField t part not first spelled there = absurd (not (omega arith))
names_fail parts UnknownType t part not first spelled there = absurd (not (omega arith))
names_fail parts CyclicModel t part not first spelled there = absurd (not (omega arith))
names_fail parts TooDeep t part not first spelled there = absurd (not (omega arith))
names_fail parts BadPath t part not first spelled there = absurd (not (omega arith))

pub names_blamed : (parts : List DeltaPart) (e : ModelFault) (rule : Rule) (t : ℕ) (d : DeltaPart) → e ≡ Broken rule t → TellsFault (schemas_in parts) e → (rule_place DuplicateName < rule_place rule → ⊥)
    → AreSpelled parts → Blames (names_in parts) IsFree (fault.Bad (get_or parts t d).at BadSchema)
names_blamed parts e rule t d is tells not spelled =
    inl (names_fail parts rule t (get_or parts t d) not (first_broken parts e rule t is tells) spelled (slice_get-get_or parts t d (fault_inside parts e rule t is tells)))

-- ---- the model of all schemas

module _ (parts : List DeltaPart) (schemas model : List Schema) (answer : Result (List Schema) ModelFault) (are : schemas ≡ schemas_in parts) (is : answer ≡ Ok model) (tells : TellsModel schemas answer) where
  all_model : IsModel (schemas_in parts)
  all_model =
      let told = subst (λ (a : Result (List Schema) ModelFault). TellsModel schemas a) is tells in
      subst (λ (ss : List Schema). IsModel ss) are told.1

  -- in a model no name stands twice, and no type has many fields
  pub model_once : NamesOnce parts
  model_once = all_model DuplicateName

  pub model_few : All HasFewFields parts
  model_few = few_kept parts (all_model TooMany)

-- what an answer that is another one says
pub on_same : {T E : Type 0} (P : Type 0) (answer other : Result T E) → answer ≡ other → OnOk other P → OnOk answer P
on_same {T} {E} P answer other is p = subst (λ (a : Result T E). OnOk a P) (sym is) p

pub err_same : {T E : Type 0} (P : E → Type 0) (answer other : Result T E) → answer ≡ other → IfErr other P → IfErr answer P
err_same {T} {E} P answer other is p = subst (λ (a : Result T E). IfErr a P) (sym is) p
