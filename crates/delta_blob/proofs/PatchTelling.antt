-- What the types of a delta that are read say of the blob.
use Rattle.std.proofs.Common.{◌≡◌, ◌⊎◌, ◌↔◌, ℕ, List, length, Option, Some, None, Result, Ok, Err, IfErr, IfOk, IfSome, ◌∙◌, ap, inl, inr, refl, sym, subst}
use Rattle.std.specs.Prelude.{IsErrAnd, OnOk}
use Rattle.schema_model.specs.declared.schema.Schema.{Schema}
use Rattle.schema_model.specs.declared.model.rule.Rule.TheVariants.{DuplicateName}
use Rattle.schema_model.specs.Model.{IsModel}
use Rattle.blob_frame.specs.declared.fault.BlobFault.{BlobFault}
use Rattle.blob_frame.specs.declared.fault.BlobFault.TheVariants as fault
use Rattle.blob_cursor.specs.Scene.{IsFree, IsItemFault, Tells}
use Rattle.blob_faults.specs.Judge.{Blames, Judge, ◌>>=◌}
use Rattle.blob_faults.specs.Reading.{standing}
use Rattle.delta_blob.specs.declared.part.DeltaPart.{DeltaPart}
use Rattle.delta_blob.specs.declared.patch.PatchPart.{PatchPart}
use Rattle.delta_blob.specs.Judged.{parts_in, patch_of}
use Rattle.delta_blob.specs.OfModel.{AreSpelled, IsTypesFault}
use Rattle.delta_blob.specs.Parts.{body}
use Rattle.delta_blob.specs.Reads.{AreOfModel, FailsPatch, IsPatchAt, IsPatchFault, TellsPatch}
use Rattle.delta_blob.proofs.JudgedTypes.{model_passes, passes_model}
use Rattle.delta_blob.proofs.SpelledParts.{body_spelled}
use Rattle.delta_blob.proofs.WholeDeltas.{body_ends}

-- ---- what is tried

-- where a fault that is answered tells of a trial, the trial fails with no other
pub blames_once : {T V : Type 0} (judge : Judge V) (e found : BlobFault) (answer : Result T BlobFault) → answer ≡ Err e → Blames judge IsFree e → judge.Fails found → (answer ≡ Err found) ⊎ IsErrAnd answer IsFree
blames_once judge e found answer is (inl fails) other = inl (is ∙ ap (λ (e : BlobFault). Err e) (judge.decided.once e found fails other))
blames_once judge e found answer is (inr free) other = inr (subst (λ a. IsErrAnd a IsFree) (sym is) free)

module _ (schemas : List Schema) (model : IsModel schemas) (blob : List ℕ) (at : ℕ) (named : List PatchPart) where
  -- types that stand are those of the model exactly where what is tried of them passes
  pub patch_passes : IsPatchAt blob at schemas named → (patch_of blob at schemas).Passes named
  unfolding patch_of ◌>>=◌ standing
  patch_passes (parts, stands, are) = ((parts, length blob), stands, model_passes schemas (model DuplicateName) parts named are)

  pub passes_patch : (patch_of blob at schemas).Passes named → IsPatchAt blob at schemas named
  unfolding patch_of ◌>>=◌ standing
  passes_patch (found, stands, passes) =
      let ends = body_ends blob at found.1 found.0 stands in
      (found.0, subst (λ n. body.Stands blob at found.0 n) ends stands, passes_model schemas (model DuplicateName) found.0 named passes)

pub patch_exactly : (schemas : List Schema) → IsModel schemas → (blob : List ℕ) (at : ℕ) (named : List PatchPart) → IsPatchAt blob at schemas named ↔ (patch_of blob at schemas).Passes named
patch_exactly schemas model blob at named = (patch_passes schemas model blob at named, passes_patch schemas model blob at named)

-- ---- what is told

stop_tells : (blob : List ℕ) (at next : ℕ) (schemas : List Schema) (e : BlobFault) → Tells body (Some blob) at (Err e) next → Blames (patch_of blob at schemas) IsFree e
unfolding patch_of ◌>>=◌ standing
stop_tells blob at next schemas (fault.Bad place why) tells = inl (inl (place, why, tells, refl))
stop_tells blob at next schemas _ tells = inr tells

pub told_stop : (content : Option (List ℕ)) (at next : ℕ) (schemas : List Schema) (e : BlobFault) (answer : Result (List PatchPart) BlobFault) → answer ≡ Err e → Tells body content at (Err e) next
    → IfSome content (λ blob. TellsPatch blob at schemas answer)
told_stop None at next schemas e answer is tells = tt
told_stop (Some blob) at next schemas e answer is tells = subst (λ (a : Result (List PatchPart) BlobFault). TellsPatch blob at schemas a) (sym is) (stop_tells blob at next schemas e tells)

parts_tell : (blob : List ℕ) (at : ℕ) (schemas : List Schema) (parts : List DeltaPart) (answer : Result (List PatchPart) BlobFault) → body.Stands blob at parts (length blob)
    → IfOk answer (AreOfModel schemas parts) → IfErr answer (Blames (parts_in schemas parts) IsFree) → TellsPatch blob at schemas answer
unfolding patch_of ◌>>=◌ standing
parts_tell blob at schemas parts (Ok named) stands are blames = (parts, stands, are)
parts_tell blob at schemas parts (Err e) stands are (inl fails) = inl (inr ((parts, length blob), stands, fails))
parts_tell blob at schemas parts (Err e) stands are (inr free) = inr free

pub told_parts : (content : Option (List ℕ)) (at next : ℕ) (schemas : List Schema) (parts : List DeltaPart) (answer : Result (List PatchPart) BlobFault) → Tells body content at (Ok parts) next
    → IfOk answer (AreOfModel schemas parts) → (AreSpelled parts → IfErr answer (Blames (parts_in schemas parts) IsFree)) → IfSome content (λ blob. TellsPatch blob at schemas answer)
told_parts None at next schemas parts answer tells are blames = tt
told_parts (Some blob) at next schemas parts answer tells are blames =
    parts_tell blob at schemas parts answer (subst (λ n. body.Stands blob at parts n) (body_ends blob at next parts tells) tells) are (blames (body_spelled blob at parts next tells))

answer_fails : (blob : List ℕ) (at : ℕ) (schemas : List Schema) (answer : Result (List PatchPart) BlobFault) → OnOk answer (IsModel schemas) → TellsPatch blob at schemas answer → FailsPatch blob at schemas answer
answer_fails blob at schemas (Ok named) model is = λ found fails. absurd ((patch_of blob at schemas).decided.apart named found (patch_passes schemas model blob at named is) fails)
answer_fails blob at schemas (Err e) model blames = λ found fails. blames_once (patch_of blob at schemas) e found (Err e) refl blames fails

-- where what is tried fails the answer is the fault of it
pub told_fails : (content : Option (List ℕ)) (at : ℕ) (schemas : List Schema) (answer : Result (List PatchPart) BlobFault) → OnOk answer (IsModel schemas) → IfSome content (λ blob. TellsPatch blob at schemas answer)
    → IfSome content (λ blob. FailsPatch blob at schemas answer)
told_fails None at schemas answer model tells = tt
told_fails (Some blob) at schemas answer model tells = answer_fails blob at schemas answer model tells

-- the types that are read reach up to the end of the blob
pub told_end : (content : Option (List ℕ)) (at next : ℕ) (parts : List DeltaPart) → Tells body content at (Ok parts) next → IfSome content (λ blob. next ≡ length blob)
told_end None at next parts tells = tt
told_end (Some blob) at next parts tells = body_ends blob at next parts tells

pub on_ok : {T E P : Type 0} (answer : Result T E) → P → OnOk answer P
on_ok (Ok found) p = p
on_ok (Err fault) p = tt

pub on_err : {T E : Type 0} (P : Type 0) (answer : Result T E) (e : E) → answer ≡ Err e → OnOk answer P
on_err {T} {E} P answer e is = subst (λ (a : Result T E). OnOk a P) (sym is) tt

-- ---- which faults come

item_kind : (e : BlobFault) → IsItemFault e → IsPatchFault e
item_kind (fault.Bad place why) kind = tt
item_kind fault.Store kind = tt
item_kind fault.Memory kind = tt
item_kind _ kind = absurd kind

-- the faults of the items
pub items_kind : {T : Type 0} (e : BlobFault) (answer : Result T BlobFault) → answer ≡ Err e → IsItemFault e → IfErr answer IsPatchFault
items_kind e answer is kind = subst (λ a. IfErr a IsPatchFault) (sym is) (item_kind e kind)

-- the faults of the types
pub parts_kind : {T : Type 0} (answer : Result T BlobFault) → IfErr answer IsTypesFault → IfErr answer IsPatchFault
parts_kind (Ok named) kind = tt
parts_kind (Err (fault.Bad place why)) kind = tt
parts_kind (Err (fault.OtherModel of)) kind = tt
parts_kind (Err (fault.Large limit)) kind = kind
parts_kind (Err fault.Memory) kind = tt
parts_kind (Err _) kind = absurd kind

-- none of them is a fault of the store
pub not_store : {T : Type 0} (answer : Result T BlobFault) → IfErr answer IsTypesFault → answer ≡ Err fault.Store → ⊥
not_store {T} answer kind is = let Kind : Result T BlobFault → Type 0 = λ a. IfErr a IsTypesFault in subst Kind is kind
