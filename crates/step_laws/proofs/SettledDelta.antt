-- No blob is such that its trial as a delta neither passes nor fails.
use Rattle.std.proofs.Common.{◌≡◌, ◌≤◌, ℕ, ℤ, List, Option, None, Some, length, refl, sym, ◌∙◌, subst, arith, inl, inr}
use Rattle.std.specs.Prelude.{◌≢◌}
use Rattle.std.proofs.lemmas.List.{length-map}
use Rattle.std.proofs.lemmas.Option.{slice_get_cases}
use Rattle.schema_model.specs.declared.model.rule.Rule.TheVariants.{DuplicateName}
use Rattle.schema_model.specs.declared.reason.Reason.TheVariants.{BadSchema}
use Rattle.schema_model.specs.declared.schema.Schema.{Schema}
use Rattle.schema_model.specs.Growth.{Agree}
use Rattle.schema_model.specs.Model.{BreaksAt}
use Rattle.schema_model.specs.Parts.{index_of_type}
use Rattle.schema_model.proofs.Ways.{type_inside}
use Rattle.seen_patches.proofs.SomeSeen.{each_seen}
use Rattle.blob_grammar.specs.Decided.{AreBytes}
use Rattle.blob_grammar.specs.Form.{Form}
use Rattle.blob_frame.specs.declared.fault.BlobFault.TheVariants as fault
use Rattle.blob_frame.specs.Header.{header}
use Rattle.blob_faults.specs.Judge.{◌>>=◌, each_of, nothing}
use Rattle.blob_faults.specs.Models.{names_once}
use Rattle.blob_faults.specs.Reading.{short, standing, starts}
use Rattle.blob_faults.specs.Settles.{Settles}
use Rattle.blob_faults.proofs.LeastNumber.{no_number}
use Rattle.blob_faults.proofs.Settled.{settles_counts, settles_each, settles_nothing, settles_short, settles_standing, settles_test, settles_then}
use Rattle.blob_faults.proofs.SettledModels.{offset_there}
use Rattle.delta_blob.specs.declared.part.DeltaPart.{DeltaPart}
use Rattle.delta_blob.specs.Judged.{counts_of, delta_of, of_model, offsets_in, parts_in, patch_of, seen_of, those_there}
use Rattle.delta_blob.specs.Meant.{IsMeant}
use Rattle.delta_blob.specs.Parts.{body}
use Rattle.delta_blob.specs.Patch.{schemas_in}
use Rattle.delta_blob.proofs.JudgedTypes.{AgreesNamed, each_agrees}
use Rattle.delta_blob.proofs.Meant.{all_at}

-- ---- bytes

-- what stands in a blob ends within it
ends_within : {V : Type 0} (form : Form V) (blob : List ℕ) (at : ℕ) (v : V) (next : ℕ) → AreBytes blob → at ≤ length blob → form.Stands blob at v next → next ≤ length blob
ends_within form blob at v next bytes inside stands = elim (form.decided.some blob at bytes inside) [
  | inl found ↦ subst (λ n. n ≤ length blob) (form.decided.one blob at found.0 v found.1 next found.2 stands).1 found.3
  | inr stuck ↦ absurd (form.decided.apart blob at v next stuck.0 stuck.1 stands stuck.2)
]

-- one tag is another one, or is not
settles_starts : (origin current : ℤ) → Settles (starts origin current)
unfolding starts
settles_starts origin current =
    settles_test (origin ≡ current) (origin ≢ current) (λ same apart. apart same) (fault.OtherOrigin origin current) tt (λ no_same no_other. no_other no_same)

-- ---- types

-- no name stands twice, or there is a first type whose name does
settles_names : (offsets : List ℕ) (schemas : List Schema) → length offsets ≡ length schemas → Settles (names_once offsets schemas)
unfolding names_once
settles_names offsets schemas same no_pass no_fail =
    no_pass tt (no_number (BreaksAt schemas DuplicateName) (λ t broken least.
    let at = offset_there offsets schemas t broken.0 same broken.1 in
    no_fail (fault.Bad at.0 BadSchema) (t, record { broken = broken; least = least }, (at.0, at.1, refl))))

-- the model has a type at this index, which agrees or does not
settles_index : (schemas : List Schema) (part : DeltaPart) (t : ℕ) → index_of_type schemas part.schema.name ≡ Some t → Settles (of_model schemas part)
unfolding of_model
settles_index schemas part t first no_pass no_fail =
    elim (slice_get_cases schemas t).1 [
      | inl (mine, inside, stands, at) ↦
          let meant : IsMeant schemas part.schema t mine = record { first = first; stands = stands } in
          let differs : Agree mine part.schema → ⊥ = λ agree. no_pass (Some (record { type_index = t; part = part })) (record { agrees = record { mine = mine; meant = meant; agree = agree }; same = refl }) in
          no_fail (fault.OtherModel part.schema.name) (record { index = t; mine = mine; meant = meant; differs = differs }, refl)
      | inr (past, none) ↦ let within = type_inside schemas part.schema.name t first in omega (arith, past, within)
    ]

-- a type of the delta agrees with the model's of its name, or does not, where the model has one
settles_named : (schemas : List Schema) (part : DeltaPart) (o : Option ℕ) → index_of_type schemas part.schema.name ≡ o → Settles (of_model schemas part)
unfolding of_model
settles_named schemas part None none no_pass no_fail = no_pass None none
settles_named schemas part (Some t) first no_pass no_fail = settles_index schemas part t first no_pass no_fail

-- the types that stand in a delta: those that agree are seen in some way
settles_types : (schemas : List Schema) (parts : List DeltaPart) → Settles (parts_in schemas parts)
unfolding parts_in seen_of
settles_types schemas parts =
    let offsets = offsets_in parts in
    let stated = schemas_in parts in
    let same : length offsets ≡ length stated = length-map parts (λ (part : DeltaPart). part.at) ∙ sym (length-map parts (λ (part : DeltaPart). part.schema)) in
    settles_then (names_once offsets stated) (λ done. each_of (of_model schemas) parts >>= λ found. each_of counts_of (those_there found) >>= λ counted. each_of (seen_of schemas) (those_there found))
    (settles_names offsets stated same) (λ done once.
    settles_then (each_of (of_model schemas) parts) (λ found. each_of counts_of (those_there found) >>= λ counted. each_of (seen_of schemas) (those_there found))
    (settles_each (of_model schemas) parts (λ index part at. settles_named schemas part (index_of_type schemas part.schema.name) refl)) (λ found are.
    settles_then (each_of counts_of (those_there found)) (λ counted. each_of (seen_of schemas) (those_there found))
    (settles_each counts_of (those_there found) (λ index named at. settles_counts named.part.section.max named.part.section.total)) (λ counted kept.
    settles_each (seen_of schemas) (those_there found) (λ index named at no_pass no_fail.
    let agrees = all_at (AgreesNamed schemas) (those_there found) index named (each_agrees schemas parts found are) at in
    let mine = agrees.mine in
    let (section, is) = each_seen mine.shape named.part.schema.shape named.part.section agrees.agree in
    no_pass (record { type_index = named.type_index; at = named.part.at; section = section })
    (record { mine = mine; stands = agrees.meant.stands; type_index = refl; at = refl; section = is })))))

-- ---- a delta

settles_patch : (blob : List ℕ) (at : ℕ) (schemas : List Schema) → AreBytes blob → at ≤ length blob → Settles (patch_of blob at schemas)
unfolding patch_of
settles_patch blob at schemas bytes inside =
    settles_then (standing body blob at) (λ found. parts_in schemas found.0) (settles_standing body blob at bytes inside) (λ found stands. settles_types schemas found.0)

-- of all bytes it cannot be that they neither pass nor fail as a delta
pub settles_delta : (blob : List ℕ) (current : ℤ) (schemas : List Schema) → AreBytes blob → Settles (delta_of blob current schemas)
unfolding delta_of standing
settles_delta blob current schemas bytes =
    settles_then (short blob) (λ done. standing header blob 0 >>= λ head. starts head.0.origin current >>= λ same. patch_of blob head.1 schemas >>= λ named. nothing (head.0, named)) (settles_short blob) (λ done few.
    settles_then (standing header blob 0) (λ head. starts head.0.origin current >>= λ same. patch_of blob head.1 schemas >>= λ named. nothing (head.0, named))
    (settles_standing header blob 0 bytes (omega arith)) (λ head begins.
    settles_then (starts head.0.origin current) (λ same. patch_of blob head.1 schemas >>= λ named. nothing (head.0, named)) (settles_starts head.0.origin current) (λ same origin.
    settles_then (patch_of blob head.1 schemas) (λ named. nothing (head.0, named))
    (settles_patch blob head.1 schemas bytes (ends_within header blob 0 head.0 head.1 bytes (omega arith) begins)) (λ named passes. settles_nothing (head.0, named)))))
