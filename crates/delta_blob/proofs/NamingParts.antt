-- Types of a delta that are taken under their indexes in a model, and seen as its schemas have them.
use Rattle.std.proofs.Common.{◌≡◌, ◌≤◌, ◌∙◌, ℕ, List, [], ◌∷◌, ◌++◌, Option, None, Some, Err, append_assoc, append-nil, ap, arith, inl, inr, length, refl, slice_get, subst, sym}
use Rattle.std.specs.Prelude.{All}
use Rattle.std.specs.List.{AllZip}
use Rattle.std.specs.Option.{option_to_list}
use Rattle.std.proofs.lemmas.Bool.{cases_lt}
use Rattle.std.proofs.lemmas.List.Elements.{All-cons, All-head, All-nil, All-tail, filter_map-append}
use Rattle.std.proofs.lemmas.Option.{same_Some}
use Rattle.std.proofs.lemmas.Slice.Zip.{all_zipped_more}
use Rattle.schema_model.specs.declared.model.rule.Rule.TheVariants.{DuplicateName, TooMany}
use Rattle.schema_model.specs.declared.schema.Schema.{Schema}
use Rattle.schema_model.specs.Growth.{Agree}
use Rattle.schema_model.specs.Model.{IsModel}
use Rattle.schema_model.specs.Parts.{fields_of}
use Rattle.type_rows.specs.Patches.{IsReadablePatch}
use Rattle.seen_patches.proofs.Readable.{seen_readable}
use Rattle.blob_frame.specs.declared.fault.BlobFault.{BlobFault}
use Rattle.blob_frame.specs.declared.fault.BlobFault.TheVariants as fault
use Rattle.blob_cursor.specs.Scene.{IsFree}
use Rattle.blob_faults.specs.Judge.{Blames, each_of, nothing}
use Rattle.blob_faults.proofs.EachOf.{each_fails, passes_more}
use Rattle.delta_blob.specs.declared.of_model.NamedPart.{NamedPart}
use Rattle.delta_blob.specs.declared.part.DeltaPart.{DeltaPart}
use Rattle.delta_blob.specs.declared.patch.PatchPart.{PatchPart}
use Rattle.delta_blob.specs.Judged.{of_model, those_there}
use Rattle.delta_blob.specs.Meant.{Disagrees, IsIndexFor, IsSeenPart}
use Rattle.delta_blob.specs.OfModel.{AreNamed, CanBeSeen, HasFewFields, KeepsNamed, TellsIndex, named_at}
use Rattle.delta_blob.specs.Parts.{IsWellFormedPart}
use Rattle.delta_blob.specs.Patch.{NamesOnce}
use Rattle.delta_blob.specs.Reads.{AreOfModel, IsWholePart}
use Rattle.delta_blob.proofs.JudgedTypes.{AgreesNamed, all_pass_in, each_agrees, index_passes, part_of, passes_model, those_keep}

-- ---- taken under their indexes

one_there : (v : Option NamedPart) → option_to_list v ≡ those_there (v ∷ [])
one_there None = refl
one_there (Some named) = refl

there_more : (found : List (Option NamedPart)) (v : Option NamedPart) → those_there found ++ option_to_list v ≡ those_there (found ++ v ∷ [])
there_more found v = ap (λ (ns : List NamedPart). those_there found ++ ns) (one_there v) ∙ sym (filter_map-append (λ (part : Option NamedPart). part) found (v ∷ []))

module _ (schemas : List Schema) where
  pub named_none : (parts : List DeltaPart) (named : List NamedPart) → parts ≡ [] → named ≡ [] → AreNamed schemas parts named
  unfolding each_of nothing
  named_none parts named none new =
      subst (λ (ps : List DeltaPart). AreNamed schemas ps named) (sym none) (subst (λ (ns : List NamedPart). AreNamed schemas [] ns) (sym new) (record { each = []; passes = refl; are = refl }))

  -- one more
  pub named_more : (done : List DeltaPart) (named all : List NamedPart) (part : DeltaPart) (index : Option ℕ) → AreNamed schemas done named → IsIndexFor schemas part.schema index
      → all ≡ named ++ option_to_list (named_at index part) → AreNamed schemas (done ++ part ∷ []) all
  named_more done named all part index before is pushed = record {
    each = before.each ++ named_at index part ∷ [];
    passes = passes_more (of_model schemas) done before.each part (named_at index part) before.passes (index_passes schemas part index is);
    are = pushed ∙ ap (λ (ns : List NamedPart). ns ++ option_to_list (named_at index part)) before.are ∙ there_more before.each (named_at index part);
  }

  -- one that does not agree is at fault
  index_fails : (part : DeltaPart) (e : BlobFault) → (Disagrees schemas part.schema × (e ≡ fault.OtherModel part.schema.name)) → (of_model schemas part).Fails e
  unfolding of_model
  index_fails part e fails = fails

  pub named_fails : (parts done rest : List DeltaPart) (named : List NamedPart) (part : DeltaPart) (e : BlobFault) → done ++ part ∷ rest ≡ parts → AreNamed schemas done named → TellsIndex schemas part.schema (Err e)
      → Blames (each_of (of_model schemas) parts) IsFree e
  named_fails parts done rest named part e are before (inl fails) =
      inl (subst (λ (ps : List DeltaPart). (each_of (of_model schemas) ps).Fails e) are (each_fails (of_model schemas) done before.each part rest e before.passes (index_fails part e fails)))
  named_fails parts done rest named part e are before (inr free) = inr free

-- ---- seen

module _ (schemas : List Schema) where
  can_see : (named : NamedPart) → AgreesNamed schemas named → HasFewFields named.part → IsWellFormedPart named.part → CanBeSeen schemas named
  can_see named agrees few well = record { mine = agrees.mine; stands = agrees.meant.stands; agree = agrees.agree; few = few; well = well }

  all_can : (named : List NamedPart) → All (AgreesNamed schemas) named → All (λ n. HasFewFields (part_of n)) named → All (λ n. IsWellFormedPart (part_of n)) named → All (CanBeSeen schemas) named
  all_can [] agree few well = All-nil (CanBeSeen schemas)
  all_can (n ∷ named) agree few well =
      let Few : NamedPart → Type 0 = λ n. HasFewFields (part_of n) in
      let Well : NamedPart → Type 0 = λ n. IsWellFormedPart (part_of n) in
      All-cons (CanBeSeen schemas) n named (can_see n (All-head (AgreesNamed schemas) n named agree) (All-head Few n named few) (All-head Well n named well))
      (all_can named (All-tail (AgreesNamed schemas) n named agree) (All-tail Few n named few) (All-tail Well n named well))

  -- the types that are taken can be seen
  pub named_seen : (parts : List DeltaPart) (named : List NamedPart) → AreNamed schemas parts named → All HasFewFields parts → All IsWellFormedPart parts → All (CanBeSeen schemas) named
  named_seen parts named are few well =
      let there = those_there are.each in
      subst (λ (ns : List NamedPart). All (CanBeSeen schemas) ns) (sym are.are)
      (all_can there (each_agrees schemas parts are.each are.passes) (those_keep schemas HasFewFields parts are.each are.passes few) (those_keep schemas IsWellFormedPart parts are.each are.passes well))

  -- and they are those of the model
  pub seen_of_model : (parts : List DeltaPart) (named : List NamedPart) (seen : List PatchPart) → IsModel schemas → NamesOnce parts → AreNamed schemas parts named → All KeepsNamed named
      → AllZip (IsSeenPart schemas) named seen → AreOfModel schemas parts seen
  seen_of_model parts named seen model once are keep each = passes_model schemas (model DuplicateName) parts seen (all_pass_in schemas parts named seen once are keep each)

  -- in a model each type has few fields
  pub few_fields : (index : ℕ) (schema : Schema) → IsModel schemas → slice_get schemas index ≡ Some schema → length (fields_of schema) ≤ 1024
  few_fields index schema model at = elim (cases_lt 1024 (length (fields_of schema))) [ inl many ↦ absurd (model TooMany index (schema, at, inr many)) | inr few ↦ few ]

  one_whole : (named : NamedPart) (seen : PatchPart) → IsModel schemas → CanBeSeen schemas named → KeepsNamed named → IsSeenPart schemas named seen → IsWholePart schemas seen
  one_whole named seen model can keeps is =
      let theirs : IsReadablePatch named.part.schema.shape named.part.section = record { well = can.well; many = can.few; few = keeps.ordinals; items = keeps.items } in
      let same = same_Some can.mine is.mine (sym can.stands ∙ is.stands) in
      let agree = subst (λ (mine : Schema). Agree mine named.part.schema) same can.agree in
      let stands = ap (slice_get schemas) is.type_index ∙ is.stands in
      (is.mine, stands, seen_readable is.mine.shape named.part.schema.shape named.part.section seen.section agree (few_fields named.type_index is.mine model is.stands) theirs is.section)

  -- types that are seen can be moved by
  pub seen_whole : (named : List NamedPart) (seen : List PatchPart) → IsModel schemas → All (CanBeSeen schemas) named → All KeepsNamed named → AllZip (IsSeenPart schemas) named seen → All (IsWholePart schemas) seen
  seen_whole [] [] model can keep each = All-nil (IsWholePart schemas)
  seen_whole (n ∷ named) (s ∷ seen) model can keep each =
      All-cons (IsWholePart schemas) s seen (one_whole n s model (All-head (CanBeSeen schemas) n named can) (All-head KeepsNamed n named keep) each.0)
      (seen_whole named seen model (All-tail (CanBeSeen schemas) n named can) (All-tail KeepsNamed n named keep) each.1)
  seen_whole [] (s ∷ seen) model can keep each = absurd each
  seen_whole (n ∷ named) [] model can keep each = absurd each

  -- one more is seen
  pub seen_more : (done : List NamedPart) (seen all : List PatchPart) (named : NamedPart) (next : PatchPart) → AllZip (IsSeenPart schemas) done seen → IsSeenPart schemas named next → all ≡ seen ++ next ∷ []
      → AllZip (IsSeenPart schemas) (done ++ named ∷ []) all
  seen_more done seen all named next before is pushed =
      subst (λ (ss : List PatchPart). AllZip (IsSeenPart schemas) (done ++ named ∷ []) ss) (sym pushed) (all_zipped_more (IsSeenPart schemas) done seen named next before is)

-- ---- walking over lists that are taken apart

-- nothing is left of a list without items
pub all_taken : {X : Type 0} (done left all : List X) → done ++ left ≡ all → length left ≡ 0 → done ≡ all
all_taken done [] all are none = sym (append-nil done) ∙ are
all_taken done (x ∷ left) all are none = absurd (omega (arith, none))

pub one_taken : {X : Type 0} (done rest : List X) {left initial : List X} {x : X} → left ≡ x ∷ rest → done ++ left ≡ initial → (done ++ x ∷ []) ++ rest ≡ initial
one_taken {X} done rest {x = x} steps at = append_assoc done (x ∷ []) rest ∙ (ap (λ (ls : List X). done ++ ls) (sym steps) ∙ at)

-- what holds of each item holds of the next one
pub next_holds : {X : Type 0} (P : X → Type 0) (done rest all : List X) (x : X) → All P all → done ++ x ∷ rest ≡ all → P x
next_holds {X} P [] rest all x holds are = All-head P x rest (subst (λ (xs : List X). All P xs) (sym are) holds)
next_holds {X} P (d ∷ done) rest all x holds are = next_holds P done rest (done ++ x ∷ rest) x (All-tail P d (done ++ x ∷ rest) (subst (λ (xs : List X). All P xs) (sym are) holds)) refl
