-- A section that can be read can be read as it is seen.
use Rattle.std.proofs.Common.{◌≡◌, inl, inr, ℕ, zero, suc, ◌*◌, ◌^◌, ◌<◌, ◌≤◌, List, [], ◌∷◌, length, sum, Option, None, Some, refl, sym, ap, subst, ◌∙◌, arith}
use Rattle.std.specs.Prelude.{All, IfSome, option_and_then, slice_get, unwrap_or}
use Rattle.std.specs.List.{AllZip}
use Rattle.std.proofs.lemmas.List.{length-map}
use Rattle.std.proofs.lemmas.List.Elements.{All-head, All-tail}
use Rattle.std.proofs.lemmas.Option.{same_Some}
use Rattle.bit_array.specs.Element.{words_of}
use Rattle.schema_model.specs.declared.schema.Field.{Field}
use Rattle.schema_model.specs.declared.schema.FieldKind.{FieldKind}
use Rattle.schema_model.specs.declared.schema.Shape.{Shape}
use Rattle.schema_model.specs.Growth.{IsOneKind, KindsAgree, ShapesAgree}
use Rattle.schema_model.specs.Parts.{shape_fields}
use Rattle.schema_model.specs.Limit.{number_of_limit}
use Rattle.schema_model.specs.declared.limit.Limit.TheVariants.{Items, Ordinals}
use Rattle.type_rows.specs.declared.patch.PatchSection.{PatchSection}
use Rattle.type_rows.specs.Layout.{places_of}
use Rattle.type_rows.specs.Patches.{IsReadablePatch}
use Rattle.type_rows.specs.WellFormed.{IsWidth}
use Rattle.seen_patches.specs.ByName.{field_in}
use Rattle.seen_patches.specs.Nulls.{null_width}
use Rattle.seen_patches.specs.Patch.{HasColumns}
use Rattle.seen_patches.specs.Seen.{IsColumned, IsSeen, seen_area, seen_width, seen_widths}
use Rattle.seen_patches.proofs.Places.{field_found}
use Rattle.seen_patches.proofs.PutColumns.{all_get}
use Rattle.seen_patches.proofs.Reading.{stays}

-- the width of a null is one of its kind
null_wide : (max : Option ℕ) (kind : FieldKind) → IsWidth max kind (null_width kind)
null_wide None (FieldKind.Reference name) = omega arith
null_wide None FieldKind.Int = omega arith
null_wide None FieldKind.Long = omega arith
null_wide None FieldKind.Boolean = omega arith
null_wide None FieldKind.Text = omega arith
null_wide None FieldKind.Bytes = omega arith
null_wide (Some max) (FieldKind.Reference name) = (omega arith, tt)
null_wide (Some max) FieldKind.Int = (omega arith, tt)
null_wide (Some max) FieldKind.Long = (omega arith, tt)
null_wide (Some max) FieldKind.Boolean = (omega arith, refl)
null_wide (Some max) FieldKind.Text = (omega arith, omega arith)
null_wide (Some max) FieldKind.Bytes = (omega arith, omega arith)

-- a width stands beside its field
width_beside : (max : Option ℕ) (fields : List Field) (widths : List ℕ) (index : ℕ) (field : Field) → AllZip (λ field width. IsWidth max field.kind width) fields widths → slice_get fields index ≡ Some field
    → (width : ℕ) × (slice_get widths index ≡ Some width) × IsWidth max field.kind width
width_beside max [] [] index field all there = absurd (let bad : None ≡ Some field = there in cc)
width_beside max [] (width ∷ widths) index field all there = absurd all
width_beside max (other ∷ fields) [] index field all there = absurd all
width_beside max (other ∷ fields) (width ∷ widths) zero field all there = (width, refl, subst (λ (f : Field). IsWidth max f.kind width) (same_Some other field there) all.0)
width_beside max (other ∷ fields) (width ∷ widths) (suc index) field all there = width_beside max fields widths index field all.1 there

one_kind : (field : Field) (others : List Field) (index : ℕ) (other : Field) → All (IsOneKind field) others → slice_get others index ≡ Some other → IsOneKind field other
one_kind field others index other all there = subst (λ (o : Option Field). IfSome o (IsOneKind field)) there (all_get (IsOneKind field) others index all)

-- the width of one field, by where the field of its name stands
width_by : (max : Option ℕ) (theirs : List Field) (widths : List ℕ) (field : Field) (o : Option ℕ) → field_in theirs field.name ≡ o → All (IsOneKind field) theirs
    → AllZip (λ field width. IsWidth max field.kind width) theirs widths → IsWidth max field.kind (seen_width theirs widths field)
width_by max theirs widths field None found agree wide =
    subst (λ (w : ℕ). IsWidth max field.kind w) (sym (ap (λ (o : Option ℕ). unwrap_or (option_and_then (slice_get widths) o) (null_width field.kind)) found)) (null_wide max field.kind)
width_by max theirs widths field (Some index) found agree wide =
    let at = field_found theirs field.name index found in
    let beside = width_beside max theirs widths index at.0 wide at.1 in
    let is : seen_width theirs widths field ≡ beside.0 =
    ap (λ (o : Option ℕ). unwrap_or (option_and_then (slice_get widths) o) (null_width field.kind)) found ∙ ap (λ (o : Option ℕ). unwrap_or o (null_width field.kind)) beside.1 in
    let kind : field.kind ≡ at.0.kind = one_kind field theirs index at.0 agree at.1 (sym at.2) in
    subst (λ (w : ℕ). IsWidth max field.kind w) (sym is) (subst (λ (k : FieldKind). IsWidth max k beside.0) (sym kind) beside.2)

widths_seen : (max : Option ℕ) (mine theirs : List Field) (widths : List ℕ) → KindsAgree mine theirs → AllZip (λ field width. IsWidth max field.kind width) theirs widths
    → AllZip (λ field width. IsWidth max field.kind width) mine (seen_widths mine theirs widths)
widths_seen max [] theirs widths agree wide = tt
widths_seen max (field ∷ mine) theirs widths agree wide = (
  width_by max theirs widths field (field_in theirs field.name) refl (All-head (λ (f : Field). All (IsOneKind f) theirs) field mine agree) wide,
  widths_seen max mine theirs widths (All-tail (λ (f : Field). All (IsOneKind f) theirs) field mine agree) wide,
)

columned_columns : (key other : Option (List (List ℕ))) (mine theirs : List Field) (raw seen : PatchSection) → KindsAgree mine theirs → HasColumns (Shape.Object other theirs) raw → IsColumned mine theirs raw seen
    → HasColumns (Shape.Object key mine) seen
columned_columns key other mine theirs raw seen agree has is = (
  subst (λ (ws : List ℕ). AllZip (λ (field : Field) width. IsWidth seen.max field.kind width) mine ws) (sym is.widths)
      (subst (λ (m : Option ℕ). AllZip (λ (field : Field) width. IsWidth m field.kind width) mine (seen_widths mine theirs raw.widths)) (sym is.max) (widths_seen raw.max mine theirs raw.widths agree has.0)),
  ap (λ (bytes : List (List ℕ)). length bytes) is.areas ∙ length-map mine (seen_area theirs raw.areas),
)

-- a section with a width and an area for each field has them as it is seen
pub columns_seen : (mine theirs : Shape) (raw seen : PatchSection) → ShapesAgree mine theirs → HasColumns theirs raw → IsSeen mine theirs raw seen → HasColumns mine seen
columns_seen (Shape.Object key mine) (Shape.Object other theirs) raw seen agree has (inl is) =
    subst (λ (s : PatchSection). HasColumns (Shape.Object key mine) s) (sym is.1) (subst (λ (fields : List Field). HasColumns (Shape.Object key fields) raw) (sym is.0) has)
columns_seen (Shape.Object key mine) (Shape.Object other theirs) raw seen agree has (inr is) = columned_columns key other mine theirs raw seen agree.1 has is.1
columns_seen (Shape.Object key mine) (Shape.List element) raw seen agree has is = absurd (let same : Shape.Object key mine ≡ Shape.List element = agree in cc)
columns_seen (Shape.Object key mine) (Shape.Set element) raw seen agree has is = absurd (let same : Shape.Object key mine ≡ Shape.Set element = agree in cc)
columns_seen (Shape.Object key mine) (Shape.Map of to) raw seen agree has is = absurd (let same : Shape.Object key mine ≡ Shape.Map of to = agree in cc)
columns_seen (Shape.List element) theirs raw seen agree has is = tt
columns_seen (Shape.Set element) theirs raw seen agree has is = tt
columns_seen (Shape.Map of to) theirs raw seen agree has is = tt

columned_readable : (key other : Option (List (List ℕ))) (mine theirs : List Field) (raw seen : PatchSection) → KindsAgree mine theirs → length mine ≤ 1024
    → IsReadablePatch (Shape.Object other theirs) raw → IsColumned mine theirs raw seen → IsReadablePatch (Shape.Object key mine) seen
columned_readable key other mine theirs raw seen agree many reads is = record {
  well = record {
    wide = subst (λ (ws : List ℕ). AllZip (λ field width. IsWidth seen.max field.kind width) mine ws) (sym is.widths)
        (subst (λ (m : Option ℕ). AllZip (λ field width. IsWidth m field.kind width) mine (seen_widths mine theirs raw.widths)) (sym is.max) (widths_seen raw.max mine theirs raw.widths agree reads.well.wide));
    filled = ap (λ (bytes : List (List ℕ)). length bytes) is.areas ∙ length-map mine (seen_area theirs raw.areas);
    enough = (let e : words_of (length seen.added * sum seen.widths) ≡ length seen.first = ap (λ (a : List ℕ). words_of (length a * sum seen.widths)) is.added ∙ sym is.words in omega (arith, e));
    short = subst (λ (s : List ℕ). length s < 2 ^ 58) (sym is.second) reads.well.short;
  };
  many = many;
  few = (let same = is.max in let kept = reads.few in subst (λ (m : Option ℕ). places_of m ≤ number_of_limit Ordinals) (sym same) kept);
  items = (let same = is.total in let kept = reads.items in subst (λ (t : ℕ). t ≤ number_of_limit Items) (sym same) kept);
}

kept_readable : (key other : Option (List (List ℕ))) (mine theirs : List Field) (raw seen : PatchSection) → key ≡ other → mine ≡ theirs → seen ≡ raw → IsReadablePatch (Shape.Object other theirs) raw
    → IsReadablePatch (Shape.Object key mine) seen
kept_readable key other mine theirs raw seen keys fields same reads =
    subst (λ (s : PatchSection). IsReadablePatch (Shape.Object key mine) s) (sym same)
    (subst (λ (k : Option (List (List ℕ))). IsReadablePatch (Shape.Object k mine) raw) (sym keys) (subst (λ (fs : List Field). IsReadablePatch (Shape.Object other fs) raw) (sym fields) reads))

other_readable : (mine theirs : Shape) (raw seen : PatchSection) → shape_fields mine ≡ [] → mine ≡ theirs → IsReadablePatch theirs raw → IsSeen mine theirs raw seen → IsReadablePatch mine seen
other_readable mine theirs raw seen none same reads is =
    subst (λ (s : PatchSection). IsReadablePatch mine s) (sym (stays mine theirs raw seen none same is)) (subst (λ (shape : Shape). IsReadablePatch shape raw) (sym same) reads)

pub seen_readable : (mine theirs : Shape) (raw seen : PatchSection) → ShapesAgree mine theirs → length (shape_fields mine) ≤ 1024 → IsReadablePatch theirs raw → IsSeen mine theirs raw seen
    → IsReadablePatch mine seen
seen_readable (Shape.Object key mine) (Shape.Object other theirs) raw seen agree many reads (inl is) = kept_readable key other mine theirs raw seen agree.0 is.0 is.1 reads
seen_readable (Shape.Object key mine) (Shape.Object other theirs) raw seen agree many reads (inr is) = columned_readable key other mine theirs raw seen agree.1 many reads is.1
seen_readable (Shape.Object key mine) (Shape.List element) raw seen agree many reads is = absurd (let same : Shape.Object key mine ≡ Shape.List element = agree in cc)
seen_readable (Shape.Object key mine) (Shape.Set element) raw seen agree many reads is = absurd (let same : Shape.Object key mine ≡ Shape.Set element = agree in cc)
seen_readable (Shape.Object key mine) (Shape.Map of to) raw seen agree many reads is = absurd (let same : Shape.Object key mine ≡ Shape.Map of to = agree in cc)
seen_readable (Shape.List element) theirs raw seen agree many reads is = other_readable (Shape.List element) theirs raw seen refl agree reads is
seen_readable (Shape.Set element) theirs raw seen agree many reads is = other_readable (Shape.Set element) theirs raw seen refl agree reads is
seen_readable (Shape.Map of to) theirs raw seen agree many reads is = other_readable (Shape.Map of to) theirs raw seen refl agree reads is
