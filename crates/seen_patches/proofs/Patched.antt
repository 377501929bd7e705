-- What a consumer takes from a section is what the section has as it is seen.
use Rattle.std.proofs.Common.{◌≡◌, ◌⊎◌, inl, inr, ℕ, ◌^◌, ◌-◌, ◌≤◌, min, List, length, sum, Option, refl, sym, ap, ◌∙◌, arith}
use Rattle.std.specs.Prelude.{All, ◌↔◌}
use Rattle.std.proofs.lemmas.List.Sums.{sum-map}
use Rattle.std.proofs.lemmas.Option.{slice_get_within}
use Rattle.std.proofs.lemmas.Slice.Zip.{AllZip-long}
use Rattle.schema_model.specs.declared.schema.Field.{Field}
use Rattle.schema_model.specs.declared.schema.Shape.{Shape}
use Rattle.schema_model.specs.Growth.{ShapesAgree}
use Rattle.schema_model.specs.Parts.{AreApart, shape_fields}
use Rattle.row_model.specs.declared.row.Row.{Row}
use Rattle.type_rows.specs.declared.patch.PatchSection.{PatchSection}
use Rattle.type_rows.specs.Layout.{own_bits}
use Rattle.type_rows.specs.Patches.{AddsRows, patch_layout}
use Rattle.type_rows.specs.WellFormed.{IsWidth}
use Rattle.seen_patches.specs.Nulls.{null_width}
use Rattle.seen_patches.specs.Patch.{AddsSeen, HasColumns, KeepsOrdinals, layout_for, own_for}
use Rattle.seen_patches.specs.Seen.{IsColumned, IsSeen, own_width, seen_widths, shared_bits}
use Rattle.seen_patches.proofs.Columned.{all_narrow, sum_small}
use Rattle.seen_patches.proofs.Places.{named_self}
use Rattle.seen_patches.proofs.Reading.{seen_spells, stays}

pub ordinals_kept : (mine theirs : Shape) (raw seen : PatchSection) → IsSeen mine theirs raw seen → KeepsOrdinals raw seen
ordinals_kept mine theirs raw seen (inl is) =
    record { max = ap (λ (s : PatchSection). s.max) is.1; removed = ap (λ (s : PatchSection). s.removed) is.1; added = ap (λ (s : PatchSection). s.added) is.1 }
ordinals_kept mine theirs raw seen (inr is) = record { max = is.1.max; removed = is.1.removed; added = is.1.added }

-- ---- the widths

-- of the same fields
widths_same : (fields : List Field) (widths : List ℕ) → AreApart fields → length widths ≡ length fields → seen_widths fields fields widths ≡ widths
widths_same fields widths apart long = named_self fields widths (λ field. null_width field.kind) apart long

widths_for : (key : Option (List (List ℕ))) (mine theirs : List Field) (raw seen : PatchSection) → AreApart theirs → length raw.widths ≡ length theirs
    → ((mine ≡ theirs) × (seen ≡ raw)) ⊎ ((mine ≡ theirs → ⊥) × IsColumned mine theirs raw seen) → seen.widths ≡ seen_widths mine theirs raw.widths
widths_for key mine theirs raw seen apart long (inl is) =
    ap (λ (s : PatchSection). s.widths) is.1 ∙ sym (ap (λ (fields : List Field). seen_widths fields theirs raw.widths) is.0 ∙ widths_same theirs raw.widths apart long)
widths_for key mine theirs raw seen apart long (inr is) = is.1.widths

layout_by : (raw seen : PatchSection) (widths : List ℕ) → seen.max ≡ raw.max → seen.widths ≡ widths → patch_layout seen ≡ record { max = raw.max; widths = widths }
layout_by raw seen widths max wide = λ i. record { max = max i; widths = wide i }

pub layout_seen : (mine theirs : Shape) (raw seen : PatchSection) → ShapesAgree mine theirs → AreApart (shape_fields theirs) → HasColumns theirs raw → IsSeen mine theirs raw seen
    → patch_layout seen ≡ layout_for mine theirs raw
layout_seen (Shape.Object key mine) (Shape.Object other theirs) raw seen agree apart well is =
    layout_by raw seen (seen_widths mine theirs raw.widths) (ordinals_kept (Shape.Object key mine) (Shape.Object other theirs) raw seen is).max
    (widths_for key mine theirs raw seen apart (AllZip-long (λ field width. IsWidth raw.max field.kind width) theirs raw.widths well.0) is)
layout_seen (Shape.Object key mine) (Shape.List element) raw seen agree apart well is = absurd (let same : Shape.Object key mine ≡ Shape.List element = agree in cc)
layout_seen (Shape.Object key mine) (Shape.Set element) raw seen agree apart well is = absurd (let same : Shape.Object key mine ≡ Shape.Set element = agree in cc)
layout_seen (Shape.Object key mine) (Shape.Map of to) raw seen agree apart well is = absurd (let same : Shape.Object key mine ≡ Shape.Map of to = agree in cc)
layout_seen (Shape.List element) theirs raw seen agree apart well is = ap patch_layout (stays (Shape.List element) theirs raw seen refl agree is)
layout_seen (Shape.Set element) theirs raw seen agree apart well is = ap patch_layout (stays (Shape.Set element) theirs raw seen refl agree is)
layout_seen (Shape.Map of to) theirs raw seen agree apart well is = ap patch_layout (stays (Shape.Map of to) theirs raw seen refl agree is)

-- ---- what counts

own_same : (fields : List Field) (widths : List ℕ) → AreApart fields → length widths ≡ length fields → shared_bits fields fields widths ≡ sum widths
own_same fields widths apart long = sym (sum-map (own_width fields widths) fields) ∙ ap sum (named_self fields widths (λ field. 0) apart long)

own_by : (mine theirs : List Field) (raw seen : PatchSection) → AreApart theirs → length raw.widths ≡ length theirs → All (λ width. width ≤ 64) raw.widths → length theirs ≤ 1024 → raw.own ≡ min (sum raw.widths) (2 ^ 32 - 1)
    → ((mine ≡ theirs) × (seen ≡ raw)) ⊎ ((mine ≡ theirs → ⊥) × IsColumned mine theirs raw seen) → seen.own ≡ shared_bits mine theirs raw.widths
own_by mine theirs raw seen apart long narrow few own (inl is) =
    let small = sum_small (length theirs) raw.widths long few narrow in
    let whole : raw.own ≡ sum raw.widths = omega (arith, own, small) in
    ap (λ (s : PatchSection). s.own) is.1 ∙ whole ∙ sym (ap (λ (fields : List Field). shared_bits fields theirs raw.widths) is.0 ∙ own_same theirs raw.widths apart long)
own_by mine theirs raw seen apart long narrow few own (inr is) = is.1.own

kept_own : (raw seen : PatchSection) → seen ≡ raw → raw.own ≡ min 0 (2 ^ 32 - 1) → seen.own ≡ 0
kept_own raw seen same own = ap (λ (s : PatchSection). s.own) same ∙ own

pub own_seen : (mine theirs : Shape) (raw seen : PatchSection) → ShapesAgree mine theirs → AreApart (shape_fields theirs) → length (shape_fields theirs) ≤ 1024 → HasColumns theirs raw
    → raw.own ≡ own_bits theirs raw.widths → IsSeen mine theirs raw seen → seen.own ≡ own_for mine theirs raw.widths
own_seen (Shape.Object key mine) (Shape.Object other theirs) raw seen agree apart few well own is =
    own_by mine theirs raw seen apart (AllZip-long (λ field width. IsWidth raw.max field.kind width) theirs raw.widths well.0) (all_narrow raw.max theirs raw.widths well.0) few own is
own_seen (Shape.Object key mine) (Shape.List element) raw seen agree apart few well own is = absurd (let same : Shape.Object key mine ≡ Shape.List element = agree in cc)
own_seen (Shape.Object key mine) (Shape.Set element) raw seen agree apart few well own is = absurd (let same : Shape.Object key mine ≡ Shape.Set element = agree in cc)
own_seen (Shape.Object key mine) (Shape.Map of to) raw seen agree apart few well own is = absurd (let same : Shape.Object key mine ≡ Shape.Map of to = agree in cc)
own_seen (Shape.List element) theirs raw seen agree apart few well own is =
    kept_own raw seen (stays (Shape.List element) theirs raw seen refl agree is) (own ∙ ap (λ (shape : Shape). own_bits shape raw.widths) (sym agree))
own_seen (Shape.Set element) theirs raw seen agree apart few well own is =
    kept_own raw seen (stays (Shape.Set element) theirs raw seen refl agree is) (own ∙ ap (λ (shape : Shape). own_bits shape raw.widths) (sym agree))
own_seen (Shape.Map of to) theirs raw seen agree apart few well own is =
    kept_own raw seen (stays (Shape.Map of to) theirs raw seen refl agree is) (own ∙ ap (λ (shape : Shape). own_bits shape raw.widths) (sym agree))

-- ---- the rows

pub rows_seen : (mine theirs : Shape) (raw seen : PatchSection) (rows : List Row) → ShapesAgree mine theirs → AreApart (shape_fields theirs) → HasColumns theirs raw → IsSeen mine theirs raw seen
    → AddsRows mine seen rows ↔ AddsSeen mine theirs raw rows
rows_seen mine theirs raw seen rows agree apart well is =
    let added = ap (λ (a : List ℕ). length a) (ordinals_kept mine theirs raw seen is).added in (
      λ adds. record {
        each = adds.each ∙ added;
        spelled = λ place row there.
            (seen_spells mine theirs raw seen place row agree apart well is (omega (arith, slice_get_within rows place row there, adds.each, added))).0 (adds.spelled place row there);
      },
      λ adds. record {
        each = adds.each ∙ sym added;
        spelled = λ place row there. (seen_spells mine theirs raw seen place row agree apart well is (omega (arith, slice_get_within rows place row there, adds.each))).1 (adds.spelled place row there);
      },
    )
