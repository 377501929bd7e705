-- Lemmas on the elements of a record that are written behind one another, and on what is kept outside of it.
use Rattle.std.proofs.Common.{◌≡◌, ℕ, zero, suc, ◌+◌, ◌*◌, ◌/◌, ◌%◌, ◌^◌, ◌<◌, ◌≤◌, ◌⊎◌, List, [], ◌∷◌, length, get_or, take, refl, sym, ap, ◌∙◌, subst, arith, inl, inr, Option, Some, None}
use Rattle.std.specs.Prelude.{sum, All, slice_get, IfSome}
use Rattle.std.specs.List.{AllZip}
use Rattle.std.proofs.Math.Nat.{zero-mod, mul-le-mul_right, mul-le-mul, mod-eq_of_lt, pow-suc}
use Rattle.std.proofs.lemmas.Bool.{cases_lt}
use Rattle.std.proofs.lemmas.List.{take_all}
use Rattle.std.proofs.lemmas.List.Sums.{sum_by_more}
use Rattle.std.proofs.lemmas.Nat.{pow_pos, shr_split, shr_high, mod_below}
use Rattle.std.proofs.lemmas.Option.{slice_get_read, slice_get_past}
use Rattle.std.proofs.lemmas.Slice.Zip.{AllZip-long}
use Rattle.bit_array.specs.Element.{number_of, element_of, SetsBlock}
use Rattle.bit_array.proofs.Blocks.{no_block, both_blocks, block_is, block_apart}
use Rattle.row_model.specs.Areas.{area_of}
use Rattle.row_model.specs.Row.{FitsKind, stored_value, stored_row}
use Rattle.schema_model.specs.Parts.{shape_fields}
use Rattle.schema_model.specs.declared.schema.FieldKind.{FieldKind}
use Rattle.schema_model.specs.declared.schema.Field.{Field}
use Rattle.schema_model.specs.declared.schema.Shape.{Shape}
use Rattle.row_model.specs.declared.row.Row.{Row}
use Rattle.row_model.specs.declared.row.Value.{Value}
use Rattle.object_codec.specs.ObjectPlace.{element_at, start_at, IsKindWidth, IsFieldWidth, SpellsObjectRow}
use Rattle.object_codec.specs.Packing.{HasBytes, PacksPart}
use Rattle.object_codec.specs.Stored.{values_of_row}
use Rattle.object_codec.proofs.FieldParts.{spells_all, ends_before}
use Rattle.object_codec.proofs.FieldWidths.{all_zip_at, fields_small}
use Rattle.object_codec.proofs.SameParts.{part_of}
use Rattle.record_copies.specs.Element.{GivesValue, GiveValues, IsOutsideKept}
use Rattle.record_copies.specs.Fixed.{record_at, HoldsRecord, HasRecordRoom, AreOthersKept, IsEndKept}
use Rattle.record_copies.proofs.RecordBits.{value_moved}

-- ---- the elements of values, one after another

-- the elements of the values below an index are written
pub record PutSoFar (widths old : List ℕ) (start : ℕ) (values : List Value) (first : List ℕ) (index at : ℕ) : Type 0 where
  pub position : at ≡ start + sum (take index widths)
  pub kept : IsOutsideKept old first start at
  pub done : (k : ℕ) → k < index → IfSome (slice_get values k) (GivesValue (get_or widths k 0) (element_of first (start + sum (take k widths)) (get_or widths k 0)))

pub put_none : (widths first : List ℕ) (start : ℕ) (values : List Value) → PutSoFar widths first start values first 0 start
put_none widths first start values = record {
  position = omega arith;
  kept = λ at width outside. refl;
  done = λ k none. absurd (omega arith);
}

kept_found : (found : Option Value) (width e e' : ℕ) → e' ≡ e → IfSome found (GivesValue width e) → IfSome found (GivesValue width e')
kept_found found width e e' same h = subst (λ (x : ℕ). IfSome found (GivesValue width x)) (sym same) h

pub put_more : (widths old : List ℕ) (start : ℕ) (values : List Value) (first first' : List ℕ) (index at element width : ℕ) (value : Value) → PutSoFar widths old start values first index at
    → index < length widths → index < length values → width ≡ get_or widths index 0 → value ≡ get_or values index value → GivesValue width element value → element_of first' at width ≡ element
    → ((i v : ℕ) → (i + v ≤ at) ⊎ (at + width ≤ i) → element_of first' i v ≡ element_of first i v) → PutSoFar widths old start values first' (index + 1) (at + width)
put_more widths old start values first first' index at element width value so_far inside there wide is gives_it written others =
    let here = so_far.position in
    let more : sum (take (index + 1) widths) ≡ sum (take index widths) + get_or widths index 0 = sum_by_more (λ w. w) widths index 0 inside in
    record {
      position = omega arith;
      kept = λ i v outside. outside_more i v outside;
      done = λ k before.
          elim (cases_lt k index) [
            | inl earlier ↦
                let ends = ends_before widths k index earlier in
                kept_found (slice_get values k) (get_or widths k 0) (element_of first (start + sum (take k widths)) (get_or widths k 0)) (element_of first' (start + sum (take k widths)) (get_or widths k 0))
                (others (start + sum (take k widths)) (get_or widths k 0) (inl (omega arith))) (so_far.done k earlier)
            | inr late ↦
                let at_index : index ≡ k = omega arith in
                subst (λ (n : ℕ). IfSome (slice_get values n) (GivesValue (get_or widths n 0) (element_of first' (start + sum (take n widths)) (get_or widths n 0)))) at_index put_here
          ];
    }
  where
    outside_more : (i v : ℕ) → (i + v ≤ start) ⊎ (at + width ≤ i) → element_of first' i v ≡ element_of old i v
    outside_more i v (inl below) = let p = so_far.position in others i v (inl (omega arith)) ∙ so_far.kept i v (inl below)
    outside_more i v (inr above) = others i v (inr above) ∙ so_far.kept i v (inr (omega arith))

    put_here : IfSome (slice_get values index) (GivesValue (get_or widths index 0) (element_of first' (start + sum (take index widths)) (get_or widths index 0)))
    put_here =
        let found : slice_get values index ≡ Some value = slice_get_read values (length values) index value refl there is in
        let element_is : element ≡ element_of first' (start + sum (take index widths)) width = sym written ∙ ap (λ p. element_of first' p width) so_far.position in
        subst (λ (w : ℕ). IfSome (slice_get values index) (GivesValue w (element_of first' (start + sum (take index widths)) w))) wide
        (subst (λ (o : Option Value). IfSome o (GivesValue width (element_of first' (start + sum (take index widths)) width))) (sym found)
        (subst (λ (e : ℕ). GivesValue width e value) element_is gives_it))

pub put_all : (widths old : List ℕ) (start : ℕ) (values : List Value) (first : List ℕ) (index at : ℕ) → PutSoFar widths old start values first index at → length values ≤ index → length values ≡ length widths
    → GiveValues widths first start values × IsOutsideKept old first start (start + sum widths)
put_all widths old start values first index at so_far past long =
    let whole : sum (take index widths) ≡ sum widths = ap (λ (ws : List ℕ). sum ws) (take_all index widths (omega arith)) in
    let position = so_far.position in (
      λ k. each k (cases_lt k index),
      λ i v outside. wider i v outside (omega (arith, position, whole)),
    )
  where
    each : (k : ℕ) → (k < index) ⊎ (index ≤ k) → IfSome (slice_get values k) (GivesValue (get_or widths k 0) (element_of first (start + sum (take k widths)) (get_or widths k 0)))
    each k (inl before) = so_far.done k before
    each k (inr after) = subst (λ (o : Option Value). IfSome o (GivesValue (get_or widths k 0) (element_of first (start + sum (take k widths)) (get_or widths k 0)))) (sym (slice_get_past values k (omega arith))) tt

    wider : (i v : ℕ) → (i + v ≤ start) ⊎ (start + sum widths ≤ i) → at ≡ start + sum widths → element_of first i v ≡ element_of old i v
    wider i v (inl below) end = so_far.kept i v (inl below)
    wider i v (inr above) end = so_far.kept i v (inr (omega arith))

-- ---- what is kept outside

-- a number has fewer digits than it counts
own_power : (n : ℕ) → n < 2 ^ n
own_power zero = omega arith
own_power (suc n) = omega (arith, own_power n, pow-suc 2 n)

none_above : (n limit v : ℕ) → n < 2 ^ limit → n / 2 ^ limit % 2 ^ v ≡ 0
none_above n limit v below =
    let is : n ≡ 0 * 2 ^ limit + n = omega arith in
    ap (λ k. k % 2 ^ v) (ap (λ m. m / 2 ^ limit) is ∙ shr_high 0 limit n below) ∙ zero-mod (2 ^ v)

below_when : (n limit : ℕ) → n / 2 ^ limit % 2 ^ n ≡ 0 → n < 2 ^ limit
below_when n limit none =
    let split = shr_split n limit in
    let low = mod_below n (2 ^ limit) (pow_pos limit) in
    let few : n / 2 ^ limit < 2 ^ n = omega (arith, own_power n, less (n / 2 ^ limit) (2 ^ limit) (pow_pos limit), split) in
    let nothing : n / 2 ^ limit ≡ 0 = sym (mod-eq_of_lt few) ∙ none in
    let one : 0 * 2 ^ limit + n % 2 ^ limit ≡ n = ap (λ q. q * 2 ^ limit + n % 2 ^ limit) (sym nothing) ∙ split in
    omega (arith, one, low)
  where
    less : (q p : ℕ) → 0 < p → q ≤ q * p
    less q p some = grind arith

pub end_kept : (widths old new : List ℕ) (place start end : ℕ) → start ≡ place * sum widths → end ≡ start + sum widths → IsOutsideKept old new start end → IsEndKept widths old new place
unfolding element_of
end_kept widths old new place start end begins ends kept = λ limit behind below.
    below_when (number_of new) limit (kept limit (number_of new) (inr (omega (arith, begins, ends, behind))) ∙ none_above (number_of old) limit (number_of new) below)

pub others_kept : (widths old new : List ℕ) (place start end : ℕ) → start ≡ place * sum widths → end ≡ start + sum widths → IsOutsideKept old new start end → AreOthersKept widths old new place
others_kept widths old new place start end begins ends kept = λ other apart. kept (other * sum widths) (sum widths) (side other apart)
  where
    side : (other : ℕ) → (other ≡ place → ⊥) → (other * sum widths + sum widths ≤ start) ⊎ (end ≤ other * sum widths)
    side other apart =
        elim (cases_lt other place) [
          | inl below ↦
              let next : other + 1 ≤ place = omega arith in
              let product : (other + 1) * sum widths ≤ place * sum widths = mul-le-mul_right (sum widths) next in inl (omega (arith, product, begins))
          | inr past ↦
              let next : place + 1 ≤ other = omega arith in
              let product : (place + 1) * sum widths ≤ other * sum widths = mul-le-mul_right (sum widths) next in inr (omega (arith, product, begins, ends))
        ]

-- ---- bits are cleared

pub none_cleared : (words : List ℕ) (start : ℕ) → SetsBlock words words start 0 0
none_cleared words start = no_block words start 0 (omega arith)

pub more_cleared : (old middle new : List ℕ) (start done width : ℕ) → SetsBlock old middle start done 0 → SetsBlock middle new (start + done) width 0 → SetsBlock old new start (done + width) 0
more_cleared old middle new start done width first second =
    let none : 0 * 2 ^ done + 0 ≡ 0 = omega arith in
    subst (λ (value : ℕ). SetsBlock old new start (done + width) value) none (both_blocks old middle new start done width 0 0 (pow_pos done) first second)

pub cleared : (widths old new : List ℕ) (place size : ℕ) → size ≡ sum widths → SetsBlock old new (place * size) size 0 → record_at widths new place ≡ 0
cleared widths old new place size is block = subst (λ (s : ℕ). element_of new (place * s) s ≡ 0) is (block_is old new (place * size) size 0 (pow_pos size) block)

pub outside_cleared : (old new : List ℕ) (start size : ℕ) → SetsBlock old new start size 0 → IsOutsideKept old new start (start + size)
outside_cleared old new start size block = block_apart old new start size 0 (pow_pos size) block

-- ---- a record has room

pub widths_narrow : (fields : List Field) (widths : List ℕ) → AllZip IsFieldWidth fields widths → All (λ width. width ≤ 64) widths
widths_narrow [] widths wide = λ k d inside. absurd (omega (arith, AllZip-long IsFieldWidth [] widths wide))
widths_narrow (field ∷ fields) widths wide = λ k d inside. (all_zip_at IsFieldWidth (field ∷ fields) widths k field d wide (omega (arith, AllZip-long IsFieldWidth (field ∷ fields) widths wide))).0

-- a record ends below 2 to the power of 64
pub record_counted : (fields : List Field) (widths first : List ℕ) (place : ℕ) → HoldsRecord fields widths first place → (sum widths ≤ 65536) × ((place + 1) * sum widths < 2 ^ 64)
record_counted fields widths first place holds =
    let small = fields_small IsFieldWidth (λ field width is. is.0) fields widths holds.few holds.wide in
    let next : place + 1 ≤ 2 ^ 32 = omega (arith, holds.below) in
    let product : (place + 1) * sum widths ≤ 2 ^ 32 * 65536 = mul-le-mul next small in
    (small, omega (arith, product))

pub values_long : (shape : Shape) (widths first : List ℕ) (place : ℕ) (row : Row) → HasRecordRoom shape widths first place row → length (values_of_row row) ≡ length widths
values_long (Shape.Object key fields) widths first place (Row.Object values) room =
    AllZip-long (λ f v. FitsKind f.kind v) fields values room.fits ∙ sym (AllZip-long IsFieldWidth fields widths room.holds.wide)
values_long (Shape.Object key fields) widths first place _ room = absurd room.fits
values_long _ widths first place row room = absurd room.object

-- ---- a record is written

packs_found : (kind : FieldKind) (width element start : ℕ) (area : List ℕ) (found : Option Value) → (HasBytes kind → ⊥) → IsKindWidth kind width → (found ≡ None → ⊥) → IfSome found (FitsKind kind)
    → IfSome found (GivesValue width element) → PacksPart kind (part_of width element start area) found
packs_found kind width element start area None fixed wide some fits given = absurd (some refl)
packs_found kind width element start area (Some value) fixed wide some fits given =
    value_moved kind width element element 0 start [] area (stored_value value) fixed refl (given kind fixed wide fits)

fits_found : (fields : List Field) (values : List Value) (k : ℕ) (field : Field) → AllZip (λ f v. FitsKind f.kind v) fields values → k < length fields → field ≡ get_or fields k field
    → IfSome (slice_get values k) (FitsKind field.kind)
fits_found [] values k field all inside is = absurd (omega arith)
fits_found (f ∷ fields) [] k field all inside is = absurd all
fits_found (f ∷ fields) (value ∷ values) zero field all inside is = subst (λ (g : Field). FitsKind g.kind value) (sym is) all.0
fits_found (f ∷ fields) (value ∷ values) (suc k) field all inside is = fits_found fields values k field all.1 (omega arith) is

found_some : (values : List Value) (k : ℕ) → k < length values → slice_get values k ≡ None → ⊥
found_some [] k inside none = absurd (omega arith)
found_some (value ∷ values) zero inside none = cc
found_some (value ∷ values) (suc k) inside none = found_some values k (omega arith) none

pub record_put : (shape : Shape) (widths old first : List ℕ) (place start : ℕ) (row : Row) → HasRecordRoom shape widths old place row → start ≡ place * sum widths
    → GiveValues widths first start (values_of_row row) → (areas : List (List ℕ)) → length areas ≡ length (shape_fields shape) → SpellsObjectRow shape widths first areas place (stored_row row)
record_put (Shape.Object key fields) widths old first place start (Row.Object values) room begins given areas filled =
    let wide = AllZip-long IsFieldWidth fields widths room.holds.wide in
    let long = AllZip-long (λ f v. FitsKind f.kind v) fields values room.fits in
    spells_all fields widths first areas (sum widths) place 0 values wide filled long
    (λ k field inside is.
    let kind_wide = subst (λ (g : Field). IsKindWidth g.kind (get_or widths k 0)) (sym is) (all_zip_at IsFieldWidth fields widths k field 0 room.holds.wide inside).1 in
    let fixed = subst (λ (g : Field). HasBytes g.kind → ⊥) (sym is) (room.fixed k field inside) in
    let there : start + sum (take k widths) ≡ place * sum widths + (0 + sum (take k widths)) = omega (arith, begins) in
    packs_found field.kind (get_or widths k 0) (element_at first (sum widths) (0 + sum (take k widths)) (get_or widths k 0) place) (start_at first (sum widths) (0 + sum (take k widths)) (get_or widths k 0) place) (area_of areas k)
    (slice_get values k) fixed kind_wide (found_some values k (omega arith)) (fits_found fields values k field room.fits inside is)
    (subst (λ (p : ℕ). IfSome (slice_get values k) (GivesValue (get_or widths k 0) (element_of first p (get_or widths k 0)))) there (given k)))
record_put (Shape.Object key fields) widths old first place start _ room begins given areas filled = absurd room.fits
record_put _ widths old first place start row room begins given areas filled = absurd room.object
