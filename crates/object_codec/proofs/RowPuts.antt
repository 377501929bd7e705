-- Lemmas on the walk along the fields of a row that is written.
use Rattle.std.proofs.Common.{◌≡◌, ℕ, zero, suc, ◌+◌, ◌-◌, ◌*◌, ◌^◌, ◌<◌, ◌≤◌, ◌⊎◌, List, [], ◌∷◌, ◌++◌, length, get_or, take, set, refl, sym, ap, ◌∙◌, subst, arith, add-one, inl, inr}
use Rattle.std.specs.Prelude.{sum, map, slice_get, IfSome, Option, Some, None}
use Rattle.std.specs.List.{AllZip}
use Rattle.std.proofs.Math.Nat.{mul-le-mul_right}
use Rattle.std.proofs.lemmas.Bool.{cases_lt}
use Rattle.std.proofs.lemmas.List.{length-append, length-set, get_or-set_same, get_or-set_other, take_all, get_or_default}
use Rattle.std.proofs.lemmas.List.Sums.{sum_by_more}
use Rattle.std.proofs.lemmas.Option.{unwrap_or-slice_get}
use Rattle.std.proofs.lemmas.Slice.Zip.{AllZip-long}
use Rattle.bit_array.specs.Element.{element_of, number_of, SetsBlock}
use Rattle.bit_array.proofs.Blocks.{block_bits}
use Rattle.row_model.specs.Areas.{area_of}
use Rattle.schema_model.specs.Parts.{shape_fields}
use Rattle.row_model.specs.Row.{FitsKind, FitsShape, stored_value}
use Rattle.schema_model.specs.declared.schema.FieldKind.{FieldKind}
use Rattle.schema_model.specs.declared.schema.Field.{Field}
use Rattle.schema_model.specs.declared.schema.Shape.{Shape}
use Rattle.row_model.specs.declared.row.Row.{Row}
use Rattle.row_model.specs.declared.row.Value.{Value}
use Rattle.object_codec.specs.Encoded.{IsTaken}
use Rattle.object_codec.specs.ObjectPlace.{element_at, start_at, part_at, parts_of, IsObject, HoldsPlace, SpellsFields, SpellsObjectRow}
use Rattle.object_codec.specs.Packing.{HasBytes, IsGap, PacksPart, PacksPlace, HoldsValue, HasRoom, IsRowPut, StartsAtEnds, values_of_place, areas_with}
use Rattle.object_codec.specs.Part.{FieldPart, offset_in}
use Rattle.object_codec.specs.Stored.{value_at, values_bytes}
use Rattle.object_codec.proofs.FieldParts.{SameBefore, zip_all, zip_part, spells_all, same_start, same_parts, ends_before, area_at, areas_are, length-areas_from, fields_grown, gaps_grown}
use Rattle.object_codec.proofs.FieldWidths.{widths_long, within}

-- ---- what there is room for

-- the same by index: the values fit their fields, and the widths hold them
pub record Room (fields : List Field) (widths first : List ℕ) (areas : List (List ℕ)) (place : ℕ) (values : List Value) : Type 0 where
  pub holds : HoldsPlace fields widths first areas place
  pub follows : StartsAtEnds fields widths first areas place
  pub fits : (k : ℕ) (field : Field) → k < length fields → field ≡ get_or fields k field → IfSome (slice_get values k) (FitsKind field.kind)
  pub numbers : (k : ℕ) → IfSome (slice_get values k) (HoldsValue (get_or widths k 0))
  pub ends : (k : ℕ) (field : Field) → k < length fields → field ≡ get_or fields k field → HasBytes field.kind
      → length (area_of areas k) + length (values_bytes (value_at k values)) < 2 ^ (get_or widths k 0 - 1)

fits_value : (fields : List Field) (values : List Value) (k : ℕ) (field : Field) → AllZip (λ f v. FitsKind f.kind v) fields values → k < length fields → field ≡ get_or fields k field
    → IfSome (slice_get values k) (FitsKind field.kind)
fits_value [] values k field all inside is = absurd (omega arith)
fits_value (f ∷ fields) [] k field all inside is = absurd all
fits_value (f ∷ fields) (value ∷ values) zero field all inside is = subst (λ (g : Field). FitsKind g.kind value) (sym is) all.0
fits_value (f ∷ fields) (value ∷ values) (suc k) field all inside is = fits_value fields values k field all.1 (omega arith) is

pub fits_at : (shape : Shape) (row : Option Row) (k : ℕ) (field : Field) → IfSome row (FitsShape shape) → k < length (shape_fields shape) → field ≡ get_or (shape_fields shape) k field
    → IfSome (slice_get (values_of_place row) k) (FitsKind field.kind)
fits_at shape None k field fits inside is = tt
fits_at (Shape.Object key fields) (Some (Row.Object values)) k field fits inside is = fits_value fields values k field fits inside is
fits_at (Shape.Object key fields) (Some _) k field fits inside is = absurd fits
fits_at _ (Some row) k field fits inside is = absurd (omega arith)

ends_at : (fields : List Field) (widths first : List ℕ) (areas : List (List ℕ)) (place : ℕ) (values : List Value) (k : ℕ) (field : Field) → HoldsPlace fields widths first areas place
    → AllZip (λ f part. HasBytes f.kind → length part.area < 2 ^ (part.width - 1)) fields (parts_of widths first (areas_with areas values) place) → k < length fields → field ≡ get_or fields k field
    → HasBytes field.kind → length (area_of areas k) + length (values_bytes (value_at k values)) < 2 ^ (get_or widths k 0 - 1)
ends_at fields widths first areas place values k field holds all inside is has =
    let long = length-areas_from 0 areas values in
    let below = zip_part (λ f part. HasBytes f.kind → length part.area < 2 ^ (part.width - 1)) fields widths first (areas_with areas values) (sum widths) place 0 k field (widths_long fields widths first areas place holds) (long ∙ holds.filled) all inside is has in
    let at = ap (λ (a : List ℕ). length a) (area_at 0 areas values k (omega (arith, holds.filled))) ∙ length-append (area_of areas k) (values_bytes (value_at (0 + k) values)) in
    let same : 0 + k ≡ k = omega arith in
    let bytes = ap (λ (i : ℕ). length (values_bytes (value_at i values))) same in
    omega arith

pub room : (shape : Shape) (fields : List Field) (widths first : List ℕ) (areas : List (List ℕ)) (place : ℕ) (row : Option Row) (values : List Value) → HasRoom shape widths first areas place row
    → fields ≡ shape_fields shape → values ≡ values_of_place row → Room fields widths first areas place values
room shape fields widths first areas place row values has are is =
    subst (λ (fs : List Field). Room fs widths first areas place values) (sym are)
    (subst (λ (vs : List Value). Room (shape_fields shape) widths first areas place vs) (sym is)
    record {
      holds = has.holds;
      follows = has.follows;
      fits = λ k field inside at. fits_at shape row k field has.fits inside at;
      numbers = has.numbers;
      ends = λ k field inside at bytes. ends_at (shape_fields shape) widths first areas place (values_of_place row) k field has.holds has.ends inside at bytes;
    })

-- ---- the fields that are written

-- the part of a field at a place
abbrev pub field_part : List ℕ → List ℕ → List (List ℕ) → ℕ → ℕ → FieldPart
field_part widths first areas place k = part_at first (sum widths) place (sum (take k widths)) (get_or widths k 0) (area_of areas k)

-- a part packs its value, and its offset is the end of the field's bytes
abbrev pub IsPut : FieldKind → FieldPart → Option Value → Type 0
IsPut kind part value = PacksPart kind part value × (HasBytes kind → offset_in part.width part.element ≡ length part.area)

-- the fields below an index are written
pub record PutSoFar (fields : List Field) (widths old_first : List ℕ) (old_areas : List (List ℕ)) (values : List Value) (first : List ℕ) (areas : List (List ℕ)) (place index at : ℕ) : Type 0 where
  pub position : at ≡ place * sum widths + sum (take index widths)
  pub same : SameBefore old_first first (place * sum widths)
  pub bits : number_of old_first < 2 ^ (place * sum widths) → number_of first < 2 ^ at
  pub long : length first ≡ length old_first
  pub filled : length areas ≡ length old_areas
  pub done : (k : ℕ) (field : Field) → k < index → field ≡ get_or fields k field → IsPut field.kind (field_part widths first areas place k) (slice_get values k)
  pub put : (k : ℕ) → k < index → area_of areas k ≡ area_of old_areas k ++ values_bytes (value_at k values)
  pub left : (k : ℕ) → index ≤ k → area_of areas k ≡ area_of old_areas k

pub put_none : (fields : List Field) (widths first : List ℕ) (areas : List (List ℕ)) (values : List Value) (place at size : ℕ) → size ≡ sum widths → at ≡ place * size
    → PutSoFar fields widths first areas values first areas place 0 at
put_none fields widths first areas values place at size whole is =
    let start : at ≡ place * sum widths + 0 = is ∙ ap (λ n. place * n) whole ∙ (let e : place * sum widths ≡ place * sum widths + 0 = omega arith in e) in
    record {
      position = start;
      same = λ i v inside. refl;
      bits = λ below. subst (λ n. number_of first < 2 ^ n) (let e : place * sum widths ≡ at = omega arith in e) below;
      long = refl;
      filled = refl;
      done = λ k field none. absurd (omega arith);
      put = λ k none. absurd (omega arith);
      left = λ k from. refl;
    }

-- the same value in another part: one of fixed bits depends on its element alone
moved : (kind : FieldKind) (width element start start' : ℕ) (area area' : List ℕ) (value : Option Value) → IsPut kind (record { width = width; element = element; start = start; area = area }) value
    → (HasBytes kind → start ≡ start') → (HasBytes kind → area ≡ area') → IsPut kind (record { width = width; element = element; start = start'; area = area' }) value
moved FieldKind.Text width element start start' area area' value h starts areas =
    subst (λ (s : ℕ). IsPut FieldKind.Text (record { width = width; element = element; start = s; area = area' }) value) (starts tt)
    (subst (λ (a : List ℕ). IsPut FieldKind.Text (record { width = width; element = element; start = start; area = a }) value) (areas tt) h)
moved FieldKind.Bytes width element start start' area area' value h starts areas =
    subst (λ (s : ℕ). IsPut FieldKind.Bytes (record { width = width; element = element; start = s; area = area' }) value) (starts tt)
    (subst (λ (a : List ℕ). IsPut FieldKind.Bytes (record { width = width; element = element; start = start; area = a }) value) (areas tt) h)
moved _ width element start start' area area' None h starts areas = (h.0, λ has. absurd has)
moved _ width element start start' area area' (Some value) h starts areas = (h.0, λ has. absurd has)

area_set_same : (areas : List (List ℕ)) (k : ℕ) (area : List ℕ) → k < length areas → area_of (set areas k area) k ≡ area
area_set_same areas k area inside = unwrap_or-slice_get (set areas k area) k [] ∙ get_or-set_same areas k area [] inside

area_set_other : (areas : List (List ℕ)) (index k : ℕ) (area : List ℕ) → (k ≡ index → ⊥) → area_of (set areas index area) k ≡ area_of areas k
area_set_other areas index k area apart = unwrap_or-slice_get (set areas index area) k [] ∙ get_or-set_other areas index k area [] apart ∙ sym (unwrap_or-slice_get areas k [])

-- a field of a record lies within it
field_within : (fields : List Field) (widths first : List ℕ) (areas : List (List ℕ)) (place k : ℕ) → HoldsPlace fields widths first areas place → k < length fields
    → sum (take k widths) + get_or widths k 0 ≤ sum widths
field_within fields widths first areas place k holds inside = (within fields widths first areas place k (sum (take k widths)) holds inside refl).record_holds

pub put_more : (fields : List Field) (widths old_first : List ℕ) (old_areas : List (List ℕ)) (values : List Value) (first first' : List ℕ) (areas : List (List ℕ)) (place index at element width : ℕ) (area : List ℕ) (field : Field)
    → PutSoFar fields widths old_first old_areas values first areas place index at → HoldsPlace fields widths old_first old_areas place → StartsAtEnds fields widths old_first old_areas place
    → index < length fields → field ≡ get_or fields index field → width ≡ get_or widths index 0
    → IsTaken field.kind width element (area_of areas index) area (slice_get values index)
    → SetsBlock first first' at width element → element_of first' at width ≡ element
    → ((i v : ℕ) → (i + v ≤ at) ⊎ (at + width ≤ i) → element_of first' i v ≡ element_of first i v) → length first' ≡ length first
    → PutSoFar fields widths old_first old_areas values first' (set areas index area) place (index + 1) (at + width)
put_more fields widths old_first old_areas values first first' areas place index at element width area field done holds follows inside is wide taken block there others long =
    let size = sum widths in
    let here = done.position in
    let same : SameBefore first first' at = λ i v before. others i v (inl before) in
    let old_same : SameBefore old_first first' (place * size) = λ i v before. same i v (omega arith) ∙ done.same i v before in
    let room : index < length areas = omega (arith, done.filled, holds.filled) in
    let more : sum (take (index + 1) widths) ≡ sum (take index widths) + get_or widths index 0 = sum_by_more (λ w. w) widths index 0 (omega (arith, widths_long fields widths old_first old_areas place holds)) in
    record {
      position = omega arith;
      same = old_same;
      bits = λ below. block_bits first first' at width element taken.below block (done.bits below);
      long = long ∙ done.long;
      filled = length-set areas index area ∙ done.filled;
      done = λ k at_k before at_is.
          elim (cases_lt k index) [
            | inl earlier ↦
                let ends = ends_before widths k index earlier in
                let kept = same (place * size + sum (take k widths)) (get_or widths k 0) (omega arith) in
                moved at_k.kind (get_or widths k 0) (element_at first' size (sum (take k widths)) (get_or widths k 0) place) (start_at first size (sum (take k widths)) (get_or widths k 0) place)
                (start_at first' size (sum (take k widths)) (get_or widths k 0) place) (area_of areas k) (area_of (set areas index area) k) (slice_get values k)
                (subst (λ (e : ℕ). IsPut at_k.kind (record { width = get_or widths k 0; element = e; start = start_at first size (sum (take k widths)) (get_or widths k 0) place; area = area_of areas k }) (slice_get values k)) (sym kept)
                (done.done k at_k earlier at_is))
                (λ has. sym (same_start first first' size (sum (take k widths)) (get_or widths k 0) place at same (omega arith) (field_within fields widths old_first old_areas place k holds (omega arith))))
                (λ has. sym (area_set_other areas index k area (λ e. omega arith)))
            | inr late ↦
                let at_index : index ≡ k = omega arith in
                subst (λ (n : ℕ). (g : Field) → g ≡ get_or fields n g → IsPut g.kind (field_part widths first' (set areas index area) place n) (slice_get values n)) at_index
                (λ g g_is. put_here fields widths old_first old_areas values first first' areas place index at element width area field g done holds follows inside is wide taken there old_same room here g_is)
                at_k at_is
          ];
      put = λ k before.
          elim (cases_lt k index) [
            | inl earlier ↦ area_set_other areas index k area (λ e. omega arith) ∙ done.put k earlier
            | inr late ↦
                let at_index : index ≡ k = omega arith in
                subst (λ (n : ℕ). area_of (set areas index area) n ≡ area_of old_areas n ++ values_bytes (value_at n values)) at_index
                (area_set_same areas index area room ∙ taken.grown ∙ ap (λ (a : List ℕ). a ++ values_bytes (value_at index values)) (done.left index (omega arith)))
          ];
      left = λ k from. area_set_other areas index k area (λ e. omega arith) ∙ done.left k (omega arith);
    }
  where
    put_here : (fields : List Field) (widths old_first : List ℕ) (old_areas : List (List ℕ)) (values : List Value) (first first' : List ℕ) (areas : List (List ℕ)) (place index at element width : ℕ) (area : List ℕ) (field g : Field)
        → PutSoFar fields widths old_first old_areas values first areas place index at → HoldsPlace fields widths old_first old_areas place → StartsAtEnds fields widths old_first old_areas place
        → index < length fields → field ≡ get_or fields index field → width ≡ get_or widths index 0
        → IsTaken field.kind width element (area_of areas index) area (slice_get values index) → element_of first' at width ≡ element
        → SameBefore old_first first' (place * sum widths) → index < length areas → at ≡ place * sum widths + sum (take index widths) → g ≡ get_or fields index g
        → IsPut g.kind (field_part widths first' (set areas index area) place index) (slice_get values index)
    put_here fields widths old_first old_areas values first first' areas place index at element width area field g done holds follows inside is wide taken there old_same room here g_is =
        let w = get_or widths index 0 in
        let before = sum (take index widths) in
        let same_field : field ≡ g = is ∙ get_or_default fields index field g inside ∙ sym g_is in
        let read : element ≡ element_at first' (sum widths) before w place =
        sym there ∙ ap (λ n. element_of first' n width) here ∙ ap (element_of first' (place * sum widths + before)) wide in
        let start : HasBytes field.kind → length (area_of areas index) ≡ start_at first' (sum widths) before w place =
        λ has.
        let from = zip_part (λ f part. HasBytes f.kind → part.start ≡ length part.area) fields widths old_first old_areas (sum widths) place 0 index field (widths_long fields widths old_first old_areas place holds) holds.filled follows inside is in
        let none : 0 + before ≡ before = omega arith in
        let began = subst (λ (b : ℕ). start_at old_first (sum widths) b w place ≡ length (area_of old_areas index)) none (from has) in
        ap (λ (a : List ℕ). length a) (done.left index (omega arith)) ∙ sym began
        ∙ sym (same_start old_first first' (sum widths) before w place (place * sum widths) old_same (omega arith) (field_within fields widths old_first old_areas place index holds inside)) in
        subst (λ (f : Field). IsPut f.kind (field_part widths first' (set areas index area) place index) (slice_get values index)) same_field
        (moved field.kind w (element_at first' (sum widths) before w place) (length (area_of areas index)) (start_at first' (sum widths) before w place) area (area_of (set areas index area) index) (slice_get values index)
        (subst (λ (e : ℕ). IsPut field.kind (record { width = w; element = e; start = length (area_of areas index); area = area }) (slice_get values index)) read
        (subst (λ (n : ℕ). IsPut field.kind (record { width = n; element = element; start = length (area_of areas index); area = area }) (slice_get values index)) wide (taken.packs, taken.ends)))
        start (λ has. sym (area_set_same areas index area room)))

-- ---- all fields are written

place_packed : (shape : Shape) (fields : List Field) (widths first : List ℕ) (areas : List (List ℕ)) (place : ℕ) (row : Option Row) → IsObject shape → fields ≡ shape_fields shape
    → IfSome row (FitsShape shape) → length widths ≡ length fields → length areas ≡ length fields
    → ((k : ℕ) (field : Field) → k < length fields → field ≡ get_or fields k field
    → PacksPart field.kind (part_at first (sum widths) place (0 + sum (take k widths)) (get_or widths k 0) (area_of areas k)) (slice_get (values_of_place row) k))
    → PacksPlace shape widths first areas place row
place_packed (Shape.Object key own) fields widths first areas place None object are fits wide filled each =
    subst (λ (fs : List Field). AllZip (λ field part. IsGap field.kind part) fs (parts_of widths first areas place)) are
    (zip_all (λ field part. IsGap field.kind part) fields widths first areas (sum widths) place 0 wide filled each)
place_packed (Shape.Object key own) fields widths first areas place (Some (Row.Object values)) object are fits wide filled each =
    let long : length values ≡ length fields = AllZip-long (λ f v. FitsKind f.kind v) own values fits ∙ ap (λ (fs : List Field). length fs) (sym are) in
    subst (λ (fs : List Field). SpellsFields fs (parts_of widths first areas place) (map stored_value values)) are
    (spells_all fields widths first areas (sum widths) place 0 values wide filled long each)
place_packed (Shape.Object key own) fields widths first areas place (Some _) object are fits wide filled each = absurd fits
place_packed _ fields widths first areas place row object are fits wide filled each = absurd object

-- the parts of an earlier place are as they were, but for the bytes behind
parts_kept : (widths old_first first : List ℕ) (areas : List (List ℕ)) (before place : ℕ) → SameBefore old_first first (place * sum widths) → before < place
    → parts_of widths first areas before ≡ parts_of widths old_first areas before
parts_kept widths old_first first areas before place same earlier =
    let within : (before + 1) * sum widths ≤ place * sum widths = mul-le-mul_right (sum widths) (let h : before + 1 ≤ place = omega arith in h) in
    same_parts old_first first widths areas (sum widths) before 0 (place * sum widths) same within (omega arith)

gap_kept : (shape : Shape) (widths old_first first : List ℕ) (old_areas : List (List ℕ)) (more : List Value) (before place : ℕ) → SameBefore old_first first (place * sum widths) → before < place
    → PacksPlace shape widths old_first old_areas before None → PacksPlace shape widths first (areas_with old_areas more) before None
gap_kept shape widths old_first first old_areas more before place same earlier gap =
    subst (λ (parts : List FieldPart). AllZip (λ field part. IsGap field.kind part) (shape_fields shape) parts) (sym (parts_kept widths old_first first (areas_with old_areas more) before place same earlier))
    (gaps_grown 0 (shape_fields shape) widths old_first old_areas (sum widths) before 0 more gap)

row_kept : (shape : Shape) (widths old_first first : List ℕ) (old_areas : List (List ℕ)) (more : List Value) (before place : ℕ) (old : Row) → SameBefore old_first first (place * sum widths) → before < place
    → SpellsObjectRow shape widths old_first old_areas before old → SpellsObjectRow shape widths first (areas_with old_areas more) before old
row_kept shape widths old_first first old_areas more before place (Row.Object values) same earlier spelled =
    subst (λ (parts : List FieldPart). SpellsFields (shape_fields shape) parts values) (sym (parts_kept widths old_first first (areas_with old_areas more) before place same earlier))
    (fields_grown 0 (shape_fields shape) widths old_first old_areas (sum widths) before 0 more values spelled)
row_kept shape widths old_first first old_areas more before place _ same earlier spelled = absurd spelled

pub row_put : (shape : Shape) (fields : List Field) (widths old_first : List ℕ) (old_areas : List (List ℕ)) (values : List Value) (first : List ℕ) (areas : List (List ℕ)) (place index at : ℕ) (row : Option Row)
    → HasRoom shape widths old_first old_areas place row → fields ≡ shape_fields shape → values ≡ values_of_place row → length fields ≤ index
    → PutSoFar fields widths old_first old_areas values first areas place index at → IsRowPut shape widths old_first old_areas first areas place row
row_put shape fields widths old_first old_areas values first areas place index at row has are is past done =
    let r = room shape fields widths old_first old_areas place row values has are is in
    let wide = widths_long fields widths old_first old_areas place r.holds in
    let filled : length areas ≡ length fields = done.filled ∙ r.holds.filled in
    let part = λ (k : ℕ) (field : Field) (inside : k < length fields) (there : field ≡ get_or fields k field).
    subst (λ (b : ℕ). IsPut field.kind (part_at first (sum widths) place b (get_or widths k 0) (area_of areas k)) (slice_get values k)) (let e : sum (take k widths) ≡ 0 + sum (take k widths) = omega arith in e)
    (done.done k field (omega arith) there) in
    let grown : areas ≡ areas_with old_areas values =
    areas_are 0 old_areas areas values done.filled
    (λ k inside. done.put k (omega (arith, r.holds.filled)) ∙ ap (λ (i : ℕ). area_of old_areas k ++ values_bytes (value_at i values)) (let e : k ≡ 0 + k = omega arith in e)) in
    record {
      packed = place_packed shape fields widths first areas place row has.object are has.fits wide filled
          (λ k field inside there. subst (λ (vs : List Value). PacksPart field.kind (part_at first (sum widths) place (0 + sum (take k widths)) (get_or widths k 0) (area_of areas k)) (slice_get vs k)) is (part k field inside there).0);
      earlier = λ before old earlier spelled.
          subst (λ (a : List (List ℕ)). SpellsObjectRow shape widths first a before old) (sym grown) (row_kept shape widths old_first first old_areas values before place old done.same earlier spelled);
      gaps = λ before earlier gap.
          subst (λ (a : List (List ℕ)). PacksPlace shape widths first a before None) (sym grown) (gap_kept shape widths old_first first old_areas values before place done.same earlier gap);
      grown = grown ∙ ap (areas_with old_areas) is;
      follows = subst (λ (fs : List Field). StartsAtEnds fs widths first areas (place + 1)) are
          (zip_all (λ field part. HasBytes field.kind → part.start ≡ length part.area) fields widths first areas (sum widths) (place + 1) 0 wide filled
          (λ k field inside there has_bytes. rw (add-one place) ((part k field inside there).1 has_bytes)));
      bits = λ below.
          let whole : sum (take index widths) ≡ sum widths = ap (λ (ws : List ℕ). sum ws) (take_all index widths (omega (arith, wide))) in
          let here = done.position in
          subst (λ n. number_of first < 2 ^ n) (let e : at ≡ (place + 1) * sum widths = omega arith in e) (done.bits below);
    }

-- the bytes of a field, as they are lent
pub area_lent : (areas : List (List ℕ)) (k : ℕ) (area : List ℕ) → k < length areas → get_or areas k area ≡ area_of areas k
area_lent areas k area inside = get_or_default areas k area [] inside ∙ sym (unwrap_or-slice_get areas k [])
