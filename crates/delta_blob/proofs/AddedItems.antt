-- Reading the items of a delta's section: its ordinals, and the packed rows of the added ones.
use Rattle.std.proofs.Common.{◌≡◌, ◌≤◌, ◌<◌, ◌*◌, ◌^◌, ℕ, List, [], ◌∷◌, length, Option, Result, Ok, Err, inl, inr, ◌∙◌, ap, subst, sym, arith, length-append}
use Rattle.std.specs.List.{All, AllZip}
use Rattle.hol_varint.specs.Varint.{IsVarint}
use Rattle.hol_varint.specs.Yields.{Yields}
use Rattle.ordinal_set.specs.declared.gaps.GapFault.{GapFault}
use Rattle.ordinal_set.specs.Gaps.{Gaps, GapsAfter, IsFreeGaps}
use Rattle.schema_model.specs.declared.schema.Field.{Field}
use Rattle.schema_model.specs.declared.schema.Shape.{Shape}
use Rattle.schema_model.specs.Parts.{shape_fields}
use Rattle.object_codec.specs.ObjectPlace.{IsObject}
use Rattle.type_rows.specs.Layout.{width_count}
use Rattle.type_rows.specs.Patches.{IsWellFormedPatch}
use Rattle.type_rows.specs.WellFormed.{IsWidth}
use Rattle.blob_frame.specs.declared.fault.BlobFault.{BlobFault}
use Rattle.blob_cursor.specs.Scene.{Scene, Reads}
use Rattle.blob_sections.specs.declared.section.PackedRows.{PackedRows}
use Rattle.blob_sections.specs.Section.{word_array}
use Rattle.blob_sections.proofs.Formed.{field_widths_are, part_widths_are, no_fields}
use Rattle.delta_blob.specs.Added.{ArePlaced, added_records, added_rows, added_runs, words_for}
use Rattle.delta_blob.specs.Parts.{patch_with}

some_byte : (vint : List ℕ) (gap : ℕ) → IsVarint vint gap → 0 < length vint
some_byte [] gap spelled = absurd spelled.groups
some_byte (b ∷ bs) gap spelled = omega arith

-- a run has a byte at least for each number of its list
pub gaps_short : (before : ℕ) (bytes list : List ℕ) → GapsAfter before bytes list → length list ≤ length bytes
gaps_short before bytes [] gaps = omega arith
gaps_short before bytes (number ∷ rest) gaps =
    let long = ap (λ (xs : List ℕ). length xs) gaps.1.begins ∙ length-append gaps.1.vint gaps.0 in
    omega (arith, long, some_byte gaps.1.vint gaps.1.gap gaps.1.spelled, gaps_short number gaps.0 rest gaps.2)

-- where a place of the bytes cannot be read they are the run of no list
pub no_gaps : (bytes : List ℕ) (e : GapFault) (place : ℕ) → e ≡ GapFault.Bad place → ((list : List ℕ) → Yields IsFreeGaps (Err e) (Ok list) (Gaps bytes list)) → (list : List ℕ) → Gaps bytes list → ⊥
no_gaps bytes e place is found list gaps =
    let yields = subst (λ (e : GapFault). Yields IsFreeGaps (Err e) (Ok list) (Gaps bytes list)) is (found list) in
    elim (yields.1 gaps) [ inl same ↦ absurd cc | inr free ↦ free ]

-- the words that are read are as many as the places need
pub words_as_placed : (shape : Shape) (places : ℕ) {lent widths : List ℕ} {least : ℕ} {before after : Scene} {r : Result (List ℕ) BlobFault} → least ≡ words_for shape places lent → lent ≡ widths
    → Reads (word_array least) before after r → Reads (word_array (words_for shape places widths)) before after r
words_as_placed shape places {before = before} {after} {r} least same p =
    subst (λ n. Reads (word_array n) before after r) (least ∙ ap (λ (ws : List ℕ). words_for shape places ws) same) p

-- the packed rows of an OBJECT, and those of another kind
pub reads_added_records : (shape : Shape) (max : Option ℕ) (places : ℕ) {before after : Scene} {r : Result PackedRows BlobFault} → IsObject shape → Reads (added_records shape max places) before after r
    → Reads (added_rows shape max places) before after r
unfolding added_rows
reads_added_records (Shape.Object key fields) max places is p = p
reads_added_records (Shape.List element) max places is p = absurd is
reads_added_records (Shape.Set element) max places is p = absurd is
reads_added_records (Shape.Map key value) max places is p = absurd is

pub reads_added_runs : (shape : Shape) (max : Option ℕ) (places : ℕ) {before after : Scene} {r : Result PackedRows BlobFault} → (IsObject shape → ⊥) → Reads (added_runs shape places) before after r
    → Reads (added_rows shape max places) before after r
unfolding added_rows
reads_added_runs (Shape.Object key fields) max places other p = absurd (other tt)
reads_added_runs (Shape.List element) max places other p = p
reads_added_runs (Shape.Set element) max places other p = p
reads_added_runs (Shape.Map key value) max places other p = p

-- as many places as there are added ordinals
pub reads_as_many : (shape : Shape) (max : Option ℕ) {count many : ℕ} {before after : Scene} {r : Result PackedRows BlobFault} → count ≡ many → Reads (added_rows shape max count) before after r
    → Reads (added_rows shape max many) before after r
reads_as_many shape max {before = before} {after} {r} same p = subst (λ n. Reads (added_rows shape max n) before after r) same p

pub records_placed : (shape : Shape) (max : Option ℕ) (places : ℕ) (rows : PackedRows) {fields : List Field} {least : ℕ} {lent : List ℕ} → IsObject shape → fields ≡ shape_fields shape
    → AllZip (λ (field : Field) width. IsWidth max field.kind width) fields rows.widths → least ≡ words_for shape places lent → lent ≡ rows.widths → least ≤ length rows.packed.first
    → rows.packed.second ≡ [] → length rows.packed.areas ≡ length fields → ArePlaced shape max places rows
records_placed shape max places rows object are wide needed lent enough none areas = record {
  wide = field_widths_are shape max rows.widths object (subst (λ (fs : List Field). AllZip (λ (field : Field) width. IsWidth max field.kind width) fs rows.widths) are wide);
  filled = areas ∙ ap (λ (fs : List Field). length fs) are;
  enough = subst (λ n. n ≤ length rows.packed.first) (needed ∙ ap (λ (ws : List ℕ). words_for shape places ws) lent) enough;
  short = subst (λ (ws : List ℕ). length ws < 2 ^ 58) (sym none) (omega arith);
}

pub runs_placed : (shape : Shape) (max : Option ℕ) (places : ℕ) (rows : PackedRows) {least : ℕ} {lent : List ℕ} → (IsObject shape → ⊥) → length rows.widths ≡ width_count shape → All (λ width. width ≤ 64) rows.widths
    → least ≡ words_for shape places lent → lent ≡ rows.widths → least ≤ length rows.packed.first → 8 * length rows.packed.second ≤ 2 ^ 28 → rows.packed.areas ≡ [] → ArePlaced shape max places rows
runs_placed shape max places rows other long narrow needed lent enough few none = record {
  wide = part_widths_are shape max rows.widths other long narrow;
  filled = ap (λ (xs : List (List ℕ)). length xs) none ∙ sym (no_fields shape other);
  enough = subst (λ n. n ≤ length rows.packed.first) (needed ∙ ap (λ (ws : List ℕ). words_for shape places ws) lent) enough;
  short = omega arith;
}

-- packed rows at the places of the added ordinals are those of a well-formed patch, however many bits of a record it counts
pub placed_well : (shape : Shape) (max : Option ℕ) (places own : ℕ) (removed added : List ℕ) (rows : PackedRows) → places ≡ length added → ArePlaced shape max places rows
    → IsWellFormedPatch shape record (patch_with shape max removed added rows) { own = own }
placed_well shape max places own removed added rows many placed = record {
  wide = placed.wide;
  filled = placed.filled;
  enough = subst (λ n. words_for shape n rows.widths ≤ length rows.packed.first) many placed.enough;
  short = placed.short;
}
