-- The bytes that are written of the items of a section are read as them.
use Rattle.std.proofs.Common.{◌≡◌, ◌≤◌, ◌<◌, ◌-◌, ◌^◌, ℕ, List, [], ◌∷◌, ◌++◌, take, drop, length, Option, Some, None, refl, ◌∙◌, subst, sym, ap, arith, length-append, append_assoc}
use Rattle.std.specs.List.{flat_map, All, AllZip}
use Rattle.std.specs.Int.{w32, w64, to_be_bytes}
use Rattle.std.proofs.lemmas.List.{take_at, drop_at}
use Rattle.std.proofs.lemmas.Nat.{from_be_bytes-to_be_bytes_4, from_be_bytes-to_be_bytes_8}
use Rattle.hol_varint.specs.Varint.{varint_bytes}
use Rattle.hol_varint.specs.Varint as varints
use Rattle.ordinal_set.specs.Population.{population_of, population_words, IsPopulation}
use Rattle.schema_model.specs.declared.schema.Field.{Field}
use Rattle.schema_model.specs.declared.schema.FieldKind.{FieldKind}
use Rattle.schema_model.specs.declared.schema.Shape.{Shape}
use Rattle.type_rows.specs.Layout.{width_count}
use Rattle.type_rows.specs.WellFormed.{IsWidth}
use Rattle.blob_grammar.specs.Form.{Form, repeated, each_of, envelope, behind_number}
use Rattle.blob_frame.specs.Item.{fixed, run, counted_run}
use Rattle.blob_frame.proofs.Spelling.{Spells, spells_same, spells_then, spells_last, spells_made, spells_judged, spells_repeated, spells_counted, spells_fixed, spells_varint, spells_nothing, spells_skipped_none}
use Rattle.blob_sections.specs.Envelope.{shards, listed_shards, shard_envelope}
use Rattle.blob_sections.specs.Population.{population}
use Rattle.blob_sections.specs.Section.{max_ordinal, at_least, word_array}
use Rattle.blob_sections.specs.Width.{field_width, part_width, part_widths}
use Rattle.blob_sections.proofs.Items.{max_none, max_some}
use Rattle.blob_writing.specs.Carried.{IsMax, FitWords}
use Rattle.blob_writing.specs.Written.{one_shard_bytes, max_bytes, word_array_bytes, area_bytes}

pub spells_value : {V : Type 0} {form : Form V} {v w : V} {bytes : List ℕ} → Spells form v bytes → v ≡ w → Spells form w bytes
spells_value {form = form} {bytes = bytes} p is = subst (λ v. Spells form v bytes) is p

-- the max ordinal
pub spells_max : (max : Option ℕ) → IsMax max → Spells max_ordinal max (max_bytes max)
unfolding max_ordinal
spells_max None h = spells_judged _ _ _ (spells_varint (2 ^ 32) (2 ^ 32 - 1) (omega arith)) (max_none (2 ^ 32 - 1) refl)
spells_max (Some max) h = spells_judged _ _ _ (spells_varint (2 ^ 32) max (omega (arith, h))) (max_some max (λ e. omega (arith, h, e)))

-- for each of some things what it calls for, each by its own bytes
pub spells_each_of : {A B : Type 0} (f : A → Form B) (P : A → B → Type 0) (spelled : B → List ℕ) → ((x : A) (y : B) → P x y → Spells (f x) y (spelled y)) →
    (xs : List A) (ys : List B) → AllZip P xs ys → Spells (each_of f xs) ys (flat_map spelled ys)
unfolding each_of
spells_each_of f P spelled each [] [] all = spells_nothing []
spells_each_of f P spelled each [] (y ∷ ys) all = absurd all
spells_each_of f P spelled each (x ∷ xs) [] all = absurd all
spells_each_of f P spelled each (x ∷ xs) (y ∷ ys) all =
    spells_then _ (each x y all.0) (spells_last (λ rest. y ∷ rest) (spells_each_of f P spelled each xs ys all.1))

narrow : (max : Option ℕ) (kind : FieldKind) (width : ℕ) → IsWidth max kind width → width ≤ 64
narrow None kind width wide = wide
narrow (Some max) kind width wide = wide.0

spells_field_width : (max : Option ℕ) (field : Field) (width : ℕ) → IsWidth max field.kind width → Spells (field_width max field.kind) width (varint_bytes width)
unfolding field_width
spells_field_width max field width wide =
    spells_judged _ _ _ (spells_varint (2 ^ 32) width (omega (arith, narrow max field.kind width wide))) (refl, wide)

-- the widths of the fields of an OBJECT
pub spells_field_widths : (max : Option ℕ) (fields : List Field) (widths : List ℕ) → AllZip (λ (field : Field) width. IsWidth max field.kind width) fields widths →
    Spells (each_of (λ (field : Field). field_width max field.kind) fields) widths (flat_map varint_bytes widths)
spells_field_widths max fields widths wide =
    spells_each_of (λ (field : Field). field_width max field.kind) (λ (field : Field) width. IsWidth max field.kind width) varint_bytes (spells_field_width max) fields widths wide

spells_part_width : (width : ℕ) → width ≤ 64 → Spells part_width width (varint_bytes width)
unfolding part_width
spells_part_width width h = spells_judged _ _ _ (spells_varint (2 ^ 32) width (omega (arith, h))) (refl, h)

-- those of a LIST, SET or MAP
pub spells_part_widths : (shape : Shape) (widths : List ℕ) → length widths ≡ width_count shape → All (λ width. width ≤ 64) widths → Spells (part_widths shape) widths (flat_map varint_bytes widths)
unfolding part_widths
spells_part_widths shape widths long wide =
    subst (λ n. Spells (repeated n part_width) widths (flat_map varint_bytes widths)) long (spells_repeated (λ width. width ≤ 64) varint_bytes spells_part_width widths wide)

spells_word : (word : ℕ) → word < 2 ^ 64 → Spells (fixed w64) word (to_be_bytes w64 word)
spells_word word small = spells_fixed w64 (to_be_bytes w64 word) (eight_bytes word) (sym (from_be_bytes-to_be_bytes_8 word small))
  where
    eight_bytes : (n : ℕ) → length (to_be_bytes w64 n) ≡ 8
    eight_bytes n = refl

-- a word array of no fewer words than this
pub spells_words : (least : ℕ) (words : List ℕ) → least ≤ length words → FitWords words → Spells (word_array least) words (word_array_bytes words)
unfolding word_array at_least
spells_words least words enough fit =
    spells_counted (λ word. word < 2 ^ 64) (to_be_bytes w64) spells_word words fit.small (spells_judged _ _ _ (spells_varint (2 ^ 64) (length words) fit.few) (refl, enough))

there : (before bytes behind : List ℕ) → take (length bytes) (drop (length before) (before ++ bytes ++ behind)) ≡ bytes
there before bytes behind =
    ap (λ (xs : List ℕ). take (length bytes) (drop (length before) xs)) (append_assoc before bytes behind)
    ∙ (ap (λ (xs : List ℕ). take (length bytes) xs) (drop_at before (bytes ++ behind) (length before) refl) ∙ take_at bytes behind (length bytes) refl)

-- a run of bytes
pub spells_run : (bytes : List ℕ) → Spells (run (length bytes)) bytes bytes
unfolding run
spells_run bytes = record {
  stands = λ before behind. (
    refl,
    omega (arith, length-append (before ++ bytes) behind, length-append before bytes),
    sym (there before bytes behind),
  );
}

-- bytes behind their number
pub spells_area : (area : List ℕ) → length area < 2 ^ 64 → Spells counted_run area (area_bytes area)
unfolding counted_run
spells_area area few = spells_then _ (spells_varint (2 ^ 64) (length area) few) (spells_run area)

-- those of each field
pub spells_areas : (count : ℕ) (areas : List (List ℕ)) → length areas ≡ count → All (λ (area : List ℕ). length area < 2 ^ 64) areas → Spells (repeated count counted_run) areas (flat_map area_bytes areas)
spells_areas count areas is few =
    subst (λ n. Spells (repeated n counted_run) areas (flat_map area_bytes areas)) is (spells_repeated (λ (area : List ℕ). length area < 2 ^ 64) area_bytes spells_area areas few)

small_bytes : varint_bytes 2 ++ (varint_bytes 0 ++ ([] ++ varint_bytes 1)) ≡ one_shard_bytes
unfolding varint_bytes varints.high_bytes
small_bytes = refl

-- the shard envelope
pub spells_one_shard : Spells shard_envelope tt one_shard_bytes
unfolding shard_envelope envelope behind_number listed_shards shards
spells_one_shard = spells_same
    (spells_then _ (spells_varint (2 ^ 32) 2 (omega arith))
    (spells_then _ (spells_varint (2 ^ 32) 0 (omega arith)) (spells_then _ spells_skipped_none (spells_judged _ _ _ (spells_varint (2 ^ 32) 1 (omega arith)) refl))))
    small_bytes

few_words : (max : Option ℕ) → IsMax max → population_words max < 2 ^ 32
few_words None h = omega arith
few_words (Some max) h = omega (arith, h)

-- the population
pub spells_population : (set : List ℕ) (max : Option ℕ) (bytes : List ℕ) → IsMax max → IsPopulation set max bytes → Spells population set bytes
unfolding population
spells_population set max bytes h p =
    let few : length p.words < 2 ^ 32 = omega (arith, p.many, few_words max h) in
    let number = spells_fixed w32 (to_be_bytes w32 (length p.words)) (four_bytes (length p.words)) (sym (from_be_bytes-to_be_bytes_4 (length p.words) few)) in
    spells_same (spells_value (spells_made population_of (spells_counted (λ word. word < 2 ^ 64) (to_be_bytes w64) spells_word p.words p.range number)) p.bits) (sym p.is)
  where
    four_bytes : (n : ℕ) → length (to_be_bytes w32 n) ≡ 4
    four_bytes n = refl
