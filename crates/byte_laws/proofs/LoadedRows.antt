-- The rows that a snapshot of bytes stands for.
use Rattle.std.proofs.Common.{◌≡◌, ◌<◌, ◌∙◌, ◌+◌, ℕ, zero, suc, List, [], ◌∷◌, length, sum, take, drop, true, false, cond, Option, Some, sym, subst}
use Rattle.std.specs.Prelude.{All}
use Rattle.std.specs.List.{AllZip}
use Rattle.std.specs.FinMap.{entries, find, get, get-entries}
use Rattle.std.specs.Ordering.{is_eq, nat_cmp}
use Rattle.std.proofs.lemmas.List.Elements.{All-cons, All-drop, All-head, All-nil, All-tail, All-take}
use Rattle.blob_grammar.specs.Decided.{AreBytes}
use Rattle.blob_grammar.specs.Form.{Form, ◌>>=◌, at_most, counted, nothing, repeated}
use Rattle.blob_frame.specs.declared.header.Header.{Header}
use Rattle.blob_frame.specs.Item.{counted_run, run, vint}
use Rattle.blob_sections.specs.declared.section.PackedRows.{PackedRows}
use Rattle.blob_sections.specs.Section.{packed_records, packed_rows, packed_runs}
use Rattle.schema_model.specs.declared.schema.Field.{Field}
use Rattle.schema_model.specs.declared.schema.FieldKind.{FieldKind}
use Rattle.schema_model.specs.declared.schema.Schema.{Schema}
use Rattle.schema_model.specs.declared.schema.Shape.{Shape}
use Rattle.schema_model.specs.Parts.{shape_fields}
use Rattle.row_model.specs.declared.row.Row.{Row}
use Rattle.row_model.specs.declared.row.Value.{Value}
use Rattle.row_model.specs.Table.{RowMap}
use Rattle.object_codec.specs.ObjectPlace.{SpellsFields, parts_from}
use Rattle.object_codec.specs.Part.{FieldPart, SpellsValue}
use Rattle.type_rows.specs.declared.section.Section.{Section}
use Rattle.type_rows.specs.Loads.{IsSpelledIn, SectionIs}
use Rattle.type_state.specs.State.{Half}
use Rattle.type_state.specs.Views.{table_of}
use Rattle.snapshot_blob.specs.declared.part.TypePart.{TypePart}
use Rattle.snapshot_blob.specs.Parts.{body, section_of, type_part}
use Rattle.snapshot_blob.specs.Snapshot.{IsAccepted}
use Rattle.snapshot_blob.specs.Stated.{TypeIs}
use Rattle.snapshot_blob.proofs.Whole.{split}
use Rattle.byte_laws.specs.Bytes.{IsByteRow, IsByteTable, IsByteValue}

-- ---- the areas of a blob

module _ (blob : List ℕ) (are : AreBytes blob) where
  -- Whatever stands by the form in the blob is such a value.
  abbrev pub Gives : {A : Type 0} → Form A → (A → Type 0) → Type 0
  Gives {A} form P = (at : ℕ) (value : A) (next : ℕ) → form.Stands blob at value next → P value

  pub repeated_gives : {A : Type 0} (n : ℕ) (a : Form A) (P : A → Type 0) → Gives a P → Gives (repeated n a) (All P)
  unfolding repeated ◌>>=◌ nothing
  repeated_gives zero a P each at value next stands = subst (All P) (sym stands.0) (All-nil P)
  repeated_gives (suc n) a P each at value next (x, mid, stands, (xs, end, behind, is)) =
      subst (All P) (sym is.0) (All-cons P x xs (each at x mid stands) (repeated_gives n a P each mid xs end behind))

  pub counted_gives : {A : Type 0} (number : Form ℕ) (a : Form A) (P : A → Type 0) → Gives a P → Gives (counted number a) (All P)
  unfolding counted ◌>>=◌
  counted_gives number a P each at value next (n, mid, stands, behind) = repeated_gives n a P each mid value next behind

  run_gives : (count : ℕ) → Gives (run count) AreBytes
  unfolding run
  run_gives count at value next stands = subst AreBytes (sym stands.2) (All-take (λ byte. byte < 256) count (drop at blob) (All-drop (λ byte. byte < 256) at blob are))

  pub area_gives : Gives counted_run AreBytes
  unfolding counted_run ◌>>=◌
  area_gives at value next (count, mid, number, behind) = run_gives count mid value next behind

  -- The areas of packed rows are bytes.
  abbrev pub HasAreas : PackedRows → Type 0
  HasAreas rows = All AreBytes rows.packed.areas

  records_give : (shape : Shape) (max : Option ℕ) → Gives (packed_records shape max) HasAreas
  unfolding packed_records ◌>>=◌ nothing
  records_give shape max at value next (widths, a, wide, (records, b, words, (areas, c, runs, is))) =
      subst HasAreas (sym is.0) (repeated_gives (length (shape_fields shape)) counted_run AreBytes area_gives b areas c runs)

  runs_give : (shape : Shape) (max : Option ℕ) → Gives (packed_runs shape max) HasAreas
  unfolding packed_runs ◌>>=◌ nothing
  runs_give shape max at value next (widths, a, wide, (total, b, number, (pointers, c, words, (items, d, more, is)))) = subst HasAreas (sym is.0) (All-nil AreBytes)

  rows_give : (shape : Shape) (max : Option ℕ) → Gives (packed_rows shape max) HasAreas
  unfolding packed_rows
  rows_give (Shape.Object key fields) max = records_give (Shape.Object key fields) max
  rows_give (Shape.List element) max = runs_give (Shape.List element) max
  rows_give (Shape.Set element) max = runs_give (Shape.Set element) max
  rows_give (Shape.Map key value) max = runs_give (Shape.Map key value) max

  -- The areas of a section are bytes.
  abbrev IsByteSection : Section → Type 0
  IsByteSection section = All AreBytes section.areas

  section_gives : (shape : Shape) → Gives (section_of shape) IsByteSection
  unfolding section_of ◌>>=◌ nothing
  section_gives shape at value next (max, a, greatest, (rows, b, packed, (live, c, population, is))) = subst IsByteSection (sym is.0) (rows_give shape max a rows b packed)

  abbrev IsBytePart : TypePart → Type 0
  IsBytePart part = IsByteSection part.section

  part_gives : Gives type_part IsBytePart
  unfolding type_part ◌>>=◌ nothing
  part_gives at value next (head, a, heads, (section, b, rows, is)) = subst IsBytePart (sym is.0) (section_gives head.schema.shape a section b rows)

  body_gives : Gives body (All IsBytePart)
  unfolding body ◌>>=◌ nothing
  body_gives at value next (parts, a, listed, (done, b, ended, is)) = subst (All IsBytePart) (sym is.0) (counted_gives (at_most vint 512) type_part IsBytePart part_gives at parts a listed)

-- ---- the rows of a section

span_bytes : (start stop : ℕ) (area : List ℕ) → AreBytes area → AreBytes (take stop (drop start area))
span_bytes start stop area are = All-take (λ byte. byte < 256) stop (drop start area) (All-drop (λ byte. byte < 256) start area are)

pub value_spelled : (kind : FieldKind) (part : FieldPart) (value : Value) → AreBytes part.area → SpellsValue kind part value → IsByteValue value
value_spelled kind part Value.Null are spells = tt
value_spelled kind part (Value.Int number) are spells = tt
value_spelled kind part (Value.Long number) are spells = tt
value_spelled kind part (Value.Bool flag) are spells = tt
value_spelled kind part (Value.Text units) are spells = tt
value_spelled kind part (Value.Ref ordinal) are spells = tt
value_spelled FieldKind.Bytes part (Value.Bytes bytes) are spells = subst AreBytes (sym spells.2) (span_bytes part.start _ part.area are)
value_spelled _ part (Value.Bytes bytes) are spells = absurd spells

values_spelled : (fields : List Field) (widths first : List ℕ) (size place before : ℕ) (areas : List (List ℕ)) (values : List Value) → All AreBytes areas
    → SpellsFields fields (parts_from first size place before widths areas) values → All IsByteValue values
values_spelled (f ∷ fs) (w ∷ ws) first size place before (a ∷ areas) (v ∷ vs) all spells =
    All-cons IsByteValue v vs (value_spelled f.kind _ v (All-head AreBytes a areas all) spells.0) (values_spelled fs ws first size place (before + w) areas vs (All-tail AreBytes a areas all) spells.1)
values_spelled (f ∷ fs) (w ∷ ws) first size place before (a ∷ areas) [] all spells = absurd spells
values_spelled (f ∷ fs) (w ∷ ws) first size place before [] values all spells = absurd spells
values_spelled (f ∷ fs) [] first size place before areas values all spells = absurd spells
values_spelled [] widths first size place before areas [] all spells = All-nil IsByteValue
values_spelled [] (w ∷ ws) first size place before (a ∷ areas) (v ∷ vs) all spells = absurd spells
values_spelled [] (w ∷ ws) first size place before [] (v ∷ vs) all spells = absurd spells
values_spelled [] [] first size place before areas (v ∷ vs) all spells = absurd spells

row_spelled : (shape : Shape) (section : Section) (o : ℕ) (row : Row) → All AreBytes section.areas → IsSpelledIn shape section (o, row) → IsByteRow row
row_spelled (Shape.Object key fields) section o (Row.Object values) all spells = values_spelled fields section.widths section.first (sum section.widths) o 0 section.areas values all spells
row_spelled (Shape.List element) section o (Row.Object values) all spells = absurd spells
row_spelled (Shape.Set element) section o (Row.Object values) all spells = absurd spells.1
row_spelled (Shape.Map key value) section o (Row.Object values) all spells = absurd spells.1
row_spelled shape section o (Row.List ordinals) all spells = tt
row_spelled shape section o (Row.Set ordinals) all spells = tt
row_spelled shape section o (Row.Map pairs) all spells = tt

-- a row that is found under an ordinal stands in the entries
found : (P : ℕ × Row → Type 0) (o : ℕ) (es : List (ℕ × Row)) (row : Row) → find nat_cmp o es ≡ Some row → All P es → (key : ℕ) × P (key, row)
found P o [] row is all = absurd cc
found P o (e ∷ es) row is all =
    elim (is_eq (nat_cmp o e.0)) as (λ b. cond b (Some e.1) (find nat_cmp o es) ≡ Some row → (key : ℕ) × P (key, row)) [
      | true ↦ λ same. let value : e.1 ≡ row = cc in (e.0, subst (λ r. P (e.0, r)) value (All-head P e es all))
      | false ↦ λ same. found P o es row same (All-tail P e es all)
    ] is

section_bytes : (shape : Shape) (section : Section) (rows : RowMap) → All AreBytes section.areas → SectionIs shape section rows → (o : ℕ) (row : Row) → get rows o ≡ Some row → IsByteRow row
section_bytes shape section rows all is o row at =
    let entry = found (IsSpelledIn shape section) o (entries rows) row (sym (get-entries rows o) ∙ at) is.spelled in
    row_spelled shape section entry.0 row all entry.1

-- ---- the rows of a snapshot

halves_bytes : (parts : List TypePart) (halves : List Half) → AllZip TypeIs parts halves → All (λ (part : TypePart). All AreBytes part.section.areas) parts → IsByteTable (table_of halves)
halves_bytes [] [] types all t o row at = absurd cc
halves_bytes [] (h ∷ halves) types all t o row at = absurd types
halves_bytes (p ∷ parts) [] types all t o row at = absurd types
halves_bytes (p ∷ parts) (h ∷ halves) types all zero o row at =
    section_bytes p.schema.shape p.section h.rows (All-head (λ (part : TypePart). All AreBytes part.section.areas) p parts all) types.0.rows o row at
halves_bytes (p ∷ parts) (h ∷ halves) types all (suc t) o row at =
    halves_bytes parts halves types.1 (All-tail (λ (part : TypePart). All AreBytes part.section.areas) p parts all) t o row at

-- what a blob of bytes loads
pub loaded_bytes : (blob : List ℕ) (head : Header) (schemas : List Schema) (halves : List Half) → AreBytes blob → IsAccepted blob head schemas halves → IsByteTable (table_of halves)
loaded_bytes blob head schemas halves are accepted =
    let items = split blob head accepted.0 (length blob) accepted.1.items in
    halves_bytes accepted.0 halves accepted.1.state.types (body_gives blob are items.0 accepted.0 (length blob) items.2)
