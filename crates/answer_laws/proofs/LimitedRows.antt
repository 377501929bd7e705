-- The rows that a snapshot or a delta leads to are within the limits of a state.
use Rattle.std.proofs.Common.{◌≡◌, ◌<◌, ◌≤◌, ◌-◌, ◌*◌, ◌⊎◌, ◌∙◌, ℕ, zero, suc, List, [], ◌∷◌, length, map, true, false, cond, Option, None, Some, inl, inr, refl, sym, ap, subst, arith}
use Rattle.std.specs.Prelude.{All, option_and_then, slice_get}
use Rattle.std.specs.FinMap.{entries, find, get, get-entries, values}
use Rattle.std.specs.List.{AllZip, range_with_len}
use Rattle.std.specs.Ordering.{is_eq, nat_cmp}
use Rattle.std.proofs.lemmas.Bool.{cases_eq}
use Rattle.std.proofs.lemmas.List.{length-map}
use Rattle.std.proofs.lemmas.List.Elements.{All-cons, All-head, All-nil, All-tail}
use Rattle.std.proofs.lemmas.List.FromFn.{length-range_with_len}
use Rattle.std.proofs.lemmas.List.Sorted.{length_permutation}
use Rattle.std.proofs.lemmas.List.Sums.{sum_by-cons}
use Rattle.std.proofs.lemmas.Option.{slice_get_within}
use Rattle.bit_array.specs.Element.{element_of}
use Rattle.blob_grammar.specs.Decided.{AreBytes}
use Rattle.schema_model.specs.declared.limit.Limit.TheVariants.{Items}
use Rattle.schema_model.specs.declared.schema.Schema.{Schema}
use Rattle.schema_model.specs.declared.schema.Shape.{Shape}
use Rattle.schema_model.specs.Limit.{number_of_limit}
use Rattle.row_model.specs.declared.row.Row.{Row}
use Rattle.row_model.specs.BothStates.{rows_in}
use Rattle.row_model.specs.Table.{EachRow, RowMap, Table, row_at}
use Rattle.row_model.proofs.RowsFrom.{get_in}
use Rattle.list_codec.specs.ListPlace as lists
use Rattle.bucket_codec.specs.BucketPlace as buckets
use Rattle.bucket_codec.specs.Run.{bucket_in, taken_of}
use Rattle.bucket_codec.proofs.TakenBuckets.{taken_fewer}
use Rattle.type_rows.specs.declared.section.Section.{Section}
use Rattle.type_rows.specs.Loads.{IsSpelledIn, SectionIs, Spells}
use Rattle.type_rows.specs.Patches.{places_in}
use Rattle.type_rows.specs.WordsHeld.{bytes_held, row_bytes}
use Rattle.type_rows.proofs.MovedRows.{moved_from}
use Rattle.seen_patches.specs.Spelling.{SpellsSeen}
use Rattle.type_state.specs.State.{Half}
use Rattle.type_state.specs.Views.{table_of}
use Rattle.snapshot_blob.specs.declared.part.TypePart.{TypePart}
use Rattle.snapshot_blob.specs.Stated.{KeepsTypeLimits, TypeIs}
use Rattle.delta_blob.specs.declared.part.DeltaPart.{DeltaPart}
use Rattle.delta_blob.specs.Moved.{EachNamed, IsUnnamed, Moved, MovesType}
use Rattle.delta_blob.specs.Patch.{PartIs, TypePatch, parts_for}
use Rattle.delta_blob.specs.Within.{IsTypeWithin, Within}
use Rattle.read_engine.specs.Position.{Position, rows_now}
use Rattle.read_engine.specs.Taking.{LoadsFrom, StepsBy}
use Rattle.hol_answers.specs.declared.reply.Reply.{Reply}
use Rattle.hollow_machine.specs.Script.{LineStep}
use Rattle.hollow_machine.specs.State.{Machine}
use Rattle.byte_laws.proofs.ReadTexts.{loaded_texts}
use Rattle.answer_laws.specs.Answered.{IsSound}
use Rattle.answer_laws.specs.Limits.{HasLimitedRows, IsRowWithin, IsWithinLimits, element_count}
use Rattle.answer_laws.proofs.KeptTables.{line_holds}

-- ---- the elements of a row that a section spells

list_long : (words : List ℕ) (width start end : ℕ) → length (lists.elements_between words width start end) ≡ end - start
list_long words width start end = length-map (range_with_len start (end - start)) (λ index. element_of words (index * width) width) ∙ length-range_with_len start (end - start)

run_long : (words : List ℕ) (key_width value_width start size : ℕ) → length (map (bucket_in words key_width value_width) (range_with_len start size)) ≡ size
run_long words key_width value_width start size = length-map (range_with_len start size) (bucket_in words key_width value_width) ∙ length-range_with_len start size

pairs_within : (section : Section) (place : ℕ) (pairs : List (ℕ × ℕ)) → buckets.SpellsPairs section.widths section.total section.first section.second place pairs → length pairs ≤ section.total
pairs_within section place pairs spells =
    let run = buckets.run_at section.widths section.first section.second place in
    let start = buckets.start_at section.widths section.first place in
    let end = buckets.end_at section.widths section.first place in
    let long = run_long section.second (buckets.key_width section.widths) (buckets.value_width section.widths) start (end - start) in
    let counted = length_permutation (taken_of run) pairs spells.run.same in
    let room = taken_fewer run spells.run.room.0 spells.run.room.1 spells.run.room.2 in
    let most = spells.span.counted in
    omega (arith, long, counted, room, most)

elements_within : (shape : Shape) (section : Section) (place : ℕ) (row : Row) → Spells shape section place row → element_count row ≤ section.total
elements_within (Shape.Object key fields) section place (Row.Object values) spells = omega arith
elements_within (Shape.Object key fields) section place _ spells = absurd spells
elements_within (Shape.List element) section place (Row.List ordinals) spells =
    let long = list_long section.second (lists.element_width section.widths) (lists.start_at section.widths section.first place) (lists.end_at section.widths section.first place) in
    let same = ap (λ (xs : List ℕ). length xs) spells.are in
    let most = spells.has.within in
    omega (arith, long, same, most)
elements_within (Shape.List element) section place _ spells = absurd spells
elements_within (Shape.Set element) section place (Row.Set ordinals) spells =
    let same = ap (λ (xs : List ℕ). length xs) spells.1 ∙ length-map spells.0 (λ pair. pair.0) in
    let most = pairs_within section place spells.0 spells.2 in
    omega (arith, same, most)
elements_within (Shape.Set element) section place _ spells = absurd spells.1
elements_within (Shape.Map key value) section place (Row.Map entries) spells =
    let same = ap (λ (xs : List (ℕ × ℕ)). length xs) spells.1 in
    let most = pairs_within section place spells.0 spells.2 in
    omega (arith, same, most)
elements_within (Shape.Map key value) section place _ spells = absurd spells.1

-- the same of a section as it is seen
seen_within : (mine theirs : Shape) (section : Section) (place : ℕ) (row : Row) → SpellsSeen mine theirs section place row → element_count row ≤ section.total
seen_within (Shape.Object key mine) theirs section place (Row.Object values) spells = omega arith
seen_within (Shape.Object key mine) theirs section place _ spells = absurd spells
seen_within (Shape.List element) theirs section place row spells = elements_within (Shape.List element) section place row spells
seen_within (Shape.Set element) theirs section place row spells = elements_within (Shape.Set element) section place row spells
seen_within (Shape.Map key value) theirs section place row spells = elements_within (Shape.Map key value) section place row spells

-- ---- the rows of a type

-- a row has no more bytes than all of them
found_bytes : (o : ℕ) (es : List (ℕ × Row)) (row : Row) → find nat_cmp o es ≡ Some row → row_bytes row ≤ bytes_held (map (λ entry. entry.1) es)
found_bytes o [] row is = absurd cc
found_bytes o (e ∷ es) row is =
    let sum = sum_by-cons row_bytes e.1 (map (λ (entry : ℕ × Row). entry.1) es) in
    elim (is_eq (nat_cmp o e.0)) as (λ b. cond b (Some e.1) (find nat_cmp o es) ≡ Some row → row_bytes row ≤ bytes_held (map (λ entry. entry.1) (e ∷ es))) [
      | true ↦ λ same. (let value : e.1 ≡ row = cc in let bytes = ap row_bytes value in omega (arith, sum, bytes))
      | false ↦ λ same. (let rest = found_bytes o es row same in omega (arith, sum, rest))
    ] is

row_held : (rows : RowMap) (o : ℕ) (row : Row) → get rows o ≡ Some row → row_bytes row ≤ bytes_held (values rows)
row_held rows o row at = found_bytes o (entries rows) row (sym (get-entries rows o) ∙ at)

-- a row that is found under an ordinal stands in the entries
found : (P : ℕ × Row → Type 0) (o : ℕ) (es : List (ℕ × Row)) (row : Row) → find nat_cmp o es ≡ Some row → All P es → (key : ℕ) × P (key, row)
found P o [] row is all = absurd cc
found P o (e ∷ es) row is all =
    elim (is_eq (nat_cmp o e.0)) as (λ b. cond b (Some e.1) (find nat_cmp o es) ≡ Some row → (key : ℕ) × P (key, row)) [
      | true ↦ λ same. (let value : e.1 ≡ row = cc in (e.0, subst (λ r. P (e.0, r)) value (All-head P e es all)))
      | false ↦ λ same. found P o es row same (All-tail P e es all)
    ] is

section_elements : (shape : Shape) (section : Section) (rows : RowMap) → SectionIs shape section rows → (o : ℕ) (row : Row) → get rows o ≡ Some row → element_count row ≤ section.total
section_elements shape section rows is o row at =
    let entry = found (IsSpelledIn shape section) o (entries rows) row (sym (get-entries rows o) ∙ at) is.spelled in
    elements_within shape section entry.0 row entry.1

-- ---- the rows of a snapshot

halves_within : (parts : List TypePart) (halves : List Half) → AllZip TypeIs parts halves → AllZip KeepsTypeLimits parts halves → (t ordinal : ℕ) (row : Row) → row_at (table_of halves) t ordinal ≡ Some row → IsRowWithin row
halves_within [] [] types kept t ordinal row at = absurd cc
halves_within [] (half ∷ halves) types kept t ordinal row at = absurd types
halves_within (part ∷ parts) [] types kept t ordinal row at = absurd types
halves_within (part ∷ parts) (half ∷ halves) types kept zero ordinal row at =
    let elements = section_elements part.schema.shape part.section half.rows types.0.rows ordinal row at in
    let total = kept.0.counts.items in
    let held = row_held half.rows ordinal row at in
    let bytes = kept.0.kept.bytes in
    record { bytes = omega (arith, held, bytes); items = omega (arith, elements, total) }
halves_within (part ∷ parts) (half ∷ halves) types kept (suc t) ordinal row at = halves_within parts halves types.1 kept.1 t ordinal row at

loaded_within : (blob : List ℕ) (position : Position) → AreBytes blob → LoadsFrom blob position → IsWithinLimits position.schemas (rows_now position)
loaded_within blob position are loads =
    let accepted = loads.1 in
    record {
      names = loaded_texts blob loads.0 position.schemas position.halves accepted;
      rows = λ t ordinal schema row there at. halves_within accepted.0 position.halves accepted.1.state.types accepted.2.types t ordinal row at;
    }

-- ---- where a patch leads

-- Each row that the patch adds to the type has no more elements than the limit.
abbrev AddsFew : TypePatch → Type 0
AddsFew named = (place : ℕ) (row : Row) → slice_get named.rows place ≡ Some row → element_count row ≤ number_of_limit Items

-- The limit on the elements of a part is kept.
abbrev KeepsItems : DeltaPart → Type 0
KeepsItems part = part.section.total ≤ number_of_limit Items

adds_few : (schemas : List Schema) (parts : List DeltaPart) (patch : List TypePatch) → All KeepsItems parts → AllZip (PartIs schemas) parts patch → All AddsFew patch
adds_few schemas [] [] few sees = All-nil AddsFew
adds_few schemas [] (named ∷ patch) few sees = absurd sees
adds_few schemas (part ∷ parts) [] few sees = absurd sees
adds_few schemas (part ∷ parts) (named ∷ patch) few sees =
    All-cons AddsFew named patch
    (λ place row at.
    (let elements = seen_within named.schema.shape part.schema.shape (places_in part.section) place row (sees.0.spelled.spelled place row at) in
    let total = All-head KeepsItems part parts few in
    omega (arith, elements, total)))
    (adds_few schemas parts patch (All-tail KeepsItems part parts few) sees.1)

module _ (old new : Table) where
  -- What is known of a type that the patch names.
  record IsMovedWithin (t : ℕ) (named : TypePatch) : Type 0 where
    adds : AddsFew named
    moves : MovesType old new t named
    within : IsTypeWithin new t named

  -- What is known of each.
  abbrev Knows : TypePatch → Type 0
  Knows named = IsMovedWithin named.type_index named

  each_known : (patch : List TypePatch) → All AddsFew patch → EachNamed patch (MovesType old new) → Within new patch → All Knows patch
  each_known patch adds moves within k d below = record { adds = adds k d below; moves = moves k d below; within = within k d below }

  named_or_not : (t : ℕ) (patch : List TypePatch) → All Knows patch → ((named : TypePatch) × IsMovedWithin t named) ⊎ IsUnnamed patch t
  named_or_not t [] known = inr (All-nil (λ named. named.type_index ≡ t → ⊥))
  named_or_not t (named ∷ patch) known =
      elim (cases_eq named.type_index t) [
        | inl here ↦ inl (named, subst (λ (k : ℕ). IsMovedWithin k named) here (All-head Knows named patch known))
        | inr apart ↦
            elim (named_or_not t patch (All-tail Knows named patch known)) [
              | inl there ↦ inl there
              | inr none ↦ inr (All-cons (λ n. n.type_index ≡ t → ⊥) named patch apart none)
            ]
      ]

  named_within : (t : ℕ) (named : TypePatch) → IsMovedWithin t named → ((ordinal : ℕ) (row : Row) → row_at old t ordinal ≡ Some row → IsRowWithin row) → (ordinal : ℕ) (row : Row) → get (rows_in new t) ordinal ≡ Some row
      → IsRowWithin row
  named_within t named known before ordinal row at =
      let held = row_held (rows_in new t) ordinal row at in
      let most = known.within.kept.bytes in
      record {
        bytes = omega (arith, held, most);
        items = elim (moved_from (rows_in old t) (rows_in new t) named.removed named.added named.rows ordinal row known.moves at) [
          | inl was ↦ (before ordinal row (sym (get_in old t ordinal) ∙ was)).items
          | inr came ↦ known.adds came.0 row came.1
        ];
      }

  there : (table : Table) (t ordinal : ℕ) (row : Row) → row_at table t ordinal ≡ Some row → t < length table
  there table t ordinal row at = in_list (slice_get table t) refl at
    where
      in_list : (found : Option RowMap) → slice_get table t ≡ found → option_and_then (λ rows. get rows ordinal) found ≡ Some row → t < length table
      in_list None is none = absurd cc
      in_list (Some rows) is some = slice_get_within table t rows is

  moved_within : (schemas : List Schema) (patch : List TypePatch) → All Knows patch → Moved patch old new → EachRow schemas old (λ schema row. IsRowWithin row) → EachRow schemas new (λ schema row. IsRowWithin row)
  moved_within schemas patch known moved before t ordinal schema row is at =
      elim (named_or_not t patch known) [
        | inl (named, of) ↦ named_within t named of (λ o r was. before t o schema r is was) ordinal row (get_in new t ordinal ∙ at)
        | inr unnamed ↦
            (let same = moved.others t (subst (λ (n : ℕ). t < n) moved.types (there new t ordinal row at)) unnamed in
            before t ordinal schema row is (sym (get_in old t ordinal) ∙ ap (λ (rows : RowMap). get rows ordinal) (sym same) ∙ get_in new t ordinal ∙ at))
      ]

stepped_within : (blob : List ℕ) (from to : Position) → AreBytes blob → StepsBy blob from to → IsWithinLimits from.schemas (rows_now from) → IsWithinLimits from.schemas (rows_now to)
stepped_within blob from to are steps within =
    let adds = adds_few from.schemas (parts_for from.schemas steps.is.parts) steps.patch steps.items steps.is.sees in
    let known = each_known (rows_now from) (rows_now to) steps.patch adds steps.moved.named steps.within in
    record { names = within.names; rows = moved_within (rows_now from) (rows_now to) from.schemas steps.patch known steps.moved within.rows }

-- ---- lines

pub line_keeps_limited : (machine next : Machine) (line : List ℕ) (reply : Reply) → IsSound machine → HasLimitedRows machine → LineStep machine line reply next → HasLimitedRows next
line_keeps_limited machine next line reply sound within step = line_holds IsWithinLimits loaded_within stepped_within machine next line reply sound.bytes within step
