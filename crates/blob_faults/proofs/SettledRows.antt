-- The trial of the section of a type is settled: it loads rows, or there is a first fault of its ordinals, places, widths and limits, in this order.
use Rattle.std.proofs.Common.{◌≡◌, ◌<◌, ℕ, zero, suc, List, [], ◌∷◌, ◌++◌, Option, None, Some, inl, inr, refl, sym, ap, subst, ◌∙◌, append_assoc, arith, take, length, slice_get}
use Rattle.std.specs.Prelude.{◌≢◌, ◌≤◌, ◌*◌, ◌-◌, ◌^◌, All, get_or, sum}
use Rattle.std.specs.FinMap.{entries, values}
use Rattle.std.specs.List.{AllZip}
use Rattle.std.specs.List.Sorted.{IsStrictlyIncreasing}
use Rattle.std.specs.Map.{keys_of, values_of}
use Rattle.std.proofs.lemmas.Bool.{cases_lt}
use Rattle.std.proofs.lemmas.List.{get_or_default, take_all}
use Rattle.std.proofs.lemmas.Option.{none-some}
use Rattle.schema_model.specs.declared.limit.Limit.TheVariants.{Bytes, Words}
use Rattle.schema_model.specs.declared.reason.Reason.{Reason}
use Rattle.schema_model.specs.declared.schema.Field.{Field}
use Rattle.schema_model.specs.declared.schema.Schema.{Schema}
use Rattle.schema_model.specs.declared.schema.Shape.{Shape}
use Rattle.schema_model.specs.declared.schema.name.Name.{Name}
use Rattle.schema_model.specs.Limit.{number_of_limit}
use Rattle.row_model.specs.declared.row.Row.{Row}
use Rattle.row_model.specs.Table.{RowMap}
use Rattle.list_codec.specs.ListPlace.{HasElements, element_width, elements_at, end_at, start_at}
use Rattle.type_rows.specs.declared.fault.RowFault.{RowFault}
use Rattle.type_rows.specs.declared.section.Section.{Section}
use Rattle.type_rows.specs.Holds.{HoldsRow, HoldsRows}
use Rattle.type_rows.specs.Layout.{counted_words, places_of, record_bits}
use Rattle.type_rows.specs.Loads.{Loads, layout_of}
use Rattle.type_rows.specs.WellFormed.{IsWidth}
use Rattle.type_rows.specs.WordsHeld.{bytes_held}
use Rattle.type_rows.specs.LoadFault.{FailsLoad, load_tests}
use Rattle.type_rows.specs.Ordinals.{HasNoPlace, HoldsNowhere}
use Rattle.type_rows.specs.Fails.{Fails}
use Rattle.type_rows.specs.Places.{SpellsSome}
use Rattle.type_rows.specs.Sums.{IsOfRows}
use Rattle.type_rows.specs.Tests.{LeadsHeld}
use Rattle.type_rows.specs.Widths.{FirstUnheld}
use Rattle.type_rows.proofs.FirstPlaces.{SpellBefore, failed_here, rows_tested, spelled_more, spelled_none}
use Rattle.type_rows.proofs.FoundRows.{listed_below}
use Rattle.type_rows.specs.Rows.{pairs_at}
use Rattle.type_rows.proofs.ReadRuns.{pairs_or_fail}
use Rattle.type_rows.proofs.ReadValues.{record_or_fails}
use Rattle.blob_faults.specs.Blame.{row_blame}
use Rattle.blob_faults.specs.Rows.{loads}
use Rattle.blob_faults.specs.Settles.{Settles}
use Rattle.blob_faults.proofs.LeastNumber.{no_number}

-- ---- places

-- The section of an OBJECT has a width that each field may have, and an area for each field.
abbrev pub HasFields : Shape → Section → Type 0
HasFields (Shape.Object key fields) section = AllZip (λ (field : Field) width. IsWidth section.max field.kind width) fields section.widths × (length section.areas ≡ length fields)
HasFields _ section = Unit {0}

-- The place fails for no reason.
abbrev FailsNowhere : Shape → Section → ℕ → Type 0
FailsNowhere shape section place = (reason : Reason) → Fails shape section place reason → ⊥

-- a record, each part of which gives a value, or is the first that does not
record_unless : (key : Option (List (List ℕ))) (fields : List Field) (section : Section) (place : ℕ) (max : Option ℕ) → AllZip (λ (field : Field) width. IsWidth max field.kind width) fields section.widths
    → length section.areas ≡ length fields → place < places_of max → FailsNowhere (Shape.Object key fields) section place → SpellsSome (Shape.Object key fields) section place
record_unless key fields section place None wide filled below none = absurd (omega (arith, below))
record_unless key fields section place (Some max) wide filled below none =
    elim (record_or_fails max fields section.widths section.first section.areas (sum section.widths) place 0 wide filled) [
      | inl given ↦ (Row.Object given.0, given.1)
      | inr bad ↦ absurd (none bad.0 bad.1)
    ]

-- a number that cannot but be at most another is so
at_most_surely : (m n : ℕ) → ((m ≤ n → ⊥) → ⊥) → m ≤ n
at_most_surely m n surely = elim (cases_lt n m) [ inl above ↦ absurd (surely (λ most. omega (arith, above, most))) | inr most ↦ most ]

-- a list, whose pointers bound elements, each of them an ordinal
list_unless : (element : Name) (section : Section) (place : ℕ) → FailsNowhere (Shape.List element) section place → SpellsSome (Shape.List element) section place
list_unless element section place none =
    let elements = elements_at section.widths section.first section.second place in
    let has : HasElements section.widths section.total section.first section.second place = record {
      rises = at_most_surely (start_at section.widths section.first place) (end_at section.widths section.first place) (λ other. none Reason.BadPointers (λ has. other has.rises));
      within = at_most_surely (end_at section.widths section.first place) section.total (λ other. none Reason.BadPointers (λ has. other has.within));
      held = at_most_surely (end_at section.widths section.first place * element_width section.widths) (64 * length section.second)
          (λ other. none Reason.BadPointers (λ has. other has.held));
    } in (
      Row.List elements,
      record {
        has = has;
        are = refl;
        small = λ k d inside. elim (cases_lt (2 ^ 32 - 1) (get_or elements k d)) [
          | inl past ↦ absurd (none Reason.BadValue (has, (k, get_or elements k d, inside, get_or_default elements k (get_or elements k d) d inside, past)))
          | inr small ↦ small
        ];
      },
    )

-- a place that fails for no reason spells a row
row_unless : (shape : Shape) (section : Section) (place : ℕ) → HasFields shape section → place < places_of section.max → FailsNowhere shape section place → SpellsSome shape section place
row_unless (Shape.Object key fields) section place has below none = record_unless key fields section place section.max has.0 has.1 below none
row_unless (Shape.List element) section place has below none = list_unless element section place none
row_unless (Shape.Set element) section place has below none = elim (pairs_or_fail section place) [
  | inl spells ↦ (Row.Set (keys_of (pairs_at section place)), (pairs_at section place, refl, spells))
  | inr bad ↦ absurd (none bad.0 bad.1)
]
row_unless (Shape.Map key value) section place has below none = elim (pairs_or_fail section place) [
  | inl spells ↦ (Row.Map (pairs_at section place), (pairs_at section place, refl, spells))
  | inr bad ↦ absurd (none bad.0 bad.1)
]

-- ---- widths

-- a front with one row more is held where the row is
held_more : (shape : Shape) (widths : List ℕ) (before rows : List Row) (index : ℕ) (row : Row) → slice_get rows index ≡ Some row → HoldsRows shape widths before (take index rows)
    → HoldsRow shape widths (before ++ take (suc index) rows) row → HoldsRows shape widths before (take (suc index) rows)
held_more shape widths before [] index row at held here = absurd (none-some row at)
held_more shape widths before (first ∷ rest) zero row at held here =
    let same : first ≡ row = cc in (subst (λ last. HoldsRow shape widths (before ++ first ∷ []) last) (sym same) here, tt)
held_more shape widths before (first ∷ rest) (suc index) row at held here = (
  held.0,
  held_more shape widths (before ++ first ∷ []) rest index row at held.1
      (subst (λ rows. HoldsRow shape widths rows row) (sym (append_assoc before (first ∷ []) (take (suc index) rest))) here),
)

-- behind the last row a front has no row more
past_front : {A : Type 0} (xs : List A) (index : ℕ) → slice_get xs index ≡ None → take (suc index) xs ≡ take index xs
past_front [] zero past = refl
past_front [] (suc index) past = refl
past_front (x ∷ xs) zero past = absurd (none-some x (sym past))
past_front (x ∷ xs) (suc index) past = ap (λ rest. x ∷ rest) (past_front xs index past)

-- the key beside a value
key_beside : {K V : Type 0} (found : List (K × V)) (index : ℕ) (value : V) → slice_get (values_of found) index ≡ Some value → (key : K) × (slice_get (keys_of found) index ≡ Some key)
key_beside [] index value at = absurd (none-some value at)
key_beside (entry ∷ rest) zero value at = (entry.0, refl)
key_beside (entry ∷ rest) (suc index) value at = key_beside rest index value at

-- where no row is the first that is not held, they are all held: that they are not cannot be
module _ (shape : Shape) (widths : List ℕ) (found : List (ℕ × Row)) (none : (ordinal : ℕ) → FirstUnheld shape widths (keys_of found) (values_of found) ordinal → ⊥) where
  -- each front of them is held
  front_held : (many : ℕ) → (HoldsRows shape widths [] (take many (values_of found)) → ⊥) → ⊥
  front_held zero unheld = unheld tt
  front_held (suc many) unheld = front_held many (λ held.
      elim (slice_get (values_of found) many) as (λ (o : Option Row). slice_get (values_of found) many ≡ o → ⊥) [
        | None ↦ λ past. unheld (subst (λ rows. HoldsRows shape widths [] rows) (sym (past_front (values_of found) many past)) held)
        | Some row ↦ λ at.
            let beside = key_beside found many row at in
            none beside.0 record {
              index = many;
              row = row;
              of = beside.1;
              stands = at;
              held = held;
              unheld = λ here. unheld (held_more shape widths [] (values_of found) many row at held here);
            }
      ] refl)

  -- and so are all of them
  all_held : (HoldsRows shape widths [] (values_of found) → ⊥) → ⊥
  all_held unheld = front_held (length (values_of found)) (λ held. unheld (subst (λ rows. HoldsRows shape widths [] rows) (take_all (length (values_of found)) (values_of found) (omega arith)) held))

-- ---- a section

module _ (shape : Shape) (section : Section) (none : (why : RowFault) → why ≢ RowFault.Memory → FailsLoad shape section why → ⊥) where
  -- no live ordinal is without a place
  all_placed : HoldsNowhere (HasNoPlace section.live (places_of section.max))
  all_placed = no_number (HasNoPlace section.live (places_of section.max)) (λ ordinal outside least.
      none (RowFault.At Reason.BadOrdinals ordinal) (λ same. absurd cc) record {
        holds = outside;
        others = λ number other. elim (cases_lt number ordinal) [ inl less ↦ absurd (least number less other) | inr above ↦ above ];
      })

  -- the place of each live ordinal spells a row
  all_spelled : HasFields shape section → (index : ℕ) → SpellBefore shape section section.live index
  all_spelled fields zero = spelled_none shape section section.live
  all_spelled fields (suc index) =
      let before = all_spelled fields index in
      elim (slice_get section.live index) as (λ (o : Option ℕ). slice_get section.live index ≡ o → SpellBefore shape section section.live (suc index)) [
        | None ↦ λ past earlier other below at. elim (cases_lt earlier index) [
          | inl low ↦ before earlier other low at
          | inr high ↦ absurd (let same : earlier ≡ index = omega (arith, below, high) in none-some other (sym past ∙ ap (λ k. slice_get section.live k) (sym same) ∙ at))
        ]
        | Some place ↦ λ at.
            let some = row_unless shape section place fields (listed_below section section.live index place refl all_placed at)
            (λ reason fails. none (RowFault.At reason place) (λ same. absurd cc) (failed_here shape section section.live index place reason refl all_placed before at fails)) in
            subst (SpellBefore shape section section.live) (omega arith) (spelled_more shape section section.live index place before at some)
      ] refl

  -- rows are found, fit their widths and keep the limits: that no rows load cannot be
  all_loaded : HasFields shape section → IsStrictlyIncreasing section.live → ((rows : RowMap) → Loads shape section rows → ⊥) → ⊥
  all_loaded fields rise no_rows =
      let found : IsOfRows shape section = rows_tested shape section section.live (length section.live) refl rise all_placed (all_spelled fields (length section.live)) (omega arith) in
      let rows = found.0 in
      all_held shape section.widths (entries rows) (λ ordinal first. none (RowFault.At Reason.BadWidth ordinal) (λ same. absurd cc) (rows, found.1, first)) (λ parts.
      let held : LeadsHeld shape (layout_of section) (load_tests shape section) rows = record { leads = found.1; held = parts } in
      elim (cases_lt (number_of_limit Words) (counted_words shape (record_bits shape section.widths) (layout_of section) (values rows))) [
        | inl many ↦ none (RowFault.Limit Words) (λ same. absurd cc) (rows, held, many)
        | inr few ↦ elim (cases_lt (number_of_limit Bytes) (bytes_held (values rows))) [
          | inl heavy ↦ none (RowFault.Limit Bytes) (λ same. absurd cc) (rows, held, (λ many. omega (arith, many, few)), heavy)
          | inr light ↦ no_rows rows record {
            is = found.1;
            held = record { parts = parts; places = subst (All (λ o. o < places_of section.max)) (sym found.1.live) found.1.places };
            within = record { words = few; bytes = light };
          }
        ]
      ])

-- a section that has the widths and areas of its fields, and whose live ordinals rise, loads rows, or has a first fault
pub settles_loads : (at : ℕ) (schema : Schema) (section : Section) → HasFields schema.shape section → IsStrictlyIncreasing section.live → Settles (loads at schema section)
unfolding loads
settles_loads at schema section fields rise no_pass no_fail =
    all_loaded schema.shape section (λ why told fails. no_fail (row_blame at schema.name why) (why, told, fails, refl)) fields rise no_pass
