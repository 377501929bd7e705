-- The trial of the patch of a type is settled: it moves the rows, or there is a first fault of its ordinals, places, widths and limits, in this order.
-- So is that of the parts of a patch, which move a state, or of which one is at fault.
use Rattle.std.proofs.Common.{◌≡◌, ◌<◌, ◌≤◌, ◌+◌, ℕ, zero, suc, List, [], ◌∷◌, ◌++◌, Option, None, Some, inl, inr, refl, sym, ap, subst, ◌∙◌, append_assoc, arith, take, length, get_or, slice_get}
use Rattle.std.specs.Prelude.{◌≢◌, All, Contains, IsSome}
use Rattle.std.specs.FinMap.{entries, get, keys, values}
use Rattle.std.specs.List.{range_with_len}
use Rattle.std.specs.List.Sorted.{IsStrictlyIncreasing}
use Rattle.std.specs.Map.{keys_of, values_of}
use Rattle.std.proofs.lemmas.Bool.{cases_lt, false≢true}
use Rattle.std.proofs.lemmas.List.{get_or_default, length-map, take_all}
use Rattle.std.proofs.lemmas.List.Elements.{All-contains_itself}
use Rattle.std.proofs.lemmas.List.FromFn.{get_or-range_with_len, length-range_with_len}
use Rattle.std.proofs.lemmas.Map.Keys.{sorted_from_strictly_increasing}
use Rattle.std.proofs.lemmas.Option.{none-some, slice_get-get_or, slice_get_within}
use Rattle.schema_model.specs.declared.limit.Limit.TheVariants.{Bytes, Words}
use Rattle.schema_model.specs.declared.reason.Reason.{Reason}
use Rattle.schema_model.specs.declared.schema.Schema.{Schema}
use Rattle.schema_model.specs.declared.schema.Shape.{Shape}
use Rattle.schema_model.specs.Limit.{number_of_limit}
use Rattle.row_model.specs.declared.row.Row.{Row}
use Rattle.row_model.specs.Before.{PastPart, rows_before}
use Rattle.row_model.specs.BothStates.{rows_in}
use Rattle.row_model.specs.Table.{RowMap, Table}
use Rattle.type_rows.specs.declared.fault.RowFault.{RowFault}
use Rattle.type_rows.specs.declared.patch.PatchSection.{PatchSection}
use Rattle.type_rows.specs.declared.section.Section.{Section}
use Rattle.type_rows.specs.Holds.{HoldsRow, HoldsRows}
use Rattle.type_rows.specs.Layout.{counted_words, places_of}
use Rattle.type_rows.specs.Loads.{SectionIs, Spells}
use Rattle.type_rows.specs.Patches.{AddsRows, IsMovedBy, IsReadablePatch, MovesRows, patch_layout, places_in}
use Rattle.type_rows.specs.WordsHeld.{bytes_held}
use Rattle.type_rows.proofs.Removal.{has_or}
use Rattle.type_rows.specs.First.{FirstFails, NoneFails}
use Rattle.type_rows.specs.LoadFault.{FailsLoad}
use Rattle.type_rows.specs.MoveFault.{AddedPass, FailsMove, LeadsTo, OrdinalsPass, RemovedPass, StayingPass, move_tests}
use Rattle.type_rows.specs.Ordinals.{FailsAdded, FailsRemoved, StaysOutside}
use Rattle.type_rows.specs.Fails.{Fails}
use Rattle.type_rows.specs.Places.{FirstPlaceFails}
use Rattle.type_rows.specs.Sums.{IsOfRows}
use Rattle.type_rows.specs.Tests.{LeadsHeld}
use Rattle.type_rows.specs.Widths.{FirstUnheld}
use Rattle.type_rows.proofs.FoundRows.{row_there}
use Rattle.type_rows.proofs.LoadFaults.{holds_at}
use Rattle.type_rows.proofs.MoveFaults.{key_of_live, live_key}
use Rattle.type_rows.proofs.OnceFirst.{some_once}
use Rattle.type_state.proofs.PassedOrdinals.{addable, fails_adds, removable}
use Rattle.blob_faults.specs.Blame.{row_blame}
use Rattle.blob_faults.specs.Judge.{◌>>=◌, each_of, item_at, nothing}
use Rattle.blob_faults.specs.Rows.{closed, loads, moves}
use Rattle.blob_faults.specs.Settles.{Settles}
use Rattle.blob_faults.proofs.LeastNumber.{no_number}
use Rattle.blob_faults.proofs.Settled.{settles_each, settles_nothing, settles_then}
use Rattle.blob_faults.proofs.SettledClosed.{settles_closed}
use Rattle.blob_faults.proofs.SettledRows.{HasFields, settles_loads}
use Rattle.delta_blob.specs.declared.patch.PatchPart.{PatchPart}
use Rattle.delta_blob.specs.Reads.{IsWholePart}
use Rattle.state_moves.specs.Judged.{moved_table, offset_among, offsets_among, part_moves, state_moved}
use Rattle.state_moves.proofs.PastRows.{any_none, before_kept, before_left, before_new, found, missed, any_at}

-- ---- numbers

-- where no number is the first that fails, none fails
all_pass : (Test : ℕ → ℕ → Type 0) (numbers : List ℕ) → ((number : ℕ) → FirstFails Test numbers number → ⊥) → NoneFails Test numbers
all_pass Test numbers no_first index number at fails =
    no_number (λ i. (n : ℕ) × (slice_get numbers i ≡ Some n) × Test i n)
    (λ i p least. no_first p.0 record { index = i; stands = p.1; fails = p.2; passed = λ earlier other below there bad. least earlier below (other, there, bad) })
    index (number, at, fails)

-- numbers that rise are no less than their indexes
at_least : (numbers : List ℕ) → IsStrictlyIncreasing numbers → (k : ℕ) → k < length numbers → k ≤ get_or numbers k 0
at_least numbers rise zero inside = omega arith
at_least numbers rise (suc k) inside =
    let low = at_least numbers rise k (omega (arith, inside)) in
    let next : k + 1 ≡ suc k = omega arith in
    let up = rise k (omega (arith, inside)) in
    subst (λ (n : ℕ). suc k ≤ get_or numbers n 0) next (omega (arith, low, up))

-- the numbers up to one, in their order
in_order : (n k : ℕ) → k < n → slice_get (range_with_len 0 n) k ≡ Some k
in_order n k inside =
    let is : get_or (range_with_len 0 n) k 0 ≡ k = omega (arith, get_or-range_with_len 0 n k 0 inside) in
    slice_get-get_or (range_with_len 0 n) k 0 (omega (arith, inside, length-range_with_len 0 n)) ∙ ap Some is

range_rises : (n : ℕ) → IsStrictlyIncreasing (range_with_len 0 n)
range_rises n k inside =
    let long = length-range_with_len 0 n in
    omega (arith, get_or-range_with_len 0 n k 0 (omega (arith, inside, long)), get_or-range_with_len 0 n (k + 1) 0 (omega (arith, inside, long)))

-- ---- places

-- The places of a patch as a section, each of them live.
abbrev tried : PatchSection → Section
tried patch = record {
  max = patch.max;
  widths = patch.widths;
  total = patch.total;
  first = patch.first;
  second = patch.second;
  areas = patch.areas;
  live = range_with_len 0 (length patch.added);
}

-- the live ordinals tell nothing of what a place spells
fails_same : (shape : Shape) (patch : PatchSection) (place : ℕ) (reason : Reason) → Fails shape (tried patch) place reason → Fails shape (places_in patch) place reason
fails_same (Shape.Object key fields) patch place reason fails = fails
fails_same (Shape.List element) patch place reason fails = fails
fails_same (Shape.Set element) patch place reason fails = fails
fails_same (Shape.Map key value) patch place reason fails = fails

spells_same : (shape : Shape) (patch : PatchSection) (place : ℕ) (row : Row) → Spells shape (tried patch) place row → Spells shape (places_in patch) place row
spells_same (Shape.Object key fields) patch place row spells = spells
spells_same (Shape.List element) patch place row spells = spells
spells_same (Shape.Set element) patch place row spells = spells
spells_same (Shape.Map key value) patch place row spells = spells

fields_same : (shape : Shape) (patch : PatchSection) → HasFields shape (places_in patch) → HasFields shape (tried patch)
fields_same (Shape.Object key fields) patch has = has
fields_same (Shape.List element) patch has = has
fields_same (Shape.Set element) patch has = has
fields_same (Shape.Map key value) patch has = has

-- ---- widths

held_more : (shape : Shape) (widths : List ℕ) (before rows : List Row) (index : ℕ) (row : Row) → slice_get rows index ≡ Some row → HoldsRows shape widths before (take index rows)
    → HoldsRow shape widths (before ++ take (suc index) rows) row → HoldsRows shape widths before (take (suc index) rows)
held_more shape widths before [] index row at held here = absurd (none-some row at)
held_more shape widths before (first ∷ rest) zero row at held here =
    let same : first ≡ row = cc in (subst (λ last. HoldsRow shape widths (before ++ first ∷ []) last) (sym same) here, tt)
held_more shape widths before (first ∷ rest) (suc index) row at held here = (
  held.0,
  held_more shape widths (before ++ first ∷ []) rest index row at held.1
      (subst (λ rows. HoldsRow shape widths rows row) (sym (append_assoc before (first ∷ []) (take (suc index) rest))) here),
)

past_front : {A : Type 0} (xs : List A) (index : ℕ) → slice_get xs index ≡ None → take (suc index) xs ≡ take index xs
past_front [] zero past = refl
past_front [] (suc index) past = refl
past_front (x ∷ xs) zero past = absurd (none-some x (sym past))
past_front (x ∷ xs) (suc index) past = ap (λ rest. x ∷ rest) (past_front xs index past)

key_beside : {K V : Type 0} (entries : List (K × V)) (index : ℕ) (value : V) → slice_get (values_of entries) index ≡ Some value → (key : K) × (slice_get (keys_of entries) index ≡ Some key)
key_beside [] index value at = absurd (none-some value at)
key_beside (entry ∷ rest) zero value at = (entry.0, refl)
key_beside (entry ∷ rest) (suc index) value at = key_beside rest index value at

-- where no row is the first that is not held, that they are not all held cannot be
module _ (shape : Shape) (widths : List ℕ) (es : List (ℕ × Row)) (none : (ordinal : ℕ) → FirstUnheld shape widths (keys_of es) (values_of es) ordinal → ⊥) where
  front_held : (many : ℕ) → (HoldsRows shape widths [] (take many (values_of es)) → ⊥) → ⊥
  front_held zero unheld = unheld tt
  front_held (suc many) unheld = front_held many (λ held.
      elim (slice_get (values_of es) many) as (λ (o : Option Row). slice_get (values_of es) many ≡ o → ⊥) [
        | None ↦ λ past. unheld (subst (λ rows. HoldsRows shape widths [] rows) (sym (past_front (values_of es) many past)) held)
        | Some row ↦ λ at.
            let beside = key_beside es many row at in
            none beside.0 record {
              index = many;
              row = row;
              of = beside.1;
              stands = at;
              held = held;
              unheld = λ here. unheld (held_more shape widths [] (values_of es) many row at held here);
            }
      ] refl)

  all_held : (HoldsRows shape widths [] (values_of es) → ⊥) → ⊥
  all_held unheld = front_held (length (values_of es)) (λ held. unheld (subst (λ rows. HoldsRows shape widths [] rows) (take_all (length (values_of es)) (values_of es) (omega arith)) held))

-- ---- a patch

module _ (at : ℕ) (schema : Schema) (patch : PatchSection) (old : RowMap) (none : (why : RowFault) → why ≢ RowFault.Memory → FailsMove schema.shape patch old why → ⊥) where
  -- no ordinal is bad
  removed_all : RemovedPass patch old
  removed_all = all_pass (FailsRemoved (keys old) patch.removed) patch.removed (λ number first. none (RowFault.At Reason.BadOrdinals number) (λ same. absurd cc) (inl first))

  added_all : AddedPass patch old
  added_all = all_pass (FailsAdded (keys old) (places_of patch.max) patch.added) patch.added (λ number first. none (RowFault.At Reason.BadOrdinals number) (λ same. absurd cc) (inr (inl (removed_all, first))))

  staying_all : StayingPass patch old
  staying_all = no_number (StaysOutside (keys old) patch.removed (places_of patch.max)) (λ ordinal outside least.
      none (RowFault.At Reason.BadOrdinals ordinal) (λ same. absurd cc) (inr (inr (
        removed_all,
        added_all,
        record {
          holds = outside;
          others = λ number other. elim (cases_lt number ordinal) [ inl less ↦ absurd (least number less other) | inr above ↦ above ];
        },
      ))))

  ordered : OrdinalsPass patch old
  ordered = record { removed = removed_all; added = added_all; staying = staying_all }

  -- each added ordinal is no less than its place, so that the place is one of the type
  place_below : (k : ℕ) → k < length patch.added → k < places_of patch.max
  place_below k inside =
      let can = addable patch old added_all in
      let low = at_least patch.added can.rise k inside in
      let high = can.placed k 0 inside in
      omega (arith, low, high)

  -- no place is the first that spells no row
  none_first : (reason : Reason) (ordinal : ℕ) → FirstPlaceFails schema.shape (tried patch) (range_with_len 0 (length patch.added)) (range_with_len 0 (length patch.added)) reason ordinal → ⊥
  none_first reason ordinal first =
      let range = range_with_len 0 (length patch.added) in
      let within = slice_get_within range first.index first.place first.stands in
      let inside : first.index < length patch.added = omega (arith, within, length-range_with_len 0 (length patch.added)) in
      let named = get_or patch.added first.index 0 in
      none (RowFault.At reason named) (λ same. absurd cc) (fails_adds schema.shape patch old (RowFault.At reason named) ordered record {
        index = first.index;
        place = first.place;
        stands = first.stands;
        of = slice_get-get_or patch.added first.index 0 inside;
        fails = fails_same schema.shape patch first.place reason first.fails;
        before = λ earlier other below there. (let some = first.before earlier other below there in (some.0, spells_same schema.shape patch other some.0 some.1));
      })

  -- a fault of the places as those of a section is none
  by_why : (IsOfRows schema.shape (tried patch) → ⊥) → (why : RowFault) → why ≢ RowFault.Memory → FailsLoad schema.shape (tried patch) why → ⊥
  by_why no_rows RowFault.Memory told fails = told refl
  by_why no_rows (RowFault.Limit Words) told fails = no_rows (fails.0, fails.1.leads)
  by_why no_rows (RowFault.Limit Bytes) told fails = no_rows (fails.0, fails.1.leads)
  by_why no_rows (RowFault.Limit limit) told fails = fails
  by_why no_rows (RowFault.At Reason.BadOrdinals ordinal) told fails =
      let (k, within, is) = fails.holds.0 in
      let inside : k < length patch.added = omega (arith, within, length-range_with_len 0 (length patch.added)) in
      omega (arith, is, get_or-range_with_len 0 (length patch.added) k ordinal inside, place_below k inside, fails.holds.1)
  by_why no_rows (RowFault.At Reason.BadWidth ordinal) told fails = no_rows (fails.0, fails.1)
  by_why no_rows (RowFault.At reason ordinal) told fails = none_first reason ordinal fails.1

  rows_given : HasFields schema.shape (places_in patch) → (IsOfRows schema.shape (tried patch) → ⊥) → ⊥
  unfolding loads
  rows_given fields no_rows =
      settles_loads at schema (tried patch) (fields_same schema.shape patch fields) (range_rises (length patch.added)) (λ rows load. no_rows (rows, load.is)) (λ fault fails. by_why no_rows fails.0 fails.1 fails.2)

  -- the rows of the places, one for each added ordinal
  long_rows : (rows : RowMap) → SectionIs schema.shape (tried patch) rows → length (values rows) ≡ length patch.added
  long_rows rows is =
      length-map (entries rows) (λ (e : ℕ × Row). e.1) ∙ sym (length-map (entries rows) (λ (e : ℕ × Row). e.0)) ∙ ap (λ (os : List ℕ). length os) is.live ∙ length-range_with_len 0 (length patch.added)

  adds_of : (rows : RowMap) → SectionIs schema.shape (tried patch) rows → AddsRows schema.shape patch (values rows)
  adds_of rows is = record {
    each = long_rows rows is;
    spelled = λ place row there.
        let within = slice_get_within (values rows) place row there in
        let inside : place < length patch.added = omega (arith, within, long_rows rows is) in
        let spelled = row_there schema.shape (tried patch) rows place place is (in_order (length patch.added) place inside) in
        subst (λ (r : Row). Spells schema.shape (places_in patch) place r) (some_once spelled.0 row (sym spelled.1 ∙ there)) (spells_same schema.shape patch place spelled.0 spelled.2);
  }

  -- the rows that the patch moves the old ones to
  module _ (rows : List Row) (adds : AddsRows schema.shape patch rows) where
    abbrev change : PastPart
    change = record { came = patch.removed; gone = patch.added; rows = rows }

    abbrev next : RowMap
    next = rows_before old change

    not_added : (o k : ℕ) → Contains patch.removed o → k < length patch.added → get_or patch.added k 0 ≡ o → ⊥
    not_added o k goes inside is =
        let none = subst (λ (n : ℕ). get old n ≡ None) is ((addable patch old added_all).free k 0 inside) in
        let live = subst (λ (n : ℕ). IsSome (get old n)) goes.2 ((removable patch old removed_all).live goes.0 o goes.1) in
        false≢true (subst IsSome none live)

    moves_rows : MovesRows old next patch.removed patch.added rows
    moves_rows = record {
      gone = λ o goes. before_new old change o (missed patch.added rows o (λ k inside is. not_added o k goes inside is)) (any_at patch.removed o goes.0 goes.1 (get_or_default patch.removed goes.0 0 o goes.1 ∙ goes.2));
      came = λ place o there.
          let inside = slice_get_within patch.added place o there in
          let is : get_or patch.added place 0 ≡ o = some_once (get_or patch.added place 0) o (sym (slice_get-get_or patch.added place 0 inside) ∙ there) in
          let row = get_or rows place (Row.List []) in
          let stands = slice_get-get_or rows place (Row.List []) (omega (arith, inside, adds.each)) in
          before_left old change o row (found patch.added rows o place row (sorted_from_strictly_increasing patch.added (addable patch old added_all).rise) inside is stands) ∙ sym stands;
      kept = λ o stays other.
          before_kept old change o (missed patch.added rows o (λ k inside is. other (k, inside, get_or_default patch.added k o 0 inside ∙ is)))
          (any_none patch.removed o (λ k inside is. stays (k, inside, get_or_default patch.removed k o 0 inside ∙ is)));
    }

    leads : LeadsTo schema.shape patch old next
    leads = record { ordinals = ordered; rows = rows; adds = adds; moves = moves_rows }

    -- each of them has a place
    placed : (o : ℕ) → IsSome (get next o) → o < places_of patch.max
    placed o live = elim (cases_lt o (places_of patch.max)) [
      | inl low ↦ low
      | inr high ↦ absurd (elim (has_or patch.added o) [
        | inl comes ↦ omega (arith, high, subst (λ (n : ℕ). n < places_of patch.max) comes.2 ((addable patch old added_all).placed comes.0 o comes.1))
        | inr other ↦ elim (has_or patch.removed o) [
          | inl goes ↦ false≢true (subst IsSome (moves_rows.gone o goes) live)
          | inr stays ↦ staying_all o (key_of_live old o (subst IsSome (moves_rows.kept o stays other) live), stays, high)
        ]
      ])
    ]

    moved_unless : (IsMovedBy schema.shape patch old next → ⊥) → ⊥
    moved_unless no_move =
        let can = addable patch old added_all in
        let goes = removable patch old removed_all in
        all_held schema.shape patch.widths (entries next) (λ ordinal first. none (RowFault.At Reason.BadWidth ordinal) (λ same. absurd cc) (next, leads, first)) (λ parts.
        let held : LeadsHeld schema.shape (patch_layout patch) (move_tests schema.shape patch old) next = record { leads = leads; held = parts } in
        elim (cases_lt (number_of_limit Words) (counted_words schema.shape patch.own (patch_layout patch) (values next))) [
          | inl many ↦ none (RowFault.Limit Words) (λ same. absurd cc) (next, held, many)
          | inr few ↦ elim (cases_lt (number_of_limit Bytes) (bytes_held (values next))) [
            | inl heavy ↦ none (RowFault.Limit Bytes) (λ same. absurd cc) (next, held, (λ many. omega (arith, many, few)), heavy)
            | inr light ↦ no_move record {
              added = rows;
              adds = adds;
              ordinals = record { removed_rise = goes.rise; removed_live = goes.live; added_rise = can.rise; added_placed = can.placed; added_free = can.free };
              moves = moves_rows;
              held = record { parts = parts; places = λ k d inside. placed (get_or (keys next) k d) (live_key next (get_or (keys next) k d) (All-contains_itself (keys next) k d inside)) };
              within = record { words = few; bytes = light };
            }
          ]
        ])

-- a patch that has the widths and areas of its fields moves the rows, or has a first fault
pub settles_moves : (at : ℕ) (schema : Schema) (patch : PatchSection) (old : RowMap) → HasFields schema.shape (places_in patch) → Settles (moves at schema patch old)
unfolding moves
settles_moves at schema patch old fields no_pass no_fail =
    let none = λ (why : RowFault) (told : why ≢ RowFault.Memory) (fails : FailsMove schema.shape patch old why). no_fail (row_blame at schema.name why) (why, told, fails, refl) in
    rows_given at schema patch old none fields (λ given.
    moved_unless at schema patch old none (values given.0) (adds_of at schema patch old none given.0 given.1) (no_pass (rows_before old record { came = patch.removed; gone = patch.added; rows = values given.0 })))

-- ---- the parts of a patch

has_fields : (shape : Shape) (patch : PatchSection) → IsReadablePatch shape patch → HasFields shape (places_in patch)
has_fields (Shape.Object key fields) patch read = (read.well.wide, read.well.filled)
has_fields (Shape.List element) patch read = tt
has_fields (Shape.Set element) patch read = tt
has_fields (Shape.Map key value) patch read = tt

settles_part : (schemas : List Schema) (table : Table) (part : PatchPart) → IsWholePart schemas part → Settles (part_moves schemas table part)
unfolding part_moves item_at
settles_part schemas table part (schema, there, read) =
    settles_then (item_at schemas part.type_index) (λ (found : Schema). moves part.at found part.section (rows_in table part.type_index)) (λ no_pass no_fail. no_pass schema there) (λ found is.
    settles_moves part.at found part.section (rows_in table part.type_index)
    (has_fields found.shape part.section (subst (λ (s : Schema). IsReadablePatch s.shape part.section) (some_once schema found (sym there ∙ is)) read)))

-- that parts which can be read neither move a table to a closed one nor have a fault cannot be
pub settles_state : (schemas : List Schema) (parts : List PatchPart) (size : ℕ) (table : Table) → All (IsWholePart schemas) parts → Settles (state_moved schemas parts size table)
unfolding state_moved
settles_state schemas parts size table whole =
    let offsets = offsets_among schemas parts size in
    let long = length-map (range_with_len 0 (length schemas)) (offset_among parts size) ∙ length-range_with_len 0 (length schemas) in
    settles_then (each_of (part_moves schemas table) parts) (λ rows. closed offsets schemas (moved_table table parts rows) >>= λ done. nothing (moved_table table parts rows))
    (settles_each (part_moves schemas table) parts (λ index part there. settles_part schemas table part (holds_at (IsWholePart schemas) parts index part whole there))) (λ rows passes.
    settles_then (closed offsets schemas (moved_table table parts rows)) (λ done. nothing (moved_table table parts rows)) (settles_closed offsets schemas (moved_table table parts rows) long) (λ done closes.
    settles_nothing (moved_table table parts rows)))
