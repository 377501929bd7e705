-- A put among the rows of all types.
use Rattle.std.proofs.Common.{◌≡◌, ℕ, zero, suc, ◌<◌, ◌^◌, List, [], ◌∷◌, length, get_or, map, refl, sym, ap, subst, ◌∙◌, arith, slice_set}
use Rattle.std.specs.Prelude.{Result, Ok, Err, IfOk, slice_index_or}
use Rattle.std.specs.FinMap.{insert}
use Rattle.row_model.specs.declared.row.Row.{Row}
use Rattle.row_model.specs.Table.{Table, RowMap}
use Rattle.ordinal_map.specs.Assign.{IsPut, TellsPut}
use Rattle.ordinal_map.proofs.Puts.{put_once}
use Rattle.ordinal_map.specs.States.{States}
use Rattle.ordinal_map.specs.declared.fault.PutRowFault.{PutRowFault}
use Rattle.ordinal_map.specs.declared.fault.PutRowFault.TheVariants.{TooMany, Memory}
use Rattle.write_engine.specs.Agreement.{TablesAgree}
use Rattle.write_engine.specs.Cycle.{PutsRow, rows_in}
use Rattle.write_engine.specs.RowPuts.{TellsRowPut}
use Rattle.write_engine.specs.Production.{previous_of, current_of}

-- the states of a type among all
pub rows_at : (read : States → RowMap) (maps : List States) (t : ℕ) (d : States) → t < length maps → rows_in (map read maps) t ≡ read (get_or maps t d)
rows_at read [] t d inside = absurd (omega arith)
rows_at read (s ∷ maps) zero d inside = refl
rows_at read (s ∷ maps) (suc t) d inside = rows_at read maps t d (omega arith)

pub map_set : (read : States → RowMap) (maps : List States) (t : ℕ) (s : States) → map read (slice_set maps t s) ≡ slice_set (map read maps) t (read s)
map_set read [] t s = refl
map_set read (x ∷ maps) zero s = refl
map_set read (x ∷ maps) (suc t) s = ap (λ (rest : Table). read x ∷ rest) (map_set read maps t s)

pub set_same : (read : States → RowMap) (maps : List States) (t : ℕ) (s d : States) → t < length maps → read s ≡ read (get_or maps t d) → slice_set (map read maps) t (read s) ≡ map read maps
set_same read [] t s d inside same = absurd (omega arith)
set_same read (x ∷ maps) zero s d inside same = ap (λ (rows : RowMap). rows ∷ map read maps) same
set_same read (x ∷ maps) (suc t) s d inside same = ap (λ (rest : Table). read x ∷ rest) (set_same read maps t s d (omega arith) same)

module _ (maps : List States) (t : ℕ) (row : Row) (after d : States) where
  abbrev there : States
  there = slice_index_or maps t d

  kept_previous : (result : Result ℕ PutRowFault) → TellsPut there row after result → after.previous ≡ there.previous
  kept_previous (Ok ordinal) tells = ap (λ s. s.previous) tells.2
  kept_previous (Err TooMany) tells = ap (λ s. s.previous) tells.1
  kept_previous (Err Memory) tells = ap (λ s. s.previous) tells

  pub same_previous : (result : Result ℕ PutRowFault) → t < length maps → TellsPut there row after result → previous_of (slice_set maps t after) ≡ previous_of maps
  same_previous result inside tells =
      map_set (λ s. s.previous) maps t after ∙ set_same (λ s. s.previous) maps t after d inside (kept_previous result tells)

  same_current : t < length maps → after ≡ there → current_of (slice_set maps t after) ≡ current_of maps
  same_current inside same = map_set (λ s. s.current) maps t after ∙ set_same (λ s. s.current) maps t after d inside (ap (λ s. s.current) same)

  pub puts_row : (result : Result ℕ PutRowFault) → t < length maps → TellsPut there row after result
      → IfOk result (λ ordinal. PutsRow (previous_of maps) t row (current_of maps) ordinal (current_of (slice_set maps t after)))
  puts_row (Err fault) inside tells = tt
  puts_row (Ok ordinal) inside tells =
      let of_previous = rows_at (λ s. s.previous) maps t d inside in
      let of_current = rows_at (λ s. s.current) maps t d inside in
      record {
        put = subst (λ rows. IsPut rows (rows_in (current_of maps) t) row ordinal) (sym of_previous) (subst (λ rows. IsPut there.previous rows row ordinal) (sym of_current) tells.0);
        low = tells.1;
        after_is = map_set (λ s. s.current) maps t after
            ∙ ap (λ rows. slice_set (map (λ s. s.current) maps) t rows) (ap (λ s. s.current) tells.2 ∙ ap (λ rows. insert rows ordinal row) (sym of_current));
      }

  -- the row's ordinal would be 2^22
  pub puts_refused : (result : Result ℕ PutRowFault) → t < length maps → TablesAgree (previous_of maps) (current_of maps) → TellsPut there row after result → result ≡ Err TooMany
      → (ordinal : ℕ) (last : Table) → ¬ PutsRow (previous_of maps) t row (current_of maps) ordinal last
  puts_refused (Ok o) inside agree tells is ordinal last puts = absurd cc
  puts_refused (Err TooMany) inside agree tells is ordinal last puts =
      let of_previous = rows_at (λ s. s.previous) maps t d inside in
      let of_current = rows_at (λ s. s.current) maps t d inside in
      let would = subst (λ rows. IsPut rows (rows_in (current_of maps) t) row (2 ^ 22)) (sym of_previous) (subst (λ rows. IsPut there.previous rows row (2 ^ 22)) (sym of_current) tells.0) in
      let same = put_once (rows_in (previous_of maps) t) (rows_in (current_of maps) t) row (2 ^ 22) ordinal (agree t) would puts.put in
      omega (arith, same, puts.low)
  puts_refused (Err Memory) inside agree tells is ordinal last puts = absurd cc

  -- what the answer of the type tells of the rows of all
  pub puts_told : (result : Result ℕ PutRowFault) → t < length maps → TellsPut there row after result → TellsRowPut (previous_of maps) t row (current_of maps) result (current_of (slice_set maps t after))
  puts_told (Ok ordinal) inside tells = puts_row (Ok ordinal) inside tells
  puts_told (Err TooMany) inside tells =
      let of_previous = rows_at (λ s. s.previous) maps t d inside in
      let of_current = rows_at (λ s. s.current) maps t d inside in (
        subst (λ rows. IsPut rows (rows_in (current_of maps) t) row (2 ^ 22)) (sym of_previous) (subst (λ rows. IsPut there.previous rows row (2 ^ 22)) (sym of_current) tells.0),
        same_current inside tells.1,
      )
  puts_told (Err Memory) inside tells = same_current inside tells
