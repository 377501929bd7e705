-- The current states take all rows of the previous ones.
use Rattle.std.proofs.Common.{◌≡◌, ℕ, zero, suc, ◌<◌, List, [], ◌∷◌, ◌++◌, length, get_or, map, take, drop, slice_set, refl, sym, ap, subst, ◌∙◌, inl, inr, arith, ◌⊎◌}
use Rattle.std.specs.Prelude.{ℤ, Bool, Option, Some, IsSome, OnErr, OnOk, Result, Ok, Err}
use Rattle.std.specs.FinMap.{empty, get}
use Rattle.row_model.specs.declared.row.Row.{Row}
use Rattle.schema_model.specs.declared.limit.Limit.{Limit}
use Rattle.schema_model.specs.declared.schema.Schema.{Schema}
use Rattle.row_model.specs.Table.{RowMap, Table}
use Rattle.ordinal_map.specs.Assign.{Agree, Holds, IsTaken}
use Rattle.ordinal_map.specs.States.{States}
use Rattle.write_engine.specs.Agreement.{TablesAgree}
use Rattle.write_engine.specs.Cycle.{no_rows, rows_in}
use Rattle.write_engine.specs.Production.{IsProducing, Production, current_of, filled, previous_of, undone}
use Rattle.write_engine.specs.Soundness.{IsClosedTableOf}
use Rattle.write_engine.specs.StoredRows.{AreStored}
use Rattle.write_engine.proofs.Producing.{made}

pub filled_previous : (maps : List States) → previous_of (map filled maps) ≡ previous_of maps
filled_previous [] = refl
filled_previous (s ∷ maps) = ap (λ (rest : Table). s.previous ∷ rest) (filled_previous maps)

pub filled_current : (maps : List States) → current_of (map filled maps) ≡ previous_of maps
filled_current [] = refl
filled_current (s ∷ maps) = ap (λ (rest : Table). s.previous ∷ rest) (filled_current maps)

-- the first rows of two tables of states
head_current : (s : States) (maps : List States) (count : ℕ) → current_of (s ∷ maps) ≡ no_rows (suc count) → s.current ≡ empty
head_current s maps count e = ap (λ (table : Table). rows_in table 0) e

tail_current : (s : States) (maps : List States) (count : ℕ) → current_of (s ∷ maps) ≡ no_rows (suc count) → current_of maps ≡ no_rows count
tail_current s maps count e = ap (λ (table : Table). drop 1 table) e

pub none_at : (maps : List States) (k : ℕ) (s : States) → current_of maps ≡ no_rows (length maps) → k < length maps → s ≡ get_or maps k s → s.current ≡ empty
none_at [] k s none inside is = absurd (omega arith)
none_at (x ∷ maps) zero s none inside is = ap (λ (states : States). states.current) is ∙ head_current x maps (length maps) none
none_at (x ∷ maps) (suc k) s none inside is = none_at maps k s (tail_current x maps (length maps) none) (omega arith) is

undone_filled : (s : States) → s.current ≡ empty → undone (filled s) ≡ s
undone_filled s none = λ i. record { previous = s.previous; current = sym none i }

undone_same : (s : States) → s.current ≡ empty → undone s ≡ s
undone_same s none = λ i. record { previous = s.previous; current = sym none i }

all_undone : (maps : List States) → current_of maps ≡ no_rows (length maps) → map undone maps ≡ maps
all_undone [] none = refl
all_undone (s ∷ maps) none = λ i. undone_same s (head_current s maps (length maps) none) i ∷ all_undone maps (tail_current s maps (length maps) none) i

-- the current states that were filled are dropped again, and those that were not have no rows
pub some_undone : (maps : List States) (k : ℕ) → current_of maps ≡ no_rows (length maps) → map undone (map filled (take k maps) ++ drop k maps) ≡ maps
some_undone [] zero none = refl
some_undone [] (suc k) none = refl
some_undone (s ∷ maps) zero none = all_undone (s ∷ maps) none
some_undone (s ∷ maps) (suc k) none =
    λ i. undone_filled s (head_current s maps (length maps) none) i ∷ some_undone maps k (tail_current s maps (length maps) none) i

-- an item that is set to itself
pub set_itself : (maps : List States) (k : ℕ) (s : States) → s ≡ get_or maps k s → slice_set maps k s ≡ maps
set_itself [] k s is = refl
set_itself (x ∷ maps) zero s is = ap (λ (y : States). y ∷ maps) is
set_itself (x ∷ maps) (suc k) s is = ap (λ (rest : List States). x ∷ rest) (set_itself maps k s is)

-- the states up to a place are filled, and those behind it are as they were
abbrev pub filled_to : ℕ → List States → List States
filled_to k maps = map filled (take k maps) ++ drop k maps

pub read_behind : (maps : List States) (k : ℕ) (s : States) → k < length maps → get_or (filled_to k maps) k s ≡ get_or maps k s
read_behind [] k s inside = absurd (omega arith)
read_behind (x ∷ maps) zero s inside = refl
read_behind (x ∷ maps) (suc k) s inside = read_behind maps k s (omega arith)

length_filled : (maps : List States) (k : ℕ) → length (filled_to k maps) ≡ length maps
length_filled [] zero = refl
length_filled [] (suc k) = refl
length_filled (x ∷ maps) zero = refl
length_filled (x ∷ maps) (suc k) = ap suc (length_filled maps k)

written_back : (xs maps : List States) → length xs ≡ length maps → take (length maps) (xs ++ drop (length xs) maps) ≡ xs
written_back [] [] same = refl
written_back [] (y ∷ maps) same = absurd (omega arith)
written_back (x ∷ xs) [] same = absurd (omega arith)
written_back (x ∷ xs) (y ∷ maps) same = ap (λ (rest : List States). x ∷ rest) (written_back xs maps (omega arith))

-- memory was refused at a place
pub none_filled : (maps items : List States) (k len : ℕ) (s new : States) → current_of maps ≡ no_rows (length maps) → len ≡ length maps → items ≡ filled_to k maps → s ≡ get_or items k s → new ≡ get_or items k s
    → map undone (take len (slice_set items k new ++ drop (length (slice_set items k new)) maps)) ≡ maps
none_filled maps items k len s new none many is read same =
    let as_was : slice_set items k new ≡ filled_to k maps = ap (slice_set items k) (same ∙ sym read) ∙ set_itself items k s read ∙ is in
    ap (λ xs. map undone (take len (xs ++ drop (length xs) maps))) as_was
    ∙ ap (λ n. map undone (take n (filled_to k maps ++ drop (length (filled_to k maps)) maps))) many
    ∙ ap (map undone) (written_back (filled_to k maps) maps (length_filled maps k))
    ∙ some_undone maps k none

pub on_err : {A E P : Type 0} (result : Result A E) → P → OnErr result P
on_err (Ok a) p = tt
on_err (Err e) p = p

-- ---- a producer whose cycle begins with all rows

agree_itself : (previous current : RowMap) → Agree previous current → Agree previous previous
agree_itself previous current agree = record {
  one_ordinal = λ row a b here there. agree.one_ordinal row a b (before row a here) (before row b there);
  one_row = λ o a b here there. agree.one_row o a b (before a o here) (before b o there);
  low = λ o taken. agree.low o (live o taken);
}
  where
    before : (row : Row) (o : ℕ) → Holds previous previous row o → Holds previous current row o
    before row o (inl h) = inl h
    before row o (inr h) = inl h

    live : (o : ℕ) → IsTaken previous previous o → IsTaken previous current o
    live o (inl h) = inl h
    live o (inr h) = inl h

pub filled_producing : (schemas : List Schema) (maps : List States) → IsProducing schemas maps → IsProducing schemas (map filled maps)
filled_producing schemas maps producing = record {
  previous = subst (IsClosedTableOf schemas) (sym (filled_previous maps)) producing.previous;
  current = subst (IsClosedTableOf schemas) (sym (filled_current maps)) producing.previous;
  agree = subst (λ (table : Table). TablesAgree table (current_of (map filled maps))) (sym (filled_previous maps))
      (subst (λ (table : Table). TablesAgree (previous_of maps) table) (sym (filled_current maps)) (λ t. agree_itself (rows_in (previous_of maps) t) (rows_in (current_of maps) t) (producing.agree t)));
  stored_previous = subst AreStored (sym (filled_previous maps)) producing.stored_previous;
  stored_current = subst AreStored (sym (filled_current maps)) producing.stored_previous;
}

-- what is seen of the producer then
abbrev pub begun : Production → Production
begun old = record old { current = old.previous }

pub filled_view : (schemas : List Schema) (maps after : List States) (tag : ℤ) (version : ℕ) (closed : Bool) (over : Option Limit) → after ≡ map filled maps
    → made schemas after tag version closed over ≡ begun (made schemas maps tag version closed over)
filled_view schemas maps after tag version closed over is =
    let before : previous_of after ≡ previous_of maps = ap previous_of is ∙ filled_previous maps in
    let now : current_of after ≡ previous_of maps = ap current_of is ∙ filled_current maps in
    λ i. record { schemas = schemas; previous = before i; current = now i; tag = tag; version = version; closed = closed; over = over }

-- both answers
pub kept_producing : {E : Type 0} (schemas : List Schema) (maps after : List States) (result : Result (Unit {0}) E) → IsProducing schemas maps → OnOk result (after ≡ map filled maps) → OnErr result (after ≡ maps) → IsProducing schemas after
kept_producing schemas maps after (Ok done) producing kept refused = subst (IsProducing schemas) (sym kept) (filled_producing schemas maps producing)
kept_producing schemas maps after (Err e) producing kept refused = subst (IsProducing schemas) (sym refused) producing

pub kept_view : {E : Type 0} (schemas : List Schema) (maps after : List States) (tag : ℤ) (version : ℕ) (closed : Bool) (over : Option Limit) (old : Production) (result : Result (Unit {0}) E) → made schemas maps tag version closed over ≡ old
    → OnOk result (after ≡ map filled maps) → OnOk result (made schemas after tag version closed over ≡ begun old)
kept_view schemas maps after tag version closed over old (Ok done) seen kept = filled_view schemas maps after tag version closed over kept ∙ ap begun seen
kept_view schemas maps after tag version closed over old (Err e) seen kept = tt
