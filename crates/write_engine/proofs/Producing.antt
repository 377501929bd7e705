-- What the calls of a producer keep.
use Rattle.std.proofs.Common.{◌≡◌, ℕ, zero, suc, List, [], ◌∷◌, length, map, inl, inr, refl, sym, ap, subst, ◌∙◌}
use Rattle.std.specs.Prelude.{replicate, is_some, ℤ, Bool, false, Option, None}
use Rattle.std.specs.Ordering.{nat_cmp}
use Rattle.std.specs.FinMap.{get, empty, get-empty}
use Rattle.schema_model.specs.declared.limit.Limit.{Limit}
use Rattle.schema_model.specs.declared.schema.Schema.{Schema}
use Rattle.row_model.specs.PlainTree.{PlainTree}
use Rattle.row_model.specs.Table.{Table, IsClosed, IsTableOf}
use Rattle.ordinal_map.specs.States.{States}
use Rattle.write_engine.specs.Agreement.{HoldsOnce, TablesAgree}
use Rattle.write_engine.specs.Cycle.{Adds, no_rows}
use Rattle.write_engine.specs.Production.{IsProducing, Production, advanced, advanced_to, current_of, no_states, previous_of, undone, without_rows}
use Rattle.write_engine.proofs.ClosedStates.{added_closed, none_closed}
use Rattle.write_engine.proofs.NextStates.{adds_agree, none_there, start_agree}
use Rattle.write_engine.proofs.StoredRows.{adds_stored, none_stored}
use Rattle.write_engine.specs.Restoring.{restored_of}
use Rattle.write_engine.specs.Soundness.{IsClosedTableOf}
use Rattle.write_engine.specs.StoredRows.{AreStored}

-- what each of two tables in agreement holds
once_before : (previous current : Table) → TablesAgree previous current → HoldsOnce previous
once_before previous current agree = record {
  once = λ t a b row here there. (agree t).one_ordinal row a b (inl here) (inl there);
  low = λ t ordinal live. (agree t).low ordinal (inl live);
}

once_now : (previous current : Table) → TablesAgree previous current → HoldsOnce current
once_now previous current agree = record {
  once = λ t a b row here there. (agree t).one_ordinal row a b (inr here) (inr there);
  low = λ t ordinal live. (agree t).low ordinal (inr live);
}

pub none_previous : (count : ℕ) → previous_of (replicate count no_states) ≡ no_rows count
none_previous zero = refl
none_previous (suc count) = ap (λ (rest : Table). empty ∷ rest) (none_previous count)

pub none_current : (count : ℕ) → current_of (replicate count no_states) ≡ no_rows count
none_current zero = refl
none_current (suc count) = ap (λ (rest : Table). empty ∷ rest) (none_current count)

pub undone_previous : (maps : List States) → previous_of (map undone maps) ≡ previous_of maps
undone_previous [] = refl
undone_previous (s ∷ maps) = ap (λ (rest : Table). s.previous ∷ rest) (undone_previous maps)

pub undone_current : (maps : List States) → current_of (map undone maps) ≡ no_rows (length maps)
undone_current [] = refl
undone_current (s ∷ maps) = ap (λ (rest : Table). empty ∷ rest) (undone_current maps)

pub advanced_previous : (maps : List States) → previous_of (map advanced maps) ≡ current_of maps
advanced_previous [] = refl
advanced_previous (s ∷ maps) = ap (λ (rest : Table). s.current ∷ rest) (advanced_previous maps)

pub advanced_current : (maps : List States) → current_of (map advanced maps) ≡ no_rows (length maps)
advanced_current [] = refl
advanced_current (s ∷ maps) = ap (λ (rest : Table). empty ∷ rest) (advanced_current maps)

-- what is seen of a producer
abbrev pub made : List Schema → List States → ℤ → ℕ → Bool → Option Limit → Production
made schemas maps tag version closed over = record { schemas = schemas; previous = previous_of maps; current = current_of maps; tag = tag; version = version; closed = closed; over = over }

pub length_tables : (maps : List States) → length (current_of maps) ≡ length maps
length_tables [] = refl
length_tables (s ∷ maps) = ap suc (length_tables maps)

pub count_types : (schemas : List Schema) (maps : List States) → IsProducing schemas maps → length maps ≡ length schemas
count_types schemas maps producing = sym (length_tables maps) ∙ producing.current.fits.types

empty_once : (count : ℕ) → HoldsOnce (no_rows count)
empty_once count = record {
  once = λ t a b row here there. absurd (let e = sym (ap (λ rows. get rows a) (none_there count t) ∙ get-empty nat_cmp a) ∙ here in cc);
  low = λ t ordinal live. absurd (let e = sym live ∙ ap is_some (ap (λ rows. get rows ordinal) (none_there count t) ∙ get-empty nat_cmp ordinal) in cc);
}

-- a state that is made of a closed previous one without rows
fresh : (schemas : List Schema) (maps : List States) (previous : Table) → previous_of maps ≡ previous → current_of maps ≡ no_rows (length schemas) → IsClosedTableOf schemas previous → HoldsOnce previous → AreStored previous
    → IsProducing schemas maps
fresh schemas maps previous before now closed once stored = record {
  previous = subst (IsClosedTableOf schemas) (sym before) closed;
  current = subst (IsClosedTableOf schemas) (sym now) (none_closed schemas);
  agree = subst (λ table. TablesAgree table (current_of maps)) (sym before) (subst (TablesAgree previous) (sym now) (start_agree previous (length schemas) once));
  stored_previous = subst AreStored (sym before) stored;
  stored_current = subst AreStored (sym now) (none_stored (length schemas));
}

-- the previous states have the rows of a closed table, each once
pub restored_producing : (schemas : List Schema) (table : Table) (maps : List States) → previous_of maps ≡ table → current_of maps ≡ no_rows (length schemas) → IsTableOf schemas table → IsClosed schemas table → HoldsOnce table → AreStored table
    → IsProducing schemas maps
restored_producing schemas table maps before now fits closed once stored = fresh schemas maps table before now (record { fits = fits; closed = closed }) once stored

pub restored_view : (schemas model : List Schema) (table : Table) (maps : List States) (tag given : ℤ) (version : ℕ) → model ≡ schemas → previous_of maps ≡ table → current_of maps ≡ no_rows (length schemas) → given ≡ tag
    → made model maps given version false None ≡ restored_of schemas table tag version
restored_view schemas model table maps tag given version of before now same =
    λ i. record { schemas = of i; previous = before i; current = now i; tag = same i; version = version; closed = false; over = None }

pub made_producing : (schemas : List Schema) → IsProducing schemas (replicate (length schemas) no_states)
made_producing schemas = fresh schemas _ (no_rows (length schemas)) (none_previous (length schemas)) (none_current (length schemas)) (none_closed schemas) (empty_once (length schemas)) (none_stored (length schemas))

pub undone_producing : (schemas : List Schema) (maps : List States) → IsProducing schemas maps → IsProducing schemas (map undone maps)
undone_producing schemas maps producing =
    fresh schemas (map undone maps) (previous_of maps) (undone_previous maps) (undone_current maps ∙ ap no_rows (count_types schemas maps producing)) producing.previous (once_before _ _ producing.agree) producing.stored_previous

pub advanced_producing : (schemas : List Schema) (maps : List States) → IsProducing schemas maps → IsProducing schemas (map advanced maps)
advanced_producing schemas maps producing =
    fresh schemas (map advanced maps) (current_of maps) (advanced_previous maps) (advanced_current maps ∙ ap no_rows (count_types schemas maps producing)) producing.current (once_now _ _ producing.agree) producing.stored_current

-- a tree is added, and the previous state stays
pub added_producing : (schemas : List Schema) (maps after : List States) (t ordinal : ℕ) (tree : PlainTree) → IsProducing schemas maps → previous_of after ≡ previous_of maps
    → Adds schemas (previous_of maps) t tree (current_of maps) ordinal (current_of after) → IsProducing schemas after
added_producing schemas maps after t ordinal tree producing same adds = record {
  previous = subst (IsClosedTableOf schemas) (sym same) producing.previous;
  current = added_closed schemas (previous_of maps) (current_of maps) (current_of after) t ordinal tree adds producing.current;
  agree = subst (λ table. TablesAgree table (current_of after)) (sym same) (adds_agree schemas (previous_of maps) tree t (current_of maps) (current_of after) ordinal adds producing.agree);
  stored_previous = subst AreStored (sym same) producing.stored_previous;
  stored_current = adds_stored schemas (previous_of maps) tree t (current_of maps) (current_of after) ordinal adds producing.stored_current;
}

-- neither state has changed
pub same_producing : (schemas : List Schema) (maps after : List States) → IsProducing schemas maps → previous_of after ≡ previous_of maps → current_of after ≡ current_of maps → IsProducing schemas after
same_producing schemas maps after producing before now = record {
  previous = subst (IsClosedTableOf schemas) (sym before) producing.previous;
  current = subst (IsClosedTableOf schemas) (sym now) producing.current;
  agree = subst (λ table. TablesAgree table (current_of after)) (sym before) (subst (TablesAgree (previous_of maps)) (sym now) producing.agree);
  stored_previous = subst AreStored (sym before) producing.stored_previous;
  stored_current = subst AreStored (sym now) producing.stored_current;
}

length_previous : (maps : List States) → length (previous_of maps) ≡ length maps
length_previous [] = refl
length_previous (s ∷ maps) = ap suc (length_previous maps)

-- the previous state stayed, and the rows of the cycle are dropped
pub failed_producing : (schemas : List Schema) (maps after : List States) → IsProducing schemas maps → previous_of after ≡ previous_of maps → IsProducing schemas (map undone after)
failed_producing schemas maps after producing same =
    fresh schemas (map undone after) (previous_of maps) (undone_previous after ∙ same)
    (undone_current after ∙ ap no_rows (sym (length_previous after) ∙ ap (λ (table : Table). length table) same ∙ producing.previous.fits.types)) producing.previous (once_before _ _ producing.agree) producing.stored_previous

pub failed_current : (schemas : List Schema) (maps after : List States) → IsProducing schemas maps → previous_of after ≡ previous_of maps → current_of (map undone after) ≡ no_rows (length schemas)
failed_current schemas maps after producing same =
    undone_current after ∙ ap no_rows (sym (length_previous after) ∙ ap (λ (table : Table). length table) same ∙ producing.previous.fits.types)

pub undone_view : (schemas : List Schema) (maps after : List States) (tag : ℤ) (version : ℕ) (closed : Bool) (over : Option Limit) → after ≡ map undone maps → IsProducing schemas maps
    → made schemas after tag version false None ≡ without_rows (made schemas maps tag version closed over)
undone_view schemas maps after tag version closed over is producing =
    let before : previous_of after ≡ previous_of maps = ap previous_of is ∙ undone_previous maps in
    let now : current_of after ≡ no_rows (length schemas) = ap current_of is ∙ undone_current maps ∙ ap no_rows (count_types schemas maps producing) in
    λ i. record { schemas = schemas; previous = before i; current = now i; tag = tag; version = version; closed = false; over = None }

pub advanced_view : (schemas : List Schema) (maps after : List States) (old tag given : ℤ) (was version : ℕ) (closed : Bool) (over : Option Limit) → given ≡ tag → after ≡ map advanced maps → IsProducing schemas maps
    → made schemas after given version false None ≡ advanced_to tag version (made schemas maps old was closed over)
advanced_view schemas maps after old tag given was version closed over same is producing =
    let before : previous_of after ≡ current_of maps = ap previous_of is ∙ advanced_previous maps in
    let now : current_of after ≡ no_rows (length schemas) = ap current_of is ∙ advanced_current maps ∙ ap no_rows (count_types schemas maps producing) in
    λ i. record { schemas = schemas; previous = before i; current = now i; tag = same i; version = version; closed = false; over = None }
