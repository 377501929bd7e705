-- What the put of one row tells exactly, and what a producer keeps over it.
use Rattle.std.proofs.Common.{◌≡◌, ℕ, ◌<◌, ◌^◌, List, length, refl, sym, ap, subst, inl, inr, arith}
use Rattle.std.specs.Prelude.{Result, Ok, Err, OnErr}
use Rattle.hol_varint.specs.Yields.{Yields}
use Rattle.schema_model.specs.declared.schema.Schema.{Schema}
use Rattle.row_model.specs.declared.row.Row.{Row}
use Rattle.row_model.specs.Table.{Table}
use Rattle.ordinal_map.specs.Assign.{IsFreePut, IsPut}
use Rattle.ordinal_map.specs.States.{States}
use Rattle.ordinal_map.specs.declared.fault.PutRowFault.{PutRowFault}
use Rattle.ordinal_map.specs.declared.fault.PutRowFault.TheVariants.{TooMany, Memory}
use Rattle.ordinal_map.proofs.Puts.{put_once}
use Rattle.write_engine.specs.Agreement.{TablesAgree}
use Rattle.write_engine.specs.Cycle.{PutsRow, rows_in, with_row}
use Rattle.write_engine.specs.Production.{IsProducing, current_of, previous_of}
use Rattle.write_engine.specs.RowPuts.{FitsRow, TellsRowPut}
use Rattle.write_engine.specs.Soundness.{IsClosedTableOf}
use Rattle.write_engine.specs.StoredRows.{AreStored}
use Rattle.write_engine.proofs.ClosedStates.{row_closed}
use Rattle.write_engine.proofs.NextStates.{puts_agree}
use Rattle.write_engine.proofs.Producing.{same_producing}
use Rattle.write_engine.proofs.StoredRows.{put_stored}

module _ (previous before after : Table) (t : ℕ) (row : Row) (agree : TablesAgree previous before) where
  pub put_exactly : (result : Result ℕ PutRowFault) → TellsRowPut previous t row before result after
      → (ordinal : ℕ) → Yields IsFreePut result (Ok ordinal) (PutsRow previous t row before ordinal (with_row before t ordinal row))
  put_exactly (Ok o) tells ordinal = (
    (λ is. (let same : o ≡ ordinal = cc in record {
      put = subst (λ n. IsPut (rows_in previous t) (rows_in before t) row n) same tells.put;
      low = subst (λ n. n < 2 ^ 22) same tells.low;
      after_is = refl;
    })),
    (λ puts. inl (ap Ok (put_once (rows_in previous t) (rows_in before t) row o ordinal (agree t) tells.put puts.put))),
  )
  put_exactly (Err TooMany) tells ordinal = (
    (λ is. absurd cc),
    (λ puts. absurd (let same = put_once (rows_in previous t) (rows_in before t) row (2 ^ 22) ordinal (agree t) tells.0 puts.put in omega (arith, same, puts.low))),
  )
  put_exactly (Err Memory) tells ordinal = ((λ is. absurd cc), (λ puts. inr tt))

  pub refused_exactly : (result : Result ℕ PutRowFault) → TellsRowPut previous t row before result after
      → Yields IsFreePut result (Err TooMany) (IsPut (rows_in previous t) (rows_in before t) row (2 ^ 22))
  refused_exactly (Ok o) tells = (
    (λ is. absurd cc),
    (λ put. absurd (let same = put_once (rows_in previous t) (rows_in before t) row o (2 ^ 22) (agree t) tells.put put in omega (arith, same, tells.low))),
  )
  refused_exactly (Err TooMany) tells = ((λ is. tells.0), (λ put. inl refl))
  refused_exactly (Err Memory) tells = ((λ is. absurd cc), (λ put. inr tt))

-- a row that is not put changes nothing
pub refused_same : (previous before after : Table) (t : ℕ) (row : Row) (result : Result ℕ PutRowFault) → TellsRowPut previous t row before result after → OnErr result (after ≡ before)
refused_same previous before after t row (Ok o) tells = tt
refused_same previous before after t row (Err TooMany) tells = tells.1
refused_same previous before after t row (Err Memory) tells = tells

-- a row is put that may stand there, and the previous state stays
pub row_producing : (schemas : List Schema) (maps after : List States) (t : ℕ) (row : Row) (result : Result ℕ PutRowFault) → IsProducing schemas maps → previous_of after ≡ previous_of maps
    → FitsRow schemas (current_of maps) t row → TellsRowPut (previous_of maps) t row (current_of maps) result (current_of after) → IsProducing schemas after
row_producing schemas maps after t row (Ok ordinal) producing before may puts = record {
  previous = subst (IsClosedTableOf schemas) (sym before) producing.previous;
  current = row_closed schemas (previous_of maps) (current_of maps) (current_of after) t ordinal row may puts producing.current;
  agree = subst (λ table. TablesAgree table (current_of after)) (sym before) (puts_agree (previous_of maps) (current_of maps) (current_of after) t ordinal row puts producing.agree);
  stored_previous = subst AreStored (sym before) producing.stored_previous;
  stored_current = put_stored (previous_of maps) (current_of maps) (current_of after) t ordinal row puts may.stored producing.stored_current;
}
row_producing schemas maps after t row (Err TooMany) producing before may tells = same_producing schemas maps after producing before tells.1
row_producing schemas maps after t row (Err Memory) producing before may tells = same_producing schemas maps after producing before tells
