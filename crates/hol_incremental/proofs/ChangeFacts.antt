-- A change from its first record to its last row: what holds of the tables on the way.
use Rattle.std.proofs.Common.{◌≡◌, ◌+◌, ◌≤◌, ◌⊎◌, ℕ, List, [], Option, Some, length, sym, inl, inr, arith}
use Rattle.std.specs.Prelude.{◌↔◌, Contains, filter, nat_eq}
use Rattle.schema_model.specs.declared.schema.Schema.{Schema}
use Rattle.schema_model.specs.Model.{IsModel}
use Rattle.row_model.specs.declared.row.Row.{Row}
use Rattle.row_model.specs.Table.{IsClosed, Table, row_at}
use Rattle.key_index.specs.Indexed.{Indexed}
use Rattle.record_trees.specs.FitsTree.{FitsTree}
use Rattle.write_engine.specs.Agreement.{HoldsOnce, TablesAgree}
use Rattle.write_engine.specs.Soundness.{IsClosedTableOf}
use Rattle.write_engine.specs.StoredRows.{AreStored}
use Rattle.hol_incremental.specs.Beside.{IsFromEither, IsPartOf}
use Rattle.hol_incremental.specs.Changes.{AreFitting, CountsChange, HaveKeys}
use Rattle.hol_incremental.specs.Counts.{keyed_size_of, size_of}
use Rattle.hol_incremental.specs.Drops.{AreUnnamed, IsDropping, IsHeld}
use Rattle.hol_incremental.specs.Edited.{IsNextEdited, Keys, Records, of_first}
use Rattle.hol_incremental.specs.EditKeys.{AreCounts, AreIndexes, count_at}
use Rattle.hol_incremental.specs.Leaves.{AreLeaving}
use Rattle.hol_incremental.specs.Roots.{IsKeyed}
use Rattle.hol_incremental.specs.Tops.{AddsTops}
use Rattle.hol_incremental.proofs.LeavingRows.{HasGivenKey, given_is, is_given}
use Rattle.hol_incremental.proofs.LeftRows.{held, is_left, start_dropping, start_unnamed}
use Rattle.hol_incremental.proofs.NextOfEdited.{edited_adds_puts, next_of_edited}
use Rattle.hol_incremental.proofs.PutAlone.{IsFresh, all_first, keyed_puts, keyed_tops, put_alone}

-- a table that agrees with another holds no row twice
pub agree_once : (previous current : Table) → TablesAgree previous current → HoldsOnce previous
agree_once previous current agree = record {
  once = λ t a b row here there. (agree t).one_ordinal row a b (inl here) (inl there);
  low = λ t o live. (agree t).low o (inl live);
}

module _ (schemas : List Schema) (model : IsModel schemas) (previous : Table) (closed : IsClosedTableOf schemas previous) (stored : AreStored previous) (once : HoldsOnce previous) (puts : Records) (removes : Keys)
    (fits : AreFitting schemas puts) where
  -- ---- it comes to nothing

  pub none_next : ((rows : List (ℕ × ℕ)) (after : Table) → AddsTops schemas previous (of_first (length schemas) puts) previous rows after → ⊥) → (next : Table) → IsNextEdited schemas previous puts removes next → ⊥
  none_next never next is = let adds = edited_adds_puts schemas previous next puts removes model closed stored once fits is in never adds.0 adds.1 adds.2

  module _ (have : HaveKeys schemas puts) (tops : List (ℕ × ℕ)) (whole : Table) (adds : AddsTops schemas previous (of_first (length schemas) puts) previous tops whole) where
    first_fits : AreFitting schemas (of_first (length schemas) puts)
    first_fits = all_first (λ entry. FitsTree schemas entry.0 entry.1) puts fits (length schemas)

    pub fresh : (fresh : Table) × IsFresh schemas previous whole tops fresh
    fresh = put_alone schemas previous closed.fits.types once (of_first (length schemas) puts) whole tops first_fits adds

    pub part : IsPartOf previous whole
    part = fresh.1.either.first

    pub whole_types : length previous ≡ length whole
    whole_types = sym fresh.1.either.types

    keyed : (t o : ℕ) → Contains tops (t, o) → IsKeyed schemas t
    keyed =
        keyed_tops schemas previous (of_first (length schemas) puts) previous whole tops
        (all_first (λ entry. IsKeyed schemas entry.0) puts (keyed_puts schemas puts have) (length schemas)) adds

    -- ---- the rows that leave

    module _ (keys : List (Option Indexed)) (are : AreIndexes schemas previous keys) (leaving : List (ℕ × ℕ)) (leave : AreLeaving keys puts removes tops leaving) where
      leaves : (t o : ℕ) → Contains leaving (t, o) ↔ (HasGivenKey schemas previous puts removes t o × (Contains tops (t, o) → ⊥))
      leaves t o = (forth, back)
        where
          forth : Contains leaving (t, o) → HasGivenKey schemas previous puts removes t o × (Contains tops (t, o) → ⊥)
          forth among = let is = (leave.are (t, o)).0 among in (given_is schemas model previous keys are puts removes t o is.0, is.1)

          back : HasGivenKey schemas previous puts removes t o × (Contains tops (t, o) → ⊥) → Contains leaving (t, o)
          back is = (leave.are (t, o)).1 (is_given schemas model previous keys are puts removes t o is.0, is.1)

      pub holds : IsHeld schemas leaving whole fresh.0
      holds = held schemas previous fresh.0 whole puts removes tops leaving fresh.1.either fresh.1.reached keyed leaves

      module _ (counts : List (List ℕ)) (counted : AreCounts schemas whole counts) where
        pub unnamed : AreUnnamed schemas whole (filter (λ row. nat_eq (count_at counts row.0 row.1) 0) leaving)
        unnamed = start_unnamed schemas previous fresh.0 whole puts removes tops leaving fresh.1.either fresh.1.reached keyed leaves counts counted leave.once

        dropping : IsDropping schemas leaving whole fresh.0 whole (filter (λ row. nat_eq (count_at counts row.0 row.1) 0) leaving)
        dropping = start_dropping schemas previous fresh.0 whole puts removes tops leaving fresh.1.either fresh.1.reached keyed leaves counts counted leave.once

        -- ---- what is left

        module _ (left : Table) (drop : (start held : Table) → IsHeld schemas leaving start held
            → IsDropping schemas leaving start held whole (filter (λ row. nat_eq (count_at counts row.0 row.1) 0) leaving) → IsDropping schemas leaving start held left []) where
          end : IsDropping schemas leaving whole fresh.0 left []
          end = drop whole fresh.0 holds dropping

          pub next : IsClosed schemas left → IsNextEdited schemas previous puts removes left
          next closed_left =
              next_of_edited schemas previous whole left puts removes tops model closed stored once fits adds
              (is_left schemas previous fresh.0 whole puts removes tops leaving fresh.1.either fresh.1.reached keyed leaves left end closed_left fresh.1.live)

          -- the cycle before rows leave holds the rows of both states
          pub both : IsFromEither previous left whole
          both = record {
            types = fresh.1.either.types;
            first = part;
            second = end.within;
            either = λ t o row is. of_either t o row (fresh.1.either.either t o row is);
          }
            where
              of_either : (t o : ℕ) (row : Row) → (row_at previous t o ≡ Some row) ⊎ (row_at fresh.0 t o ≡ Some row) → (row_at previous t o ≡ Some row) ⊎ (row_at left t o ≡ Some row)
              of_either t o row (inl here) = inl here
              of_either t o row (inr there) = inr (end.keeps t o row there)

          pub counts_change : (start one two three : ℕ) → one + size_of schemas previous ≡ start + size_of schemas whole → two + size_of schemas left ≡ one + size_of schemas whole
              → ((both : Table) → IsFromEither previous left both → three + keyed_size_of schemas previous ≤ two + keyed_size_of schemas both) → CountsChange schemas previous left start three
          counts_change start one two three come went ready = (whole, both, (let x = ready whole both in omega (arith, come, went, x)))
