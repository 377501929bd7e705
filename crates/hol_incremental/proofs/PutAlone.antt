-- The records that are put beside the rows of the previous state, and alone.
use Rattle.std.proofs.Common.{◌≡◌, ◌∙◌, ◌+◌, ◌⊎◌, ℕ, zero, suc, List, [], ◌∷◌, Some, None, length, flat_map, refl, sym, subst, inl, inr}
use Rattle.std.specs.Prelude.{All, Contains, IsSome, nat_eq}
use Rattle.std.specs.List.{range_with_len}
use Rattle.std.specs.FinMap.{empty, get-empty}
use Rattle.std.specs.Ordering.{nat_cmp}
use Rattle.std.proofs.lemmas.List.{length-replicate}
use Rattle.std.proofs.lemmas.List.Elements.{All-append, All-filter, All-nil, All-head, All-tail}
use Rattle.schema_model.specs.declared.schema.Schema.{Schema}
use Rattle.row_model.specs.declared.row.Row.{Row}
use Rattle.row_model.specs.PlainTree.{PlainTree}
use Rattle.row_model.specs.Table.{IsLive, Table, row_at}
use Rattle.write_engine.specs.Agreement.{HoldsOnce, TablesAgree}
use Rattle.write_engine.specs.Cycle.{no_rows}
use Rattle.write_engine.specs.RowDrops.{IsNamed}
use Rattle.write_engine.proofs.NextStates.{start_agree}
use Rattle.hol_incremental.specs.Beside.{HasEither, IsFromEither, IsPartOf, SameBeside}
use Rattle.hol_incremental.specs.Changes.{AreFitting, HaveKeys}
use Rattle.hol_incremental.specs.Edited.{Records, of_first, of_type}
use Rattle.hol_incremental.specs.Roots.{IsKeyed}
use Rattle.hol_incremental.specs.Tops.{AddsTops}
use Rattle.hol_incremental.proofs.AddedTops.{AddedTops, tops_added}
use Rattle.hol_incremental.proofs.Among.{none_in, parted}
use Rattle.hol_incremental.proofs.BesideRows.{agree_both, turned}
use Rattle.hol_incremental.proofs.EditedNext.{start_beside, tops_beside}
use Rattle.hol_incremental.proofs.LeavingRows.{keyed_by}

-- ---- what holds of all records holds of those of each type

module _ (P : ℕ × PlainTree → Type 0) (puts : Records) (all : All P puts) where
  of_types : (start count : ℕ) → All P (flat_map (λ t. of_type t puts) (range_with_len start count))
  of_types start zero = All-nil P
  of_types start (suc count) =
      All-append P (of_type start puts) (flat_map (λ t. of_type t puts) (range_with_len (start + 1) count)) (All-filter (λ entry. nat_eq entry.0 start) P puts all) (of_types (start + 1) count)

  pub all_first : (count : ℕ) → All P (of_first count puts)
  all_first count = of_types 0 count

-- ---- top rows are of the types of their records

pub keyed_tops : (schemas : List Schema) (previous : Table) (records : Records) (before after : Table) (tops : List (ℕ × ℕ)) → All (λ entry. IsKeyed schemas entry.0) records
    → AddsTops schemas previous records before tops after → (t o : ℕ) → Contains tops (t, o) → IsKeyed schemas t
keyed_tops schemas previous [] before after tops keyed adds t o among = absurd (none_in (t, o) (subst (λ xs. Contains xs (t, o)) adds.0 among))
keyed_tops schemas previous (entry ∷ records) before after tops keyed adds t o among =
    let P : ℕ × PlainTree → Type 0 = λ e. IsKeyed schemas e.0 in
    elim (parted (entry.0, adds.0) adds.1 (t, o) (subst (λ xs. Contains xs (t, o)) adds.3 among)) [
      | inl same ↦ subst (λ (e : ℕ × ℕ). IsKeyed schemas e.0) same (All-head P entry records keyed)
      | inr there ↦ keyed_tops schemas previous records adds.2 after adds.1 (All-tail P entry records keyed) adds.5 t o there
    ]

pub keyed_puts : (schemas : List Schema) (puts : Records) → HaveKeys schemas puts → All (λ entry. IsKeyed schemas entry.0) puts
keyed_puts schemas puts have k d within = let key = have k d within in keyed_by schemas _ key.1.0 key.1.1

-- ---- beside the previous state, and alone

none_at : (n t o : ℕ) → row_at (no_rows n) t o ≡ None
none_at zero t o = refl
none_at (suc n) zero o = get-empty nat_cmp o
none_at (suc n) (suc t) o = none_at n t o

-- What the records that are put make alone.
pub record IsFresh (schemas : List Schema) (previous whole : Table) (tops : List (ℕ × ℕ)) (fresh : Table) : Type 0 where
  pub types : length fresh ≡ length schemas
  pub either : IsFromEither previous fresh whole
  pub live : (t o : ℕ) → Contains tops (t, o) → IsLive fresh t o
  pub reached : (t o : ℕ) → IsLive fresh t o → Contains tops (t, o) ⊎ IsNamed schemas fresh t o

module _ (schemas : List Schema) (previous : Table) (types : length previous ≡ length schemas) (once : HoldsOnce previous) where
  start_same : SameBeside previous (no_rows (length schemas)) previous
  start_same = start_beside schemas previous (length schemas) types

  none_agree : TablesAgree previous (no_rows (length schemas))
  none_agree = start_agree previous (length schemas) once

  pub itself_agree : TablesAgree previous previous
  itself_agree = agree_both previous (no_rows (length schemas)) previous start_same none_agree

  pub put_alone : (records : Records) (whole : Table) (tops : List (ℕ × ℕ)) → AreFitting schemas records → AddsTops schemas previous records previous tops whole → (fresh : Table) × IsFresh schemas previous whole tops fresh
  put_alone records whole tops fits adds = (alone.0, record { types = made.types; either = record { types = beside.types ∙ sym types; first = beside.stays; second = second; either = either }; live = made.live; reached = reached })
    where
      alone : (fresh : Table) × AddsTops schemas previous records (no_rows (length schemas)) tops fresh × SameBeside previous whole fresh
      alone = tops_beside schemas previous records previous whole (no_rows (length schemas)) tops (turned previous (no_rows (length schemas)) previous start_same) adds

      beside : AddedTops schemas previous previous tops whole
      beside = tops_added schemas previous records previous whole tops types itself_agree fits adds

      made : AddedTops schemas previous (no_rows (length schemas)) tops alone.0
      made = tops_added schemas previous records (no_rows (length schemas)) alone.0 tops (length-replicate (length schemas) empty) none_agree fits alone.1

      second : IsPartOf alone.0 whole
      second t o row is = by_either ((alone.2.same t o row).1 (inr is))
        where
          by_either : HasEither previous whole t o row → row_at whole t o ≡ Some row
          by_either (inl before) = beside.stays t o row before
          by_either (inr now) = now

      either : (t o : ℕ) (row : Row) → row_at whole t o ≡ Some row → (row_at previous t o ≡ Some row) ⊎ (row_at alone.0 t o ≡ Some row)
      either t o row is = (alone.2.same t o row).0 (inr is)

      reached : (t o : ℕ) → IsLive alone.0 t o → Contains tops (t, o) ⊎ IsNamed schemas alone.0 t o
      reached t o live =
          elim (made.held t o live) [
            | inl before ↦ (let e = subst IsSome (none_at (length schemas) t o) before in absurd cc)
            | inr come ↦ come
          ]
