-- What is left of a change is the state that its edited list makes next.
use Rattle.std.proofs.Common.{◌≡◌, ◌∙◌, ◌⊎◌, ◌+◌, ◌<◌, ◌≤◌, ℕ, zero, suc, List, [], ◌∷◌, ◌++◌, Some, None, length, slice_get, flat_map, refl, sym, ap, subst, inl, inr, arith}
use Rattle.std.specs.Prelude.{Contains, nat_eq}
use Rattle.std.specs.FinMap.{empty, get-empty}
use Rattle.std.specs.Ordering.{nat_cmp}
use Rattle.std.specs.List.{range_with_len}
use Rattle.std.proofs.lemmas.Bool.{cases_eq}
use Rattle.std.proofs.lemmas.List.{length-replicate}
use Rattle.std.proofs.lemmas.List.Elements.{All-append, All-filter, All-nil, Contains-append_cases, Contains-append_left, Contains-append_right}
use Rattle.schema_model.specs.declared.schema.Schema.{Schema}
use Rattle.schema_model.specs.Model.{IsModel}
use Rattle.row_model.specs.declared.row.Row.{Row}
use Rattle.row_model.specs.PlainTree.{PlainTree}
use Rattle.row_model.specs.Table.{IsClosed, IsLive, Table, row_at}
use Rattle.record_trees.specs.FitsTree.{FitsTree}
use Rattle.write_engine.specs.Agreement.{HoldsOnce, TablesAgree}
use Rattle.write_engine.specs.Cycle.{AddsRecords, Next, no_rows}
use Rattle.write_engine.specs.RowDrops.{IsNamed}
use Rattle.write_engine.specs.Soundness.{IsClosedTableOf}
use Rattle.write_engine.specs.StoredRows.{AreStored}
use Rattle.write_engine.proofs.ClosedStates.{next_closed}
use Rattle.write_engine.proofs.NextStates.{start_agree}
use Rattle.write_engine.proofs.OneState.{same_some}
use Rattle.hol_incremental.specs.Beside.{HasEither, SameBeside}
use Rattle.hol_incremental.specs.Edited.{IsEdited, IsEditedType, Keys, Records, StaysRoot, of_first, of_type, records_of}
use Rattle.hol_incremental.specs.Left.{IsLeftOf, StaysOwn}
use Rattle.hol_incremental.specs.Tops.{AddsTops}
use Rattle.hol_incremental.proofs.AddedRows.{HeldBy, live_stays, stays_then}
use Rattle.hol_incremental.proofs.AddedTops.{AddedTops, FitAllTypes, of_tops, tops_added, tops_agree, tops_of, tops_once, tops_parted, tops_then}
use Rattle.hol_incremental.proofs.Among.{first_in, later_in, none_in, parted}
use Rattle.hol_incremental.proofs.BesideRows.{agree_both, itself, then_same, turned}
use Rattle.hol_incremental.proofs.BlindAdds.{adds_beside}
use Rattle.hol_incremental.proofs.HeldRows.{equal_tables, held_part, one_row_of}
use Rattle.hol_incremental.proofs.KeptTrees.{IsKeptBy, added_again}
use Rattle.hol_incremental.proofs.OneRecord.{Stays}
use Rattle.hol_incremental.proofs.ShallowTypes.{live_inside}

-- the records that are put, of so many types from one on
abbrev PutsFrom : Records → ℕ → ℕ → Records
PutsFrom puts start count = flat_map (λ t. of_type t puts) (range_with_len start count)

-- ---- records, over tables that hold the same rows beside the previous state

module _ (schemas : List Schema) (previous : Table) where
  pub tops_beside : (records : Records) (before after other : Table) (tops : List (ℕ × ℕ)) → SameBeside previous before other → AddsTops schemas previous records before tops after
      → (after' : Table) × AddsTops schemas previous records other tops after' × SameBeside previous after after'
  tops_beside [] before after other tops same adds = (other, (adds.0, refl), subst (λ (one : Table). SameBeside previous one other) (sym adds.1) same)
  tops_beside (entry ∷ records) before after other tops same adds =
      let first = adds_beside schemas previous entry.1 entry.0 before adds.2 other adds.0 same adds.4 in
      let rest = tops_beside records adds.2 after first.0 adds.1 first.2 adds.5 in
      (rest.0, (adds.0, adds.1, first.0, adds.3, first.1, rest.1), rest.2)

  -- the first state of a cycle has no rows, and those of the previous state beside it
  pub start_beside : (count : ℕ) → length previous ≡ count → SameBeside previous (no_rows count) previous
  start_beside count types = record {
    types = length-replicate count empty ∙ sym types;
    same = λ t o row. (forth t o row, λ h. inl (either t o row h));
  }
    where
      none_at : (n t o : ℕ) → row_at (no_rows n) t o ≡ None
      none_at zero t o = refl
      none_at (suc n) zero o = get-empty nat_cmp o
      none_at (suc n) (suc t) o = none_at n t o

      forth : (t o : ℕ) (row : Row) → HasEither previous (no_rows count) t o row → HasEither previous previous t o row
      forth t o row (inl before) = inl before
      forth t o row (inr now) = let e = sym now ∙ none_at count t o in absurd cc

      either : (t o : ℕ) (row : Row) → HasEither previous previous t o row → row_at previous t o ≡ Some row
      either t o row (inl here) = here
      either t o row (inr here) = here

  pub start_part : (count : ℕ) (left : Table) → Stays (no_rows count) left
  start_part count left t o row is = absurd (let e = sym is ∙ none_at count t o in cc)
    where
      none_at : (n t o : ℕ) → row_at (no_rows n) t o ≡ None
      none_at zero t o = refl
      none_at (suc n) zero o = get-empty nat_cmp o
      none_at (suc n) (suc t) o = none_at n t o

-- ---- the parts of an edited list

module _ (schemas : List Schema) (model : IsModel schemas) (previous : Table) (closed : IsClosedTableOf schemas previous) (stored : AreStored previous) (once : HoldsOnce previous) where
  -- a table that has rows of the previous state only under their own ordinals
  abbrev Suits : Table → Type 0
  Suits left = (t o : ℕ) (a b : Row) → row_at previous t o ≡ Some a → row_at left t o ≡ Some b → a ≡ b

  module _ (left : Table) (closed_left : IsClosed schemas left) (suits : Suits left) where
    -- records of rows of the previous state are added: the table that comes, and that their rows are there
    record AddsRoots (t : ℕ) (roots : List ℕ) (before after : Table) : Type 0 where
      tops : List (ℕ × ℕ)
      adds : AddsTops schemas previous (records_of schemas previous t roots) before tops after
      kept : IsKeptBy schemas previous left before after
      live : (o : ℕ) → Contains roots o → IsLive after t o

    roots_again : (t : ℕ) (roots : List ℕ) → ((o : ℕ) → Contains roots o → IsLive previous t o × IsLive left t o) → (before : Table) → TablesAgree previous before → length before ≡ length schemas
        → (after : Table) × AddsRoots t roots before after
    roots_again t [] each before agree types = (
      before,
      record {
        tops = [];
        adds = (refl, refl);
        kept = record { beside = itself previous before; stays = λ u q row here. here; part = λ h. h };
        live = λ o among. absurd (none_in o among);
      },
    )
    roots_again t (o ∷ roots) each before agree types =
        let here = each o (first_in o roots) in
        let first = added_again schemas previous left model closed stored closed_left suits t o here.0 here.1 before agree types in
        let (after, rest) = roots_again t roots (λ q among. each q (later_in o roots q among)) first.0 (agree_both previous before first.0 first.2.beside agree) (sym first.2.beside.types ∙ types) in (
          after,
          record {
            tops = (t, o) ∷ rest.tops;
            adds = (o, rest.tops, first.0, refl, first.1, rest.adds);
            kept = record {
              beside = then_same previous before first.0 after first.2.beside rest.kept.beside;
              stays = stays_then before first.0 after first.2.stays rest.kept.stays;
              part = λ h. rest.kept.part (first.2.part h);
            };
            live = λ q among.
                (elim (parted o roots q among) [
                  | inl same ↦ live_stays first.0 after rest.kept.stays t q (subst (λ n. IsLive first.0 t n) same first.3)
                  | inr there ↦ rest.live q there
                ]);
          },
        )

    -- ---- the parts of the types, one behind another

    module _ (puts : Records) (removes : Keys) (fits : FitAllTypes schemas puts) where
      -- these are the parts of the types from one on
      abbrev AreParts : ℕ → List Records → Type 0
      AreParts start parts = (i : ℕ) (part : Records) → slice_get parts i ≡ Some part → IsEditedType schemas previous puts removes (start + i) part

      parts_behind : (start : ℕ) (part : Records) (parts : List Records) → AreParts start (part ∷ parts) → AreParts (start + 1) parts
      parts_behind start part parts are i found at = subst (λ n. IsEditedType schemas previous puts removes n found) (omega arith) (are (suc i) found at)

      first_part : (start : ℕ) (part : Records) (parts : List Records) → AreParts start (part ∷ parts) → IsEditedType schemas previous puts removes start part
      first_part start part parts are = subst (λ n. IsEditedType schemas previous puts removes n part) (omega arith) (are 0 part refl)

      type_fits : (t : ℕ) → FitAllTypes schemas (of_type t puts)
      type_fits t = All-filter (λ (entry : ℕ × PlainTree). nat_eq entry.0 t) (λ entry. FitsTree schemas entry.0 entry.1) puts fits

      from_fits : (start count : ℕ) → FitAllTypes schemas (PutsFrom puts start count)
      from_fits start zero = All-nil (λ (entry : ℕ × PlainTree). FitsTree schemas entry.0 entry.1)
      from_fits start (suc count) = All-append (λ (entry : ℕ × PlainTree). FitsTree schemas entry.0 entry.1) (of_type start puts) (PutsFrom puts (start + 1) count) (type_fits start) (from_fits (start + 1) count)

      module _ (whole : Table) (part_left : Stays left whole) (part_previous : Stays previous whole) where
        -- the parts were added: the state that they make
        record Walked (start : ℕ) (parts : List Records) (before : Table) (tops : List (ℕ × ℕ)) : Type 0 where
          all : List (ℕ × ℕ)
          next : Table
          adds : AddsTops schemas previous (flat_map (λ part. part) parts) before all next
          beside : SameBeside previous next whole
          part : Stays next left
          stays : Stays before next
          roots : (t o : ℕ) → start ≤ t → t < start + length parts → StaysRoot schemas previous puts removes t o → IsLive next t o
          tops_live : (t o : ℕ) → Contains tops (t, o) → IsLive next t o

        -- what stands in a table that holds the same rows as a part of the whole one is in the whole one
        part_beside : (table other : Table) → SameBeside previous table other → Stays other whole → Stays table whole
        part_beside table other same part t o row is = elim ((same.same t o row).0 (inr is)) [
          | inl before ↦ part_previous t o row before
          | inr there ↦ part t o row there
        ]

        walk : (parts : List Records) (start : ℕ) → AreParts start parts → (before beside : Table) → SameBeside previous before beside → TablesAgree previous before → length before ≡ length schemas → Stays before left → (tops : List (ℕ × ℕ))
            → ((t o : ℕ) → StaysRoot schemas previous puts removes t o ⊎ Contains tops (t, o) → IsLive left t o) → AddsTops schemas previous (PutsFrom puts start (length parts)) beside tops whole → Walked start parts before tops
        walk [] start are before beside same agree types part tops live adds = record {
          all = [];
          next = before;
          adds = (refl, refl);
          beside = subst (λ (table : Table). SameBeside previous before table) (sym adds.1) same;
          part = part;
          stays = λ t o row here. here;
          roots = λ t o low high root. absurd (omega (arith, low, high));
          tops_live = λ t o among. absurd (none_in (t, o) (subst (λ xs. Contains xs (t, o)) adds.0 among));
        }
        walk (own ∷ parts) start are before beside same agree types part tops live adds =
            let edited = first_part start own parts are in
            -- the roots that stay
            let (mid, rooted) = roots_again start edited.roots (λ o among. (let root = (edited.are o).0 among in (root.root.live, live start o (inl root)))) before agree types in
            let agree_mid = agree_both previous before mid rooted.kept.beside agree in
            let types_mid : length mid ≡ length schemas = sym rooted.kept.beside.types ∙ types in
            let same_mid = then_same previous mid before beside (turned previous before mid rooted.kept.beside) same in
            -- the records that are put
            let split = tops_parted schemas previous (of_type start puts) (PutsFrom puts (start + 1) (length parts)) beside whole tops adds in
            let first = split.0 in
            let second = split.1 in
            let beside' = split.2 in
            let agree_beside = agree_both previous before beside same agree in
            let types_beside : length beside ≡ length schemas = sym same.types ∙ types in
            let (after, put, same_after) = tops_beside schemas previous (of_type start puts) beside beside' mid first (turned previous mid beside same_mid) split.4 in
            let added = tops_added schemas previous (of_type start puts) mid after first types_mid agree_mid (type_fits start) put in
            let added_beside = tops_added schemas previous (of_type start puts) beside beside' first types_beside agree_beside (type_fits start) split.4 in
            let later = tops_added schemas previous (PutsFrom puts (start + 1) (length parts)) beside' whole second added_beside.types (tops_agree schemas previous (of_type start puts) beside beside' first split.4 agree_beside)
            (from_fits (start + 1) (length parts)) split.5 in
            let same_then = turned previous beside' after same_after in
            let within : Stays after whole = part_beside after beside' same_then later.stays in
            let is_top : (t o : ℕ) → Contains first (t, o) → Contains tops (t, o) = λ t o among. subst (λ xs. Contains xs (t, o)) (sym split.3) (Contains-append_left first second (t, o) among) in
            let is_later : (t o : ℕ) → Contains second (t, o) → Contains tops (t, o) = λ t o among. subst (λ xs. Contains xs (t, o)) (sym split.3) (Contains-append_right first second (t, o) among) in
            let part_after : Stays after left = held_part schemas model after left whole added.types within part_left closed_left (λ t o there. reached_by mid after first (rooted.kept.part part) added.held (λ u q among. live u q (inr (is_top u q among))) t o there) in
            let rest = walk parts (start + 1) (parts_behind start own parts are) after beside' same_then (tops_agree schemas previous (of_type start puts) mid after first put agree_mid) added.types part_after second
            (λ t o own. elim own [ inl root ↦ live t o (inl root) | inr among ↦ live t o (inr (is_later t o among)) ]) split.5 in
            record {
              all = (rooted.tops ++ first) ++ rest.all;
              next = rest.next;
              adds = subst (λ (front : Records). AddsTops schemas previous (front ++ flat_map (λ p. p) parts) before ((rooted.tops ++ first) ++ rest.all) rest.next) (sym edited.records_are)
                  (tops_then schemas previous (records_of schemas previous start edited.roots ++ of_type start puts) (flat_map (λ p. p) parts) before after rest.next (rooted.tops ++ first) rest.all
                  (tops_then schemas previous (records_of schemas previous start edited.roots) (of_type start puts) before mid after rooted.tops first rooted.adds put) rest.adds);
              beside = rest.beside;
              part = rest.part;
              stays = stays_then before after rest.next (stays_then before mid after rooted.kept.stays added.stays) rest.stays;
              roots = λ t o low high root.
                  (elim (cases_eq t start) [
                    | inl here ↦
                        live_stays after rest.next rest.stays t o
                        (live_stays mid after added.stays t o
                        (subst (λ n. IsLive mid n o) (sym here) (rooted.live o ((edited.are o).1 (subst (λ n. StaysRoot schemas previous puts removes n o) here root)))))
                    | inr other ↦ rest.roots t o (omega (arith, low, other)) (omega (arith, high)) root
                  ]);
              tops_live = λ t o among.
                  (elim (Contains-append_cases first second (t, o) (subst (λ xs. Contains xs (t, o)) split.3 among)) [
                    | inl here ↦ live_stays after rest.next rest.stays t o (added.live t o here)
                    | inr there ↦ rest.tops_live t o there
                  ]);
            }
          where
            reached_by : (mid after : Table) (first : List (ℕ × ℕ)) → Stays mid left → HeldBy schemas mid (λ u q. Contains first (u, q)) after → ((u q : ℕ) → Contains first (u, q) → IsLive left u q)
                → (t o : ℕ) → IsLive after t o → IsLive left t o ⊎ IsNamed schemas after t o
            reached_by mid after first part_mid held top_live t o there =
                elim (held t o there) [
                  | inl stood ↦ inl (live_stays mid left part_mid t o stood)
                  | inr came ↦ elim came [
                    | inl top ↦ inl (top_live t o top)
                    | inr named ↦ inr named
                  ]
                ]

      -- ---- the other way: where the parts can be added, so can the records that are put

      walk_back : (parts : List Records) (start : ℕ) → AreParts start parts → ((t o : ℕ) → StaysRoot schemas previous puts removes t o → IsLive left t o) → (before beside : Table) → SameBeside previous before beside → TablesAgree previous before
          → length before ≡ length schemas → (all : List (ℕ × ℕ)) (next : Table) → AddsTops schemas previous (flat_map (λ part. part) parts) before all next
          → (tops : List (ℕ × ℕ)) × (whole : Table) × AddsTops schemas previous (PutsFrom puts start (length parts)) beside tops whole
      walk_back [] start are live before beside same agree types all next adds = ([], beside, (refl, refl))
      walk_back (own ∷ parts) start are live before beside same agree types all next adds =
          let edited = first_part start own parts are in
          let split = tops_parted schemas previous (records_of schemas previous start edited.roots ++ of_type start puts) (flat_map (λ p. p) parts) before next all
          (subst (λ (front : Records). AddsTops schemas previous (front ++ flat_map (λ p. p) parts) before all next) edited.records_are adds) in
          let inner = tops_parted schemas previous (records_of schemas previous start edited.roots) (of_type start puts) before split.2 split.0 split.4 in
          let (mid, rooted) = roots_again start edited.roots (λ o among. (let root = (edited.are o).0 among in (root.root.live, live start o root))) before agree types in
          let one = tops_once schemas previous (records_of schemas previous start edited.roots) before mid inner.2 rooted.tops inner.0 agree rooted.adds inner.4 in
          let agree_mid = agree_both previous before mid rooted.kept.beside agree in
          let types_mid : length mid ≡ length schemas = sym rooted.kept.beside.types ∙ types in
          let same_mid = then_same previous mid before beside (turned previous before mid rooted.kept.beside) same in
          let put : AddsTops schemas previous (of_type start puts) mid inner.1 split.2 = subst (λ (table : Table). AddsTops schemas previous (of_type start puts) table inner.1 split.2) (sym one.1) inner.5 in
          let (beside', put', same') = tops_beside schemas previous (of_type start puts) mid split.2 beside inner.1 same_mid put in
          let added = tops_added schemas previous (of_type start puts) mid split.2 inner.1 types_mid agree_mid (type_fits start) put in
          let (tops, whole, later) = walk_back parts (start + 1) (parts_behind start own parts are) live split.2 beside' same' (tops_agree schemas previous (of_type start puts) mid split.2 inner.1 put agree_mid) added.types split.1 next split.5 in
          (inner.1 ++ tops, whole, tops_then schemas previous (of_type start puts) (PutsFrom puts (start + 1) (length parts)) beside beside' whole inner.1 tops put' later)

  -- ---- the laws

  agree_start : TablesAgree previous (no_rows (length schemas))
  agree_start = start_agree previous (length schemas) once

  beside_start : SameBeside previous (no_rows (length schemas)) previous
  beside_start = start_beside schemas previous (length schemas) closed.fits.types

  types_start : length (no_rows (length schemas)) ≡ length schemas
  types_start = length-replicate (length schemas) empty

  agree_previous : TablesAgree previous previous
  agree_previous = agree_both previous (no_rows (length schemas)) previous beside_start agree_start

  module _ (puts : Records) (removes : Keys) (fits : FitAllTypes schemas puts) (records : Records) (edited : IsEdited schemas previous puts removes records) where
    first_fits : FitAllTypes schemas (of_first (length schemas) puts)
    first_fits = from_fits previous closed.closed (λ t o a b is is'. same_some a b (row_at previous t o) is is') puts removes fits 0 (length schemas)

    first_puts : PutsFrom puts 0 (length edited.parts) ≡ of_first (length schemas) puts
    first_puts = ap (λ n. PutsFrom puts 0 n) edited.many

    all_parts : (i : ℕ) (part : Records) → slice_get edited.parts i ≡ Some part → IsEditedType schemas previous puts removes (0 + i) part
    all_parts i part at = subst (λ n. IsEditedType schemas previous puts removes n part) (omega arith) (edited.each i part at)

    module _ (tops : List (ℕ × ℕ)) (whole : Table) (adds : AddsTops schemas previous (of_first (length schemas) puts) previous tops whole) (left : Table)
        (is : IsLeftOf schemas (StaysOwn schemas previous puts removes tops) whole left) where
      grown : AddedTops schemas previous previous tops whole
      grown = tops_added schemas previous (of_first (length schemas) puts) previous whole tops closed.fits.types agree_previous first_fits adds

      suits_left : Suits left
      suits_left t o a b here there = one_row_of previous left whole grown.stays is.within t o a b here there

      walked : Walked left is.closed suits_left puts removes fits whole is.within grown.stays 0 edited.parts (no_rows (length schemas)) tops
      walked =
          walk left is.closed suits_left puts removes fits whole is.within grown.stays edited.parts 0 all_parts (no_rows (length schemas)) previous beside_start agree_start types_start
          (start_part schemas previous (length schemas) left) tops (λ t o own. is.kept t o own)
          (subst (λ (front : Records). AddsTops schemas previous front previous tops whole) (sym first_puts) adds)

      made : Next schemas previous records walked.next
      made = subst (λ (front : Records). AddsRecords schemas previous front (no_rows (length schemas)) walked.next) (sym edited.records_are)
          (of_tops schemas previous (flat_map (λ part. part) edited.parts) (no_rows (length schemas)) walked.next walked.all walked.adds)

      within_next : Stays walked.next whole
      within_next = part_beside left is.closed suits_left puts removes fits whole is.within grown.stays walked.next whole walked.beside (λ t o row here. here)

      reached_next : (t o : ℕ) → IsLive left t o → IsLive walked.next t o ⊎ IsNamed schemas left t o
      reached_next t o there =
          elim (is.reached t o there) [
            | inr named ↦ inr named
            | inl own ↦ elim own [
              | inl root ↦ (let inside = live_inside previous t o root.root.live in let types = closed.fits.types in let many = edited.many in inl (walked.roots t o (omega arith) (omega (arith, inside, types, many)) root))
              | inr top ↦ inl (walked.tops_live t o top)
            ]
          ]

      back : Stays left walked.next
      back = held_part schemas model left walked.next whole (is.types ∙ grown.types) is.within within_next (next_closed schemas previous walked.next records made).closed reached_next

      pub edited_next : Next schemas previous records left
      edited_next = subst (λ (table : Table). Next schemas previous records table) (equal_tables walked.next left (walked.beside.types ∙ sym is.types) walked.part back) made

    pub edited_adds : (next : Table) → Next schemas previous records next → (tops : List (ℕ × ℕ)) × (whole : Table) × AddsTops schemas previous (of_first (length schemas) puts) previous tops whole
    edited_adds next is =
        let (all, adds) = tops_of schemas previous records (no_rows (length schemas)) next is in
        let (tops, whole, put) = walk_back previous closed.closed (λ t o a b is is'. same_some a b (row_at previous t o) is is') puts removes fits edited.parts 0 all_parts (λ t o root. root.root.live)
        (no_rows (length schemas)) previous beside_start agree_start types_start all next
        (subst (λ (front : Records). AddsTops schemas previous front (no_rows (length schemas)) all next) edited.records_are adds) in
        (tops, whole, subst (λ (front : Records). AddsTops schemas previous front previous tops whole) first_puts put)
