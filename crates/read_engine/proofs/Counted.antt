-- How many ordinals came in the last step, in the types of the indexes of both kinds.
use Rattle.std.proofs.Common.{◌≡◌, ◌<◌, ◌+◌, ◌∙◌, ℕ, List, [], ◌∷◌, ◌++◌, length, map, get_or, Option, Some, refl, sym, ap, subst, arith}
use Rattle.std.specs.Prelude.{All, Contains, slice_get, sum_by, ◌↔◌}
use Rattle.std.specs.List.{AllZip}
use Rattle.std.specs.FinMap.{empty}
use Rattle.std.specs.Option.{option_map_or}
use Rattle.std.proofs.lemmas.List.Elements.{All-append, All-cons, All-head, All-nil, All-tail}
use Rattle.std.proofs.lemmas.List.Kept.{AllPairs-from_increasing}
use Rattle.std.proofs.lemmas.List.Sums.{sum_by-append, sum_by-cons}
use Rattle.std.proofs.lemmas.Option.{slice_get-get_or}
use Rattle.row_model.specs.Table.{RowMap, Table, IsLive}
use Rattle.schema_model.specs.declared.model.walk_path.WalkPath.{WalkPath}
use Rattle.key_index.specs.Indexed.{Indexed}
use Rattle.hol_paths.specs.Walked.{Walked}
use Rattle.row_model.specs.Before.{FitsPast, PastPart, no_part, table_before}
use Rattle.read_engine.specs.Indexes.{AreNew, CountsNew}
use Rattle.read_engine.specs.Kept.{came_all, count_came, index_kept, paths_of}
use Rattle.read_engine.specs.Position.{Index, Position, rows_now}
use Rattle.state_moves.proofs.Tables.{fits_at}
use Rattle.state_moves.proofs.Came.{came_at, part_is}

module _ (position : Position) (past : List PastPart) (fits : AllZip FitsPast (rows_now position) past) (before : position.before ≡ table_before (rows_now position) past) where
  are_new : (t : ℕ) (rows : RowMap) → slice_get (rows_now position) t ≡ Some rows → AreNew position t (get_or past t no_part).came
  are_new t rows is = record {
    rising = AllPairs-from_increasing (get_or past t no_part).came (fits_at (rows_now position) past t rows (get_or past t no_part) fits is (part_is (rows_now position) past fits t rows is)).came_rise;
    are = λ o.
        subst (λ (old : Table). Contains (get_or past t no_part).came o ↔ (IsLive (rows_now position) t o × ¬ IsLive old t o)) (sym before) (came_at (rows_now position) past fits t rows is o);
  }

  counts_one : (t : ℕ) → slice_get past t ≡ Some (get_or past t no_part) → count_came past t ≡ length (get_or past t no_part).came
  counts_one t is = ap (λ (found : Option PastPart). option_map_or (λ part. length part.came) found 0) is

  -- of any types
  counts_types : (types : List ℕ) → All (λ t. t < length (rows_now position)) types → CountsNew position types (sum_by (count_came past) types)
  counts_types [] all = refl
  counts_types (t ∷ types) all =
      let within : t < length (rows_now position) = All-head (λ t. t < length (rows_now position)) t types all in
      let rows = get_or (rows_now position) t empty in
      let is : slice_get (rows_now position) t ≡ Some rows = slice_get-get_or (rows_now position) t empty within in
      let one = counts_one t (part_is (rows_now position) past fits t rows is) in
      let more = sum_by-cons (count_came past) t types in (
        (get_or past t no_part).came,
        sum_by (count_came past) types,
        are_new t rows is,
        counts_types types (All-tail (λ t. t < length (rows_now position)) t types all),
        omega (arith, one, more),
      )

  -- of indexes of both kinds
  pub counts_new : (kept : List Indexed) (walks : List Walked) → All (λ k. k.type_index < length (rows_now position)) kept → All (λ w. w.path.type_index < length (rows_now position)) walks
      → CountsNew position (map (λ (i : Index). i.type_index) (map index_kept kept) ++ map (λ (path : WalkPath). path.type_index) (paths_of walks)) (came_all past kept walks)
  counts_new kept walks all all_walks =
      let types = map (λ (i : Index). i.type_index) (map index_kept kept) in
      let behind = map (λ (path : WalkPath). path.type_index) (paths_of walks) in
      let sum : sum_by (count_came past) (types ++ behind) ≡ came_all past kept walks = sum_by-append (count_came past) types behind ∙ (λ i. of_indexes kept i + of_walks walks i) in
      subst (CountsNew position (types ++ behind)) sum (counts_types (types ++ behind) (All-append (λ t. t < length (rows_now position)) types behind (indexes_within kept all) (walks_within walks all_walks)))
    where
      of_indexes : (kept : List Indexed) → sum_by (count_came past) (map (λ (i : Index). i.type_index) (map index_kept kept)) ≡ sum_by (λ (k : Indexed). count_came past k.type_index) kept
      of_indexes [] = refl
      of_indexes (k ∷ kept) =
          sum_by-cons (count_came past) k.type_index (map (λ (i : Index). i.type_index) (map index_kept kept)) ∙ ap (λ n. count_came past k.type_index + n) (of_indexes kept) ∙ sym (sum_by-cons (λ (k : Indexed). count_came past k.type_index) k kept)

      of_walks : (walks : List Walked) → sum_by (count_came past) (map (λ (path : WalkPath). path.type_index) (paths_of walks)) ≡ sum_by (λ (w : Walked). count_came past w.path.type_index) walks
      of_walks [] = refl
      of_walks (w ∷ walks) =
          sum_by-cons (count_came past) w.path.type_index (map (λ (path : WalkPath). path.type_index) (paths_of walks)) ∙ ap (λ n. count_came past w.path.type_index + n) (of_walks walks) ∙ sym (sum_by-cons (λ (w : Walked). count_came past w.path.type_index) w walks)

      indexes_within : (kept : List Indexed) → All (λ k. k.type_index < length (rows_now position)) kept → All (λ t. t < length (rows_now position)) (map (λ (i : Index). i.type_index) (map index_kept kept))
      indexes_within [] all = All-nil (λ t. t < length (rows_now position))
      indexes_within (k ∷ kept) all =
          All-cons (λ t. t < length (rows_now position)) k.type_index (map (λ (i : Index). i.type_index) (map index_kept kept)) (All-head (λ (k : Indexed). k.type_index < length (rows_now position)) k kept all)
          (indexes_within kept (All-tail (λ (k : Indexed). k.type_index < length (rows_now position)) k kept all))

      walks_within : (walks : List Walked) → All (λ w. w.path.type_index < length (rows_now position)) walks → All (λ t. t < length (rows_now position)) (map (λ (path : WalkPath). path.type_index) (paths_of walks))
      walks_within [] all = All-nil (λ t. t < length (rows_now position))
      walks_within (w ∷ walks) all =
          All-cons (λ t. t < length (rows_now position)) w.path.type_index (map (λ (path : WalkPath). path.type_index) (paths_of walks)) (All-head (λ (w : Walked). w.path.type_index < length (rows_now position)) w walks all)
          (walks_within walks (All-tail (λ (w : Walked). w.path.type_index < length (rows_now position)) w walks all))
