-- Which rows that come have to be tried for closedness: one that stays names what it named, and that was live.
use Rattle.std.proofs.Common.{◌≡◌, ◌<◌, ℕ, inl, inr, List, [], length, get_or, Bool, true, false, Option, Some, None, Result, Ok, Err, refl, sym, ◌∙◌, subst, arith}
use Rattle.std.specs.Prelude.{All, Contains, IfOk, IfSome, IsSome, IsSomeAnd, IsTrue, is_some, not, slice_get, ◌↔◌}
use Rattle.std.specs.List.{AllZip}
use Rattle.std.specs.declared.alloc.AllocError.{AllocError}
use Rattle.std.proofs.lemmas.Bool.{false≢true}
use Rattle.std.proofs.lemmas.List.Elements.{All-contains}
use Rattle.schema_model.specs.declared.schema.name.Name.{Name}
use Rattle.schema_model.specs.declared.schema.Field.{Field}
use Rattle.schema_model.specs.declared.schema.Schema.{Schema}
use Rattle.schema_model.specs.declared.schema.Shape.{Shape}
use Rattle.row_model.specs.declared.row.Row.{Row}
use Rattle.closed_rows.specs.Dangling.{IsClosedAt, TellsType}
use Rattle.schema_model.specs.Parts.{index_of_type, shape_names}
use Rattle.row_model.proofs.NamedTypes.{EachReferred, fields_named, named_fields, row_named}
use Rattle.row_model.specs.Row.{references_of_row}
use Rattle.row_model.specs.Table.{IsClosed, IsLive, IsLiveByName, RowMap, Table, row_at}
use Rattle.row_model.specs.Before.{FitsPast, PastPart, no_part, table_before}
use Rattle.state_moves.specs.Closing.{HasKept, IsTypeClosed, KeepsNamed, NamesKept}
use Rattle.state_moves.proofs.Came.{came_at, gone_at, one_row, part_is}
use Rattle.state_moves.proofs.Tables.{before_off, live_or_none, none_off}

-- the test of the fields of a record tells of the types that it names
pub fields_tell : (P : Name → Type 0) (shape : Shape) (key : Option (List (List ℕ))) (fields fs : List Field) (told : Bool) → shape ≡ Shape.Object key fields → fs ≡ fields → (IsTrue told ↔ EachReferred P fs) → IsTrue told ↔ All P (shape_names shape)
fields_tell P shape key fields fs told is same tells =
    let of_fields : IsTrue told ↔ EachReferred P fields = subst (λ (xs : List Field). IsTrue told ↔ EachReferred P xs) same tells in
    subst (λ (s : Shape). IsTrue told ↔ All P (shape_names s)) (sym is) (λ yes. fields_named P fields (of_fields.0 yes), λ all. of_fields.1 (named_fields P fields all))

-- ---- the rows that stay

some_live : (table : Table) (t o : ℕ) (row : Row) → row_at table t o ≡ Some row → IsLive table t o
some_live table t o row at = subst IsSome (sym at) refl

not_there : (table : Table) (t o : ℕ) → row_at table t o ≡ None → IsLive table t o → ⊥
not_there table t o none live = false≢true (subst IsSome none live)

module _ (schemas : List Schema) (table : Table) (past : List PastPart) (fits : AllZip FitsPast table past) (closed : IsClosed schemas (table_before table past)) where
  abbrev pub old : Table
  old = table_before table past

  -- what has no row and had one left its type
  not_kept : (u q : ℕ) (found : Option RowMap) → slice_get table u ≡ found → HasKept past u → IsLive old u q → row_at table u q ≡ None → ⊥
  not_kept u q None off kept was none = none_off old u q (before_off table past u off) was
  not_kept u q (Some rows) is kept was none =
      let empty : (get_or past u no_part).gone ≡ [] = subst (λ (part : Option PastPart). IfSome part (λ p. p.gone ≡ [])) (part_is table past fits u rows is) kept in
      let (k, inside, at) = (gone_at table past fits u rows is q).1 (was, not_there table u q none) in
      let no_more : k < 0 = subst (λ (xs : List ℕ). k < length xs) empty inside in
      omega (arith, no_more)

  -- where no row left, what was live is live
  still_live : (u q : ℕ) → HasKept past u → IsLive old u q → IsLive table u q
  still_live u q kept was = elim (live_or_none table u q) [
    | inl live ↦ live
    | inr none ↦ absurd (not_kept u q (slice_get table u) refl kept was none)
  ]

  still_named : (q : ℕ) (index : Option ℕ) → IfSome index (HasKept past) → IsSomeAnd index (λ u. IsLive old u q) → IsSomeAnd index (λ u. IsLive table u q)
  still_named q None kept was = absurd was
  still_named q (Some u) kept was = still_live u q kept was

  -- a row that was there names live ordinals alone, where no row left in the types that it names
  stays_closed : (t : ℕ) (schema : Schema) → slice_get schemas t ≡ Some schema → NamesKept schemas past schema.shape → (o : ℕ) → IsLive old t o → IsClosedAt schemas table t o
  stays_closed t schema is kept o was other row there at =
      let same : schema ≡ other = cc in
      let before : row_at old t o ≡ Some row = one_row table past fits t o was (some_live table t o row at) ∙ at in
      let references : List (Name × ℕ) = references_of_row other.shape row in
      let were : All (λ named. IsLiveByName schemas old named.0 named.1) references = closed t o other row there before in
      let keep : All (λ named. KeepsNamed schemas past named.0) references = row_named (KeepsNamed schemas past) other.shape row (subst (λ (s : Schema). NamesKept schemas past s.shape) same kept) in
      λ k d inside. still_named (get_or references k d).1 (index_of_type schemas (get_or references k d).0) (keep k d inside) (were k d inside)

  -- a row that was not there came
  comes_new : (t o : ℕ) (part : PastPart) (found : Option RowMap) → slice_get table t ≡ found → slice_get past t ≡ Some part → row_at old t o ≡ None → IsLive table t o → Contains part.came o
  comes_new t o part None off there none live = absurd (none_off table t o off live)
  comes_new t o part (Some rows) is there none live =
      let alike : Some part ≡ Some (get_or past t no_part) = sym there ∙ part_is table past fits t rows is in
      let same : part ≡ get_or past t no_part = cc in
      subst (λ (p : PastPart). Contains p.came o) (sym same) ((came_at table past fits t rows is o).1 (live, not_there old t o none))

  -- where no row left in the types that it names, a type is closed if the rows that came are
  pub came_closed : (t : ℕ) (schema : Schema) (part : PastPart) → slice_get schemas t ≡ Some schema → slice_get past t ≡ Some part → NamesKept schemas past schema.shape → All (IsClosedAt schemas table t) part.came ↔ IsTypeClosed schemas table t
  came_closed t schema part is there kept = (
    λ came o other row other_is at. elim (live_or_none old t o) [
      | inl was ↦ stays_closed t schema is kept o was other row other_is at
      | inr none ↦
          All-contains (IsClosedAt schemas table t) part.came o came (comes_new t o part (slice_get table t) refl there none (some_live table t o row at)) other row other_is at
    ],
    λ all k d inside. all (get_or part.came k d),
  )

-- ---- what the tries tell

-- a search through all rows of a type
pub searched_closed : (schemas : List Schema) (table : Table) (t : ℕ) (found : Option ℕ) (none : Bool) → TellsType schemas table t found → is_some found ≡ not none → IsTrue none ↔ IsTypeClosed schemas table t
searched_closed schemas table t None true tells is = (λ yes. tells, λ all. refl)
searched_closed schemas table t None false tells is = absurd cc
searched_closed schemas table t (Some o) true tells is = absurd cc
searched_closed schemas table t (Some o) false tells is = (λ no. absurd (false≢true no), λ all. absurd (tells.0 (all o)))

-- an answer that tells one fact tells another that comes to the same
pub tells_same : (X Y : Type 0) (answer : Result Bool AllocError) → (X ↔ Y) → IfOk answer (λ told. IsTrue told ↔ X) → IfOk answer (λ told. IsTrue told ↔ Y)
tells_same X Y (Ok told) same tells = (λ yes. same.0 (tells.0 yes), λ holds. tells.1 (same.1 holds))
tells_same X Y (Err e) same tells = tt
