-- One of the two states of all types, read as a table.
use Rattle.std.proofs.Common.{◌≡◌, ℕ, zero, suc, ◌<◌, length, arith, [], ◌∷◌, List, map, Option, Some, None, refl, sym, ap, subst, ◌∙◌}
use Rattle.std.specs.Prelude.{◌↔◌, Contains, slice_get, option_map, option_and_then, IsSome, Result, Ok, Err, IfOk}
use Rattle.std.specs.FinMap.{get}
use Rattle.std.specs.declared.alloc.AllocError.{AllocError}
use Rattle.std.proofs.lemmas.Option.{slice_get-map}
use Rattle.row_model.specs.declared.row.Row.{Row}
use Rattle.row_model.specs.Table.{RowMap, IsLive, row_at}
use Rattle.ordinal_map.specs.Assign.{Agree, Holds}
use Rattle.ordinal_map.specs.States.{States}
use Rattle.std.proofs.lemmas.Bool.{false≢true}

module _ (read : States → RowMap) (maps : List States) (t : ℕ) where
  pub row_of : (s : States) (o : ℕ) → slice_get maps t ≡ Some s → row_at (map read maps) t o ≡ get (read s) o
  row_of s o is = ap (option_and_then (λ rows. get rows o)) (slice_get-map read maps t ∙ ap (option_map read) is)

-- a row that stands in one of the two states is the one that the states hold
held_there : (rows previous current : RowMap) (row : Row) (o : ℕ) → Agree previous current → ((other : Row) → get rows o ≡ Some other → Holds previous current other o) → (found : Option Row) → get rows o ≡ found → IsSome found
    → Holds previous current row o → found ≡ Some row
held_there rows previous current row o agree either None is live holds = absurd (false≢true live)
held_there rows previous current row o agree either (Some other) is live holds = ap Some (agree.one_row o other row (either other is) holds)

pub row_there : (read : States → RowMap) (maps : List States) (t o : ℕ) (s : States) (row : Row) → ((other : Row) → get (read s) o ≡ Some other → Holds s.previous s.current other o) → slice_get maps t ≡ Some s → Agree s.previous s.current
    → IsLive (map read maps) t o → Holds s.previous s.current row o → row_at (map read maps) t o ≡ Some row
row_there read maps t o s row either is agree live holds =
    row_of read maps t s o is ∙ held_there (read s) s.previous s.current row o agree either (get (read s) o) refl (subst IsSome (row_of read maps t s o is) live) holds

pub within : (read : States → RowMap) (maps : List States) (t o : ℕ) → IsLive (map read maps) t o → t < length maps
within read [] t o live = absurd (false≢true live)
within read (s ∷ maps) zero o live = omega arith
within read (s ∷ maps) (suc t) o live = let rest = within read maps t o live in omega (arith, rest)

pub copied : (result : Result Row AllocError) (row : Row) (found : Option Row) → found ≡ Some row → IfOk result (λ r. r ≡ row) → IfOk result (λ r. found ≡ Some r)
copied (Ok copy) row found is same = is ∙ ap Some (sym same)
copied (Err e) row found is same = tt

-- the ordinals of a type's rows in one of the two states
pub members_of : (read : States → RowMap) (maps : List States) (t : ℕ) (s : States) (set : List ℕ) → slice_get maps t ≡ Some s → ((o : ℕ) → Contains set o ↔ IsSome (get (read s) o))
    → (o : ℕ) → Contains set o ↔ IsLive (map read maps) t o
members_of read maps t s set is has o = subst (λ found. Contains set o ↔ IsSome found) (sym (row_of read maps t s o is)) (has o)
