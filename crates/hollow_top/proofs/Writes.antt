-- What writing the line of one row of a table leaves of the sink.
use Rattle.std.proofs.Common.{◌≡◌, ◌<◌, ◌≤◌, ℕ, List, [], ◌∷◌, ◌++◌, length, take, Option, Some, None, Result, Ok, Err, IfSome, refl, sym, ◌∙◌, subst, arith, append-nil}
use Rattle.std.specs.List.{slice_get}
use Rattle.std.specs.Prelude.{IsErrAnd}
use Rattle.std.specs.Io.KnownBytes.{Appends}
use Rattle.row_model.specs.declared.row.Row.{Row}
use Rattle.schema_model.specs.declared.schema.Schema.{Schema}
use Rattle.row_model.specs.Table.{Table, IsTableOf, row_at}
use Rattle.hollow_top.specs.declared.stop.Stop.{Stop}
use Rattle.hollow_top.specs.declared.stop.Stop.TheVariants.{Memory, Sink, Store as StoreFailed}
use Rattle.hollow_top.specs.HeldLines.{Held, HoldsLines, LeavesText}
use Rattle.hollow_top.specs.RowLines.{IsRowLine}
use Rattle.hollow_top.proofs.Fronts.{one_line}
use Rattle.hollow_top.proofs.Printed.{row_has_line}

-- what holds where there is a value, shown or used at that value
pub if_found : {A : Type 0} (o : Option A) (P : A → Type 0) → ((x : A) → o ≡ Some x → P x) → IfSome o P
if_found None P holds = tt
if_found (Some x) P holds = holds x refl

pub found_if : {A : Type 0} (o : Option A) (P : A → Type 0) (x : A) → IfSome o P → o ≡ Some x → P x
found_if None P x holds is = absurd cc
found_if (Some y) P x holds is = let same : y ≡ x = cc in subst P same holds

-- the failure of an answer
pub failure : {T E : Type 0} (r : Result T E) (stop other : E) → IsErrAnd r (λ e. e ≡ stop) → r ≡ Err other → stop ≡ other
failure (Ok x) stop other is was = absurd is
failure (Err e) stop other is was = let same : e ≡ other = cc in sym is ∙ same

-- an answer that is this failure
pub failed : {T E : Type 0} (r : Result T E) (stop : E) (P : Result T E → Type 0) → IsErrAnd r (λ e. e ≡ stop) → P (Err stop) → P r
failed (Ok x) stop P is holds = absurd is
failed (Err e) stop P is holds = subst (λ s. P (Err s)) (sym is) holds

-- a line that waits already, and nothing more is put
pub line_waits : (line : List ℕ) (taken : Option (List ℕ)) (waiting : List ℕ) (after : Held) (r : Result Unit Stop) → LeavesText [] (taken, waiting ++ line) after r → LeavesText line (taken, waiting) after r
line_waits line taken waiting after (Ok done) left =
    subst (λ bytes. (gone : List ℕ) × (bytes ≡ gone ++ after.1) × Appends taken after.0 gone) (append-nil (waiting ++ line)) left
line_waits line taken waiting after (Err Sink) left =
    subst (λ bytes. (count : ℕ) × (count < length bytes) × Appends taken after.0 (take count bytes)) (append-nil (waiting ++ line)) left
line_waits line taken waiting after (Err Memory) left =
    subst (λ bytes. (count : ℕ) × (count ≤ length bytes) × Appends taken after.0 (take count bytes)) (append-nil (waiting ++ line)) left
line_waits line taken waiting after (Err StoreFailed) left = left

module _ (schemas : List Schema) (table : Table) (t ordinal : ℕ) (before after : Held) where
  -- the lines of the one row of a table that stands there
  abbrev pub LeavesRow : Result Unit Stop → Type 0
  LeavesRow r = IfSome (slice_get schemas t) (λ schema. IfSome (row_at table t ordinal) (λ row. HoldsLines ((schema, (ordinal, row)) ∷ []) before after r))

  -- its line was put
  pub row_put : (r : Result Unit Stop)
      → ((schema : Schema) (row : Row) → slice_get schemas t ≡ Some schema → row_at table t ordinal ≡ Some row → (line : List ℕ) × IsRowLine (schema, (ordinal, row)) line × LeavesText line before after r) → LeavesRow r
  row_put r put = if_found (slice_get schemas t) _ (λ schema at. if_found (row_at table t ordinal) _ (λ row live.
      (let line = put schema row at live in (line.0, one_line (schema, (ordinal, row)) line.0 line.1, line.2))))

  -- its line was not made
  pub row_not_made : IsTableOf schemas table → Appends before.0 after.0 [] → LeavesRow (Err Memory)
  row_not_made fits same =
      if_found (slice_get schemas t) _ (λ schema at. if_found (row_at table t ordinal) _ (λ row live.
      (let line = row_has_line schema ordinal row (fits.rows t ordinal schema row at live) in
      (line.0, one_line (schema, (ordinal, row)) line.0 line.1, (0, omega arith, same)))))
