-- The trial whether a table is closed is settled: where it is not, there is a first row that names an ordinal which is not live.
use Rattle.std.proofs.Common.{◌≡◌, ◌<◌, ℕ, List, Option, None, Some, refl, sym, ◌∙◌, length, inl, inr}
use Rattle.std.specs.Prelude.{slice_get}
use Rattle.std.proofs.lemmas.Bool.{cases_Bool, false≢true}
use Rattle.std.proofs.lemmas.Option.{none-some}
use Rattle.schema_model.specs.declared.reason.Reason.TheVariants.{Dangling as dangles}
use Rattle.schema_model.specs.declared.schema.Schema.{Schema}
use Rattle.closed_rows.specs.declared.dangling.Dangling.{Dangling}
use Rattle.closed_rows.specs.Dangling.{IsClosedAt, TellsDangling, are_live}
use Rattle.row_model.specs.Row.{references_of_row}
use Rattle.row_model.specs.Table.{Table, IsClosed}
use Rattle.closed_rows.proofs.Danglings.{told_live}
use Rattle.blob_frame.specs.declared.fault.BlobFault.TheVariants as fault
use Rattle.blob_faults.specs.Rows.{closed}
use Rattle.blob_faults.specs.Settles.{Settles}
use Rattle.blob_faults.proofs.LeastNumber.{no_number}
use Rattle.blob_faults.proofs.SettledModels.{offset_there}

module _ (schemas : List Schema) (table : Table) where
  -- a row that cannot but name live ordinals alone does so, since that can be tested
  closed_surely : (t ordinal : ℕ) → ((IsClosedAt schemas table t ordinal → ⊥) → ⊥) → IsClosedAt schemas table t ordinal
  closed_surely t ordinal surely schema row at there =
      let told = told_live schemas table (references_of_row schema.shape row) in
      elim (cases_Bool (are_live schemas table (references_of_row schema.shape row))) [
        | inl live ↦ told.0 live
        | inr dead ↦ absurd (surely (λ closes. false≢true (sym dead ∙ told.1 (closes schema row at there))))
      ]

  -- some row of the type names an ordinal that is not live
  abbrev IsOpenType : ℕ → Type 0
  IsOpenType t = (ordinal : ℕ) × (IsClosedAt schemas table t ordinal → ⊥)

  -- where no row is the first that dangles, no type is the first that is open
  no_first_type : ((row : Dangling) → TellsDangling schemas table (Some row) → ⊥) → (t : ℕ) → IsOpenType t → ((u : ℕ) → u < t → IsOpenType u → ⊥) → ⊥
  no_first_type none t some before =
      no_number (λ ordinal. IsClosedAt schemas table t ordinal → ⊥) (λ ordinal opens earlier. none record { type_index = t; ordinal = ordinal } (
        (opens, λ other less. closed_surely t other (earlier other less)),
        λ u other less. closed_surely u other (λ opened. before u less (other, opened)),
      )) some.0 some.1

  -- a table of which no row is the first that dangles is closed
  closed_unless : ((row : Dangling) → TellsDangling schemas table (Some row) → ⊥) → IsClosed schemas table
  closed_unless none t ordinal schema row at there =
      closed_surely t ordinal (λ opened. no_number IsOpenType (no_first_type none) t (ordinal, opened)) schema row at there

  -- a row that dangles is one of a type
  type_there : (t ordinal : ℕ) → (IsClosedAt schemas table t ordinal → ⊥) → (schema : Schema) × (slice_get schemas t ≡ Some schema)
  type_there t ordinal opens = elim (slice_get schemas t) as (λ (o : Option Schema). slice_get schemas t ≡ o → (schema : Schema) × (slice_get schemas t ≡ Some schema)) [
    | None ↦ λ none. absurd (opens (λ schema row at there. absurd (none-some schema (sym none ∙ at))))
    | Some schema ↦ λ some. (schema, some)
  ] refl

-- a table is closed, or a row of it is the first that dangles
pub settles_closed : (offsets : List ℕ) (schemas : List Schema) (table : Table) → length offsets ≡ length schemas → Settles (closed offsets schemas table)
unfolding closed
settles_closed offsets schemas table same no_pass no_fail =
    no_pass tt (closed_unless schemas table (λ row tells.
    let of_type = type_there schemas table row.type_index row.ordinal tells.0.0 in
    let at = offset_there offsets schemas row.type_index of_type.0 same of_type.1 in
    no_fail (fault.BadRow at.0 dangles of_type.0.name row.ordinal) (row, tells, (at.0, of_type.0, at.1, of_type.1, refl))))
