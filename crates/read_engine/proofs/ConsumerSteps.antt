-- What a step tells, of a consumer by the tag and the model that it shows: those of its position, where it has one.
use Rattle.std.proofs.Common.{◌≡◌, ◌⊎◌, inl, inr, ℕ, ℤ, List, [], ◌∷◌, Option, Some, None, Result, Ok, Err, IfErr, IfSome, refl, subst, sym}
use Rattle.std.specs.Prelude.{All, IsSomeAnd, OnErr, OnOk}
use Rattle.hol_io.specs.declared.name.BlobName.{BlobName}
use Rattle.hol_io.specs.Store.{Store, told}
use Rattle.schema_model.specs.declared.schema.Schema.{Schema}
use Rattle.blob_frame.specs.declared.fault.BlobFault.{BlobFault}
use Rattle.blob_frame.specs.declared.fault.BlobFault.TheVariants as fault
use Rattle.delta_blob.specs.declared.patch.Patch.{Patch}
use Rattle.delta_blob.specs.declared.patch.PatchPart.{PatchPart}
use Rattle.blob_faults.specs.Judge.{◌>>=◌, each_of, item_at, nothing}
use Rattle.blob_faults.specs.Rows.{closed, moves}
use Rattle.delta_blob.specs.Reads.{IsCountLimit, IsDeltaFault, IsWholePart, TellsDelta}
use Rattle.row_model.specs.Table.{RowMap, Table}
use Rattle.type_rows.specs.MoveFault.{FailsMove}
use Rattle.schema_model.specs.declared.limit.Limit.{Limit}
use Rattle.schema_model.specs.declared.limit.Limit.TheVariants.{Bytes, Items, Ordinals, Words}
use Rattle.schema_model.specs.declared.schema.Shape.{Shape}
use Rattle.schema_model.specs.declared.schema.name.Name.{Name}
use Rattle.snapshot_blob.specs.Stated.{IsTypeLimit}
use Rattle.state_moves.specs.Judged.{IsFreeMove, part_moves, state_moved}
use Rattle.blob_faults.specs.Blame.{row_blame}
use Rattle.type_rows.specs.declared.fault.RowFault.{RowFault}
use Rattle.type_rows.specs.declared.patch.PatchSection.{PatchSection}
use Rattle.read_engine.specs.Position.{IsPosition, Position, rows_now}
use Rattle.read_engine.specs.Taken.{BlamesParts, CountsTaken, IsTaken, TellsTaken}
use Rattle.read_engine.specs.Taking.{CountsPart, FollowsFrom, IsStepFault, TellsStep}
use Rattle.read_engine.specs.Walking.{schemas_at, tag_at}
use Rattle.read_engine.proofs.StepsTold.{part_counted, refused_told, taken_told, untaken_told}

-- of one that has no state nothing is told
nowhere : (held : Option Store) → IfSome held (λ store. Unit {0})
nowhere None = tt
nowhere (Some store) = tt

-- the parts that are read are whole ones of its model
pub whole_parts : (old : Option Position) (schemas : List Schema) (read parts : List PatchPart) → schemas ≡ schemas_at old → parts ≡ read → All (IsWholePart schemas) read → IfSome old (λ from. All (IsWholePart from.schemas) parts)
whole_parts None schemas read parts schemas_are same whole = tt
whole_parts (Some from) schemas read parts schemas_are same whole =
    subst (All (IsWholePart from.schemas)) (sym same) (subst (λ (s : List Schema). All (IsWholePart s) read) schemas_are whole)

-- what holds of its position by some parts holds by the same parts
pub by_same : (old : Option Position) (P : List PatchPart → Position → Type 0) (read parts : List PatchPart) → parts ≡ read → IfSome old (P parts) → IfSome old (P read)
by_same old P read parts same holds = subst (λ (ps : List PatchPart). IfSome old (P ps)) same holds

module _ (name : BlobName) (held : Option Store) (tag : ℤ) (schemas : List Schema) where
  -- what the delta tells of this tag and model
  abbrev pub Tells : Result Patch BlobFault → Type 0
  Tells answer = IfSome held (λ store. TellsDelta name tag schemas (told held name) answer)

  of_position : (from : Position) (answer : Result Patch BlobFault) → tag ≡ from.tag → schemas ≡ from.schemas → Tells answer → IfSome held (λ store. TellsDelta name from.tag from.schemas (told held name) answer)
  of_position from answer tag_is schemas_are tells =
      subst (λ (t : ℤ). IfSome held (λ store. TellsDelta name t from.schemas (told held name) answer)) tag_is
      (subst (λ (s : List Schema). IfSome held (λ store. TellsDelta name tag s (told held name) answer)) schemas_are tells)

  -- a delta that cannot be read against the model
  pub unread : (old now : Option Position) → tag ≡ tag_at old → schemas ≡ schemas_at old → (found : BlobFault) (answer : Result (Unit {0}) BlobFault) → answer ≡ Err found → Tells (Err found)
      → IfSome held (λ store. IfSome old (λ from. TellsStep name (told held name) from now answer))
  unread None now tag_is schemas_are found answer is tells = nowhere held
  unread (Some from) now tag_is schemas_are found answer is tells = refused_told name from held now found answer is (of_position from (Err found) tag_is schemas_are tells)

  module _ (patch : Patch) (read : Tells (Ok patch)) where
    -- a delta whose parts are taken
    taken : (old now : Option Position) → IfSome old IsPosition → tag ≡ tag_at old → schemas ≡ schemas_at old → IfSome old (λ from. IsSomeAnd now (IsTaken patch.destination patch.parts from))
        → IfSome held (λ store. IfSome old (λ from. TellsStep name (told held name) from now (Ok tt)))
    taken None now position tag_is schemas_are takes = nowhere held
    taken (Some from) None position tag_is schemas_are takes = absurd takes
    taken (Some from) (Some to) position tag_is schemas_are takes = taken_told name from position patch held to (of_position from (Ok patch) tag_is schemas_are read) takes

    -- a delta whose parts are not taken
    untaken : (old now : Option Position) → IfSome old IsPosition → tag ≡ tag_at old → schemas ≡ schemas_at old → (found : BlobFault) → IfSome old (BlamesParts patch.length patch.parts found)
        → IfSome held (λ store. IfSome old (λ from. TellsStep name (told held name) from now (Err found)))
    untaken None now position tag_is schemas_are found blames = nowhere held
    untaken (Some from) now position tag_is schemas_are found blames = untaken_told name from position patch held now found (of_position from (Ok patch) tag_is schemas_are read) blames

    -- what is counted where memory is refused
    counted : (old : Option Position) → IfSome old IsPosition → tag ≡ tag_at old → schemas ≡ schemas_at old → (before after : ℕ) → IfSome old (λ from. (after ≡ before) ⊎ CountsTaken patch.destination patch.parts from before after)
        → IfSome held (λ store. IfSome old (λ from. (after ≡ before) ⊎ CountsPart (told held name) from before after))
    counted None position tag_is schemas_are before after counts = nowhere held
    counted (Some from) position tag_is schemas_are before after counts = part_counted name from position patch held before after (of_position from (Ok patch) tag_is schemas_are read) counts

    -- what the answer to the move tells of the delta
    pub moved_told : (old now : Option Position) → IfSome old IsPosition → tag ≡ tag_at old → schemas ≡ schemas_at old → (answer : Result (Unit {0}) BlobFault)
        → IfSome old (λ from. TellsTaken patch.length patch.destination patch.parts from now answer) → IfSome held (λ store. IfSome old (λ from. TellsStep name (told held name) from now answer))
    moved_told old now position tag_is schemas_are (Ok done) tells = taken old now position tag_is schemas_are tells
    moved_told old now position tag_is schemas_are (Err found) tells = untaken old now position tag_is schemas_are found tells

    pub counted_told : (old : Option Position) → IfSome old IsPosition → tag ≡ tag_at old → schemas ≡ schemas_at old → (before after : ℕ) (answer : Result (Unit {0}) BlobFault)
        → OnErr answer (IfSome old (λ from. (after ≡ before) ⊎ CountsTaken patch.destination patch.parts from before after))
        → OnErr answer (IfSome held (λ store. IfSome old (λ from. (after ≡ before) ⊎ CountsPart (told held name) from before after)))
    counted_told old position tag_is schemas_are before after (Ok done) counts = tt
    counted_told old position tag_is schemas_are before after (Err found) counts = counted old position tag_is schemas_are before after counts

-- ---- what is so of every step

taken_follows : (tag : ℤ) (parts : List PatchPart) (from : Position) (now : Option Position) → IsSomeAnd now (IsTaken tag parts from) → IsSomeAnd now (FollowsFrom from)
taken_follows tag parts from None none = absurd none
taken_follows tag parts from (Some to) taken =
    subst (FollowsFrom from) (sym taken.is) record { model = refl; before = refl; indexes = refl; walks = taken.keeps }

pub step_follows : (size : ℕ) (tag : ℤ) (parts : List PatchPart) (old now : Option Position) (answer : Result (Unit {0}) BlobFault)
    → IfSome old (λ from. TellsTaken size tag parts from now answer) → OnOk answer (IfSome old (λ from. IsSomeAnd now (FollowsFrom from)))
step_follows size tag parts None now (Ok done) tells = tt
step_follows size tag parts (Some from) now (Ok done) tells = taken_follows tag parts from now tells
step_follows size tag parts old now (Err found) tells = tt

-- ---- which faults come

count_limit : (limit : Limit) → IsCountLimit limit → IsTypeLimit limit
count_limit Ordinals of = tt
count_limit Items of = tt
count_limit _ of = absurd of

read_kind : (name : BlobName) (tag : ℤ) (found : BlobFault) → IsDeltaFault name tag found → IsStepFault name tag found
read_kind name tag (fault.NoBlob other) kind = kind
read_kind name tag (fault.Large limit) (inl whole) = inl whole
read_kind name tag (fault.Large limit) (inr of) = inr (count_limit limit of)
read_kind name tag (fault.OtherOrigin found at) kind = kind
read_kind name tag (fault.BadRow place why of ordinal) kind = absurd kind
read_kind name tag (fault.Bad place why) kind = tt
read_kind name tag (fault.OtherModel of) kind = tt
read_kind name tag fault.Store kind = tt
read_kind name tag fault.Memory kind = tt

-- the faults of the delta
pub delta_kind : (name : BlobName) (tag : ℤ) (old : Option Position) → tag ≡ tag_at old → (found : BlobFault) (answer : Result (Unit {0}) BlobFault) → answer ≡ Err found → IsDeltaFault name tag found
    → IfErr answer (λ fault. IfSome old (λ from. IsStepFault name from.tag fault))
delta_kind name tag None tag_is found answer is kind = subst (λ (a : Result (Unit {0}) BlobFault). IfErr a (λ fault. Unit {0})) (sym is) tt
delta_kind name tag (Some from) tag_is found answer is kind = subst (λ (a : Result (Unit {0}) BlobFault). IfErr a (IsStepFault name from.tag)) (sym is) (read_kind name from.tag found (subst (λ (t : ℤ). IsDeltaFault name t found) tag_is kind))

-- rows that are not moved pass a limit on words or bytes, if any
move_limit : (shape : Shape) (patch : PatchSection) (old : RowMap) (limit : Limit) → FailsMove shape patch old (RowFault.Limit limit) → IsTypeLimit limit
move_limit shape patch old Words fails = tt
move_limit shape patch old Bytes fails = tt
move_limit shape patch old _ fails = absurd fails

module _ (name : BlobName) (tag : ℤ) where
  row_kind : (at : ℕ) (of : Name) (shape : Shape) (patch : PatchSection) (old : RowMap) (why : RowFault) → FailsMove shape patch old why → IsStepFault name tag (row_blame at of why)
  row_kind at of shape patch old (RowFault.At reason ordinal) fails = tt
  row_kind at of shape patch old (RowFault.Limit limit) fails = inr (move_limit shape patch old limit fails)
  row_kind at of shape patch old RowFault.Memory fails = tt

  part_kind : (schemas : List Schema) (table : Table) (part : PatchPart) (found : BlobFault) → (part_moves schemas table part).Fails found → IsStepFault name tag found
  unfolding part_moves ◌>>=◌ item_at moves
  part_kind schemas table part found (inl none) = absurd none
  part_kind schemas table part found (inr (schema, at, (why, some, fails, is))) =
      subst (IsStepFault name tag) (sym is) (row_kind part.at schema.name schema.shape part.section _ why fails)

  parts_kind : (schemas : List Schema) (table : Table) (parts : List PatchPart) (found : BlobFault) → (each_of (part_moves schemas table) parts).Fails found → IsStepFault name tag found
  unfolding each_of ◌>>=◌ nothing
  parts_kind schemas table [] found none = absurd none
  parts_kind schemas table (part ∷ parts) found (inl fails) = part_kind schemas table part found fails
  parts_kind schemas table (part ∷ parts) found (inr (rows, passes, inl fails)) = parts_kind schemas table parts found fails
  parts_kind schemas table (part ∷ parts) found (inr (rows, passes, inr none)) = absurd none.2

  state_kind : (schemas : List Schema) (parts : List PatchPart) (size : ℕ) (table : Table) (found : BlobFault) → (state_moved schemas parts size table).Fails found → IsStepFault name tag found
  unfolding state_moved ◌>>=◌ closed nothing
  state_kind schemas parts size table found (inl fails) = parts_kind schemas table parts found fails
  state_kind schemas parts size table found (inr (rows, passes, inl (row, tells, (at, schema, here, there, is)))) = subst (IsStepFault name tag) (sym is) tt
  state_kind schemas parts size table found (inr (rows, passes, inr none)) = absurd none.2

  free_kind : (found : BlobFault) → IsFreeMove found → IsStepFault name tag found
  free_kind fault.Memory free = tt
  free_kind _ free = absurd free

-- the faults of the move
pub moved_kind : (name : BlobName) (old now : Option Position) (size : ℕ) (tag : ℤ) (parts : List PatchPart) (answer : Result (Unit {0}) BlobFault) → IfSome old (λ from. TellsTaken size tag parts from now answer)
    → IfErr answer (λ fault. IfSome old (λ from. IsStepFault name from.tag fault))
moved_kind name old now size tag parts (Ok done) tells = tt
moved_kind name None now size tag parts (Err found) tells = tt
moved_kind name (Some from) now size tag parts (Err found) (inl fails) = state_kind name from.tag from.schemas parts size (rows_now from) found fails
moved_kind name (Some from) now size tag parts (Err found) (inr free) = free_kind name from.tag found free
