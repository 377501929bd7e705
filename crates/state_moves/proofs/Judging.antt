-- What is tried of the parts of a patch, and the fault that comes of it.
use Rattle.std.proofs.Common.{◌≡◌, ◌<◌, ◌+◌, ◌⊎◌, ◌∙◌, ℕ, zero, suc, Bool, true, false, cond, List, [], ◌∷◌, ◌++◌, drop, length, get_or, replicate, set, take, Some, inl, inr, refl, ap, sym, subst, arith, drop-cons, drop_of_length-le, eq-eqb}
use Rattle.std.specs.Prelude.{◌==◌, slice_get}
use Rattle.std.proofs.lemmas.Bool.{ne_eqb}
use Rattle.std.proofs.lemmas.List.FromFn.{get_or-map-range_with_len, length-map-range_with_len}
use Rattle.std.proofs.lemmas.List.{take_more}
use Rattle.std.proofs.lemmas.Option.{get_or_from_slice_get, slice_get_within, slice_get-get_or}
use Rattle.schema_model.specs.declared.reason.Reason.TheVariants.{Dangling as dangles}
use Rattle.schema_model.specs.declared.schema.Schema.{Schema}
use Rattle.closed_rows.specs.declared.dangling.Dangling.{Dangling}
use Rattle.closed_rows.specs.Dangling.{TellsDangling}
use Rattle.row_model.specs.Table.{IsClosed, RowMap, Table}
use Rattle.type_rows.specs.declared.fault.RowFault.{RowFault}
use Rattle.type_rows.specs.declared.patch.PatchSection.{PatchSection}
use Rattle.type_rows.specs.MoveFault.{FailsMove}
use Rattle.type_state.specs.State.{State}
use Rattle.type_state.specs.Views.{table_of}
use Rattle.delta_blob.specs.declared.patch.PatchPart.{PatchPart}
use Rattle.blob_frame.specs.declared.fault.BlobFault.{BlobFault}
use Rattle.blob_frame.specs.declared.fault.BlobFault.TheVariants.{Memory}
use Rattle.blob_faults.specs.Blame.{BlamesRow, row_blame}
use Rattle.blob_faults.specs.Judge.{Blames, ◌>>=◌, each_of, nothing}
use Rattle.blob_faults.specs.Rows.{closed, moves}
use Rattle.state_moves.specs.Halves.{current_halves}
use Rattle.state_moves.specs.Judged.{IsFreeMove, moved_table, offset_among, offsets_among, part_moves, state_moved}
use Rattle.state_moves.specs.Moving.{coming_half, coming_halves}

-- ---- tables

-- the rows of one more part are set behind those of the others
moved_behind : (table : Table) (parts : List PatchPart) (rows : List RowMap) (part : PatchPart) (more : RowMap) → length rows ≡ length parts
    → moved_table table (parts ++ part ∷ []) (rows ++ more ∷ []) ≡ set (moved_table table parts rows) part.type_index more
unfolding moved_table
moved_behind table [] [] part more long = refl
moved_behind table [] (r ∷ rows) part more long = absurd (omega (arith, long))
moved_behind table (p ∷ parts) [] part more long = absurd (omega (arith, long))
moved_behind table (p ∷ parts) (r ∷ rows) part more long = moved_behind (set table p.type_index r) parts rows part more (omega (arith, long))

-- the same of the parts of a list up to an index
pub moved_next : (table : Table) (parts : List PatchPart) (i : ℕ) (rows : List RowMap) (part : PatchPart) (more : RowMap) → slice_get parts i ≡ Some part → length rows ≡ length (take i parts)
    → moved_table table (take (i + 1) parts) (rows ++ more ∷ []) ≡ set (moved_table table (take i parts) rows) part.type_index more
moved_next table parts i rows part more at long =
    let taken = take_more parts i part (slice_get_within parts i part at) ∙ ap (λ (p : PatchPart). take i parts ++ p ∷ []) (get_or_from_slice_get parts i part part at) in
    ap (λ (ps : List PatchPart). moved_table table ps (rows ++ more ∷ [])) taken ∙ moved_behind table (take i parts) rows part more long

-- no part leads elsewhere
pub moved_none : (table : Table) (rows : List RowMap) → table ≡ moved_table table [] rows
unfolding moved_table
moved_none table rows = refl

-- where a type is named, its next rows come
pub coming_set : (states : List State) (named : List Bool) (t : ℕ) (state : State) → length named ≡ length states
    → table_of (coming_halves (set states t state) (set named t true)) ≡ set (table_of (coming_halves states named)) t state.other.rows
unfolding coming_halves
coming_set [] [] t state long = refl
coming_set [] (b ∷ named) t state long = absurd (omega (arith, long))
coming_set (s ∷ states) [] t state long = absurd (omega (arith, long))
coming_set (s ∷ states) (b ∷ named) zero state long = refl
coming_set (s ∷ states) (b ∷ named) (suc t) state long = ap (λ (table : Table). (coming_half s b).rows ∷ table) (coming_set states named t state (omega (arith, long)))

-- where no type is named, the current rows stay
pub coming_none : (n : ℕ) (states : List State) → length states ≡ n → table_of (coming_halves states (replicate n false)) ≡ table_of (current_halves states)
unfolding coming_halves
coming_none zero [] long = refl
coming_none zero (s ∷ states) long = absurd (omega (arith, long))
coming_none (suc n) [] long = absurd (omega (arith, long))
coming_none (suc n) (s ∷ states) long = ap (λ (table : Table). s.current.rows ∷ table) (coming_none n states (omega (arith, long)))

-- ---- the rows of a type

-- the fault of a blob that is made of one of the rows of a type is that of its part
pub blames_rows : (at : ℕ) (schema : Schema) (patch : PatchSection) (old : RowMap) (why : RowFault) (fault : BlobFault) → FailsMove schema.shape patch old why
    → (fault ≡ row_blame at schema.name why) ⊎ (fault ≡ Memory) → Blames (moves at schema patch old) IsFreeMove fault
unfolding moves
blames_rows at schema patch old why fault fails (inr is) = inr (subst IsFreeMove (sym is) tt)
blames_rows at schema patch old (RowFault.At reason ordinal) fault fails (inl is) = inl (RowFault.At reason ordinal, λ same. absurd cc, fails, is)
blames_rows at schema patch old (RowFault.Limit limit) fault fails (inl is) = inl (RowFault.Limit limit, λ same. absurd cc, fails, is)
blames_rows at schema patch old RowFault.Memory fault fails (inl is) = inr (subst IsFreeMove (sym is) tt)

-- ---- offsets

-- from one part on the offset of a type is that of the part, where it names the type, and else that from the next one on
offset_from : (parts : List PatchPart) (i : ℕ) (part : PatchPart) (size t : ℕ) → slice_get parts i ≡ Some part
    → offset_among (drop i parts) size t ≡ cond (part.type_index == t) part.at (offset_among (drop (i + 1) parts) size t)
unfolding offset_among
offset_from parts i part size t at =
    let next : suc i ≡ i + 1 = omega arith in
    let behind = drop-cons parts i part (slice_get_within parts i part at) ∙ (λ j. get_or_from_slice_get parts i part part at j ∷ drop (next j) parts) in
    ap (λ (ps : List PatchPart). offset_among ps size t) behind

module _ (parts : List PatchPart) (i : ℕ) (part : PatchPart) (size t : ℕ) (inside : i < length parts) (is : part ≡ get_or parts i part) (so_far : offset_among parts size t ≡ offset_among (drop i parts) size t) where
  at_index : slice_get parts i ≡ Some part
  at_index = slice_get-get_or parts i part inside ∙ ap Some (sym is)

  -- the first part that names the type gives its offset
  pub offset_here : part.type_index ≡ t → part.at ≡ offset_among parts size t
  offset_here names =
      sym (so_far ∙ offset_from parts i part size t at_index ∙ ap (λ (b : Bool). cond b part.at (offset_among (drop (i + 1) parts) size t)) (eq-eqb part.type_index t names))

  -- a part that names another type does not
  pub offset_behind : (part.type_index ≡ t → ⊥) → offset_among parts size t ≡ offset_among (drop (i + 1) parts) size t
  offset_behind other = so_far ∙ offset_from parts i part size t at_index ∙ ap (λ (b : Bool). cond b part.at (offset_among (drop (i + 1) parts) size t)) (ne_eqb part.type_index t other)

-- where no part names the type, its offset is the length of the blob
pub offset_past : (parts : List PatchPart) (i size t : ℕ) → i ≡ length parts → offset_among parts size t ≡ offset_among (drop i parts) size t → size ≡ offset_among parts size t
unfolding offset_among
offset_past parts i size t all so_far = sym (so_far ∙ ap (λ (ps : List PatchPart). offset_among ps size t) (drop_of_length-le parts (omega (arith, all))))

offset_at : (schemas : List Schema) (parts : List PatchPart) (size t : ℕ) → t < length schemas → slice_get (offsets_among schemas parts size) t ≡ Some (offset_among parts size t)
offset_at schemas parts size t inside =
    let long = length-map-range_with_len (offset_among parts size) 0 (length schemas) in
    slice_get-get_or (offsets_among schemas parts size) t 0 (omega (arith, inside, long))
    ∙ ap Some (get_or-map-range_with_len (offset_among parts size) 0 (length schemas) t t 0 inside (omega arith))

-- ---- closedness

-- the fault of a blob that is made of a row is that of the row
pub blames_row : (schemas : List Schema) (parts : List PatchPart) (size : ℕ) (found : Dangling) (schema : Schema) (at : ℕ) (fault : BlobFault) → slice_get schemas found.type_index ≡ Some schema
    → at ≡ offset_among parts size found.type_index → (fault ≡ row_blame at schema.name (RowFault.At dangles found.ordinal)) ⊎ (fault ≡ Memory)
    → BlamesRow (offsets_among schemas parts size) schemas found fault ⊎ IsFreeMove fault
blames_row schemas parts size found schema at fault type_there at_is (inr is) = inr (subst IsFreeMove (sym is) tt)
blames_row schemas parts size found schema at fault type_there at_is (inl is) =
    inl (at, schema, offset_at schemas parts size found.type_index (slice_get_within schemas found.type_index schema type_there) ∙ ap Some (sym at_is), type_there, is)

-- the first row that dangles is what is at fault
pub blames_dangling : (offsets : List ℕ) (schemas : List Schema) (table : Table) (found : Dangling) (fault : BlobFault) → TellsDangling schemas table (Some found)
    → BlamesRow offsets schemas found fault ⊎ IsFreeMove fault → Blames (closed offsets schemas table) IsFreeMove fault
unfolding closed
blames_dangling offsets schemas table found fault tells (inl blamed) = inl (found, tells, blamed)
blames_dangling offsets schemas table found fault tells (inr free) = inr free

-- ---- a state

module _ (schemas : List Schema) (parts : List PatchPart) (size : ℕ) (table : Table) where
  -- the parts pass, and the rows that they lead to are closed
  pub state_passes : (rows : List RowMap) (coming : Table) → (each_of (part_moves schemas table) parts).Passes rows → coming ≡ moved_table table parts rows → IsClosed schemas coming
      → (state_moved schemas parts size table).Passes coming
  unfolding state_moved ◌>>=◌ nothing closed
  state_passes rows coming passes is all = (rows, passes, (tt, subst (IsClosed schemas) is all, is))

  -- a part is at fault
  pub part_blamed : (fault : BlobFault) → Blames (each_of (part_moves schemas table) parts) IsFreeMove fault → Blames (state_moved schemas parts size table) IsFreeMove fault
  unfolding state_moved ◌>>=◌
  part_blamed fault (inl fails) = inl (inl fails)
  part_blamed fault (inr free) = inr free

  -- the parts pass, and a row that they lead to is at fault
  pub row_blamed : (rows : List RowMap) (coming : Table) (fault : BlobFault) → (each_of (part_moves schemas table) parts).Passes rows → coming ≡ moved_table table parts rows
      → Blames (closed (offsets_among schemas parts size) schemas coming) IsFreeMove fault → Blames (state_moved schemas parts size table) IsFreeMove fault
  unfolding state_moved ◌>>=◌
  row_blamed rows coming fault passes is (inl fails) = inl (inr (rows, passes, inl (subst (λ (t : Table). (closed (offsets_among schemas parts size) schemas t).Fails fault) is fails)))
  row_blamed rows coming fault passes is (inr free) = inr free
