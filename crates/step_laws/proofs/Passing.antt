-- What the parts of a delta that pass all that is tried of them do to the rows of a table.
use Rattle.std.proofs.Common.{◌≡◌, ◌≤◌, ℕ, ℤ, List, [], ◌∷◌, length, Some, sym, ap, subst}
use Rattle.std.specs.Prelude.{All, slice_get}
use Rattle.std.specs.List.{AllZip}
use Rattle.std.proofs.lemmas.List.Elements.{All-cons, All-head, All-nil, All-tail}
use Rattle.schema_model.specs.declared.limit.Limit.TheVariants.{Blob}
use Rattle.schema_model.specs.declared.schema.Schema.{Schema}
use Rattle.schema_model.specs.Limit.{number_of_limit}
use Rattle.schema_model.specs.Model.{IsModel}
use Rattle.row_model.specs.BothStates.{rows_in}
use Rattle.row_model.specs.Table.{IsClosed, RowMap, Table}
use Rattle.type_rows.specs.Patches.{IsMovedBy, places_in}
use Rattle.blob_frame.specs.declared.header.Header.{Header}
use Rattle.blob_frame.specs.Header.{HeaderIs}
use Rattle.blob_faults.specs.Judge.{Judge, ◌>>=◌, each_of, item_at, nothing, test}
use Rattle.blob_faults.specs.Reading.{short, standing, starts}
use Rattle.blob_faults.specs.Rows.{closed, moves}
use Rattle.blob_faults.proofs.SettledRows.{HasFields}
use Rattle.delta_blob.specs.declared.part.DeltaPart.{DeltaPart}
use Rattle.delta_blob.specs.declared.patch.PatchPart.{PatchPart}
use Rattle.delta_blob.specs.Judged.{delta_of}
use Rattle.delta_blob.specs.Patch.{parts_for}
use Rattle.delta_blob.specs.Reads.{IsOfModel, IsPatchAt}
use Rattle.delta_blob.proofs.GivenParts.{body_given}
use Rattle.delta_blob.proofs.PatchTelling.{passes_patch}
use Rattle.delta_blob.proofs.SeenParts.{IsPlainPart, there_plain}
use Rattle.state_moves.specs.Judged.{moved_table, part_moves, state_moved}
use Rattle.step_laws.proofs.SeenFields.{seen_fields}

-- ---- a delta

-- The blob is a delta from this tag of these types of the model.
pub record IsDelta (blob : List ℕ) (current : ℤ) (schemas : List Schema) (head : Header) (named : List PatchPart) : Type 0 where
  pub start : ℕ
  pub few : length blob ≤ number_of_limit Blob
  pub begins : HeaderIs blob start head
  pub origin : head.origin ≡ current
  pub read : IsPatchAt blob start schemas named

-- what passes as a delta is one
pub passed_delta : (schemas : List Schema) → IsModel schemas → (blob : List ℕ) (current : ℤ) (head : Header) (named : List PatchPart) → (delta_of blob current schemas).Passes (head, named)
    → IsDelta blob current schemas head named
unfolding delta_of ◌>>=◌ short test standing starts nothing
passed_delta schemas model blob current head named (u, few, ((h, n), begins, (w, same, (ns, passes, is)))) =
    let heads : h ≡ head = ap (λ (p : Header × List PatchPart). p.0) (sym is) in
    let alike : ns ≡ named = ap (λ (p : Header × List PatchPart). p.1) (sym is) in
    record {
      start = n;
      few = few;
      begins = subst (λ (x : Header). HeaderIs blob n x) heads begins;
      origin = subst (λ (x : Header). x.origin ≡ current) heads same;
      read = subst (λ (xs : List PatchPart). IsPatchAt blob n schemas xs) alike (passes_patch schemas model blob n ns passes);
    }

-- ---- its parts

-- The section of a part has the widths and areas of the fields of its type.
abbrev pub IsFilledPart : List Schema → PatchPart → Type 0
IsFilledPart schemas part = (schema : Schema) × (slice_get schemas part.type_index ≡ Some schema) × HasFields schema.shape (places_in part.section)

filled_parts : (schemas : List Schema) (parts : List DeltaPart) (named : List PatchPart) → AllZip (IsOfModel schemas) parts named → All IsPlainPart parts → All (IsFilledPart schemas) named
filled_parts schemas [] [] each plain = All-nil (IsFilledPart schemas)
filled_parts schemas (part ∷ parts) (n ∷ named) each plain =
    let is = each.0 in
    let own = seen_fields is.mine part n.section (All-head IsPlainPart part parts plain) is.means.agree is.section in
    All-cons (IsFilledPart schemas) n named (is.mine, is.means.stands, own) (filled_parts schemas parts named each.1 (All-tail IsPlainPart part parts plain))
filled_parts schemas [] (n ∷ named) each plain = absurd each
filled_parts schemas (part ∷ parts) [] each plain = absurd each

pub delta_filled : (blob : List ℕ) (current : ℤ) (schemas : List Schema) (head : Header) (named : List PatchPart) → IsDelta blob current schemas head named → All (IsFilledPart schemas) named
delta_filled blob current schemas head named is =
    let (parts, stands, are) = is.read in
    filled_parts schemas (parts_for schemas parts) named are.each (there_plain schemas parts are.once (body_given blob is.start parts (length blob) stands))

-- ---- the rows that they move

-- The part moves the rows of its type in the table to these.
abbrev pub IsPartMoved : List Schema → Table → PatchPart → RowMap → Type 0
IsPartMoved schemas table part rows = (schema : Schema) × (slice_get schemas part.type_index ≡ Some schema) × IsMovedBy schema.shape part.section (rows_in table part.type_index) rows

-- where all pass, each passes with the value beside it
passed_each : {A B : Type 0} (f : A → Judge B) (xs : List A) (ys : List B) → (each_of f xs).Passes ys → AllZip (λ x y. (f x).Passes y) xs ys
unfolding each_of ◌>>=◌ nothing
passed_each {A} {B} f [] ys is = subst (λ (zs : List B). AllZip (λ x y. (f x).Passes y) [] zs) (sym is) tt
passed_each {A} {B} f (x ∷ xs) ys (y, one, (vs, rest, is)) = subst (λ (zs : List B). AllZip (λ x y. (f x).Passes y) (x ∷ xs) zs) (sym is) (one, passed_each f xs vs rest)

passed_parts : (schemas : List Schema) (table : Table) (named : List PatchPart) (rows : List RowMap) → (each_of (part_moves schemas table) named).Passes rows → AllZip (IsPartMoved schemas table) named rows
unfolding part_moves ◌>>=◌ item_at moves
passed_parts schemas table named rows passes = passed_each (part_moves schemas table) named rows passes

-- The parts move the rows of their types, and the table that they lead to is closed.
pub record LeadsOn (schemas : List Schema) (named : List PatchPart) (table moved : Table) : Type 0 where
  pub rows : List RowMap
  pub each : AllZip (IsPartMoved schemas table) named rows
  pub closed : IsClosed schemas (moved_table table named rows)
  pub is : moved ≡ moved_table table named rows

-- what passes leads on
pub passed_state : (schemas : List Schema) (named : List PatchPart) (size : ℕ) (table moved : Table) → (state_moved schemas named size table).Passes moved → LeadsOn schemas named table moved
unfolding state_moved ◌>>=◌ nothing closed
passed_state schemas named size table moved (rows, passes, (u, closes, leads)) = record { rows = rows; each = passed_parts schemas table named rows passes; closed = closes; is = leads }
