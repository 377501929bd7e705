-- Over a store of bytes `head` writes some text, and that `show` writes none cannot be.
use Rattle.std.proofs.Common.{◌≡◌, inl, inr, ℕ, List, [], ◌∷◌, length, Bool, true, false, Option, Some, None, IfSome, refl, ◌∙◌, subst, arith}
use Rattle.std.proofs.lemmas.Bool.{cases_lt}
use Rattle.std.specs.List.{AllZip, zip}
use Rattle.std.specs.FinMap.{entries, get, get-entries}
use Rattle.hol_io.specs.declared.name.BlobName.{BlobName}
use Rattle.hol_io.specs.declared.name.BlobName.TheVariants.{Snapshot}
use Rattle.hol_io.specs.Store.{Store, told}
use Rattle.schema_model.specs.declared.limit.Limit.TheVariants as limit
use Rattle.row_model.specs.declared.row.Row.{Row}
use Rattle.schema_model.specs.declared.schema.Schema.{Schema}
use Rattle.schema_model.specs.declared.schema.Shape.{Shape}
use Rattle.schema_model.specs.Limit.{number_of_limit}
use Rattle.row_model.specs.Row.{FitsShape}
use Rattle.row_model.specs.Table.{RowMap}
use Rattle.type_rows.specs.declared.section.Section.{Section}
use Rattle.type_rows.specs.Loads.{SectionIs}
use Rattle.type_state.specs.State.{Half}
use Rattle.type_state.specs.Views.{table_of}
use Rattle.blob_grammar.specs.Decided.{AreBytes, IsDecided}
use Rattle.blob_frame.specs.declared.fault.BlobFault.{BlobFault}
use Rattle.blob_frame.specs.declared.fault.BlobFault.TheVariants as fault
use Rattle.blob_frame.specs.declared.header.Header.{Header}
use Rattle.blob_frame.specs.Header.{header}
use Rattle.blob_faults.specs.Deciding.{IsOwn}
use Rattle.snapshot_blob.specs.declared.part.TypePart.{TypePart}
use Rattle.snapshot_blob.specs.Judged.{snapshot_of}
use Rattle.snapshot_blob.specs.Snapshot.{IsAccepted}
use Rattle.snapshot_blob.specs.Stated.{TypeIs, schemas_of}
use Rattle.hol_answers.specs.declared.refusal.Refusal.{Refusal}
use Rattle.hol_answers.specs.declared.refusal.Refusal.TheVariants.{BadBlob, NoBlob, OtherModel, TooLarge}
use Rattle.hol_answers.specs.Refusal.{bad_item, other_origin, refusal_line}
use Rattle.hollow_machine.specs.Blobs.{TellsOf}
use Rattle.hol_answers.specs.declared.reply.Reply.{Reply}
use Rattle.hol_answers.specs.declared.reply.Reply.TheVariants.{Head, Refused}
use Rattle.hollow_machine.specs.State.{started}
use Rattle.hollow_top.specs.declared.words.Command.TheVariants as command
use Rattle.hollow_top.specs.Command.{HoldsBytes, WritesSome}
use Rattle.hollow_top.specs.Head.{HeadIs}
use Rattle.hol_answers.specs.Reply.{is_refusal, line_of}
use Rattle.hollow_top.specs.RowLines.{AreLinesOf, AreRowLines, rows_in_order}
use Rattle.hollow_top.specs.Show.{ShowsContent}
use Rattle.hollow_top.proofs.SortedRows.{each_found}
use Rattle.hollow_top.proofs.Walks.{FitsEach, FitTypes, sorted_entries, types_have_lines}

-- bytes have a header, or a first cause that they have none
head_some : IsDecided header.Stands header.Stuck → (name : BlobName) (content : Option (List ℕ)) → IfSome content AreBytes → (reply : Reply) × HeadIs name content reply
head_some decided name None bytes = (Refused (NoBlob name), (refl, refl))
head_some decided name (Some blob) bytes =
    elim (cases_lt (number_of_limit limit.Blob) (length blob)) [
      | inl large ↦ (Refused (TooLarge limit.Blob), (blob, refl, large, refl))
      | inr short ↦ elim (decided.some blob 0 bytes (omega arith)) [
        | inl found ↦ (Head found.0, (blob, found.1, refl, short, found.2))
        | inr stuck ↦ (Refused (bad_item name stuck.0 stuck.1), (blob, refl, short, stuck.2, refl, refl))
      ]
    ]

-- each row of a section fits its type
abbrev pub FitsRows : Type 0
FitsRows = (shape : Shape) (section : Section) (rows : RowMap) (ordinal : ℕ) (row : Row) → SectionIs shape section rows → get rows ordinal ≡ Some row → FitsShape shape row

part_fits : FitsRows → (part : TypePart) (half : Half) → TypeIs part half → FitsEach part.schema (entries half.rows)
part_fits fits part half is =
    each_found (λ entry. FitsShape part.schema.shape entry.1) (entries half.rows) (sorted_entries half.rows)
    (λ q row found. fits part.schema.shape part.section half.rows q row is.rows (get-entries half.rows q ∙ found))

parts_fit : FitsRows → (parts : List TypePart) (halves : List Half) → AllZip TypeIs parts halves → FitTypes (zip (schemas_of parts) (table_of halves))
parts_fit fits [] halves are = tt
parts_fit fits (part ∷ parts) [] are = absurd are
parts_fit fits (part ∷ parts) (half ∷ halves) are = (part_fits fits part half are.0, parts_fit fits parts halves are.1)

-- the rows of a snapshot have lines
accepted_lines : FitsRows → (blob : List ℕ) (head : Header) (schemas : List Schema) (halves : List Half) → IsAccepted blob head schemas halves →
    (text : List ℕ) × AreRowLines schemas (table_of halves) text
accepted_lines fits blob head schemas halves (parts, is, keeps) =
    let lines = types_have_lines (zip (schemas_of parts) (table_of halves)) (parts_fit fits parts halves is.state.types) in
    (lines.0, subst (λ (named : List Schema). AreLinesOf (rows_in_order named (table_of halves)) lines.0) is.state.named lines.1)

-- the refusal for a fault of a blob
refusal_for : (name : BlobName) (found : BlobFault) → IsOwn found → (refusal : Refusal) × TellsOf name found refusal
refusal_for name (fault.NoBlob other) own = (NoBlob name, refl)
refusal_for name (fault.Large what) own = (TooLarge what, refl)
refusal_for name (fault.Bad at reason) own = (bad_item name at reason, refl)
refusal_for name (fault.BadRow at reason of ordinal) own = (BadBlob (record { blob = name; at = at; reason = reason; row = Some (record { type_name = of; ordinal = ordinal }) }), refl)
refusal_for name (fault.OtherOrigin origin current) own = (other_origin name origin current, refl)
refusal_for name (fault.OtherModel of) own = (OtherModel name of, refl)
refusal_for name fault.Store own = absurd own
refusal_for name fault.Memory own = absurd own

-- a blob of bytes is a snapshot, or has a fault: that it is neither cannot be
abbrev pub IsSettled : Type 0
IsSettled = (blob : List ℕ) → AreBytes blob → ((head : Header) (schemas : List Schema) (halves : List Half) → IsAccepted blob head schemas halves → ⊥) →
    ((found : BlobFault) → (snapshot_of blob).Fails found → ⊥) → ⊥

-- that nothing is shown cannot be
shown_some : IsSettled → FitsRows → (name : BlobName) (content : Option (List ℕ)) → IfSome content AreBytes →
    ((text : List ℕ) (refused : Bool) → ShowsContent name content text refused → ⊥) → ⊥
shown_some settled fits name None bytes none = none (refusal_line (NoBlob name)) true (NoBlob name, (fault.NoBlob name, refl, refl), refl)
shown_some settled fits name (Some blob) bytes none =
    settled blob bytes
    (λ head schemas halves accepted. let lines = accepted_lines fits blob head schemas halves accepted in none lines.0 false (blob, head, schemas, halves, refl, accepted, lines.1))
    (λ found fails. let told_so = refusal_for name found ((snapshot_of blob).decided.own found fails) in none (refusal_line told_so.0) true (told_so.0, (found, fails, told_so.1), refl))

pub some_head : IsDecided header.Stands header.Stuck → (input : Option (List ℕ)) (store : Store) (blob : BlobName) → HoldsBytes store → WritesSome input store (command.Head blob)
some_head decided input store blob bytes =
    let some = head_some decided blob (told (Some store) blob) (bytes blob) in
    (line_of some.0, is_refusal some.0, (started store, ((some.0, some.1, refl, refl), refl)))

pub some_show : IsSettled → FitsRows → (input : Option (List ℕ)) (store : Store) (version : ℕ) → HoldsBytes store →
    (WritesSome input store (command.Show version) → ⊥) → ⊥
some_show settled fits input store version bytes none =
    shown_some settled fits (Snapshot version) (told (Some store) (Snapshot version)) (bytes (Snapshot version))
    (λ text refused shows. none (text, refused, (started store, (shows, refl))))
