-- No blob is such that its trial as a snapshot neither passes nor fails.
use Rattle.std.proofs.Common.{◌≡◌, ℕ, List, length, sym, ◌∙◌, arith}
use Rattle.std.specs.Prelude.{All}
use Rattle.std.proofs.lemmas.List.{length-map}
use Rattle.std.proofs.lemmas.List.Elements.{All-map}
use Rattle.row_model.specs.Table.{RowMap}
use Rattle.type_rows.proofs.LoadFaults.{holds_at}
use Rattle.blob_grammar.specs.Decided.{AreBytes}
use Rattle.blob_faults.specs.Judge.{◌>>=◌, each_of, nothing}
use Rattle.blob_faults.specs.Models.{are_model}
use Rattle.blob_faults.specs.Reading.{short, standing}
use Rattle.blob_faults.specs.Rows.{closed, counts, loads}
use Rattle.blob_faults.specs.Settles.{Settles}
use Rattle.blob_faults.proofs.Settled.{settles_counts, settles_each, settles_nothing, settles_short, settles_standing, settles_then}
use Rattle.blob_faults.proofs.SettledClosed.{settles_closed}
use Rattle.blob_faults.proofs.SettledModels.{settles_model}
use Rattle.blob_faults.proofs.SettledRows.{settles_loads}
use Rattle.blob_faults.proofs.Spelled.{IsSpelled, kept_lengths, kept_sizes}
use Rattle.snapshot_blob.specs.declared.part.TypePart.{TypePart}
use Rattle.snapshot_blob.specs.Judged.{offsets_of, snapshot_of, types_of}
use Rattle.snapshot_blob.specs.Parts.{snapshot}
use Rattle.snapshot_blob.specs.Stated.{schemas_of}
use Rattle.snapshot_blob.proofs.PartValues.{AreParts, IsPart, snapshot_given}

module _ (parts : List TypePart) (are : AreParts parts) where
  -- there are as many offsets as schemas
  same_many : length (offsets_of parts) ≡ length (schemas_of parts)
  same_many = length-map parts (λ (part : TypePart). part.at) ∙ sym (length-map parts (λ (part : TypePart). part.schema))

  -- each schema can be spelled
  all_spelled : All IsSpelled (schemas_of parts)
  all_spelled = All-map IsSpelled (λ (part : TypePart). part.schema) parts (λ k part inside. (are.1 k part inside).spelled)

  -- the types of a snapshot that stand in a blob
  settles_types : Settles (types_of parts)
  unfolding types_of
  settles_types =
      let offsets = offsets_of parts in
      let schemas = schemas_of parts in
      let last = λ (rows : List RowMap). closed offsets schemas rows >>= λ done. nothing rows in
      let each_load = each_of (λ (part : TypePart). loads part.at part.schema part.section) parts in
      let each_count = each_of (λ (part : TypePart). counts part.section.max part.section.total) parts in
      settles_then (are_model offsets schemas) (λ done. each_count >>= λ counted. each_load >>= last)
      (settles_model offsets schemas same_many (kept_sizes schemas (omega (arith, are.0, length-map parts (λ (part : TypePart). part.schema))) all_spelled) (kept_lengths schemas all_spelled)) (λ done model.
      settles_then each_count (λ counted. each_load >>= last)
      (settles_each (λ (part : TypePart). counts part.section.max part.section.total) parts (λ index part at. settles_counts part.section.max part.section.total)) (λ counted kept.
      settles_then each_load last
      (settles_each (λ (part : TypePart). loads part.at part.schema part.section) parts (λ index part at. let is = holds_at IsPart parts index part are.1 at in settles_loads part.at part.schema part.section is.fields is.rise)) (λ rows loaded.
      settles_then (closed offsets schemas rows) (λ done. nothing rows) (settles_closed offsets schemas rows same_many) (λ done closes. settles_nothing rows))))

-- of all bytes it cannot be that they neither pass nor fail as a snapshot
pub settles_snapshot : (blob : List ℕ) → AreBytes blob → Settles (snapshot_of blob)
unfolding snapshot_of standing
settles_snapshot blob bytes =
    settles_then (short blob) (λ done. standing snapshot blob 0 >>= λ found. types_of found.0.1 >>= λ rows. nothing (found.0.0, rows)) (settles_short blob) (λ done few.
    settles_then (standing snapshot blob 0) (λ found. types_of found.0.1 >>= λ rows. nothing (found.0.0, rows)) (settles_standing snapshot blob 0 bytes (omega arith)) (λ found stands.
    settles_then (types_of found.0.1) (λ rows. nothing (found.0.0, rows)) (settles_types found.0.1 (snapshot_given blob 0 found.0 found.1 stands).1) (λ rows loaded. settles_nothing (found.0.0, rows))))
