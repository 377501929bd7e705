-- What `show` leaves of the sink: the line of a refusal, or the lines of the rows.
use Rattle.std.proofs.Common.{◌≡◌, ◌<◌, ◌∙◌, inl, inr, ℕ, List, length, take, Bool, true, false, Option, Some, None, Result, Ok, Err, IfSome, refl, sym, ap, subst}
use Rattle.std.specs.Prelude.{IsErrAnd}
use Rattle.std.specs.Io.KnownBytes.{Appends}
use Rattle.hol_io.specs.declared.name.BlobName.{BlobName}
use Rattle.hol_io.specs.declared.name.BlobName.TheVariants.{Snapshot}
use Rattle.hol_io.specs.Store.{Store, told}
use Rattle.schema_model.specs.declared.schema.Schema.{Schema}
use Rattle.row_model.specs.Table.{Table}
use Rattle.type_state.specs.Views.{table_of, next_halves}
use Rattle.blob_frame.specs.declared.fault.BlobFault.{BlobFault}
use Rattle.snapshot_blob.specs.declared.loaded.Loaded.{Loaded}
use Rattle.snapshot_blob.specs.Snapshot.{TellsSnapshot}
use Rattle.hol_orders.specs.declared.order_stop.OrderStop.{OrderStop}
use Rattle.hol_answers.specs.BlobRefusal.{refusal_of_blob}
use Rattle.hol_answers.specs.declared.refusal.Refusal.{Refusal}
use Rattle.hol_answers.specs.declared.reply.Reply.{Reply}
use Rattle.hol_answers.specs.declared.reply.Reply.TheVariants.{Refused}
use Rattle.hol_answers.specs.Reply.{is_refusal, line_of}
use Rattle.hollow_machine.proofs.Refusals.{of_snapshot, snapshot_refused}
use Rattle.hollow_machine.specs.Blobs.{SnapshotRefusal}
use Rattle.hollow_top.specs.declared.stop.Stop.{Stop}
use Rattle.hollow_top.specs.declared.stop.Stop.TheVariants.{Memory, Sink, Store as StoreFailed}
use Rattle.hollow_top.specs.Command.{IsLineOf}
use Rattle.hollow_top.specs.RowLines.{AreLinesOf, Listed, LeavesLines, rows_in_order}
use Rattle.hollow_top.specs.Show.{ShowsContent, ShowsRows, Shows}
use Rattle.hollow_top.specs.Stopping.{GainsFront, Leaves}
use Rattle.hollow_top.proofs.Writes.{failed, failure}

-- what is written so is also written so
pub leaves_as : (P Q : List ℕ → Bool → Type 0) (before after : Option (List ℕ)) (r : Result Bool Stop) → ((text : List ℕ) (refused : Bool) → P text refused → Q text refused) →
    Leaves P before after r → Leaves Q before after r
leaves_as P Q before after (Ok refused) gives (text, is, gained) = (text, gives text refused is, gained)
leaves_as P Q before after (Err Sink) gives (text, refused, count, is, part, gained) = (text, refused, count, gives text refused is, part, gained)
leaves_as P Q before after (Err StoreFailed) gives left = tt
leaves_as P Q before after (Err Memory) gives left = tt

refusal_shown : (name : BlobName) (content : Option (List ℕ)) (refusal : Refusal) → SnapshotRefusal name content refusal → (text : List ℕ) (refused : Bool) →
    IsLineOf (λ answer. answer ≡ Refused refusal) text refused → ShowsContent name content text refused
refusal_shown name content refusal refuses text refused (answer, same, text_is, verdict) =
    let told_so : refused ≡ true = verdict ∙ ap is_refusal same in
    subst (ShowsContent name content text) (sym told_so) (refusal, refuses, text_is ∙ ap line_of same)

module _ (version : ℕ) (before after : Option (List ℕ)) where
  abbrev pub ServesShow : Option Store → Result Bool Stop → Type 0
  ServesShow held r = IfSome held (λ store. Leaves (Shows store version) before after r)

  -- where the snapshot cannot be read, the refusal for its fault is what is shown
  pub refusal_served : (held : Option Store) (found : BlobFault) (refusal : Refusal) (given : Result Refusal OrderStop) (r : Result Bool Stop) →
      IfSome held (λ store. TellsSnapshot (Snapshot version) (told held (Snapshot version)) (Err found)) → given ≡ refusal_of_blob (Snapshot version) found → given ≡ Ok refusal →
      Leaves (IsLineOf (λ answer. answer ≡ Refused refusal)) before after r → ServesShow held r
  refusal_served None found refusal given r tells is was left = tt
  refusal_served (Some store) found refusal given r tells is was left =
      let content = told (Some store) (Snapshot version) in
      let refuses = snapshot_refused (Snapshot version) content found refusal (sym is ∙ was) (of_snapshot (Snapshot version) content found tells) in
      leaves_as (IsLineOf (λ answer. answer ≡ Refused refusal)) (Shows store version) before after r (refusal_shown (Snapshot version) content refusal refuses) left

  module _ (found : Loaded) where
    abbrev pub IsRead : Option Store → Type 0
    IsRead held = IfSome held (λ store. TellsSnapshot (Snapshot version) (told held (Snapshot version)) (Ok found))

    -- the lines of the rows of the snapshot are what is shown
    rows_shown : (content : Option (List ℕ)) (text : List ℕ) → TellsSnapshot (Snapshot version) content (Ok found) → AreLinesOf (rows_in_order found.model (table_of (next_halves found.states))) text → ShowsRows content text
    rows_shown None text (inl is) are = absurd cc
    rows_shown None text (inr free) are = absurd free
    rows_shown (Some blob) text accepted are = (blob, found.header, found.model, next_halves found.states, refl, accepted, are)

    abbrev pub LeavesRows : List Schema → Table → Result Unit Stop → Type 0
    LeavesRows schemas table r = (schemas ≡ found.model) × (table ≡ table_of (next_halves found.states)) × LeavesLines (rows_in_order schemas table) before after r

    lines_of : (schemas : List Schema) (table : Table) (r : Result Unit Stop) → LeavesRows schemas table r →
        LeavesLines (rows_in_order found.model (table_of (next_halves found.states))) before after r
    lines_of schemas table r (model, rows, left) = subst (λ (listed : List Listed). LeavesLines listed before after r) (λ i. rows_in_order (model i) (rows i)) left

    pub rows_written : (held : Option Store) (schemas : List Schema) (table : Table) → IsRead held → LeavesRows schemas table (Ok tt) → ServesShow held (Ok false)
    rows_written None schemas table read left = tt
    rows_written (Some store) schemas table read left =
        let (text, are, gained) = lines_of schemas table (Ok tt) left in
        (text, rows_shown (told (Some store) (Snapshot version)) text read are, gained)

    -- a part of the lines of the rows was written
    pub rows_cut : (held : Option Store) (schemas : List Schema) (table : Table) (stop : Stop) (r : Result Bool Stop) →
        IsRead held → LeavesRows schemas table (Err stop) → IsErrAnd r (λ e. e ≡ stop) → ServesShow held r
    rows_cut None schemas table stop r read left is = tt
    rows_cut (Some store) schemas table stop r read left is =
        failed r stop (Leaves (Shows store version) before after) is (cut stop (lines_of schemas table (Err stop) left))
      where
        cut : (e : Stop) → LeavesLines (rows_in_order found.model (table_of (next_halves found.states))) before after (Err e) → Leaves (Shows store version) before after (Err e)
        cut Sink (text, count, are, part, gained) = (text, false, count, rows_shown (told (Some store) (Snapshot version)) text read are, part, gained)
        cut Memory lines = tt
        cut StoreFailed lines = tt

    pub rows_front : (held : Option Store) (schemas : List Schema) (table : Table) (stop : Stop) (r : Result Bool Stop) →
        IsRead held → LeavesRows schemas table (Err stop) → IsErrAnd r (λ e. e ≡ stop) → r ≡ Err Memory → IfSome held (λ store. GainsFront (Shows store version) before after)
    rows_front None schemas table stop r read left is memory = tt
    rows_front (Some store) schemas table stop r read left is memory =
        let lines = subst (λ e. LeavesLines (rows_in_order found.model (table_of (next_halves found.states))) before after (Err e)) (failure r stop Memory is memory) (lines_of schemas table (Err stop) left) in
        let (text, count, are, part, gained) = lines in
        (text, false, count, rows_shown (told (Some store) (Snapshot version)) text read are, part, gained)

-- a part of the line of an answer was written
pub line_cut : (reply : Reply) (before after : Option (List ℕ)) (line : List ℕ) (r : Result Bool Stop) → IsErrAnd r (λ e. e ≡ Sink) → line ≡ line_of reply →
    ((count : ℕ) × (count < length line) × Appends before after (take count line)) → Leaves (IsLineOf (λ answer. answer ≡ reply)) before after r
line_cut reply before after line r is line_is (count, part, gained) =
    failed r Sink (Leaves (IsLineOf (λ answer. answer ≡ reply)) before after) is (line, is_refusal reply, count, (reply, refl, line_is, refl), part, gained)
