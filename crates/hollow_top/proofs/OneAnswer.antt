-- Words ask for one command at most, and a command writes one text at most, with one verdict.
use Rattle.std.proofs.Common.{◌≡◌, ℕ, List, [], ◌∷◌, ◌++◌, Bool, true, false, Option, Some, None, refl, sym, ap, ◌∙◌, subst}
use Rattle.std.specs.List.{AllZip, concat}
use Rattle.serde_json.specs.Data.{Data}
use Rattle.serde_json.specs.Written.{compact_text}
use Rattle.hol_io.specs.declared.name.BlobName.{BlobName}
use Rattle.hol_io.specs.declared.name.BlobName.TheVariants.{Snapshot}
use Rattle.hol_io.specs.Lines.{cut}
use Rattle.hol_io.specs.Store.{Store, told}
use Rattle.row_model.specs.declared.row.Row.{Row}
use Rattle.schema_model.specs.declared.schema.Schema.{Schema}
use Rattle.schema_model.specs.declared.schema.Shape.{Shape}
use Rattle.type_state.specs.State.{Half}
use Rattle.type_state.specs.Views.{table_of}
use Rattle.blob_frame.specs.declared.fault.BlobFault.{BlobFault}
use Rattle.blob_frame.specs.declared.header.Header.{Header}
use Rattle.snapshot_blob.specs.declared.part.TypePart.{TypePart}
use Rattle.snapshot_blob.specs.Judged.{snapshot_of}
use Rattle.snapshot_blob.specs.Snapshot.{SnapshotIs, IsAccepted}
use Rattle.read_engine.specs.Judged.{RefusesLoad}
use Rattle.json_rows.specs.StoredRow.{IsRowData}
use Rattle.hol_answers.specs.declared.reply.Reply.{Reply}
use Rattle.hol_answers.specs.declared.reply.Reply.TheVariants.{Head, Refused}
use Rattle.hol_answers.specs.declared.refusal.Refusal.{Refusal}
use Rattle.hollow_machine.proofs.Refusals.{head_apart, one_head_refusal, one_header, one_snapshot_refusal, some_one}
use Rattle.hollow_machine.specs.Blobs.{SnapshotRefusal}
use Rattle.hollow_machine.specs.MakeCommand.{Makes}
use Rattle.hollow_machine.specs.Script.{Script}
use Rattle.hollow_machine.specs.State.{Machine, started}
use Rattle.hollow_top.specs.declared.words.Command.{Command}
use Rattle.hollow_top.specs.declared.words.Command.TheVariants as command
use Rattle.hollow_top.specs.Command.{IsLineOf, Writes, WritesAnswers, WritesMade}
use Rattle.hollow_top.specs.Head.{HeadIs}
use Rattle.hol_answers.specs.Refusal.{refusal_line}
use Rattle.hol_answers.specs.Reply.{is_refusal, line_of}
use Rattle.json_rows.specs.RowLine.{row_data}
use Rattle.hollow_top.specs.RowLines.{Listed, IsRowLine, AreLinesOf, rows_in_order}
use Rattle.hollow_top.specs.Show.{ShowsRows, ShowsContent}
use Rattle.hollow_top.specs.Words.{Asks, TellsCommand}

-- a row prints as one value at most
abbrev pub PrintsOnce : Type 0
PrintsOnce = (shape : Shape) (row : Row) (a b : Data) → IsRowData shape row a → IsRowData shape row b → a ≡ b

-- a blob is the snapshot of one state at most
abbrev pub IsOneSnapshot : Type 0
IsOneSnapshot = (blob : List ℕ) (a b : Header) (ps qs : List TypePart) (s t : List Schema) (x y : List Half) →
    SnapshotIs blob a ps s x → SnapshotIs blob b qs t y → (a ≡ b) × (ps ≡ qs) × (s ≡ t) × (x ≡ y)

-- a snapshot that is accepted has no fault
abbrev pub IsNoFault : Type 0
IsNoFault = (blob : List ℕ) (head : Header) (schemas : List Schema) (halves : List Half) (found : BlobFault) → IsAccepted blob head schemas halves →
    (snapshot_of blob).Fails found → ⊥

module _ (name : BlobName) where
  one_head : (content : Option (List ℕ)) (one other : Reply) → HeadIs name content one → HeadIs name content other → one ≡ other
  one_head content (Head h) (Head k) a b = ap Head (one_header content h k a b)
  one_head content (Head h) (Refused refusal) a b = absurd (head_apart name content h refusal a b)
  one_head content (Refused refusal) (Head k) a b = absurd (head_apart name content k refusal b a)
  one_head content (Refused one) (Refused other) a b = ap Refused (one_head_refusal name content one other a b)
  one_head content (Head h) _ a b = absurd b
  one_head content (Refused one) _ a b = absurd b
  one_head content _ _ a b = absurd a

-- the line of one answer is one
one_line : (Answers : Reply → Type 0) → ((a b : Reply) → Answers a → Answers b → a ≡ b) → (one other : List ℕ) (refused also : Bool) →
    IsLineOf Answers one refused → IsLineOf Answers other also → (one ≡ other) × (refused ≡ also)
one_line Answers once one other refused also (a, a_is, one_is, refused_is) (b, b_is, other_is, also_is) =
    let same = once a b a_is b_is in
    (one_is ∙ ap line_of same ∙ sym other_is, refused_is ∙ ap is_refusal same ∙ sym also_is)

-- the lines of rows are one text
row_line_once : PrintsOnce → (row : Listed) (a b : List ℕ) → IsRowLine row a → IsRowLine row b → a ≡ b
row_line_once once row a b (p, p_is, a_is) (q, q_is, b_is) =
    a_is ∙ ap (λ printed. compact_text (row_data row.0.name row.1.0 printed) ++ 10 ∷ []) (once row.0.shape row.1.1 p q p_is q_is) ∙ sym b_is

row_lines_once : PrintsOnce → (rows : List Listed) (ls ms : List (List ℕ)) → AllZip IsRowLine rows ls → AllZip IsRowLine rows ms → ls ≡ ms
row_lines_once once [] [] [] p q = refl
row_lines_once once [] [] (m ∷ ms) p q = absurd q
row_lines_once once [] (l ∷ ls) ms p q = absurd p
row_lines_once once (row ∷ rows) [] ms p q = absurd p
row_lines_once once (row ∷ rows) (l ∷ ls) [] p q = absurd q
row_lines_once once (row ∷ rows) (l ∷ ls) (m ∷ ms) p q =
    let first = row_line_once once row l m p.0 q.0 in
    let others = row_lines_once once rows ls ms p.1 q.1 in
    λ i. first i ∷ others i

lines_once : PrintsOnce → (rows : List Listed) (a b : List ℕ) → AreLinesOf rows a → AreLinesOf rows b → a ≡ b
lines_once once rows a b (ls, ls_are, a_is) (ms, ms_are, b_is) = a_is ∙ ap concat (row_lines_once once rows ls ms ls_are ms_are) ∙ sym b_is

rows_once : PrintsOnce → IsOneSnapshot → (content : Option (List ℕ)) (one other : List ℕ) → ShowsRows content one → ShowsRows content other → one ≡ other
rows_once prints snapshots content one other (blob, head, schemas, halves, there, accepted, lines) (blob', head', schemas', halves', there', accepted', lines') =
    let same = some_one content blob' blob there' there in
    let also = subst (λ b. SnapshotIs b head' accepted'.0 schemas' halves') same accepted'.1 in
    let equal = snapshots blob head' head accepted'.0 accepted.0 schemas' schemas halves' halves also accepted.1 in
    let here = subst (λ (rows : List Listed). AreLinesOf rows other) (λ i. rows_in_order (equal.2 i) (table_of (equal.3 i))) lines' in
    lines_once prints (rows_in_order schemas (table_of halves)) one other lines here

module _ (prints : PrintsOnce) (snapshots : IsOneSnapshot) (taken : IsNoFault) (name : BlobName) (content : Option (List ℕ)) where
  -- what is shown is no refusal
  not_refused : (text : List ℕ) (refusal : Refusal) → ShowsRows content text → SnapshotRefusal name content refusal → ⊥
  not_refused text refusal (blob, head, schemas, halves, there, accepted, lines) (found, fails, is) =
      taken blob head schemas halves found accepted (subst (λ (c : Option (List ℕ)). RefusesLoad name c found) there fails)

  one_shown : (one other : List ℕ) (refused also : Bool) → ShowsContent name content one refused → ShowsContent name content other also → (one ≡ other) × (refused ≡ also)
  one_shown one other false false a b = (rows_once prints snapshots content one other a b, refl)
  one_shown one other false true a b = absurd (not_refused one b.0 a b.1)
  one_shown one other true false a b = absurd (not_refused other a.0 b a.1)
  one_shown one other true true a b = (a.2 ∙ ap refusal_line (one_snapshot_refusal name content a.0 b.0 a.1 b.1) ∙ sym b.2, refl)

-- a script has one text, and so has the line of `make`
abbrev pub IsOneScript : Type 0
IsOneScript = (store : Store) (next after : Machine) (lines : List (List ℕ)) (text other : List ℕ) (refused also : Bool) → Script (started store) lines text refused next →
    Script (started store) lines other also after → (text ≡ other) × (refused ≡ also) × (next ≡ after)

abbrev pub IsOneMake : Type 0
IsOneMake = (store : Store) (next after : Machine) (seed rows cycles : ℕ) (one other : Reply) → Makes store seed rows cycles one next → Makes store seed rows cycles other after →
    (one ≡ other) × (next ≡ after)

script_text : IsOneScript → (input : Option (List ℕ)) (store : Store) (one other : List ℕ) (refused also : Bool) (next after : Machine) → WritesAnswers input store one refused next →
    WritesAnswers input store other also after → (one ≡ other) × (refused ≡ also) × (next ≡ after)
script_text scripts input store one other refused also next after (bytes, is, short, script) (others, is_too, short_too, script_too) =
    let same = some_one input others bytes is_too is in
    scripts store next after (cut bytes) one other refused also script (subst (λ (b : List ℕ). Script (started store) (cut b) other also after) same script_too)

made_text : IsOneMake → (store : Store) (seed rows cycles : ℕ) (one other : List ℕ) (refused also : Bool) (next after : Machine) → WritesMade seed rows cycles store one refused next →
    WritesMade seed rows cycles store other also after → (one ≡ other) × (refused ≡ also) × (next ≡ after)
made_text makes store seed rows cycles one other refused also next after (a, a_is, one_is, refused_is) (b, b_is, other_is, also_is) =
    let (same, machines) = makes store next after seed rows cycles a b a_is b_is in
    (one_is ∙ ap line_of same ∙ sym other_is, refused_is ∙ ap is_refusal same ∙ sym also_is, machines)

-- a command writes one text, and leaves one machine
module _ (prints : PrintsOnce) (snapshots : IsOneSnapshot) (taken : IsNoFault) (scripts : IsOneScript) (makes : IsOneMake) (input : Option (List ℕ)) (store : Store) where
  pub one_text : (asked : Command) (one other : List ℕ) (refused also : Bool) (next after : Machine) → Writes input store asked one refused next →
      Writes input store asked other also after → (one ≡ other) × (refused ≡ also) × (next ≡ after)
  one_text command.Run one other refused also next after a b = script_text scripts input store one other refused also next after a b
  one_text (command.Head name) one other refused also next after a b =
      let same = one_line (HeadIs name (told (Some store) name)) (one_head name (told (Some store) name)) one other refused also a.0 b.0 in
      (same.0, same.1, a.1 ∙ sym b.1)
  one_text (command.Show version) one other refused also next after a b =
      let same = one_shown prints snapshots taken (Snapshot version) (told (Some store) (Snapshot version)) one other refused also a.0 b.0 in
      (same.0, same.1, a.1 ∙ sym b.1)
  one_text (command.Make seed rows cycles) one other refused also next after a b = made_text makes store seed rows cycles one other refused also next after a b

-- reading the words told the one command
pub one_asked : (words : List (List ℕ)) (read : Option Command) → TellsCommand words read → (one other : Command) → Asks words one → Asks words other → one ≡ other
one_asked words None told one other a b = absurd (told one a)
one_asked words (Some found) told one other a b = told.1 one a ∙ sym (told.1 other b)
