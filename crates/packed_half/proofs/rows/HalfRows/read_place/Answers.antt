use Rattle.std.proofs.Common.{Result, Ok, sym, subst, ℕ, List}
use Rattle.hol_varint.specs.Yields.{Yields}
use Rattle.row_model.specs.declared.packed.PlaceFault.{PlaceFault}
use Rattle.row_model.specs.declared.row.Row.{Row}
use Rattle.schema_model.specs.declared.schema.Shape.{Shape}
use Rattle.schema_model.specs.Parts.{shape_fields}
use Rattle.object_codec.specs.ObjectPlace.{IsObject, HoldsPlace as HoldsRecord, IsFreePlace as free_record, SpellsObjectRow}
use Rattle.list_codec.specs.ListPlace.{IsList, HoldsListPlace, IsFreePlace as free_list, SpellsListRow}
use Rattle.bucket_codec.specs.BucketPlace.{HoldsPlace as HoldsRun, TellsBucketRow}
use Rattle.packed_half.specs.Half.{areas_in, section_in}
use Rattle.packed_half.proofs.Looking.{live_inside, list_holds, object_holds, records_tell, lists_tell, runs_hold, runs_tell, same_areas, same_first, same_second}
use Rattle.packed_half.proofs.Parted.{has_runs}
use Rattle.packed_half.proofs.rows.HalfRows.read_place.Goals as goal

-- an answer is exactly the row that a place spells
abbrev ExactRecord : Shape → List ℕ → List ℕ → List (List ℕ) → ℕ → Result Row PlaceFault → Type 0
ExactRecord shape widths first areas place result = (row : Row) → Yields free_record result (Ok row) (SpellsObjectRow shape widths first areas place row)

abbrev ExactList : List ℕ → ℕ → List ℕ → List ℕ → ℕ → Result Row PlaceFault → Type 0
ExactList widths total first second place result = (row : Row) → Yields free_list result (Ok row) (SpellsListRow widths total first second place row)

pub read-requires-clause-holds : goal.read-requires-clause-holds
read-requires-clause-holds c =
    let shape = c.args.schema.now.shape in
    let half = c.args.self.now.half.now in
    let words = c.args.self.now.words.now in
    let parts = c.cut-parts.ensures in
    subst (λ (ws : List ℕ). HoldsRecord (shape_fields shape) half.widths ws (areas_in c.cut-parts.result.bytes.now c.cut-parts.result.lengths.now) c.args.place) (sym (same_first shape c.args.self.now.shape.now half words c.cut-parts.result.first.now c.requires.shape parts.first))
    (subst (λ (as_read : List (List ℕ)). HoldsRecord (shape_fields shape) half.widths (section_in shape half words).first as_read c.args.place)
    (sym (same_areas shape c.args.self.now.shape.now half words c.cut-parts.result.bytes.now c.cut-parts.result.lengths.now c.requires.shape parts.bytes parts.lengths))
    (object_holds shape half words c.requires.live.0 c.args.place (subst IsObject (sym c.in-Object.is) tt) c.requires.live.1 (live_inside shape half words c.args.place c.requires.live) c.requires.small))

pub read-requires-in-List-clause-holds : goal.read-requires-in-List-clause-holds
read-requires-in-List-clause-holds c =
    let shape = c.args.schema.now.shape in
    let half = c.args.self.now.half.now in
    let words = c.args.self.now.words.now in
    subst (λ (ws : List ℕ). HoldsListPlace half.widths ws c.args.place) (sym (same_first shape c.args.self.now.shape.now half words c.cut-parts.result.first.now c.requires.shape c.cut-parts.ensures.first))
    (list_holds shape half words c.requires.live.0 c.args.place (subst IsList (sym c.in-List.is) tt) c.requires.live.1 (live_inside shape half words c.args.place c.requires.live))

pub read-requires-in_default : goal.read-requires-in_default
read-requires-in_default c =
    let shape = c.args.schema.now.shape in
    let half = c.args.self.now.half.now in
    let words = c.args.self.now.words.now in
    subst (λ (ws : List ℕ). HoldsRun shape half.widths ws c.cut-parts.result.second.now c.args.place) (sym (same_first shape c.args.self.now.shape.now half words c.cut-parts.result.first.now c.requires.shape c.cut-parts.ensures.first))
    (subst (λ (ws : List ℕ). HoldsRun shape half.widths (section_in shape half words).first ws c.args.place) (sym (same_second shape c.args.self.now.shape.now half words c.cut-parts.result.second.now c.requires.shape c.cut-parts.ensures.second))
    (runs_hold shape half words c.requires.live.0 c.args.place (has_runs shape c.in_default.not-Object c.in_default.not-List) c.requires.live.1 (live_inside shape half words c.args.place c.requires.live) c.requires.small))

pub returns-in-Object : goal.returns-in-Object
returns-in-Object c =
    let shape = c.args.schema.now.shape in
    let half = c.args.self.now.half.now in
    let words = c.args.self.now.words.now in
    let parts = c.cut-parts.ensures in
    records_tell shape (section_in shape half words) c.args.place c.read.result (subst IsObject (sym c.in-Object.is) tt)
    (subst (λ (as_read : List (List ℕ)). ExactRecord shape half.widths (section_in shape half words).first as_read c.args.place c.read.result)
    (same_areas shape c.args.self.now.shape.now half words c.cut-parts.result.bytes.now c.cut-parts.result.lengths.now c.requires.shape parts.bytes parts.lengths)
    (subst (λ (ws : List ℕ). ExactRecord shape half.widths ws (areas_in c.cut-parts.result.bytes.now c.cut-parts.result.lengths.now) c.args.place c.read.result)
    (same_first shape c.args.self.now.shape.now half words c.cut-parts.result.first.now c.requires.shape parts.first) c.read.ensures.spelled))

pub returns-in-List : goal.returns-in-List
returns-in-List c =
    let shape = c.args.schema.now.shape in
    let half = c.args.self.now.half.now in
    let words = c.args.self.now.words.now in
    lists_tell shape (section_in shape half words) c.args.place c.read-in-List.result (subst IsList (sym c.in-List.is) tt)
    (subst (λ (ws : List ℕ). ExactList half.widths half.total (section_in shape half words).first ws c.args.place c.read-in-List.result)
    (same_second shape c.args.self.now.shape.now half words c.cut-parts.result.second.now c.requires.shape c.cut-parts.ensures.second)
    (subst (λ (ws : List ℕ). ExactList half.widths half.total ws c.cut-parts.result.second.now c.args.place c.read-in-List.result)
    (same_first shape c.args.self.now.shape.now half words c.cut-parts.result.first.now c.requires.shape c.cut-parts.ensures.first) c.read-in-List.ensures.spelled))

pub returns-in_default : goal.returns-in_default
returns-in_default c =
    let shape = c.args.schema.now.shape in
    let half = c.args.self.now.half.now in
    let words = c.args.self.now.words.now in
    runs_tell shape (section_in shape half words) c.args.place c.read-in_default.result (has_runs shape c.in_default.not-Object c.in_default.not-List)
    (subst (λ (ws : List ℕ). TellsBucketRow shape half.widths half.total (section_in shape half words).first ws c.args.place c.read-in_default.result)
    (same_second shape c.args.self.now.shape.now half words c.cut-parts.result.second.now c.requires.shape c.cut-parts.ensures.second)
    (subst (λ (ws : List ℕ). TellsBucketRow shape half.widths half.total ws c.cut-parts.result.second.now c.args.place c.read-in_default.result)
    (same_first shape c.args.self.now.shape.now half words c.cut-parts.result.first.now c.requires.shape c.cut-parts.ensures.first) c.read-in_default.ensures.tells))
