-- The values of the rows of a consumer are in range, and what its records print as is read back.
use Rattle.std.proofs.Common.{◌<◌, ℕ, zero, suc, List, [], ◌∷◌, Option, None, Some, IfSome, arith}
use Rattle.std.specs.Prelude.{All}
use Rattle.std.proofs.lemmas.List.Elements.{All-cons, All-head, All-nil, All-tail}
use Rattle.hex.specs.Hex.{IsBytes}
use Rattle.blob_grammar.specs.Decided.{AreBytes}
use Rattle.schema_model.specs.declared.schema.Schema.{Schema}
use Rattle.schema_model.specs.Model.{IsModel}
use Rattle.row_model.specs.declared.row.Row.{Row}
use Rattle.row_model.specs.declared.row.Value.{Value}
use Rattle.row_model.specs.Row.{IsRowInRange, IsValueInRange}
use Rattle.row_model.specs.Table.{EachRow, Table}
use Rattle.row_model.specs.Unfold.{unfold_row}
use Rattle.record_json.specs.InRange.{HasValuesInRange, IsLeafInRange}
use Rattle.record_json.proofs.PrintingWhole.{model_shallow}
use Rattle.record_json.proofs.ReadingBack.{within_back}
use Rattle.record_json.proofs.UnfoldingFits.{known_type, within_fits}
use Rattle.record_json.proofs.UnfoldingInRange.{within_in_range}
use Rattle.byte_laws.specs.Bytes.{IsByteRow, IsByteTable, IsByteValue}
use Rattle.byte_laws.proofs.LoadedRows.{loaded_bytes}
use Rattle.byte_laws.proofs.PatchedRows.{patched_bytes}
use Rattle.read_engine.specs.Position.{Position, rows_now}
use Rattle.read_engine.specs.Taking.{LoadsFrom, StepsBy}
use Rattle.hol_answers.specs.declared.reply.Reply.{Reply}
use Rattle.hollow_machine.specs.Script.{LineStep}
use Rattle.hollow_machine.specs.State.{Machine}
use Rattle.answer_laws.specs.Answered.{IsSound}
use Rattle.answer_laws.specs.Ranges.{HasByteRows, HasRanges, HoldsOfStates, ReadsBack}
use Rattle.answer_laws.specs.Shown.{HasTables, HasWhole, IsWhole}
use Rattle.answer_laws.proofs.KeptTables.{line_holds}

-- ---- bytes

loaded_rows : (blob : List ℕ) (position : Position) → AreBytes blob → LoadsFrom blob position → IsByteTable (rows_now position)
loaded_rows blob position are loads = loaded_bytes blob loads.0 position.schemas position.halves are loads.1

stepped_rows : (blob : List ℕ) (from to : Position) → AreBytes blob → StepsBy blob from to → IsByteTable (rows_now from) → IsByteTable (rows_now to)
stepped_rows blob from to are steps bytes = patched_bytes from.schemas blob from.tag to.tag steps.patch (rows_now from) (rows_now to) are steps.is steps.moved bytes

pub line_keeps_rows : (machine next : Machine) (line : List ℕ) (answer : Reply) → IsSound machine → HasByteRows machine → LineStep machine line answer next → HasByteRows next
line_keeps_rows machine next line answer sound bytes step = line_holds (λ schemas table. IsByteTable table) loaded_rows stepped_rows machine next line answer sound.bytes bytes step

-- ---- values

is_bytes : (bytes : List ℕ) → AreBytes bytes → IsBytes bytes
is_bytes [] are i = omega arith
is_bytes (byte ∷ bytes) are zero = All-head (λ b. b < 256) byte bytes are
is_bytes (byte ∷ bytes) are (suc i) = is_bytes bytes (All-tail (λ b. b < 256) byte bytes are) i

value_ranged : (value : Value) → IsValueInRange value → IsByteValue value → IsLeafInRange value
value_ranged (Value.Bytes bytes) range are = is_bytes bytes are
value_ranged Value.Null range are = tt
value_ranged (Value.Int number) range are = range
value_ranged (Value.Long number) range are = range
value_ranged (Value.Bool flag) range are = tt
value_ranged (Value.Text units) range are = range
value_ranged (Value.Ref ordinal) range are = range

values_ranged : (values : List Value) → All IsValueInRange values → All IsByteValue values → All IsLeafInRange values
values_ranged [] range are = All-nil IsLeafInRange
values_ranged (value ∷ values) range are =
    All-cons IsLeafInRange value values (value_ranged value (All-head IsValueInRange value values range) (All-head IsByteValue value values are))
    (values_ranged values (All-tail IsValueInRange value values range) (All-tail IsByteValue value values are))

row_ranged : (row : Row) → IsRowInRange row → IsByteRow row → HasValuesInRange row
row_ranged (Row.Object values) range are = values_ranged values range are
row_ranged (Row.List ordinals) range are = tt
row_ranged (Row.Set ordinals) range are = tt
row_ranged (Row.Map pairs) range are = tt

-- The values of a table's rows are in range.
abbrev Ranged : List Schema → Table → Type 0
Ranged schemas table = EachRow schemas table (λ schema row. HasValuesInRange row)

table_ranged : (schemas : List Schema) (table : Table) → IsWhole schemas table → IsByteTable table → Ranged schemas table
table_ranged schemas table whole bytes t ordinal schema row is at = row_ranged row (whole.0.ranges t ordinal schema row is at) (bytes t ordinal row at)

older_ranged : (schemas : List Schema) (past : List (ℕ × Table)) → All (λ pair. IsWhole schemas pair.1) past → All (λ pair. IsByteTable pair.1) past → All (λ pair. Ranged schemas pair.1) past
older_ranged schemas [] whole bytes = All-nil (λ (pair : ℕ × Table). Ranged schemas pair.1)
older_ranged schemas (pair ∷ past) whole bytes =
    All-cons (λ (p : ℕ × Table). Ranged schemas p.1) pair past
    (table_ranged schemas pair.1 (All-head (λ (p : ℕ × Table). IsWhole schemas p.1) pair past whole) (All-head (λ (p : ℕ × Table). IsByteTable p.1) pair past bytes))
    (older_ranged schemas past (All-tail (λ (p : ℕ × Table). IsWhole schemas p.1) pair past whole) (All-tail (λ (p : ℕ × Table). IsByteTable p.1) pair past bytes))

consumer_ranged : (past : List (ℕ × Table)) (consumer : Option Position) → IfSome consumer (λ now. HasTables now × All (λ pair. IsWhole now.schemas pair.1) past)
    → IfSome consumer (λ now. HoldsOfStates (λ schemas table. IsByteTable table) now past) → IfSome consumer (λ now. HoldsOfStates Ranged now past)
consumer_ranged past None whole bytes = tt
consumer_ranged past (Some now) (tables, all) bytes = record {
  current = table_ranged now.schemas (rows_now now) (tables.rows, tables.closed) bytes.current;
  before = table_ranged now.schemas now.before (tables.rows_before, tables.closed_before) bytes.before;
  older = older_ranged now.schemas past all bytes.older;
}

pub machine_ranged : (machine : Machine) → HasWhole machine → HasByteRows machine → HasRanges machine
machine_ranged machine whole bytes = consumer_ranged machine.past machine.consumer whole bytes

-- ---- what is printed is read back

record_back : (schemas : List Schema) (table : Table) → IsModel schemas → IsWhole schemas table → Ranged schemas table → ReadsBack schemas table
unfolding unfold_row
record_back schemas table model whole ranges t ordinal printed live apart prints =
    let (schema, found) = known_type schemas table t ordinal whole.0 live in
    let fits = within_fits schemas table model whole.0 whole.1 32 t ordinal live (model_shallow schemas t schema model found) apart in
    within_back schemas model 32 t (unfold_row schemas table t ordinal) printed fits (within_in_range schemas table ranges 32 t ordinal) prints

consumer_back : (past : List (ℕ × Table)) (consumer : Option Position) → IfSome consumer (λ now. HasTables now × All (λ pair. IsWhole now.schemas pair.1) past)
    → IfSome consumer (λ now. HoldsOfStates (λ schemas table. IsByteTable table) now past) → IfSome consumer (λ now. ReadsBack now.schemas (rows_now now))
consumer_back past None whole bytes = tt
consumer_back past (Some now) (tables, all) bytes =
    record_back now.schemas (rows_now now) tables.model (tables.rows, tables.closed) (table_ranged now.schemas (rows_now now) (tables.rows, tables.closed) bytes.current)

pub machine_back : (machine : Machine) → HasWhole machine → HasByteRows machine → IfSome machine.consumer (λ now. ReadsBack now.schemas (rows_now now))
machine_back machine whole bytes = consumer_back machine.past machine.consumer whole bytes
