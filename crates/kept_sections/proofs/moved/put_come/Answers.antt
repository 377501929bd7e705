use Rattle.std.proofs.Common.{◌-◌, ◌^◌, ◌<◌, subst}
use Rattle.std.proofs.lemmas.List.Elements.{All-contains}
use Rattle.ordinal_set.specs.Ordinals.{TellsNext, lacking}
use Rattle.ordinal_set.proofs.Beside.{lacking_member}
use Rattle.row_model.specs.Lent.{lent_row}
use Rattle.row_packing.specs.Chosen.{shape_at}
use Rattle.kept_sections.specs.Moved.{SpellsRowUnder}
use Rattle.kept_sections.proofs.Changing.{all_written}
use Rattle.kept_sections.proofs.MovedRows.{came_more}
use Rattle.kept_sections.proofs.moved.put_come.Goals as goal

pub lend-requires : goal.lend-requires
lend-requires g c = (c.ordinals-live.ensures c.in-Some.ordinal).0 (lacking_member c.ordinals-live.result.now c.args.old.now c.in-Some.ordinal c.in-Some.ensures.tells.member).0

pub loop-ordinal-preserved-in_ok-lent : goal.loop-ordinal-preserved-in_ok-lent
loop-ordinal-preserved-in_ok-lent g c =
    let live = c.ordinals-live.result.now in
    let o = c.in-Some.ordinal in
    let next = c.in-Some.ensures.tells in
    let small = All-contains (λ m. m < 2 ^ 32 - 1) live o c.in-Some.ensures.ordinals.small (lacking_member live c.args.old.now o next.member).0 in
    came_more c.model.result.now (g.R.Rows.schemas c.args.rows.now) (g.R.Rows.table c.args.rows.now) c.args.type_index c.schema-schema.result.now c.args.widths.now c.args.first.now (lacking live c.args.old.now) c.loop-ordinal.first c.put_record.new.first
    c.loop-ordinal.from o c.from.result (lent_row c.in_ok-lent.lent) c.row.result.now c.model.ensures.model c.schema-schema.ensures.value c.loop-ordinal.invariant next small c.put_record.auto.first c.from.ensures c.in_ok-lent.ensures c.row.ensures (c.requires.room o)
    c.put_record.ensures.spelled c.put_record.ensures.others c.put_record.ensures.end

pub loop-ordinal-preserved : goal.loop-ordinal-preserved
loop-ordinal-preserved g c =
    let live = c.ordinals-live.result.now in
    let o = c.in-Some.ordinal in
    let next = c.in-Some.ensures.tells in
    let small = All-contains (λ m. m < 2 ^ 32 - 1) live o c.in-Some.ensures.ordinals.small (lacking_member live c.args.old.now o next.member).0 in
    came_more c.model.result.now (g.R.Rows.schemas c.args.rows.now) (g.R.Rows.table c.args.rows.now) c.args.type_index c.schema-schema.result.now c.args.widths.now c.args.first.now (lacking live c.args.old.now) c.loop-ordinal.first c.put_record.new.first
    c.loop-ordinal.from o c.from.result (lent_row c.in_ok-lent.lent) c.row.result.now c.model.ensures.model c.schema-schema.ensures.value c.loop-ordinal.invariant next small c.put_record.auto.first c.from.ensures c.in_ok-lent.ensures c.row.ensures (c.requires.room o)
    c.put_record.ensures.spelled c.put_record.ensures.others c.put_record.ensures.end

pub returns : goal.returns
returns g c =
    let schemas = g.R.Rows.schemas c.args.rows.now in
    let table = g.R.Rows.table c.args.rows.now in
    let t = c.args.type_index in
    let shape = shape_at schemas t in
    let widths = c.args.widths.now in
    let live = c.ordinals-live.result.now in
    let came = lacking live c.args.old.now in
    (live, c.ordinals-live.ensures, all_written (SpellsRowUnder shape table t widths) widths c.args.first.now came c.loop-ordinal.first c.loop-ordinal.from c.loop-ordinal.invariant (subst (TellsNext c.loop-ordinal.from came) c.in_default.is c.first_beside.ensures.tells))
