use Rattle.std.proofs.Common.{sym, ap, ◌∙◌}
use Rattle.row_model.specs.Table.{Table, row_at}
use Rattle.read_engine.specs.Walking.{schemas_at, table_at}
use Rattle.read_engine.proofs.walker.WalkerWalk.has_same_rows.Goals as goal

pub has_same_rows_in-requires : goal.has_same_rows_in-requires
has_same_rows_in-requires c =
    c.states.ensures.schemas ∙ ap schemas_at c.self.view_is ∙ c.requires ∙ sym (c.states-2.ensures.schemas ∙ ap schemas_at c.other.view_is)

pub returns : goal.returns
returns c = λ same ordinal.
    ap (λ (table : Table). row_at table c.args.type_index ordinal) (sym (c.states.ensures.table ∙ ap table_at c.self.view_is))
    ∙ c.has_same_rows_in.ensures same ordinal
    ∙ ap (λ (table : Table). row_at table c.args.type_index ordinal) (c.states-2.ensures.table ∙ ap table_at c.other.view_is)
