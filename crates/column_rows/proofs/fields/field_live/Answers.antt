use Rattle.std.proofs.Common.{ℕ, arith, below_more, subst}
use Rattle.column_rows.specs.Closed.{NamesLiveThere}
use Rattle.column_rows.specs.Looked.{ordinal_of}
use Rattle.column_rows.proofs.Lives.{dead_field, past_field, read_below}
use Rattle.column_rows.proofs.LookedAt.{all_looked}
use Rattle.column_rows.proofs.fields.field_live.Goals as goal
use Rattle.column_rows.proofs.fields.field_live.Goals.{else-ordinal-end-via-then-ordinal-end+else-not-is_field_live, else-ordinal-end-via-else-ordinal-end}

pub is_field_live-requires-clause-read : goal.is_field_live-requires-clause-read
is_field_live-requires-clause-read g c =
    read_below (g.R.Rows.table c.args.rows.now) c.args.type_index c.args.field c.bound-end.result (c.ordinal-ordinal.result) c.args.column.now c.requires c.bound-end.ensures (omega (arith, c.if-ordinal-end.true))

pub loop-index-preserved : goal.loop-index-preserved
loop-index-preserved g c =
    below_more (λ (k : ℕ). NamesLiveThere (g.R.Rows.table c.args.rows.now) c.args.type_index c.args.field c.args.target (ordinal_of c.args.looked k)) c.loop-index.index c.loop-index.invariant
    (subst (λ (ordinal : ℕ). NamesLiveThere (g.R.Rows.table c.args.rows.now) c.args.type_index c.args.field c.args.target ordinal) c.ordinal-ordinal.ensures (elim c.else-ordinal-end.branch [
      | else-ordinal-end-via-then-ordinal-end+else-not-is_field_live w ↦ w.is_field_live.ensures w.if-not-is_field_live.false
      | else-ordinal-end-via-else-ordinal-end w ↦
          past_field (g.R.Rows.table c.args.rows.now) c.args.type_index c.args.field c.args.target c.bound-end.result c.ordinal-ordinal.result c.bound-end.ensures (omega (arith, w.if-ordinal-end.false))
    ]))

pub returns : goal.returns
returns g c = λ done.
    all_looked (λ (ordinal : ℕ). NamesLiveThere (g.R.Rows.table c.args.rows.now) c.args.type_index c.args.field c.args.target ordinal) (g.R.Rows.table c.args.rows.now) c.args.type_index c.bound-end.result c.loop-index.index c.args.looked c.bound-end.ensures
    (omega (arith, c.count-count.ensures.count)) (λ (ordinal : ℕ) dead. dead_field (g.R.Rows.table c.args.rows.now) c.args.type_index c.args.field c.args.target ordinal dead) c.loop-index.invariant
