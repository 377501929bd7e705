use Rattle.std.proofs.Common.{◌∙◌, List, ap, subst, sym}
use Rattle.std.specs.Prelude.{All}
use Rattle.schema_model.specs.declared.schema.Schema.{Schema}
use Rattle.key_index.specs.Indexed.{Follows}
use Rattle.row_model.specs.Key.{IsResolved}
use Rattle.row_model.specs.Table.{IsClosed}
use Rattle.hol_incremental.proofs.IndexRows.{follows, resolved}
use Rattle.hol_incremental.proofs.key_indexes.reserve_one.Goals as goal

pub reserve-requires-clause-resolved : goal.reserve-requires-clause-resolved
reserve-requires-clause-resolved g c =
    subst (λ (schemas : List Schema). All (IsResolved schemas c.args.index.now.type_index) c.args.index.now.paths) (sym (ap g.B.Rows.schemas c.new.ensures ∙ c.requires.model))
    (resolved (g.A.Rows.schemas c.args.before.now) (g.A.Rows.table c.args.before.now) c.args.type_index c.args.index.now c.requires.index)

pub reserve-requires-clause-follows : goal.reserve-requires-clause-follows
reserve-requires-clause-follows g c =
    let A = g.A.Rows.schemas c.args.before.now in
    let before = g.A.Rows.table c.args.before.now in
    let next = g.B.Rows.table c.args.next.now in
    let index = c.args.index.now in
    let made = follows A before next c.requires.before (subst (λ (schemas : List Schema). IsClosed schemas next) c.requires.model c.requires.closed) c.requires.agree c.args.type_index c.in_ok-removed.removed c.in_ok-added.added
    c.in_ok-removed.ensures c.in_ok-added.ensures index c.requires.index in
    subst (λ rows. Follows index.keys (g.B.Rows.schemas rows) (g.B.Rows.table rows) index.type_index index.paths c.in_ok-removed.removed c.in_ok-added.added) (sym c.new.ensures)
    (subst (λ (schemas : List Schema). Follows index.keys schemas next index.type_index index.paths c.in_ok-removed.removed c.in_ok-added.added) (sym c.requires.model) made)
