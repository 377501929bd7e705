use Rattle.std.proofs.Common.{subst}
use Rattle.history_orders.specs.declared.key_seek.KeySeek.{KeySeek}
use Rattle.history_orders.specs.Older.{SeeksIn}
use Rattle.history_orders.proofs.Candidates.{found_now, found_then}
use Rattle.history_orders.proofs.key_seek.seek_rows.Goals as goal

pub rows_found-requires-clause-whole : goal.rows_found-requires-clause-whole
rows_found-requires-clause-whole g c =
    let schemas = g.R.Rows.schemas c.args.rows.now in
    let table = g.R.Rows.table c.args.rows.now in
    let now = subst (λ (seek : KeySeek). SeeksIn seek schemas table) c.in-Now.is c.requires.seek in
    found_now c.in-Now.consumer.now c.args.type_index schemas table c.args.paths.now c.args.key.now c.in_ok-found-in-Now.found now c.in_ok-found-in-Now.ensures

pub rows_found-requires-in-Older-clause-whole : goal.rows_found-requires-in-Older-clause-whole
rows_found-requires-in-Older-clause-whole g c =
    let schemas = g.R.Rows.schemas c.args.rows.now in
    let table = g.R.Rows.table c.args.rows.now in
    let older = subst (λ (seek : KeySeek). SeeksIn seek schemas table) c.in-Older.is c.requires.seek in
    found_then c.in-Older.consumer.now c.in-Older.history.now.steps c.in-Older.wanted c.args.type_index schemas table c.args.paths.now c.args.key.now c.in_ok-found-in-Older.found older c.in_ok-found-in-Older.ensures
