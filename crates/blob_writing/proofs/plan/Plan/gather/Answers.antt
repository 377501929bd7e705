use Rattle.std.proofs.Common.{◌≡◌, ◌∙◌, List, length, ap, sym}
use Rattle.std.specs.FinMap.{keys}
use Rattle.schema_model.specs.declared.schema.Schema.{Schema}
use Rattle.row_model.specs.BothStates.{rows_in}
use Rattle.row_packing.proofs.ByType.{as_many}
use Rattle.blob_writing.proofs.Planning.{added_count, planned, removed_count}
use Rattle.blob_writing.proofs.plan.Plan.gather.Goals as goal

pub alone-requires : goal.alone-requires
alone-requires g c =
    as_many (λ t set. set ≡ keys (rows_in (g.B.Rows.table c.args.new.now) t)) c.len-count.result c.in_ok-new_sets.new_sets c.in_ok-new_sets.ensures
    ∙ sym (as_many (λ t set. set ≡ keys (rows_in (g.A.Rows.table c.args.old.now) t)) c.len-count.result c.in_ok-old_sets.old_sets c.in_ok-old_sets.ensures)

pub alone-requires-2 : goal.alone-requires-2
alone-requires-2 g c =
    as_many (λ t set. set ≡ keys (rows_in (g.A.Rows.table c.args.old.now) t)) c.len-count.result c.in_ok-old_sets.old_sets c.in_ok-old_sets.ensures
    ∙ sym (as_many (λ t set. set ≡ keys (rows_in (g.B.Rows.table c.args.new.now) t)) c.len-count.result c.in_ok-new_sets.new_sets c.in_ok-new_sets.ensures)

pub changed_types-requires-clause-removed : goal.changed_types-requires-clause-removed
changed_types-requires-clause-removed g c =
    let schemas = g.B.Rows.schemas c.args.new.now in
    let known : length schemas ≡ c.len-count.result = sym (c.len-count.ensures.count ∙ ap (λ (ss : List Schema). length ss) c.model.ensures.model) in
    removed_count schemas (g.A.Rows.table c.args.old.now) (g.B.Rows.table c.args.new.now) c.len-count.result known c.requires.states c.in_ok-old_sets.old_sets c.in_ok-new_sets.new_sets
    c.in_ok-removed.removed c.in_ok-added.added c.in_ok-old_sets.ensures c.in_ok-new_sets.ensures c.in_ok-removed.ensures c.in_ok-added.ensures

pub changed_types-requires-clause-added : goal.changed_types-requires-clause-added
changed_types-requires-clause-added g c =
    let schemas = g.B.Rows.schemas c.args.new.now in
    let known : length schemas ≡ c.len-count.result = sym (c.len-count.ensures.count ∙ ap (λ (ss : List Schema). length ss) c.model.ensures.model) in
    added_count schemas (g.A.Rows.table c.args.old.now) (g.B.Rows.table c.args.new.now) c.len-count.result known c.requires.states c.in_ok-old_sets.old_sets c.in_ok-new_sets.new_sets
    c.in_ok-removed.removed c.in_ok-added.added c.in_ok-old_sets.ensures c.in_ok-new_sets.ensures c.in_ok-removed.ensures c.in_ok-added.ensures

pub returns : goal.returns
returns g c =
    let schemas = g.B.Rows.schemas c.args.new.now in
    let known : length schemas ≡ c.len-count.result = sym (c.len-count.ensures.count ∙ ap (λ (ss : List Schema). length ss) c.model.ensures.model) in
    planned schemas (g.A.Rows.table c.args.old.now) (g.B.Rows.table c.args.new.now) c.len-count.result known c.requires.states c.in_ok-old_sets.old_sets c.in_ok-new_sets.new_sets
    c.in_ok-removed.removed c.in_ok-added.added c.in_ok-old_sets.ensures c.in_ok-new_sets.ensures c.in_ok-removed.ensures c.in_ok-added.ensures c.args.chosen c.in_ok-changed.changed
    c.requires.chosen c.in_ok-changed.ensures
