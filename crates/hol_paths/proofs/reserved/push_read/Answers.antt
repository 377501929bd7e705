use Rattle.std.proofs.Common.{◌≡◌, arith, refl}
use Rattle.std.proofs.lemmas.List.{length-map}
use Rattle.schema_model.specs.Limit.{number_of_limit}
use Rattle.schema_model.specs.declared.limit.Limit.TheVariants.{Entries}
use Rattle.hol_paths.specs.Slots.{entries_of, entry_of}
use Rattle.hol_paths.proofs.Coming.{few_more}
use Rattle.hol_paths.proofs.MetNumbers.{met_behind}
use Rattle.hol_paths.proofs.reserved.push_read.Goals as goal

pub overflow_cast-start : goal.overflow_cast-start
overflow_cast-start g c = let limit : number_of_limit Entries ≡ 4194304 = refl in omega (arith, c.len-before.ensures, c.requires.few, c.requires.small, limit)

pub overflow_cast-count : goal.overflow_cast-count
overflow_cast-count g c = let limit : number_of_limit Entries ≡ 4194304 = refl in omega (arith, c.if-count-most.false, c.requires.small, limit)

pub returns-then-count-most-clause-many : goal.returns-then-count-most-clause-many
returns-then-count-most-clause-many g c = λ e. (c.in_ok-values.values, c.in_ok-values.ensures, omega (arith, c.if-count-most.true, c.len-before.ensures, c.len-count.ensures, c.requires.few))

pub returns-clause-pushed : goal.returns-clause-pushed
returns-clause-pushed g c = record { values = c.in_ok-values.values; reached = c.in_ok-values.ensures; behind = c.in_ok-push_entries.ensures.coming }

pub returns-clause-few : goal.returns-clause-few
returns-clause-few g c = few_more c.args.entries.now.values c.push_entries.new.entries.values c.args.coming.now.items c.push_entries.new.coming.items c.in_ok-values.values c.args.owner c.args.most c.in_ok-push_entries.ensures.coming
    (omega (arith, c.if-count-most.false, c.len-before.ensures, c.len-count.ensures)) c.requires.few

pub returns-clause-met : goal.returns-clause-met
returns-clause-met g c =
    let S = g.R.Rows.schemas c.args.rows.now in
    let T = g.R.Rows.table c.args.rows.now in
    let t = c.args.path.now.type_index in
    let parts = c.args.path.now.parts in
    let before = c.args.coming.now.items in
    let old = c.args.entries.now.values in
    met_behind S T t parts (entries_of old before) (entries_of c.push_entries.new.entries.values c.push_entries.new.coming.items) c.args.owner c.in_ok-values.values c.args.met.now.items c.keep_run.new.met.items c.args.named _
    c.requires.met c.requires.named c.in_ok-values.ensures c.in_ok-push_entries.ensures.coming (omega (arith, c.len-before.ensures, length-map before (entry_of old))) (omega (arith, c.len-count.ensures)) c.keep_run.ensures
