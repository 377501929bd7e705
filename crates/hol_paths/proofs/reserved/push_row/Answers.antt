use Rattle.std.proofs.Common.{List, arith, subst}
use Rattle.std.specs.Prelude.{IfSome}
use Rattle.std.proofs.lemmas.List.{length-map}
use Rattle.schema_model.specs.declared.model.walk_path.WalkPart.{WalkPart}
use Rattle.hol_paths.specs.Met.{NamesOnly, run_of, run_values}
use Rattle.hol_paths.specs.Slots.{entries_of, entry_of}
use Rattle.hol_paths.proofs.MetNumbers.{met_known, met_pushed, met_row, met_still, on_ok, run_long}
use Rattle.hol_paths.proofs.reserved.push_row.Goals as goal

pub push_met-requires-clause-inside : goal.push_met-requires-clause-inside
push_met-requires-clause-inside g c =
    let S = g.R.Rows.schemas c.args.rows.now in
    let T = g.R.Rows.table c.args.rows.now in
    let t = c.args.path.now.type_index in
    let parts = c.args.path.now.parts in
    let before = c.args.coming.now.items in
    let values = c.args.entries.now.values in
    let met = met_row S T t parts (entries_of values before) c.args.met.now.items c.as_slice-2.result.now c.in_ok-named.named c.args.owner c.in-Some.kept c.requires.met
    (subst (λ (ps : List WalkPart). IfSome c.in_ok-named.named (NamesOnly T t ps c.args.owner)) c.as_slice-parts.ensures c.in_ok-named.ensures) c.as_slice-2.ensures.value c.in-Some.ensures in
    omega (arith, met.0, length-map before (entry_of values))

pub returns-in-Some-clause-known : goal.returns-in-Some-clause-known
returns-in-Some-clause-known g c =
    on_ok c.push_met.result (λ is. met_known c.args.entries.now.values c.args.coming.now.items c.push_met.new.coming.items c.args.owner c.in-Some.kept c.requires.known is) c.push_met.ensures.coming

pub returns-in-Some-clause-pushed : goal.returns-in-Some-clause-pushed
returns-in-Some-clause-pushed g c =
    let S = g.R.Rows.schemas c.args.rows.now in
    let T = g.R.Rows.table c.args.rows.now in
    let t = c.args.path.now.type_index in
    let parts = c.args.path.now.parts in
    let before = c.args.coming.now.items in
    let values = c.args.entries.now.values in
    let met = met_row S T t parts (entries_of values before) c.args.met.now.items c.as_slice-2.result.now c.in_ok-named.named c.args.owner c.in-Some.kept c.requires.met
    (subst (λ (ps : List WalkPart). IfSome c.in_ok-named.named (NamesOnly T t ps c.args.owner)) c.as_slice-parts.ensures c.in_ok-named.ensures) c.as_slice-2.ensures.value c.in-Some.ensures in
    on_ok c.push_met.result (λ is. met_pushed S T t parts values before c.push_met.new.coming.items c.args.owner c.in-Some.kept met.1 is) c.push_met.ensures.coming

pub returns-in-Some-clause-met : goal.returns-in-Some-clause-met
returns-in-Some-clause-met g c =
    let S = g.R.Rows.schemas c.args.rows.now in
    let T = g.R.Rows.table c.args.rows.now in
    let t = c.args.path.now.type_index in
    let parts = c.args.path.now.parts in
    let before = c.args.coming.now.items in
    on_ok c.push_met.result (λ is. met_still S T t parts c.args.entries.now.values before c.push_met.new.coming.items (run_of c.args.owner c.in-Some.kept before) c.args.met.now.items is c.requires.met) c.push_met.ensures.coming

pub returns-in-Some-clause-many : goal.returns-in-Some-clause-many
returns-in-Some-clause-many g c =
    let S = g.R.Rows.schemas c.args.rows.now in
    let T = g.R.Rows.table c.args.rows.now in
    let t = c.args.path.now.type_index in
    let parts = c.args.path.now.parts in
    let before = c.args.coming.now.items in
    let values = c.args.entries.now.values in
    let met = met_row S T t parts (entries_of values before) c.args.met.now.items c.as_slice-2.result.now c.in_ok-named.named c.args.owner c.in-Some.kept c.requires.met
    (subst (λ (ps : List WalkPart). IfSome c.in_ok-named.named (NamesOnly T t ps c.args.owner)) c.as_slice-parts.ensures c.in_ok-named.ensures) c.as_slice-2.ensures.value c.in-Some.ensures in
    λ e. (run_values (entries_of values before) c.in-Some.kept, met.1, omega (arith, c.push_met.ensures.many e, run_long (entries_of values before) c.in-Some.kept met.0))
