use Rattle.std.proofs.Common.{◌≤◌, ◌^◌, length, sym, ap, subst, ◌∙◌, refl, arith}
use Rattle.std.specs.Prelude.{Ok, option_map}
use Rattle.row_hash.specs.Hash.{row_hash}
use Rattle.ordinal_map.specs.Assign.{Agree}
use Rattle.ordinal_map.specs.KeptRows.{AreKept}
use Rattle.ordinal_map.specs.Restored.{TellsRestore}
use Rattle.ordinal_map.specs.States.{States}
use Rattle.ordinal_map.proofs.Keeping.{agree_seen, alike_states, found_at, found_none, states_of}
use Rattle.ordinal_map.proofs.Placing.{equal_tells, free_before, restored_kept, restored_tells}
use Rattle.ordinal_map.proofs.Restoring.{no_memory}
use Rattle.ordinal_map.proofs.map.OrdinalMap.restore_hashed.Goals as goal

pub returns-in-Some-clause-tells : goal.returns-in-Some-clause-tells
returns-in-Some-clause-tells c =
    equal_tells c.self.inside.rows.items c.self.inside.chains c.self.inside.previous c.self.inside.current c.self.inside.filled c.self.invariant c.args.self.now c.self.view_is c.args.row c.in-Some.other (found_at c.as_slice.result.now c.self.inside.rows.items c.args.row c.find.result c.in-Some.other c.as_slice.ensures.value c.find.ensures c.in-Some.is) c.args.ordinal c.requires.current

pub returns-in-Some-clause-agree : goal.returns-in-Some-clause-agree
returns-in-Some-clause-agree c = agree_seen c.self.inside.rows.items c.self.inside.chains c.self.inside.previous c.self.inside.current c.self.inside.filled c.args.self.now c.self.invariant c.self.view_is

pub place_row-requires-clause-free : goal.place_row-requires-clause-free
place_row-requires-clause-free c =
    c.self.invariant.hashed c.args.ordinal ∙ ap (option_map row_hash) (free_before c.self.inside.rows.items c.self.inside.chains c.self.inside.previous c.self.inside.current c.self.inside.filled c.self.invariant c.args.self.now c.self.view_is c.args.ordinal c.requires.current c.requires.free)

pub returns-in_err-place_row-clause-tells : goal.returns-in_err-place_row-clause-tells
returns-in_err-place_row-clause-tells c =
    no_memory c.args.self.now c.args.ordinal c.args.row (states_of c.place_row.new.rows.items c.place_row.new.set c.self.inside.current) c.from_residual.result c.from_residual.ensures.1
    (ap (λ set. states_of c.place_row.new.rows.items set c.self.inside.current) c.in_err-place_row.ensures.unput
    ∙ alike_states c.self.inside.rows.items c.place_row.new.rows.items c.self.inside.chains c.place_row.new.chains c.self.inside.previous c.self.inside.current c.in_err-place_row.ensures.alike
    ∙ c.self.view_is)

pub returns-in_err-place_row-clause-agree : goal.returns-in_err-place_row-clause-agree
returns-in_err-place_row-clause-agree c =
    subst (λ (s : States). Agree s.previous s.current)
    (sym (ap (λ set. states_of c.place_row.new.rows.items set c.self.inside.current) c.in_err-place_row.ensures.unput
    ∙ alike_states c.self.inside.rows.items c.place_row.new.rows.items c.self.inside.chains c.place_row.new.chains c.self.inside.previous c.self.inside.current c.in_err-place_row.ensures.alike
    ∙ c.self.view_is))
    (agree_seen c.self.inside.rows.items c.self.inside.chains c.self.inside.previous c.self.inside.current c.self.inside.filled c.args.self.now c.self.invariant c.self.view_is)

pub invariant_of-self-2 : goal.invariant_of-self-2
invariant_of-self-2 c =
    let none = found_none c.as_slice.result.now c.self.inside.rows.items c.args.row c.find.result c.as_slice.ensures.value c.find.ensures c.in_default.is in
    let free = free_before c.self.inside.rows.items c.self.inside.chains c.self.inside.previous c.self.inside.current c.self.inside.filled c.self.invariant c.args.self.now c.self.view_is c.args.ordinal c.requires.current c.requires.free in
    let few : length c.place_row.new.rows.items ≤ 2 ^ 22 = omega (arith, c.place_row.ensures.few, c.self.invariant.few, c.requires.low) in
    subst (λ set. AreKept c.place_row.new.rows.items c.place_row.new.chains set c.self.inside.current c.self.inside.filled) (sym c.in_ok-place_row.ensures.put)
    (restored_kept c.self.inside.rows.items c.self.inside.chains c.self.inside.previous c.self.inside.current c.self.inside.filled c.self.invariant c.args.self.now c.self.view_is c.args.row c.args.ordinal c.args.hash c.place_row.new.rows.items c.place_row.new.chains c.requires.hashed c.in_ok-place_row.ensures.placed none free few c.place_row.ensures.roomy)

pub returns-clause-tells : goal.returns-clause-tells
returns-clause-tells c =
    let none = found_none c.as_slice.result.now c.self.inside.rows.items c.args.row c.find.result c.as_slice.ensures.value c.find.ensures c.in_default.is in
    let free = free_before c.self.inside.rows.items c.self.inside.chains c.self.inside.previous c.self.inside.current c.self.inside.filled c.self.invariant c.args.self.now c.self.view_is c.args.ordinal c.requires.current c.requires.free in
    let few : length c.place_row.new.rows.items ≤ 2 ^ 22 = omega (arith, c.place_row.ensures.few, c.self.invariant.few, c.requires.low) in
    subst (λ set. TellsRestore c.args.self.now c.args.ordinal c.args.row (states_of c.place_row.new.rows.items set c.self.inside.current) (Ok tt)) (sym c.in_ok-place_row.ensures.put)
    (restored_tells c.self.inside.rows.items c.self.inside.chains c.self.inside.previous c.self.inside.current c.self.inside.filled c.self.invariant c.args.self.now c.self.view_is c.args.row c.args.ordinal c.args.hash c.place_row.new.rows.items c.place_row.new.chains c.requires.hashed c.in_ok-place_row.ensures.placed none free few c.place_row.ensures.roomy)

pub returns-clause-agree : goal.returns-clause-agree
returns-clause-agree c =
    agree_seen c.place_row.new.rows.items c.place_row.new.chains c.place_row.new.set c.self.inside.current c.self.inside.filled (states_of c.place_row.new.rows.items c.place_row.new.set c.self.inside.current) (invariant_of-self-2 c) refl
