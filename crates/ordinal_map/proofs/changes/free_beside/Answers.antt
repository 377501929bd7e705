use Rattle.std.proofs.Common.{◌-◌, ◌<◌, ◌^◌, sym, subst, ◌∙◌, arith}
use Rattle.std.specs.Prelude.{IsSome}
use Rattle.std.proofs.lemmas.List.Elements.{All-contains}
use Rattle.ordinal_set.specs.Ordinals.{TellsNext, lacking}
use Rattle.ordinal_set.proofs.Beside.{lacking_member}
use Rattle.ordinal_map.proofs.Freeing.{freed_all, freed_more}
use Rattle.ordinal_map.proofs.changes.free_beside.Goals as goal

pub free_row-requires-clause-within : goal.free_row-requires-clause-within
free_row-requires-clause-within c =
    let member = (lacking_member c.args.leaving.now c.args.staying.now c.in-Some.ordinal c.in-Some.ensures.tells.member).0 in
    subst (λ n. c.in-Some.ordinal < n) (sym c.loop-ordinal.invariant.few) (c.requires.within c.in-Some.ordinal member)

pub free_row-requires-clause-linked : goal.free_row-requires-clause-linked
free_row-requires-clause-linked c =
    let next = c.in-Some.ensures.tells in
    let member = (lacking_member c.args.leaving.now c.args.staying.now c.in-Some.ordinal next.member).0 in
    let same = c.loop-ordinal.invariant.freed.stayed c.in-Some.ordinal (λ leaves. let from = next.from in omega (arith, leaves.1)) in
    subst IsSome (sym same.1) (c.requires.linked c.in-Some.ordinal member)

pub overflow_add-from : goal.overflow_add-from
overflow_add-from c =
    let leaving = c.args.leaving.now in
    let member = (lacking_member leaving c.args.staying.now c.in-Some.ordinal c.in-Some.ensures.tells.member).0 in
    let small = All-contains (λ m. m < 2 ^ 32 - 1) leaving c.in-Some.ordinal c.in-Some.ensures.ordinals.small member in
    record { fits = omega (arith, small) }

pub loop-ordinal-preserved : goal.loop-ordinal-preserved
loop-ordinal-preserved c =
    let leaving = c.args.leaving.now in
    let set = lacking leaving c.args.staying.now in
    let o = c.in-Some.ordinal in
    let next = c.in-Some.ensures.tells in
    let member = (lacking_member leaving c.args.staying.now o next.member).0 in
    record {
      small = let small = All-contains (λ m. m < 2 ^ 32 - 1) leaving o c.in-Some.ensures.ordinals.small member in omega arith;
      freed = freed_more set c.loop-ordinal.from o c.args.rows.now.items c.loop-ordinal.rows.items c.free_row.new.rows.items c.args.chains.now c.loop-ordinal.chains c.free_row.new.chains next c.loop-ordinal.invariant.freed c.free_row.ensures.freed;
      few = c.free_row.ensures.few ∙ c.loop-ordinal.invariant.few;
      roomy = c.free_row.ensures.roomy;
    }

pub returns-clause-freed : goal.returns-clause-freed
returns-clause-freed c =
    let set = lacking c.args.leaving.now c.args.staying.now in
    let all = subst (λ answer. TellsNext c.loop-ordinal.from set answer) c.in_default.is c.first_beside.ensures.tells in
    freed_all set c.loop-ordinal.from c.args.rows.now.items c.loop-ordinal.rows.items c.args.chains.now c.loop-ordinal.chains all c.loop-ordinal.invariant.freed
