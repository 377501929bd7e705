use Rattle.std.proofs.Common.{◌+◌, ◌*◌, ◌-◌, ◌^◌, ◌<◌, ◌≤◌, ℕ, length, subst, sym, ◌∙◌, arith}
use Rattle.std.specs.Prelude.{sum}
use Rattle.std.proofs.lemmas.List.Elements.{All-contains}
use Rattle.ordinal_set.specs.Ordinals.{TellsNext, lacking}
use Rattle.ordinal_set.proofs.Beside.{lacking_member}
use Rattle.record_copies.specs.Fixed.{AreOthersKept, IsEndKept}
use Rattle.kept_sections.specs.Moved.{IsClear}
use Rattle.kept_sections.proofs.Changing.{all_written, one_written}
use Rattle.kept_sections.proofs.moved.clear_gone.Goals as goal

pub clear_record-requires-clause-within : goal.clear_record-requires-clause-within
clear_record-requires-clause-within c =
    let member = (lacking_member c.args.old.now c.args.new.now c.in-Some.ordinal c.in-Some.ensures.tells.member).0 in
    let within = (c.requires c.in-Some.ordinal member).within in
    subst (λ (place : ℕ). (place + 1) * sum c.args.widths.now ≤ 64 * length c.loop-ordinal.first) (sym c.from.ensures) (omega (arith, within, c.loop-ordinal.invariant.long))

pub clear_record-requires-clause-counted : goal.clear_record-requires-clause-counted
clear_record-requires-clause-counted c =
    let member = (lacking_member c.args.old.now c.args.new.now c.in-Some.ordinal c.in-Some.ensures.tells.member).0 in
    subst (λ (place : ℕ). (place + 1) * sum c.args.widths.now < 2 ^ 64) (sym c.from.ensures) (c.requires c.in-Some.ordinal member).counted

pub overflow_add-from : goal.overflow_add-from
overflow_add-from c =
    let member = (lacking_member c.args.old.now c.args.new.now c.in-Some.ordinal c.in-Some.ensures.tells.member).0 in
    let small = All-contains (λ m. m < 2 ^ 32 - 1) c.args.old.now c.in-Some.ordinal c.in-Some.ensures.ordinals.small member in
    record { fits = omega (arith, small) }

pub loop-ordinal-preserved : goal.loop-ordinal-preserved
loop-ordinal-preserved c =
    let widths = c.args.widths.now in
    let gone = lacking c.args.old.now c.args.new.now in
    let next = c.in-Some.ensures.tells in
    let member = (lacking_member c.args.old.now c.args.new.now c.in-Some.ordinal next.member).0 in
    let small = All-contains (λ m. m < 2 ^ 32 - 1) c.args.old.now c.in-Some.ordinal c.in-Some.ensures.ordinals.small member in
    let first = c.loop-ordinal.first in
    let after = c.clear_record.new.first in
    one_written (IsClear widths) widths c.args.first.now gone (λ a b place same none. sym same ∙ none) first after c.loop-ordinal.from c.in-Some.ordinal c.loop-ordinal.invariant next small c.clear_record.auto.first
    (subst (AreOthersKept widths first after) c.from.ensures c.clear_record.ensures.others) (subst (IsEndKept widths first after) c.from.ensures c.clear_record.ensures.end)
    (subst (IsClear widths after) c.from.ensures c.clear_record.ensures.clear)

pub returns : goal.returns
returns c =
    let widths = c.args.widths.now in
    let gone = lacking c.args.old.now c.args.new.now in
    all_written (IsClear widths) widths c.args.first.now gone c.loop-ordinal.first c.loop-ordinal.from c.loop-ordinal.invariant (subst (TellsNext c.loop-ordinal.from gone) c.in_default.is c.first_beside.ensures.tells)
