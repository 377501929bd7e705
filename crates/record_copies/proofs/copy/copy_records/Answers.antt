use Rattle.std.proofs.Common.{ℕ}
use Rattle.std.specs.Prelude.{min}
use Rattle.record_copies.proofs.Copies.{front_copied, record_copied, none_behind, none_there}
use Rattle.record_copies.proofs.copy.copy_records.Goals as goal

pub returns-clause-copied : goal.returns-clause-copied
returns-clause-copied c = λ place inside.
    let front = front_copied c.args.from.now c.args.to.now c.copy_bits.new.to c.shared_bits-bits.result c.requires.zeros c.copy_bits.ensures.block in
    record_copied c.args.widths.now c.args.from.now c.copy_bits.new.to (min c.args.places_before c.args.places) c.shared_bits-bits.result place front c.shared_bits-bits.ensures inside

pub returns-clause-clear : goal.returns-clause-clear
returns-clause-clear c = λ place past.
    let count : ℕ = min c.args.places_before c.args.places in
    let front = front_copied c.args.from.now c.args.to.now c.copy_bits.new.to c.shared_bits-bits.result c.requires.zeros c.copy_bits.ensures.block in
    none_there c.args.widths.now c.copy_bits.new.to count place (none_behind c.args.widths.now c.args.from.now c.copy_bits.new.to count c.shared_bits-bits.result front c.shared_bits-bits.ensures) past

pub returns-clause-behind : goal.returns-clause-behind
returns-clause-behind c =
    let front = front_copied c.args.from.now c.args.to.now c.copy_bits.new.to c.shared_bits-bits.result c.requires.zeros c.copy_bits.ensures.block in
    none_behind c.args.widths.now c.args.from.now c.copy_bits.new.to (min c.args.places_before c.args.places) c.shared_bits-bits.result front c.shared_bits-bits.ensures
