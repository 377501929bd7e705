use Rattle.std.proofs.Common.{◌≡◌, Some, None, true, false, bytes_eq, arith}
use Rattle.json.specs.Json.{read_key}
use Rattle.record_stream.proofs.Entered.{add_entered, add_there, member_known, member_passed, none_then, over_then, shorter}
use Rattle.record_stream.proofs.opening.enter_types.Goals as goal

pub members-init : goal.members-init
members-init c = λ types added. added

pub returns-then-eq : goal.returns-then-eq
returns-then-eq c = λ types added.
    (let named : read_key c.members.reader ≡ Some (Some c.in-Ok-Some.name.now, c.next_key.new.self) = grind arith in
    let same : bytes_eq c.in-Ok-Some.name.now c.args.sought.now ≡ true = grind arith in
    add_entered c.args.sought.now c.args.reader.now c.members.reader c.next_key.new.self c.in-Ok-Some.name.now c.members.invariant named c.next-brace.new.self c.next-brace.result same c.next-brace.ensures.value types added)

pub pass_known-requires : goal.pass_known-requires
pass_known-requires c =
    let named : read_key c.members.reader ≡ Some (Some c.in-Ok-Some.name.now, c.next_key.new.self) = grind arith in
    let other : bytes_eq c.in-Ok-Some.name.now c.args.sought.now ≡ false = grind arith in
    member_known c.args.sought.now c.args.reader.now c.members.reader c.next_key.new.self c.in-Ok-Some.name.now c.members.invariant named c.requires.0 c.requires.1 other

pub members-smaller : goal.members-smaller
members-smaller c =
    let named : read_key c.members.reader ≡ Some (Some c.in-Ok-Some.name.now, c.next_key.new.self) = grind arith in
    shorter 125 c.members.reader c.next_key.new.self c.pass_known.new.reader c.in-Ok-Some.name.now named c.pass_known.ensures

pub members-preserved : goal.members-preserved
members-preserved c =
    let named : read_key c.members.reader ≡ Some (Some c.in-Ok-Some.name.now, c.next_key.new.self) = grind arith in
    let other : bytes_eq c.in-Ok-Some.name.now c.args.sought.now ≡ false = grind arith in
    member_passed c.args.sought.now c.args.reader.now c.members.reader c.next_key.new.self c.in-Ok-Some.name.now c.members.invariant named c.pass_known.new.reader other c.pass_known.ensures

pub returns-in_default : goal.returns-in_default
returns-in_default c = λ types added.
    (let over : read_key c.members.reader ≡ Some (None, c.next_key.new.self) = grind arith in
    absurd (add_there c.args.sought.now c.args.reader.now c.members.reader c.members.invariant (over_then c.members.reader c.next_key.new.self over) types added))

pub returns-in_default-2 : goal.returns-in_default-2
returns-in_default-2 c = λ types added.
    (let none : read_key c.members.reader ≡ None = grind arith in
    absurd (add_there c.args.sought.now c.args.reader.now c.members.reader c.members.invariant (none_then c.members.reader none) types added))
