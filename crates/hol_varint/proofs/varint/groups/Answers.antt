use Rattle.std.proofs.Common.{◌≡◌, ◌+◌, ◌-◌, ◌*◌, get_or, arith, subst}
use Rattle.hol_varint.specs.Varint.{VarStandsBelow}
use Rattle.hol_varint.proofs.VarReading.{InFront, in_front_more, in_front_full, stands_ended, long_ended}
use Rattle.hol_varint.proofs.varint.groups.Goals as goal
use Rattle.hol_varint.proofs.varint.groups.Goals.{then-number-lt-FULL, else-number-lt-FULL}

pub returns-then-number-ge-FULL : goal.returns-then-number-ge-FULL
returns-then-number-ge-FULL c =
    long_ended c.args.bytes.now c.args.at c.loop-place.place c.loop-place.number c.loop-place.invariant (omega arith) (omega arith) c.requires.first (omega arith)

pub returns-then-byte-lt128 : goal.returns-then-byte-lt128
returns-then-byte-lt128 c =
    let bytes = c.args.bytes.now in
    let byte_is : get_or bytes c.loop-place.place 0 ≡ c.from.result = omega arith in
    subst (λ byte. VarStandsBelow 18446744073709551616 bytes c.args.at (c.loop-place.number * 128 + byte) (c.loop-place.place + 1)) byte_is
    (stands_ended bytes c.args.at c.loop-place.place c.loop-place.number c.loop-place.invariant (omega arith) (omega arith) c.requires.first (omega arith))

pub loop-place-preserved : goal.loop-place-preserved
loop-place-preserved c =
    let bytes = c.args.bytes.now in
    let place = c.loop-place.place in
    elim c.if-number-lt-FULL.branch [
      | then-number-lt-FULL w ↦
          (let number_is : c.loop-place.number * 128 + (get_or bytes place 0 - 128) ≡ c.if-number-lt-FULL.number = omega arith in
          subst (InFront bytes c.args.at (place + 1)) number_is
          (in_front_more bytes c.args.at place c.loop-place.number c.loop-place.invariant (omega arith) (omega arith) (omega (arith, c.type_inv.bytes place)) (omega arith)))
      | else-number-lt-FULL w ↦
          (let number_is : c.loop-place.number ≡ c.if-number-lt-FULL.number = omega arith in
          subst (InFront bytes c.args.at (place + 1)) number_is
          (in_front_full bytes c.args.at place c.loop-place.number c.loop-place.invariant (omega arith) (omega arith) (omega (arith, c.type_inv.bytes place)) (omega arith)))
    ]
