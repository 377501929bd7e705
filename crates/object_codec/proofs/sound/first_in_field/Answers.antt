use Rattle.std.proofs.Common.{◌+◌, ◌*◌, get_or, refl}
use Rattle.bit_array.proofs.Elements.{element_of-lt}
use Rattle.object_codec.specs.ObjectPlace.{part_at}
use Rattle.object_codec.proofs.sound.first_in_field.Goals as goal

pub returns-then-is_free-clause-tells : goal.returns-then-is_free-clause-tells
returns-then-is_free-clause-tells c = λ k inside.
    (let place = get_or c.args.places.now k 0 in
    c.if-is_free.ensures refl (part_at c.args.first.now c.args.size place c.args.before c.args.width c.args.area.now) refl (element_of-lt c.args.first.now (place * c.args.size + c.args.before) c.args.width))
