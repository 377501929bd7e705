use Rattle.std.proofs.Common.{◌≡◌, length, arith}
use Rattle.std.proofs.lemmas.Grind.{common_steps}
use Rattle.object_codec.proofs.sound.first_fault.Goals as goal

pub returns-then-is_empty-clause-tells : goal.returns-then-is_empty-clause-tells
returns-then-is_empty-clause-tells c = λ k inside.
    absurd (let none : length c.args.places.now ≡ 0 = grind (arith, common_steps) in omega arith)
