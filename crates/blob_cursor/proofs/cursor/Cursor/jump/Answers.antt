use Rattle.std.proofs.Common.{arith, subst, sym, ap, length, ℕ, List}
use Rattle.blob_cursor.specs.Scene.{IsPlaceIn}
use Rattle.blob_cursor.proofs.Fixed.{over_moved}
use Rattle.blob_cursor.proofs.cursor.Cursor.jump.Goals as goal

pub returns-in-Ok-clause-over : goal.returns-in-Ok-clause-over
returns-in-Ok-clause-over c = λ content over. subst (λ place. IsPlaceIn place content) (sym c.pass.ensures.moved) (over_moved c.args.self.now content c.in-Ok.ahead (omega (arith, ap (λ (xs : List ℕ). length xs) c.ahead.ensures.value)) over)
