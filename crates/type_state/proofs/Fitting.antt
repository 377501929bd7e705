-- The words of a half that can be laid out are few.
use Rattle.std.proofs.Common.{◌≡◌, ◌<◌, ◌^◌, ◌++◌, ℕ, List, length, take, drop, refl, sym, ap, ◌∙◌, arith}
use Rattle.std.proofs.lemmas.List.{take_at}
use Rattle.schema_model.specs.declared.schema.Shape.{Shape}
use Rattle.row_model.specs.Table.{RowMap}
use Rattle.type_rows.specs.declared.section.Section.{Section}
use Rattle.type_rows.specs.Loads.{Loads}
use Rattle.packed_half.specs.declared.half.HalfShape.{HalfShape}
use Rattle.packed_half.specs.Half.{words_for}
use Rattle.packed_half.specs.Laying.{CanLay}

pub words_fit : (shape : Shape) (section : Section) (half : HalfShape) → ((rows : RowMap) × Loads shape section rows × CanLay shape half rows) → words_for shape half < 2 ^ 64
words_fit shape section half laid = omega (arith, laid.2.room)

-- Words that are written over others of the same number are these.
pub refilled : (given others : List ℕ) → length given ≡ length others → take (length others) (given ++ drop (length given) others) ≡ given
refilled given others same =
    ap (λ (n : ℕ). take n (given ++ drop (length given) others)) (sym same) ∙ take_at given (drop (length given) others) (length given) refl

pub moved_fit : (shape : Shape) (half : HalfShape) (rows : RowMap) → CanLay shape half rows → words_for shape half < 2 ^ 64
moved_fit shape half rows can = omega (arith, can.room)
