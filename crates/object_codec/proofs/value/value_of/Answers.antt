use Rattle.std.proofs.Common.{◌≡◌, arith, of_z, subst, sym, to_z, w32, w64}
use Rattle.std.proofs.lemmas.Int.{ints, to_z-of_z}
use Rattle.row_model.specs.Areas.{area_of}
use Rattle.std.specs.Prelude.{length}
use Rattle.row_model.specs.declared.row.Value.{Value}
use Rattle.object_codec.specs.Part.{SpellsValue}
use Rattle.object_codec.specs.Parts.{GivesPart, IsRunWithin}
use Rattle.object_codec.specs.declared.part.Part.{Part}
use Rattle.object_codec.proofs.PartValues.{fixed_given}
use Rattle.object_codec.proofs.value.value_of.Goals as goal

pub returns-in-Null : goal.returns-in-Null
returns-in-Null g c = λ part area_is told. fixed_given c.args.kind.now part c.args.given Part.Null c.in-Null.is (λ start end is. absurd cc) told

pub returns-in-Int : goal.returns-in-Int
returns-in-Int g c =
    let same : to_z w32 (of_z w32 c.in-Int.number) ≡ c.in-Int.number = grind (arith, ints, to_z-of_z) in
    (λ part area_is told.
    subst (λ number. SpellsValue c.args.kind.now part (Value.Int number)) (sym same)
    (fixed_given c.args.kind.now part c.args.given (Part.Int c.in-Int.number) c.in-Int.is (λ start end is. absurd cc) told))

pub returns-in-Long : goal.returns-in-Long
returns-in-Long g c =
    let same : to_z w64 (of_z w64 c.in-Long.number) ≡ c.in-Long.number = grind (arith, ints, to_z-of_z) in
    (λ part area_is told.
    subst (λ number. SpellsValue c.args.kind.now part (Value.Long number)) (sym same)
    (fixed_given c.args.kind.now part c.args.given (Part.Long c.in-Long.number) c.in-Long.is (λ start end is. absurd cc) told))

pub returns-in-Bool : goal.returns-in-Bool
returns-in-Bool g c = λ part area_is told. fixed_given c.args.kind.now part c.args.given (Part.Bool c.in-Bool.flag) c.in-Bool.is (λ start end is. absurd cc) told

pub returns-in-Ref : goal.returns-in-Ref
returns-in-Ref g c = λ part area_is told. fixed_given c.args.kind.now part c.args.given (Part.Ref c.in-Ref.ordinal) c.in-Ref.is (λ start end is. absurd cc) told

pub run_value-requires-clause-rises : goal.run_value-requires-clause-rises
run_value-requires-clause-rises g c = (subst (IsRunWithin (length (area_of (g.P.Parts.area_bytes c.args.parts.now) c.args.field))) c.in-Run.is c.requires).0

pub run_value-requires-clause-inside : goal.run_value-requires-clause-inside
run_value-requires-clause-inside g c = (subst (IsRunWithin (length (area_of (g.P.Parts.area_bytes c.args.parts.now) c.args.field))) c.in-Run.is c.requires).1

pub returns-in-Run : goal.returns-in-Run
returns-in-Run g c = λ part area_is told. c.run_value.ensures part area_is (subst (GivesPart c.args.kind.now part) c.in-Run.is told)
