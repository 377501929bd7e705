use Rattle.std.proofs.Common.{◌≡◌, ℤ, Some, w64, of_z, to_z, ap, ◌∙◌, sym, subst, arith}
use Rattle.std.proofs.lemmas.Int.{ints, to_z-of_z}
use Rattle.read_engine.specs.Standing.{IsStanding, position_of}
use Rattle.read_engine.proofs.Loads.{position_is, stands}
use Rattle.read_engine.proofs.load.standing.Goals as goal

pub invariant_of-result : goal.invariant_of-result
invariant_of-result c =
    let same : to_z w64 (of_z w64 c.args.tag) ≡ c.args.tag = grind (arith, ints, to_z-of_z) in
    subst (λ (tag : ℤ). IsStanding tag c.args.body.model c.flipped.result c.args.past c.new.result c.new-2.result) (sym same)
    (subst (λ indexes. IsStanding c.args.tag c.args.body.model c.flipped.result c.args.past indexes c.new-2.result) (sym c.new.ensures)
    (subst (λ walks. IsStanding c.args.tag c.args.body.model c.flipped.result c.args.past _ walks) (sym c.new-2.ensures)
    (stands c.args.tag c.args.body c.flipped.result c.args.past c.requires.whole c.requires.model c.requires.past c.flipped.ensures.halves c.flipped.ensures.schemas)))

pub returns : goal.returns
returns c =
    let same : to_z w64 (of_z w64 c.args.tag) ≡ c.args.tag = grind (arith, ints, to_z-of_z) in
    ap Some
    (ap (λ (tag : ℤ). position_of tag c.args.body.model c.flipped.result c.args.past c.new.result c.new-2.result) same
    ∙ (λ i. position_of c.args.tag c.args.body.model c.flipped.result c.args.past (c.new.ensures i) (c.new-2.ensures i))
    ∙ position_is c.args.tag c.args.body c.flipped.result c.args.past c.requires.whole c.requires.model c.requires.past c.flipped.ensures.halves c.flipped.ensures.schemas)
