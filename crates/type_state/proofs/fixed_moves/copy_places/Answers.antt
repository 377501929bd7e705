use Rattle.type_state.proofs.FixedHalves.{copied, front_of_places}
use Rattle.type_state.proofs.fixed_moves.copy_places.Goals as goal

pub copy_rest-requires-clause-front : goal.copy_rest-requires-clause-front
copy_rest-requires-clause-front c =
    front_of_places c.args.current.shape.now c.args.current.half.now c.args.current.words.now c.args.widths.now c.places.result.now c.args.first.now c.place_count.result c.args.places c.requires.held.object c.requires.kept c.requires.widths
    c.place_count.ensures.is c.places.ensures c.requires.front

pub returns : goal.returns
returns c =
    copied c.args.current.shape.now c.args.current.half.now c.args.current.words.now c.args.widths.now c.places.result.now c.copy_rest.new.to c.place_count.result c.args.places c.requires.held.object c.requires.held.fixed c.requires.held.long c.requires.kept c.requires.widths
    c.place_count.ensures.is c.places.ensures c.copy_rest.ensures.copied c.copy_rest.ensures.clear
