use Rattle.write_engine.proofs.Puts.{puts_refused, puts_row, puts_told, same_previous}
use Rattle.write_engine.proofs.adding.put_row.Goals as goal

pub returns-clause-put : goal.returns-clause-put
returns-clause-put c = puts_row c.args.maps.now c.args.type_index c.args.row c.put.new.self c.index-maps-type_index.result c.put.result c.requires.known c.put.ensures.tells

pub returns-clause-previous : goal.returns-clause-previous
returns-clause-previous c = same_previous c.args.maps.now c.args.type_index c.args.row c.put.new.self c.index-maps-type_index.result c.put.result c.requires.known c.put.ensures.tells

pub returns-clause-too_many : goal.returns-clause-too_many
returns-clause-too_many c = puts_refused c.args.maps.now c.args.type_index c.args.row c.put.new.self c.index-maps-type_index.result c.put.result c.requires.known c.requires.agree c.put.ensures.tells

pub returns-clause-tells : goal.returns-clause-tells
returns-clause-tells c = puts_told c.args.maps.now c.args.type_index c.args.row c.put.new.self c.index-maps-type_index.result c.put.result c.requires.known c.put.ensures.tells
