use Rattle.std.proofs.Common.{arith}
use Rattle.write_engine.specs.Production.{current_of, previous_of}
use Rattle.write_engine.proofs.Parts.{fits_index}
use Rattle.write_engine.proofs.PlainRows.{plain_added, plain_producing, plain_too_many}
use Rattle.write_engine.proofs.Producing.{count_types}
use Rattle.write_engine.proofs.RowPuts.{refused_same}
use Rattle.write_engine.proofs.producer.put_plain.Goals as goal

pub put_one-requires-clause-known : goal.put_one-requires-clause-known
put_one-requires-clause-known c =
    omega (arith, fits_index c.args.model.now c.args.type_index c.requires.fits.0 c.requires.fits.1, count_types c.args.model.now c.args.maps.now.items c.requires.producing)

pub returns-clause-producing : goal.returns-clause-producing
returns-clause-producing c =
    plain_producing c.args.model.now c.args.maps.now.items c.put_one.new.maps.items c.args.type_index c.args.row c.requires.fits.0 c.put_one.result c.requires.producing c.put_one.ensures.previous c.requires.fits.1 c.requires.fits.2
    c.put_one.ensures.tells

pub returns-clause-added : goal.returns-clause-added
returns-clause-added c =
    plain_added c.args.model.now (previous_of c.args.maps.now.items) (current_of c.args.maps.now.items) (current_of c.put_one.new.maps.items) c.args.type_index c.args.row c.put_one.result c.put_one.ensures.tells

pub returns-clause-too_many : goal.returns-clause-too_many
returns-clause-too_many c =
    plain_too_many c.args.model.now (previous_of c.args.maps.now.items) (current_of c.args.maps.now.items) (current_of c.put_one.new.maps.items) c.args.type_index c.args.row c.put_one.result c.requires.producing.agree c.put_one.ensures.tells

pub returns-clause-refused : goal.returns-clause-refused
returns-clause-refused c =
    refused_same (previous_of c.args.maps.now.items) (current_of c.args.maps.now.items) (current_of c.put_one.new.maps.items) c.args.type_index c.args.row c.put_one.result c.put_one.ensures.tells
