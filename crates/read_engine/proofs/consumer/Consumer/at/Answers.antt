use Rattle.std.proofs.Common.{◌<◌, Option, length, sym, subst, arith}
use Rattle.row_model.specs.declared.row.Row.{Row}
use Rattle.row_model.specs.Table.{row_at}
use Rattle.bucket_codec.specs.Run.{FindsIn}
use Rattle.type_state.specs.Lookup.{pairs_of}
use Rattle.read_engine.specs.Position.{Position, rows_now}
use Rattle.read_engine.proofs.Consumers.{its_parts, its_position, row_is, states_length}
use Rattle.read_engine.proofs.consumer.Consumer.at.Goals as goal

pub get-requires : goal.get-requires
get-requires c =
    its_parts c.self.inside.tag c.self.inside.model c.self.inside.states c.self.inside.past c.self.inside.indexes c.self.inside.walks c.self.invariant c.args.self.now c.self.view_is (λ (p : Position). c.args.type_index < length p.schemas) (c.args.type_index < length c.self.inside.states) c.requires
    (λ at stands known. omega (arith, known, states_length at c.self.inside.model c.self.inside.states c.self.inside.past c.self.inside.indexes c.self.inside.walks stands))

pub returns : goal.returns
returns c =
    its_position c.self.inside.tag c.self.inside.model c.self.inside.states c.self.inside.past c.self.inside.indexes c.self.inside.walks c.self.invariant c.args.self.now c.self.view_is (λ (p : Position). c.args.type_index < length p.schemas)
    (λ (p : Position). FindsIn (pairs_of (row_at (rows_now p) c.args.type_index c.args.ordinal)) c.args.key c.at.result) c.requires
    (λ at stands known. subst (λ (row : Option Row). FindsIn (pairs_of row) c.args.key c.at.result) (sym (row_is c.self.inside.states c.args.type_index c.args.ordinal c.get.result.now c.get.ensures)) c.at.ensures)
