use Rattle.std.proofs.Common.{◌∙◌, sym, subst, arith}
use Rattle.std.proofs.lemmas.Option.{slice_get_within}
use Rattle.write_engine.specs.Agreement.{TablesAgree}
use Rattle.write_engine.specs.Production.{Production, current_of}
use Rattle.write_engine.specs.RowPuts.{FitsRow, TellsRowPut}
use Rattle.write_engine.proofs.Producing.{count_types}
use Rattle.write_engine.proofs.RowPuts.{put_exactly, refused_exactly, row_producing}
use Rattle.write_engine.proofs.producer.Producer.put_row.Goals as goal

pub put_one-requires : goal.put_one-requires
put_one-requires c = record {
  known = (let fits = subst (λ (p : Production). FitsRow p.schemas p.current c.args.type_index c.args.row) (sym c.self.view_is) c.requires.fits in
      let within = slice_get_within c.self.inside.model c.args.type_index fits.schema fits.type in
      let count = count_types c.self.inside.model c.self.inside.maps.items c.self.invariant in omega (arith, within, count));
  agree = c.self.invariant.agree;
}

pub invariant_of-self : goal.invariant_of-self
invariant_of-self c =
    row_producing c.self.inside.model c.self.inside.maps.items c.put_one.new.maps.items c.args.type_index c.args.row c.put_one.result c.self.invariant c.put_one.ensures.previous
    (subst (λ (p : Production). FitsRow p.schemas p.current c.args.type_index c.args.row) (sym c.self.view_is) c.requires.fits) c.put_one.ensures.tells

pub returns-clause-put : goal.returns-clause-put
returns-clause-put c =
    let old = c.args.self.now in
    let after = current_of c.put_one.new.maps.items in
    put_exactly old.previous old.current after c.args.type_index c.args.row (subst (λ (p : Production). TablesAgree p.previous p.current) c.self.view_is c.self.invariant.agree) c.put_one.result
    (subst (λ (p : Production). TellsRowPut p.previous c.args.type_index c.args.row p.current c.put_one.result after) c.self.view_is c.put_one.ensures.tells)

pub returns-clause-too_many : goal.returns-clause-too_many
returns-clause-too_many c =
    let old = c.args.self.now in
    let after = current_of c.put_one.new.maps.items in
    refused_exactly old.previous old.current after c.args.type_index c.args.row (subst (λ (p : Production). TablesAgree p.previous p.current) c.self.view_is c.self.invariant.agree) c.put_one.result
    (subst (λ (p : Production). TellsRowPut p.previous c.args.type_index c.args.row p.current c.put_one.result after) c.self.view_is c.put_one.ensures.tells)
