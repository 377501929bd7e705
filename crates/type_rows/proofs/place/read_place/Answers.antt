use Rattle.std.proofs.Common.{sym, subst, arith}
use Rattle.object_codec.specs.ObjectPlace.{IsObject}
use Rattle.list_codec.specs.ListPlace.{IsList}
use Rattle.type_rows.specs.Loads.{parts_up_to}
use Rattle.type_rows.proofs.Places.{holds_object, is_buckets}
use Rattle.type_rows.proofs.Loading.{buckets_tell}
use Rattle.type_rows.proofs.PlaceReasons.{buckets_fail, list_fails, object_fails}
use Rattle.type_rows.proofs.place.read_place.Goals as goal

pub read-requires-clause-holds : goal.read-requires-clause-holds
read-requires-clause-holds g c =
    let section = parts_up_to c.args.widths.now 0 (g.P.Parts.first_words c.args.parts.now) (g.P.Parts.second_words c.args.parts.now) (g.P.Parts.area_bytes c.args.parts.now) c.args.place in
    holds_object c.args.schema.now.shape section c.args.place (subst IsObject (sym c.in-Object.is) tt) c.requires (omega arith)

pub returns-in_default-clause-tells : goal.returns-in_default-clause-tells
returns-in_default-clause-tells g c =
    let section = parts_up_to c.args.widths.now c.args.total (g.P.Parts.first_words c.args.parts.now) (g.P.Parts.second_words c.args.parts.now) (g.P.Parts.area_bytes c.args.parts.now) c.args.place in
    buckets_tell c.args.schema.now.shape section c.args.place c.read-in_default.result (is_buckets c.args.schema.now.shape c.in_default.not-Object c.in_default.not-List) c.read-in_default.ensures.tells

pub returns-in-Object-clause-reason : goal.returns-in-Object-clause-reason
returns-in-Object-clause-reason g c =
    let section = parts_up_to c.args.widths.now c.args.total (g.P.Parts.first_words c.args.parts.now) (g.P.Parts.second_words c.args.parts.now) (g.P.Parts.area_bytes c.args.parts.now) c.args.place in
    object_fails c.args.schema.now.shape section c.args.place c.read.result (subst IsObject (sym c.in-Object.is) tt) c.read.ensures.tells

pub returns-in-List-clause-reason : goal.returns-in-List-clause-reason
returns-in-List-clause-reason g c =
    let section = parts_up_to c.args.widths.now c.args.total (g.P.Parts.first_words c.args.parts.now) (g.P.Parts.second_words c.args.parts.now) (g.P.Parts.area_bytes c.args.parts.now) c.args.place in
    list_fails c.args.schema.now.shape section c.args.place c.read-in-List.result (subst IsList (sym c.in-List.is) tt) c.read-in-List.ensures.tells

pub returns-in_default-clause-reason : goal.returns-in_default-clause-reason
returns-in_default-clause-reason g c =
    let section = parts_up_to c.args.widths.now c.args.total (g.P.Parts.first_words c.args.parts.now) (g.P.Parts.second_words c.args.parts.now) (g.P.Parts.area_bytes c.args.parts.now) c.args.place in
    buckets_fail c.args.schema.now.shape section c.args.place c.read-in_default.result (is_buckets c.args.schema.now.shape c.in_default.not-Object c.in_default.not-List) c.read-in_default.ensures.tells
