use Rattle.std.proofs.Common.{◌≤◌, List, ℕ, length, ap, get_or, arith}
use Rattle.record_copies.proofs.Sources.{area_in_words, bytes_long, field_inside, put_is}
use Rattle.record_copies.proofs.source.WordRecordsRecordSource.push_run.Goals as goal

pub between-requires-clause-within : goal.between-requires-clause-within
between-requires-clause-within c =
    let some : 1 ≤ c.args.end = omega (arith, c.requires.rises, c.if-start-end.false) in
    let inside = field_inside c.args.self.now.areas.now c.args.field c.args.end some c.requires.inside in
    let area = area_in_words c.args.self.now.areas.now c.args.field c.index-self-field.result inside in
    let long = bytes_long (get_or c.args.self.now.areas.now c.args.field c.index-self-field.result) in
    let same = ap (λ (bytes : List ℕ). length bytes) area in
    let within = c.requires.inside in
    omega (arith, within, same, long)

pub returns : goal.returns
returns c =
    let some : 1 ≤ c.args.end = omega (arith, c.requires.rises, c.if-start-end.false) in
    let inside = field_inside c.args.self.now.areas.now c.args.field c.args.end some c.requires.inside in
    put_is c.args.self.now.areas.now c.args.field c.args.start c.args.end c.index-self-field.result c.between.result c.args.area.now c.add_bytes.new.area c.add_bytes.result inside c.between.ensures c.add_bytes.ensures
