use Rattle.std.proofs.Common.{ap, arith, refl}
use Rattle.std.specs.Prelude.{option_copied}
use Rattle.bucket_codec.proofs.Placed.{packs_none, packs_some, lays_none, lays_some, row_held}
use Rattle.bucket_codec.proofs.packing.put_row.Goals as goal

pub returns-in_default-clause-packed : goal.returns-in_default-clause-packed
returns-in_default-clause-packed c =
    packs_none c.args.widths.now c.args.first.now c.put_pointers.new.first c.args.second.now c.args.place c.args.start c.args.start (option_copied c.args.row) (ap option_copied c.in_default.is) c.requires.start
    c.put_pointers.ensures.front c.put_pointers.ensures.end c.put_pointers.ensures.size

pub fill-requires-clause-held : goal.fill-requires-clause-held
fill-requires-clause-held c =
    row_held c.args.widths.now c.args.second.now c.args.start c.buckets_for.result c.size_of-size.result _ _ (option_copied c.args.row) c.in-Some.row.now (ap option_copied c.in-Some.is) c.requires.holds.narrow c.requires.pointer c.requires.inside
    c.requires.bits c.size_of-size.ensures.is c.buckets_for.ensures.is refl c.map_value_width.ensures

pub overflow_add-end : goal.overflow_add-end
overflow_add-end c =
    let held = row_held c.args.widths.now c.args.second.now c.args.start c.buckets_for.result c.size_of-size.result _ _ (option_copied c.args.row) c.in-Some.row.now (ap option_copied c.in-Some.is) c.requires.holds.narrow c.requires.pointer c.requires.inside
    c.requires.bits c.size_of-size.ensures.is c.buckets_for.ensures.is refl c.map_value_width.ensures in
    omega (arith, held.ends)

pub returns-clause-packed : goal.returns-clause-packed
returns-clause-packed c =
    packs_some c.args.widths.now c.args.first.now c.put_pointers-2.new.first c.fill.new.words c.args.place c.args.start c.buckets_for.result c.size_of-size.result c.map_value_width.result (option_copied c.args.row)
    c.in-Some.row.now (ap option_copied c.in-Some.is) c.requires.row c.requires.start c.put_pointers-2.ensures.front c.put_pointers-2.ensures.end c.put_pointers-2.ensures.size c.size_of-size.ensures.is c.buckets_for.ensures.is
    c.buckets_for.ensures.count c.buckets_for.ensures.room
    (omega (arith, c.requires.inside, c.fill.ensures.front.long)) c.map_value_width.ensures c.fill.ensures.filled c.fill.ensures.ranges

pub returns-in_default-clause-laid : goal.returns-in_default-clause-laid
returns-in_default-clause-laid c = lays_none c.args.widths.now c.put_pointers.new.first c.args.second.now c.args.place (option_copied c.args.row) (ap option_copied c.in_default.is)

pub returns-clause-laid : goal.returns-clause-laid
returns-clause-laid c =
    lays_some c.args.widths.now c.args.first.now c.put_pointers-2.new.first c.fill.new.words c.args.place c.args.start c.buckets_for.result c.size_of-size.result c.map_value_width.result (option_copied c.args.row)
    c.in-Some.row.now (ap option_copied c.in-Some.is) c.requires.start c.put_pointers-2.ensures.front c.put_pointers-2.ensures.end c.size_of-size.ensures.is c.buckets_for.ensures.is c.map_value_width.ensures c.fill.ensures.laid
