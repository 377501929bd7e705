use Rattle.type_rows.proofs.RunFaults.{few_there, holds_at, holds_lists, is_buckets, length_there, size_there}
use Rattle.std.proofs.Common.{arith, subst, sym}
use Rattle.list_codec.specs.ListPlace.{IsList}
use Rattle.type_rows.proofs.runs.items_of.Goals as goal

pub size-requires : goal.size-requires
size-requires c =
    holds_at c.args.shape.now c.args.section.now c.bucket_rows.result c.args.place (is_buckets c.args.shape.now c.in_default.not-Object c.in_default.not-List) c.requires.readable c.bucket_rows.ensures c.requires.place

pub overflow_cast-size : goal.overflow_cast-size
overflow_cast-size c =
    let section = c.args.section.now in
    let few = few_there c.args.shape.now section c.args.place (is_buckets c.args.shape.now c.in_default.not-Object c.in_default.not-List) c.requires.readable c.requires.spelled in
    let is = size_there section c.bucket_rows.result c.args.place c.size.result c.bucket_rows.ensures c.size.ensures in
    omega (arith, few, is)

pub length-requires : goal.length-requires
length-requires c =
    holds_lists c.args.shape.now c.args.section.now c.list_rows.result c.args.place (subst IsList (sym c.in-List.is) tt) c.requires.readable c.list_rows.ensures c.requires.place

pub returns-in-List : goal.returns-in-List
returns-in-List c = length_there c.args.shape.now c.args.section.now c.list_rows.result c.args.place c.length.result (subst IsList (sym c.in-List.is) tt) c.list_rows.ensures c.length.ensures
