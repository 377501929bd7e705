use Rattle.std.proofs.Common.{arith, ap, subst, sym, ◌∙◌}
use Rattle.list_codec.specs.ListPlace.{IsList}
use Rattle.bucket_codec.specs.BucketCount.{bucket_count}
use Rattle.type_rows.specs.Patches.{places_in}
use Rattle.type_rows.proofs.PlacesUpTo.{up_to}
use Rattle.type_rows.proofs.RunFaults.{few_there, holds_at, holds_lists, is_buckets, items_are, length_there, size_there}
use Rattle.type_state.proofs.ComingRows.{lists_up_to, runs_up_to, some_up_to}
use Rattle.type_state.proofs.coming.items_in.Goals as goal

pub size-requires : goal.size-requires
size-requires c =
    let section = up_to (places_in c.args.patch.now) c.args.place in
    holds_at c.args.shape.now section c.bucket_rows.result c.args.place (is_buckets c.args.shape.now c.in_default.not-Object c.in_default.not-List) c.requires.readable
    (runs_up_to c.args.patch.now c.args.place c.bucket_rows.result c.bucket_rows.ensures) (omega arith)

pub overflow_cast-size : goal.overflow_cast-size
overflow_cast-size c =
    let section = up_to (places_in c.args.patch.now) c.args.place in
    let few = few_there c.args.shape.now section c.args.place (is_buckets c.args.shape.now c.in_default.not-Object c.in_default.not-List) c.requires.readable (some_up_to c.args.shape.now c.args.patch.now c.args.place c.requires.spelled) in
    let is = size_there (places_in c.args.patch.now) c.bucket_rows.result c.args.place c.size.result c.bucket_rows.ensures c.size.ensures in
    omega (arith, few, is)

pub length-requires : goal.length-requires
length-requires c =
    holds_lists c.args.shape.now (up_to (places_in c.args.patch.now) c.args.place) c.list_rows.result c.args.place (subst IsList (sym c.in-List.is) tt) c.requires.readable
    (lists_up_to c.args.patch.now c.args.place c.list_rows.result c.list_rows.ensures) (omega arith)

pub returns-in-List : goal.returns-in-List
returns-in-List c = length_there c.args.shape.now (places_in c.args.patch.now) c.list_rows.result c.args.place c.length.result (subst IsList (sym c.in-List.is) tt) c.list_rows.ensures c.length.ensures

pub returns-in_default : goal.returns-in_default
returns-in_default c =
    c.buckets_for.ensures.is ∙ ap bucket_count (size_there (places_in c.args.patch.now) c.bucket_rows.result c.args.place c.size.result c.bucket_rows.ensures c.size.ensures)
    ∙ items_are c.args.shape.now (places_in c.args.patch.now) c.args.place (is_buckets c.args.shape.now c.in_default.not-Object c.in_default.not-List)
