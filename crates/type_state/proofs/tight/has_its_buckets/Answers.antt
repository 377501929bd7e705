use Rattle.std.proofs.Common.{◌-◌, ap, length, sym, ◌∙◌}
use Rattle.bucket_codec.specs.BucketCount.{bucket_count}
use Rattle.bucket_codec.specs.BucketPlace.{end_at, key_width, start_at, value_width}
use Rattle.type_state.proofs.TightPlaces.{run_count}
use Rattle.type_state.proofs.tight.has_its_buckets.Goals as goal

pub returns-clause-buckets : goal.returns-clause-buckets
returns-clause-buckets c = λ _.
    (let rows = c.args.rows.now in
    let widths = rows.widths.now in
    let start = start_at widths rows.first.now c.args.place in
    let end = end_at widths rows.first.now c.args.place in
    let own = run_count c.in-Some.buckets.words.now c.in-Some.buckets.key_width c.in-Some.buckets.value_width c.in-Some.buckets.start c.in-Some.buckets.len in
    let there = run_count rows.second.now (key_width widths) (value_width widths) start (end - start) in
    sym there ∙ sym (ap length c.in-Some.ensures.1) ∙ own ∙ c.if-buckets-buckets_for.false ∙ c.buckets_for.ensures.is ∙ ap bucket_count c.size-size.ensures)
