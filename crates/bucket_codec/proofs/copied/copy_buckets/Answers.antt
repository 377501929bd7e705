use Rattle.std.proofs.Common.{◌-◌, ◌<◌, ◌^◌, ℕ, All, arith, subst, sym, refl}
use Rattle.bucket_codec.specs.BucketPlace.{key_width, value_width}
use Rattle.bucket_codec.specs.Buckets.{run_of}
use Rattle.bucket_codec.specs.Run.{taken_of}
use Rattle.bucket_codec.proofs.CopiedRuns.{copy_held, copy_packs, taken_all}
use Rattle.bucket_codec.proofs.RunBuckets.{length-run_in}
use Rattle.bucket_codec.proofs.copied.copy_buckets.Goals as goal

pub fill_from-requires-clause-held : goal.fill_from-requires-clause-held
fill_from-requires-clause-held c =
    copy_held c.args.widths.now c.args.second.now c.args.start c.args.run.len _ c.map_value_width.result c.requires.holds.narrow c.requires.pointer c.requires.inside c.requires.bits refl c.map_value_width.ensures

pub fill_from-requires-clause-keys : goal.fill_from-requires-clause-keys
fill_from-requires-clause-keys c =
    taken_all (λ (pair : ℕ × ℕ). pair.0 < 2 ^ key_width c.args.widths.now - 1) (run_of c.args.run) c.args.size c.requires.row.0 c.requires.row.1 c.requires.row.2.keys

pub fill_from-requires-clause-values : goal.fill_from-requires-clause-values
fill_from-requires-clause-values c =
    subst (λ (v : ℕ). All (λ (pair : ℕ × ℕ). pair.1 < 2 ^ v) (taken_of (run_of c.args.run))) (sym c.map_value_width.ensures)
    (taken_all (λ (pair : ℕ × ℕ). pair.1 < 2 ^ value_width c.args.widths.now) (run_of c.args.run) c.args.size c.requires.row.0 c.requires.row.1 c.requires.row.2.values)

pub overflow_add-end : goal.overflow_add-end
overflow_add-end c =
    let held = copy_held c.args.widths.now c.args.second.now c.args.start c.args.run.len _ c.map_value_width.result c.requires.holds.narrow c.requires.pointer c.requires.inside c.requires.bits refl c.map_value_width.ensures in
    omega (arith, held.ends)

pub returns-clause-packed : goal.returns-clause-packed
returns-clause-packed c = λ row is.
    let run = c.args.run in
    copy_packs c.args.widths.now c.args.first.now c.put_pointers.new.first c.fill_from.new.words c.args.place c.args.start run.len c.args.size c.map_value_width.result (run_of run) row
    (length-run_in run.words.now run.key_width run.value_width run.start run.len) is c.requires.start c.put_pointers.ensures.front c.put_pointers.ensures.end c.put_pointers.ensures.size
    (omega (arith, c.requires.inside, c.fill_from.ensures.front.long)) c.map_value_width.ensures c.fill_from.ensures.is
