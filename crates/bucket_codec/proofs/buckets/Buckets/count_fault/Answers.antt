use Rattle.std.proofs.Common.{sym, ◌∙◌}
use Rattle.bucket_codec.specs.Buckets.{run_of}
use Rattle.bucket_codec.proofs.Spelled.{other_count}
use Rattle.bucket_codec.proofs.buckets.Buckets.count_fault.Goals as goal

pub returns-then-taken-count : goal.returns-then-taken-count
returns-then-taken-count c = (c.in_default.ensures.ranges, other_count (run_of c.args.self) c.args.count c.taken.result c.taken.ensures c.if-taken-count.true)

pub returns : goal.returns
returns c = record {
  ranges = c.in_default.ensures.ranges;
  taken = sym c.if-taken-count.false ∙ c.taken.ensures;
  room = c.in_default.ensures.room;
  power = c.in_default.ensures.power;
}
