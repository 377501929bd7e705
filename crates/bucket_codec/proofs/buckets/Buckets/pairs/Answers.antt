use Rattle.std.proofs.Common.{subst}
use Rattle.row_model.specs.Row.{Rises}
use Rattle.bucket_codec.specs.Run.{keys_of}
use Rattle.bucket_codec.specs.Buckets.{run_of}
use Rattle.bucket_codec.proofs.Spelled.{no_rise, not_open, spells}
use Rattle.bucket_codec.proofs.buckets.Buckets.pairs.Goals as goal

pub returns-then-not-is_open : goal.returns-then-not-is_open
returns-then-not-is_open c = (c.in_default.ensures.ranges, not_open (run_of c.args.self) c.args.count c.if-not-is_open.ensures)

pub returns-then-not-has_rising_keys : goal.returns-then-not-has_rising_keys
returns-then-not-has_rising_keys c = (
  c.in_default.ensures.ranges,
  no_rise (run_of c.args.self) c.in_ok-taken_pairs.field-0 c.by_key-pairs.result c.args.count c.in_ok-taken_pairs.ensures c.by_key-pairs.ensures.same c.by_key-pairs.ensures.rises
      (subst (λ l. Rises (keys_of l) → ⊥) c.as_slice.ensures c.if-not-has_rising_keys.ensures),
)

pub returns : goal.returns
returns c =
    spells (run_of c.args.self) c.in_ok-taken_pairs.field-0 c.by_key-pairs.result c.args.count c.in_default.ensures c.if-not-is_open.ensures c.in_ok-taken_pairs.ensures c.by_key-pairs.ensures.same
    (subst (λ l. Rises (keys_of l)) c.as_slice.ensures c.if-not-has_rising_keys.ensures)
