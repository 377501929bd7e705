-- The shard envelope of a type, which stands between its schema and its section.
use Rattle.std.specs.Prelude.{◌≡◌, ◌≢◌}
use Rattle.schema_model.specs.declared.reason.Reason.TheVariants.{Sharded}
use Rattle.blob_grammar.specs.Form.{Form, ◌>>=◌, judged, envelope}
use Rattle.blob_grammar.specs.Deciding.{judge_number}
use Rattle.blob_frame.specs.Item.{vint, skipped}

-- The number of shards, which is 1.
unfoldable pub shards : Form Unit
shards = judged vint (λ n u. n ≡ 1) (λ n why. (n ≢ 1) × (why ≡ Sharded)) (judge_number 1 Sharded)

-- What stands in a shard envelope behind a number that is not 0: bytes to skip, their number first, and the number of shards.
unfoldable pub listed_shards : Form Unit
listed_shards = do
  count ← vint
  _ ← skipped count
  shards

-- The shard envelope.
unfoldable pub shard_envelope : Form Unit
shard_envelope = envelope vint tt listed_shards
