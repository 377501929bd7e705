use Rattle.seen_patches.proofs.Patched as patched
use Rattle.seen_patches.proofs.laws.seen_patch.Goals as goal

pub returns : goal.returns
returns c = record { ordinals = patched.ordinals_kept; layout = patched.layout_seen; own = patched.own_seen; rows = patched.rows_seen }
