-- The ordinals that a delta removes from a type, or adds to it.
use Rattle.std.specs.Prelude.{◌≡◌, ℕ, List}
use Rattle.ordinal_set.specs.Gaps.{Gaps}
use Rattle.schema_model.specs.declared.reason.Reason.{Reason}
use Rattle.schema_model.specs.declared.reason.Reason.TheVariants.{BadVarint}
use Rattle.blob_grammar.specs.Form.{Form, ◌>>=◌, judged}
use Rattle.blob_frame.specs.Item.{run, vlong}
use Rattle.blob_sections.proofs.GapJudge.{judge_gaps}

-- A run of this many bytes, which are the gaps of a list. Bytes that are those of none are refused at the run's place.
unfoldable pub gap_run : ℕ → Form (List ℕ)
gap_run count = judged (run count) Gaps (λ (bytes : List ℕ) (why : Reason). ((list : List ℕ) → Gaps bytes list → ⊥) × (why ≡ BadVarint)) judge_gaps

-- The number of bytes, and the run.
unfoldable pub ordinals : Form (List ℕ)
ordinals = do
  count ← vlong
  gap_run count
