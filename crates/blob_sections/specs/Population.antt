-- The population of a type in a snapshot: its live ordinals.
use Rattle.std.specs.Prelude.{ℕ, List}
use Rattle.std.specs.Int.{w32, w64}
use Rattle.ordinal_set.specs.Population.{population_of}
use Rattle.blob_grammar.specs.Form.{Form, counted, made}
use Rattle.blob_frame.specs.Item.{fixed}

-- The live ordinals, a bit each of words that stand behind their number.
unfoldable pub population : Form (List ℕ)
population = made population_of (counted (fixed w32) (fixed w64))
