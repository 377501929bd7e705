-- The order `stat`: what is told of each type of where the consumer stands. It changes nothing.
use Rattle.std.specs.Prelude.{◌≡◌, List, Option, Some, None, length, map, false}
use Rattle.std.specs.FinMap.{keys, values}
use Rattle.std.specs.List.{zip}
use Rattle.schema_model.specs.declared.schema.Schema.{Schema}
use Rattle.type_rows.specs.WordsHeld.{bytes_held}
use Rattle.type_state.specs.State.{Half}
use Rattle.type_state.specs.WordsHeld.{words_held}
use Rattle.read_engine.specs.Position.{Position}
use Rattle.hol_answers.specs.declared.refusal.Refusal.TheVariants.{NoState}
use Rattle.hol_answers.specs.declared.reply.Reply.{Reply}
use Rattle.hol_answers.specs.declared.reply.Reply.TheVariants.{Refused, Stat}
use Rattle.hol_answers.specs.declared.stat.TypeCounts.{TypeCounts}
use Rattle.hollow_machine.specs.Forms.{OrderForm, looking}

-- What is told of a type: its name, how many rows are live, the greatest ordinal that has a place by the last blob that named it, and how many words and
-- bytes its rows take at the layout of that blob.
abbrev pub counts_of : Schema → Half → TypeCounts
counts_of schema half = record {
  type_name = schema.name;
  live = length (keys half.rows);
  max = half.layout.max;
  words = words_held schema.shape half;
  bytes = bytes_held (values half.rows);
}

-- What is told of the types of a model, in its order.
abbrev pub counts_of_types : List Schema → List Half → List TypeCounts
counts_of_types schemas halves = map (λ both. counts_of both.0 both.1) (zip schemas halves)

-- What `stat` answers: that the consumer has no state, or what is told of each type, and the tag of the state.
abbrev pub StatReply : Option Position → Reply → Type 0
StatReply None answer = answer ≡ Refused NoState
StatReply (Some now) answer = answer ≡ Stat now.tag (counts_of_types now.schemas now.halves)

abbrev pub stat_form : OrderForm (Unit {0})
stat_form = looking (λ consumer asked answer. StatReply consumer answer) false
