use Rattle.std.proofs.Common.{◌≡◌, ◌∙◌, ◌∷◌, sym, subst, arith}
use Rattle.json.specs.Reads.{token_of}
use Rattle.record_json.specs.ReadTree.{read_tree}
use Rattle.record_stream.proofs.Records.{ended}
use Rattle.record_stream.specs.Records.{record_depth}
use Rattle.record_trees.specs.Tree.{plain}
use Rattle.record_tokens.specs.Taken.{Takes}
use Rattle.record_tokens.proofs.Told.{tree_ahead}
use Rattle.record_tokens.proofs.next.next_whole.Goals as goal

pub returns-then-take_end_array : goal.returns-then-take_end_array
returns-then-take_end_array c = λ records rest. ended c.args.reader.now c.take_end_array.new.self records rest c.if-take_end_array.ensures

pub returns-in-Ok : goal.returns-in-Ok
returns-in-Ok c =
    let schemas = c.args.model.now in
    let t = c.args.type_index in
    let going = c.if-take_end_array.ensures in
    let first : c.take_end_array.new.self ≡ token_of c.in-Some.token ∷ c.next.new.self = grind arith in
    let takes = subst (λ ts. Takes (read_tree schemas t) record_depth ts (plain c.in-Ok.tree) c.whole_behind.new.reader) (sym (sym going.1 ∙ first)) c.in-Ok.ensures in
    λ records rest ahead. tree_ahead schemas t c.args.reader.now c.whole_behind.new.reader (plain c.in-Ok.tree) going.0 takes records rest ahead
