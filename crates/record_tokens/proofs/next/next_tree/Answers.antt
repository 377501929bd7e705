use Rattle.std.proofs.Common.{◌≡◌, ◌∙◌, ◌∷◌, None, sym, subst, arith}
use Rattle.json.specs.Reads.{token_of}
use Rattle.record_stream.proofs.Records.{ended}
use Rattle.record_tokens.specs.Next.{TakesRecord}
use Rattle.record_tokens.proofs.Told.{record_told}
use Rattle.record_tokens.proofs.next.next_tree.Goals as goal

pub returns-then-take_end_array : goal.returns-then-take_end_array
returns-then-take_end_array c = λ records rest. ended c.args.reader.now c.take_end_array.new.self records rest c.if-take_end_array.ensures

pub returns-in-Ok : goal.returns-in-Ok
returns-in-Ok c =
    let schemas = c.args.model.now in
    let t = c.args.type_index in
    let going = c.if-take_end_array.ensures in
    let first : c.take_end_array.new.self ≡ token_of c.in-Some.token ∷ c.next.new.self = grind arith in
    record_told schemas t c.args.reader.now c.read_behind.new.reader c.in-Ok.record going.0
    (subst (λ ts. TakesRecord schemas t ts c.in-Ok.record c.read_behind.new.reader) (sym (sym going.1 ∙ first)) c.in-Ok.ensures)
