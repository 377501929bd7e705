use Rattle.schema_growth.proofs.Growing.{front_of, in_front}
use Rattle.schema_growth.proofs.growth.are_in_front.Goals as goal

pub returns-then-fields-grown : goal.returns-then-fields-grown
returns-then-fields-grown c =
    (λ yes. front_of c.args.fields.now c.args.grown.now (c.same_fields.ensures.0 yes), λ front. c.same_fields.ensures.1 (in_front c.args.fields.now c.args.grown.now front))
