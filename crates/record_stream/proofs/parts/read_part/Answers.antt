use Rattle.std.proofs.Common.{◌≡◌, ◌∙◌, ◌∷◌, bytes_eq, codes, true, ap, arith}
use Rattle.std.specs.Option.{is_none}
use Rattle.std.proofs.lemmas.Slice.Eq.{bytes_eq-Decides}
use Rattle.json.specs.Token.{key}
use Rattle.record_stream.proofs.PartsFound.{add_found, none_there, other_found, tag_found, version_found}
use Rattle.record_stream.proofs.parts.read_part.Goals as goal

pub returns-in_ok-read_value-clause-found : goal.returns-in_ok-read_value-clause-found
returns-in_ok-read_value-clause-found c = λ start now had is.
    (let same : bytes_eq c.args.name.now (codes "version") ≡ true = grind arith in
    let named = is ∙ ap (λ n. key n ∷ c.args.reader.now) ((bytes_eq-Decides c.args.name.now (codes "version")).0 same) in
    version_found c.args.holder start now c.args.reader.now c.read_value.new.reader c.args.found.now had c.in_ok-read_value.field-0 named c.in_ok-read_value.ensures.ok)

pub returns-in_ok-read_value-2-clause-found : goal.returns-in_ok-read_value-2-clause-found
returns-in_ok-read_value-2-clause-found c = λ start now had is.
    (let same : bytes_eq c.args.name.now (codes "tag") ≡ true = grind arith in
    let named = is ∙ ap (λ n. key n ∷ c.args.reader.now) ((bytes_eq-Decides c.args.name.now (codes "tag")).0 same) in
    tag_found c.args.holder start now c.args.reader.now c.read_value-then-eq-2.new.reader c.args.found.now had c.in_ok-read_value-2.field-0 named c.in_ok-read_value-2.ensures.ok)

pub returns-in_ok-read_value-3-clause-found : goal.returns-in_ok-read_value-3-clause-found
returns-in_ok-read_value-3-clause-found c = λ start now had is.
    (let same : bytes_eq c.args.name.now c.other_name.result.now ≡ true = grind arith in
    let named = is ∙ ap (λ n. key n ∷ c.args.reader.now) ((bytes_eq-Decides c.args.name.now c.other_name.result.now).0 same ∙ c.other_name.ensures) in
    other_found c.args.holder start now c.args.reader.now c.read_value-then-eq-3.new.reader c.args.found.now had c.in_ok-read_value-3.field-0 named c.in_ok-read_value-3.ensures.ok)

pub returns-in_ok-pass_types-clause-found : goal.returns-in_ok-pass_types-clause-found
returns-in_ok-pass_types-clause-found c = λ start now had is.
    (let same : bytes_eq c.args.name.now c.records_name.result.now ≡ true = grind arith in
    let named = is ∙ ap (λ n. key n ∷ c.args.reader.now) ((bytes_eq-Decides c.args.name.now c.records_name.result.now).0 same ∙ c.records_name.ensures) in
    let none : is_none c.args.found.now.types ≡ true = grind arith in
    add_found c.args.holder start now c.args.reader.now c.pass_types.new.reader c.args.found.now had c.take_object.new.reader c.in_ok-pass_types.field-0 (none_there c.args.found.now.types none) named c.in_ok-take_object.ensures c.in_ok-pass_types.ensures.listed)
