use Rattle.std.proofs.Common.{◌∙◌, ap, Some, cond, sym}
use Rattle.std.specs.BTreeMap.{get_by_text}
use Rattle.std.specs.Str.{bytes_eq}
use Rattle.std.specs.String.{string_bytes}
use Rattle.std.proofs.lemmas.Map.Text.{btree_map_updates_text}
use Rattle.schema_model.proofs.Indexing.{indexed_again, indexed_more}
use Rattle.seen_patches.proofs.named_fields.add_name.Goals as goal

pub returns-then-contains_key : goal.returns-then-contains_key
returns-then-contains_key c = λ names h len.
    indexed_again (get_by_text c.args.places.now) c.args.name.now (sym c.contains_key.ensures ∙ c.if-contains_key.true) names h

pub returns : goal.returns
returns c = λ names h len.
    indexed_more (get_by_text c.args.places.now) (get_by_text c.insert.new.self) c.args.name.now c.args.place (sym c.contains_key.ensures ∙ c.if-contains_key.false)
    (λ n. btree_map_updates_text (string_bytes c.in_ok-from_str.field-0) c.args.places.now c.insert.new.self _ c.in_ok-insert.ensures.updates n
    ∙ ap (λ key. cond (bytes_eq key n) (Some c.args.place) (get_by_text c.args.places.now n)) c.in_ok-from_str.ensures.ok)
    names h len
