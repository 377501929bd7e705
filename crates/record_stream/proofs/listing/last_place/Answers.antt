use Rattle.std.proofs.Common.{◌≡◌, ◌∙◌, ◌+◌, ◌-◌, ◌<◌, Some, drop, length, map, string_bytes, true≢false, sym, ap, subst, arith}
use Rattle.std.proofs.lemmas.Slice.Eq.{bytes_eq-Decides}
use Rattle.record_stream.specs.RecordLine.{AreOther}
use Rattle.record_stream.proofs.Named.{name_at, other_before}
use Rattle.record_stream.proofs.listing.last_place.Goals as goal

pub returns-then-eq : goal.returns-then-eq
returns-then-eq c =
    let names = c.args.names.now in
    let name = c.args.name.now in
    let i = c.names.left - 1 in
    let item = c.index-names-left.result in
    let within : i < length names = omega (arith, c.names.invariant.1, c.names-test.true) in
    let behind : c.names.left ≡ i + 1 = omega (arith, c.names-test.true) in
    let named = sym c.as_str.ensures.value ∙ (bytes_eq-Decides c.as_str.result.now name).0 (sym c.if-eq.ensures) in
    (name_at names i item within c.index-names-left.is ∙ ap Some named, subst (λ n. AreOther name (drop n (map string_bytes names))) behind c.names.invariant.0)

pub names-preserved : goal.names-preserved
names-preserved c =
    let names = c.args.names.now in
    let name = c.args.name.now in
    let i = c.names.left - 1 in
    let item = c.index-names-left.result in
    let within : i < length names = omega (arith, c.names.invariant.1, c.names-test.true) in
    let behind : c.names.left ≡ i + 1 = omega (arith, c.names-test.true) in
    let later = subst (λ n. AreOther name (drop n (map string_bytes names))) behind c.names.invariant.0 in
    let other : string_bytes item ≡ name → ⊥ = (λ same. true≢false (sym (c.if-eq.ensures ∙ (bytes_eq-Decides c.as_str.result.now name).1 (c.as_str.ensures.value ∙ same)))) in
    (other_before name (map string_bytes names) i (string_bytes item) (name_at names i item within c.index-names-left.is) other later, omega (arith, c.names.invariant.1))
