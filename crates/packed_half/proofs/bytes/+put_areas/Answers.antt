use Rattle.std.proofs.Common.{◌≡◌, ◌-◌, ℕ, List, length, drop, arith, subst}
use Rattle.std.proofs.lemmas.List.{length-drop, take_all}
use Rattle.packed_half.specs.Half.{bytes_in, words_for_bytes}
use Rattle.packed_half.proofs.BytesPut.{fields_join}
use Rattle.packed_half.proofs.bytes.+put_areas.Goals as goal

pub returns-in-len1-up : goal.returns-in-len1-up
returns-in-len1-up t c =
    let area = c.area-item.result in
    let is : c.as_slice.result.now ≡ area = c.as_slice.ensures in
    let long : length c.put_bytes.new.words ≡ words_for_bytes (length area) = omega (arith, c.put_bytes.auto.words, c.split_at_mut-here.ensures.front_len, c.div_ceil.ensures, c.len.ensures) in
    let behind = length-drop 1 c.args.areas.now in
    fields_join c.put_bytes.new.words c.put_areas.new.words area c.args.areas.now _ c.in-len1-up.len_at_least c.area-item.is
    (take_all (length c.args.areas.now - 1) (drop 1 c.args.areas.now) (omega arith)) long
    (subst (λ (a : List ℕ). bytes_in c.put_bytes.new.words (length a) ≡ a) is c.put_bytes.ensures) c.put_areas.ensures
