-- Rows whose items are copied: a place spells the same row where the elements or buckets stand in other words.
use Rattle.std.proofs.Common.{◌≡◌, ℕ, zero, suc, ◌+◌, ◌-◌, ◌*◌, ◌^◌, ◌<◌, ◌≤◌, ◌==◌, if◌then◌else◌, List, ◌∷◌, Option, None, Some, length, map, refl, ap, sym, subst, ◌∙◌, arith}
use Rattle.std.specs.List.{range_with_len}
use Rattle.std.proofs.Math.Nat.{mul-le-mul_right}
use Rattle.bit_array.specs.Element.{element_of}
use Rattle.schema_model.specs.declared.schema.Shape.{Shape}
use Rattle.row_model.specs.declared.row.Row.{Row}
use Rattle.list_codec.specs.ListPlace as lists
use Rattle.bucket_codec.specs.Run.{Bucket, SpellsRun, bucket_in}
use Rattle.bucket_codec.specs.BucketPlace.{SpellsPairs, bucket_width, end_at, key_width, run_at, start_at, value_width}
use Rattle.packed_half.proofs.PlacedLists.{list_bits}
use Rattle.packed_half.proofs.PlacedRuns.{map_widths, set_widths}
use Rattle.type_rows.specs.declared.section.Section.{Section}
use Rattle.type_rows.specs.Layout.{item_bits}
use Rattle.type_rows.specs.Loads.{Spells}
use Rattle.type_rows.specs.WellFormed.{AreWidths}

-- Words have the same bits as others, up to one.
abbrev pub AreSameUpTo : List ℕ → List ℕ → ℕ → Type 0
AreSameUpTo second other bits = (bit width : ℕ) → bit + width ≤ bits → element_of other bit width ≡ element_of second bit width

-- A section with these items.
abbrev pub with_items : Section → ℕ → List ℕ → Section
with_items section total second =
    record { max = section.max; widths = section.widths; total = total; first = section.first; second = second; areas = section.areas; live = section.live }

same_images : {X : Type 0} (f g : ℕ → X) (a n : ℕ) → ((p : ℕ) → a ≤ p → p < a + n → f p ≡ g p) → map f (range_with_len a n) ≡ map g (range_with_len a n)
same_images f g a zero same = refl
same_images f g a (suc n) same =
    ap (λ x. x ∷ map f (range_with_len (a + 1) n)) (same a (omega arith) (omega arith)) ∙ ap (λ rest. g a ∷ rest) (same_images f g (a + 1) n (λ p least below. same p (omega arith) (omega arith)))

-- An item before an end stands before its bits.
item_before : (width end total index : ℕ) → end ≤ total → index < end → index * width + width ≤ total * width
item_before width end total index within below =
    let product : (index + 1) * width ≤ total * width = mul-le-mul_right width (omega arith) in
    omega (arith, product)

list_moved : (widths : List ℕ) (total : ℕ) (first second other : List ℕ) (place : ℕ) (ordinals : List ℕ) → AreSameUpTo second other (total * lists.element_width widths) → total * lists.element_width widths ≤ 64 * length other
    → lists.SpellsList widths total first second place ordinals → lists.SpellsList widths total first other place ordinals
list_moved widths total first second other place ordinals same long spells =
    let width = lists.element_width widths in
    let start = lists.start_at widths first place in
    let end = lists.end_at widths first place in
    record {
      has = record {
        rises = spells.has.rises;
        within = spells.has.within;
        held = (let product : end * width ≤ total * width = mul-le-mul_right width spells.has.within in omega (arith, product, long));
      };
      are = spells.are ∙ sym (same_images (λ index. element_of other (index * width) width) (λ index. element_of second (index * width) width) start (end - start)
          (λ index least below. same (index * width) width (item_before width end total index spells.has.within (omega (arith, spells.has.rises, below)))));
      small = spells.small;
    }

bucket_moved : (second other : List ℕ) (key value bits index : ℕ) → AreSameUpTo second other bits → index * (key + value) + (key + value) ≤ bits → bucket_in other key value index ≡ bucket_in second key value index
bucket_moved second other key value bits index same inside =
    let at = index * (key + value) in
    let keys : element_of other at key ≡ element_of second at key = same at key (omega (arith, inside)) in
    let values : element_of other (at + key) value ≡ element_of second (at + key) value = same (at + key) value (omega (arith, inside)) in
    λ i. (if keys i == 2 ^ key - 1 then None else Some (keys i, values i))

pairs_moved : (widths : List ℕ) (total : ℕ) (first second other : List ℕ) (place : ℕ) (pairs : List (ℕ × ℕ)) → AreSameUpTo second other (total * bucket_width widths) → total * bucket_width widths ≤ 64 * length other
    → SpellsPairs widths total first second place pairs → SpellsPairs widths total first other place pairs
pairs_moved widths total first second other place pairs same long spells =
    let width = bucket_width widths in
    let start = start_at widths first place in
    let end = end_at widths first place in
    let run : run_at widths first other place ≡ run_at widths first second place =
    same_images (bucket_in other (key_width widths) (value_width widths)) (bucket_in second (key_width widths) (value_width widths)) start (end - start)
    (λ index least below. bucket_moved second other (key_width widths) (value_width widths) (total * width) index same
    (item_before width end total index spells.span.counted (omega (arith, spells.span.rises, below)))) in
    record {
      span = record {
        rises = spells.span.rises;
        counted = spells.span.counted;
        held = (let product : end * width ≤ total * width = mul-le-mul_right width spells.span.counted in omega (arith, product, long));
      };
      run = subst (λ (r : List Bucket). SpellsRun r pairs) (sym run) spells.run;
      sized = spells.sized;
    }

pub row_moved : (shape : Shape) (section : Section) (total : ℕ) (other : List ℕ) (max : Option ℕ) (place : ℕ) (row : Row) → AreWidths shape max section.widths → AreSameUpTo section.second other (total * item_bits shape section.widths)
    → total * item_bits shape section.widths ≤ 64 * length other → Spells shape (with_items section total section.second) place row → Spells shape (with_items section total other) place row
row_moved (Shape.Object key fields) section total other max place row wide same long spells = spells
row_moved (Shape.List element) section total other max place (Row.List ordinals) wide same long spells =
    let bits = (list_bits element section.widths wide.0).1 in
    list_moved section.widths total section.first section.second other place ordinals (subst (λ n. AreSameUpTo section.second other (total * n)) bits same) (subst (λ n. total * n ≤ 64 * length other) bits long) spells
row_moved (Shape.List element) section total other max place _ wide same long spells = absurd spells
row_moved (Shape.Set element) section total other max place row wide same long spells =
    let bits = (set_widths element section.widths wide.0 wide.1).item in (
      spells.0,
      spells.1,
      pairs_moved section.widths total section.first section.second other place spells.0 (subst (λ n. AreSameUpTo section.second other (total * n)) bits same) (subst (λ n. total * n ≤ 64 * length other) bits long) spells.2,
    )
row_moved (Shape.Map key value) section total other max place row wide same long spells =
    let bits = (map_widths key value section.widths wide.0 wide.1).item in (
      spells.0,
      spells.1,
      pairs_moved section.widths total section.first section.second other place spells.0 (subst (λ n. AreSameUpTo section.second other (total * n)) bits same) (subst (λ n. total * n ≤ 64 * length other) bits long) spells.2,
    )
