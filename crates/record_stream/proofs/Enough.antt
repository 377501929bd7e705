-- More turns than the items of an array take change nothing.
use Rattle.std.proofs.Common.{◌≡◌, ◌∙◌, ℕ, zero, suc, ◌-◌, ◌≤◌, List, length, Option, Some, None, option_map, refl, sym, ap, arith}
use Rattle.json.specs.Token.{Token}
use Rattle.json.specs.Json.{Items, Json, Parse, after_end_array, item, items, items_step, parse_map}
use Rattle.json.proofs.Found.{Some_inj}
use Rattle.json.proofs.Grammar.{Takes, items_end, items_fail, items_more, left}
use Rattle.serde_json.specs.Data.{Items as DataItems}
use Rattle.serde_json.specs.Read.{converted, of_items}
use Rattle.record_stream.proofs.Converted.{converted_some}
use Rattle.record_stream.proofs.Records.{none_or_some}

mapped : (j : Json) (o : Option (Items × List Token)) (js : Items) (rest : List Token) → parse_map (item j) o ≡ Some (js, rest) → (more : Items) × (js ≡ item j more) × (o ≡ Some (more, rest))
mapped j None js rest e = absurd cc
mapped j (Some (more, behind)) js rest e =
    let same : (item j more, behind) ≡ (js, rest) = Some_inj (item j more, behind) (js, rest) e in
    (more, sym (ap (λ (p : Items × List Token). p.0) same), ap (λ (l : List Token). Some (more, l)) (ap (λ (p : Items × List Token). p.1) same))

module _ (p : Parse Json) (takes : Takes p) where
  abbrev Holds : ℕ → Type 0
  Holds n = (m : ℕ) (ts rest : List Token) (js : Items) → length ts ≤ m → items p n ts ≡ Some (js, rest) → items p m ts ≡ Some (js, rest)

  turn : (n m : ℕ) (ts rest : List Token) (js : Items) (over : Option (List Token)) (read : Option (Json × List Token)) → Holds n → length ts ≤ m → after_end_array ts ≡ over → p ts ≡ read
      → items p (suc n) ts ≡ Some (js, rest) → items p m ts ≡ Some (js, rest)
  unfolding items
  turn n m ts rest js (Some r) read again le over is e = items_end p m ts r le over ∙ (sym (ap (items_step p (items p n) ts) over) ∙ e)
  turn n m ts rest js None None again le going is e = absurd (none_or_some (js, rest) (sym (items_fail p (suc n) ts going is) ∙ e))
  turn n m ts rest js None (Some (j, r)) again le going is e =
      let shorter = takes ts r (ap left is) in
      let one : n ≡ suc n - 1 = omega arith in
      let step = ap (λ k. parse_map (item j) (items p k r)) one ∙ (sym (items_more p (suc n) ts r j (omega arith) going is) ∙ e) in
      let found = mapped j (items p n r) js rest step in
      let same = again (m - 1) r rest found.0 (omega (arith, shorter, le)) found.2 in
      items_more p m ts r j (omega (arith, shorter, le)) going is ∙ (ap (parse_map (item j)) same ∙ ap (λ (ks : Items). Some (ks, rest)) (sym found.1))

  items_enough : (n : ℕ) → Holds n
  unfolding items
  items_enough zero m ts rest js le e = absurd cc
  items_enough (suc n) m ts rest js le e = turn n m ts rest js (after_end_array ts) (p ts) (items_enough n) le refl refl e

  pub enough : (n m : ℕ) (ts rest : List Token) (ds : DataItems) → length ts ≤ m → converted of_items (items p n ts) ≡ Some (ds, rest) → converted of_items (items p m ts) ≡ Some (ds, rest)
  enough n m ts rest ds le e =
      let j = converted_some of_items (items p n ts) ds rest e in
      ap (converted of_items) (items_enough n m ts rest j.0 le j.1) ∙ ap (option_map (λ b. (b, rest))) j.2
