-- Texts that are put one behind the other: the members of a record behind their leads, and the items of an array.
use Rattle.std.proofs.Common.{◌≡◌, ℕ, zero, suc, ◌+◌, ◌<◌, ◌≤◌, ◌∙◌, List, [], ◌∷◌, ◌++◌, length, map, zip, take, drop, get_or, nat_lt, Result, Ok, Err, refl, sym, ap, subst, arith, append_assoc, String, Global, string_bytes}
use Rattle.std.specs.List.{AllZip}
use Rattle.std.specs.Prelude.{IsErrAnd}
use Rattle.std.proofs.lemmas.List.{drop_more, drop_all, take_all, length-map, get_or-map}
use Rattle.std.proofs.lemmas.Slice.Zip.{AllZip-long}
use Rattle.serde_json.specs.Data.{Data, null, array}
use Rattle.serde_json.specs.View.{items_of}
use Rattle.serde_json.specs.Written.{comma_if, compact_text, items_text}
use Rattle.schema_model.specs.declared.schema.Field.{Field}
use Rattle.schema_model.specs.Parts.{field_names}
use Rattle.json_rows.specs.FieldOrder.{Order}
use Rattle.json_rows.specs.LineForm.{AreWholeLeads, text_at}
use Rattle.json_rows.specs.RowLine.{PutsAll}
use Rattle.json_rows.proofs.Put.{at_place, item_put, items_from, items_put}
use Rattle.record_json.specs.NamesApart.{AreNamesApart}
use Rattle.record_json.specs.Printing.{PrintsItems, TellsPrinted, TellsPut, count_of}
use Rattle.record_json.specs.declared.print_fault.PrintFault.{PrintFault}
use Rattle.record_json.specs.declared.print_fault.PrintFault.TheVariants.{Nodes, Memory}
use Rattle.record_json.proofs.PrintingFronts.{count_append, front_count, longer}
use Rattle.record_json.proofs.PrintingRows.{told_as, told_after, stopped}
use Rattle.record_json.proofs.WholeLeads.{whole_count}

-- ---- answers that tell the same of something else

pub put_as : (P Q : Data → Type 0) (n m : ℕ) (old new : List ℕ) (before after : ℕ) (r : Result (Unit {0}) PrintFault) → ((d : Data) → Q d → P d) → n ≡ m
    → TellsPut P n old new before after r → TellsPut Q m old new before after r
put_as P Q n m old new before after r each same told =
    told_as (λ (x : Unit {0}). x) (λ x. PutsAll P old new) (λ x. PutsAll Q old new) n m before after r (λ x puts d prints. puts d (each d prints)) same told

-- one node more was taken off before
pub put_after : (P Q : Data → Type 0) (n m : ℕ) (old new : List ℕ) (before between after : ℕ) (r : Result (Unit {0}) PrintFault) → between + 1 ≡ before → ((d : Data) → Q d → P d) → 1 + n ≡ m
    → TellsPut P n old new between after r → TellsPut Q m old new before after r
put_after P Q n m old new before between after r one each same told =
    told_after (λ (x : Unit {0}). x) (λ x. PutsAll P old new) (λ x. PutsAll Q old new) n m before between after r one (λ x puts d prints. puts d (each d prints)) same told

-- a part that has more nodes than are left, in something that has more
pub put_stopped : (P Q : Data → Type 0) (n m : ℕ) (old new old' new' : List ℕ) (before now after after' : ℕ) (fault : PrintFault) (r : Result (Unit {0}) PrintFault) → IsErrAnd r (λ passed. passed ≡ fault)
    → (now < n → before < m) → TellsPut P n old' new' now after (Err fault) → TellsPut Q m old new before after' r
put_stopped P Q n m old new old' new' before now after after' fault r is more told =
    stopped (λ (x : Unit {0}). x) (λ (x : Unit {0}). x) (λ x. PutsAll P old' new') (λ x. PutsAll Q old new) n m before now after after' fault r is more told

-- ---- the members of a record

-- the members of the first leads are put, and their nodes were taken off
pub record IsPutLeads {A : Type 0} (Prints : A → Data → Type 0) (nodes : A → ℕ) (xs : List A) (leads : Order) (i before now : ℕ) (old out : List ℕ) : Type 0 where
  pub text : (printed : List Data) → AllZip Prints xs printed → out ++ text_at (drop i leads) printed (125 ∷ []) ≡ old ++ 123 ∷ text_at leads printed (125 ∷ [])
  pub spent : now + count_of (λ lead. get_or (map nodes xs) lead.1 0) (take i leads) ≡ before

module _ {A : Type 0} (Prints : A → Data → Type 0) (nodes : A → ℕ) (xs : List A) (leads : Order) where
  pub leads_none : (before : ℕ) (old out : List ℕ) → out ≡ old ++ 123 ∷ [] → IsPutLeads Prints nodes xs leads 0 before before old out
  leads_none before old out is = record {
    text = λ printed all. ap (λ t. t ++ text_at leads printed (125 ∷ [])) is ∙ append_assoc old (123 ∷ []) (text_at leads printed (125 ∷ []));
    spent = omega arith;
  }

  abbrev lead_count : String Global × ℕ → ℕ
  lead_count lead = get_or (map nodes xs) lead.1 0

  one_count : (lead : String Global × ℕ) (x : A) → lead.1 < length xs → x ≡ get_or xs lead.1 x → lead_count lead ≡ nodes x
  one_count lead x within at = get_or-map nodes xs lead.1 x 0 within ∙ ap nodes (sym at)

  pub leads_more : (i before now after : ℕ) (old out led new : List ℕ) (lead : String Global × ℕ) (x : A) → i < length leads → lead ≡ get_or leads i lead → lead.1 < length xs → x ≡ get_or xs lead.1 x
      → led ≡ out ++ string_bytes lead.0 → PutsAll (Prints x) led new → after + nodes x ≡ now → IsPutLeads Prints nodes xs leads i before now old out → IsPutLeads Prints nodes xs leads (i + 1) before after old new
  leads_more i before now after old out led new lead x fits lead_is within at led_is puts spent front = record {
    text = λ printed all.
        let here : drop i leads ≡ lead ∷ drop (i + 1) leads = drop_more leads i lead fits ∙ ap (λ y. y ∷ drop (i + 1) leads) (sym lead_is) in
        let part = get_or printed lead.1 null in
        let prints : Prints x part = subst (λ y. Prints y part) (sym at) (at_place Prints xs printed lead.1 x null all within) in
        let text = compact_text part in
        let more = text_at (drop (i + 1) leads) printed (125 ∷ []) in
        ap (λ t. t ++ more) (puts part prints ∙ ap (λ t. t ++ text) led_is)
        ∙ append_assoc (out ++ string_bytes lead.0) text more ∙ append_assoc out (string_bytes lead.0) (text ++ more)
        ∙ ap (λ ls. out ++ text_at ls printed (125 ∷ [])) (sym here)
        ∙ front.text printed all;
    spent =
        let count = ap (count_of lead_count) (longer leads i lead fits lead_is) ∙ count_append lead_count (take i leads) lead in
        let one = one_count lead x within at in
        let before_is = front.spent in
        omega (arith, count, one, before_is, spent);
  }

  module _ (fields : List Field) (apart : AreNamesApart (field_names fields)) (whole : AreWholeLeads fields leads) (long : length xs ≡ length fields) where
    pub leads_stop : (i before now : ℕ) (old out : List ℕ) (lead : String Global × ℕ) (x : A) → i < length leads → lead ≡ get_or leads i lead → lead.1 < length xs → x ≡ get_or xs lead.1 x
        → IsPutLeads Prints nodes xs leads i before now old out → now < nodes x → before < count_of nodes xs
    leads_stop i before now old out lead x fits lead_is within at front less =
        let count = ap (count_of lead_count) (longer leads i lead fits lead_is) ∙ count_append lead_count (take i leads) lead in
        let one = one_count lead x within at in
        let most = front_count lead_count leads (i + 1) in
        let all = whole_count nodes xs fields leads apart whole long in
        let before_is = front.spent in
        omega (arith, count, one, most, all, before_is, less)

    pub leads_whole : (i before now : ℕ) (old out new : List ℕ) → length leads ≤ i → new ≡ out ++ 125 ∷ [] → IsPutLeads Prints nodes xs leads i before now old out
        → ((printed : List Data) → AllZip Prints xs printed → new ≡ old ++ 123 ∷ text_at leads printed (125 ∷ [])) × (now + count_of nodes xs ≡ before)
    leads_whole i before now old out new done new_is front = (
      (λ printed all. new_is ∙ ap (λ ls. out ++ text_at ls printed (125 ∷ [])) (sym (drop_all i leads done)) ∙ front.text printed all),
      (let all = whole_count nodes xs fields leads apart whole long in
          let count = ap (count_of lead_count) (take_all i leads done) in
          let before_is = front.spent in
          omega (arith, all, count, before_is)),
    )

-- ---- the items of an array

map_same : (xs : List Data) → map (λ d. d) xs ≡ xs
map_same [] = refl
map_same (x ∷ xs) = ap (λ ys. x ∷ ys) (map_same xs)

-- the first items are put, and their nodes were taken off
pub record IsPutItems {A : Type 0} (Prints : A → Data → Type 0) (nodes : A → ℕ) (xs : List A) (i before now : ℕ) (old out : List ℕ) : Type 0 where
  pub text : (parts : List Data) → AllZip Prints xs parts → out ++ items_from (λ d. d) parts i ≡ old ++ compact_text (array (items_of parts))
  pub spent : now + count_of nodes (take i xs) ≡ before

module _ {A : Type 0} (Prints : A → Data → Type 0) (nodes : A → ℕ) (xs : List A) where
  pub items_none : (before : ℕ) (old out : List ℕ) → out ≡ old ++ 91 ∷ [] → IsPutItems Prints nodes xs 0 before before old out
  items_none before old out is = record {
    text = λ parts all.
        ap (λ t. t ++ items_from (λ d. d) parts 0) is ∙ append_assoc old (91 ∷ []) (items_from (λ d. d) parts 0) ∙ ap (λ ds. old ++ compact_text (array (items_of ds))) (map_same parts);
    spent = omega arith;
  }

  pub items_more : (i before now after : ℕ) (old out ready new : List ℕ) (x : A) → i < length xs → x ≡ get_or xs i x
      → ready ≡ out ++ comma_if (nat_lt 0 i) → PutsAll (Prints x) ready new → after + nodes x ≡ now → IsPutItems Prints nodes xs i before now old out → IsPutItems Prints nodes xs (i + 1) before after old new
  items_more i before now after old out ready new x fits at ready_is puts spent front = record {
    text = λ parts all.
        let long = AllZip-long Prints xs parts all in
        let prints : Prints x (get_or parts i null) = subst (λ y. Prints y (get_or parts i null)) (sym at) (at_place Prints xs parts i x null all fits) in
        item_put (λ d. d) parts i null _ out ready new (omega (arith, long, fits)) ready_is (puts (get_or parts i null) prints) (front.text parts all);
    spent =
        let count = ap (count_of nodes) (longer xs i x fits at) ∙ count_append nodes (take i xs) x in
        let before_is = front.spent in
        omega (arith, count, before_is, spent);
  }

  pub items_stop : (i before now : ℕ) (old out : List ℕ) (x : A) → i < length xs → x ≡ get_or xs i x → IsPutItems Prints nodes xs i before now old out → now < nodes x → before < count_of nodes xs
  items_stop i before now old out x fits at front less =
      let count = ap (count_of nodes) (longer xs i x fits at) ∙ count_append nodes (take i xs) x in
      let most = front_count nodes xs (i + 1) in
      let before_is = front.spent in
      omega (arith, count, most, before_is, less)

  pub items_whole : (i before now : ℕ) (old out new : List ℕ) → length xs ≤ i → new ≡ out ++ 93 ∷ [] → IsPutItems Prints nodes xs i before now old out
      → PutsAll (PrintsItems Prints xs) old new × (now + count_of nodes xs ≡ before)
  items_whole i before now old out new done new_is front = (
    (λ printed (parts, all, is).
        let long = AllZip-long Prints xs parts all in
        items_put (λ d. d) parts i _ out new (omega (arith, long, done)) new_is (front.text parts all) ∙ ap (λ d. old ++ compact_text d) (sym is)),
    (let count = ap (count_of nodes) (take_all i xs done) in
        let before_is = front.spent in
        omega (arith, count, before_is)),
  )
