-- The leads of fields that stand in byte order.
use Rattle.std.proofs.Common.{◌≡◌, ℕ, ◌+◌, ◌<◌, ◌≤◌, true, false, nat_lt, Result, Ok, Err, List, [], ◌∷◌, ◌++◌, length, drop, take, get_or, String, Global, string_bytes, refl, sym, ap, ◌∙◌, subst, arith, append_assoc}
use Rattle.std.specs.Prelude.{IfOk}
use Rattle.std.proofs.lemmas.Bool.{lt-ltb}
use Rattle.std.proofs.lemmas.List.{drop_more, drop_all, map-append, take_all, take_more}
use Rattle.json.specs.Print.{quoted}
use Rattle.schema_model.specs.declared.schema.Field.{Field}
use Rattle.serde_json.specs.Data.{Data, null}
use Rattle.serde_json.specs.Written.{comma_if, compact_text, members_text}
use Rattle.json_rows.specs.FieldOrder.{Order, members_at, AreBelow, IsByteOrder}
use Rattle.json_rows.specs.LineForm.{text_at, AreLeads, places_of}
use Rattle.json_rows.proofs.Orders.{place_within}

-- one more lead, before what stands behind the fields
text_at-more : (leads : Order) (lead : String Global × ℕ) (printed : List Data) (behind : List ℕ) →
    text_at (leads ++ lead ∷ []) printed behind ≡ text_at leads printed (string_bytes lead.0 ++ (compact_text (get_or printed lead.1 null) ++ behind))
text_at-more [] lead printed behind = refl
text_at-more (first ∷ leads) lead printed behind = ap (λ t. string_bytes first.0 ++ (compact_text (get_or printed first.1 null) ++ t)) (text_at-more leads lead printed behind)

below-more : (bound : ℕ) (leads : Order) (lead : String Global × ℕ) → AreBelow bound leads → lead.1 < bound → AreBelow bound (leads ++ lead ∷ [])
below-more bound [] lead all fits = (fits, tt)
below-more bound (first ∷ leads) lead all fits = (all.0, below-more bound leads lead all.1 fits)

pub later : (n : ℕ) → nat_lt 0 (n + 1) ≡ true
later n = lt-ltb 0 (n + 1) (omega arith)

-- the first fields of an order have these leads
pub record HaveLeads (order : Order) (count : ℕ) (leads : Order) : Type 0 where
  pub text : (printed : List Data) → text_at leads printed (members_text (nat_lt 0 count) (members_at (drop count order) printed)) ≡ members_text false (members_at order printed)
  pub below : (bound : ℕ) → AreBelow bound order → AreBelow bound leads
  pub places : places_of leads ≡ places_of (take count order)

pub none_lead : (order : Order) → HaveLeads order 0 []
none_lead order = record { text = λ printed. refl; below = λ bound all. tt; places = refl }

-- the text of a member, with its lead in front
lead_text : (comma name value rest : List ℕ) → (comma ++ (name ++ 58 ∷ [])) ++ (value ++ rest) ≡ comma ++ (name ++ 58 ∷ (value ++ rest))
lead_text comma name value rest = append_assoc comma (name ++ 58 ∷ []) (value ++ rest) ∙ ap (λ t. comma ++ t) (append_assoc name (58 ∷ []) (value ++ rest))

pub one_leads : (order leads more : Order) (count : ℕ) (field : String Global × ℕ) (lead : String Global) → count < length order → field ≡ get_or order count field
    → string_bytes lead ≡ comma_if (nat_lt 0 count) ++ (quoted (string_bytes field.0) ++ 58 ∷ []) → more ≡ leads ++ (lead, field.1) ∷ []
    → HaveLeads order count leads → HaveLeads order (count + 1) more
one_leads order leads more count field lead fits field_is lead_is more_is have = record {
  text = λ printed.
      let here : drop count order ≡ field ∷ drop (count + 1) order = drop_more order count field fits ∙ ap (λ m. m ∷ drop (count + 1) order) (sym field_is) in
      let value = compact_text (get_or printed field.1 null) in
      let rest = members_text true (members_at (drop (count + 1) order) printed) in
      ap (λ l. text_at l printed (members_text (nat_lt 0 (count + 1)) (members_at (drop (count + 1) order) printed))) more_is
      ∙ text_at-more leads (lead, field.1) printed (members_text (nat_lt 0 (count + 1)) (members_at (drop (count + 1) order) printed))
      ∙ ap (λ b. text_at leads printed (string_bytes lead ++ (value ++ members_text b (members_at (drop (count + 1) order) printed)))) (later count)
      ∙ ap (λ t. text_at leads printed (t ++ (value ++ rest))) lead_is
      ∙ ap (text_at leads printed) (lead_text (comma_if (nat_lt 0 count)) (quoted (string_bytes field.0)) value rest)
      ∙ ap (λ o. text_at leads printed (members_text (nat_lt 0 count) (members_at o printed))) (sym here)
      ∙ have.text printed;
  below = λ bound all.
      let within : field.1 < bound = subst (λ m. m.1 < bound) (sym field_is) (place_within bound order count field all fits) in
      subst (AreBelow bound) (sym more_is) (below-more bound leads (lead, field.1) (have.below bound all) within);
  places =
      ap places_of more_is ∙ map-append (λ (m : String Global × ℕ). m.1) leads ((lead, field.1) ∷ []) ∙ ap (λ ps. ps ++ field.1 ∷ []) have.places
      ∙ sym (map-append (λ (m : String Global × ℕ). m.1) (take count order) (field ∷ []))
      ∙ ap places_of (ap (λ m. take count order ++ m ∷ []) field_is ∙ sym (take_more order count field fits));
}

pub all_leads : (fields : List Field) (order leads : Order) (count : ℕ) → length order ≤ count → IsByteOrder fields order → HaveLeads order count leads → AreLeads fields leads
all_leads fields order leads count done ordered have = record {
  text = λ printed long.
      let none : drop count order ≡ [] = drop_all count order done in
      ap (λ o. text_at leads printed (members_text (nat_lt 0 count) (members_at o printed))) (sym none)
      ∙ have.text printed ∙ ap (members_text false) (ordered.members printed long);
  below = have.below (length fields) ordered.below;
}

pub all_places : (order leads : Order) (count : ℕ) → length order ≤ count → HaveLeads order count leads → places_of leads ≡ places_of order
all_places order leads count done have = have.places ∙ ap places_of (take_all count order done)

pub if_ok_both : {T E : Type 0} (r : Result T E) (P Q R : T → Type 0) → ((x : T) → P x → Q x → R x) → IfOk r P → IfOk r Q → IfOk r R
if_ok_both (Ok x) P Q R each one other = each x one other
if_ok_both (Err e) P Q R each one other = tt
