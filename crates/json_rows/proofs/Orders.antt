-- Fields put into a map by name stand in byte order, as `put` puts the members that they print as.
use Rattle.std.proofs.Common.{◌≡◌, ℕ, zero, suc, ◌+◌, ◌<◌, ◌≤◌, List, [], ◌∷◌, ◌++◌, length, take, get_or, String, Global, Ordering, Less, Equal, Greater, string_bytes, string_cmp, refl, sym, ap, ◌∙◌, subst, arith}
use Rattle.std.specs.Prelude.{zip}
use Rattle.std.specs.Ordering.{match_ordering}
use Rattle.std.specs.BTreeMap.{insert_entry}
use Rattle.std.proofs.lemmas.List.{take_all, take_more, length-take}
use Rattle.schema_model.specs.Parts.{field_names}
use Rattle.schema_model.specs.declared.schema.Field.{Field}
use Rattle.serde_json.specs.Data.{Data, null, no_members, put}
use Rattle.json_rows.specs.StoredRow.{members_of_fields}
use Rattle.json_rows.specs.FieldOrder.{Order, members_at, AreBelow, IsByteOrder}
use Rattle.json_rows.proofs.Records.{put_last}

members_at-match : (o : Ordering) (a b c : Order) (printed : List Data) → members_at (match_ordering o a b c) printed ≡ match_ordering o (members_at a printed) (members_at b printed) (members_at c printed)
members_at-match Less a b c printed = refl
members_at-match Equal a b c printed = refl
members_at-match Greater a b c printed = refl

-- a name put into the map is a member put among the members
members_at-insert : (es : Order) (k : String Global) (place : ℕ) (printed : List Data) → members_at (insert_entry string_cmp es k place) printed ≡ put (string_bytes k) (get_or printed place null) (members_at es printed)
members_at-insert [] k place printed = refl
members_at-insert (e ∷ es) k place printed = members_at-match (string_cmp k e.0) _ _ _ printed ∙ rw (members_at-insert es k place printed)

below-match : (n : ℕ) (o : Ordering) (a b c : Order) → AreBelow n a → AreBelow n b → AreBelow n c → AreBelow n (match_ordering o a b c)
below-match n Less a b c x y z = x
below-match n Equal a b c x y z = y
below-match n Greater a b c x y z = z

below-insert : (n : ℕ) (es : Order) (k : String Global) (place : ℕ) → place < n → AreBelow n es → AreBelow n (insert_entry string_cmp es k place)
below-insert n [] k place fits all = (fits, tt)
below-insert n (e ∷ es) k place fits all =
    below-match n (string_cmp k e.0) _ _ _ (fits, all) (fits, all.1) (all.0, below-insert n es k place fits all.1)

-- the first fields are in order
pub record AreOrdered (fields : List Field) (place : ℕ) (order : Order) : Type 0 where
  pub members : (printed : List Data) → length printed ≡ length fields
      → members_at order printed ≡ members_of_fields (zip (field_names (take place fields)) (take place printed))
  pub below : AreBelow (length fields) order

pub none_ordered : (fields : List Field) → AreOrdered fields 0 []
none_ordered fields = record { members = λ printed long. refl; below = tt }

pub one_ordered : (fields : List Field) (place : ℕ) (field : Field) (name : String Global) (before after : Order) → place < length fields
    → field ≡ get_or fields place field → string_bytes name ≡ field.name → after ≡ insert_entry string_cmp before name place
    → AreOrdered fields place before → AreOrdered fields (place + 1) after
one_ordered fields place field name before after fits field_is name_is after_is are = record {
  members = λ printed long.
      let last = get_or printed place null in
      let fields_more : take (place + 1) fields ≡ take place fields ++ field ∷ [] =
      take_more fields place field fits ∙ ap (λ x. take place fields ++ x ∷ []) (sym field_is) in
      let printed_more : take (place + 1) printed ≡ take place printed ++ last ∷ [] = take_more printed place null (omega arith) in
      let as_long : length (take place fields) ≡ length (take place printed) = omega (arith, length-take place fields, length-take place printed) in
      ap (λ o. members_at o printed) after_is ∙ members_at-insert before name place printed
      ∙ ap (λ n. put n last (members_at before printed)) name_is ∙ ap (put field.name last) (are.members printed long)
      ∙ sym (put_last (take place fields) (take place printed) field last no_members as_long)
      ∙ sym (ap (λ f. members_of_fields (zip (field_names f) (take (place + 1) printed))) fields_more
      ∙ ap (λ p. members_of_fields (zip (field_names (take place fields ++ field ∷ [])) p)) printed_more);
  below = subst (AreBelow (length fields)) (sym after_is) (below-insert (length fields) before name place fits are.below);
}

pub all_ordered : (fields : List Field) (place : ℕ) (order : Order) → length fields ≤ place → AreOrdered fields place order → IsByteOrder fields order
all_ordered fields place order done are = record {
  members = λ printed long.
      are.members printed long
      ∙ ap (λ f. members_of_fields (zip (field_names f) (take place printed))) (take_all place fields done)
      ∙ ap (λ p. members_of_fields (zip (field_names fields) p)) (take_all place printed (omega arith));
  below = are.below;
}

-- the place that stands at an index
pub place_within : (n : ℕ) (order : Order) (i : ℕ) (m : String Global × ℕ) → AreBelow n order → i < length order → (get_or order i m).1 < n
place_within n [] i m all fits = absurd (omega arith)
place_within n (e ∷ order) zero m all fits = all.0
place_within n (e ∷ order) (suc i) m all fits = place_within n order i m all.1 (omega arith)
