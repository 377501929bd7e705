-- Passing an item or a member, and passing none.
use Rattle.std.proofs.Common.{◌≡◌, ◌∙◌, ℕ, List, Some, None, ◌-◌, ◌<◌, ◌≤◌, length, ap}
use Rattle.json.specs.Token.{Token}
use Rattle.json.specs.Json.{Json, Parse, after_end_array, items, members, read_key}
use Rattle.json.proofs.Grammar.{left, left-parse_map, left_none, left_some}
use Rattle.serde_json.specs.Data.{Members, item, put}
use Rattle.serde_json.specs.Read.{converted, of_items, of_json, of_members}
use Rattle.record_stream.proofs.Converted.{item_read, item_refused, items_over, key_refused, member_read, member_refused, members_over}

module _ (p : Parse Json) (n : ℕ) where
  pub item_passed : (ts r : List Token) → 0 < n → after_end_array ts ≡ None → left (converted of_json (p ts)) ≡ Some r
      → left (converted of_items (items p n ts)) ≡ left (converted of_items (items p (n - 1) r))
  item_passed ts r some going e =
      let d = left_some (converted of_json (p ts)) r e in
      ap left (item_read p n ts r d.0 some going d.1) ∙ left-parse_map (item d.0) _

  pub item_not_passed : (ts : List Token) → after_end_array ts ≡ None → left (converted of_json (p ts)) ≡ None → left (converted of_items (items p n ts)) ≡ None
  item_not_passed ts going e = ap left (item_refused p n ts going (left_none _ e))

  pub items_passed : (ts r : List Token) → length ts ≤ n → after_end_array ts ≡ Some r → left (converted of_items (items p n ts)) ≡ Some r
  items_passed ts r enough e = ap left (items_over p n ts r enough e)

  pub member_passed : (before : Members) (k : List ℕ) (ts s r : List Token) → 0 < n → read_key ts ≡ Some (Some k, s) → left (converted of_json (p s)) ≡ Some r
      → (after : Members) × (left (converted (λ found. of_members found before) (members p n ts)) ≡ left (converted (λ found. of_members found after) (members p (n - 1) r)))
  member_passed before k ts s r some key e =
      let d = left_some (converted of_json (p s)) r e in
      (put k d.0 before, ap left (member_read p before n k ts s r d.0 some key d.1))

  pub member_not_passed : (before : Members) (k : List ℕ) (ts s : List Token) → read_key ts ≡ Some (Some k, s) → left (converted of_json (p s)) ≡ None
      → left (converted (λ found. of_members found before) (members p n ts)) ≡ None
  member_not_passed before k ts s key e = ap left (member_refused p before n k ts s key (left_none _ e))

  pub key_not_passed : (before : Members) (ts : List Token) → read_key ts ≡ None → left (converted (λ found. of_members found before) (members p n ts)) ≡ None
  key_not_passed before ts e = ap left (key_refused p before n ts e)

  pub members_passed : (before : Members) (ts r : List Token) → length ts ≤ n → read_key ts ≡ Some (None, r) → left (converted (λ found. of_members found before) (members p n ts)) ≡ Some r
  members_passed before ts r enough e = ap left (members_over p before n ts r enough e)
