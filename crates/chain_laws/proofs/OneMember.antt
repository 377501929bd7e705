-- What is asked of a set or a map that a consumer has, has one answer line.
use Rattle.std.proofs.Common.{◌≡◌, ℕ, List, [], Bool, true, false, inl, inr, ◌⊎◌, Option, Some, None, refl, sym, ap, ◌∙◌, arith}
use Rattle.std.specs.Prelude.{Contains, IfSome, IsTrue, ◌↔◌, slice_get}
use Rattle.std.specs.Option.{option_map}
use Rattle.std.proofs.lemmas.Bool.{cases_order}
use Rattle.std.proofs.lemmas.Option.{get_or_from_slice_get, slice_get-get_or, slice_get-map, slice_get_within}
use Rattle.row_model.specs.declared.row.Row.{Row}
use Rattle.schema_model.specs.declared.schema.name.Name.{Name}
use Rattle.schema_model.specs.declared.schema.Schema.{Schema}
use Rattle.schema_model.specs.declared.schema.Shape.{Shape}
use Rattle.row_model.specs.Row.{FitsShape, Rises}
use Rattle.row_model.specs.Table.{IsLive, Table, row_at}
use Rattle.bucket_codec.specs.Run.{FindsIn, keys_of}
use Rattle.type_state.specs.Lookup.{elements_of, pairs_of}
use Rattle.hol_answers.specs.declared.refusal.Refusal.{Refusal}
use Rattle.hol_answers.specs.declared.refusal.Refusal.TheVariants.{NoRow, WrongKind}
use Rattle.hol_answers.specs.declared.reply.Reply.{Reply}
use Rattle.hol_answers.specs.declared.reply.Reply.TheVariants as reply
use Rattle.read_engine.specs.Position.{Position, rows_now}
use Rattle.hollow_machine.specs.KeyPaths.{HasShape, IsMap, IsSet}
use Rattle.hollow_machine.specs.MemberOrders.{AtReply, HasReply, MemberRefusal, TellsElement, TellsValue}
use Rattle.chain_laws.specs.Answers.{SaysOne}
use Rattle.chain_laws.proofs.OneLook.{one_of, one_typed, says}
use Rattle.chain_laws.proofs.StoreNames.{found_with}
use Rattle.chain_laws.proofs.TypedConsumers.{FitTypes, IsTyped}

module _ (Is : Shape → Type 0) (name : Name) (ordinal : ℕ) (now : Position) (t : ℕ) (P : Reply → Type 0) (each : HasShape Is now.schemas t → (a b : Reply) → P a → P b → SaysOne a b) where
  abbrev Live : Type 0
  Live = IsLive (rows_now now) t ordinal

  -- the rows have another shape; the ordinal is not live; or what there is to the row
  abbrev Looked : Reply → Type 0
  Looked x =
      ((¬ HasShape Is now.schemas t) × (x ≡ reply.Refused (WrongKind name)))
      ⊎ (HasShape Is now.schemas t × (((¬ Live) × (x ≡ reply.Refused (NoRow (record { type_name = name; ordinal = ordinal })))) ⊎ (Live × P x)))

  looked_refused : (refusal : Refusal) → MemberRefusal Is name ordinal now t refusal → Looked (reply.Refused refusal)
  looked_refused (WrongKind other) is = inl (is.1, ap (λ (n : Name). reply.Refused (WrongKind n)) is.0)
  looked_refused (NoRow row) is = inr (is.0, inl (is.3, (λ i. reply.Refused (NoRow (record { type_name = is.1 i; ordinal = is.2 i })))))
  looked_refused _ is = absurd is

  looked_once : (a b : Reply) → Looked a → Looked b → SaysOne a b
  looked_once a b (inl one) (inl other) = says a b (one.1 ∙ sym other.1)
  looked_once a b (inl one) (inr other) = absurd (one.0 other.0)
  looked_once a b (inr one) (inl other) = absurd (other.0 one.0)
  looked_once a b (inr (shape, inl one)) (inr (also, inl other)) = says a b (one.1 ∙ sym other.1)
  looked_once a b (inr (shape, inl one)) (inr (also, inr other)) = absurd (one.0 other.0)
  looked_once a b (inr (shape, inr one)) (inr (also, inl other)) = absurd (other.0 one.0)
  looked_once a b (inr (shape, inr one)) (inr (also, inr other)) = each shape a b one.1 other.1

-- ---- has

same_truth : (P : Type 0) (a b : Bool) → IsTrue a ↔ P → IsTrue b ↔ P → a ≡ b
same_truth P true true one other = refl
same_truth P true false one other = sym (other.1 (one.0 refl))
same_truth P false true one other = one.1 (other.0 refl)
same_truth P false false one other = refl

module _ (name : Name) (ordinal element : ℕ) (now : Position) (t : ℕ) where
  abbrev Holds : Type 0
  Holds = Contains (elements_of (row_at (rows_now now) t ordinal)) element

  abbrev Tells : Reply → Type 0
  Tells x = (there : Bool) × (IsTrue there ↔ Holds) × (x ≡ reply.Has there)

  tells_once : HasShape IsSet now.schemas t → (a b : Reply) → Tells a → Tells b → SaysOne a b
  tells_once shape a b (one, is, a_is) (other, is_too, b_is) = says a b (a_is ∙ ap (λ (x : Bool). reply.Has x) (same_truth Holds one other is is_too) ∙ sym b_is)

  has_kind : (answer : Reply) → TellsElement name ordinal element now t answer → Looked IsSet name ordinal now t Tells tells_once answer
  has_kind (reply.Has there) is = inr (is.0.0, inr (is.0.1, (there, is.1, refl)))
  has_kind (reply.Refused refusal) is = looked_refused IsSet name ordinal now t Tells tells_once refusal is
  has_kind _ is = absurd is

  has_once : (a b : Reply) → TellsElement name ordinal element now t a → TellsElement name ordinal element now t b → SaysOne a b
  has_once a b one other = looked_once IsSet name ordinal now t Tells tells_once a b (has_kind a one) (has_kind b other)

pub one_has : (consumer : Option Position) (name : Name) (ordinal element : ℕ) (a b : Reply) → HasReply consumer name ordinal element a → HasReply consumer name ordinal element b → SaysOne a b
one_has consumer name ordinal element a b one other = one_of name (TellsElement name ordinal element) (has_once name ordinal element) consumer a b one other

-- ---- at

-- of rising numbers one stands at one place
place_once : (numbers : List ℕ) (number j k : ℕ) → Rises numbers → slice_get numbers j ≡ Some number → slice_get numbers k ≡ Some number → j ≡ k
place_once numbers number j k rises at_j at_k =
    let here = get_or_from_slice_get numbers j number 0 at_j in
    let there = get_or_from_slice_get numbers k number 0 at_k in
    elim (cases_order j k) [
      | inr (inl below) ↦ absurd (let up = rises j k 0 below (slice_get_within numbers k number at_k) in omega (arith, up, here, there))
      | inl same ↦ same
      | inr (inr above) ↦ absurd (let up = rises k j 0 above (slice_get_within numbers j number at_j) in omega (arith, up, here, there))
    ]

-- a map whose keys rise has one value beside a key
value_once : (pairs : List (ℕ × ℕ)) (key v w : ℕ) → Rises (keys_of pairs) → Contains pairs (key, v) → Contains pairs (key, w) → v ≡ w
value_once pairs key v w rises (j, inside_j, is_j) (k, inside_k, is_k) =
    let at_j : slice_get pairs j ≡ Some (key, v) = slice_get-get_or pairs j (key, v) inside_j ∙ ap (λ (p : ℕ × ℕ). Some p) is_j in
    let at_k : slice_get pairs k ≡ Some (key, w) = slice_get-get_or pairs k (key, w) inside_k ∙ ap (λ (p : ℕ × ℕ). Some p) is_k in
    let key_j = slice_get-map (λ (p : ℕ × ℕ). p.0) pairs j ∙ ap (option_map (λ (p : ℕ × ℕ). p.0)) at_j in
    let key_k = slice_get-map (λ (p : ℕ × ℕ). p.0) pairs k ∙ ap (option_map (λ (p : ℕ × ℕ). p.0)) at_k in
    let place = place_once (keys_of pairs) key j k rises key_j key_k in
    let at_key : ℕ → ℕ × ℕ = λ value. (key, value) in
    let both : Some (at_key v) ≡ Some (at_key w) = sym at_j ∙ ap (λ (n : ℕ). slice_get pairs n) place ∙ at_k in
    let same : at_key v ≡ at_key w = cc in
    ap (λ (p : ℕ × ℕ). p.1) same

found_once : (pairs : List (ℕ × ℕ)) (key : ℕ) (a b : Option ℕ) → Rises (keys_of pairs) → FindsIn pairs key a → FindsIn pairs key b → a ≡ b
found_once pairs key None None rises one other = refl
found_once pairs key None (Some w) rises one other = absurd (one w other)
found_once pairs key (Some v) None rises one other = absurd (other v one)
found_once pairs key (Some v) (Some w) rises one other = ap (λ (n : ℕ). Some n) (value_once pairs key v w rises one other)

no_keys : Rises []
no_keys i j d below inside = absurd (omega (arith, inside))

shape_rises : (shape : Shape) (row : Row) → FitsShape shape row → Rises (keys_of (pairs_of (Some row)))
shape_rises (Shape.Map key value) (Row.Map pairs) fits = fits
shape_rises _ (Row.Map pairs) fits = absurd fits
shape_rises shape _ fits = no_keys

row_rises : (schemas : List Schema) (table : Table) (t ordinal : ℕ) (schema : Schema) → FitTypes schemas table → slice_get schemas t ≡ Some schema → (row : Option Row) → row_at table t ordinal ≡ row → Rises (keys_of (pairs_of row))
row_rises schemas table t ordinal schema fit is None at = no_keys
row_rises schemas table t ordinal schema fit is (Some row) at = shape_rises schema.shape row (fit t ordinal schema row is at)

module _ (name : Name) (ordinal key : ℕ) (now : Position) (typed : IsTyped now) (t : ℕ) where
  abbrev pairs : List (ℕ × ℕ)
  pairs = pairs_of (row_at (rows_now now) t ordinal)

  abbrev Finds : Reply → Type 0
  Finds x = (value : Option ℕ) × FindsIn pairs key value × (x ≡ reply.At value)

  rises : HasShape IsMap now.schemas t → Rises (keys_of pairs)
  rises shape =
      let (schema, is, of_map) = found_with (slice_get now.schemas t) (λ schema. IsMap schema.shape) shape in
      row_rises now.schemas (rows_now now) t ordinal schema typed.rows is (row_at (rows_now now) t ordinal) refl

  finds_once : HasShape IsMap now.schemas t → (a b : Reply) → Finds a → Finds b → SaysOne a b
  finds_once shape a b (one, is, a_is) (other, is_too, b_is) =
      says a b (a_is ∙ ap (λ (x : Option ℕ). reply.At x) (found_once pairs key one other (rises shape) is is_too) ∙ sym b_is)

  at_kind : (answer : Reply) → TellsValue name ordinal key now t answer → Looked IsMap name ordinal now t Finds finds_once answer
  at_kind (reply.At value) is = inr (is.0.0, inr (is.0.1, (value, is.1, refl)))
  at_kind (reply.Refused refusal) is = looked_refused IsMap name ordinal now t Finds finds_once refusal is
  at_kind _ is = absurd is

  at_once : (a b : Reply) → TellsValue name ordinal key now t a → TellsValue name ordinal key now t b → SaysOne a b
  at_once a b one other = looked_once IsMap name ordinal now t Finds finds_once a b (at_kind a one) (at_kind b other)

pub one_at : (consumer : Option Position) (name : Name) (ordinal key : ℕ) (a b : Reply) → IfSome consumer IsTyped → AtReply consumer name ordinal key a → AtReply consumer name ordinal key b → SaysOne a b
one_at consumer name ordinal key a b typed one other = one_typed name (TellsValue name ordinal key) (λ now is t. at_once name ordinal key now is t) consumer a b typed one other
