-- The rows that have a value in a field are listed by a walk up to the bound of their type; and by them those from which fields lead to it through references.
use Rattle.std.proofs.Common.{Global, Vec, ◌≡◌, ℕ, ◌+◌, ◌-◌, ◌<◌, ◌≤◌, ◌⊎◌, inl, inr, List, [], ◌∷◌, ◌++◌, Option, Some, None, Result, Ok, Err, IfOk, take, drop, get_or, length, refl, sym, subst, arith}
use Rattle.std.specs.Prelude.{Contains, IfSome, option_and_then}
use Rattle.std.specs.declared.alloc.AllocError.{AllocError}
use Rattle.std.proofs.lemmas.Bool.{cases_lt}
use Rattle.std.proofs.lemmas.List.{take_all}
use Rattle.std.proofs.lemmas.List.Elements.{Contains-append_left, Contains-push}
use Rattle.schema_model.specs.declared.schema.Schema.{Schema}
use Rattle.row_model.specs.declared.row.Value.{Value}
use Rattle.row_model.specs.Key.{ordinal_in, type_behind, unless_null, value_along, value_in}
use Rattle.row_model.specs.Table.{IsClosed, IsLive, Table, row_at}
use Rattle.key_index.proofs.KeptKeys.{named_live}
use Rattle.history_orders.specs.Valued.{HasLed, HasNaming, HasValuedBelow}

module _ (table : Table) (t field : ℕ) (value : Value) where
  -- the row under an ordinal is live and has the value
  abbrev pub HasIt : ℕ → Type 0
  HasIt ordinal = IsLive table t ordinal × (unless_null (value_in (row_at table t ordinal) field) ≡ Some value)

  pub one_listed : (limit : ℕ) (among listed : List ℕ) → HasValuedBelow table t field value limit among → listed ≡ among ++ limit ∷ [] → HasValuedBelow table t field value (limit + 1) listed
  one_listed limit among listed below is = λ ordinal low live has. subst (λ (os : List ℕ). Contains os ordinal) (sym is) (by ordinal low (live, has) (cases_lt ordinal limit))
    where
      by : (ordinal : ℕ) → ordinal < limit + 1 → HasIt ordinal → (ordinal < limit) ⊎ (limit ≤ ordinal) → Contains (among ++ limit ∷ []) ordinal
      by ordinal low has (inl before) = Contains-append_left among (limit ∷ []) ordinal (below ordinal before has.0 has.1)
      by ordinal low has (inr past) = subst (Contains (among ++ limit ∷ [])) (omega (arith, low, past)) (Contains-push among limit)

  pub one_left : (limit : ℕ) (among listed : List ℕ) → HasValuedBelow table t field value limit among → listed ≡ among → (¬ HasIt limit) → HasValuedBelow table t field value (limit + 1) listed
  one_left limit among listed below is never = λ ordinal low live has. subst (λ (os : List ℕ). Contains os ordinal) (sym is) (by ordinal low (live, has) (cases_lt ordinal limit))
    where
      by : (ordinal : ℕ) → ordinal < limit + 1 → HasIt ordinal → (ordinal < limit) ⊎ (limit ≤ ordinal) → Contains among ordinal
      by ordinal low has (inl before) = below ordinal before has.0 has.1
      by ordinal low has (inr past) = absurd (never (subst HasIt (omega (arith, low, past)) has))

-- ---- a way through references

ends_at : {A B : Type 0} (found : Option A) (next : A → Option B) (end : B) → option_and_then next found ≡ Some end → (a : A) × (found ≡ Some a) × (next a ≡ Some end)
ends_at None next end is = absurd cc
ends_at (Some a) next end is = (a, refl, is)

-- From the rows that name those from which the rest leads there all of it leads there.
pub led_on : (schemas : List Schema) (table : Table) (t field next : ℕ) (rest : List ℕ) (value : Value) (ends among : List ℕ) → IsClosed schemas table → 0 < length rest → type_behind schemas t field ≡ Some next →
    HasLed schemas table next rest value ends → HasNaming table t field ends among → HasLed schemas table t (field ∷ rest) value among
led_on schemas table t field next [] value ends among closed some leads led naming = absurd (omega (arith, some))
led_on schemas table t field next (other ∷ rest) value ends among closed some leads led naming = λ ordinal live has.
    let named = ordinal_in (value_in (row_at table t ordinal) field) in
    let on : option_and_then (λ o. value_along schemas table next o (other ∷ rest)) named ≡ Some value =
    subst (λ (behind : Option ℕ). option_and_then (λ u. option_and_then (λ o. value_along schemas table u o (other ∷ rest)) named) behind ≡ Some value) leads has in
    let end = ends_at named (λ o. value_along schemas table next o (other ∷ rest)) value on in
    naming ordinal end.0 live end.1 (led end.0 (named_live schemas table t ordinal closed field next end.0 leads end.1) end.2)

-- The same of those that are found.
pub led_found : (schemas model : List Schema) (table : Table) (t next : ℕ) (fields listed : List ℕ) (value : Value) (found : Option (Vec ℕ Global)) (ends : Vec ℕ Global)
    (result : Result (Option (Vec ℕ Global)) AllocError) → IsClosed schemas table → model ≡ schemas → 1 ≤ length fields → 0 < length (take (length fields - 1) (drop 1 fields)) →
    type_behind model t (get_or fields 0 0) ≡ Some next → IfSome found (λ among. HasLed schemas table next (take (length fields - 1) (drop 1 fields)) value among.items) → found ≡ Some ends →
    listed ≡ ends.items → IfOk result (λ naming. IfSome naming (λ among. HasNaming table t (get_or fields 0 0) listed among.items)) →
    IfOk result (λ all. IfSome all (λ among. HasLed schemas table t fields value among.items))
led_found schemas model table t next fields listed value found ends (Err fault) closed same one some leads led is are naming = tt
led_found schemas model table t next fields listed value found ends (Ok None) closed same one some leads led is are naming = tt
led_found schemas model table t next [] listed value found ends (Ok (Some among)) closed same one some leads led is are naming = absurd (omega (arith, one))
led_found schemas model table t next (field ∷ rest) listed value found ends (Ok (Some among)) closed same one some leads led is are naming =
    let all : take (length (field ∷ rest) - 1) rest ≡ rest = take_all (length (field ∷ rest) - 1) rest (omega arith) in
    led_on schemas table t field next rest value ends.items among.items closed (subst (λ (fields : List ℕ). 0 < length fields) all some)
    (subst (λ (s : List Schema). type_behind s t field ≡ Some next) same leads)
    (subst (λ (fields : List ℕ). HasLed schemas table next fields value ends.items) all
    (subst (λ (o : Option (Vec ℕ Global)). IfSome o (λ among. HasLed schemas table next (take (length (field ∷ rest) - 1) rest) value among.items)) is led))
    (subst (λ (os : List ℕ). HasNaming table t field os among.items) are naming)
