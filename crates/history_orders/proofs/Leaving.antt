-- The rows that left since a version are gone through step by step, and those of a step place by place.
use Rattle.std.proofs.Common.{◌≡◌, ℕ, ◌+◌, ◌<◌, ◌≤◌, ◌⊎◌, inl, inr, List, [], ◌∷◌, ◌++◌, Some, None, length, sym, ap, ◌∙◌, subst, arith}
use Rattle.std.specs.Prelude.{Contains, slice_get}
use Rattle.std.proofs.lemmas.Bool.{cases_lt}
use Rattle.std.proofs.lemmas.Option.{slice_get_within}
use Rattle.std.proofs.lemmas.List.Elements.{Contains-append_left, Contains-push}
use Rattle.schema_model.specs.declared.model.path.Path.{Path}
use Rattle.schema_model.specs.declared.schema.Schema.{Schema}
use Rattle.row_model.specs.declared.row.Row.{Row}
use Rattle.row_model.specs.declared.row.Value.{Value}
use Rattle.row_model.specs.Before.{PastPart}
use Rattle.row_model.specs.Key.{key_of}
use Rattle.row_model.specs.Table.{Table, row_at}
use Rattle.hol_history.specs.History.{PastStep}
use Rattle.hol_history.specs.Steps.{part_at}
use Rattle.history_orders.specs.Left.{HasAll, HasLeft, HasLeftIn}

-- ---- what is there stays there

pub all_pushed : (old among listed : List ℕ) (ordinal : ℕ) → HasAll old among → listed ≡ among ++ ordinal ∷ [] → HasAll old listed
all_pushed old among listed ordinal has is = λ o there. subst (λ (os : List ℕ). Contains os o) (sym is) (Contains-append_left among (ordinal ∷ []) o (has o there))

-- ---- the rows of a step

module _ (paths : List Path) (key : List Value) where
  module _ (part : PastPart) where
    -- the same of the rows at the places below a limit
    abbrev pub HasLeftBelow : ℕ → List ℕ → Type 0
    HasLeftBelow limit among =
        (schemas : List Schema) (table : Table) (t place ordinal : ℕ) (row : Row) → place < limit → slice_get part.gone place ≡ Some ordinal → slice_get part.rows place ≡ Some row →
        row_at table t ordinal ≡ Some row → key_of schemas table t paths ordinal ≡ Some key → Contains among ordinal

    pub one_added : (limit ordinal : ℕ) (among listed : List ℕ) → slice_get part.gone limit ≡ Some ordinal → HasLeftBelow limit among → listed ≡ among ++ ordinal ∷ [] → HasLeftBelow (limit + 1) listed
    one_added limit ordinal among listed at below is = λ schemas table t place o row low left stood there has.
        subst (λ (os : List ℕ). Contains os o) (sym is) (by schemas table t place o row low left stood there has (cases_lt place limit))
      where
        by : (schemas : List Schema) (table : Table) (t place o : ℕ) (row : Row) → place < limit + 1 → slice_get part.gone place ≡ Some o → slice_get part.rows place ≡ Some row →
            row_at table t o ≡ Some row → key_of schemas table t paths o ≡ Some key → (place < limit) ⊎ (limit ≤ place) → Contains (among ++ ordinal ∷ []) o
        by schemas table t place o row low left stood there has (inl before) = Contains-append_left among (ordinal ∷ []) o (below schemas table t place o row before left stood there has)
        by schemas table t place o row low left stood there has (inr past) =
            let same : limit ≡ place = omega (arith, low, past) in
            let here : slice_get part.gone place ≡ Some ordinal = subst (λ (n : ℕ). slice_get part.gone n ≡ Some ordinal) same at in
            let one : ordinal ≡ o = cc in
            subst (Contains (among ++ ordinal ∷ [])) one (Contains-push among ordinal)

    pub none_added : (limit : ℕ) (row : Row) (among listed : List ℕ) → slice_get part.rows limit ≡ Some row → HasLeftBelow limit among → listed ≡ among →
        ((schemas : List Schema) (table : Table) (t o : ℕ) → row_at table t o ≡ Some row → key_of schemas table t paths o ≡ Some key → ⊥) → HasLeftBelow (limit + 1) listed
    none_added limit row among listed at below is never = λ schemas table t place o other low left stood there has.
        subst (λ (os : List ℕ). Contains os o) (sym is) (by schemas table t place o other low left stood there has (cases_lt place limit))
      where
        by : (schemas : List Schema) (table : Table) (t place o : ℕ) (other : Row) → place < limit + 1 → slice_get part.gone place ≡ Some o → slice_get part.rows place ≡ Some other →
            row_at table t o ≡ Some other → key_of schemas table t paths o ≡ Some key → (place < limit) ⊎ (limit ≤ place) → Contains among o
        by schemas table t place o other low left stood there has (inl before) = below schemas table t place o other before left stood there has
        by schemas table t place o other low left stood there has (inr past) =
            let same : limit ≡ place = omega (arith, low, past) in
            let here : slice_get part.rows place ≡ Some row = subst (λ (n : ℕ). slice_get part.rows n ≡ Some row) same at in
            let one : other ≡ row = cc in
            absurd (never schemas table t o (there ∙ ap Some one) has)

    pub all_added : (limit : ℕ) (among : List ℕ) → length part.gone ≤ limit → HasLeftBelow limit among → HasLeft part paths key among
    all_added limit among past below = λ schemas table t place ordinal row left. below schemas table t place ordinal row (omega (arith, slice_get_within part.gone place ordinal left, past)) left

  -- ---- step by step

  module _ (steps : List PastStep) (t place : ℕ) (among listed : List ℕ) (so_far : HasLeftIn steps place t paths key among) where
    pub step_more : (part : PastPart) → part_at steps place t ≡ Some part → HasAll among listed → HasLeft part paths key listed → HasLeftIn steps (place + 1) t paths key listed
    step_more part at all left = λ other part' low is. by other part' low is (cases_lt other place)
      where
        by : (other : ℕ) (part' : PastPart) → other < place + 1 → part_at steps other t ≡ Some part' → (other < place) ⊎ (place ≤ other) → HasLeft part' paths key listed
        by other part' low is (inl before) = λ schemas table u k ordinal row gone stood there has. all ordinal (so_far other part' before is schemas table u k ordinal row gone stood there has)
        by other part' low is (inr past) =
            let same : place ≡ other = omega (arith, low, past) in
            let here : part_at steps other t ≡ Some part = subst (λ (n : ℕ). part_at steps n t ≡ Some part) same at in
            let one : part ≡ part' = cc in
            subst (λ (p : PastPart). HasLeft p paths key listed) one left

    pub step_none : part_at steps place t ≡ None → listed ≡ among → HasLeftIn steps (place + 1) t paths key listed
    step_none none same = λ other part low is. by other part low is (cases_lt other place)
      where
        by : (other : ℕ) (part : PastPart) → other < place + 1 → part_at steps other t ≡ Some part → (other < place) ⊎ (place ≤ other) → HasLeft part paths key listed
        by other part low is (inl before) = subst (HasLeft part paths key) (sym same) (so_far other part before is)
        by other part low is (inr past) =
            let one : place ≡ other = omega (arith, low, past) in
            let here : part_at steps other t ≡ None = subst (λ (n : ℕ). part_at steps n t ≡ None) one none in
            absurd cc
