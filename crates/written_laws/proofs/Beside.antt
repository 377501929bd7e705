-- Indexes and what stands beside each of them: lists of pairs, and what is made of them.
use Rattle.std.proofs.Common.{◌≡◌, ℕ, suc, ◌+◌, List, [], ◌∷◌, ◌++◌, length, map, Option, Some, inl, inr, refl, sym, ap, ◌∙◌, subst, arith, length-append, append_assoc}
use Rattle.std.specs.Prelude.{Contains, slice_get, flat_map, zip}
use Rattle.std.specs.List.{All, AllZip, cons_option, filter_map, range_with_len}
use Rattle.std.proofs.lemmas.List.Elements.{All-cons, All-nil, All-head, All-tail}
use Rattle.ordinal_set.proofs.Members.{first_or_other, no_member}
use Rattle.row_model.specs.Table.{RowMap, Table}
use Rattle.row_model.specs.BothStates.{rows_in}
use Rattle.blob_writing.specs.Placed.{placed}

module _ {X : Type 0} (R : ℕ → X → Type 0) where
  pub each_pair : (indexes : List ℕ) (xs : List X) → AllZip R indexes xs → All (λ (p : ℕ × X). R p.0 p.1) (zip indexes xs)
  each_pair [] [] r = All-nil (λ (p : ℕ × X). R p.0 p.1)
  each_pair (i ∷ indexes) (x ∷ xs) r = All-cons (λ (p : ℕ × X). R p.0 p.1) (i, x) (zip indexes xs) r.0 (each_pair indexes xs r.1)
  each_pair _ _ r = absurd r

  pub firsts : {Y : Type 0} (f : ℕ → Y) (indexes : List ℕ) (xs : List X) → AllZip R indexes xs → map (λ (p : ℕ × X). f p.0) (zip indexes xs) ≡ map f indexes
  firsts f [] [] r = refl
  firsts f (i ∷ indexes) (x ∷ xs) r = ap (λ ys. f i ∷ ys) (firsts f indexes xs r.1)
  firsts f _ _ r = absurd r

  pub seconds : {Y : Type 0} (f : X → Y) (indexes : List ℕ) (xs : List X) → AllZip R indexes xs → map (λ (p : ℕ × X). f p.1) (zip indexes xs) ≡ map f xs
  seconds f [] [] r = refl
  seconds f (i ∷ indexes) (x ∷ xs) r = ap (λ ys. f x ∷ ys) (seconds f indexes xs r.1)
  seconds f _ _ r = absurd r

  pub joined : (f : X → List ℕ) (indexes : List ℕ) (xs : List X) → AllZip R indexes xs → flat_map (λ (p : ℕ × X). f p.1) (zip indexes xs) ≡ flat_map f xs
  joined f [] [] r = refl
  joined f (i ∷ indexes) (x ∷ xs) r = ap (λ ys. f x ++ ys) (joined f indexes xs r.1)
  joined f _ _ r = absurd r

  pub as_many : (indexes : List ℕ) (xs : List X) → AllZip R indexes xs → length (zip indexes xs) ≡ length indexes
  as_many [] [] r = refl
  as_many (i ∷ indexes) (x ∷ xs) r = ap (λ (n : ℕ). suc n) (as_many indexes xs r.1)
  as_many _ _ r = absurd r

  -- what belongs to each index is what a list has there
  pub listed : {S : Type 0} (all : List S) (f : X → S) → ((i : ℕ) (x : X) → R i x → slice_get all i ≡ Some (f x)) → (indexes : List ℕ) (xs : List X) → AllZip R indexes xs
      → map f xs ≡ filter_map (slice_get all) indexes
  listed all f each [] [] r = refl
  listed {S} all f each (i ∷ indexes) (x ∷ xs) r =
      ap (λ (ys : List S). f x ∷ ys) (listed all f each indexes xs r.1) ∙ ap (λ (o : Option S). cons_option o (filter_map (slice_get all) indexes)) (sym (each i x r.0))
  listed all f each [] (x ∷ xs) r = absurd r
  listed all f each (i ∷ indexes) [] r = absurd r

  -- what stands beside an index
  pub at_index : (Q : ℕ × X → Type 0) (indexes : List ℕ) (xs : List X) → AllZip R indexes xs → All Q (zip indexes xs) → (index : ℕ) → Contains indexes index → (x : X) × R index x × Q (index, x)
  at_index Q [] [] r all index inside = absurd (no_member index inside)
  at_index Q (i ∷ indexes) (x ∷ xs) r all index inside =
      elim (first_or_other i indexes index inside) [
        | inl same ↦ (x, subst (λ (n : ℕ). R n x) same r.0, subst (λ (n : ℕ). Q (n, x)) same (All-head Q (i, x) (zip indexes xs) all))
        | inr other ↦ at_index Q indexes xs r.1 (All-tail Q (i, x) (zip indexes xs) all) index other
      ]
  at_index Q [] (x ∷ xs) r all index inside = absurd r
  at_index Q (i ∷ indexes) [] r all index inside = absurd r

  -- what is made of each, wherever it stands
  pub placed_seconds : {V : Type 0} (bytes : X → List ℕ) (made : X → ℕ → V) (indexes : List ℕ) (xs : List X) → AllZip R indexes xs → (at : ℕ)
      → placed (λ (p : ℕ × X). bytes p.1) (λ (p : ℕ × X). made p.1) (zip indexes xs) at ≡ placed bytes made xs at
  placed_seconds bytes made [] [] r at = refl
  placed_seconds {V} bytes made (i ∷ indexes) (x ∷ xs) r at = ap (λ (vs : List V). made x at ∷ vs) (placed_seconds bytes made indexes xs r.1 (at + length (bytes x)))
  placed_seconds bytes made [] (x ∷ xs) r at = absurd r
  placed_seconds bytes made (i ∷ indexes) [] r at = absurd r

-- what is made of things that stand one behind the other, and of each of them alone
pub placed_beside : {A V W : Type 0} (P : A → Type 0) (R : V → W → Type 0) (bytes : A → List ℕ) (made : A → ℕ → V) (f : A → W) → ((x : A) (at : ℕ) → P x → R (made x at) (f x))
    → (xs : List A) → All P xs → (at : ℕ) → AllZip R (placed bytes made xs at) (map f xs)
placed_beside P R bytes made f each [] all at = tt
placed_beside P R bytes made f each (x ∷ xs) all at =
    (each x at (All-head P x xs all), placed_beside P R bytes made f each xs (All-tail P x xs all) (at + length (bytes x)))

-- what all have alike, wherever they stand
pub placed_alike : {A V C : Type 0} (bytes : A → List ℕ) (made : A → ℕ → V) (g : V → C) (h : A → C) → ((x : A) (at : ℕ) → g (made x at) ≡ h x) → (xs : List A) (at : ℕ) → map g (placed bytes made xs at) ≡ map h xs
placed_alike bytes made g h same [] at = refl
placed_alike bytes made g h same (x ∷ xs) at = let one = same x at in let rest = placed_alike bytes made g h same xs (at + length (bytes x)) in λ i. one i ∷ rest i

-- what holds of what is made of each
pub placed_all : {A V : Type 0} (P : A → Type 0) (Q : V → Type 0) (bytes : A → List ℕ) (made : A → ℕ → V) → ((x : A) (at : ℕ) → P x → Q (made x at)) → (xs : List A) → All P xs → (at : ℕ) → All Q (placed bytes made xs at)
placed_all P Q bytes made each [] all at = All-nil Q
placed_all P Q bytes made each (x ∷ xs) all at =
    All-cons Q (made x at) (placed bytes made xs (at + length (bytes x))) (each x at (All-head P x xs all)) (placed_all P Q bytes made each xs (All-tail P x xs all) (at + length (bytes x)))

-- what is made of what is made of each
pub made_twice : {A B C : Type 0} (g : B → C) (f : A → B) (xs : List A) → map g (map f xs) ≡ map (λ x. g (f x)) xs
made_twice g f [] = refl
made_twice {C = C} g f (x ∷ xs) = ap (λ (ys : List C). g (f x) ∷ ys) (made_twice g f xs)

-- the rows of all types of a table
rows_there : (front : Table) (rows : RowMap) (rest : Table) → rows_in (front ++ rows ∷ rest) (length front) ≡ rows
rows_there [] rows rest = refl
rows_there (first ∷ front) rows rest = rows_there front rows rest

tables_from : (front rest : Table) → map (rows_in (front ++ rest)) (range_with_len (length front) (length rest)) ≡ rest
tables_from front [] = refl
tables_from front (rows ∷ rest) =
    let long : length (front ++ rows ∷ []) ≡ length front + 1 = omega (arith, length-append front (rows ∷ [])) in
    let behind : map (rows_in (front ++ rows ∷ rest)) (range_with_len (length front + 1) (length rest)) ≡ rest =
    subst (λ (n : ℕ). map (rows_in (front ++ rows ∷ rest)) (range_with_len n (length rest)) ≡ rest) long
    (subst (λ (all : Table). map (rows_in all) (range_with_len (length (front ++ rows ∷ [])) (length rest)) ≡ rest) (append_assoc front (rows ∷ []) rest)
    (tables_from (front ++ rows ∷ []) rest)) in
    ap (λ (r : RowMap). r ∷ map (rows_in (front ++ rows ∷ rest)) (range_with_len (length front + 1) (length rest))) (rows_there front rows rest)
    ∙ ap (λ (rs : Table). rows ∷ rs) behind

pub all_rows : (table : Table) → map (rows_in table) (range_with_len 0 (length table)) ≡ table
all_rows table = tables_from [] table
