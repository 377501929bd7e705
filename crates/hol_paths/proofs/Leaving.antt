-- What is left of a list when the elements at some places are taken out, the last place first.
use Rattle.std.proofs.Common.{◌≡◌, ◌⊎◌, ℕ, zero, suc, ◌+◌, ◌<◌, ◌≤◌, ◌∙◌, refl, sym, ap, subst, inl, inr, arith, List, [], ◌∷◌, length, get_or, map}
use Rattle.std.specs.Prelude.{All, Contains}
use Rattle.std.specs.List.{swap_remove}
use Rattle.std.proofs.lemmas.List.Elements.{All-tail}
use Rattle.key_index.proofs.Lists.{contains_either, contains_first, contains_later, contains_none}
use Rattle.row_model.specs.Row.{Rises}
use Rattle.hol_paths.specs.Slots.{without_places}
use Rattle.hol_paths.proofs.Apart.{AreApart, at_other, from_rest, map_swapped, never_taken, swapped_apart, swapped_length, taken_or_rest}

pub rises_tail : (p : ℕ) (ps : List ℕ) → Rises (p ∷ ps) → Rises ps
rises_tail p ps rises = λ i j d before within. rises (suc i) (suc j) d (omega (arith, before)) (omega (arith, within))

-- behind the first of numbers that rise there is room for the others
pub front_room : (p : ℕ) (ps : List ℕ) (n : ℕ) → Rises (p ∷ ps) → All (λ q. q < n) (p ∷ ps) → p + length ps < n
front_room p [] n rises below = omega (arith, below 0 0 (omega arith))
front_room p (q ∷ ps) n rises below =
    omega (arith, rises 0 1 0 (omega arith) (omega arith), front_room q ps n (rises_tail p (q ∷ ps) rises) (All-tail (λ r. r < n) p (q ∷ ps) below))

-- each of the others is above the first
above_first : (p : ℕ) (ps : List ℕ) → Rises (p ∷ ps) → All (λ q. p < q) ps
above_first p ps rises = λ k d within. rises 0 (suc k) d (omega arith) (omega (arith, within))

-- behind each of numbers that rise there is room for those that follow
pub room_behind : (ps : List ℕ) (n : ℕ) → Rises ps → All (λ q. q < n) ps → (k d : ℕ) → k < length ps → get_or ps k d + length ps ≤ n + k
room_behind [] n rises below k d within = absurd (omega (arith, within))
room_behind (p ∷ ps) n rises below zero d within = omega (arith, front_room p ps n rises below)
room_behind (p ∷ ps) n rises below (suc k) d within = omega (arith, room_behind ps n (rises_tail p ps rises) (All-tail (λ q. q < n) p ps below) k d (omega (arith, within)))

module _ {X : Type 0} (d : X) (xs : List X) where
  abbrev left : List ℕ → List X
  left ps = without_places d ps xs

  abbrev AreThere : List ℕ → Type 0
  AreThere ps = Rises ps × All (λ p. p < length xs) ps

  pub there_tail : (p : ℕ) (ps : List ℕ) → AreThere (p ∷ ps) → AreThere ps
  there_tail p ps there = (rises_tail p ps there.0, All-tail (λ q. q < length xs) p ps there.1)

  pub left_length : (ps : List ℕ) → AreThere ps → length (left ps) + length ps ≡ length xs
  left_length [] there = omega arith
  left_length (p ∷ ps) there =
      let before = left_length ps (there_tail p ps there) in
      omega (arith, before, swapped_length (left ps) p d (omega (arith, before, front_room p ps (length xs) there.0 there.1)))

  -- the place of the next one to take is there
  pub next_inside : (p : ℕ) (ps : List ℕ) → AreThere (p ∷ ps) → p < length (left ps)
  next_inside p ps there = omega (arith, left_length ps (there_tail p ps there), front_room p ps (length xs) there.0 there.1)

  pub left_apart : (ps : List ℕ) → AreThere ps → AreApart xs → AreApart (left ps)
  left_apart [] there apart = apart
  left_apart (p ∷ ps) there apart = swapped_apart (left ps) p d (next_inside p ps there) (left_apart ps (there_tail p ps there) apart)

  -- what stands before all places stays
  left_front : (ps : List ℕ) → AreThere ps → (q : ℕ) (e : X) → All (λ p. q < p) ps → get_or (left ps) q e ≡ get_or xs q e
  left_front [] there q e below = refl
  left_front (p ∷ ps) there q e below =
      let low : q < p = below 0 0 (omega arith) in
      let inside = next_inside p ps there in
      at_other (left ps) p d inside q e (λ same. omega (arith, low, same)) (omega (arith, low, inside, swapped_length (left ps) p d inside))
      ∙ left_front ps (there_tail p ps there) q e (All-tail (λ r. q < r) p ps below)

  -- the one that is taken next is the one that stood there
  taken_is : (p : ℕ) (ps : List ℕ) → AreThere (p ∷ ps) → get_or (left ps) p d ≡ get_or xs p d
  taken_is p ps there = left_front ps (there_tail p ps there) p d (above_first p ps there.0)

  pub from_left : (ps : List ℕ) → AreThere ps → (y : X) → Contains (left ps) y → Contains xs y
  from_left [] there y h = h
  from_left (p ∷ ps) there y h = from_left ps (there_tail p ps there) y (from_rest (left ps) p d (next_inside p ps there) y h)

  pub kept_or_left : (ps : List ℕ) → AreThere ps → (y : X) → Contains xs y → Contains (left ps) y ⊎ ((p : ℕ) × Contains ps p × (get_or xs p d ≡ y))
  kept_or_left [] there y h = inl h
  kept_or_left (p ∷ ps) there y h =
      elim (kept_or_left ps (there_tail p ps there) y h) [
        | inl kept ↦ elim (taken_or_rest (left ps) p d (next_inside p ps there) y kept) [
          | inl taken ↦ inr (p, contains_first p p ps refl, sym (taken_is p ps there) ∙ taken)
          | inr rest ↦ inl rest
        ]
        | inr other ↦ inr (other.0, contains_later p other.0 ps other.1, other.2)
      ]

  pub never_left : (ps : List ℕ) → AreThere ps → AreApart xs → (y : X) → Contains (left ps) y → (p : ℕ) → Contains ps p → get_or xs p d ≡ y → ⊥
  never_left [] there apart y h p among is = absurd (contains_none p among)
  never_left (q ∷ ps) there apart y h p among is =
      let inside = next_inside q ps there in
      elim (contains_either q p ps among) [
        | inl e ↦ never_taken (left ps) q d inside (left_apart ps (there_tail q ps there) apart)
            (subst (Contains (without_places d (q ∷ ps) xs)) (sym (taken_is q ps there ∙ ap (λ n. get_or xs n d) e ∙ is)) h)
        | inr later ↦ never_left ps (there_tail q ps there) apart y (from_rest (left ps) q d inside y h) p later is
      ]

-- a function of each element may come before or after
pub map_left : {X Y : Type 0} (f : X → Y) (d : X) (xs : List X) (ps : List ℕ) → Rises ps → All (λ p. p < length xs) ps → map f (without_places d ps xs) ≡ without_places (f d) ps (map f xs)
map_left f d xs [] rises below = refl
map_left f d xs (p ∷ ps) rises below =
    map_swapped f (without_places d ps xs) p d (f d) (next_inside d xs p ps (rises, below))
    ∙ ap (λ ys. swap_remove ys p (f d)) (map_left f d xs ps (rises_tail p ps rises) (All-tail (λ q. q < length xs) p ps below))
