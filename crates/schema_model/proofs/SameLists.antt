-- Lists that are compared one by one.
use Rattle.std.proofs.Common.{◌≡◌, ◌<◌, ◌≤◌, ◌+◌, ℕ, List, [], ◌∷◌, ◌++◌, length, take, get_or, sym, ◌∙◌, arith}
use Rattle.std.proofs.lemmas.List.{take_all, take_more}

module _ {X : Type 0} (xs ys : List X) (place : ℕ) where
  -- one more is the same
  pub same_more : (x y : X) → place < length xs → place < length ys → x ≡ get_or xs place x → y ≡ get_or ys place y → x ≡ y → take place xs ≡ take place ys → take (place + 1) xs ≡ take (place + 1) ys
  same_more x y in_xs in_ys is_x is_y same before =
      take_more xs place x in_xs ∙ (λ i. before i ++ (sym is_x ∙ same ∙ is_y) i ∷ []) ∙ sym (take_more ys place y in_ys)

  -- all are the same
  pub same_all : length xs ≡ length ys → length xs ≤ place → take place xs ≡ take place ys → xs ≡ ys
  same_all long done same = sym (take_all place xs done) ∙ same ∙ take_all place ys (omega (arith, long, done))
