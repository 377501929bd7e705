-- What the same trial of each of some things comes to.
use Rattle.std.proofs.Common.{◌≡◌, ◌<◌, ◌+◌, ◌∙◌, ℕ, suc, List, [], ◌∷◌, ◌++◌, Some, length, take, drop, get_or, map, refl, sym, ap, subst, inl, inr, arith, drop-cons}
use Rattle.std.specs.Prelude.{slice_get}
use Rattle.std.specs.List.{All, AllZip}
use Rattle.std.proofs.lemmas.List.{take-append-drop, take_more}
use Rattle.std.proofs.lemmas.List.Elements.{All-head, All-tail}
use Rattle.std.proofs.lemmas.Option.{get_or_from_slice_get, slice_get_within}
use Rattle.blob_frame.specs.declared.fault.BlobFault.{BlobFault}
use Rattle.blob_faults.specs.Judge.{Judge, ◌>>=◌, each_of, nothing}

module _ {A B : Type 0} (f : A → Judge B) where
  -- all pass, with these values, where each passes with the value beside it
  pub each_passes : (R : A → B → Type 0) → ((x : A) (y : B) → R x y → (f x).Passes y) → (xs : List A) (ys : List B) → AllZip R xs ys → (each_of f xs).Passes ys
  unfolding each_of ◌>>=◌ nothing
  each_passes R each [] [] zipped = refl
  each_passes R each (x ∷ xs) (y ∷ ys) zipped = (y, each x y zipped.0, (ys, each_passes R each xs ys zipped.1, refl))
  each_passes R each _ _ zipped = absurd zipped

  -- all pass with one value where each does
  pub all_pass : (y : B) (P : A → Type 0) → ((x : A) → P x → (f x).Passes y) → (xs : List A) → All P xs → (each_of f xs).Passes (map (λ x. y) xs)
  unfolding each_of ◌>>=◌ nothing
  all_pass y P each [] all = refl
  all_pass y P each (x ∷ xs) all = (y, each x (All-head P x xs all), (map (λ x. y) xs, all_pass y P each xs (All-tail P x xs all), refl))

  -- all pass with the values of a function where each passes with its value
  pub map_passes : (g : A → B) (xs : List A) → ((k : ℕ) (x : A) → slice_get xs k ≡ Some x → (f x).Passes (g x)) → (each_of f xs).Passes (map g xs)
  unfolding each_of ◌>>=◌ nothing
  map_passes g [] each = refl
  map_passes g (x ∷ xs) each = (g x, each 0 x refl, (map g xs, map_passes g xs (λ k y at. each (suc k) y at), refl))

  -- one value comes of each item
  pub each_long : (xs : List A) (vs : List B) → (each_of f xs).Passes vs → length vs ≡ length xs
  unfolding each_of ◌>>=◌ nothing
  each_long [] vs passes = ap length passes
  each_long (x ∷ xs) vs passes = let rest = each_long xs passes.2.0 passes.2.1 in ap length passes.2.2 ∙ omega (arith, rest)

  -- where a list passes, and one more item does, both pass together
  pub passes_more : (xs : List A) (vs : List B) (x : A) (v : B) → (each_of f xs).Passes vs → (f x).Passes v → (each_of f (xs ++ x ∷ [])).Passes (vs ++ v ∷ [])
  unfolding each_of ◌>>=◌ nothing
  passes_more [] vs x v passes one = (v, one, ([], refl, ap (λ ws. ws ++ v ∷ []) passes))
  passes_more (y ∷ xs) vs x v passes one =
      (passes.0, passes.1, (passes.2.0 ++ v ∷ [], passes_more xs passes.2.0 x v passes.2.1 one, ap (λ ws. ws ++ v ∷ []) passes.2.2))

  -- where the items below an index pass, and the one at it does, those up to it pass
  pub passes_next : (xs : List A) (i : ℕ) (vs : List B) (x : A) (v : B) → slice_get xs i ≡ Some x → (each_of f (take i xs)).Passes vs → (f x).Passes v
      → (each_of f (take (i + 1) xs)).Passes (vs ++ v ∷ [])
  passes_next xs i vs x v at passes one =
      let taken = take_more xs i x (slice_get_within xs i x at) ∙ ap (λ (y : A). take i xs ++ y ∷ []) (get_or_from_slice_get xs i x x at) in
      subst (λ (ys : List A). (each_of f ys).Passes (vs ++ v ∷ [])) (sym taken) (passes_more (take i xs) vs x v passes one)

  -- where one fails behind those that pass, its fault is that of all
  pub each_fails : (before : List A) (ys : List B) (x : A) (behind : List A) (fault : BlobFault) → (each_of f before).Passes ys → (f x).Fails fault → (each_of f (before ++ x ∷ behind)).Fails fault
  unfolding each_of ◌>>=◌ nothing
  each_fails [] ys x behind fault passed fails = inl fails
  each_fails (w ∷ before) ys x behind fault (v, one, (vs, passed, is)) fails = inr (v, one, inl (each_fails before vs x behind fault passed fails))

  -- the same of the one at an index
  pub fails_at : (xs : List A) (i : ℕ) (x : A) (ys : List B) (fault : BlobFault) → i < length xs → x ≡ get_or xs i x → (each_of f (take i xs)).Passes ys → (f x).Fails fault → (each_of f xs).Fails fault
  fails_at xs i x ys fault inside is passed fails =
      let rest : drop i xs ≡ x ∷ drop (suc i) xs = drop-cons xs i x inside ∙ ap (λ w. w ∷ drop (suc i) xs) (sym is) in
      let whole : take i xs ++ x ∷ drop (suc i) xs ≡ xs = ap (λ ws. take i xs ++ ws) (sym rest) ∙ take-append-drop i xs in
      subst (λ ws. (each_of f ws).Fails fault) whole (each_fails (take i xs) ys x (drop (suc i) xs) fault passed fails)

  pub fails_next : (xs : List A) (i : ℕ) (vs : List B) (x : A) (fault : BlobFault) → slice_get xs i ≡ Some x → (each_of f (take i xs)).Passes vs → (f x).Fails fault → (each_of f xs).Fails fault
  fails_next xs i vs x fault at passes fails = fails_at xs i x vs fault (slice_get_within xs i x at) (sym (get_or_from_slice_get xs i x x at)) passes fails
