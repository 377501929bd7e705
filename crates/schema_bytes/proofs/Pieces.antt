-- What a loop over a list collects: a piece for each item.
use Rattle.std.proofs.Common.{◌≡◌, ℕ, ◌+◌, ◌<◌, ◌≤◌, ◌∙◌, sym, ap, List, [], ◌∷◌, ◌++◌, append_assoc, length, get_or, take, flat_map}
use Rattle.std.proofs.lemmas.Grind.{flat_map-append}
use Rattle.std.proofs.lemmas.List.{append-nil, take_all, take_more}

-- one piece more, behind what stood there
pub piece_pushed : {X Y : Type 0} (f : X → List Y) (xs : List X) (i : ℕ) (x : X) (start before after : List Y)
    → i < length xs → x ≡ get_or xs i x → before ≡ start ++ flat_map f (take i xs) → after ≡ before ++ f x → after ≡ start ++ flat_map f (take (i + 1) xs)
piece_pushed f xs i x start before after below here so_far pushed =
    let y = get_or xs i x in
    let more = ap (flat_map f) (take_more xs i x below) ∙ flat_map-append f (take i xs) (y ∷ []) ∙ ap (λ ys. flat_map f (take i xs) ++ ys) (append-nil (f y)) in
    pushed ∙ ap (λ ys. ys ++ f x) so_far ∙ append_assoc start (flat_map f (take i xs)) (f x) ∙ ap (λ z. start ++ (flat_map f (take i xs) ++ f z)) here ∙ ap (λ ys. start ++ ys) (sym more)

-- all pieces, behind a head
pub pieces_done : {X Y : Type 0} (f : X → List Y) (xs items : List X) (i : ℕ) (start head begun all : List Y)
    → length items ≤ i → items ≡ xs → begun ≡ start ++ head → all ≡ begun ++ flat_map f (take i items) → all ≡ start ++ (head ++ flat_map f xs)
pieces_done f xs items i start head begun all past same first so_far =
    so_far ∙ ap (λ ys. begun ++ flat_map f ys) (take_all i items past ∙ same) ∙ ap (λ ys. ys ++ flat_map f xs) first ∙ append_assoc start head (flat_map f xs)
