-- What a loop over a list collects: an image of each item.
use Rattle.std.proofs.Common.{◌≡◌, ℕ, ◌+◌, ◌<◌, ◌∙◌, sym, ap, List, [], ◌∷◌, ◌++◌, length, get_or, take, map}
use Rattle.std.proofs.lemmas.List.{map-append, take_more}

-- one image more
pub image_pushed : {X Y : Type 0} (f : X → Y) (xs : List X) (i : ℕ) (x : X) (y : Y) (before after : List Y)
    → i < length xs → x ≡ get_or xs i x → y ≡ f x → before ≡ map f (take i xs) → after ≡ before ++ y ∷ [] → after ≡ map f (take (i + 1) xs)
image_pushed f xs i x y before after below here image so_far pushed =
    let more = ap (map f) (take_more xs i x below) ∙ map-append f (take i xs) (get_or xs i x ∷ []) in
    pushed ∙ ap (λ ys. ys ++ y ∷ []) so_far ∙ ap (λ z. map f (take i xs) ++ z ∷ []) (image ∙ ap f here) ∙ sym more
