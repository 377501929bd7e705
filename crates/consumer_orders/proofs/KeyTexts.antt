-- The texts among JSON values.
use Rattle.std.proofs.Common.{◌≡◌, ◌+◌, ◌<◌, ℕ, List, [], ◌∷◌, ◌++◌, length, take, get_or, sym, ap, ◌∙◌, append_assoc}
use Rattle.std.proofs.lemmas.List.{append-nil, take_more}
use Rattle.serde_json.specs.View.{items_view, view}
use Rattle.serde_json.specs.declared.value.Value.{Value}
use Rattle.hollow_machine.specs.KeyPaths.{text_in, texts_in}

-- the texts of one value more
pub texts_push : (before : List Value) (last : Value) → texts_in (items_view (before ++ last ∷ [])) ≡ texts_in (items_view before) ++ text_in (view last)
texts_push [] last = append-nil (text_in (view last))
texts_push (first ∷ rest) last =
    ap (λ texts. text_in (view first) ++ texts) (texts_push rest last) ∙ sym (append_assoc (text_in (view first)) (texts_in (items_view rest)) (text_in (view last)))

-- The texts of the values up to the next one.
pub one_more : (values : List Value) (place : ℕ) (next : Value) (texts texts' : List (List ℕ)) → place < length values → next ≡ get_or values place next → texts ≡ texts_in (items_view (take place values)) →
    texts' ≡ texts ++ text_in (view next) → texts' ≡ texts_in (items_view (take (place + 1) values))
one_more values place next texts texts' inside is so_far added =
    added ∙ ap (λ t. t ++ text_in (view next)) so_far ∙ sym (texts_push (take place values) next)
    ∙ sym (ap (λ vs. texts_in (items_view vs)) (take_more values place next inside ∙ ap (λ v. take place values ++ v ∷ []) (sym is)))
