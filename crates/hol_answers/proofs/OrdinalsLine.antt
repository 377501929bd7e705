-- The lines of answers that list ordinals, by their parts.
use Rattle.std.proofs.Common.{◌≡◌, ℕ, List, [], ◌∷◌, ◌++◌, codes, sym, ap, ◌∙◌, append_assoc}
use Rattle.json.specs.Print.{escape_byte}
use Rattle.serde_json.specs.Written.{compact_text}
use Rattle.json_rows.proofs.Behind.{behind_both}
use Rattle.hol_orders.specs.Parts.{whole}
use Rattle.hol_answers.specs.declared.reply.Reply.TheVariants.{Find, Live, WalkFind}
use Rattle.hol_answers.specs.Member.{list_of}
use Rattle.hol_answers.specs.Reply.{line_of}

-- a front, an array of ordinals, and the end of the line
abbrev pub ordinals_line : List ℕ → List ℕ → List ℕ
ordinals_line front ordinals = front ++ (compact_text (list_of whole ordinals) ++ codes "}\n")

-- what stands behind the front, with the brace by the array
grouped : (front ordinals : List ℕ) → ordinals_line front ordinals ≡ front ++ ((compact_text (list_of whole ordinals) ++ 125 ∷ []) ++ 10 ∷ [])
grouped front ordinals = ap (λ t. front ++ t) (sym (append_assoc (compact_text (list_of whole ordinals)) (125 ∷ []) (10 ∷ [])))

find_line : (ordinals : List ℕ) → ordinals_line (codes "{\"ok\":\"find\",\"ordinals\":") ordinals ≡ line_of (Find ordinals)
unfolding escape_byte
find_line ordinals = grouped (codes "{\"ok\":\"find\",\"ordinals\":") ordinals

live_line : (ordinals : List ℕ) → ordinals_line (codes "{\"ok\":\"live\",\"ordinals\":") ordinals ≡ line_of (Live ordinals)
unfolding escape_byte
live_line ordinals = grouped (codes "{\"ok\":\"live\",\"ordinals\":") ordinals

walkfind_line : (ordinals : List ℕ) → ordinals_line (codes "{\"ok\":\"walkfind\",\"ordinals\":") ordinals ≡ line_of (WalkFind ordinals)
unfolding escape_byte
walkfind_line ordinals = grouped (codes "{\"ok\":\"walkfind\",\"ordinals\":") ordinals

-- the parts are put one behind another
pub parts_put : (old fronted listed new front ordinals : List ℕ) → fronted ≡ old ++ front → listed ≡ fronted ++ compact_text (list_of whole ordinals) → new ≡ listed ++ codes "}\n" → new ≡ old ++ ordinals_line front ordinals
parts_put old fronted listed new front ordinals first second third =
    let text = compact_text (list_of whole ordinals) in
    behind_both old fronted new front (text ++ codes "}\n") first (behind_both fronted listed new text (codes "}\n") second third)

-- where the parts are put, the line is
pub find_put : (ordinals old new : List ℕ) → new ≡ old ++ ordinals_line (codes "{\"ok\":\"find\",\"ordinals\":") ordinals → new ≡ old ++ line_of (Find ordinals)
find_put ordinals old new put = put ∙ ap (λ t. old ++ t) (find_line ordinals)

pub live_put : (ordinals old new : List ℕ) → new ≡ old ++ ordinals_line (codes "{\"ok\":\"live\",\"ordinals\":") ordinals → new ≡ old ++ line_of (Live ordinals)
live_put ordinals old new put = put ∙ ap (λ t. old ++ t) (live_line ordinals)

pub walkfind_put : (ordinals old new : List ℕ) → new ≡ old ++ ordinals_line (codes "{\"ok\":\"walkfind\",\"ordinals\":") ordinals → new ≡ old ++ line_of (WalkFind ordinals)
walkfind_put ordinals old new put = put ∙ ap (λ t. old ++ t) (walkfind_line ordinals)
