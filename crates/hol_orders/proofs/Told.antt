-- What reading a line tells.
use Rattle.std.proofs.Common.{◌≡◌, ◌⊎◌, inl, inr, ℕ, List, Some, Result, Ok, Err, refl, ap, sym, ◌∙◌, subst}
use Rattle.std.specs.Prelude.{IsErrAnd, IsUtf8}
use Rattle.hol_varint.specs.Yields.{Yields}
use Rattle.serde_json.specs.Data.{Data, object, no_members, member}
use Rattle.serde_json.specs.Read.{read}
use Rattle.hol_orders.specs.declared.kind.Kind.{Kind}
use Rattle.hol_orders.specs.declared.order.Order.{Order}
use Rattle.hol_orders.specs.declared.order.OrderFault.{OrderFault}
use Rattle.hol_orders.specs.declared.order.OrderFault.TheVariants.{BadOrder, Memory}
use Rattle.hol_orders.specs.Kind.{shape, word_of_kind}
use Rattle.hol_orders.specs.Order.{Orders, TellsOrder, IsFreeOrder, IsOrder, FindsOrder, asked_of, asking, kind_of, content_of, order_data}
use Rattle.hol_orders.proofs.Spelled.{one_asking}
use Rattle.hol_orders.proofs.Words.{one_word}

pub found_told : (line : List ℕ) (r : Result Order OrderFault) → TellsOrder line r → (order : Order) → Orders line order →
    ((same : Order) × (r ≡ Ok same) × (order_data same ≡ order_data order)) ⊎ IsErrAnd r IsFreeOrder
found_told line (Ok same) told order is = let e = told.2 in let f = is.2 in let alike : order_data same ≡ order_data order = cc in inl (same, refl, alike)
found_told line (Err BadOrder) told order is = absurd (told order is)
found_told line (Err Memory) told order is = inr tt

pub bad_told : (line : List ℕ) (r : Result Order OrderFault) → TellsOrder line r → Yields IsFreeOrder r (Err BadOrder) ((order : Order) → ¬ Orders line order)
bad_told line (Ok order) told = ((λ e. cc), (λ none. absurd (none order told)))
bad_told line (Err BadOrder) told = ((λ e. told), (λ none. inl refl))
bad_told line (Err Memory) told = ((λ e. cc), (λ none. inr tt))

-- an order asks for what its kind can ask for
has_asked : (kind : Kind) (order : Order) → IsOrder order → kind_of order ≡ kind →
    (asked : (shape kind).Asked) × (shape kind).spelling.Fits asked × ((shape kind).spelling.spelled asked ≡ content_of order)
has_asked which order is of =
    subst (λ (k : Kind). (asked : (shape k).Asked) × (shape k).spelling.Fits asked × ((shape k).spelling.spelled asked ≡ content_of order)) of (asked_of order, is, refl)

-- a line that is an object with one member is the order of the member's kind and content, or none
pub told_kind : (line word : List ℕ) (kind : Kind) (content : Data) (r : Result Order OrderFault) → IsUtf8 line →
    read line ≡ Some (object (member word content no_members)) → word_of_kind kind ≡ word → FindsOrder kind content r → TellsOrder line r
told_kind line word which content (Ok order) utf8 reads named found =
    let words : word_of_kind (kind_of order) ≡ word = ap word_of_kind found.1 ∙ named in
    (found.0, utf8, reads ∙ (λ i. Some (object (member (sym words i) (sym found.2 i) no_members))))
told_kind line word which content (Err BadOrder) utf8 reads named found = λ order is.
    (let e = is.2 in
    let words : word ≡ word_of_kind (kind_of order) = cc in
    let contents : content_of order ≡ content = cc in
    let asked = has_asked which order is.0 (one_word (kind_of order) which (sym (named ∙ words))) in
    found asked.0 asked.1 (asked.2 ∙ contents))
told_kind line word which content (Err Memory) utf8 reads named found = tt

-- a line is one order at most
pub one_order : (line : List ℕ) (one other : Order) → Orders line one → Orders line other → asking one ≡ asking other
one_order line one other is also =
    let e = is.2 in
    let f = also.2 in
    let words : word_of_kind (kind_of one) ≡ word_of_kind (kind_of other) = cc in
    let contents : content_of one ≡ content_of other = cc in
    one_asking one other (one_word (kind_of one) (kind_of other) words) contents
