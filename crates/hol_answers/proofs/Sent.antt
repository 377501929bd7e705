-- What is sent part by part is sent as a whole.
use Rattle.std.proofs.Common.{◌≡◌, ℕ, ℤ, pos, negsuc, suc, ◌+◌, List, [], ◌∷◌, length, map, Bool, false, ◌||◌, Some, Bor, refl, sym, ap, arith, ◌∙◌, subst}
use Rattle.std.proofs.Math.Nat.{add-zero, zero-add}
use Rattle.serde.specs.Event.{Log, Logs, seq_begins, seq_ends, map_begins, map_ends, field_key}
use Rattle.serde.specs.declared.name.Case.TheVariants.{AsIs}
use Rattle.serde_json.proofs.FreeTexts.{text_of_value}
use Rattle.serde_json.specs.Data.{Data, number, array, object, Items, no_items, item, Members, no_members, member}
use Rattle.serde_json.specs.Events.{items_len, members_len}
use Rattle.serde_json.specs.Find.{of_integer}
use Rattle.serde_json.specs.Sent.{IsTextOf}
use Rattle.serde_json.specs.View.{items_of}
use Rattle.serde_json.specs.Written.{has_float, items_have_float, members_have_float, compact_text}
use Rattle.hol_orders.specs.Parts.{pair}
use Rattle.hol_answers.specs.declared.member.Content.{Content}
use Rattle.hol_answers.specs.Content.{members_before, members_of}
use Rattle.hol_answers.specs.Sent.{SendsPlain, SendsItemsPlain, SendsMembersPlain, Sends, SendsFront}

-- what is sent in its own form is sent in each
pub sends : (json : Data) (old new : Log) → SendsPlain json old new → Sends json old new
sends json old new sent same is = subst (λ d. SendsPlain d old new) (sym is) sent

neither : (a b : Bool) → a ≡ false → b ≡ false → (a || b) ≡ false
neither a b first second = ap (λ x. x || b) first ∙ second

-- an integer has no fraction and no exponent
pub integer_is_plain : (z : ℤ) → has_float (number (of_integer z)) ≡ false
integer_is_plain (pos n) = refl
integer_is_plain (negsuc n) = refl

-- one item before those that are sent, and the end behind none
pub item_sent : (json : Data) (rest : Items) (old mid end : Log) → SendsPlain json old mid → SendsItemsPlain rest mid end → SendsItemsPlain (item json rest) old end
item_sent json rest old mid end sent others = ((mid, sent.0, others.0), neither (has_float json) (items_have_float rest) sent.1 others.1)

pub items_end : (old new : Log) → Logs old new seq_ends → SendsItemsPlain no_items old new
items_end old new ends = (ends, refl)

-- the items between the begin and the end
pub array_sent : (items : Items) (old first new : Log) → Logs old first (seq_begins (Some (items_len items))) → SendsItemsPlain items first new → SendsPlain (array items) old new
array_sent items old first new begins sent = ((first, begins, sent.0), sent.1)

pub items_len-of : {A : Type 0} (data_of : A → Data) (xs : List A) → items_len (items_of (map data_of xs)) ≡ length xs
items_len-of data_of [] = refl
items_len-of data_of (x ∷ xs) = ap suc (items_len-of data_of xs)

-- two items between the begin and the end
pub pair_sent : (one other : Data) (old first mid last new : Log) → Logs old first (seq_begins (Some 2)) → Sends one first mid → Sends other mid last → Logs last new seq_ends → SendsPlain (pair one other) old new
pair_sent one other old first mid last new begins sent also ends =
    let second = item_sent other no_items mid last new (also other refl) (items_end last new ends) in
    array_sent (item one (item other no_items)) old first new begins (item_sent one (item other no_items) first mid new (sent one refl) second)

-- one member before those that are sent
pub member_sent : (name : List ℕ) (json : Data) (rest : Members) (old named mid end : Log) → Logs old named (field_key name AsIs) → SendsPlain json named mid → SendsMembersPlain rest mid end →
    SendsMembersPlain (member name json rest) old end
member_sent name json rest old named mid end key sent others =
    ((named, mid, key, sent.0, others.0), neither (has_float json) (members_have_float rest) sent.1 others.1)

members_len-before : (front : List (Bor (List ℕ) × Content)) (rest : Members) → members_len (members_before front rest) ≡ length front + members_len rest
members_len-before [] rest = sym (zero-add (members_len rest))
members_len-before (m ∷ front) rest = let others = members_len-before front rest in omega arith

-- members and others between the begin and the end
front_sent : (front : List (Bor (List ℕ) × Content)) (rest : Members) (old first mid new : Log) → Logs old first (map_begins (Some (length front + members_len rest))) → SendsFront front first mid →
    SendsMembersPlain rest mid new → SendsPlain (object (members_before front rest)) old new
front_sent front rest old first mid new begins sent others =
    let all = sent rest new others in
    ((first, subst (λ n. Logs old first (map_begins (Some n))) (sym (members_len-before front rest)) begins, all.0), all.1)

-- the members alone
pub object_sent : (members : List (Bor (List ℕ) × Content)) (old first mid new : Log) → Logs old first (map_begins (Some (length members))) → SendsFront members first mid → Logs mid new map_ends →
    SendsPlain (object (members_of members)) old new
object_sent members old first mid new begins sent ends =
    front_sent members no_members old first mid new (subst (λ n. Logs old first (map_begins (Some n))) (sym (add-zero (length members))) begins) sent (ends, refl)

-- the members, one more and then the others
pub object_around_sent : (front back : List (Bor (List ℕ) × Content)) (name : List ℕ) (one : Data) (old first mid named told others new : Log) →
    Logs old first (map_begins (Some (length front + 1 + length back))) → SendsFront front first mid → Logs mid named (field_key name AsIs) → Sends one named told →
    SendsFront back told others → Logs others new map_ends → SendsPlain (object (members_before front (member name one (members_of back)))) old new
object_around_sent front back name one old first mid named told others new begins sent key also rest ends =
    let behind = rest no_members new (ends, refl) in
    let count : length front + 1 + length back ≡ length front + members_len (member name one (members_of back)) =
    let more = members_len-before back no_members in omega (arith, more) in
    front_sent front (member name one (members_of back)) old first mid new (subst (λ n. Logs old first (map_begins (Some n))) count begins) sent
    (member_sent name one (members_of back) mid named told new key (also one refl) behind)

-- the text of what is sent is the compact one
pub text_sent : (json : Data) (log : Log) (text : List ℕ) → Sends json (Some []) log → IsTextOf log text → text ≡ compact_text json
text_sent json log text sent is = let plain = sent json refl in text_of_value json log text plain.0 is plain.1
