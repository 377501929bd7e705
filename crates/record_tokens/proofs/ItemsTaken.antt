-- The items of an array, read one after another.
use Rattle.std.proofs.Common.{◌≡◌, ◌∙◌, ℕ, ◌-◌, ◌≤◌, List, [], ◌∷◌, ◌++◌, length, Option, Some, None, Result, Ok, refl, ap, arith}
use Rattle.std.specs.List.{AllZip}
use Rattle.json.specs.Token.{Token}
use Rattle.json.specs.Json.{after_end_array, items, parse_map, value}
use Rattle.serde_json.specs.Data.{Data, Items, item, no_items}
use Rattle.serde_json.specs.Read.{converted, of_items}
use Rattle.schema_model.specs.declared.reason.Reason.{Reason}
use Rattle.json_values.specs.ReadValue.{before, read_each}
use Rattle.record_stream.proofs.Converted.{item_read, items_over}
use Rattle.record_stream.proofs.Listed.{value_shorter}
use Rattle.record_tokens.specs.Taken.{Takes, TakesItems}

pub before_both : {A : Type 0} (first : Result A Reason) (rest : Result (List A) Reason) (x : A) (xs : List A) → first ≡ Ok x → rest ≡ Ok xs → before first rest ≡ Ok (x ∷ xs)
before_both first rest x xs one others = λ i. before (one i) (others i)

pub zip_more : {A B : Type 0} (R : A → B → Type 0) (xs : List A) (ys : List B) (x : A) (y : B) → AllZip R xs ys → R x y → AllZip R (xs ++ x ∷ []) (ys ++ y ∷ [])
zip_more R [] [] x y all one = (one, tt)
zip_more R [] (b ∷ ys) x y all one = absurd all
zip_more R (a ∷ xs) [] x y all one = absurd all
zip_more R (a ∷ xs) (b ∷ ys) x y all one = (all.0, zip_more R xs ys x y all.1 one)

-- these, and then the rest
abbrev items_upto : List Data → Items → Items
items_upto [] rest = rest
items_upto (d ∷ ds) rest = item d (items_upto ds rest)

push : (ds : List Data) (d : Data) (rest : Items) → items_upto ds (item d rest) ≡ items_upto (ds ++ d ∷ []) rest
push [] d rest = refl
push (e ∷ ds) d rest = ap (item e) (push ds d rest)

one_more : (ds : List Data) (d : Data) (o : Option (Items × List Token)) → parse_map (items_upto ds) (parse_map (item d) o) ≡ parse_map (items_upto (ds ++ d ∷ [])) o
one_more ds d None = refl
one_more ds d (Some p) = ap (λ is. Some (is, p.1)) (push ds d p.0)

as_it_is : (o : Option (Items × List Token)) → o ≡ parse_map (items_upto []) o
as_it_is None = refl
as_it_is (Some p) = refl

each_read : {A : Type 0} (read : Data → Result A Reason) (ds : List Data) (found : List A) → AllZip (λ d x. read d ≡ Ok x) ds found → read_each read (items_upto ds no_items) ≡ Ok found
each_read read [] [] all = refl
each_read read [] (x ∷ found) all = absurd all
each_read read (d ∷ ds) [] all = absurd all
each_read read (d ∷ ds) (x ∷ found) all = before_both (read d) (read_each read (items_upto ds no_items)) x found all.0 (each_read read ds found all.1)

-- So many items were read as these, and the others are ahead.
pub record AreTaken {A : Type 0} (read : Data → Result A Reason) (nest : ℕ) (start now : List Token) (found : List A) : Type 0 where
  pub turns : ℕ
  pub enough : length now ≤ turns
  pub shorter : length now ≤ length start
  pub parts : List Data
  pub so_far : converted of_items (items (value nest) (length start) start) ≡ parse_map (items_upto parts) (converted of_items (items (value nest) turns now))
  pub gave : AllZip (λ json x. read json ≡ Ok x) parts found

pub items_first : {A : Type 0} (read : Data → Result A Reason) (nest : ℕ) (start : List Token) → AreTaken {A = A} read nest start start []
items_first read nest start = record {
  turns = length start;
  enough = omega arith;
  shorter = omega arith;
  parts = [];
  so_far = as_it_is (converted of_items (items (value nest) (length start) start));
  gave = tt;
}

pub item_more : {A : Type 0} (read : Data → Result A Reason) (nest : ℕ) (start now later : List Token) (found : List A) (x : A) → AreTaken read nest start now found → after_end_array now ≡ None → Takes read nest now x later
    → AreTaken read nest start later (found ++ x ∷ [])
item_more read nest start now later found x taken going (json, is, gives) =
    let p = value nest in
    let less = value_shorter nest now later json is in
    record {
      turns = taken.turns - 1;
      enough = omega (arith, less, taken.enough);
      shorter = omega (arith, less, taken.shorter);
      parts = taken.parts ++ json ∷ [];
      so_far = taken.so_far ∙ ap (parse_map (items_upto taken.parts)) (item_read p taken.turns now later json (omega (arith, less, taken.enough)) going is) ∙ one_more taken.parts json (converted of_items (items p (taken.turns - 1) later));
      gave = zip_more (λ json y. read json ≡ Ok y) taken.parts found json x taken.gave gives;
    }

pub items_end : {A : Type 0} (read : Data → Result A Reason) (nest : ℕ) (start now rest : List Token) (found : List A) → AreTaken read nest start now found → after_end_array now ≡ Some rest → TakesItems read nest start found rest
items_end read nest start now rest found taken over = (
  items_upto taken.parts no_items,
  taken.so_far ∙ ap (parse_map (items_upto taken.parts)) (items_over (value nest) taken.turns now rest taken.enough over),
  each_read read taken.parts found taken.gave,
)
