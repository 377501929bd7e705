-- The line of an order in its shortest form as what it reads as.
use Rattle.std.proofs.Common.{◌≡◌, ◌∙◌, ℕ, ◌≤◌, List, [], ◌∷◌, ◌++◌, Bool, Bor, true, false, Some, Option, option_and_then, option_map, codes, refl, sym, ap, subst, arith, append_assoc, append-nil}
use Rattle.std.proofs.lemmas.Str.Pattern.{IsSplitOnceResult, split_parts}
use Rattle.json.specs.Token.{Token, end_array, end_object}
use Rattle.json.specs.Json as json
use Rattle.json.specs.Lex.{tokens}
use Rattle.json.specs.Print.{IsNumber, print, print_from, quoted}
use Rattle.json.specs.Tree.{HasNumbers, ItemsHaveNumbers, depth, items_depth, items_tokens, json_tokens}
use Rattle.json.proofs.Printed.Tokens.{tokens-print}
use Rattle.json.proofs.Printed.Trees.{ArePrintable-json_tokens, value-json_tokens}
use Rattle.serde_json.specs.Data.{Data, Items, Num, array, boolean, item, member, no_items, no_members, null, number, object, put, string}
use Rattle.serde_json.specs.Read.{number_of, of_items, of_json, of_members, read}
use Rattle.serde_json.specs.Written.{comma_if}
use Rattle.record_stream.specs.PlainFind.{IsScalar}
use Rattle.record_stream.specs.PlainLine.{AreParts, BeginsWith, HasWord, IsPart}

-- JSON that reads as the data, nested no deeper than this, whose text without spaces this is
record Printed (most : ℕ) (later : Bool) (d : Data) (text : List ℕ) : Type 0 where
  it : json.Json
  reads : of_json it ≡ Some d
  numbers : HasNumbers it
  shallow : depth it ≤ most
  printed : (ts : List Token) → print_from later (json_tokens it ++ ts) ≡ comma_if later ++ (text ++ print_from true ts)

scalar_printed : (most : ℕ) (later : Bool) (d : Data) (text : List ℕ) → IsScalar d text → Printed most later d text
unfolding print_from
scalar_printed most true (number n) text is = record { it = json.number text; reads = ap (option_map number) is.1; numbers = is.0; shallow = omega arith; printed = λ ts. refl }
scalar_printed most false (number n) text is = record { it = json.number text; reads = ap (option_map number) is.1; numbers = is.0; shallow = omega arith; printed = λ ts. refl }
scalar_printed most true (string s) text is = record { it = json.string s; reads = refl; numbers = tt; shallow = omega arith; printed = λ ts. ap (λ t. 44 ∷ (t ++ print_from true ts)) (sym is) }
scalar_printed most false (string s) text is = record { it = json.string s; reads = refl; numbers = tt; shallow = omega arith; printed = λ ts. ap (λ t. t ++ print_from true ts) (sym is) }
scalar_printed most later null text is = absurd is
scalar_printed most later (boolean b) text is = absurd is
scalar_printed most later (array ds) text is = absurd is
scalar_printed most later (object ms) text is = absurd is

-- the tokens of an array of one, behind its bracket
one_printed : (d : Data) (inside : List ℕ) (one : Printed 0 false d inside) (ts : List Token)
    → print_from false ((json_tokens one.it ++ end_array ∷ []) ++ ts) ≡ (inside ++ codes "]") ++ print_from true ts
unfolding print_from
one_printed d inside one ts =
    ap (print_from false) (append_assoc (json_tokens one.it) (end_array ∷ []) ts) ∙ one.printed (end_array ∷ ts) ∙ sym (append_assoc inside (93 ∷ []) (print_from true ts))

list_printed : (later : Bool) (d : Data) (inside text : List ℕ) → Printed 0 false d inside → text ≡ codes "[" ++ (inside ++ codes "]") → Printed 1 later (array (item d no_items)) text
unfolding print_from
list_printed true d inside text one is = record {
  it = json.array (json.item one.it json.no_items);
  reads = ap (λ o. option_map array (option_and_then (λ x. option_map (item x) (Some no_items)) o)) one.reads;
  numbers = (one.numbers, tt);
  shallow = omega (arith, one.shallow);
  printed = λ ts. ap (λ t. 44 ∷ 91 ∷ t) (one_printed d inside one ts) ∙ ap (λ t. 44 ∷ (t ++ print_from true ts)) (sym is);
}
list_printed false d inside text one is = record {
  it = json.array (json.item one.it json.no_items);
  reads = ap (λ o. option_map array (option_and_then (λ x. option_map (item x) (Some no_items)) o)) one.reads;
  numbers = (one.numbers, tt);
  shallow = omega (arith, one.shallow);
  printed = λ ts. ap (λ t. 91 ∷ t) (one_printed d inside one ts) ∙ ap (λ t. t ++ print_from true ts) (sym is);
}

part_printed : (later : Bool) (d : Data) (text : List ℕ) → IsPart d text → Printed 1 later d text
part_printed later (number n) text is = scalar_printed 1 later (number n) text is
part_printed later (string s) text is = scalar_printed 1 later (string s) text is
part_printed later (array no_items) text is = absurd is
part_printed later (array (item d no_items)) text is = list_printed later d is.0 text (scalar_printed 0 false d is.0 is.1) is.2
part_printed later (array (item d (item e ds))) text is = absurd is
part_printed later null text is = absurd is
part_printed later (boolean b) text is = absurd is
part_printed later (object ms) text is = absurd is

-- the same of parts up to the end of the line
record AllPrinted (later : Bool) (ds : Items) (text : List ℕ) : Type 0 where
  its : json.Items
  reads : of_items its ≡ Some ds
  numbers : ItemsHaveNumbers its
  shallow : items_depth its ≤ 1
  printed : text ≡ print_from later (items_tokens its ++ end_object ∷ [])

parts_printed : (later : Bool) (ds : Items) (text : List ℕ) → AreParts later ds text → AllPrinted later ds text
unfolding print_from
parts_printed true no_items text is = record { its = json.no_items; reads = refl; numbers = tt; shallow = omega arith; printed = is }
parts_printed false no_items text is = record { its = json.no_items; reads = refl; numbers = tt; shallow = omega arith; printed = is }
parts_printed later (item d ds) text is =
    let begins = is.1 in
    let first = part_printed later d begins.own begins.part in
    let rest = parts_printed true ds is.0 is.2 in
    let behind = items_tokens rest.its ++ end_object ∷ [] in
    record {
      its = json.item first.it rest.its;
      reads = ap (option_and_then (λ x. option_map (item x) (of_items rest.its))) first.reads ∙ ap (option_map (item d)) rest.reads;
      numbers = (first.numbers, rest.numbers);
      shallow = omega (arith, first.shallow, rest.shallow);
      printed = begins.whole ∙ ap (λ t. comma_if later ++ (begins.own ++ t)) rest.printed ∙ sym (first.printed behind)
          ∙ ap (print_from later) (sym (append_assoc (json_tokens first.it) (items_tokens rest.its) (end_object ∷ [])));
    }

-- ---- the line as a whole

abbrev member_of : List ℕ → json.Items → json.Json
member_of word its = json.object (json.member word (json.array its) json.no_members)

word_printed : (word : List ℕ) (its : json.Items) → print (json_tokens (member_of word its)) ≡ codes "{" ++ (quoted word ++ (codes ":[" ++ print_from false (items_tokens its ++ end_object ∷ [])))
unfolding print_from
word_printed word its = ap (λ t. 123 ∷ t) (append_assoc (quoted word) (58 ∷ []) (91 ∷ print_from false (items_tokens its ++ end_object ∷ [])))

parts_read : (line word text : List ℕ) (ds : Items) → HasWord word line text → AreParts false ds text → read line ≡ Some (object (member word (array ds) no_members))
parts_read line word text ds has are =
    let all = parts_printed false ds text are in
    let it = member_of word all.its in
    let spelled : line ≡ print (json_tokens it) = has ∙ ap (λ t. codes "{" ++ (quoted word ++ (codes ":[" ++ t))) all.printed ∙ sym (word_printed word all.its) in
    let tokens_are : tokens line ≡ json_tokens it = ap tokens spelled ∙ tokens-print (json_tokens it) (ArePrintable-json_tokens it (all.numbers, tt)) in
    let found : json.value 127 (tokens line) ≡ Some (it, []) =
    ap (json.value 127) (tokens_are ∙ sym (append-nil (json_tokens it))) ∙ value-json_tokens it 127 [] (omega (arith, all.shallow)) in
    ap (λ o. option_and_then of_json (option_and_then (λ p. json.if_last p.0 p.1) o)) found
    ∙ ap (λ o. option_map object (option_and_then (λ x. of_members json.no_members (put word x no_members)) (option_map array o))) all.reads

-- the same of the content that is made
pub plain_read : (line word text : List ℕ) (ds : Items) (content : Data) → HasWord word line text → AreParts false ds text → content ≡ array ds → read line ≡ Some (object (member word content no_members))
plain_read line word text ds content has are same = parts_read line word text ds has are ∙ ap (λ d. Some (object (member word d no_members))) (sym same)

-- ---- what is cut

pub word_cut : (line rest name_rest behind name : List ℕ) → line ≡ codes "{\"" ++ rest → 34 ∷ rest ≡ quoted name ++ name_rest → name_rest ≡ codes ":[" ++ behind → HasWord name line behind
word_cut line rest name_rest behind name opened named along = opened ∙ ap (λ t. codes "{" ++ t) (named ∙ ap (λ t. quoted name ++ t) along)

pub later_part : (d : Data) (text rest behind : List ℕ) → text ≡ codes "," ++ rest → BeginsWith false d rest behind → BeginsWith true d text behind
later_part d text rest behind comma begins = record { own = begins.own; part = begins.part; whole = comma ∙ ap (λ t. codes "," ++ t) begins.whole }

pub string_part : (text rest s behind : List ℕ) (whole : Data) → text ≡ codes "\"" ++ rest → 34 ∷ rest ≡ quoted s ++ behind → whole ≡ string s → BeginsWith false whole text behind
string_part text rest s behind whole opened taken same =
    let begins : BeginsWith false (string s) text behind = record { own = quoted s; part = refl; whole = opened ∙ taken } in
    subst (λ x. BeginsWith false x text behind) (sym same) begins

pub list_part : (d whole : Data) (text rest : List ℕ) (cut : Option (Bor (List ℕ) × Bor (List ℕ))) (inside behind : Bor (List ℕ)) → text ≡ codes "[" ++ rest → IsSplitOnceResult 93 rest cut →
    cut ≡ Some (inside, behind) → IsScalar d inside.now → whole ≡ array (item d no_items) → BeginsWith false whole text behind.now
list_part d whole text rest cut inside behind opened is found scalar same =
    let parts = split_parts 93 rest (Some (inside, behind)) (subst (IsSplitOnceResult 93 rest) found is) (omega arith) in
    let begins : BeginsWith false (array (item d no_items)) text behind.now = record {
      own = codes "[" ++ (inside.now ++ codes "]");
      part = (inside.now, scalar, refl);
      whole = opened ∙ ap (λ t. codes "[" ++ t) (parts.0 ∙ sym (append_assoc inside.now (codes "]") behind.now));
    } in
    subst (λ x. BeginsWith false x text behind.now) (sym same) begins

pub number_part : (n : Num) (text digits behind : List ℕ) → text ≡ digits ++ behind → IsNumber digits → number_of digits ≡ Some n → BeginsWith false (number n) text behind
number_part n text digits behind whole is reads = record { own = digits; part = (is, reads); whole = whole }

pub two_parts : (d e : Data) (text rest behind : List ℕ) → BeginsWith false d text rest → BeginsWith true e rest behind → behind ≡ codes "]}" → AreParts false (item d (item e no_items)) text
two_parts d e text rest behind first second closed = (rest, first, (behind, second, closed))

pub three_parts : (d e f : Data) (text rest more behind : List ℕ) → BeginsWith false d text rest → BeginsWith true e rest more → BeginsWith true f more behind → behind ≡ codes "]}"
    → AreParts false (item d (item e (item f no_items))) text
three_parts d e f text rest more behind first second third closed = (rest, first, (more, second, (behind, third, closed)))
