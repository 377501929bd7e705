-- The line of a look-up by one path in its shortest form, as tokens and as what it reads as.
use Rattle.std.proofs.Common.{◌≡◌, ◌≢◌, ◌∙◌, ℕ, suc, ◌<◌, ◌≤◌, List, [], ◌∷◌, ◌++◌, Bor, Option, Some, codes, get_or, length, refl, sym, ap, subst, arith, append_assoc, append-nil}
use Rattle.std.proofs.lemmas.Str.Pattern.{IsSplitOnceResult, split_parts}
use Rattle.json.specs.Token.{Token, begin_array, begin_object, end_array, end_object, key, number as number_token, string as string_token}
use Rattle.json.specs.Json.{items, value}
use Rattle.json.specs.Lex.{tokens}
use Rattle.json.specs.Print.{ArePrintable, IsNumber, escape, escape_byte, print, print_from, quoted}
use Rattle.json.proofs.Printed.Strings.{escape_byte_plain}
use Rattle.json.proofs.Printed.Tokens.{tokens-print}
use Rattle.serde_json.specs.Data.{Data, Num, array, item, no_items, null, boolean, number, object, string}
use Rattle.serde_json.specs.Read.{converted, number_of, of_json, read}
use Rattle.record_stream.specs.FindLine.{find_data}
use Rattle.record_stream.specs.PlainFind.{IsPlainFind, IsScalar}
use Rattle.record_stream.proofs.Converted.{whole_read}
use Rattle.record_stream.proofs.Finding.{find_json}

-- ---- texts without escapes

escape_same : (s : List ℕ) → ((k : ℕ) → k < length s → get_or s k 0 ≢ 34) → ((k : ℕ) → k < length s → (get_or s k 0 ≢ 92) × (32 ≤ get_or s k 0)) → escape s ≡ s
escape_same [] quotes h = refl
escape_same (x ∷ s) quotes h =
    let first = h 0 (omega arith) in
    let rest = escape_same s (λ k l. quotes (suc k) (omega arith)) (λ k l. h (suc k) (omega arith)) in
    λ i. escape_byte_plain x (quotes 0 (omega arith)) first.0 first.1 i ++ rest i

-- a text behind its first quote, up to its last one
pub text_taken : (line bytes : List ℕ) (cut : Option (Bor (List ℕ) × Bor (List ℕ))) (text rest : Bor (List ℕ)) → IsSplitOnceResult 34 line cut → cut ≡ Some (text, rest) → bytes ≡ text.now
    → ((k : ℕ) → k < length bytes → (get_or bytes k 0 ≢ 92) × (32 ≤ get_or bytes k 0)) → 34 ∷ line ≡ quoted text.now ++ rest.now
text_taken line bytes cut text rest is found same plain =
    let parts = split_parts 34 line (Some (text, rest)) (subst (IsSplitOnceResult 34 line) found is) (omega arith) in
    let unescaped = escape_same text.now parts.1 (subst (λ b. (k : ℕ) → k < length b → (get_or b k 0 ≢ 92) × (32 ≤ get_or b k 0)) same plain) in
    ap (λ t. 34 ∷ t) (parts.0 ∙ ap (λ t. t ++ 34 ∷ rest.now) (sym unescaped) ∙ sym (append_assoc (escape text.now) (34 ∷ []) rest.now))

-- a part of a line that is such a text and nothing behind it
pub text_part : (part rest text behind : List ℕ) → part ≡ codes "\"" ++ rest → 34 ∷ rest ≡ quoted text ++ behind → behind ≡ [] → part ≡ quoted text
text_part part rest text behind opened taken none = opened ∙ taken ∙ ap (λ t. quoted text ++ t) none ∙ append-nil (quoted text)

-- ---- the line, cut

pub line_cut : (line one name_rest two path_rest three : List ℕ) (name path : List ℕ) (cut : Option (Bor (List ℕ) × Bor (List ℕ))) (text rest : Bor (List ℕ)) →
    line ≡ codes "{\"find\":[\"" ++ one → 34 ∷ one ≡ quoted name ++ name_rest → name_rest ≡ codes ",[\"" ++ two → 34 ∷ two ≡ quoted path ++ path_rest → path_rest ≡ codes "],[" ++ three →
    IsSplitOnceResult 93 three cut → cut ≡ Some (text, rest) → rest.now ≡ codes "]}" → IsPlainFind name path text.now line
line_cut line one name_rest two path_rest three name path cut text rest opened named paths along values is found closed =
    let parts = split_parts 93 three (Some (text, rest)) (subst (IsSplitOnceResult 93 three) found is) (omega arith) in
    let last : three ≡ text.now ++ codes "]]}" = parts.0 ∙ ap (λ t. text.now ++ 93 ∷ t) closed in
    opened
    ∙ ap (λ t. codes "{\"find\":[" ++ t) (named
    ∙ ap (λ t. quoted name ++ t) (paths
    ∙ ap (λ t. codes ",[" ++ t) (along
    ∙ ap (λ t. quoted path ++ t) (values ∙ ap (λ t. codes "],[" ++ t) last))))

-- ---- what it reads as

-- the tokens from the paths on, where the value is this token
abbrev closing : List Token
closing = end_array ∷ end_object ∷ []

abbrev from_values : Token → List Token
from_values one = begin_array ∷ one ∷ end_array ∷ closing

abbrev from_paths : List ℕ → Token → List Token
from_paths path one = begin_array ∷ string_token path ∷ end_array ∷ from_values one

abbrev line_tokens : List ℕ → List ℕ → Token → List Token
line_tokens name path one = begin_object ∷ key (codes "find") ∷ begin_array ∷ string_token name ∷ from_paths path one

number_printed : (name path text : List ℕ) → print (line_tokens name path (number_token text)) ≡ codes "{\"find\":[" ++ (quoted name ++ (codes ",[" ++ (quoted path ++ (codes "],[" ++ (text ++ codes "]]}")))))
unfolding print_from escape_byte
number_printed name path text = refl

text_printed : (name path s : List ℕ) → print (line_tokens name path (string_token s)) ≡ codes "{\"find\":[" ++ (quoted name ++ (codes ",[" ++ (quoted path ++ (codes "],[" ++ (quoted s ++ codes "]]}")))))
unfolding print_from escape_byte
text_printed name path s = refl

number_printable : (name path text : List ℕ) → IsNumber text → ArePrintable (line_tokens name path (number_token text))
unfolding ArePrintable
number_printable name path text is = (tt, (tt, (tt, (tt, (tt, (tt, (tt, (tt, (is, (tt, (tt, (tt, tt))))))))))))

text_printable : (name path s : List ℕ) → ArePrintable (line_tokens name path (string_token s))
unfolding ArePrintable
text_printable name path s = (tt, (tt, (tt, (tt, (tt, (tt, (tt, (tt, (tt, (tt, (tt, (tt, tt))))))))))))

path_read : (path : List ℕ) (one : Token) → converted of_json (value 125 (from_paths path one)) ≡ Some (array (item (string path) no_items), from_values one)
unfolding value items
path_read path one = refl

number_read : (text : List ℕ) (n : Num) → number_of text ≡ Some n → converted of_json (value 125 (from_values (number_token text))) ≡ Some (array (item (number n) no_items), closing)
unfolding value items
number_read text n e = rw e

text_read : (s : List ℕ) → converted of_json (value 125 (from_values (string_token s))) ≡ Some (array (item (string s) no_items), closing)
unfolding value items
text_read s = refl

-- what the tokens of a line read as
tokens_read : (line name path : List ℕ) (one : Token) (d : Data) → tokens line ≡ line_tokens name path one → converted of_json (value 125 (from_values one)) ≡ Some (array (item d no_items), closing)
    → read line ≡ Some (find_data name (array (item (string path) no_items)) (array (item d no_items)))
tokens_read line name path one d are is =
    let paths = array (item (string path) no_items) in
    let values = array (item d no_items) in
    whole_read (value 127 (tokens line)) (find_data name paths values) (find_json (tokens line) (from_paths path one) (from_values one) closing name paths values are (path_read path one) is refl)

line_read : (line name path text : List ℕ) (d : Data) → IsPlainFind name path text line → IsScalar d text → read line ≡ Some (find_data name (array (item (string path) no_items)) (array (item d no_items)))
line_read line name path text (number n) is scalar =
    let one = number_token text in
    let are : tokens line ≡ line_tokens name path one = ap tokens (is ∙ sym (number_printed name path text)) ∙ tokens-print (line_tokens name path one) (number_printable name path text scalar.0) in
    tokens_read line name path one (number n) are (number_read text n scalar.1)
line_read line name path text (string s) is scalar =
    let one = string_token s in
    let quoted_is = subst (λ t. IsPlainFind name path t line) scalar is in
    let are : tokens line ≡ line_tokens name path one = ap tokens (quoted_is ∙ sym (text_printed name path s)) ∙ tokens-print (line_tokens name path one) (text_printable name path s) in
    tokens_read line name path one (string s) are (text_read s)
line_read line name path text null is scalar = absurd scalar
line_read line name path text (boolean b) is scalar = absurd scalar
line_read line name path text (array ds) is scalar = absurd scalar
line_read line name path text (object ms) is scalar = absurd scalar

-- the same of the parts that are made
pub plain_read : (line name path text own : List ℕ) (d paths values : Data) → IsPlainFind name path text line → IsScalar d text → own ≡ name → paths ≡ array (item (string path) no_items)
    → values ≡ array (item d no_items) → read line ≡ Some (find_data own paths values)
plain_read line name path text own d paths values is scalar same are values_are =
    line_read line name path text d is scalar ∙ (λ i. Some (find_data (sym same i) (sym are i) (sym values_are i)))
