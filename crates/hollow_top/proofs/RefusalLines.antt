-- Of the lines of answers one is a refusal's exactly where one of the answers is a refusal.
use Rattle.std.proofs.Common.{◌≡◌, ◌≢◌, ◌↔◌, ℕ, List, [], ◌∷◌, ◌++◌, ◌||◌, length, All, Bool, true, false, Option, Some, None, OnSome, refl, ap, sym, ◌∙◌, subst, arith, append_assoc, length-append}
use Rattle.std.specs.List.{flat_map, list_any}
use Rattle.std.proofs.lemmas.List.{append_cancel_left}
use Rattle.std.proofs.lemmas.List.Elements.{All-cons, All-head, All-nil, All-tail}
use Rattle.serde_json.specs.Written.{compact_text}
use Rattle.hol_io.specs.Lines.{IsOnePiece, pieces}
use Rattle.hol_io.proofs.Cutting.{pieces_first}
use Rattle.hol_answers.specs.declared.refusal.Refusal.{Refusal}
use Rattle.hol_answers.specs.Refusal.{refusal_data, refusal_line}
use Rattle.hol_answers.specs.declared.reply.Reply.{Reply}
use Rattle.hol_answers.specs.declared.reply.Reply.TheVariants.{Refused}
use Rattle.hol_answers.specs.Reply.{is_refusal, line_of, reply_data}
use Rattle.hollow_script.specs.Scripted.{WritesReplies}
use Rattle.hollow_top.specs.Run.{status_of}
use Rattle.hollow_top.specs.Stopping.{GainsRefusalLine, HasLine}
use Rattle.hollow_top.proofs.JsonLines.{json_piece}

-- no other answer has the line of a refusal
abbrev pub AreApart : Type 0
AreApart = (refusal : Refusal) (reply : Reply) → is_refusal reply ≡ false → line_of reply ≢ refusal_line refusal

line_split : (piece rest : List ℕ) → (piece ++ 10 ∷ []) ++ rest ≡ piece ++ 10 ∷ rest
line_split piece rest = append_assoc piece (10 ∷ []) rest

first_of : (p q : List ℕ) (ps qs : List (List ℕ)) → p ∷ ps ≡ q ∷ qs → p ≡ q
first_of p q ps qs is = cc

-- texts that begin with a line begin with the same one, and go on in the same way
same_first : (p q rest others : List ℕ) → IsOnePiece p → IsOnePiece q → (p ++ 10 ∷ []) ++ rest ≡ (q ++ 10 ∷ []) ++ others → (p ≡ q) × (rest ≡ others)
same_first p q rest others one other is =
    let same : p ++ 10 ∷ rest ≡ q ++ 10 ∷ others = sym (line_split p rest) ∙ is ∙ line_split q others in
    let first : p ≡ q = first_of p q (pieces rest) (pieces others) (sym (pieces_first p rest one) ∙ ap pieces same ∙ pieces_first q others other) in
    (first, append_cancel_left (q ++ 10 ∷ []) rest others (subst (λ (t : List ℕ). (t ++ 10 ∷ []) ++ rest ≡ (q ++ 10 ∷ []) ++ others) first is))

some_byte : (p rest : List ℕ) → [] ≡ (p ++ 10 ∷ []) ++ rest → ⊥
some_byte p rest is = omega (arith, ap length is, length-append (p ++ 10 ∷ []) rest, length-append p (10 ∷ []))

or_true : (b : Bool) → (b || true) ≡ true
or_true true = refl
or_true false = refl

-- a refusal's line is that of one
refused_line : (reply : Reply) → is_refusal reply ≡ true → (refusal : Refusal) × (line_of reply ≡ refusal_line refusal)
refused_line (Refused refusal) is = (refusal, refl)
refused_line _ is = absurd cc

-- where one is a refusal, its line is there
one_there : (replies : List Reply) → list_any is_refusal replies ≡ true → (refusal : Refusal) × HasLine (flat_map line_of replies) (refusal_line refusal)
one_there [] is = absurd cc
one_there (reply ∷ replies) is = by_flag (is_refusal reply) refl (λ others. one_there replies others)
  where
    by_flag : (flag : Bool) → is_refusal reply ≡ flag → (list_any is_refusal replies ≡ true → (refusal : Refusal) × HasLine (flat_map line_of replies) (refusal_line refusal)) →
        (refusal : Refusal) × HasLine (flat_map line_of (reply ∷ replies)) (refusal_line refusal)
    by_flag true refused others =
        let (refusal, same) = refused_line reply refused in
        (refusal, ([], flat_map line_of replies, All-nil IsOnePiece, ap (λ t. t ++ flat_map line_of replies) same))
    by_flag false not others =
        let (refusal, (before, rest, pieces_are, there)) = others (sym (ap (λ b. b || list_any is_refusal replies) not) ∙ is) in (
          refusal,
          (
            compact_text (reply_data reply) ∷ before,
            rest,
            All-cons IsOnePiece (compact_text (reply_data reply)) before (json_piece (reply_data reply)) pieces_are,
            ap (λ t. line_of reply ++ t) there ∙ sym (append_assoc (line_of reply) (flat_map (λ piece. piece ++ 10 ∷ []) before) (refusal_line refusal ++ rest)),
          ),
        )

-- where its line is there, one is a refusal
there_one : AreApart → (refusal : Refusal) (replies : List Reply) (before : List (List ℕ)) (rest : List ℕ) → All IsOnePiece before →
    flat_map line_of replies ≡ flat_map (λ piece. piece ++ 10 ∷ []) before ++ (refusal_line refusal ++ rest) → list_any is_refusal replies ≡ true
there_one apart refusal [] [] rest are is = absurd (some_byte (compact_text (refusal_data refusal)) rest is)
there_one apart refusal [] (p ∷ ps) rest are is =
    absurd (some_byte p (flat_map (λ piece. piece ++ 10 ∷ []) ps ++ (refusal_line refusal ++ rest)) (is ∙ append_assoc (p ++ 10 ∷ []) (flat_map (λ piece. piece ++ 10 ∷ []) ps) (refusal_line refusal ++ rest)))
there_one apart refusal (reply ∷ replies) [] rest are is = by_flag (is_refusal reply) refl
  where
    by_flag : (flag : Bool) → is_refusal reply ≡ flag → list_any is_refusal (reply ∷ replies) ≡ true
    by_flag true refused = ap (λ b. b || list_any is_refusal replies) refused
    by_flag false not =
        let same = same_first (compact_text (reply_data reply)) (compact_text (refusal_data refusal)) (flat_map line_of replies) rest (json_piece (reply_data reply)) (json_piece (refusal_data refusal)) is in
        absurd (apart refusal reply not (ap (λ t. t ++ 10 ∷ []) same.0))
there_one apart refusal (reply ∷ replies) (p ∷ ps) rest are is =
    let same = same_first (compact_text (reply_data reply)) p (flat_map line_of replies) (flat_map (λ piece. piece ++ 10 ∷ []) ps ++ (refusal_line refusal ++ rest))
    (json_piece (reply_data reply)) (All-head IsOnePiece p ps are) (is ∙ append_assoc (p ++ 10 ∷ []) (flat_map (λ piece. piece ++ 10 ∷ []) ps) (refusal_line refusal ++ rest)) in
    ap (λ b. is_refusal reply || b) (there_one apart refusal replies ps rest (All-tail IsOnePiece p ps are) same.1) ∙ or_true (is_refusal reply)

-- the status of a script is 1 exactly where the line of a refusal was gained
pub script_status_tells : AreApart → (before after : Option (List ℕ)) (refused : Bool) (status : ℕ) → status ≡ status_of refused → WritesReplies before after refused →
    OnSome before ((status ≡ 1) ↔ GainsRefusalLine before after)
script_status_tells apart None after refused status is writes = tt
script_status_tells apart (Some xs) None refused status is writes = absurd writes.1
script_status_tells apart (Some xs) (Some ys) true status is (replies, gained, flag) =
    let (refusal, there) = one_there replies (sym flag) in ((λ one. (refusal, flat_map line_of replies, gained, there)), (λ gains. is))
script_status_tells apart (Some xs) (Some ys) false status is (replies, gained, flag) = (
  (λ one. absurd (omega (arith, one, is))),
  (λ (refusal, text, gains, (before, rest, are, there)).
      (let same : flat_map line_of replies ≡ text = append_cancel_left xs (flat_map line_of replies) text (sym gained ∙ gains) in
      absurd (let both = flag ∙ there_one apart refusal replies before rest are (same ∙ there) in cc))),
)
