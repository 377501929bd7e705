-- One more answer behind those that were given, and what the sink has of them.
use Rattle.std.proofs.Common.{◌≡◌, List, ℕ, [], ◌∷◌, ◌++◌, ◌||◌, Bool, true, false, if◌then◌else◌, Option, Some, None, Ok, inl, inr, ◌⊎◌, length, take, refl, sym, ap, ◌∙◌, subst, append_assoc, append-nil, arith}
use Rattle.std.specs.List.{flat_map, list_any}
use Rattle.std.specs.Io.KnownBytes.{Appends}
use Rattle.std.proofs.KnownBytes.{Appends-nil, Appends-trans}
use Rattle.std.proofs.lemmas.Grind.{flat_map-append}
use Rattle.std.proofs.lemmas.List.Folds.{list_any-append}
use Rattle.hol_answers.specs.declared.reply.Reply.{Reply}
use Rattle.hol_answers.specs.Reply.{is_refusal, line_of}
use Rattle.hollow_script.specs.Scripted.{FailsWithin, HasReplied, PutsAnswer, RepliesNext, StopsReply, StopsWaiting, WritesReplies, widened}
use Rattle.hol_orders.specs.declared.order_stop.OrderStop.{OrderStop}
use Rattle.hol_orders.specs.declared.order_stop.OrderStop.TheVariants as order_stop
use Rattle.hollow_script.specs.declared.script_stop.ScriptStop.{ScriptStop}
use Rattle.hollow_script.specs.declared.script_stop.ScriptStop.TheVariants as stop

-- nothing was put
pub puts_none : (before : Option (List ℕ)) (waiting : List ℕ) → PutsAnswer [] before before waiting waiting
puts_none before waiting = inl (sym (append-nil waiting), Appends-nil before)

-- what waited was written
pub puts_all : (before after : Option (List ℕ)) (waiting waiting' : List ℕ) → waiting' ≡ [] → Appends before after waiting → PutsAnswer [] before after waiting waiting'
puts_all before after waiting waiting' none gained = inr (none, subst (Appends before after) (sym (append-nil waiting)) gained)

-- what waits, or was written, is a rest of all
put_split : (line : List ℕ) (before after : Option (List ℕ)) (waiting waiting' : List ℕ) → PutsAnswer line before after waiting waiting' →
    (gone : List ℕ) × (waiting ++ line ≡ gone ++ waiting') × Appends before after gone
put_split line before after waiting waiting' (inl (same, gained)) = ([], sym same, gained)
put_split line before after waiting waiting' (inr (none, gained)) = (waiting ++ line, sym (ap (λ t. (waiting ++ line) ++ t) none ∙ append-nil (waiting ++ line)), gained)

-- what waits is written twice, or once, or not
pub puts_then : (before mid after : Option (List ℕ)) (waiting between waiting' : List ℕ) → PutsAnswer [] before mid waiting between → PutsAnswer [] mid after between waiting' → PutsAnswer [] before after waiting waiting'
puts_then before mid after waiting between waiting' (inl (same, gained)) (inl (then_same, then_gained)) =
    inl (then_same ∙ append-nil between ∙ same, Appends-trans before mid after [] [] gained then_gained)
puts_then before mid after waiting between waiting' (inl (same, gained)) (inr (none, then_gained)) =
    inr (none, subst (Appends before after) (append-nil between ∙ same) (Appends-trans before mid after [] (between ++ []) gained then_gained))
puts_then before mid after waiting between waiting' (inr (none, gained)) (inl (then_same, then_gained)) =
    inr (then_same ∙ append-nil between ∙ none, subst (Appends before after) (append-nil (waiting ++ [])) (Appends-trans before mid after (waiting ++ []) [] gained then_gained))
puts_then before mid after waiting between waiting' (inr (none, gained)) (inr (then_none, then_gained)) =
    inr (
      then_none,
      subst (Appends before after) (ap (λ t. (waiting ++ []) ++ t) (append-nil between ∙ none) ∙ append-nil (waiting ++ [])) (Appends-trans before mid after (waiting ++ []) (between ++ []) gained then_gained),
    )

-- The sink fails behind what was written before, or not.
pub fails_then : (before mid after : Option (List ℕ)) (waiting between waiting' : List ℕ) → PutsAnswer [] before mid waiting between → (waiting' ≡ between) × FailsWithin waiting' mid after →
    (waiting' ≡ waiting) × FailsWithin waiting' before after
fails_then before mid after waiting between waiting' (inl (same, gained)) (still, (count, inside, more)) =
    (still ∙ same ∙ append-nil waiting, (count, inside, Appends-trans before mid after [] (take count waiting') gained more))
fails_then before mid after waiting between waiting' (inr (none, gained)) (still, (count, inside, more)) = absurd (omega (arith, inside, ap length (still ∙ none)))

-- What becomes of what waits in two calls, the second of which stops.
pub writes_then : (before mid after : Option (List ℕ)) (waiting between waiting' : List ℕ) (why : ScriptStop) → PutsAnswer [] before mid waiting between →
    StopsWaiting mid after between waiting' why → StopsWaiting before after waiting waiting' why
writes_then before mid after waiting between waiting' stop.Sink first second = fails_then before mid after waiting between waiting' first second
writes_then before mid after waiting between waiting' _ first second = puts_then before mid after waiting between waiting' first second

-- What waits, or was written, before an order that stops.
pub order_writes : (before after : Option (List ℕ)) (waiting waiting' : List ℕ) (why : OrderStop) → PutsAnswer [] before after waiting waiting' → StopsWaiting before after waiting waiting' (widened why)
order_writes before after waiting waiting' order_stop.Memory puts = puts
order_writes before after waiting waiting' order_stop.Store puts = puts

-- The sink fails within what waits.
pub sink_writes : (before after : Option (List ℕ)) (waiting waiting' : List ℕ) (why : ScriptStop) → why ≡ stop.Sink → waiting' ≡ waiting → FailsWithin waiting before after →
    StopsWaiting before after waiting waiting' why
sink_writes before after waiting waiting' why is same fails =
    subst (λ (w : ScriptStop). StopsWaiting before after waiting waiting' w) (sym is) (same, subst (λ (w : List ℕ). FailsWithin w before after) (sym same) fails)

-- What waited was written before the reader of lines stops.
pub reader_writes : (before after : Option (List ℕ)) (waiting waiting' : List ℕ) (why : ScriptStop) → (why ≡ stop.Source) ⊎ (why ≡ stop.Memory) → PutsAnswer [] before after waiting waiting' →
    StopsWaiting before after waiting waiting' why
reader_writes before after waiting waiting' why (inl is) puts = subst (λ (w : ScriptStop). StopsWaiting before after waiting waiting' w) (sym is) puts
reader_writes before after waiting waiting' why (inr is) puts = subst (λ (w : ScriptStop). StopsWaiting before after waiting waiting' w) (sym is) puts

-- ---- an answer behind those that wait

pub reply_refused : (line : List ℕ) (before : Option (List ℕ)) (waiting waiting' : List ℕ) (why : ScriptStop) → why ≡ stop.Memory → waiting' ≡ waiting →
    StopsReply line before before waiting waiting' why
reply_refused line before waiting waiting' why is same = subst (λ (w : ScriptStop). StopsReply line before before waiting waiting' w) (sym is) (same, Appends-nil before)

pub reply_waits : (line : List ℕ) (before : Option (List ℕ)) (waiting waiting' : List ℕ) → waiting' ≡ waiting ++ line → PutsAnswer line before before waiting waiting'
reply_waits line before waiting waiting' is = inl (is, Appends-nil before)

pub reply_fails : (line : List ℕ) (before after : Option (List ℕ)) (waiting between waiting' : List ℕ) (why : ScriptStop) → why ≡ stop.Sink → between ≡ waiting ++ line → waiting' ≡ between →
    FailsWithin between before after → StopsReply line before after waiting waiting' why
reply_fails line before after waiting between waiting' why is put same fails =
    subst (λ (w : ScriptStop). StopsReply line before after waiting waiting' w) (sym is) (same ∙ put, subst (λ (w : List ℕ). FailsWithin w before after) (sym same) fails)

pub reply_put : (line : List ℕ) (before after : Option (List ℕ)) (waiting between waiting' : List ℕ) → between ≡ waiting ++ line → PutsAnswer [] before after between waiting' → PutsAnswer line before after waiting waiting'
reply_put line before after waiting between waiting' put (inl (same, gained)) = inl (same ∙ append-nil between ∙ put, gained)
reply_put line before after waiting between waiting' put (inr (none, gained)) = inr (none, subst (Appends before after) (append-nil between ∙ put) gained)

-- the sink fails within a slice of what waits
pub slice_fails : (waiting slice : List ℕ) (before after : Option (List ℕ)) → slice ≡ waiting → FailsWithin slice before after → FailsWithin waiting before after
slice_fails waiting slice before after is fails = subst (λ (w : List ℕ). FailsWithin w before after) is fails

-- ---- the answers that were given

-- no answer was given
pub none_replied : (before : Option (List ℕ)) (waiting : List ℕ) → waiting ≡ [] → HasReplied before before waiting false
none_replied before waiting none = record { replies = []; gone = []; split = sym none; gained = Appends-nil before; flag = refl }

or_else : (a b : Bool) → (a || (b || false)) ≡ (if a then true else b)
or_else true b = refl
or_else false true = refl
or_else false false = refl

module _ (before mid after : Option (List ℕ)) (waiting waiting' : List ℕ) (refused : Bool) where
  -- one more answer is given
  pub replied_next : (reply : Reply) (also : Bool) → also ≡ is_refusal reply → HasReplied before mid waiting refused → PutsAnswer (line_of reply) mid after waiting waiting' →
      HasReplied before after waiting' (if refused then true else also)
  replied_next reply also flag is puts =
      let (gone, split, gained) = put_split (line_of reply) mid after waiting waiting' puts in record {
        replies = is.replies ++ reply ∷ [];
        gone = is.gone ++ gone;
        split =
            flat_map-append line_of is.replies (reply ∷ []) ∙ ap (λ t. flat_map line_of is.replies ++ t) (append-nil (line_of reply)) ∙ ap (λ t. t ++ line_of reply) is.split
            ∙ append_assoc is.gone waiting (line_of reply) ∙ ap (λ t. is.gone ++ t) split ∙ sym (append_assoc is.gone gone waiting');
        gained = Appends-trans before mid after is.gone gone is.gained gained;
        flag =
            (λ i. if is.flag i then true else flag i) ∙ sym (or_else (list_any is_refusal is.replies) (is_refusal reply))
            ∙ sym (list_any-append is_refusal is.replies (reply ∷ []));
      }

  -- none is
  pub replied_on : HasReplied before mid waiting refused → PutsAnswer [] mid after waiting waiting' → HasReplied before after waiting' refused
  replied_on is puts =
      let (gone, split, gained) = put_split [] mid after waiting waiting' puts in record {
        replies = is.replies;
        gone = is.gone ++ gone;
        split = is.split ∙ ap (λ t. is.gone ++ t) (sym (append-nil waiting) ∙ split) ∙ sym (append_assoc is.gone gone waiting');
        gained = Appends-trans before mid after is.gone gone is.gained gained;
        flag = is.flag;
      }

  -- and the last ones are written
  pub all_replied : HasReplied before mid waiting refused → Appends mid after waiting → WritesReplies before after refused
  all_replied is gained = (is.replies, subst (Appends before after) (sym is.split) (Appends-trans before mid after is.gone waiting is.gained gained), is.flag)

-- what the next line leaves, where there is one
pub next_replied : (before after : Option (List ℕ)) (waiting : List ℕ) (refused also next : Bool) (found : Option Bool) → found ≡ Some also → next ≡ (if refused then true else also) →
    RepliesNext before after waiting refused (Ok found) → HasReplied before after waiting next
next_replied before after waiting refused also next found is flag replies =
    subst (λ b. HasReplied before after waiting b) (sym flag) (subst (λ f. RepliesNext before after waiting refused (Ok f)) is replies)

pub end_replied : (before after : Option (List ℕ)) (waiting : List ℕ) (refused : Bool) (found : Option Bool) → found ≡ None → RepliesNext before after waiting refused (Ok found) → HasReplied before after waiting refused
end_replied before after waiting refused found is replies = subst (λ f. RepliesNext before after waiting refused (Ok f)) is replies
