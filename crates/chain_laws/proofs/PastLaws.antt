-- The laws of the order `past`.
use Rattle.std.proofs.Common.{◌≡◌, ◌<◌, ℕ, List, [], ◌∷◌, map, false, Option, refl, sym, ap, subst, ◌∙◌, arith}
use Rattle.std.specs.Prelude.{codes}
use Rattle.std.specs.List.{AllZip}
use Rattle.serde_json.specs.Data.{Data, array, string, object, no_members, member}
use Rattle.serde_json.specs.View.{view, items_of}
use Rattle.serde_json.specs.declared.value.Value.{Value}
use Rattle.schema_model.specs.declared.limit.Limit.TheVariants.{Nodes}
use Rattle.schema_model.specs.declared.schema.name.Name.{Name}
use Rattle.schema_model.specs.Limit.{number_of_limit}
use Rattle.hol_answers.specs.declared.refusal.Refusal.{Refusal}
use Rattle.hol_answers.specs.declared.refusal.Refusal.TheVariants.{TooLarge}
use Rattle.hol_answers.specs.declared.reply.Reply.{Reply}
use Rattle.hol_answers.specs.declared.reply.Reply.TheVariants as reply
use Rattle.hol_orders.specs.Parts.{pair, whole}
use Rattle.hol_answers.specs.Reply.{past_item}
use Rattle.read_engine.specs.Gone.{AreGone}
use Rattle.read_engine.specs.Position.{Position}
use Rattle.hollow_machine.specs.RowOrders.{PastReply, past_form, ShowsGone, ShowsPast, nodes_gone, record_at}
use Rattle.chain_laws.specs.Answers.{SaysOne}
use Rattle.chain_laws.proofs.PrintedOnce.{tree_once}
use Rattle.hol_orders.specs.declared.kind.Kind.{Kind}
use Rattle.chain_laws.proofs.Answering.{IsUnpublished, of_answers}
use Rattle.chain_laws.proofs.Lawful.{IsLawful, looks_lawful}
use Rattle.chain_laws.proofs.OneLook.{one_of, rising_one, says}

abbrev past_object : List Data → Data
past_object rows = object (member (codes "ok") (string (codes "past")) (member (codes "rows") (array (items_of rows)) no_members))

module _ (now : Position) (t : ℕ) where
  gone_one : (xs ys : List ℕ) → AreGone now t xs → AreGone now t ys → xs ≡ ys
  gone_one xs ys one other =
      rising_one xs ys one.rising other.rising (λ q. ((λ among. (other.are q).1 ((one.are q).0 among)), (λ among. (one.are q).1 ((other.are q).0 among))))

  items_one : (os : List ℕ) (es fs : List (ℕ × Value)) → AllZip (ShowsGone now t) os es → AllZip (ShowsGone now t) os fs → map past_item es ≡ map past_item fs
  items_one [] [] [] h g = refl
  items_one [] [] (f ∷ fs) h g = absurd g
  items_one [] (e ∷ es) fs h g = absurd h
  items_one (o ∷ os) [] fs h g = absurd h
  items_one (o ∷ os) (e ∷ es) [] h g = absurd g
  items_one (o ∷ os) (e ∷ es) (f ∷ fs) h g =
      let number = h.0.0 ∙ sym g.0.0 in
      let shown = tree_once now.schemas t (record_at now now.before t o) (view e.1) (view f.1) h.0.1 g.0.1 in
      let rest = items_one os es fs h.1 g.1 in
      λ i. pair (whole (number i)) (shown i) ∷ rest i

  past_refused : (refusal : Refusal) → ShowsPast now t (reply.Refused refusal) → (refusal ≡ TooLarge Nodes) × ((ordinals : List ℕ) × AreGone now t ordinals × (number_of_limit Nodes < nodes_gone now t ordinals))
  past_refused (TooLarge Nodes) is = (refl, is)
  past_refused _ is = absurd is

  past_not : (entries : List (ℕ × Value)) (refusal : Refusal) → ShowsPast now t (reply.Past entries) → ShowsPast now t (reply.Refused refusal) → ⊥
  past_not entries refusal (xs, gone, few, shown) refuses =
      let (is, (ys, also, many)) = past_refused refusal refuses in
      let same = ap (nodes_gone now t) (gone_one xs ys gone also) in omega (arith, few, many, same)

  one_past_at : (a b : Reply) → ShowsPast now t a → ShowsPast now t b → SaysOne a b
  one_past_at (reply.Past es) (reply.Past fs) (xs, gone, few, shown) (ys, also, few_too, shown_too) =
      (ap past_object (items_one xs es fs shown (subst (λ (os : List ℕ). AllZip (ShowsGone now t) os fs) (gone_one ys xs also gone) shown_too)), refl)
  one_past_at (reply.Past es) (reply.Refused refusal) one other = absurd (past_not es refusal one other)
  one_past_at (reply.Refused refusal) (reply.Past fs) one other = absurd (past_not fs refusal other one)
  one_past_at (reply.Refused r) (reply.Refused s) one other =
      says (reply.Refused r) (reply.Refused s) (ap (λ x. reply.Refused x) ((past_refused r one).0 ∙ sym (past_refused s other).0))
  one_past_at (reply.Past es) _ one other = absurd other
  one_past_at (reply.Refused r) _ one other = absurd other
  one_past_at _ b one other = absurd one

pub one_past : (consumer : Option Position) (name : Name) (a b : Reply) → PastReply consumer name a → PastReply consumer name b → SaysOne a b
one_past consumer name a b one other = one_of name ShowsPast one_past_at consumer a b one other

past_unpublished_at : (now : Position) (t : ℕ) (answer : Reply) → ShowsPast now t answer → IsUnpublished answer
past_unpublished_at now t (reply.Past entries) is = refl
past_unpublished_at now t (reply.Refused refusal) is = refl
past_unpublished_at now t _ is = absurd is

past_unpublished : (consumer : Option Position) (name : Name) (answer : Reply) → PastReply consumer name answer → IsUnpublished answer
past_unpublished consumer name answer is = of_answers IsUnpublished name ShowsPast refl refl past_unpublished_at consumer answer is

pub past_lawful : IsLawful Kind.Past past_form
past_lawful = looks_lawful Kind.Past (λ consumer name answer. PastReply consumer name answer) false
    (λ consumer name one other typed is also. one_past consumer name one other is also)
    (λ consumer name answer is. past_unpublished consumer name answer is)
    (λ can. absurd cc)
