use Rattle.std.proofs.Common.{ℕ, ◌^◌, ◌<◌, subst}
use Rattle.std.proofs.lemmas.List.{get_or_default}
use Rattle.seen_patches.proofs.words.tell_words.Goals as goal

pub returns : goal.returns
returns c = λ k d inside. subst (λ (word : ℕ). word < 2 ^ 64) (get_or_default c.args.words.now k 0 d inside) (c.type_inv.words k).fits
