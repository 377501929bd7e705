use Rattle.std.proofs.Common.{◌*◌, ◌∙◌, List, ℕ, subst, sym}
use Rattle.kept_sections.specs.Moved.{AreCopied}
use Rattle.kept_sections.proofs.MovedRows.{are_copied, written_over}
use Rattle.kept_sections.proofs.moved.copied_words.Goals as goal

pub returns : goal.returns
returns c =
    let widths = c.args.widths.now in
    let to = c.copy_records.new.to in
    let long = c.copy_records.auto.to ∙ c.as_mut_slice.ensures.len in
    subst (λ (words : List ℕ). AreCopied widths c.args.from.now c.args.before c.args.places words) (sym (written_over to _ _ (sym long)))
    (are_copied widths c.args.from.now c.as_mut_slice.result.now to c.args.before c.args.places (c.from.result * c.total_width.result) (λ i. c.from.ensures i * c.total_width.ensures.total i) (c.as_mut_slice.ensures.value ∙ c.in_ok-first.ensures.words) c.copy_records.auto.to
    c.copy_records.ensures.copied c.copy_records.ensures.clear c.copy_records.ensures.behind)
