use Rattle.std.proofs.Common.{◌∙◌, ◌*◌, ℕ, List, ap, sym, subst, length, map, sum}
use Rattle.std.specs.Prelude.{All}
use Rattle.seen_patches.specs.declared.column.Column.{Column}
use Rattle.seen_patches.specs.Elements.{IsHeld}
use Rattle.seen_patches.specs.Seen.{seen_widths}
use Rattle.seen_patches.proofs.BitsKept.{written_below}
use Rattle.seen_patches.proofs.ColumnElements.{columns_held, columns_long, columns_widths}
use Rattle.seen_patches.proofs.words.seen_words.Goals as goal

pub put_columns-requires-clause-each : goal.put_columns-requires-clause-each
put_columns-requires-clause-each c =
    ap (λ (cs : List Column). length cs) (c.as_slice.ensures.value ∙ c.in_ok-columns.ensures) ∙ columns_long (sum c.args.widths.now) 0 c.args.widths.now ∙ c.requires.each

pub put_columns-requires-clause-held : goal.put_columns-requires-clause-held
put_columns-requires-clause-held c =
    subst (λ (cs : List Column). All (IsHeld c.args.first.now c.args.places) cs) (sym (c.as_slice.ensures.value ∙ c.in_ok-columns.ensures))
    (columns_held c.args.first.now c.args.places c.args.widths.now c.requires.narrow c.requires.small c.in_ok-bits.ensures.1 c.requires.enough)

pub put_columns-requires-clause-widths : goal.put_columns-requires-clause-widths
put_columns-requires-clause-widths c =
    c.requires.widths
    ∙ ap (λ (ws : List ℕ). seen_widths c.args.mine.now c.args.theirs.now ws)
    (sym (ap (λ (cs : List Column). map (λ (column : Column). column.width) cs) (c.as_slice.ensures.value ∙ c.in_ok-columns.ensures) ∙ columns_widths (sum c.args.widths.now) 0 c.args.widths.now))

pub returns-clause-bits : goal.returns-clause-bits
returns-clause-bits c =
    written_below c.in_ok-words.words.items c.as_mut_slice.result.now c.put_columns.new.to _ c.from_vec.result _ (c.args.places * sum c.args.seen.now) c.in_ok-words.ensures.none c.as_mut_slice.ensures.value
    c.from_vec.ensures (sym (c.put_columns.ensures.long ∙ c.as_mut_slice.ensures.len)) c.put_columns.ensures.bits
