use Rattle.std.proofs.Common.{◌∙◌, sym}
use Rattle.pm_collect.proofs.ItemLemmas.{text_too_short, text_too_long, text_of_other_size}
use Rattle.pm_collect.proofs.item.split_text.Goals as goal

pub returns-then-bytes-lt4 : goal.returns-then-bytes-lt4
returns-then-bytes-lt4 c = λ text few is. text_too_short c.args.bytes.now text c.if-bytes-lt4.true is

pub returns-then-text-gt-MOST_TEXT : goal.returns-then-text-gt-MOST_TEXT
returns-then-text-gt-MOST_TEXT c = λ text few is.
    text_too_long c.args.bytes.now text _ c.split_at.ensures.back c.if-text-gt-MOST_TEXT.true few is

pub returns-else-eq : goal.returns-else-eq
returns-else-eq c = λ text few is.
    text_of_other_size c.args.bytes.now text _ _ _ c.split_at.ensures.front c.split_at.ensures.back (c.as_slice.ensures ∙ c.bytes_of_size.ensures)
    (sym c.if-eq.ensures) is
