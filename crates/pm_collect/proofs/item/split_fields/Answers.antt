use Rattle.pm_collect.proofs.ItemLemmas.{behind_name}
use Rattle.pm_collect.proofs.item.split_fields.Goals as goal

pub returns-in_default-split_text : goal.returns-in_default-split_text
returns-in_default-split_text c = λ f item.
    c.in_default-split_text.ensures f.text item.fits.text
    (behind_name c.args.bytes.now c.in-Some.name.now c.in-Some.rest.now f c.in-Some.ensures.0 item.is)
