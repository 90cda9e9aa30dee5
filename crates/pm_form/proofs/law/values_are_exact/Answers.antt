use Rattle.pm_form.proofs.FormLemmas.{text_exact, fixed_exact, flag_exact, whole_exact, whole_or_null_exact}
use Rattle.pm_form.proofs.law.values_are_exact.Goals as goal

pub returns : goal.returns
returns c =
    record { texts = text_exact; fixed_texts = fixed_exact; flags = flag_exact; numbers = whole_exact; nulls = whole_or_null_exact }
