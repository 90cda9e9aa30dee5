use Rattle.std.proofs.Common.{sym, ap, ◌∙◌}
use Rattle.std.proofs.lemmas.Option.{same_Some}
use Rattle.pm_store.specs.Reading.{item_at}
use Rattle.pm_store.proofs.KindLemmas.{item_back}
use Rattle.pm_store.proofs.law.one_item.Goals as goal

pub returns : goal.returns
returns c = λ a b fa fb e. same_Some a b (sym (item_back a fa) ∙ ap item_at e ∙ item_back b fb)
