use Rattle.std.proofs.Common.{◌∙◌, sym, string_bytes}
use Rattle.std.proofs.lemmas.List.Folds.{list_all-map}
use Rattle.pm_dn.specs.Tree.{stands}
use Rattle.pm_jobs.proofs.making.objects_known.Goals as goal

pub returns : goal.returns
returns c = c.are_objects.ensures ∙ rw c.deref.ensures.value (sym (list_all-map (stands c.args.inventory.now.objects) string_bytes c.args.wanted.now.objects.items))
