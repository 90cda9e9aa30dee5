use Rattle.std.proofs.Common.{◌≡◌, ℕ, Bool, true, false, List, [], Some, get_or, sym, rules}
use denote.Enum.Bare.{same_true, same_false, sameb}
use Rattle.pm_base.specs.contracts.class.Class.{the_type}
use Rattle.pm_base.specs.declared.Class.{Class}
use Rattle.pm_dn.specs.Containment.{has_path_to, class_of}
use Rattle.pm_dn.proofs.ClassLemmas.{has_path_to-same, has_path_to-other}
use Rattle.pm_inventory.proofs.inventory.has_class.Goals as goal

by : (b : Bool) (text : List ℕ) (own class : Class) → class_of text ≡ Some own → b ≡ sameb the_type own class → b ≡ has_path_to class text
by true text own class is same = sym (has_path_to-same text own class is (same_true the_type (search rules) own class (sym same)))
by false text own class is same = sym (has_path_to-other text own class is (same_false the_type own class (sym same)))

pub returns : goal.returns
returns c = by c.eq.result (get_or c.args.tree.now c.args.object []) c.class.result c.args.class c.class.ensures c.eq.ensures
