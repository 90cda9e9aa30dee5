-- Which histories an item leads to.
use Rattle.std.specs.Prelude.{ℕ, ◌≡◌, List, [], Some}
use Rattle.pm_history.specs.declared.entry.Entry.{Entry}
use Rattle.pm_history.specs.History.{History, ◌▷◌, grown, MayFollow}
use Rattle.pm_items.specs.Items.{Item, item_of}
use Rattle.pm_items.specs.Unstored.{AreUnstored}

-- h is g, entries without an item, and one entry that has this item.
pub record ComesTo (g : History) (item : Item) (h : History) : Type 0 where
  pub between : List Entry
  pub unstored : AreUnstored g between
  pub e : Entry
  pub follows : MayFollow (grown g between) e
  pub item_is : item_of (grown g between) e ≡ Some item
  pub is : h ≡ grown g between ▷ e
