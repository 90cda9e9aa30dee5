-- An item, as the definitions see it.
use Rattle.pm_history.specs.History.{history_of}
use Rattle.pm_items.specs.Items as model
use Rattle.pm_items.specs.Items.{open_cells}
use Rattle.pm_slow.specs.declared.keeping.Item.{Item}
use Rattle.pm_slow.specs.declared.keeping.Item.TheVariants.{Opened, Booked, Changed}

abbrev pub item_seen : Item → model.Item
item_seen (Opened moment) = model.Opened moment
item_seen (Booked moment tick before) = model.Booked moment tick (open_cells (history_of before.now))
item_seen (Changed entry) = model.Changed entry.now
