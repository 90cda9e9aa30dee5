-- What is kept of a history, its beginnings, and the entry of its last item.
use Rattle.std.specs.Prelude.{◌≡◌, List, [], ◌∷◌, ◌++◌, Some}
use Rattle.pm_history.specs.declared.entry.Entry.{Entry}
use Rattle.pm_history.specs.History.{History, ◌▷◌, grown, IsHistory, MayFollow}
use Rattle.pm_items.specs.Items.{Item, item_of, items_of, kept}
use Rattle.pm_items.specs.Unstored.{AreUnstored, AddsUnstored}

-- What is kept of what is kept is all of it, and has all items.
abbrev pub KeptIsKept : Type 0
KeptIsKept = (h : History) → (kept (kept h) ≡ kept h) × (items_of (kept h) ≡ items_of h)

-- A history is what is kept of it, and entries without an item.
abbrev pub KeptBegins : Type 0
KeptBegins = (h : History) → IsHistory h → AddsUnstored (kept h) h

-- h begins with g.
pub record IsBeginning (g h : History) : Type 0 where
  pub more : List Entry
  pub is : h ≡ grown g more

-- Whatever comes next, what is kept only grows.
abbrev pub KeptGrows : Type 0
KeptGrows = (h : History) (e : Entry) → IsHistory h → IsBeginning (kept h) (kept (h ▷ e))

-- A beginning of h ends with an item, and has these items.
pub record KeepsPrefix (h : History) (items : List Item) : Type 0 where
  pub g : History
  pub begins : IsBeginning g h
  pub history : IsHistory g
  pub kept_is : kept g ≡ g
  pub items_is : items_of g ≡ items

-- Each prefix of the items is all items of a beginning of the history.
abbrev pub PrefixesKept : Type 0
PrefixesKept = (h : History) (first more : List Item) → IsHistory h → items_of h ≡ first ++ more → KeepsPrefix h first

-- Before the entry of the last item: a history that has the other items and ends with one, and entries without an item.
pub record HasLast (h : History) (others : List Item) (item : Item) : Type 0 where
  pub g : History
  pub history : IsHistory g
  pub kept_is : kept g ≡ g
  pub items_is : items_of g ≡ others
  pub between : List Entry
  pub unstored : AreUnstored g between
  pub e : Entry
  pub follows : MayFollow (grown g between) e
  pub item_is : item_of (grown g between) e ≡ Some item
  pub is : h ≡ grown g between ▷ e

abbrev pub LastItem : Type 0
LastItem =
    (h : History) (others : List Item) (item : Item) → IsHistory h → kept h ≡ h → items_of h ≡ others ++ item ∷ []
    → HasLast h others item
