-- Forms of arrays.
use Rattle.std.specs.Prelude.{◌&&◌, Bool, true, List, [], ◌∷◌, Ok}
use Rattle.serde_json.specs.Data.{Data, array, Items, no_items, item}
use Rattle.serde_json.specs.Find.{as_array}
use Rattle.pm_form.specs.Form.{Read, then_read, Form}
use Rattle.pm_form.specs.Values.{of_type}

abbrev pub list_data : Items → List Data
list_data no_items = []
list_data (item d ds) = d ∷ list_data ds

-- The items of an array.
abbrev pub items_at : Data → Read (List Data)
items_at d = then_read (of_type (as_array d)) (λ ds. Ok (list_data ds))

-- Each item, from the first on.
abbrev pub each_reads : {A : Type 0} → (Data → Read A) → List Data → Read (List A)
each_reads reads [] = Ok []
each_reads reads (d ∷ ds) = then_read (reads d) (λ a. then_read (each_reads reads ds) (λ xs. Ok (a ∷ xs)))

abbrev pub items_tree : {A : Type 0} → (A → Data) → List A → Items
items_tree tree [] = no_items
items_tree tree (a ∷ xs) = item (tree a) (items_tree tree xs)

abbrev pub each_fits : {A : Type 0} → (A → Bool) → List A → Bool
each_fits fits [] = true
each_fits fits (a ∷ xs) = fits a && each_fits fits xs

-- An array whose items all have this form.
abbrev pub list_of : {A : Type 0} → Form A → Form (List A)
list_of form =
    record {
      reads = λ d. then_read (items_at d) (each_reads form.reads);
      tree = λ xs. array (items_tree form.tree xs);
      fits = each_fits form.fits;
    }
