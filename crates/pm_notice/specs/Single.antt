-- The form of an array of exactly one item.
use Rattle.std.specs.Prelude.{List, [], ◌∷◌, Err}
use Rattle.serde_json.specs.Data.{Data, array, no_items, item}
use Rattle.pm_form.specs.Form.{Read, then_read, Form}
use Rattle.pm_form.specs.Lists.{items_at}
use Rattle.pm_form.specs.declared.refusal.Refusal.TheVariants.{WrongType}

abbrev pub single_reads : {A : Type 0} → (Data → Read A) → List Data → Read A
single_reads reads (d ∷ []) = reads d
single_reads reads _ = Err WrongType

-- An array of one item of this form.
abbrev pub single : {A : Type 0} → Form A → Form A
single form =
    record {
      reads = λ d. then_read (items_at d) (single_reads form.reads);
      tree = λ a. array (item (form.tree a) no_items);
      fits = form.fits;
    }
