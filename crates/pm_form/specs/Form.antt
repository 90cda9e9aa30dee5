-- Forms: how a value stands in a JSON tree, in both directions, with the first refusal of a tree in a walk from its start.
use Rattle.std.specs.Prelude.{◌≡◌, ℕ, ◌&&◌, Bool, true, List, if◌then◌else◌, Option, Some, None, Result, Ok, Err}
use Rattle.std.specs.Str.{is_utf8}
use Rattle.serde_json.specs.Data.{Data}
use Rattle.serde_json.specs.Read.{read}
use Rattle.pm_form.specs.declared.refusal.Refusal.{Refusal}
use Rattle.pm_form.specs.declared.refusal.Refusal.TheVariants.{NotJson}

-- The value that is read, or the first refusal.
abbrev pub Read : Type 0 → Type 0
Read A = Result A Refusal

-- One reading, and after it the next.
abbrev pub then_read : {A B : Type 0} → Read A → (A → Read B) → Read B
then_read (Ok a) f = f a
then_read (Err e) f = Err e

-- What a tree says, the tree of a value, and which values have a tree that says them.
pub record Form (A : Type 0) : Type 0 where
  pub reads : Data → Read A
  pub tree : A → Data
  pub fits : A → Bool

-- A form whose values pass a test, or else are refused so once all else is read.
abbrev pub tested : {A : Type 0} → Refusal → (A → Bool) → Form A → Form A
tested refusal test form =
    record {
      reads = λ d. then_read (form.reads d) (λ a. if test a then Ok a else Err refusal);
      tree = form.tree;
      fits = λ a. form.fits a && test a;
    }

-- The form under other names for its values: there and back.
abbrev pub mapped : {A B : Type 0} → (A → B) → (B → A) → Form A → Form B
mapped there back form =
    record {
      reads = λ d. then_read (form.reads d) (λ a. Ok (there a));
      tree = λ b. form.tree (back b);
      fits = λ b. form.fits (back b);
    }

abbrev pub tree_read : Option Data → Read Data
tree_read None = Err NotJson
tree_read (Some d) = Ok d

-- The tree of a JSON text, which is UTF-8. It nests at most 127 levels, and of a key that comes twice the last value stays.
abbrev pub json_of : List ℕ → Read Data
json_of bytes = if is_utf8 bytes then tree_read (read bytes) else Err NotJson

-- What bytes say. That they are no JSON text is the first refusal.
abbrev pub text_says : {A : Type 0} → Form A → List ℕ → Read A
text_says form bytes = then_read (json_of bytes) form.reads

-- A tree says a value exactly where it is the value's tree and the value fits.
pub record IsExact {A : Type 0} (form : Form A) : Type 0 where
  pub back : (a : A) → form.fits a ≡ true → form.reads (form.tree a) ≡ Ok a
  pub only : (d : Data) (a : A) → form.reads d ≡ Ok a → (d ≡ form.tree a) × (form.fits a ≡ true)
