-- Forms of objects: a row for each key, in byte order of the keys.
use Rattle.std.specs.Prelude.{◌≡◌, ℕ, ◌&&◌, Bool, true, List, [], ◌∷◌, if◌then◌else◌, Ok, Err, bytes_eq}
use Rattle.std.specs.Cmp.Lexicographic.{pointwise}
use Rattle.serde_json.specs.Data.{Data, object, Members, no_members, member}
use Rattle.serde_json.specs.Find.{as_object}
use Rattle.pm_form.specs.declared.refusal.Refusal.TheVariants.{WrongKeys}
use Rattle.pm_form.specs.Form.{Read, then_read, Form}
use Rattle.pm_form.specs.Values.{of_type}

abbrev pub keys_of : Members → List (List ℕ)
keys_of no_members = []
keys_of (member k d ms) = k ∷ keys_of ms

abbrev pub values_of : Members → List Data
values_of no_members = []
values_of (member k d ms) = d ∷ values_of ms

-- The values of these members, where they have exactly these keys.
abbrev pub values_under : List (List ℕ) → Members → Read (List Data)
values_under keys ms = if pointwise bytes_eq (keys_of ms) keys then Ok (values_of ms) else Err WrongKeys

-- The values of an object with exactly these keys.
abbrev pub values_at : List (List ℕ) → Data → Read (List Data)
values_at keys d = then_read (of_type (as_object d)) (values_under keys)

-- The keys, and what stands under them.
pub record Fields (A : Type 0) : Type 0 where
  pub keys : List (List ℕ)
  pub reads : List Data → Read A
  pub members : A → Members
  pub fits : A → Bool

abbrev pub last_reads : {A : Type 0} → (Data → Read A) → List Data → Read A
last_reads reads [] = Err WrongKeys
last_reads reads (d ∷ ds) = reads d

-- The last row.
abbrev pub last : {A : Type 0} → List ℕ → Form A → Fields A
last key form =
    record {
      keys = key ∷ [];
      reads = last_reads form.reads;
      members = λ a. member key (form.tree a) no_members;
      fits = form.fits;
    }

abbrev pub field_reads : {A B : Type 0} → (Data → Read A) → (List Data → Read B) → List Data → Read (A × B)
field_reads reads more [] = Err WrongKeys
field_reads reads more (d ∷ ds) = then_read (reads d) (λ a. then_read (more ds) (λ b. Ok (a, b)))

-- A row before others.
abbrev pub field : {A B : Type 0} → List ℕ → Form A → Fields B → Fields (A × B)
field key form more =
    record {
      keys = key ∷ more.keys;
      reads = field_reads form.reads more.reads;
      members = λ p. member key (form.tree p.0) (more.members p.1);
      fits = λ p. form.fits p.0 && more.fits p.1;
    }

-- An object with exactly these keys.
abbrev pub object_of : {A : Type 0} → Fields A → Form A
object_of fields =
    record {
      reads = λ d. then_read (values_at fields.keys d) fields.reads;
      tree = λ a. object (fields.members a);
      fits = fields.fits;
    }

-- What `IsExact` says, of an object's members under the keys of the rows.
pub record AreExact {A : Type 0} (fields : Fields A) : Type 0 where
  pub keys : (a : A) → pointwise bytes_eq (keys_of (fields.members a)) fields.keys ≡ true
  pub back : (a : A) → fields.fits a ≡ true → fields.reads (values_of (fields.members a)) ≡ Ok a
  pub only : (ms : Members) (a : A) → pointwise bytes_eq (keys_of ms) fields.keys ≡ true
      → fields.reads (values_of ms) ≡ Ok a → (ms ≡ fields.members a) × (fields.fits a ≡ true)
