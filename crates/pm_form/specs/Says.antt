-- What a function found, against what a tree says; and what it wrote, against the tree.
use Rattle.std.specs.Prelude.{◌≡◌, ◌++◌, Result, Ok, Err, OnOk}
use Rattle.json.specs.Written.{Written}
use Rattle.json.specs.Tree.{json_tokens}
use Rattle.serde_json.specs.Data.{Data}
use Rattle.serde_json.specs.Written.{outline}
use Rattle.pm_form.specs.Form.{Read}
use Rattle.pm_form.specs.declared.refusal.ReadError.{ReadError}
use Rattle.pm_form.specs.declared.refusal.ReadError.TheVariants.{Refused, Memory}

-- The result is what is said, unless there was too little memory.
abbrev pub Says : {T A : Type 0} → Result T ReadError → (T → A) → Read A → Type 0
Says (Ok t) f says = says ≡ Ok (f t)
Says (Err (Refused e)) f says = says ≡ Err e
Says (Err Memory) f says = Unit {0}

-- The tree is written after the tokens before, and the bytes before them stay.
pub record Appends {E : Type 0} (result : Result (Unit {0}) E) (old new : Written) (d : Data) : Type 0 where
  pub ok : OnOk result (new.tokens ≡ old.tokens ++ json_tokens (outline d))
  pub before : new.before ≡ old.before
