-- A value's tree at the front of tokens that are still to be read.
use Rattle.std.specs.Prelude.{◌≡◌, ◌++◌, true, List}
use Rattle.json.specs.Token.{Token}
use Rattle.json.specs.Tree.{json_tokens}
use Rattle.serde_json.specs.Data.{Data}
use Rattle.serde_json.specs.Written.{outline}
use Rattle.pm_form.specs.Form.{Form}

-- The tokens of this tree come first, its keys in their order, and the new ones are left after them.
abbrev pub IsFirst : Data → List Token → List Token → Type 0
IsFirst d old new = old ≡ json_tokens (outline d) ++ new

-- The value fits its form, and its tree comes first.
pub record Leads {A : Type 0} (form : Form A) (a : A) (old new : List Token) : Type 0 where
  pub first : IsFirst (form.tree a) old new
  pub fits : form.fits a ≡ true
