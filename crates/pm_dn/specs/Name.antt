-- Distinguished names of managed objects, and their texts (TS 32.300; alphabet and limits are this project's own).
use Rattle.std.specs.Prelude.{◌≡◌, ◌≤◌, ◌==◌, ℕ, Bool, List, ◌∷◌, ◌++◌, length, map, All}
use Rattle.std.specs.List.{join_with_byte, before_first, after_first}
use Rattle.pm_base.specs.Names.{IsDnClass, IsDnId}
use Rattle.pm_base.specs.Pieces.{pieces_of}
use Rattle.pm_dn.specs.declared.refusal.TheConstants.{NAME_BYTES, NAME_PARTS}

-- One part of a name: a class, and the id of the object below its superior.
pub record Part : Type 0 where
  pub class : List ℕ
  pub id : List ℕ

-- The text of a part: `class=id`.
abbrev pub part_text : Part → List ℕ
part_text part = part.class ++ 61 ∷ part.id

-- The text of a name: those of its parts, the outermost first, joined by commas.
abbrev pub name_text : List Part → List ℕ
name_text name = join_with_byte 44 (map part_text name)

-- Class and id keep within their alphabets and lengths.
pub record IsPart (part : Part) : Type 0 where
  pub class_is : IsDnClass part.class
  pub id_is : IsDnId part.id

-- The bytes are the text of the name, and both keep within the grammar.
pub record IsNameOf (bytes : List ℕ) (name : List Part) : Type 0 where
  pub text : name_text name ≡ bytes
  pub parts : All IsPart name
  pub least : 1 ≤ length name
  pub most : length name ≤ NAME_PARTS
  pub short : length bytes ≤ NAME_BYTES

-- The byte between class and id.
abbrev pub is_equals : ℕ → Bool
is_equals b = b == 61

-- What stands before and behind the first `=` of a piece.
abbrev pub part_of : List ℕ → Part
part_of piece = record { class = before_first is_equals piece; id = after_first is_equals piece }

-- The only name that a text can have: its commas part its parts.
abbrev pub name_of : List ℕ → List Part
name_of bytes = map part_of (pieces_of 44 bytes)
