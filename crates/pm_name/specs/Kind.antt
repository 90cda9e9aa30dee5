-- The types of a report file.
use Rattle.pm_name.specs.FileName as name
use Rattle.pm_name.specs.declared.kind.FileKind.{FileKind}
use Rattle.pm_name.specs.declared.kind.FileKind.TheVariants.{A, C}

-- The type that a value of the program stands for.
abbrev pub type_of : FileKind → name.FileType
type_of A = name.A
type_of C = name.C
