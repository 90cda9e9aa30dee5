-- The file of the store, which may not be open yet.
use Rattle.std.specs.Prelude.{ℕ, Option, Some, None}
use Rattle.pm_disk.specs.declared.files.FileDisk.{FileDisk}
use Rattle.pm_disk.specs.Files.{file_faults}

-- How often it has failed.
abbrev pub faults_of : Option FileDisk → ℕ
faults_of None = 0
faults_of (Some disk) = file_faults disk
