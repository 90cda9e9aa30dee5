-- What a disk over files tells: its count of faults alone.
use Rattle.std.specs.Prelude.{ℕ}
use Rattle.pm_disk.specs.declared.files.FileDisk.{FileDisk}

-- How often it has failed.
abbrev pub file_faults : FileDisk → ℕ
file_faults disk = disk.faults
