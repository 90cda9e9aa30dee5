-- What holds of every notice and every listing.
use Rattle.std.specs.Prelude.{ℕ, ◌≡◌, ◌↔◌, true, List}
use Rattle.pm_name.specs.FileName.{SaysFileName}
use Rattle.pm_form.specs.Form.{IsExact}
use Rattle.pm_notice.specs.NameTest.{is_file_name}
use Rattle.pm_notice.specs.NoticeForm.{file_ready_form, crossing_form, notice_form, listing_form}

-- A tree says a notice or a listing exactly where it is the tree of what it says, and that fits.
pub record AreExact : Type 0 where
  pub files : IsExact file_ready_form
  pub crossings : IsExact crossing_form
  pub notices : IsExact notice_form
  pub listings : IsExact listing_form

-- The texts that pass the test of file names are the file names.
abbrev pub TellsFileNames : Type 0
TellsFileNames = (s : List ℕ) → (is_file_name s ≡ true) ↔ SaysFileName s
