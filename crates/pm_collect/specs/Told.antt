-- The names that a notice or a listing tells.
use Rattle.std.specs.Prelude.{ℕ, List, [], ◌∷◌, map, drop, Option, Some, None, Ok, Err}
use Rattle.pm_form.specs.Form.{Read, text_says}
use Rattle.pm_notice.specs.NoticeForm.{Listed, Notified, of_file, of_crossing, notice_form, listing_form}

-- The name behind `/files/` in the place of a file.
abbrev pub name_at : Listed → List ℕ
name_at file = drop 7 file.location

abbrev pub names_in : Notified → List (List ℕ)
names_in (of_file told) = name_at told.file ∷ []
names_in (of_crossing crossing) = []

abbrev pub notice_names : Read Notified → Option (List (List ℕ))
notice_names (Ok notice) = Some (names_in notice)
notice_names (Err e) = None

abbrev pub listing_names : Read (List Listed) → Option (List (List ℕ))
listing_names (Ok files) = Some (map name_at files)
listing_names (Err e) = None

-- The names that the bytes of a notice tell, one or none; none at all where they are no notice.
abbrev pub told_by_notice : List ℕ → Option (List (List ℕ))
told_by_notice bytes = notice_names (text_says notice_form bytes)

-- The same of a listing.
abbrev pub told_by_listing : List ℕ → Option (List (List ℕ))
told_by_listing bytes = listing_names (text_says listing_form bytes)
