-- The listing of the files that are kept (TS 28.532; the query is this project's own).
use Rattle.std.specs.Prelude.{ℕ, ◌+◌, ◌≡◌, ◌&&◌, Bool, true, List, map, length, nat_le, Option, Some, None}
use Rattle.std.specs.List.{filter}
use Rattle.serde_json.specs.Written.{compact_text}
use Rattle.pm_inventory.specs.Inventory.{InventoryState}
use Rattle.pm_history.specs.History.{History}
use Rattle.pm_ready.specs.declared.query.FileQuery.{FileQuery}
use Rattle.pm_notice.specs.NoticeForm.{Listed, listing_form}
use Rattle.pm_notice.specs.NoticeContent.{location_of}
use Rattle.pm_ready.specs.Files.{File}
use Rattle.pm_ready.specs.Kept.{FilesStand}

-- Whether files of the type that is asked for are there: all are of the type Performance.
abbrev pub is_of_type : Option Bool → Bool
is_of_type None = true
is_of_type (Some performance) = performance

-- Whether a moment is no earlier, or no later, than the one that is asked for.
abbrev pub is_from : Option ℕ → ℕ → Bool
is_from None moment = true
is_from (Some begin) moment = nat_le begin moment

abbrev pub is_to : Option ℕ → ℕ → Bool
is_to None moment = true
is_to (Some end) moment = nat_le moment end

-- Whether a query shows a file: by its type, and by the moment at which it is ready.
abbrev pub is_shown : FileQuery → File → Bool
is_shown query file = is_of_type query.performance && is_from query.begin file.ready && is_to query.end file.ready

-- What a listing says of a file.
abbrev pub listed : File → Listed
listed file = record { expires = file.ready + 86400; location = location_of file.name; ready = file.ready; size = length file.text }

-- The text of a listing of these files.
abbrev pub listing_of : List File → List ℕ
listing_of files = compact_text (listing_form.tree (map listed files))

-- The text lists the files that are kept and that the query shows, oldest first.
pub record IsListing (inventory : InventoryState) (h : History) (query : FileQuery) (text : List ℕ) : Type 0 where
  pub files : List File
  pub stand : FilesStand inventory h files
  pub written : text ≡ listing_of (filter (is_shown query) files)
