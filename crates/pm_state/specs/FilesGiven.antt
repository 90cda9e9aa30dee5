-- What a look at the report files is given (TS 28.532; the query is this project's own).
use Rattle.std.specs.Prelude.{ℕ, ◌≡◌, ◌⊎◌, List, [], Option, Some, None}
use Rattle.pm_base.specs.declared.code.Code.TheVariants.{L1, L2}
use Rattle.pm_inventory.specs.Inventory.{InventoryState}
use Rattle.pm_history.specs.History.{History}
use Rattle.pm_http.specs.declared.query.Query.{Query}
use Rattle.pm_http.specs.declared.reply.Reply.{Reply}
use Rattle.pm_http.specs.Query.{listing_query, pairs_of}
use Rattle.pm_ready.specs.declared.query.FileQuery.{FileQuery}
use Rattle.pm_ready.specs.Kept.{Serves}
use Rattle.pm_ready.specs.Listing.{IsListing}
use Rattle.pm_state.specs.Given.{Given, ok, gives_refusal, no_memory}

-- A reply that is given alone.
abbrev pub alone : Reply → Given
alone reply = record { reply = reply; entries = [] }

-- The reply shows what is given. Want of memory says nothing.
abbrev pub Shows : (Given → Type 0) → Reply → Type 0
Shows Is reply = (reply ≡ no_memory) ⊎ Is (alone reply)

abbrev pub file_query : Query → FileQuery
file_query query = record { performance = query.performance; begin = query.begin; end = query.end }

-- The files that are listed, by a query that is one.
abbrev pub IsListedBy : InventoryState → History → Option Query → Given → Type 0
IsListedBy inventory g None given = given ≡ gives_refusal L2
IsListedBy inventory g (Some query) given = (text : List ℕ) × IsListing inventory g (file_query query) text × (given ≡ alone (ok 200 text))

-- The listing that a query, the bytes after `?`, is given.
abbrev pub IsListGiven : InventoryState → History → List ℕ → Given → Type 0
IsListGiven inventory g query given = IsListedBy inventory g (listing_query (pairs_of query)) given

abbrev pub file_given : Option (List ℕ) → Given
file_given None = gives_refusal L1
file_given (Some text) = alone (ok 200 text)

-- The file of a name, where it is listed.
abbrev pub IsFileGiven : InventoryState → History → List ℕ → Given → Type 0
IsFileGiven inventory g name given = (answer : Option (List ℕ)) × Serves inventory g name answer × (given ≡ file_given answer)
