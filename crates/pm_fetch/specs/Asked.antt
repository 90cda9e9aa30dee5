-- What a collector asks a peer for (the requests are those of RFC 9112, section 3; the paths are this project's own).
use Rattle.std.specs.Prelude.{ℕ, List, ◌++◌, codes}

-- The file of a name, or the listing.
pub data Asked : Type 0 where
  AskFile : List ℕ → Asked
  AskListing : Asked

abbrev pub request_for : List ℕ → List ℕ
request_for path = codes "GET " ++ path ++ codes " HTTP/1.1\r\nHost: localhost\r\nConnection: close\r\n\r\n"

abbrev pub file_request : List ℕ → List ℕ
file_request name = request_for (codes "/files/" ++ name)

abbrev pub listing_request : List ℕ
listing_request = request_for (codes "/files")

abbrev pub request_of : Asked → List ℕ
request_of (AskFile name) = file_request name
request_of AskListing = listing_request
