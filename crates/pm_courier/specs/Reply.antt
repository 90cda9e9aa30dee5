-- Which replies of a consumer take a notice (RFC 9112; the statuses and the room are this project's own).
use Rattle.std.specs.Prelude.{ℕ, ◌≤◌, List, length}
use Rattle.httparse.specs.Grammar.{ResponseHead, ReadsResponse, status_code}

-- A reply whose head stands whole at the front, has at most 64 fields, and says a status of 200 to 299.
pub record TakesNotice (bytes : List ℕ) : Type 0 where
  pub head : ResponseHead
  pub rest : List ℕ
  pub reads : ReadsResponse bytes head rest
  pub few : length head.fields ≤ 64
  pub least : 200 ≤ status_code head
  pub most : status_code head ≤ 299
