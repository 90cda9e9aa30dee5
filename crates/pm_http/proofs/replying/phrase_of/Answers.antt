use Rattle.std.proofs.Common.{◌⊎◌, ◌<◌, ◌≤◌, inl, inr, ℕ, List, Option, codes, unwrap_or, sym, ap}
use Rattle.std.proofs.lemmas.Bool.{cases_lt}
use Rattle.http.specs.StatusCode.{IsStatusCode}
use Rattle.pm_http.proofs.PhraseLemmas.{no_phrase}
use Rattle.pm_http.proofs.replying.phrase_of.Goals as goal

outside : (n : ℕ) → ¬ IsStatusCode n → (n < 100) ⊎ (1000 ≤ n)
outside n not = elim (cases_lt n 100) [
  | inl less ↦ inl less
  | inr from ↦ elim (cases_lt n 1000) [ inl to ↦ absurd (not (from, to)) | inr more ↦ inr more ]
]

pub returns-in-Err : goal.returns-in-Err
returns-in-Err c = ap (λ (phrase : Option (List ℕ)). unwrap_or phrase (codes "")) (sym (no_phrase c.args.status (outside c.args.status (λ code. c.in-Err.ensures code))))
