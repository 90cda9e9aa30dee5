-- A number that is no status code has no phrase.
use Rattle.std.proofs.Common.{◌≡◌, ◌⊎◌, ◌<◌, ◌≤◌, ◌==◌, inl, inr, ℕ, false, List, Option, None, if◌then◌else◌, ap, ◌∙◌, arith, lit≤, lit<}
use Rattle.http.specs.StatusCode.{reason_phrase}

-- It is none of the codes from 100 to 999.
past : (n k : ℕ) (phrase rest : Option (List ℕ)) → (n < 100) ⊎ (1000 ≤ n) → 100 ≤ k → k < 1000 → (if n == k then phrase else rest) ≡ rest
past n k phrase rest none from to = ap (λ b. if b then phrase else rest) (isnt n k none from to)
  where
    isnt : (n k : ℕ) → (n < 100) ⊎ (1000 ≤ n) → 100 ≤ k → k < 1000 → (n == k) ≡ false
    isnt n k (inl less) from to = grind (arith, less, from)
    isnt n k (inr more) from to = grind (arith, more, to)

pub no_phrase : (n : ℕ) → (n < 100) ⊎ (1000 ≤ n) → reason_phrase n ≡ None
no_phrase n none =
    past n 100 _ _ none (lit≤ tt) (lit< tt) ∙
    past n 101 _ _ none (lit≤ tt) (lit< tt) ∙
    past n 102 _ _ none (lit≤ tt) (lit< tt) ∙
    past n 103 _ _ none (lit≤ tt) (lit< tt) ∙
    past n 200 _ _ none (lit≤ tt) (lit< tt) ∙
    past n 201 _ _ none (lit≤ tt) (lit< tt) ∙
    past n 202 _ _ none (lit≤ tt) (lit< tt) ∙
    past n 203 _ _ none (lit≤ tt) (lit< tt) ∙
    past n 204 _ _ none (lit≤ tt) (lit< tt) ∙
    past n 205 _ _ none (lit≤ tt) (lit< tt) ∙
    past n 206 _ _ none (lit≤ tt) (lit< tt) ∙
    past n 207 _ _ none (lit≤ tt) (lit< tt) ∙
    past n 208 _ _ none (lit≤ tt) (lit< tt) ∙
    past n 226 _ _ none (lit≤ tt) (lit< tt) ∙
    past n 300 _ _ none (lit≤ tt) (lit< tt) ∙
    past n 301 _ _ none (lit≤ tt) (lit< tt) ∙
    past n 302 _ _ none (lit≤ tt) (lit< tt) ∙
    past n 303 _ _ none (lit≤ tt) (lit< tt) ∙
    past n 304 _ _ none (lit≤ tt) (lit< tt) ∙
    past n 305 _ _ none (lit≤ tt) (lit< tt) ∙
    past n 307 _ _ none (lit≤ tt) (lit< tt) ∙
    past n 308 _ _ none (lit≤ tt) (lit< tt) ∙
    past n 400 _ _ none (lit≤ tt) (lit< tt) ∙
    past n 401 _ _ none (lit≤ tt) (lit< tt) ∙
    past n 402 _ _ none (lit≤ tt) (lit< tt) ∙
    past n 403 _ _ none (lit≤ tt) (lit< tt) ∙
    past n 404 _ _ none (lit≤ tt) (lit< tt) ∙
    past n 405 _ _ none (lit≤ tt) (lit< tt) ∙
    past n 406 _ _ none (lit≤ tt) (lit< tt) ∙
    past n 407 _ _ none (lit≤ tt) (lit< tt) ∙
    past n 408 _ _ none (lit≤ tt) (lit< tt) ∙
    past n 409 _ _ none (lit≤ tt) (lit< tt) ∙
    past n 410 _ _ none (lit≤ tt) (lit< tt) ∙
    past n 411 _ _ none (lit≤ tt) (lit< tt) ∙
    past n 412 _ _ none (lit≤ tt) (lit< tt) ∙
    past n 413 _ _ none (lit≤ tt) (lit< tt) ∙
    past n 414 _ _ none (lit≤ tt) (lit< tt) ∙
    past n 415 _ _ none (lit≤ tt) (lit< tt) ∙
    past n 416 _ _ none (lit≤ tt) (lit< tt) ∙
    past n 417 _ _ none (lit≤ tt) (lit< tt) ∙
    past n 418 _ _ none (lit≤ tt) (lit< tt) ∙
    past n 421 _ _ none (lit≤ tt) (lit< tt) ∙
    past n 422 _ _ none (lit≤ tt) (lit< tt) ∙
    past n 423 _ _ none (lit≤ tt) (lit< tt) ∙
    past n 424 _ _ none (lit≤ tt) (lit< tt) ∙
    past n 425 _ _ none (lit≤ tt) (lit< tt) ∙
    past n 426 _ _ none (lit≤ tt) (lit< tt) ∙
    past n 428 _ _ none (lit≤ tt) (lit< tt) ∙
    past n 429 _ _ none (lit≤ tt) (lit< tt) ∙
    past n 431 _ _ none (lit≤ tt) (lit< tt) ∙
    past n 451 _ _ none (lit≤ tt) (lit< tt) ∙
    past n 500 _ _ none (lit≤ tt) (lit< tt) ∙
    past n 501 _ _ none (lit≤ tt) (lit< tt) ∙
    past n 502 _ _ none (lit≤ tt) (lit< tt) ∙
    past n 503 _ _ none (lit≤ tt) (lit< tt) ∙
    past n 504 _ _ none (lit≤ tt) (lit< tt) ∙
    past n 505 _ _ none (lit≤ tt) (lit< tt) ∙
    past n 506 _ _ none (lit≤ tt) (lit< tt) ∙
    past n 507 _ _ none (lit≤ tt) (lit< tt) ∙
    past n 508 _ _ none (lit≤ tt) (lit< tt) ∙
    past n 510 _ _ none (lit≤ tt) (lit< tt) ∙
    past n 511 _ _ none (lit≤ tt) (lit< tt)
