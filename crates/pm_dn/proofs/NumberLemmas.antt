-- The numbers of the objects that pass a test, one object after the other.
use Rattle.std.proofs.Common.{◌≡◌, ◌∙◌, ℕ, ◌+◌, ◌<◌, Bool, true, false, cond, List, [], ◌∷◌, ◌++◌, length, take, get_or, map, refl, ap, arith}
use Rattle.std.specs.List.{filter, enumerate_from}
use Rattle.std.proofs.lemmas.List.{map-append, append-nil, take_more, length-take-le}
use Rattle.std.proofs.lemmas.List.Elements.{filter-append}
use Rattle.pm_dn.specs.Tree.{numbers_where}

enumerate_from-push : {X : Type 0} (n : ℕ) (xs : List X) (y : X) → enumerate_from n (xs ++ y ∷ []) ≡ enumerate_from n xs ++ (n + length xs, y) ∷ []
enumerate_from-push n [] y = let here : n ≡ n + 0 = omega arith in ap (λ m. (m, y) ∷ []) here
enumerate_from-push n (x ∷ xs) y =
    let shift : n + 1 + length xs ≡ n + length (x ∷ xs) = omega arith in
    ap (λ l. (n, x) ∷ l) (enumerate_from-push (n + 1) xs y ∙ ap (λ m. enumerate_from (n + 1) xs ++ (m, y) ∷ []) shift)

one : (passes : Bool) (m n : ℕ) (text : List ℕ) → m ≡ n → map (λ (object : ℕ × List ℕ). object.0) (cond passes ((m, text) ∷ []) []) ≡ cond passes (n ∷ []) []
one true m n text is = ap (λ k. k ∷ []) is
one false m n text is = refl

-- one more object
pub numbers_where-push : (passes : List ℕ → Bool) (tree : List (List ℕ)) (text : List ℕ) → numbers_where passes (tree ++ text ∷ []) ≡ numbers_where passes tree ++ cond (passes text) (length tree ∷ []) []
numbers_where-push passes tree text =
    let test = λ (object : ℕ × List ℕ). passes object.1 in
    let number = λ (object : ℕ × List ℕ). object.0 in
    let last : map number (filter test ((0 + length tree, text) ∷ [])) ≡ cond (passes text) (length tree ∷ []) [] = one (passes text) (0 + length tree) (length tree) text (omega arith) in
    ap (λ l. map number (filter test l)) (enumerate_from-push 0 tree text)
    ∙ ap (map number) (filter-append test (enumerate_from 0 tree) ((0 + length tree, text) ∷ []))
    ∙ map-append number (filter test (enumerate_from 0 tree)) (filter test ((0 + length tree, text) ∷ []))
    ∙ ap (λ l. numbers_where passes tree ++ l) last

pub numbers_where_yes : (passes : List ℕ → Bool) (tree : List (List ℕ)) (i : ℕ) (found : List ℕ) → i < length tree → passes (get_or tree i []) ≡ true → found ≡ numbers_where passes (take i tree) → found ++ i ∷ [] ≡ numbers_where passes (take (i + 1) tree)
numbers_where_yes passes tree i found lt passed is =
    let many : length (take i tree) ≡ i = length-take-le i tree (omega (arith, lt)) in
    rw (take_more tree i [] lt, numbers_where-push passes (take i tree) (get_or tree i []), passed, many) (ap (λ l. l ++ i ∷ []) is)

pub numbers_where_no : (passes : List ℕ → Bool) (tree : List (List ℕ)) (i : ℕ) (found : List ℕ) → i < length tree → passes (get_or tree i []) ≡ false → found ≡ numbers_where passes (take i tree) → found ≡ numbers_where passes (take (i + 1) tree)
numbers_where_no passes tree i found lt failed is =
    rw (take_more tree i [] lt, numbers_where-push passes (take i tree) (get_or tree i []), failed, append-nil) is
