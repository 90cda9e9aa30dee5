-- Items, blocks and lists: how the bytes of an area are made of them, and that they have one list.
use Rattle.std.proofs.Common.{◌≡◌, ◌≢◌, ◌⊎◌, inl, inr, ℕ, ◌+◌, ◌<◌, ◌≤◌, ◌^◌, List, [], ◌∷◌, ◌++◌, length, take, drop, refl, sym, ◌∙◌, ap, subst, arith, append_assoc, length-append}
use Rattle.std.proofs.lemmas.List.{append-nil, append_cancel_left, take_at, drop_at}
use Rattle.std.proofs.lemmas.Nat.{from_be_bytes-to_be_bytes_4}
use Rattle.std.specs.Int.{w32, from_be_bytes}
use Rattle.pm_journal.specs.Items.{mark, size_bytes, blocks, prefix, IsItem, IsCutShort, EachFits, HasList, HasItems, EndsAt}

pub length-size_bytes : (n : ℕ) → length (size_bytes n) ≡ 4
unfolding size_bytes
length-size_bytes n = refl

-- Four bytes tell one length.
pub size_of_size_bytes : (n : ℕ) → n < 2 ^ 32 → from_be_bytes w32 (size_bytes n) ≡ n
unfolding size_bytes
size_of_size_bytes n lt = from_be_bytes-to_be_bytes_4 n lt

pub size_bytes-unique : (m n : ℕ) → m < 2 ^ 32 → n < 2 ^ 32 → size_bytes m ≡ size_bytes n → m ≡ n
size_bytes-unique m n m_fits n_fits same = sym (size_of_size_bytes m m_fits) ∙ ap (from_be_bytes w32) same ∙ size_of_size_bytes n n_fits

-- What the first four bytes of an item are, and how long the bytes are.
pub item_size : (bytes item after : List ℕ) → IsItem bytes item after → take 4 bytes ≡ size_bytes (length item)
item_size bytes item after is =
    ap (λ (l : List ℕ). take 4 l) (is.is ∙ append_assoc (size_bytes (length item)) item after)
    ∙ take_at (size_bytes (length item)) (item ++ after) 4 (length-size_bytes (length item))

pub item_rest : (bytes item after : List ℕ) → IsItem bytes item after → drop 4 bytes ≡ item ++ after
item_rest bytes item after is =
    ap (λ (l : List ℕ). drop 4 l) (is.is ∙ append_assoc (size_bytes (length item)) item after)
    ∙ drop_at (size_bytes (length item)) (item ++ after) 4 (length-size_bytes (length item))

pub item_length : (bytes item after : List ℕ) → IsItem bytes item after → length bytes ≡ 4 + length item + length after
item_length bytes item after is =
    omega (arith, ap length is.is, length-append (size_bytes (length item) ++ item) after, length-append (size_bytes (length item)) item, length-size_bytes (length item))

-- Bytes begin with one item at most.
pub item_unique : (bytes x r y s : List ℕ) → IsItem bytes x r → IsItem bytes y s → (x ≡ y) × (r ≡ s)
item_unique bytes x r y s first second =
    let same_size : length x ≡ length y = size_bytes-unique (length x) (length y) first.fits second.fits (sym (item_size bytes x r first) ∙ item_size bytes y s second) in
    let rest : x ++ r ≡ y ++ s = sym (item_rest bytes x r first) ∙ item_rest bytes y s second in (
      sym (take_at x r (length x) refl) ∙ ap (λ (l : List ℕ). take (length x) l) rest ∙ take_at y s (length x) (sym same_size),
      sym (drop_at x r (length x) refl) ∙ ap (λ (l : List ℕ). drop (length x) l) rest ∙ drop_at y s (length x) (sym same_size),
    )

-- After the open gate of a block comes its item.
pub block_item : (item : List ℕ) (items : List (List ℕ)) (gate : ℕ) (rest : List ℕ) → length item < 2 ^ 32
    → IsItem ((size_bytes (length item) ++ item ++ blocks items) ++ gate ∷ rest) item (blocks items ++ gate ∷ rest)
block_item item items gate rest fits = record {
  is = append_assoc (size_bytes (length item) ++ item) (blocks items) (gate ∷ rest);
  fits = fits;
  gate = omega (arith, length-append (blocks items) (gate ∷ rest));
}

-- Where the list stops there is no item after an open gate.
pub stop_has_no_item : (gate : ℕ) (rest item after : List ℕ) → (gate ≢ 1) ⊎ IsCutShort rest → gate ≡ 1 → IsItem rest item after
    → ⊥
stop_has_no_item gate rest item after (inl closed) is_open is = closed is_open
stop_has_no_item gate rest item after (inr cut) is_open is = cut item after is

head_of : (x y : ℕ) (xs ys : List ℕ) → x ∷ xs ≡ y ∷ ys → x ≡ y
head_of x y xs ys same = cc

tail_of : (x y : ℕ) (xs ys : List ℕ) → x ∷ xs ≡ y ∷ ys → xs ≡ ys
tail_of x y xs ys same = cc

same_blocks : (xs ys : List (List ℕ)) (g h : ℕ) (r s : List ℕ) → EachFits xs → EachFits ys → (g ≢ 1) ⊎ IsCutShort r
    → (h ≢ 1) ⊎ IsCutShort s → blocks xs ++ g ∷ r ≡ blocks ys ++ h ∷ s → xs ≡ ys
same_blocks [] [] g h r s xs_fit ys_fit g_stops h_stops same = refl
same_blocks [] (y ∷ ys) g h r s xs_fit ys_fit g_stops h_stops same =
    let item = block_item y ys h s ys_fit.0 in
    absurd (stop_has_no_item g r y (blocks ys ++ h ∷ s) g_stops (head_of g 1 r _ same) (subst (λ (l : List ℕ). IsItem l y (blocks ys ++ h ∷ s)) (sym (tail_of g 1 r _ same)) item))
same_blocks (x ∷ xs) [] g h r s xs_fit ys_fit g_stops h_stops same =
    let item = block_item x xs g r xs_fit.0 in
    absurd (stop_has_no_item h s x (blocks xs ++ g ∷ r) h_stops (sym (head_of 1 h _ s same)) (subst (λ (l : List ℕ). IsItem l x (blocks xs ++ g ∷ r)) (tail_of 1 h _ s same) item))
same_blocks (x ∷ xs) (y ∷ ys) g h r s xs_fit ys_fit g_stops h_stops same =
    let first = block_item x xs g r xs_fit.0 in
    let second = subst (λ (l : List ℕ). IsItem l y (blocks ys ++ h ∷ s)) (sym (tail_of 1 1 _ _ same)) (block_item y ys h s ys_fit.0) in
    let both = item_unique _ x _ y _ first second in
    let rest : xs ≡ ys = same_blocks xs ys g h r s xs_fit.1 ys_fit.1 g_stops h_stops both.1 in
    ap (λ (item : List ℕ). item ∷ xs) both.0 ∙ ap (λ (items : List (List ℕ)). y ∷ items) rest

pub HasList-unique : (bytes : List ℕ) (xs ys : List (List ℕ)) → HasList bytes xs → HasList bytes ys → xs ≡ ys
HasList-unique bytes xs ys first second =
    same_blocks xs ys first.gate second.gate first.rest second.rest first.fits second.fits first.stops second.stops
    (append_cancel_left mark (blocks xs ++ first.gate ∷ first.rest) (blocks ys ++ second.gate ∷ second.rest) (sym first.is ∙ second.is))

-- An area of at most 9 bytes has no item.
pub short_list : (bytes : List ℕ) (items : List (List ℕ)) → length bytes ≤ 9 → HasItems bytes items → items ≡ []
short_list bytes items few (inl none) = none.1
short_list bytes [] few (inr list) = refl
short_list bytes (item ∷ items) few (inr list) =
    let long : length (prefix (item ∷ items)) ≡ 9 + length (size_bytes (length item) ++ item ++ blocks items) = omega arith in
    let four : 4 ≤ length (size_bytes (length item) ++ item ++ blocks items) =
    omega (arith, length-append (size_bytes (length item) ++ item) (blocks items), length-append (size_bytes (length item)) item, length-size_bytes (length item)) in
    absurd (omega (arith, few, ap length list.is, length-append (prefix (item ∷ items)) (list.gate ∷ list.rest), long, four))

-- The bytes of an area have one list.
pub HasItems-unique : (bytes : List ℕ) (xs ys : List (List ℕ)) → HasItems bytes xs → HasItems bytes ys → xs ≡ ys
HasItems-unique bytes xs ys (inl none) second = none.1 ∙ sym (short_list bytes ys none.0 second)
HasItems-unique bytes xs ys (inr list) (inl none) = short_list bytes xs none.0 (inr list) ∙ sym none.1
HasItems-unique bytes xs ys (inr first) (inr second) = HasList-unique bytes xs ys first second

-- A list that ends at a closed gate is the list.
pub list_of_end : (bytes : List ℕ) (items : List (List ℕ)) → EndsAt bytes items → HasList bytes items
list_of_end bytes items ends = record { fits = ends.fits; gate = ends.gate; rest = ends.rest; is = ends.is; stops = inl ends.closed }

pub blocks-append : (xs ys : List (List ℕ)) (rest : List ℕ) → blocks (xs ++ ys) ++ rest ≡ blocks xs ++ (blocks ys ++ rest)
blocks-append [] ys rest = refl
blocks-append (x ∷ xs) ys rest =
    let head = size_bytes (length x) ++ x in
    ap (λ (l : List ℕ). 1 ∷ l) (
    append_assoc head (blocks (xs ++ ys)) rest
    ∙ ap (λ (l : List ℕ). head ++ l) (blocks-append xs ys rest)
    ∙ sym (append_assoc head (blocks xs) (blocks ys ++ rest)))

pub prefix-append : (xs ys : List (List ℕ)) (rest : List ℕ) → prefix (xs ++ ys) ++ rest ≡ prefix xs ++ (blocks ys ++ rest)
prefix-append xs ys rest = ap (λ (l : List ℕ). mark ++ l) (blocks-append xs ys rest)

-- The last block, with its gate open.
pub prefix_push : (items : List (List ℕ)) (item rest : List ℕ)
    → prefix (items ++ item ∷ []) ++ rest ≡ prefix items ++ 1 ∷ (size_bytes (length item) ++ item ++ rest)
prefix_push items item rest =
    prefix-append items (item ∷ []) rest
    ∙ ap (λ (l : List ℕ). prefix items ++ 1 ∷ (l ++ rest)) (append-nil (size_bytes (length item) ++ item))

pub length-prefix_push : (items : List (List ℕ)) (item : List ℕ)
    → length (prefix (items ++ item ∷ [])) ≡ length (prefix items) + 5 + length item
length-prefix_push items item =
    let body = size_bytes (length item) ++ item ++ [] in
    omega (
      arith,
      ap length (prefix_push items item []),
      length-append (prefix (items ++ item ∷ [])) [],
      length-append (prefix items) (1 ∷ body),
      length-append (size_bytes (length item) ++ item) [],
      length-append (size_bytes (length item)) item,
      length-size_bytes (length item),
    )

-- From the gate after the first items on come the others.
pub drop_prefix : (xs ys : List (List ℕ)) (rest : List ℕ)
    → drop (length (prefix xs)) (prefix (xs ++ ys) ++ rest) ≡ blocks ys ++ rest
drop_prefix xs ys rest =
    ap (λ (l : List ℕ). drop (length (prefix xs)) l) (prefix-append xs ys rest)
    ∙ drop_at (prefix xs) (blocks ys ++ rest) (length (prefix xs)) refl

pub EachFits-append : (xs ys : List (List ℕ)) → EachFits xs → EachFits ys → EachFits (xs ++ ys)
EachFits-append [] ys first second = second
EachFits-append (x ∷ xs) ys first second = (first.0, EachFits-append xs ys first.1 second)

pub EachFits-left : (xs ys : List (List ℕ)) → EachFits (xs ++ ys) → EachFits xs
EachFits-left [] ys all = tt
EachFits-left (x ∷ xs) ys all = (all.0, EachFits-left xs ys all.1)

pub EachFits-right : (xs ys : List (List ℕ)) → EachFits (xs ++ ys) → EachFits ys
EachFits-right [] ys all = all
EachFits-right (x ∷ xs) ys all = EachFits-right xs ys all.1
