-- Where posts lie once more bytes come after them.
use Rattle.std.proofs.Common.{◌≡◌, ℕ, ◌+◌, ◌≤◌, ◌&&◌, Bool, true, false, List, [], ◌∷◌, ◌++◌, length, map, take, drop, refl, ap, ap₂, ◌∙◌, arith, append_assoc, nat_le, le-leb}
use Rattle.std.specs.List.{list_all}
use Rattle.std.proofs.lemmas.Bool.{leb-true}
use Rattle.std.proofs.lemmas.List.{map-append, take-append-le, drop-append-le, length-drop}
use Rattle.std.proofs.lemmas.List.Folds.{list_all-append}
use Rattle.std.proofs.Math.Seq.{take-append_seam, take-length, drop-append_seam, drop-append-add}
use Rattle.pm_outside.specs.declared.mem_courier.Mark.{Mark}
use Rattle.pm_outside.specs.Posts.{Post}
use Rattle.pm_outside.specs.Marks.{post_at, ends_within}

both : (a b : Bool) → (a && b) ≡ true → (a ≡ true) × (b ≡ true)
both true b h = (refl, h)
both false b h = cc

piece-more : (bytes more : List ℕ) (start count : ℕ) → start + count ≤ length bytes → take count (drop start (bytes ++ more)) ≡ take count (drop start bytes)
piece-more bytes more start count le =
    let room : count ≤ length (drop start bytes) = rw (length-drop start bytes) (omega (arith, le)) in
    ap (take count) (drop-append-le start bytes more (omega (arith, le))) ∙ take-append-le count (drop start bytes) more room

post_at-more : (bytes more : List ℕ) (m : Mark) → ends_within (length bytes) m ≡ true → post_at (bytes ++ more) m ≡ post_at bytes m
post_at-more bytes more m e =
    let le : m.start + m.path + m.body ≤ length bytes = leb-true (m.start + m.path + m.body) (length bytes) e in
    rw (piece-more bytes more m.start m.path (omega (arith, le)), piece-more bytes more (m.start + m.path) m.body le) refl

posts-more : (bytes more : List ℕ) (ms : List Mark) → list_all (ends_within (length bytes)) ms ≡ true
    → map (post_at (bytes ++ more)) ms ≡ map (post_at bytes) ms
posts-more bytes more [] e = refl
posts-more bytes more (m ∷ ms) e =
    let p = both (ends_within (length bytes) m) _ e in
    ap₂ (λ (x : Post) (xs : List Post). x ∷ xs) (post_at-more bytes more m p.0) (posts-more bytes more ms p.1)

-- The mark of a post whose bytes come after all others.
abbrev pub next_mark : ℕ → List ℕ → List ℕ → List ℕ → Mark
next_mark port bytes path body = record { port = port; start = length bytes; path = length path; body = length body }

post_at-next : (port : ℕ) (bytes path body : List ℕ)
    → post_at (bytes ++ (path ++ body)) (next_mark port bytes path body) ≡ record { port = port; path = path; body = body }
post_at-next port bytes path body =
    let front : take (length path) (drop (length bytes) (bytes ++ (path ++ body))) ≡ path =
    ap (take (length path)) (drop-append_seam bytes (path ++ body)) ∙ take-append_seam path body in
    let back : take (length body) (drop (length bytes + length path) (bytes ++ (path ++ body))) ≡ body =
    ap (take (length body)) (drop-append-add bytes (path ++ body) (length path) ∙ drop-append_seam path body) ∙ take-length body in
    rw (front, back) refl

-- One more post.
pub posts-added : (port : ℕ) (bytes path body new : List ℕ) (ms news : List Mark) → new ≡ (bytes ++ path) ++ body
    → news ≡ ms ++ next_mark port bytes path body ∷ [] → list_all (ends_within (length bytes)) ms ≡ true
    → map (post_at new) news ≡ map (post_at bytes) ms ++ record { port = port; path = path; body = body } ∷ []
posts-added port bytes path body new ms news is marked placed =
    let same : new ≡ bytes ++ (path ++ body) = is ∙ append_assoc bytes path body in
    rw (
      same,
      marked,
      map-append (post_at (bytes ++ (path ++ body))) ms (next_mark port bytes path body ∷ []),
      posts-more bytes (path ++ body) ms placed,
      post_at-next port bytes path body,
    ) refl

ends_within-more : (few many : ℕ) (ms : List Mark) → few ≤ many → list_all (ends_within few) ms ≡ true → list_all (ends_within many) ms ≡ true
ends_within-more few many [] le e = refl
ends_within-more few many (m ∷ ms) le e =
    let p = both (ends_within few m) _ e in
    let end : m.start + m.path + m.body ≤ few = leb-true (m.start + m.path + m.body) few p.0 in
    rw (le-leb (m.start + m.path + m.body) many (omega (arith, end, le)), ends_within-more few many ms le p.1) refl

-- It ends within the bytes.
pub placed-added : (port : ℕ) (bytes path body new : List ℕ) (ms news : List Mark) → length new ≡ length bytes + length path + length body
    → news ≡ ms ++ next_mark port bytes path body ∷ [] → list_all (ends_within (length bytes)) ms ≡ true
    → list_all (ends_within (length new)) news ≡ true
placed-added port bytes path body new ms news is marked placed =
    let here : nat_le (length bytes + length path + length body) (length new) ≡ true = le-leb (length bytes + length path + length body) (length new) (omega (arith, is)) in
    rw (
      marked,
      list_all-append (ends_within (length new)) ms (next_mark port bytes path body ∷ []),
      ends_within-more (length bytes) (length new) ms (omega (arith, is)) placed,
      here,
    ) refl
