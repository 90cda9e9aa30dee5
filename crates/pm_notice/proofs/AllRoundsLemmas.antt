-- Rounds look at no notice but those that are due from the least cursor on.
use Rattle.std.proofs.Common.{rules, ◌≡◌, ◌↔◌, ℕ, ◌≤◌, ◌&&◌, ◌||◌, Bool, true, false, not, cond, List, [], ◌∷◌, ◌++◌, map, filter, leb, ltb, eqb, refl, sym, ap, ap₂, ◌∙◌, arith}
use Rattle.std.specs.Prelude.{Any}
use Rattle.std.specs.List.{list_any, list_all}
use Rattle.std.proofs.lemmas.Bool.{leb-true, le-leb}
use Rattle.std.proofs.lemmas.Bool.Decides.{nat_tests}
use Rattle.std.proofs.lemmas.List.Folds.{Any-from_list_any, list_any-from_Any}
use Rattle.pm_outside.specs.Posts.{Post}
use Rattle.pm_notice.specs.declared.notice.Notice.{Notice}
use Rattle.pm_notice.specs.declared.subscription.Subscription.{Subscription}
use Rattle.pm_notice.specs.Round.{is_expired, is_due, post_to, round_posts, IsRound, AreRounds, rounds_posts}
use Rattle.pm_notice.specs.Rounds.{HaveDue, are_from}

both : (a b : Bool) → (a && b) ≡ true → (a ≡ true) × (b ≡ true)
both true b h = (refl, h)
both false b h = cc

equal : (x y : ℕ) → eqb x y ≡ true → x ≡ y
equal x y e = grind (arith, nat_tests)

same : (x y : ℕ) → x ≡ y → eqb x y ≡ true
same x y e = grind (arith, nat_tests)

-- What is due from a cursor on is due from a smaller number on.
due-least : (moment least cursor : ℕ) (n : Notice) → least ≤ cursor → is_due moment cursor n ≡ true → is_due moment least n ≡ true
due-least moment least cursor n le e =
    let p = both (leb cursor n.number) (not (is_expired moment n)) e in
    let at = leb-true cursor n.number p.0 in
    rw (le-leb least n.number (omega (arith, le, at))) p.1

-- A test that asks for another one first finds the same among what passes that.
filter-inner : (p q : Notice → Bool) → ((n : Notice) → p n ≡ true → q n ≡ true) → (ns : List Notice) → filter p (filter q ns) ≡ filter p ns
filter-inner p q asks [] = refl
filter-inner p q asks (n ∷ ns) = by (p n) (q n) refl refl (filter-inner p q asks ns)
  where
    by : (a b : Bool) → p n ≡ a → q n ≡ b → filter p (filter q ns) ≡ filter p ns → filter p (cond b (n ∷ filter q ns) (filter q ns)) ≡ cond a (n ∷ filter p ns) (filter p ns)
    by true true e f rest = rw e (ap (λ (t : List Notice). n ∷ t) rest)
    by false true e f rest = rw e rest
    by true false e f rest = absurd (let bad : false ≡ true = sym f ∙ asks n e in cc)
    by false false e f rest = rest

any-inner : (p q : Notice → Bool) → ((n : Notice) → p n ≡ true → q n ≡ true) → (ns : List Notice) → list_any p (filter q ns) ≡ list_any p ns
any-inner p q asks [] = refl
any-inner p q asks (n ∷ ns) = by (p n) (q n) refl refl (any-inner p q asks ns)
  where
    by : (a b : Bool) → p n ≡ a → q n ≡ b → list_any p (filter q ns) ≡ list_any p ns → list_any p (cond b (n ∷ filter q ns) (filter q ns)) ≡ (a || list_any p ns)
    by true true e f rest = rw e refl
    by false true e f rest = rw e rest
    by true false e f rest = absurd (let bad : false ≡ true = sym f ∙ asks n e in cc)
    by false false e f rest = rest

-- What is due of the ones is due of the others.
due-alike : (p : Notice → Bool) (moment least : ℕ) → ((n : Notice) → p n ≡ true → is_due moment least n ≡ true)
    → (some all : List Notice) → HaveDue some all moment least → filter p some ≡ filter p all
due-alike p moment least asks some all have =
    sym (filter-inner p (is_due moment least) asks some) ∙ ap (filter p) have ∙ filter-inner p (is_due moment least) asks all

any-alike : (p : Notice → Bool) (moment least : ℕ) → ((n : Notice) → p n ≡ true → is_due moment least n ≡ true)
    → (some all : List Notice) → HaveDue some all moment least → list_any p some ≡ list_any p all
any-alike p moment least asks some all have =
    sym (any-inner p (is_due moment least) asks some) ∙ ap (list_any p) have ∙ any-inner p (is_due moment least) asks all

posts-alike : (some all : List Notice) (moment least : ℕ) (s : Subscription) (end : ℕ) → HaveDue some all moment least → least ≤ s.cursor
    → round_posts some moment s end ≡ round_posts all moment s end
posts-alike some all moment least s end have le =
    ap (map (post_to s)) (due-alike (λ (n : Notice). is_due moment s.cursor n && ltb n.number end) moment least
    (λ n e. due-least moment least s.cursor n le (both (is_due moment s.cursor n) (ltb n.number end) e).0) some all have)

-- Whether a notice of this number is due.
abbrev stops_at : ℕ → ℕ → ℕ → Notice → Bool
stops_at moment cursor end n = is_due moment cursor n && eqb n.number end

abbrev StopsAt : ℕ → ℕ → ℕ → Notice → Type 0
StopsAt moment cursor end n = (n.number ≡ end) × (is_due moment cursor n ≡ true)

any-mapped : {P Q : Notice → Type 0} (ns : List Notice) → ((n : Notice) → P n → Q n) → Any P ns → Any Q ns
any-mapped ns f any = search rules

stopped-alike : (some all : List Notice) (moment least : ℕ) (s : Subscription) (end : ℕ) → HaveDue some all moment least → least ≤ s.cursor
    → Any (StopsAt moment s.cursor end) some → Any (StopsAt moment s.cursor end) all
stopped-alike some all moment least s end have le any =
    let test = stops_at moment s.cursor end in
    let asks : (n : Notice) → test n ≡ true → is_due moment least n ≡ true =
    λ n e. due-least moment least s.cursor n le (both (is_due moment s.cursor n) (eqb n.number end) e).0 in
    let found = list_any-from_Any test some (any-mapped some (λ n h. rw h.1 (same n.number end h.0)) any) in
    any-mapped all (λ n h. let p = both (is_due moment s.cursor n) (eqb n.number end) h in (equal n.number end p.1, p.0))
    (Any-from_list_any test all (sym (any-alike test moment least asks some all have) ∙ found))

round-alike : (some all : List Notice) (total moment least : ℕ) (old new : Subscription) → HaveDue some all moment least → least ≤ old.cursor
    → IsRound some total moment old new → IsRound all total moment old new
round-alike some all total moment least old new have le is =
    record {
      id = is.id;
      port = is.port;
      path = is.path;
      ends = record {
        forward = is.ends.forward;
        within = is.ends.within;
        stopped = λ lt. stopped-alike some all moment least old new.cursor have le (is.ends.stopped lt);
      };
    }

rounds-alike : (some all : List Notice) (total moment least : ℕ) (old new : List Subscription) → HaveDue some all moment least → are_from least old
    → AreRounds some total moment old new → AreRounds all total moment old new
rounds-alike some all total moment least [] [] have from are = tt
rounds-alike some all total moment least [] (n ∷ ns) have from are = are
rounds-alike some all total moment least (o ∷ os) [] have from are = are
rounds-alike some all total moment least (o ∷ os) (n ∷ ns) have from are =
    let p = both (leb least o.cursor) (list_all (λ (s : Subscription). leb least s.cursor) os) from in (
      round-alike some all total moment least o n have (leb-true least o.cursor p.0) are.0,
      rounds-alike some all total moment least os ns have p.1 are.1,
    )

pub all_rounds : (some all : List Notice) (total moment least : ℕ) (old new : List Subscription) → HaveDue some all moment least → are_from least old
    → AreRounds some total moment old new ↔ AreRounds all total moment old new
all_rounds some all total moment least old new have from =
    (rounds-alike some all total moment least old new have from, rounds-alike all some total moment least old new (sym have) from)

pub all_posts : (some all : List Notice) (moment least : ℕ) (old new : List Subscription) → HaveDue some all moment least → are_from least old
    → rounds_posts some moment old new ≡ rounds_posts all moment old new
all_posts some all moment least [] new have from = refl
all_posts some all moment least (o ∷ os) [] have from = refl
all_posts some all moment least (o ∷ os) (n ∷ ns) have from =
    let p = both (leb least o.cursor) (list_all (λ (s : Subscription). leb least s.cursor) os) from in
    ap₂ (λ (a b : List Post). a ++ b) (posts-alike some all moment least o n.cursor have (leb-true least o.cursor p.0))
    (all_posts some all moment least os ns have p.1)
