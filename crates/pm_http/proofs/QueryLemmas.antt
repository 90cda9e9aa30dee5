-- A query is what its pairs make of it, one by one.
use Rattle.std.proofs.Common.{◌≡◌, ℕ, Bool, true, false, cond, ◌&&◌, List, [], ◌∷◌, ◌++◌, map, codes, bytes_eq, Option, Some, None, refl, sym, ap, ◌∙◌, subst, append_assoc, append-nil}
use Rattle.std.specs.List.{filter, list_all}
use Rattle.std.specs.Option.{option_map}
use Rattle.std.proofs.lemmas.List.{map-append}
use Rattle.std.proofs.lemmas.List.Elements.{filter-append}
use Rattle.std.proofs.lemmas.List.Folds.{list_all-append}
use Rattle.std.proofs.lemmas.Slice.Eq.{bytes_eq-Decides}
use Rattle.form_urlencoded.specs.Form.{raw_pairs, IsPlainText}
use Rattle.pm_http.specs.declared.query.Query.{Query}
use Rattle.pm_http.specs.Query.{has_name, values_under, is_known, read_type, read_time, one_of, with_all, decoded, pairs_of, listing_query, StopsAtPair}
use Rattle.pm_http.specs.QuerySteps.{one_more, pair_more, HasRead}

abbrev Pair : Type 0
Pair = List ℕ × List ℕ

values_under-append : (name : List ℕ) (xs ys : List Pair) → values_under name (xs ++ ys) ≡ values_under name xs ++ values_under name ys
values_under-append name xs ys =
    ap (map (λ (p : Pair). p.1)) (filter-append (has_name name) xs ys)
    ∙ map-append (λ (p : Pair). p.1) (filter (has_name name) xs) (filter (has_name name) ys)

same_bytes : (xs ys : List ℕ) → bytes_eq xs ys ≡ true → xs ≡ ys
same_bytes xs ys e = (bytes_eq-Decides xs ys).0 e

-- What can't be read stays so.
one_of-stays : {X : Type 0} (read : List ℕ → Option X) (vs more : List (List ℕ)) → one_of read vs ≡ None → one_of read (vs ++ more) ≡ None
one_of-stays read [] more e = cc
one_of-stays read (v ∷ []) [] e = e
one_of-stays read (v ∷ []) (w ∷ more) e = refl
one_of-stays read (v ∷ w ∷ vs) more e = refl

-- One value more.
one_of-more : {X : Type 0} (read : List ℕ → Option X) (vs : List (List ℕ)) (found : Option X) (v : List ℕ) → one_of read vs ≡ Some found
    → one_of read (vs ++ v ∷ []) ≡ one_more read found v
one_of-more read [] None v e = refl
one_of-more read [] (Some x) v e = cc
one_of-more read (w ∷ []) found v e = by read (read w) found v e
  where
    by : {Y : Type 0} (r : List ℕ → Option Y) (o f : Option Y) (u : List ℕ) → option_map Some o ≡ Some f → None ≡ one_more r f u
    by r None f u e = cc
    by r (Some x) None u e = cc
    by r (Some x) (Some y) u e = refl
one_of-more read (w ∷ z ∷ vs) found v e = cc

-- the query by its parts
abbrev built : Bool → List (List ℕ) → List (List ℕ) → List (List ℕ) → Option Query
built known types begins ends =
    cond known (with_all (one_of read_type types) (one_of read_time begins) (one_of read_time ends)) None

same_built : (k k2 : Bool) (t t2 b b2 e e2 : List (List ℕ)) → k ≡ k2 → t ≡ t2 → b ≡ b2 → e ≡ e2 → built k t b e ≡ built k2 t2 b2 e2
same_built k k2 t t2 b b2 e e2 ke te be ee =
    ap (λ (x : Bool). built x t b e) ke ∙ ap (λ (x : List (List ℕ)). built k2 x b e) te
    ∙ ap (λ (x : List (List ℕ)). built k2 t2 x e) be ∙ ap (λ (x : List (List ℕ)). built k2 t2 b2 x) ee

record Settled (known : Bool) (t : Option (Option Bool)) (b e : Option (Option ℕ)) (query : Query) : Type 0 where
  known_is : known ≡ true
  type_is : t ≡ Some query.performance
  begin_is : b ≡ Some query.begin
  end_is : e ≡ Some query.end

settled : (k : Bool) (t : Option (Option Bool)) (b e : Option (Option ℕ)) (query : Query) → cond k (with_all t b e) None ≡ Some query → Settled k t b e query
settled true (Some t) (Some b) (Some e) query is =
    let same : record { performance = t; begin = b; end = e } ≡ query = cc in record {
      known_is = refl;
      type_is = ap (λ (x : Query). Some x.performance) same;
      begin_is = ap (λ (x : Query). Some x.begin) same;
      end_is = ap (λ (x : Query). Some x.end) same;
    }
settled true (Some t) (Some b) None query is = cc
settled true (Some t) None e query is = cc
settled true None b e query is = cc
settled false t b e query is = cc

abbrev ty : List ℕ
ty = codes "fileDataType"

abbrev bt : List ℕ
bt = codes "beginTime"

abbrev et : List ℕ
et = codes "endTime"

-- the parts of a query that is made
parts_of : (ps : List Pair) (query : Query) → listing_query ps ≡ Some query
    → Settled (list_all is_known ps) (one_of read_type (values_under ty ps)) (one_of read_time (values_under bt ps)) (one_of read_time (values_under et ps)) query
parts_of ps query is = settled _ _ _ _ query is

with_type : (o : Option (Option Bool)) (query : Query) → with_all o (Some query.begin) (Some query.end) ≡ option_map (λ p. record query { performance = p }) o
with_type None query = refl
with_type (Some p) query = refl

with_begin : (o : Option (Option ℕ)) (query : Query) → with_all (Some query.performance) o (Some query.end) ≡ option_map (λ t. record query { begin = t }) o
with_begin None query = refl
with_begin (Some t) query = refl

with_end : (o : Option (Option ℕ)) (query : Query) → with_all (Some query.performance) (Some query.begin) o ≡ option_map (λ t. record query { end = t }) o
with_end None query = refl
with_end (Some t) query = refl

known_more : (ps : List Pair) (p : Pair) → list_all is_known ps ≡ true → is_known p ≡ true → list_all is_known (ps ++ p ∷ []) ≡ true
known_more ps p all here =
    list_all-append is_known ps (p ∷ []) ∙ ap (λ (b : Bool). b && (is_known p && true)) all ∙ ap (λ (b : Bool). true && (b && true)) here

unchanged : (name : List ℕ) (ps : List Pair) (p : Pair) → values_under name (p ∷ []) ≡ [] → values_under name (ps ++ p ∷ []) ≡ values_under name ps
unchanged name ps p none =
    values_under-append name ps (p ∷ []) ∙ ap (λ (l : List (List ℕ)). values_under name ps ++ l) none ∙ append-nil (values_under name ps)

at_type : (ps : List Pair) (query : Query) (v : List ℕ) → listing_query ps ≡ Some query → listing_query (ps ++ (ty, v) ∷ []) ≡ pair_more query ty v
at_type ps query v is =
    let s = parts_of ps query is in
    same_built _ _ _ _ _ _ _ _ (known_more ps (ty, v) s.known_is refl) (values_under-append ty ps ((ty, v) ∷ [])) (unchanged bt ps (ty, v) refl) (unchanged et ps (ty, v) refl)
    ∙ ap (λ (o : Option (Option Bool)). with_all o (one_of read_time (values_under bt ps)) (one_of read_time (values_under et ps))) (one_of-more read_type (values_under ty ps) query.performance v s.type_is)
    ∙ ap (λ (o : Option (Option ℕ)). with_all (one_more read_type query.performance v) o (one_of read_time (values_under et ps))) s.begin_is
    ∙ ap (λ (o : Option (Option ℕ)). with_all (one_more read_type query.performance v) (Some query.begin) o) s.end_is
    ∙ with_type (one_more read_type query.performance v) query

at_begin : (ps : List Pair) (query : Query) (v : List ℕ) → listing_query ps ≡ Some query → listing_query (ps ++ (bt, v) ∷ []) ≡ pair_more query bt v
at_begin ps query v is =
    let s = parts_of ps query is in
    same_built _ _ _ _ _ _ _ _ (known_more ps (bt, v) s.known_is refl) (unchanged ty ps (bt, v) refl) (values_under-append bt ps ((bt, v) ∷ [])) (unchanged et ps (bt, v) refl)
    ∙ ap (λ (o : Option (Option ℕ)). with_all (one_of read_type (values_under ty ps)) o (one_of read_time (values_under et ps))) (one_of-more read_time (values_under bt ps) query.begin v s.begin_is)
    ∙ ap (λ (o : Option (Option Bool)). with_all o (one_more read_time query.begin v) (one_of read_time (values_under et ps))) s.type_is
    ∙ ap (λ (o : Option (Option ℕ)). with_all (Some query.performance) (one_more read_time query.begin v) o) s.end_is
    ∙ with_begin (one_more read_time query.begin v) query

at_end : (ps : List Pair) (query : Query) (v : List ℕ) → listing_query ps ≡ Some query → listing_query (ps ++ (et, v) ∷ []) ≡ pair_more query et v
at_end ps query v is =
    let s = parts_of ps query is in
    same_built _ _ _ _ _ _ _ _ (known_more ps (et, v) s.known_is refl) (unchanged ty ps (et, v) refl) (unchanged bt ps (et, v) refl) (values_under-append et ps ((et, v) ∷ []))
    ∙ ap (λ (o : Option (Option ℕ)). with_all (one_of read_type (values_under ty ps)) (one_of read_time (values_under bt ps)) o) (one_of-more read_time (values_under et ps) query.end v s.end_is)
    ∙ ap (λ (o : Option (Option Bool)). with_all o (one_of read_time (values_under bt ps)) (one_more read_time query.end v)) s.type_is
    ∙ ap (λ (o : Option (Option ℕ)). with_all (Some query.performance) o (one_more read_time query.end v)) s.begin_is
    ∙ with_end (one_more read_time query.end v) query

unknown : (ps : List Pair) (p : Pair) → is_known p ≡ false → listing_query (ps ++ p ∷ []) ≡ None
unknown ps p none =
    ap (λ (k : Bool). built k (values_under ty (ps ++ p ∷ [])) (values_under bt (ps ++ p ∷ [])) (values_under et (ps ++ p ∷ [])))
    (list_all-append is_known ps (p ∷ []) ∙ ap (λ (b : Bool). list_all is_known ps && (b && true)) none ∙ never (list_all is_known ps))
  where
    never : (b : Bool) → (b && (false && true)) ≡ false
    never true = refl
    never false = refl

-- One pair more.
more : (ps : List Pair) (query : Query) (p : Pair) → listing_query ps ≡ Some query → listing_query (ps ++ p ∷ []) ≡ pair_more query p.0 p.1
more ps query p is = first (bytes_eq p.0 ty) refl
  where
    all_false : (a b c : Bool) (x y z : Option Query) → a ≡ false → b ≡ false → c ≡ false → cond a x (cond b y (cond c z None)) ≡ None
    all_false a b c x y z ae be ce = rw (ae, be, ce) refl

    third : bytes_eq p.0 ty ≡ false → bytes_eq p.0 bt ≡ false → (c : Bool) → bytes_eq p.0 et ≡ c → listing_query (ps ++ p ∷ []) ≡ pair_more query p.0 p.1
    third te be true ee =
        subst (λ (n : List ℕ). listing_query (ps ++ (n, p.1) ∷ []) ≡ pair_more query n p.1) (sym (same_bytes p.0 et ee)) (at_end ps query p.1 is)
    third te be false ee =
        unknown ps p (rw (te, be, ee) refl) ∙ sym (all_false _ _ _ _ _ _ te be ee)

    second : bytes_eq p.0 ty ≡ false → (b : Bool) → bytes_eq p.0 bt ≡ b → listing_query (ps ++ p ∷ []) ≡ pair_more query p.0 p.1
    second te true be =
        subst (λ (n : List ℕ). listing_query (ps ++ (n, p.1) ∷ []) ≡ pair_more query n p.1) (sym (same_bytes p.0 bt be)) (at_begin ps query p.1 is)
    second te false be = third te be (bytes_eq p.0 et) refl

    first : (t : Bool) → bytes_eq p.0 ty ≡ t → listing_query (ps ++ p ∷ []) ≡ pair_more query p.0 p.1
    first true te =
        subst (λ (n : List ℕ). listing_query (ps ++ (n, p.1) ∷ []) ≡ pair_more query n p.1) (sym (same_bytes p.0 ty te)) (at_type ps query p.1 is)
    first false te = second te (bytes_eq p.0 bt) refl

no_type : (k : Bool) (b e : Option (Option ℕ)) → cond k (with_all None b e) None ≡ None
no_type true b e = refl
no_type false b e = refl

no_begin : (k : Bool) (t : Option (Option Bool)) (e : Option (Option ℕ)) → cond k (with_all t None e) None ≡ None
no_begin true None e = refl
no_begin true (Some t) e = refl
no_begin false t e = refl

no_end : (k : Bool) (t : Option (Option Bool)) (b : Option (Option ℕ)) → cond k (with_all t b None) None ≡ None
no_end true None b = refl
no_end true (Some t) None = refl
no_end true (Some t) (Some b) = refl
no_end false t b = refl

-- Pairs that make no query make none with others after them.
stays : (ps rest : List Pair) → listing_query ps ≡ None → listing_query (ps ++ rest) ≡ None
stays ps rest none =
    by (list_all is_known ps) refl (one_of read_type (values_under ty ps)) refl (one_of read_time (values_under bt ps)) refl (one_of read_time (values_under et ps)) refl none
  where
    gone : {X : Type 0} (read : List ℕ → Option X) (name : List ℕ) → one_of read (values_under name ps) ≡ None → one_of read (values_under name (ps ++ rest)) ≡ None
    gone read name e = ap (one_of read) (values_under-append name ps rest) ∙ one_of-stays read (values_under name ps) (values_under name rest) e

    by : (k : Bool) → list_all is_known ps ≡ k → (t : Option (Option Bool)) → one_of read_type (values_under ty ps) ≡ t
        → (b : Option (Option ℕ)) → one_of read_time (values_under bt ps) ≡ b → (e : Option (Option ℕ)) → one_of read_time (values_under et ps) ≡ e
        → cond k (with_all t b e) None ≡ None → listing_query (ps ++ rest) ≡ None
    by false ke t te b be e ee n =
        ap (λ (k : Bool). built k (values_under ty (ps ++ rest)) (values_under bt (ps ++ rest)) (values_under et (ps ++ rest)))
        (list_all-append is_known ps rest ∙ ap (λ (x : Bool). x && list_all is_known rest) ke)
    by true ke None te b be e ee n =
        ap (λ (o : Option (Option Bool)). cond (list_all is_known (ps ++ rest)) (with_all o (one_of read_time (values_under bt (ps ++ rest))) (one_of read_time (values_under et (ps ++ rest)))) None) (gone read_type ty te)
        ∙ no_type (list_all is_known (ps ++ rest)) (one_of read_time (values_under bt (ps ++ rest))) (one_of read_time (values_under et (ps ++ rest)))
    by true ke (Some t) te None be e ee n =
        ap (λ (o : Option (Option ℕ)). cond (list_all is_known (ps ++ rest)) (with_all (one_of read_type (values_under ty (ps ++ rest))) o (one_of read_time (values_under et (ps ++ rest)))) None) (gone read_time bt be)
        ∙ no_begin (list_all is_known (ps ++ rest)) (one_of read_type (values_under ty (ps ++ rest))) (one_of read_time (values_under et (ps ++ rest)))
    by true ke (Some t) te (Some b) be None ee n =
        ap (λ (o : Option (Option ℕ)). cond (list_all is_known (ps ++ rest)) (with_all (one_of read_type (values_under ty (ps ++ rest))) (one_of read_time (values_under bt (ps ++ rest))) o) None) (gone read_time et ee)
        ∙ no_end (list_all is_known (ps ++ rest)) (one_of read_type (values_under ty (ps ++ rest))) (one_of read_time (values_under bt (ps ++ rest)))
    by true ke (Some t) te (Some b) be (Some e) ee n = cc

abbrev nothing_asked : Query
nothing_asked = record { performance = None; begin = None; end = None }

with_one : (before : List Pair) (asked : Query) (pair : Pair) → listing_query (map decoded before) ≡ Some asked
    → listing_query (map decoded (before ++ pair ∷ [])) ≡ pair_more asked (decoded pair).0 (decoded pair).1
with_one before asked pair is = ap listing_query (map-append decoded before (pair ∷ [])) ∙ more (map decoded before) asked (decoded pair) is

-- No pair is read yet.
pub read_nothing : (query : List ℕ) → HasRead query (raw_pairs query) nothing_asked
read_nothing query = record { before = []; split = refl; good = refl }

-- A pair is read.
pub read_pair : (query name value : List ℕ) (left rest : List Pair) (asked next : Query) (pair : Pair) → HasRead query left asked → left ≡ pair ∷ rest
    → name ≡ (decoded pair).0 → value ≡ (decoded pair).1 → pair_more asked name value ≡ Some next → HasRead query rest next
read_pair query name value left rest asked next pair h first name_is value_is gives =
    let is = rw (name_is, value_is) at gives in
    record {
      before = h.before ++ pair ∷ [];
      split = h.split ∙ ap (λ (t : List Pair). h.before ++ t) first ∙ sym (append_assoc h.before (pair ∷ []) rest);
      good = with_one h.before asked pair h.good ∙ is;
    }

-- A pair breaks a rule.
pub read_refused : (query name value : List ℕ) (left rest : List Pair) (asked : Query) (pair : Pair) → HasRead query left asked → left ≡ pair ∷ rest
    → name ≡ (decoded pair).0 → value ≡ (decoded pair).1 → pair_more asked name value ≡ None → listing_query (pairs_of query) ≡ None
read_refused query name value left rest asked pair h first name_is value_is gives =
    let is = rw (name_is, value_is) at gives in
    let split : raw_pairs query ≡ (h.before ++ pair ∷ []) ++ rest =
    h.split ∙ ap (λ (t : List Pair). h.before ++ t) first ∙ sym (append_assoc h.before (pair ∷ []) rest) in
    ap (λ (t : List Pair). listing_query (map decoded t)) split
    ∙ ap listing_query (map-append decoded (h.before ++ pair ∷ []) rest)
    ∙ stays (map decoded (h.before ++ pair ∷ [])) (map decoded rest) (with_one h.before asked pair h.good ∙ is)

-- All pairs are read.
pub read_whole : (query : List ℕ) (left : List Pair) (asked : Query) → HasRead query left asked → left ≡ [] → listing_query (pairs_of query) ≡ Some asked
read_whole query left asked h none =
    ap (λ (t : List Pair). listing_query (map decoded t)) (h.split ∙ ap (λ (t : List Pair). h.before ++ t) none ∙ append-nil h.before) ∙ h.good

-- There is no memory for a pair.
pub read_stops : (query : List ℕ) (left rest : List Pair) (asked : Query) (pair : Pair) → HasRead query left asked → left ≡ pair ∷ rest
    → (IsPlainText pair.0 → IsPlainText pair.1 → ⊥) → StopsAtPair query
read_stops query left rest asked pair h first encoded = record {
  before = h.before;
  pair = pair;
  others = rest;
  split = h.split ∙ ap (λ (t : List Pair). h.before ++ t) first;
  asked = asked;
  good = h.good;
  encoded = encoded;
}
