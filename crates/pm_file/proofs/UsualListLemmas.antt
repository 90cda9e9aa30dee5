-- The items of an array that were read, as tokens.
use Rattle.std.proofs.Common.{◌≡◌, ◌<◌, ◌&&◌, Bool, true, false, List, [], ◌∷◌, ◌++◌, length, map, refl, sym, ap, ◌∙◌, append_assoc, Some}
use Rattle.json.specs.Token.{Token, end_array, begin_array}
use Rattle.json.specs.Tree.{json_tokens, items_tokens}
use Rattle.json.specs.Json.{after_end_array}
use Rattle.serde_json.specs.Data.{Data}
use Rattle.serde_json.specs.Written.{outline, items_outline}
use Rattle.pm_form.specs.Form.{Form}
use Rattle.pm_form.specs.Lists.{list_of, items_tree, each_fits}
use Rattle.pm_file.specs.Usual.{Leads}
use Rattle.pm_file.proofs.UsualLemmas.{shorter}

-- The tokens of these values' trees, one after another.
abbrev pub each_tokens : {A : Type 0} → (A → Data) → List A → List Token
each_tokens tree [] = []
each_tokens tree (a ∷ xs) = json_tokens (outline (tree a)) ++ each_tokens tree xs

-- The bracket and these values have been read, and all of them fit.
pub record AreRead {A : Type 0} (form : Form A) (done : List A) (old new : List Token) : Type 0 where
  pub read : old ≡ begin_array ∷ (each_tokens form.tree done ++ new)
  pub fits : each_fits form.fits done ≡ true

more_tokens : {A : Type 0} (tree : A → Data) (xs : List A) (a : A) (rest : List Token)
    → each_tokens tree xs ++ (json_tokens (outline (tree a)) ++ rest) ≡ each_tokens tree (xs ++ a ∷ []) ++ rest
more_tokens tree [] a rest = sym (append_assoc (json_tokens (outline (tree a))) [] rest)
more_tokens tree (x ∷ xs) a rest =
    let t = json_tokens (outline (tree x)) in
    append_assoc t _ _ ∙ ap (λ ts. t ++ ts) (more_tokens tree xs a rest) ∙ sym (append_assoc t _ rest)

more_fit : {A : Type 0} (fits : A → Bool) (xs : List A) (a : A) → each_fits fits xs ≡ true → fits a ≡ true
    → each_fits fits (xs ++ a ∷ []) ≡ true
more_fit fits [] a all one = rw one refl
more_fit fits (x ∷ xs) a all one = by (fits x) all (λ h. more_fit fits xs a h one)
  where
    by : (b : Bool) → (b && each_fits fits xs) ≡ true → (each_fits fits xs ≡ true → each_fits fits (xs ++ a ∷ []) ≡ true)
        → (b && each_fits fits (xs ++ a ∷ [])) ≡ true
    by true h more = more h
    by false h more = cc

pub are_read_more : {A : Type 0} (form : Form A) (done : List A) (a : A) (old mid new : List Token) → AreRead form done old mid
    → Leads form a mid new → AreRead form (done ++ a ∷ []) old new
are_read_more form done a old mid new before next =
    record {
      read =
          before.read ∙ ap (λ ts. begin_array ∷ (each_tokens form.tree done ++ ts)) next.first
          ∙ ap (λ ts. begin_array ∷ ts) (more_tokens form.tree done a new);
      fits = more_fit form.fits done a before.fits next.fits;
    }

pub are_read_next : {A : Type 0} (form : Form A) (xs : List A) (x : A) (ys : List A) (old mid new : List Token)
    → AreRead form xs old mid → Leads form x mid new → ys ≡ xs ++ x ∷ [] → AreRead form ys old new
are_read_next form xs x ys old mid new before next is = rw is (are_read_more form xs x old mid new before next)

map_more : {A B : Type 0} (f : B → A) (xs : List B) (x : B) → map f (xs ++ x ∷ []) ≡ map f xs ++ f x ∷ []
map_more f [] x = refl
map_more f (y ∷ xs) x = ap (λ (t : List _). f y ∷ t) (map_more f xs x)

-- one more is read, and stands behind the others
pub are_read_pushed : {A B : Type 0} (form : Form A) (f : B → A) (xs : List B) (x : B) (ys : List B) (old mid new : List Token)
    → AreRead form (map f xs) old mid → Leads form (f x) mid new → ys ≡ xs ++ x ∷ [] → AreRead form (map f ys) old new
are_read_pushed form f xs x ys old mid new before next is =
    rw (is, map_more f xs x) (are_read_more form (map f xs) (f x) old mid new before next)

pub shorter_loop : {A : Type 0} (form : Form A) (a : A) (old mid new : List Token) → mid ≡ old → Leads form a mid new
    → length new < length old
shorter_loop form a old mid new same next = rw (← same) (shorter (form.tree a) mid new next.first)

after_end : (ts rest : List Token) → after_end_array ts ≡ Some rest → ts ≡ end_array ∷ rest
after_end [] rest e = cc
after_end (Token.begin_object ∷ ts) rest e = cc
after_end (Token.end_object ∷ ts) rest e = cc
after_end (Token.begin_array ∷ ts) rest e = cc
after_end (Token.end_array ∷ ts) rest e = let s : ts ≡ rest = cc e in ap (λ l. end_array ∷ l) s
after_end (Token.key s ∷ ts) rest e = cc
after_end (Token.string s ∷ ts) rest e = cc
after_end (Token.number s ∷ ts) rest e = cc
after_end (Token.boolean b ∷ ts) rest e = cc
after_end (Token.null ∷ ts) rest e = cc
after_end (Token.bad ∷ ts) rest e = cc

all_tokens : {A : Type 0} (tree : A → Data) (xs : List A) (rest : List Token)
    → each_tokens tree xs ++ end_array ∷ rest ≡ items_tokens (items_outline (items_tree tree xs)) ++ rest
all_tokens tree [] rest = refl
all_tokens tree (x ∷ xs) rest =
    let t = json_tokens (outline (tree x)) in
    append_assoc t _ _ ∙ ap (λ ts. t ++ ts) (all_tokens tree xs rest) ∙ sym (append_assoc t _ rest)

pub are_read_all : {A : Type 0} (form : Form A) (done : List A) (old mid new : List Token) → AreRead form done old mid
    → after_end_array mid ≡ Some new
    → Leads (list_of form) done old new
are_read_all form done old mid new before end =
    record {
      first =
          before.read ∙ ap (λ ts. begin_array ∷ (each_tokens form.tree done ++ ts)) (after_end mid new end)
          ∙ ap (λ ts. begin_array ∷ ts) (all_tokens form.tree done new);
      fits = before.fits;
    }
