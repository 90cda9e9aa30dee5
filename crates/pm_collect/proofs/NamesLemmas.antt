-- What one call more leaves of the names.
use Rattle.std.proofs.Common.{◌≡◌, ℕ, ◌+◌, ◌<◌, Bool, true, false, List, [], ◌∷◌, length, get_or, take, map, refl, sym, ap, subst, ◌∙◌}
use Rattle.std.specs.Prelude.{◌&&◌, ◌||◌, not, cond, Vec, None, Some, is_some, bytes_eq}
use Rattle.std.specs.declared.alloc.Global.{Global}
use Rattle.std.specs.BTreeMap.{BTreeMap, UpdatesBy}
use Rattle.std.specs.Cmp.Lexicographic.{bytes_decides}
use Rattle.std.proofs.lemmas.List.{map-append, take_more}
use Rattle.std.proofs.lemmas.List.Folds.{list_any-append}
use Rattle.std.proofs.lemmas.Cmp.{nat_list_eq_equiv}
use Rattle.pm_collect.specs.declared.names.Names.{Names}
use Rattle.pm_collect.specs.Call.{Told, Dropped, Kept, is_one_of, is_wanted}
use Rattle.pm_notice.specs.NoticeContent.{listed_of}
use Rattle.pm_notice.specs.declared.notice.FileInfo.{FileInfo}
use Rattle.pm_collect.specs.Told.{name_at}
use Rattle.pm_collect.specs.declared.names.Place.{Place}
use Rattle.pm_collect.specs.Maps.{has, HasSame, HasMore, HasOneMore, HasPlace}
use Rattle.pm_collect.specs.Names.{names_of, Makes, Wants}
use Rattle.pm_collect.proofs.MapLemmas.{key_cmp, query, get_updated, has_updated}

without : (t b : Bool) → cond t false b ≡ b && not t
without true true = refl
without true false = refl
without false true = refl
without false false = refl

-- A name that was wanted or not is dropped.
pub makes_dropped : (old new : Names) (name : List ℕ) → UpdatesBy key_cmp (query name) old.wanted new.wanted None → new.held ≡ old.held
    → Makes (Dropped name) old new
makes_dropped old new name updates same = λ opening calls after. record {
  held = λ n. ap (λ m. has m n) same ∙ after.held n;
  wanted = λ n.
      has_updated name old.wanted new.wanted None updates n
      ∙ without (bytes_eq name n) (has old.wanted n)
      ∙ ap (λ (b : Bool). b && not (bytes_eq name n)) (after.wanted n);
}

-- The names that were told are wanted as far as they aren't held.
pub makes_told : (told : List (List ℕ)) (old new : Names) → Wants told old new → Makes (Told told) old new
makes_told told old new wants = λ opening calls after. record {
  held = λ n. ap is_some (wants.held n) ∙ after.held n;
  wanted = λ n.
      wants.wanted n
      ∙ ap (λ (b : Bool). b || (is_one_of told n && not (has old.held n))) (after.wanted n)
      ∙ ap (λ (b : Bool). is_wanted opening calls n || (is_one_of told n && not b)) (after.held n);
}

none_more : (b c : Bool) → b ≡ b || (false && c)
none_more true c = refl
none_more false c = refl

-- A notice that tells no name changes nothing.
pub wants_none : (old : Names) → Wants [] old old
wants_none old = record { held = λ n. refl; wanted = λ n. none_more (has old.wanted n) (not (has old.held n)) }

not_both : (b t h : Bool) → (t ≡ true → h ≡ true) → b ≡ b || ((t || false) && not h)
not_both true t h both = refl
not_both false true true both = refl
not_both false true false both = both refl
not_both false false h both = refl

held_at : {X : Type 0} (held : BTreeMap (Vec ℕ Global) X) (name n : List ℕ) (b : Bool) → has held name ≡ b → bytes_eq n name ≡ true → has held n ≡ b
held_at held name n b holds same = subst (λ (l : List ℕ). has held l ≡ b) (sym ((bytes_decides n name).0 same)) holds

-- A name that is held isn't added.
pub more_held : {X : Type 0} (held : BTreeMap (Vec ℕ Global) X) (wanted : BTreeMap (Vec ℕ Global) Unit) (name : List ℕ) → has held name ≡ true
    → HasMore held (name ∷ []) wanted wanted
more_held held wanted name holds = λ n. not_both (has wanted n) (bytes_eq n name) (has held n) (held_at held name n true holds)

one_more : (b t h : Bool) → (t ≡ true → h ≡ false) → cond t true b ≡ b || ((t || false) && not h)
one_more true true h both = refl
one_more true false h both = refl
one_more false true true both = both refl
one_more false true false both = refl
one_more false false h both = refl

-- A name that isn't held is added.
pub more_free : {X : Type 0} (held : BTreeMap (Vec ℕ Global) X) (old new : BTreeMap (Vec ℕ Global) Unit) (name : List ℕ) → has held name ≡ false
    → UpdatesBy key_cmp (query name) old new (Some tt) → HasMore held (name ∷ []) old new
more_free held old new name free updates = λ n.
    has_updated name old new (Some tt) updates n
    ∙ ap (λ (t : Bool). cond t true (has old n)) (nat_list_eq_equiv.symm name n)
    ∙ one_more (has old n) (bytes_eq n name) (has held n) (held_at held name n false free)

distribute : (b a e h : Bool) → (b || (a && h)) || (e && h) ≡ b || ((a || e) && h)
distribute true a e h = refl
distribute false true e true = refl
distribute false true true false = refl
distribute false true false false = refl
distribute false false e h = refl

one_of_more : (files : List FileInfo) (i : ℕ) (d : FileInfo) → i < length files → (n : List ℕ)
    → is_one_of (names_of (take (i + 1) files)) n ≡ is_one_of (names_of (take i files)) n || is_one_of ((get_or files i d).name ∷ []) n
one_of_more files i d within n =
    ap (λ (l : List FileInfo). is_one_of (names_of l) n) (take_more files i d within)
    ∙ ap (λ (l : List (List ℕ)). is_one_of l n) (map-append (λ (f : FileInfo). f.name) (take i files) (get_or files i d ∷ []))
    ∙ list_any-append (bytes_eq n) (names_of (take i files)) ((get_or files i d).name ∷ [])

-- One file more of a listing.
pub more_step : {X : Type 0} (held : BTreeMap (Vec ℕ Global) X) (files : List FileInfo) (i : ℕ) (d : FileInfo)
    (first old new : BTreeMap (Vec ℕ Global) Unit) → i < length files → HasMore held (names_of (take i files)) first old
    → HasMore held ((get_or files i d).name ∷ []) old new → HasMore held (names_of (take (i + 1) files)) first new
more_step held files i d first old new within before here = λ n.
    let a = is_one_of (names_of (take i files)) n in
    let e = is_one_of ((get_or files i d).name ∷ []) n in
    here n
    ∙ ap (λ (b : Bool). b || (e && not (has held n))) (before n)
    ∙ distribute (has first n) a e (not (has held n))
    ∙ ap (λ (b : Bool). has first n || (b && not (has held n))) (sym (one_of_more files i d within n))

none_told : (b c : Bool) → b ≡ b || (false && c)
none_told true c = refl
none_told false c = refl

-- Before the first file of a listing.
pub more_none : {X : Type 0} (held : BTreeMap (Vec ℕ Global) X) (old new : BTreeMap (Vec ℕ Global) Unit) → HasSame old new → HasMore held [] old new
more_none held old new same = λ n. same n ∙ none_told (has old n) (not (has held n))

-- The names in the places of files are those of the files.
pub names_listed : (files : List FileInfo) → map name_at (map listed_of files) ≡ names_of files
names_listed [] = refl
names_listed (f ∷ files) = ap (λ (l : List (List ℕ)). f.name ∷ l) (names_listed files)

with_one : (t b : Bool) → cond t true b ≡ t || b
with_one true b = refl
with_one false b = refl

-- A name is added, with its place.
pub place_added : (old new : BTreeMap (Vec ℕ Global) Place) (key : Vec ℕ Global) (name : List ℕ) (x : Place) → key.items ≡ name
    → UpdatesBy key_cmp (query key.items) old new (Some x) → HasPlace name x old new
place_added old new key name x is updates = subst (λ (l : List ℕ). HasPlace l x old new) is (get_updated key.items old new (Some x) updates)

-- A name is added, with a value.
pub one_added : {X : Type 0} (old new : BTreeMap (Vec ℕ Global) X) (key : Vec ℕ Global) (name : List ℕ) (x : X) → key.items ≡ name
    → UpdatesBy key_cmp (query key.items) old new (Some x) → HasOneMore name old new
one_added old new key name x is updates = λ n.
    has_updated key.items old new (Some x) updates n
    ∙ with_one (bytes_eq key.items n) (has old n)
    ∙ ap (λ (l : List ℕ). bytes_eq l n || has old n) is

-- A name is held, and no longer wanted.
pub makes_kept : (old new : Names) (name : List ℕ) → HasOneMore name old.held new.held
    → UpdatesBy key_cmp (query name) old.wanted new.wanted None → Makes (Kept name) old new
makes_kept old new name more updates = λ opening calls after. record {
  held = λ n. more n ∙ ap (λ (b : Bool). bytes_eq name n || b) (after.held n);
  wanted = λ n.
      has_updated name old.wanted new.wanted None updates n
      ∙ without (bytes_eq name n) (has old.wanted n)
      ∙ ap (λ (b : Bool). b && not (bytes_eq name n)) (after.wanted n);
}

none_without : (t b : Bool) → b ≡ false → cond t false b ≡ false
none_without true b is = refl
none_without false b is = is

-- What wasn't wanted isn't after a name is dropped.
pub stays_unwanted : (old new : BTreeMap (Vec ℕ Global) Unit) (name : List ℕ) → UpdatesBy key_cmp (query name) old new None
    → (n : List ℕ) → has old n ≡ false → has new n ≡ false
stays_unwanted old new name updates = λ n is. has_updated name old new None updates n ∙ none_without (bytes_eq name n) (has old n) is
