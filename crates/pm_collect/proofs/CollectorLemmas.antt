-- What a collector holds with one file more, and what the images of its disk have.
use Rattle.std.proofs.Common.{◌≡◌, ℕ, ◌≤◌, ◌^◌, Bool, true, false, inl, inr, List, [], ◌∷◌, ◌++◌, length, map, refl, sym, ap, subst, ◌∙◌, arith}
use Rattle.std.specs.Prelude.{◌&&◌, ◌||◌, not, bytes_eq, cond, Some}
use Rattle.std.specs.List.{list_any}
use Rattle.std.proofs.lemmas.Bool.{false≢true}
use Rattle.std.proofs.lemmas.Cmp.{nat_list_eq_equiv}
use Rattle.std.proofs.lemmas.List.{append-nil, map-append}
use Rattle.std.proofs.lemmas.List.Elements.{All-push}
use Rattle.std.proofs.lemmas.List.Folds.{list_any-append}
use Rattle.pm_disk.specs.declared.area.Area.TheVariants.{First}
use Rattle.pm_disk.specs.Moments.{DiskState, Told, Throughout}
use Rattle.pm_disk.proofs.MomentLemmas.{at_rest, weaken}
use Rattle.pm_journal.specs.Items.{HasItems, IsWhole}
use Rattle.pm_journal.specs.Journal as journal
use Rattle.pm_journal.specs.Journal.{IsAtEnd}
use Rattle.pm_journal.specs.Lists.{HasEither}
use Rattle.pm_journal.proofs.ImageLemmas.{only_image}
use Rattle.pm_notice.specs.NoticeForm.{are_distinct}
use Rattle.pm_collect.specs.declared.collector.Collector.{Collector}
use Rattle.pm_collect.specs.Call.{Call, Told as told_call, Dropped, Kept, is_one_of, is_held, is_wanted}
use Rattle.pm_collect.specs.declared.names.Place.{Place}
use Rattle.pm_collect.specs.Maps.{has, HasOneMore, HasPlace}
use Rattle.pm_collect.specs.Names.{Makes}
use Rattle.pm_collect.specs.Stored.{HeldFile, item_of}
use Rattle.pm_collect.specs.Collector.{IsReady, names_in, IsHeld, Holds, HasFiles, EachHas}
use Rattle.pm_collect.proofs.PlaceLemmas.{IsPlaceAfter, placed_more}

-- ---- no name is held and wanted

fresh : (w o h : Bool) → (w ≡ true → h ≡ false) → w || (o && not h) ≡ true → h ≡ false
fresh true o h before is = before refl
fresh false true true before is = sym is
fresh false true false before is = refl
fresh false false h before is = absurd (false≢true is)

still : (w t h : Bool) → (w ≡ true → h ≡ false) → w && not t ≡ true → h ≡ false
still true t h before is = before refl
still false t h before is = absurd (false≢true is)

still_other : (w t h : Bool) → (w ≡ true → h ≡ false) → w && not t ≡ true → t || h ≡ false
still_other true true h before is = absurd (false≢true is)
still_other true false h before is = before refl
still_other false t h before is = absurd (false≢true is)

wanted_not_held : (opening : List (List ℕ)) (calls : List Call) (n : List ℕ) → is_wanted opening calls n ≡ true → is_held opening calls n ≡ false
wanted_not_held opening [] n is = absurd (false≢true is)
wanted_not_held opening (told_call names ∷ before) n is =
    fresh (is_wanted opening before n) (is_one_of names n) (is_held opening before n) (wanted_not_held opening before n) is
wanted_not_held opening (Dropped other ∷ before) n is =
    still (is_wanted opening before n) (bytes_eq other n) (is_held opening before n) (wanted_not_held opening before n) is
wanted_not_held opening (Kept other ∷ before) n is =
    still_other (is_wanted opening before n) (bytes_eq other n) (is_held opening before n) (wanted_not_held opening before n) is

-- ---- one file more

none_there : (a b : Bool) → a || b ≡ false → (a ≡ false) × (b ≡ false)
none_there true b is = absurd (false≢true (sym is))
none_there false b is = (refl, is)

both_true : (a b : Bool) → a && b ≡ true → (a ≡ true) × (b ≡ true)
both_true true b is = (refl, is)
both_true false b is = absurd (false≢true is)

pub distinct_more : (names : List (List ℕ)) (one : List ℕ) → are_distinct names ≡ true → is_one_of names one ≡ false
    → are_distinct (names ++ one ∷ []) ≡ true
distinct_more [] one distinct absent = refl
distinct_more (n ∷ names) one distinct absent =
    let free = none_there (bytes_eq one n) (is_one_of names one) absent in
    let parts = both_true (not (list_any (bytes_eq n) names)) (are_distinct names) distinct in
    ap (λ (b : Bool). not b && are_distinct (names ++ one ∷ [])) (list_any-append (bytes_eq n) names (one ∷ []))
    ∙ ap (λ (b : Bool). not (list_any (bytes_eq n) names || (b || false)) && are_distinct (names ++ one ∷ [])) (nat_list_eq_equiv.symm n one ∙ free.0)
    ∙ or_none (list_any (bytes_eq n) names) (are_distinct (names ++ one ∷ [])) parts.0 (distinct_more names one parts.1 free.1)
  where
    or_none : (a d : Bool) → not a ≡ true → d ≡ true → not (a || (false || false)) && d ≡ true
    or_none true d first second = absurd (false≢true first)
    or_none false d first second = second

pub turned : (a b : Bool) → a || b ≡ b || (a || false)
turned true true = refl
turned true false = refl
turned false true = refl
turned false false = refl

pub holds_more : (old new : Collector) (disk disk' : DiskState) (files : List HeldFile) (f : HeldFile) → Holds old disk files
    → journal.IsAt new.journal disk'.first (map item_of files ++ item_of f ∷ []) [] → IsHeld f → has old.names.wanted f.name ≡ true
    → HasOneMore f.name old.names.held new.names.held → Makes (Kept f.name) old.names new.names
    → (place : Place) → IsPlaceAfter files f place → HasPlace f.name place old.names.held new.names.held → Holds new disk' (files ++ f ∷ [])
holds_more old new disk disk' files f holds at one wanted more made place there placed = record {
  at = subst (λ (l : List (List ℕ)). journal.IsAt new.journal disk'.first l []) (sym (map-append item_of files (f ∷ []))) at;
  each = All-push IsHeld files f holds.each one;
  once = ap are_distinct named ∙ distinct_more (names_in files) f.name holds.once absent;
  names = λ n.
      more n
      ∙ ap (λ (b : Bool). bytes_eq f.name n || b) (holds.names n)
      ∙ turned (bytes_eq f.name n) (is_one_of (names_in files) n)
      ∙ ap (λ (b : Bool). is_one_of (names_in files) n || (b || false)) (nat_list_eq_equiv.symm f.name n)
      ∙ sym (list_any-append (bytes_eq n) (names_in files) (f.name ∷ []))
      ∙ ap (λ (l : List (List ℕ)). is_one_of l n) (sym named);
  places = λ n.
      placed n
      ∙ ap (cond (bytes_eq f.name n) (Some place)) (holds.places n)
      ∙ placed_more files f place n there absent;
  opening = holds.opening;
  calls = Kept f.name ∷ holds.calls;
  after = made holds.opening holds.calls holds.after;
}
  where
    named : names_in (files ++ f ∷ []) ≡ names_in files ++ f.name ∷ []
    named = map-append (λ (h : HeldFile). h.name) files (f ∷ [])

    absent : is_one_of (names_in files) f.name ≡ false
    absent =
        sym (holds.names f.name) ∙ holds.after.held f.name
        ∙ wanted_not_held holds.opening holds.calls f.name (sym (holds.after.wanted f.name) ∙ wanted)

-- ---- the images

has_files : (bytes : List ℕ) (files : List HeldFile) → HasItems bytes (map item_of files) → IsAtEnd bytes (map item_of files) → length bytes ≤ 2 ^ 32
    → HasFiles bytes files
has_files bytes files list end small = record { whole = whole list; items = list }
  where
    whole : HasItems bytes (map item_of files) → IsWhole bytes
    whole (inl few) = record { ends = inl few.0; small = small }
    whole (inr has) = record { ends = inr (map item_of files, record { fits = has.fits; gate = end.gate; rest = []; is = end.is; closed = end.closed }); small = small }

each_at_rest : (collector : Collector) (disk : DiskState) (files more : List HeldFile) → IsReady collector → Holds collector disk files
    → EachHas files more disk
each_at_rest collector disk files more ready holds image is =
    inl (subst (λ (b : List ℕ). HasFiles b files) (sym (only_image disk.first.seen image disk.first holds.at.on_disk is))
    (has_files disk.first.seen files list (holds.at.ready ready) small))
  where
    small : length disk.first.seen ≤ 2 ^ 32
    small = omega (arith, holds.at.length, collector.journal.in_limit, collector.journal.small)

    list : HasItems disk.first.seen (map item_of files)
    list = subst (λ (l : List (List ℕ)). HasItems disk.first.seen l) (append-nil (map item_of files)) (inr holds.at.list)

-- No call of the disk was made.
pub moments_at_rest : (collector : Collector) (told : Told) (files more : List HeldFile) → IsReady collector → Holds collector told.now files
    → Throughout (EachHas files more) told told
moments_at_rest collector told files more ready holds =
    at_rest (EachHas files more) told (each_at_rest collector told.now files more ready holds)

-- While an item is added.
pub moments_of_append : (old new : Told) (files : List HeldFile) (f : HeldFile)
    → Throughout (HasEither First old.now (map item_of files) (map item_of files ++ item_of f ∷ [])) old new
    → Throughout (EachHas files (files ++ f ∷ [])) old new
moments_of_append old new files f run =
    weaken (HasEither First old.now (map item_of files) (map item_of files ++ item_of f ∷ [])) (EachHas files (files ++ f ∷ [])) old new each run
  where
    each : (state : DiskState) → HasEither First old.now (map item_of files) (map item_of files ++ item_of f ∷ []) state
        → EachHas files (files ++ f ∷ []) state
    each state either image is =
        let one = either.each image is in
        elim (one.1) [
          | inl before ↦ inl (record { whole = one.0; items = before })
          | inr after ↦ inr (record {
            whole = one.0;
            items = subst (λ (l : List (List ℕ)). HasItems image l) (sym (map-append item_of files (f ∷ []))) after;
          })
        ]
