-- What a collector holds once the item of a file is added, and why it isn't.
use Rattle.std.proofs.Common.{◌≡◌, ℕ, ◌+◌, ◌≤◌, ◌^◌, true, List, [], ◌∷◌, ◌++◌, length, map, Result, Ok, Err, OnOk, IfErr, sym, ap, subst, ◌∙◌, arith, length-append}
use Rattle.std.specs.Prelude.{OnErr}
use Rattle.pm_disk.specs.declared.area.Area.TheVariants.{First}
use Rattle.pm_disk.specs.Moments.{DiskState, Told, Throughout}
use Rattle.pm_journal.specs.Items.{prefix}
use Rattle.pm_journal.specs.Journal as journal
use Rattle.pm_journal.specs.Journal.{IsAtEnd}
use Rattle.pm_journal.specs.Lists.{HasEither}
use Rattle.pm_collect.specs.declared.collector.Collector.{Collector}
use Rattle.pm_collect.specs.declared.collector.TheConstants.{MOST_BYTES}
use Rattle.pm_collect.specs.declared.error.CollectError.{CollectError}
use Rattle.pm_collect.specs.declared.error.CollectError.TheVariants.{StoreFault}
use Rattle.pm_collect.specs.declared.names.Names.{Names}
use Rattle.pm_collect.specs.Call.{Kept}
use Rattle.pm_collect.specs.declared.names.Place.{Place}
use Rattle.pm_collect.specs.Maps.{has, HasOneMore, HasPlace}
use Rattle.pm_collect.specs.Names.{Makes}
use Rattle.pm_collect.specs.Stored.{HeldFile, item_of}
use Rattle.pm_collect.specs.Collector.{length_of, IsReady, IsHeld, Holds, EachHas}
use Rattle.pm_collect.specs.Places.{item_room, file_offset}
use Rattle.pm_collect.specs.Refusals.{RefusesFile}
use Rattle.pm_collect.proofs.PlaceLemmas.{IsPlaceAfter}
use Rattle.pm_collect.proofs.CollectorLemmas.{holds_more, moments_of_append}

pub ok_to : {T E P Q : Type 0} (r : Result T E) → (P → Q) → OnOk r P → OnOk r Q
ok_to (Ok t) to p = to p
ok_to (Err e) to p = tt

pub ok_always : {T E P : Type 0} (r : Result T E) → P → OnOk r P
ok_always (Ok t) p = p
ok_always (Err e) p = tt

-- A file that was wanted is held once its item is added.
pub file_kept : (old new : Collector) (names : Names) (disk disk' : DiskState) (files : List HeldFile) (f : HeldFile) (item : List ℕ)
    → item ≡ item_of f → new.names ≡ names → IsHeld f → has old.names.wanted f.name ≡ true
    → HasOneMore f.name old.names.held names.held → Makes (Kept f.name) old.names names → Holds old disk files
    → (place : Place) → IsPlaceAfter files f place → HasPlace f.name place old.names.held names.held
    → journal.IsAt new.journal disk'.first (map item_of files ++ item ∷ []) [] → Holds new disk' (files ++ f ∷ [])
file_kept old new names disk disk' files f item is same one wanted more made holds place there placed at =
    holds_more old new disk disk' files f holds
    (subst (λ (i : List ℕ). journal.IsAt new.journal disk'.first (map item_of files ++ i ∷ []) []) is at)
    one wanted
    (subst (λ (n : Names). HasOneMore f.name old.names.held n.held) (sym same) more)
    (subst (λ (n : Names). Makes (Kept f.name) old.names n) (sym same) made) place there
    (subst (λ (n : Names). HasPlace f.name place old.names.held n.held) (sym same) placed)

-- A file's item is added at the closed gate.
pub place_at_end : (collector : Collector) (disk : DiskState) (files : List HeldFile) (f : HeldFile) (place : Place) → IsReady collector → Holds collector disk files
    → (gate : ℕ) → gate + 1 ≡ length_of collector → (gate ≤ 2 ^ 32 → place.offset ≡ file_offset gate f.name) → place.size ≡ length f.text → IsPlaceAfter files f place
place_at_end collector disk files f place ready holds gate counts offset size = record {
  offset = offset small ∙ ap (λ (n : ℕ). file_offset n f.name) same;
  size = size;
}
  where
    end : IsAtEnd disk.first.seen (map item_of files)
    end = holds.at.ready ready

    same : gate ≡ length (prefix (map item_of files))
    same = omega (arith, counts, holds.at.length, ap length end.is, length-append (prefix (map item_of files)) (end.gate ∷ []))

    small : gate ≤ 2 ^ 32
    small = omega (arith, counts, collector.journal.in_limit, collector.journal.small)

pub moments_of_file : (old new : Told) (files : List HeldFile) (f : HeldFile) (item : List ℕ) → item ≡ item_of f
    → Throughout (HasEither First old.now (map item_of files) (map item_of files ++ item ∷ [])) old new
    → Throughout (EachHas files (files ++ f ∷ [])) old new
moments_of_file old new files f item is run =
    moments_of_append old new files f
    (subst (λ (i : List ℕ). Throughout (HasEither First old.now (map item_of files) (map item_of files ++ i ∷ [])) old new) is run)

pub refused_by_disk : (IsTold : Type 0) (name text : List ℕ) (old new : Collector) (told told' : Told) (r : Result (Unit {0}) CollectError)
    → OnErr r (r ≡ Err StoreFault) → length_of old + item_room name text ≤ MOST_BYTES → IfErr r (RefusesFile IsTold name text old new told told')
refused_by_disk IsTold name text old new told told' (Ok u) is room = tt
refused_by_disk IsTold name text old new told told' (Err e) is room =
    let same : e ≡ StoreFault = cc in
    subst (λ (x : CollectError). RefusesFile IsTold name text old new told told' x) (sym same) room
