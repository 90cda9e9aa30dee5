use Rattle.std.proofs.Common.{sym, subst, ◌∙◌, arith, map}
use Rattle.pm_collect.specs.declared.names.Names.{Names}
use Rattle.pm_collect.specs.Call.{Kept}
use Rattle.pm_collect.specs.Names.{Makes}
use Rattle.pm_collect.specs.Stored.{item_of}
use Rattle.pm_collect.proofs.ItemLemmas.{item_length}
use Rattle.pm_collect.proofs.CollectorLemmas.{moments_at_rest}
use Rattle.pm_collect.proofs.FileLemmas.{ok_to, ok_always, place_at_end, file_kept, moments_of_file, refused_by_disk}
use Rattle.pm_collect.proofs.collector.Collector.file.Goals as goal

pub returns-then-not-wants-clause-any_moment : goal.returns-then-not-wants-clause-any_moment
returns-then-not-wants-clause-any_moment g c = λ told files holds. moments_at_rest c.args.self.now _ files _ c.requires.ready holds

pub returns-in_err-check_report-clause-any_moment : goal.returns-in_err-check_report-clause-any_moment
returns-in_err-check_report-clause-any_moment g c = λ told files holds. moments_at_rest c.args.self.now _ files _ c.requires.ready holds

pub returns-in_err-check_room-clause-any_moment : goal.returns-in_err-check_room-clause-any_moment
returns-in_err-check_room-clause-any_moment g c = λ told files holds. moments_at_rest c.args.self.now _ files _ c.requires.ready holds

pub returns-in_default-clause-any_moment : goal.returns-in_default-clause-any_moment
returns-in_default-clause-any_moment g c = λ told files holds. moments_at_rest c.args.self.now _ files _ c.requires.ready holds

pub returns-in_err-keep-clause-any_moment : goal.returns-in_err-keep-clause-any_moment
returns-in_err-keep-clause-any_moment g c = λ told files holds. moments_at_rest c.args.self.now _ files _ c.requires.ready holds

pub append-requires-clause-room : goal.append-requires-clause-room
append-requires-clause-room g c =
    omega (
      arith,
      c.in_ok-check_room.ensures.room,
      item_length (record { name = c.args.name.now; text = c.args.text.now }) c.deref.result.now (c.deref.ensures.value ∙ c.in-Ok.ensures),
    )

pub returns-clause-kept : goal.returns-clause-kept
returns-clause-kept g c = λ told files holds.
    ok_to c.append.result
    (file_kept c.args.self.now c.append.new.self c.keep.new.self _ _ files (record { name = c.args.name.now; text = c.args.text.now }) c.deref.result.now
    (c.deref.ensures.value ∙ c.in-Ok.ensures) c.append.ensures.names
    (record {
      fits = record { name = c.in_ok-check_report.ensures.short; text = omega (arith, c.in_ok-check_room.ensures.room) };
      report = c.in_ok-check_report.ensures.is;
    })
    (sym c.if-not-wants.ensures) c.in_ok-keep.ensures.held c.in_ok-keep.ensures.kept holds c.place_of-place.result
    (place_at_end c.args.self.now _ files (record { name = c.args.name.now; text = c.args.text.now }) c.place_of-place.result c.requires.ready holds _
    (omega (arith, c.length.ensures, c.args.self.now.journal.inside))
    (λ small. c.place_of-place.ensures.offset small c.in_ok-check_report.ensures.short) c.place_of-place.ensures.size)
    c.in_ok-keep.ensures.placed)
    (c.append.ensures.added told (map item_of files) holds.at)

pub returns-clause-made : goal.returns-clause-made
returns-clause-made g c =
    ok_always c.append.result
    (subst (λ (n : Names). Makes (Kept c.args.name.now) c.args.self.now.names n) (sym c.append.ensures.names) c.in_ok-keep.ensures.kept)

pub returns-clause-any_moment : goal.returns-clause-any_moment
returns-clause-any_moment g c = λ told files holds.
    moments_of_file _ _ files (record { name = c.args.name.now; text = c.args.text.now }) c.deref.result.now (c.deref.ensures.value ∙ c.in-Ok.ensures)
    (c.append.ensures.any_moment told (map item_of files) holds.at)

pub returns-clause-refused : goal.returns-clause-refused
returns-clause-refused g c =
    refused_by_disk g.D.Disk.IsTold _ _ c.args.self.now _ _ _ c.append.result c.append.ensures.refused c.in_ok-check_room.ensures.room
