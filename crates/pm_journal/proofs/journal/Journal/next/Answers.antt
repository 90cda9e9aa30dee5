use Rattle.std.proofs.Common.{refl, drop, ap, subst, arith}
use Rattle.pm_disk.specs.Moments.{Told, of}
use Rattle.pm_journal.specs.declared.reading.Found.{Found}
use Rattle.pm_journal.specs.Reading.{FindsAt}
use Rattle.pm_journal.proofs.NextLemmas.{handed_out_at, tied_after_item, none_on}
use Rattle.pm_journal.proofs.ListLemmas.{keeps_at_look}
use Rattle.pm_journal.proofs.OpeningLemmas.{reading_is_not_ready}
use Rattle.pm_journal.proofs.journal.Journal.next.Goals as goal

pub returns-in-Ok-Block-clause-next : goal.returns-in-Ok-Block-clause-next
returns-in-Ok-Block-clause-next g c = λ told given left at.
    let seen = (of (g.D.Disk.told c.args.disk.now).now c.args.self.now.area).seen in
    let found = subst (λ (f : Found). FindsAt (drop c.args.self.now.at seen) f) c.in-Ok-Block.field-0-is (c.in-Ok-Block.ensures.found told) in
    let same = ap (λ (t : Told). of t.now c.args.self.now.area) (c.find.ensures.told told) in
    handed_out_at _ c.in-Ok-Block.bytes.items c.args.self.now _ _ _ given left at found c.from_vec-bytes.ensures refl (omega (arith, c.len.ensures, c.in-Ok-Block.bytes.ok.0)) refl reading_is_not_ready same

pub returns-in-Ok-Block-clause-tied : goal.returns-in-Ok-Block-clause-tied
returns-in-Ok-Block-clause-tied g c = λ told.
    let tied = c.requires.tied told in
    let seen = (of (g.D.Disk.told c.args.disk.now).now c.args.self.now.area).seen in
    let found = subst (λ (f : Found). FindsAt (drop c.args.self.now.at seen) f) c.in-Ok-Block.field-0-is (c.in-Ok-Block.ensures.found told) in
    let same = ap (λ (t : Told). of t.now c.args.self.now.area) (c.find.ensures.told told) in
    tied_after_item c.in-Ok-Block.bytes.items c.args.self.now _ _ _ tied.0 tied.1 tied.2 found (omega (arith, c.len.ensures, c.in-Ok-Block.bytes.ok.0)) refl reading_is_not_ready same

pub returns-in-Ok-End-clause-on : goal.returns-in-Ok-End-clause-on
returns-in-Ok-End-clause-on g c = none_on c.end.result _ c.end.ensures.none

pub returns-in-Err-clause-any_moment : goal.returns-in-Err-clause-any_moment
returns-in-Err-clause-any_moment g c = λ told. keeps_at_look c.args.self.now.area _ _ (c.find.ensures.told told)
