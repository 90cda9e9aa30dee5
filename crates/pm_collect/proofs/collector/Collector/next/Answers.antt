use Rattle.std.proofs.Common.{Bool, sym, subst, refl, map}
use Rattle.pm_journal.specs.declared.journal.Journal.{Journal}
use Rattle.pm_journal.specs.Journal as journal
use Rattle.pm_collect.specs.Stored.{item_of}
use Rattle.pm_collect.specs.Collector.{TakesNext}
use Rattle.pm_collect.proofs.FileLemmas.{ok_always}
use Rattle.pm_collect.proofs.ReadLemmas.{moments_keep, tied_first, at_area, found_first, handed, ended, if_ok_to, reads_none, reads_some}
use Rattle.pm_collect.proofs.RefusalLemmas.{item_refused, next_refused}
use Rattle.pm_collect.proofs.collector.Collector.next.Goals as goal

pub returns-in-Ok-Some-clause-next : goal.returns-in-Ok-Some-clause-next
returns-in-Ok-Some-clause-next g c = λ told files left reads.
    if_ok_to c.taken.result
    (λ more p. subst (λ (b : Bool). TakesNext b c.taken.new.self (g.D.Disk.told c.next.new.disk).now files left) (sym p.0)
    (reads_some c.args.self.now c.taken.new.self c.next.new.self c.in-Ok-Some.item _ _ files left c.taken.ensures.journal p.1 reads _ c.in-Ok-Some.field-0-is
    (found_first _ c.args.self.now.area _ _ _ _ _ (map item_of files) left
    (c.in-Ok-Some.ensures.next told (map item_of files) left (at_area _ c.args.self.now.area _ _ (map item_of files) left reads.at)))))
    c.taken.ensures.takes

pub returns-in-Ok-Some-clause-tied : goal.returns-in-Ok-Some-clause-tied
returns-in-Ok-Some-clause-tied g c = λ told.
    ok_always c.taken.result
    (subst (λ (j : Journal). journal.IsTied j (g.D.Disk.told c.next.new.disk).now.first) (sym c.taken.ensures.journal)
    (tied_first _ c.args.self.now.area c.next.new.self _ (c.in-Ok-Some.ensures.tied told)))

pub returns-in-Ok-Some-clause-any_moment : goal.returns-in-Ok-Some-clause-any_moment
returns-in-Ok-Some-clause-any_moment g c = λ told a b all. moments_keep _ c.args.self.now.area _ _ a b all (c.next.ensures.any_moment told)

pub returns-in-Ok-None-clause-next : goal.returns-in-Ok-None-clause-next
returns-in-Ok-None-clause-next g c = λ told files left reads.
    reads_none c.args.self.now _ _ _ files left refl reads _ c.in-Ok-None.field-0-is
    (found_first _ c.args.self.now.area _ _ _ _ _ (map item_of files) left
    (c.in-Ok-None.ensures.next told (map item_of files) left (at_area _ c.args.self.now.area _ _ (map item_of files) left reads.at)))

pub returns-in-Ok-None-clause-tied : goal.returns-in-Ok-None-clause-tied
returns-in-Ok-None-clause-tied g c = λ told. tied_first _ c.args.self.now.area c.next.new.self _ (c.in-Ok-None.ensures.tied told)

pub returns-in-Ok-None-clause-any_moment : goal.returns-in-Ok-None-clause-any_moment
returns-in-Ok-None-clause-any_moment g c = λ told a b all. moments_keep _ c.args.self.now.area _ _ a b all (c.next.ensures.any_moment told)

pub returns-in-Err-clause-any_moment : goal.returns-in-Err-clause-any_moment
returns-in-Err-clause-any_moment g c = λ told a b all. moments_keep _ c.args.self.now.area _ _ a b all (c.next.ensures.any_moment told)

pub returns-in-Ok-Some-clause-seen : goal.returns-in-Ok-Some-clause-seen
returns-in-Ok-Some-clause-seen g c = λ told is.
    let tied = c.requires.tied told in
    (handed c.in-Ok-Some.item _ _ _ _ _ tied.0 tied.1 c.in-Ok-Some.field-0-is
    (found_first _ c.args.self.now.area _ _ _ _ _ tied.0 tied.1
    (c.in-Ok-Some.ensures.next told tied.0 tied.1 (at_area _ c.args.self.now.area _ _ tied.0 tied.1 tied.2)))).1

pub returns-in-Ok-Some-clause-refused : goal.returns-in-Ok-Some-clause-refused
returns-in-Ok-Some-clause-refused g c =
    item_refused g.D.Disk.IsTold c.args.self.now _ (g.D.Disk.told c.next.new.disk).now _ c.in-Ok-Some.item c.taken.result
    (λ told files left reads.
    (handed c.in-Ok-Some.item _ _ _ _ _ (map item_of files) left c.in-Ok-Some.field-0-is
    (found_first _ c.args.self.now.area _ _ _ _ _ (map item_of files) left
    (c.in-Ok-Some.ensures.next told (map item_of files) left (at_area _ c.args.self.now.area _ _ (map item_of files) left reads.at)))).0)
    c.taken.ensures.refused

pub returns-in-Ok-None-clause-ended : goal.returns-in-Ok-None-clause-ended
returns-in-Ok-None-clause-ended g c = λ told is.
    let tied = c.requires.tied told in
    (ended _ _ _ _ _ tied.0 tied.1 c.in-Ok-None.field-0-is
    (found_first _ c.args.self.now.area _ _ _ _ _ tied.0 tied.1
    (c.in-Ok-None.ensures.next told tied.0 tied.1 (at_area _ c.args.self.now.area _ _ tied.0 tied.1 tied.2)))).closed

pub returns-in-Err-clause-refused : goal.returns-in-Err-clause-refused
returns-in-Err-clause-refused g c =
    next_refused g.D.Disk.IsTold c.args.self.now _ _ _ _ c.args.self.now.area _ c.error_of.result c.error_of.ensures c.in-Err.ensures.refused refl
