use Rattle.std.proofs.Common.{◌+◌, ◌∷◌, ◌∙◌, ap, sym, drop, Option, Vec, refl, subst, arith}
use Rattle.std.proofs.lemmas.Result.{err_from_is_err_and}
use Rattle.std.specs.declared.alloc.Global.{Global}
use Rattle.std.specs.Prelude.{ℕ}
use Rattle.pm_disk.specs.Moments.{Told, of}
use Rattle.pm_journal.specs.Reading.{IsItemOrCutShort}
use Rattle.pm_journal.proofs.ReadingLemmas.{is_open_gate, refuses_from_gate}
use Rattle.pm_journal.proofs.reading.find.Goals as goal

pub returns-in-Some-clause-found : goal.returns-in-Some-clause-found
returns-in-Some-clause-found g c = λ told.
    let seen = (of (g.D.Disk.told c.args.disk.now).now c.args.area).seen in
    let found = subst (λ (t : Told). IsItemOrCutShort (drop (c.args.at + 1) (of t.now c.args.area).seen) c.in_ok-bytes.field-0) (c.read.ensures.told told) (c.in_ok-bytes.ensures.item told) in
    let item = subst (λ (o : Option (Vec ℕ Global)). IsItemOrCutShort (drop (c.args.at + 1) seen) o) c.in-Some.is found in
    record {
      after_gate = drop (c.args.at + 1) seen;
      after_item = item.0;
      is = is_open_gate seen _ c.args.at (omega (arith, c.requires.told told, c.requires.inside)) (c.in_ok-read.ensures.bytes told) c.if-gate-ne-OPEN.false;
      found = item.1;
    }

pub returns-in-None-clause-refused : goal.returns-in-None-clause-refused
returns-in-None-clause-refused g c = (
  refl,
  λ told.
      let seen = (of (g.D.Disk.told c.args.disk.now).now c.args.area).seen in
      let found = subst (λ (t : Told). IsItemOrCutShort (drop (c.args.at + 1) (of t.now c.args.area).seen) c.in_ok-bytes.field-0) (c.read.ensures.told told) (c.in_ok-bytes.ensures.item told) in
      record {
        after_gate = drop (c.args.at + 1) seen;
        is = is_open_gate seen _ c.args.at (omega (arith, c.requires.told told, c.requires.inside)) (c.in_ok-read.ensures.bytes told) c.if-gate-ne-OPEN.false;
        cut_short = subst (λ (o : Option (Vec ℕ Global)). IsItemOrCutShort (drop (c.args.at + 1) seen) o) c.in-None.is found;
      },
)

pub returns-in_err-bytes-clause-refused : goal.returns-in_err-bytes-clause-refused
returns-in_err-bytes-clause-refused g c =
    let seen = (of (g.D.Disk.told c.args.disk.now).now c.args.area).seen in
    let e = err_from_is_err_and c.from_residual-in_err-bytes.result c.from_residual-in_err-bytes.ensures.1 in
    rw (e.1, e.2) (refuses_from_gate g.D.Disk.IsTold c.args.at _ _ c.in_err-bytes.field-0.0 (λ told.
    is_open_gate seen _ c.args.at (omega (arith, c.requires.told told, c.requires.inside)) (c.in_ok-read.ensures.bytes told) c.if-gate-ne-OPEN.false
    ∙ sym (ap (λ (t : Told). 1 ∷ drop (c.args.at + 1) (of t.now c.args.area).seen) (c.read.ensures.told told))) c.in_err-bytes.ensures.refused)
