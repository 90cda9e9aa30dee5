use Rattle.std.proofs.Common.{◌≡◌, ◌∙◌, true, refl, sym}
use Rattle.std.specs.List.{list_all}
use Rattle.pm_dn.specs.Tree as tree
use Rattle.pm_jobs.specs.Asked.{Asked, metrics_of, objects_of}
use Rattle.pm_jobs.specs.Rules.{is_metric, is_measured, is_period, reports}
use Rattle.pm_jobs.specs.Stands.{numbers}
use Rattle.pm_jobs.specs.Wanted.{wanted_content}
use Rattle.pm_jobs.proofs.MadeLemmas.{first, second, third, fourth, fifth, sixth, none, measured_same, load_same}
use Rattle.pm_jobs.proofs.making.made.Goals as goal

pub returns-then-not-metrics_known : goal.returns-then-not-metrics_known
returns-then-not-metrics_known c =
    let inventory = c.args.inventory.now in
    let asked : Asked = wanted_content c.args.wanted in
    let a = list_all (is_metric inventory) asked.metrics in
    let b = list_all (tree.stands inventory.objects) asked.objects in
    let d = list_all (tree.stands inventory.objects) asked.roots in
    let e = list_all (is_measured inventory (objects_of inventory asked)) (metrics_of inventory asked) in
    let f = is_period asked.granularity in
    let g = reports c.args.side asked in
    first a b d e f g (sym c.metrics_known.ensures ∙ c.if-not-metrics_known.true)

pub returns-then-not-objects_known : goal.returns-then-not-objects_known
returns-then-not-objects_known c =
    let inventory = c.args.inventory.now in
    let asked : Asked = wanted_content c.args.wanted in
    let a = list_all (is_metric inventory) asked.metrics in
    let b = list_all (tree.stands inventory.objects) asked.objects in
    let d = list_all (tree.stands inventory.objects) asked.roots in
    let e = list_all (is_measured inventory (objects_of inventory asked)) (metrics_of inventory asked) in
    let f = is_period asked.granularity in
    let g = reports c.args.side asked in
    let x1 : a ≡ true = sym c.metrics_known.ensures ∙ c.if-not-metrics_known.false in
    second a b d e f g x1 (sym c.objects_known.ensures ∙ c.if-not-objects_known.true)

pub returns-then-not-roots_known : goal.returns-then-not-roots_known
returns-then-not-roots_known c =
    let inventory = c.args.inventory.now in
    let asked : Asked = wanted_content c.args.wanted in
    let a = list_all (is_metric inventory) asked.metrics in
    let b = list_all (tree.stands inventory.objects) asked.objects in
    let d = list_all (tree.stands inventory.objects) asked.roots in
    let e = list_all (is_measured inventory (objects_of inventory asked)) (metrics_of inventory asked) in
    let f = is_period asked.granularity in
    let g = reports c.args.side asked in
    let x1 : a ≡ true = sym c.metrics_known.ensures ∙ c.if-not-metrics_known.false in
    let x2 : b ≡ true = sym c.objects_known.ensures ∙ c.if-not-objects_known.false in
    third a b d e f g x1 x2 (sym c.roots_known.ensures ∙ c.if-not-roots_known.true)

pub object_numbers-requires : goal.object_numbers-requires
object_numbers-requires c = rw c.deref-3.ensures.value (sym c.roots_known.ensures ∙ c.if-not-roots_known.false)

pub returns-then-not-are_measured : goal.returns-then-not-are_measured
returns-then-not-are_measured c =
    let inventory = c.args.inventory.now in
    let asked : Asked = wanted_content c.args.wanted in
    let a = list_all (is_metric inventory) asked.metrics in
    let b = list_all (tree.stands inventory.objects) asked.objects in
    let d = list_all (tree.stands inventory.objects) asked.roots in
    let e = list_all (is_measured inventory (objects_of inventory asked)) (metrics_of inventory asked) in
    let f = is_period asked.granularity in
    let g = reports c.args.side asked in
    let x1 : a ≡ true = sym c.metrics_known.ensures ∙ c.if-not-metrics_known.false in
    let x2 : b ≡ true = sym c.objects_known.ensures ∙ c.if-not-objects_known.false in
    let x3 : d ≡ true = sym c.roots_known.ensures ∙ c.if-not-roots_known.false in
    let ms : c.in_ok-metrics.metrics.items ≡ numbers (metrics_of inventory asked) = rw c.deref.ensures.value at c.in_ok-metrics.ensures.numbers in
    let os : c.in_ok-objects.objects.items ≡ objects_of inventory asked = rw (c.deref-2.ensures.value, c.deref-3.ensures.value) at c.in_ok-objects.ensures.numbers in
    let em = measured_same inventory asked c.deref-4.result.now c.deref-5.result.now (c.deref-4.ensures.value ∙ ms) (c.deref-5.ensures.value ∙ os) in
    fourth a b d e f g x1 x2 x3 (em ∙ sym c.are_measured.ensures ∙ c.if-not-are_measured.true)

pub returns-then-not-is_period : goal.returns-then-not-is_period
returns-then-not-is_period c =
    let inventory = c.args.inventory.now in
    let asked : Asked = wanted_content c.args.wanted in
    let a = list_all (is_metric inventory) asked.metrics in
    let b = list_all (tree.stands inventory.objects) asked.objects in
    let d = list_all (tree.stands inventory.objects) asked.roots in
    let e = list_all (is_measured inventory (objects_of inventory asked)) (metrics_of inventory asked) in
    let f = is_period asked.granularity in
    let g = reports c.args.side asked in
    let x1 : a ≡ true = sym c.metrics_known.ensures ∙ c.if-not-metrics_known.false in
    let x2 : b ≡ true = sym c.objects_known.ensures ∙ c.if-not-objects_known.false in
    let x3 : d ≡ true = sym c.roots_known.ensures ∙ c.if-not-roots_known.false in
    let ms : c.in_ok-metrics.metrics.items ≡ numbers (metrics_of inventory asked) = rw c.deref.ensures.value at c.in_ok-metrics.ensures.numbers in
    let os : c.in_ok-objects.objects.items ≡ objects_of inventory asked = rw (c.deref-2.ensures.value, c.deref-3.ensures.value) at c.in_ok-objects.ensures.numbers in
    let em = measured_same inventory asked c.deref-4.result.now c.deref-5.result.now (c.deref-4.ensures.value ∙ ms) (c.deref-5.ensures.value ∙ os) in
    let x4 : e ≡ true = em ∙ sym c.are_measured.ensures ∙ c.if-not-are_measured.false in
    fifth a b d e f g x1 x2 x3 x4 (sym c.is_period.ensures ∙ c.if-not-is_period.true)

pub returns-then-not-reports : goal.returns-then-not-reports
returns-then-not-reports c =
    let inventory = c.args.inventory.now in
    let asked : Asked = wanted_content c.args.wanted in
    let a = list_all (is_metric inventory) asked.metrics in
    let b = list_all (tree.stands inventory.objects) asked.objects in
    let d = list_all (tree.stands inventory.objects) asked.roots in
    let e = list_all (is_measured inventory (objects_of inventory asked)) (metrics_of inventory asked) in
    let f = is_period asked.granularity in
    let g = reports c.args.side asked in
    let x1 : a ≡ true = sym c.metrics_known.ensures ∙ c.if-not-metrics_known.false in
    let x2 : b ≡ true = sym c.objects_known.ensures ∙ c.if-not-objects_known.false in
    let x3 : d ≡ true = sym c.roots_known.ensures ∙ c.if-not-roots_known.false in
    let ms : c.in_ok-metrics.metrics.items ≡ numbers (metrics_of inventory asked) = rw c.deref.ensures.value at c.in_ok-metrics.ensures.numbers in
    let os : c.in_ok-objects.objects.items ≡ objects_of inventory asked = rw (c.deref-2.ensures.value, c.deref-3.ensures.value) at c.in_ok-objects.ensures.numbers in
    let em = measured_same inventory asked c.deref-4.result.now c.deref-5.result.now (c.deref-4.ensures.value ∙ ms) (c.deref-5.ensures.value ∙ os) in
    let x4 : e ≡ true = em ∙ sym c.are_measured.ensures ∙ c.if-not-are_measured.false in
    let x5 : f ≡ true = sym c.is_period.ensures ∙ c.if-not-is_period.false in
    sixth a b d e f g x1 x2 x3 x4 x5 (sym c.reports.ensures ∙ c.if-not-reports.true)

pub returns : goal.returns
returns c =
    let inventory = c.args.inventory.now in
    let asked : Asked = wanted_content c.args.wanted in
    let a = list_all (is_metric inventory) asked.metrics in
    let b = list_all (tree.stands inventory.objects) asked.objects in
    let d = list_all (tree.stands inventory.objects) asked.roots in
    let e = list_all (is_measured inventory (objects_of inventory asked)) (metrics_of inventory asked) in
    let f = is_period asked.granularity in
    let g = reports c.args.side asked in
    let x1 : a ≡ true = sym c.metrics_known.ensures ∙ c.if-not-metrics_known.false in
    let x2 : b ≡ true = sym c.objects_known.ensures ∙ c.if-not-objects_known.false in
    let x3 : d ≡ true = sym c.roots_known.ensures ∙ c.if-not-roots_known.false in
    let ms : c.in_ok-metrics.metrics.items ≡ numbers (metrics_of inventory asked) = rw c.deref.ensures.value at c.in_ok-metrics.ensures.numbers in
    let os : c.in_ok-objects.objects.items ≡ objects_of inventory asked = rw (c.deref-2.ensures.value, c.deref-3.ensures.value) at c.in_ok-objects.ensures.numbers in
    let em = measured_same inventory asked c.deref-4.result.now c.deref-5.result.now (c.deref-4.ensures.value ∙ ms) (c.deref-5.ensures.value ∙ os) in
    let x4 : e ≡ true = em ∙ sym c.are_measured.ensures ∙ c.if-not-are_measured.false in
    let x5 : f ≡ true = sym c.is_period.ensures ∙ c.if-not-is_period.false in
    let x6 : g ≡ true = sym c.reports.ensures ∙ c.if-not-reports.false in
    let total = load_same inventory asked asked.granularity c.deref-7.result.now c.deref-8.result.now refl (c.deref-7.ensures.value ∙ ms) (c.deref-8.ensures.value ∙ os) in (
      none a b d e f g x1 x2 x3 x4 x5 x6,
      record {
        named = c.in_ok-from_slice.ensures;
        body = refl;
        unlocked = refl;
        changed = refl;
        armed = refl;
        fits = record {
          granularity = refl;
          period = x5;
          reporting = refl;
          metrics = ms;
          objects = os;
          limits = rw c.deref-6.ensures.value at c.in_ok-limits.ensures;
          load = c.load-load.ensures.load ∙ total;
        };
      },
    )
