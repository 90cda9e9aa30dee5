use Rattle.std.proofs.Common.{ℕ, List, inl, inr, Err, refl, sym, ap, subst, ◌∙◌}
use Rattle.std.proofs.lemmas.Bool.{false≢true}
use Rattle.pm_collect.specs.declared.error.CollectError.{CollectError}
use Rattle.pm_collect.specs.Maps.{has, HasPlace}
use Rattle.pm_collect.specs.Stored.{IsItem, IsReportOf}
use Rattle.pm_collect.specs.declared.names.Place.{Place}
use Rattle.pm_collect.proofs.ItemLemmas.{same_file}
use Rattle.pm_collect.proofs.PlaceLemmas.{place_is}
use Rattle.pm_collect.proofs.collector.Collector.taken.Goals as goal

pub returns-then-holds-clause-refused : goal.returns-then-holds-clause-refused
returns-then-holds-clause-refused c = (
  refl,
  λ f is report absent.
      let item = subst (λ (b : List ℕ). IsItem b (record { name = c.in-Some.name.now; text = c.in-Some.text.now })) c.as_bytes.ensures c.in-Some.ensures in
      let same = same_file c.args.item.now.bytes f _ is item in
      false≢true (sym absent ∙ ap (has c.args.self.now.names.held) same.0 ∙ sym c.if-holds.ensures),
)

pub returns-in-Err-clause-refused : goal.returns-in-Err-clause-refused
returns-in-Err-clause-refused c = elim (c.in-Err.ensures.no_other) [
  | inl is ↦
      rw is (
        refl,
        λ f item report absent.
            let own = subst (λ (b : List ℕ). IsItem b (record { name = c.in-Some.name.now; text = c.in-Some.text.now })) c.as_bytes.ensures c.in-Some.ensures in
            let same = same_file c.args.item.now.bytes f _ item own in
            c.check_stored.ensures.refused (c.in-Err.is ∙ ap (λ (e : CollectError). Err e) is)
            (subst (λ (n : List ℕ). IsReportOf n c.in-Some.text.now) same.0 (subst (λ (t : List ℕ). IsReportOf f.name t) same.1 report)),
      )
  | inr is ↦ rw is tt
]

pub returns-in-Ok-keep-clause-takes : goal.returns-in-Ok-keep-clause-takes
returns-in-Ok-keep-clause-takes c =
    let own = subst (λ (b : List ℕ). IsItem b (record { name = c.in-Some.name.now; text = c.in-Some.text.now })) c.as_bytes.ensures c.in-Some.ensures in (
      refl,
      record {
        file = record { name = c.in-Some.name.now; text = c.in-Some.text.now };
        is = own;
        report = c.in-Ok.ensures.is;
        free = sym c.if-holds.ensures;
        held = c.in-Ok-keep.ensures.held;
        placed = λ small.
            subst (λ (p : Place). HasPlace c.in-Some.name.now p c.args.self.now.names.held c.keep.new.self.held)
            (place_is c.place_of.result _ _ (c.place_of.ensures.offset small own.fits.name) c.place_of.ensures.size) c.in-Ok-keep.ensures.placed;
        wanted = c.in-Ok-keep.ensures.wanted;
      },
    )
