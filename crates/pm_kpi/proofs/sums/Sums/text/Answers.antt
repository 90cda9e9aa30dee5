use Rattle.std.proofs.Common.{◌≡◌, ◌++◌, List, sym, ap, ◌∙◌}
use Rattle.std.proofs.lemmas.List.{append-nil}
use Rattle.pm_kpi.specs.Ratios.{ratios_of}
use Rattle.pm_kpi.specs.Rows.{shares_of}
use Rattle.pm_kpi.specs.Asked.{asked_for}
use Rattle.pm_kpi.specs.Lines.{entry_lines}
use Rattle.pm_kpi.specs.declared.key.Key.{Key}
use Rattle.pm_kpi.specs.declared.totals.Totals.{Totals}
use Rattle.pm_kpi.proofs.OutputLemmas.{contents, are_keys, lines_are, told}
use Rattle.pm_kpi.proofs.sums.Sums.text.Goals as goal

pub returns : goal.returns
returns c = λ reports begin end stands.
    let asked = asked_for c.args.ratios.now begin end c.args.by in
    let ratios = ratios_of c.args.ratios.now in
    let m = c.args.self.now.map in
    let done : c.loop-key.text.items ≡ entry_lines c.args.by ratios m.entries =
    sym (append-nil c.loop-key.text.items)
    ∙ ap (λ (r : List (Key × Totals)). c.loop-key.text.items ++ entry_lines c.args.by ratios r) (sym c.in-None.ensures.steps.0)
    ∙ c.loop-key.invariant in
    record {
      keys = contents m.entries;
      are = are_keys m (shares_of asked reports) stands.holds c.iter-key-items.ensures.ordered;
      lines = done ∙ lines_are c.args.by ratios m.entries (shares_of asked reports) (told m (shares_of asked reports) stands.holds c.iter-key-items.ensures.found);
    }
