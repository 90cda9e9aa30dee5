use Rattle.std.proofs.Common.{rules, ◌∷◌, [], codes, decimal}
use Rattle.json.specs.Token.{begin_object, end_object, key, number}
use Rattle.pm_form.proofs.WriteLemmas.{more, on_ok}
use Rattle.pm_file.specs.ReportForm.{footer_form}
use Rattle.pm_file.proofs.write.write_footer.Goals as goal

pub returns : goal.returns
unfolding footer_form
returns c =
    let old = c.args.out.now.tokens in
    let s01 = more old (begin_object ∷ []) (key (codes "endTime") ∷ []) (c.in_ok-begin_object.ensures.ok) (c.in_ok-key.ensures.ok) in
    let s02 = more old _ (number (decimal (c.args.end)) ∷ []) s01 (c.in_ok-u64.ensures.ok) in
    record {
      ok = on_ok c.end_object.result (λ last. more old _ (end_object ∷ []) s02 (last)) c.end_object.ensures.ok;
      before = search rules;
    }
