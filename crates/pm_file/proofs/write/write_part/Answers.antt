use Rattle.std.proofs.Common.{rules, ◌∷◌, [], codes, decimal, map, ◌-◌}
use Rattle.json.specs.Token.{begin_object, end_object, key, number}
use Rattle.json.specs.Tree.{json_tokens}
use Rattle.serde_json.specs.Written.{outline}
use Rattle.pm_form.specs.Lists.{list_of}
use Rattle.pm_form.proofs.WriteLemmas.{more, on_ok}
use Rattle.pm_file.specs.ReportForm.{part_form, group_form}
use Rattle.pm_file.specs.Report.{group_content, part_content}
use Rattle.pm_file.proofs.WriteLemmas.{part_groups}
use Rattle.pm_file.proofs.write.write_part.Goals as goal

pub write_groups-requires : goal.write_groups-requires
write_groups-requires c = rw c.deref.ensures.value (part_groups (part_content c.args.part.now) c.requires)

pub returns : goal.returns
unfolding part_form
returns c =
    let old = c.args.out.now.tokens in
    let s01 = more old (begin_object ∷ []) (key (codes "beginTime") ∷ []) (c.in_ok-begin_object.ensures.ok) (c.in_ok-key.ensures.ok) in
    let s02 = more old _ (number (decimal (c.args.part.now.begin)) ∷ []) s01 (c.in_ok-u64.ensures.ok) in
    let s03 = more old _ (key (codes "endTime") ∷ []) s02 (c.in_ok-key-2.ensures.ok) in
    let s04 = more old _ (number (decimal (c.args.part.now.end)) ∷ []) s03 (c.in_ok-u64-2.ensures.ok) in
    let s05 = more old _ (key (codes "granularityPeriod") ∷ []) s04 (c.in_ok-key-3.ensures.ok) in
    let s06 = more old _ (number (decimal (c.args.part.now.end - c.args.part.now.begin)) ∷ []) s05 (rw c.saturating_sub.ensures at c.in_ok-u64-3.ensures.ok) in
    let s07 = more old _ (key (codes "measInfo") ∷ []) s06 (c.in_ok-key-4.ensures.ok) in
    let s08 = more old _ (json_tokens (outline ((list_of group_form).tree (map group_content c.args.part.now.groups.items)))) s07 (rw c.deref.ensures.value at c.in_ok-write_groups.ensures.ok) in
    record {
      ok = on_ok c.end_object.result (λ last. more old _ (end_object ∷ []) s08 (last)) c.end_object.ensures.ok;
      before = search rules;
    }
