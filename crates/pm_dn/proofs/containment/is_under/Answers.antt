use Rattle.std.proofs.Common.{◌≡◌, ◌∙◌, ◌<◌, ◌++◌, Some, None, length, sym, arith}
use Rattle.std.proofs.lemmas.Bool.Decides.{Decides-eqb, nat_tests}
use Rattle.std.proofs.lemmas.Slice.Eq.{strip_prefix_is}
use Rattle.pm_dn.proofs.PrefixLemmas.{under-end, under-more, is_under-none}
use Rattle.pm_dn.proofs.containment.is_under.Goals as goal

pub returns-then-is_empty : goal.returns-then-is_empty
returns-then-is_empty c =
    let whole : c.args.name.now ≡ c.args.root.now ++ c.in-Some.rest.now = strip_prefix_is Decides-eqb c.args.name.now c.args.root.now (Some c.in-Some.rest) c.in-Some.ensures.cases in
    let empty : length c.in-Some.rest.now ≡ 0 = (Decides-eqb _ 0).0 (sym c.if-is_empty.ensures) in
    c.if-is_empty.true ∙ sym (under-end c.args.root.now c.args.name.now c.in-Some.rest.now whole empty)

pub returns-else-is_empty : goal.returns-else-is_empty
returns-else-is_empty c =
    let whole : c.args.name.now ≡ c.args.root.now ++ c.in-Some.rest.now = strip_prefix_is Decides-eqb c.args.name.now c.args.root.now (Some c.in-Some.rest) c.in-Some.ensures.cases in
    let some : 0 < length c.in-Some.rest.now = grind (arith, nat_tests, c.if-is_empty.ensures) in
    under-more c.args.root.now c.args.name.now c.in-Some.rest.now c.requires.root_named c.requires.named whole some

pub returns-in-None : goal.returns-in-None
returns-in-None c =
    sym (is_under-none c.args.root.now c.args.name.now c.requires.root_named c.requires.named (strip_prefix_is Decides-eqb c.args.name.now c.args.root.now None c.in-None.ensures.cases))
