use Rattle.std.proofs.Common.{◌≡◌, ◌++◌, codes, subst}
use Rattle.pm_name.specs.FileName.{IsFileName}
use Rattle.pm_name.proofs.FileNameLemmas.{IsFileName-one_text}
use Rattle.pm_name.proofs.NameLemmas.{written-name}
use Rattle.pm_name.proofs.name.FileName.write.Goals as goal

written : (c : goal.After-from_vec) → IsFileName c.from_vec.result c.args.self.now
written c =
    let e : c.from_vec.result ≡ c.in_ok-text.text.items ++ codes "_-" ++ c.self.inside.job ++ codes "_" ++ c.self.inside.unique = cc (c.in_ok-extend_from_slice-3.ensures.items, c.in_ok-push.ensures.items, c.in_ok-extend_from_slice-2.ensures.items, c.in_ok-extend_from_slice.ensures.items) in
    subst (IsFileName c.from_vec.result) c.self.view_is (written-name _ _ _ _ _ _ _ c.in_ok-text.ensures c.self.invariant e)

pub returns-clause-text : goal.returns-clause-text
returns-clause-text c = written c

pub returns-clause-only : goal.returns-clause-only
returns-clause-only c = λ bytes is. IsFileName-one_text bytes c.from_vec.result c.args.self.now is (written c)
