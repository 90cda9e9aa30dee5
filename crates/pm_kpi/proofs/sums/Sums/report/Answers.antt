use Rattle.std.proofs.Common.{◌≡◌, true, List, sym, subst, ◌∙◌}
use Rattle.std.specs.Prelude.{All}
use Rattle.pm_kpi.specs.Key.{key_content}
use Rattle.pm_kpi.specs.Maps.{has_key}
use Rattle.pm_kpi.specs.declared.share.Share.{Share}
use Rattle.pm_kpi.proofs.sums.Sums.report.Goals as goal

pub add_shares-requires : goal.add_shares-requires
add_shares-requires c =
    subst (λ (l : List Share). All (λ (s : Share). has_key c.make_room.new.sums (key_content s.key) ≡ true) l)
    (c.deref.ensures.value ∙ sym c.deref-2.ensures.value) c.in_ok-make_room.ensures.room
