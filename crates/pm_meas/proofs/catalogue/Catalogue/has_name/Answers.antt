use Rattle.std.proofs.Common.{◌<◌, length, rules}
use Rattle.pm_meas.proofs.CatalogueLemmas.{name_decides}
use Rattle.pm_meas.proofs.catalogue.Catalogue.has_name.Goals as goal

pub returns : goal.returns
returns c =
    let within : c.args.metric < length c.self.inside.defs.items = search rules in
    name_decides _ c.self.inside.defs.items _ c.index-def.result.now _ _ _ c.self.view_is within c.index-def.ensures c.as_bytes.ensures.value c.is_same.ensures
