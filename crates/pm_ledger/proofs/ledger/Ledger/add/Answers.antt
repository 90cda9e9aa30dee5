use Rattle.pm_ledger.proofs.StoreLemmas.{of_first, first_of, texts_more, moments_between}
use Rattle.pm_ledger.proofs.ledger.Ledger.add.Goals as goal

pub returns-in-Ok-clause-added : goal.returns-in-Ok-clause-added
returns-in-Ok-clause-added g c = λ told inventory h e adds of.
    let before = of_first _ c.args.self.now.area c.args.self.now _ of.texts _ of.at in
    record {
      texts = _;
      at = first_of _ c.args.self.now.area _ _ _ _ (c.in-Ok.ensures.added told of.texts before);
      has = texts_more inventory of.texts h e c.args.bytes.now of.has adds;
    }

pub returns-in-Ok-clause-any_moment : goal.returns-in-Ok-clause-any_moment
returns-in-Ok-clause-any_moment g c = λ told inventory h e adds of.
    let before = of_first _ c.args.self.now.area c.args.self.now _ of.texts _ of.at in
    moments_between inventory _ c.args.self.now.area _ _ of.texts h e c.args.bytes.now of.has adds (c.append.ensures.any_moment told of.texts before)

pub returns-in-Err-StoreFault-clause-any_moment : goal.returns-in-Err-StoreFault-clause-any_moment
returns-in-Err-StoreFault-clause-any_moment g c = λ told inventory h e adds of.
    let before = of_first _ c.args.self.now.area c.args.self.now _ of.texts _ of.at in
    moments_between inventory _ c.args.self.now.area _ _ of.texts h e c.args.bytes.now of.has adds (c.append.ensures.any_moment told of.texts before)

pub returns-in-Err-StoreFull-clause-any_moment : goal.returns-in-Err-StoreFull-clause-any_moment
returns-in-Err-StoreFull-clause-any_moment g c = λ told inventory h e adds of.
    let before = of_first _ c.args.self.now.area c.args.self.now _ of.texts _ of.at in
    moments_between inventory _ c.args.self.now.area _ _ of.texts h e c.args.bytes.now of.has adds (c.append.ensures.any_moment told of.texts before)
