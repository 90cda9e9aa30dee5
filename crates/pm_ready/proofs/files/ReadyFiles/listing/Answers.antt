use Rattle.std.proofs.Common.{◌∙◌, List, map, sym, ap, subst}
use Rattle.pm_ready.specs.declared.ready.ReadyFile.{ReadyFile}
use Rattle.pm_ready.specs.Files.{File, file_of}
use Rattle.pm_ready.specs.Kept.{FilesState, FilesStand}
use Rattle.pm_ready.specs.Listing.{listing_of, IsListing}
use Rattle.pm_ready.proofs.OrderLemmas.{in_order}
use Rattle.pm_ready.proofs.ListLemmas.{none_shown, some_shown, ok_then}
use Rattle.pm_ready.proofs.files.ReadyFiles.listing.Goals as goal

pub returns-then-not-is_of_type : goal.returns-then-not-is_of_type
returns-then-not-is_of_type c = record {
  listing = λ inventory h stand.
      let none = none_shown c.args.query.now c.args.self.now.files (sym c.is_of_type.ensures ∙ c.if-not-is_of_type.true) in
      ok_then _ (λ text. IsListing inventory h c.args.query.now text) c.listing_of.result c.listing_of.ensures (λ text is.
      record { files = c.args.self.now.files; stand = stand; written = is ∙ ap listing_of (sym none) });
}

pub returns : goal.returns
returns c = record {
  listing = λ inventory h stand.
      let query = c.args.query.now in
      let items : List ReadyFile = c.self.inside.files.items in
      let view = ap (λ (s : FilesState). s.files) (sym c.self.view_is) in
      let own : FilesStand inventory h (map file_of items) = subst (λ (fs : List File). FilesStand inventory h fs) view stand in
      let within = rw c.deref.ensures.value at c.between.ensures in
      let is = within (in_order inventory h items own) in
      let some = some_shown query items (sym c.is_of_type.ensures ∙ c.if-not-is_of_type.false) in
      ok_then _ (λ text. IsListing inventory h query text) c.listing_of-2.result c.listing_of-2.ensures (λ text at.
      record { files = map file_of items; stand = own; written = at ∙ ap (λ (l : List ReadyFile). listing_of (map file_of l)) is ∙ ap listing_of some });
}
