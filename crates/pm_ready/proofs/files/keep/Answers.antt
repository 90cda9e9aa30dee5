use Rattle.std.proofs.Common.{◌≡◌, ◌∙◌, ℕ, Bool, true, false, cond, List, [], ◌∷◌, map, refl, ap, rules}
use Rattle.std.specs.List.{filter}
use Rattle.std.proofs.lemmas.Fn.{filter_same}
use Rattle.pm_ready.specs.declared.ready.ReadyFile.{ReadyFile}
use Rattle.pm_ready.specs.Files.{File, file_of}
use Rattle.pm_ready.specs.Kept.{lasts}
use Rattle.pm_ready.proofs.files.keep.Goals as goal

map-filter : (moment : ℕ) (fs : List ReadyFile)
    → map file_of (filter (λ (f : ReadyFile). lasts moment f.info.ready) fs) ≡ filter (λ (f : File). lasts moment f.ready) (map file_of fs)
map-filter moment [] = refl
map-filter moment (f ∷ fs) = by (lasts moment f.info.ready) (map-filter moment fs)
  where
    by : (b : Bool) → map file_of (filter (λ (g : ReadyFile). lasts moment g.info.ready) fs) ≡ filter (λ (g : File). lasts moment g.ready) (map file_of fs)
        → map file_of (cond b (f ∷ filter (λ (g : ReadyFile). lasts moment g.info.ready) fs) (filter (λ (g : ReadyFile). lasts moment g.info.ready) fs))
        ≡ cond b (file_of f ∷ filter (λ (g : File). lasts moment g.ready) (map file_of fs)) (filter (λ (g : File). lasts moment g.ready) (map file_of fs))
    by true more = ap (λ l. file_of f ∷ l) more
    by false more = more

pub returns-clause-files : goal.returns-clause-files
returns-clause-files c =
    let same = filter_same _ (λ (f : ReadyFile). lasts c.args.moment f.info.ready) _ (λ x b f' k. search rules) _ _ c.retain.ensures.filtered in
    ap (map file_of) same ∙ map-filter c.args.moment _
