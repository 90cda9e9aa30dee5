-- The files that a query shows.
use Rattle.std.proofs.Common.{◌≡◌, ◌&&◌, Bool, true, false, cond, List, [], ◌∷◌, map, Result, Ok, Err, IfOk, refl, sym, ap, ◌∙◌}
use Rattle.std.specs.List.{filter}
use Rattle.std.specs.declared.alloc.AllocError.{AllocError}
use Rattle.pm_ready.specs.declared.ready.ReadyFile.{ReadyFile}
use Rattle.pm_ready.specs.declared.query.FileQuery.{FileQuery}
use Rattle.pm_ready.specs.Files.{File, file_of}
use Rattle.pm_ready.specs.Listing.{is_of_type, is_from, is_to, is_shown}

pub none_shown : (query : FileQuery) (fs : List File) → is_of_type query.performance ≡ false → filter (is_shown query) fs ≡ []
none_shown query [] is = refl
none_shown query (f ∷ fs) is =
    let rest = none_shown query fs is in
    (λ i. cond ((is i && is_from query.begin f.ready) && is_to query.end f.ready) (f ∷ filter (is_shown query) fs) (filter (is_shown query) fs)) ∙ rest

pub some_shown : (query : FileQuery) (fs : List ReadyFile) → is_of_type query.performance ≡ true
    → map file_of (filter (λ (f : ReadyFile). is_from query.begin f.info.ready && is_to query.end f.info.ready) fs) ≡ filter (is_shown query) (map file_of fs)
some_shown query [] is = refl
some_shown query (f ∷ fs) is =
    by (is_from query.begin f.info.ready && is_to query.end f.info.ready) (some_shown query fs is)
    ∙ (λ i. cond ((sym is i && is_from query.begin f.info.ready) && is_to query.end f.info.ready) (file_of f ∷ filter (is_shown query) (map file_of fs))
    (filter (is_shown query) (map file_of fs)))
  where
    by : (b : Bool) → map file_of (filter (λ (g : ReadyFile). is_from query.begin g.info.ready && is_to query.end g.info.ready) fs) ≡ filter (is_shown query) (map file_of fs)
        → map file_of (cond b (f ∷ filter (λ (g : ReadyFile). is_from query.begin g.info.ready && is_to query.end g.info.ready) fs)
        (filter (λ (g : ReadyFile). is_from query.begin g.info.ready && is_to query.end g.info.ready) fs))
        ≡ cond b (file_of f ∷ filter (is_shown query) (map file_of fs)) (filter (is_shown query) (map file_of fs))
    by true more = ap (λ l. file_of f ∷ l) more
    by false more = more

pub ok_then : {A : Type 0} (P Q : A → Type 0) (r : Result A AllocError) → IfOk r P → ((a : A) → P a → Q a) → IfOk r Q
ok_then P Q (Ok a) is then = then a is
ok_then P Q (Err e) is then = is
