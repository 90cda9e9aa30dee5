-- The file of a name is the one that is found among the files that are ready when the name says.
use Rattle.std.proofs.Common.{◌≡◌, ℕ, zero, suc, ◌<◌, ◌&&◌, Bool, true, false, cond, List, [], ◌∷◌, length, map, get_or, Option, Some, None, refl, sym, ap, subst, ◌∙◌, arith, leb, Contains, bytes_eq}
use Rattle.std.specs.List.{filter, find, AllByRecursion}
use Rattle.std.specs.Option.{option_map}
use Rattle.std.proofs.lemmas.Bool.{le-leb}
use Rattle.std.proofs.lemmas.Slice.Eq.{bytes_eq-Decides}
use Rattle.serde_json.specs.Written.{compact_text}
use Rattle.pm_name.specs.FileName.{FileNameParts, IsFileName}
use Rattle.pm_name.proofs.FileNameLemmas.{IsFileName-one_text}
use Rattle.pm_inventory.specs.Inventory.{InventoryState}
use Rattle.pm_history.specs.History.{History}
use Rattle.pm_history.specs.Files.{Report}
use Rattle.pm_file.specs.ReportForm.{report_form}
use Rattle.pm_file.specs.Name.{report_name}
use Rattle.pm_ready.specs.declared.ready.ReadyFile.{ReadyFile}
use Rattle.pm_ready.specs.Files.{file_of, said_by, AreFilesOf}
use Rattle.pm_ready.specs.Kept.{kept_reports, FilesStand, Serves}
use Rattle.pm_ready.specs.Listing.{is_from, is_to}
use Rattle.pm_ready.proofs.BoolLemmas.{and}

-- what is looked for stands where it may stand
find-among : {A : Type 0} (p q : A → Bool) (xs : List A) → AllByRecursion (λ x. p x ≡ true → q x ≡ true) xs → find p (filter q xs) ≡ find p xs
find-among p q [] then = refl
find-among p q (x ∷ xs) then = by (p x) (q x) refl refl (find-among p q xs then.1)
  where
    by : (b c : Bool) → p x ≡ b → q x ≡ c → find p (filter q xs) ≡ find p xs → find p (cond c (x ∷ filter q xs) (filter q xs)) ≡ cond b (Some x) (find p xs)
    by true true is also more = rw is refl
    by true false is also more = let passes = then.0 is in cc
    by false true is also more = rw is more
    by false false is also more = more

later : (r : Report) (rs : List Report) (x : Report) → Contains rs x → Contains (r ∷ rs) x
later r rs x at = let lt = at.1 in (suc at.0, omega (arith, lt), at.2)

nothing : (o : Option ReadyFile) → option_map (λ (f : ReadyFile). f.text) o ≡ None → o ≡ None
nothing None e = refl
nothing (Some f) e = absurd cc

module _ (inventory : InventoryState) where
  -- a file of this name is ready when the name says
  ready_then : (name : List ℕ) (end : ℕ) (rs : List Report) (fs : List ReadyFile) → ((n : FileNameParts) → IsFileName name n → n.end ≡ end)
      → AreFilesOf inventory rs (map file_of fs)
      → AllByRecursion (λ (f : ReadyFile). bytes_eq f.info.name name ≡ true → (is_from (Some end) f.info.ready && is_to (Some end) f.info.ready) ≡ true) fs
  ready_then name end rs [] says are = tt
  ready_then name end [] (f ∷ fs) says are = absurd are
  ready_then name end (r ∷ rs) (f ∷ fs) says are = (
    λ same.
        let named : IsFileName name (report_name (said_by inventory r)) =
        subst (λ (s : List ℕ). IsFileName s (report_name (said_by inventory r))) ((bytes_eq-Decides f.info.name name).0 same) are.0.named in
        let at = says (report_name (said_by inventory r)) named in
        let ready = are.0.ready in
        and (leb end f.info.ready) (leb f.info.ready end) (le-leb end f.info.ready (omega (arith, at, ready))) (le-leb f.info.ready end (omega (arith, at, ready))),
    ready_then name end rs fs says are.1,
  )

  -- a report in a list has this name and this text
  record IsAmong (rs : List Report) (name text : List ℕ) : Type 0 where
    report : Report
    kept : Contains rs report
    named : IsFileName name (report_name (said_by inventory report))
    written : text ≡ compact_text (report_form.tree (said_by inventory report))

  found : (name text : List ℕ) (rs : List Report) (fs : List ReadyFile) → AreFilesOf inventory rs (map file_of fs)
      → option_map (λ (f : ReadyFile). f.text) (find (λ (f : ReadyFile). bytes_eq f.info.name name) fs) ≡ Some text → IsAmong rs name text
  found name text rs [] are is = absurd cc
  found name text [] (f ∷ fs) are is = absurd are
  found name text (r ∷ rs) (f ∷ fs) are is = by (bytes_eq f.info.name name) refl is (λ at. found name text rs fs are.1 at)
    where
      by : (b : Bool) → bytes_eq f.info.name name ≡ b
          → option_map (λ (g : ReadyFile). g.text) (cond b (Some f) (find (λ (g : ReadyFile). bytes_eq g.info.name name) fs)) ≡ Some text
          → (option_map (λ (g : ReadyFile). g.text) (find (λ (g : ReadyFile). bytes_eq g.info.name name) fs) ≡ Some text → IsAmong rs name text)
          → IsAmong (r ∷ rs) name text
      by true same at rest =
          let whole : f.text ≡ text = cc in
          record {
            report = r;
            kept = (zero, omega arith, refl);
            named = subst (λ (s : List ℕ). IsFileName s (report_name (said_by inventory r))) ((bytes_eq-Decides f.info.name name).0 same) are.0.named;
            written = sym whole ∙ are.0.text;
          }
      by false other at rest =
          let more = rest at in
          record { report = more.report; kept = later r rs more.report more.kept; named = more.named; written = more.written }

  -- no report before this one has the name
  not_found : (name : List ℕ) (rs : List Report) (fs : List ReadyFile) (k : ℕ) (r : Report) → AreFilesOf inventory rs (map file_of fs)
      → find (λ (f : ReadyFile). bytes_eq f.info.name name) fs ≡ None → k < length rs → get_or rs k r ≡ r
      → IsFileName name (report_name (said_by inventory r)) → ⊥
  not_found name [] fs k r are none lt at named = omega arith
  not_found name (s ∷ rs) [] k r are none lt at named = are
  not_found name (s ∷ rs) (f ∷ fs) k r are none lt at named = by (bytes_eq f.info.name name) refl none k lt at (λ j is lt' at'. not_found name rs fs j r are.1 is lt' at' named)
    where
      by : (b : Bool) → bytes_eq f.info.name name ≡ b → cond b (Some f) (find (λ (g : ReadyFile). bytes_eq g.info.name name) fs) ≡ None
          → (k : ℕ) → k < length (s ∷ rs) → get_or (s ∷ rs) k r ≡ r
          → ((j : ℕ) → find (λ (g : ReadyFile). bytes_eq g.info.name name) fs ≡ None → j < length rs → get_or rs j r ≡ r → ⊥) → ⊥
      by true same is k lt at rest = absurd cc
      by false other is (suc k) lt at rest = rest k is (omega (arith, lt)) at
      by false other is zero lt at rest =
          let own : IsFileName name (report_name (said_by inventory s)) = subst (λ (x : Report). IsFileName name (report_name (said_by inventory x))) (sym at) named in
          let same = (bytes_eq-Decides f.info.name name).1 (IsFileName-one_text f.info.name name (report_name (said_by inventory s)) are.0.named own) in
          absurd cc

  -- what is found among the files that are ready when the name says
  pub serves : (h : History) (name : List ℕ) (end : ℕ) (fs : List ReadyFile) (answer : Option (List ℕ)) → FilesStand inventory h (map file_of fs)
      → ((n : FileNameParts) → IsFileName name n → n.end ≡ end)
      → answer ≡ option_map (λ (f : ReadyFile). f.text)
      (find (λ (f : ReadyFile). bytes_eq f.info.name name) (filter (λ (f : ReadyFile). is_from (Some end) f.info.ready && is_to (Some end) f.info.ready) fs))
      → Serves inventory h name answer
  serves h name end fs answer stand says is =
      let among = find-among (λ (f : ReadyFile). bytes_eq f.info.name name) (λ (f : ReadyFile). is_from (Some end) f.info.ready && is_to (Some end) f.info.ready) fs
      (ready_then name end (kept_reports inventory h) fs says stand) in
      by answer (is ∙ ap (option_map (λ (f : ReadyFile). f.text)) among)
    where
      by : (a : Option (List ℕ)) → a ≡ option_map (λ (f : ReadyFile). f.text) (find (λ (f : ReadyFile). bytes_eq f.info.name name) fs) → Serves inventory h name a
      by (Some text) at =
          let among = found name text (kept_reports inventory h) fs stand (sym at) in
          record { report = among.report; kept = among.kept; named = among.named; written = among.written }
      by None at = λ text served.
          not_found name (kept_reports inventory h) fs served.kept.0 served.report stand (nothing (find (λ (f : ReadyFile). bytes_eq f.info.name name) fs) (sym at))
          served.kept.1 served.kept.2 served.named

  -- no file is served under what is no name
  pub serves_none : (h : History) (name : List ℕ) → ((n : FileNameParts) → IsFileName name n → ⊥) → Serves inventory h name None
  serves_none h name none = λ text served. none (report_name (said_by inventory served.report)) served.named
