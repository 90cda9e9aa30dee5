-- Notices that tell those of a history: one more, more after them, and how many they are.
use Rattle.std.proofs.Common.{◌≡◌, ℕ, zero, suc, ◌+◌, ◌-◌, ◌<◌, List, [], ◌∷◌, ◌++◌, length, map, take, drop, get_or, take_all, length-drop, refl, sym, ap, subst, ◌∙◌, arith, append_assoc}
use Rattle.std.proofs.lemmas.List.{map-append}
use Rattle.serde_json.specs.Written.{compact_text}
use Rattle.pm_inventory.specs.Inventory.{InventoryState}
use Rattle.pm_history.specs.Files.{Report}
use Rattle.pm_history.specs.Notices as history
use Rattle.pm_notice.specs.declared.notice.Notice.{Notice}
use Rattle.pm_notice.specs.declared.notice.Crossed.{Crossed}
use Rattle.pm_notice.specs.NoticeForm.{file_ready_form, crossing_form}
use Rattle.pm_notice.specs.NoticeContent.{location_of, file_ready_of, crossing_of}
use Rattle.pm_ready.specs.declared.ready.ReadyFile.{ReadyFile}
use Rattle.pm_ready.specs.Files.{File, AreFilesOf, IsFileOf, element_of, file_of}
use Rattle.pm_notify.specs.Notices.{IsOfFile, IsOfCrossing, IsNoticeOf, AreNoticesFrom}
use Rattle.pm_notify.specs.Tellable.{crossed_in_texts}

module _ (inventory : InventoryState) where
  pub told-many : (n : ℕ) (xs : List history.Notice) (ps : List Notice) → AreNoticesFrom inventory n xs ps → length ps ≡ length xs
  told-many n [] [] are = refl
  told-many n [] (p ∷ ps) are = absurd are
  told-many n (x ∷ xs) [] are = absurd are
  told-many n (x ∷ xs) (p ∷ ps) are = let more = told-many (n + 1) xs ps are.1 in omega (arith, more)

  -- more of them, numbered on
  pub told-append : (n m : ℕ) (xs ys : List history.Notice) (ps qs : List Notice) → n + length xs ≡ m
      → AreNoticesFrom inventory n xs ps → AreNoticesFrom inventory m ys qs → AreNoticesFrom inventory n (xs ++ ys) (ps ++ qs)
  told-append n m [] ys [] qs at first second =
      let same : m ≡ n = omega (arith, at) in subst (λ k. AreNoticesFrom inventory k ys qs) same second
  told-append n m [] ys (p ∷ ps) qs at first second = absurd first
  told-append n m (x ∷ xs) ys [] qs at first second = absurd first
  told-append n m (x ∷ xs) ys (p ∷ ps) qs at first second = (first.0, told-append (n + 1) m xs ys ps qs (omega (arith, at)) first.1 second)

  -- one more of them
  pub told-push : (n m : ℕ) (xs : List history.Notice) (x : history.Notice) (old new : List Notice) (p : Notice) → m ≡ n + length old
      → new ≡ old ++ p ∷ [] → AreNoticesFrom inventory n xs old → IsNoticeOf inventory m x p → AreNoticesFrom inventory n (xs ++ x ∷ []) new
  told-push n m xs x old new p at is are one =
      let many = told-many n xs old are in
      subst (AreNoticesFrom inventory n (xs ++ x ∷ [])) (sym is)
      (told-append n m xs (x ∷ []) old (p ∷ []) (omega (arith, at, many)) are (one, tt))

  -- files of reports, in two parts
  pub files-front : (xs ys : List Report) (fs : List File) → AreFilesOf inventory (xs ++ ys) fs → AreFilesOf inventory xs (take (length xs) fs)
  files-front [] ys fs are = tt
  files-front (x ∷ xs) ys [] are = absurd are
  files-front (x ∷ xs) ys (f ∷ fs) are = (are.0, files-front xs ys fs are.1)

  pub files-back : (xs ys : List Report) (fs : List File) → AreFilesOf inventory (xs ++ ys) fs → AreFilesOf inventory ys (drop (length xs) fs)
  files-back [] ys fs are = are
  files-back (x ∷ xs) ys [] are = absurd are
  files-back (x ∷ xs) ys (f ∷ fs) are = files-back xs ys fs are.1

  pub files-many : (xs : List Report) (fs : List File) → AreFilesOf inventory xs fs → length fs ≡ length xs
  files-many [] [] are = refl
  files-many [] (f ∷ fs) are = absurd are
  files-many (x ∷ xs) [] are = absurd are
  files-many (x ∷ xs) (f ∷ fs) are = let more = files-many xs fs are.1 in omega (arith, more)

  -- one of them, by its place
  pub files-step : (rs : List Report) (fs : List ReadyFile) (i : ℕ) (d : ReadyFile) → AreFilesOf inventory rs (map file_of fs) → i < length fs
      → (r : Report) × (take (suc i) rs ≡ take i rs ++ r ∷ []) × IsFileOf inventory r (file_of (get_or fs i d))
  files-step [] [] i d are lt = absurd (omega (arith, lt))
  files-step [] (f ∷ fs) i d are lt = absurd are
  files-step (r ∷ rs) [] i d are lt = absurd are
  files-step (r ∷ rs) (f ∷ fs) zero d are lt = (r, refl, are.0)
  files-step (r ∷ rs) (f ∷ fs) (suc i) d are lt =
      let more = files-step rs fs i d are.1 (omega (arith, lt)) in
      (more.0, ap (λ l. r ∷ l) more.1, more.2)

  -- ---- what is written tells what is to be told

  pub file-told : (n : ℕ) (report : Report) (f : ReadyFile) (element : List ℕ) (posted : Notice) → element ≡ element_of inventory
      → IsFileOf inventory report (file_of f) → posted.number ≡ n → posted.end ≡ f.info.ready
      → posted.body ≡ compact_text (file_ready_form.tree (file_ready_of n f.info element)) → IsOfFile inventory n report posted
  file-told n report f element posted told_by of number end body =
      let size : f.info.size ≡ length f.text = f.size in
      record {
        file = file_of f;
        of = of;
        number = number;
        end = end ∙ of.ready;
        body = body
            ∙ (λ i. compact_text (file_ready_form.tree (record {
              event = f.info.ready;
              file = record { expires = f.info.ready + 86400; location = location_of f.info.name; ready = f.info.ready; size = size i };
              number = n;
              object = told_by i;
            })));
      }

  pub crossing-told : (n : ℕ) (x : history.Crossed) (c : Crossed) (posted : Notice) → c ≡ crossed_in_texts inventory x → posted.number ≡ n
      → posted.end ≡ c.end → posted.body ≡ compact_text (crossing_form.tree (crossing_of n c)) → IsOfCrossing inventory n x posted
  crossing-told n x c posted is number end body =
      record {
        number = number;
        end = end ∙ ap (λ (c : Crossed). c.end) is;
        body = body ∙ ap (λ (c : Crossed). compact_text (crossing_form.tree (crossing_of n c))) is;
      }

-- one more comes last
pub told_more : {A B : Type 0} (f : A → B) (before : List B) (xs ys : List A) (x : A) → ys ≡ xs ++ x ∷ []
    → (before ++ map f xs) ++ f x ∷ [] ≡ before ++ map f ys
told_more f before xs ys x is =
    append_assoc before (map f xs) (f x ∷ [])
    ∙ ap (λ l. before ++ l) (sym (map-append f xs (x ∷ [])) ∙ ap (map f) (sym is))

-- what is left of a list, up to its end
pub rest_all : {A : Type 0} (n : ℕ) (xs : List A) → take (length xs - n) (drop n xs) ≡ drop n xs
rest_all n xs = let long = length-drop n xs in take_all (length xs - n) (drop n xs) (omega (arith, long))
