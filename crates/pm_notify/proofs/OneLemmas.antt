-- Notices that tell the same are the same.
use Rattle.std.proofs.Common.{◌≡◌, ℕ, ◌+◌, List, [], ◌∷◌, ◌++◌, codes, refl, sym, ap, ◌∙◌}
use Rattle.serde_json.specs.Written.{compact_text}
use Rattle.pm_name.specs.Calendar.{Date, IsDateOf}
use Rattle.pm_name.specs.FileName.{FileType, A, C, FileNameParts, IsEndDate, IsFileName, date_text, file_name_text}
use Rattle.pm_name.proofs.CalendarLemmas.{day_number-injective}
use Rattle.pm_inventory.specs.Inventory.{InventoryState}
use Rattle.pm_history.specs.Files.{Report}
use Rattle.pm_history.specs.Notices as history
use Rattle.pm_notice.specs.declared.notice.Notice.{Notice}
use Rattle.pm_notice.specs.NoticeForm.{file_ready_form}
use Rattle.pm_ready.specs.Files.{File, IsFileOf}
use Rattle.pm_notify.specs.Notices.{file_said, IsNoticeOf, AreNoticesFrom}

date-one : (a b : Date) (m : ℕ) → IsDateOf a m → IsDateOf b m → a ≡ b
date-one a b m is other = day_number-injective a b is.is_date other.is_date (is.day_is ∙ sym other.day_is)

end_date-one : (kind : FileType) (end : ℕ) (s t : List ℕ) → IsEndDate kind end s → IsEndDate kind end t → s ≡ t
end_date-one A end s t is other = is ∙ sym other
end_date-one C end s t is other = is.2 ∙ ap (λ (d : Date). date_text d ++ codes ".") (date-one is.0 other.0 end is.1 other.1) ∙ sym other.2

-- a name has one text
name-one : (s t : List ℕ) (n : FileNameParts) → IsFileName s n → IsFileName t n → s ≡ t
name-one s t n is other =
    let first = date-one is.first other.first n.begin is.first_is other.first_is in
    let end_date = end_date-one n.kind n.end is.end_date other.end_date is.end_date_is other.end_date_is in
    is.text ∙ (λ i. file_name_text n (first i) (end_date i)) ∙ sym other.text

module _ (inventory : InventoryState) where
  -- a report has one file
  file-one : (r : Report) (f g : File) → IsFileOf inventory r f → IsFileOf inventory r g → f ≡ g
  file-one r f g is other =
      let name = name-one f.name g.name _ is.named other.named in
      let ready : f.ready ≡ g.ready = is.ready ∙ sym other.ready in
      let text : f.text ≡ g.text = is.text ∙ sym other.text in
      λ i. record { name = name i; ready = ready i; text = text i }

  notice-one : (n : ℕ) (x : history.Notice) (p q : Notice) → IsNoticeOf inventory n x p → IsNoticeOf inventory n x q → p ≡ q
  notice-one n (history.FileReady r) p q is other =
      let file = file-one r is.file other.file is.of other.of in
      let number : p.number ≡ q.number = is.number ∙ sym other.number in
      let end : p.end ≡ q.end = is.end ∙ sym other.end in
      let body : p.body ≡ q.body =
      is.body ∙ ap (λ (f : File). compact_text (file_ready_form.tree (file_said inventory n f))) file ∙ sym other.body in
      λ i. record { number = number i; end = end i; body = body i }
  notice-one n (history.Crossing c) p q is other =
      let number : p.number ≡ q.number = is.number ∙ sym other.number in
      let end : p.end ≡ q.end = is.end ∙ sym other.end in
      let body : p.body ≡ q.body = is.body ∙ sym other.body in
      λ i. record { number = number i; end = end i; body = body i }

  pub notices-one : (n : ℕ) (xs : List history.Notice) (ps qs : List Notice) → AreNoticesFrom inventory n xs ps → AreNoticesFrom inventory n xs qs → ps ≡ qs
  notices-one n [] [] [] are others = refl
  notices-one n [] [] (q ∷ qs) are others = absurd others
  notices-one n [] (p ∷ ps) qs are others = absurd are
  notices-one n (x ∷ xs) [] qs are others = absurd are
  notices-one n (x ∷ xs) (p ∷ ps) [] are others = absurd others
  notices-one n (x ∷ xs) (p ∷ ps) (q ∷ qs) are others =
      let first = notice-one n x p q are.0 others.0 in
      let rest = notices-one (n + 1) xs ps qs are.1 others.1 in
      λ i. first i ∷ rest i
