-- Nothing follows from a history before its least moment.
use Rattle.std.proofs.Common.{◌≡◌, ℕ, ◌+◌, ◌-◌, ◌*◌, ◌≤◌, List, [], ◌++◌, map, refl, ap, ◌∙◌, arith, le-ltb, ltb}
use Rattle.std.proofs.lemmas.Bool.{cond-false}
use Rattle.std.specs.List.{flat_map}
use Rattle.pm_base.specs.Moment.{tick_of}
use Rattle.pm_history.specs.declared.entry.Side.{Side}
use Rattle.pm_history.specs.declared.entry.Side.TheVariants.{Job, Monitor}
use Rattle.pm_history.specs.Entry.{moment_of}
use Rattle.pm_history.specs.History.{History, Start, ◌▷◌, last_moment, before}
use Rattle.pm_history.specs.Terms.{Terms}
use Rattle.pm_history.specs.Ticks.{behind}
use Rattle.pm_history.specs.Standing.{standing_after, ids_after}
use Rattle.pm_history.specs.Files.{file_of, files_at, files_of}
use Rattle.pm_history.specs.Notices.{crossings_of, notices_at, notices_of, FileReady, Crossing}
use Rattle.pm_history.proofs.TickLemmas.{behind-add, behind-none}
use Rattle.pm_slow.specs.First.{IsFrom}

pub IsFrom-le : (m n : ℕ) (h : History) → m ≤ n → IsFrom n h → IsFrom m h
IsFrom-le m n Start le from = tt
IsFrom-le m n (h ▷ e) le from = let at = from.1 in (IsFrom-le m n h le from.0, omega arith)

before-none : (m n : ℕ) (h : History) → IsFrom m h → n ≤ m → before n h ≡ Start
before-none m n Start from le = refl
before-none m n (h ▷ e) from le =
    let at = from.1 in
    cond-false (ltb (moment_of e) n) (h ▷ e) (before n h) (le-ltb (moment_of e) n (omega arith)) ∙ before-none m n h from.0 le

module _ (terms : Side → List ℕ → Terms) where
  files_at-none : (m end : ℕ) (h : History) → IsFrom m h → end ≤ tick_of m → files_at terms h end ≡ []
  files_at-none m end h from le =
      ap (λ g. flat_map (λ id. file_of terms h id end (standing_after terms Job g id)) (ids_after Job g)) (before-none m (60 * end) h from (omega arith))

  notices_at-none : (m end : ℕ) (h : History) → IsFrom m h → end ≤ tick_of m → notices_at terms h end ≡ []
  notices_at-none m end h from le =
      let begun = before-none m (60 * end) h from (omega arith) in
      let files = files_at-none m end h from le in
      (λ i. map FileReady (files i) ++ map Crossing (flat_map (λ id. crossings_of terms h id end (standing_after terms Monitor (begun i) id)) (ids_after Monitor (begun i))))

  -- all files stand behind the tick of the least moment
  pub files_of-from : (m : ℕ) (h : History) → IsFrom m h → m ≤ last_moment h
      → files_of terms h ≡ behind (files_at terms h) (tick_of m) (tick_of (last_moment h) - tick_of m)
  files_of-from m h from le =
      let first = tick_of m in
      let more = tick_of (last_moment h) - tick_of m in
      let n : tick_of (last_moment h) ≡ first + more = omega arith in
      let at : 0 + first ≡ first = omega arith in
      let none = behind-none (files_at terms h) 0 first (λ k lt lie. files_at-none m k h from (omega arith)) in
      ap (behind (files_at terms h) 0) n ∙ (behind-add (files_at terms h) 0 first more ∙ (λ i. none i ++ behind (files_at terms h) (at i) more))

  -- all notices stand behind the tick of the least moment
  pub notices_of-from : (m : ℕ) (h : History) → IsFrom m h → m ≤ last_moment h
      → notices_of terms h ≡ behind (notices_at terms h) (tick_of m) (tick_of (last_moment h) - tick_of m)
  notices_of-from m h from le =
      let first = tick_of m in
      let more = tick_of (last_moment h) - tick_of m in
      let n : tick_of (last_moment h) ≡ first + more = omega arith in
      let at : 0 + first ≡ first = omega arith in
      let none = behind-none (notices_at terms h) 0 first (λ k lt lie. notices_at-none m k h from (omega arith)) in
      ap (behind (notices_at terms h) 0) n ∙ (behind-add (notices_at terms h) 0 first more ∙ (λ i. none i ++ behind (notices_at terms h) (at i) more))
