-- What jobs and monitors say of what stands after their history.
use Rattle.std.proofs.Common.{◌≡◌, ℕ, ◌+◌, ◌&&◌, ◌||◌, Bool, true, false, not, cond, List, [], ◌∷◌, filter, length, map, Option, Some, None, refl, sym, ap, ◌∙◌, subst, arith}
use Rattle.std.specs.List.{list_any, AllByRecursion, sum_by}
use Rattle.std.specs.Option.{option_map, is_some}
use Rattle.std.specs.Str.{bytes_eq}
use Rattle.std.specs.Ordering.{nat_cmp, is_eq, match_ordering}
use Rattle.std.specs.declared.cmp.Ordering.{Ordering}
use Rattle.std.specs.declared.cmp.Ordering.TheVariants.{Less, Equal, Greater}
use Rattle.std.specs.Cmp.Lexicographic.{slice_cmp}
use Rattle.std.proofs.lemmas.List.{length-map}
use Rattle.std.proofs.lemmas.List.Sums.{sum_by-cons}
use Rattle.std.proofs.lemmas.Map.Text.{is_eq-slice_cmp}
use Rattle.std.proofs.lemmas.Option.{same_Some}
use Rattle.std.proofs.lemmas.Slice.Eq.{bytes_eq-Decides}
use Rattle.pm_inventory.specs.Inventory.{InventoryState}
use Rattle.pm_history.specs.declared.entry.Side.{Side}
use Rattle.pm_history.specs.declared.entry.Side.TheVariants.{Job, Monitor}
use Rattle.pm_history.specs.declared.entry.Entry.{Entry}
use Rattle.pm_history.specs.declared.entry.Entry.TheVariants.{JobMade, JobState, JobDeleted, MonitorMade, MonitorState, MonitorDeleted}
use Rattle.pm_history.specs.Entry.{moment_of, Change, Made, Moved, Deleted, if_named, change_of}
use Rattle.pm_history.specs.History.{History, Start, ◌▷◌, size}
use Rattle.pm_history.specs.Terms.{Terms}
use Rattle.pm_history.specs.Standing as history
use Rattle.pm_history.specs.Standing.{with_id, without_id, ids_next, ids_after, standing_after, standing_next, after_change, moved}
use Rattle.pm_asked.specs.Asked.{terms_of}
use Rattle.pm_jobs.specs.declared.standing.Standing.{Standing}
use Rattle.pm_jobs.specs.Asked.{Asked, asked_of}
use Rattle.pm_jobs.specs.Plan.{state_under}
use Rattle.pm_jobs.specs.Rules.{stands, standing_at, load_asked}
use Rattle.pm_jobs.specs.State.{JobsState, on, ids, load_of, load_on}
use Rattle.pm_jobs.specs.Stands.{told, told_of, StandsFor, SideStands, Stands}
use Rattle.pm_replay.specs.Rules.{load_of_asked, load_of_standing, load_under, load_after}
use Rattle.pm_replay.proofs.FoundLemmas.{none-standing}

-- ---- ids of a history

same-id : (i j : List ℕ) → bytes_eq i j ≡ bytes_eq j i
same-id i j = by (bytes_eq i j) (bytes_eq j i) refl refl
  where
    by : (a b : Bool) → bytes_eq i j ≡ a → bytes_eq j i ≡ b → bytes_eq i j ≡ bytes_eq j i
    by true true x y = x ∙ sym y
    by false false x y = x ∙ sym y
    by true false x y = absurd (differ (sym ((bytes_eq-Decides j i).1 (sym ((bytes_eq-Decides i j).0 x))) ∙ y))
      where
        differ : true ≡ false → ⊥
        differ is = cc
    by false true x y = absurd (differ (sym ((bytes_eq-Decides i j).1 (sym ((bytes_eq-Decides j i).0 y))) ∙ x))
      where
        differ : true ≡ false → ⊥
        differ is = cc

twice : (a b : Bool) → (a || b) ≡ (a || (a || b))
twice true b = refl
twice false b = refl

swapped : (a b c : Bool) → (b || (a || c)) ≡ (a || (b || c))
swapped true true c = refl
swapped true false c = refl
swapped false b c = refl

any-with_id : (id name : List ℕ) (is : List (List ℕ)) → list_any (bytes_eq id) (with_id name is) ≡ (bytes_eq id name || list_any (bytes_eq id) is)
any-with_id id name [] = refl
any-with_id id name (i ∷ is) = by (slice_cmp nat_cmp name i) refl (any-with_id id name is)
  where
    by : (o : Ordering) → slice_cmp nat_cmp name i ≡ o
        → list_any (bytes_eq id) (with_id name is) ≡ (bytes_eq id name || list_any (bytes_eq id) is)
        → list_any (bytes_eq id) (match_ordering o (name ∷ (i ∷ is)) (i ∷ is) (i ∷ with_id name is))
        ≡ (bytes_eq id name || list_any (bytes_eq id) (i ∷ is))
    by Less at rest = refl
    by Equal at rest =
        let same : name ≡ i = (bytes_eq-Decides name i).0 (sym (is_eq-slice_cmp name i) ∙ ap is_eq at) in
        twice (bytes_eq id i) (list_any (bytes_eq id) is) ∙ ap (λ n. bytes_eq id n || (bytes_eq id i || list_any (bytes_eq id) is)) (sym same)
    by Greater at rest =
        ap (λ b. bytes_eq id i || b) rest ∙ swapped (bytes_eq id name) (bytes_eq id i) (list_any (bytes_eq id) is)

any-without_id : (id name : List ℕ) (is : List (List ℕ)) → list_any (bytes_eq id) (without_id name is) ≡ (not (bytes_eq name id) && list_any (bytes_eq id) is)
any-without_id id name [] = none (bytes_eq name id)
  where
    none : (b : Bool) → false ≡ (not b && false)
    none true = refl
    none false = refl
any-without_id id name (i ∷ is) = by (bytes_eq i name) (bytes_eq name id) refl refl (any-without_id id name is)
  where
    other : (a : Bool) → bytes_eq i name ≡ true → bytes_eq name id ≡ false → bytes_eq id i ≡ a → a ≡ false
    other true one two three = absurd (differ (sym two ∙ (bytes_eq-Decides name id).1 (sym ((bytes_eq-Decides i name).0 one) ∙ sym ((bytes_eq-Decides id i).0 three))))
      where
        differ : false ≡ true → ⊥
        differ is = cc
    other false one two three = refl

    by : (a b : Bool) → bytes_eq i name ≡ a → bytes_eq name id ≡ b
        → list_any (bytes_eq id) (without_id name is) ≡ (not (bytes_eq name id) && list_any (bytes_eq id) is)
        → list_any (bytes_eq id) (cond (not a) (i ∷ without_id name is) (without_id name is)) ≡ (not b && list_any (bytes_eq id) (i ∷ is))
    by true true one two rest = rest ∙ ap (λ c. not c && list_any (bytes_eq id) is) two
    by true false one two rest =
        rest ∙ (ap (λ c. not c && list_any (bytes_eq id) is) two ∙ ap (λ c. c || list_any (bytes_eq id) is) (sym (other (bytes_eq id i) one two refl)))
    by false true one two rest =
        let gone : bytes_eq id i ≡ false = same-id id i ∙ (ap (bytes_eq i) (sym ((bytes_eq-Decides name id).0 two)) ∙ one) in
        ap (λ c. c || list_any (bytes_eq id) (without_id name is)) gone ∙ (rest ∙ ap (λ c. not c && list_any (bytes_eq id) is) two)
    by false false one two rest = ap (λ c. bytes_eq id i || c) (rest ∙ ap (λ c. not c && list_any (bytes_eq id) is) two)

module _ (terms : Side → List ℕ → Terms) where
  made-some : (side : Side) (place moment : ℕ) (old : Option history.Standing) (id name body : List ℕ)
      → is_some (after_change terms side place moment old (if_named id name (Made body))) ≡ (bytes_eq id name || is_some old)
  made-some side place moment old id name body = by (bytes_eq name id) (same-id id name)
    where
      by : (b : Bool) → bytes_eq id name ≡ b → is_some (after_change terms side place moment old (cond b (Some (Made body)) None)) ≡ (bytes_eq id name || is_some old)
      by true is = ap (λ c. c || is_some old) (sym is)
      by false is = ap (λ c. c || is_some old) (sym is)

  moved-some : (side : Side) (place moment : ℕ) (old : Option history.Standing) (id name : List ℕ) (unlocked : Bool)
      → is_some (after_change terms side place moment old (if_named id name (Moved unlocked))) ≡ is_some old
  moved-some side place moment old id name unlocked = by (bytes_eq name id)
    where
      kept : (o : Option history.Standing) → is_some (option_map (moved moment unlocked) o) ≡ is_some o
      kept None = refl
      kept (Some s) = refl

      by : (b : Bool) → is_some (after_change terms side place moment old (cond b (Some (Moved unlocked)) None)) ≡ is_some old
      by true = kept old
      by false = refl

  deleted-some : (side : Side) (place moment : ℕ) (old : Option history.Standing) (id name : List ℕ)
      → is_some (after_change terms side place moment old (if_named id name Deleted)) ≡ (not (bytes_eq name id) && is_some old)
  deleted-some side place moment old id name = by (bytes_eq name id)
    where
      by : (b : Bool) → is_some (after_change terms side place moment old (cond b (Some Deleted) None)) ≡ (not b && is_some old)
      by true = refl
      by false = refl

  -- The ids of a side are those under which something stands.
  pub listed-is : (side : Side) (h : History) (id : List ℕ) → list_any (bytes_eq id) (ids_after side h) ≡ is_some (standing_after terms side h id)
  listed-is side Start id = refl
  listed-is Job (h ▷ JobMade moment name body) id =
      any-with_id id name (ids_after Job h) ∙ (ap (λ b. bytes_eq id name || b) (listed-is Job h id)
      ∙ sym (made-some Job (size h) moment (standing_after terms Job h id) id name body))
  listed-is Job (h ▷ JobState moment name unlocked) id =
      listed-is Job h id ∙ sym (moved-some Job (size h) moment (standing_after terms Job h id) id name unlocked)
  listed-is Job (h ▷ JobDeleted moment name) id =
      any-without_id id name (ids_after Job h) ∙ (ap (λ b. not (bytes_eq name id) && b) (listed-is Job h id)
      ∙ sym (deleted-some Job (size h) moment (standing_after terms Job h id) id name))
  listed-is Monitor (h ▷ MonitorMade moment name body) id =
      any-with_id id name (ids_after Monitor h) ∙ (ap (λ b. bytes_eq id name || b) (listed-is Monitor h id)
      ∙ sym (made-some Monitor (size h) moment (standing_after terms Monitor h id) id name body))
  listed-is Monitor (h ▷ MonitorState moment name unlocked) id =
      listed-is Monitor h id ∙ sym (moved-some Monitor (size h) moment (standing_after terms Monitor h id) id name unlocked)
  listed-is Monitor (h ▷ MonitorDeleted moment name) id =
      any-without_id id name (ids_after Monitor h) ∙ (ap (λ b. not (bytes_eq name id) && b) (listed-is Monitor h id)
      ∙ sym (deleted-some Monitor (size h) moment (standing_after terms Monitor h id) id name))
  listed-is Job (h ▷ e) id = listed-is Job h id
  listed-is Monitor (h ▷ e) id = listed-is Monitor h id

-- ---- jobs and monitors that stand for a history

module _ (inventory : InventoryState) (h : History) where
  side-stands : (side : Side) (jobs : JobsState) → Stands inventory jobs h → SideStands inventory side (on side jobs) h
  side-stands Job jobs is = is.of_jobs
  side-stands Monitor jobs is = is.of_monitors

  pub stands-is : (side : Side) (jobs : JobsState) (id : List ℕ) → Stands inventory jobs h
      → stands jobs side id ≡ is_some (standing_after (terms_of inventory) side h id)
  stands-is side jobs id is =
      ap (list_any (bytes_eq id)) (side-stands side jobs is).listed ∙ listed-is (terms_of inventory) side h id

  pub count-is : (side : Side) (jobs : JobsState) → Stands inventory jobs h → length (on side jobs) ≡ length (ids_after side h)
  count-is side jobs is = sym (length-map (on side jobs) (λ (s : Standing). s.id)) ∙ ap length (side-stands side jobs is).listed

  -- ---- states

  unlocked-told : (o : Option history.Standing) (s : Standing) → option_map told o ≡ Some (told_of s)
      → option_map (λ (x : history.Standing). x.unlocked) o ≡ Some s.unlocked
  unlocked-told None s is = absurd (cc (is))
  unlocked-told (Some x) s is = ap (λ t. Some (t.unlocked)) (same_Some (told x) (told_of s) is)

  none-is : (o : Option history.Standing) → is_some o ≡ false → o ≡ None
  none-is None is = refl
  none-is (Some x) is = absurd (cc (is))

  found-state : (side : Side) (items : List Standing) (id : List ℕ) → AllByRecursion (StandsFor inventory side h) items
      → list_any (bytes_eq id) (ids items) ≡ true
      → option_map (λ (s : Standing). s.unlocked) (standing_at items id)
      ≡ option_map (λ (x : history.Standing). x.unlocked) (standing_after (terms_of inventory) side h id)
  found-state side [] id all any = absurd (cc (any))
  found-state side (s ∷ ss) id all any = by (bytes_eq id s.id) refl any (found-state side ss id all.1)
    where
      by : (b : Bool) → bytes_eq id s.id ≡ b → (b || list_any (bytes_eq id) (ids ss)) ≡ true
          → (list_any (bytes_eq id) (ids ss) ≡ true → option_map (λ (s : Standing). s.unlocked) (standing_at ss id)
          ≡ option_map (λ (x : history.Standing). x.unlocked) (standing_after (terms_of inventory) side h id))
          → option_map (λ (s : Standing). s.unlocked) (cond b (Some s) (standing_at ss id))
          ≡ option_map (λ (x : history.Standing). x.unlocked) (standing_after (terms_of inventory) side h id)
      by true same any rest =
          sym (unlocked-told (standing_after (terms_of inventory) side h s.id) s all.0.told)
          ∙ ap (λ i. option_map (λ (x : history.Standing). x.unlocked) (standing_after (terms_of inventory) side h i)) (sym ((bytes_eq-Decides id s.id).0 same))
      by false other any rest = rest any

  pub state-is : (side : Side) (jobs : JobsState) (id : List ℕ) → Stands inventory jobs h
      → state_under jobs side id ≡ option_map (λ (x : history.Standing). x.unlocked) (standing_after (terms_of inventory) side h id)
  state-is side jobs id is = by (stands jobs side id) refl
    where
      by : (b : Bool) → stands jobs side id ≡ b
          → state_under jobs side id ≡ option_map (λ (x : history.Standing). x.unlocked) (standing_after (terms_of inventory) side h id)
      by true any = found-state side (on side jobs) id (side-stands side jobs is).each any
      by false any =
          let none = none-is (standing_after (terms_of inventory) side h id) (sym (stands-is side jobs id is) ∙ any) in
          ap (option_map (λ (s : Standing). s.unlocked)) (none-standing (on side jobs) id any)
          ∙ sym (ap (option_map (λ (x : history.Standing). x.unlocked)) none)

  -- ---- loads

  load-told : (side : Side) (o : Option history.Standing) (s : Standing) → option_map told o ≡ Some (told_of s)
      → load_of_standing inventory side o ≡ load_of_asked inventory (asked_of side s.body)
  load-told side None s is = absurd (cc (is))
  load-told side (Some x) s is = ap (λ t. load_of_asked inventory (asked_of side (t.body))) (same_Some (told x) (told_of s) is)

  load-each : (side : Side) (items : List Standing) → AllByRecursion (StandsFor inventory side h) items
      → load_of items ≡ sum_by (load_under inventory side h) (ids items)
  load-each side [] all = refl
  load-each side (s ∷ ss) all =
      let own : s.load ≡ load_under inventory side h s.id =
      all.0.keeps.fits.load ∙ (sym (ap (load_of_asked inventory) all.0.keeps.says) ∙ sym (load-told side (standing_after (terms_of inventory) side h s.id) s all.0.told)) in
      let rest = load-each side ss all.1 in
      sum_by-cons (λ (x : Standing). x.load) s ss
      ∙ ((λ i. own i + rest i) ∙ sym (sum_by-cons (load_under inventory side h) s.id (ids ss)))

  pub load-is : (jobs : JobsState) → Stands inventory jobs h → load_on jobs ≡ load_after inventory h
  load-is jobs is =
      let of_jobs = load-each Job jobs.jobs is.of_jobs.each ∙ ap (sum_by (load_under inventory Job h)) is.of_jobs.listed in
      let of_monitors = load-each Monitor jobs.monitors is.of_monitors.each ∙ ap (sum_by (load_under inventory Monitor h)) is.of_monitors.listed in
      λ i. of_jobs i + of_monitors i
