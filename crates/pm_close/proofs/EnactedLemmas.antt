-- Plans of monitors, each at the place of its monitor.
use Rattle.std.proofs.Common.{◌≡◌, ◌<◌, ◌+◌, ◌++◌, ℕ, zero, suc, List, [], ◌∷◌, length, set, take, get_or, refl, sym, ap, subst, ◌∙◌, arith, inl, inr}
use Rattle.std.proofs.lemmas.Bool.{cases_lt}
use Rattle.std.proofs.lemmas.List.{get_or-set_other, take_more, length-take}
use Rattle.std.proofs.lemmas.Grind.{get_or-set_at}
use Rattle.pm_close.specs.declared.open_monitors.KeptMonitor.{KeptMonitor}
use Rattle.pm_close.specs.declared.open_monitors_plan.MonitorPlan.{MonitorPlan}
use Rattle.pm_close.specs.MonitorPlans.{enacted, all_enacted}

pub length-enacted : (ms : List KeptMonitor) (ps : List MonitorPlan) → length (all_enacted ms ps) ≡ length ms
length-enacted [] ps = refl
length-enacted (m ∷ ms) [] = refl
length-enacted (m ∷ ms) (p ∷ ps) = let rest = length-enacted ms ps in omega (arith, rest)

pub enacted-at : (ms : List KeptMonitor) (ps : List MonitorPlan) (k : ℕ) (d e : KeptMonitor) (p : MonitorPlan) → length ps ≡ length ms
    → k < length ms → get_or (all_enacted ms ps) k d ≡ enacted (get_or ms k e) (get_or ps k p)
enacted-at [] ps k d e p many lt = absurd (omega (arith, lt))
enacted-at (m ∷ ms) [] k d e p many lt = absurd (omega (arith, many))
enacted-at (m ∷ ms) (q ∷ ps) zero d e p many lt = refl
enacted-at (m ∷ ms) (q ∷ ps) (suc k) d e p many lt = enacted-at ms ps k d e p (omega (arith, many)) (omega (arith, lt))

enacted-set : (ms : List KeptMonitor) (ps : List MonitorPlan) (k : ℕ) (e : KeptMonitor) (p : MonitorPlan) → length ps ≡ length ms
    → k < length ms → all_enacted ms (set ps k p) ≡ set (all_enacted ms ps) k (enacted (get_or ms k e) p)
enacted-set [] ps k e p many lt = absurd (omega (arith, lt))
enacted-set (m ∷ ms) [] k e p many lt = absurd (omega (arith, many))
enacted-set (m ∷ ms) (q ∷ ps) zero e p many lt = refl
enacted-set (m ∷ ms) (q ∷ ps) (suc k) e p many lt =
    ap (λ l. enacted m q ∷ l) (enacted-set ms ps k e p (omega (arith, many)) (omega (arith, lt)))

-- the plan at a place that was not stepped yet
pub enacted-there : (ms : List KeptMonitor) (ps now : List MonitorPlan) (k : ℕ) (m : KeptMonitor) (p : MonitorPlan) → length ps ≡ length ms
    → k < length ms → m ≡ get_or ms k m → get_or now k p ≡ get_or ps k p
    → get_or (all_enacted ms ps) k m ≡ enacted m (get_or now k p)
enacted-there ms ps now k m p many lt is later =
    enacted-at ms ps k m m p many lt ∙ (λ i. enacted (sym is i) (sym later i))

-- one more plan is stepped
pub enacted-next : (ms : List KeptMonitor) (now : List MonitorPlan) (k : ℕ) (m : KeptMonitor) (p : MonitorPlan) → length now ≡ length ms
    → k < length ms → m ≡ get_or ms k m → all_enacted ms (set now k p) ≡ set (all_enacted ms now) k (enacted m p)
enacted-next ms now k m p many lt is =
    enacted-set ms now k m p many lt ∙ ap (λ (x : KeptMonitor). set (all_enacted ms now) k (enacted x p)) (sym is)

-- a fact of those before a place, by place, and of what comes into it
pub fact-more-at : {X : Type 0} (P : ℕ → X → Type 0) (now : List X) (k : ℕ) (new : X) → k < length now → P k new
    → ((j : ℕ) (d : X) → j < k → P j (get_or now j d))
    → (j : ℕ) (d : X) → j < k + 1 → P j (get_or (set now k new) j d)
fact-more-at P now k new room is before j d lt =
    elim (cases_lt j k) [
      | inl below ↦ subst (P j) (sym (get_or-set_other now k j new d (omega arith))) (before j d below)
      | inr past ↦
          let at : k ≡ j = omega (arith, past, lt) in
          subst (λ n. P n (get_or (set now k new) n d)) at (subst (P k) (sym (get_or-set_at now k k new d refl room)) is)
    ]

enacted-push : (ms : List KeptMonitor) (ps : List MonitorPlan) (m : KeptMonitor) (p : MonitorPlan) → length ps ≡ length ms
    → all_enacted (ms ++ m ∷ []) (ps ++ p ∷ []) ≡ all_enacted ms ps ++ enacted m p ∷ []
enacted-push [] [] m p many = refl
enacted-push [] (q ∷ ps) m p many = absurd (omega (arith, many))
enacted-push (n ∷ ms) [] m p many = absurd (omega (arith, many))
enacted-push (n ∷ ms) (q ∷ ps) m p many = ap (λ l. enacted n q ∷ l) (enacted-push ms ps m p (omega (arith, many)))

-- one more plan with which nothing changes
pub same-more : (ms : List KeptMonitor) (k : ℕ) (m : KeptMonitor) (ps new : List MonitorPlan) (p : MonitorPlan) → k < length ms
    → m ≡ get_or ms k m → length ps ≡ k → new ≡ ps ++ p ∷ [] → enacted m p ≡ m → all_enacted (take k ms) ps ≡ take k ms
    → all_enacted (take (k + 1) ms) new ≡ take (k + 1) ms
same-more ms k m ps new p lt at many is own before =
    let more : take (k + 1) ms ≡ take k ms ++ m ∷ [] = take_more ms k m lt ∙ ap (λ x. take k ms ++ x ∷ []) (sym at) in
    let long : length ps ≡ length (take k ms) = omega (arith, many, lt, length-take k ms) in
    (λ i. all_enacted (more i) (is i))
    ∙ enacted-push (take k ms) ps m p long
    ∙ (λ i. before i ++ own i ∷ [])
    ∙ sym more

-- one more plan is enacted
pub enact-more : (ms : List KeptMonitor) (ps : List MonitorPlan) (now : List KeptMonitor) (plans : List MonitorPlan) (k : ℕ)
    (m new : KeptMonitor) (p : MonitorPlan) → length ps ≡ length ms → length now ≡ length ms → k < length ms
    → new ≡ enacted (get_or now k m) (get_or plans k p) → get_or now k m ≡ get_or ms k m → get_or plans k p ≡ get_or ps k p
    → ((j : ℕ) (d : KeptMonitor) → j < k → get_or now j d ≡ get_or (all_enacted ms ps) j d)
    → (j : ℕ) (d : KeptMonitor) → j < k + 1 → get_or (set now k new) j d ≡ get_or (all_enacted ms ps) j d
enact-more ms ps now plans k m new p many as_many lt is monitor plan before j d less =
    elim (cases_lt j k) [
      | inl below ↦ get_or-set_other now k j new d (omega arith) ∙ before j d below
      | inr past ↦
          let at : k ≡ j = omega (arith, past, less) in
          get_or-set_at now k j new d (sym at) (omega (arith, lt, as_many)) ∙ is ∙ (λ i. enacted (monitor i) (plan i))
          ∙ sym (enacted-at ms ps k d m p many lt) ∙ ap (λ n. get_or (all_enacted ms ps) n d) at
    ]
