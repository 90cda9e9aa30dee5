-- The value sequences so far, and the cut of the last tick, of two histories with the same items.
use Rattle.std.proofs.Common.{◌≡◌, ℕ, true, List, [], Some, ap, ◌∙◌, arith}
use Rattle.pm_base.specs.Moment.{tick_of}
use Rattle.pm_history.specs.declared.entry.Side.{Side}
use Rattle.pm_history.specs.declared.entry.Side.TheVariants.{Monitor}
use Rattle.pm_history.specs.declared.metric.Metric.{Metric}
use Rattle.pm_history.specs.History.{History, last_moment, IsHistory, is_cut}
use Rattle.pm_history.specs.Terms.{Terms}
use Rattle.pm_history.specs.Standing.{Standing, making_of, standing_after}
use Rattle.pm_history.specs.Notices.{value_sequence}
use Rattle.pm_items.specs.Items.{items_of}
use Rattle.pm_items.specs.Sequences.{is_last_cut, sequence_so_far}
use Rattle.pm_items.proofs.StandingLemmas.{both-exist}
use Rattle.pm_items.proofs.AlikeLemmas.{same_items}
use Rattle.pm_items.proofs.MeasuredLemmas.{have-same}
use Rattle.pm_items.proofs.SequenceLemmas.{sequence-same}

pub same_sequences : (terms : Side → List ℕ → Terms) (g h : History) → IsHistory g → IsHistory h → items_of g ≡ items_of h
    → (id : List ℕ) (s r : Standing) → standing_after terms Monitor g id ≡ Some s → standing_after terms Monitor h id ≡ Some r
    → (object : ℕ) (metric : Metric) → sequence_so_far terms g id s object metric ≡ sequence_so_far terms h id r object metric
same_sequences terms g h ig ih same id s r is ir object metric =
    let alike = same_items terms g h ig ih same in
    let one = both-exist _ _ s r (alike.standing Monitor id) is ir in
    let v = making_of Monitor id s in
    let w = making_of Monitor id r in
    let last = tick_of (last_moment g) in
    let tick = alike.tick in
    let both = have-same terms g h Monitor id s r ig alike is ir in
    sequence-same terms g h v w last both (terms Monitor s.body).granularity object metric s.armed last (omega arith)
    ∙ (λ i. value_sequence terms h w (terms Monitor (one i).body).granularity object metric (one i).armed (tick i))

-- any terms serve, as no Boot depends on a body
no_terms : Side → List ℕ → Terms
no_terms side body = record { granularity = 0; parts = 0; unlocked = true; measured = []; watched = [] }

pub same_last_cut : (g h : History) → IsHistory g → IsHistory h → items_of g ≡ items_of h → is_last_cut g ≡ is_last_cut h
same_last_cut g h ig ih same =
    let alike = same_items no_terms g h ig ih same in
    alike.cut (tick_of (last_moment g)) ∙ ap (is_cut h) alike.tick
