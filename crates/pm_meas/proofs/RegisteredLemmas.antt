-- One more event after others.
use Rattle.std.proofs.Common.{◌≡◌, ℕ, List, [], ◌∷◌, ◌++◌, sym, ◌∙◌, ap, append_assoc}
use Rattle.std.proofs.lemmas.List.{append-nil}
use Rattle.pm_meas.specs.Registered.{registered_one, registered_after}

-- It is registered after the others, or it isn't.
pub registered_after-more : {E : Type 0} (n : E → ℕ) (number : List E → E → ℕ) (earlier es : List E) (e : E) → registered_after n number earlier (es ++ e ∷ []) ≡ registered_after n number earlier es ++ registered_one n number (earlier ++ es) e
registered_after-more n number earlier [] e =
    append-nil (registered_one n number earlier e) ∙ ap (λ l. registered_one n number l e) (sym (append-nil earlier))
registered_after-more n number earlier (x ∷ es) e =
    ap (λ l. registered_one n number earlier x ++ l) (registered_after-more n number (earlier ++ x ∷ []) es e)
    ∙ ap (λ l. registered_one n number earlier x ++ (registered_after n number (earlier ++ x ∷ []) es ++ registered_one n number l e)) (append_assoc earlier (x ∷ []) es)
    ∙ sym (append_assoc (registered_one n number earlier x) (registered_after n number (earlier ++ x ∷ []) es) (registered_one n number (earlier ++ x ∷ es) e))
