-- A resource that takes no route of a method takes none of it under any id.
use Rattle.std.proofs.Common.{◌≡◌, ℕ, List, length, get_or, Option, Some, None, cond, eqb, MatchOption, IsUtf8, refl, sym, ap, ◌∙◌, subst}
use Rattle.pm_http.specs.declared.kind.Kind.{Kind}
use Rattle.pm_http.specs.declared.kind.Kind.TheVariants.{Job, Monitor, Subscription, Files, File, Events}
use Rattle.pm_http.specs.declared.method.Method.{Method}
use Rattle.pm_http.specs.declared.method.Method.TheVariants.{Get, Put, Patch, Delete, Post}
use Rattle.pm_http.specs.Resource.{IsPathOf}
use Rattle.pm_http.specs.Route.{method_name, route_at, IsResource}

-- The method of a name, told by its length and its first byte.
method_back : List ℕ → Method
method_back n =
    cond (eqb (length n) 6) Delete (cond (eqb (length n) 5) Patch (cond (eqb (length n) 4) Post (cond (eqb (get_or n 0 0) 71) Get Put)))

method_back-name : (m : Method) → method_back (method_name m) ≡ m
unfolding method_back
method_back-name Get = refl
method_back-name Put = refl
method_back-name Patch = refl
method_back-name Delete = refl
method_back-name Post = refl

-- Two methods of one name are one.
method_name-injective : (m n : Method) → method_name m ≡ method_name n → m ≡ n
method_name-injective m n e = sym (method_back-name m) ∙ ap method_back e ∙ method_back-name n

-- Whether a route stands doesn't hang on the id.
no_route : (k : Kind) (m : Method) (id id2 query : List ℕ) → route_at k m id query ≡ None → route_at k m id2 query ≡ None
no_route Job Get id id2 query e = cc
no_route Job Put id id2 query e = cc
no_route Job Patch id id2 query e = cc
no_route Job Delete id id2 query e = cc
no_route Monitor Get id id2 query e = cc
no_route Monitor Put id id2 query e = cc
no_route Monitor Patch id id2 query e = cc
no_route Monitor Delete id id2 query e = cc
no_route Subscription Put id id2 query e = cc
no_route Subscription Delete id id2 query e = cc
no_route Files Get id id2 query e = cc
no_route File Get id id2 query e = cc
no_route Events Post id id2 query e = cc
no_route _ _ id id2 query e = refl

pub no_route-any : (k : Kind) (m : Method) (name id query : List ℕ) → name ≡ method_name m → route_at k m id query ≡ None
    → (n : Method) (id2 : List ℕ) → name ≡ method_name n → route_at k n id2 query ≡ None
no_route-any k m name id query is none n id2 same =
    subst (λ (o : Method). route_at k o id2 query ≡ None) (method_name-injective m n (sym is ∙ same)) (no_route k m id id2 query none)

-- What a text names, the bytes of the text name.
pub named_by_text : (o : Option Kind) (text path : List ℕ)
    → MatchOption o ((k : Kind) → ¬ IsPathOf k text) (λ k. IsPathOf k text) → text ≡ path → IsUtf8 path
    → MatchOption o ((k : Kind) → ¬ IsResource k path) (λ k. IsResource k path)
named_by_text None text path none is utf8 = λ k named. none k (rw is named.1)
named_by_text (Some kind) text path named is utf8 = (utf8, subst (IsPathOf kind) is named)
