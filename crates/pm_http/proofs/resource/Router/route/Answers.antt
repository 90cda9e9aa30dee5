use Rattle.pm_http.proofs.resource.Router.route.Goals as goal

pub returns-in-None : goal.returns-in-None
returns-in-None c =
    let none = rw c.in-None.is at c.resource_of.ensures in
    λ k is. none k (rw (c.path_and_query.ensures.path, c.as_bytes.ensures.value) is)
