-- The status of the reply that tells a refusal (RFC 9110; which code has which is this project's own).
use Rattle.std.specs.Prelude.{ℕ}
use Rattle.pm_base.specs.declared.code.Code.{Code}
use Rattle.pm_base.specs.declared.code.Code.TheVariants.{H1, H2, H3, H4, H5, H6, H7, H8, J1, J2, J3, J4, J5, J6, J7, J8, J9, J10, J11, J12, P1, P2, P3, P4, E1, E2, E3, E4, L1, L2, MEM}

-- A code that no reply tells has the status of a fault of the server.
abbrev pub status_of : Code → ℕ
status_of H1 = 400
status_of H7 = 400
status_of H8 = 400
status_of J1 = 400
status_of L2 = 400
status_of P3 = 400
status_of H5 = 404
status_of J10 = 404
status_of L1 = 404
status_of P2 = 404
status_of H6 = 405
status_of J2 = 409
status_of J8 = 409
status_of J9 = 409
status_of J12 = 409
status_of P1 = 409
status_of P4 = 409
status_of H3 = 413
status_of J3 = 422
status_of J4 = 422
status_of J5 = 422
status_of J6 = 422
status_of J7 = 422
status_of J11 = 422
status_of E1 = 422
status_of E2 = 422
status_of E3 = 422
status_of E4 = 429
status_of H2 = 431
status_of H4 = 501
status_of MEM = 503
status_of _ = 500
