-- What a job measures, as the program holds it.
use Rattle.pm_history.specs.Terms as terms
use Rattle.pm_ready.specs.declared.measured.Measured.{Measured}

abbrev pub measured_of : Measured → terms.Measured
measured_of m = record { class = m.class; metrics = m.metrics.items; objects = m.objects.items }
