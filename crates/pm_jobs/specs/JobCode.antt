-- The codes by which refusals are told.
use Rattle.pm_base.specs.declared.code.Code.{Code}
use Rattle.pm_base.specs.declared.code.Code.TheVariants as code
use Rattle.pm_jobs.specs.declared.error.JobError.{JobError}
use Rattle.pm_jobs.specs.declared.error.JobError.TheVariants.{J1, J2, J3, J4, J5, J6, J7, J8, J9, J10, J11, J12, Memory}

-- The code of a refusal has its name.
abbrev pub job_code : JobError → Code
job_code J1 = code.J1
job_code J2 = code.J2
job_code J11 = code.J11
job_code J3 = code.J3
job_code J4 = code.J4
job_code J5 = code.J5
job_code J6 = code.J6
job_code J7 = code.J7
job_code J8 = code.J8
job_code J12 = code.J12
job_code J9 = code.J9
job_code J10 = code.J10
job_code Memory = code.MEM
