-- Parts of designs as a core has them. This project's own.
use Rattle.scc_core_spec.specs.Program.{Vector}
use Rattle.scc_elab_spec.specs.Design.{VectorSize}

abbrev pub as_core : VectorSize → Vector
as_core v = record { path = v.path; size = v.size }
