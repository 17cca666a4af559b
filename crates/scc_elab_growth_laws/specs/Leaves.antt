-- What construction leaves.
use Rattle.std.specs.Prelude.{◌≡◌, Bool, true, [], Some, None, slice_get}
use Rattle.scc_elab_spec.specs.Program.{Plain}
use Rattle.scc_elab_spec.specs.Design.{Design, Object, is_module}
use Rattle.scc_elab_spec.specs.Grown.{Grown, nothing}
use Rattle.scc_elab_spec.specs.After.{refused_after}
use Rattle.scc_elab_spec.specs.Elaborated.{design_left}
use Rattle.scc_elab_growth_laws.specs.Changes.{Grows}
use Rattle.scc_elab_growth_laws.specs.Apart.{is_whole_plain, IsApart}

-- a design is what some growth leaves of which nothing is refused
pub record IsLeft (many : Bool) (p : Plain) (d : Design) : Type 0 where
  pub grown : Grown
  pub grows : Grows p nothing grown
  -- the top is the first object
  pub top : Object
  pub top_there : slice_get grown.objects 0 ≡ Some top
  pub top_is : is_module top.node ≡ true
  pub top_path : top.path ≡ []
  -- where the members of each class have different names
  pub apart : is_whole_plain p ≡ true → IsApart grown
  pub accepted : refused_after many p grown ≡ None
  pub same : d ≡ design_left grown
