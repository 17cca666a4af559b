-- Modules with instances, each by itself, and their names (IEEE 1800-2017, 3.13: one space of names of modules, one of a module's variables and instances). What
-- drives a variable, and cycles, are looked for in the flattening.
use Rattle.std.specs.Prelude.{◌≡◌, ◌≢◌, ℕ, ◌<◌, true, List, [], ◌∷◌, length}
use Rattle.scc_svtree.specs.declared.module.SvVar.{SvVar}
use Rattle.scc_svtree.specs.Variables.{width_at, IsWidth}
use Rattle.scc_svtree.specs.Concats.{block_concats}
use Rattle.scc_svtree.specs.Sound.{Each, PortsFirst, IsSizedBlock, AreNamed, IsNotNamed, is_simple, block_names}
use Rattle.scc_hier_text.specs.declared.tree.Hier.{Hier}
use Rattle.scc_hier_text.specs.declared.tree.HierModule.{HierModule}
use Rattle.scc_hier_text.specs.declared.tree.Instance.{Instance}

abbrev pub IsNoInstance : List ℕ → List Instance → Type 0
IsNoInstance name [] = Unit {0}
IsNoInstance name (i ∷ is) = (name ≢ i.name) × IsNoInstance name is

-- an instance has a name that no variable and no other instance of its module has
abbrev pub AreInstancesNamed : List SvVar → List Instance → Type 0
AreInstancesNamed vars [] = Unit {0}
AreInstancesNamed vars (i ∷ is) = (is_simple i.name ≡ true) × IsNotNamed i.name vars × IsNoInstance i.name is × AreInstancesNamed vars is

-- A module whose sizes and names are right.
pub record IsSoundModule (m : HierModule) : Type 0 where
  pub name : is_simple m.name ≡ true
  pub ports : PortsFirst m.vars
  pub widths : Each (λ v. IsWidth v.width) m.vars
  pub sizes : Each (IsSizedBlock (width_at m.vars)) m.blocks
  pub concats : Each (λ b. block_concats b ≡ true) m.blocks
  pub names : AreNamed m.vars
  pub instances : AreInstancesNamed m.vars m.instances
  pub declared : (v : ℕ) → Each (λ b. block_names b v ≡ true → v < length m.vars) m.blocks

abbrev pub IsNoModule : List ℕ → List HierModule → Type 0
IsNoModule name [] = Unit {0}
IsNoModule name (m ∷ ms) = (name ≢ m.name) × IsNoModule name ms

abbrev pub AreModulesNamed : List HierModule → Type 0
AreModulesNamed [] = Unit {0}
AreModulesNamed (m ∷ ms) = IsNoModule m.name ms × AreModulesNamed ms

-- Each module is right by itself, and no two have one name.
pub record AreSound (h : Hier) : Type 0 where
  pub modules : Each IsSoundModule h.modules
  pub names : AreModulesNamed h.modules
