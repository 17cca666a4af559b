-- What `IsSound` says, in two parts: what one walk over the text asks, and what the other asks. With an order of the combinational
-- blocks they are the whole.
use Rattle.std.proofs.Common.{◌≡◌, ◌<◌, ◌-◌, ℕ, Bool, true, false, List, length}
use Rattle.std.specs.Prelude.{Some}
use Rattle.scc_svtree.specs.declared.module.SvModule.{SvModule}
use Rattle.scc_svtree.specs.declared.module.SvVar.{SvVar}
use Rattle.scc_svtree.specs.Variables.{width_at, IsWidth}
use Rattle.scc_svtree.specs.Concats.{block_concats}
use Rattle.scc_svtree.specs.Settled.{combs_of, Order}
use Rattle.scc_svtree.specs.Steps.{input_at}
use Rattle.scc_svtree.specs.Sound.{Each, is_simple, PortsFirst, IsSizedBlock, AreNamed, block_names, block_assigns, at_block, IsFreshBlock, IsSoundEdge, AgreeOnClock, IsSound}
use Rattle.scc_svread_grammar.specs.Lexical.{Bytes}
use Rattle.scc_svread_check.specs.Scope.{Scope, entry_of, is_declared}
use Rattle.scc_svread_written.specs.Written.{name_of}

-- names and sizes
pub record Formed (m : SvModule) : Type 0 where
  pub name : is_simple m.name ≡ true
  pub ports : PortsFirst m.vars
  pub widths : Each (λ v. IsWidth v.width) m.vars
  pub sizes : Each (IsSizedBlock (width_at m.vars)) m.blocks
  pub concats : Each (λ b. block_concats b ≡ true) m.blocks
  pub names : AreNamed m.vars
  pub declared : (v : ℕ) → Each (λ b. block_names b v ≡ true → v < length m.vars) m.blocks

-- drivers and clocks
pub record Driven (many : Bool) (m : SvModule) : Type 0 where
  pub inputs_kept : (v : ℕ) → input_at m.vars v ≡ true → Each (λ b. block_assigns b v ≡ false) m.blocks
  pub one_driver : (j k v : ℕ) → j < length m.blocks → k < length m.blocks → block_assigns (at_block m.blocks j) v ≡ true → block_assigns (at_block m.blocks k) v ≡ true → j ≡ k
  pub driven : (v : ℕ) → v < length m.vars → input_at m.vars v ≡ false → (k : ℕ) × (k < length m.blocks) × (block_assigns (at_block m.blocks k) v ≡ true)
  pub fresh : Each IsFreshBlock m.blocks
  pub edges : Each (IsSoundEdge m) m.blocks
  pub one_clock : Each (λ b. AgreeOnClock many b m.blocks) m.blocks

pub formed_of : {many : Bool} {m : SvModule} → IsSound many m → Formed m
formed_of s = record { name = s.name; ports = s.ports; widths = s.widths; sizes = s.sizes; concats = s.concats; names = s.names; declared = s.declared }

pub driven_of : {many : Bool} {m : SvModule} → IsSound many m → Driven many m
driven_of s = record { inputs_kept = s.inputs_kept; one_driver = s.one_driver; driven = s.driven; fresh = s.fresh; edges = s.edges; one_clock = s.one_clock }

pub sound_of : {many : Bool} {m : SvModule} → Formed m → Driven many m → Order (combs_of m.blocks) → IsSound many m
sound_of f d o = record {
  name = f.name;
  ports = f.ports;
  widths = f.widths;
  sizes = f.sizes;
  concats = f.concats;
  names = f.names;
  declared = f.declared;
  inputs_kept = d.inputs_kept;
  one_driver = d.one_driver;
  driven = d.driven;
  fresh = d.fresh;
  edges = d.edges;
  one_clock = d.one_clock;
  order = o;
}

-- A scope has the variables of a list, each once, and no other names.
pub record Declares (s : Scope) (vars : List SvVar) : Type 0 where
  pub found : (i : ℕ) → i < length vars → entry_of s (name_of vars i) ≡ Some (Some (width_at vars i - 1))
  pub only : (name : Bytes) → is_declared s name ≡ true → (i : ℕ) × (i < length vars) × (name ≡ name_of vars i)
