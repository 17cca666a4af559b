-- The flattening of modules with instances: what they are together (IEEE 1800-2017, 23.3.2). A variable that a module declares in an instance is named by
-- the instance's path, `$` (36) and its name; a port is the variable that it is connected to; the blocks are those of all instances. Their order is this
-- project's own: each instance is followed at once by those in it.
use Rattle.std.specs.Prelude.{◌≡◌, ℕ, zero, suc, ◌+◌, ◌<◌, Bool, true, false, not, List, [], ◌∷◌, ◌++◌, map, filter, length, Some, slice_get, option_map, unwrap_or, if◌then◌else◌}
use Rattle.std.specs.List.{range_with_len}
use Rattle.scc_semantics.specs.Location.{Location}
use Rattle.scc_semantics.specs.Design.{Design}
use Rattle.scc_svtree.specs.declared.module.SvModule.{SvModule}
use Rattle.scc_svtree.specs.declared.module.SvVar.{SvVar}
use Rattle.scc_svtree.specs.declared.module.Dir.{Dir}
use Rattle.scc_svtree.specs.declared.module.Dir.TheVariants as dir
use Rattle.scc_hier_text.specs.declared.tree.Hier.{Hier}
use Rattle.scc_hier_text.specs.declared.tree.HierModule.{HierModule}
use Rattle.scc_hier_text.specs.declared.tree.Instance.{Instance}
use Rattle.scc_blocks_spec.specs.Matches.{Matches}
use Rattle.scc_blocks_spec.specs.Emitted.{ModuleShows}
use Rattle.scc_blocks_spec.specs.Renamed.{BlockCode, block_code, block_as}

abbrev pub is_inner : SvVar → Bool
is_inner v = by_dir v.dir
  where
    by_dir : Dir → Bool
    by_dir dir.Inner = true
    by_dir _ = false

-- What has been gone through: the variables by their numbers, the blocks, the path of each block's instance, with its `$` behind it, and those of all instances
-- but the top.
pub record Flat : Type 0 where
  pub vars : List SvVar
  pub blocks : List BlockCode
  pub homes : List (List ℕ)
  pub instances : List (List ℕ)

abbrev pub declared : List ℕ → SvVar → SvVar
declared path v = record { name = path ++ v.name; width = v.width; dir = v.dir }

abbrev pub head_or : ℕ → List ℕ → ℕ
head_or n [] = n
head_or n (x ∷ xs) = x

abbrev pub behind : List ℕ → List ℕ
behind [] = []
behind (x ∷ xs) = xs

-- The numbers of a module's variables in an instance: a port has that of its wire, the others those from n on.
abbrev pub numbers : ℕ → List SvVar → List ℕ → List ℕ
numbers n [] wires = []
numbers n (v ∷ vs) wires = if is_inner v then n ∷ numbers (n + 1) vs wires else head_or 0 wires ∷ numbers n vs (behind wires)

abbrev pub number_in : List ℕ → ℕ → ℕ
number_in ids i = unwrap_or (slice_get ids i) 0

-- a module's variables of its own at a path, and its blocks by their numbers
abbrev pub placed : List ℕ → List SvVar → List ℕ → HierModule → Flat → Flat
placed path own ids m f = record {
  vars = f.vars ++ map (declared path) own;
  blocks = f.blocks ++ map (λ b. block_as (number_in ids) (block_code b)) m.blocks;
  homes = f.homes ++ map (λ b. path) m.blocks;
  instances = f.instances;
}

abbrev pub counted : List ℕ → Flat → Flat
counted path f = record { vars = f.vars; blocks = f.blocks; homes = f.homes; instances = f.instances ++ path ∷ [] }

-- entering the module of that number at a path, with the numbers of its wires
abbrev pub Entering : Type 0
Entering = ℕ → List ℕ → List ℕ → Flat → Flat

abbrev pub through : Entering → List ℕ → List ℕ → List Instance → Flat → Flat
through enter path ids [] f = f
through enter path ids (i ∷ is) f = through enter path ids is (enter i.«module» (path ++ (i.name ++ 36 ∷ [])) (map (λ w. number_in ids w.0) i.wires) f)

abbrev pub inside : Entering → HierModule → List ℕ → List ℕ → Flat → Flat
inside enter m path wires f =
    let ids = numbers (length f.vars) m.vars wires in through enter path ids m.instances (placed path (filter is_inner m.vars) ids m (counted path f))

-- Instances stand at most as deep in one another as there are modules.
abbrev pub entered : Hier → ℕ → Entering
entered h zero n path wires f = f
entered h (suc levels) n path wires f = unwrap_or (option_map (λ m. inside (entered h levels) m path wires f) (slice_get h.modules n)) f

abbrev pub of_top : Hier → HierModule → Flat
of_top h m = let ids = range_with_len 0 (length m.vars) in
    through (entered h (length h.modules)) [] ids m.instances (placed [] m.vars ids m (record { vars = []; blocks = []; homes = []; instances = [] }))

-- The module is the flattening: it has the top's name, these variables in this order, and blocks of this code.
pub record IsFlattening (h : Hier) (m : SvModule) : Type 0 where
  pub top : HierModule
  pub first : slice_get h.modules 0 ≡ Some top
  pub name : m.name ≡ top.name
  pub vars : m.vars ≡ (of_top h top).vars
  pub blocks : map block_code m.blocks ≡ (of_top h top).blocks

abbrev pub ports_of : HierModule → List SvVar
ports_of m = filter (λ v. not (is_inner v)) m.vars

-- each wire is a variable of the module around the instance, as wide as its port
abbrev pub Connected : List SvVar → List SvVar → List ℕ → Type 0
Connected around [] [] = Unit {0}
Connected around (p ∷ ps) (w ∷ ws) = (option_map (λ v. v.width) (slice_get around w) ≡ Some p.width) × Connected around ps ws
Connected around _ _ = ⊥

-- Modules that can be flattened: each instance is of a module of the list whose ports its wires are, and no module leads to itself by its instances, as their
-- ranks fall.
pub record IsWhole (h : Hier) : Type 0 where
  pub some : 0 < length h.modules
  pub rank : ℕ → ℕ
  pub instances : (n k : ℕ) (m : HierModule) (i : Instance) → slice_get h.modules n ≡ Some m → slice_get m.instances k ≡ Some i
      → (inner : HierModule) × (slice_get h.modules i.«module» ≡ Some inner) × Connected m.vars (ports_of inner) (map (λ w. w.0) i.wires) × (rank i.«module» < rank n)

-- What modules with instances show of a design: what their flattening shows.
pub record HierShows (text : Location → List ℕ) (own : List ℕ → Bool) (kept : Location → Bool) (d : Design) (top : List ℕ) (h : Hier) : Type 0 where
  pub whole : IsWhole h
  pub flat : SvModule
  pub flattens : IsFlattening h flat
  pub matches : Matches text own kept d flat top
  pub shows : ModuleShows text d flat
