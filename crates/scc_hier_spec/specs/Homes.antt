-- Modules made of one module, one for each module object: which block stands in which. This project's own.
use Rattle.std.specs.Prelude.{◌≡◌, ◌≢◌, ◌⊎◌, ℕ, ◌<◌, nat_eq, true, List, [], ◌∷◌, ◌++◌, map, filter_map, drop, length, Option, Some, None, slice_get, option_map, unwrap_or, bytes_eq}
use Rattle.std.specs.List.{list_any}
use Rattle.scc_svtree.specs.declared.module.SvModule.{SvModule}
use Rattle.scc_svtree.specs.declared.module.SvVar.{SvVar}
use Rattle.scc_hier_text.specs.declared.tree.Hier.{Hier}
use Rattle.scc_hier_text.specs.declared.tree.HierModule.{HierModule}
use Rattle.scc_blocks_spec.specs.Renamed.{BlockCode, block_code, block_as}
use Rattle.scc_hier_spec.specs.Flattened.{IsWhole, IsFlattening, is_inner, of_top}
use Rattle.scc_hier_spec.specs.LaidOut.{IsLaidOut}

-- the numbers below n, each once
pub record IsOrderOf (n : ℕ) (order : List ℕ) : Type 0 where
  pub as_many : length order ≡ n
  pub each : (k : ℕ) → k < n → list_any (nat_eq k) order ≡ true

-- the code of the blocks of these numbers, by where variables stand
abbrev pub codes_at : SvModule → (ℕ → ℕ) → List ℕ → List BlockCode
codes_at m f order = filter_map (λ k. option_map (λ b. block_as f (block_code b)) (slice_get m.blocks k)) order

-- Two modules are one but for order: `variable` tells where a variable of the first stands in the second, `order` which block of the first stands at each place
-- of the second. The ports keep their places.
pub record IsReordered (a b : SvModule) : Type 0 where
  pub name : a.name ≡ b.name
  pub variable : ℕ → ℕ
  pub vars : (v : ℕ) (x : SvVar) → slice_get a.vars v ≡ Some x → slice_get b.vars (variable v) ≡ Some x
  pub as_many : length a.vars ≡ length b.vars
  pub apart : (u v : ℕ) → u < length a.vars → v < length a.vars → variable u ≡ variable v → u ≡ v
  pub ports : (v : ℕ) (x : SvVar) → slice_get a.vars v ≡ Some x → (is_inner x ≡ true) ⊎ (variable v ≡ v)
  pub order : List ℕ
  pub blocks : IsOrderOf (length a.blocks) order
  pub code : map block_code b.blocks ≡ codes_at a variable order

-- a path with the `$` (36) behind it, which the top's, the empty one, hasn't
abbrev pub closed : List ℕ → List ℕ
closed [] = []
closed (b ∷ bs) = (b ∷ bs) ++ 36 ∷ []

-- the path of a block's home, by the homes of the blocks and the paths of the module objects, of which the first is the top
abbrev pub home_of : List (List ℕ) → List ℕ → ℕ → List ℕ
home_of paths homes k = closed (unwrap_or (option_and_get paths (slice_get homes k)) [])
  where
    option_and_get : List (List ℕ) → Option ℕ → Option (List ℕ)
    option_and_get ps None = None
    option_and_get ps (Some n) = slice_get ps n

-- no two modules of the list are equal but for the name
abbrev pub NoneTwice : Hier → Type 0
NoneTwice h = (i j : ℕ) (m n : HierModule) → slice_get h.modules i ≡ Some m → slice_get h.modules j ≡ Some n → i ≢ j
    → m.vars ≡ n.vars → m.instances ≡ n.instances → m.blocks ≡ n.blocks → ⊥

-- Modules for a module's module objects, by the objects' paths and the home of each block: their flattening is the module in another order, each block comes from
-- the instance at its home's path, each object but the top is one instance, they are laid out by the rules, and no text stands twice.
pub record IsSplitUp (m : SvModule) (paths : List (List ℕ)) (homes : List ℕ) (h : Hier) : Type 0 where
  pub whole : IsWhole h
  pub top : HierModule
  pub first : slice_get h.modules 0 ≡ Some top
  pub flat : SvModule
  pub flattens : IsFlattening h flat
  pub reordered : IsReordered m flat
  pub homed : (of_top h top).homes ≡ map (home_of paths homes) reordered.order
  pub as_many : length (of_top h top).instances ≡ length (drop 1 paths)
  pub instances : (k : ℕ) (path : List ℕ) → slice_get (drop 1 paths) k ≡ Some path → list_any (bytes_eq (closed path)) (of_top h top).instances ≡ true
  pub laid_out : IsLaidOut m.name h
  pub none_twice : NoneTwice h
