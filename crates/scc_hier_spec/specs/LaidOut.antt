-- How modules with instances are laid out: the names of modules and their order, what stands in what, which way ports go, and in which module a variable is
-- declared. This project's own.
use Rattle.std.specs.Prelude.{◌≡◌, ℕ, zero, suc, ◌-◌, nat_eq, nat_lt, Bool, true, false, not, ◌&&◌, ◌||◌, List, [], ◌∷◌, ◌++◌, map, filter, length, Option, Some, None, option_map, slice_get, unwrap_or, if◌then◌else◌}
use Rattle.std.specs.List.{list_all, list_any, range_with_len, starts_with}
use Rattle.scc_svtree.specs.declared.module.Dir.{Dir}
use Rattle.scc_svtree.specs.declared.module.Dir.TheVariants as dir
use Rattle.scc_svtree.specs.declared.module.SvVar.{SvVar}
use Rattle.scc_svtree.specs.Sound.{block_assigns, block_names}
use Rattle.scc_hier_text.specs.declared.tree.Hier.{Hier}
use Rattle.scc_hier_text.specs.declared.tree.HierModule.{HierModule}
use Rattle.scc_hier_text.specs.declared.tree.Instance.{Instance}
use Rattle.scc_hier_spec.specs.Flattened.{is_inner}

-- a name with the `$` (36) behind it
abbrev pub closed_name : List ℕ → List ℕ
closed_name name = name ++ 36 ∷ []

-- an instance: its path with the `$` behind it, and the number of its module
pub record Placed : Type 0 where
  pub path : List ℕ
  pub number : ℕ

abbrev pub instances_of : Hier → ℕ → List Instance
instances_of h n = unwrap_or (option_map (λ m. m.instances) (slice_get h.modules n)) []

-- the instances in one, each followed at once by those in it
abbrev pub walk_through : (ℕ → List ℕ → List Placed) → List ℕ → List Instance → List Placed
walk_through enter path [] = []
walk_through enter path (i ∷ is) =
    record { path = path ++ closed_name i.name; number = i.«module» } ∷ (enter i.«module» (path ++ closed_name i.name) ++ walk_through enter path is)

-- those in the module of that number at a path, at most so deep
abbrev pub walk : Hier → ℕ → ℕ → List ℕ → List Placed
walk h zero n path = []
walk h (suc levels) n path = walk_through (walk h levels) path (instances_of h n)

abbrev pub placed : Hier → List Placed
placed h = walk h (length h.modules) 0 []

-- the first instance of each module
abbrev pub first_uses : List ℕ → List Placed → List Placed
first_uses seen [] = []
first_uses seen (p ∷ ps) = if list_any (nat_eq p.number) seen then first_uses seen ps else p ∷ first_uses (p.number ∷ seen) ps

abbrev pub name_at : Hier → ℕ → List ℕ
name_at h n = unwrap_or (option_map (λ m. m.name) (slice_get h.modules n)) []

-- no instance's name begins with that of another of its module and `$`: what stands in an object stands in its instance
abbrev pub stand_apart : List Instance → List Instance → Bool
stand_apart all is = list_all (λ i. list_all (λ j. not (starts_with nat_eq j.name (closed_name i.name))) all) is

abbrev pub are_nested : Hier → Bool
are_nested h = list_all (λ m. stand_apart m.instances m.instances) h.modules

-- whether a variable of a module is connected to a port of an instance that passes; ports are the first variables of a module
abbrev pub connects : (ℕ → Bool) → ℕ → ℕ → List ℕ → Bool
connects passes v n [] = false
connects passes v n (w ∷ ws) = (nat_eq v w && passes n) || connects passes v (suc n) ws

abbrev pub connected : (ℕ → ℕ → Bool) → ℕ → Instance → Bool
connected passes v i = connects (passes i.«module») v 0 (map (λ w. w.0) i.wires)

-- whether a block of a module, or of an instance in it, assigns a variable of the module, at most so deep
abbrev pub assigned_by : (ℕ → ℕ → Bool) → ℕ → Option HierModule → Bool
assigned_by inner v None = false
assigned_by inner v (Some m) = list_any (λ b. block_assigns b v) m.blocks || list_any (connected inner v) m.instances

abbrev pub assigned_in : Hier → ℕ → ℕ → ℕ → Bool
assigned_in h zero n v = false
assigned_in h (suc levels) n v = assigned_by (assigned_in h levels) v (slice_get h.modules n)

abbrev pub is_output : SvVar → Bool
is_output v = by_dir v.dir
  where
    by_dir : Dir → Bool
    by_dir dir.Output = true
    by_dir _ = false

abbrev pub same : Bool → Bool → Bool
same true b = b
same false b = not b

-- a port of an instance is an output where a block in it assigns the variable
abbrev pub goes_right : Hier → ℕ → ℕ → SvVar → Bool
goes_right h n v x = is_inner x || same (is_output x) (assigned_in h (length h.modules) n v)

-- A variable is declared as low as it can be: it belongs to this object, a block of the object's own names it, or two of its instances are connected to it.
abbrev pub belongs : HierModule → SvVar → Bool
belongs m x = not (list_any (λ i. starts_with nat_eq x.name (closed_name i.name)) m.instances)

abbrev pub is_lowest : HierModule → ℕ → SvVar → Bool
is_lowest m v x = not (is_inner x) || (belongs m x || (list_any (λ b. block_names b v) m.blocks || nat_lt 1 (length (filter (connected (λ n k. true) v) m.instances))))

-- a test of each element, by its number
abbrev pub all_numbered : {A : Type 0} → (ℕ → A → Bool) → ℕ → List A → Bool
all_numbered test n [] = true
all_numbered test n (x ∷ xs) = test n x && all_numbered test (suc n) xs

-- The modules of a design, by the top's name.
pub record IsLaidOut (top : List ℕ) (h : Hier) : Type 0 where
  -- the top stands first, and each other module at its first use
  pub order : map (λ p. p.number) (first_uses [] (placed h)) ≡ map suc (range_with_len 0 (length h.modules - 1))
  pub first : name_at h 0 ≡ top
  -- a module is named by the top and the path of its first instance
  pub names : map (λ p. closed_name (name_at h p.number)) (first_uses [] (placed h)) ≡ map (λ p. closed_name top ++ p.path) (first_uses [] (placed h))
  pub nested : are_nested h ≡ true
  pub directions : all_numbered (λ n m. nat_eq n 0 || all_numbered (goes_right h n) 0 m.vars) 0 h.modules ≡ true
  pub lowest : list_all (λ m. all_numbered (is_lowest m) 0 m.vars) h.modules ≡ true
