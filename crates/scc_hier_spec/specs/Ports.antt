-- Ports of modules with instances: their names and their order, which follow the ports of the design; and that each is wanted. This project's own.
use Rattle.std.specs.Prelude.{◌≡◌, ℕ, zero, suc, nat_eq, Bool, true, ◌&&◌, ◌||◌, List, [], ◌∷◌, ◌++◌, map, filter, filter_map, drop, length, Option, Some, None, option_map, slice_get, unwrap_or, bytes_eq, codes, decimal, if◌then◌else◌}
use Rattle.std.specs.List.{list_all, list_any, starts_with}
use Rattle.scc_svtree.specs.declared.module.SvModule.{SvModule}
use Rattle.scc_svtree.specs.declared.module.SvVar.{SvVar}
use Rattle.scc_svtree.specs.Sound.{block_names}
use Rattle.scc_hier_text.specs.declared.tree.Hier.{Hier}
use Rattle.scc_hier_text.specs.declared.tree.HierModule.{HierModule}
use Rattle.scc_hier_text.specs.declared.tree.Instance.{Instance}
use Rattle.scc_hier_spec.specs.Flattened.{is_inner, ports_of}
use Rattle.scc_hier_spec.specs.LaidOut.{closed_name, connected, all_numbered}

-- a port of a module object: the object's path with the `$` (36) behind it, which the top's hasn't; its name there; the variable at the end of its bindings
pub record Named : Type 0 where
  pub home : List ℕ
  pub name : List ℕ
  pub variable : List ℕ

-- ---- instances

-- An instance: its path with the `$` behind it, its module, and the variables of the flattening that its ports are.
pub record Seen : Type 0 where
  pub path : List ℕ
  pub inside : HierModule
  pub given : List (List ℕ)

abbrev pub name_in : List (List ℕ) → ℕ → List ℕ
name_in names v = unwrap_or (slice_get names v) []

abbrev pub head_name : List (List ℕ) → List ℕ
head_name [] = []
head_name (n ∷ ns) = n

abbrev pub other_names : List (List ℕ) → List (List ℕ)
other_names [] = []
other_names (n ∷ ns) = ns

-- the names in the flattening of a module's variables: a port has that of its wire
abbrev pub names_at : List ℕ → List SvVar → List (List ℕ) → List (List ℕ)
names_at path [] given = []
names_at path (v ∷ vs) given = if is_inner v then (path ++ v.name) ∷ names_at path vs given else head_name given ∷ names_at path vs (other_names given)

abbrev pub Entering : Type 0
Entering = HierModule → List ℕ → List (List ℕ) → List Seen

-- an instance of a module of the list, and those in it
abbrev pub seen_at : Entering → List ℕ → List (List ℕ) → Option HierModule → List Seen
seen_at enter path given None = []
seen_at enter path given (Some m) = record { path = path; inside = m; given = given } ∷ enter m path given

abbrev pub seen_through : Hier → Entering → List ℕ → List (List ℕ) → List Instance → List Seen
seen_through h enter path names [] = []
seen_through h enter path names (i ∷ is) =
    seen_at enter (path ++ closed_name i.name) (map (λ w. name_in names w.0) i.wires) (slice_get h.modules i.«module») ++ seen_through h enter path names is

-- the instances in a module that stands at a path, at most so deep
abbrev pub seen_in : Hier → ℕ → Entering
seen_in h zero m path given = []
seen_in h (suc levels) m path given = seen_through h (seen_in h levels) path (names_at path m.vars given) m.instances

abbrev pub seen : Hier → List Seen
seen h = unwrap_or (option_map (λ m. seen_in h (length h.modules) m [] (map (λ v. v.name) (ports_of m))) (slice_get h.modules 0)) []

-- ---- names and order

-- the first entry of each variable
abbrev pub first_named : List (List ℕ) → List Named → List Named
first_named had [] = []
first_named had (e ∷ es) = if list_any (bytes_eq e.variable) had then first_named had es else e ∷ first_named (e.variable ∷ had) es

-- A port of which the design has none is named behind its object's path, or, where it stands elsewhere, by its number among those.
abbrev pub name_others : List ℕ → ℕ → List (List ℕ) → List (List ℕ × List ℕ)
name_others path k [] = []
name_others path k (v ∷ vs) =
    if starts_with nat_eq v path then (drop (length path) v, v) ∷ name_others path k vs else (codes "outer$$" ++ decimal k, v) ∷ name_others path (suc k) vs

abbrev pub others : List Named → List (List ℕ) → List (List ℕ)
others es vs = filter_map (λ v. if list_any (λ e. bytes_eq e.variable v) es then None else Some v) vs

-- The ports of an instance, each by its name and its variable: those of the design in construction order, and then the others in the order of the one module.
abbrev pub ports_by : List Named → List (List ℕ) → Seen → List (List ℕ × List ℕ)
ports_by es all s =
    let given : List Named = first_named [] (filter (λ e. bytes_eq e.home s.path && list_any (bytes_eq e.variable) s.given) es) in
    map (λ e. (e.name, e.variable)) given ++ name_others s.path 0 (others given (filter (λ v. list_any (bytes_eq v) s.given) all))

abbrev pub zipped : List (List ℕ) → List (List ℕ) → List (List ℕ × List ℕ)
zipped (x ∷ xs) (y ∷ ys) = (x, y) ∷ zipped xs ys
zipped xs ys = []

abbrev pub ports_in : Seen → List (List ℕ × List ℕ)
ports_in s = zipped (map (λ v. v.name) (ports_of s.inside)) s.given

abbrev pub AreNamedBy : List Named → List (List ℕ) → List Seen → Type 0
AreNamedBy es all [] = Unit {0}
AreNamedBy es all (s ∷ ss) = (ports_in s ≡ ports_by es all s) × AreNamedBy es all ss

-- A port is wanted: a block of the module names it, an instance in it is connected to it, or the variable stands in the object.
abbrev pub is_wanted : Seen → ℕ → SvVar → Bool
is_wanted s v x = is_inner x || (list_any (λ b. block_names b v) s.inside.blocks || (list_any (connected (λ n k. true) v) s.inside.instances
    || starts_with nat_eq (name_in (names_at s.path s.inside.vars s.given) v) s.path))

-- The ports of modules, by the design's and by the variables of the one module.
pub record ArePorted (es : List Named) (m : SvModule) (h : Hier) : Type 0 where
  pub named : AreNamedBy es (map (λ v. v.name) m.vars) (seen h)
  pub wanted : list_all (λ s. all_numbered (is_wanted s) 0 s.inside.vars) (seen h) ≡ true
