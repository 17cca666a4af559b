-- The text of modules with instances as it is written, and what is refused first of it. A place is how many bytes stand before it. This project's own; the text is
-- that of IEEE 1800-2017, 23.3.2.2.
use Rattle.std.specs.Prelude.{◌≡◌, ℕ, zero, suc, ◌+◌, ◌-◌, ◌^◌, min, nat_eq, nat_lt, Bool, true, false, not, ◌&&◌, ◌||◌, List, [], ◌∷◌, ◌++◌, map, filter, filter_map, position, length, codes, Option, Some, None, find, option_map, unwrap_or, bytes_eq, if◌then◌else◌}
use Rattle.std.specs.List.{list_any}
use Rattle.scc_base.specs.declared.code.Code.{Code as Reason}
use Rattle.scc_base.specs.declared.code.Code.TheVariants.{SvUnexpected, SvSize, SvName, SvDriver, SvLoop, SvDepth, SvInstance, HierTooLarge}
use Rattle.scc_base.specs.declared.refusal.Refusal.{Refusal}
use Rattle.scc_reading.specs.Claim.{IsUnexpected, IsTooDeep, IsRead}
use Rattle.scc_reading.specs.Level.{◌then◌}
use Rattle.scc_svtree.specs.declared.module.SvModule.{SvModule}
use Rattle.scc_svtree.specs.declared.module.SvVar.{SvVar}
use Rattle.scc_svtree.specs.Settled.{combs_of}
use Rattle.scc_svtree_order.specs.Cycles.{FirstCycle}
use Rattle.scc_svread_grammar.specs.declared.raw.RawVar.{RawVar}
use Rattle.scc_svread_grammar.specs.declared.raw.RawItem.{RawItem}
use Rattle.scc_svread_grammar.specs.declared.raw.RawItem.TheVariants.{Var, Block}
use Rattle.scc_svread_grammar.specs.declared.raw.RawModule.{RawModule}
use Rattle.scc_svread_grammar.specs.Lexical.{Bytes, ReadsName}
use Rattle.scc_svread_grammar.specs.Grammar.{ReadsPorts, ReadsItems}
use Rattle.scc_svread_grammar.specs.Levels.{deep_items}
use Rattle.scc_svread_check.specs.declared.wrong.Wrong.TheVariants.{Name, Driver}
use Rattle.scc_svread_check.specs.First.{module_walk, wrong_of}
use Rattle.scc_svread_check.specs.Walking.{start}
use Rattle.scc_svread_written.specs.Written.{raw_of}
use Rattle.scc_svread_written.specs.Resolved.{module_of}
use Rattle.scc_hier_text.specs.declared.tree.Hier.{Hier}
use Rattle.scc_hier_text.specs.declared.tree.HierModule.{HierModule}
use Rattle.scc_hier_text.specs.declared.tree.Instance.{Instance}
use Rattle.scc_hier_spec.specs.Flattened.{Flat, IsFlattening, is_inner, of_top}

-- ---- the text

-- a port of an instance, the variable that it is connected to, and where the variable's name stands
pub record RawWire : Type 0 where
  pub port : Bytes
  pub variable : Bytes
  pub at : ℕ

-- an instance: the name of its module and where it stands, its own name and where that stands, and its wires
pub record RawInstance : Type 0 where
  pub inner : Bytes
  pub at : ℕ
  pub name : Bytes
  pub name_at : ℕ
  pub wires : List RawWire

-- a module: where it stands, what it is without instances, and of its bytes how many stand before the lines of instances, and how many these lines have
pub record RawHier : Type 0 where
  pub at : ℕ
  pub raw : RawModule
  pub before : ℕ
  pub lines : ℕ
  pub instances : List RawInstance

-- `whole` is the number of bytes of the text
module _ (whole : ℕ) where
  pub data ReadsWire : Bytes → Bytes → RawWire → Type 0 where
    wire : {a b r port variable : Bytes} → ReadsName a (codes "(" ++ b) port → ReadsName b (codes ")" ++ r) variable
        → ReadsWire (codes "." ++ a) r (record { port = port; variable = variable; at = whole - length b })

  pub data ReadsMoreWires : Bytes → Bytes → List RawWire → Type 0 where
    no_more : {r : Bytes} → ReadsMoreWires r r []
    more : {a m r : Bytes} {w : RawWire} {ws : List RawWire} → ReadsWire a m w → ReadsMoreWires m r ws → ReadsMoreWires (codes ", " ++ a) r (w ∷ ws)

  pub data ReadsWires : Bytes → Bytes → List RawWire → Type 0 where
    no_wires : {r : Bytes} → ReadsWires r r []
    wires : {a m r : Bytes} {w : RawWire} {ws : List RawWire} → ReadsWire a m w → ReadsMoreWires m r ws → ReadsWires a r (w ∷ ws)

  pub data ReadsInstances : Bytes → Bytes → List RawInstance → Type 0 where
    no_instances : {r : Bytes} → ReadsInstances r r []
    instance : {a b c m r inner name : Bytes} {ws : List RawWire} {is : List RawInstance}
        → ReadsName a (codes " " ++ b) inner → ReadsName b (codes " (" ++ c) name → ReadsWires c (codes ");\n" ++ m) ws → ReadsInstances m r is
        → ReadsInstances (codes "  " ++ a) r (record { inner = inner; at = whole - length a; name = name; name_at = whole - length b; wires = ws } ∷ is)

  abbrev pub AreDeclarations : List RawItem → Type 0
  AreDeclarations [] = Unit {0}
  AreDeclarations (Var v ∷ is) = AreDeclarations is
  AreDeclarations (Block b ∷ is) = ⊥

  -- declarations, then instances, then blocks
  pub data ReadsWith : Bytes → Bytes → RawHier → Type 0 where
    module_with : {a b c d f r name : Bytes} {vars : List RawVar} {declarations blocks : List RawItem} {is : List RawInstance}
        → ReadsName a (codes " (\n" ++ b) name → ReadsPorts b (codes ");\n" ++ c) vars → ReadsItems false c d declarations → AreDeclarations declarations
        → ReadsInstances d f is → ReadsItems true f (codes "endmodule\n" ++ r) blocks
        → ReadsWith (codes "module " ++ a) r (record {
          at = whole - length (codes "module " ++ a);
          raw = record { name = name; ports = vars; items = declarations ++ blocks };
          before = length (codes "module " ++ a) - length d;
          lines = length d - length f;
          instances = is;
        })

  -- modules, at least one
  pub data ReadsModules : Bytes → List RawHier → Type 0 where
    last : {ts : Bytes} {m : RawHier} → ReadsWith ts [] m → ReadsModules ts (m ∷ [])
    next : {ts mid : Bytes} {m : RawHier} {ms : List RawHier} → ReadsWith ts mid m → ReadsModules mid ms → ReadsModules ts (m ∷ ms)

  unfoldable pub deep_with : {ts r : Bytes} {m : RawHier} → ℕ → ReadsWith ts r m → Option Bytes
  deep_with n (module_with w given d are is blocks) = deep_items n blocks

  unfoldable pub deep_modules : {ts : Bytes} {ms : List RawHier} → ℕ → ReadsModules ts ms → Option Bytes
  deep_modules n (last m) = deep_with n m
  deep_modules n (next m ms) = deep_with n m then deep_modules n ms

abbrev pub ReadsHier : Bytes → List RawHier → Type 0
ReadsHier ts ms = ReadsModules (length ts) ts ms

-- a statement or expression at level 8,193 is the first that stands too deep
abbrev pub deep_in : (ts : Bytes) (ms : List RawHier) → ReadsHier ts ms → Option Bytes
deep_in ts ms d = deep_modules (length ts) 8192 d

-- ---- sizes and names

-- the place in the text of a byte of the module without instances
abbrev pub moved : RawHier → ℕ → ℕ
moved m at = m.at + (if nat_lt at m.before then at else at + m.lines)

abbrev pub least_with : Option ℕ → List ℕ → Option ℕ
least_with found [] = found
least_with None (n ∷ ns) = least_with (Some n) ns
least_with (Some m) (n ∷ ns) = least_with (Some (min m n)) ns

abbrev pub least : List ℕ → Option ℕ
least = least_with None

abbrev pub first_size : List RawHier → Option ℕ
first_size ms = least (filter_map (λ m. option_map (moved m) (module_walk m.raw start).size) ms)

abbrev pub among : Bytes → List Bytes → Bool
among name names = list_any (bytes_eq name) names

abbrev pub item_name : RawItem → Option Bytes
item_name (Var v) = Some v.name
item_name (Block b) = None

abbrev pub names_of : RawModule → List Bytes
names_of m = map (λ v. v.name) m.ports ++ filter_map item_name m.items

abbrev pub place_if : Bool → ℕ → List ℕ
place_if true at = at ∷ []
place_if false at = []

abbrev pub places : Option ℕ → List ℕ
places None = []
places (Some at) = at ∷ []

-- instances whose name is a variable's or stood before, and wires to what is no variable
abbrev pub wrong_instance_names : (vars had : List Bytes) → List RawInstance → List ℕ
wrong_instance_names vars had [] = []
wrong_instance_names vars had (i ∷ is) = place_if (among i.name vars || among i.name had) i.name_at
    ++ (filter_map (λ w. if among w.variable vars then None else Some w.at) i.wires ++ wrong_instance_names vars (i.name ∷ had) is)

abbrev pub wrong_names : (had : List Bytes) → List RawHier → List ℕ
wrong_names had [] = []
wrong_names had (m ∷ ms) = place_if (among m.raw.name had) (m.at + 7)
    ++ (places (option_map (moved m) (module_walk m.raw start).name) ++ (wrong_instance_names (names_of m.raw) [] m.instances ++ wrong_names (m.raw.name ∷ had) ms))

abbrev pub first_name : List RawHier → Option ℕ
first_name ms = least (wrong_names [] ms)

-- ---- instances

abbrev pub module_named : List RawHier → Bytes → Option RawHier
module_named ms name = find (λ m. bytes_eq m.raw.name name) ms

abbrev pub instances_named : List RawHier → Bytes → List RawInstance
instances_named ms name = unwrap_or (option_map (λ m. m.instances) (module_named ms name)) []

-- one module holds the other, by at most so many instances in one another
abbrev pub leads : List RawHier → ℕ → (from to : Bytes) → Bool
leads ms zero from to = bytes_eq from to
leads ms (suc n) from to = bytes_eq from to || list_any (λ i. leads ms n i.inner to) (instances_named ms from)

abbrev pub width_named : List SvVar → Bytes → ℕ
width_named vars name = unwrap_or (option_map (λ v. v.width) (find (λ v. bytes_eq v.name name) vars)) 0

-- the wires are the ports, by name, order and width
abbrev pub are_ports : List SvVar → List SvVar → List RawWire → Bool
are_ports around [] [] = true
are_ports around (p ∷ ps) (w ∷ ws) = bytes_eq p.name w.port && (nat_eq p.width (width_named around w.variable) && are_ports around ps ws)
are_ports around _ _ = false

abbrev pub is_right : List RawHier → RawHier → RawInstance → Option RawHier → Bool
is_right ms m i None = false
is_right ms m i (Some inner) = not (leads ms (length ms) i.inner m.raw.name) && are_ports (module_of m.raw).vars (filter (λ v. not (is_inner v)) (module_of inner.raw).vars) i.wires

abbrev pub wrong_instances : List RawHier → List RawHier → List ℕ
wrong_instances all [] = []
wrong_instances all (m ∷ ms) = filter_map (λ i. if is_right all m i (module_named all i.inner) then None else Some i.at) m.instances ++ wrong_instances all ms

-- places of instances ascend
abbrev pub first_instance : List RawHier → Option ℕ
first_instance ms = least (wrong_instances ms ms)

-- ---- modules without names of modules

abbrev pub number_named : List RawHier → Bytes → ℕ
number_named ms name = unwrap_or (position (λ m. bytes_eq m.raw.name name) ms) 0

abbrev pub variable_named : List SvVar → Bytes → ℕ
variable_named vars name = unwrap_or (position (λ v. bytes_eq v.name name) vars) 0

abbrev pub instance_of : List RawHier → List SvVar → RawInstance → Instance
instance_of ms vars i = record { «module» = number_named ms i.inner; name = i.name; wires = map (λ w. record { 0 = variable_named vars w.variable }) i.wires }

abbrev pub hier_module : List RawHier → RawHier → HierModule
hier_module ms m = let said : SvModule = module_of m.raw in
    record { name = said.name; vars = said.vars; instances = map (instance_of ms said.vars) m.instances; blocks = said.blocks }

abbrev pub hier_of : List RawHier → Hier
hier_of ms = record { modules = map (hier_module ms) ms }

abbrev pub is_large : Flat → Bool
is_large f = nat_lt 65536 (length f.instances) || nat_lt 1048576 (length f.vars + length f.blocks)

abbrev pub is_too_large : List HierModule → Bool
is_too_large [] = false
is_too_large (m ∷ ms) = is_large (of_top (record { modules = m ∷ ms }) m)

-- ---- the first refusal

abbrev pub refusal : Reason → ℕ → Refusal
refusal code at = record { code = code; place = record { file = 0; at = min at (2 ^ 32 - 1) }; other = None }

abbrev pub IsReadHier : Bytes → List RawHier → Type 0
IsReadHier ts ms = IsRead ReadsHier deep_in ts ms

-- nothing stands too deep, and the modules are together not too large
abbrev pub IsWithin : Bytes → Hier → Type 0
IsWithin ts h = ((ms : List RawHier) × IsReadHier ts ms) × (is_too_large h.modules ≡ false)

-- sizes, names and instances are right
pub record AreConnected (ms : List RawHier) : Type 0 where
  pub sizes : first_size ms ≡ None
  pub names : first_name ms ≡ None
  pub instances : first_instance ms ≡ None

-- the modules are together this one
pub record AreTogether (bytes : Bytes) (flat : SvModule) : Type 0 where
  pub modules : List RawHier
  pub read : IsReadHier bytes modules
  pub right : AreConnected modules
  pub small : is_too_large (hier_of modules).modules ≡ false
  pub flattens : IsFlattening (hier_of modules) flat

-- The first fault of the text; then the first wrong size; the first wrong name; the first wrong instance; too many instances, variables and blocks; and wrong names,
-- drivers and cycles of the flattening, at byte 0.
pub data RefusesHier (bytes : Bytes) : Refusal → Type 0 where
  unexpected : (r : Bytes) → IsUnexpected ReadsHier deep_in bytes r → RefusesHier bytes (refusal SvUnexpected (length bytes - length r))
  too_deep : (r : Bytes) → IsTooDeep ReadsHier deep_in bytes r → RefusesHier bytes (refusal SvDepth (length bytes - length r))
  wrong_size : (ms : List RawHier) (at : ℕ) → IsReadHier bytes ms → first_size ms ≡ Some at → RefusesHier bytes (refusal SvSize at)
  wrong_name : (ms : List RawHier) (at : ℕ) → IsReadHier bytes ms → first_size ms ≡ None → first_name ms ≡ Some at → RefusesHier bytes (refusal SvName at)
  wrong_instance : (ms : List RawHier) (at : ℕ) → IsReadHier bytes ms → first_size ms ≡ None → first_name ms ≡ None → first_instance ms ≡ Some at
      → RefusesHier bytes (refusal SvInstance at)
  too_large : (ms : List RawHier) → IsReadHier bytes ms → AreConnected ms → is_too_large (hier_of ms).modules ≡ true → RefusesHier bytes (refusal HierTooLarge 0)
  names_together : (flat : SvModule) (at : ℕ) → AreTogether bytes flat → wrong_of false (raw_of flat) ≡ Some (Name at) → RefusesHier bytes (refusal SvName 0)
  drivers_together : (flat : SvModule) (at : ℕ) → AreTogether bytes flat → wrong_of false (raw_of flat) ≡ Some (Driver at) → RefusesHier bytes (refusal SvDriver 0)
  cycle_together : (flat : SvModule) (block : ℕ) → AreTogether bytes flat → wrong_of false (raw_of flat) ≡ None → FirstCycle (combs_of flat.blocks) block → RefusesHier bytes (refusal SvLoop 0)
