-- Bytes that are read as a module, over which the walk over sizes and undeclared names notes nothing, are the text of the module that
-- they say, whose names and sizes are right.
use Rattle.std.proofs.Common.{◌≡◌, ◌<◌, ◌+◌, ◌-◌, ◌≤◌, ℕ, zero, suc, nat_le, Bool, true, false, List, [], ◌∷◌, ◌++◌, length, map, decimal, refl, sym, ap, subst, ◌∙◌, arith}
use Rattle.std.specs.Prelude.{codes, flat_map, Option, Some, None, if◌then◌else◌}
use Rattle.std.proofs.lemmas.Bool.{leb-true, both_ways}
use Rattle.scc_svtree.specs.declared.module.SvModule.{SvModule}
use Rattle.scc_svtree.specs.declared.module.SvVar.{SvVar}
use Rattle.scc_svtree.specs.declared.module.SvBlock.{SvBlock}
use Rattle.scc_svtree.specs.declared.module.Dir.{Dir}
use Rattle.scc_svtree.specs.declared.module.Dir.TheVariants.{Input, Output, Inner}
use Rattle.scc_svtree.specs.Variables.{width_at, IsWidth}
use Rattle.scc_svtree.specs.Concats.{block_concats}
use Rattle.scc_svtree.specs.Sound.{Each, is_simple, PortsFirst, IsSizedBlock, AreNamed, block_names}
use Rattle.scc_svtext.specs.Fixed.{fixed_text}
use Rattle.scc_svtext.specs.Pieces.{spelled, range_text}
use Rattle.scc_svtext.specs.ModuleText.{is_port, names_of, dir_text, port_text, lead_text, close_text, ports_text, decl_text, block_text, module_text}
use Rattle.scc_svread_grammar.specs.declared.raw.RawVar.{RawVar}
use Rattle.scc_svread_grammar.specs.declared.raw.RawBlock.{RawBlock}
use Rattle.scc_svread_grammar.specs.declared.raw.RawItem.{RawItem}
use Rattle.scc_svread_grammar.specs.declared.raw.RawItem.TheVariants.{Var, Block}
use Rattle.scc_svread_grammar.specs.declared.raw.RawModule.{RawModule}
use Rattle.scc_svread_grammar.specs.Lexical.{Bytes, is_positive, ReadsName, ReadsRange}
use Rattle.scc_svread_grammar.proofs.Numbers.{positive_decimal}
use Rattle.scc_svread_grammar.proofs.Runs.{and_right}
use Rattle.scc_svread_grammar.specs.Grammar.{ReadsVar, ReadsPort, ReadsMorePorts, ReadsPorts, ReadsItems, ReadsModule, Reads}
use Rattle.scc_svread_check.specs.declared.walk.Walk.{Walk}
use Rattle.scc_svread_check.specs.Numbers.{small_number}
use Rattle.scc_svread_written.specs.Resolved.{width_of, variable_of, declared, blocks_in, named, names_in, with_names, block_of, module_of}
use Rattle.scc_svread_check.specs.Scope.{Scope, number_in, is_width, high_in, high_of, declare, declare_all}
use Rattle.scc_svread_check.specs.Walking.{◌then◌, pass, start}
use Rattle.scc_svread_check.specs.Blocks.{var_walk, block_walk}
use Rattle.scc_svread_check.specs.First.{ports_walk, items_walk, scope_of, module_walk}
use Rattle.scc_svread_written.proofs.Clear.{IsClear}
use Rattle.scc_svread_written.proofs.Formed.{Formed, Declares}
use Rattle.scc_svread_sizes.proofs.Declared as decl
use Rattle.scc_svread_sizes.proofs.Declared.{AreDeclared, var_asks, ports_asks}
use Rattle.scc_svread_written.proofs.Distinct.{names_after, names_kept}
use Rattle.scc_svread_written.proofs.Leaves.{bare_names}
use Rattle.scc_svread_check.proofs.Mapped.{map_append}
use Rattle.scc_svread_sizes.proofs.NotedSizes.{block_keeps}
use Rattle.scc_svread_sizes.proofs.Noted.{RightLevel}
use Rattle.scc_svread_sizes.proofs.RightModule.{names_behind}
use Rattle.scc_svread_written.proofs.Sums.{two, three, seven}
use Rattle.scc_svread_sizes.proofs.MeantBlocks.{MeantBlock, block_meant}
use Rattle.scc_svread_sizes.proofs.MeantDecimals.{small_back}

-- ---- ranges

-- a number above 0 in decimal digits isn't 0
above_zero : (ds : Bytes) → is_positive ds ≡ true → decimal (small_number ds) ≡ ds → (n : ℕ) → small_number ds ≡ n → 0 < n
above_zero ds h e zero p =
    let z : codes "0" ≡ ds = sym (small_back (codes "0") refl (omega arith)) ∙ ap decimal (sym p) ∙ e in
    absurd (both_ways (is_positive ds) (ap is_positive (sym z)) h)
above_zero ds h e (suc n) p = omega arith

range_meant : (ts r : Bytes) (high : Option Bytes) → ReadsRange ts r high → is_width (high_in high + 1) ≡ true → ts ≡ range_text (width_of high) ++ r
unfolding fixed_text
range_meant ts r None d h = d
range_meant ts r (Some ds) d h = go (nat_le (width_of (Some ds)) 1) refl
  where
    l : number_in ds + 1 ≤ 128
    l = leb-true (number_in ds + 1) 128 (and_right (nat_le 1 (number_in ds + 1)) _ h)

    go : (t : Bool) → nat_le (width_of (Some ds)) 1 ≡ t → ts ≡ (if t then [] else codes "[" ++ decimal (width_of (Some ds) - 1) ++ codes ":0] ") ++ r
    go true e =
        let b = small_back ds (positive_decimal ds d.1) (omega (arith, l)) in
        let z = above_zero ds d.1 b (small_number ds) refl in
        let k = leb-true (width_of (Some ds)) 1 e in
        absurd (omega (arith, z, k))
    go false e =
        let b = small_back ds (positive_decimal ds d.1) (omega (arith, l)) in
        let n : width_of (Some ds) - 1 ≡ small_number ds = omega (arith, l) in
        d.0 ∙ sym (three (codes "[") (decimal (width_of (Some ds) - 1)) (codes ":0] ") r ∙ ap (λ u. codes "[" ++ (u ++ (codes ":0] " ++ r))) (ap decimal n ∙ b))

-- ---- declarations

-- a variable that was read: a simple name, this direction, and the bytes of its range and name
record MeantVar (dir : Dir) (ts r : Bytes) (v : RawVar) : Type 0 where
  simple : is_simple v.name ≡ true
  is_dir : v.dir ≡ dir
  text : ts ≡ range_text (width_of v.high) ++ (spelled v.name ++ r)

var_meant : (dir : Dir) (ts r : Bytes) (v : RawVar) → ReadsVar dir ts r v → is_width (high_of v + 1) ≡ true → MeantVar dir ts r v
var_meant dir ts r v d h = record {
  simple = d.2.1;
  is_dir = d.3;
  text = range_meant ts d.0 v.high d.1 h ∙ ap (λ u. range_text (width_of v.high) ++ u) d.2.0;
}

abbrev variables : List RawVar → List SvVar
variables vs = map variable_of vs

port_of : (dir : Dir) (v : RawVar) (rest : Bytes) → v.dir ≡ dir → port_text (variable_of v) ++ rest ≡ dir_text dir ++ (range_text (width_of v.high) ++ (spelled v.name ++ rest))
port_of dir v rest e = three (dir_text v.dir) (range_text (width_of v.high)) (spelled v.name) rest ∙ ap (λ d. dir_text d ++ (range_text (width_of v.high) ++ (spelled v.name ++ rest))) e

-- a port that was read
record MeantPort (ts r : Bytes) (v : RawVar) : Type 0 where
  simple : is_simple v.name ≡ true
  outward : is_port v.dir ≡ true
  text : ts ≡ port_text (variable_of v) ++ r

port_meant : {ts r : Bytes} {v : RawVar} → ReadsPort ts r v → is_width (high_of v + 1) ≡ true → MeantPort ts r v
unfolding fixed_text
port_meant (ReadsPort.port true a {r} {v} d) h =
    let k = var_meant Input a r v d h in
    record { simple = k.simple; outward = ap is_port k.is_dir; text = ap (λ u. codes "  input logic " ++ u) k.text ∙ sym (port_of Input v r k.is_dir) }
port_meant (ReadsPort.port false a {r} {v} d) h =
    let k = var_meant Output a r v d h in
    record { simple = k.simple; outward = ap is_port k.is_dir; text = ap (λ u. codes "  output logic " ++ u) k.text ∙ sym (port_of Output v r k.is_dir) }

record MeantPorts (more : Bool) (ts r : Bytes) (vs : List RawVar) : Type 0 where
  simple : Each (λ v. is_simple v.name ≡ true) vs
  outward : Each (λ v. is_port v.dir ≡ true) vs
  text : ts ≡ ports_text more (variables vs) ++ r

-- one port more
with_port : (more : Bool) (ts m r : Bytes) (v : RawVar) (vs : List RawVar) → MeantPort ts m v → MeantPorts true m r vs → MeantPorts more (lead_text more ++ ts) r (v ∷ vs)
with_port more ts m r v vs k l = record {
  simple = (k.simple, l.simple);
  outward = (k.outward, l.outward);
  text =
      ap (λ u. lead_text more ++ u) (k.text ∙ ap (λ u. port_text (variable_of v) ++ u) l.text)
      ∙ sym (three (lead_text more) (port_text (variable_of v)) (ports_text true (variables vs)) r)
      ∙ ap (λ t. (if t then lead_text more ++ port_text (variable_of v) ++ ports_text true (variables vs) else ports_text more (variables vs)) ++ r) (sym k.outward);
}

more_ports_meant : {ts r : Bytes} {vs : List RawVar} → ReadsMorePorts ts (codes "\n" ++ r) vs → (s : Scope) → AreDeclared s vs → MeantPorts true ts r vs
unfolding fixed_text
more_ports_meant {r = r} d s h = go d refl s h
  where
    go : {ts q : Bytes} {vs : List RawVar} → ReadsMorePorts ts q vs → q ≡ codes "\n" ++ r → (s : Scope) → AreDeclared s vs → MeantPorts true ts r vs
    go (ReadsMorePorts.no_more) e s h = record { simple = tt; outward = tt; text = e }
    go (ReadsMorePorts.more {a = a} {m = m} {v = v} {vs = vs} d f) e s h = with_port true a m r v vs (port_meant d h.0) (go f e (declare s v) h.2)

ports_meant : {ts r : Bytes} {vs : List RawVar} → ReadsPorts ts r vs → (s : Scope) → AreDeclared s vs → MeantPorts false ts r vs
unfolding fixed_text
ports_meant (ReadsPorts.no_ports) s h = record { simple = tt; outward = tt; text = refl }
ports_meant (ReadsPorts.ports {a} {m} {r} {v} {vs} d f) s h = with_port false a m r v vs (port_meant d h.0) (more_ports_meant f (declare s v) h.2)

-- ---- the variables of a module

ports_end : (more : Bool) (vs : List RawVar) → Each (λ v. v.dir ≡ Inner) vs → ports_text more (variables vs) ≡ close_text more
ports_end more [] h = refl
ports_end more (v ∷ vs) h =
    ap (λ d. if is_port d then lead_text more ++ port_text (variable_of v) ++ ports_text true (variables vs) else ports_text more (variables vs)) h.0 ∙ ports_end more vs h.1

-- what stands behind the ports is none of them
ports_alone : (more : Bool) (us vs : List RawVar) → Each (λ v. is_port v.dir ≡ true) us → Each (λ v. v.dir ≡ Inner) vs → ports_text more (variables (us ++ vs)) ≡ ports_text more (variables us)
ports_alone more [] vs h k = ports_end more vs k
ports_alone more (u ∷ us) vs h k =
    ap (λ t. if t then lead_text more ++ port_text (variable_of u) ++ ports_text true (variables (us ++ vs)) else ports_text more (variables (us ++ vs))) h.0
    ∙ ap (λ t. lead_text more ++ port_text (variable_of u) ++ t) (ports_alone true us vs h.1 k)
    ∙ ap (λ t. if t then lead_text more ++ port_text (variable_of u) ++ ports_text true (variables us) else ports_text more (variables us)) (sym h.0)

declarations_alone : (us vs : List RawVar) → Each (λ v. is_port v.dir ≡ true) us → flat_map decl_text (variables (us ++ vs)) ≡ flat_map decl_text (variables vs)
unfolding fixed_text
declarations_alone [] vs h = refl
declarations_alone (u ∷ us) vs h =
    ap (λ t. (if t then [] else port_text (variable_of u) ++ codes ";\n") ++ flat_map decl_text (variables (us ++ vs))) h.0 ∙ declarations_alone us vs h.1

all_inner : (vs : List RawVar) → Each (λ v. v.dir ≡ Inner) vs → Each (λ v. v.dir ≡ Inner) (variables vs)
all_inner [] h = tt
all_inner (v ∷ vs) h = (h.0, all_inner vs h.1)

inner_first : (vs : List RawVar) → Each (λ v. v.dir ≡ Inner) vs → PortsFirst (variables vs)
inner_first [] h = tt
inner_first (v ∷ vs) h = (λ e. all_inner vs h.1, inner_first vs h.1)

no_port : (d : Dir) → is_port d ≡ true → d ≡ Inner → ⊥
no_port Input h e = cc
no_port Output h e = cc
no_port Inner h e = cc

ports_first : (us vs : List RawVar) → Each (λ v. is_port v.dir ≡ true) us → Each (λ v. v.dir ≡ Inner) vs → PortsFirst (variables (us ++ vs))
ports_first [] vs h k = inner_first vs k
ports_first (u ∷ us) vs h k = (λ e. absurd (no_port u.dir h.0 e), ports_first us vs h.1 k)

each_append : {A : Type 0} (P : A → Type 0) (us vs : List A) → Each P us → Each P vs → Each P (us ++ vs)
each_append P [] vs h k = k
each_append P (u ∷ us) vs h k = (h.0, each_append P us vs h.1 k)

-- ---- items

-- the declarations, first
items_declared : {begun : Bool} {ts r : Bytes} {xs : List RawItem} → ReadsItems begun ts r xs → (before s : Scope) (w : Walk) → IsClear (items_walk before s xs w) → IsClear w × AreDeclared before (declared xs)
items_declared (ReadsItems.no_items) before s w c = (c, tt)
items_declared (ReadsItems.var {v = v} d more) before s w c =
    let p = items_declared more (declare before v) s (pass 2 (var_walk before v (pass 8 w))) c in
    let q = (var_asks before v).told (pass 8 w) p.0 in
    (q.0, (q.1.0, q.1.1, p.1))
items_declared (ReadsItems.block {b = b} d more) before s w c =
    let p = items_declared more before s (block_walk s b w) c in
    ((block_keeps s d).keeps w p.0, p.1)

-- behind a block no declaration comes
no_more : {ts r : Bytes} {xs : List RawItem} (begun : Bool) → begun ≡ true → ReadsItems begun ts r xs → declared xs ≡ []
no_more begun e (ReadsItems.no_items) = refl
no_more begun e (ReadsItems.var d more) = absurd (cc)
no_more begun e (ReadsItems.block d more) = no_more true refl more

record MeantDeclarations (xs : List RawItem) : Type 0 where
  simple : Each (λ v. is_simple v.name ≡ true) (declared xs)
  inner : Each (λ v. v.dir ≡ Inner) (declared xs)

declarations_meant : {begun : Bool} {ts r : Bytes} {xs : List RawItem} → ReadsItems begun ts r xs → MeantDeclarations xs
declarations_meant (ReadsItems.no_items) = record { simple = tt; inner = tt }
declarations_meant (ReadsItems.var d more) = let k = declarations_meant more in record { simple = (d.2.1, k.simple); inner = (d.3, k.inner) }
declarations_meant (ReadsItems.block d more) = let k = declarations_meant more in record { simple = k.simple; inner = k.inner }

module _ (vars : List SvVar) (all_named : AreNamed vars) (widths : Each (λ v. IsWidth v.width) vars) (s : Scope) (d : Declares s vars) where
  abbrev blocks_of : List RawItem → List SvBlock
  blocks_of xs = map (block_of (bare_names vars)) (blocks_in xs)

  abbrev lines_of : List RawItem → Bytes
  lines_of xs = flat_map (block_text vars (names_of vars)) (blocks_of xs)

  abbrev declarations : List RawItem → Bytes
  declarations xs = flat_map decl_text (variables (declared xs))

  -- what items that were read say
  pub record MeantItems (ts r : Bytes) (xs : List RawItem) : Type 0 where
    pub text : ts ≡ declarations xs ++ (lines_of xs ++ r)
    pub sized : Each (IsSizedBlock (width_at vars)) (blocks_of xs)
    pub within : (v : ℕ) → Each (λ b. block_names b v ≡ true → v < length vars) (blocks_of xs)
    pub concats : Each (λ b. block_concats b ≡ true) (blocks_of xs)

  var_item : (a m r : Bytes) (v : RawVar) (more : List RawItem) → MeantVar Inner a (codes ";\n" ++ m) v → MeantItems m r more → MeantItems (codes "  logic " ++ a) r (Var v ∷ more)
  unfolding fixed_text
  var_item a m r v more k l = record {
    text =
        ap (λ u. codes "  logic " ++ u) (k.text ∙ ap (λ u. range_text (width_of v.high) ++ (spelled v.name ++ (codes ";\n" ++ u))) l.text)
        ∙ sym (port_of Inner v (codes ";\n" ++ (declarations more ++ (lines_of more ++ r))) k.is_dir)
        ∙ sym (three (port_text (variable_of v)) (codes ";\n") (declarations more) (lines_of more ++ r))
        ∙ ap (λ t. ((if t then [] else port_text (variable_of v) ++ codes ";\n") ++ declarations more) ++ (lines_of more ++ r)) (sym (ap is_port k.is_dir));
    sized = l.sized;
    within = l.within;
    concats = l.concats;
  }

  block_item : (a m r : Bytes) (b : RawBlock) (more : List RawItem) → MeantBlock vars all_named widths s d a m b → declared more ≡ [] → MeantItems m r more → MeantItems (codes "  " ++ a) r (Block b ∷ more)
  block_item a m r b more k e l =
      let rest : m ≡ lines_of more ++ r = l.text ∙ ap (λ vs. flat_map decl_text (variables vs) ++ (lines_of more ++ r)) e in
      record {
        text =
            k.text ∙ ap (λ u. block_text vars (names_of vars) (block_of (bare_names vars) b) ++ u) rest
            ∙ sym (two (block_text vars (names_of vars) (block_of (bare_names vars) b)) (lines_of more) r)
            ∙ ap (λ vs. flat_map decl_text (variables vs) ++ (lines_of (Block b ∷ more) ++ r)) (sym e);
        sized = (k.sized, l.sized);
        within = λ v. (k.declared v, l.within v);
        concats = (k.concats, l.concats);
      }

  items_meant : {begun : Bool} {ts r : Bytes} {xs : List RawItem} → ReadsItems begun ts r xs → Each RightLevel (blocks_in xs) → (before : Scope) → AreDeclared before (declared xs)
      → (w : Walk) → IsClear (items_walk before s xs w) → IsClear w × MeantItems ts r xs
  items_meant (ReadsItems.no_items) h before k w c = (c, record { text = refl; sized = tt; within = λ v. tt; concats = tt })
  items_meant (ReadsItems.var {a} {m} {r} {v} {more} f g) h before k w c =
      let p = items_meant g h (declare before v) k.2 (pass 2 (var_walk before v (pass 8 w))) c in
      let q = (var_asks before v).told (pass 8 w) p.0 in
      (q.0, var_item a m r v more (var_meant Inner a (codes ";\n" ++ m) v f k.0) p.1)
  items_meant (ReadsItems.block {begun} {a} {m} {r} {b} {more} f g) h before k w c =
      let p = items_meant g h.1 before k (block_walk s b w) c in
      let q = block_meant vars all_named widths s d f h.0 w p.0 in
      (q.0, block_item a m r b more q.1 (no_more true refl g) p.1)

-- ---- the module

-- what a module that was read says
pub record MeantModule (bytes : Bytes) (raw : RawModule) : Type 0 where
  pub formed : Formed (module_of raw)
  pub text : bytes ≡ module_text (module_of raw)

module _ (a b c name : Bytes) (ports : List RawVar) (items : List RawItem)
    (d : ReadsName a (codes " (\n" ++ b) name) (f : ReadsPorts b (codes ");\n" ++ c) ports) (g : ReadsItems false c (codes "endmodule\n") items) where
  abbrev raw : RawModule
  raw = record { name = name; ports = ports; items = items }

  abbrev all : List RawVar
  all = ports ++ declared items

  abbrev vars : List SvVar
  vars = variables all

  abbrev opened : Walk
  opened = pass 3 (pass (length (spelled name)) (pass 7 start))

  scope_is : scope_of raw ≡ declare_all [] all
  scope_is = names_behind (declare_all [] ports) items ∙ decl.declare_append [] ports (declared items)

  module _ (clear : IsClear (module_walk raw start)) (levels : Each RightLevel (blocks_in items)) where
    behind : IsClear (pass 3 (ports_walk [] ports opened)) × AreDeclared (declare_all [] ports) (declared items)
    behind = items_declared g (declare_all [] ports) (scope_of raw) (pass 3 (ports_walk [] ports opened)) clear

    of_ports : AreDeclared [] ports
    of_ports = ((ports_asks [] ports).told opened behind.0).1

    of_all : AreDeclared [] all
    of_all = decl.join [] ports (declared items) of_ports behind.1

    p : MeantPorts false b (codes ");\n" ++ c) ports
    p = ports_meant f [] of_ports

    q : MeantDeclarations items
    q = declarations_meant g

    all_named : AreNamed vars
    all_named = decl.named_from [] all of_all (each_append (λ v. is_simple v.name ≡ true) ports (declared items) p.simple q.simple)

    widths : Each (λ v. IsWidth v.width) vars
    widths = decl.widths_from [] all of_all

    declares : Declares (scope_of raw) vars
    declares = subst (λ s. Declares s vars) (sym scope_is) (decl.declares all of_all)

    i : MeantItems vars all_named widths (scope_of raw) declares c (codes "endmodule\n") items
    i = (items_meant vars all_named widths (scope_of raw) declares g levels (declare_all [] ports) behind.1 (pass 3 (ports_walk [] ports opened)) clear).1

    names_are : names_in raw ≡ bare_names vars
    names_are =
        names_after [] (named ports) (named (declared items)) ∙ ap (with_names []) (map_append (λ v. v.name) ports (declared items) ∙ decl.same_names all) ∙ names_kept vars all_named

    -- the module, by the names of its variables
    abbrev meant : SvModule
    meant = record { name = name; vars = vars; blocks = map (block_of (bare_names vars)) (blocks_in items) }

    meant_is : module_of raw ≡ meant
    meant_is = ap (λ ns. record { name = name; vars = vars; blocks = map (block_of ns) (blocks_in items) }) names_are

    formed : Formed meant
    formed = record {
      name = d.1;
      ports = ports_first ports (declared items) p.outward q.inner;
      widths = widths;
      sizes = i.sized;
      concats = i.concats;
      names = all_named;
      declared = i.within;
    }

    text : codes "module " ++ a ≡ module_text meant
    unfolding fixed_text
    text =
        ap (λ u. codes "module " ++ u)
        (d.0 ∙ ap (λ u. spelled name ++ (codes " (\n" ++ u))
        (p.text ∙ ap (λ u. u ++ (codes ");\n" ++ c)) (sym (ports_alone false ports (declared items) p.outward q.inner))
        ∙ ap (λ u. ports_text false vars ++ (codes ");\n" ++ u)) (i.text ∙ ap (λ u. u ++ (flat_map (block_text vars (names_of vars)) meant.blocks ++ codes "endmodule\n")) (sym (declarations_alone ports (declared items) p.outward)))))
        ∙ sym (seven (codes "module ") (spelled name) (codes " (\n") (ports_text false vars) (codes ");\n") (flat_map decl_text vars) (flat_map (block_text vars (names_of vars)) meant.blocks) (codes "endmodule\n"))

    whole : MeantModule (codes "module " ++ a) raw
    whole = record { formed = subst Formed (sym meant_is) formed; text = text ∙ ap module_text (sym meant_is) }

pub module_meant : {bytes : Bytes} {raw : RawModule} → Reads bytes raw → IsClear (module_walk raw start) → Each RightLevel (blocks_in raw.items) → MeantModule bytes raw
module_meant (ReadsModule.whole {a} {b} {c} {name = name} {vars = ports} {items = items} d f g) clear levels = whole a b c name ports items d f g clear levels
