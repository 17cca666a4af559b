-- Ports and declarations: each is read as it is written, and says which variable it is.
use Rattle.std.proofs.Common.{◌≡◌, ◌-◌, ℕ, Bool, true, false, nat_le, List, [], ◌∷◌, ◌++◌, map, decimal, Some, None, refl, sym, subst, ap, ◌∙◌, arith}
use Rattle.std.specs.Prelude.{codes, flat_map, if◌then◌else◌}
use borrow.Author.Tests.{leb-true, leb-false}
use Rattle.scc_svtree.specs.declared.module.SvVar.{SvVar}
use Rattle.scc_svtree.specs.declared.module.SvBlock.{SvBlock}
use Rattle.scc_svtree.specs.declared.module.Dir.{Dir}
use Rattle.scc_svtree.specs.declared.module.Dir.TheVariants.{Input, Output, Inner}
use Rattle.scc_svtree.specs.Variables.{IsWidth}
use Rattle.scc_svtree.specs.Sound.{Each, AreNamed, PortsFirst, is_simple}
use Rattle.scc_svtext.specs.Fixed.{fixed_text}
use Rattle.scc_svtext.specs.Pieces.{spelled, range_text}
use Rattle.scc_svtext.specs.ModuleText.{is_port, dir_text, port_text, lead_text, ports_text, decl_text}
use Rattle.scc_svread_grammar.specs.declared.raw.RawVar.{RawVar}
use Rattle.scc_svread_grammar.specs.declared.raw.RawItem.{RawItem}
use Rattle.scc_svread_grammar.specs.declared.raw.RawItem.TheVariants.{Var}
use Rattle.scc_svread_grammar.specs.Lexical.{Bytes, ReadsRange}
use Rattle.scc_svread_grammar.specs.Grammar.{ReadsVar, ReadsPort, ReadsPorts, ReadsMorePorts, ReadsItems}
use Rattle.scc_svread_written.specs.Written.{raw_high, raw_var, raw_ports, raw_declarations, raw_block, raw_blocks}
use Rattle.scc_svread_written.specs.Resolved.{width_of, variable_of, declared, blocks_in}
use Rattle.scc_svread_written.proofs.Decimals.{small_decimal, decimal_positive}
use Rattle.scc_svread_written.proofs.Sums.{two, three}
use Rattle.scc_svread_written.proofs.Leaves.{bare_names}

-- ---- one variable

reads_range : (w : ℕ) (r : Bytes) → IsWidth w → ReadsRange (range_text w ++ r) r (raw_high w)
unfolding fixed_text
reads_range w r h = go (nat_le w 1) refl
  where
    go : (t : Bool) → nat_le w 1 ≡ t → ReadsRange ((if t then [] else codes "[" ++ decimal (w - 1) ++ codes ":0] ") ++ r) r (if t then None else Some (decimal (w - 1)))
    go true e = refl
    go false e = let l = leb-false w 1 e in (three (codes "[") (decimal (w - 1)) (codes ":0] ") r, decimal_positive (w - 1) (omega (arith, h.1)) (omega (arith, l)))

back_width : (w : ℕ) → IsWidth w → width_of (raw_high w) ≡ w
back_width w h = go (nat_le w 1) refl
  where
    go : (t : Bool) → nat_le w 1 ≡ t → width_of (if t then None else Some (decimal (w - 1))) ≡ w
    go true e = let l = leb-true w 1 e in omega (arith, h.0, l)
    go false e = let l = leb-false w 1 e in let e = small_decimal (w - 1) (omega (arith, h.1)) in omega (arith, l, e, h.1)

-- a variable up to what follows its name
reads_variable : (v : SvVar) (dir : Dir) → v.dir ≡ dir → IsWidth v.width → is_simple v.name ≡ true → (r : Bytes) → ReadsVar dir (range_text v.width ++ (spelled v.name ++ r)) r (raw_var v)
reads_variable v dir e h i r = (spelled v.name ++ r, reads_range v.width (spelled v.name ++ r) h, (refl, i), e)

abbrev Widths : List SvVar → Type 0
Widths vs = Each (λ v. IsWidth v.width) vs

-- ---- ports

module _ (v : SvVar) (h : IsWidth v.width) (i : is_simple v.name ≡ true) (r : Bytes) where
  abbrev rest : Bytes
  rest = range_text v.width ++ (spelled v.name ++ r)

  input_port : v.dir ≡ Input → ReadsPort ((dir_text Input ++ range_text v.width ++ spelled v.name) ++ r) r (raw_var v)
  unfolding fixed_text
  input_port e =
      let P : Bytes → Type 0 = λ ts. ReadsPort ts r (raw_var v) in
      subst P (sym (three (codes "  input logic ") (range_text v.width) (spelled v.name) r)) (ReadsPort.port true rest (reads_variable v Input e h i r))

  output_port : v.dir ≡ Output → ReadsPort ((dir_text Output ++ range_text v.width ++ spelled v.name) ++ r) r (raw_var v)
  unfolding fixed_text
  output_port e =
      let P : Bytes → Type 0 = λ ts. ReadsPort ts r (raw_var v) in
      subst P (sym (three (codes "  output logic ") (range_text v.width) (spelled v.name) r)) (ReadsPort.port false rest (reads_variable v Output e h i r))

  port_by : (d : Dir) → is_port d ≡ true → v.dir ≡ d → ReadsPort ((dir_text d ++ range_text v.width ++ spelled v.name) ++ r) r (raw_var v)
  port_by Input p e = input_port e
  port_by Output p e = output_port e
  port_by Inner p e = cc

reads_more_ports : (vs : List SvVar) → Widths vs → AreNamed vs → (r : Bytes) → ReadsMorePorts (ports_text true vs ++ r) (codes "\n" ++ r) (raw_ports vs)
unfolding fixed_text
reads_more_ports [] h a r = ReadsMorePorts.no_more
reads_more_ports (v ∷ vs) h a r = go (is_port v.dir) refl (reads_more_ports vs h.1 a.2 r)
  where
    go : (t : Bool) → is_port v.dir ≡ t → ReadsMorePorts (ports_text true vs ++ r) (codes "\n" ++ r) (raw_ports vs)
        → ReadsMorePorts ((if t then codes ",\n" ++ port_text v ++ ports_text true vs else ports_text true vs) ++ r) (codes "\n" ++ r) (if t then raw_var v ∷ raw_ports vs else raw_ports vs)
    go true e k =
        let P : Bytes → Type 0 = λ ts. ReadsMorePorts ts (codes "\n" ++ r) (raw_var v ∷ raw_ports vs) in
        subst P (sym (three (codes ",\n") (port_text v) (ports_text true vs) r)) (ReadsMorePorts.more (port_by v h.0 a.0 (ports_text true vs ++ r) v.dir e refl) k)
    go false e k = k

pub reads_ports : (vs : List SvVar) → Widths vs → AreNamed vs → (r : Bytes) → ReadsPorts (ports_text false vs ++ r) r (raw_ports vs)
unfolding fixed_text
reads_ports [] h a r = ReadsPorts.no_ports
reads_ports (v ∷ vs) h a r = go (is_port v.dir) refl (reads_ports vs h.1 a.2 r)
  where
    go : (t : Bool) → is_port v.dir ≡ t → ReadsPorts (ports_text false vs ++ r) r (raw_ports vs)
        → ReadsPorts ((if t then lead_text false ++ port_text v ++ ports_text true vs else ports_text false vs) ++ r) r (if t then raw_var v ∷ raw_ports vs else raw_ports vs)
    go true e k =
        let P : Bytes → Type 0 = λ ts. ReadsPorts ts r (raw_var v ∷ raw_ports vs) in
        subst P (sym (two (port_text v) (ports_text true vs) r)) (ReadsPorts.ports (port_by v h.0 a.0 (ports_text true vs ++ r) v.dir e refl) (reads_more_ports vs h.1 a.2 r))
    go false e k = k

-- ---- declarations

declared_by : (v : SvVar) → IsWidth v.width → is_simple v.name ≡ true → (d : Dir) → is_port d ≡ false → v.dir ≡ d → {ts r : Bytes} {items : List RawItem} → ReadsItems false ts r items
    → ReadsItems false ((dir_text d ++ range_text v.width ++ spelled v.name) ++ (codes ";\n" ++ ts)) r (Var (raw_var v) ∷ items)
unfolding fixed_text
declared_by v h i Input p e k = cc
declared_by v h i Output p e k = cc
declared_by v h i Inner p e {ts} {r} {items} k =
    let P : Bytes → Type 0 = λ us. ReadsItems false us r (Var (raw_var v) ∷ items) in
    subst P (sym (three (codes "  logic ") (range_text v.width) (spelled v.name) (codes ";\n" ++ ts))) (ReadsItems.var (reads_variable v Inner e h i (codes ";\n" ++ ts)) k)

pub reads_declarations : (vs : List SvVar) → Widths vs → AreNamed vs → {ts r : Bytes} {items : List RawItem} → ReadsItems false ts r items → ReadsItems false (flat_map decl_text vs ++ ts) r (raw_declarations vs ++ items)
unfolding fixed_text
reads_declarations [] h a k = k
reads_declarations (v ∷ vs) h a {ts} {r} {items} k = go (is_port v.dir) refl (reads_declarations vs h.1 a.2 k)
  where
    go : (t : Bool) → is_port v.dir ≡ t → ReadsItems false (flat_map decl_text vs ++ ts) r (raw_declarations vs ++ items)
        → ReadsItems false (((if t then [] else port_text v ++ codes ";\n") ++ flat_map decl_text vs) ++ ts) r ((if t then raw_declarations vs else Var (raw_var v) ∷ raw_declarations vs) ++ items)
    go true e d = d
    go false e d =
        let P : Bytes → Type 0 = λ us. ReadsItems false us r (Var (raw_var v) ∷ (raw_declarations vs ++ items)) in
        subst P (sym (three (port_text v) (codes ";\n") (flat_map decl_text vs) ts)) (declared_by v h.0 a.0 v.dir e refl d)

-- ---- which variables are written

abbrev raw_inner : List SvVar → List RawVar
raw_inner [] = []
raw_inner (v ∷ vs) = if is_port v.dir then raw_inner vs else raw_var v ∷ raw_inner vs

declared_blocks : (vars : List SvVar) (bs : List SvBlock) → declared (raw_blocks vars bs) ≡ []
declared_blocks vars [] = refl
declared_blocks vars (b ∷ bs) = declared_blocks vars bs

declared_all : (vars : List SvVar) (bs : List SvBlock) (vs : List SvVar) → declared (raw_declarations vs ++ raw_blocks vars bs) ≡ raw_inner vs
declared_all vars bs [] = declared_blocks vars bs
declared_all vars bs (v ∷ vs) = go (is_port v.dir) (declared_all vars bs vs)
  where
    go : (t : Bool) → declared (raw_declarations vs ++ raw_blocks vars bs) ≡ raw_inner vs
        → declared ((if t then raw_declarations vs else Var (raw_var v) ∷ raw_declarations vs) ++ raw_blocks vars bs) ≡ (if t then raw_inner vs else raw_var v ∷ raw_inner vs)
    go true k = k
    go false k = ap (λ us. raw_var v ∷ us) k

pub blocks_all : (vars : List SvVar) (bs : List SvBlock) (vs : List SvVar) → blocks_in (raw_declarations vs ++ raw_blocks vars bs) ≡ map (raw_block vars) bs
blocks_all vars [] [] = refl
blocks_all vars (b ∷ bs) [] = ap (λ us. raw_block vars b ∷ us) (blocks_all vars bs [])
blocks_all vars bs (v ∷ vs) = go (is_port v.dir) (blocks_all vars bs vs)
  where
    go : (t : Bool) → blocks_in (raw_declarations vs ++ raw_blocks vars bs) ≡ map (raw_block vars) bs
        → blocks_in ((if t then raw_declarations vs else Var (raw_var v) ∷ raw_declarations vs) ++ raw_blocks vars bs) ≡ map (raw_block vars) bs
    go true k = k
    go false k = k

no_ports : (vs : List SvVar) → Each (λ v. v.dir ≡ Inner) vs → raw_ports vs ≡ []
no_ports [] h = refl
no_ports (v ∷ vs) h = ap (λ d. if is_port d then raw_var v ∷ raw_ports vs else raw_ports vs) h.0 ∙ no_ports vs h.1

inner_is : (d : Dir) → is_port d ≡ false → d ≡ Inner
inner_is Input e = cc
inner_is Output e = cc
inner_is Inner e = refl

all_written : (vs : List SvVar) → PortsFirst vs → raw_ports vs ++ raw_inner vs ≡ map raw_var vs
all_written [] p = refl
all_written (v ∷ vs) p = go (is_port v.dir) refl (all_written vs p.1)
  where
    go : (t : Bool) → is_port v.dir ≡ t → raw_ports vs ++ raw_inner vs ≡ map raw_var vs
        → (if t then raw_var v ∷ raw_ports vs else raw_ports vs) ++ (if t then raw_inner vs else raw_var v ∷ raw_inner vs) ≡ raw_var v ∷ map raw_var vs
    go true e k = ap (λ us. raw_var v ∷ us) k
    go false e k =
        let n = no_ports vs (p.0 (inner_is v.dir e)) in
        ap (λ ps. ps ++ (raw_var v ∷ raw_inner vs)) n ∙ ap (λ us. raw_var v ∷ us) (ap (λ ps. ps ++ raw_inner vs) (sym n) ∙ k)

-- ports and declarations are the variables in their order
pub variables_all : (vars : List SvVar) (bs : List SvBlock) (vs : List SvVar) → PortsFirst vs → raw_ports vs ++ declared (raw_declarations vs ++ raw_blocks vars bs) ≡ map raw_var vs
variables_all vars bs vs p = ap (λ us. raw_ports vs ++ us) (declared_all vars bs vs) ∙ all_written vs p

pub back_variables : (vs : List SvVar) → Widths vs → map variable_of (map raw_var vs) ≡ vs
back_variables [] h = refl
back_variables (v ∷ vs) h = ap (λ w. record { name = v.name; width = w; dir = v.dir } ∷ map variable_of (map raw_var vs)) (back_width v.width h.0) ∙ ap (λ us. v ∷ us) (back_variables vs h.1)

pub back_names : (vs : List SvVar) → map (λ v. v.name) (map raw_var vs) ≡ bare_names vs
back_names [] = refl
back_names (v ∷ vs) = ap (λ us. v.name ∷ us) (back_names vs)
