-- What the text of a module without faults gives.
use Rattle.std.proofs.Common.{◌≡◌, ◌<◌, ◌≤◌, ◌+◌, ◌^◌, ℕ, Bool, true, false, List, [], ◌∷◌, ◌++◌, length, refl, sym, ap, ◌∙◌, subst, arith}
use Rattle.std.specs.Prelude.{flat_map, if◌then◌else◌}
use Rattle.std.proofs.lemmas.List.{length-append}
use Rattle.scc_svtree.specs.declared.module.SvModule.{SvModule}
use Rattle.scc_svtree.specs.declared.module.SvVar.{SvVar}
use Rattle.scc_svtree.specs.declared.module.Dir.{Dir}
use Rattle.scc_svtree.specs.declared.module.Dir.TheVariants.{Input, Output, Inner}
use Rattle.scc_svtree.specs.declared.module.SvBlock.{SvBlock}
use Rattle.scc_svtree.specs.declared.module.SvBlock.TheVariants.{Comb, Edge}
use Rattle.scc_svtree.specs.Sound.{Each, IsSound, AgreesWith, AgreeOnClock}
use Rattle.scc_svtext.specs.declared.fixed.Fixed.TheVariants as piece
use Rattle.scc_svtext.specs.Fixed.{fixed_text}
use Rattle.scc_svtext.specs.Pieces.{spelled, range_text}
use Rattle.scc_svtext.specs.Emitted.{SvReads}
use Rattle.scc_svtext.specs.ModuleText.{module_text, ports_text, decl_text, lead_text, close_text, dir_text, port_text, is_port, block_text, names_of}

-- ---- one clock is a case of several

agrees_many : (rising : Bool) (clock : ℕ) (b : SvBlock) → AgreesWith false rising clock b → AgreesWith true rising clock b
agrees_many rising clock (Comb ss) h = tt
agrees_many rising clock (Edge r c reset sets) h = λ e. h.0

each_agrees : (rising : Bool) (clock : ℕ) (bs : List SvBlock) → Each (AgreesWith false rising clock) bs → Each (AgreesWith true rising clock) bs
each_agrees rising clock [] h = tt
each_agrees rising clock (b ∷ bs) h = (agrees_many rising clock b h.0, each_agrees rising clock bs h.1)

agree_many : (b : SvBlock) (bs : List SvBlock) → AgreeOnClock false b bs → AgreeOnClock true b bs
agree_many (Comb ss) bs h = tt
agree_many (Edge rising clock reset sets) bs h = each_agrees rising clock.0 bs h

all_agree : (cs bs : List SvBlock) → Each (λ b. AgreeOnClock false b bs) cs → Each (λ b. AgreeOnClock true b bs) cs
all_agree [] bs h = tt
all_agree (c ∷ cs) bs h = (agree_many c bs h.0, all_agree cs bs h.1)

pub sound_many : (m : SvModule) → IsSound false m → IsSound true m
sound_many m s = record {
  name = s.name;
  ports = s.ports;
  widths = s.widths;
  sizes = s.sizes;
  concats = s.concats;
  names = s.names;
  declared = s.declared;
  inputs_kept = s.inputs_kept;
  one_driver = s.one_driver;
  driven = s.driven;
  fresh = s.fresh;
  edges = s.edges;
  one_clock = all_agree m.blocks m.blocks s.one_clock;
  order = s.order;
}

-- ---- a text has a byte for each variable, or more

behind : (a b : List ℕ) → length b ≤ length (a ++ b)
behind a b = let e : length (a ++ b) ≡ length a + length b = length-append a b in omega (arith, e)

before : (a b : List ℕ) → length a ≤ length (a ++ b)
before a b = let e : length (a ++ b) ≡ length a + length b = length-append a b in omega (arith, e)

dir_long : (d : Dir) → 1 ≤ length (dir_text d)
unfolding fixed_text
dir_long Input = omega arith
dir_long Output = omega arith
dir_long Inner = omega arith

port_long : (v : SvVar) → 1 ≤ length (port_text v)
port_long v =
    let a = dir_long v.dir in
    let b : length ((dir_text v.dir ++ range_text v.width) ++ spelled v.name) ≡ length (dir_text v.dir ++ range_text v.width) + length (spelled v.name) = length-append (dir_text v.dir ++ range_text v.width) (spelled v.name) in
    let c = before (dir_text v.dir) (range_text v.width) in
    omega (arith, a, b, c)

listed : (more : Bool) (vs : List SvVar) → length vs ≤ length (ports_text more vs) + length (flat_map decl_text vs)
listed more [] = omega arith
listed more (v ∷ vs) = go (is_port v.dir) refl (listed true vs) (listed more vs)
  where
    go : (b : Bool) → is_port v.dir ≡ b → length vs ≤ length (ports_text true vs) + length (flat_map decl_text vs) → length vs ≤ length (ports_text more vs) + length (flat_map decl_text vs)
        → length (v ∷ vs) ≤ length (if b then lead_text more ++ port_text v ++ ports_text true vs else ports_text more vs) + length ((if b then [] else port_text v ++ fixed_text piece.LineEnd) ++ flat_map decl_text vs)
    go true e h k =
        let a = port_long v in
        let b : length ((lead_text more ++ port_text v) ++ ports_text true vs) ≡ length (lead_text more ++ port_text v) + length (ports_text true vs) = length-append (lead_text more ++ port_text v) (ports_text true vs) in
        let c = behind (lead_text more) (port_text v) in
        omega (arith, a, b, c, h)
    go false e h k =
        let a = port_long v in
        let b : length ((port_text v ++ fixed_text piece.LineEnd) ++ flat_map decl_text vs) ≡ length (port_text v ++ fixed_text piece.LineEnd) + length (flat_map decl_text vs) = length-append (port_text v ++ fixed_text piece.LineEnd) (flat_map decl_text vs) in
        let c = before (port_text v) (fixed_text piece.LineEnd) in
        omega (arith, a, b, c, k)

whole : (a p c d b e : List ℕ) → length p + length d ≤ length (a ++ p ++ c ++ d ++ b ++ e)
whole a p c d b e =
    let f : length (a ++ p) ≡ length a + length p = length-append a p in
    let g : length (a ++ p ++ c) ≡ length (a ++ p) + length c = length-append (a ++ p) c in
    let h : length (a ++ p ++ c ++ d) ≡ length (a ++ p ++ c) + length d = length-append (a ++ p ++ c) d in
    let i : length (a ++ p ++ c ++ d ++ b) ≡ length (a ++ p ++ c ++ d) + length b = length-append (a ++ p ++ c ++ d) b in
    let j : length (a ++ p ++ c ++ d ++ b ++ e) ≡ length (a ++ p ++ c ++ d ++ b) + length e = length-append (a ++ p ++ c ++ d ++ b) e in
    omega (arith, f, g, h, i, j)

pub few_variables : (many : Bool) (bytes : List ℕ) (m : SvModule) → SvReads many bytes m → length m.vars ≤ length bytes
few_variables many bytes m r =
    let a = listed false m.vars in
    let b : length (ports_text false m.vars) + length (flat_map decl_text m.vars) ≤ length (module_text m) =
    whole (fixed_text piece.Module ++ spelled m.name ++ fixed_text piece.PortsOpen) (ports_text false m.vars) (fixed_text piece.PortsClose) (flat_map decl_text m.vars)
    (flat_map (block_text m.vars (names_of m.vars)) m.blocks) (fixed_text piece.ModuleEnd) in
    let c : length bytes ≡ length (module_text m) = ap length r.text in
    omega (arith, a, b, c)
