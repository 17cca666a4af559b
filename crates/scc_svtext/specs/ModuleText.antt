-- The text of a module.
use Rattle.std.specs.Prelude.{ℕ, List, [], ◌∷◌, ◌++◌, map, flat_map, Bool, true, false, if◌then◌else◌, Option, Some, None, slice_get, unwrap_or, option_map}
use Rattle.scc_svtree.specs.declared.module.SvModule.{SvModule}
use Rattle.scc_svtree.specs.declared.module.SvVar.{SvVar}
use Rattle.scc_svtree.specs.declared.module.Dir.{Dir}
use Rattle.scc_svtree.specs.declared.module.Dir.TheVariants.{Input, Output, Inner}
use Rattle.scc_svtree.specs.declared.module.SvBlock.{SvBlock}
use Rattle.scc_svtree.specs.declared.module.SvBlock.TheVariants.{Comb, Edge}
use Rattle.scc_svtree.specs.declared.module.SvSet.{SvSet}
use Rattle.scc_svtree.specs.declared.module.SvReset.{SvReset}
use Rattle.scc_svtree.specs.declared.module.SvLoad.{SvLoad}
use Rattle.scc_svtext.specs.declared.fixed.Fixed.TheVariants as piece
use Rattle.scc_svtext.specs.Fixed.{fixed_text}
use Rattle.scc_svtext.specs.Pieces.{spelled, name_at, literal_text, range_text, blanks}
use Rattle.scc_svtext.specs.ExprText.{expr_text}
use Rattle.scc_svtext.specs.StmtText.{stmts_text}

abbrev pub is_port : Dir → Bool
is_port Inner = false
is_port _ = true

abbrev pub dir_text : Dir → List ℕ
dir_text Input = fixed_text piece.Input
dir_text Output = fixed_text piece.Output
dir_text Inner = fixed_text piece.Decl

-- the names of the variables as they are written
abbrev pub names_of : List SvVar → List (List ℕ)
names_of vars = map (λ v. spelled v.name) vars

abbrev pub width_at : List SvVar → ℕ → ℕ
width_at vars i = unwrap_or (option_map (λ v. v.width) (slice_get vars i)) 0

abbrev pub port_text : SvVar → List ℕ
port_text v = dir_text v.dir ++ range_text v.width ++ spelled v.name

abbrev pub lead_text : Bool → List ℕ
lead_text more = if more then fixed_text piece.PortEnd else []

abbrev pub close_text : Bool → List ℕ
close_text more = if more then fixed_text piece.Break else []

-- the ports from here on; `more` says whether one stands before
abbrev pub ports_text : Bool → List SvVar → List ℕ
ports_text more [] = close_text more
ports_text more (v ∷ vs) = if is_port v.dir then lead_text more ++ port_text v ++ ports_text true vs else ports_text more vs

abbrev pub decl_text : SvVar → List ℕ
decl_text v = if is_port v.dir then [] else port_text v ++ fixed_text piece.LineEnd

abbrev pub edge_text : Bool → List ℕ
edge_text true = fixed_text piece.Posedge
edge_text false = fixed_text piece.Negedge

abbrev pub set_text : List (List ℕ) → ℕ → SvSet → List ℕ
set_text names n s = blanks n ++ name_at names s.target.0 ++ fixed_text piece.Load ++ expr_text names s.value ++ fixed_text piece.LineEnd

abbrev pub load_text : List SvVar → List (List ℕ) → SvLoad → List ℕ
load_text vars names l = blanks 6 ++ name_at names l.target.0 ++ fixed_text piece.Load ++ literal_text (width_at vars l.target.0) l.value.bits ++ fixed_text piece.LineEnd

-- the condition under which a reset stands: its name, or that it is 0
abbrev pub level_text : Bool → List ℕ → List ℕ
level_text true name = name
level_text false name = fixed_text piece.NotOpen ++ name ++ fixed_text piece.Close

-- an asynchronous reset in the list of edges, from behind the clock's name
abbrev pub signal_text : List (List ℕ) → SvReset → List ℕ
signal_text names r = fixed_text piece.Or ++ edge_text r.rising ++ name_at names r.signal.0 ++ fixed_text piece.Then

-- its branch, up to the other one
abbrev pub branch_text : List SvVar → List (List ℕ) → SvReset → List ℕ
branch_text vars names r = fixed_text piece.ResetIf ++ level_text r.rising (name_at names r.signal.0) ++ fixed_text piece.Then ++ flat_map (load_text vars names) r.values ++ fixed_text piece.ResetElse

-- the lines of an edge's block, from behind its clock's name
abbrev pub edge_lines_text : List SvVar → List (List ℕ) → Option SvReset → List SvSet → List ℕ
edge_lines_text vars names None sets = fixed_text piece.Then ++ flat_map (set_text names 4) sets
edge_lines_text vars names (Some r) sets = signal_text names r ++ branch_text vars names r ++ flat_map (set_text names 6) sets ++ fixed_text piece.ResetEnd

abbrev pub block_text : List SvVar → List (List ℕ) → SvBlock → List ℕ
block_text vars names (Comb ss) = fixed_text piece.Comb ++ stmts_text names ss 4 ++ fixed_text piece.BlockEnd
block_text vars names (Edge rising clock reset sets) = fixed_text piece.Edge ++ edge_text rising ++ name_at names clock.0 ++ edge_lines_text vars names reset sets ++ fixed_text piece.BlockEnd

-- The one text of a module.
abbrev pub module_text : SvModule → List ℕ
module_text m = fixed_text piece.Module ++ spelled m.name ++ fixed_text piece.PortsOpen ++ ports_text false m.vars ++ fixed_text piece.PortsClose
    ++ flat_map decl_text m.vars ++ flat_map (block_text m.vars (names_of m.vars)) m.blocks ++ fixed_text piece.ModuleEnd
