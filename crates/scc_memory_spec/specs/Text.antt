-- The text of a module with memories (IEEE 1800-2017, 7.4.2, 11.5.2): that of any module, with three more forms: a memory is declared before the variable that tells
-- whether it is written, an element stands behind the memory's name in brackets, and an edge writes a memory in three lines. A relation, since an expression
-- joins two at a time what the text has as the parts of one concatenation.
use Rattle.std.specs.Prelude.{◌≡◌, ◌-◌, ◌+◌, ℕ, nat_eq, Bool, true, false, List, [], ◌∷◌, ◌++◌, map, flat_map, codes, decimal, Option, Some, None, slice_get, if◌then◌else◌}
use Rattle.scc_svtree.specs.declared.expr.SvLeft.{SvLeft}
use Rattle.scc_svtree.specs.declared.expr.SvUnary.{SvUnary}
use Rattle.scc_svtree.specs.declared.expr.SvBinary.{SvBinary}
use Rattle.scc_svtree.specs.declared.module.SvVar.{SvVar}
use Rattle.scc_svtext.specs.declared.fixed.Fixed.TheVariants as piece
use Rattle.scc_svtext.specs.Fixed.{fixed_text}
use Rattle.scc_svtext.specs.Pieces.{spelled, name_at, literal_text, left_text, blanks}
use Rattle.scc_svtext.specs.ExprText.{unary_text, binary_text, sign_text, joined}
use Rattle.scc_svtext.specs.ModuleText.{names_of, ports_text, decl_text, edge_text, level_text}
use Rattle.scc_blocks_spec.specs.Renamed.{Loaded, ResetCode}
use Rattle.scc_memory_spec.specs.Array.{width_of}
use Rattle.scc_memory_spec.specs.Memory.{MemTerm, Literal, Part, Unary, Binary, Cond, Join, Cast, Sign, Element, MemCode, End, Assign, If, Case, MemArms, None_left, Arm, MemSet, MemBlock, Comb, Edge, Memory, MemModule}
use Rattle.scc_memory_spec.specs.Sound.{IsSoundMemory}

-- the names of variables and of memories as they are written
pub record Spelled : Type 0 where
  pub vars : List (List ℕ)
  pub memories : List (List ℕ)

abbrev pub spelled_in : MemModule → Spelled
spelled_in m = record { vars = names_of m.vars; memories = map (λ b. spelled b.name) m.memories }

-- what the parts of a concatenation are together; a concatenation has two parts or more
abbrev pub joined_terms : List MemTerm → MemTerm
joined_terms [] = Literal 0 0
joined_terms (e ∷ []) = Sign false e
joined_terms (e ∷ f ∷ more) = Join e (joined_terms (f ∷ more))

mutual
  pub data IsTermText (n : Spelled) : MemTerm → List ℕ → Type 0 where
    literal : (w x : ℕ) → IsTermText n (Literal w x) (literal_text w x)
    part : (l : SvLeft) → IsTermText n (Part l) (left_text n.vars l)
    unary : {e : MemTerm} {t : List ℕ} → (o : SvUnary) → IsTermText n e t → IsTermText n (Unary o e) (fixed_text piece.Open ++ (unary_text o ++ (t ++ fixed_text piece.Close)))
    binary : {e f : MemTerm} {t u : List ℕ} → (o : SvBinary) → IsTermText n e t → IsTermText n f u
        → IsTermText n (Binary o e f) (fixed_text piece.Open ++ (t ++ (fixed_text piece.Space ++ (binary_text o ++ (fixed_text piece.Space ++ (u ++ fixed_text piece.Close))))))
    choice : {c e f : MemTerm} {s t u : List ℕ} → IsTermText n c s → IsTermText n e t → IsTermText n f u
        → IsTermText n (Cond c e f) (fixed_text piece.Open ++ (s ++ (fixed_text piece.Question ++ (t ++ (fixed_text piece.Colon ++ (u ++ fixed_text piece.Close))))))
    concat : {e f : MemTerm} {es : List MemTerm} {ts : List (List ℕ)} → AreTermTexts n (e ∷ f ∷ es) ts
        → IsTermText n (joined_terms (e ∷ f ∷ es)) (fixed_text piece.BraceOpen ++ (joined true ts ++ fixed_text piece.BraceClose))
    cast : {e : MemTerm} {t : List ℕ} → (w : ℕ) → IsTermText n e t → IsTermText n (Cast w e) (decimal w ++ (fixed_text piece.CastOpen ++ (t ++ fixed_text piece.Close)))
    sign : {e : MemTerm} {t : List ℕ} → (s : Bool) → IsTermText n e t → IsTermText n (Sign s e) (sign_text s ++ (t ++ fixed_text piece.Close))
    element : {e : MemTerm} {t : List ℕ} → (k : ℕ) → IsTermText n e t
        → IsTermText n (Element k e) (name_at n.memories k ++ (fixed_text piece.SelectOpen ++ (t ++ fixed_text piece.SelectClose)))

  pub data AreTermTexts (n : Spelled) : List MemTerm → List (List ℕ) → Type 0 where
    none : AreTermTexts n [] []
    one : {e : MemTerm} {t : List ℕ} {es : List MemTerm} {ts : List (List ℕ)} → IsTermText n e t → AreTermTexts n es ts → AreTermTexts n (e ∷ es) (t ∷ ts)

-- the branch behind an `else`, which an empty one has not
abbrev pub else_text : ℕ → MemCode → List ℕ → List ℕ
else_text k End t = []
else_text k c t = blanks k ++ (fixed_text piece.Else ++ t)

mutual
  -- statements behind so many blanks
  pub data IsCodeText (n : Spelled) : ℕ → MemCode → List ℕ → Type 0 where
    ends : (k : ℕ) → IsCodeText n k End []
    assign : {k : ℕ} {e : MemTerm} {c : MemCode} {t u : List ℕ} → (l : SvLeft) → IsTermText n e t → IsCodeText n k c u
        → IsCodeText n k (Assign l e c) (blanks k ++ (left_text n.vars l ++ (fixed_text piece.Assign ++ (t ++ (fixed_text piece.LineEnd ++ u)))))
    tests : {k : ℕ} {e : MemTerm} {a b c : MemCode} {t u v w : List ℕ} → IsTermText n e t → IsCodeText n (k + 2) a u → IsCodeText n (k + 2) b v → IsCodeText n k c w
        → IsCodeText n k (If e a b c) (blanks k ++ (fixed_text piece.If ++ (t ++ (fixed_text piece.Then ++ (u ++ (else_text k b v ++ (blanks k ++ (fixed_text piece.End ++ w))))))))
    cases : {k : ℕ} {e : MemTerm} {ms : MemArms} {c : MemCode} {t u v : List ℕ} → IsTermText n e t → AreArmTexts n (k + 2) ms u → IsCodeText n k c v
        → IsCodeText n k (Case e ms c) (blanks k ++ (fixed_text piece.Case ++ (t ++ (fixed_text piece.CaseOpen ++ (u ++ (blanks k ++ (fixed_text piece.CaseEnd ++ v)))))))

  pub data AreArmTexts (n : Spelled) : ℕ → MemArms → List ℕ → Type 0 where
    no_arms : (k : ℕ) → AreArmTexts n k None_left []
    arm : {k : ℕ} {c : MemCode} {ms : MemArms} {t u : List ℕ} → (width label : ℕ) → IsCodeText n (k + 2) c t → AreArmTexts n k ms u
        → AreArmTexts n k (Arm width label c ms) (blanks k ++ (literal_text width label ++ (fixed_text piece.ArmOpen ++ (t ++ (blanks k ++ (fixed_text piece.End ++ u))))))

-- the lines that write a memory
abbrev pub write_text : Spelled → ℕ → ℕ → Memory → List ℕ
write_text n indent k b = blanks indent ++ (fixed_text piece.If ++ (name_at n.vars b.write ++ (fixed_text piece.Then
    ++ (blanks (indent + 2) ++ (name_at n.memories k ++ (fixed_text piece.SelectOpen ++ (name_at n.vars b.address ++ (fixed_text piece.SelectClose ++ (fixed_text piece.Load
    ++ (name_at n.vars b.value ++ (fixed_text piece.LineEnd ++ (blanks indent ++ fixed_text piece.End))))))))))))

-- The lines of an edge: registers in their order and memories in theirs, one among the other.
pub data AreSetTexts (m : MemModule) (indent : ℕ) : List MemSet → List ℕ → List ℕ → Type 0 where
  no_sets : AreSetTexts m indent [] [] []
  set : {e : MemTerm} {ss : List MemSet} {ks t u : List ℕ} → (v : ℕ) → IsTermText (spelled_in m) e t → AreSetTexts m indent ss ks u
      → AreSetTexts m indent (record { target = v; value = e } ∷ ss) ks (blanks indent ++ (name_at (names_of m.vars) v ++ (fixed_text piece.Load ++ (t ++ (fixed_text piece.LineEnd ++ u)))))
  write : {b : Memory} {ss : List MemSet} {ks u : List ℕ} → (k : ℕ) → slice_get m.memories k ≡ Some b → AreSetTexts m indent ss ks u
      → AreSetTexts m indent ss (k ∷ ks) (write_text (spelled_in m) indent k b ++ u)

abbrev pub load_text : MemModule → Loaded → List ℕ
load_text m l = blanks 6 ++ (name_at (names_of m.vars) l.target ++ (fixed_text piece.Load ++ (literal_text (width_of m.vars l.target) l.word ++ fixed_text piece.LineEnd)))

-- an edge's lines from behind its clock's name, with those that set
abbrev pub edge_lines_text : MemModule → Option ResetCode → List ℕ → List ℕ
edge_lines_text m None t = fixed_text piece.Then ++ t
edge_lines_text m (Some r) t = let signal = name_at (names_of m.vars) r.signal in
    fixed_text piece.Or ++ (edge_text r.rising ++ (signal ++ (fixed_text piece.Then ++ (fixed_text piece.ResetIf ++ (level_text r.rising signal ++ (fixed_text piece.Then
    ++ (flat_map (load_text m) r.values ++ (fixed_text piece.ResetElse ++ (t ++ fixed_text piece.ResetEnd)))))))))

-- under a reset the lines stand two blanks further
abbrev pub indent_of : Option ResetCode → ℕ
indent_of None = 4
indent_of (Some r) = 6

pub data IsBlockText (m : MemModule) : MemBlock → List ℕ → Type 0 where
  comb : {c : MemCode} {t : List ℕ} → IsCodeText (spelled_in m) 4 c t → IsBlockText m (Comb c) (fixed_text piece.Comb ++ (t ++ fixed_text piece.BlockEnd))
  edge : {sets : List MemSet} {memories t : List ℕ} → (rising : Bool) (clock : ℕ) (reset : Option ResetCode) → AreSetTexts m (indent_of reset) sets memories t
      → IsBlockText m (Edge rising clock reset sets memories)
      (fixed_text piece.Edge ++ (edge_text rising ++ (name_at (names_of m.vars) clock ++ (edge_lines_text m reset t ++ fixed_text piece.BlockEnd))))

pub data AreBlockTexts (m : MemModule) : List MemBlock → List ℕ → Type 0 where
  no_blocks : AreBlockTexts m [] []
  block : {b : MemBlock} {bs : List MemBlock} {t u : List ℕ} → IsBlockText m b t → AreBlockTexts m bs u → AreBlockTexts m (b ∷ bs) (t ++ u)

-- `  logic [W:0] NAME [0:N];`
abbrev pub memory_text : Memory → List ℕ
memory_text b = fixed_text piece.Decl ++ (fixed_text piece.SelectOpen ++ (decimal (b.width - 1) ++ (fixed_text piece.RangeClose
    ++ (spelled b.name ++ (codes " [0:" ++ (decimal (b.size - 1) ++ codes "];\n"))))))

-- the variables from this number on, each memory before the variable that tells whether it is written
abbrev pub decls_text : List Memory → ℕ → List SvVar → List ℕ
decls_text bs v [] = []
decls_text bs v (x ∷ xs) = flat_map (λ b. if nat_eq b.write v then memory_text b else []) bs ++ (decl_text x ++ decls_text bs (v + 1) xs)

-- The bytes are the text of the module, which is without faults.
pub record MemReads (bytes : List ℕ) (m : MemModule) : Type 0 where
  pub sound : IsSoundMemory m
  pub blocks : List ℕ
  pub are_blocks : AreBlockTexts m m.blocks blocks
  pub whole : bytes ≡ fixed_text piece.Module ++ (spelled m.name ++ (fixed_text piece.PortsOpen ++ (ports_text false m.vars ++ (fixed_text piece.PortsClose
      ++ (decls_text m.memories 0 m.vars ++ (blocks ++ fixed_text piece.ModuleEnd))))))
