-- Levels: which statement or expression is the first to stand deeper than the limit, by the bytes from it on.
use Rattle.std.specs.Prelude.{ℕ, Bool, List, Option, None}
use Rattle.scc_reading.specs.Level.{opens, ◌then◌}
use Rattle.scc_svread_grammar.specs.declared.raw.RawExpr.{RawExpr}
use Rattle.scc_svread_grammar.specs.declared.raw.RawStmt.{RawStmt}
use Rattle.scc_svread_grammar.specs.declared.raw.RawArm.{RawArm}
use Rattle.scc_svread_grammar.specs.declared.raw.RawSet.{RawSet}
use Rattle.scc_svread_grammar.specs.declared.raw.RawBlock.{RawBlock}
use Rattle.scc_svread_grammar.specs.declared.raw.RawItem.{RawItem}
use Rattle.scc_svread_grammar.specs.declared.raw.RawModule.{RawModule}
use Rattle.scc_svread_grammar.specs.Lexical.{Bytes}
use Rattle.scc_svread_grammar.specs.Grammar.{ReadsDivisor, ReadsExpr, ReadsParts, ReadsStmt, ReadsStmts, ReadsArms, ReadsSets, ReadsBlock, ReadsItems, ReadsModule, Reads}

-- `$signed` of a literal holds that literal
unfoldable pub deep_divisor : {ts r : Bytes} {x : RawExpr} → ℕ → ReadsDivisor ts r x → Option Bytes
deep_divisor n (ReadsDivisor.plain l d) = None
deep_divisor n (ReadsDivisor.signed {a = a} l d) = opens n a (λ m. None)

unfoldable mutual
  -- the first that stands deeper than `n` levels below
  pub deep_expr : {ts r : Bytes} {x : RawExpr} → ℕ → ReadsExpr ts r x → Option Bytes
  deep_expr n (ReadsExpr.literal l d) = None
  deep_expr n (ReadsExpr.left l d) = None
  deep_expr n (ReadsExpr.unary {a = a} h d) = opens n a (λ m. deep_expr m d)
  deep_expr n (ReadsExpr.binary {a = a} {c = c} op d h f) = opens n a (λ m. deep_expr m d) then opens n c (λ m. deep_expr m f)
  deep_expr n (ReadsExpr.division {a = a} {c = c} op d h f) = opens n a (λ m. deep_expr m d) then opens n c (λ m. deep_divisor m f)
  deep_expr n (ReadsExpr.cond {a = a} {b = b} {c = c} d f g) = opens n a (λ m. deep_expr m d) then opens n b (λ m. deep_expr m f) then opens n c (λ m. deep_expr m g)
  deep_expr n (ReadsExpr.concat {a = a} {b = b} d f g) = opens n a (λ m. deep_expr m d) then opens n b (λ m. deep_expr m f) then deep_parts n g
  deep_expr n (ReadsExpr.cast {a = a} w h d) = opens n a (λ m. deep_expr m d)
  deep_expr n (ReadsExpr.sign {a = a} s d) = opens n a (λ m. deep_expr m d)

  pub deep_parts : {ts r : Bytes} {xs : List RawExpr} → ℕ → ReadsParts ts r xs → Option Bytes
  deep_parts n (ReadsParts.no_parts) = None
  deep_parts n (ReadsParts.part {a = a} d more) = opens n a (λ m. deep_expr m d) then deep_parts n more

unfoldable mutual
  pub deep_stmt : {k : ℕ} {ts r : Bytes} {x : RawStmt} → ℕ → ReadsStmt k ts r x → Option Bytes
  deep_stmt n (ReadsStmt.assign {a = a} l h d) = opens n a (λ m. deep_expr m d)
  deep_stmt n (ReadsStmt.if_only {a = a} d body) = opens n a (λ m. deep_expr m d) then deep_stmts n body
  deep_stmt n (ReadsStmt.if_else {a = a} d body other) = opens n a (λ m. deep_expr m d) then deep_stmts n body then deep_stmts n other
  deep_stmt n (ReadsStmt.case {a = a} d arms) = opens n a (λ m. deep_expr m d) then deep_arms n arms

  pub deep_stmts : {k : ℕ} {ts r : Bytes} {xs : List RawStmt} → ℕ → ReadsStmts k ts r xs → Option Bytes
  deep_stmts n (ReadsStmts.no_stmts) = None
  deep_stmts n (ReadsStmts.stmt {a = a} d more) = opens n a (λ m. deep_stmt m d) then deep_stmts n more

  pub deep_arms : {k : ℕ} {ts r : Bytes} {xs : List RawArm} → ℕ → ReadsArms k ts r xs → Option Bytes
  deep_arms n (ReadsArms.no_arms) = None
  deep_arms n (ReadsArms.one_arm l h body more) = deep_stmts n body then deep_arms n more

unfoldable pub deep_sets : {k : ℕ} {ts r : Bytes} {xs : List RawSet} → ℕ → ReadsSets k ts r xs → Option Bytes
deep_sets n (ReadsSets.no_sets) = None
deep_sets n (ReadsSets.set {b = b} t d more) = opens n b (λ m. deep_expr m d) then deep_sets n more

unfoldable pub deep_block : {ts r : Bytes} {x : RawBlock} → ℕ → ReadsBlock ts r x → Option Bytes
deep_block n (ReadsBlock.comb body) = deep_stmts n body
deep_block n (ReadsBlock.edge c sets) = deep_sets n sets
deep_block n (ReadsBlock.edge_or_reset x c s l values sets) = deep_sets n sets

unfoldable pub deep_items : {begun : Bool} {ts r : Bytes} {xs : List RawItem} → ℕ → ReadsItems begun ts r xs → Option Bytes
deep_items n (ReadsItems.no_items) = None
deep_items n (ReadsItems.var v more) = deep_items n more
deep_items n (ReadsItems.block b more) = deep_block n b then deep_items n more

unfoldable pub deep_module : {ts r : Bytes} {m : RawModule} → ℕ → ReadsModule ts r m → Option Bytes
deep_module n (ReadsModule.whole w vars items) = deep_items n items

-- A statement of a block and an expression of an edge have level 1; `n` levels are allowed.
unfoldable pub deep : {ts : Bytes} {m : RawModule} → ℕ → Reads ts m → Option Bytes
deep n d = deep_module n d
