-- Names in an expression: the walk over it notes nothing exactly where none of them is early.
use Rattle.std.proofs.Common.{◌≡◌, ◌+◌, ℕ, nat_eq, Bool, false, ◌||◌, List, [], ◌∷◌, length, map, decimal, refl}
use Rattle.scc_svtree.specs.declared.module.SvVar.{SvVar}
use Rattle.scc_svtree.specs.declared.expr.SvExpr.{SvExpr}
use Rattle.scc_svtree.specs.declared.expr.SvExprNode.TheOpen as node
use Rattle.scc_svtree.specs.declared.expr.SvLeft.{SvLeft}
use Rattle.scc_svtree.specs.declared.expr.SvLeft.TheVariants.{Whole, Bit, Range}
use Rattle.scc_svtree.specs.Term.{Term, term_of, term_node, joined}
use Rattle.scc_svtree.specs.Running.{var_of}
use Rattle.scc_svtree.specs.Mentions.{reads}
use Rattle.scc_svtree.specs.Sound.{Each, AreNamed}
use Rattle.scc_svtext.specs.ExprText.{binary_text}
use Rattle.scc_svtext.specs.Pieces.{spelled}
use Rattle.scc_svread_grammar.specs.declared.raw.RawLeft.{RawLeft}
use Rattle.scc_svread_check.specs.Walking.{Walking, ◌then◌, pass}
use Rattle.scc_svread_check.specs.Parts.{literal_bytes, select_bytes, sign_bytes}
use Rattle.scc_svread_check.specs.Drivers.{anywhere}
use Rattle.scc_svread_check.specs.Within.{Known, is_early, left_mention, parts_names, expr_node_names, expr_names}
use Rattle.scc_svread_written.specs.Written.{name_of, raw_literal, raw_left, raw_expr}
use Rattle.scc_svread_written.proofs.Clear.{Asks, asks_by, asks_pass, asks_then, asks_name}
use Rattle.scc_svread_drivers.proofs.NamedTests.{of_both, of_first, of_second, of_none, of_one, at_one}
use Rattle.scc_svread_drivers.proofs.NamedLists as lists
use Rattle.scc_svread_written.proofs.NamedTrees.{at_literal, at_left, at_unary, at_binary, at_cond, at_concat, at_cast, at_sign}
use Rattle.scc_svtree.proofs.Induction.{expr_made, by_expr}

-- ---- walks

-- bytes before a part ask nothing
pub led : {p : Walking} {P : Type 0} (n : ℕ) → Asks p P → Asks (pass n then p) P
led n a = record { told = λ w c. a.told (pass n w) c; kept = λ w c u. a.kept (pass n w) c u }

-- nor do bytes behind it
pub ended : {p : Walking} {P : Type 0} (n : ℕ) → Asks p P → Asks (p then pass n) P
ended n a = record { told = λ w c. a.told w c; kept = λ w c u. a.kept w c u }

-- where nothing is walked over
pub asks_nothing : {P : Type 0} → P → Asks (λ w. w) P
asks_nothing x = record { told = λ w c. (c, x); kept = λ w c u. c }

pub asks_mention : (wrong : Bool) (l : RawLeft) → Asks (left_mention wrong l) (wrong ≡ false)
asks_mention wrong l = ended (select_bytes l.select) (ended (length (spelled l.name)) (asks_name wrong))

module _ (vars : List SvVar) (named : AreNamed vars) where
  abbrev Apart : (ℕ → Bool) → (ℕ → Bool) → Type 0
  Apart = lists.Apart vars named

  asks_apart : {p q : Walking} (a b c : ℕ → Bool) → Asks p (Apart a c) → Asks q (Apart b c) → Asks (p then q) (Apart (λ v. a v || b v) c)
  asks_apart a b c x y = asks_by (λ u. of_both a b u.0 u.1) (λ u. (of_first a b u, of_second a b u)) (asks_then x y)

  module _ (k : Known) where
    abbrev early : ℕ → Bool
    early v = is_early k (name_of vars v)

    -- ---- expressions

    abbrev walk_of : SvExpr → Walking
    walk_of e = expr_names k (raw_expr vars e)

    abbrev AsksExpr : SvExpr → Type 0
    AsksExpr e = Asks (walk_of e) (Apart (reads (term_of e)) early)

    moved : {p q : Walking} {t u : Term} → p ≡ q → t ≡ u → Asks q (Apart (reads u) early) → Asks p (Apart (reads t) early)
    moved e f a = rw (e, f) a

    left_asks : (l : SvLeft) → Asks (left_mention (is_early k (raw_left vars l).name) (raw_left vars l)) (Apart (nat_eq (var_of l)) early)
    left_asks (Whole u) = asks_by (of_one _ u.0) (at_one u.0) (asks_mention (early u.0) (raw_left vars (Whole u)))
    left_asks (Bit u at) = asks_by (of_one _ u.0) (at_one u.0) (asks_mention (early u.0) (raw_left vars (Bit u at)))
    left_asks (Range u h l) = asks_by (of_one _ u.0) (at_one u.0) (asks_mention (early u.0) (raw_left vars (Range u h l)))

    parts_ask : (lead : ℕ) (es : List SvExpr) → Each AsksExpr es → Asks (parts_names lead (map (expr_names k) (map (raw_expr vars) es))) (Apart (reads (joined (map term_of es))) early)
    parts_ask lead [] h = asks_nothing (of_none _)
    parts_ask lead (e ∷ []) h = led lead h.0
    parts_ask lead (e ∷ d ∷ es) h = asks_apart (reads (term_of e)) (reads (joined (map term_of (d ∷ es)))) early (led lead h.0) (parts_ask 2 (d ∷ es) h.1)

    pub expr_asks : (e : SvExpr) → Asks (expr_names k (raw_expr vars e)) (lists.Apart vars named (reads (term_of e)) (λ v. is_early k (name_of vars v)))
    expr_asks = by_expr AsksExpr
        (λ l. moved (at_literal vars (expr_node_names k) l) (expr_made Term term_node (node.Literal l)) (asks_by (λ u. of_none _) (λ u. tt) (asks_pass (literal_bytes (raw_literal l.width l.value.bits)))))
        (λ l. moved (at_left vars (expr_node_names k) l) (expr_made Term term_node (node.Left l)) (left_asks l))
        (λ o a h. moved (at_unary vars (expr_node_names k) o a) (expr_made Term term_node (node.Unary o a)) (ended 1 (led 2 h)))
        (λ o a b h i. moved (at_binary vars (expr_node_names k) o a b) (expr_made Term term_node (node.Binary o a b))
        (asks_apart (reads (term_of a)) (reads (term_of b)) early (ended (length (binary_text o) + 2) (led 1 h)) (ended 1 i)))
        (λ c a b g h i. moved (at_cond vars (expr_node_names k) c a b) (expr_made Term term_node (node.Cond c a b))
        (asks_apart (reads (term_of c)) (λ v. reads (term_of a) v || reads (term_of b) v) early (ended 3 (led 1 g)) (asks_apart (reads (term_of a)) (reads (term_of b)) early (ended 3 h) (ended 1 i))))
        (λ parts h. moved (at_concat vars (expr_node_names k) parts) (expr_made Term term_node (node.Concat parts)) (ended 1 (parts_ask 1 parts h)))
        (λ w a h. moved (at_cast vars (expr_node_names k) w a) (expr_made Term term_node (node.Cast w a)) (ended 1 (led (length (decimal w) + 2) h)))
        (λ s a h. moved (at_sign vars (expr_node_names k) s a) (expr_made Term term_node (node.Sign s a)) (ended 1 (led (sign_bytes s) h)))

  -- where names may be read anywhere, nothing is noted
  pub anywhere_asks : (e : SvExpr) → Asks (expr_names anywhere (raw_expr vars e)) (Unit {0})
  anywhere_asks e = asks_by (λ u. tt) (λ u v h. refl) (expr_asks anywhere e)
