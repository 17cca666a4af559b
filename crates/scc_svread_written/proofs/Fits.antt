-- What a module without faults says of the expressions and statements in it, part by part.
use Rattle.std.proofs.Common.{◌≡◌, ◌<◌, ◌^◌, ℕ, Bool, true, false, ◌||◌, nat_eq, List, [], ◌∷◌, length, refl, eq-eqb}
use Rattle.scc_svtree.specs.declared.module.SvVar.{SvVar}
use Rattle.scc_svtree.specs.declared.expr.SvLeft.{SvLeft}
use Rattle.scc_svtree.specs.declared.expr.SvUnary.{SvUnary}
use Rattle.scc_svtree.specs.declared.expr.SvBinary.{SvBinary}
use Rattle.scc_svtree.specs.Variables.{width_at}
use Rattle.scc_svtree.specs.Term.{Term, Part, Unary, Binary, Cond, Cast, Sign, joined}
use Rattle.scc_svtree.specs.Sizes.{length_of}
use Rattle.scc_svtree.specs.Sized.{IsSelect, IsSized}
use Rattle.scc_svtree.specs.Code.{Code, Assign, If, Case, Arms, Arm}
use Rattle.scc_svtree.specs.Running.{var_of}
use Rattle.scc_svtree.specs.Mentions.{reads, code_reads, arms_read, assigns, arms_assign}
use Rattle.scc_svtree.specs.Sound.{Each, IsSizedCode, AreSizedArms}

pub left_true : (a b : Bool) → a ≡ true → (a || b) ≡ true
left_true true b h = refl
left_true false b h = cc

pub right_true : (a b : Bool) → b ≡ true → (a || b) ≡ true
right_true true b h = refl
right_true false b h = h

module _ (vars : List SvVar) where
  -- ---- expressions

  -- it has right sizes, and each variable in it is one of the module's
  pub record Fits (t : Term) : Type 0 where
    pub sized : IsSized (width_at vars) t
    pub named : (v : ℕ) → reads t v ≡ true → v < length vars

  pub of_left : (l : SvLeft) → Fits (Part l) → var_of l < length vars
  of_left l f = f.named (var_of l) (eq-eqb (var_of l) (var_of l) refl)

  pub of_unary : (o : SvUnary) (a : Term) → Fits (Unary o a) → Fits a
  of_unary o a f = record { sized = f.sized; named = f.named }

  pub of_first : (o : SvBinary) (a b : Term) → Fits (Binary o a b) → Fits a
  of_first o a b f = record { sized = f.sized.0; named = λ v h. f.named v (left_true (reads a v) (reads b v) h) }

  pub of_second : (o : SvBinary) (a b : Term) → Fits (Binary o a b) → Fits b
  of_second o a b f = record { sized = f.sized.1; named = λ v h. f.named v (right_true (reads a v) (reads b v) h) }

  pub of_test : (c a b : Term) → Fits (Cond c a b) → Fits c
  of_test c a b f = record { sized = f.sized.0; named = λ v h. f.named v (left_true (reads c v) _ h) }

  pub of_then : (c a b : Term) → Fits (Cond c a b) → Fits a
  of_then c a b f = record { sized = f.sized.1; named = λ v h. f.named v (right_true (reads c v) _ (left_true (reads a v) (reads b v) h)) }

  pub of_else : (c a b : Term) → Fits (Cond c a b) → Fits b
  of_else c a b f = record { sized = f.sized.2; named = λ v h. f.named v (right_true (reads c v) _ (right_true (reads a v) (reads b v) h)) }

  pub of_cast : (w : ℕ) (a : Term) → Fits (Cast w a) → Fits a
  of_cast w a f = record { sized = f.sized.1; named = f.named }

  pub of_sign : (s : Bool) (a : Term) → Fits (Sign s a) → Fits a
  of_sign s a f = record { sized = f.sized; named = f.named }

  pub of_parts : (ts : List Term) → Fits (joined ts) → Each Fits ts
  of_parts [] f = tt
  of_parts (t ∷ []) f = (record { sized = f.sized; named = f.named }, tt)
  of_parts (t ∷ u ∷ more) f = (
    record { sized = f.sized.0; named = λ v h. f.named v (left_true (reads t v) _ h) },
    of_parts (u ∷ more) (record { sized = f.sized.1; named = λ v h. f.named v (right_true (reads t v) _ h) }),
  )

  -- ---- statements

  pub record FitsCode (c : Code) : Type 0 where
    pub sized : IsSizedCode (width_at vars) c
    pub read : (v : ℕ) → code_reads c v ≡ true → v < length vars
    pub assigned : (v : ℕ) → assigns c v ≡ true → v < length vars

  pub record FitsArms (n : ℕ) (arms : Arms) : Type 0 where
    pub sized : AreSizedArms (width_at vars) n arms
    pub read : (v : ℕ) → arms_read arms v ≡ true → v < length vars
    pub assigned : (v : ℕ) → arms_assign arms v ≡ true → v < length vars

  pub assign_left : (l : SvLeft) (e : Term) (rest : Code) → FitsCode (Assign l e rest) → IsSelect (width_at vars) l × (var_of l < length vars)
  assign_left l e rest f = (f.sized.0, f.assigned (var_of l) (left_true (nat_eq (var_of l) (var_of l)) _ (eq-eqb (var_of l) (var_of l) refl)))

  pub assign_value : (l : SvLeft) (e : Term) (rest : Code) → FitsCode (Assign l e rest) → Fits e
  assign_value l e rest f = record { sized = f.sized.1; named = λ v h. f.read v (left_true (reads e v) _ h) }

  pub assign_rest : (l : SvLeft) (e : Term) (rest : Code) → FitsCode (Assign l e rest) → FitsCode rest
  assign_rest l e rest f = record { sized = f.sized.2; read = λ v h. f.read v (right_true (reads e v) _ h); assigned = λ v h. f.assigned v (right_true (nat_eq (var_of l) v) _ h) }

  module _ (c : Term) (a b rest : Code) (f : FitsCode (If c a b rest)) where
    pub if_test : Fits c
    if_test = record { sized = f.sized.0; named = λ v h. f.read v (left_true _ (code_reads rest v) (left_true (reads c v) _ h)) }

    pub if_then : FitsCode a
    if_then = record {
      sized = f.sized.1;
      read = λ v h. f.read v (left_true _ (code_reads rest v) (right_true (reads c v) _ (left_true (code_reads a v) (code_reads b v) h)));
      assigned = λ v h. f.assigned v (left_true _ (assigns rest v) (left_true (assigns a v) (assigns b v) h));
    }

    pub if_else : FitsCode b
    if_else = record {
      sized = f.sized.2;
      read = λ v h. f.read v (left_true _ (code_reads rest v) (right_true (reads c v) _ (right_true (code_reads a v) (code_reads b v) h)));
      assigned = λ v h. f.assigned v (left_true _ (assigns rest v) (right_true (assigns a v) (assigns b v) h));
    }

    pub if_rest : FitsCode rest
    if_rest = record { sized = f.sized.3; read = λ v h. f.read v (right_true _ (code_reads rest v) h); assigned = λ v h. f.assigned v (right_true _ (assigns rest v) h) }

  module _ (e : Term) (arms : Arms) (rest : Code) (f : FitsCode (Case e arms rest)) where
    pub case_selector : Fits e
    case_selector = record { sized = f.sized.0; named = λ v h. f.read v (left_true _ (code_reads rest v) (left_true (reads e v) _ h)) }

    pub case_arms : FitsArms (length_of (width_at vars) e) arms
    case_arms = record {
      sized = f.sized.1;
      read = λ v h. f.read v (left_true _ (code_reads rest v) (right_true (reads e v) _ h));
      assigned = λ v h. f.assigned v (left_true _ (assigns rest v) h);
    }

    pub case_rest : FitsCode rest
    case_rest = record { sized = f.sized.3; read = λ v h. f.read v (right_true _ (code_reads rest v) h); assigned = λ v h. f.assigned v (right_true _ (assigns rest v) h) }

  module _ (n w label : ℕ) (body : Code) (more : Arms) (f : FitsArms n (Arm w label body more)) where
    pub arm_label : (w ≡ n) × (label < 2 ^ w)
    arm_label = (f.sized.0, f.sized.1)

    pub arm_body : FitsCode body
    arm_body = record { sized = f.sized.2; read = λ v h. f.read v (left_true _ (arms_read more v) h); assigned = λ v h. f.assigned v (left_true _ (arms_assign more v) h) }

    pub arm_more : FitsArms n more
    arm_more = record { sized = f.sized.3; read = λ v h. f.read v (right_true _ (arms_read more v) h); assigned = λ v h. f.assigned v (right_true _ (arms_assign more v) h) }
