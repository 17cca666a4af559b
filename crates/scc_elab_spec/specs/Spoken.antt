-- Functions of a plain program as bodies of the machine (ISO C++ [expr.call], [dcl.ref], [stmt]).
use Rattle.std.specs.Prelude.{ℕ, suc, Bool, true, false, not, ◌&&◌, nat_lt, List, [], ◌∷◌, ◌++◌, Option, Some, None, option_map, slice_get, unwrap_or, is_some, if◌then◌else◌}
use Rattle.scc_bits_kinds.specs.declared.kind.Kind.TheVariants as kind
use Rattle.scc_semantics.specs.Expressions as body
use Rattle.scc_semantics.specs.Expressions.{Expr}
use Rattle.scc_semantics.specs.Body as machine
use Rattle.scc_semantics.specs.Body.{Body}
use Rattle.scc_elab_spec.specs.Term as term
use Rattle.scc_elab_spec.specs.Term.{Term, Left}
use Rattle.scc_elab_spec.specs.Program as plain
use Rattle.scc_elab_spec.specs.Program.{Code, Function, Plain, Member}
use Rattle.scc_elab_spec.specs.Types.{declared_at, is_reference}
use Rattle.scc_elab_spec.specs.Bodies.{elements, plain_declared, aimed, among, local_as_whole, sizes_of}
use Rattle.scc_elab_spec.specs.Worth.{member_name}

-- a reference is followed, unless it is the end of what is given where it leads
abbrev pub refer : Bool → Option Member → body.Left → body.Left
refer follow None l = l
refer follow (Some m) l = if follow && is_reference m.shape.reach then body.Follow l else l

module _ (p : Plain) (f : Function) where
  abbrev mutual
    pub left_of : (follow : Bool) → Left → body.Left
    left_of follow (term.Local q n) = refer follow (slice_get f.locals n) (body.Declared n)
    left_of follow (term.Answer q n) = body.Result n
    left_of follow (term.This q) = body.This
    left_of follow (term.Follow q l) = body.Follow (left_of true l)
    left_of follow (term.Member l m) = refer follow (declared_at p f (term.Member l m)) (body.Field (left_of true l) (member_name (declared_at p f (term.Member l m))))
    left_of follow (term.Index l e) = body.Indexed (left_of true l) (expr_of e)

    pub expr_of : Term → Expr
    expr_of (term.Literal q k w) = body.Literal k w
    expr_of (term.Load q k l) = body.Load k (left_of true l)
    expr_of (term.Read q k l) = body.Read k (left_of true l)
    expr_of (term.Convert q k e) = body.Convert k (expr_of e)
    expr_of (term.Unary q k o a) = body.Unary o (expr_of a)
    expr_of (term.Binary q k o a b) = body.Binary o (expr_of a) (expr_of b)
    expr_of (term.Choose q k t a b) = body.Choose k (expr_of t) (expr_of a) (expr_of b)
    expr_of (term.Bit q a e) = body.Bit (expr_of a) (expr_of e)
    expr_of (term.Range q k a h l) = body.Range k (expr_of a) h l
    expr_of (term.Join q k a b) = body.Join k (expr_of a) (expr_of b)

  abbrev pub pick_of : term.Pick → body.Pick
  pick_of term.Whole = body.Whole
  pick_of (term.OneBit e) = body.OneBit (expr_of e)
  pick_of (term.Bits h l) = body.Bits h l

  abbrev pub target_of : term.Target → body.Target
  target_of term.Null = body.Address body.Null
  target_of (term.Address l) = body.Address (left_of true l)
  target_of (term.Copy l) = body.Copy (left_of true l)

  -- an element of a local
  abbrev pub element : body.Left → List ℕ → body.Left
  element l [] = l
  element l (i ∷ is) = element (body.Indexed l (body.Literal (kind.Native 32 true) i)) is

  abbrev pub cleared : ℕ → List (List ℕ) → Body → Body
  cleared n [] rest = rest
  cleared n (i ∷ is) rest = machine.Clear (element (body.Declared n) i) (cleared n is rest)

  abbrev pub passed : ℕ → List term.Argument → Body
  passed n [] = machine.End
  passed n (term.Value e ∷ args) = machine.Pass n (body.Value (expr_of e)) (passed (suc n) args)
  passed n (term.Leads t ∷ args) = machine.Pass n (body.Place (target_of t)) (passed (suc n) args)
  passed n (term.ModuleName ∷ args) = passed (suc n) args

  abbrev pub entered : Option Function → Body → Body
  entered None b = b
  entered (Some g) b = if is_some g.result then machine.Begin b else b

  -- the first statement that gives a local a target is its declaration's, unless it is a parameter or was declared without one
  abbrev pub is_first : List ℕ → Left → Bool
  is_first before (term.Local q n) = not (nat_lt n f.params) && (not (among n (plain_declared f.body)) && not (among n before))
  is_first before l = false

  abbrev pub body_of : List ℕ → Code → Body
  body_of before plain.End = machine.End
  body_of before (plain.Declare q n r) = cleared n (elements (sizes_of (slice_get f.locals n))) (body_of before r)
  body_of before (plain.Assign q l k e r) = machine.Assign (left_of true l) (pick_of k) (expr_of e) (body_of before r)
  body_of before (plain.Point q l t r) = machine.Point (is_first before l) (left_of false l) (target_of t) (body_of (local_as_whole l ++ before) r)
  body_of before (plain.Write q l e r) = machine.Assign (left_of true l) body.Whole (expr_of e) (body_of before r)
  body_of before (plain.Call q n g o args r) = machine.Call n (option_map (left_of true) o) (entered (slice_get p.functions g) (passed 0 args)) g (body_of before r)
  body_of before (plain.If q t a b r) = machine.If (expr_of t) (body_of before a) (body_of (aimed a ++ before) b) (body_of (aimed a ++ (aimed b ++ before)) r)
  body_of before (plain.Loop q c b r) = machine.Loop (body_of before b) (body_of (aimed b ++ before) r)
  body_of before (plain.Block q b r) = machine.Block (body_of before b) (body_of (aimed b ++ before) r)
  body_of before (plain.Exit q n r) = machine.Exit n (body_of before r)
  body_of before (plain.Return q v r) = machine.Return (option_map expr_of v) (body_of before r)
  body_of before (plain.Wait q n r) = machine.Wait 0 n (body_of before r)
  body_of before (plain.Make q l b args r) = body_of before r
  body_of before (plain.Bind q l t r) = body_of before r
  body_of before (plain.Process q t g e r) = body_of before r
  body_of before (plain.Sensitive q items r) = body_of before r
  body_of before (plain.Quiet q r) = body_of before r
  body_of before (plain.Reset q s e a r) = body_of before r

abbrev pub function_body : Plain → ℕ → Body
function_body p n = unwrap_or (option_map (λ f. body_of p f [] f.body) (slice_get p.functions n)) machine.End
