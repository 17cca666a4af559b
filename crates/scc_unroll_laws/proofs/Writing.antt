-- Unrolled statements before what follows, and turns that are written out one by one.
use Rattle.std.proofs.Common.{◌≡◌, refl, sym, ap, ◌∙◌, add-one, arith, ℕ, suc, ◌+◌, ◌<◌, List, [], ◌∷◌, ◌++◌, map, drop, drop-cons, get_or, length, Some}
use Rattle.scc_base.specs.declared.refusal.Place.{Place}
use Rattle.scc_core.specs.declared.stmt.CoreStmt.{CoreStmt}
use Rattle.scc_core.specs.declared.stmt.CoreNode.TheOpen.{CoreNode-F}
use Rattle.scc_core.specs.declared.stmt.CoreNode.TheOpen as node
use Rattle.scc_core_spec.specs.Code.{Code, Block}
use Rattle.scc_core_spec.specs.Counted.{Counter, First, Elsewhere, Setting, Turn, Turning, counter, turning_of}
use Rattle.scc_core_spec.specs.Unrolled.{block_of, stepped, unrolled, written_out}
use Rattle.scc_core_view.specs.Codes.{Node, code_of, stmt_node, stmt_code}
use Rattle.scc_unroll_laws.specs.Writing.{each_turn, set_before}
use Rattle.scc_unroll_laws.proofs.Heads.{each_stmt}

-- ---- lists

-- one more at the end
pub set_one : (xs ys : List CoreStmt) (y : CoreStmt) (c : Code) → ys ≡ xs ++ y ∷ [] → set_before ys c ≡ set_before xs (stmt_code y c)
set_one xs ys y c e = ap (λ z. set_before z c) e ∙ by xs
  where
    by : (xs : List CoreStmt) → set_before (xs ++ y ∷ []) c ≡ set_before xs (stmt_code y c)
    by [] = refl
    by (x ∷ xs) = ap (stmt_code x) (by xs)

-- from one on
pub mapped_here : {A B : Type 0} (f : A → B) (ts : List A) (i : ℕ) (t : A) → i < length ts → t ≡ get_or ts i t → map f (drop i ts) ≡ f t ∷ map f (drop (i + 1) ts)
mapped_here f ts i t h is =
    ap (map f) (drop-cons ts i t h)
    ∙ ap (λ x. f x ∷ map f (drop (suc i) ts)) (sym is)
    ∙ ap (λ n. f t ∷ map f (drop n ts)) (sym (add-one i))

-- ---- the turns of a loop

abbrev IsFront : (Code → Code) → Type 0
IsFront f = (c : Code) (t : Turning) → turning_of (f c) ≡ Some t → (s : Setting) (ns : List Counter) (rest : Code)
    → block_of (unrolled s ns Elsewhere (f c)) rest ≡ block_of (unrolled s ns Elsewhere c) rest

fronts : (y : CoreNode-F Node (Code → Code)) (p : Place) → IsFront (stmt_node y p)
fronts (node.If t a b) p = λ c t h s ns rest. refl
fronts (node.Assign l e) p = λ c t h. absurd (cc h)
fronts (node.Block b) p = λ c t h. absurd (cc h)
fronts (node.Loop n b) p = λ c t h. absurd (cc h)
fronts (node.Exit d) p = λ c t h. absurd (cc h)
fronts (node.Wait d) p = λ c t h. absurd (cc h)
fronts (node.Alias to target) p = λ c t h. absurd (cc h)

-- a body with a block behind its first statement
module _ (f : CoreStmt) (p : Place) (b r : Code) (t : Turning) (is : turning_of (stmt_code f (Block p b r)) ≡ Some t) (s : Setting) (ns : List Counter) (n : ℕ) where
  abbrev body : Code
  body = stmt_code f (Block p b r)

  block_there : (ms : List Counter) (rest : Code) → block_of (unrolled s ms Elsewhere body) rest ≡ Block p (unrolled s ms First b) rest
  block_there ms rest = each_stmt IsFront fronts f (Block p b r) t is s ms rest

  by_turns : (xs : List Turn) (rest : Code) → written_out (Some t) (map (λ x. (x, unrolled s (counter n x.now ∷ ns) Elsewhere body)) xs) rest ≡ each_turn s ns n p b t xs rest
  by_turns [] rest = refl
  by_turns (x ∷ xs) rest =
      let more = written_out (Some t) (map (λ x. (x, unrolled s (counter n x.now ∷ ns) Elsewhere body)) xs) rest in
      block_there (counter n x.now ∷ ns) (stepped (Some t) x.next more) ∙ ap (λ c. Block p (unrolled s (counter n x.now ∷ ns) First b) (stepped (Some t) x.next c)) (by_turns xs rest)

  pub turns_written : (xs : List Turn) (rest : Code) → written_out (turning_of body) (map (λ x. (x, unrolled s (counter n x.now ∷ ns) Elsewhere body)) xs) rest ≡ each_turn s ns n p b t xs rest
  turns_written xs rest = ap (λ o. written_out o (map (λ x. (x, unrolled s (counter n x.now ∷ ns) Elsewhere body)) xs) rest) is ∙ by_turns xs rest

-- a body with a block as its second statement
pub turns_in : (ss : List CoreStmt) (y : CoreStmt) (b : Code) (t : Turning) → 1 < length ss → y ≡ get_or ss 1 y → stmt_code y ≡ (λ r. Block y.place b r) → turning_of (code_of ss) ≡ Some t
    → (s : Setting) (ns : List Counter) (n : ℕ) (xs : List Turn) (rest : Code)
    → written_out (turning_of (code_of ss)) (map (λ x. (x, unrolled s (counter n x.now ∷ ns) Elsewhere (code_of ss))) xs) rest ≡ each_turn s ns n y.place b t xs rest
turns_in [] y b t h is st parts s ns n xs rest = absurd (omega (arith, h))
turns_in (f ∷ []) y b t h is st parts s ns n xs rest = absurd (omega (arith, h))
turns_in (f ∷ x ∷ zs) y b t h is st parts s ns n xs rest =
    let e : stmt_code f (stmt_code x (code_of zs)) ≡ stmt_code f (Block y.place b (code_of zs)) = ap (λ z. stmt_code f (stmt_code z (code_of zs))) (sym is) ∙ ap (λ g. stmt_code f (g (code_of zs))) st in
    ap (λ c. written_out (turning_of c) (map (λ x. (x, unrolled s (counter n x.now ∷ ns) Elsewhere c)) xs) rest) e
    ∙ turns_written f y.place b (code_of zs) t (sym (ap turning_of e) ∙ parts) s ns n xs rest
