-- Statements that are made of copies.
use Rattle.std.proofs.Common.{◌≡◌, refl, sym, ap, subst, ◌∙◌, List, [], ◌∷◌, ◌++◌, map, Option, Some}
use Rattle.scc_base.specs.declared.refusal.Place.{Place as Spot}
use Rattle.scc_bits_kinds.specs.declared.kind.Word.{Word}
use Rattle.scc_core.specs.declared.copy.Counter.{Counter as Held}
use Rattle.scc_core.specs.declared.expr.CoreBase.TheOpen as tree
use Rattle.scc_core.specs.declared.expr.CoreExpr.{CoreExpr}
use Rattle.scc_core.specs.declared.expr.CoreLeft.{CoreLeft}
use Rattle.scc_core.specs.declared.program.Cell.{Cell}
use Rattle.scc_core.specs.declared.stmt.CoreNode.TheVariants as node
use Rattle.scc_core.specs.declared.stmt.CoreStmt.{CoreStmt}
use Rattle.scc_core.specs.declared.stmt.Count.{Count}
use Rattle.scc_core.specs.declared.stmt.Pointed.{Pointed}
use Rattle.scc_core.specs.declared.stmt.Pointed.TheVariants as aimed
use Rattle.scc_core.specs.Counters.{counted, counted_count, counted_left, counted_pointed}
use Rattle.scc_core_view.specs.Whole.{made}
use Rattle.scc_unroll_asked.specs.Copied.{AreCopies, AreOf, AreWithin, IsCopy, IsWithin, copied, copy, literal, of_aim, of_choice, of_loop, of_put, of_step, same}
use Rattle.scc_unroll_asked.specs.Items.{AreAll, Item, Place, Value, asked, asked_count, asked_to}
use Rattle.scc_unroll_asked.specs.Read.{AreCounters}
use Rattle.scc_unroll_asked.proofs.Items.{aims, all_both, asked_both, asked_one, assigns, blocks, copies_all, exits, loops, push_all, tests, waits}

module _ (ns : List Held) where
  pub count_items : (c d : Count) → d ≡ counted_count ns c → asked_count (Some d) ≡ map (copied ns) (asked_count (Some c))
  count_items c d h = ap (λ x. asked_count (Some x)) h

  pub put_items : (p : Spot) (l m : CoreLeft) (e f : CoreExpr) → m ≡ counted_left ns l → f ≡ counted ns e → asked (record { place = p; node = node.Assign m f } ∷ []) ≡ map (copied ns) (of_put l e)
  put_items p l m e f h k =
      let s : CoreStmt = record { place = p; node = node.Assign m f } in
      asked_one s ∙ assigns s m f refl ∙ (λ i. Place (h i) ∷ Value (k i) ∷ [])

  to_items : (to : Pointed) → asked_to (counted_pointed ns to) ≡ map (copied ns) (asked_to to)
  to_items (aimed.Declared n) = refl
  to_items (aimed.Assigned l) = refl

  pub aim_items : (p : Spot) (to up : Pointed) (l m : CoreLeft) → up ≡ counted_pointed ns to → m ≡ counted_left ns l → asked (record { place = p; node = node.Alias up m } ∷ []) ≡ map (copied ns) (of_aim to l)
  aim_items p to up l m h k =
      let s : CoreStmt = record { place = p; node = node.Alias up m } in
      asked_one s ∙ aims s up m refl ∙ (λ i. Place (k i) ∷ asked_to (h i)) ∙ ap (λ x. Place (counted_left ns l) ∷ x) (to_items to)

  pub if_items : (p : Spot) (e f : CoreExpr) (a b : List CoreStmt) → f ≡ counted ns e → asked (record { place = p; node = node.If f a b } ∷ []) ≡ of_choice ns e a b
  if_items p e f a b h =
      let s : CoreStmt = record { place = p; node = node.If f a b } in
      asked_one s ∙ tests s f a b refl ∙ ap (λ x. Value x ∷ (asked a ++ asked b)) h

  pub loop_items : (p : Spot) (c d : Option Count) (b : List CoreStmt) → asked_count d ≡ map (copied ns) (asked_count c) → asked (record { place = p; node = node.Loop d b } ∷ []) ≡ of_loop ns c b
  loop_items p c d b h =
      let s : CoreStmt = record { place = p; node = node.Loop d b } in
      asked_one s ∙ loops s d b refl ∙ ap (λ x. x ++ asked b) h

pub step_items : (p : Spot) (l m : CoreLeft) (e f : CoreExpr) (w : Word) → m ≡ l → f ≡ made e.place e.kind (tree.Lit w) → asked (record { place = p; node = node.Assign m f } ∷ []) ≡ of_step l e w
step_items p l m e f w h k =
    let s : CoreStmt = record { place = p; node = node.Assign m f } in
    asked_one s ∙ assigns s m f refl ∙ (λ i. Place (h i) ∷ Value (k i) ∷ [])

-- ---- they are copies

module _ (cells : List Cell) (xs : List Item) (ns : List Held) (a : AreCounters cells ns) where
  pub made_copies : (z : CoreStmt) (ys : List Item) → asked (z ∷ []) ≡ map (copied ns) ys → AreOf xs ys → AreCopies cells xs (z ∷ [])
  made_copies z ys e h = subst (AreAll (IsCopy cells xs)) (sym e) (copies_all cells xs ns a ys h)

  pub if_copies : (z : CoreStmt) (t : CoreExpr) (b c : List CoreStmt) → asked (z ∷ []) ≡ of_choice ns t b c → AreOf xs (Value t ∷ []) → AreCopies cells xs b → AreCopies cells xs c → AreCopies cells xs (z ∷ [])
  if_copies z t b c e h f g = subst (AreAll (IsCopy cells xs)) (sym e) (copy ns a (Value t) h.0, all_both (IsCopy cells xs) (asked b) (asked c) f g)

  pub loop_copies : (z : CoreStmt) (n : Option Count) (b : List CoreStmt) → asked (z ∷ []) ≡ of_loop ns n b → AreOf xs (asked_count n) → AreCopies cells xs b → AreCopies cells xs (z ∷ [])
  loop_copies z n b e h f = subst (AreAll (IsCopy cells xs)) (sym e) (all_both (IsCopy cells xs) (map (copied ns) (asked_count n)) (asked b) (copies_all cells xs ns a (asked_count n) h) f)

module _ (cells : List Cell) (xs : List Item) where
  pub block_copies : (p : Spot) (b : List CoreStmt) → AreCopies cells xs b → AreCopies cells xs (record { place = p; node = node.Block b } ∷ [])
  block_copies p b h =
      let s : CoreStmt = record { place = p; node = node.Block b } in
      subst (AreAll (IsCopy cells xs)) (sym (asked_one s ∙ blocks s b refl)) h

  pub exit_copies : (p : Spot) (n : _) → AreCopies cells xs (record { place = p; node = node.Exit n } ∷ [])
  exit_copies p n =
      let s : CoreStmt = record { place = p; node = node.Exit n } in
      subst (AreAll (IsCopy cells xs)) (sym (asked_one s ∙ exits s n refl)) tt

  pub wait_copies : (p : Spot) (n : _) → AreCopies cells xs (record { place = p; node = node.Wait n } ∷ [])
  wait_copies p n =
      let s : CoreStmt = record { place = p; node = node.Wait n } in
      subst (AreAll (IsCopy cells xs)) (sym (asked_one s ∙ waits s n refl)) tt

  -- one statement more
  pub one_copied : (out new : List CoreStmt) (z : CoreStmt) → new ≡ out ++ z ∷ [] → AreCopies cells xs out → AreCopies cells xs (z ∷ []) → AreCopies cells xs new
  one_copied out new z e h f = subst (AreCopies cells xs) (sym e) (push_all (IsCopy cells xs) out (z ∷ []) h f)

  -- a turn more, and its step
  pub turn_copied : (out new : List CoreStmt) (z : CoreStmt) (l : CoreLeft) (e : CoreExpr) (w : Word) → asked new ≡ asked out ++ (asked (z ∷ []) ++ of_step l e w) → AreCopies cells xs out → AreCopies cells xs (z ∷ [])
      → IsWithin xs l → AreCopies cells xs new
  turn_copied out new z l e w is h f g = subst (AreAll (IsCopy cells xs)) (sym is) (all_both (IsCopy cells xs) (asked out) (asked (z ∷ []) ++ of_step l e w) h (all_both (IsCopy cells xs) (asked (z ∷ [])) (of_step l e w) f (same (Place l) g, (literal e.place e.kind w, tt))))

lists : (a b c : List Item) → (a ++ b) ++ c ≡ a ++ (b ++ c)
lists [] b c = refl
lists (x ∷ a) b c = ap (λ y. x ∷ y) (lists a b c)

-- the items of a block and a step behind others
pub turn_items : (out mid new : List CoreStmt) (z y : CoreStmt) (ys : List Item) → mid ≡ out ++ z ∷ [] → new ≡ mid ++ y ∷ [] → asked (y ∷ []) ≡ ys → asked new ≡ asked out ++ (asked (z ∷ []) ++ ys)
turn_items out mid new z y ys a b e =
    ap asked b ∙ asked_both mid (y ∷ []) ∙ (λ i. asked (a i) ++ e i) ∙ ap (λ x. x ++ ys) (asked_both out (z ∷ [])) ∙ lists (asked out) (asked (z ∷ [])) ys
