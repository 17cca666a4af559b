-- Copies differ by where their locals were given targets in the pointers that they declare alone: the shape of a loop, and whether something waits, is the same.
use Rattle.std.proofs.Common.{◌≡◌, ℕ, suc, Bool, true, false, ◌&&◌, ◌||◌, nat_eq, List, [], ◌∷◌, ◌++◌, Option, Some, None, option_map, option_and_then, unwrap_or, slice_get, if◌then◌else◌, refl, sym, ap, ◌∙◌}
use Rattle.scc_base.specs.declared.refusal.Place.{Place}
use Rattle.scc_core_spec.specs.Term as core
use Rattle.scc_core_spec.specs.Code as stmt
use Rattle.scc_core_spec.specs.Code.{Declared, holds_wait}
use Rattle.scc_core_spec.specs.Counted.{is_end, leaves_block, is_step, is_turn, is_turning, is_cell, is_whole}
use Rattle.scc_elab_spec.specs.Program.{Code, End, Declare, Assign, Point, Write, Call, If, Loop, Block, Exit, Return, Wait, Make, Bind, Process, Sensitive, Quiet, Reset, Function, Member}
use Rattle.scc_elab_spec.specs.Types.{is_direct}
use Rattle.scc_elab_spec.specs.Copied.{Here, copied, left_of, pick_of, target_of, count_of, answer_name, local_name}
use Rattle.scc_elab_spec.specs.Bodies.{Calling, elements, number_kind, cleared, sizes_of, aimed, pointed, cell_of, result_name, inside, zeroed, passed, object_of, local_as_whole}
use Rattle.scc_inline_spec.specs.Inlined.{body_of}

-- what is aimed left out
abbrev bare : stmt.Code → stmt.Code
bare stmt.End = stmt.End
bare (stmt.Put p l k e r) = stmt.Put p l k e (bare r)
bare (stmt.Aim p to t r) = stmt.Aim p (Declared 0) t (bare r)
bare (stmt.If p t a b r) = stmt.If p t (bare a) (bare b) (bare r)
bare (stmt.Block p b r) = stmt.Block p (bare b) (bare r)
bare (stmt.Loop p n b r) = stmt.Loop p n (bare b) (bare r)
bare (stmt.Exit p n r) = stmt.Exit p n (bare r)
bare (stmt.Wait p l n r) = stmt.Wait p l n (bare r)

bare-waits : (c : stmt.Code) → holds_wait (bare c) ≡ holds_wait c
bare-waits stmt.End = refl
bare-waits (stmt.Put p l k e r) = bare-waits r
bare-waits (stmt.Aim p to t r) = bare-waits r
bare-waits (stmt.If p t a b r) = λ z. bare-waits a z || (bare-waits b z || bare-waits r z)
bare-waits (stmt.Block p b r) = λ z. bare-waits b z || bare-waits r z
bare-waits (stmt.Loop p n b r) = λ z. bare-waits b z || bare-waits r z
bare-waits (stmt.Exit p n r) = bare-waits r
bare-waits (stmt.Wait p l n r) = refl

bare-end : (c : stmt.Code) → is_end (bare c) ≡ is_end c
bare-end stmt.End = refl
bare-end (stmt.Put p l k e r) = refl
bare-end (stmt.Aim p to t r) = refl
bare-end (stmt.If p t a b r) = refl
bare-end (stmt.Block p b r) = refl
bare-end (stmt.Loop p n b r) = refl
bare-end (stmt.Exit p n r) = refl
bare-end (stmt.Wait p l n r) = refl

bare-leaves : (c : stmt.Code) → leaves_block (bare c) ≡ leaves_block c
bare-leaves stmt.End = refl
bare-leaves (stmt.Put p l k e r) = refl
bare-leaves (stmt.Aim p to t r) = refl
bare-leaves (stmt.If p t a b r) = refl
bare-leaves (stmt.Block p b r) = refl
bare-leaves (stmt.Loop p n b r) = refl
bare-leaves (stmt.Exit p n r) = ap (λ e. nat_eq n 0 && e) (bare-end r)
bare-leaves (stmt.Wait p l n r) = refl

bare-step : (i : ℕ) (c : stmt.Code) → is_step i (bare c) ≡ is_step i c
bare-step i stmt.End = refl
bare-step i (stmt.Put p l k e r) = ap (λ e. is_cell i l && (is_whole k && e)) (bare-end r)
bare-step i (stmt.Aim p to t r) = refl
bare-step i (stmt.If p t a b r) = refl
bare-step i (stmt.Block p b r) = refl
bare-step i (stmt.Loop p n b r) = refl
bare-step i (stmt.Exit p n r) = refl
bare-step i (stmt.Wait p l n r) = refl

bare-turn : (i : ℕ) (c : stmt.Code) → is_turn i (bare c) ≡ is_turn i c
bare-turn i stmt.End = refl
bare-turn i (stmt.Put p l k e r) = refl
bare-turn i (stmt.Aim p to t r) = refl
bare-turn i (stmt.If p t a b r) = refl
bare-turn i (stmt.Block p b r) = bare-step i r
bare-turn i (stmt.Loop p n b r) = refl
bare-turn i (stmt.Exit p n r) = refl
bare-turn i (stmt.Wait p l n r) = refl

bare-turning : (i : ℕ) (c : stmt.Code) → is_turning i (bare c) ≡ is_turning i c
bare-turning i stmt.End = refl
bare-turning i (stmt.Put p l k e r) = refl
bare-turning i (stmt.Aim p to t r) = refl
bare-turning i (stmt.If p t a b r) = λ z. bare-end a z && (bare-leaves b z && bare-turn i r z)
bare-turning i (stmt.Block p b r) = refl
bare-turning i (stmt.Loop p n b r) = refl
bare-turning i (stmt.Exit p n r) = refl
bare-turning i (stmt.Wait p l n r) = refl

module _ (call : Calling) (h : Here) where
  cleared-bare : (p : Place) (n : ℕ) (m : Option Member) (all : List (List ℕ)) (r u : stmt.Code) → bare r ≡ bare u → bare (cleared h p n m all r) ≡ bare (cleared h p n m all u)
  cleared-bare p n None all r u e = e
  cleared-bare p n (Some m) [] r u e = e
  cleared-bare p n (Some m) (is ∷ all) r u e = by (is_direct m.shape.reach) (cleared-bare p n (Some m) all r u e)
    where
      by : (b : Bool) → bare (cleared h p n (Some m) all r) ≡ bare (cleared h p n (Some m) all u)
          → bare (if b then stmt.Put p (cell_of h p false (local_name h n is)) core.Whole (core.Literal p (number_kind m.shape.base) 0) (cleared h p n (Some m) all r)
          else stmt.Aim p (pointed true (cell_of h p true (local_name h n is))) (core.Null p) (cleared h p n (Some m) all r))
          ≡ bare (if b then stmt.Put p (cell_of h p false (local_name h n is)) core.Whole (core.Literal p (number_kind m.shape.base) 0) (cleared h p n (Some m) all u)
          else stmt.Aim p (pointed true (cell_of h p true (local_name h n is))) (core.Null p) (cleared h p n (Some m) all u))
      by true e = ap (λ r. stmt.Put p (cell_of h p false (local_name h n is)) core.Whole (core.Literal p (number_kind m.shape.base) 0) r) e
      by false e = ap (λ r. stmt.Aim p (Declared 0) (core.Null p) r) e

  bare-same : (d : ℕ) (x y : List ℕ) (b : Code) → bare (body_of call h d x b) ≡ bare (body_of call h d y b)
  bare-same d x y End = refl
  bare-same d x y (Declare p n r) = cleared-bare p n (slice_get h.function.locals n) (elements (sizes_of (slice_get h.function.locals n))) (body_of call h d x r) (body_of call h d y r) (bare-same d x y r)
  bare-same d x y (Assign p l k e r) = ap (λ r. stmt.Put p (left_of h (result_name h) true l) (pick_of h (result_name h) k) (copied h (result_name h) e) r) (bare-same d x y r)
  bare-same d x y (Point p l t r) = ap (λ r. stmt.Aim p (Declared 0) (target_of h (result_name h) p t) r) (bare-same d (local_as_whole l ++ x) (local_as_whole l ++ y) r)
  bare-same d x y (Write p l e r) = ap (λ r. stmt.Put p (left_of h (result_name h) true l) core.Whole (copied h (result_name h) e) r) (bare-same d x y r)
  bare-same d x y (Call p n f o args r) = by (slice_get h.plain.functions f) (bare-same d x y r)
    where
      this : core.Left
      this = object_of h (result_name h) o

      by : (u : Option Function) → bare (body_of call h d x r) ≡ bare (body_of call h d y r)
          → bare (unwrap_or (option_map (λ g. stmt.Block p (zeroed h p (n ∷ h.calls) g g.result (passed h (result_name h) (inside h (n ∷ h.calls) g this) p 0 args (call (n ∷ h.calls) f this))) (body_of call h d x r)) u) (body_of call h d x r))
          ≡ bare (unwrap_or (option_map (λ g. stmt.Block p (zeroed h p (n ∷ h.calls) g g.result (passed h (result_name h) (inside h (n ∷ h.calls) g this) p 0 args (call (n ∷ h.calls) f this))) (body_of call h d y r)) u) (body_of call h d y r))
      by None e = e
      by (Some g) e = ap (λ r. stmt.Block p (bare (zeroed h p (n ∷ h.calls) g g.result (passed h (result_name h) (inside h (n ∷ h.calls) g this) p 0 args (call (n ∷ h.calls) f this)))) r) e
  bare-same d x y (If p t a b r) =
      λ z. stmt.If p (copied h (result_name h) t) (bare-same d x y a z) (bare-same d (aimed a ++ x) (aimed a ++ y) b z) (bare-same d (aimed a ++ (aimed b ++ x)) (aimed a ++ (aimed b ++ y)) r z)
  bare-same d x y (Loop p c b r) = λ z. stmt.Loop p (option_and_then (count_of h (result_name h)) c) (bare-same d x y b z) (bare-same d (aimed b ++ x) (aimed b ++ y) r z)
  bare-same d x y (Block p b r) = λ z. stmt.Block p (bare-same (suc d) x y b z) (bare-same d (aimed b ++ x) (aimed b ++ y) r z)
  bare-same d x y (Exit p n r) = ap (stmt.Exit p n) (bare-same d x y r)
  bare-same d x y (Return p None r) = ap (stmt.Exit p d) (bare-same d x y r)
  bare-same d x y (Return p (Some e) r) = ap (λ r. stmt.Put p (cell_of h p false (answer_name h h.calls h.function)) core.Whole (copied h (result_name h) e) (stmt.Exit p d r)) (bare-same d x y r)
  bare-same d x y (Wait p n r) = ap (stmt.Wait p 0 n) (bare-same d x y r)
  bare-same d x y (Make p l b args r) = bare-same d x y r
  bare-same d x y (Bind p l t r) = bare-same d x y r
  bare-same d x y (Process p t f e r) = bare-same d x y r
  bare-same d x y (Sensitive p items r) = bare-same d x y r
  bare-same d x y (Quiet p r) = bare-same d x y r
  bare-same d x y (Reset p s e a r) = bare-same d x y r

  pub turning-same : (i d : ℕ) (x y : List ℕ) (b : Code) → is_turning i (body_of call h d x b) ≡ is_turning i (body_of call h d y b)
  turning-same i d x y b = sym (bare-turning i (body_of call h d x b)) ∙ (ap (is_turning i) (bare-same d x y b) ∙ bare-turning i (body_of call h d y b))

  pub waits-same : (d : ℕ) (x y : List ℕ) (b : Code) → holds_wait (body_of call h d x b) ≡ holds_wait (body_of call h d y b)
  waits-same d x y b = sym (bare-waits (body_of call h d x b)) ∙ (ap holds_wait (bare-same d x y b) ∙ bare-waits (body_of call h d y b))
