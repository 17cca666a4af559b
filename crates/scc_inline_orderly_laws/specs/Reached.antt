-- The functions that the calls of a function lead to. This project's own.
use Rattle.std.specs.Prelude.{ℕ, zero, suc, Bool, true, false, nat_eq, List, [], ◌∷◌, ◌++◌, length, flat_map, option_map, slice_get, unwrap_or}
use Rattle.std.specs.List.{list_all, list_any}
use Rattle.scc_elab_spec.specs.Program.{Code, End, Declare, Assign, Point, Write, Call, If, Loop, Block, Exit, Return, Wait, Make, Bind, Process, Sensitive, Quiet, Reset, Plain}

-- the functions that statements call
abbrev pub callees : Code → List ℕ
callees End = []
callees (Declare p m r) = callees r
callees (Assign p l k e r) = callees r
callees (Point p l t r) = callees r
callees (Write p l e r) = callees r
callees (Call p m f o args r) = f ∷ callees r
callees (If p t a b r) = callees a ++ (callees b ++ callees r)
callees (Loop p c b r) = callees b ++ callees r
callees (Block p b r) = callees b ++ callees r
callees (Exit p d r) = callees r
callees (Return p v r) = callees r
callees (Wait p c r) = callees r
callees (Make p l b args r) = callees r
callees (Bind p l t r) = callees r
callees (Process p t f e r) = callees r
callees (Sensitive p items r) = callees r
callees (Quiet p r) = callees r
callees (Reset p s e a r) = callees r

abbrev pub among : ℕ → List ℕ → Bool
among n ns = list_any (nat_eq n) ns

module _ (p : Plain) where
  abbrev pub callees_at : ℕ → List ℕ
  callees_at f = unwrap_or (option_map (λ g. callees g.body) (slice_get p.functions f)) []

  -- each once
  abbrev pub joined : List ℕ → List ℕ → List ℕ
  joined fs [] = fs
  joined fs (g ∷ gs) = joined (if_new (among g fs)) gs
    where
      if_new : Bool → List ℕ
      if_new true = fs
      if_new false = g ∷ fs

  abbrev pub grown : ℕ → List ℕ → List ℕ
  grown zero fs = fs
  grown (suc n) fs = grown n (joined fs (flat_map callees_at fs))

  -- calls nest no deeper than there are functions, where none calls itself
  abbrev pub reached : ℕ → List ℕ
  reached f = grown (length p.functions) (f ∷ [])

  -- whether the calls of these lead to none but these
  abbrev pub is_closed : List ℕ → Bool
  is_closed fs = list_all (λ f. list_all (λ g. among g fs) (callees_at f)) fs
