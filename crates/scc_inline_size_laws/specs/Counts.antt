-- How many statements a copied body has and how deep they nest, told by functions alone: by what the bodies of the called functions come to. Counts
-- that passed their limits are all alike. This project's own.
use Rattle.std.specs.Prelude.{◌≡◌, ◌≤◌, ◌<◌, nat_lt, ◌||◌, Bool, ℕ, zero, suc, ◌+◌, max, min, List, [], ◌∷◌, length, Option, Some, None, option_map, slice_get, unwrap_or}
use Rattle.scc_bits_kinds.specs.declared.kind.Kind.{Kind}
use Rattle.scc_core_spec.specs.Term as core
use Rattle.scc_core_spec.specs.Code as stmt
use Rattle.scc_elab_spec.specs.Term.{Term, Argument, Value, Leads, ModuleName}
use Rattle.scc_elab_spec.specs.Program.{Code, End, Declare, Assign, Point, Write, Call, If, Loop, Block, Exit, Return, Wait, Make, Bind, Process, Sensitive, Quiet, Reset, Function, Plain, Member}
use Rattle.scc_elab_spec.specs.Copied.{Here}
use Rattle.scc_elab_spec.specs.Bodies.{elements}
use Rattle.scc_inline_spec.specs.Inlined.{call_of}

-- the most statements and the most levels, and one more
abbrev pub many : ℕ → ℕ
many n = min n 65537

abbrev pub deep : ℕ → ℕ
deep n = min n 1025

-- a local declared without a value: an assignment for each element
abbrev pub declared_size : Option Member → ℕ
declared_size None = 0
declared_size (Some m) = length (elements m.shape.sizes)

abbrev pub passed_size : List Argument → ℕ
passed_size [] = 0
passed_size (Value e ∷ args) = suc (passed_size args)
passed_size (Leads t ∷ args) = suc (passed_size args)
passed_size (ModuleName ∷ args) = passed_size args

abbrev pub result_size : Option Kind → ℕ
result_size None = 0
result_size (Some k) = 1

abbrev pub returned_size : Option Term → ℕ
returned_size None = 1
returned_size (Some e) = 2

-- so many statements that hold none
abbrev pub level : ℕ → ℕ
level zero = 0
level (suc n) = 1

abbrev pub call_size : (ℕ → ℕ) → Plain → ℕ → List Argument → ℕ
call_size sizes p n args = unwrap_or (option_map (λ (g : Function). 1 + (result_size g.result + (passed_size args + sizes n))) (slice_get p.functions n)) 0

abbrev pub call_height : (ℕ → ℕ) → Plain → ℕ → List Argument → ℕ
call_height heights p n args = unwrap_or (option_map (λ (g : Function). 1 + max (level (result_size g.result)) (max (level (passed_size args)) (heights n))) (slice_get p.functions n)) 0

-- how many statements the copy of a function's code has, where the copies of called functions have so many
abbrev pub size_in : (ℕ → ℕ) → Plain → Function → Code → ℕ
size_in sizes p f End = 0
size_in sizes p f (Declare q n r) = declared_size (slice_get f.locals n) + size_in sizes p f r
size_in sizes p f (Assign q l k e r) = 1 + size_in sizes p f r
size_in sizes p f (Point q l t r) = 1 + size_in sizes p f r
size_in sizes p f (Write q l e r) = 1 + size_in sizes p f r
size_in sizes p f (Call q n g o args r) = call_size sizes p g args + size_in sizes p f r
size_in sizes p f (If q t a b r) = 1 + (size_in sizes p f a + (size_in sizes p f b + size_in sizes p f r))
size_in sizes p f (Loop q c b r) = 1 + (size_in sizes p f b + size_in sizes p f r)
size_in sizes p f (Block q b r) = 1 + (size_in sizes p f b + size_in sizes p f r)
size_in sizes p f (Exit q n r) = 1 + size_in sizes p f r
size_in sizes p f (Return q v r) = returned_size v + size_in sizes p f r
size_in sizes p f (Wait q n r) = 1 + size_in sizes p f r
size_in sizes p f (Make q l b args r) = size_in sizes p f r
size_in sizes p f (Bind q l t r) = size_in sizes p f r
size_in sizes p f (Process q t g e r) = size_in sizes p f r
size_in sizes p f (Sensitive q items r) = size_in sizes p f r
size_in sizes p f (Quiet q r) = size_in sizes p f r
size_in sizes p f (Reset q s e a r) = size_in sizes p f r

-- how deep they nest, where those of called functions nest so deep
abbrev pub height_in : (ℕ → ℕ) → Plain → Function → Code → ℕ
height_in heights p f End = 0
height_in heights p f (Declare q n r) = max (level (declared_size (slice_get f.locals n))) (height_in heights p f r)
height_in heights p f (Assign q l k e r) = max 1 (height_in heights p f r)
height_in heights p f (Point q l t r) = max 1 (height_in heights p f r)
height_in heights p f (Write q l e r) = max 1 (height_in heights p f r)
height_in heights p f (Call q n g o args r) = max (call_height heights p g args) (height_in heights p f r)
height_in heights p f (If q t a b r) = max (1 + max (height_in heights p f a) (height_in heights p f b)) (height_in heights p f r)
height_in heights p f (Loop q c b r) = max (1 + height_in heights p f b) (height_in heights p f r)
height_in heights p f (Block q b r) = max (1 + height_in heights p f b) (height_in heights p f r)
height_in heights p f (Exit q n r) = max 1 (height_in heights p f r)
height_in heights p f (Return q v r) = max 1 (height_in heights p f r)
height_in heights p f (Wait q n r) = max 1 (height_in heights p f r)
height_in heights p f (Make q l b args r) = height_in heights p f r
height_in heights p f (Bind q l t r) = height_in heights p f r
height_in heights p f (Process q t g e r) = height_in heights p f r
height_in heights p f (Sensitive q items r) = height_in heights p f r
height_in heights p f (Quiet q r) = height_in heights p f r
height_in heights p f (Reset q s e a r) = height_in heights p f r

-- whether the copied body of a process, in its one block, passes a limit
abbrev pub is_too_large : (ℕ → ℕ) → (ℕ → ℕ) → Plain → Function → Bool
is_too_large sizes heights p f = nat_lt 65536 (1 + size_in sizes p f f.body) || nat_lt 1024 (1 + height_in heights p f f.body)

-- The copied body of the function of that number has these counts, wherever it is copied. Where calls are copied at most m deep, it is m levels
-- high if it is higher; a lower one is whole.
pub record Comes (p : Plain) (n size height : ℕ) : Type 0 where
  pub high : (h : Here) (m : ℕ) (cs : List ℕ) (this : core.Left) → h.plain ≡ p → m ≤ 1025 → min (stmt.height (call_of h m cs n this)) m ≡ min height m
  pub long : (h : Here) (m : ℕ) (cs : List ℕ) (this : core.Left) → h.plain ≡ p → m ≤ 1025 → height < m → many (stmt.size (call_of h m cs n this)) ≡ many size

-- Counts of each function that stand still: what they say of a function is what its body comes to by them, up to the limits. What is no function has none.
pub record StandsStill (p : Plain) (heights sizes : ℕ → ℕ) : Type 0 where
  pub size : (n : ℕ) (f : Function) → slice_get p.functions n ≡ Some f → many (sizes n) ≡ many (size_in sizes p f f.body)
  pub height : (n : ℕ) (f : Function) → slice_get p.functions n ≡ Some f → deep (heights n) ≡ deep (height_in heights p f f.body)
  pub no_size : (n : ℕ) → slice_get p.functions n ≡ None → sizes n ≡ 0
  pub no_height : (n : ℕ) → slice_get p.functions n ≡ None → heights n ≡ 0

-- whether a copied body of such counts, in its one block, passes a limit
abbrev pub passes : ℕ → ℕ → Bool
passes size height = nat_lt 65536 (1 + size) || nat_lt 1024 (1 + height)
