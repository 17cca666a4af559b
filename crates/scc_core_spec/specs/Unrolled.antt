-- Unrolled bodies: counted loops written out turn by turn, and what is refused of them. This project's own.
use Rattle.std.specs.Prelude.{ℕ, ◌+◌, Bool, true, false, nat_lt, List, [], ◌∷◌, ◌++◌, map, flat_map, Option, Some, None, option_map, unwrap_or, slice_get, if◌then◌else◌}
use Rattle.scc_base.specs.declared.refusal.Place.{Place}
use Rattle.scc_base.specs.declared.refusal.Refusal.{Refusal}
use Rattle.scc_base.specs.declared.code.Code.TheVariants as reason
use Rattle.scc_core_spec.specs.Term.{Literal, Whole, kind_of, place_of}
use Rattle.scc_core_spec.specs.Code.{Code, Count, Pointed, Declared, Assigned, End, Put, Aim, If, Block, Loop, Exit, Wait, size, holds_wait}
use Rattle.scc_core_spec.specs.Program.{Process, Program}
use Rattle.scc_core_spec.specs.Static.{Cells}
use Rattle.scc_core_spec.specs.Counted.{Counter, Setting, Start, Stand, First, Elsewhere, behind, Counting, Turn, Turning, counter, counting, counting_left, counting_pick, counted_by, ended, around, turning_of}
use Rattle.scc_core_spec.specs.First.{or_else, first_of, when, refused}

abbrev pub counting_count : List Counter → Count → Count
counting_count ns c = record { cell = c.cell; start = counting ns c.start; compare = c.compare; bound = counting ns c.bound; step_op = c.step_op; step = counting ns c.step }

abbrev pub counting_to : List Counter → Pointed → Pointed
counting_to ns (Declared n) = Declared n
counting_to ns (Assigned l) = Assigned (counting_left ns l)

-- the block of a turn, in the loop's body with its counter as a literal
abbrev pub block_of : Code → Code → Code
block_of (If p t a b r) rest = block_of r rest
block_of (Block p b r) rest = Block p b rest
block_of _ rest = rest

-- the step assigns the counter's next value as a literal
abbrev pub stepped : Option Turning → ℕ → Code → Code
stepped None next rest = rest
stepped (Some t) next rest = Put t.step_place t.step_left Whole (Literal (place_of t.step) (kind_of t.step) next) rest

-- the turns of a counted loop, before what follows it
abbrev pub written_out : Option Turning → List (Turn × Code) → Code → Code
written_out t [] rest = rest
written_out t (x ∷ xs) rest = block_of x.1 (stepped t x.0.next (written_out t xs rest))

abbrev pub looped_or : {A : Type 0} → Option Counting → (Counting → A) → A → A
looped_or (Some g) turns loop = turns g
looped_or None turns loop = loop

abbrev pub unrolled : Setting → List Counter → Stand → Code → Code
unrolled s ns w End = End
unrolled s ns w (Put p l k e r) = Put p (counting_left ns l) (counting_pick ns k) (counting ns e) (unrolled s ns (behind w (record { left = l; pick = k; value = e })) r)
unrolled s ns w (Aim p to l r) = Aim p (counting_to ns to) (counting_left ns l) (unrolled s ns Elsewhere r)
unrolled s ns w (If p t a b r) = If p (counting ns t) (unrolled s ns Elsewhere a) (unrolled s ns Elsewhere b) (unrolled s ns Elsewhere r)
unrolled s ns w (Block p b r) = Block p (unrolled s ns First b) (unrolled s ns Elsewhere r)
unrolled s ns w (Loop p c b r) = looped_or (ended (counted_by s ns w c b r))
    (λ g. written_out (turning_of b) (map (λ x. (x, unrolled s (counter g.cell x.now ∷ ns) Elsewhere b)) g.turns.list) (unrolled s ns Elsewhere r))
    (Loop p (option_map (counting_count ns) c) (unrolled s ns Elsewhere b) (unrolled s ns Elsewhere r))
unrolled s ns w (Exit p n r) = Exit p n (unrolled s ns Elsewhere r)
unrolled s ns w (Wait p l n r) = Wait p l n (unrolled s ns Elsewhere r)

-- a loop, by its number among the statements of its body in text order
pub record Spot : Type 0 where
  pub number : ℕ
  pub place : Place

abbrev pub spots_if : Bool → List Spot → List Spot
spots_if true ss = ss
spots_if false ss = []

-- the loops without a wait that aren't counted, in text order
abbrev pub uncounted : Setting → List Counter → Stand → ℕ → Code → List Spot
uncounted s ns w n End = []
uncounted s ns w n (Put p l k e r) = uncounted s ns (behind w (record { left = l; pick = k; value = e })) (n + 1) r
uncounted s ns w n (Aim p to t r) = uncounted s ns Elsewhere (n + 1) r
uncounted s ns w n (If p t a b r) = uncounted s ns Elsewhere (n + 1) a ++ (uncounted s ns Elsewhere (n + (1 + size a)) b ++ uncounted s ns Elsewhere (n + (1 + (size a + size b))) r)
uncounted s ns w n (Block p b r) = uncounted s ns First (n + 1) b ++ uncounted s ns Elsewhere (n + (1 + size b)) r
uncounted s ns w n (Loop p c b r) =
    spots_if (is_uncounted (holds_wait b) (counted_by s ns w c b r)) (record { number = n; place = p } ∷ [])
    ++ (uncounted s (around ns (counted_by s ns w c b r)) Elsewhere (n + 1) b ++ uncounted s ns Elsewhere (n + (1 + size b)) r)
  where
    is_uncounted : Bool → Option Counting → Bool
    is_uncounted true c = false
    is_uncounted false (Some c) = false
    is_uncounted false None = true
uncounted s ns w n (Exit p d r) = uncounted s ns Elsewhere (n + 1) r
uncounted s ns w n (Wait p l d r) = uncounted s ns Elsewhere (n + 1) r

-- the turns of the counted loops in the order in which they run, an outer one before the inner ones in it, each by its loop
abbrev pub run_turns : Setting → List Counter → Stand → ℕ → Code → List Spot
run_turns s ns w n End = []
run_turns s ns w n (Put p l k e r) = run_turns s ns (behind w (record { left = l; pick = k; value = e })) (n + 1) r
run_turns s ns w n (Aim p to t r) = run_turns s ns Elsewhere (n + 1) r
run_turns s ns w n (If p t a b r) = run_turns s ns Elsewhere (n + 1) a ++ (run_turns s ns Elsewhere (n + (1 + size a)) b ++ run_turns s ns Elsewhere (n + (1 + (size a + size b))) r)
run_turns s ns w n (Block p b r) = run_turns s ns First (n + 1) b ++ run_turns s ns Elsewhere (n + (1 + size b)) r
run_turns s ns w n (Loop p c b r) = looped_or (counted_by s ns w c b r)
    (λ g. flat_map (λ x. record { number = n; place = p } ∷ run_turns s (counter g.cell x.now ∷ ns) Elsewhere (n + 1) b) g.turns.list)
    (run_turns s ns Elsewhere (n + 1) b) ++ run_turns s ns Elsewhere (n + (1 + size b)) r
run_turns s ns w n (Exit p d r) = run_turns s ns Elsewhere (n + 1) r
run_turns s ns w n (Wait p l d r) = run_turns s ns Elsewhere (n + 1) r

abbrev pub first_spot : List Spot → Option Spot
first_spot [] = None
first_spot (s ∷ ss) = Some s

-- of an uncounted loop and the loop that makes turn 4,097 the earlier one
abbrev pub earlier : Option Spot → Option Spot → Option Refusal
earlier None None = None
earlier (Some a) None = Some (refused reason.UncountedLoop a.place)
earlier None (Some b) = Some (refused reason.TooManyTurns b.place)
earlier (Some a) (Some b) = if nat_lt a.number b.number then Some (refused reason.UncountedLoop a.place) else Some (refused reason.TooManyTurns b.place)

abbrev pub setting_of : Cells → Process → Setting
setting_of cs p = record { cells = cs; path = p.name.path; body = p.body }

-- E508 and E602 of a process: a loop without a wait that isn't counted, turn 4,097, and an unrolled body of more than 65,536 statements
abbrev pub first_unrolled : Cells → Process → Option Refusal
first_unrolled cs p = or_else
    (earlier (first_spot (uncounted (setting_of cs p) [] Elsewhere 0 p.body)) (slice_get (run_turns (setting_of cs p) [] Elsewhere 0 p.body) 4096))
    (when (nat_lt 65536 (size (unrolled (setting_of cs p) [] Elsewhere p.body))) (refused reason.TooManyTurns p.place))

abbrev pub with_body : (Process → Code) → Process → Process
with_body f p = record { is_thread = p.is_thread; name = p.name; place = p.place; senses = p.senses; edge = p.edge; reset = p.reset; body = f p }

abbrev pub unrolled_program : Program → Program
unrolled_program p = record { top = p.top; cells = p.cells; vectors = p.vectors; processes = map (with_body (λ q. unrolled (setting_of p.cells q) [] Elsewhere q.body)) p.processes }

abbrev pub unrolling_refuses : Program → Option Refusal
unrolling_refuses p = first_of (first_unrolled p.cells) p.processes
