-- An assignment of a resolved core leaves words and requests proper.
use Rattle.std.proofs.Common.{◌≡◌, ℕ, true, false, not, ◌&&◌, List, [], ◌∷◌, Option, Some, None, refl, sym, ap, subst, ◌∙◌}
use Rattle.std.specs.Prelude.{◌+◌, ◌-◌, ◌^◌, ◌<◌, slice_get, option_and_then, nat_eq, nat_lt, nat_le, is_some, unwrap_or}
use Rattle.scc_bits_kinds.specs.declared.kind.Kind.{Kind}
use Rattle.scc_bits_kinds.specs.declared.kind.Kind.TheVariants as kind
use Rattle.scc_bits_kinds.specs.Kinds.{width_of}
use Rattle.scc_bits.proofs.Parts.{replaced_fits}
use Rattle.scc_semantics.specs.Location.{Location, Part}
use Rattle.scc_semantics.specs.Places.{Thing, Number, Signal}
use Rattle.scc_semantics.specs.Places as design
use Rattle.scc_semantics.specs.Store.{changed}
use Rattle.scc_semantics.specs.Scene.{expr_kind, followed, index_of, with_bit}
use Rattle.scc_semantics.specs.Design.{Design}
use Rattle.scc_semantics.specs.Value.{Held, locate, value, put_at, with_words, asked}
use Rattle.scc_semantics.specs.Value as machine
use Rattle.scc_semantics.specs.Run.{FitsThing}
use Rattle.scc_semantics.specs.Start.{IsProper, HoldsConstant}
use Rattle.scc_semantics.specs.Steady.{IsProperAt, AllProperRequests}
use Rattle.scc_semantics_laws.proofs.Places.{changed-proper, append-proper}
use Rattle.scc_core_spec.specs.Term.{Left, Pick, Whole, OneBit, Bits}
use Rattle.scc_core_spec.specs.Program.{Program, Process, Sort, Input, Output, Variable, Local, Pointer, Port, is_root, is_pointer}
use Rattle.scc_core_spec.specs.Program as program
use Rattle.scc_core_spec.specs.Named.{Step, path_steps, cell_at}
use Rattle.scc_core_spec.specs.Static.{fixed_word}
use Rattle.scc_core_spec.specs.Uses.{cells_of, root_of, root_of_sort, among}
use Rattle.scc_core_spec.specs.Source.{Home, thing_of, source_of, left_of, expr_of, pick_of, at_top, cell_location}
use Rattle.scc_states_path_laws.specs.Moved.{World, around}
use Rattle.scc_states_laws.specs.Processes.{HoldsFixed, world_of}
use Rattle.scc_states_laws.specs.Alike.{Names, TellsApart}
use Rattle.scc_core_spec.specs.Program.{is_number}
use Rattle.scc_states_laws.proofs.Values.{some_same, map_is, cell_of, thing_at, nothing_at, port_names, root_is}
use Rattle.scc_core_spec.specs.OpenNames.{all_named, is_sized}
use Rattle.scc_core_spec.specs.Fit.{takes, fit_left}
use Rattle.scc_core_spec.specs.IsResolved.{IsResolved}
use Rattle.scc_core_resolved_laws.proofs.Bools.{and-first, and-second, nat_eq-is, nat_le-is, nat_lt-is}
use Rattle.scc_core_resolved_laws.proofs.Cells.{named-passes}
use Rattle.scc_core_resolved_laws.proofs.Fitting.{left-fits}
use Rattle.scc_core_resolved_laws.proofs.Located.{Led, located}
use Rattle.scc_core_resolved_laws.proofs.Numbers.{with-bit-fits}
use Rattle.scc_core_resolved_laws.proofs.Parts.{cells-apart}
use Rattle.scc_core_resolved_laws.proofs.Valued.{root-of}
use Rattle.scc_core_resolved_laws.proofs.Writes.{named-among}

unfoldable pub Proper : Design → Held → Type 0
Proper d h = IsProper d h.store.words × AllProperRequests d h.requests

none-is : {A : Type 0} (o : Option A) → not (is_some o) ≡ true → o ≡ None
none-is None e = refl
none-is (Some x) e = absurd cc

pub holds-fixed : (d : Design) (h : Held) → Proper d h → HoldsFixed d h
unfolding Proper
holds-fixed d h ok l v e = subst (λ o. HoldsConstant o (h.store.words l)) e (ok.0.fixed l)

-- what is written is not fixed
pub takes-fixed : (k : Pick) (j : Kind) (x : program.Cell) → takes k j x ≡ true → fixed_word x.sort ≡ None
takes-fixed Whole j x t = none-is (fixed_word x.sort) (and-first (not (is_some (fixed_word x.sort))) (nat_eq (width_of j) (width_of x.kind)) t)
takes-fixed (OneBit e) j x t = none-is (fixed_word x.sort) (and-first (not (is_some (fixed_word x.sort))) (is_number x.sort && nat_eq (width_of j) 1) t)
takes-fixed (Bits hi lo) j x t = none-is (fixed_word x.sort) (and-first (not (is_some (fixed_word x.sort))) (is_number x.sort && (nat_le lo hi && (nat_lt hi (width_of x.kind) && nat_eq (width_of j) (hi - lo + 1)))) t)

-- no constant is told of a cell
unfoldable pub IsFree : (Location → Option ℕ) → Home → Program → ℕ → Type 0
IsFree constant home p n = (x : program.Cell) → slice_get p.cells n ≡ Some x → constant (cell_location home p x) ≡ None

module _ (home : Home) (constant : Location → Option ℕ) (p : Program) (i : ℕ) (q : Process) (signals : Location → ℕ) (apart : TellsApart home p i q) (r : IsResolved p) where
  abbrev W : World
  W = world_of home constant p i signals

  abbrev D : Design
  D = source_of home p constant

  -- a word that fits may be held where no constant is
  may-hold : (k : Location) (s : List Step) (n : ℕ) (x : program.Cell) (w : ℕ) → Names home i q k s → cell_at false 0 s p.cells ≡ Some n → slice_get p.cells n ≡ Some x → FitsThing (W.places.things k) w
      → fixed_word x.sort ≡ None → IsFree constant home p n → IsProperAt D k w
  unfolding IsFree
  may-hold k s n x w names c g fits fixed free =
      let there = apart.found k s names ∙ (ap (option_and_then (slice_get p.cells)) c ∙ g) in
      let at = apart.stands k x there in
      record {
        fits = fits;
        fixed = subst (λ o. HoldsConstant o w) (sym (ap (option_and_then (λ c. fixed_word c.sort)) there ∙ fixed)) tt;
        constants = subst (λ o. HoldsConstant o w) (sym (ap constant (sym at) ∙ free x g)) tt;
      }

  -- of what is no number the whole is written
  takes-whole : (k : Pick) (j : Kind) (x : program.Cell) (new : ℕ) → takes k j x ≡ true → is_number x.sort ≡ false → new < 2 ^ width_of j → new < 2 ^ width_of x.kind
  takes-whole Whole j x new t a f = subst (λ w. new < 2 ^ w) (nat_eq-is (width_of j) (width_of x.kind) (and-second (not (is_some (fixed_word x.sort))) (nat_eq (width_of j) (width_of x.kind)) t)) f
  takes-whole (OneBit e) j x new t a f =
      let n = and-first (is_number x.sort) (nat_eq (width_of j) 1) (and-second (not (is_some (fixed_word x.sort))) (is_number x.sort && nat_eq (width_of j) 1) t) in
      absurd cc
  takes-whole (Bits hi lo) j x new t a f =
      let n = and-first (is_number x.sort) (nat_le lo hi && (nat_lt hi (width_of x.kind) && nat_eq (width_of j) (hi - lo + 1)))
      (and-second (not (is_some (fixed_word x.sort))) (is_number x.sort && (nat_le lo hi && (nat_lt hi (width_of x.kind) && nat_eq (width_of j) (hi - lo + 1)))) t) in
      absurd cc

  picked-fits : (h : Held) (k : Pick) (j : Kind) (x : program.Cell) (old new w : ℕ) → takes k j x ≡ true → old < 2 ^ width_of x.kind → new < 2 ^ width_of j
      → machine.picked (around W h) x.kind (pick_of home p.cells i k) old new ≡ Some w → w < 2 ^ width_of x.kind
  picked-fits h Whole j x old new w t f g e =
      subst (λ z. z < 2 ^ width_of x.kind) (some_same e)
      (subst (λ w. new < 2 ^ w) (nat_eq-is (width_of j) (width_of x.kind) (and-second (not (is_some (fixed_word x.sort))) (nat_eq (width_of j) (width_of x.kind)) t)) g)
  picked-fits h (OneBit b) j x old new w t f g e =
      let one = and-second (is_number x.sort) (nat_eq (width_of j) 1) (and-second (not (is_some (fixed_word x.sort))) (is_number x.sort && nat_eq (width_of j) 1) t) in
      let m = map_is (value (around W h) (expr_of home p.cells i b)) (λ n. with_bit (width_of x.kind) old (index_of (expr_kind (expr_of home p.cells i b)) n) new) w e in
      subst (λ z. z < 2 ^ width_of x.kind) m.2 (with-bit-fits (width_of x.kind) old (index_of (expr_kind (expr_of home p.cells i b)) m.0) new f (subst (λ z. new < 2 ^ z) (nat_eq-is (width_of j) 1 one) g))
  picked-fits h (Bits hi lo) j x old new w t f g e =
      let a = and-second (not (is_some (fixed_word x.sort))) (is_number x.sort && (nat_le lo hi && (nat_lt hi (width_of x.kind) && nat_eq (width_of j) (hi - lo + 1)))) t in
      let b = and-second (is_number x.sort) (nat_le lo hi && (nat_lt hi (width_of x.kind) && nat_eq (width_of j) (hi - lo + 1))) a in
      let c = and-second (nat_le lo hi) (nat_lt hi (width_of x.kind) && nat_eq (width_of j) (hi - lo + 1)) b in
      let wide = nat_eq-is (width_of j) (hi - lo + 1) (and-second (nat_lt hi (width_of x.kind)) (nat_eq (width_of j) (hi - lo + 1)) c) in
      subst (λ z. z < 2 ^ width_of x.kind) (some_same e)
      (replaced_fits (width_of x.kind) hi lo old new (nat_le-is lo hi (and-first (nat_le lo hi) (nat_lt hi (width_of x.kind) && nat_eq (width_of j) (hi - lo + 1)) b))
      (nat_lt-is hi (width_of x.kind) (and-first (nat_lt hi (width_of x.kind)) (nat_eq (width_of j) (hi - lo + 1)) c)) f (subst (λ z. new < 2 ^ z) wide g))

  module _ (h : Held) (k : Location) (s : List Step) (n : ℕ) (x : program.Cell) (pick : Pick) (j : Kind) (new : ℕ) (names : Names home i q k s) (c : cell_at false 0 s p.cells ≡ Some n) (g : slice_get p.cells n ≡ Some x)
      (t : takes pick j x ≡ true) (less : new < 2 ^ width_of j) (ok : Proper D h) (free : IsFree constant home p (root_of p.cells n)) where
    at-number : (after : Held) → is_number x.sort ≡ true → root_of p.cells n ≡ n → W.places.things k ≡ Some (Number x.kind) → put_at (W.places.things k) (around W h) h k (pick_of home p.cells i pick) new ≡ Some after → Proper D after
    unfolding Proper
    at-number after a root e put =
        let put' = subst (λ z. put_at z (around W h) h k (pick_of home p.cells i pick) new ≡ Some after) e put in
        let m = map_is (machine.picked (around W h) x.kind (pick_of home p.cells i pick) (h.store.words k) new) (λ w. with_words h (changed k w h.store.words)) after put' in
        let old = subst (λ z. FitsThing z (h.store.words k)) e (ok.0.fits k) in
        let w = picked-fits h pick j x (h.store.words k) new m.0 t old less m.1 in
        let at = may-hold k s n x m.0 names c g (subst (λ z. FitsThing z m.0) (sym e) w) (takes-fixed pick j x t) (subst (IsFree constant home p) root free) in
        subst (Proper D) m.2 (changed-proper D h.store.words k m.0 ok.0 at, ok.1)

    at-root : (after : Held) → is_number x.sort ≡ false → root_of p.cells n ≡ n → W.places.things k ≡ Some (Signal x.kind) → put_at (W.places.things k) (around W h) h k (pick_of home p.cells i pick) new ≡ Some after → Proper D after
    unfolding Proper
    at-root after a root e put =
        let put' = subst (λ z. put_at z (around W h) h k (pick_of home p.cells i pick) new ≡ Some after) e put in
        let m = map_is (machine.picked (around W h) x.kind (pick_of home p.cells i pick) 0 new) (λ w. asked h k new) after put' in
        let at = may-hold k s n x new names c g (subst (λ z. FitsThing z new) (sym e) (takes-whole pick j x new t a less)) (takes-fixed pick j x t) (subst (IsFree constant home p) root free) in
        subst (Proper D) m.2 (ok.0, append-proper D h.requests (record { root = k; word = new } ∷ []) ok.1 (at, tt))

    at-port : (after : Held) (path : List Part) → x.sort ≡ Port path → W.places.things k ≡ Some (design.Port x.kind (at_top path)) → put_at (W.places.things k) (around W h) h k (pick_of home p.cells i pick) new ≡ Some after → Proper D after
    unfolding Proper
    at-port after path d e put =
        let put' = subst (λ z. put_at z (around W h) h k (pick_of home p.cells i pick) new ≡ Some after) e put in
        let m = map_is (machine.picked (around W h) x.kind (pick_of home p.cells i pick) 0 new) (λ w. asked h (at_top path) new) after put' in
        let u = root-of p r n x path g d in
        let to = thing_at home constant p i q signals apart (at_top path) (path_steps path) u.0 u.1 (port_names home constant p i q signals apart path) u.2 u.3 in
        let number : is_number x.sort ≡ false = ap is_number d in
        let w = subst (λ z. new < 2 ^ width_of z) u.5 (takes-whole pick j x new t number less) in
        let root : root_of p.cells n ≡ u.0 = root_is home constant p i q signals apart n x g ∙ (ap (λ z. root_of_sort p.cells z n) d ∙ ap (λ o. unwrap_or o n) u.2) in
        let at = may-hold (at_top path) (path_steps path) u.0 u.1 new (port_names home constant p i q signals apart path) u.2 u.3 (fitting u.1 u.1.sort u.4 to.0 w) (no-fixed u.1.sort u.4) (subst (IsFree constant home p) root free) in
        subst (Proper D) m.2 (ok.0, append-proper D h.requests (record { root = at_top path; word = new } ∷ []) ok.1 (at, tt))
      where
        fitting : (y : program.Cell) (z : Sort) → is_root z ≡ true → W.places.things (at_top path) ≡ thing_of home p y z → new < 2 ^ width_of y.kind → FitsThing (W.places.things (at_top path)) new
        fitting y Input a b w = subst (λ o. FitsThing o new) (sym b) w
        fitting y Output a b w = subst (λ o. FitsThing o new) (sym b) w
        fitting y program.Signal a b w = subst (λ o. FitsThing o new) (sym b) w
        fitting y (Variable v f) a b w = absurd cc
        fitting y (Local v) a b w = absurd cc
        fitting y (Pointer v) a b w = absurd cc
        fitting y (Port v) a b w = absurd cc

        no-fixed : (z : Sort) → is_root z ≡ true → fixed_word z ≡ None
        no-fixed Input a = refl
        no-fixed Output a = refl
        no-fixed program.Signal a = refl
        no-fixed (Variable v f) a = absurd cc
        no-fixed (Local v) a = absurd cc
        no-fixed (Pointer v) a = absurd cc
        no-fixed (Port v) a = absurd cc

    at-cell : (after : Held) → put_at (W.places.things k) (around W h) h k (pick_of home p.cells i pick) new ≡ Some after → Proper D after
    at-cell after put = by x.sort refl
      where
        thing : W.places.things k ≡ thing_of home p x x.sort
        thing = (thing_at home constant p i q signals apart k s n x names c g).0

        plain : (z : Sort) → x.sort ≡ z → root_of_sort p.cells z n ≡ n → root_of p.cells n ≡ n
        plain z d e = root_is home constant p i q signals apart n x g ∙ (ap (λ z. root_of_sort p.cells z n) d ∙ e)

        by : (z : Sort) → x.sort ≡ z → Proper D after
        by Input d = at-root after (ap is_number d) (plain Input d refl) (thing ∙ ap (thing_of home p x) d) put
        by Output d = at-root after (ap is_number d) (plain Output d refl) (thing ∙ ap (thing_of home p x) d) put
        by program.Signal d = at-root after (ap is_number d) (plain program.Signal d refl) (thing ∙ ap (thing_of home p x) d) put
        by (Variable v f) d = at-number after (ap is_number d) (plain (Variable v f) d refl) (thing ∙ ap (thing_of home p x) d) put
        by (Local v) d = at-number after (ap is_number d) (plain (Local v) d refl) (thing ∙ ap (thing_of home p x) d) put
        by (Port path) d = at-port after path d (thing ∙ ap (thing_of home p x) d) put
        by (Pointer v) d =
            let y = cell_of p.cells n s c in
            let e : is_pointer x.sort ≡ false = subst (λ z. is_pointer z.sort ≡ false) (some_same (sym y.1 ∙ g)) y.2 in
            let f : true ≡ false = sym (ap is_pointer d) ∙ e in
            absurd cc

  -- where no cell stands, nothing is written
  pub put-ok : (h after : Held) (l : Left) (k : Location) (pick : Pick) (j : Kind) (new : ℕ) → fit_left p.cells q l ≡ true → all_named p.cells (takes pick j) l ≡ true → is_sized p.cells l ≡ true
      → ((n : ℕ) → among n (cells_of p.cells l) ≡ true → IsFree constant home p n) → new < 2 ^ width_of j → Proper D h → followed (locate (around W h) (left_of home p.cells i l)) ≡ Some k
      → put_at (W.places.things k) (around W h) h k (pick_of home p.cells i pick) new ≡ Some after → Proper D after
  put-ok h after l k pick j new fit named sized free less ok at put =
      let led = located home p i q constant signals apart h (holds-fixed D h ok) l k (left-fits p.cells q (cells-apart p r) l fit) at in
      by led (cell_at false 0 led.steps p.cells) refl
    where
      nothing : W.places.things k ≡ None → Proper D after
      nothing e =
          let put' = subst (λ z. put_at z (around W h) h k (pick_of home p.cells i pick) new ≡ Some after) e put in
          let m = map_is (machine.picked (around W h) kind.Bool (pick_of home p.cells i pick) 0 new) (λ w. h) after put' in
          subst (Proper D) m.2 ok

      by : (led : Led home p i q k l) (o : Option ℕ) → cell_at false 0 led.steps p.cells ≡ o → Proper D after
      by led None c = nothing (nothing_at home constant p i q signals apart k led.steps led.names c)
      by led (Some n) c =
          let x = cell_of p.cells n led.steps c in
          let t = named-passes p.cells (takes pick j) l led.opened led.steps n x.0 (cells-apart p r) named led.opens led.agrees_open c x.1 in
          let m = named-among p.cells l led.formed led.steps n x.0 sized led.forms led.agrees_formed c x.1 in
          at-cell h k led.steps n x.0 pick j new led.names c x.1 t less ok (free (root_of p.cells n) m) after put
