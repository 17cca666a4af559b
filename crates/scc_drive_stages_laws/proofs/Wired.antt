-- Steps give the same words to inputs by their places as by their names, and the same clocks have their edge.
use Rattle.std.proofs.Common.{◌≡◌, ◌<◌, ◌+◌, ◌^◌, ℕ, zero, suc, Bool, true, false, not, ◌&&◌, ◌||◌, nat_eq, List, [], ◌∷◌, length, Option, Some, None, refl, sym, ap, ◌∙◌, subst, slice_get, arith, if◌then◌else◌}
use Rattle.std.specs.Prelude.{map, take, filter_map, option_map, option_and_then, unwrap_or, bytes_eq}
use Rattle.std.specs.List.{list_any, cons_option}
use Rattle.std.proofs.lemmas.Slice.Eq.{bytes_eq-Decides}
use Rattle.scc_bits_kinds.specs.Kinds.{width_of}
use Rattle.scc_semantics.specs.Location.{Location, same}
use Rattle.scc_semantics.specs.Design as running
use Rattle.scc_semantics.specs.Design.{Design, TopPort, edge_of, has_clock, is_clock, locations, clocks, inputs}
use Rattle.scc_semantics.specs.Run.{Step, AllFit, AllAmong, EdgeOf, EdgesFit, FitsStep}
use Rattle.scc_semantics_laws.proofs.Places.{same-is, same-self}
use Rattle.scc_svtree.specs.declared.module.Dir.TheVariants as dir
use Rattle.scc_svtree.specs.declared.module.SvModule.{SvModule}
use Rattle.scc_svtree.specs.declared.module.SvVar.{SvVar}
use Rattle.scc_svtree.specs.Steps.{input_at}
use Rattle.scc_svtree.specs.Steps as sv
use Rattle.scc_core_spec.specs.Constants.{written, constant_if}
use Rattle.scc_core_spec.specs.First.{or_else}
use Rattle.scc_core_spec.specs.Program as program
use Rattle.scc_core_spec.specs.Program.{Program, Process, Cell, Edge, is_root, is_held, is_input, is_output, is_pointer}
use Rattle.scc_core_spec.specs.Source.{Home, at_top, cell_location, edge_at, port_of, processes_from, sort_of}
use Rattle.scc_core_spec.specs.Static.{Cells}
use Rattle.scc_core_spec.specs.Uses.{among, width_at}
use Rattle.scc_blocks_spec.specs.Emitted.{is_clock_name, or_zero, behind, step_of}
use Rattle.scc_blocks_spec.specs.Emitted as emitted
use Rattle.scc_blocks_spec.specs.Matches.{var_view, port_view, is_port, name_at, way_of, PortView}
use Rattle.scc_blocks_spec.specs.Tied.{Registers}
use Rattle.scc_blocks_spec.specs.Turns.{constant_at}
use Rattle.scc_blocks_run_laws.specs.Follows.{SameTurn}
use Rattle.scc_blocks_run_laws.specs.Follows as turns
use Rattle.scc_core_effect_laws.specs.Follows.{IsSoundCore, design_of}
use Rattle.scc_core_effect_laws.proofs.Names.{true-false, none-some, some-same, and-first, or-left, or-right}
use Rattle.scc_core_effect_laws.proofs.Unsure.{sort-of}
use Rattle.scc_core_resolved_laws.proofs.Inputs.{any-at, filter-at, mapped-at, chosen-at}
use Rattle.scc_core_laws.specs.Given.{takes_word, given_from, cells_at, regs_step_of}
use Rattle.scc_core_laws.specs.Stepped.{SameEdge}
use Rattle.scc_core_laws.proofs.Starting.{step-of, Suffix, head, tail, inputs_in, inputs-step}
use Rattle.scc_drive_stages_laws.specs.Joined.{IsWired, turn_of}

both-ways : (a b : Bool) → (a ≡ true → b ≡ true) → (b ≡ true → a ≡ true) → a ≡ b
both-ways true b f g = sym (f refl)
both-ways false true f g = g refl
both-ways false false f g = refl

-- nothing is given to cells below those of the list
none-below : (home : Home) (p : Program) (cs : Cells) (n c : ℕ) (xs : List ℕ) → c < n → given_from home p n cs xs c ≡ None
none-below home p [] n c xs l = refl
none-below home p (y ∷ cs) n c [] l = refl
none-below home p (y ∷ cs) n c (x ∷ xs) l = by (takes_word home p y) (none-below home p cs (suc n) c xs (omega (arith, l))) (none-below home p cs (suc n) c (x ∷ xs) (omega (arith, l)))
  where
    other : nat_eq n c ≡ false
    other = grind (arith, l)

    by : (b : Bool) → given_from home p (suc n) cs xs c ≡ None → given_from home p (suc n) cs (x ∷ xs) c ≡ None
        → (if b then or_else (given_from home p (suc n) cs xs c) (if nat_eq n c then Some x else None) else given_from home p (suc n) cs (x ∷ xs) c) ≡ None
    by true a b = (λ i. or_else (a i) (if other i then Some x else None))
    by false a b = b

module _ (home : Home) (p : Program) (resolved : IsSoundCore home p) (text : Location → List ℕ) (r : Registers) (m : SvModule) (clock_variable : ℕ → ℕ) (wired : IsWired home p text r m clock_variable)
    (held : (c v : ℕ) → r.variable c ≡ Some v → (x : Cell) × (slice_get p.cells c ≡ Some x) × (is_held x.sort ≡ true)) where
  abbrev d : Design
  d = design_of home p

  abbrev at : Cell → Location
  at x = cell_location home p x

  -- names of roots are the same only where the roots are
  same-name : (c e : ℕ) (x y : Cell) → slice_get p.cells c ≡ Some x → slice_get p.cells e ≡ Some y → is_root x.sort ≡ true → is_root y.sort ≡ true → bytes_eq (text (at x)) (text (at y)) ≡ same (at y) (at x)
  same-name c e x y f g a b = both-ways (bytes_eq (text (at x)) (text (at y))) (same (at y) (at x)) to back
    where
      to : bytes_eq (text (at x)) (text (at y)) ≡ true → same (at y) (at x) ≡ true
      to h =
          let n = wired.apart c e x y f g a b ((bytes_eq-Decides (text (at x)) (text (at y))).0 h) in
          let one : x ≡ y = some-same x y (sym f ∙ (ap (slice_get p.cells) n ∙ g)) in
          subst (λ z. same (at y) (at z) ≡ true) (sym one) (same-self (at y))

      back : same (at y) (at x) ≡ true → bytes_eq (text (at x)) (text (at y)) ≡ true
      back h = (bytes_eq-Decides (text (at x)) (text (at y))).1 (ap text (sym (same-is (at y) (at x) h)))

  root-held : (s : program.Sort) → is_root s ≡ true → is_held s ≡ true
  root-held s h = or-left (is_root s) (program.is_number s) h

  input-root : (s : program.Sort) → is_input s ≡ true → is_root s ≡ true
  input-root program.Input e = refl
  input-root program.Output e = true-false (sym e)
  input-root program.Signal e = true-false (sym e)
  input-root (program.Variable w f) e = true-false (sym e)
  input-root (program.Local i) e = true-false (sym e)
  input-root (program.Pointer t) e = true-false (sym e)
  input-root (program.Port t) e = true-false (sym e)

  -- ---- a port is a clock by its place as by its name

  edge-clock : (i : ℕ) (q : Process) (e : Edge) (n : ℕ) (y : Cell) → slice_get p.processes i ≡ Some q → q.edge ≡ Some e → slice_get p.cells n ≡ Some y → is_root y.sort ≡ true
      → bytes_eq (text (edge_at home p e).clock) (text (at y)) ≡ same (at y) (edge_at home p e).clock
  edge-clock i q e n y s k f b =
      let x = sort-of is_root p.cells e.cell (resolved.edge_roots i q e s k) in
      let place : (edge_at home p e).clock ≡ at x.0 = ap (λ o. unwrap_or (option_map (cell_location home p) o) (at_top [])) x.1 in
      subst (λ l. bytes_eq (text l) (text (at y)) ≡ same (at y) l) (sym place) (same-name e.cell n x.0 y x.1 f x.2 b)

  clock-same : (n : ℕ) (y : Cell) → slice_get p.cells n ≡ Some y → is_root y.sort ≡ true → is_clock_name text d (text (at y)) ≡ is_clock d (at y)
  clock-same n y f b = all p.processes 0 (λ k. ap (slice_get p.processes) (whole k))
    where
      whole : (k : ℕ) → 0 + k ≡ k
      whole k = omega arith

      or-same : (a b c e : Bool) → a ≡ b → c ≡ e → (a || c) ≡ (b || e)
      or-same a b c e f g = λ i. f i || g i

      one : (i : ℕ) (q : Process) → slice_get p.processes i ≡ Some q → (t : Bool) (o : Option Edge) → q.edge ≡ o
          → list_any (λ e. bytes_eq (text e.clock) (text (at y))) (edge_of (sort_of home p q t o)) ≡ list_any (λ e. same (at y) e.clock) (edge_of (sort_of home p q t o))
      one i q s true None k = refl
      one i q s false None k = refl
      one i q s true (Some e) k = ap (λ b. b || false) (edge-clock i q e n y s k f b)
      one i q s false (Some e) k = ap (λ b. b || false) (edge-clock i q e n y s k f b)

      all : (qs : List Process) (i : ℕ) → ((k : ℕ) → slice_get p.processes (i + k) ≡ slice_get qs k)
          → list_any (λ z. list_any (λ e. bytes_eq (text e.clock) (text (at y))) (edge_of z.sort)) (processes_from home p i qs) ≡ list_any (λ z. has_clock (at y) z.sort) (processes_from home p i qs)
      all [] i h = refl
      all (q ∷ qs) i h =
          or-same _ _ _ _ (one i q (ap (slice_get p.processes) first ∙ h 0) q.is_thread q.edge refl) (all qs (suc i) (λ k. ap (slice_get p.processes) (next k) ∙ h (suc k)))
        where
          first : i ≡ i + 0
          first = omega arith

          next : (k : ℕ) → suc i + k ≡ i + suc k
          next k = omega arith

  -- ---- inputs by places and by names

  abbrev ports_in : Cells → List TopPort
  ports_in cs = filter_map (port_of home p) cs

  abbrev Aligned : Cells → List SvVar → Type 0
  Aligned cs ws = map var_view (take (length (ports_in cs)) ws) ≡ map (port_view text d) (ports_in cs)

  -- behind the ports stand no inputs
  abbrev Inner : Cells → List SvVar → Type 0
  Inner cs ws = (j : ℕ) (w : SvVar) → slice_get ws j ≡ Some w → sv.is_input w.dir ≡ true → slice_get (take (length (ports_in cs)) ws) j ≡ Some w

  abbrev byName : List ℕ → Bool
  byName = is_clock_name text d

  abbrev put : Bool → Bool → Cell → Option TopPort
  put a b y = if a then Some (record { location = at y; direction = running.Input }) else (if b then Some (record { location = at y; direction = running.Output }) else None)

  way-in : (w : SvVar) → way_of w.dir ≡ Some true → sv.is_input w.dir ≡ true
  way-in w e = by w.dir e
    where
      by : (k : _) → way_of k ≡ Some true → sv.is_input k ≡ true
      by dir.Input e = refl
      by dir.Output e = absurd (cc)
      by dir.Inner e = absurd (cc)

  way-out : (w : SvVar) → way_of w.dir ≡ Some false → sv.is_input w.dir ≡ false
  way-out w e = by w.dir e
    where
      by : (k : _) → way_of k ≡ Some false → sv.is_input k ≡ false
      by dir.Input e = absurd (cc)
      by dir.Output e = refl
      by dir.Inner e = refl

  abbrev Given : ℕ → Cells → ℕ → List SvVar → List ℕ → ℕ → ℕ → Type 0
  Given n cs i ws xs c v = given_from home p n cs xs c ≡ Some (emitted.given_from byName i ws xs v)

  -- a cell that takes no word is passed over
  skipped : (y : Cell) (cs : Cells) (n c u : ℕ) (xs : List ℕ) → takes_word home p y ≡ false → given_from home p (suc n) cs xs c ≡ Some u → given_from home p n (y ∷ cs) xs c ≡ Some u
  skipped y cs n c u [] h q = empty cs q
    where
      empty : (ds : Cells) → given_from home p (suc n) ds [] c ≡ Some u → None ≡ Some u
      empty [] q = q
      empty (b ∷ ds) q = q
  skipped y cs n c u (o ∷ zs) h q = ap (λ b. if b then or_else (given_from home p (suc n) cs zs c) (if nat_eq n c then Some o else None) else given_from home p (suc n) cs (o ∷ zs) c) h ∙ q

  abbrev Fitting : Bool → Cell → Cells → List ℕ → Type 0
  Fitting b y cs xs = AllFit d (if b then at y ∷ inputs_in home p resolved cs else inputs_in home p resolved cs) xs

  passed : (b : Bool) (y : Cell) (cs : Cells) (xs : List ℕ) → b ≡ false → Fitting b y cs xs → AllFit d (inputs_in home p resolved cs) xs
  passed true y cs xs h fit = true-false h
  passed false y cs xs h fit = fit

  -- what is left of the list, from the next cell and some variable on
  abbrev More : Cells → ℕ → ℕ → ℕ → SvVar → Type 0
  More cs n c v w = (k : ℕ) (us : List SvVar) (zs : List ℕ) (j : ℕ) → Aligned cs us → Inner cs us → AllFit d (inputs_in home p resolved cs) zs → v ≡ k + j → slice_get us j ≡ Some w → Given (suc n) cs k us zs c v

  abbrev ports_by : Bool → Bool → Cell → Cells → List TopPort
  ports_by a b y cs = cons_option (put a b y) (ports_in cs)

  abbrev AlignedBy : Bool → Bool → Cell → Cells → List SvVar → Type 0
  AlignedBy a b y cs us = map var_view (take (length (ports_by a b y cs)) us) ≡ map (port_view text d) (ports_by a b y cs)

  abbrev InnerBy : Bool → Bool → Cell → Cells → List SvVar → Type 0
  InnerBy a b y cs us = (j : ℕ) (w : SvVar) → slice_get us j ≡ Some w → sv.is_input w.dir ≡ true → slice_get (take (length (ports_by a b y cs)) us) j ≡ Some w

  view-first : (u v : PortView) (us vs : List PortView) → u ∷ us ≡ v ∷ vs → (u ≡ v) × (us ≡ vs)
  view-first u v us vs q = (cc, cc)

  next-place : (v i j : ℕ) → v ≡ i + suc j → v ≡ (i + 1) + j
  next-place v i j e = omega (arith, e)

  module _ (y : Cell) (cs : Cells) (n : ℕ) (here : slice_get p.cells n ≡ Some y) (c v : ℕ) (x : Cell) (w : SvVar) (f : slice_get p.cells c ≡ Some x) (t : takes_word home p x ≡ true) (a : sv.is_input w.dir ≡ true) (name : w.name ≡ text (at x))
      (more : More cs n c v w) where
    -- the variable's name is the cell's
    same-cell : is_root y.sort ≡ true → w.name ≡ text (at y) → n ≡ c
    same-cell b q = wired.apart n c y x here f b (input-root x.sort (and-first (is_input x.sort) _ t)) (sym q ∙ name)

    at-output : (i j : ℕ) (ws : List SvVar) (xs : List ℕ) → is_input y.sort ≡ false → AlignedBy false true y cs ws → InnerBy false true y cs ws → AllFit d (inputs_in home p resolved cs) xs → v ≡ i + j → slice_get ws j ≡ Some w → Given n (y ∷ cs) i ws xs c v
    at-output i j [] xs h al inn fit e g = absurd (cc)
    at-output i zero (u ∷ us) xs h al inn fit e g =
        let q = view-first (var_view u) (port_view text d (record { location = at y; direction = running.Output })) (map var_view (take (length (ports_in cs)) us)) (map (port_view text d) (ports_in cs)) al in
        let one : u ≡ w = some-same u w g in
        true-false (sym a ∙ (ap (λ z. sv.is_input z.dir) (sym one) ∙ way-out u (ap (λ z. z.input) q.0)))
    at-output i (suc j) (u ∷ us) xs h al inn fit e g =
        let q = view-first (var_view u) (port_view text d (record { location = at y; direction = running.Output })) (map var_view (take (length (ports_in cs)) us)) (map (port_view text d) (ports_in cs)) al in
        let em : emitted.given_from byName i (u ∷ us) xs v ≡ emitted.given_from byName (i + 1) us xs v =
        ap (λ b. if b && not (byName u.name) then (if nat_eq i v then or_zero xs else emitted.given_from byName (i + 1) us (behind xs) v) else emitted.given_from byName (i + 1) us xs v) (way-out u (ap (λ z. z.input) q.0)) in
        skipped y cs n c (emitted.given_from byName (i + 1) us xs v) xs (ap (λ b. b && not (is_clock d (at y))) h) (more (i + 1) us xs j q.1 (λ j w q a. inn (suc j) w q a) fit (next-place v i j e) g) ∙ ap Some (sym em)

    clocked : is_clock d (at y) ≡ true → takes_word home p y ≡ false
    clocked k = ap (λ b. is_input y.sort && not b) k ∙ none (is_input y.sort)
      where
        none : (b : Bool) → (b && false) ≡ false
        none true = refl
        none false = refl

    by-name : (u : SvVar) → is_input y.sort ≡ true → u.name ≡ text (at y) → byName u.name ≡ is_clock d (at y)
    by-name u h q = ap byName q ∙ clock-same n y here (input-root y.sort h)

    -- a clock
    at-clock : (i j : ℕ) (ws : List SvVar) (xs : List ℕ) (b : Bool) → is_input y.sort ≡ true → is_clock d (at y) ≡ true → AlignedBy true b y cs ws → InnerBy true b y cs ws → AllFit d (inputs_in home p resolved cs) xs → v ≡ i + j → slice_get ws j ≡ Some w
        → Given n (y ∷ cs) i ws xs c v
    at-clock i j [] xs b h k al inn fit e g = absurd (cc)
    at-clock i zero (u ∷ us) xs b h k al inn fit e g =
        let q = view-first (var_view u) (port_view text d (record { location = at y; direction = running.Input })) (map var_view (take (length (ports_in cs)) us)) (map (port_view text d) (ports_in cs)) al in
        let one : u ≡ w = some-same u w g in
        let same = same-cell (input-root y.sort h) (ap (λ z. z.name) (sym one) ∙ ap (λ z. z.name) q.0) in
        let cell : y ≡ x = some-same y x (sym here ∙ (ap (slice_get p.cells) same ∙ f)) in
        true-false (sym t ∙ (ap (takes_word home p) (sym cell) ∙ clocked k))
    at-clock i (suc j) (u ∷ us) xs b h k al inn fit e g =
        let q = view-first (var_view u) (port_view text d (record { location = at y; direction = running.Input })) (map var_view (take (length (ports_in cs)) us)) (map (port_view text d) (ports_in cs)) al in
        let em : emitted.given_from byName i (u ∷ us) xs v ≡ emitted.given_from byName (i + 1) us xs v =
        (λ z. if way-in u (ap (λ z. z.input) q.0) z && not ((by-name u h (ap (λ z. z.name) q.0) ∙ k) z) then (if nat_eq i v then or_zero xs else emitted.given_from byName (i + 1) us (behind xs) v) else emitted.given_from byName (i + 1) us xs v) in
        skipped y cs n c (emitted.given_from byName (i + 1) us xs v) xs (clocked k) (more (i + 1) us xs j q.1 (λ j w q a. inn (suc j) w q a) fit (next-place v i j e) g) ∙ ap Some (sym em)

    -- an input that is no clock
    at-input : (i j : ℕ) (ws : List SvVar) (xs : List ℕ) (b : Bool) → is_input y.sort ≡ true → is_clock d (at y) ≡ false → AlignedBy true b y cs ws → InnerBy true b y cs ws → AllFit d (at y ∷ inputs_in home p resolved cs) xs → v ≡ i + j → slice_get ws j ≡ Some w
        → Given n (y ∷ cs) i ws xs c v
    at-input i j [] xs b h k al inn fit e g = absurd (cc)
    at-input i j (u ∷ us) [] b h k al inn fit e g = absurd fit
    at-input i zero (u ∷ us) (o ∷ zs) b h k al inn fit e g =
        let q = view-first (var_view u) (port_view text d (record { location = at y; direction = running.Input })) (map var_view (take (length (ports_in cs)) us)) (map (port_view text d) (ports_in cs)) al in
        let one : u ≡ w = some-same u w g in
        let same = same-cell (input-root y.sort h) (ap (λ z. z.name) (sym one) ∙ ap (λ z. z.name) q.0) in
        let takes : takes_word home p y ≡ true = (λ z. h z && not (k z)) in
        let at-v : nat_eq i v ≡ true = grind (arith, e) in
        let at-c : nat_eq n c ≡ true = grind (arith, same) in
        let em : emitted.given_from byName i (u ∷ us) (o ∷ zs) v ≡ o =
        (λ z. if way-in u (ap (λ z. z.input) q.0) z && not ((by-name u h (ap (λ z. z.name) q.0) ∙ k) z) then (if at-v z then o else emitted.given_from byName (i + 1) us zs v) else emitted.given_from byName (i + 1) us (o ∷ zs) v) in
        let below : c < suc n = omega (arith, same) in
        ap (λ b. if b then or_else (given_from home p (suc n) cs zs c) (if nat_eq n c then Some o else None) else given_from home p (suc n) cs (o ∷ zs) c) takes
        ∙ ((λ z. or_else (none-below home p cs (suc n) c zs below z) (if at-c z then Some o else None)) ∙ ap Some (sym em))
    at-input i (suc j) (u ∷ us) (o ∷ zs) b h k al inn fit e g =
        let q = view-first (var_view u) (port_view text d (record { location = at y; direction = running.Input })) (map var_view (take (length (ports_in cs)) us)) (map (port_view text d) (ports_in cs)) al in
        let takes : takes_word home p y ≡ true = (λ z. h z && not (k z)) in
        let not-v : nat_eq i v ≡ false = grind (arith, e) in
        let em : emitted.given_from byName i (u ∷ us) (o ∷ zs) v ≡ emitted.given_from byName (i + 1) us zs v =
        (λ z. if way-in u (ap (λ z. z.input) q.0) z && not ((by-name u h (ap (λ z. z.name) q.0) ∙ k) z) then (if not-v z then o else emitted.given_from byName (i + 1) us zs v) else emitted.given_from byName (i + 1) us (o ∷ zs) v) in
        let r = more (i + 1) us zs j q.1 (λ j w q a. inn (suc j) w q a) fit.1 (next-place v i j e) g in
        ap (λ b. if b then or_else (given_from home p (suc n) cs zs c) (if nat_eq n c then Some o else None) else given_from home p (suc n) cs (o ∷ zs) c) takes
        ∙ (ap (λ r. or_else r (if nat_eq n c then Some o else None)) r ∙ ap Some (sym em))

    -- whatever the cell is
    at-cell : (i j : ℕ) (ws : List SvVar) (xs : List ℕ) (b k : Bool) → is_input y.sort ≡ b → is_output y.sort ≡ k → AlignedBy b k y cs ws → InnerBy b k y cs ws → Fitting (takes_word home p y) y cs xs → v ≡ i + j → slice_get ws j ≡ Some w → Given n (y ∷ cs) i ws xs c v
    at-cell i j ws xs false false h o al inn fit e g =
        let none : takes_word home p y ≡ false = ap (λ b. b && not (is_clock d (at y))) h in
        skipped y cs n c (emitted.given_from byName i ws xs v) xs none (more i ws xs j al inn (passed (takes_word home p y) y cs xs none fit) e g)
    at-cell i j ws xs false true h o al inn fit e g = at-output i j ws xs h al inn (passed (takes_word home p y) y cs xs (ap (λ b. b && not (is_clock d (at y))) h) fit) e g
    at-cell i j ws xs true k h o al inn fit e g = by (is_clock d (at y)) refl
      where
        by : (z : Bool) → is_clock d (at y) ≡ z → Given n (y ∷ cs) i ws xs c v
        by true z = at-clock i j ws xs k h z al inn (passed (takes_word home p y) y cs xs (clocked z) fit) e g
        by false z =
            let takes : takes_word home p y ≡ true = (λ s. h s && not (z s)) in
            at-input i j ws xs k h z al inn (subst (λ b. Fitting b y cs xs) takes fit) e g

  given-same : (cs : Cells) (n i : ℕ) (ws : List SvVar) (xs : List ℕ) → Suffix home p resolved n cs → Aligned cs ws → Inner cs ws → AllFit d (inputs_in home p resolved cs) xs
      → (c v j : ℕ) (x : Cell) (w : SvVar) → slice_get p.cells c ≡ Some x → takes_word home p x ≡ true → v ≡ i + j → slice_get ws j ≡ Some w → sv.is_input w.dir ≡ true → w.name ≡ text (at x) → Given n cs i ws xs c v
  given-same [] n i ws xs suffix aligned inner fit c v j x w f t e g a name = let z : None ≡ Some w = inner j w g a in absurd (cc)
  given-same (y ∷ cs) n i ws xs suffix aligned inner fit c v j x w f t e g a name =
      at-cell y cs n (head home p resolved n y cs suffix) c v x w f t a name
      (λ k us zs j al inn ft e g. given-same cs (suc n) k us zs (tail home p resolved n y cs suffix) al inn ft c v j x w f t e g a name)
      i j ws xs (is_input y.sort) (is_output y.sort) refl refl aligned inner (subst (λ ls. AllFit d ls xs) (inputs-step home p resolved y cs) fit) e g

  -- ---- steps

  variable-at : (v : ℕ) → input_at m.vars v ≡ true → (w : SvVar) × (slice_get m.vars v ≡ Some w) × (sv.is_input w.dir ≡ true)
  variable-at v h = by (slice_get m.vars v) refl h
    where
      by : (o : Option SvVar) → slice_get m.vars v ≡ o → input_at m.vars v ≡ true → (w : SvVar) × (slice_get m.vars v ≡ Some w) × (sv.is_input w.dir ≡ true)
      by None e h = let z : input_at m.vars v ≡ false = rw e refl in true-false (sym h ∙ z)
      by (Some w) e h = let z : input_at m.vars v ≡ sv.is_input w.dir = rw e refl in (w, e, sym z ∙ h)

  port-dir : (w : SvVar) → sv.is_input w.dir ≡ true → is_port w.dir ≡ true
  port-dir w e = by w.dir e
    where
      by : (k : _) → sv.is_input k ≡ true → is_port k ≡ true
      by dir.Input e = refl
      by dir.Output e = refl
      by dir.Inner e = absurd (cc)

  abbrev turn : Step → turns.Turn
  turn x = turn_of (regs_step_of home p x)

  given-there : (x : Step) → FitsStep d x → (c v : ℕ) → r.variable c ≡ Some v → input_at m.vars v ≡ true → (turn x).inputs c ≡ Some ((step_of text d m x).inputs v)
  given-there x fit c v e h =
      let z = held c v e in
      let i = wired.inputs c v z.0 e z.1 h in
      let w = variable-at v h in
      let at-v : v ≡ 0 + v = omega arith in
      let named : w.0.name ≡ text (at z.0) = ap (λ o. unwrap_or (option_map (λ x. x.name) o) []) (sym w.1) ∙ i.1 in
      given-same p.cells 0 0 m.vars x.inputs (λ k. ap (slice_get p.cells) (whole k)) wired.ports (λ j u g a. wired.inner j u g (port-dir u a)) fit.0 c v v z.0 w.0 z.1 i.0 at-v w.1 w.2 named
    where
      whole : (k : ℕ) → 0 + k ≡ k
      whole k = omega arith

  given-none : (x : Step) → FitsStep d x → (c : ℕ) (z : Cell) → slice_get p.cells c ≡ Some z → is_input z.sort ≡ false → (turn x).inputs c ≡ None
  given-none x fit c z e h = by ((turn x).inputs c) refl
    where
      by : (o : Option ℕ) → (turn x).inputs c ≡ o → (turn x).inputs c ≡ None
      by None k = k
      by (Some v) k = true-false (sym ((step-of home p resolved x fit).fit c v z e k).0 ∙ h)

  constant-none : (x : Step) → FitsStep d x → (c w : ℕ) → constant_at p c ≡ Some w → (turn x).inputs c ≡ None
  constant-none x fit c w e = by (slice_get p.cells c) refl
    where
      no-input : (z : Cell) (s : program.Sort) (b : Bool) → z.sort ≡ s → constant_if b s ≡ Some w → is_input z.sort ≡ false
      no-input z s true k h = none-some w h
      no-input z program.Input false k h = none-some w h
      no-input z program.Output false k h = ap is_input k
      no-input z program.Signal false k h = ap is_input k
      no-input z (program.Variable v f) false k h = ap is_input k
      no-input z (program.Local i) false k h = none-some w h
      no-input z (program.Pointer o) false k h = none-some w h
      no-input z (program.Port o) false k h = none-some w h

      by : (o : Option Cell) → slice_get p.cells c ≡ o → (turn x).inputs c ≡ None
      by None k = none-some w (sym (ap (option_and_then (λ x. constant_if (among c (written p)) x.sort)) k) ∙ e)
      by (Some z) k = given-none x fit c z k (no-input z z.sort (among c (written p)) refl (sym (ap (option_and_then (λ x. constant_if (among c (written p)) x.sort)) k) ∙ e))

  -- ---- edges

  -- a clock is a root's location
  record Rooted (l : Location) : Type 0 where
    number : ℕ
    cell : Cell
    stands : slice_get p.cells number ≡ Some cell
    root : is_root cell.sort ≡ true
    place : at cell ≡ l

  edge-any : (ls : List Location) (q : (l : Location) → list_any (same l) ls ≡ true → Rooted l) (n : ℕ) (y : Cell) → slice_get p.cells n ≡ Some y → is_root y.sort ≡ true → (name : List ℕ) → name ≡ text (at y)
      → list_any (λ l. bytes_eq (text l) name) ls ≡ list_any (same (at y)) ls
  edge-any [] q n y e b name k = refl
  edge-any (l ∷ ls) q n y e b name k =
      let u = q l (or-left (same l l) (list_any (same l) ls) (same-self l)) in
      let one : bytes_eq (text l) name ≡ same (at y) l = ap (bytes_eq (text l)) k ∙ subst (λ l. bytes_eq (text l) (text (at y)) ≡ same (at y) l) u.place (same-name u.number n u.cell y u.stands e u.root b) in
      let more = edge-any ls (λ o h. q o (or-right (same o l) (list_any (same o) ls) h)) n y e b name k in
      λ i. one i || more i

  port-is : (c : Cell) (t : TopPort) (a b : Bool) → is_input c.sort ≡ a → is_output c.sort ≡ b → put a b c ≡ Some t → (is_root c.sort ≡ true) × (at c ≡ t.location)
  port-is c t true b h k e = (input-root c.sort h, ap (λ z. z.location) (some-same (record { location = at c; direction = running.Input }) t e))
  port-is c t false true h k e = (output-root c.sort k, ap (λ z. z.location) (some-same (record { location = at c; direction = running.Output }) t e))
    where
      output-root : (s : program.Sort) → is_output s ≡ true → is_root s ≡ true
      output-root program.Output e = refl
      output-root program.Input e = true-false (sym e)
      output-root program.Signal e = true-false (sym e)
      output-root (program.Variable w f) e = true-false (sym e)
      output-root (program.Local i) e = true-false (sym e)
      output-root (program.Pointer t) e = true-false (sym e)
      output-root (program.Port t) e = true-false (sym e)
  port-is c t false false h k e = none-some t e

  port-root : (l : Location) → list_any (same l) (clocks d) ≡ true → Rooted l
  port-root l h =
      let a = any-at (same l) (clocks d) h in
      let b = filter-at (is_clock d) (locations d.ports) a.0 a.1 a.2 in
      let c = mapped-at (λ p. p.location) d.ports b.0 a.1 b.1 in
      let f = chosen-at (port_of home p) p.cells b.0 c.0 c.1 in
      let i = port-is f.1 c.0 (is_input f.1.sort) (is_output f.1.sort) refl refl f.3 in
      record { number = f.0; cell = f.1; stands = f.2; root = i.0; place = i.1 ∙ (c.2 ∙ sym (same-is l a.1 a.3)) }

  all-among : (all ls : List Location) → AllAmong all ls → (l : Location) → list_any (same l) ls ≡ true → list_any (same l) all ≡ true
  all-among all [] f l h = true-false (sym h)
  all-among all (o ∷ ls) f l h = by (same l o) refl h (all-among all ls f.1 l)
    where
      by : (b : Bool) → same l o ≡ b → (b || list_any (same l) ls) ≡ true → (list_any (same l) ls ≡ true → list_any (same l) all ≡ true) → list_any (same l) all ≡ true
      by true e h more = subst (λ z. list_any (same z) all ≡ true) (sym (same-is l o e)) f.0
      by false e h more = more h

  edge-among : (all ls : List Location) → EdgeOf all ls → (l : Location) → list_any (same l) ls ≡ true → list_any (same l) all ≡ true
  edge-among [] ls f l h = true-false (sym (sym (ap (list_any (same l)) f) ∙ h))
  edge-among (c ∷ cs) ls f l h = all-among (c ∷ cs) ls f.1 l h

  width-is : (c : ℕ) (x : Cell) → slice_get p.cells c ≡ Some x → width_at p.cells c ≡ width_of x.kind
  width-is c x e = ap (λ o. unwrap_or (option_map (λ x. width_of x.kind) o) 0) e

  pub steps-alike : (x : Step) → FitsStep d x → SameTurn p r m clock_variable (turn x) (step_of text d m x)
  steps-alike x fit = record {
    given = λ c v e h.
        let z = held c v e in
        let g = given-there x fit c v e h in
        (g, subst (λ n. (step_of text d m x).inputs v < 2 ^ n) (sym (width-is c z.0 z.1)) ((step-of home p resolved x fit).fit c ((step_of text d m x).inputs v) z.0 z.1 g).1);
    others = λ c v e h. let z = held c v e in given-none x fit c z.0 z.1 (wired.others c v z.0 e z.1 h);
    constants = λ c w e. constant-none x fit c w e;
    fits = λ c w h k. let z = sort-of is_held p.cells c h in subst (λ n. w < 2 ^ n) (sym (width-is c z.0 z.1)) ((step-of home p resolved x fit).fit c w z.0 z.1 k).1;
    edge = by x.edge fit.1 (step-of home p resolved x fit).edge;
  }
    where
      by : (o : Option (List Location)) → EdgesFit d o → SameEdge home p o (option_map (λ l. cells_at home p l 0 p.cells) o)
          → turns.SameEdge p clock_variable (option_map (λ l. cells_at home p l 0 p.cells) o) (emitted.edge_at text m o) (emitted.has_edge o)
      by None f k = refl
      by (Some ls) f k = (
        refl,
        λ i q e s g.
            let y = sort-of is_root p.cells e.cell (resolved.edge_roots i q e s g) in
            edge-any ls (λ l h. port-root l (edge-among (clocks d) ls f l h)) e.cell y.0 y.1 y.2 (name_at m (clock_variable e.cell)) (wired.clocks i q e y.0 s g y.1) ∙ k e.cell y.0 y.1 y.2,
      )
