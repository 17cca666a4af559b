-- Of a module that matches, names tell what stands for what.
use Rattle.std.proofs.Common.{◌≡◌, ◌<◌, ◌+◌, ℕ, zero, suc, Bool, true, false, not, ◌&&◌, ◌||◌, nat_eq, List, [], ◌∷◌, length, filter, cond, Option, Some, None, refl, sym, ap, ◌∙◌, subst, slice_get, arith, if◌then◌else◌, ◌⊎◌, inl, inr}
use Rattle.std.specs.Prelude.{option_map, unwrap_or, bytes_eq}
use Rattle.std.specs.List.{list_any}
use Rattle.std.proofs.lemmas.Slice.Eq.{bytes_eq-Decides}
use Rattle.scc_semantics.specs.Location.{Location, same}
use Rattle.scc_semantics_laws.proofs.Places.{same-is}
use Rattle.scc_svtree.specs.declared.module.SvModule.{SvModule}
use Rattle.scc_svtree.specs.declared.module.SvVar.{SvVar}
use Rattle.scc_svtree.specs.declared.module.Dir.{Dir}
use Rattle.scc_svtree.specs.declared.module.Dir.TheVariants as dir
use Rattle.scc_svtree.specs.Steps as sv
use Rattle.scc_svtree.specs.Steps.{input_at}
use Rattle.scc_svtree.specs.Sound.{AreNamed, IsNotNamed, is_simple}
use Rattle.scc_core_spec.specs.Program.{Program, Cell, Sort, is_root, is_number, is_held, is_input, is_pointer}
use Rattle.scc_core_spec.specs.Source.{Home, cell_location}
use Rattle.scc_core_spec.specs.Static.{Cells}
use Rattle.scc_core_spec.specs.Uses.{has_sort}
use Rattle.scc_blocks_spec.specs.Matches.{Matches, registers, register_of, first, is_port, name_at, thing_width, way_of, width_of_var}
use Rattle.scc_blocks_spec.specs.Names.{cell_at, cell_numbered, holds_word, is_kept_at, is_register}
use Rattle.scc_blocks_spec.specs.Tied.{Registers}
use Rattle.scc_blocks_laws.specs.Shots.{AreOutputs}
use Rattle.scc_core_effect_laws.specs.Follows.{design_of}
use Rattle.scc_core_laws.specs.Given.{takes_word}
use Rattle.scc_core_laws.specs.Stepped.{outputs_from}
use Rattle.scc_core_effect_laws.proofs.Names.{true-false, none-some, some-same, and-first, or-left, or-right}
use Rattle.scc_drive_stages_laws.proofs.Ports.{are-outputs, port-cell, input-port}
use Rattle.scc_drive_stages_laws.specs.Joined.{IsJoined, IsPlaced, IsWired}
use Rattle.scc_drive_stages_laws.specs.Written.{IsWritten, number_at}

abbrev name_in : List SvVar → ℕ → List ℕ
name_in ws v = unwrap_or (option_map (λ x. x.name) (slice_get ws v)) []

slice_get_there : {A : Type 0} (xs : List A) (n : ℕ) → n < length xs → (x : A) × (slice_get xs n ≡ Some x)
slice_get_there [] n l = absurd (omega (arith, l))
slice_get_there (x ∷ xs) zero l = (x, refl)
slice_get_there (x ∷ xs) (suc n) l = slice_get_there xs n (omega (arith, l))

-- no other variable has the name
elsewhere : (name : List ℕ) → is_simple name ≡ true → (ws : List SvVar) → IsNotNamed name ws → (v : ℕ) → name ≡ name_in ws v → ⊥
elsewhere name s [] h v e = let z : is_simple [] ≡ true = sym (ap is_simple e) ∙ s in absurd (cc)
elsewhere name s (w ∷ ws) h zero e = h.0 e
elsewhere name s (w ∷ ws) h (suc v) e = elsewhere name s ws h.1 v e

one-name : (ws : List SvVar) → AreNamed ws → (v w : ℕ) → w < length ws → name_in ws v ≡ name_in ws w → v ≡ w
one-name [] h v w l e = absurd (omega (arith, l))
one-name (y ∷ ys) h zero zero l e = refl
one-name (y ∷ ys) h zero (suc w) l e = absurd (elsewhere y.name h.0 ys h.1 w e)
one-name (y ∷ ys) h (suc v) zero l e = absurd (elsewhere y.name h.0 ys h.1 v (sym e))
one-name (y ∷ ys) h (suc v) (suc w) l e = ap (λ n. suc n) (one-name ys h.2 v w (omega (arith, l)) e)

first-in : (t : ℕ → Bool) (vs : List ℕ) (v : ℕ) → first (filter t vs) ≡ Some v → (list_any (nat_eq v) vs ≡ true) × (t v ≡ true)
first-in t [] v e = none-some v e
first-in t (x ∷ vs) v e = by (t x) refl e (first-in t vs v)
  where
    itself : nat_eq v v ≡ true
    itself = grind arith

    by : (b : Bool) → t x ≡ b → first (cond b (x ∷ filter t vs) (filter t vs)) ≡ Some v → (first (filter t vs) ≡ Some v → (list_any (nat_eq v) vs ≡ true) × (t v ≡ true)) → ((nat_eq v x || list_any (nat_eq v) vs) ≡ true) × (t v ≡ true)
    by true h e rest = let n = some-same x v e in (or-left (nat_eq v x) (list_any (nat_eq v) vs) (ap (nat_eq v) n ∙ itself), ap t (sym n) ∙ h)
    by false h e rest = let u = rest e in (or-right (nat_eq v x) (list_any (nat_eq v) vs) u.0, u.1)

has-first : (t : ℕ → Bool) (vs : List ℕ) (v : ℕ) → list_any (nat_eq v) vs ≡ true → t v ≡ true → (w : ℕ) × (first (filter t vs) ≡ Some w)
has-first t [] v h e = true-false (sym h)
has-first t (x ∷ vs) v h e = by (t x) refl (nat_eq v x) refl h (λ h. has-first t vs v h e)
  where
    equal : nat_eq v x ≡ true → v ≡ x
    equal q = grind arith

    by : (b : Bool) → t x ≡ b → (n : Bool) → nat_eq v x ≡ n → (n || list_any (nat_eq v) vs) ≡ true → (list_any (nat_eq v) vs ≡ true → (w : ℕ) × (first (filter t vs) ≡ Some w)) → (w : ℕ) × (first (cond b (x ∷ filter t vs) (filter t vs)) ≡ Some w)
    by true g n q h rest = (x, refl)
    by false g true q h rest = true-false (sym e ∙ (ap t (equal q) ∙ g))
    by false g false q h rest = rest h

root-held : (s : Sort) → is_root s ≡ true → is_held s ≡ true
root-held s h = or-left (is_root s) (is_number s) h

module _ (home : Home) (p : Program) where
  numbered : (l : Location) (n : ℕ) (cs : Cells) (c : ℕ) → cell_numbered home p l n cs ≡ Some c → (k : ℕ) × (x : Cell) × (c ≡ n + k) × (slice_get cs k ≡ Some x) × (cell_location home p x ≡ l)
  numbered l n [] c e = none-some c e
  numbered l n (y ∷ cs) c e = by (same (cell_location home p y) l && not (is_pointer y.sort)) refl e (numbered l (suc n) cs c)
    where
      at-first : n ≡ c → c ≡ n + 0
      at-first e = grind (arith, e)

      later : (k : ℕ) → c ≡ suc n + k → c ≡ n + suc k
      later k e = grind (arith, e)

      by : (b : Bool) → (same (cell_location home p y) l && not (is_pointer y.sort)) ≡ b → (if b then Some n else cell_numbered home p l (suc n) cs) ≡ Some c
          → (cell_numbered home p l (suc n) cs ≡ Some c → (k : ℕ) × (x : Cell) × (c ≡ suc n + k) × (slice_get cs k ≡ Some x) × (cell_location home p x ≡ l))
          → (k : ℕ) × (x : Cell) × (c ≡ n + k) × (slice_get (y ∷ cs) k ≡ Some x) × (cell_location home p x ≡ l)
      by true h e rest = (0, y, at-first (some-same n c e), refl, same-is (cell_location home p y) l (and-first (same (cell_location home p y) l) (not (is_pointer y.sort)) h))
      by false h e rest = let u = rest e in (suc u.0, u.1, later u.0 u.2, u.3, u.4)

  kept-cell : (l : Location) → is_kept_at home p l ≡ true → (c : ℕ) × (x : Cell) × (cell_at home p l ≡ Some c) × (slice_get p.cells c ≡ Some x) × (cell_location home p x ≡ l) × (is_register p c ≡ true)
  kept-cell l h = by (cell_at home p l) refl
    where
      from : (c k : ℕ) → c ≡ 0 + k → k ≡ c
      from c k e = grind (arith, e)

      by : (o : Option ℕ) → cell_at home p l ≡ o → (c : ℕ) × (x : Cell) × (cell_at home p l ≡ Some c) × (slice_get p.cells c ≡ Some x) × (cell_location home p x ≡ l) × (is_register p c ≡ true)
      by None e = true-false (sym h ∙ ap (λ o. unwrap_or (option_map (is_register p) o) false) e)
      by (Some c) e =
          let u = numbered l 0 p.cells c e in
          (c, u.1, e, subst (λ n. slice_get p.cells n ≡ Some u.1) (from c u.0 u.2) u.3, u.4, sym (ap (λ o. unwrap_or (option_map (is_register p) o) false) e) ∙ h)

module _ (home : Home) (p : Program) (text : Location → List ℕ) (own : List ℕ → Bool) (r : Registers) (m : SvModule) (clock_variable : ℕ → ℕ) (top : List ℕ) (names : AreNamed m.vars)
    (matches : Matches text own (is_kept_at home p) (design_of home p) m top) (written : IsWritten home p text own r m clock_variable) where
  named : (c v : ℕ) (x : Cell) → r.variable c ≡ Some v → slice_get p.cells c ≡ Some x → name_at m v ≡ text (cell_location home p x)
  named c v x e g = let y = written.carries c v e in y.3 ∙ ap (λ z. text (cell_location home p z)) (some-same y.0 x (sym y.1 ∙ g))

  -- the register with a location's name is that of its cell
  stands-for : (l : Location) (v : ℕ) → first (register_of text m l) ≡ Some v
      → (c : ℕ) × (x : Cell) × (number_at home p l ≡ c) × (r.variable c ≡ Some v) × (slice_get p.cells c ≡ Some x) × (cell_location home p x ≡ l) × (is_register p c ≡ true)
  stands-for l v e = by (matches.registers v has.0)
    where
      has : (list_any (nat_eq v) (registers m) ≡ true) × (bytes_eq (name_at m v) (text l) ≡ true)
      has = first-in (λ v. bytes_eq (name_at m v) (text l)) (registers m) v e

      name : name_at m v ≡ text l
      name = (bytes_eq-Decides (name_at m v) (text l)).0 has.1

      by : (own (name_at m v) ≡ true) ⊎ ((k : Location) × (is_kept_at home p k ≡ true) × (name_at m v ≡ text k) × (width_of_var m v ≡ thing_width ((design_of home p).places.things k)))
          → (c : ℕ) × (x : Cell) × (number_at home p l ≡ c) × (r.variable c ≡ Some v) × (slice_get p.cells c ≡ Some x) × (cell_location home p x ≡ l) × (is_register p c ≡ true)
      by (inl o) = true-false (sym o ∙ (ap own name ∙ written.owned l))
      by (inr k) =
          let one : l ≡ k.0 = written.tells l k.0 k.1 (sym name ∙ k.2) in
          let c = kept-cell home p k.0 k.1 in
          let w = written.kept c.0 c.5 in
          let y = written.carries c.0 w.0 w.1 in
          let n : name_at m w.0 ≡ text k.0 = named c.0 w.0 c.1 w.1 c.3 ∙ ap text c.4 in
          let v-is : v ≡ w.0 = one-name m.vars names v w.0 y.4 (k.2 ∙ sym n) in
          (c.0, c.1, ap (number_at home p) one ∙ ap (λ o. unwrap_or o 0) c.2, w.1 ∙ ap (λ n. Some n) (sym v-is), c.3, c.4 ∙ sym one, c.5)

  -- and a register's variable is the register with its location's name
  register-is : (c v : ℕ) (x : Cell) → r.variable c ≡ Some v → is_register p c ≡ true → slice_get p.cells c ≡ Some x → first (register_of text m (cell_location home p x)) ≡ Some v
  register-is c v x e k g =
      let t : ℕ → Bool = λ n. bytes_eq (name_at m n) (text (cell_location home p x)) in
      let w = written.kept c k in
      let v-is : w.0 ≡ v = some-same w.0 v (sym w.1 ∙ e) in
      let n = named c v x e g in
      let f = has-first t (registers m) v (subst (λ n. list_any (nat_eq n) (registers m) ≡ true) v-is w.2) ((bytes_eq-Decides (name_at m v) (text (cell_location home p x))).1 n) in
      let u = first-in t (registers m) f.0 f.1 in
      let y = written.carries c v e in
      f.1 ∙ ap (λ n. Some n) (one-name m.vars names f.0 v y.4 ((bytes_eq-Decides (name_at m f.0) (text (cell_location home p x))).0 u.1 ∙ sym n))

  -- a variable that is in the module has the place that its name has
  place-is : (c v : ℕ) (x : Cell) (j : ℕ) (w : SvVar) → r.variable c ≡ Some v → slice_get p.cells c ≡ Some x → slice_get m.vars j ≡ Some w → w.name ≡ text (cell_location home p x) → j ≡ v
  place-is c v x j w e g f n = let y = written.carries c v e in one-name m.vars names j v y.4 (ap (λ o. unwrap_or (option_map (λ x. x.name) o) []) f ∙ (n ∙ sym (named c v x e g)))

  outputs : AreOutputs r 0 m.vars (outputs_from 0 p.cells)
  outputs = are-outputs home p text r 0 p.cells 0 m.vars matches.ports matches.inner (λ k j y w g h o n. let v = written.shown k y g o in ap r.variable (none-more k) ∙ (v.1 ∙ ap (λ n. Some n) (sym (none-more j ∙ place-is k v.0 y j w v.1 g h n))))
    where
      none-more : (k : ℕ) → 0 + k ≡ k
      none-more k = omega arith

  variable-at : (v : ℕ) (b : Bool) → v < length m.vars → input_at m.vars v ≡ b → (w : SvVar) × (slice_get m.vars v ≡ Some w) × (sv.is_input w.dir ≡ b)
  variable-at v b l h = by (slice_get m.vars v) refl
    where
      by : (o : Option SvVar) → slice_get m.vars v ≡ o → (w : SvVar) × (slice_get m.vars v ≡ Some w) × (sv.is_input w.dir ≡ b)
      by None e = let u = slice_get_there m.vars v l in none-some u.0 (sym e ∙ u.1)
      by (Some w) e = let z : input_at m.vars v ≡ sv.is_input w.dir = rw e refl in (w, e, sym z ∙ h)

  way-in : (k : Dir) → sv.is_input k ≡ true → (is_port k ≡ true) × (way_of k ≡ Some true)
  way-in dir.Input e = (refl, refl)
  way-in dir.Output e = absurd (cc)
  way-in dir.Inner e = absurd (cc)

  in-way : (k : Dir) → way_of k ≡ Some true → sv.is_input k ≡ true
  in-way dir.Input e = refl
  in-way dir.Output e = absurd (cc)
  in-way dir.Inner e = absurd (cc)

  -- an input variable is that of an input that is no clock
  takes : (c v : ℕ) (x : Cell) → r.variable c ≡ Some v → slice_get p.cells c ≡ Some x → input_at m.vars v ≡ true → takes_word home p x ≡ true
  takes c v x e g i =
      let y = written.carries c v e in
      let w = variable-at v true y.4 i in
      let way = way-in w.0.dir w.2 in
      let z = port-cell home p text p.cells m.vars v w.0 matches.ports (matches.inner v w.0 w.1 way.0) in
      let held : is_held x.sort ≡ true = subst (λ z. is_held z.sort ≡ true) (some-same y.0 x (sym y.1 ∙ g)) y.2 in
      let name : text (cell_location home p z.1) ≡ text (cell_location home p x) = sym z.3.0 ∙ (ap (λ o. unwrap_or (option_map (λ x. x.name) o) []) (sym w.1) ∙ named c v x e g) in
      let same : z.0 ≡ c = written.apart z.0 c z.1 x z.2 g z.3.2 held name in
      let cell : z.1 ≡ x = some-same z.1 x (sym z.2 ∙ (ap (slice_get p.cells) same ∙ g)) in
      let input : is_input x.sort ≡ true = some-same (is_input x.sort) true (ap (λ z. Some (is_input z.sort)) (sym cell) ∙ (sym z.3.1 ∙ way.1)) in
      (λ i. input i && not (written.clockless c v x e g i))

  others : (c v : ℕ) (x : Cell) → r.variable c ≡ Some v → slice_get p.cells c ≡ Some x → input_at m.vars v ≡ false → is_input x.sort ≡ false
  others c v x e g i = by (is_input x.sort) refl
    where
      by : (b : Bool) → is_input x.sort ≡ b → b ≡ false
      by false h = refl
      by true h =
          let w = input-port home p text p.cells m.vars c x matches.ports g h in
          let y = written.carries c v e in
          let u = variable-at v false y.4 i in
          let same : w.0 ≡ v = place-is c v x w.0 w.1 e g w.2 w.3.0 in
          let var : w.1 ≡ u.0 = some-same w.1 u.0 (sym w.2 ∙ (ap (slice_get m.vars) same ∙ u.1)) in
          true-false (sym (in-way w.1.dir (w.3.1 ∙ ap (λ b. Some b) h)) ∙ (ap (λ w. sv.is_input w.dir) var ∙ u.2))

  placed : IsPlaced home p text (number_at home p) r m
  placed = record {
    named = record { outputs_stand = outputs; registers_stand = λ l v e. let u = stands-for l v e in ap r.variable u.2 ∙ u.3 };
    stands = λ l v e. let u = stands-for l v e in (u.1, ap (slice_get p.cells) u.2 ∙ u.4, u.5, ap (holds_word p) u.2 ∙ or-right (has_sort is_root p.cells u.0) (is_register p u.0) u.6);
    registers = register-is;
    held = λ c v e. let y = written.carries c v e in (y.0, y.1, y.2);
    apart = λ c d v e f. let x = written.carries c v e in let y = written.carries d v f in written.apart c d x.0 y.0 x.1 y.1 x.2 y.2 (sym x.3 ∙ y.3);
  }

  wired : IsWired home p text r m clock_variable
  wired = record {
    ports = matches.ports;
    inner = matches.inner;
    apart = λ c d x y g h a b e. written.apart c d x y g h (root-held x.sort a) (root-held y.sort b) e;
    inputs = λ c v x e g i. (takes c v x e g i, named c v x e g);
    others = others;
    clocks = written.clocks;
  }

  pub joined : IsJoined home p text (number_at home p) r m clock_variable
  joined = record { placed = placed; wired = wired }
