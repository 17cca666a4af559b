-- A declaration without initialiser in a constructor, as the machine does it.
use Rattle.std.proofs.Common.{◌≡◌, ℕ, zero, suc, ◌+◌, ◌*◌, ◌-◌, ◌^◌, ◌<◌, ◌≤◌, nat_eq, nat_le, nat_lt, List, [], ◌∷◌, ◌++◌, map, Bool, true, false, not, cond, Option, Some, None, option_map, option_and_then, unwrap_or, if◌then◌else◌, pos, negsuc, ap, refl, sym, ◌∙◌, subst, arith, append_assoc, append-nil, slice_get}
use Rattle.std.specs.Prelude.{flat_map}
use Rattle.std.specs.List.{range_with_len}
use Rattle.std.proofs.Math.Nat.{mod-eq_of_lt}
use Rattle.scc_bits_kinds.specs.declared.kind.Kind.{Kind}
use Rattle.scc_bits_kinds.specs.declared.kind.Kind.TheVariants as kind
use Rattle.scc_bits_kinds.specs.Numbers.{low}
use Rattle.scc_semantics.specs.Location.{Location, Element, within}
use Rattle.scc_semantics.specs.Expressions as body
use Rattle.scc_semantics.specs.Store.{Request, changed}
use Rattle.scc_semantics.specs.Scene.{Scene, index_of}
use Rattle.scc_semantics.specs.Body as machine
use Rattle.scc_semantics.specs.Body.{Body}
use Rattle.scc_semantics.specs.Machine.{Frames, Mark, Inner, Go, pointed_at, zeroed}
use Rattle.scc_semantics.specs.Machine as step
use Rattle.scc_semantics.specs.Value as value
use Rattle.scc_semantics.specs.Value.{Held}
use Rattle.scc_elab_spec.specs.Program.{Member, Function, Plain}
use Rattle.scc_elab_spec.specs.Design.{Object, Node, Module, Port, Signal, Variable, Pointer}
use Rattle.scc_elab_spec.specs.Types.{is_direct}
use Rattle.scc_elab_spec.specs.Bodies.{elements}
use Rattle.scc_elab_spec.specs.Grown.{Grown, local_of, with_word, with_target, node_of, thing_at}
use Rattle.scc_elab_spec.specs.Worth.{Site, is_inside, number_kind, local_there, direct_kind, kind_there}
use Rattle.scc_elab_spec.specs.Construct.{Now, declared_from, sizes_of}
use Rattle.scc_elab_spec.specs.Spoken.{element, cleared}
use Rattle.scc_elab_spec.specs.Common.{is_small, names_of, channel_of, thing_now, pointer_now}
use Rattle.scc_elab_spec.proofs.Chains.{and-first, and-second}
use Rattle.scc_elab_spec.proofs.Regular.{IsFine, of_objects, standing, places_by, scene_with, changed-at, changed-same}
use Rattle.scc_elab_spec.proofs.Steps.{Reaches, reaches-same, reaches-then, step-clear}
use Rattle.scc_elab_spec.proofs.Follows.{held}
use Rattle.scc_elab_spec.proofs.Assigned.{thing-none, thing-some}

-- indices of arrays that there may be
abbrev AllBelow : List ℕ → Type 0
AllBelow [] = Unit {0}
AllBelow (i ∷ is) = (i < 65536) × AllBelow is

abbrev pub AllSmall : List (List ℕ) → Type 0
AllSmall [] = Unit {0}
AllSmall (is ∷ iss) = AllBelow is × AllSmall iss

all-append : (a b : List (List ℕ)) → AllSmall a → AllSmall b → AllSmall (a ++ b)
all-append [] b h g = g
all-append (i ∷ a) b h g = (h.0, all-append a b h.1 g)

all-fronts : (i : ℕ) → i < 65536 → (a : List (List ℕ)) → AllSmall a → AllSmall (map (λ is. i ∷ is) a)
all-fronts i l [] h = tt
all-fronts i l (is ∷ a) h = ((l, h.0), all-fronts i l a h.1)

all-over : (a : List (List ℕ)) → AllSmall a → (i n : ℕ) → i + n ≤ 65536 → AllSmall (flat_map (λ i. map (λ is. i ∷ is) a) (range_with_len i n))
all-over a h i zero l = tt
all-over a h i (suc n) l = all-append (map (λ is. i ∷ is) a) (flat_map (λ i. map (λ is. i ∷ is) a) (range_with_len (i + 1) n)) (all-fronts i (omega arith) a h) (all-over a h (i + 1) n (omega arith))

nat_le-is : (m n : ℕ) → nat_le m n ≡ true → m ≤ n
nat_le-is m n e = grind arith

pub all-elements : (ns : List ℕ) → is_small ns ≡ true → AllSmall (elements ns)
all-elements [] e = (tt, tt)
all-elements (n ∷ ns) e = let l : n ≤ 65536 = nat_le-is n 65536 (and-first (nat_le n 65536) (is_small ns) e) in
    all-over (elements ns) (all-elements ns (and-second (nat_le n 65536) (is_small ns) e)) 0 n (omega arith)

index-is : (i : ℕ) → i < 65536 → index_of (kind.Native 32 true) i ≡ i
index-is i l = let t : nat_lt (2 * i) (2 ^ 32) ≡ true = grind arith in
    ap (λ b. low 128 (cond b (pos i) (negsuc (2 ^ 32 - 1 - i)))) t ∙ mod-eq_of_lt (omega arith)

element-is : (p : Plain) (f : Function) (sc : Scene) (b : body.Left) (l : Location) (is : List ℕ) → AllBelow is → value.locate sc b ≡ Some (Some l)
    → value.locate sc (element p f b is) ≡ Some (Some (record { root = l.root; path = l.path ++ map Element is }))
element-is p f sc b l [] h e = e ∙ ap (λ p. Some (Some (record { root = l.root; path = p }))) (sym (append-nil l.path))
element-is p f sc b l (i ∷ is) h e = element-is p f sc (body.Indexed b (body.Literal (kind.Native 32 true) i)) (within l (Element i)) is h.1
    (ap (λ q. value.behind q (λ l. Some (Some (within l (Element (index_of (kind.Native 32 true) i)))))) e ∙ ap (λ k. Some (Some (within l (Element k)))) (index-is i h.0))
    ∙ ap (λ p. Some (Some (record { root = l.root; path = p }))) (append_assoc l.path (Element i ∷ []) (map Element is))

nat_eq-same : (n : ℕ) → nat_eq n n ≡ true
nat_eq-same n = grind arith

zeroed-channel : (o : Option Node) (h : Held) (l : Location) → zeroed (channel_of o) h l ≡ h
zeroed-channel None h l = refl
zeroed-channel (Some (Module c)) h l = refl
zeroed-channel (Some (Port k output root)) h l = refl
zeroed-channel (Some (Signal k)) h l = refl
zeroed-channel (Some (Variable k w)) h l = refl
zeroed-channel (Some (Pointer t)) h l = refl

module _ (s : Site) (os : List Object) (k : ℕ) where
  abbrev place : List ℕ → Location
  place is = local_of s.object k (map Element is)

  -- the declaration of the local, where the indices are inside
  abbrev inside : Option Member → List ℕ → Option Member
  inside m is = option_and_then (λ m. if is_inside m.shape.sizes (map Element is) then Some m else None) m

  there-is : (m : Option Member) (is : List ℕ) → slice_get s.function.locals k ≡ m → local_there (standing s os) (place is) (place is).root ≡ inside m is
  there-is m is e = rw (nat_eq-same s.object) (ap (λ m. inside m is) e)

  kind-is : (m : Option Member) (is : List ℕ) → slice_get s.function.locals k ≡ m → option_and_then direct_kind (inside m is) ≡ None → kind_there (standing s os) (place is) ≡ None
  kind-is m is e d = rw (there-is m is e) (rw d refl)

  pointer-is : (m : Option Member) (is : List ℕ) → slice_get s.function.locals k ≡ m
      → pointer_now (standing s os) (place is) ≡ unwrap_or (option_map (λ m. not (is_direct m.shape.reach)) (inside m is)) false
  pointer-is m is e = rw (there-is m is e) refl

  module _ (n : Now) (fine : IsFine s os n) where
    abbrev with_grown : Grown → Now
    with_grown g = record { grown = g; last = n.last }

    -- what the machine makes of an element
    abbrev Clears : List ℕ → List Request → Grown → Type 0
    Clears is rs g = (step.cleared (places_by s os) (held n rs) (place is) ≡ held (with_grown g) rs) × IsFine s os (with_grown g)

    none-is : (is : List ℕ) (rs : List Request) → slice_get s.function.locals k ≡ None → Clears is rs n.grown
    none-is is rs e = (
      ap (λ b. pointed_at b (zeroed (thing_now (standing s os) (place is)) (held n rs) (place is)) (place is) None) (pointer-is None is e)
          ∙ (ap (λ t. zeroed t (held n rs) (place is)) (thing-none (standing s os) (place is) (kind-is None is e refl))
          ∙ zeroed-channel (option_and_then (node_of (of_objects os)) (thing_at (of_objects os) (place is))) (held n rs) (place is)),
      fine,
    )

    direct-is : (c : Member) (is : List ℕ) (rs : List Request) → slice_get s.function.locals k ≡ Some c → is_direct c.shape.reach ≡ true → Clears is rs (with_word n.grown (place is) 0)
    direct-is c is rs e d = (
      ap (λ b. pointed_at b (zeroed (thing_now (standing s os) (place is)) (held n rs) (place is)) (place is) None) (pointer-is (Some c) is e ∙ no_pointer (is_inside c.shape.sizes (map Element is)))
          ∙ zero_is (kind_there (standing s os) (place is)) refl,
      record { objects = fine.objects; words = λ m z. changed-at (place is) 0 n.grown.store.words m 0 (λ p. refl) (fine.words m z); targets = fine.targets },
    )
      where
        no_pointer : (b : Bool) → unwrap_or (option_map (λ m. not (is_direct m.shape.reach)) (if b then Some c else None)) false ≡ false
        no_pointer true = ap not d
        no_pointer false = refl

        with_words : (Location → ℕ) → Held
        with_words w = record { store = record { words = w; targets = n.grown.store.targets }; requests = rs }

        zero_is : (o : Option Kind) → kind_there (standing s os) (place is) ≡ o → zeroed (thing_now (standing s os) (place is)) (held n rs) (place is) ≡ with_words (changed (place is) 0 n.grown.store.words)
        zero_is (Some j) z = ap (λ t. zeroed t (held n rs) (place is)) (thing-some (standing s os) (place is) j z)
        zero_is None z = ap (λ t. zeroed t (held n rs) (place is)) (thing-none (standing s os) (place is) z)
            ∙ (zeroed-channel (option_and_then (node_of (of_objects os)) (thing_at (of_objects os) (place is))) (held n rs) (place is)
            ∙ sym (ap with_words (changed-same (place is) 0 n.grown.store.words (fine.words (place is) z))))

    aimed-is : (c : Member) (is : List ℕ) (rs : List Request) → slice_get s.function.locals k ≡ Some c → is_direct c.shape.reach ≡ false → Clears is rs (with_target n.grown (place is) None)
    aimed-is c is rs e d = (
      ap (λ h. pointed_at (pointer_now (standing s os) (place is)) h (place is) None)
          (ap (λ t. zeroed t (held n rs) (place is)) (thing-none (standing s os) (place is) (kind-is (Some c) is e (no_kind (is_inside c.shape.sizes (map Element is)))))
          ∙ zeroed-channel (option_and_then (node_of (of_objects os)) (thing_at (of_objects os) (place is))) (held n rs) (place is))
          ∙ null_is (pointer_now (standing s os) (place is)) refl,
      record { objects = fine.objects; words = fine.words; targets = λ m z. changed-at (place is) None n.grown.store.targets m None (λ p. refl) (fine.targets m z) },
    )
      where
        no_kind : (b : Bool) → option_and_then direct_kind (if b then Some c else None) ≡ None
        no_kind true = ap (λ b. if b then number_kind c.shape.base else None) d
        no_kind false = refl

        with_targets : (Location → Option Location) → Held
        with_targets t = record { store = record { words = n.grown.store.words; targets = t }; requests = rs }

        null_is : (b : Bool) → pointer_now (standing s os) (place is) ≡ b → pointed_at (pointer_now (standing s os) (place is)) (held n rs) (place is) None ≡ with_targets (changed (place is) None n.grown.store.targets)
        null_is true z = ap (λ b. pointed_at b (held n rs) (place is) None) z
        null_is false z = ap (λ b. pointed_at b (held n rs) (place is) None) z ∙ sym (ap with_targets (changed-same (place is) None n.grown.store.targets (fine.targets (place is) z)))

    one-is : (c : Member) (is : List ℕ) (rs : List Request) → slice_get s.function.locals k ≡ Some c
        → Clears is rs (if is_direct c.shape.reach then with_word n.grown (place is) 0 else with_target n.grown (place is) None)
    one-is c is rs e = by (is_direct c.shape.reach) refl
      where
        by : (b : Bool) → is_direct c.shape.reach ≡ b → Clears is rs (if is_direct c.shape.reach then with_word n.grown (place is) 0 else with_target n.grown (place is) None)
        by true d = subst (λ b. Clears is rs (if b then with_word n.grown (place is) 0 else with_target n.grown (place is) None)) (sym d) (direct-is c is rs e d)
        by false d = subst (λ b. Clears is rs (if b then with_word n.grown (place is) 0 else with_target n.grown (place is) None)) (sym d) (aimed-is c is rs e d)

    clear-step : (is : List ℕ) → AllBelow is → (g : Grown) (rs : List Request) → step.cleared (places_by s os) (held n rs) (place is) ≡ held (with_grown g) rs → (rest : Body) (mark : Mark) (outer : Frames)
        → Reaches (places_by s os) (Go mark (names_of s) (machine.Clear (element s.plain s.function (body.Declared k) is) rest) outer) (held n rs) (Go Inner (names_of s) rest outer) (held (with_grown g) rs)
    clear-step is h g rs e rest mark outer =
        step-clear (places_by s os) mark (names_of s) rest outer (held n rs) (element s.plain s.function (body.Declared k) is) (place is) (held (with_grown g) rs)
        (element-is s.plain s.function (scene_with s os n.grown.store) (body.Declared k) (local_of s.object k []) is h refl) e

  -- the machine clears the elements one after another
  abbrev Declares : Option Member → List (List ℕ) → Now → Body → Mark → Frames → List Request → Type 0
  Declares m all n rest mark outer rs = (last : Mark)
      × Reaches (places_by s os) (Go mark (names_of s) (cleared s.plain s.function k all rest) outer) (held n rs) (Go last (names_of s) rest outer) (held (record { grown = declared_from s k m all n.grown; last = n.last }) rs)
      × IsFine s os (record { grown = declared_from s k m all n.grown; last = n.last })

  cleared-is : (c : Member) → slice_get s.function.locals k ≡ Some c → (all : List (List ℕ)) → AllSmall all → (n : Now) → IsFine s os n → (rest : Body) (mark : Mark) (outer : Frames) (rs : List Request)
      → Declares (Some c) all n rest mark outer rs
  cleared-is c e [] h n fine rest mark outer rs = (mark, reaches-same (places_by s os) (Go mark (names_of s) rest outer) (held n rs), fine)
  cleared-is c e (is ∷ all) h n fine rest mark outer rs =
      let g : Grown = if is_direct c.shape.reach then with_word n.grown (place is) 0 else with_target n.grown (place is) None in
      let next : Now = record { grown = g; last = n.last } in
      let q = one-is n fine c is rs e in
      let r = cleared-is c e all h.1 next q.1 rest Inner outer rs in (
        r.0,
        reaches-then (places_by s os) (Go mark (names_of s) (cleared s.plain s.function k (is ∷ all) rest) outer) (Go Inner (names_of s) (cleared s.plain s.function k all rest) outer) (Go r.0 (names_of s) rest outer)
            (held n rs) (held next rs) (held (record { grown = declared_from s k (Some c) all g; last = n.last }) rs)
            (clear-step n fine is h.0 g rs q.0 (cleared s.plain s.function k all rest) mark outer) r.1,
        r.2,
      )

  pub declare-is : is_small (sizes_of (slice_get s.function.locals k)) ≡ true → (n : Now) → IsFine s os n → (rest : Body) (mark : Mark) (outer : Frames) (rs : List Request)
      → Declares (slice_get s.function.locals k) (elements (sizes_of (slice_get s.function.locals k))) n rest mark outer rs
  declare-is small n fine rest mark outer rs = by (slice_get s.function.locals k) refl small
    where
      by : (m : Option Member) → slice_get s.function.locals k ≡ m → is_small (sizes_of m) ≡ true → Declares m (elements (sizes_of m)) n rest mark outer rs
      by None e h = let q = none-is n fine [] rs e in (Inner, clear-step n fine [] tt n.grown rs q.0 rest mark outer, q.1)
      by (Some c) e h = cleared-is c e (elements (sizes_of (Some c))) (all-elements (sizes_of (Some c)) h) n fine rest mark outer rs
