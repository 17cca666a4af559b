-- Elements are read by trees of choices.
use Rattle.std.proofs.Common.{◌≡◌, ℕ, ◌+◌, ◌-◌, ◌*◌, ◌<◌, ◌≤◌, ◌^◌, min, nat_lt, true, if◌then◌else◌, List, [], ◌∷◌, Some, None, slice_get, unwrap_or, option_map, refl, sym, ap, ◌∙◌, subst, arith}
use Rattle.std.proofs.lemmas.Option.{slice_get-map}
use Rattle.scc_bits_kinds.specs.declared.kind.Kind.{Kind}
use Rattle.scc_bits_kinds.specs.Bits.{part}
use Rattle.scc_bits_kinds.specs.Kinds.{width_of}
use Rattle.scc_core.specs.declared.program.Cell.{Cell as Held}
use Rattle.scc_core_spec.specs.Uses.{width_at}
use Rattle.scc_core_view.specs.Programs.{cell_of}
use Rattle.scc_svtree.specs.Term as emitted
use Rattle.scc_blocks_spec.specs.Shown.{Sight}
use Rattle.scc_blocks_spec.specs.Shown as shown
use Rattle.scc_lower_spec.specs.Selected.{part_left, halves_term}
use Rattle.scc_lower_laws.specs.Elements.{ShowsElement, IsReadable, IsRead, cell_in, read_text, read_variable, variable_of, within_text}
use Rattle.scc_lower_laws.proofs.Elements.{element-cell, span-one, span-halves, element-within}
use Rattle.scc_lower_laws.proofs.Options.{map_is, then_is}
use Rattle.scc_lower_tree_laws.specs.Choosing.{Opened, cell_text, cell_read, slots_of, AreRead, ReadsElement, ReadsSpan}
use Rattle.scc_lower_tree_laws.specs.Sound.{IsReadCell}
use Rattle.scc_lower_tree_laws.specs.States.{Given, Sees, Seen, IsView, IsPlain}
use Rattle.scc_lower_tree_laws.specs.States as view

-- ---- one cell

part-same : (v w c h l : ℕ) (m n : ℕ) → v ≡ w → m ≡ n → emitted.Part (part_left (record { 0 = v }) m h l) ≡ emitted.Part (part_left (record { 0 = w }) n h l)
part-same v w c h l m n e f = λ i. emitted.Part (part_left (record { 0 = e i }) (f i) h l)

text-of-view : (v : Seen) (u : shown.View) (k : Kind) (bits c h l : ℕ) → IsView v u → IsRead u → width_of k ≡ bits → bits ≤ 128 → h < bits → cell_text v (width_of k) c h l ≡ read_text u bits c h l
text-of-view (view.Constant w) u k bits c h l e r q few top =
    let n : min (h - l + 1) 4294967295 ≡ h - l + 1 = omega arith in
    ap (λ z. emitted.Literal z (part h l w)) n ∙ ap (λ z. read_text z bits c h l) (sym e)
text-of-view view.Plain u k bits c h l e r q few top = by u e r
  where
    twice : c * 2 + 0 ≡ 2 * c
    twice = omega arith

    by : (u : shown.View) → IsPlain u → IsRead u → emitted.Part (part_left (record { 0 = c * 2 + 0 }) (width_of k) h l) ≡ read_text u bits c h l
    by (shown.Constant w) e r = absurd e
    by shown.Read e r = part-same (c * 2 + 0) (2 * c) c h l (width_of k) bits twice q
    by shown.Driven e r = absurd r
    by shown.Delayed e r = absurd e
    by shown.Plain e r = part-same (c * 2 + 0) (2 * c) c h l (width_of k) bits twice q
    by shown.Next e r = absurd e
text-of-view view.Next u k bits c h l e r q few top =
    let n : c * 2 + 1 ≡ 2 * c + 1 = omega arith in
    part-same (c * 2 + 1) (2 * c + 1) c h l (width_of k) bits n q ∙ ap (λ z. read_text z bits c h l) (sym e)
text-of-view view.Delayed u k bits c h l e r q few top =
    let n : c * 2 + 0 ≡ 2 * c = omega arith in
    part-same (c * 2 + 0) (2 * c) c h l (width_of k) bits n q ∙ ap (λ z. read_text z bits c h l) (sym e)

-- the width of a cell
pub cell-wide : (cells : List Held) (views : List Seen) (s : Sight) (width : ℕ → ℕ) (c : ℕ) (cell : Held) → Sees cells views s width → slice_get cells c ≡ Some cell → width_at s.cells c ≡ width_of cell.kind
cell-wide cells views s width c cell sees e =
    ap (λ cs. width_at cs c) sees.cells
    ∙ ap (λ o. unwrap_or (option_map (λ d. width_of d.kind) o) 0) (slice_get-map cell_of cells c ∙ ap (λ o. option_map cell_of o) e)

read-wide : (s : Sight) (width : ℕ → ℕ) (cells : List Held) (views : List Seen) (c bits : ℕ) → Sees cells views s width → s.mine c ≡ true → width_at s.cells c ≡ bits → width (read_variable (s.view c) c) ≡ bits
read-wide s width cells views c bits sees mine e = by (s.view c)
  where
    by : (u : shown.View) → width (read_variable u c) ≡ bits
    by (shown.Constant w) = sees.present c mine ∙ e
    by shown.Read = sees.present c mine ∙ e
    by shown.Driven = sees.present c mine ∙ e
    by shown.Delayed = sees.present c mine ∙ e
    by shown.Plain = sees.present c mine ∙ e
    by shown.Next = sees.next c mine ∙ e

pub readable : (s : Sight) (width : ℕ → ℕ) (cells : List Held) (views : List Seen) (c bits : ℕ) → Sees cells views s width → IsReadCell s bits c → IsReadable s width bits c
readable s width cells views c bits sees r = record { is_named = r.is_named; is_held = r.is_held; is_read = r.is_read; is_wide = r.is_wide; variable = read-wide s width cells views c bits sees r.is_named r.is_wide }

module _ (g : Given) (views : List Seen) where
  pub reads-cell : (c h l : ℕ) (t : emitted.Term) → cell_read g.cells views c h l ≡ Some t → ReadsElement g views [] c h l t
  reads-cell c h l t e s width m bits (d ∷ ds) sees opened below all few order top = absurd opened
  reads-cell c h l t e s width m bits [] sees opened below all few order top =
      let cell = then_is (slice_get g.cells c) (λ cell. option_map (λ v. cell_text v (width_of cell.kind) c h l) (slice_get views c)) t e in
      let v = map_is (slice_get views c) (λ v. cell_text v (width_of cell.0.kind) c h l) t cell.2 in
      let r = all [] c refl in
      let wide : width_of cell.0.kind ≡ bits = sym (cell-wide g.cells views s width c cell.0 sees cell.1) ∙ r.is_wide in
      let is : read_text (s.view c) bits c h l ≡ t = sym (text-of-view v.0 (s.view c) cell.0.kind bits c h l (sees.views c v.0 r.is_named v.1) r.is_read wide few top) ∙ v.2 in
      let P : emitted.Term → Type 0 = λ u. ShowsElement s width m bits [] [] c h l u in
      subst P is (element-cell s width m bits c h l sees.number (readable s width g.cells views c bits sees r) order top)

  -- ---- elements by halves

  pub reads-one : (o : Opened) (os : List Opened) (first low at h l : ℕ) (t : emitted.Term) → at ≡ first + low * o.stride → ReadsElement g views os at h l t → ReadsSpan g views o os first low (low + 1) h l t
  reads-one o os first low at h l t e f s width m bits d ds sees opened below all few high order top =
      let stands : at ≡ first + low * d.stride = e ∙ ap (λ z. first + low * z) (sym opened.1) in
      let inside : nat_lt low d.size ≡ true = (let q : low < o.size = omega (arith, high) in let P : ℕ → Type 0 = λ z. low < z in let r : low < d.size = subst P (sym opened.0) q in grind (arith, r)) in
      let here : AreRead s bits (first + low * d.stride) ds = λ is c q. all (low ∷ is) c (ap (λ b. if b then cell_in (first + low * d.stride) ds is else None) inside ∙ q) in
      let P : ℕ → Type 0 = λ n. ReadsElement g views os n h l t in
      span-one s width m bits o.slot (slots_of os) d ds first low h l t (subst P stands f s width m bits ds sees opened.2 below.1 here few order top)

  pub reads-halves : (o : Opened) (os : List Opened) (first low middle high h l : ℕ) (t u : emitted.Term) → low < middle → middle < high → ReadsSpan g views o os first low middle h l t → ReadsSpan g views o os first middle high h l u
      → ReadsSpan g views o os first low high h l (halves_term o.slot.width (variable_of o.slot.variable) middle t u)
  reads-halves o os first low middle high h l t u below above f k s width m bits d ds sees opened lower all few inside order top =
      let part : middle ≤ min o.size (2 ^ o.slot.width) = omega (arith, inside, above) in
      let small : middle < 2 ^ o.slot.width = omega (arith, inside, above) in
      span-halves s width m bits o.slot (slots_of os) d ds first low middle high h l t u lower.0 small
      (f s width m bits d ds sees opened lower all few part order top) (k s width m bits d ds sees opened lower all few inside order top)

  pub reads-all : (o : Opened) (os : List Opened) (first high h l : ℕ) (t : emitted.Term) → high ≡ min o.size (2 ^ o.slot.width) → ReadsSpan g views o os first 0 high h l t → ReadsElement g views (o ∷ os) first h l (within_text o.slot o.size h l t)
  reads-all o os first high h l t e f s width m bits [] sees opened below all few order top = absurd opened
  reads-all o os first high h l t e f s width m bits (d ∷ ds) sees opened below all few order top =
      let part : high ≤ min o.size (2 ^ o.slot.width) = omega (arith, e) in
      let there : high ≡ min d.size (2 ^ o.slot.width) = e ∙ ap (λ z. min z (2 ^ o.slot.width)) (sym opened.0) in
      let P : ℕ → Type 0 = λ z. ShowsElement s width m bits (slots_of (o ∷ os)) (d ∷ ds) first h l (within_text o.slot z h l t) in
      subst P opened.0 (element-within s width m bits o.slot (slots_of os) d ds first high h l t below.0 there (f s width m bits d ds sees opened below all few part order top))
