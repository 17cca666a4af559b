-- Ports and words side by side.
use Rattle.std.specs.Prelude.{◌≡◌, ℕ, ◌+◌, ◌-◌, ◌^◌, ◌<◌, ◌≤◌, nat_lt, nat_eq, Bool, false, ◌&&◌, List, [], ◌∷◌, ◌++◌, length, drop, take, get_or, refl}
use Rattle.std.proofs.Common.{sym, ◌∙◌, ap, append_assoc, arith}
use Rattle.std.proofs.lemmas.List.{append-nil, drop_more, drop_all, take_all}
use Rattle.std.proofs.lemmas.Bool.{ne_eqb}
use Rattle.scc_bits_kinds.specs.declared.kind.Word.{Word}
use Rattle.scc_trace.specs.declared.stim.StimPort.{StimPort}
use Rattle.scc_trace.specs.Cut.{Bytes}
use Rattle.scc_trace.specs.Text.{all_fit, value_text, values_text, output_text, shown}

none_left : (rest : List Word) → length rest < 1 → rest ≡ []
none_left [] h = refl
none_left (w ∷ ws) h = absurd (omega (arith, h))

front_is : (rest : List Word) (d : Word) → 1 ≤ length rest → rest ≡ get_or rest 0 d ∷ take (length rest - 1) (drop 1 rest)
front_is [] d h = absurd (omega (arith, h))
front_is (v ∷ vs) d h =
    let m : length (v ∷ vs) - 1 ≡ length vs = omega arith in
    ap (λ us. v ∷ us) (sym (take_all (length vs) vs (omega arith))) ∙ ap (λ n. v ∷ take n vs) (sym m)

module _ (ports : List StimPort) (i : ℕ) (p : StimPort) (less : i < length ports) (is : get_or ports i p ≡ p) where
  ports_are : drop i ports ≡ p ∷ drop (i + 1) ports
  ports_are = drop_more ports i p less ∙ ap (λ q. q ∷ drop (i + 1) ports) is

  pub fit_few : (rest : List Word) (t : Bool) → length rest < 1 → all_fit (drop i ports) rest ≡ t → false ≡ t
  unfolding all_fit
  fit_few rest t h inv = sym (ap (λ us. all_fit (p ∷ drop (i + 1) ports) us) (none_left rest h)) ∙ sym (ap (λ ps. all_fit ps rest) ports_are) ∙ inv

  pub fit_next : (rest : List Word) (d : Word) (b t : Bool) → 1 ≤ length rest → nat_lt (get_or rest 0 d).bits (2 ^ p.width) ≡ b → all_fit (drop i ports) rest ≡ t
      → (b && all_fit (drop (i + 1) ports) (take (length rest - 1) (drop 1 rest))) ≡ t
  unfolding all_fit
  fit_next rest d b t h k inv =
      sym (ap (λ c. c && all_fit (drop (i + 1) ports) (take (length rest - 1) (drop 1 rest))) k) ∙ sym (ap (λ us. all_fit (p ∷ drop (i + 1) ports) us) (front_is rest d h)) ∙ sym (ap (λ ps. all_fit ps rest) ports_are) ∙ inv

  -- what is printed of a port and its word, and then of the others
  module _ (f : List StimPort → List Word → Bytes) (g : StimPort → Word → Bytes) where
    pub put_few : ((p : StimPort) (ps : List StimPort) → f (p ∷ ps) [] ≡ []) → (rest : List Word) (out t : Bytes) → length rest < 1 → out ++ f (drop i ports) rest ≡ t → out ≡ t
    put_few none rest out t h inv =
        sym (append-nil out) ∙ ap (λ u. out ++ u) (sym (none p (drop (i + 1) ports))) ∙ sym (ap (λ us. out ++ f (p ∷ drop (i + 1) ports) us) (none_left rest h)) ∙ sym (ap (λ ps. out ++ f ps rest) ports_are) ∙ inv

    pub put_more : ((p : StimPort) (w : Word) (ps : List StimPort) (ws : List Word) → f (p ∷ ps) (w ∷ ws) ≡ g p w ++ f ps ws) → (rest : List Word) (d : Word) (out more t : Bytes) → 1 ≤ length rest
        → more ≡ out ++ g p (get_or rest 0 d) → out ++ f (drop i ports) rest ≡ t → more ++ f (drop (i + 1) ports) (take (length rest - 1) (drop 1 rest)) ≡ t
    put_more next rest d out more t h m inv =
        let w = get_or rest 0 d in
        let others = take (length rest - 1) (drop 1 rest) in
        ap (λ u. u ++ f (drop (i + 1) ports) others) m ∙ append_assoc out (g p w) (f (drop (i + 1) ports) others) ∙ ap (λ u. out ++ u) (sym (next p w (drop (i + 1) ports) others))
        ∙ sym (ap (λ us. out ++ f (p ∷ drop (i + 1) ports) us) (front_is rest d h)) ∙ sym (ap (λ ps. out ++ f ps rest) ports_are) ∙ inv

pub put_end : (f : List StimPort → List Word → Bytes) → ((ws : List Word) → f [] ws ≡ []) → (ports : List StimPort) (i : ℕ) (rest : List Word) (out t : Bytes) → length ports ≤ i → out ++ f (drop i ports) rest ≡ t → out ≡ t
put_end f done ports i rest out t h inv = sym (append-nil out) ∙ ap (λ u. out ++ u) (sym (done rest)) ∙ sym (ap (λ ps. out ++ f ps rest) (drop_all i ports h)) ∙ inv

pub fit_end : (ports : List StimPort) (i : ℕ) (rest : List Word) (t : Bool) → length ports ≤ i → all_fit (drop i ports) rest ≡ t → nat_eq (length rest) 0 ≡ t
unfolding all_fit
fit_end ports i rest t h inv = none rest ∙ sym (ap (λ ps. all_fit ps rest) (drop_all i ports h)) ∙ inv
  where
    none : (rest : List Word) → nat_eq (length rest) 0 ≡ all_fit [] rest
    none [] = refl
    none (w ∷ ws) = ne_eqb (length (w ∷ ws)) 0 (λ z. omega (arith, z))

pub values_next : (p : StimPort) (w : Word) (ps : List StimPort) (ws : List Word) → values_text (p ∷ ps) (w ∷ ws) ≡ value_text p w ++ values_text ps ws
unfolding values_text
values_next p w ps ws = refl

pub values_none : (p : StimPort) (ps : List StimPort) → values_text (p ∷ ps) [] ≡ []
unfolding values_text
values_none p ps = refl

pub values_done : (ws : List Word) → values_text [] ws ≡ []
unfolding values_text
values_done ws = refl

pub shown_next : (p : StimPort) (w : Word) (ps : List StimPort) (ws : List Word) → shown (p ∷ ps) (w ∷ ws) ≡ output_text p w ++ shown ps ws
unfolding shown
shown_next p w ps ws = refl

pub shown_none : (p : StimPort) (ps : List StimPort) → shown (p ∷ ps) [] ≡ []
unfolding shown
shown_none p ps = refl

pub shown_done : (ws : List Word) → shown [] ws ≡ []
unfolding shown
shown_done ws = refl
