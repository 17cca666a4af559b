-- The block of a combinational method.
use Rattle.std.proofs.Common.{◌≡◌, ◌<◌, ◌*◌, ◌+◌, ◌^◌, ℕ, nat_eq, true, [], ◌∷◌, refl, sym, ap, ◌∙◌, subst, arith}
use Rattle.std.specs.Prelude.{not}
use Rattle.scc_svtree.specs.Running.{run}
use Rattle.scc_core_spec.specs.Uses.{width_at}
use Rattle.scc_blocks_spec.specs.Acting.{Acting, with_asked}
use Rattle.scc_blocks_spec.specs.Effect.{Effect, Fell, Left_out, Lost, effect}
use Rattle.scc_blocks_spec.specs.Shown.{view_of, sight_of, Sight, Shows, ShowsCell, top_number}
use Rattle.scc_blocks_spec.specs.Lowered.{Fits, IsLoweredCode}
use Rattle.scc_blocks_run_laws.specs.Pieces.{firsts_code}
use Rattle.scc_blocks_run_laws.specs.Blocks.{IsBlock, HasVariables}
use Rattle.scc_blocks_laws.specs.Worked.{handing_module, handing_registers, hand_on, passing_process, passing_on, passing_numbers, passing_body}
use Rattle.scc_blocks_run_laws.proofs.Firsts.{fixed_assigned}
use Rattle.scc_blocks_run_laws.proofs.Among.{among-all, assigns-in, mentions-in, code_vars}

abbrev s : Sight
s = sight_of passing_on 0 passing_process

lowered : IsLoweredCode s passing_numbers.width hand_on passing_body
lowered = record { shows = shows; framed = λ v h. among-all (λ v. v < top_number) (code_vars passing_body) (omega arith, (omega arith, tt)) v (assigns-in passing_body v h) }
  where
    shows : (a b : Acting) (x : ℕ → ℕ) → Fits s a → Shows s a x → effect passing_on.cells hand_on a ≡ Fell b → Shows s b (run passing_numbers.width passing_body x)
    shows a b x f k e =
        let z : with_asked 2 (a.now 1) a ≡ b = ap of e in
        let P : ℕ → Type 0 = λ w. w < 2 ^ 8 in
        let small : x 2 < 2 ^ 8 = subst P (sym (k.cells 1 refl)) (f.words 1 refl) in
        subst (λ b. Shows s b (run passing_numbers.width passing_body x)) z
        (record { cells = among-all (λ c. ShowsCell (s.view c) c (with_asked 2 (a.now 1) a) (run passing_numbers.width passing_body x)) (1 ∷ 2 ∷ []) (k.cells 1 refl, (fixed_assigned 8 (x 2) small ∙ k.cells 1 refl, tt)); leaving = k.leaving })
      where
        of : Effect → Acting
        of (Fell b) = b
        of (Left_out n b) = b
        of Lost = a

pub method-block : IsBlock passing_on handing_registers handing_module 0 passing_process (firsts_code passing_numbers.width passing_numbers.firsts passing_body)
method-block = record {
  wide = record { state = 0; counter = 0 };
  numbers = passing_numbers;
  body = passing_body;
  is_code = refl;
  is_body = lowered;
  injective = λ u v a b e. e;
  widths = λ v h. refl;
  mentioned = λ v h. among-all (λ v. not (nat_eq v 6) ≡ true) (code_vars (firsts_code passing_numbers.width passing_numbers.firsts passing_body)) (refl, (refl, (refl, tt))) v
      (mentions-in (firsts_code passing_numbers.width passing_numbers.firsts passing_body) v h);
  sources = λ u h. absurd (cc);
  cells = among-all (λ c. HasVariables handing_registers passing_numbers (width_at passing_on.cells c) (view_of passing_on 0 passing_process c) c) (1 ∷ 2 ∷ []) (((refl, refl, refl), refl), ((refl, refl, refl), tt));
  small = record { cells = among-all (λ c. 2 * c + 1 < top_number) (1 ∷ 2 ∷ []) (omega arith, (omega arith, tt)); leaving = omega arith };
  leaving = λ h. absurd (cc);
  state = tt;
  counter = tt;
  is_state = refl;
  is_counter = refl;
}
