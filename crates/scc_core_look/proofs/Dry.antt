-- Bodies that are good fit, and what they do while they live writes no input.
use Rattle.std.proofs.Common.{◌≡◌, refl, Bool, true, false, not, ◌&&◌, ◌||◌, ℕ, suc, List, [], ◌∷◌, ◌++◌, map, Option, Some, None, ap, ◌∙◌, sym, subst, if◌then◌else◌}
use Rattle.std.specs.Prelude.{flat_map, nat_lt, is_some}
use Rattle.std.specs.List.{list_all, list_any}
use Rattle.scc_base.specs.declared.refusal.Place.{Place}
use Rattle.scc_core.specs.declared.program.Core.{Core}
use Rattle.scc_core.specs.declared.program.CoreProcess.{CoreProcess}
use Rattle.scc_core_spec.specs.Code.{Code, Count, End, Put, Aim, If, Block, Loop, Exit, Wait, append}
use Rattle.scc_core_spec.specs.Constants.{written}
use Rattle.scc_core_spec.specs.Exits.{exits_within}
use Rattle.scc_core_spec.specs.Fit.{fit_code, fit_put, fit_term}
use Rattle.scc_core_spec.specs.IsResolved.{IsResolved, cells_apart, fit_cell, fit_edge, fit_process, fit_reset, keeps_inputs, processes_apart}
use Rattle.scc_core_spec.specs.Kept.{written_by}
use Rattle.scc_core_spec.specs.Live.{Alive, alive, by_test, live, looped, shut, then_alive}
use Rattle.scc_core_spec.specs.Program.{Process, Program, is_input}
use Rattle.scc_core_spec.specs.Static.{Cells, goes}
use Rattle.scc_core_spec.specs.Term.{Term}
use Rattle.scc_core_spec.specs.Uses.{Act, acts, cells_of, has_sort, writes_of}
use Rattle.scc_core_view.specs.Programs.{process_of}
use Rattle.scc_core_look.specs.declared.terms.Ground.{Ground}
use Rattle.scc_core_look.specs.Clocked.{is_clocked}
use Rattle.scc_core_look.specs.Fits.{body_fits, good_code, good_put, here, is_dry, keeps, mine}
use Rattle.scc_core_look.proofs.Apart.{both, first, second}

module _ (g : Ground) where
  good_fits : (c : Code) → good_code g c ≡ true → fit_code (here g) (mine g) c ≡ true
  good_fits End e = refl
  good_fits (Put p l k x r) e = both (fit_put (here g) (mine g) l k x) _ (first (fit_put (here g) (mine g) l k x) (keeps (here g) l) (first (good_put g l k x) (good_code g r) e)) (good_fits r (second (good_put g l k x) (good_code g r) e))
  good_fits (Aim p to t r) e = absurd cc
  good_fits (If p t a b r) e =
      let r1 = second (fit_term (here g) (mine g) t) (good_code g a && (good_code g b && good_code g r)) e in
      let r2 = second (good_code g a) (good_code g b && good_code g r) r1 in
      both (fit_term (here g) (mine g) t) _ (first (fit_term (here g) (mine g) t) (good_code g a && (good_code g b && good_code g r)) e)
      (both (fit_code (here g) (mine g) a) _ (good_fits a (first (good_code g a) (good_code g b && good_code g r) r1))
      (both (fit_code (here g) (mine g) b) _ (good_fits b (first (good_code g b) (good_code g r) r2)) (good_fits r (second (good_code g b) (good_code g r) r2))))
  good_fits (Block p b r) e = both (fit_code (here g) (mine g) b) _ (good_fits b (first (good_code g b) (good_code g r) e)) (good_fits r (second (good_code g b) (good_code g r) e))
  good_fits (Loop p n b r) e = both (fit_code (here g) (mine g) b) _ (good_fits b (first (good_code g b) (good_code g r) e)) (good_fits r (second (good_code g b) (good_code g r) e))
  good_fits (Exit p n r) e = good_fits r e
  good_fits (Wait p l n r) e = both (nat_lt 0 n) _ (first (nat_lt 0 n) (good_code g r) e) (good_fits r (second (nat_lt 0 n) (good_code g r) e))

  good_dry : (c : Code) → good_code g c ≡ true → is_dry (here g) c ≡ true
  good_dry End e = refl
  good_dry (Put p l k x r) e = both (keeps (here g) l) _ (second (fit_put (here g) (mine g) l k x) (keeps (here g) l) (first (good_put g l k x) (good_code g r) e)) (good_dry r (second (good_put g l k x) (good_code g r) e))
  good_dry (Aim p to t r) e = absurd cc
  good_dry (If p t a b r) e =
      let r1 = second (fit_term (here g) (mine g) t) (good_code g a && (good_code g b && good_code g r)) e in
      let r2 = second (good_code g a) (good_code g b && good_code g r) r1 in
      both (is_dry (here g) a) _ (good_dry a (first (good_code g a) (good_code g b && good_code g r) r1)) (both (is_dry (here g) b) _ (good_dry b (first (good_code g b) (good_code g r) r2)) (good_dry r (second (good_code g b) (good_code g r) r2)))
  good_dry (Block p b r) e = both (is_dry (here g) b) _ (good_dry b (first (good_code g b) (good_code g r) e)) (good_dry r (second (good_code g b) (good_code g r) e))
  good_dry (Loop p n b r) e = both (is_dry (here g) b) _ (good_dry b (first (good_code g b) (good_code g r) e)) (good_dry r (second (good_code g b) (good_code g r) e))
  good_dry (Exit p n r) e = good_dry r e
  good_dry (Wait p l n r) e = good_dry r (second (nat_lt 0 n) (good_code g r) e)

  pub good_body : (c : Code) → c ≡ (mine g).body → good_code g c ≡ true → body_fits (here g) (mine g) ≡ true
  good_body c is e = ap (λ x. fit_code (here g) (mine g) x && is_dry (here g) x) (sym is) ∙ both (fit_code (here g) (mine g) c) (is_dry (here g) c) (good_fits c e) (good_dry c e)

-- ---- what lives of a dry body is dry, and dry bodies write no input

module _ (cs : Cells) where
  dry_append : (a b : Code) → is_dry cs a ≡ true → is_dry cs b ≡ true → is_dry cs (append a b) ≡ true
  dry_append End b e f = f
  dry_append (Put p l k x r) b e f = both (keeps cs l) _ (first (keeps cs l) (is_dry cs r) e) (dry_append r b (second (keeps cs l) (is_dry cs r) e) f)
  dry_append (Aim p to t r) b e f = dry_append r b e f
  dry_append (If p t x y r) b e f =
      let r1 = second (is_dry cs x) (is_dry cs y && is_dry cs r) e in
      both (is_dry cs x) _ (first (is_dry cs x) (is_dry cs y && is_dry cs r) e) (both (is_dry cs y) _ (first (is_dry cs y) (is_dry cs r) r1) (dry_append r b (second (is_dry cs y) (is_dry cs r) r1) f))
  dry_append (Block p x r) b e f = both (is_dry cs x) _ (first (is_dry cs x) (is_dry cs r) e) (dry_append r b (second (is_dry cs x) (is_dry cs r) e) f)
  dry_append (Loop p n x r) b e f = both (is_dry cs x) _ (first (is_dry cs x) (is_dry cs r) e) (dry_append r b (second (is_dry cs x) (is_dry cs r) e) f)
  dry_append (Exit p n r) b e f = dry_append r b e f
  dry_append (Wait p l n r) b e f = dry_append r b e f

  dry_then : (ends : Bool) (x y : Alive) → is_dry cs x.code ≡ true → is_dry cs y.code ≡ true → is_dry cs (then_alive ends x y).code ≡ true
  dry_then true x y e f = dry_append x.code y.code e f
  dry_then false x y e f = e

  dry_test : (o : Option Bool) (p : Place) (t : Term) (x y : Alive) → is_dry cs x.code ≡ true → is_dry cs y.code ≡ true → is_dry cs (by_test o p t x y).code ≡ true
  dry_test (Some true) p t x y e f = e
  dry_test (Some false) p t x y e f = f
  dry_test None p t x y e f = both (is_dry cs x.code) _ e (both (is_dry cs y.code) true f refl)

  dry_looped : (ends : Bool) (p : Place) (n : Option Count) (x : Alive) → is_dry cs x.code ≡ true → is_dry cs (looped ends p n x).code ≡ true
  dry_looped true p n x e = both (is_dry cs x.code) true e refl
  dry_looped false p n x e = e

  dry_alive : (c : Code) → is_dry cs c ≡ true → is_dry cs (alive cs c).code ≡ true
  dry_alive End e = refl
  dry_alive (Put p l k x r) e = both (keeps cs l) _ (first (keeps cs l) (is_dry cs r) e) (dry_alive r (second (keeps cs l) (is_dry cs r) e))
  dry_alive (Aim p to t r) e = dry_alive r e
  dry_alive (If p t a b r) e =
      let r1 = second (is_dry cs a) (is_dry cs b && is_dry cs r) e in
      let x = by_test (goes cs t) p t (alive cs a) (alive cs b) in
      dry_then x.ends x (alive cs r) (dry_test (goes cs t) p t (alive cs a) (alive cs b) (dry_alive a (first (is_dry cs a) (is_dry cs b && is_dry cs r) e)) (dry_alive b (first (is_dry cs b) (is_dry cs r) r1))) (dry_alive r (second (is_dry cs b) (is_dry cs r) r1))
  dry_alive (Block p b r) e =
      let x = shut p (alive cs b) in
      dry_then x.ends x (alive cs r) (both (is_dry cs (alive cs b).code) true (dry_alive b (first (is_dry cs b) (is_dry cs r) e)) refl) (dry_alive r (second (is_dry cs b) (is_dry cs r) e))
  dry_alive (Loop p n b r) e = dry_looped (alive cs b).ends p n (alive cs b) (dry_alive b (first (is_dry cs b) (is_dry cs r) e))
  dry_alive (Exit p n r) e = refl
  dry_alive (Wait p l n r) e = dry_alive r e

  abbrev None-of : List ℕ → Type 0
  None-of ns = list_any (has_sort is_input cs) ns ≡ false

  none_both : (xs ys : List ℕ) → None-of xs → None-of ys → None-of (xs ++ ys)
  none_both [] ys e f = f
  none_both (x ∷ xs) ys e f = by (has_sort is_input cs x) (list_any (has_sort is_input cs) xs) e (none_both xs ys)
    where
      by : (a b : Bool) → (a || b) ≡ false → (b ≡ false → None-of ys → None-of (xs ++ ys)) → (a || list_any (has_sort is_input cs) (xs ++ ys)) ≡ false
      by true b e h = absurd cc
      by false b e h = h e f

  abbrev all_writes : List Act → List ℕ
  all_writes list = flat_map (writes_of cs) list

  writes_both : (us bs : List Act) → None-of (all_writes us) → None-of (all_writes bs) → None-of (all_writes (us ++ bs))
  writes_both us bs e f = subst None-of (sym (spread us bs)) (none_both (all_writes us) (all_writes bs) e f)
    where
      regroup : (xs ys zs : List ℕ) → (xs ++ ys) ++ zs ≡ xs ++ (ys ++ zs)
      regroup [] ys zs = refl
      regroup (x ∷ xs) ys zs = ap (λ l. x ∷ l) (regroup xs ys zs)

      spread : (us bs : List Act) → all_writes (us ++ bs) ≡ all_writes us ++ all_writes bs
      spread [] bs = refl
      spread (a ∷ us) bs = ap (λ l. writes_of cs a ++ l) (spread us bs) ∙ sym (regroup (writes_of cs a) (all_writes us) (all_writes bs))

  off : (b : Bool) → not b ≡ true → b ≡ false
  off true e = absurd cc
  off false e = refl

  dry_acts : (c : Code) → is_dry cs c ≡ true → None-of (all_writes (acts c))
  dry_acts End e = refl
  dry_acts (Put p l k x r) e = none_both (cells_of cs l) (all_writes (acts r)) (off (list_any (has_sort is_input cs) (cells_of cs l)) (first (keeps cs l) (is_dry cs r) e)) (dry_acts r (second (keeps cs l) (is_dry cs r) e))
  dry_acts (Aim p to t r) e = dry_acts r e
  dry_acts (If p t a b r) e =
      let r1 = second (is_dry cs a) (is_dry cs b && is_dry cs r) e in
      writes_both (acts a) (acts b ++ acts r) (dry_acts a (first (is_dry cs a) (is_dry cs b && is_dry cs r) e)) (writes_both (acts b) (acts r) (dry_acts b (first (is_dry cs b) (is_dry cs r) r1)) (dry_acts r (second (is_dry cs b) (is_dry cs r) r1)))
  dry_acts (Block p b r) e = writes_both (acts b) (acts r) (dry_acts b (first (is_dry cs b) (is_dry cs r) e)) (dry_acts r (second (is_dry cs b) (is_dry cs r) e))
  dry_acts (Loop p n b r) e = writes_both (acts b) (acts r) (dry_acts b (first (is_dry cs b) (is_dry cs r) e)) (dry_acts r (second (is_dry cs b) (is_dry cs r) e))
  dry_acts (Exit p n r) e = dry_acts r e
  dry_acts (Wait p l n r) e = dry_acts r e

  dry_all : (qs : List Process) → list_all (body_fits cs) qs ≡ true → None-of (flat_map (written_by cs) qs)
  dry_all [] e = refl
  dry_all (q ∷ qs) e = none_both (written_by cs q) (flat_map (written_by cs) qs)
      (dry_acts (live cs q.body) (dry_alive q.body (second (fit_code cs q q.body) (is_dry cs q.body) (first (body_fits cs q) (list_all (body_fits cs) qs) e))))
      (dry_all qs (second (body_fits cs q) (list_all (body_fits cs) qs) e))

  one_fits : (q : Process) → is_clocked cs q ≡ true → body_fits cs q ≡ true → fit_process cs q ≡ true
  one_fits q e f =
      let e1 = second (not q.is_thread || is_some q.edge) (fit_edge cs q.edge && (fit_reset cs q.is_thread q.reset && exits_within 0 q.body)) e in
      let e2 = second (fit_edge cs q.edge) (fit_reset cs q.is_thread q.reset && exits_within 0 q.body) e1 in
      both (not q.is_thread || is_some q.edge) _ (first (not q.is_thread || is_some q.edge) (fit_edge cs q.edge && (fit_reset cs q.is_thread q.reset && exits_within 0 q.body)) e)
      (both (fit_edge cs q.edge) _ (first (fit_edge cs q.edge) (fit_reset cs q.is_thread q.reset && exits_within 0 q.body) e1)
      (both (fit_reset cs q.is_thread q.reset) _ (first (fit_reset cs q.is_thread q.reset) (exits_within 0 q.body) e2)
      (both (exits_within 0 q.body) _ (second (fit_reset cs q.is_thread q.reset) (exits_within 0 q.body) e2) (first (fit_code cs q q.body) (is_dry cs q.body) f))))

  each_fits : (qs : List Process) → list_all (is_clocked cs) qs ≡ true → list_all (body_fits cs) qs ≡ true → list_all (fit_process cs) qs ≡ true
  each_fits [] e f = refl
  each_fits (q ∷ qs) e f = both (fit_process cs q) (list_all (fit_process cs) qs)
      (one_fits q (first (is_clocked cs q) (list_all (is_clocked cs) qs) e) (first (body_fits cs q) (list_all (body_fits cs) qs) f))
      (each_fits qs (second (is_clocked cs q) (list_all (is_clocked cs) qs) e) (second (body_fits cs q) (list_all (body_fits cs) qs) f))

pub whole : (p : Program) → processes_apart p.processes ≡ true → cells_apart p.cells ≡ true → list_all (fit_cell p.processes p.cells) p.cells ≡ true → list_all (is_clocked p.cells) p.processes ≡ true → list_all (body_fits p.cells) p.processes ≡ true → IsResolved p
whole p a b c d e =
    both (processes_apart p.processes) _ a (both (cells_apart p.cells) _ b (both (list_all (fit_cell p.processes p.cells) p.cells) _ c
    (both (list_all (fit_process p.cells) p.processes) (keeps_inputs p) (each_fits p.cells p.processes d e) (ap not (dry_all p.cells p.processes e)))))
