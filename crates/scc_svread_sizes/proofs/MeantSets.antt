-- What an edge sets and what a reset loads, read and without a note of the first walk: it is printed so, and has right sizes and names.
use Rattle.std.proofs.Common.{◌≡◌, ◌<◌, ◌+◌, ◌-◌, ◌^◌, ℕ, true, false, nat_eq, List, [], ◌∷◌, ◌++◌, map, length, refl, sym, subst, ap, ◌∙◌, arith}
use Rattle.std.specs.Prelude.{codes, flat_map, Option, Some}
use Rattle.std.specs.List.{list_all}
use Rattle.std.proofs.lemmas.Bool.{eqb-true}
use Rattle.scc_svtree.specs.declared.module.SvVar.{SvVar}
use Rattle.scc_svtree.specs.Variables.{width_at, IsWidth}
use Rattle.scc_svtree.specs.Term.{Term, term_of}
use Rattle.scc_svtree.specs.Mentions.{reads}
use Rattle.scc_svtree.specs.Concats.{expr_concats}
use Rattle.scc_svtree.specs.Sound.{Each, AreNamed, AreSizedSets, AreSizedLoads, targets, load_targets, sets_read, is_among}
use Rattle.scc_svtext.specs.Fixed.{fixed_text}
use Rattle.scc_svtext.specs.Pieces.{blanks, name_at, literal_text}
use Rattle.scc_svtext.specs.ExprText.{expr_text}
use Rattle.scc_svtext.specs.ModuleText.{names_of, set_text, load_text}
use Rattle.scc_svread_grammar.specs.declared.raw.RawLiteral.{RawLiteral}
use Rattle.scc_svread_grammar.specs.declared.raw.RawExpr.{RawExpr}
use Rattle.scc_svread_grammar.specs.declared.raw.RawSet.{RawSet}
use Rattle.scc_svread_grammar.specs.declared.raw.RawLoad.{RawLoad}
use Rattle.scc_svread_grammar.specs.Lexical.{Bytes, ReadsName, ReadsLiteral}
use Rattle.scc_svread_grammar.specs.Grammar.{ReadsSets, ReadsLoads}
use Rattle.scc_svread_check.specs.Numbers.{small_number, word_number}
use Rattle.scc_svread_written.specs.Resolved.{number_of, expr_of, set_of, load_of}
use Rattle.scc_svread_check.specs.Scope.{Scope, is_wrong_literal, once}
use Rattle.scc_svread_check.specs.Parts.{cut, with_one, literal_bytes, part_of}
use Rattle.scc_svread_check.specs.Lines.{lines}
use Rattle.scc_svread_check.specs.Blocks.{set_line, is_wrong_load, load_line}
use Rattle.scc_svread_written.proofs.Decimals.{both}
use Rattle.scc_svread_written.proofs.Formed.{Declares}
use Rattle.scc_svread_written.proofs.Sums.{two, five}
use Rattle.scc_svread_written.proofs.Leaves.{bare_names}
use Rattle.scc_svread_written.proofs.Statements.{deeper}
use Rattle.scc_svread_sizes.proofs.MeantWalks.{Demands, demands_by, demands_then, demands_none, pass_first, pass_last, demands_size}
use Rattle.scc_svread_sizes.proofs.MeantLeaves.{or_left, or_right, MeantName, name_demands, name_text, literal_meant}
use Rattle.scc_svread_sizes.proofs.MeantOperators.{either, cut_is}
use Rattle.scc_svread_sizes.proofs.MeantExpressions.{Meant, IsMeant, expr_meant}
use Rattle.scc_svread_sizes.proofs.MeantStatements.{length_is}

module _ (vars : List SvVar) (named : AreNamed vars) (widths : Each (λ v. IsWidth v.width) vars) (s : Scope) (d : Declares s vars) where
  abbrev names : List Bytes
  names = names_of vars

  abbrev bare : List Bytes
  bare = bare_names vars

  abbrev IsName : Bytes → Type 0
  IsName name = MeantName vars named widths s d name

  abbrev IsExpr : Bytes → Bytes → RawExpr → Type 0
  IsExpr ts r x = IsMeant vars named widths s d ts r x

  -- a name's number as it stands in a text
  abbrev at_name : Bytes → Bytes
  at_name name = name_at names (number_of bare name)

  text_of : (ts r name : Bytes) → ReadsName ts r name → IsName name → ts ≡ at_name name ++ r
  text_of ts r name k m = name_text vars named widths s d ts r name k m

  is_within : (i v : ℕ) → i < length vars → nat_eq i v ≡ true → v < length vars
  is_within i v h e = subst (λ k. k < length vars) (eqb-true i v e) h

  -- ---- what an edge sets

  pub record MeantSets (n : ℕ) (ts r : Bytes) (xs : List RawSet) : Type 0 where
    pub text : blanks n ++ ts ≡ flat_map (set_text names (n + 2)) (map (set_of bare) xs) ++ (blanks n ++ r)
    pub sized : AreSizedSets (width_at vars) (map (set_of bare) xs)
    pub assigned : (v : ℕ) → is_among (targets (map (set_of bare) xs)) v ≡ true → v < length vars
    pub read : (v : ℕ) → sets_read (map (set_of bare) xs) v ≡ true → v < length vars
    pub concats : list_all (λ u. expr_concats u.value) (map (set_of bare) xs) ≡ true

  abbrev AreMeantSets : ℕ → Bytes → Bytes → List RawSet → Type 0
  AreMeantSets n ts r xs = (m : ℕ) → Demands (lines (map (set_line s) xs) m) (MeantSets n ts r xs)

  meant_no_sets : {n : ℕ} {r : Bytes} → AreMeantSets n r r []
  meant_no_sets m = demands_none (record { text = refl; sized = tt; assigned = λ v h. cc; read = λ v h. cc; concats = refl })

  module _ (n : ℕ) (a b c r target : Bytes) (x : RawExpr) (more : List RawSet) where
    set_put : ReadsName a (codes " <= " ++ b) target → IsName target
        → Meant vars named widths s d b (codes ";\n" ++ (blanks n ++ c)) (term_of (expr_of bare x)) (expr_text names (expr_of bare x)) (expr_concats (expr_of bare x)) (part_of s x).bits → MeantSets n c r more
        → MeantSets n (codes "  " ++ a) r (record { target = target; value = x } ∷ more)
    unfolding fixed_text
    set_put k f g h =
        let u : Bytes = expr_text names (expr_of bare x) in
        let t : Term = term_of (expr_of bare x) in
        let later : Bytes = flat_map (set_text names (n + 2)) (map (set_of bare) more) in
        let own : Bytes = set_text names (n + 2) (set_of bare (record { target = target; value = x })) in record {
          text = sym (deeper n a) ∙ ap (λ w. blanks (n + 2) ++ w) (text_of a (codes " <= " ++ b) target k f ∙ ap (λ w. at_name target ++ (codes " <= " ++ w)) g.text)
              ∙ sym (five (blanks (n + 2)) (at_name target) (codes " <= ") u (codes ";\n") (blanks n ++ c)) ∙ ap (λ w. own ++ w) h.text ∙ sym (two own later (blanks n ++ r));
          sized = (g.fits.sized, h.sized);
          assigned = λ v. either (nat_eq (number_of bare target) v) (is_among (targets (map (set_of bare) more)) v) (is_within (number_of bare target) v f.within) (h.assigned v);
          read = λ v. either (reads t v) (sets_read (map (set_of bare) more) v) (g.fits.named v) (h.read v);
          concats = both (expr_concats (expr_of bare x)) _ g.concats h.concats;
        }

    meant_set : ReadsName a (codes " <= " ++ b) target → IsExpr b (codes ";\n" ++ (blanks n ++ c)) x → AreMeantSets n c r more → AreMeantSets n (codes "  " ++ a) r (record { target = target; value = x } ∷ more)
    meant_set k e l m = demands_by (λ h. set_put k h.0.0 h.0.1 h.1) (demands_then (pass_last 2 (demands_then (pass_last 4 (pass_first m (name_demands vars named widths s d target))) e)) (l m))

  pub sets_meant : {n : ℕ} {ts r : Bytes} {xs : List RawSet} → ReadsSets n ts r xs → AreMeantSets n ts r xs
  sets_meant (ReadsSets.no_sets) = meant_no_sets
  sets_meant {n} (ReadsSets.set {a = a} {b = b} {c = c} {r = r} {target = target} {value = x} {more = more} k e l) = meant_set n a b c r target x more k (expr_meant vars named widths s d e) (sets_meant l)

  -- ---- what a reset loads

  pub record MeantLoads (ts r : Bytes) (xs : List RawLoad) : Type 0 where
    pub text : blanks 4 ++ ts ≡ flat_map (load_text vars names) (map (load_of bare) xs) ++ (blanks 4 ++ r)
    pub sized : AreSizedLoads (width_at vars) (map (load_of bare) xs)
    pub assigned : (v : ℕ) → is_among (load_targets (map (load_of bare) xs)) v ≡ true → v < length vars

  abbrev AreMeantLoads : Bytes → Bytes → List RawLoad → Type 0
  AreMeantLoads ts r xs = (m : ℕ) → Demands (lines (map (load_line s) xs) m) (MeantLoads ts r xs)

  meant_no_loads : {r : Bytes} → AreMeantLoads r r []
  meant_no_loads m = demands_none (record { text = refl; sized = tt; assigned = λ v h. cc })

  module _ (a b c r target : Bytes) (value : RawLiteral) (more : List RawLoad) where
    abbrev own_load : RawLoad
    own_load = record { target = target; value = value }

    load_put : ReadsName a (codes " <= " ++ b) target → ReadsLiteral b (codes ";\n" ++ (blanks 4 ++ c)) value → IsName target → is_wrong_load s own_load ≡ false → MeantLoads c r more
        → MeantLoads (codes "  " ++ a) r (own_load ∷ more)
    unfolding fixed_text
    load_put k l f g h =
        let w : ℕ = width_at vars (number_of bare target) in
        let v : ℕ = word_number value.digits in
        let m = literal_meant value l (or_left (is_wrong_literal value) _ g) in
        let size : Option ℕ = with_one (λ high. cut (high + 1)) (once s target) in
        let high : w - 1 + 1 ≡ w = omega (arith, f.width.0) in
        let long : size ≡ Some w = ap (with_one (λ high. cut (high + 1))) f.high ∙ ap (λ n. Some (cut n)) high ∙ ap (λ n. Some n) (cut_is w f.width.1) in
        let exact : small_number value.width ≡ w = length_is size value m (or_right (is_wrong_literal value) _ g) w long in
        let later : Bytes = flat_map (load_text vars names) (map (load_of bare) more) in
        let own : Bytes = load_text vars names (load_of bare own_load) in record {
          text = ap (λ t. blanks 6 ++ t) (text_of a (codes " <= " ++ b) target k f ∙ ap (λ t. at_name target ++ (codes " <= " ++ t)) (m.text ∙ ap (λ n. literal_text n v ++ (codes ";\n" ++ (blanks 4 ++ c))) exact))
              ∙ sym (five (blanks 6) (at_name target) (codes " <= ") (literal_text w v) (codes ";\n") (blanks 4 ++ c)) ∙ ap (λ t. own ++ t) h.text ∙ sym (two own later (blanks 4 ++ r));
          sized = (subst (λ n. v < 2 ^ n) exact m.fits, h.sized);
          assigned = λ i. either (nat_eq (number_of bare target) i) (is_among (load_targets (map (load_of bare) more)) i) (is_within (number_of bare target) i f.within) (h.assigned i);
        }

    meant_load : ReadsName a (codes " <= " ++ b) target → ReadsLiteral b (codes ";\n" ++ (blanks 4 ++ c)) value → AreMeantLoads c r more → AreMeantLoads (codes "  " ++ a) r (own_load ∷ more)
    meant_load k l e m = demands_by (λ h. load_put k l h.0.0 h.0.1 h.1)
        (demands_then (pass_last (literal_bytes value + 2) (demands_then (pass_last 4 (pass_first m (name_demands vars named widths s d target))) (demands_size (is_wrong_load s own_load)))) (e m))

  pub loads_meant : {ts r : Bytes} {xs : List RawLoad} → ReadsLoads ts r xs → AreMeantLoads ts r xs
  loads_meant (ReadsLoads.no_loads) = meant_no_loads
  loads_meant (ReadsLoads.load {a = a} {b = b} {c = c} {r = r} {target = target} {value = value} {more = more} k l e) = meant_load a b c r target value more k l (loads_meant e)
