-- What is counted over the processes of a core is what the elements of all patterns are.
use Rattle.std.proofs.Common.{◌≡◌, ℕ, ◌+◌, if◌then◌else◌, List, [], ◌∷◌, ◌++◌, map, flat_map, Option, Some, None, refl, sym, ap, ◌∙◌, arith}
use Rattle.std.specs.Prelude.{option_map, unwrap_or, sum, fold}
use Rattle.std.proofs.lemmas.List.{map-append}
use Rattle.scc_base.specs.declared.refusal.Place.{Place}
use Rattle.scc_bits.specs.Value.{Number}
use Rattle.scc_core.specs.declared.expr.CoreExpr.{CoreExpr}
use Rattle.scc_core.specs.declared.program.CoreProcess.{CoreProcess}
use Rattle.scc_core.specs.declared.program.Sort2.{Sort2}
use Rattle.scc_core.specs.declared.program.Sort2.TheVariants as sort
use Rattle.scc_core.specs.declared.stmt.CoreStmt.{CoreStmt}
use Rattle.scc_core.specs.declared.stmt.CoreNode.TheOpen as node
use Rattle.scc_core_spec.specs.Code.{Code, End, If, Block, Loop, Exit, Wait}
use Rattle.scc_core_spec.specs.Live.{live}
use Rattle.scc_core_spec.specs.Named.{Step, elements}
use Rattle.scc_core_spec.specs.Segments.{Segment, Plain, Finish, all_segments, segment_code}
use Rattle.scc_core_spec.specs.Sizes.{live_body, parts_of, patterns_of, places_of, written_left}
use Rattle.scc_core_spec.specs.Static.{Cells, pattern}
use Rattle.scc_core_spec.specs.Term.{Left}
use Rattle.scc_core_spec.specs.Uses.{Act, Use, acts, loads}
use Rattle.scc_core_view.specs.Codes.{code_of, counted, stmt_code}
use Rattle.scc_core_view.specs.Programs.{is_thread, process_of}
use Rattle.scc_core_view.specs.Terms.{term_of}
use Rattle.scc_states_cut.specs.declared.types.SegStmt.{SegStmt, fold-roll-SegStmt}
use Rattle.scc_states_cut.specs.declared.types.SegNode.{SegNode, roll-SegNode, map-SegNode, fold-SegNode, fold-roll-SegNode}
use Rattle.scc_states_cut.specs.declared.types.SegNode.TheOpen.{SegNode-F}
use Rattle.scc_states_cut.specs.declared.types.SegNode.TheOpen as segment
use Rattle.scc_states_cut.specs.Cut.{Node, before, segment_node, segment_step, stmt_segment, segment_of}
use Rattle.scc_states.specs.declared.types.Split.{Split}
use Rattle.scc_states_sum.specs.Bodies.{act_elements, acts_elements, code_elements, IsMeasuredStmt, assign, test, block, loop, exit, wait, AreMeasuredStmts}
use Rattle.scc_states_sum.specs.Elements.{total}
use Rattle.scc_states_sum.specs.Live.{in_segment, statement_elements, segment_statement, segment_elements, split_elements, live_body as counted_body, of_method, method_elements}
use Rattle.scc_states_sum.specs.Measured.{elements_at, used_elements}
use Rattle.scc_states_sum.specs.Summed.{seg_made, IsMeasuredSegment, no_seg, plain_seg, test_seg, wait_seg, AreMeasuredSegments, no_segments, more_segments, HasSplits, no_process, a_method, a_thread}
use Rattle.scc_states_sum.proofs.Bodies.{code_made, says, all_paths, acts_two}
use Rattle.scc_states_sum.proofs.Measuring.{tells}

-- ---- sums of patterns

plus_none : (n : ℕ) → n ≡ 0 + n
plus_none n = omega arith

none_more : (n : ℕ) → n + 0 ≡ n
none_more n = omega arith

plus_three : (a b c : ℕ) → a + (b + c) ≡ a + b + c
plus_three a b c = omega arith

sum_both : (xs ys : List ℕ) → total (xs ++ ys) ≡ total xs + total ys
sum_both [] ys = plus_none (total ys)
sum_both (x ∷ xs) ys = ap (λ n. x + n) (sum_both xs ys) ∙ plus_three x (total xs) (total ys)

sum_from : (a : ℕ) (xs : List ℕ) → fold (λ a x. a + x) a xs ≡ a + total xs
sum_from a [] = sym (none_more a)
sum_from a (x ∷ xs) = sum_from (a + x) xs ∙ sym (plus_three a x (total xs))

pub sum_total : (xs : List ℕ) → sum xs ≡ total xs
sum_total xs = sum_from 0 xs ∙ sym (plus_none (total xs))

abbrev pub summed : List (List Step) → ℕ
summed ps = total (map elements ps)

summed_both : (ps qs : List (List Step)) → summed (ps ++ qs) ≡ summed ps + summed qs
summed_both ps qs = ap total (map-append elements ps qs) ∙ sum_both (map elements ps) (map elements qs)

abbrev there : Option (List Step) → List (List Step)
there o = unwrap_or (option_map (λ p. p ∷ []) o) []

of_pattern : (o : Option (List Step)) → summed (there o) ≡ unwrap_or (option_map elements o) 0
of_pattern None = refl
of_pattern (Some p) = none_more (elements p)

module _ (cs : Cells) where
  of_places : (ls : List Left) → summed (flat_map (λ l. there (pattern cs l)) ls) ≡ total (map (elements_at cs) ls)
  of_places [] = refl
  of_places (l ∷ ls) =
      summed_both (there (pattern cs l)) (flat_map (λ l. there (pattern cs l)) ls)
      ∙ ap (λ n. n + summed (flat_map (λ l. there (pattern cs l)) ls)) (of_pattern (pattern cs l)) ∙ ap (λ n. elements_at cs l + n) (of_places ls)

  total_both : (ls ms : List Left) → total (map (elements_at cs) (ls ++ ms)) ≡ total (map (elements_at cs) ls) + total (map (elements_at cs) ms)
  total_both [] ms = plus_none _
  total_both (l ∷ ls) ms = ap (λ n. elements_at cs l + n) (total_both ls ms) ∙ plus_three (elements_at cs l) (total (map (elements_at cs) ls)) (total (map (elements_at cs) ms))

  of_uses : (us : List Use) → total (map (elements_at cs) (map (λ u. u.left) us)) ≡ used_elements cs us
  of_uses [] = refl
  of_uses (u ∷ us) = ap (λ n. elements_at cs u.left + n) (of_uses us)

  of_act : (a : Act) → total (map (elements_at cs) (places_of a)) ≡ act_elements cs a
  of_act a = total_both (written_left a.writes) (map (λ u. u.left) a.reads) ∙ ap (λ n. total (map (elements_at cs) (written_left a.writes)) + n) (of_uses a.reads)

  of_acts : (xs : List Act) → total (map (elements_at cs) (flat_map places_of xs)) ≡ acts_elements cs xs
  of_acts [] = refl
  of_acts (a ∷ xs) = total_both (places_of a) (flat_map places_of xs) ∙ ap (λ n. n + total (map (elements_at cs) (flat_map places_of xs))) (of_act a) ∙ ap (λ n. act_elements cs a + n) (of_acts xs)

  pub of_code : (c : Code) → summed (patterns_of cs c) ≡ code_elements cs c
  of_code c = of_places (flat_map places_of (acts c)) ∙ of_acts (acts c)

  pub of_codes : (codes : List Code) → summed (flat_map (patterns_of cs) codes) ≡ total (map (code_elements cs) codes)
  of_codes [] = refl
  of_codes (c ∷ codes) =
      summed_both (patterns_of cs c) (flat_map (patterns_of cs) codes) ∙ ap (λ n. n + summed (flat_map (patterns_of cs) codes)) (of_code c) ∙ ap (λ n. code_elements cs c + n) (of_codes codes)

  -- ---- segments

  module _ (known : CoreExpr → Option Number) where
    seg_folded : (p : Place) (x : SegNode-F SegNode SegStmt) → segment_statement known (seg_made p x) ≡ in_segment known (map-SegNode SegNode SegStmt ℕ ℕ (fold-SegNode ℕ ℕ (in_segment known) (λ s. s.node)) (segment_statement known) x)
    seg_folded p x = fold-roll-SegStmt ℕ ℕ (in_segment known) (λ s. s.node) (record { place = p; node = roll-SegNode x }) ∙ fold-roll-SegNode ℕ ℕ (in_segment known) (λ s. s.node) x

    seg_stands : (waits : List ℕ) (p : Place) (x : SegNode-F SegNode SegStmt) (rest : Segment) → stmt_segment waits (seg_made p x) rest
        ≡ segment_node waits (map-SegNode SegNode SegStmt Node (Segment → Segment) (fold-SegNode Node (Segment → Segment) (segment_node waits) segment_step) (stmt_segment waits) x) p rest
    seg_stands waits p x rest =
        ap (λ f. f rest) (fold-roll-SegStmt Node (Segment → Segment) (segment_node waits) segment_step (record { place = p; node = roll-SegNode x }))
        ∙ ap (λ f. f p rest) (fold-roll-SegNode Node (Segment → Segment) (segment_node waits) segment_step x)

    -- a statement that stands whole, before the rest of its segment
    plain_code : {s : CoreStmt} → IsMeasuredStmt cs known s → (rest : Segment) → code_elements cs (segment_code (Plain (code_of (s ∷ [])) rest)) ≡ code_elements cs (stmt_code s (segment_code rest))
    plain_code (assign {p = p} {l = l} {e = e} h g) rest =
        ap (λ c. code_elements cs (segment_code (Plain c rest))) (code_made p (node.Assign l e) End) ∙ ap (code_elements cs) (sym (code_made p (node.Assign l e) (segment_code rest)))
    plain_code (test {p = p} {t = t} {a = a} {b = b} w h f g) rest =
        ap (λ c. code_elements cs (segment_code (Plain c rest))) (code_made p (node.If t a b) End) ∙ ap (code_elements cs) (sym (code_made p (node.If t a b) (segment_code rest)))
    plain_code (block {p = p} {b = b} f) rest =
        ap (λ c. code_elements cs (segment_code (Plain c rest))) (code_made p (node.Block b) End) ∙ ap (code_elements cs) (sym (code_made p (node.Block b) (segment_code rest)))
    plain_code (loop {p = p} n {b = b} f) rest =
        ap (λ c. code_elements cs (segment_code (Plain c rest))) (code_made p (node.Loop n b) End) ∙ ap (code_elements cs) (sym (code_made p (node.Loop n b) (segment_code rest)))
    plain_code (exit {p = p} n) rest =
        ap (λ c. code_elements cs (segment_code (Plain c rest))) (code_made p (node.Exit n) End) ∙ ap (code_elements cs) (sym (code_made p (node.Exit n) (segment_code rest)))
    plain_code (wait {p = p} n) rest =
        ap (λ c. code_elements cs (segment_code (Plain c rest))) (code_made p (node.Wait n) End) ∙ ap (code_elements cs) (sym (code_made p (node.Wait n) (segment_code rest)))

    test_sum : (t a b : ℕ) → t + (a + b) + 0 ≡ 0 + t + (a + (b + 0))
    test_sum t a b = omega arith

    pub of_segment : (waits : List ℕ) {ss : List SegStmt} → IsMeasuredSegment cs known ss → segment_elements known ss ≡ code_elements cs (segment_code (segment_of waits ss))
    of_segment waits no_seg = refl
    of_segment waits (plain_seg {p = p} {s = s} {ss = ss} h f) =
        let rest = segment_of waits ss in
        ap (λ n. n + segment_elements known ss) (seg_folded p (segment.Plain s)) ∙ ap (λ n. statement_elements known s + n) (of_segment waits f)
        ∙ (says cs known h).whole (segment_code rest) ∙ sym (plain_code h rest) ∙ ap (λ x. code_elements cs (segment_code x)) (sym (seg_stands waits p (segment.Plain s) rest))
    of_segment waits (test_seg {p = p} {t = t} {a = a} {b = b} h f g) =
        let u = used_elements cs (loads (term_of t)) in
        let x = segment_code (segment_of waits a) in
        let y = segment_code (segment_of waits b) in
        ap (λ n. n + 0) (seg_folded p (segment.If t a b) ∙ ap (λ n. n + (segment_elements known a + segment_elements known b)) (tells cs known h)
        ∙ ap (λ n. u + (n + segment_elements known b)) (of_segment waits f) ∙ ap (λ n. u + (code_elements cs x + n)) (of_segment waits g))
        ∙ test_sum u (code_elements cs x) (code_elements cs y) ∙ ap (λ n. 0 + u + n) (sym (acts_two cs (acts x) (acts y) []))
        ∙ ap (λ x. code_elements cs (segment_code x)) (sym (seg_stands waits p (segment.If t a b) Finish))
    of_segment waits (wait_seg {p = p} n) =
        ap (λ m. m + 0) (seg_folded p (segment.Wait n)) ∙ ap (λ x. code_elements cs (segment_code x)) (sym (seg_stands waits p (segment.Wait n) Finish))

    of_segments : (waits : List ℕ) {all : List (List SegStmt)} → AreMeasuredSegments cs known all → total (map (segment_elements known) all) ≡ total (map (code_elements cs) (map segment_code (map (segment_of waits) all)))
    of_segments waits no_segments = refl
    of_segments waits (more_segments {ss = ss} {all = all} h f) =
        ap (λ n. n + total (map (segment_elements known) all)) (of_segment waits h) ∙ ap (λ n. code_elements cs (segment_code (segment_of waits ss)) + n) (of_segments waits f)

    -- ---- processes

    method_sum : (p : CoreProcess) (s : Sort2) → s ≡ sort.Method → AreMeasuredStmts cs known p.body → of_method s (counted_body known p.body).elements ≡ code_elements cs (live cs (code_of p.body))
    method_sum p s h m = ap (λ x. of_method x (counted_body known p.body).elements) h ∙ (all_paths cs known m).elements

    method_parts : (p : CoreProcess) → p.sort ≡ sort.Method → parts_of cs (process_of p) ≡ live cs (code_of p.body) ∷ []
    method_parts p h = ap (λ s. if is_thread s then map segment_code (all_segments (live_body cs (code_of p.body))) else live cs (code_of p.body) ∷ []) h

    thread_parts : (p : CoreProcess) → p.sort ≡ sort.Thread → parts_of cs (process_of p) ≡ map segment_code (all_segments (live_body cs (code_of p.body)))
    thread_parts p h = ap (λ s. if is_thread s then map segment_code (all_segments (live_body cs (code_of p.body))) else live cs (code_of p.body) ∷ []) h

    split_sum : (p : CoreProcess) (s : Split) → segment_of s.waits s.reset ∷ map (segment_of s.waits) s.segments ≡ all_segments (live_body cs (code_of p.body))
        → IsMeasuredSegment cs known s.reset → AreMeasuredSegments cs known s.segments → split_elements known s ≡ total (map (code_elements cs) (map segment_code (all_segments (live_body cs (code_of p.body)))))
    split_sum p s is h f =
        ap (λ n. n + total (map (segment_elements known) s.segments)) (of_segment s.waits h) ∙ ap (λ n. code_elements cs (segment_code (segment_of s.waits s.reset)) + n) (of_segments s.waits f)
        ∙ ap (λ xs. total (map (code_elements cs) (map segment_code xs))) is

    abbrev of_processes : List CoreProcess → ℕ
    of_processes ps = summed (flat_map (λ q. flat_map (patterns_of cs) (parts_of cs q)) (map process_of ps))

    more_processes : (p : CoreProcess) (ps : List CoreProcess) → of_processes (p ∷ ps) ≡ total (map (code_elements cs) (parts_of cs (process_of p))) + of_processes ps
    more_processes p ps =
        summed_both (flat_map (patterns_of cs) (parts_of cs (process_of p))) (flat_map (λ q. flat_map (patterns_of cs) (parts_of cs q)) (map process_of ps))
        ∙ ap (λ n. n + of_processes ps) (of_codes (parts_of cs (process_of p)))

    method_first : (m ms ss : ℕ) (c rest : ℕ) → m ≡ c → ms + ss ≡ rest → m + ms + ss ≡ c + 0 + rest
    method_first m ms ss c rest h i = omega (arith, h, i)

    thread_first : (m ms s ss : ℕ) (c rest : ℕ) → m ≡ 0 → s ≡ c → ms + ss ≡ rest → m + ms + (s + ss) ≡ c + rest
    thread_first m ms s ss c rest z h i = omega (arith, z, h, i)

    pub of_all : {ps : List CoreProcess} {all : List Split} → HasSplits cs known ps all → total (map (method_elements known) ps) + total (map (split_elements known) all) ≡ of_processes ps
    of_all no_process = refl
    of_all (a_method {p = p} {ps = ps} {all = all} h m rest) =
        method_first (method_elements known p) (total (map (method_elements known) ps)) (total (map (split_elements known) all)) (code_elements cs (live cs (code_of p.body))) (of_processes ps)
        (method_sum p p.sort h m) (of_all rest)
        ∙ ap (λ xs. total (map (code_elements cs) xs) + of_processes ps) (sym (method_parts p h)) ∙ sym (more_processes p ps)
    of_all (a_thread {p = p} {ps = ps} {s = s} {all = all} h is r f rest) =
        thread_first (method_elements known p) (total (map (method_elements known) ps)) (split_elements known s) (total (map (split_elements known) all))
        (total (map (code_elements cs) (map segment_code (all_segments (live_body cs (code_of p.body)))))) (of_processes ps)
        (ap (λ x. of_method x (counted_body known p.body).elements) h) (split_sum p s is r f) (of_all rest)
        ∙ ap (λ xs. total (map (code_elements cs) xs) + of_processes ps) (sym (thread_parts p h)) ∙ sym (more_processes p ps)
