-- Roots join, or there is a first fault in them, and only what joining gives is derived.
use Rattle.std.proofs.Common.{◌≡◌, ℕ, List, [], ◌∷◌, length, Some, Result, Ok, Err, slice_get, refl, sym, ap, subst, ◌∙◌, arith}
use Rattle.scc_base.specs.Outside.{Shelf}
use Rattle.scc_tokens_directives.specs.Directive.{words_in, with_names, word_texts}
use Rattle.scc_tokens_laws.specs.Faulted.{in_parts, unopened, RootsStop, no_root_read, within_root, behind_root, at_start, StopsAt, in_roots, at_end}
use Rattle.scc_tokens.specs.Files.{Asked, asked}
use Rattle.scc_tokens.specs.Join.{Ended, finished, join_of}
use Rattle.scc_tokens_laws.specs.Joined.{JoinsFile, JoinsRoots, no_root, one_root, JoinsTo}
use Rattle.scc_tokens_directives.specs.Steps.{Stopped}
use Rattle.scc_tokens.specs.Walk.{Full}
use Rattle.scc_tokens_directives.specs.declared.directive.Words.{Words}
use Rattle.scc_tokens_directives.specs.declared.file.File.{File}
use Rattle.scc_tokens_directives.specs.declared.file.Source.{Source}
use Rattle.scc_tokens.specs.declared.joining.Joined.{Joined}
use Rattle.scc_tokens_laws.proofs.Chosen.{derive_level}
use Rattle.scc_tokens_laws.proofs.Deriving.{joins_whole}
use Rattle.scc_tokens_laws.proofs.Faulting.{stops_first}
use Rattle.scc_tokens_laws.proofs.Known.{Ready, get_some, asked_ready}
use Rattle.scc_tokens_laws.proofs.Live.{JoinsAll, joins_turn, joins_end, joins_stop}

data RootsAll (shelf : Shelf) (w : Words) (roots : List (List ℕ)) (before : ℕ) (f : Full) : Type 0 where
  roots_join : {last : ℕ} {g : Full} → JoinsRoots shelf w roots before f last g → RootsAll shelf w roots before f
  roots_stop : {g : Full} {h : Stopped} → RootsStop shelf w roots f g h → RootsAll shelf w roots before f

derive_roots : (shelf : Shelf) (w : Words) (roots : List (List ℕ)) (before : ℕ) (f : Full) → Ready w f.asked → RootsAll shelf w roots before f
derive_roots shelf w [] before f ready = roots_join no_root
derive_roots shelf w (name ∷ names) before f ready = by (asked shelf w name f.asked) refl (λ n g r. derive_roots shelf w names n g r)
  where
    more : (a : Asked) (n : ℕ) (g : Full) → asked shelf w name f.asked ≡ (a, Ok n) → JoinsFile shelf w 15 n (record f { asked = a }) g → RootsAll shelf w names n g → RootsAll shelf w (name ∷ names) before f
    more a n g e file (roots_join rest) = roots_join (one_root e file rest)
    more a n g e file (roots_stop rest) = roots_stop (behind_root e file rest)

    found : (a : Asked) (n : ℕ) (file : File) (source : Source) → asked shelf w name f.asked ≡ (a, Ok n) → slice_get a.known n ≡ Some file → slice_get a.sources n ≡ Some source
        → ((n : ℕ) (g : Full) → Ready w g.asked → RootsAll shelf w names n g)
        → JoinsAll (record { shelf = shelf; words = w; number = n; source = source; unclosed = file.unclosed; below = 15 }) file.tokens (record f { asked = a }) → RootsAll shelf w (name ∷ names) before f
    found a n file source e is_file is_source rest (joins_stop s) = roots_stop (within_root e (in_parts is_file is_source s))
    found a n file source e is_file is_source rest (joins_turn q turns r h) = roots_stop (within_root e (unopened is_file is_source q turns))
    found a n file source e is_file is_source rest (joins_end {g = g} q r) = more a n g e (record { file = file; source = source; is_file = is_file; is_source = is_source; joins = q }) (rest n g r)

    by : (p : Asked × Result ℕ Stopped) → asked shelf w name f.asked ≡ p → ((n : ℕ) (g : Full) → Ready w g.asked → RootsAll shelf w names n g) → RootsAll shelf w (name ∷ names) before f
    by (a, Err h) e rest = roots_stop (no_root_read e)
    by (a, Ok n) e rest =
        let r = asked_ready shelf w name f.asked a n e ready in
        let now = r.ready in
        let even = now.even in
        let file = get_some a.known n r.within in
        let source = get_some a.sources n (omega (arith, r.within)) in
        let good = now.good n file.item file.is in
        found a n file.item source.item e file.is source.is rest
        (derive_level 15 (length file.item.tokens) (record { shelf = shelf; words = w; number = n; source = source.item; unclosed = file.item.unclosed; below = 15 }) refl file.item.tokens (record f { asked = a }) (omega arith)
        (record { low = 0; orderly = good.orderly; unclosed = good.unclosed_is; ready = now; has = record { file = file.item; is_file = file.is; unclosed = refl; is_source = source.is } }))

data All (shelf : Shelf) (before roots : List (List ℕ)) : Type 0 where
  all_join : {names : List (List ℕ)} {sources : List Source} {j : Joined} → JoinsTo shelf before roots names sources j → All shelf before roots
  all_stop : {names : List (List ℕ)} {sources : List Source} {h : Stopped} → StopsAt shelf before roots names sources h → All shelf before roots

derive_all : (shelf : Shelf) (before roots : List (List ℕ)) → All shelf before roots
derive_all shelf before roots = by (derive_roots shelf (words_in (with_names before word_texts)) roots 0 (at_start before) (record { even = refl; good = λ i x e. cc }))
  where
    ended : (last : ℕ) (f : Full) (r : Result Joined Stopped) → JoinsRoots shelf (words_in (with_names before word_texts)) roots 0 (at_start before) last f → finished f.asked.sources last f.state.out ≡ r → All shelf before roots
    ended last f (Ok j) q e = all_join {names = f.asked.names} {sources = f.asked.sources} (record { last = last; known = f.asked.known; state = f.state; joins = q; ends = e })
    ended last f (Err h) q e = all_stop (at_end q e)

    by : RootsAll shelf (words_in (with_names before word_texts)) roots 0 (at_start before) → All shelf before roots
    by (roots_join {last = last} {g = g} q) = ended last g (finished g.asked.sources last g.state.out) q refl
    by (roots_stop s) = all_stop (in_roots s)

ok_not_err : (j : Joined) (h : Stopped) → ◌≡◌ {A = Result Joined Stopped} (Ok j) (Err h) → ⊥
ok_not_err j h e = cc

same_joined : (i j : Joined) → ◌≡◌ {A = Result Joined Stopped} (Ok i) (Ok j) → i ≡ j
same_joined i j e = cc

same_stopped : (i j : Stopped) → ◌≡◌ {A = Result Joined Stopped} (Err i) (Err j) → i ≡ j
same_stopped i j e = cc

pub only_joins : (shelf : Shelf) (before roots names : List (List ℕ)) (sources : List Source) (j : Joined) → join_of shelf before roots ≡ (names, sources, Ok j) → JoinsTo shelf before roots names sources j
only_joins shelf before roots names sources j e = by (derive_all shelf before roots)
  where
    by : All shelf before roots → JoinsTo shelf before roots names sources j
    by (all_join {names = n} {sources = s} {j = i} x) =
        let same = sym (joins_whole shelf before roots n s i x) ∙ e in
        let a : n ≡ names = ap (λ (z : Ended). z.0) same in
        let b : s ≡ sources = ap (λ (z : Ended). z.1) same in
        let c : i ≡ j = same_joined i j (ap (λ (z : Ended). z.2) same) in
        subst (λ k. JoinsTo shelf before roots names sources k) c (subst (λ l. JoinsTo shelf before roots names l i) b (subst (λ l. JoinsTo shelf before roots l s i) a x))
    by (all_stop {names = n} {sources = s} {h = h} x) =
        let same = sym e ∙ stops_first shelf before roots n s h x in
        absurd (ok_not_err j h (ap (λ (z : Ended). z.2) same))

pub only_stops : (shelf : Shelf) (before roots names : List (List ℕ)) (sources : List Source) (h : Stopped) → join_of shelf before roots ≡ (names, sources, Err h) → StopsAt shelf before roots names sources h
only_stops shelf before roots names sources h e = by (derive_all shelf before roots)
  where
    by : All shelf before roots → StopsAt shelf before roots names sources h
    by (all_stop {names = n} {sources = s} {h = i} x) =
        let same = sym (stops_first shelf before roots n s i x) ∙ e in
        let a : n ≡ names = ap (λ (z : Ended). z.0) same in
        let b : s ≡ sources = ap (λ (z : Ended). z.1) same in
        let c : i ≡ h = same_stopped i h (ap (λ (z : Ended). z.2) same) in
        subst (λ k. StopsAt shelf before roots names sources k) c (subst (λ l. StopsAt shelf before roots names l i) b (subst (λ l. StopsAt shelf before roots l s i) a x))
    by (all_join {names = n} {sources = s} {j = j} x) =
        let same = sym (joins_whole shelf before roots n s j x) ∙ e in
        absurd (ok_not_err j h (ap (λ (z : Ended). z.2) same))
