-- What joining gives in the end.
use Rattle.std.proofs.Common.{◌≡◌, ℕ, List, [], Option, Some, None, Result, Ok, Err, slice_get, codes, refl, sym, subst, ap, ◌∙◌}
use Rattle.scc_base.specs.Names.{AllDiffer}
use Rattle.scc_base.specs.Outside.{Shelf}
use Rattle.scc_base.specs.declared.names.Name.{Name}
use Rattle.scc_tokens_directives.specs.Directive.{IsWords, name_in, words_in, with_names, word_texts}
use Rattle.scc_tokens.specs.Files.{HoldsAll, ToldAll, AllShort, FilesSay, Unread, number_of, shelf_of, first_part}
use Rattle.scc_tokens.specs.Join.{starts, roots_joined, roots_finished, joined_from, join_of, LacksFault, Somewhere}
use Rattle.scc_tokens_directives.specs.declared.directive.Words.{Words}
use Rattle.scc_tokens_directives.specs.declared.file.File.{File}
use Rattle.scc_tokens_directives.specs.declared.file.Source.{Source}
use Rattle.scc_tokens_directives.specs.declared.halt.Halt.{Halt}
use Rattle.scc_tokens_directives.specs.declared.halt.Halt.TheVariants as halt
use Rattle.scc_tokens.specs.declared.joining.Joined.{Joined}
use Rattle.scc_tokens.specs.declared.joining.JoinFault.{JoinFault}
use Rattle.scc_tokens.specs.declared.joining.JoinFault.TheVariants as fault
use Rattle.scc_tokens.specs.declared.walk.Joining.{Joining}
use Rattle.scc_tokens.proofs.Numbered.{number_is}
use Rattle.scc_tokens.proofs.Shelving.{first_holds, held_none}
use Rattle.scc_tokens.proofs.Walking.{full}

-- a word has its place in the table
word_is : (names : List (List ℕ)) (n : Name) (text : List ℕ) → AllDiffer names → slice_get names n.0 ≡ Some text → n ≡ name_in names text
word_is names n text d e = ap (λ (i : ℕ). record { 0 = i }) (sym (number_is names text n.0 d e))

pub words_are : (names : List (List ℕ)) (w : Words) → AllDiffer names → IsWords names w → w ≡ words_in names
words_are names w d h =
    let a : w.include ≡ name_in names (codes "include") = word_is names w.include _ d h.include in
    let b : w.define ≡ name_in names (codes "define") = word_is names w.define _ d h.define in
    let c : w.undef ≡ name_in names (codes "undef") = word_is names w.undef _ d h.undef in
    let e : w.ifdef ≡ name_in names (codes "ifdef") = word_is names w.ifdef _ d h.ifdef in
    let f : w.ifndef ≡ name_in names (codes "ifndef") = word_is names w.ifndef _ d h.ifndef in
    let g : w.endif ≡ name_in names (codes "endif") = word_is names w.endif _ d h.endif in
    let i : w.pragma ≡ name_in names (codes "pragma") = word_is names w.pragma _ d h.pragma in
    let j : w.once ≡ name_in names (codes "once") = word_is names w.once _ d h.once in
    let k : w.systemc ≡ name_in names (codes "systemc") = word_is names w.systemc _ d h.systemc in
    let l : w.h ≡ name_in names (codes "h") = word_is names w.h _ d h.h in
    let m : w.synthesis ≡ name_in names (codes "SCC_SYNTHESIS") = word_is names w.synthesis _ d h.synthesis in
    ap (λ x. record { include = x; define = w.define; undef = w.undef; ifdef = w.ifdef; ifndef = w.ifndef; endif = w.endif; pragma = w.pragma; once = w.once; systemc = w.systemc; h = w.h; synthesis = w.synthesis }) a
    ∙ ap (λ x. record { include = name_in names (codes "include"); define = x; undef = w.undef; ifdef = w.ifdef; ifndef = w.ifndef; endif = w.endif; pragma = w.pragma; once = w.once; systemc = w.systemc; h = w.h; synthesis = w.synthesis }) b
    ∙ ap (λ x. record { include = name_in names (codes "include"); define = name_in names (codes "define"); undef = x; ifdef = w.ifdef; ifndef = w.ifndef; endif = w.endif; pragma = w.pragma; once = w.once; systemc = w.systemc; h = w.h; synthesis = w.synthesis }) c
    ∙ ap (λ x. record (words_in names) { ifdef = x; ifndef = w.ifndef; endif = w.endif; pragma = w.pragma; once = w.once; systemc = w.systemc; h = w.h; synthesis = w.synthesis }) e
    ∙ ap (λ x. record (words_in names) { ifndef = x; endif = w.endif; pragma = w.pragma; once = w.once; systemc = w.systemc; h = w.h; synthesis = w.synthesis }) f
    ∙ ap (λ x. record (words_in names) { endif = x; pragma = w.pragma; once = w.once; systemc = w.systemc; h = w.h; synthesis = w.synthesis }) g
    ∙ ap (λ x. record (words_in names) { pragma = x; once = w.once; systemc = w.systemc; h = w.h; synthesis = w.synthesis }) i
    ∙ ap (λ x. record (words_in names) { once = x; systemc = w.systemc; h = w.h; synthesis = w.synthesis }) j
    ∙ ap (λ x. record (words_in names) { systemc = x; h = w.h; synthesis = w.synthesis }) k
    ∙ ap (λ x. record (words_in names) { h = x; synthesis = w.synthesis }) l
    ∙ ap (λ x. record (words_in names) { synthesis = x }) m

pub told_none : (held : Option Shelf) (sources : List Source) → sources ≡ [] → ToldAll held sources
told_none held sources e = λ shelf h. subst (HoldsAll (first_part shelf)) (sym e) tt

-- joining begins with the directives' words, and nothing read
pub join_is : (shelf : Shelf) (before names : List (List ℕ)) (w : Words) (roots : List (List ℕ)) (t : Joining) (k : List File) (s : List Source)
    → t ≡ starts w → k ≡ [] → s ≡ [] → w ≡ words_in names → names ≡ with_names before word_texts
    → roots_finished (roots_joined shelf w roots 0 (full t k s names)) ≡ join_of shelf before roots
unfolding join_of
join_is shelf before names w roots t k s e f g h i =
    ap roots_finished (ap (λ x. roots_joined shelf w roots 0 (full x k s names)) e ∙ ap (λ x. roots_joined shelf w roots 0 (full (starts w) x s names)) f ∙ ap (λ x. roots_joined shelf w roots 0 (full (starts w) [] x names)) g)
    ∙ ap (λ x. roots_finished (roots_joined shelf x roots 0 (full (starts x) [] [] names))) h
    ∙ ap (λ x. joined_from shelf x roots) i

-- some files hold what was read
pub somewhere_by : (sources : List Source) (r : Result Joined JoinFault) → HoldsAll (shelf_of sources) sources → AllShort sources
    → ((n : List ℕ) → r ≡ Err (fault.Missing n) → number_of sources n ≡ None) → ((n : List ℕ) → r ≡ Err (fault.Failed n) → number_of sources n ≡ None) → Somewhere sources r
somewhere_by sources r holds short miss fail = (shelf_of sources, first_holds (shelf_of sources) sources holds short, lacks r miss fail)
  where
    lacks : (r : Result Joined JoinFault) → ((n : List ℕ) → r ≡ Err (fault.Missing n) → number_of sources n ≡ None) → ((n : List ℕ) → r ≡ Err (fault.Failed n) → number_of sources n ≡ None)
        → LacksFault (shelf_of sources) r
    lacks (Ok j) m f = tt
    lacks (Err (fault.Stop s)) m f = tt
    lacks (Err (fault.Missing n)) m f = held_none sources n (m n refl)
    lacks (Err (fault.Failed n)) m f = held_none sources n (f n refl)

abbrev empty : Shelf
empty name = None

-- where nothing was read, no file is held
pub somewhere_none : (sources : List Source) (r : Result Joined JoinFault) → sources ≡ [] → Somewhere sources r
somewhere_none sources r e = (empty, subst (HoldsAll (first_part empty)) (sym e) tt, lacks r)
  where
    lacks : (r : Result Joined JoinFault) → LacksFault empty r
    lacks (Ok j) = tt
    lacks (Err (fault.Stop s)) = tt
    lacks (Err (fault.Missing n)) = refl
    lacks (Err (fault.Failed n)) = refl

pub unread_missing : (sources : List Source) (e : Option Halt) (n : List ℕ) → e ≡ Some (halt.Missing n) → Unread sources e → number_of sources n ≡ None
unread_missing sources e n h u = subst (Unread sources) h u

pub unread_failed : (sources : List Source) (e : Option Halt) (n : List ℕ) → e ≡ Some (halt.Failed n) → Unread sources e → number_of sources n ≡ None
unread_failed sources e n h u = subst (Unread sources) h u

pub says_with : (o p : Option Shelf) (m n f g : ℕ) (e y : Option Halt) → FilesSay o p m n f g e → ((x : Halt) → y ≡ Some x → e ≡ Some x) → FilesSay o p m n f g y
says_with o p m n f g e y s h = record {
  kept = s.kept;
  misses = s.misses;
  faults = s.faults;
  missing = λ x q. s.missing x (h _ q);
  absent = λ x q. s.absent x (h _ q);
  failed = λ x q. s.failed x (h _ q);
}
