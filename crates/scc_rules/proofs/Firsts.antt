-- First answers of walks, from one place on.
use Rattle.std.proofs.Common.{◌≡◌, refl, ℕ, zero, suc, ◌+◌, ◌<◌, arith, subst, ap, sym, ◌∙◌, List, [], ◌∷◌, ◌++◌, map, drop, drop-cons, add-one, get_or, length, Bool, true, false, ◌&&◌, if◌then◌else◌, Option, Some, None, Result, Ok, Err}
use Rattle.std.specs.Prelude.{option_map, IfOk}
use Rattle.scc_core_spec.specs.First.{or_else, first_of}
use Rattle.scc_base.specs.declared.code.Code.TheVariants as reason
use Rattle.scc_base.specs.declared.refusal.Refusal.{Refusal}
use Rattle.scc_core_spec.specs.Code.{Code}
use Rattle.scc_core_spec.specs.First.{when, refused}
use Rattle.scc_core_spec.specs.Flow.{idle_loops}
use Rattle.scc_core_spec.specs.Live.{alive, live}
use Rattle.scc_core_spec.specs.Program.{Program}
use Rattle.scc_core.specs.declared.program.Core.{Core}
use Rattle.scc_core.specs.declared.program.CoreProcess.{CoreProcess}
use Rattle.scc_core.specs.declared.stmt.CoreStmt.{CoreStmt}
use Rattle.scc_base.specs.declared.refusal.Place.{Place}
use Rattle.scc_core_spec.specs.Rules.{waits, wait_in_method, loop_may_not_wait, end_reached}
use Rattle.scc_core_view.specs.Codes.{code_of}
use Rattle.scc_core_view.specs.Programs.{is_thread, process_of, program_of}
use Rattle.scc_rules.specs.declared.facts.Facts.{Facts}
use Rattle.scc_rules_laws.specs.Found.{first_along}
use Rattle.scc_rules.specs.Stands.{HasLives, idling, ending, idle_in, in_method, waiting}

pub first_here : {A B : Type 0} (f : A → Option B) (xs : List A) (i : ℕ) (x : A) → i < length xs → x ≡ get_or xs i x → first_of f (drop i xs) ≡ or_else (f x) (first_of f (drop (i + 1) xs))
first_here f xs i x h is =
    ap (first_of f) (drop-cons xs i x h)
    ∙ ap (λ y. or_else (f y) (first_of f (drop (suc i) xs))) (sym is)
    ∙ ap (λ n. or_else (f x) (first_of f (drop n xs))) (sym (add-one i))

-- nothing at one place: the rest decides
pub first_next : {A B : Type 0} (f : A → Option B) (xs : List A) (i : ℕ) (x : A) (t : Option B) → i < length xs → x ≡ get_or xs i x → f x ≡ None → first_of f (drop i xs) ≡ t → first_of f (drop (i + 1) xs) ≡ t
first_next f xs i x t h is none all = sym (first_here f xs i x h is ∙ ap (λ o. or_else o (first_of f (drop (i + 1) xs))) none) ∙ all

pub first_found : {A B : Type 0} (f : A → Option B) (xs : List A) (i : ℕ) (x : A) (y : B) (t : Option B) → i < length xs → x ≡ get_or xs i x → f x ≡ Some y → first_of f (drop i xs) ≡ t → Some y ≡ t
first_found f xs i x y t h is some all = sym (first_here f xs i x h is ∙ ap (λ o. or_else o (first_of f (drop (i + 1) xs))) some) ∙ all

pub first_map : {A B C : Type 0} (f : B → Option C) (g : A → B) (xs : List A) → first_of f (map g xs) ≡ first_of (λ x. f (g x)) xs
first_map f g [] = refl
first_map f g (x ∷ xs) = ap (or_else (f (g x))) (first_map f g xs)

pub along_map : {A B C : Type 0} (f : A → B → Option C) (g : A → B) (xs : List A) → first_along f xs (map g xs) ≡ first_of (λ x. f x (g x)) xs
along_map f g [] = refl
along_map f g (x ∷ xs) = ap (or_else (f x (g x))) (along_map f g xs)

-- a first answer told of is told of the first
pub first_told : {A B : Type 0} (f : A → B) (xs : List A) → first_of (λ x. Some (f x)) xs ≡ option_map f (first_of Some xs)
first_told f [] = refl
first_told f (x ∷ xs) = refl

-- what holds of each answer
pub each_ok : {A E : Type 0} (P Q : A → Type 0) (r : Result A E) → IfOk r P → ((a : A) → P a → Q a) → IfOk r Q
each_ok P Q (Ok a) p f = f a p
each_ok P Q (Err e) p f = p

-- of the facts and of the program
thread_or : (b : Bool) (ps : List Place) → in_method b (first_of Some ps) ≡ (if b then None else first_of (λ at. Some (refused reason.WaitInMethod at)) ps)
thread_or true ps = refl
thread_or false ps = sym (first_told (refused reason.WaitInMethod) ps)

pub waits_told : (p : CoreProcess) (b : Bool) (w : Option Place) (found : Option Refusal) (ys : List CoreStmt) → b ≡ is_thread p.sort → ys ≡ p.body → w ≡ first_of Some (waits (code_of ys)) → found ≡ in_method b w → found ≡ waiting p
waits_told p b w found ys is same h told =
    told ∙ ap (λ x. in_method x w) is ∙ ap (in_method (is_thread p.sort)) (h ∙ ap (λ zs. first_of Some (waits (code_of zs))) same) ∙ thread_or (is_thread p.sort) (waits (code_of p.body))

pub wait_all : (c : Core) → first_of waiting c.processes ≡ wait_in_method (program_of c)
wait_all c = sym (first_map (λ q. if q.is_thread then None else first_of (λ at. Some (refused reason.WaitInMethod at)) (waits q.body)) process_of c.processes)

pub idle_all : (f : Facts) (p : Program) → HasLives f p → first_of idling f.lives.items ≡ loop_may_not_wait p
idle_all f p h =
    sym (first_map idle_in code_of f.lives.items)
    ∙ ap (first_of idle_in) h.lives
    ∙ first_map idle_in (λ q. live p.cells q.body) p.processes

pub end_all : (f : Facts) (p : Program) → p ≡ program_of f.core.now → HasLives f p → first_along ending f.core.now.processes f.ends.items ≡ end_reached p
end_all f p is h =
    let q = program_of f.core.now in
    let ends : f.ends.items ≡ map (λ r. (alive q.cells (code_of r.body)).ends) f.core.now.processes
    = h.ends ∙ ap (λ x. map (λ r. (alive x.cells r.body).ends) x.processes) is ∙ map_map (λ r. (alive q.cells r.body).ends) process_of f.core.now.processes in
    ap (first_along ending f.core.now.processes) ends
    ∙ along_map ending (λ r. (alive q.cells (code_of r.body)).ends) f.core.now.processes
    ∙ sym (first_map (λ r. when (r.is_thread && (alive q.cells r.body).ends) (refused reason.EndReached r.place)) process_of f.core.now.processes)
    ∙ ap end_reached (sym is)
  where
    map_map : {A B C : Type 0} (f : B → C) (g : A → B) (xs : List A) → map f (map g xs) ≡ map (λ x. f (g x)) xs
    map_map f g [] = refl
    map_map f g (x ∷ xs) = ap (λ ys. f (g x) ∷ ys) (map_map f g xs)

along_here : {A B C : Type 0} (f : A → B → Option C) (xs : List A) (ys : List B) (i : ℕ) (x : A) (y : B) → i < length xs → i < length ys → x ≡ get_or xs i x → y ≡ get_or ys i y
    → first_along f (drop i xs) (drop i ys) ≡ or_else (f x y) (first_along f (drop (i + 1) xs) (drop (i + 1) ys))
along_here f xs ys i x y h k is at =
    ap (λ zs. first_along f zs (drop i ys)) (drop-cons xs i x h)
    ∙ ap (first_along f (get_or xs i x ∷ drop (suc i) xs)) (drop-cons ys i y k)
    ∙ ap (λ z. or_else (f z (get_or ys i y)) (first_along f (drop (suc i) xs) (drop (suc i) ys))) (sym is)
    ∙ ap (λ z. or_else (f x z) (first_along f (drop (suc i) xs) (drop (suc i) ys))) (sym at)
    ∙ ap (λ n. or_else (f x y) (first_along f (drop n xs) (drop n ys))) (sym (add-one i))

pub along_next : {A B C : Type 0} (f : A → B → Option C) (xs : List A) (ys : List B) (i : ℕ) (x : A) (y : B) (t : Option C) → i < length xs → i < length ys → x ≡ get_or xs i x → y ≡ get_or ys i y → f x y ≡ None
    → first_along f (drop i xs) (drop i ys) ≡ t → first_along f (drop (i + 1) xs) (drop (i + 1) ys) ≡ t
along_next f xs ys i x y t h k is at none all = sym (along_here f xs ys i x y h k is at ∙ ap (λ o. or_else o (first_along f (drop (i + 1) xs) (drop (i + 1) ys))) none) ∙ all

pub along_found : {A B C : Type 0} (f : A → B → Option C) (xs : List A) (ys : List B) (i : ℕ) (x : A) (y : B) (z : C) (t : Option C) → i < length xs → i < length ys → x ≡ get_or xs i x → y ≡ get_or ys i y → f x y ≡ Some z
    → first_along f (drop i xs) (drop i ys) ≡ t → Some z ≡ t
along_found f xs ys i x y z t h k is at some all = sym (along_here f xs ys i x y h k is at ∙ ap (λ o. or_else o (first_along f (drop (i + 1) xs) (drop (i + 1) ys))) some) ∙ all
