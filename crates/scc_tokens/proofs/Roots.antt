-- Roots, one after another.
use Rattle.std.proofs.Common.{◌≡◌, ◌<◌, ◌≤◌, ℕ, ◌+◌, max, List, ◌∷◌, map, length, drop, get_or, Option, Some, None, Result, Ok, Err, slice_get, string_bytes, refl, sym, ap, ◌∙◌, arith}
use Rattle.std.proofs.lemmas.List.{at_drop_more, at_drop_all}
use Rattle.std.specs.declared.string.String.{String}
use Rattle.std.specs.declared.alloc.Global.{Global}
use Rattle.scc_base.specs.Names.{Keeps}
use Rattle.scc_base.specs.Outside.{Shelf}
use Rattle.scc_tokens.specs.Files.{HoldsAll, Reads, asked, ToldAll, FilesSay, HasRoom, AnswersIn}
use Rattle.scc_tokens.specs.Join.{root_joined, roots_joined, asked_walked, number_after, finished, joined_with, length_at}
use Rattle.scc_tokens_directives.specs.Out.{flushed}
use Rattle.scc_tokens_directives.specs.Steps.{Step, Stopped, Refuses, Absent}
use Rattle.scc_tokens.specs.Walk.{Full, file_walked, then_by}
use Rattle.scc_tokens_directives.specs.declared.directive.Words.{Words}
use Rattle.scc_tokens_directives.specs.declared.file.File.{File}
use Rattle.scc_tokens_directives.specs.declared.file.Source.{Source}
use Rattle.scc_tokens_directives.specs.declared.halt.Halt.{Halt}
use Rattle.scc_tokens_directives.specs.declared.halt.Halt.TheVariants as halt
use Rattle.scc_tokens_directives.specs.declared.out.Out.{Out}
use Rattle.scc_tokens.specs.declared.walk.Joining.{Joining}
use Rattle.scc_tokens_lexer.proofs.Scanning.{keeps_same, keeps_more}
use Rattle.scc_tokens.proofs.Shelving.{reads_same, reads_then}
use Rattle.scc_tokens.proofs.Walking.{full, says_then}

pub root_stops : (shelf : Shelf) (w : Words) (name : List ℕ) (k0 k1 k2 : List File) (s0 s1 s2 : List Source) (n0 n1 n2 : List (List ℕ)) (t0 t2 : Joining) (n : ℕ) (e : Halt)
    → asked shelf w name (record { known = k0; sources = s0; names = n0 }) ≡ (record { known = k1; sources = s1; names = n1 }, Ok n)
    → AnswersIn {A = Unit {0}} (λ x. x) shelf (full t2 k2 s2 n2) (Err e) (file_walked shelf w 16 n (full t0 k1 s1 n1))
    → AnswersIn {A = ℕ} (λ x. x) shelf (full t2 k2 s2 n2) (Err e) (root_joined shelf w name (full t0 k0 s0 n0))
root_stops shelf w name k0 k1 k2 s0 s1 s2 n0 n1 n2 t0 t2 n e a h = by e h
  where
    here : (r : Full × Result (Unit {0}) Stopped) → file_walked shelf w 16 n (full t0 k1 s1 n1) ≡ r → root_joined shelf w name (full t0 k0 s0 n0) ≡ number_after n r
    here r walked = ap (asked_walked shelf w (full t0 k0 s0 n0)) a ∙ ap (number_after n) walked

    by : (e : Halt) → AnswersIn {A = Unit {0}} (λ x. x) shelf (full t2 k2 s2 n2) (Err e) (file_walked shelf w 16 n (full t0 k1 s1 n1))
        → AnswersIn {A = ℕ} (λ x. x) shelf (full t2 k2 s2 n2) (Err e) (root_joined shelf w name (full t0 k0 s0 n0))
    by (halt.Refused c p) h = here (full t2 k2 s2 n2, Err (Refuses c p)) h
    by (halt.Missing x) h = λ none. here (full t2 k2 s2 n2, Err (Absent x)) (h none)
    by (halt.Failed x) h = λ none. here (full t2 k2 s2 n2, Err (Absent x)) (h none)
    by halt.NoMemory h = tt

pub root_good : (shelf : Shelf) (w : Words) (name : List ℕ) (k0 k1 k2 : List File) (s0 s1 s2 : List Source) (n0 n1 n2 : List (List ℕ)) (t0 t2 : Joining) (n : ℕ)
    → asked shelf w name (record { known = k0; sources = s0; names = n0 }) ≡ (record { known = k1; sources = s1; names = n1 }, Ok n)
    → file_walked shelf w 16 n (full t0 k1 s1 n1) ≡ (full t2 k2 s2 n2, Ok tt) → root_joined shelf w name (full t0 k0 s0 n0) ≡ (full t2 k2 s2 n2, Ok n)
root_good shelf w name k0 k1 k2 s0 s1 s2 n0 n1 n2 t0 t2 n a h = ap (asked_walked shelf w (full t0 k0 s0 n0)) a ∙ ap (number_after n) h

pub finish_is : (src : List Source) (last : ℕ) (o p : Out) (s : Source) (bytes : List ℕ) → flushed o ≡ (p, None) → Some s ≡ slice_get src last → bytes ≡ s.bytes
    → finished src last o ≡ Ok (record { tokens = p.tokens; end = record { file = last; at = length bytes } })
finish_is src last o p s bytes e h b =
    ap (λ (x : Step Out). joined_with src last x.0 x.1) e
    ∙ ap (λ k. Ok (record { tokens = p.tokens; end = record { file = last; at = k } })) (ap length_at (sym h) ∙ ap length (sym b))

-- the roots so far
pub record Roots (w : Words) (roots : List (String Global)) (i last : ℕ) (o0 o : Option Shelf) (m0 m f0 f : ℕ) (n0 n : List (List ℕ)) (s0 s : List Source) (k0 k : List File) (t0 t : Joining) : Type 0 where
  pub keeps : Keeps n0 n
  pub reads : Reads s0 s
  pub told : ToldAll o0 s0 → ToldAll o s
  pub says : FilesSay o0 o m0 m f0 f None
  pub room : HasRoom n s k
  pub few : length s ≤ 64 + i
  pub number : 0 < i → last < length k
  pub left : (shelf : Shelf) → HoldsAll shelf s → roots_joined shelf w (map string_bytes (drop i roots)) last (full t k s n) ≡ roots_joined shelf w (map string_bytes roots) 0 (full t0 k0 s0 n0)

pub roots_begin : (w : Words) (roots : List (String Global)) (o : Option Shelf) (m f : ℕ) (n : List (List ℕ)) (s : List Source) (k : List File) (t : Joining)
    → HasRoom n s k → length s ≤ 64 → Roots w roots 0 0 o o m m f f n n s s k k t t
roots_begin w roots o m f n s k t room few = record {
  keeps = keeps_same n;
  reads = reads_same s;
  told = λ h. h;
  says = record { kept = refl; misses = omega arith; faults = omega arith; missing = λ n e. cc; absent = λ n e. cc; failed = λ n e. cc };
  room = room;
  few = omega arith;
  number = λ h. absurd (omega arith);
  left = λ shelf holds. refl;
}

-- the next root
next_is : (shelf : Shelf) (w : Words) (roots : List (String Global)) (i last : ℕ) (root : String Global) (f : Full) → i < length roots → root ≡ get_or roots i root
    → roots_joined shelf w (map string_bytes (drop i roots)) last f
    ≡ then_by (root_joined shelf w (string_bytes root) f).1 (root_joined shelf w (string_bytes root) f).0 (λ n g. roots_joined shelf w (map string_bytes (drop (i + 1) roots)) n g)
next_is shelf w roots i last root f h e =
    at_drop_more (λ l. roots_joined shelf w (map string_bytes l) last f) roots i root h
    ∙ ap (λ r. roots_joined shelf w (map string_bytes (r ∷ drop (i + 1) roots)) last f) (sym e)

pub roots_next : {w : Words} {roots : List (String Global)} {i last : ℕ} {o0 o : Option Shelf} {m0 m f0 f : ℕ} {n0 n : List (List ℕ)} {s0 s : List Source} {k0 k : List File} {t0 t : Joining}
    → Roots w roots i last o0 o m0 m f0 f n0 n s0 s k0 k t0 t → i < length roots → (root : String Global) → root ≡ get_or roots i root
    → (o1 : Option Shelf) (m1 f1 : ℕ) (n1 : List (List ℕ)) (s1 : List Source) (k1 : List File) (t1 : Joining) (name : List ℕ) (number : ℕ)
    → name ≡ string_bytes root → Keeps n n1 → Reads s s1 → (ToldAll o s → ToldAll o1 s1) → FilesSay o o1 m m1 f f1 None → HasRoom n1 s1 k1
    → length s1 ≤ max 64 (length s + 1) → number < length k1
    → ((shelf : Shelf) → HoldsAll shelf s1 → root_joined shelf w name (full t k s n) ≡ (full t1 k1 s1 n1, Ok number))
    → Roots w roots (i + 1) number o0 o1 m0 m1 f0 f1 n0 n1 s0 s1 k0 k1 t0 t1
roots_next {w} {roots} {i} {last} {o0} {o} {m0} {m} {f0} {f} {n0} {n} {s0} {s} {k0} {k} {t0} {t} g h root item o1 m1 f1 n1 s1 k1 t1 name number same keeps reads told says room more number_is value =
    let few = g.few in
    record {
      keeps = keeps_more n0 n n1 g.keeps keeps;
      reads = reads_then s0 s s1 g.reads reads;
      told = λ x. told (g.told x);
      says = says_then o0 o o1 m0 m m1 f0 f f1 None g.says says;
      room = room;
      few = omega arith;
      number = λ x. number_is;
      left = λ shelf holds.
          let here : root_joined shelf w (string_bytes root) (full t k s n) ≡ (full t1 k1 s1 n1, Ok number) = ap (λ x. root_joined shelf w x (full t k s n)) (sym same) ∙ value shelf holds in
          ap (λ (x : Full × Result ℕ Stopped). then_by x.1 x.0 (λ j y. roots_joined shelf w (map string_bytes (drop (i + 1) roots)) j y)) (sym here)
          ∙ sym (next_is shelf w roots i last root (full t k s n) h item) ∙ g.left shelf (reads.earlier shelf holds);
    }

pub roots_stop : {w : Words} {roots : List (String Global)} {i last : ℕ} {o0 o : Option Shelf} {m0 m f0 f : ℕ} {n0 n : List (List ℕ)} {s0 s : List Source} {k0 k : List File} {t0 t : Joining}
    → Roots w roots i last o0 o m0 m f0 f n0 n s0 s k0 k t0 t → i < length roots → (root : String Global) → root ≡ get_or roots i root
    → (shelf : Shelf) → HoldsAll shelf s → (n1 : List (List ℕ)) (s1 : List Source) (k1 : List File) (t1 : Joining) (name : List ℕ) (e : Halt) → name ≡ string_bytes root
    → AnswersIn {A = ℕ} (λ x. x) shelf (full t1 k1 s1 n1) (Err e) (root_joined shelf w name (full t k s n))
    → AnswersIn {A = ℕ} (λ x. x) shelf (full t1 k1 s1 n1) (Err e) (roots_joined shelf w (map string_bytes roots) 0 (full t0 k0 s0 n0))
roots_stop {w} {roots} {i} {last} {n0 = n0} {n = n} {s0 = s0} {s = s} {k0 = k0} {k = k} {t0 = t0} {t = t} g h root item shelf holds n1 s1 k1 t1 name e same a = by e a
  where
    here : (r : Full × Result ℕ Stopped) → root_joined shelf w name (full t k s n) ≡ r
        → then_by r.1 r.0 (λ j y. roots_joined shelf w (map string_bytes (drop (i + 1) roots)) j y) ≡ roots_joined shelf w (map string_bytes roots) 0 (full t0 k0 s0 n0)
    here r joined =
        ap (λ (x : Full × Result ℕ Stopped). then_by x.1 x.0 (λ j y. roots_joined shelf w (map string_bytes (drop (i + 1) roots)) j y)) (sym joined ∙ ap (λ x. root_joined shelf w x (full t k s n)) same)
        ∙ sym (next_is shelf w roots i last root (full t k s n) h item) ∙ g.left shelf holds

    by : (e : Halt) → AnswersIn {A = ℕ} (λ x. x) shelf (full t1 k1 s1 n1) (Err e) (root_joined shelf w name (full t k s n))
        → AnswersIn {A = ℕ} (λ x. x) shelf (full t1 k1 s1 n1) (Err e) (roots_joined shelf w (map string_bytes roots) 0 (full t0 k0 s0 n0))
    by (halt.Refused c p) x = sym (here (full t1 k1 s1 n1, Err (Refuses c p)) x)
    by (halt.Missing y) x = λ none. sym (here (full t1 k1 s1 n1, Err (Absent y)) (x none))
    by (halt.Failed y) x = λ none. sym (here (full t1 k1 s1 n1, Err (Absent y)) (x none))
    by halt.NoMemory x = tt

pub roots_end : {w : Words} {roots : List (String Global)} {i last : ℕ} {o0 o : Option Shelf} {m0 m f0 f : ℕ} {n0 n : List (List ℕ)} {s0 s : List Source} {k0 k : List File} {t0 t : Joining}
    → Roots w roots i last o0 o m0 m f0 f n0 n s0 s k0 k t0 t → length roots ≤ i → (shelf : Shelf) → HoldsAll shelf s → roots_joined shelf w (map string_bytes roots) 0 (full t0 k0 s0 n0) ≡ (full t k s n, Ok last)
roots_end {w} {roots} {i} {last} {n = n} {s = s} {k = k} {t = t} g h shelf holds = sym (g.left shelf holds) ∙ at_drop_all (λ l. roots_joined shelf w (map string_bytes l) last (full t k s n)) roots i h
