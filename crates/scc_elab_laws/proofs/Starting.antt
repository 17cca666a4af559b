-- Starts of the design that construction leaves.
use Rattle.std.proofs.Common.{◌≡◌, ℕ, suc, ◌+◌, ◌<◌, ◌^◌, Bool, true, false, List, [], ◌∷◌, Option, Some, None, option_map, option_and_then, slice_get, unwrap_or, if◌then◌else◌, ap, refl, sym, ◌∙◌, subst, arith}
use Rattle.std.specs.List.{find}
use Rattle.std.proofs.lemmas.Nat.{pow_pos}
use Rattle.std.specs.Prelude.{pos}
use Rattle.scc_bits_kinds.specs.Kinds.{width_of}
use Rattle.scc_bits_kinds.proofs.Low.{low_less}
use Rattle.scc_semantics.specs.Location.{Location, Part, Root, Top, Local, Answer}
use Rattle.scc_semantics.specs.Places.{Thing}
use Rattle.scc_semantics.specs.Places as thing
use Rattle.scc_semantics.specs.Design as running
use Rattle.scc_semantics.specs.Machine.{Stop}
use Rattle.scc_semantics.specs.Process.{first_frames}
use Rattle.scc_semantics.specs.Run.{FitsThing}
use Rattle.scc_semantics.specs.Start.{HoldsConstant, AllFirst, IsStart}
use Rattle.scc_elab_spec.specs.Program.{Plain}
use Rattle.scc_elab_spec.specs.Design.{Design, Object, Node, Module, Port, Signal, Variable, Pointer}
use Rattle.scc_elab_spec.specs.Cells.{is_fixed}
use Rattle.scc_elab_spec.specs.Grown.{Grown}
use Rattle.scc_elab_spec.specs.Elaborated.{left_node, objects_left}
use Rattle.scc_elab_spec.specs.Meant.{is_number, object_there, thing_of, word_of, thing_at, fixed_at, design_of}
use Rattle.scc_elab_growth_laws.specs.Leaves.{IsLeft}
use Rattle.scc_elab_laws.specs.Starts.{IsConstant, first_word, start_of}

some_same : {A : Type 0} {a b : A} → Some a ≡ Some b → a ≡ b
some_same e = cc

-- each variable's word fits its kind
abbrev pub FitsNode : Node → Type 0
FitsNode (Variable k w) = w < 2 ^ width_of k
FitsNode n = Unit {0}

abbrev pub AllFitting : List Object → Type 0
AllFitting [] = Unit {0}
AllFitting (o ∷ os) = FitsNode o.node × AllFitting os

node-fits : (g : Grown) (n : ℕ) (o : Object) (v : Node) → FitsNode (left_node g n o v)
node-fits g n o (Module c) = tt
node-fits g n o (Port k output r) = tt
node-fits g n o (Signal k) = tt
node-fits g n o (Variable k w) = low_less (width_of k) (pos (g.store.words _))
node-fits g n o (Pointer t) = tt

pub left-fits : (g : Grown) (n : ℕ) (os : List Object) → AllFitting (objects_left g n os)
left-fits g n [] = tt
left-fits g n (o ∷ os) = (node-fits g n o o.node, left-fits g (suc n) os)

pub find-fits : (test : Object → Bool) (os : List Object) (o : Object) → AllFitting os → find test os ≡ Some o → FitsNode o.node
find-fits test [] o a e = cc
find-fits test (x ∷ xs) o a e = by (test x) e (find-fits test xs o a.1)
  where
    by : (b : Bool) → (if b then Some x else find test xs) ≡ Some o → (find test xs ≡ Some o → FitsNode o.node) → FitsNode o.node
    by true e rest = subst (λ (z : Object). FitsNode z.node) (some_same e) a.0
    by false e rest = rest e

pub zero-fits : (t : Option Thing) → FitsThing t 0
zero-fits None = tt
zero-fits (Some (thing.Number k)) = pow_pos (width_of k)
zero-fits (Some (thing.Signal k)) = pow_pos (width_of k)
zero-fits (Some (thing.Port k r)) = tt

module _ (p : Plain) (d : Design) (fitting : AllFitting d.objects) where
  word-fits : (o : Object) (v : Node) (w : ℕ) → FitsNode v → word_of p d o v ≡ Some w → FitsThing (thing_of p d o v) w
  word-fits o (Module c) w a e = tt
  word-fits o (Port k output r) w a e = cc
  word-fits o (Signal k) w a e = cc
  word-fits o (Variable k x) w a e = by (is_fixed p d o.path) e
    where
      by : (b : Bool) → (if b then Some x else None) ≡ Some w → w < 2 ^ width_of k
      by true e = subst (λ z. z < 2 ^ width_of k) (some_same e) a
      by false e = cc
  word-fits o (Pointer t) w a e = tt

  fixed-fits : (r : Root) (path : List Part) (w : ℕ) → fixed_at p d r path ≡ Some w → FitsThing (thing_at p d r path) w
  fixed-fits Top path w e = by (object_there p d (is_number p d) path) refl e
    where
      by : (o : Option Object) → object_there p d (is_number p d) path ≡ o → option_and_then (λ o. word_of p d o o.node) o ≡ Some w → FitsThing (option_and_then (λ o. thing_of p d o o.node) o) w
      by None f e = tt
      by (Some o) f e = word-fits o o.node w (find-fits _ d.objects o fitting f) e
  fixed-fits (Local i cs n) path w e = cc
  fixed-fits (Answer i cs) path w e = cc

  module _ (constant : Location → Option ℕ) (constants : IsConstant p d constant) where
    first-fits : (t : Option Thing) (f c : Option ℕ) → ((w : ℕ) → f ≡ Some w → FitsThing t w) → ((w : ℕ) → c ≡ Some w → FitsThing t w) → FitsThing t (first_word f c)
    first-fits t (Some w) c a b = a w refl
    first-fits t None (Some w) a b = b w refl
    first-fits t None None a b = zero-fits t

    first-fixed : (f c : Option ℕ) → HoldsConstant f (first_word f c)
    first-fixed None c = tt
    first-fixed (Some w) c = refl

    first-constant : (f c : Option ℕ) → ((w : ℕ) → c ≡ Some w → HoldsConstant f w) → HoldsConstant c (first_word f c)
    first-constant f None a = tt
    first-constant None (Some w) a = refl
    first-constant (Some x) (Some w) a = sym (a w refl)

    started : (all ps : List running.Process) (i : ℕ) → ((k : ℕ) → slice_get ps k ≡ slice_get all (i + k)) → AllFirst i ps (λ j. unwrap_or (option_map (first_frames j) (slice_get all j)) Stop)
    started all [] i a = tt
    started all (q ∷ qs) i a = (
      ap (λ z. unwrap_or (option_map (first_frames i) z) Stop) (ap (slice_get all) (omega arith) ∙ sym (a 0)),
      started all qs (i + 1) (λ k. a (suc k) ∙ ap (slice_get all) (omega arith)),
    )

    pub start-is : IsStart (design_of p d constant) (start_of (design_of p d constant))
    start-is = record {
      words = record {
        fits = λ l. first-fits (thing_at p d l.root l.path) (fixed_at p d l.root l.path) (constant l) (λ w e. fixed-fits l.root l.path w e) (λ w e. constants.fits l w e);
        fixed = λ l. first-fixed (fixed_at p d l.root l.path) (constant l);
        constants = λ l. first-constant (fixed_at p d l.root l.path) (constant l) (λ w e. constants.fixed l w e);
      };
      targets = λ l. refl;
      frames = started (design_of p d constant).processes (design_of p d constant).processes 0 (λ k. ap (slice_get (design_of p d constant).processes) (omega arith));
    }

pub starts : (many : Bool) (p : Plain) (d : Design) (constant : Location → Option ℕ) → IsLeft many p d → IsConstant p d constant → IsStart (design_of p d constant) (start_of (design_of p d constant))
starts many p d constant left constants = start-is p d (subst (λ (z : Design). AllFitting z.objects) (sym left.same) (left-fits left.grown 0 left.grown.objects)) constant constants
