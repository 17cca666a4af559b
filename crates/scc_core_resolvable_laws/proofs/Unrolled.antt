-- Unrolled statements name what the statements name.
use Rattle.std.proofs.Common.{List, [], ◌∷◌, map, Option, Some, None, option_map, ap, ◌∙◌}
use Rattle.scc_base.specs.declared.refusal.Place.{Place}
use Rattle.scc_bits.specs.Values.{kind_of as operator_kind}
use Rattle.scc_core_spec.specs.Term.{Term, Literal, Load, Read, Convert, Unary, Binary, Choose, Bit, Range, Join, Left, Cell, Prefix, Null, Follow, Index, Pick, Whole, OneBit, Bits}
use Rattle.scc_core_spec.specs.Term as term
use Rattle.scc_core_spec.specs.Code.{Code, Declared, Assigned, End, Put, Aim, If, Block, Loop, Exit, Wait}
use Rattle.scc_core_spec.specs.Program.{Process}
use Rattle.scc_core_spec.specs.Static.{Cells}
use Rattle.scc_core_spec.specs.Counted.{Counter, Setting, Stand, First, Elsewhere, Counting, Turn, Turning, counter, counter_at, loaded_as, counting, counting_left, counting_pick, counted_by, ended, behind, turning_of}
use Rattle.scc_core_spec.specs.Unrolled.{counting_count, block_of, stepped, written_out, looped_or, unrolled}
use Rattle.scc_core_unroll_laws.proofs.Counters.{kind-kept}
use Rattle.scc_core_pass_laws.specs.Pointing.{OwnNames, OwnLeft, OwnPick, OwnCode}

module _ (q : Process) (cs : Cells) where
  module _ (ns : List Counter) where
    mutual
      own-counting : (e : Term) → OwnNames q cs e → OwnNames q cs (counting ns e)
      own-counting (Literal p k x) h = tt
      own-counting (Load p k l) h = by (counter_at ns l) (own-counting-left l h)
        where
          by : (c : Option Counter) → OwnLeft q cs (counting_left ns l) → OwnNames q cs (loaded_as c p k (counting_left ns l))
          by None h = h
          by (Some c) h = tt
      own-counting (Read p k l) h = own-counting-left l h
      own-counting (Convert p k e) h = own-counting e h
      own-counting (Unary p k o e) h = (ap (λ j. operator_kind o j j) (kind-kept ns e) ∙ h.0, own-counting e h.1)
      own-counting (Binary p k o e f) h = ((λ z. operator_kind o (kind-kept ns e z) (kind-kept ns f z)) ∙ h.0, own-counting e h.1, own-counting f h.2)
      own-counting (Choose p k t e f) h = (own-counting t h.0, own-counting e h.1, own-counting f h.2)
      own-counting (Bit p e i) h = (own-counting e h.0, own-counting i h.1)
      own-counting (Range p k e hi lo) h = own-counting e h
      own-counting (Join p k e f) h = (own-counting e h.0, own-counting f h.1)

      own-counting-left : (l : Left) → OwnLeft q cs l → OwnLeft q cs (counting_left ns l)
      own-counting-left (Cell p n) h = h
      own-counting-left (Prefix p n) h = h
      own-counting-left (Null p) h = h
      own-counting-left (Follow p s l) h = own-counting-left l h
      own-counting-left (term.Member l n) h = own-counting-left l h
      own-counting-left (Index l s e) h = (own-counting-left l h.0, own-counting e h.1)

    own-counting-pick : (k : Pick) → OwnPick q cs k → OwnPick q cs (counting_pick ns k)
    own-counting-pick Whole h = tt
    own-counting-pick (OneBit e) h = own-counting e h
    own-counting-pick (Bits a b) h = tt

  -- the block of a turn, before what follows it
  own-block : (c rest : Code) → OwnCode q cs c → OwnCode q cs rest → OwnCode q cs (block_of c rest)
  own-block End rest h r = r
  own-block (Put p l k e c) rest h r = r
  own-block (Aim p to t c) rest h r = r
  own-block (If p t a b c) rest h r = own-block c rest h.3 r
  own-block (Block p b c) rest h r = (h.0, r)
  own-block (Loop p n b c) rest h r = r
  own-block (Exit p n c) rest h r = r
  own-block (Wait p l n c) rest h r = r

  -- what a step assigns
  abbrev OwnStep : Option Turning → Type 0
  OwnStep None = Unit {0}
  OwnStep (Some t) = OwnLeft q cs t.step_left

  own-step : (b : Code) → OwnCode q cs b → OwnStep (turning_of b)
  own-step End h = tt
  own-step (Put p l k e r) h = tt
  own-step (Aim p to t r) h = tt
  own-step (If p t a b r) h = turn r h.3
    where
      step : (o : Place) (b r : Code) → OwnCode q cs r → OwnStep (turning_of (If p t End End (Block o b r)))
      step o b End h = tt
      step o b (Put p l k e r) h = h.0
      step o b (Aim p to t r) h = tt
      step o b (If p t a c r) h = tt
      step o b (Block p c r) h = tt
      step o b (Loop p n c r) h = tt
      step o b (Exit p n r) h = tt
      step o b (Wait p l n r) h = tt

      turn : (r : Code) → OwnCode q cs r → OwnStep (turning_of (If p t End End r))
      turn End h = tt
      turn (Put p l k e r) h = tt
      turn (Aim p to t r) h = tt
      turn (If p t a b r) h = tt
      turn (Block o b r) h = step o b r h.1
      turn (Loop p n b r) h = tt
      turn (Exit p n r) h = tt
      turn (Wait p l n r) h = tt
  own-step (Block p b r) h = tt
  own-step (Loop p n b r) h = tt
  own-step (Exit p n r) h = tt
  own-step (Wait p l n r) h = tt

  own-written : (t : Option Turning) → OwnStep t → (f : Turn → Code) → ((x : Turn) → OwnCode q cs (f x)) → (ts : List Turn) (rest : Code) → OwnCode q cs rest
      → OwnCode q cs (written_out t (map (λ x. (x, f x)) ts) rest)
  own-written t s f h [] rest r = r
  own-written t s f h (x ∷ ts) rest r = own-block (f x) (stepped t x.next (written_out t (map (λ x. (x, f x)) ts) rest)) (h x) (step t s (own-written t s f h ts rest r))
    where
      step : (u : Option Turning) → OwnStep u → OwnCode q cs (written_out t (map (λ x. (x, f x)) ts) rest) → OwnCode q cs (stepped u x.next (written_out t (map (λ x. (x, f x)) ts) rest))
      step None s r = r
      step (Some u) s r = (s, tt, tt, r)

  pub own-unrolled : (s : Setting) (ns : List Counter) (w : Stand) (c : Code) → OwnCode q cs c → OwnCode q cs (unrolled s ns w c)
  own-unrolled s ns w End h = tt
  own-unrolled s ns w (Put p l k e r) h = (own-counting-left ns l h.0, own-counting-pick ns k h.1, own-counting ns e h.2, own-unrolled s ns (behind w (record { left = l; pick = k; value = e })) r h.3)
  own-unrolled s ns w (Aim p (Declared n) t r) h = (h.0, own-counting-left ns t h.1, own-unrolled s ns Elsewhere r h.2)
  own-unrolled s ns w (Aim p (Assigned l) t r) h = (own-counting-left ns l h.0, own-counting-left ns t h.1, own-unrolled s ns Elsewhere r h.2)
  own-unrolled s ns w (If p t a b r) h = (own-counting ns t h.0, own-unrolled s ns Elsewhere a h.1, own-unrolled s ns Elsewhere b h.2, own-unrolled s ns Elsewhere r h.3)
  own-unrolled s ns w (Block p b r) h = (own-unrolled s ns First b h.0, own-unrolled s ns Elsewhere r h.1)
  own-unrolled s ns w (Loop p c b r) h = by (ended (counted_by s ns w c b r)) (λ ns. own-unrolled s ns Elsewhere b h.0) (own-unrolled s ns Elsewhere r h.1)
    where
      by : (o : Option Counting) → ((ns : List Counter) → OwnCode q cs (unrolled s ns Elsewhere b)) → OwnCode q cs (unrolled s ns Elsewhere r) → OwnCode q cs (looped_or o
          (λ g. written_out (turning_of b) (map (λ x. (x, unrolled s (counter g.cell x.now ∷ ns) Elsewhere b)) g.turns.list) (unrolled s ns Elsewhere r))
          (Loop p (option_map (counting_count ns) c) (unrolled s ns Elsewhere b) (unrolled s ns Elsewhere r)))
      by None body rest = (body ns, rest)
      by (Some g) body rest = own-written (turning_of b) (own-step b h.0) (λ x. unrolled s (counter g.cell x.now ∷ ns) Elsewhere b) (λ x. body (counter g.cell x.now ∷ ns)) g.turns.list (unrolled s ns Elsewhere r) rest
  own-unrolled s ns w (Exit p n r) h = own-unrolled s ns Elsewhere r h
  own-unrolled s ns w (Wait p l n r) h = own-unrolled s ns Elsewhere r h
