-- Terms and statements of a process that fit: kinds, names and sorts are as they must be. This project's own.
use Rattle.std.specs.Prelude.{ℕ, ◌+◌, ◌-◌, ◌^◌, Bool, true, false, not, ◌&&◌, ◌||◌, nat_eq, nat_lt, nat_le, List, [], ◌∷◌, Option, Some, None, slice_get, is_some}
use Rattle.scc_bits_kinds.specs.declared.kind.Kind.{Kind}
use Rattle.scc_bits_kinds.specs.declared.kind.Kind.TheVariants as kind
use Rattle.scc_bits_kinds.specs.Kinds.{width_of}
use Rattle.scc_bits.specs.Values.{kind_of as operator_kind}
use Rattle.scc_semantics.specs.Location.{same_path}
use Rattle.scc_core_spec.specs.Term.{Term, Literal, Load, Read, Convert, Unary, Binary, Choose, Bit, Range, Join, Left, Cell, Prefix, Null, Follow, Member, Index, Pick, Whole, OneBit, Bits, CellName, Own, kind_of}
use Rattle.scc_core_spec.specs.Code.{Code, End, Put, Aim, If, Block, Loop, Exit, Wait}
use Rattle.scc_core_spec.specs.Program as program
use Rattle.scc_core_spec.specs.Program.{Process, Sort, Port, is_root, is_number}
use Rattle.scc_core_spec.specs.Static.{Cells, fixed_word}
use Rattle.scc_core_spec.specs.OpenNames.{all_named, is_sized}

abbrev pub is_port : Sort → Bool
is_port (Port root) = true
is_port _ = false

abbrev pub is_read : Sort → Bool
is_read s = is_root s || is_port s

abbrev pub same_bool : Bool → Bool → Bool
same_bool true b = b
same_bool false b = not b

abbrev pub same_kind : Kind → Kind → Bool
same_kind kind.Bool kind.Bool = true
same_kind (kind.Native w s) (kind.Native v t) = nat_eq w v && same_bool s t
same_kind (kind.Int w) (kind.Int v) = nat_eq w v
same_kind (kind.Uint w) (kind.Uint v) = nat_eq w v
same_kind (kind.Big w) (kind.Big v) = nat_eq w v
same_kind (kind.BigInt w) (kind.BigInt v) = nat_eq w v
same_kind (kind.Bv w) (kind.Bv v) = nat_eq w v
same_kind (kind.Wide b s) (kind.Wide c t) = nat_eq b c && same_bool s t
same_kind _ _ = false

abbrev pub is_kind : Option Kind → Kind → Bool
is_kind None k = false
is_kind (Some j) k = same_kind j k

abbrev pub is_nil : {A : Type 0} → List A → Bool
is_nil [] = true
is_nil (x ∷ xs) = false

-- a name without a local has no indices, and a local is one of the process
abbrev pub is_name : Process → CellName → Bool
is_name q n = named_by n.own
  where
    named_by : Option Own → Bool
    named_by None = is_nil n.indices
    named_by (Some o) = same_path n.path q.name.path

-- a number of that kind, and a signal or port of it
abbrev pub is_loaded : Kind → program.Cell → Bool
is_loaded k c = is_number c.sort && same_kind k c.kind

abbrev pub is_shown : Kind → program.Cell → Bool
is_shown k c = is_read c.sort && same_kind k c.kind

-- The bits that a term's word has: a concatenation has those of its parts. A front part of one, as `(a, b)` in `(a, b, c)`, is told the kind of the whole.
abbrev pub bits_of : Term → ℕ
bits_of (Join p k a b) = bits_of a + width_of (kind_of b)
bits_of e = width_of (kind_of e)

-- What is written is no number that stays as it is. Of a signal or port the whole is written.
abbrev pub takes : Pick → Kind → program.Cell → Bool
takes Whole k c = not (is_some (fixed_word c.sort)) && nat_eq (width_of k) (width_of c.kind)
takes (OneBit e) k c = not (is_some (fixed_word c.sort)) && (is_number c.sort && nat_eq (width_of k) 1)
takes (Bits h l) k c = not (is_some (fixed_word c.sort)) && (is_number c.sort && (nat_le l h && (nat_lt h (width_of c.kind) && nat_eq (width_of k) (h - l + 1))))

module _ (cs : Cells) (q : Process) where
  abbrev pub is_cell : Option program.Cell → Bool
  is_cell None = false
  is_cell (Some c) = is_name q c.name

  abbrev mutual
    -- words fit their kinds; kinds are those of operators, which have a rule; a load is of a number, a read of a signal or port; nothing lies behind a pointer or null
    pub fit_term : Term → Bool
    fit_term (Literal p k w) = nat_lt w (2 ^ width_of k)
    fit_term (Load p k l) = fit_left l && (all_named cs (is_loaded k) l && is_sized cs l)
    fit_term (Read p k l) = fit_left l && (all_named cs (is_shown k) l && is_sized cs l)
    fit_term (Convert p k e) = fit_term e
    fit_term (Unary p k o e) = is_kind (operator_kind o (kind_of e) (kind_of e)) k && fit_term e
    fit_term (Binary p k o e f) = is_kind (operator_kind o (kind_of e) (kind_of f)) k && (fit_term e && fit_term f)
    fit_term (Choose p k t e f) = fit_term t && (fit_term e && fit_term f)
    fit_term (Bit p e i) = fit_term e && fit_term i
    fit_term (Range p k e h l) = nat_eq (width_of k) (h - l + 1) && fit_term e
    fit_term (Join p k e f) = nat_le (bits_of e + width_of (kind_of f)) (width_of k) && (fit_term e && fit_term f)

    pub fit_left : Left → Bool
    fit_left (Cell p n) = is_cell (slice_get cs n)
    fit_left (Prefix p name) = is_name q name
    fit_left (Null p) = false
    fit_left (Follow p soft l) = false
    fit_left (Member l name) = fit_left l
    fit_left (Index l size e) = fit_left l && fit_term e

  abbrev pub fit_pick : Pick → Bool
  fit_pick Whole = true
  fit_pick (OneBit e) = fit_term e
  fit_pick (Bits h l) = true

  abbrev pub fit_put : Left → Pick → Term → Bool
  fit_put l k e = fit_left l && (fit_pick k && (fit_term e && (all_named cs (takes k (kind_of e)) l && is_sized cs l)))

  -- no pointer is assigned, and a wait is for one edge at least
  abbrev pub fit_code : Code → Bool
  fit_code End = true
  fit_code (Put p l k e r) = fit_put l k e && fit_code r
  fit_code (Aim p to t r) = false
  fit_code (If p t a b r) = fit_term t && (fit_code a && (fit_code b && fit_code r))
  fit_code (Block p b r) = fit_code b && fit_code r
  fit_code (Loop p n b r) = fit_code b && fit_code r
  fit_code (Exit p n r) = fit_code r
  fit_code (Wait p l n r) = nat_lt 0 n && fit_code r
