-- A whole expression is readable where counters have numbers of their cells' kinds.
use Rattle.std.proofs.Common.{◌≡◌, refl, sym, subst, ℕ, List, [], ◌∷◌, Option, Some, None}
use Rattle.scc_bits_kinds.specs.declared.kind.Kind.{Kind}
use Rattle.scc_base.specs.declared.refusal.Place.{Place}
use Rattle.scc_core.specs.declared.copy.Counter.{Counter}
use Rattle.scc_core.specs.declared.expr.CoreExpr.{CoreExpr}
use Rattle.scc_core.specs.declared.expr.CoreLeft.{CoreLeft}
use Rattle.scc_core.specs.declared.expr.CoreBase.{CoreBase}
use Rattle.scc_core.specs.declared.expr.CorePart.{CorePart}
use Rattle.scc_core.specs.declared.expr.CorePick.{CorePick, roll-CorePick, out-CorePick}
use Rattle.scc_core.specs.declared.expr.CoreBase.TheOpen as tree
use Rattle.scc_core.specs.declared.program.Cell.{Cell}
use Rattle.scc_core.specs.Counters.{kind_of}
use Rattle.scc_core_view.specs.Whole.{IsWhole, IsPicked, AreJoined, IsLoaded, IsNamed, AreParts}
use Rattle.scc_core_view.specs.Whole as whole
use Rattle.scc_core_static_laws.specs.Held.{AreCounters}
use Rattle.scc_core_static_laws.proofs.Counters.{counter_valued}
use Rattle.scc_core_static_laws.specs.Readable.{IsReadable, literal, load, read, convert, unary, binary, choose, pick, join, AreReadable, last, next, IsReadablePick, bit, range, IsReadableLeft, all, some, IsReadableBase, cell, front, follow, null, AreReadableParts, none, member, index}

pub bit_kind : (k : Kind) (e : CoreExpr) → kind_of (roll-CorePick (tree.Bit k e)) ≡ k
unfolding out-CorePick denote.Hole.Carrier.out roll-CorePick denote.Hole.Carrier.roll
bit_kind k e = refl

pub range_kind : (k : Kind) (h l : ℕ) → kind_of (roll-CorePick (tree.Range k h l)) ≡ k
unfolding out-CorePick denote.Hole.Carrier.out roll-CorePick denote.Hole.Carrier.roll
range_kind k h l = refl

module _ (cells : List Cell) (ns : List Counter) (h : AreCounters cells ns) where
  picked_kind : {j k : Kind} {q : CorePick} → IsPicked cells j q k → kind_of q ≡ j
  picked_kind (whole.bit {j = j} {e = e} w) = bit_kind j e
  picked_kind (whole.range {j = j} a b x y z) = range_kind j a b

  mutual
    pub whole_reads : {e : CoreExpr} → IsWhole cells e → IsReadable ns e
    whole_reads (whole.literal w v f) = literal w
    whole_reads (whole.load w) = load (loaded_reads w)
    whole_reads (whole.read l) = read l
    whole_reads (whole.convert v w) = convert (whole_reads w)
    whole_reads (whole.unary {o = o} r d w) = unary o (whole_reads w)
    whole_reads (whole.binary {o = o} r d v w) = binary o (whole_reads v) (whole_reads w)
    whole_reads (whole.choose v w x y) = choose (whole_reads w) (whole_reads x) (whole_reads y)
    whole_reads (whole.pick w s) = pick (whole_reads w) (picked_reads s)
    whole_reads (whole.join w s) = join (next (whole_reads w) (joined_reads s))

    pub picked_reads : {j k : Kind} {q : CorePick} → IsPicked cells j q k → IsReadablePick ns q
    picked_reads (whole.bit {j = j} w) = bit j (whole_reads w)
    picked_reads (whole.range {j = j} a b x y z) = range j a b

    joined_reads : {j k : Kind} {es : List CoreExpr} → AreJoined cells j es k → AreReadable ns es
    joined_reads whole.last = last
    joined_reads (whole.next w c b r) = next (whole_reads w) (joined_reads r)

    pub loaded_reads : {k : Kind} {l : CoreLeft} → IsLoaded cells k l → IsReadableLeft ns k l
    loaded_reads (whole.all w) = all (named_reads w)
    loaded_reads (whole.some {b = b} {ps = ps} w s) = some (subst (λ j. IsReadableBase ns j b ps) (sym (picked_kind s)) (named_reads w)) (picked_reads s)

    named_reads : {k : Kind} {p : Place} {b : CoreBase} {ps : List CorePart} → IsNamed cells p b ps k → IsReadableBase ns k b ps
    named_reads (whole.cell n c e f) = cell n (λ v g. counter_valued cells ns h n c v e g)
    named_reads (whole.front {name = name} w a) = front name a.is_name (parts_read w)
    named_reads (whole.follow l soft {ps = ps}) = follow l soft ps
    named_reads (whole.null {ps = ps}) = null ps

    pub parts_read : {ps : List CorePart} → AreParts cells ps → AreReadableParts ns ps
    parts_read whole.none = none
    parts_read (whole.member n w) = member n (parts_read w)
    parts_read (whole.index size v w) = index size (whole_reads v) (parts_read w)
