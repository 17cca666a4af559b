-- The list of every row has a row for each rule, and no other.
use Rattle.std.specs.Prelude.{◌≡◌, zero, suc, ◌↔◌, ◌⊎◌, List, [], ◌∷◌, Option, Some, None}
use Rattle.std.specs.List.{Contains, flat_map}
use Rattle.std.proofs.lemmas.List.Elements.{Contains-append_left, Contains-append_right, Contains-append_cases}
use Rattle.std.proofs.Common.{inl, inr, refl, sym, ◌∙◌, ap, subst, arith}
use Rattle.scc_bits_kinds.specs.declared.op.Op.{Op}
use Rattle.scc_bits_kinds.specs.declared.op.Op.TheVariants as op
use Rattle.scc_bits_kinds.specs.declared.group.Group.{Group}
use Rattle.scc_bits_kinds.specs.declared.group.Group.TheVariants as group
use Rattle.scc_bits_kinds.specs.declared.rule.Rule.{Rule}
use Rattle.scc_bits_kinds.specs.declared.table.Row.{Row}
use Rattle.scc_bits_kinds.specs.Table.{rule_of}
use Rattle.scc_bits_kinds.specs.Rows.{every_op, every_group, every_row, row_of}

-- members of lists joined end to end
into : {X A : Type 0} (f : X → List A) (xs : List X) (x : X) (a : A) → Contains xs x → Contains (f x) a → Contains (flat_map f xs) a
into f [] x a (k, l, q) h = absurd (omega arith)
into f (y ∷ ys) x a (zero, l, q) h = Contains-append_left (f y) (flat_map f ys) a (subst (λ z. Contains (f z) a) (sym q) h)
into f (y ∷ ys) x a (suc k, l, q) h = Contains-append_right (f y) (flat_map f ys) a (into f ys x a (k, omega arith, q) h)

out_of : {X A : Type 0} (f : X → List A) (xs : List X) (a : A) → Contains (flat_map f xs) a → (x : X) × Contains (f x) a
out_of f [] a (k, l, q) = absurd (omega arith)
out_of {X} f (y ∷ ys) a h = by (out_of f ys a) (Contains-append_cases (f y) (flat_map f ys) a h)
  where
    by : (Contains (flat_map f ys) a → (x : X) × Contains (f x) a) → Contains (f y) a ⊎ Contains (flat_map f ys) a → (x : X) × Contains (f x) a
    by back (inl p) = (y, p)
    by back (inr p) = back p

has_op : (o : Op) → Contains every_op o
has_op op.Add = (0, omega arith, refl)
has_op op.Sub = (1, omega arith, refl)
has_op op.Mul = (2, omega arith, refl)
has_op op.Div = (3, omega arith, refl)
has_op op.Rem = (4, omega arith, refl)
has_op op.And = (5, omega arith, refl)
has_op op.Or = (6, omega arith, refl)
has_op op.Xor = (7, omega arith, refl)
has_op op.Eq = (8, omega arith, refl)
has_op op.Ne = (9, omega arith, refl)
has_op op.Lt = (10, omega arith, refl)
has_op op.Le = (11, omega arith, refl)
has_op op.Gt = (12, omega arith, refl)
has_op op.Ge = (13, omega arith, refl)
has_op op.Shl = (14, omega arith, refl)
has_op op.Shr = (15, omega arith, refl)
has_op op.LogAnd = (16, omega arith, refl)
has_op op.LogOr = (17, omega arith, refl)
has_op op.Plus = (18, omega arith, refl)
has_op op.Neg = (19, omega arith, refl)
has_op op.Not = (20, omega arith, refl)
has_op op.LogNot = (21, omega arith, refl)
has_op op.AndReduce = (22, omega arith, refl)
has_op op.OrReduce = (23, omega arith, refl)
has_op op.XorReduce = (24, omega arith, refl)

has_group : (g : Group) → Contains every_group g
has_group group.Bool = (0, omega arith, refl)
has_group group.Native = (1, omega arith, refl)
has_group group.Int = (2, omega arith, refl)
has_group group.Uint = (3, omega arith, refl)
has_group group.Big = (4, omega arith, refl)
has_group group.BigInt = (5, omega arith, refl)
has_group group.Bv = (6, omega arith, refl)
has_group group.Wide = (7, omega arith, refl)

abbrev made : Op → Group → Group → Rule → Row
made o g h r = record { op = o; left = g; right = h; rule = r }

one_row : (o p : Op) (g h i j : Group) (r : Rule) (t : Option Rule) → rule_of o g h ≡ t → Contains (row_of o g h t) (made p i j r) → rule_of p i j ≡ Some r
one_row o p g h i j r None e (k, l, q) = absurd (omega arith)
one_row o p g h i j r (Some s) e (suc k, l, q) = absurd (omega arith)
one_row o p g h i j r (Some s) e (zero, l, q) =
    (λ n. rule_of ((sym q n).op) ((sym q n).left) ((sym q n).right)) ∙ e ∙ ap (λ (y : Row). Some y.rule) q

abbrev of_right : Op → Group → Group → List Row
of_right o g h = row_of o g h (rule_of o g h)

abbrev of_left : Op → Group → List Row
of_left o g = flat_map (of_right o g) every_group

abbrev of_op : Op → List Row
of_op o = flat_map (of_left o) every_group

only : (p : Op) (i j : Group) (r : Rule) → Contains every_row (made p i j r) → rule_of p i j ≡ Some r
only p i j r h =
    let a = out_of of_op every_op (made p i j r) h in
    let b = out_of (of_left a.0) every_group (made p i j r) a.1 in
    let c = out_of (of_right a.0 b.0) every_group (made p i j r) b.1 in
    one_row a.0 p b.0 c.0 i j r (rule_of a.0 b.0 c.0) refl c.1

each : (o : Op) (g h : Group) (r : Rule) → rule_of o g h ≡ Some r → Contains every_row (made o g h r)
each o g h r e = into of_op every_op o (made o g h r) (has_op o) (into (of_left o) every_group g (made o g h r) (has_group g) (into (of_right o g) every_group h (made o g h r) (has_group h) (subst (λ t. Contains (row_of o g h t) (made o g h r)) (sym e) (0, omega arith, refl))))

same_option : (a b : Option Rule) → ((r : Rule) → a ≡ Some r → b ≡ Some r) → ((r : Rule) → b ≡ Some r → a ≡ Some r) → a ≡ b
same_option None None f k = refl
same_option (Some x) b f k = sym (f x refl)
same_option None (Some y) f k = k y refl

-- what a search in the rows answers is the rule
pub rule_is : (rows : List Row) (o : Op) (g h : Group) (result : Option Rule) → rows ≡ every_row → ((rule : Rule) → (result ≡ Some rule) ↔ Contains rows (made o g h rule)) → result ≡ rule_of o g h
rule_is rows o g h result e f = same_option result (rule_of o g h) (λ r q. only o g h r (subst (λ rs. Contains rs (made o g h r)) e ((f r).0 q))) (λ r q. (f r).1 (subst (λ rs. Contains rs (made o g h r)) (sym e) (each o g h r q)))
