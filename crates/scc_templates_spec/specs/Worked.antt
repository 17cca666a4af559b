-- `template<int N> struct F { static const int v = F<N - 1>::v; };` with `F<0>::v = 1`: a chain of 64 has a value, one of 65 is refused.
use Rattle.std.specs.Prelude.{ℕ, zero, suc, ◌-◌, true, []}
use Rattle.scc_base.specs.declared.refusal.Place.{Place}
use Rattle.scc_base.specs.declared.code.Code.TheVariants as reason
use Rattle.scc_bits_kinds.specs.declared.kind.Kind.TheVariants as kind
use Rattle.scc_templates_spec.specs.Walk.{Args, Nil, Cons, Value}
use Rattle.scc_templates_spec.specs.Walked.{Walked, pure, fault, and_walk}
use Rattle.scc_templates_spec.specs.World.{Key, Constant, Special, Owner, File, In, World, world}

abbrev pub here : Place
here = record { file = 0; at = 0 }

abbrev pub there : Place
there = record { file = 0; at = 9 }

abbrev pub number : ℕ → Args
number n = Cons (Value (kind.Native 32 true) n) Nil

abbrev pub constant_of : ℕ → Key
constant_of n = Constant (In 0 (number n)) 0 0

abbrev pub by_number : World ℕ → ℕ → Walked ℕ
by_number w zero = pure 1
by_number w (suc n) = w (constant_of (suc n - 1)) there

abbrev pub by_args : World ℕ → Args → Walked ℕ
by_args w (Cons (Value k n) Nil) = by_number w n
by_args w args = fault reason.Arguments here

abbrev pub by_owner : World ℕ → Owner → Walked ℕ
by_owner w File = fault reason.UnknownName here
by_owner w (In c args) = by_args w args

abbrev pub meant : World ℕ → Key → Place → Walked ℕ
meant w (Constant o i e) p = by_owner w o
meant w k p = fault reason.UnknownName here

abbrev pub asked : ℕ → Walked ℕ
asked n = world ℕ meant 100 [] (constant_of n) here

-- `template<int N> struct G { static const int w = 1; }; template<> struct G<F<40>::v + 5> {};`, with H like F but `H<0>::u = G<2>::w`; and `template<int N> struct C
-- { static const int v = N; }; template<> struct C<E<2>::v> {};`, where E<N>::v is C<1>::v. F, G, H, C and E are the classes 0 to 4. A use of a class asks for
-- its specialisations first.
abbrev pub constant_in : ℕ → ℕ → Key
constant_in c n = Constant (In c (number n)) 0 0

abbrev pub used : World ℕ → ℕ → ℕ → Walked ℕ
used w c n = and_walk (w (Special c) there) (λ x. w (constant_in c n) there)

abbrev pub of_h : World ℕ → ℕ → Walked ℕ
of_h w zero = used w 1 2
of_h w (suc n) = w (constant_in 2 (suc n - 1)) there

abbrev pub of_number : World ℕ → ℕ → ℕ → Walked ℕ
of_number w zero n = by_number w n
of_number w (suc zero) n = pure 1
of_number w (suc (suc zero)) n = of_h w n
of_number w (suc (suc (suc zero))) n = pure n
of_number w (suc (suc (suc (suc c)))) n = used w 3 1

abbrev pub of_class : World ℕ → ℕ → Args → Walked ℕ
of_class w c (Cons (Value k n) Nil) = of_number w c n
of_class w c args = fault reason.Arguments here

abbrev pub of_owner : World ℕ → Owner → Walked ℕ
of_owner w File = fault reason.UnknownName here
of_owner w (In c args) = of_class w c args

-- what the arguments of a class's specialisations ask for
abbrev pub of_special : World ℕ → ℕ → Walked ℕ
of_special w (suc zero) = w (constant_in 0 40) there
of_special w (suc (suc (suc zero))) = w (constant_in 4 2) here
of_special w c = pure 0

abbrev pub special_meant : World ℕ → Key → Place → Walked ℕ
special_meant w (Constant o i e) p = of_owner w o
special_meant w (Special c) p = of_special w c
special_meant w k p = fault reason.UnknownName here

abbrev pub asked_beside : ℕ → ℕ → Walked ℕ
asked_beside c n = world ℕ special_meant 200 [] (constant_in c n) here

abbrev pub used_beside : ℕ → ℕ → Walked ℕ
used_beside c n = used (world ℕ special_meant 200 []) c n
