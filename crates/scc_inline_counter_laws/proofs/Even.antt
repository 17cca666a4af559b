-- Where the elements that counters choose are alike, what is static with counters as literals is so whatever words they hold.
use Rattle.std.proofs.Common.{◌≡◌, ℕ, Bool, true, false, not, ◌&&◌, nat_eq, ◌||◌, List, [], ◌∷◌, ◌++◌, Option, Some, None, is_some, find, option_map, option_and_then, if◌then◌else◌, refl, sym, ap, ◌∙◌, subst}
use Rattle.std.specs.List.{list_all}
use Rattle.scc_base.specs.declared.refusal.Place.{Place}
use Rattle.scc_bits_kinds.specs.declared.kind.Kind.{Kind}
use Rattle.scc_bits_kinds.specs.declared.op.Op.{Op}
use Rattle.scc_bits_kinds.specs.declared.rule.Rule.{Rule}
use Rattle.scc_bits_kinds.specs.Kinds.{width_of, number_of, stored}
use Rattle.scc_bits_kinds.specs.Bits.{part, joined}
use Rattle.scc_bits.specs.Values.{applied, answer_of, rule_at, computed, left_of as left_kind, right_of as right_kind}
use Rattle.scc_semantics.specs.Scene.{with_two, chosen, index_of, bit_at}
use Rattle.scc_core_spec.specs.Term.{Term, Literal, Load, Read, Convert, Unary, Binary, Choose, Bit, Range, Join, Left, Cell, Prefix, Null, Follow, Index, kind_of}
use Rattle.scc_core_spec.specs.Term as term
use Rattle.scc_core_spec.specs.Program as program
use Rattle.scc_core_spec.specs.Program.{is_pointer}
use Rattle.scc_core_spec.specs.Named.{Step, Named, At, Open, steps_of, is_open, fits, names_cell}
use Rattle.scc_core_spec.specs.Static.{Cells, fixed_word, found, held, held_at, index_step, grown, first_of, static, pattern}
use Rattle.scc_core_spec.specs.Counted.{Counter, counter, counter_at, loaded_as, counting, counting_left}
use Rattle.scc_inline_process_laws.specs.Chosen.{reworded}
use Rattle.scc_inline_spec.specs.Static as inline
use Rattle.scc_elab_spec.proofs.Chains.{and-first, and-second}
use Rattle.scc_inline_counter_laws.specs.Even.{alike, is_fixed_alike, is_row, counts_on, counts_in, is_even_term, is_even}
use Rattle.scc_inline_counter_laws.proofs.Names.{alike-refl, open-front, open-last, closed-end, alike-end, Zeroed, zeroed_same, zeroed_at, zeroed_none, zeroed-refl, zeroed-end, zeroed-alike, zeroed-closed, fits-is, alike-sym, alike-trans}

some-is : {A : Type 0} {x y : A} → Some x ≡ Some y → x ≡ y
some-is e = cc

mapped-some : {A B : Type 0} (o : Option A) (f : A → B) (w : B) → option_map f o ≡ Some w → (x : A) × (o ≡ Some x)
mapped-some None f w e = absurd cc
mapped-some (Some x) f w e = (x, refl)

then-some : {A B : Type 0} (o : Option A) (f : A → Option B) (w : B) → option_and_then f o ≡ Some w → (x : A) × (o ≡ Some x) × (f x ≡ Some w)
then-some None f w e = absurd cc
then-some (Some x) f w e = (x, refl, e)

two-some : (a b : Option ℕ) (f : ℕ → ℕ → Option ℕ) (w : ℕ) → with_two a b f ≡ Some w → (x y : ℕ) × (a ≡ Some x) × (b ≡ Some y) × (f x y ≡ Some w)
two-some None b f w e = absurd cc
two-some (Some x) None f w e = absurd cc
two-some (Some x) (Some y) f w e = (x, y, refl, refl, e)

-- an operator has an answer for all words, or for none
applied-some : (o : Op) (j k : Kind) (x y w u v : ℕ) → applied o j x k y ≡ Some w → (z : ℕ) × (applied o j u k v ≡ Some z)
applied-some o j k x y w u v e = by (rule_at o j k) e
  where
    answers : (r : Rule) (a : Option Kind) → option_map (λ a. computed o (left_kind r j k) (right_kind r j k) a j x k y) a ≡ Some w → (z : ℕ) × (option_map (λ a. computed o (left_kind r j k) (right_kind r j k) a j u k v) a ≡ Some z)
    answers r None e = absurd cc
    answers r (Some a) e = (computed o (left_kind r j k) (right_kind r j k) a j u k v, refl)

    by : (r : Option Rule) → option_and_then (λ r. option_map (λ a. computed o (left_kind r j k) (right_kind r j k) a j x k y) (answer_of r j k)) r ≡ Some w
        → (z : ℕ) × (option_and_then (λ r. option_map (λ a. computed o (left_kind r j k) (right_kind r j k) a j u k v) (answer_of r j k)) r ≡ Some z)
    by None e = absurd cc
    by (Some r) e = answers r (answer_of r j k) e

-- counters as literals have the kinds of what they stand for
kind-kept : (ns : List Counter) (e : Term) → kind_of (counting ns e) ≡ kind_of e
kind-kept ns (Literal p k x) = refl
kind-kept ns (Load p k l) = by (counter_at ns l)
  where
    by : (c : Option Counter) → kind_of (loaded_as c p k (counting_left ns l)) ≡ k
    by None = refl
    by (Some c) = refl
kind-kept ns (Read p k l) = refl
kind-kept ns (Convert p k e) = refl
kind-kept ns (Unary p k o e) = refl
kind-kept ns (Binary p k o e f) = refl
kind-kept ns (Choose p k t e f) = refl
kind-kept ns (Bit p e i) = refl
kind-kept ns (Range p k e h l) = refl
kind-kept ns (Join p k e f) = refl

find-both : (t u : program.Cell → Bool) (xs : Cells) (x : program.Cell) → list_all u xs ≡ true → find t xs ≡ Some x → (t x ≡ true) × (u x ≡ true)
find-both t u [] x a e = cc
find-both t u (y ∷ xs) x a e = by (t y) refl e (λ e. find-both t u xs x (and-second (u y) (list_all u xs) a) e)
  where
    by : (b : Bool) → t y ≡ b → (if b then Some y else find t xs) ≡ Some x → (find t xs ≡ Some x → (t x ≡ true) × (u x ≡ true)) → (t x ≡ true) × (u x ≡ true)
    by true g e ih = let z : y ≡ x = some-is e in (ap t (sym z) ∙ g, ap u (sym z) ∙ and-first (u y) (list_all u xs) a)
    by false g e ih = ih e

or-first : (a b : Bool) → (a || b) ≡ false → a ≡ false
or-first true b e = cc
or-first false b e = refl

or-second : (a b : Bool) → (a || b) ≡ false → b ≡ false
or-second true b e = cc
or-second false b e = e

module _ (cs : Cells) where
  -- a cell of an array of which all elements are fixed is fixed
  fixed-there : (f p : List Step) (c : program.Cell) → list_all (is_fixed_alike f) cs ≡ true → found cs p ≡ Some c → is_open p ≡ false → alike f p ≡ true → (v : ℕ) × (fixed_word c.sort ≡ Some v)
  fixed-there f p c all e o a =
      let x = find-both (names_cell false p) (is_fixed_alike f) cs c all e in
      let k : alike f (steps_of c.name) ≡ true = ap (alike f) (sym (fits-is p (steps_of c.name) o (and-first (fits p (steps_of c.name)) (not (is_pointer c.sort)) x.0))) ∙ a in
      let n : not (is_pointer c.sort) ≡ true = and-second (fits p (steps_of c.name)) (not (is_pointer c.sort)) x.0 in
      some (fixed_word c.sort) (sym (λ i. if k i && n i then is_some (fixed_word c.sort) else true) ∙ x.1)
    where
      some : (o : Option ℕ) → is_some o ≡ true → (v : ℕ) × (o ≡ Some v)
      some None e = cc
      some (Some v) e = (v, refl)

  -- so one that is there has a word, and past the end stands 0
  held-there : (t f : List Step) → is_row cs (Some f) ≡ true → is_open t ≡ false → is_open f ≡ false → alike f t ≡ true → (v : ℕ) × (held (found cs t) (found cs f) ≡ Some v)
  held-there t f row ot of a = by (found cs t) (found cs f) refl refl (and-first (is_some (found cs f)) (list_all (is_fixed_alike f) cs) row)
    where
      all : list_all (is_fixed_alike f) cs ≡ true
      all = and-second (is_some (found cs f)) (list_all (is_fixed_alike f) cs) row

      by : (y u : Option program.Cell) → found cs t ≡ y → found cs f ≡ u → is_some u ≡ true → (v : ℕ) × (held y u ≡ Some v)
      by (Some d) u q r e = fixed-there f t d all q ot a
      by None (Some g) q r e = let v = fixed-there f f g all r of (alike-refl f of) in (0, ap (option_map (λ w. 0)) v.1)
      by None None q r e = cc

  module _ (ns : List Counter) (f : ℕ → ℕ) where
    abbrev ms : List Counter
    ms = reworded f ns

    find-reworded : (n : ℕ) (ns : List Counter) → find (λ c. nat_eq n c.cell) (reworded f ns) ≡ option_map (λ c. counter c.cell (f c.cell)) (find (λ c. nat_eq n c.cell) ns)
    find-reworded n [] = refl
    find-reworded n (c ∷ ns) = by (nat_eq n c.cell) (find-reworded n ns)
      where
        by : (b : Bool) → find (λ c. nat_eq n c.cell) (reworded f ns) ≡ option_map (λ c. counter c.cell (f c.cell)) (find (λ c. nat_eq n c.cell) ns)
            → (if b then Some (counter c.cell (f c.cell)) else find (λ c. nat_eq n c.cell) (reworded f ns)) ≡ option_map (λ c. counter c.cell (f c.cell)) (if b then Some c else find (λ c. nat_eq n c.cell) ns)
        by true ih = refl
        by false ih = ih

    kind-same : (e : Term) → kind_of (counting ns e) ≡ kind_of (counting ms e)
    kind-same e = kind-kept ns e ∙ sym (kind-kept ms e)

    cell-some : (p q : Place) (k : Kind) (n w : ℕ) → static cs (counting ns (Load p k (Cell q n))) ≡ Some w → (v : ℕ) × (static cs (counting ms (Load p k (Cell q n))) ≡ Some v)
    cell-some p q k n w e = by (find (λ c. nat_eq n c.cell) ns) (find (λ c. nat_eq n c.cell) ms) (find-reworded n ns) e
      where
        by : (o u : Option Counter) → u ≡ option_map (λ c. counter c.cell (f c.cell)) o → static cs (loaded_as o p k (Cell q n)) ≡ Some w → (v : ℕ) × (static cs (loaded_as u p k (Cell q n)) ≡ Some v)
        by None u r e = (w, ap (λ u. static cs (loaded_as u p k (Cell q n))) r ∙ e)
        by (Some c) u r e = (f c.cell, ap (λ u. static cs (loaded_as u p k (Cell q n))) r)

    -- counters don't matter for the first element
    first-same : (ks : List Counter) (l : Left) → first_of cs (counting_left ks l) ≡ first_of cs l
    first-same ks (Cell p n) = refl
    first-same ks (Prefix p n) = refl
    first-same ks (Null p) = refl
    first-same ks (Follow p s l) = refl
    first-same ks (term.Member l n) = ap (λ o. grown o (Named n)) (first-same ks l)
    first-same ks (Index l z e) = ap (λ o. grown o (At 0)) (first-same ks l)

    -- what has no counter stays
    loaded-same : (p : Place) (k : Kind) (l : Left) → is_some (counter_at ns l) ≡ false → counting_left ns l ≡ counting_left ms l → loaded_as (counter_at ns l) p k (counting_left ns l) ≡ loaded_as (counter_at ms l) p k (counting_left ms l)
    loaded-same p k (Cell q n) e s = by (find (λ c. nat_eq n c.cell) ns) (find (λ c. nat_eq n c.cell) ms) (find-reworded n ns) e
      where
        by : (o u : Option Counter) → u ≡ option_map (λ c. counter c.cell (f c.cell)) o → is_some o ≡ false → loaded_as o p k (Cell q n) ≡ loaded_as u p k (Cell q n)
        by None u r e = ap (λ u. loaded_as u p k (Cell q n)) (sym r)
        by (Some c) u r e = cc
    loaded-same p k (Prefix q n) e s = refl
    loaded-same p k (Null q) e s = refl
    loaded-same p k (Follow q t l) e s = ap (Load p k) s
    loaded-same p k (term.Member l n) e s = ap (Load p k) s
    loaded-same p k (Index l z i) e s = ap (Load p k) s

    mutual
      term-stays : (e : Term) → counts_on ns e ≡ false → counting ns e ≡ counting ms e
      term-stays (Literal p k w) h = refl
      term-stays (Load p k l) h = loaded-same p k l (or-first (is_some (counter_at ns l)) (counts_in ns l) h) (left-stays l (or-second (is_some (counter_at ns l)) (counts_in ns l) h))
      term-stays (Read p k l) h = ap (Read p k) (left-stays l h)
      term-stays (Convert p k e) h = ap (Convert p k) (term-stays e h)
      term-stays (Unary p k o e) h = ap (Unary p k o) (term-stays e h)
      term-stays (Binary p k o a b) h = λ i. Binary p k o (term-stays a (or-first (counts_on ns a) (counts_on ns b) h) i) (term-stays b (or-second (counts_on ns a) (counts_on ns b) h) i)
      term-stays (Choose p k t a b) h =
          let A = counts_on ns a in let B = counts_on ns b in let r = or-second (counts_on ns t) (A || B) h in
          λ i. Choose p k (term-stays t (or-first (counts_on ns t) (A || B) h) i) (term-stays a (or-first A B r) i) (term-stays b (or-second A B r) i)
      term-stays (Bit p a b) h = λ i. Bit p (term-stays a (or-first (counts_on ns a) (counts_on ns b) h) i) (term-stays b (or-second (counts_on ns a) (counts_on ns b) h) i)
      term-stays (Range p k a m l) h = ap (λ a. Range p k a m l) (term-stays a h)
      term-stays (Join p k a b) h = λ i. Join p k (term-stays a (or-first (counts_on ns a) (counts_on ns b) h) i) (term-stays b (or-second (counts_on ns a) (counts_on ns b) h) i)

      left-stays : (l : Left) → counts_in ns l ≡ false → counting_left ns l ≡ counting_left ms l
      left-stays (Cell p n) h = refl
      left-stays (Prefix p n) h = refl
      left-stays (Null p) h = refl
      left-stays (Follow p s l) h = ap (Follow p s) (left-stays l h)
      left-stays (term.Member l n) h = ap (λ l. term.Member l n) (left-stays l h)
      left-stays (Index l z e) h = λ i. Index (left-stays l (or-first (counts_in ns l) (counts_on ns e) h) i) z (term-stays e (or-second (counts_in ns l) (counts_on ns e) h) i)

    -- a location with its first element
    zeroed-is : (l : Left) (s t : List Step) → is_open s ≡ false → pattern cs (counting_left ns l) ≡ Some s → first_of cs (counting_left ns l) ≡ Some t → Zeroed s t
    zeroed-is (Cell p n) s t o e g = let x : s ≡ t = some-is (sym e ∙ g) in subst (Zeroed s) x (zeroed-refl s)
    zeroed-is (Prefix p n) s t o e g = let x : s ≡ t = some-is (sym e ∙ g) in subst (Zeroed s) x (zeroed-refl s)
    zeroed-is (Null p) s t o e g = cc
    zeroed-is (Follow p z l) s t o e g = cc
    zeroed-is (term.Member l n) s t o e g = by (pattern cs (counting_left ns l)) (first_of cs (counting_left ns l)) e g (λ a b o p q. zeroed-is l a b o p q)
      where
        by : (x y : Option (List Step)) → grown x (Named n) ≡ Some s → grown y (Named n) ≡ Some t → ((a b : List Step) → is_open a ≡ false → x ≡ Some a → y ≡ Some b → Zeroed a b) → Zeroed s t
        by None y e g ih = cc
        by (Some a) None e g ih = cc
        by (Some a) (Some b) e g ih = subst (λ s. Zeroed s t) (some-is e) (subst (Zeroed (a ++ Named n ∷ [])) (some-is g) (zeroed-end (ih a b (open-front a (Named n) (ap is_open (some-is e) ∙ o)) refl refl) (zeroed_same (Named n) zeroed_none)))
    zeroed-is (Index l z i) s t o e g = by (pattern cs (counting_left ns l)) (first_of cs (counting_left ns l)) (static cs (counting ns i)) e g (λ a b o p q. zeroed-is l a b o p q)
      where
        by : (x y : Option (List Step)) (v : Option ℕ) → grown x (index_step z (kind_of (counting ns i)) v) ≡ Some s → grown y (At 0) ≡ Some t → ((a b : List Step) → is_open a ≡ false → x ≡ Some a → y ≡ Some b → Zeroed a b) → Zeroed s t
        by None y v e g ih = cc
        by (Some a) None v e g ih = cc
        by (Some a) (Some b) None e g ih = absurd (open-last a z (ap is_open (some-is e) ∙ o))
        by (Some a) (Some b) (Some v) e g ih =
            let x = At (index_of (kind_of (counting ns i)) v) in
            subst (λ s. Zeroed s t) (some-is e) (subst (Zeroed (a ++ x ∷ [])) (some-is g) (zeroed-end (ih a b (open-front a x (ap is_open (some-is e) ∙ o)) refl refl) (zeroed_at (index_of (kind_of (counting ns i)) v) zeroed_none)))

    load-some : (l : Left) (w : ℕ) → (if counts_in ns l then is_row cs (first_of cs l) else true) ≡ true
        → ((s : List Step) → is_open s ≡ false → pattern cs (counting_left ns l) ≡ Some s → (t : List Step) × (pattern cs (counting_left ms l) ≡ Some t) × (is_open t ≡ false) × (alike s t ≡ true))
        → option_and_then (λ s. option_and_then (λ f. held_at cs s f) (first_of cs (counting_left ns l))) (pattern cs (counting_left ns l)) ≡ Some w
        → (v : ℕ) × (option_and_then (λ s. option_and_then (λ f. held_at cs s f) (first_of cs (counting_left ms l))) (pattern cs (counting_left ms l)) ≡ Some v)
    load-some l w row again e = by (counts_in ns l) refl row
      where
        closed : (b : Bool) {x : Option ℕ} → (if b then None else x) ≡ Some w → (b ≡ false) × (x ≡ Some w)
        closed true e = cc
        closed false e = (refl, e)

        by : (b : Bool) → counts_in ns l ≡ b → (if b then is_row cs (first_of cs l) else true) ≡ true
            → (v : ℕ) × (option_and_then (λ s. option_and_then (λ f. held_at cs s f) (first_of cs (counting_left ms l))) (pattern cs (counting_left ms l)) ≡ Some v)
        by false c r = (w, ap (λ l. option_and_then (λ s. option_and_then (λ f. held_at cs s f) (first_of cs l)) (pattern cs l)) (sym (left-stays l c)) ∙ e)
        by true c r =
            let x = then-some (pattern cs (counting_left ns l)) _ w e in
            let y = then-some (first_of cs (counting_left ns l)) _ w x.2 in
            let o = closed (is_open x.0) y.2 in
            let t = again x.0 o.0 x.1 in
            let z = zeroed-is l x.0 y.0 o.0 x.1 y.1 in
            let first : first_of cs l ≡ Some y.0 = sym (first-same ns l) ∙ y.1 in
            let row : is_row cs (Some y.0) ≡ true = ap (is_row cs) (sym first) ∙ r in
            let v = held-there t.0 y.0 row t.2 (zeroed-closed z o.0) (alike-trans y.0 x.0 t.0 (alike-sym x.0 y.0 (zeroed-alike z o.0)) t.3) in
            (v.0, (λ i. option_and_then (λ s. option_and_then (λ f. held_at cs s f) ((first-same ms l ∙ first) i)) (t.1 i)) ∙ (ap (λ b. if b then None else held (found cs t.0) (found cs y.0)) t.2 ∙ v.1))

    index-some : (l : Left) (z : ℕ) (i : Term) (s : List Step) → is_open s ≡ false
        → ((s : List Step) → is_open s ≡ false → pattern cs (counting_left ns l) ≡ Some s → (t : List Step) × (pattern cs (counting_left ms l) ≡ Some t) × (is_open t ≡ false) × (alike s t ≡ true))
        → ((w : ℕ) → static cs (counting ns i) ≡ Some w → (v : ℕ) × (static cs (counting ms i) ≡ Some v))
        → grown (pattern cs (counting_left ns l)) (index_step z (kind_of (counting ns i)) (static cs (counting ns i))) ≡ Some s
        → (t : List Step) × (grown (pattern cs (counting_left ms l)) (index_step z (kind_of (counting ms i)) (static cs (counting ms i))) ≡ Some t) × (is_open t ≡ false) × (alike s t ≡ true)
    index-some l z i s o again value e = by (static cs (counting ns i)) refl e
      where
        by : (v : Option ℕ) → static cs (counting ns i) ≡ v → grown (pattern cs (counting_left ns l)) (index_step z (kind_of (counting ns i)) v) ≡ Some s
            → (t : List Step) × (grown (pattern cs (counting_left ms l)) (index_step z (kind_of (counting ms i)) (static cs (counting ms i))) ≡ Some t) × (is_open t ≡ false) × (alike s t ≡ true)
        by None r e =
            let x = mapped-some (pattern cs (counting_left ns l)) (λ p. p ++ Open z ∷ []) s e in
            let q : x.0 ++ Open z ∷ [] ≡ s = some-is (ap (λ o. grown o (Open z)) (sym x.1) ∙ e) in absurd (open-last x.0 z (ap is_open q ∙ o))
        by (Some w) r e =
            let y = At (index_of (kind_of (counting ns i)) w) in
            let x = mapped-some (pattern cs (counting_left ns l)) (λ p. p ++ y ∷ []) s e in
            let q : x.0 ++ y ∷ [] ≡ s = some-is (ap (λ o. grown o y) (sym x.1) ∙ e) in
            let t = again x.0 (open-front x.0 y (ap is_open q ∙ o)) x.1 in
            let v = value w r in
            let u = At (index_of (kind_of (counting ms i)) v.0) in
            (t.0 ++ u ∷ [], (λ k. grown (t.1 k) (index_step z (kind_of (counting ms i)) (v.1 k))), closed-end t.0 u t.2 refl, subst (λ s. alike s (t.0 ++ u ∷ []) ≡ true) q (alike-end x.0 t.0 y u t.3 refl))

    mutual
      pub some-static : (e : Term) (w : ℕ) → is_even_term cs ns e ≡ true → static cs (counting ns e) ≡ Some w → (v : ℕ) × (static cs (counting ms e) ≡ Some v)
      some-static (Literal p k x) w h e = (x, refl)
      some-static (Load p k (Cell q n)) w h e = cell-some p q k n w e
      some-static (Load p k (Prefix q n)) w h e = (w, e)
      some-static (Load p k (Null q)) w h e = cc
      some-static (Load p k (Follow q s l)) w h e = cc
      some-static (Load p k (term.Member l n)) w h e =
          let R = if counts_in ns (term.Member l n) then is_row cs (first_of cs (term.Member l n)) else true in
          load-some (term.Member l n) w (and-first R (is_even cs ns (term.Member l n)) h) (λ s o e. some-pattern (term.Member l n) s (and-second R (is_even cs ns (term.Member l n)) h) o e) e
      some-static (Load p k (Index l z i)) w h e =
          let R = if counts_in ns (Index l z i) then is_row cs (first_of cs (Index l z i)) else true in
          load-some (Index l z i) w (and-first R (is_even cs ns (Index l z i)) h) (λ s o e. some-pattern (Index l z i) s (and-second R (is_even cs ns (Index l z i)) h) o e) e
      some-static (Read p k l) w h e = cc
      some-static (Convert p k a) w h e =
          let x = mapped-some (static cs (counting ns a)) _ w e in let y = some-static a x.0 h x.1 in
          (stored k (number_of (kind_of (counting ms a)) y.0), ap (option_map (λ x. stored k (number_of (kind_of (counting ms a)) x))) y.1)
      some-static (Unary p k o a) w h e =
          let x = then-some (static cs (counting ns a)) _ w e in let y = some-static a x.0 h x.1 in
          let j = kind_of (counting ms a) in
          let z = applied-some o j j x.0 x.0 w y.0 y.0 (ap (λ j. applied o j x.0 j x.0) (sym (kind-same a)) ∙ x.2) in
          (z.0, ap (option_and_then (λ x. applied o j x j x)) y.1 ∙ z.1)
      some-static (Binary p k o a b) w h e =
          let A = is_even_term cs ns a in let B = is_even_term cs ns b in
          let x = two-some (static cs (counting ns a)) (static cs (counting ns b)) _ w e in let y = some-static a x.0 (and-first A B h) x.2 in let u = some-static b x.1 (and-second A B h) x.3 in
          let i = kind_of (counting ms a) in let j = kind_of (counting ms b) in
          let z = applied-some o i j x.0 x.1 w y.0 u.0 ((λ t. applied o (sym (kind-same a) t) x.0 (sym (kind-same b) t) x.1) ∙ x.4) in
          (z.0, (λ t. with_two (y.1 t) (u.1 t) (λ x y. applied o i x j y)) ∙ z.1)
      some-static (Choose p k t a b) w h e =
          let A = is_even_term cs ns a in let B = is_even_term cs ns b in let g = and-second (is_even_term cs ns t) (A && B) h in
          let q = then-some (static cs (counting ns t)) _ w e in let r = some-static t q.0 (and-first (is_even_term cs ns t) (A && B) h) q.1 in
          let x = two-some (static cs (counting ns a)) (static cs (counting ns b)) _ w q.2 in let y = some-static a x.0 (and-first A B g) x.2 in let u = some-static b x.1 (and-second A B g) x.3 in
          (_, λ i. option_and_then (λ n. with_two (y.1 i) (u.1 i) (λ x y. Some (chosen n (stored k (number_of (kind_of (counting ms a)) x)) (stored k (number_of (kind_of (counting ms b)) y))))) (r.1 i))
      some-static (Bit p a i) w h e =
          let A = is_even_term cs ns a in let B = is_even_term cs ns i in
          let x = two-some (static cs (counting ns a)) (static cs (counting ns i)) _ w e in let y = some-static a x.0 (and-first A B h) x.2 in let u = some-static i x.1 (and-second A B h) x.3 in
          (_, λ t. with_two (y.1 t) (u.1 t) (λ x j. Some (bit_at (width_of (kind_of (counting ms a))) x (index_of (kind_of (counting ms i)) j))))
      some-static (Range p k a m l) w h e = let x = mapped-some (static cs (counting ns a)) _ w e in let y = some-static a x.0 h x.1 in (part m l y.0, ap (option_map (part m l)) y.1)
      some-static (Join p k a b) w h e =
          let A = is_even_term cs ns a in let B = is_even_term cs ns b in
          let x = two-some (static cs (counting ns a)) (static cs (counting ns b)) _ w e in let y = some-static a x.0 (and-first A B h) x.2 in let u = some-static b x.1 (and-second A B h) x.3 in
          (_, λ t. with_two (y.1 t) (u.1 t) (λ x y. Some (joined (width_of (kind_of (counting ms b))) x y)))

      -- the names of a location differ in their indices alone
      pub some-pattern : (l : Left) (s : List Step) → is_even cs ns l ≡ true → is_open s ≡ false → pattern cs (counting_left ns l) ≡ Some s → (t : List Step) × (pattern cs (counting_left ms l) ≡ Some t) × (is_open t ≡ false) × (alike s t ≡ true)
      some-pattern (Cell p n) s h o e = (s, e, o, alike-refl s o)
      some-pattern (Prefix p n) s h o e = (s, e, o, alike-refl s o)
      some-pattern (Null p) s h o e = cc
      some-pattern (Follow p z l) s h o e = cc
      some-pattern (term.Member l n) s h o e =
          let x = mapped-some (pattern cs (counting_left ns l)) (λ p. p ++ Named n ∷ []) s e in
          let q : x.0 ++ Named n ∷ [] ≡ s = some-is (ap (λ o. grown o (Named n)) (sym x.1) ∙ e) in
          let t = some-pattern l x.0 h (open-front x.0 (Named n) (ap is_open q ∙ o)) x.1 in
          (t.0 ++ Named n ∷ [], ap (λ o. grown o (Named n)) t.1, closed-end t.0 (Named n) t.2 refl, subst (λ s. alike s (t.0 ++ Named n ∷ []) ≡ true) q (alike-end x.0 t.0 (Named n) (Named n) t.3 (alike-refl (Named n ∷ []) refl)))
      some-pattern (Index l z i) s h o e =
          let L = is_even cs ns l in let I = is_even_term cs ns i in index-some l z i s o (λ s o e. some-pattern l s (and-first L I h) o e) (λ w e. some-static i w (and-second L I h) e) e

    -- a location that is static stays so
    pub still-static : (l : Left) → is_even cs ns l ≡ true → inline.is_static cs ns l ≡ true → inline.is_static cs ms l ≡ true
    still-static (Cell p n) h e = refl
    still-static (Prefix p n) h e = refl
    still-static (Null p) h e = refl
    still-static (Follow p s l) h e = still-static l h e
    still-static (term.Member l n) h e = still-static l h e
    still-static (Index l z i) h e = by (static cs (counting ns i)) refl e (λ e. still-static l (and-first (is_even cs ns l) (is_even_term cs ns i) h) e)
      where
        by : (v : Option ℕ) → static cs (counting ns i) ≡ v → (is_some v && inline.is_static cs ns l) ≡ true → (inline.is_static cs ns l ≡ true → inline.is_static cs ms l ≡ true)
            → (is_some (static cs (counting ms i)) && inline.is_static cs ms l) ≡ true
        by None r e ih = cc
        by (Some w) r e ih = let v = some-static i w (and-second (is_even cs ns l) (is_even_term cs ns i) h) r in ap (λ o. is_some o && inline.is_static cs ms l) v.1 ∙ ih e
