-- Turns, from one on.
use Rattle.std.proofs.Common.{◌≡◌, refl, sym, ap, ◌∙◌, arith, ℕ, zero, suc, ◌-◌, ◌<◌, Bool, true, false, not, nat_eq, List, [], ◌∷◌, ◌++◌, map, Option, Some, None, option_map, unwrap_or}
use Rattle.std.proofs.lemmas.Bool.Decides.{nat_tests}
use Rattle.scc_bits_kinds.specs.declared.kind.Word.{Word}
use Rattle.scc_core_spec.specs.Counted.{Counter, Turn, Turning, Turns, counter, counting, ended, enough_turns, if_goes, no_turns, one_more, turns_by, turns_from}
use Rattle.scc_core_spec.specs.Term.{Term}
use Rattle.scc_core_spec.specs.Static.{Cells, goes, is_true, static}
use Rattle.scc_unroll.specs.declared.turns.Turn.{Turn as HeldTurn}
use Rattle.scc_unroll.specs.declared.turns.Turns.{Turns as HeldTurns}
use Rattle.scc_unroll.specs.Turns.{going_by, put, turn_of, turns_of, went}

pub word_is_true : (w : ℕ) → not (nat_eq w 0) ≡ is_true w
word_is_true zero = refl
word_is_true (suc w) = let p : nat_eq (suc w) 0 ≡ false = grind (arith, nat_tests) in ap not p

module _ (cs : Cells) (ns : List Counter) (n : ℕ) (t : Turning) (x : ℕ) where
  abbrev behind_it : Option ℕ
  behind_it = static cs (counting (counter n x ∷ ns) t.step)

  abbrev so : ℕ → Option Bool → Turns
  so left g = if_goes g (λ _. one_more x behind_it (turns_from cs ns n t left behind_it))

  -- by what the code finds
  pub turn_is : (left : ℕ) (on : Option Bool) (now : Word) (next : Option Word) → now.bits ≡ x → goes cs (counting (counter n x ∷ ns) t.test) ≡ on → behind_it ≡ option_map (λ w. w.bits) next
      → turns_from cs ns n t (suc left) (Some x) ≡ went (going_by on now next) (turns_from cs ns n t left)
  turn_is left None now next w h e = ap (so left) h
  turn_is left (Some false) now next w h e = ap (so left) h
  turn_is left (Some true) now next w h e = ap (so left) h ∙ ap (λ z. one_more x z (turns_from cs ns n t left z)) e ∙ ap (λ z. one_more z (option_map (λ w. w.bits) next) (turns_from cs ns n t left (option_map (λ w. w.bits) next))) (sym w)

append_assoc : {A : Type 0} (xs ys zs : List A) → (xs ++ ys) ++ zs ≡ xs ++ (ys ++ zs)
append_assoc [] ys zs = refl
append_assoc (x ∷ xs) ys zs = ap (λ l. x ∷ l) (append_assoc xs ys zs)

map_one : (ts : List HeldTurn) (t : HeldTurn) → map turn_of (ts ++ t ∷ []) ≡ map turn_of ts ++ turn_of t ∷ []
map_one [] t = refl
map_one (x ∷ ts) t = ap (λ l. turn_of x ∷ l) (map_one ts t)

-- one more of them
pub put_one : (ts us : List HeldTurn) (t : HeldTurn) (next : Option ℕ) (more : Turns) → us ≡ ts ++ t ∷ [] → t.next.bits ≡ unwrap_or next 0
    → put (map turn_of us) more ≡ put (map turn_of ts) (one_more t.now.bits next more)
put_one ts us t next more e h =
    ap (λ l. put l more) (ap (map turn_of) e ∙ map_one ts t)
    ∙ ap (λ l. record { list = l; ends = more.ends }) (append_assoc (map turn_of ts) (turn_of t ∷ []) more.list)
    ∙ ap (λ k. record { list = map turn_of ts ++ record { now = t.now.bits; next = k } ∷ more.list; ends = more.ends }) h

no_more : {A : Type 0} (xs : List A) → xs ++ [] ≡ xs
no_more [] = refl
no_more (x ∷ xs) = ap (λ l. x ∷ l) (no_more xs)

put_front : (ts : Turns) → put [] ts ≡ ts
put_front ts = refl

-- before the first turn
pub put_first : (cs : Cells) (ns : List Counter) (n : ℕ) (t : Turning) (start : Term) (us : List HeldTurn) (x : Option ℕ) → us ≡ [] → x ≡ static cs (counting ns start)
    → put (map turn_of us) (turns_from cs ns n t enough_turns x) ≡ turns_by cs ns n start (Some t)
put_first cs ns n t start us x e h =
    ap (λ l. put (map turn_of l) (turns_from cs ns n t enough_turns x)) e ∙ put_front (turns_from cs ns n t enough_turns x) ∙ ap (turns_from cs ns n t enough_turns) h

pub put_none : (xs : List Turn) (b : Bool) → record { list = xs; ends = b } ≡ put xs (no_turns b)
put_none xs b = ap (λ l. record { list = l; ends = b }) (sym (no_more xs))

pub one_less : (k : ℕ) → 0 < k → k ≡ suc (k - 1)
one_less k h = omega arith

-- ---- turns that come to an end

pub ends_so : (n : ℕ) (us : HeldTurns) (ts : Turns) → turns_of us ≡ ts → us.ends ≡ true
    → Some (record { cell = n; turns = record { list = map turn_of us.list; ends = true } }) ≡ ended (Some (record { cell = n; turns = ts }))
ends_so n us ts e h = by us.ends h ∙ ap (λ ts. ended (Some (record { cell = n; turns = ts }))) e
  where
    by : (b : Bool) → b ≡ true → Some (record { cell = n; turns = record { list = map turn_of us.list; ends = true } }) ≡ ended (Some (record { cell = n; turns = record { list = map turn_of us.list; ends = b } }))
    by true h = refl
    by false h = absurd (cc h)

pub goes_on_so : (n : ℕ) (us : HeldTurns) (ts : Turns) → turns_of us ≡ ts → us.ends ≡ false → None ≡ ended (Some (record { cell = n; turns = ts }))
goes_on_so n us ts e h = by us.ends h ∙ ap (λ ts. ended (Some (record { cell = n; turns = ts }))) e
  where
    by : (b : Bool) → b ≡ false → None ≡ ended (Some (record { cell = n; turns = record { list = map turn_of us.list; ends = b } }))
    by true h = absurd (cc h)
    by false h = refl
